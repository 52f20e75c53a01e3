use Rattle.std.proofs.Common.{sym, ap, ◌∙◌, arith, get_or, false}
use Rattle.aria_bitmap.specs.Pattern.{pattern}
use Rattle.aria_bitmap.proofs.Runs.{no_promise, promises_as}
use Rattle.aria_bitmap.proofs.search.find_room.Goals as goal
use Rattle.aria_page.specs.Page.{page_body}

pub returns-then-nth-eq-PATTERNS : goal.returns-then-nth-eq-PATTERNS
returns-then-nth-eq-PATTERNS c = λ m lt.
    no_promise c.room-room.result c.args.tail c.args.bytes c.room-room.ensures c.body.result.now (page_body c.args.bitmap.now) c.body.ensures.value
    c.first_sought-nth.result c.first_sought-nth.ensures.before m (omega arith)

pub returns-else-nth-eq-PATTERNS : goal.returns-else-nth-eq-PATTERNS
returns-else-nth-eq-PATTERNS c = (
  omega arith,
  promises_as c.room-room.result c.args.tail c.args.bytes c.room-room.ensures (page_body c.args.bitmap.now) c.first_sought-nth.result
      ∙ ap (λ l. get_or c.room-room.result (pattern l c.first_sought-nth.result) false) (sym c.body.ensures.value)
      ∙ c.first_sought-nth.ensures.found (omega arith),
  no_promise c.room-room.result c.args.tail c.args.bytes c.room-room.ensures c.body.result.now (page_body c.args.bitmap.now) c.body.ensures.value
      c.first_sought-nth.result c.first_sought-nth.ensures.before,
)

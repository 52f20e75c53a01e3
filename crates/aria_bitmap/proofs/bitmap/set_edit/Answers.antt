use Rattle.std.proofs.Common.{sym}
use Rattle.aria_page.specs.Edit.{edited}
use Rattle.aria_bitmap.proofs.bitmap.set_edit.Goals as goal

pub returns-clause-sets : goal.returns-clause-sets
unfolding edited
returns-clause-sets c = rw (c.in_ok-from_slice.ensures, c.place.ensures, sym c.body.ensures.value) c.changed-bytes.ensures.sets

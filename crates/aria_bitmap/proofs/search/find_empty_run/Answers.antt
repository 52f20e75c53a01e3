use Rattle.std.proofs.Common.{arith}
use Rattle.aria_page.specs.Page.{page_body}
use Rattle.aria_bitmap.proofs.Runs.{run_found, no_run_before, no_run_left}
use Rattle.aria_bitmap.proofs.search.find_empty_run.Goals as goal

pub returns-then-end-from : goal.returns-then-end-from
returns-then-end-from c = (
  c.loop-from-test.true,
  run_found c.new-used.result c.new-used.ensures c.body-body.result.now (page_body c.args.bitmap.now) c.body-body.ensures.value c.args.pages c.loop-from.from c.first_sought-end.result
      (omega arith) (omega arith) c.first_sought-end.ensures.before,
  c.loop-from.invariant.1,
)

pub loop-from-preserved : goal.loop-from-preserved
loop-from-preserved c = (
  omega arith,
  no_run_before c.new-free.result c.new-used.result c.new-free.ensures c.new-used.ensures c.body-body.result.now (page_body c.args.bitmap.now) c.body-body.ensures.value c.args.pages c.loop-from.from c.first_sought-end.result c.first_sought-from.result
      c.loop-from.invariant.1 (omega arith) (omega arith) (c.first_sought-end.ensures.found (omega arith)) c.first_sought-from.ensures.before,
)

pub returns-else-pages-from : goal.returns-else-pages-from
returns-else-pages-from c = λ m lt.
    no_run_left (page_body c.args.bitmap.now) c.args.pages c.loop-from.from c.loop-from.invariant.1 (omega arith) m

pub returns-after-loop-from : goal.returns-after-loop-from
returns-after-loop-from c = λ m lt. c.loop-from.invariant.1 m (omega arith)

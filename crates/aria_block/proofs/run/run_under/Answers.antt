use Rattle.std.proofs.Common.{arith}
use Rattle.aria_page.specs.Page.{page_body}
use Rattle.aria_block.proofs.Running.{no_run_under, no_run_behind}
use Rattle.aria_block.proofs.run.run_under.Goals as goal

pub returns-in-None-clause-finds : goal.returns-in-None-clause-finds
returns-in-None-clause-finds c = no_run_under (page_body c.args.map.now) c.args.n c.args.count c.args.at (rw c.in-None.is at c.find_empty_run.ensures)

pub returns-then-page-n-clause-finds : goal.returns-then-page-n-clause-finds
returns-then-page-n-clause-finds c =
    no_run_behind (page_body c.args.map.now) c.args.n c.args.count c.args.at c.in-Some.nth c.requires.at (rw c.in-Some.is at c.find_empty_run.ensures) (omega (arith, c.if-page-n.true))

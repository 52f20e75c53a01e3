use Rattle.std.proofs.Common.{rules, ◌≡◌, ◌+◌, ◌≤◌, ℕ, Option, Some, None, subst}
use Rattle.std.specs.Prelude.{IfSome}
use Rattle.aria_cache.specs.PageState.{PageState}
use Rattle.aria_block.specs.Causes.{rows_file}
use Rattle.aria_block.specs.DataFile.{map_of}
use Rattle.aria_block.specs.Runs.{FindsRun, IsUnderOne}
use Rattle.aria_block.proofs.Running.{found_run}
use Rattle.aria_block.proofs.run.find_run.Goals as goal
use Rattle.aria_block.proofs.run.find_run.Goals.{then-loop-found-test+else-at-count, else-loop-found-test}

under : (o : Option ℕ) (n count at : ℕ) → IfSome o (λ page. (page + n ≤ count) × (map_of page ≡ at) × IsUnderOne n page) → IfSome o (λ page. map_of page ≡ at)
under None n count at is = tt
under (Some page) n count at is = is.1

pub returns-clause-found : goal.returns-clause-found
returns-clause-found g c = λ told.
    let old : PageState = g.P.Pages.state c.args.pages.now in
    let inv = c.loop-found.invariant in
    let count : c.count-count.result ≡ old.counts (rows_file old c.args.slot) = c.count-count.ensures.count in
    let last : c.loop-found.found ≡ None → c.count-count.result ≤ c.loop-found.at + 21809 = λ none. elim c.loop-found-test.branch [
      | then-loop-found-test+else-at-count w ↦ w.if-at-count.false
      | else-loop-found-test w ↦ absurd (search (rules, w.loop-found-test.false, none, c.is_none.ensures))
    ] in
    subst (λ (k : ℕ). FindsRun c.args.n k (old.bodies (rows_file old c.args.slot)) c.loop-found.found) count
    (found_run c.args.n c.count-count.result c.loop-found.at (old.bodies (rows_file old c.args.slot)) c.loop-found.found inv.even (inv.before told) (inv.here told) (under c.loop-found.found c.args.n c.count-count.result c.loop-found.at inv.range) last)

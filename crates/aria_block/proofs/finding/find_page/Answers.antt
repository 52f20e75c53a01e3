use Rattle.std.proofs.Common.{rules, ◌≡◌, ◌+◌, ◌≤◌, ◌<◌, ◌≢◌, ◌%◌, ℕ, Option, Some, None, subst}
use Rattle.std.specs.Prelude.{IfSome}
use Rattle.aria_cache.specs.PageState.{PageState}
use Rattle.aria_block.specs.Causes.{rows_file}
use Rattle.aria_block.specs.DataFile.{map_of}
use Rattle.aria_block.specs.Finding.{FindsPage}
use Rattle.aria_block.proofs.Looking.{found_page}
use Rattle.aria_block.proofs.finding.find_page.Goals as goal
use Rattle.aria_block.proofs.finding.find_page.Goals.{then-loop-found-test+else-at-count, else-loop-found-test}

third : (o : Option ℕ) (count at : ℕ) → IfSome o (λ n. (n % 21809 ≢ 0) × (n < count) × (map_of n ≡ at)) → IfSome o (λ n. map_of n ≡ at)
third None count at is = tt
third (Some n) count at is = is.2

pub returns-clause-found : goal.returns-clause-found
returns-clause-found g c = λ told.
    let old : PageState = g.P.Pages.state c.args.pages.now in
    let inv = c.loop-found.invariant in
    let count : c.count-count.result ≡ old.counts (rows_file old c.args.slot) = c.count-count.ensures.count in
    let last : c.loop-found.found ≡ None → c.count-count.result ≤ c.loop-found.at + 21809 = λ none. elim c.loop-found-test.branch [
      | then-loop-found-test+else-at-count w ↦ w.if-at-count.false
      | else-loop-found-test w ↦ absurd (search (rules, w.loop-found-test.false, none, c.is_none.ensures))
    ] in
    subst (λ (n : ℕ). FindsPage c.args.kind c.args.len n (old.bodies (rows_file old c.args.slot)) c.loop-found.found) count
    (found_page c.args.kind c.args.len c.count-count.result c.loop-found.at (old.bodies (rows_file old c.args.slot)) c.loop-found.found inv.even (inv.before told) (inv.here told) (third c.loop-found.found c.count-count.result c.loop-found.at inv.range) last)

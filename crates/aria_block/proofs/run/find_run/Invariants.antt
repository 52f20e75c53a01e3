use Rattle.std.proofs.Common.{◌≡◌, ◌+◌, ◌-◌, ◌%◌, ◌<◌, ◌≤◌, ℕ, List, Some, None}
use Rattle.std.specs.Prelude.{IsTrue, IfSome}
use Rattle.aria_cache.specs.Calls.{Answers}
use Rattle.aria_cache.specs.Causes.{HasPagesCause}
use Rattle.aria_block.specs.Causes.{rows_file, OfFile}
use Rattle.aria_block.specs.DataFile.{map_of}
use Rattle.aria_block.specs.Finding.{Looks}
use Rattle.aria_block.specs.Runs.{FindsRunUnder, NoRunBefore, IsUnderOne}
use Rattle.aria_block.proofs.run.find_run.Given as goal

-- the last answer is that of the bitmap page here, and those before promise no such pages
abbrev pub invariant-loop-found : goal.invariant-loop-found
invariant-loop-found g l = record {
  stands : g.P.Pages.stands l.pages;
  moves : g.P.Pages.stays l.fn.pages l.pages;
  looks : Looks g.P.Pages.tells (g.P.Pages.state l.fn.pages) (g.P.Pages.state l.pages);
  even : l.at % 21809 ≡ 0;
  low : l.at < l.count;
  before : IsTrue g.P.Pages.tells → NoRunBefore l.n l.count ((g.P.Pages.state l.fn.pages).bodies (rows_file (g.P.Pages.state l.fn.pages) l.slot)) l.at;
  here : IsTrue g.P.Pages.tells → (map : List ℕ) → (g.P.Pages.state l.fn.pages).bodies (rows_file (g.P.Pages.state l.fn.pages) l.slot) l.at ≡ Some map → FindsRunUnder l.n l.count l.at map l.found;
  range : IfSome l.found (λ page. (page + l.n ≤ l.count) × (map_of page ≡ l.at) × IsUnderOne l.n page);
  answers : Answers (g.P.Pages.state l.fn.pages) (g.P.Pages.state l.pages) None;
  cause : HasPagesCause (OfFile g.P.Pages.tells g.P.Pages.logged (rows_file (g.P.Pages.state l.fn.pages) l.slot) (g.P.Pages.state l.fn.pages) (g.P.Pages.state l.pages)) (g.P.Pages.state l.fn.pages) (g.P.Pages.state l.pages) None;
}

abbrev pub decreases-loop-found : goal.decreases-loop-found
decreases-loop-found g l = l.count - l.at

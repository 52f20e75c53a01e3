use Rattle.std.proofs.Common.{◌≡◌, ◌+◌, ◌-◌, ◌*◌, ◌≤◌, true, None}
use Rattle.std.specs.Prelude.{IsTrue}
use Rattle.aria_cache.specs.Calls.{Answers, SameSlots, SameLog, StaysIn, Grows}
use Rattle.aria_cache.specs.Causes.{HasPagesCause}
use Rattle.aria_block.specs.Causes.{rows_file, OfFile, KeepsSound}
use Rattle.aria_block.specs.Pieces.{Pieces}
use Rattle.aria_block.specs.DataFile.{HoldsData}
use Rattle.aria_block.proofs.lengthening.add_run.Given as goal

-- the file has so many pages, and holds what it held
abbrev pub invariant-loop-at : goal.invariant-loop-at
invariant-loop-at g l = record {
  stands : g.P.Pages.stands l.pages;
  moves : g.P.Pages.stays l.fn.pages l.pages;
  slots : SameSlots (g.P.Pages.state l.fn.pages) (g.P.Pages.state l.pages);
  log : SameLog (g.P.Pages.state l.fn.pages) (g.P.Pages.state l.pages);
  in_group : (g.P.Pages.state l.pages).in_group ≡ true;
  touched : (g.P.Pages.state l.pages).touched + l.count ≤ (g.P.Pages.state l.fn.pages).touched + l.at;
  made : (g.P.Pages.state l.pages).made + l.count ≤ (g.P.Pages.state l.fn.pages).made + l.at;
  bytes : (g.P.Pages.state l.pages).bytes + 82 * l.count ≤ (g.P.Pages.state l.fn.pages).bytes + 82 * l.at;
  low : l.at ≤ l.first + l.n;
  from : l.count ≤ l.at;
  count : (g.P.Pages.state l.pages).counts (rows_file (g.P.Pages.state l.fn.pages) l.slot) ≡ l.at;
  holds : IsTrue g.P.Pages.tells → (pieces : Pieces) → HoldsData ((g.P.Pages.state l.fn.pages).counts (rows_file (g.P.Pages.state l.fn.pages) l.slot)) ((g.P.Pages.state l.fn.pages).bodies (rows_file (g.P.Pages.state l.fn.pages) l.slot)) pieces
      → HoldsData ((g.P.Pages.state l.pages).counts (rows_file (g.P.Pages.state l.fn.pages) l.slot)) ((g.P.Pages.state l.pages).bodies (rows_file (g.P.Pages.state l.fn.pages) l.slot)) pieces;
  inside : IsTrue g.P.Pages.tells → StaysIn g.P.Pages.logged (rows_file (g.P.Pages.state l.fn.pages) l.slot) (g.P.Pages.state l.fn.pages) (g.P.Pages.state l.pages);
  grows : Grows (g.P.Pages.state l.fn.pages) (g.P.Pages.state l.pages);
  keeps : KeepsSound g.P.Pages.tells (rows_file (g.P.Pages.state l.fn.pages) l.slot) (g.P.Pages.state l.fn.pages) (g.P.Pages.state l.pages);
  answers : Answers (g.P.Pages.state l.fn.pages) (g.P.Pages.state l.pages) None;
  cause : HasPagesCause (OfFile g.P.Pages.tells g.P.Pages.logged (rows_file (g.P.Pages.state l.fn.pages) l.slot) (g.P.Pages.state l.fn.pages) (g.P.Pages.state l.pages)) (g.P.Pages.state l.fn.pages) (g.P.Pages.state l.pages) None;
}

abbrev pub decreases-loop-at : goal.decreases-loop-at
decreases-loop-at g l = l.first + l.n - l.at

use Rattle.std.proofs.Common.{◌≡◌, ◌+◌, ◌-◌, ◌*◌, ◌≤◌, true, None, length}
use Rattle.std.specs.Prelude.{IsTrue}
use Rattle.aria_cache.specs.Calls.{Answers, SameSlots, SameLog, StaysIn}
use Rattle.aria_cache.specs.Causes.{HasPagesCause}
use Rattle.aria_block.specs.Causes.{rows_file, OfFile, KeepsSound}
use Rattle.aria_block.specs.Pieces.{Pieces, blob_count}
use Rattle.aria_block.specs.DataFile.{HoldsData}
use Rattle.aria_block.specs.Runs.{AreFree}
use Rattle.aria_block.specs.Storing.{with_blobs}
use Rattle.aria_block.proofs.blob_run.place_blobs.Given as goal

-- so many of the row's blob pages are written
abbrev pub invariant-loop-nth : goal.invariant-loop-nth
invariant-loop-nth g l = record {
  stands : g.P.Pages.stands l.pages;
  moves : g.P.Pages.stays l.fn.pages l.pages;
  slots : SameSlots (g.P.Pages.state l.fn.pages) (g.P.Pages.state l.pages);
  log : SameLog (g.P.Pages.state l.fn.pages) (g.P.Pages.state l.pages);
  in_group : (g.P.Pages.state l.pages).in_group ≡ true;
  touched : (g.P.Pages.state l.pages).touched ≤ (g.P.Pages.state l.fn.pages).touched + 2 * l.nth;
  made : (g.P.Pages.state l.pages).made ≤ (g.P.Pages.state l.fn.pages).made + 3 * l.nth;
  bytes : (g.P.Pages.state l.pages).bytes ≤ (g.P.Pages.state l.fn.pages).bytes + 8351 * l.nth;
  low : l.nth ≤ l.n;
  holds : IsTrue g.P.Pages.tells → (pieces : Pieces) → HoldsData ((g.P.Pages.state l.fn.pages).counts (rows_file (g.P.Pages.state l.fn.pages) l.slot)) ((g.P.Pages.state l.fn.pages).bodies (rows_file (g.P.Pages.state l.fn.pages) l.slot)) pieces → AreFree (blob_count (length l.row)) l.first pieces
      → HoldsData ((g.P.Pages.state l.fn.pages).counts (rows_file (g.P.Pages.state l.fn.pages) l.slot)) ((g.P.Pages.state l.pages).bodies (rows_file (g.P.Pages.state l.fn.pages) l.slot)) (with_blobs l.first l.nth l.row pieces);
  inside : IsTrue g.P.Pages.tells → StaysIn g.P.Pages.logged (rows_file (g.P.Pages.state l.fn.pages) l.slot) (g.P.Pages.state l.fn.pages) (g.P.Pages.state l.pages);
  counts : (g.P.Pages.state l.pages).counts ≡ (g.P.Pages.state l.fn.pages).counts;
  keeps : KeepsSound g.P.Pages.tells (rows_file (g.P.Pages.state l.fn.pages) l.slot) (g.P.Pages.state l.fn.pages) (g.P.Pages.state l.pages);
  answers : Answers (g.P.Pages.state l.fn.pages) (g.P.Pages.state l.pages) None;
  cause : HasPagesCause (OfFile g.P.Pages.tells g.P.Pages.logged (rows_file (g.P.Pages.state l.fn.pages) l.slot) (g.P.Pages.state l.fn.pages) (g.P.Pages.state l.pages)) (g.P.Pages.state l.fn.pages) (g.P.Pages.state l.pages) None;
}

abbrev pub decreases-loop-nth : goal.decreases-loop-nth
decreases-loop-nth g l = l.n - l.nth

use Rattle.std.proofs.Common.{◌≡◌, ◌+◌, ◌-◌, ◌*◌, ℕ, List, None, length, take}
use Rattle.std.specs.Prelude.{IsTrue}
use Rattle.aria_cache.specs.Calls.{Answers, Loads}
use Rattle.aria_cache.specs.Causes.{HasPagesCause}
use Rattle.aria_block.specs.Causes.{rows_file}
use Rattle.aria_block.specs.Pieces.{Pieces, head_size, tail_size}
use Rattle.aria_block.specs.DataFile.{HoldsData}
use Rattle.aria_block.specs.Reading.{HasBlobs, HasAllBlobs, OfPieces}
use Rattle.aria_block.proofs.row_reading.read_blobs.Given as goal

-- the bytes of the blob pages so far were added
abbrev pub invariant-loop-k : goal.invariant-loop-k
invariant-loop-k g l = record {
  stands : g.P.Pages.stands l.pages;
  moves : g.P.Pages.stays l.fn.pages l.pages;
  loads : Loads g.P.Pages.tells l.k (g.P.Pages.state l.fn.pages) (g.P.Pages.state l.pages);
  text : IsTrue g.P.Pages.tells → (pieces : Pieces) (row : List ℕ) → HoldsData ((g.P.Pages.state l.fn.pages).counts (rows_file (g.P.Pages.state l.fn.pages) l.slot)) ((g.P.Pages.state l.fn.pages).bodies (rows_file (g.P.Pages.state l.fn.pages) l.slot)) pieces
      → HasBlobs l.head row pieces → l.fn.out ≡ take (head_size (length row)) row → l.out ≡ take (head_size (length row) + 8180 * l.k) (take (length row - tail_size (length row)) row);
  answers : Answers (g.P.Pages.state l.fn.pages) (g.P.Pages.state l.pages) None;
  cause : HasPagesCause (OfPieces g.P.Pages.tells g.P.Pages.logged (HasAllBlobs l.head) (rows_file (g.P.Pages.state l.fn.pages) l.slot) (g.P.Pages.state l.fn.pages) (g.P.Pages.state l.pages)) (g.P.Pages.state l.fn.pages) (g.P.Pages.state l.pages) None;
}

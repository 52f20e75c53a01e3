use Rattle.std.proofs.Common.{◌≡◌, ◌⊎◌, ℕ, List, length, sym, subst}
use Rattle.aria_host.specs.declared.file_name.FileName.{FileName}
use Rattle.aria_cache.specs.PageState.{PageState, Counts}
use Rattle.aria_block.specs.Causes.{rows_file}
use Rattle.aria_block.specs.Pieces.{Pieces, blob_count}
use Rattle.aria_block.specs.DataFile.{HoldsData}
use Rattle.aria_block.specs.Runs.{AreFree, NoRunBefore, GrowsForRun}
use Rattle.aria_block.specs.Storing.{with_blobs}
use Rattle.aria_block.proofs.Stepping.{same_rows}
use Rattle.aria_block.proofs.blob_run.insert_blobs.Goals as goal

pub returns-clause-holds : goal.returns-clause-holds
returns-clause-holds g c = λ told pieces holds.
    let old : PageState = g.P.Pages.state c.args.pages.now in
    let mid : PageState = g.P.Pages.state c.run_for.new.pages in
    let new : PageState = g.P.Pages.state c.place_blobs.new.pages in
    let file : FileName = rows_file old c.args.slot in
    let row : List ℕ = c.args.row.now in
    let n : ℕ = blob_count (length row) in
    let same : rows_file mid c.args.slot ≡ file = same_rows c.args.slot old mid c.in_ok-first.ensures.slots in
    let are : AreFree n c.in_ok-first.first pieces = subst (λ (k : ℕ). AreFree k c.in_ok-first.first pieces) c.blob_count.ensures.is (c.in_ok-first.ensures.free told pieces holds) in
    let here : HoldsData (mid.counts (rows_file mid c.args.slot)) (mid.bodies (rows_file mid c.args.slot)) pieces =
    subst (λ (f : FileName). HoldsData (mid.counts f) (mid.bodies f) pieces) (sym same) (c.in_ok-first.ensures.holds told pieces holds) in
    let with_all : Pieces = with_blobs c.in_ok-first.first n row pieces in
    record {
      free = are;
      data_file = subst (λ (k : Counts). HoldsData (k file) (new.bodies file) with_all) (sym c.in_ok-place_blobs.ensures.counts)
          (subst (λ (f : FileName). HoldsData (mid.counts f) (new.bodies f) with_all) same (c.in_ok-place_blobs.ensures.holds told pieces here are));
    }

pub returns-clause-needed : goal.returns-clause-needed
returns-clause-needed g c = λ told.
    let old : PageState = g.P.Pages.state c.args.pages.now in
    let mid : PageState = g.P.Pages.state c.run_for.new.pages in
    let file : FileName = rows_file old c.args.slot in
    let n : ℕ = blob_count (length c.args.row.now) in
    let grown : GrowsForRun n file old mid = subst (λ (k : ℕ). GrowsForRun k file old mid) c.blob_count.ensures.is (c.in_ok-first.ensures.needed told) in
    subst (λ (k : Counts). (k file ≡ old.counts file) ⊎ NoRunBefore n (old.counts file) (old.bodies file) (old.counts file)) (sym c.in_ok-place_blobs.ensures.counts) grown

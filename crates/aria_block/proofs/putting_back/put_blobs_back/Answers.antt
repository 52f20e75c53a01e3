use Rattle.std.proofs.Common.{◌≡◌, ℕ, Some, List, length, refl, sym, subst}
use Rattle.std.specs.Prelude.{OnOk}
use Rattle.aria_host.specs.declared.file_name.FileName.{FileName}
use Rattle.aria_cache.specs.PageState.{PageState, Bodies}
use Rattle.aria_bitmap.specs.Promise.{IsFreeRun}
use Rattle.aria_block.specs.Causes.{rows_file}
use Rattle.aria_block.specs.Pieces.{blob_count}
use Rattle.aria_block.specs.DataFile.{HoldsData, map_of, nth_of}
use Rattle.aria_block.specs.Reading.{OfPieces}
use Rattle.aria_block.specs.Runs.{AreFree}
use Rattle.aria_block.specs.Storing.{with_blobs}
use Rattle.aria_block.proofs.Deleted.{cause_past}
use Rattle.aria_block.proofs.Freeing.{run_free, free_run}
use Rattle.aria_block.proofs.PartsBack.{blobs_back}
use Rattle.aria_block.proofs.Stepping.{same_rows, moved}
use Rattle.aria_block.proofs.putting_back.put_blobs_back.Goals as goal

pub returns-then-not-branch-clause-cause : goal.returns-then-not-branch-clause-cause
returns-then-not-branch-clause-cause g c =
    let old : PageState = g.P.Pages.state c.args.pages.now in
    let mid : PageState = g.P.Pages.state c.run_is_free.new.pages in
    let new : PageState = g.P.Pages.state c.stop.new.self in
    let file : FileName = rows_file old c.args.slot in
    let n : ℕ = blob_count (length c.args.row.now) in
    cause_past (OfPieces g.P.Pages.tells g.P.Pages.logged (AreFree n c.args.first) file old new) old mid new _ c.stop.result c.in_ok-run_is_free.ensures.answers.keeps (c.in_ok-run_is_free.ensures.cause.calm refl) c.stop.ensures.fault c.stop.ensures.stops (
      c.file-file.ensures,
      λ told pieces holds are.
          let used = rw c.if-not-branch.true at (c.in_ok-run_is_free.ensures.found told (holds.body (map_of c.args.first)) (holds.sound (map_of c.args.first))) in
          let run : IsFreeRun (holds.body (map_of c.args.first)) n (nth_of c.args.first) = free_run (old.counts file) (old.bodies file) pieces holds n c.args.first c.requires.run.under are in
          used (subst (λ (k : ℕ). IsFreeRun (holds.body (map_of c.args.first)) k (nth_of c.args.first)) (sym c.blob_count.ensures.is) run),
    )

pub returns-clause-holds : goal.returns-clause-holds
returns-clause-holds g c = λ told pieces holds.
    let old : PageState = g.P.Pages.state c.args.pages.now in
    let mid : PageState = g.P.Pages.state c.run_is_free.new.pages in
    let new : PageState = g.P.Pages.state c.place_blobs.new.pages in
    let file : FileName = rows_file old c.args.slot in
    let row : List ℕ = c.args.row.now in
    let n : ℕ = blob_count (length row) in
    let looks = c.in_ok-run_is_free.ensures.looks in
    let same : rows_file mid c.args.slot ≡ file = same_rows c.args.slot old mid looks.slots in
    let found : (map : List ℕ) → old.bodies file (map_of c.args.first) ≡ Some map → IsFreeRun map n (nth_of c.args.first) = λ map is.
    subst (λ (k : ℕ). IsFreeRun map k (nth_of c.args.first)) c.blob_count.ensures.is (rw c.if-not-branch.false at (c.in_ok-run_is_free.ensures.found told map is)) in
    let are : AreFree n c.args.first pieces = run_free (old.counts file) (old.bodies file) pieces holds n c.args.first c.requires.run.under found in
    let here : HoldsData (mid.counts (rows_file mid c.args.slot)) (mid.bodies (rows_file mid c.args.slot)) pieces =
    moved c.args.slot old mid mid same looks.counts (λ k b. HoldsData k b pieces) (subst (λ (b : Bodies). HoldsData (old.counts file) (b file) pieces) (sym (looks.bodies told)) holds) in
    blobs_back c.place_blobs.result row c.args.first (old.counts file) (new.bodies file) pieces are
    (moved c.args.slot mid old new (sym same) (sym looks.counts) (λ k b. OnOk c.place_blobs.result (HoldsData k b (with_blobs c.args.first n row pieces))) (c.place_blobs.ensures.holds told pieces here are))

use Rattle.std.proofs.Common.{◌≡◌, ℕ, ◌+◌, None, List, length, sym, ◌∙◌, arith, subst}
use Rattle.aria_host.specs.declared.file_name.FileName.{FileName}
use Rattle.aria_cache.specs.PageState.{PageState, Counts}
use Rattle.aria_cache.specs.Calls.{StaysIn}
use Rattle.aria_cache.specs.Causes.{HasPagesCause}
use Rattle.aria_cache.proofs.Growing.{stays_on}
use Rattle.aria_block.specs.Causes.{rows_file, OfFile, KeepsSound}
use Rattle.aria_block.specs.Pieces.{Pieces, blob_count}
use Rattle.aria_block.specs.Blob.{blob_pieces}
use Rattle.aria_block.specs.DataFile.{HoldsData, on_page}
use Rattle.aria_block.specs.Storing.{with_blobs}
use Rattle.aria_block.proofs.Causing.{keeps_on, cause_then}
use Rattle.aria_block.proofs.Sizes.{LongRow, long_row}
use Rattle.aria_block.proofs.Stepping.{same_rows, slots_on, log_on, answers_on}
use Rattle.aria_block.proofs.Stored.{blobs_begin, blobs_more}
use Rattle.aria_block.proofs.blob_run.place_blobs.Goals as goal

pub loop-nth-init : goal.loop-nth-init
loop-nth-init g c =
    let old : PageState = g.P.Pages.state c.args.pages.now in
    let new : PageState = g.P.Pages.state c.place_blob.new.pages in
    let file : FileName = rows_file old c.args.slot in
    let row : List ℕ = c.args.row.now in
    let sizes : LongRow (length row) = long_row (length row) c.requires.long c.requires.few in
    let first = c.in_ok-place_blob.ensures in
    record {
      stands = first.stands;
      moves = first.moves;
      slots = first.slots;
      log = first.log;
      in_group = first.in_group;
      touched = omega (arith, first.spends.touched);
      made = omega (arith, first.spends.made);
      bytes = omega (arith, first.spends.bytes, c.blob_bytes.ensures.few);
      low = omega (arith, sizes.some, c.blob_count-n.ensures.is);
      holds = λ told pieces holds are. blobs_begin (old.counts file) (new.bodies file) c.args.first (blob_count (length row)) row c.blob_bytes.result.now pieces are (omega (arith, sizes.some)) c.blob_bytes.ensures.is (first.holds told pieces holds);
      inside = first.inside;
      counts = first.counts;
      keeps = first.keeps;
      answers = first.answers;
      cause = first.cause;
    }

pub loop-nth-preserved : goal.loop-nth-preserved
loop-nth-preserved g c =
    let old : PageState = g.P.Pages.state c.args.pages.now in
    let now : PageState = g.P.Pages.state c.loop-nth.pages in
    let new : PageState = g.P.Pages.state c.place_blob-in-loop-nth.new.pages in
    let file : FileName = rows_file old c.args.slot in
    let row : List ℕ = c.args.row.now in
    let was = c.loop-nth.invariant in
    let next = c.in_ok-place_blob-2.ensures in
    let same : rows_file now c.args.slot ≡ file = same_rows c.args.slot old now was.slots in
    record {
      stands = next.stands;
      moves = g.met.P.Pages.stays_on c.args.pages.now c.loop-nth.pages c.place_blob-in-loop-nth.new.pages was.moves next.moves;
      slots = slots_on old now new was.slots next.slots;
      log = log_on old now new was.log next.log;
      in_group = next.in_group;
      touched = omega (arith, was.touched, next.spends.touched);
      made = omega (arith, was.made, next.spends.made);
      bytes = omega (arith, was.bytes, next.spends.bytes, c.blob_bytes-in-loop-nth.ensures.few);
      low = omega (arith, c.loop-nth-test.true);
      holds = λ told pieces holds are.
          let before : Pieces = with_blobs c.args.first c.loop-nth.nth row pieces in
          let here : HoldsData (now.counts (rows_file now c.args.slot)) (now.bodies (rows_file now c.args.slot)) before =
          subst (λ (f : FileName). HoldsData (now.counts f) (now.bodies f) before) (sym same)
          (subst (λ (n : Counts). HoldsData (n file) (now.bodies file) before) (sym was.counts) (was.holds told pieces holds are)) in
          let behind : Pieces = on_page (c.args.first + c.loop-nth.nth) (blob_pieces c.blob_bytes-in-loop-nth.result.now) before in
          let after : HoldsData (now.counts (rows_file now c.args.slot)) (new.bodies (rows_file now c.args.slot)) behind = next.holds told before here in
          blobs_more (old.counts file) (new.bodies file) c.args.first c.loop-nth.nth (blob_count (length row)) row c.blob_bytes-in-loop-nth.result.now pieces are
          (omega (arith, c.loop-nth-test.true, c.blob_count-n.ensures.is)) c.blob_bytes-in-loop-nth.ensures.is
          (subst (λ (n : Counts). HoldsData (n file) (new.bodies file) behind) was.counts
          (subst (λ (f : FileName). HoldsData (now.counts f) (new.bodies f) behind) same after));
      inside = λ told. stays_on g.P.Pages.logged file old now new (was.inside told) (subst (λ (f : FileName). StaysIn g.P.Pages.logged f now new) same (next.inside told));
      counts = next.counts ∙ was.counts;
      keeps = keeps_on g.P.Pages.tells file old now new was.keeps (subst (λ (f : FileName). KeepsSound g.P.Pages.tells f now new) same next.keeps);
      answers = answers_on old now new None was.answers next.answers;
      cause = cause_then g.P.Pages.tells g.P.Pages.logged file old now new None was.keeps was.cause was.answers.keeps
          (subst (λ (f : FileName). HasPagesCause (OfFile g.P.Pages.tells g.P.Pages.logged f now new) now new None) same next.cause);
    }

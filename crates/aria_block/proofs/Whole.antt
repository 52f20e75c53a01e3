-- All pieces of a row, put one after another.
use Rattle.std.proofs.Common.{◌≡◌, ℕ, ◌+◌, ◌≤◌, Bool, Option, None, List, length, refl, sym, ap, ◌∙◌, arith, subst, inl}
use Rattle.std.specs.Prelude.{IsTrue, Result, Ok, Err, IfOk, OnOk}
use Rattle.aria_page.specs.declared.place.Place.{Place}
use Rattle.aria_page.specs.declared.place.Places.{Places}
use Rattle.aria_host.specs.declared.fault.Fault.{Fault}
use Rattle.aria_host.specs.declared.file_name.FileName.{FileName}
use Rattle.aria_cache.specs.PageState.{PageState}
use Rattle.aria_block.specs.declared.part_kind.PartKind.TheVariants as part
use Rattle.aria_block.specs.Pieces.{Pieces, head_size, tail_size, blob_count}
use Rattle.aria_block.specs.Rows.{Rows}
use Rattle.aria_block.specs.DataFile.{HoldsData}
use Rattle.aria_block.specs.HoldsRows.{HoldsRows, PutsRow}
use Rattle.aria_block.specs.Runs.{AreFree, GrowsForRun, GrowsForPart}
use Rattle.aria_block.specs.Storing.{with_blobs, with_tail, BlobsPut, TailPut, HeadPut, RowPut}
use Rattle.aria_block.proofs.Stored.{no_blobs, whole_row, laid, none_before}
use Rattle.aria_block.proofs.Sizes.{short_row}
use Rattle.aria_block.proofs.Tiling.{with_one}

-- for what the file grew, up to the head
pub record GrownFor (row : List ℕ) (file : FileName) (old blobs_put tail_put : PageState) : Type 0 where
  pub for_blobs : GrowsForRun (blob_count (length row)) file old blobs_put
  pub no_blobs : blob_count (length row) ≡ 0 → blobs_put.counts file ≡ old.counts file
  pub for_tail : GrowsForPart part.Tail (tail_size (length row)) file blobs_put tail_put
  pub no_tail : tail_size (length row) ≡ 0 → tail_put.counts file ≡ blobs_put.counts file

row_put : (row : List ℕ) (places : Places) (pieces : Pieces) (file : FileName) (old mid low new : PageState) → places.blobs ≡ blob_count (length row)
    → BlobsPut row places.blob (mid.counts file) (mid.bodies file) pieces → TailPut row places.tail (low.counts file) (low.bodies file) (with_blobs places.blob (blob_count (length row)) row pieces)
    → HeadPut row places (new.counts file) (new.bodies file) (with_tail places.tail row (with_blobs places.blob (blob_count (length row)) row pieces))
    → GrownFor row file old mid low → GrowsForPart part.Head (14 + head_size (length row)) file low new → RowPut row places pieces file old new
row_put row places pieces file old mid low new many blobs tail head grown last =
    let files : HoldsData (mid.counts file) (mid.bodies file) (with_blobs places.blob places.blobs row pieces) =
    subst (λ (n : ℕ). HoldsData (mid.counts file) (mid.bodies file) (with_blobs places.blob n row pieces)) (sym many) blobs.data_file in
    let tails : TailPut row places.tail (low.counts file) (low.bodies file) (with_blobs places.blob places.blobs row pieces) =
    subst (λ (n : ℕ). TailPut row places.tail (low.counts file) (low.bodies file) (with_blobs places.blob n row pieces)) (sym many) tail in
    let heads : HeadPut row places (new.counts file) (new.bodies file) (with_tail places.tail row (with_blobs places.blob places.blobs row pieces)) =
    subst (λ (n : ℕ). HeadPut row places (new.counts file) (new.bodies file) (with_tail places.tail row (with_blobs places.blob n row pieces))) (sym many) head in
    let are : AreFree places.blobs places.blob pieces = subst (λ (n : ℕ). AreFree n places.blob pieces) (sym many) blobs.free in
    record {
      laid = laid row places pieces heads.free tails.free tails.asked many;
      free = none_before row places pieces heads.free tails.free are;
      data_file = subst (HoldsData (new.counts file) (new.bodies file)) (whole_row places row pieces) heads.data_file;
      needed = record {
        blobs_put = mid;
        tail_put = low;
        blobs = files;
        tail = tails.data_file;
        for_blobs = grown.for_blobs;
        no_blobs = grown.no_blobs;
        for_tail = grown.for_tail;
        no_tail = grown.no_tail;
        for_head = last;
      };
    }

pub long_on_ok : (r : Result Places Fault) (row : List ℕ) (blob blobs : ℕ) (tail : Option Place) (pieces : Pieces) (file : FileName) (old mid low new : PageState) → blobs ≡ blob_count (length row)
    → BlobsPut row blob (mid.counts file) (mid.bodies file) pieces → TailPut row tail (low.counts file) (low.bodies file) (with_blobs blob (blob_count (length row)) row pieces) → GrownFor row file old mid low
    → IfOk r (λ places. (places.tail ≡ tail) × (places.blob ≡ blob) × (places.blobs ≡ blobs))
    → IfOk r (λ places. HeadPut row places (new.counts file) (new.bodies file) (with_tail tail row (with_blobs blob (blob_count (length row)) row pieces)))
    → OnOk r (GrowsForPart part.Head (14 + head_size (length row)) file low new) → IfOk r (λ places. RowPut row places pieces file old new)
long_on_ok (Ok places) row blob blobs tail pieces file old mid low new many first behind grown (at_tail, at_blob, is_many) head last =
    row_put row places pieces file old mid low new (is_many ∙ many)
    (subst (λ (b : ℕ). BlobsPut row b (mid.counts file) (mid.bodies file) pieces) (sym at_blob) first)
    (subst (λ (t : Option Place). TailPut row t (low.counts file) (low.bodies file) (with_blobs places.blob (blob_count (length row)) row pieces)) (sym at_tail)
    (subst (λ (b : ℕ). TailPut row tail (low.counts file) (low.bodies file) (with_blobs b (blob_count (length row)) row pieces)) (sym at_blob) behind))
    (subst (λ (t : Option Place). HeadPut row places (new.counts file) (new.bodies file) (with_tail t row (with_blobs places.blob (blob_count (length row)) row pieces))) (sym at_tail)
    (subst (λ (b : ℕ). HeadPut row places (new.counts file) (new.bodies file) (with_tail tail row (with_blobs b (blob_count (length row)) row pieces))) (sym at_blob) head))
    grown last
long_on_ok (Err fault) row blob blobs tail pieces file old mid low new many first behind grown at head last = tt

-- ---- a short row

module _ (row : List ℕ) (short : length row ≤ 5986) (pieces : Pieces) (file : FileName) (old : PageState) (holds : HoldsData (old.counts file) (old.bodies file) pieces) where
  none : blob_count (length row) ≡ 0
  none = (short_row (length row) short).0

  no_tail : tail_size (length row) ≡ 0
  no_tail = (short_row (length row) short).1

  same_pieces : with_blobs 0 (blob_count (length row)) row pieces ≡ pieces
  same_pieces = ap (λ (n : ℕ). with_blobs 0 n row pieces) none ∙ no_blobs 0 row pieces

  -- the pieces before its head
  pub short_holds : HoldsData (old.counts file) (old.bodies file) (with_blobs 0 (blob_count (length row)) row pieces)
  short_holds = subst (HoldsData (old.counts file) (old.bodies file)) (sym same_pieces) holds

  short_blobs : BlobsPut row 0 (old.counts file) (old.bodies file) pieces
  short_blobs = record {
    free = record { free = λ m slot from to. absurd (omega (arith, to, none)) };
    data_file = short_holds;
  }

  short_tail : TailPut row None (old.counts file) (old.bodies file) (with_blobs 0 (blob_count (length row)) row pieces)
  short_tail = record {
    asked = rw no_tail refl;
    free = λ page slot at. absurd (cc);
    data_file = short_holds;
  }

  short_grown : GrownFor row file old old old
  short_grown = record { for_blobs = inl refl; no_blobs = λ is. refl; for_tail = inl refl; no_tail = λ is. refl }

  pub short_on_ok : (r : Result Places Fault) (new : PageState) → IfOk r (λ places. (places.tail ≡ None) × (places.blob ≡ 0) × (places.blobs ≡ 0))
      → IfOk r (λ places. HeadPut row places (new.counts file) (new.bodies file) (with_blobs 0 (blob_count (length row)) row pieces))
      → OnOk r (GrowsForPart part.Head (14 + head_size (length row)) file old new) → IfOk r (λ places. RowPut row places pieces file old new)
  short_on_ok r new at head last = long_on_ok r row 0 0 None pieces file old old old new (sym none) short_blobs short_tail short_grown at head last

-- ---- rows

pub puts_row : (is_row : List ℕ → Bool) (row : List ℕ) (places : Places) (pieces : Pieces) (rows : Rows) (file : FileName) (old new : PageState) → HoldsRows is_row (old.counts file) (old.bodies file) pieces rows → IsTrue (is_row row)
    → RowPut row places pieces file old new → PutsRow is_row places row (new.counts file) (new.bodies file) pieces rows
puts_row is_row row places pieces rows file old new holds is put = record {
  laid = put.laid;
  free = put.free;
  holds = record {
    data_file = put.data_file;
    tiled = with_one is_row pieces rows holds.tiled (record { places = places; row = row }) put.laid is put.free;
  };
}

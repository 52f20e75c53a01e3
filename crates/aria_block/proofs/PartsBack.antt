-- Parts that are put back.
use Rattle.std.proofs.Common.{◌≡◌, ℕ, ◌==◌, true, nat_lt, Option, Some, None, List, length, subst}
use Rattle.std.specs.Prelude.{Result, Ok, Err, OnOk}
use Rattle.std.proofs.lemmas.Bool.{and_parts, eqb-true}
use Rattle.aria_page.specs.declared.place.Place.{Place}
use Rattle.aria_page.specs.declared.place.Places.{Places}
use Rattle.aria_host.specs.declared.fault.Fault.{Fault}
use Rattle.aria_block.specs.declared.part_kind.PartKind.{PartKind}
use Rattle.aria_block.specs.Pieces.{Head, Tail, Pieces, head_of, tail_of, tail_size, blob_count}
use Rattle.aria_block.specs.PartPage.{part_piece}
use Rattle.aria_block.specs.DataFile.{HoldsData, on_page, with_piece}
use Rattle.aria_block.specs.Puts.{PartKept}
use Rattle.aria_block.specs.Runs.{AreFree}
use Rattle.aria_block.specs.Storing.{with_one, with_blobs, BlobsPut, TailPut, HeadPut}
use Rattle.aria_block.proofs.Stored.{one_piece}

module _ (kind : PartKind) (count : ℕ) (bodies : ℕ → Option (List ℕ)) (page nth slot : ℕ) (bytes : List ℕ) (pieces : Pieces) (kept : PartKept kind count bodies page (Some nth) slot bytes pieces) where
  given : slot ≡ nth
  given = kept.given

  -- in the slot that was given
  pub back_holds : HoldsData count bodies (with_one (record { page = page; slot = nth }) (part_piece kind bytes) pieces)
  back_holds = subst (HoldsData count bodies) (one_piece page nth (part_piece kind bytes) pieces)
      (subst (λ (n : ℕ). HoldsData count bodies (on_page page (with_piece n (part_piece kind bytes) (pieces page)) pieces)) given kept.data_file)

  pub back_free : pieces page nth ≡ None
  back_free = subst (λ (n : ℕ). pieces page n ≡ None) given kept.free

-- the tail, and the head, of a row
pub tail_back : {T : Type 0} (r : Result T Fault) (row bytes : List ℕ) (place : Place) (count : ℕ) (bodies : ℕ → Option (List ℕ)) (pieces : Pieces) → bytes ≡ tail_of row → true ≡ nat_lt 0 (tail_size (length row))
    → OnOk r (pieces place.page place.slot ≡ None) → OnOk r (HoldsData count bodies (with_one place (Tail bytes) pieces)) → OnOk r (TailPut row (Some place) count bodies pieces)
tail_back (Ok x) row bytes place count bodies pieces is asked free holds = record {
  asked = asked;
  free = λ p s at.
      let parts : ((place.page == p) ≡ true) × ((place.slot == s) ≡ true) = and_parts _ _ at in
      subst (λ (n : ℕ). pieces n s ≡ None) (eqb-true place.page p parts.0) (subst (λ (n : ℕ). pieces place.page n ≡ None) (eqb-true place.slot s parts.1) free);
  data_file = subst (λ (b : List ℕ). HoldsData count bodies (with_one place (Tail b) pieces)) is holds;
}
tail_back (Err e) row bytes place count bodies pieces is asked free holds = tt

pub head_back : {T : Type 0} (r : Result T Fault) (row bytes : List ℕ) (places : Places) (count : ℕ) (bodies : ℕ → Option (List ℕ)) (pieces : Pieces) → bytes ≡ head_of places row
    → OnOk r (pieces places.head.page places.head.slot ≡ None) → OnOk r (HoldsData count bodies (with_one places.head (Head bytes) pieces)) → OnOk r (HeadPut row places count bodies pieces)
head_back (Ok x) row bytes places count bodies pieces is free holds = record {
  free = free;
  data_file = subst (λ (b : List ℕ). HoldsData count bodies (with_one places.head (Head b) pieces)) is holds;
}
head_back (Err e) row bytes places count bodies pieces is free holds = tt

-- the blob pages of a row
pub blobs_back : {T : Type 0} (r : Result T Fault) (row : List ℕ) (first count : ℕ) (bodies : ℕ → Option (List ℕ)) (pieces : Pieces) → AreFree (blob_count (length row)) first pieces
    → OnOk r (HoldsData count bodies (with_blobs first (blob_count (length row)) row pieces)) → OnOk r (BlobsPut row first count bodies pieces)
blobs_back (Ok x) row first count bodies pieces are holds = record { free = are; data_file = holds }
blobs_back (Err e) row first count bodies pieces are holds = tt

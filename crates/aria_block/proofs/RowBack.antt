-- Rows at the places where they are put back.
use Rattle.std.proofs.Common.{◌≡◌, ◌≢◌, ◌⊎◌, inl, inr, ℕ, zero, suc, ◌+◌, ◌-◌, ◌%◌, ◌<◌, ◌≤◌, ◌||◌, Bool, true, false, cond, nat_lt, Option, Some, None, List, length, refl, sym, ap, ◌∙◌, arith, subst, eq-eqb}
use Rattle.std.specs.Prelude.{IfSome, IsTrue, is_some, Result, Ok, Err, OnOk}
use Rattle.std.proofs.lemmas.Bool.{cases_Bool, cases_lt, le-leb, lt-ltb}
use Rattle.aria_page.specs.declared.place.Place.{Place}
use Rattle.aria_page.specs.declared.place.Places.{Places}
use Rattle.aria_host.specs.declared.fault.Fault.{Fault}
use Rattle.aria_cache.specs.PageState.{PageState}
use Rattle.aria_block.specs.Causes.{rows_file}
use Rattle.aria_block.specs.declared.part_kind.PartKind.{PartKind}
use Rattle.aria_block.specs.declared.part_kind.PartKind.TheVariants as part
use Rattle.aria_block.specs.Pieces.{Piece, Blob, Pieces, head_of, tail_of, blob_of, head_size, tail_size, blob_count, is_at, is_at_tail, is_at_blob, is_one_of, with_row}
use Rattle.aria_block.specs.PartPage.{part_piece}
use Rattle.aria_block.specs.DataFile.{HoldsData}
use Rattle.aria_block.specs.Rows.{Rows}
use Rattle.aria_block.specs.HoldsRows.{HoldsRows, PutsRow}
use Rattle.aria_block.specs.Runs.{AreFree}
use Rattle.aria_block.specs.Spot.{SpotAt}
use Rattle.aria_block.specs.Storing.{with_blobs, with_tail, BlobsPut, TailPut, HeadPut}
use Rattle.aria_block.specs.Lying.{MayLie}
use Rattle.aria_block.specs.Lying as lie
use Rattle.aria_block.specs.PuttingBack.{TakesPartAt, IsRun, MayStand, CanPutBack, RowBack}
use Rattle.aria_block.proofs.HeadText.{head_long}
use Rattle.aria_block.proofs.Measuring.{tail_long}
use Rattle.aria_block.proofs.Rooms.{room_by_lie}
use Rattle.aria_block.proofs.Stepping.{moved}
use Rattle.aria_block.proofs.Sizes.{short_row}
use Rattle.aria_block.proofs.Stored.{no_blobs, whole_row, laid, none_before}
use Rattle.aria_block.proofs.Tiling.{with_one}

neither : (a b : Bool) → (a || b) ≡ false → (a ≡ false) × (b ≡ false)
neither true b is = absurd (cc)
neither false b is = (refl, is)

none_left : (b : Bool) (x : Piece) (was : Option Piece) → cond b (Some x) was ≡ None → was ≡ None
none_left true x was is = absurd (cc)
none_left false x was is = is

-- no tail there
tail_off : (t : Option Place) (row : List ℕ) (p : Pieces) (page slot : ℕ) → is_at_tail t page slot ≡ false → p page slot ≡ None → with_tail t row p page slot ≡ None
tail_off None row p page slot off none = none
tail_off (Some at) row p page slot off none = rw off none

-- ---- a page of the file that the row may lie on

-- A part of the row goes where the pieces so far leave it room.
takes_part : (kind : PartKind) (place : Place) (bytes : List ℕ) (len count : ℕ) (bodies : ℕ → Option (List ℕ)) (p q : Pieces) → length bytes ≡ len → place.page % 21809 ≢ 0 → place.page < count → HoldsData count bodies p
    → ((s : ℕ) → (p place.page s ≡ None) ⊎ (p place.page s ≡ q place.page s)) → p place.page place.slot ≡ None → q place.page place.slot ≡ Some (part_piece kind bytes) → MayLie (q place.page) → TakesPartAt kind place len count bodies
takes_part kind place bytes len count bodies p q long plain below holds sub none here lies = record {
  plain = plain;
  below = below;
  room = λ body is.
      let both : Some (holds.body place.page) ≡ Some body = sym (holds.sound place.page) ∙ is in
      let same : holds.body place.page ≡ body = cc in
      subst (λ (n : ℕ). SpotAt kind place.slot n body None → ⊥) long
      (subst (λ (t : List ℕ). SpotAt kind place.slot (length bytes) t None → ⊥) same
      (room_by_lie kind place.slot bytes (holds.body place.page) (p place.page) (q place.page) sub none here (holds.file.page place.page plain) lies));
}

module _ (row : List ℕ) (places : Places) (count : ℕ) (pieces : Pieces) (can : CanPutBack row places count pieces) where
  -- the pieces with the row's blobs, and with its tail too
  abbrev pub first : Pieces
  first = with_blobs places.blob places.blobs row pieces

  abbrev pub second : Pieces
  second = with_tail places.tail row first

  -- ---- the head

  at_head : (page slot : ℕ) → is_at places.head page slot ≡ true → (is_at_tail places.tail page slot ≡ false) × (is_at_blob places page slot ≡ false) × (pieces page slot ≡ None)
  at_head page slot at =
      let off = neither _ _ (can.laid.once page slot at) in
      (off.0, off.1, can.blank page slot (rw at refl))

  head_none : (page slot : ℕ) → is_at places.head page slot ≡ true → (first page slot ≡ None) × (second page slot ≡ None)
  head_none page slot at =
      let off = at_head page slot at in
      let none : first page slot ≡ None = rw off.1 off.2 in
      (none, tail_off places.tail row first page slot off.0 none)

  before_head : (page slot : ℕ) → (second page slot ≡ None) ⊎ (second page slot ≡ with_row places row pieces page slot)
  before_head page slot = elim (cases_Bool (is_at places.head page slot)) [
    | inl at ↦ inl (head_none page slot at).1
    | inr off ↦ inr (rw off (rw off at (ap (λ (p : Pieces). p page slot) (whole_row places row pieces))))
  ]

  itself : is_at places.head places.head.page places.head.slot ≡ true
  itself = rw (eq-eqb places.head.page places.head.page refl, eq-eqb places.head.slot places.head.slot refl) refl

  pub takes_head : (bodies : ℕ → Option (List ℕ)) → HoldsData count bodies second → TakesPartAt part.Head places.head (14 + head_size (length row)) count bodies
  takes_head bodies holds =
      let one : is_one_of places places.head.page places.head.slot ≡ true = rw itself refl in
      takes_part part.Head places.head (head_of places row) (14 + head_size (length row)) count bodies second (with_row places row pieces) (head_long places row)
      (can.maps places.head.page places.head.slot one) (can.below places.head.page places.head.slot one) holds (before_head places.head.page)
      (head_none places.head.page places.head.slot itself).1 (rw itself refl) (can.lie places.head.page)

  -- ---- the tail

  at_tail : (page slot : ℕ) → is_at_tail places.tail page slot ≡ true → (is_at places.head page slot ≡ false) × (is_at_blob places page slot ≡ false) × (is_one_of places page slot ≡ true)
  at_tail page slot at = elim (cases_Bool (is_at places.head page slot)) [
    | inl head ↦ let off = (at_head page slot head).0 in absurd (cc)
    | inr off ↦ (off, can.laid.apart page slot at, rw (off, at) refl)
  ]

  tail_none : (page slot : ℕ) → is_at_tail places.tail page slot ≡ true → first page slot ≡ None
  tail_none page slot at = let off = at_tail page slot at in rw off.1 (can.blank page slot off.2)

  before_tail : (page slot : ℕ) → (first page slot ≡ None) ⊎ (first page slot ≡ with_row places row pieces page slot)
  before_tail page slot = elim (cases_Bool (is_at places.head page slot)) [
    | inl at ↦ inl (head_none page slot at).0
    | inr no_head ↦ elim (cases_Bool (is_at_tail places.tail page slot)) [
      | inl at ↦ inl (tail_none page slot at)
      | inr no_tail ↦ inr (rw (no_head, no_tail) refl)
    ]
  ]

  pub takes_tail : (bodies : ℕ → Option (List ℕ)) → HoldsData count bodies first → IfSome places.tail (λ at. TakesPartAt part.Tail at (tail_size (length row)) count bodies)
  takes_tail bodies holds = by places.tail (λ page slot at. at)
    where
      by : (t : Option Place) → ((page slot : ℕ) → is_at_tail t page slot ≡ true → is_at_tail places.tail page slot ≡ true) → IfSome t (λ at. TakesPartAt part.Tail at (tail_size (length row)) count bodies)
      by None same = tt
      by (Some at) same =
          let here : is_at_tail places.tail at.page at.slot ≡ true = same at.page at.slot (rw (eq-eqb at.page at.page refl, eq-eqb at.slot at.slot refl) refl) in
          let off = at_tail at.page at.slot here in
          takes_part part.Tail at (tail_of row) (tail_size (length row)) count bodies first (with_row places row pieces) (tail_long row)
          (can.maps at.page at.slot off.2) (can.below at.page at.slot off.2) holds (before_tail at.page)
          (tail_none at.page at.slot here) (rw (off.0, here) refl) (can.lie at.page)

  -- ---- the blob pages

  at_blob : (page : ℕ) → places.blob ≤ page → page < places.blob + places.blobs → is_at_blob places page 0 ≡ true
  at_blob page from to = rw (le-leb places.blob page from, lt-ltb page (places.blob + places.blobs) to) refl

  one_blob : (page : ℕ) → places.blob ≤ page → page < places.blob + places.blobs → (is_at places.head page 0 ≡ false) × (is_at_tail places.tail page 0 ≡ false) × (is_one_of places page 0 ≡ true)
  one_blob page from to = elim (cases_Bool (is_at places.head page 0)) [
    | inl head ↦ let off = (at_head page 0 head).1 in let on = at_blob page from to in absurd (cc)
    | inr no_head ↦ elim (cases_Bool (is_at_tail places.tail page 0)) [
      | inl tail ↦ let off = (at_tail page 0 tail).1 in let on = at_blob page from to in absurd (cc)
      | inr no_tail ↦ (no_head, no_tail, rw (no_head, no_tail) (at_blob page from to))
    ]
  ]

  blob_there : (page : ℕ) → places.blob ≤ page → page < places.blob + places.blobs → with_row places row pieces page 0 ≡ Some (Blob (blob_of row (page - places.blob)))
  blob_there page from to = let off = one_blob page from to in rw (off.0, off.1, at_blob page from to) refl

  -- nothing else stands there
  alone : (page slot : ℕ) → with_row places row pieces page 0 ≡ Some (Blob (blob_of row (page - places.blob))) → MayLie (with_row places row pieces page) → with_row places row pieces page (suc slot) ≡ None
  alone page slot there (lie.empty none) = none (suc slot)
  alone page slot there (lie.heads alike n fit) = absurd (alike 0 (Blob (blob_of row (page - places.blob))) there)
  alone page slot there (lie.tails alike n fit) = absurd (alike 0 (Blob (blob_of row (page - places.blob))) there)
  alone page slot there (lie.blob bytes here others) = others slot

  pub blobs_free : AreFree places.blobs places.blob pieces
  blobs_free = record { free = λ m slot from to. by m from to slot }
    where
      by : (m : ℕ) → places.blob ≤ m → m < places.blob + places.blobs → (slot : ℕ) → pieces m slot ≡ None
      by m from to zero = can.blank m 0 (one_blob m from to).2
      by m from to (suc slot) = none_left _ _ _ (alone m slot (blob_there m from to) (can.lie m))

  pub blobs_run : 0 < places.blobs → IsRun places.blob places.blobs count
  blobs_run some = record {
    under = record {
      plain = plain places.blob (omega arith) (omega (arith, some));
      within = elim (cases_lt 21809 (places.blob % 21809 + places.blobs)) [
        | inl past ↦ absurd (on_map past)
        | inr within ↦ within
      ];
    };
    below = let last = can.below (places.blob + places.blobs - 1) 0 (one_blob (places.blob + places.blobs - 1) (omega (arith, some)) (omega (arith, some))).2 in omega (arith, last, some);
  }
    where
      plain : (page : ℕ) → places.blob ≤ page → page < places.blob + places.blobs → page % 21809 ≢ 0
      plain page from to = can.maps page 0 (one_blob page from to).2

      on_map : 21809 < places.blob % 21809 + places.blobs → ⊥
      on_map past = plain (places.blob + 21809 - places.blob % 21809) (omega arith) (omega (arith, past)) (omega arith)

  pub may_stand : MayStand places (length row) count
  may_stand = record { tail = can.laid.tail; blobs = can.laid.blobs; run = blobs_run }

-- ---- the pieces, put one after another

pub row_back : {T : Type 0} (r : Result T Fault) (row : List ℕ) (places : Places) (count : ℕ) (mid low new : ℕ → Option (List ℕ)) (pieces : Pieces) → places.blobs ≡ blob_count (length row)
    → BlobsPut row places.blob count mid pieces → TailPut row places.tail count low (with_blobs places.blob (blob_count (length row)) row pieces)
    → OnOk r (HeadPut row places count new (with_tail places.tail row (with_blobs places.blob (blob_count (length row)) row pieces))) → OnOk r (RowBack row places count new pieces)
row_back (Ok x) row places count mid low new pieces many blobs tail head =
    let tails : TailPut row places.tail count low (with_blobs places.blob places.blobs row pieces) = subst (λ (n : ℕ). TailPut row places.tail count low (with_blobs places.blob n row pieces)) (sym many) tail in
    let heads : HeadPut row places count new (with_tail places.tail row (with_blobs places.blob places.blobs row pieces)) = subst (λ (n : ℕ). HeadPut row places count new (with_tail places.tail row (with_blobs places.blob n row pieces))) (sym many) head in
    let are : AreFree places.blobs places.blob pieces = subst (λ (n : ℕ). AreFree n places.blob pieces) (sym many) blobs.free in
    record {
      laid = laid row places pieces heads.free tails.free tails.asked many;
      free = none_before row places pieces heads.free tails.free are;
      data_file = subst (HoldsData count new) (whole_row places row pieces) heads.data_file;
    }
row_back (Err e) row places count mid low new pieces many blobs tail head = tt

-- ---- what the later pieces need, behind the earlier ones

module _ (row : List ℕ) (places : Places) (slot : ℕ) (pieces : Pieces) (old : PageState) (many : places.blobs ≡ blob_count (length row)) (can : CanPutBack row places (old.counts (rows_file old slot)) pieces) where
  pub free_needs : AreFree (blob_count (length row)) places.blob pieces
  free_needs = subst (λ (n : ℕ). AreFree n places.blob pieces) many (blobs_free row places (old.counts (rows_file old slot)) pieces can)

  pub tail_needs : (mid : PageState) → rows_file mid slot ≡ rows_file old slot → mid.counts ≡ old.counts → BlobsPut row places.blob (old.counts (rows_file old slot)) (mid.bodies (rows_file old slot)) pieces
      → (kept : Pieces) × HoldsData (mid.counts (rows_file mid slot)) (mid.bodies (rows_file mid slot)) kept × IfSome places.tail (λ at. TakesPartAt part.Tail at (tail_size (length row)) (mid.counts (rows_file mid slot)) (mid.bodies (rows_file mid slot)))
  tail_needs mid same counts blobs =
      let count : ℕ = old.counts (rows_file old slot) in
      let with_them : Pieces = with_blobs places.blob places.blobs row pieces in
      let holds : HoldsData count (mid.bodies (rows_file old slot)) with_them = subst (λ (n : ℕ). HoldsData count (mid.bodies (rows_file old slot)) (with_blobs places.blob n row pieces)) (sym many) blobs.data_file in (
        with_them,
        moved slot old mid mid same counts (λ k b. HoldsData k b with_them) holds,
        moved slot old mid mid same counts (λ k b. IfSome places.tail (λ at. TakesPartAt part.Tail at (tail_size (length row)) k b)) (takes_tail row places count pieces can (mid.bodies (rows_file old slot)) holds),
      )

  pub head_needs : (low : PageState) → rows_file low slot ≡ rows_file old slot → low.counts ≡ old.counts → TailPut row places.tail (old.counts (rows_file old slot)) (low.bodies (rows_file old slot)) (with_blobs places.blob (blob_count (length row)) row pieces)
      → (kept : Pieces) × HoldsData (low.counts (rows_file low slot)) (low.bodies (rows_file low slot)) kept × TakesPartAt part.Head places.head (14 + head_size (length row)) (low.counts (rows_file low slot)) (low.bodies (rows_file low slot))
  head_needs low same counts tail =
      let count : ℕ = old.counts (rows_file old slot) in
      let with_them : Pieces = with_tail places.tail row (with_blobs places.blob places.blobs row pieces) in
      let holds : HoldsData count (low.bodies (rows_file old slot)) with_them = subst (λ (n : ℕ). HoldsData count (low.bodies (rows_file old slot)) (with_tail places.tail row (with_blobs places.blob n row pieces))) (sym many) tail.data_file in (
        with_them,
        moved slot old low low same counts (λ k b. HoldsData k b with_them) holds,
        moved slot old low low same counts (λ k b. TakesPartAt part.Head places.head (14 + head_size (length row)) k b) (takes_head row places count pieces can (low.bodies (rows_file old slot)) holds),
      )

-- ---- a short row

module _ (row : List ℕ) (short : length row ≤ 5986) (places : Places) (count : ℕ) (may : MayStand places (length row) count) (pieces : Pieces) where
  no_tail : places.tail ≡ None
  no_tail = by places.tail may.tail
    where
      by : (t : Option Place) → is_some t ≡ nat_lt 0 (tail_size (length row)) → t ≡ None
      by None asked = refl
      by (Some at) asked = let none : true ≡ false = rw (short_row (length row) short).1 at asked in absurd (cc)

  same_blobs : with_blobs places.blob (blob_count (length row)) row pieces ≡ pieces
  same_blobs = ap (λ (n : ℕ). with_blobs places.blob n row pieces) (short_row (length row) short).0 ∙ no_blobs places.blob row pieces

  -- the pieces before its head
  pub short_same : with_tail places.tail row (with_blobs places.blob (blob_count (length row)) row pieces) ≡ pieces
  short_same = ap (λ (t : Option Place). with_tail t row (with_blobs places.blob (blob_count (length row)) row pieces)) no_tail ∙ same_blobs

  pub short_back : {T : Type 0} (r : Result T Fault) (old new : ℕ → Option (List ℕ)) → HoldsData count old pieces → OnOk r (HeadPut row places count new pieces) → OnOk r (RowBack row places count new pieces)
  short_back r old new holds head =
      row_back r row places count old old new pieces may.blobs
      (record { free = record { free = λ m slot from to. absurd (let none = (short_row (length row) short).0 in omega (arith, to, none)) }; data_file = subst (HoldsData count old) (sym same_blobs) holds })
      (record {
        asked = may.tail;
        free = λ page slot at. let off : is_at_tail places.tail page slot ≡ false = rw no_tail refl in absurd (cc);
        data_file = subst (HoldsData count old) (sym short_same) holds;
      })
      (subst (λ (p : Pieces). OnOk r (HeadPut row places count new p)) (sym short_same) head)

  pub short_needs : (bodies : ℕ → Option (List ℕ)) → HoldsData count bodies pieces → CanPutBack row places count pieces → TakesPartAt part.Head places.head (14 + head_size (length row)) count bodies
  short_needs bodies holds can =
      takes_head row places count pieces can bodies
      (subst (λ (n : ℕ). HoldsData count bodies (with_tail places.tail row (with_blobs places.blob n row pieces))) (sym may.blobs) (subst (HoldsData count bodies) (sym short_same) holds))

-- ---- rows

pub back_row : {T : Type 0} (r : Result T Fault) (is_row : List ℕ → Bool) (row : List ℕ) (places : Places) (count : ℕ) (old new : ℕ → Option (List ℕ)) (pieces : Pieces) (rows : Rows) → HoldsRows is_row count old pieces rows → IsTrue (is_row row)
    → OnOk r (RowBack row places count new pieces) → OnOk r (PutsRow is_row places row count new pieces rows)
back_row (Ok x) is_row row places count old new pieces rows holds is back = record {
  laid = back.laid;
  free = back.free;
  holds = record {
    data_file = back.data_file;
    tiled = with_one is_row pieces rows holds.tiled (record { places = places; row = row }) back.laid is back.free;
  };
}
back_row (Err e) is_row row places count old new pieces rows holds is back = tt

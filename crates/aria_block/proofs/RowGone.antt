-- The pieces of a row that is taken.
use Rattle.std.proofs.Common.{◌≡◌, ◌≢◌, ℕ, zero, suc, ◌+◌, ◌-◌, ◌^◌, ◌%◌, ◌==◌, ◌&&◌, ◌||◌, ◌<◌, ◌≤◌, nat_le, nat_lt, ◌⊎◌, inl, inr, Bool, true, false, cond, Option, Some, None, List, length, refl, sym, ap, ◌∙◌, arith, subst, eq-eqb}
use Rattle.std.specs.Prelude.{IsTrue, Result, Ok, Err, OnOk}
use Rattle.std.specs.Option.{option_map}
use Rattle.std.proofs.lemmas.Bool.{cases_Bool, cases_eq, ne_eqb, leb-true}
use Rattle.std.proofs.lemmas.Bool.Decides.{nat_tests}
use Rattle.aria_page.specs.declared.place.Place.{Place}
use Rattle.aria_page.specs.declared.place.Places.{Places}
use Rattle.aria_host.specs.declared.fault.Fault.{Fault}
use Rattle.aria_block.specs.declared.layout.TheConstants.{MAP_EVERY}
use Rattle.aria_block.specs.declared.part_kind.PartKind.{PartKind}
use Rattle.aria_block.specs.declared.part_kind.PartKind.TheVariants as part
use Rattle.aria_block.specs.Pieces.{Piece, Head, Tail, Blob, Pieces, is_at, is_at_tail, is_at_blob, is_one_of, piece_of, without_row, head_of, tail_of, blob_of, blob_count}
use Rattle.aria_block.specs.Rows.{Kept, IsLaid, Rows, IsTiled}
use Rattle.aria_block.specs.Blob.{no_pieces}
use Rattle.aria_block.specs.DataFile.{HoldsPage, free, parts, blob, HoldsData, on_page}
use Rattle.aria_block.specs.PartPage.{part_piece, part_in}
use Rattle.aria_block.specs.Reading.{FitsHead, HasBlob}
use Rattle.aria_block.specs.Deleting.{HasPart, HasPages, HasTailAt, HasRowAt, without_at, without_pages, without_tail}
use Rattle.aria_block.specs.HoldsRows.{HoldsRows, TakesRow}
use Rattle.aria_block.proofs.Tiling.{without_one}
use Rattle.aria_block.proofs.RowRead.{own_blob, own_tail}
use Rattle.aria_block.proofs.Sizes.{short_row, long_row}

-- ---- pages

first_range : (first n page : ℕ) → 1 ≤ n → first ≡ page → (nat_le first page && nat_lt page (first + n)) ≡ true
first_range first n page some same =
    let low : nat_le first page ≡ true = grind (arith, nat_tests) in
    let high : nat_lt page (first + n) ≡ true = grind (arith, nat_tests) in
    rw (low, high) refl

next_low : (first page : ℕ) → first ≢ page → nat_le (first + 1) page ≡ nat_le first page
next_low first page other = elim (cases_Bool (nat_le first page)) [
  | inl low ↦ let at : first ≤ page = leb-true first page low in let above : nat_le (first + 1) page ≡ true = grind (arith, nat_tests) in above ∙ sym low
  | inr high ↦ elim (cases_Bool (nat_le (first + 1) page)) [
    | inl low ↦ let at : first + 1 ≤ page = leb-true (first + 1) page low in let below : nat_le first page ≡ true = grind (arith, nat_tests) in absurd (cc)
    | inr low ↦ low ∙ sym high
  ]
]

next_range : (first n page : ℕ) → 1 ≤ n → first ≢ page → (nat_le (first + 1) page && nat_lt page (first + 1 + (n - 1))) ≡ (nat_le first page && nat_lt page (first + n))
next_range first n page some other =
    let same : first + 1 + (n - 1) ≡ first + n = omega (arith, some) in
    rw (next_low first page other) (ap (λ (k : ℕ). nat_le first page && nat_lt page k) same)

-- the first page is freed, then the others
pub pages_first : (first n : ℕ) (pieces : Pieces) → 1 ≤ n → without_pages (first + 1) (n - 1) (on_page first no_pieces pieces) ≡ without_pages first n pieces
pages_first first n pieces some = λ i page slot. at page slot i
  where
    none_both : (b : Bool) (o : Option Piece) → cond b o o ≡ o
    none_both true o = refl
    none_both false o = refl

    at : (page slot : ℕ) → without_pages (first + 1) (n - 1) (on_page first no_pieces pieces) page slot ≡ without_pages first n pieces page slot
    at page slot = elim (cases_eq first page) [
      | inl same ↦ rw (eq-eqb first page same, first_range first n page some same) (none_both (nat_le (first + 1) page && nat_lt page (first + 1 + (n - 1))) None)
      | inr other ↦ rw (ne_eqb first page other, next_range first n page some other) refl
    ]

-- a blob stands on the first of them
pub first_blob : (first n : ℕ) (pieces : Pieces) → 1 ≤ n → HasPages first n pieces → HasBlob first pieces
first_blob first n pieces some has =
    let at = has.there 0 some in
    record { bytes = at.0; there = subst (λ (k : ℕ). pieces k 0 ≡ Some (Blob at.0)) (omega arith) at.1 }

-- and on each of the others
pub other_blobs : (first n : ℕ) (pieces : Pieces) → 1 ≤ n → HasPages first n pieces → HasPages (first + 1) (n - 1) (on_page first no_pieces pieces)
other_blobs first n pieces some has = record {
  low = let low = has.low in omega (arith, low, some);
  there = λ i lt.
      let at = has.there (i + 1) (omega (arith, lt, some)) in
      (at.0, rw (ne_eqb first (first + 1 + i) (λ same. omega (arith, same))) (subst (λ (k : ℕ). pieces k 0 ≡ Some (Blob at.0)) (omega arith) at.1));
}

-- ---- a row

-- the pages of a row's blobs are few
pub few_blobs : (k : Kept) → IsLaid k → length k.row ≤ 65540 → k.places.blobs ≤ 8
few_blobs k laid few = elim (cases_Bool (nat_le (length k.row) 5986)) [
  | inl short ↦ let none = (short_row (length k.row) (leb-true (length k.row) 5986 short)).0 in let same = laid.blobs in omega (arith, none, same)
  | inr long ↦
      let above : 5986 < length k.row = grind (arith, nat_tests) in
      let many = (long_row (length k.row) above few).many in let same = laid.blobs in omega (arith, many, same)
]

module _ (places : Places) (pieces : Pieces) (has : HasRowAt places pieces) where
  abbrev row_kept : Kept
  row_kept = record { places = places; row = has.row }

  laid : IsLaid row_kept
  laid = has.tiled.laid places.head.page places.head.slot row_kept has.there

  piece_at : (page slot : ℕ) → is_one_of places page slot ≡ true → pieces page slot ≡ Some (piece_of places has.row page slot)
  piece_at page slot one = has.tiled.has places.head.page places.head.slot row_kept has.there page slot one

  itself : (place : Place) → is_at place place.page place.slot ≡ true
  itself place = rw (eq-eqb place.page place.page refl, eq-eqb place.slot place.slot refl) refl

  pub head_part : HasPart part.Head places.head pieces
  head_part = record {
    bytes = head_of places has.row;
    there = piece_at places.head.page places.head.slot (rw (itself places.head) refl) ∙ rw (itself places.head) refl;
  }

  -- the head isn't at the tail's place, nor on a blob page's
  off_head : (page slot : ℕ) → (is_at_tail places.tail page slot || is_at_blob places page slot) ≡ true → is_at places.head page slot ≡ false
  off_head page slot at = elim (cases_Bool (is_at places.head page slot)) [
    | inl head ↦ let off = laid.once page slot head in absurd (cc)
    | inr away ↦ away
  ]

  pub tail_part : HasTailAt places.tail (without_at places.head pieces)
  tail_part = by places.tail refl
    where
      by : (tail : Option Place) → places.tail ≡ tail → HasTailAt tail (without_at places.head pieces)
      by None is = tt
      by (Some at) is =
          let here : is_at_tail places.tail at.page at.slot ≡ true = rw is (itself at) in
          let own = own_tail row_kept at.page at.slot laid here in
          let off : is_at places.head at.page at.slot ≡ false = off_head at.page at.slot (rw here refl) in
          record { bytes = tail_of has.row; there = rw off (piece_at at.page at.slot own.0 ∙ ap (λ (x : Piece). Some x) own.1) }

  blob_here : (i : ℕ) → i < places.blobs → is_at_blob places (places.blob + i) 0 ≡ true
  blob_here i lt =
      let low : nat_le places.blob (places.blob + i) ≡ true = grind (arith, nat_tests) in
      let high : nat_lt (places.blob + i) (places.blob + places.blobs) ≡ true = grind (arith, nat_tests) in
      rw (low, high) refl

  off_tail : (page slot : ℕ) → is_at_blob places page slot ≡ true → is_at_tail places.tail page slot ≡ false
  off_tail page slot at = elim (cases_Bool (is_at_tail places.tail page slot)) [
    | inl tail ↦ let off = laid.apart page slot tail in absurd (cc)
    | inr away ↦ away
  ]

  tail_at : (tail : Option Place) (f : Pieces) (page slot : ℕ) → is_at_tail tail page slot ≡ false → without_tail tail f page slot ≡ f page slot
  tail_at None f page slot off = refl
  tail_at (Some at) f page slot off = rw off refl

  pub blob_pages : places.blob + places.blobs < 2 ^ 32 → HasPages places.blob places.blobs (without_tail places.tail (without_at places.head pieces))
  blob_pages low = record {
    low = low;
    there = λ i lt.
        let here = blob_here i lt in
        let tail : is_at_tail places.tail (places.blob + i) 0 ≡ false = off_tail (places.blob + i) 0 here in
        let head : is_at places.head (places.blob + i) 0 ≡ false = off_head (places.blob + i) 0 (rw (tail, here) refl) in
        let own = own_blob row_kept (places.blob + i) 0 laid here in (
          blob_of has.row (places.blob + i - places.blob),
          tail_at places.tail (without_at places.head pieces) (places.blob + i) 0 tail ∙ rw head (piece_at (places.blob + i) 0 own.0 ∙ ap (λ (x : Piece). Some x) own.1),
        );
  }

  module _ (count : ℕ) (bodies : ℕ → Option (List ℕ)) (holds : HoldsData count bodies pieces) where
    -- on a page with a blob nothing else stands
    nothing_else : (page slot : ℕ) (bytes : List ℕ) → pieces page 0 ≡ Some (Blob bytes) → pieces page (suc slot) ≡ None
    nothing_else page slot bytes is = elim (cases_eq (page % MAP_EVERY) 0) [
      | inl map ↦ holds.file.none page (suc slot) map
      | inr plain ↦ by (holds.file.page page plain)
    ]
      where
        no_blob : (kind : PartKind) (o : Option (List ℕ)) → option_map (part_piece kind) o ≡ Some (Blob bytes) → ⊥
        no_blob kind None same = absurd (cc)
        no_blob part.Head (Some x) same = absurd (cc)
        no_blob part.Tail (Some x) same = absurd (cc)

        by : HoldsPage (holds.body page) (pieces page) → pieces page (suc slot) ≡ None
        by (free first none) = none (suc slot)
        by (parts kind c items page_is all) = absurd (no_blob kind (part_in items 0) (sym (all 0) ∙ is))
        by (blob more first text here none) = none slot

    pub whole_taken : without_pages places.blob places.blobs (without_tail places.tail (without_at places.head pieces)) ≡ without_row places pieces
    whole_taken = λ i page slot. at page slot i
      where
        none_both : (b : Bool) (o : Option Piece) → cond b o o ≡ o
        none_both true o = refl
        none_both false o = refl

        tail_none : (tail : Option Place) (f : Pieces) (page slot : ℕ) → f page slot ≡ None → without_tail tail f page slot ≡ None
        tail_none None f page slot none = none
        tail_none (Some place) f page slot none = ap (λ (x : Option Piece). cond (is_at place page slot) None x) none ∙ none_both (is_at place page slot) None

        tail_here : (tail : Option Place) (f : Pieces) (page slot : ℕ) → is_at_tail tail page slot ≡ true → without_tail tail f page slot ≡ None
        tail_here None f page slot is = absurd (cc)
        tail_here (Some place) f page slot is = rw is refl

        beside : (page slot : ℕ) → (nat_le places.blob page && nat_lt page (places.blob + places.blobs)) ≡ true → cond (slot == 0) None (pieces page slot) ≡ None
        beside page zero range = refl
        beside page (suc slot) range =
            let here : is_at_blob places page 0 ≡ true = range in
            let own = own_blob row_kept page 0 laid here in
            rw (ne_eqb (suc slot) 0 (λ same. absurd (omega (arith, same)))) (nothing_else page slot (blob_of has.row (page - places.blob)) (piece_at page 0 own.0 ∙ ap (λ (x : Piece). Some x) own.1))

        and_false : (b : Bool) → (b && false) ≡ false
        and_false true = refl
        and_false false = refl

        and_true : (b : Bool) → (b && true) ≡ b
        and_true true = refl
        and_true false = refl

        at : (page slot : ℕ) → without_pages places.blob places.blobs (without_tail places.tail (without_at places.head pieces)) page slot ≡ without_row places pieces page slot
        at page slot =
            let range : Bool = nat_le places.blob page && nat_lt page (places.blob + places.blobs) in
            elim (cases_Bool (is_at places.head page slot)) [
              | inl head ↦ ap (λ (x : Option Piece). cond range None x) (tail_none places.tail (without_at places.head pieces) page slot (rw head refl)) ∙ none_both range None ∙ sym (ap (λ (b : Bool). cond (b || (is_at_tail places.tail page slot || is_at_blob places page slot)) None (pieces page slot)) head)
              | inr away ↦ elim (cases_Bool (is_at_tail places.tail page slot)) [
                | inl tail ↦ ap (λ (x : Option Piece). cond range None x) (tail_here places.tail (without_at places.head pieces) page slot tail) ∙ none_both range None ∙ sym (rw (away, tail) refl)
                | inr off ↦
                    let same : without_tail places.tail (without_at places.head pieces) page slot ≡ pieces page slot = tail_at places.tail (without_at places.head pieces) page slot off ∙ rw away refl in
                    elim (cases_Bool (nat_le places.blob page && nat_lt page (places.blob + places.blobs))) [
                      | inl inside ↦ ap (λ (b : Bool). cond b None (without_tail places.tail (without_at places.head pieces) page slot)) inside
                          ∙ sym (beside page slot inside) ∙ sym (rw (away, off) (ap (λ (b : Bool). cond ((slot == 0) && b) None (pieces page slot)) inside ∙ ap (λ (b : Bool). cond b None (pieces page slot)) (and_true (slot == 0))))
                      | inr outside ↦ ap (λ (b : Bool). cond b None (without_tail places.tail (without_at places.head pieces) page slot)) outside
                          ∙ same ∙ sym (rw (away, off) (ap (λ (b : Bool). cond ((slot == 0) && b) None (pieces page slot)) outside ∙ ap (λ (b : Bool). cond b None (pieces page slot)) (and_false (slot == 0))))
                    ]
              ]
            ]

-- the file without the row
pub took_rows : {T : Type 0} (r : Result T Fault) (is_row : List ℕ → Bool) (places : Places) (row : List ℕ) (count : ℕ) (old new : ℕ → Option (List ℕ)) (pieces : Pieces) (rows : Rows)
    → HoldsRows is_row count old pieces rows → rows places.head.page places.head.slot ≡ Some (record { places = places; row = row }) → FitsHead (record { places = places; row = row })
    → OnOk r (HoldsData count new (without_pages places.blob places.blobs (without_tail places.tail (without_at places.head pieces)))) → OnOk r (TakesRow is_row places row count new pieces rows)
took_rows (Ok x) is_row places row count old new pieces rows held there fits holds = record {
  there = there;
  holds = record {
    data_file = subst (HoldsData count new) (whole_taken places pieces (record { is_row = is_row; rows = rows; tiled = held.tiled; row = row; there = there; fits = fits }) count old held.data_file) holds;
    tiled = without_one is_row pieces rows held.tiled (record { places = places; row = row }) there;
  };
}
took_rows (Err e) is_row places row count old new pieces rows held there fits holds = tt

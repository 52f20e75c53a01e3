-- A row's pieces, put one after another.
use Rattle.std.proofs.Common.{◌≡◌, ◌≢◌, ℕ, ◌+◌, ◌-◌, ◌<◌, ◌≤◌, ◌==◌, ◌&&◌, ◌||◌, Bool, true, false, cond, nat_le, nat_lt, Option, Some, None, List, length, refl, sym, ap, ◌∙◌, arith, subst, inl, inr, eq-eqb}
use Rattle.std.proofs.lemmas.Bool.{cases_Bool, cases_eq, ne_eqb, eqb-true, and_parts, leb-true, ltb-true, le-leb, lt-ltb}
use Rattle.std.specs.Prelude.{is_some}
use Rattle.aria_page.specs.declared.place.Place.{Place}
use Rattle.aria_page.specs.declared.place.Places.{Places}
use Rattle.aria_block.specs.Pieces.{Piece, Head, Tail, Blob, Pieces, head_of, tail_of, blob_of, tail_size, blob_count, is_at, is_at_tail, is_at_blob, is_one_of, with_row}
use Rattle.aria_block.specs.Rows.{IsLaid}
use Rattle.aria_block.specs.DataFile.{HoldsData, on_page, with_piece}
use Rattle.aria_block.specs.Blob.{blob_pieces}
use Rattle.aria_block.specs.Runs.{AreFree}
use Rattle.aria_block.specs.declared.part_kind.PartKind.TheVariants as part
use Rattle.aria_block.specs.Puts.{PartKept}
use Rattle.aria_block.specs.Storing.{with_one, with_blobs, with_tail, TailPut, HeadPut}

-- ---- one part more

one_step : (n s : ℕ) (x : Piece) (pieces : Pieces) (page slot : ℕ) → on_page n (with_piece s x (pieces n)) pieces page slot ≡ with_one (record { page = n; slot = s }) x pieces page slot
one_step n s x pieces page slot = elim (cases_eq n page) [
  | inl same ↦ rw (eq-eqb n page same) (ap (λ (k : ℕ). cond (s == slot) (Some x) (pieces k slot)) same)
  | inr other ↦ rw (ne_eqb n page other) refl
]

pub one_piece : (n s : ℕ) (x : Piece) (pieces : Pieces) → on_page n (with_piece s x (pieces n)) pieces ≡ with_one (record { page = n; slot = s }) x pieces
one_piece n s x pieces = λ i page slot. one_step n s x pieces page slot i

-- ---- blob pages

-- a page that isn't the next one
same_test : (first k page : ℕ) → first + k ≢ page → nat_lt page (first + k) ≡ nat_lt page (first + (k + 1))
same_test first k page other = elim (cases_Bool (nat_lt page (first + k))) [
  | inl low ↦ let at : page < first + k = ltb-true page (first + k) low in low ∙ sym (lt-ltb page (first + (k + 1)) (omega (arith, at)))
  | inr high ↦ elim (cases_Bool (nat_lt page (first + (k + 1)))) [
    | inl low ↦
        let at : page < first + (k + 1) = ltb-true page (first + (k + 1)) low in
        let below : page < first + k = omega (arith, at, other) in
        let both : nat_lt page (first + k) ≡ true = lt-ltb page (first + k) below in absurd (cc)
    | inr too ↦ high ∙ sym too
  ]
]

-- the next one
next_page : (first k slot : ℕ) (row : List ℕ) (pieces : Pieces) → pieces (first + k) slot ≡ None
    → blob_pieces (blob_of row k) slot ≡ with_blobs first (k + 1) row pieces (first + k) slot
next_page first k slot row pieces none =
    let low : nat_le first (first + k) ≡ true = le-leb first (first + k) (omega arith) in
    let high : nat_lt (first + k) (first + (k + 1)) ≡ true = lt-ltb (first + k) (first + (k + 1)) (omega arith) in
    let at : first + k - first ≡ k = omega arith in
    rw (low, high) (at_slot (slot == 0) (ap (λ (m : ℕ). Blob (blob_of row m)) (sym at)) (sym none))
  where
    at_slot : (b : Bool) {x y : Piece} {was : Option Piece} → x ≡ y → None ≡ was → cond b (Some x) None ≡ cond (b && true) (Some y) was
    at_slot true is none = ap Some is
    at_slot false is none = none

blobs_at : (first k page slot : ℕ) (row : List ℕ) (pieces : Pieces) → pieces (first + k) slot ≡ None
    → on_page (first + k) (blob_pieces (blob_of row k)) (with_blobs first k row pieces) page slot ≡ with_blobs first (k + 1) row pieces page slot
blobs_at first k page slot row pieces none = elim (cases_eq (first + k) page) [
  | inl same ↦ rw (eq-eqb (first + k) page same)
      (subst (λ (m : ℕ). blob_pieces (blob_of row k) slot ≡ with_blobs first (k + 1) row pieces m slot) same (next_page first k slot row pieces none))
  | inr other ↦ rw (ne_eqb (first + k) page other)
      (ap (λ (b : Bool). cond ((slot == 0) && (nat_le first page && b)) (Some (Blob (blob_of row (page - first)))) (pieces page slot)) (same_test first k page other))
]

-- one blob page more
pub blobs_step : (first k n : ℕ) (row : List ℕ) (pieces : Pieces) → AreFree n first pieces → k < n
    → on_page (first + k) (blob_pieces (blob_of row k)) (with_blobs first k row pieces) ≡ with_blobs first (k + 1) row pieces
blobs_step first k n row pieces are low = λ i page slot. blobs_at first k page slot row pieces (are.free (first + k) slot (omega arith) (omega (arith, low))) i

no_page : (first page : ℕ) → (nat_le first page && nat_lt page (first + 0)) ≡ false
no_page first page = elim (cases_Bool (nat_lt page (first + 0))) [
  | inl low ↦
      let at : page < first + 0 = ltb-true page (first + 0) low in
      elim (cases_Bool (nat_le first page)) [
        | inl from ↦ let above : first ≤ page = leb-true first page from in absurd (omega (arith, at, above))
        | inr below ↦ rw below refl
      ]
  | inr high ↦ rw high (elim (cases_Bool (nat_le first page)) [ inl from ↦ rw from refl | inr below ↦ rw below refl ])
]

none_at : (first page slot : ℕ) (row : List ℕ) (pieces : Pieces) → with_blobs first 0 row pieces page slot ≡ pieces page slot
none_at first page slot row pieces = rw (no_page first page) (none_here (slot == 0))
  where
    none_here : (b : Bool) → cond (b && false) (Some (Blob (blob_of row (page - first)))) (pieces page slot) ≡ pieces page slot
    none_here true = refl
    none_here false = refl

pub no_blobs : (first : ℕ) (row : List ℕ) (pieces : Pieces) → with_blobs first 0 row pieces ≡ pieces
no_blobs first row pieces = λ i page slot. none_at first page slot row pieces i

pub first_blob : (first n : ℕ) (row : List ℕ) (pieces : Pieces) → AreFree n first pieces → 0 < n → on_page first (blob_pieces (blob_of row 0)) pieces ≡ with_blobs first 1 row pieces
first_blob first n row pieces are some =
    let at : first + 0 ≡ first = omega arith in
    let step : on_page (first + 0) (blob_pieces (blob_of row 0)) (with_blobs first 0 row pieces) ≡ with_blobs first (0 + 1) row pieces = blobs_step first 0 n row pieces are some in
    subst (λ (p : Pieces). on_page first (blob_pieces (blob_of row 0)) p ≡ with_blobs first 1 row pieces) (no_blobs first row pieces)
    (subst (λ (m : ℕ). on_page m (blob_pieces (blob_of row 0)) (with_blobs first 0 row pieces) ≡ with_blobs first 1 row pieces) at step)

-- the pages hold it
pub blobs_more : (count : ℕ) (bodies : ℕ → Option (List ℕ)) (first k n : ℕ) (row bytes : List ℕ) (pieces : Pieces) → AreFree n first pieces → k < n → bytes ≡ blob_of row k
    → HoldsData count bodies (on_page (first + k) (blob_pieces bytes) (with_blobs first k row pieces)) → HoldsData count bodies (with_blobs first (k + 1) row pieces)
blobs_more count bodies first k n row bytes pieces are low is holds =
    subst (HoldsData count bodies) (blobs_step first k n row pieces are low)
    (subst (λ (b : List ℕ). HoldsData count bodies (on_page (first + k) (blob_pieces b) (with_blobs first k row pieces))) is holds)

pub blobs_begin : (count : ℕ) (bodies : ℕ → Option (List ℕ)) (first n : ℕ) (row bytes : List ℕ) (pieces : Pieces) → AreFree n first pieces → 0 < n → bytes ≡ blob_of row 0
    → HoldsData count bodies (on_page first (blob_pieces bytes) pieces) → HoldsData count bodies (with_blobs first 1 row pieces)
blobs_begin count bodies first n row bytes pieces are some is holds =
    subst (HoldsData count bodies) (first_blob first n row pieces are some)
    (subst (λ (b : List ℕ). HoldsData count bodies (on_page first (blob_pieces b) pieces)) is holds)

-- ---- the whole row

whole_step : (a t b : Bool) (h x y : Piece) (was : Option Piece) → cond a (Some h) (cond t (Some x) (cond b (Some y) was)) ≡ cond (a || (t || b)) (Some (cond a h (cond t x y))) was
whole_step true t b h x y was = refl
whole_step false true b h x y was = refl
whole_step false false true h x y was = refl
whole_step false false false h x y was = refl

whole_tail : (t : Option Place) (row : List ℕ) (p : Pieces) (a b : Bool) (h y : Piece) (was : Option Piece) (page slot : ℕ) → p page slot ≡ cond b (Some y) was
    → cond a (Some h) (with_tail t row p page slot) ≡ cond (a || (is_at_tail t page slot || b)) (Some (cond a h (cond (is_at_tail t page slot) (Tail (tail_of row)) y))) was
whole_tail None row p a b h y was page slot is = ap (λ (x : Option Piece). cond a (Some h) x) is ∙ whole_step a false b h (Tail (tail_of row)) y was
whole_tail (Some at) row p a b h y was page slot is =
    ap (λ (x : Option Piece). cond a (Some h) (cond (is_at at page slot) (Some (Tail (tail_of row))) x)) is ∙ whole_step a (is_at at page slot) b h (Tail (tail_of row)) y was

whole_at : (places : Places) (row : List ℕ) (pieces : Pieces) (page slot : ℕ)
    → with_one places.head (Head (head_of places row)) (with_tail places.tail row (with_blobs places.blob places.blobs row pieces)) page slot ≡ with_row places row pieces page slot
whole_at places row pieces page slot =
    whole_tail places.tail row (with_blobs places.blob places.blobs row pieces) (is_at places.head page slot) (is_at_blob places page slot) (Head (head_of places row)) (Blob (blob_of row (page - places.blob))) (pieces page slot) page slot refl

pub whole_row : (places : Places) (row : List ℕ) (pieces : Pieces)
    → with_one places.head (Head (head_of places row)) (with_tail places.tail row (with_blobs places.blob places.blobs row pieces)) ≡ with_row places row pieces
whole_row places row pieces = λ i page slot. whole_at places row pieces page slot i

none_of : (b : Bool) (x : Piece) (was : Option Piece) → cond b (Some x) was ≡ None → (b ≡ false) × (was ≡ None)
none_of true x was is = absurd (cc)
none_of false x was is = (refl, is)

module _ (row : List ℕ) (places : Places) (pieces : Pieces) where
  abbrev pub blobs : Pieces
  blobs = with_blobs places.blob places.blobs row pieces

  -- nothing stands where the head goes, nor where the tail goes
  at_head : (t : Option Place) (page slot : ℕ) → with_tail t row blobs page slot ≡ None → (is_at_tail t page slot ≡ false) × (blobs page slot ≡ None)
  at_head None page slot none = (refl, none)
  at_head (Some at) page slot none = none_of (is_at at page slot) (Tail (tail_of row)) (blobs page slot) none

  at_blobs : (page slot : ℕ) → blobs page slot ≡ None → (is_at_blob places page slot ≡ false) × (pieces page slot ≡ None)
  at_blobs page slot none = none_of (is_at_blob places page slot) (Blob (blob_of row (page - places.blob))) (pieces page slot) none

  module _ (head : with_tail places.tail row blobs places.head.page places.head.slot ≡ None) (tail : (page slot : ℕ) → is_at_tail places.tail page slot ≡ true → blobs page slot ≡ None) where
    none_at_head : (page slot : ℕ) → is_at places.head page slot ≡ true → with_tail places.tail row blobs page slot ≡ None
    none_at_head page slot at =
        let parts : ((places.head.page == page) ≡ true) × ((places.head.slot == slot) ≡ true) = and_parts _ _ at in
        subst (λ (n : ℕ). with_tail places.tail row blobs n slot ≡ None) (eqb-true places.head.page page parts.0)
        (subst (λ (n : ℕ). with_tail places.tail row blobs places.head.page n ≡ None) (eqb-true places.head.slot slot parts.1) head)

    pub laid : is_some places.tail ≡ nat_lt 0 (tail_size (length row)) → places.blobs ≡ blob_count (length row) → IsLaid (record { places = places; row = row })
    laid asked many = record {
      tail = asked;
      blobs = many;
      once = λ page slot at.
          let two = at_head places.tail page slot (none_at_head page slot at) in
          let one = at_blobs page slot two.1 in rw (two.0, one.0) refl;
      apart = λ page slot at. (at_blobs page slot (tail page slot at)).0;
    }

    pub none_before : AreFree places.blobs places.blob pieces → (page slot : ℕ) → is_one_of places page slot ≡ true → pieces page slot ≡ None
    none_before are page slot is = elim (cases_Bool (is_at places.head page slot)) [
      | inl at ↦ (at_blobs page slot (at_head places.tail page slot (none_at_head page slot at)).1).1
      | inr no_head ↦ elim (cases_Bool (is_at_tail places.tail page slot)) [
        | inl at ↦ (at_blobs page slot (tail page slot at)).1
        | inr no_tail ↦
            let blob : is_at_blob places page slot ≡ true = rw (no_head, no_tail) at is in
            let parts : ((slot == 0) ≡ true) × ((nat_le places.blob page && nat_lt page (places.blob + places.blobs)) ≡ true) = and_parts _ _ blob in
            let ends : (nat_le places.blob page ≡ true) × (nat_lt page (places.blob + places.blobs) ≡ true) = and_parts _ _ parts.1 in
            are.free page slot (leb-true places.blob page ends.0) (ltb-true page (places.blob + places.blobs) ends.1)
      ]
    ]

-- ---- a part that was put

pub tail_put : (row bytes : List ℕ) (page slot count : ℕ) (bodies : ℕ → Option (List ℕ)) (pieces : Pieces) → bytes ≡ tail_of row → nat_lt 0 (tail_size (length row)) ≡ true → PartKept part.Tail count bodies page None slot bytes pieces
    → TailPut row (Some (record { page = page; slot = slot })) count bodies pieces
tail_put row bytes page slot count bodies pieces is some kept = record {
  asked = sym some;
  free = λ p s at.
      let parts : ((page == p) ≡ true) × ((slot == s) ≡ true) = and_parts _ _ at in
      subst (λ (n : ℕ). pieces n s ≡ None) (eqb-true page p parts.0) (subst (λ (n : ℕ). pieces page n ≡ None) (eqb-true slot s parts.1) kept.free);
  data_file = subst (λ (b : List ℕ). HoldsData count bodies (with_one (record { page = page; slot = slot }) (Tail b) pieces)) is
      (subst (HoldsData count bodies) (one_piece page slot (Tail bytes) pieces) kept.data_file);
}

pub head_put : (row bytes : List ℕ) (places : Places) (count : ℕ) (bodies : ℕ → Option (List ℕ)) (pieces : Pieces) → bytes ≡ head_of places row → PartKept part.Head count bodies places.head.page None places.head.slot bytes pieces
    → HeadPut row places count bodies pieces
head_put row bytes places count bodies pieces is kept = record {
  free = kept.free;
  data_file = subst (λ (b : List ℕ). HoldsData count bodies (with_one places.head (Head b) pieces)) is
      (subst (HoldsData count bodies) (one_piece places.head.page places.head.slot (Head bytes) pieces) kept.data_file);
}

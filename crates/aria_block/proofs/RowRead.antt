-- The pieces of a row that has its head at a place.
use Rattle.std.proofs.Common.{◌≡◌, ℕ, ◌+◌, ◌-◌, ◌<◌, ◌==◌, ◌||◌, ◌⊎◌, nat_le, nat_lt, inl, inr, Bool, true, false, Option, Some, None, List, [], ◌++◌, length, take, drop, refl, sym, ap, ◌∙◌, arith, subst, eq-eqb}
use Rattle.std.specs.Prelude.{is_some}
use Rattle.std.proofs.lemmas.Bool.{cases_Bool, and_parts, eqb-true}
use Rattle.std.proofs.lemmas.Bool.Decides.{nat_tests}
use Rattle.aria_page.specs.declared.place.Place.{Place}
use Rattle.aria_page.specs.declared.place.Places.{Places}
use Rattle.aria_block.specs.declared.head_fields.HeadFields.{HeadFields}
use Rattle.aria_block.specs.Pieces.{Head, Tail, Blob, Pieces, is_at, is_at_tail, is_at_blob, is_one_of, piece_of, head_of, tail_of, blob_of, head_size}
use Rattle.aria_block.specs.Rows.{Kept, IsLaid, Rows, IsTiled}
use Rattle.aria_block.specs.Reading.{FitsHead, IsHeadOf, ReadsHead, HasHead, HasRest, ReadsRow}
use Rattle.aria_block.proofs.Tiling.{head_is_one}
use Rattle.aria_block.proofs.HeadText.{head_rest}

at_itself : (place : Place) → is_at place place.page place.slot ≡ true
at_itself place = rw (eq-eqb place.page place.page refl, eq-eqb place.slot place.slot refl) refl

-- a blob page is one
blob_at : (places : Places) (i : ℕ) → i < places.blobs → is_at_blob places (places.blob + i) 0 ≡ true
blob_at places i lt =
    let low : nat_le places.blob (places.blob + i) ≡ true = grind (arith, nat_tests) in
    let high : nat_lt (places.blob + i) (places.blob + places.blobs) ≡ true = grind (arith, nat_tests) in
    rw (low, high) refl

-- each place holds its own piece
pub own_blob : (k : Kept) (page slot : ℕ) → IsLaid k → is_at_blob k.places page slot ≡ true → (is_one_of k.places page slot ≡ true) × (piece_of k.places k.row page slot ≡ Blob (blob_of k.row (page - k.places.blob)))
own_blob k page slot laid at = elim (cases_Bool (is_at_tail k.places.tail page slot)) [
  | inl tail ↦ let off = laid.apart page slot tail in absurd (cc)
  | inr off ↦ elim (cases_Bool (is_at k.places.head page slot)) [
    | inl head ↦ let both : (false || true) ≡ false = rw off at (rw at at (laid.once page slot head)) in absurd (cc)
    | inr away ↦ (rw (away, off, at) refl, rw (away, off) refl)
  ]
]

pub own_tail : (k : Kept) (page slot : ℕ) → IsLaid k → is_at_tail k.places.tail page slot ≡ true → (is_one_of k.places page slot ≡ true) × (piece_of k.places k.row page slot ≡ Tail (tail_of k.row))
own_tail k page slot laid at = elim (cases_Bool (is_at k.places.head page slot)) [
  | inl head ↦ let both : (true || is_at_blob k.places page slot) ≡ false = rw at at (laid.once page slot head) in absurd (cc)
  | inr away ↦ (rw (away, at) refl, rw (away, at) refl)
]

module _ (is_row : List ℕ → Bool) (pieces : Pieces) (rows : Rows) (tiled : IsTiled is_row pieces rows) (page slot : ℕ) where
  module _ (k : Kept) (there : rows page slot ≡ Some k) where
    pub head_piece : pieces page slot ≡ Some (Head (head_of k.places k.row))
    head_piece =
        let at = tiled.head page slot k there in
        tiled.has page slot k there page slot (head_is_one k page slot at) ∙ ap Some (rw at refl)

    pub has_head : FitsHead k → HasHead (record { page = page; slot = slot }) pieces
    has_head fits = record { kept = k; laid = tiled.laid page slot k there; fits = fits; there = head_piece }

    pub blob_piece : (i : ℕ) → i < k.places.blobs → pieces (k.places.blob + i) 0 ≡ Some (Blob (blob_of k.row i))
    blob_piece i lt =
        let own = own_blob k (k.places.blob + i) 0 (tiled.laid page slot k there) (blob_at k.places i lt) in
        let same : k.places.blob + i - k.places.blob ≡ i = omega arith in
        tiled.has page slot k there (k.places.blob + i) 0 own.0 ∙ ap Some (own.1 ∙ ap (λ (j : ℕ). Blob (blob_of k.row j)) same)

    pub tail_piece : (place : Place) → k.places.tail ≡ Some place → pieces place.page place.slot ≡ Some (Tail (tail_of k.row))
    tail_piece place is =
        let at : is_at_tail k.places.tail place.page place.slot ≡ true = subst (λ (o : Option Place). is_at_tail o place.page place.slot ≡ true) (sym is) (at_itself place) in
        let own = own_tail k place.page place.slot (tiled.laid page slot k there) at in
        tiled.has page slot k there place.page place.slot own.0 ∙ ap Some own.1

    pub has_rest : (h : HeadFields) → FitsHead k → IsHeadOf k h → HasRest h k.row pieces
    has_rest h fits of = record {
      blobs = record {
        len = of.len;
        low = let low = fits.0.blob in omega (arith, low, of.blob);
        there = λ i lt. subst (λ (n : ℕ). pieces (n + i) 0 ≡ Some (Blob (blob_of k.row i))) (sym of.blob) (blob_piece i (omega (arith, lt, of.blobs)));
      };
      some = ap is_some of.tail ∙ (tiled.laid page slot k there).tail;
      tail = λ place is. tail_piece place (sym of.tail ∙ is);
    }

    -- what was read is the row
    pub head_says : (h : HeadFields) (old new : List ℕ) → FitsHead k → ReadsHead pieces (record { page = page; slot = slot }) h old new → IsHeadOf k h × (new ≡ old ++ take (head_size (length k.row)) k.row)
    head_says h old new fits reads =
        let both : Some (Head reads.bytes) ≡ Some (Head (head_of k.places k.row)) = sym reads.there ∙ head_piece in
        let same : reads.bytes ≡ head_of k.places k.row = cc in
        (reads.says k (tiled.laid page slot k there) fits same, reads.out ∙ ap (λ (l : List ℕ). old ++ l) (ap (drop 14) same ∙ head_rest k.places k.row))

    pub same_kept : (h : HeadFields) (out : List ℕ) → IsHeadOf k h → out ≡ k.row → record { places = record { head = record { page = page; slot = slot }; tail = h.tail; blob = h.blob; blobs = h.blobs }; row = out } ≡ k
    same_kept h out of is =
        let at : is_at k.places.head page slot ≡ true = tiled.head page slot k there in
        let parts : ((k.places.head.page == page) ≡ true) × ((k.places.head.slot == slot) ≡ true) = and_parts _ _ at in
        let pages : page ≡ k.places.head.page = sym (eqb-true k.places.head.page page parts.0) in
        let slots : slot ≡ k.places.head.slot = sym (eqb-true k.places.head.slot slot parts.1) in
        λ i. record { places = record { head = record { page = pages i; slot = slots i }; tail = of.tail i; blob = of.blob i; blobs = of.blobs i }; row = is i }

  -- where no row has its head, no head stands
  pub none_there : (bytes : List ℕ) → rows page slot ≡ None → pieces page slot ≡ Some (Head bytes) → ⊥
  none_there bytes none is = found (tiled.of page slot (Head bytes) is)
    where
      found : (h : ℕ) × (s : ℕ) × (k : Kept) × (rows h s ≡ Some k) × (is_one_of k.places page slot ≡ true) → ⊥
      found (h, s, k, there, one) = elim (cases_Bool (is_at k.places.head page slot)) [
        | inl at ↦
            let own : (k.places.head.page ≡ h) × (k.places.head.slot ≡ s) = at_own k h s (tiled.head h s k there) in
            let here : (k.places.head.page ≡ page) × (k.places.head.slot ≡ slot) = at_own k page slot at in
            let row : rows page slot ≡ Some k = subst (λ (p : ℕ). rows p slot ≡ Some k) (sym own.0 ∙ here.0) (subst (λ (t : ℕ). rows h t ≡ Some k) (sym own.1 ∙ here.1) there) in
            absurd (cc)
        | inr away ↦ no_head_piece k (cases_Bool (is_at_tail k.places.tail page slot)) away (sym (tiled.has h s k there page slot one) ∙ is)
      ]
        where
          at_own : (k : Kept) (h s : ℕ) → is_at k.places.head h s ≡ true → (k.places.head.page ≡ h) × (k.places.head.slot ≡ s)
          at_own k h s at =
              let parts : ((k.places.head.page == h) ≡ true) × ((k.places.head.slot == s) ≡ true) = and_parts _ _ at in
              (eqb-true k.places.head.page h parts.0, eqb-true k.places.head.slot s parts.1)

          no_head_piece : (k : Kept) → (is_at_tail k.places.tail page slot ≡ true) ⊎ (is_at_tail k.places.tail page slot ≡ false) → is_at k.places.head page slot ≡ false → Some (piece_of k.places k.row page slot) ≡ Some (Head bytes) → ⊥
          no_head_piece k (inl tail) away same = let e : Some (Tail (tail_of k.row)) ≡ Some (Head bytes) = rw tail at (rw away at same) in absurd (cc)
          no_head_piece k (inr off) away same = let e : Some (Blob (blob_of k.row (page - k.places.blob))) ≡ Some (Head bytes) = rw off at (rw away at same) in absurd (cc)

-- what was read of the row that has its head there
pub row_read : (is_row : List ℕ → Bool) (pieces : Pieces) (rows : Rows) → IsTiled is_row pieces rows → (place : Place) (h : HeadFields) (first mid out : List ℕ) → first ≡ [] → ReadsHead pieces place h first mid
    → ((row : List ℕ) → HasRest h row pieces → mid ≡ take (head_size (length row)) row → out ≡ row) → ReadsRow (rows place.page place.slot) (record { head = place; tail = h.tail; blob = h.blob; blobs = h.blobs }) out
row_read is_row pieces rows tiled place h first mid out empty reads rest = by (rows place.page place.slot) refl
  where
    by : (o : Option Kept) → rows place.page place.slot ≡ o → ReadsRow o (record { head = place; tail = h.tail; blob = h.blob; blobs = h.blobs }) out
    by None none = none_there is_row pieces rows tiled place.page place.slot reads.bytes none reads.there
    by (Some k) there = λ fits.
        let says = head_says is_row pieces rows tiled place.page place.slot k there h first mid fits reads in
        same_kept is_row pieces rows tiled place.page place.slot k there h out says.0
        (rest k.row (has_rest is_row pieces rows tiled place.page place.slot k there h fits says.0) (says.1 ∙ ap (λ (l : List ℕ). l ++ take (head_size (length k.row)) k.row) empty))

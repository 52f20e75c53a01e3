-- One row more, and one less.
use Rattle.std.proofs.Common.{◌≡◌, ℕ, Bool, true, false, ◌==◌, inl, inr, List, Option, Some, None, refl, sym, ◌∙◌, subst, eq-eqb}
use Rattle.std.specs.Prelude.{IsTrue}
use Rattle.std.proofs.lemmas.Bool.{cases_Bool, and_parts, eqb-true}
use Rattle.aria_block.specs.Pieces.{Piece, Pieces, is_at, is_one_of, piece_of, with_row, without_row}
use Rattle.aria_block.specs.Rows.{Kept, IsLaid, Rows, with_kept, without_kept, IsTiled}

-- a row's head is one of its places
pub head_is_one : (k : Kept) (h s : ℕ) → is_at k.places.head h s ≡ true → is_one_of k.places h s ≡ true
head_is_one k h s at = rw at refl

module _ (is_row : List ℕ → Bool) (pieces : Pieces) (rows : Rows) (tiled : IsTiled is_row pieces rows) where
  -- where nothing stands, no row has a place
  apart : (h s : ℕ) (l : Kept) (page slot : ℕ) → rows h s ≡ Some l → pieces page slot ≡ None → is_one_of l.places page slot ≡ false
  apart h s l page slot is none = elim (cases_Bool (is_one_of l.places page slot)) [
    | inl one ↦ let there = tiled.has h s l is page slot one in absurd (cc)
    | inr other ↦ other
  ]

  module _ (k : Kept) (laid : IsLaid k) (row : IsTrue (is_row k.row)) (free : (page slot : ℕ) → is_one_of k.places page slot ≡ true → pieces page slot ≡ None) where
    -- no row had that place for its head
    pub no_head : (h s : ℕ) → is_at k.places.head h s ≡ true → rows h s ≡ None
    no_head h s at = none_of (rows h s) (λ l is. let there = tiled.has h s l is h s (head_is_one l h s (tiled.head h s l is)) in let none = free h s (head_is_one k h s at) in absurd (cc))
      where
        none_of : (o : Option Kept) → ((l : Kept) → o ≡ Some l → ⊥) → o ≡ None
        none_of None not = refl
        none_of (Some l) not = absurd (not l refl)

    -- the rows are that one and those from before
    both : {A : Type 0} (h s : ℕ) (l : Kept) → with_kept k rows h s ≡ Some l → ((is_at k.places.head h s ≡ true) → k ≡ l → A) → (rows h s ≡ Some l → A) → A
    both h s l is new old = elim (cases_Bool (is_at k.places.head h s)) [
      | inl at ↦ let same : Some k ≡ Some l = rw at at is in new at (cc)
      | inr other ↦ old (rw other at is)
    ]

    pub with_one : IsTiled is_row (with_row k.places k.row pieces) (with_kept k rows)
    with_one = record {
      head = λ h s l is. both h s l is (λ at same. subst (λ (m : Kept). is_at m.places.head h s ≡ true) same at) (tiled.head h s l);
      laid = λ h s l is. both h s l is (λ at same. subst IsLaid same laid) (tiled.laid h s l);
      rows = λ h s l is. both h s l is (λ at same. subst (λ (m : Kept). IsTrue (is_row m.row)) same row) (tiled.rows h s l);
      has = λ h s l is page slot one. both h s l is
          (λ at same. subst (λ (m : Kept). is_one_of m.places page slot ≡ true → with_row k.places k.row pieces page slot ≡ Some (piece_of m.places m.row page slot)) same (λ here. rw here refl) one)
          (λ was. old_has h s l was page slot one);
      of = λ page slot x is. found page slot x is;
      once = λ page slot h s g t l m is js one other. both h s l is
          (λ at same. both g t m js (λ bt too. sym same ∙ too) (λ was. let clash = apart g t m page slot was (free page slot (subst (λ (n : Kept). is_one_of n.places page slot ≡ true) (sym same) one)) in absurd (cc)))
          (λ was. both g t m js (λ bt too. let clash = apart h s l page slot was (free page slot (subst (λ (n : Kept). is_one_of n.places page slot ≡ true) (sym too) other)) in absurd (cc))
          (λ ws. tiled.once page slot h s g t l m was ws one other));
    }
      where
        old_has : (h s : ℕ) (l : Kept) → rows h s ≡ Some l → (page slot : ℕ) → is_one_of l.places page slot ≡ true → with_row k.places k.row pieces page slot ≡ Some (piece_of l.places l.row page slot)
        old_has h s l was page slot one = elim (cases_Bool (is_one_of k.places page slot)) [
          | inl here ↦ let clash = apart h s l page slot was (free page slot here) in absurd (cc)
          | inr other ↦ rw other (tiled.has h s l was page slot one)
        ]

        found : (page slot : ℕ) (x : Piece) → with_row k.places k.row pieces page slot ≡ Some x → (h : ℕ) × (s : ℕ) × (l : Kept) × (with_kept k rows h s ≡ Some l) × (is_one_of l.places page slot ≡ true)
        found page slot x is = elim (cases_Bool (is_one_of k.places page slot)) [
          | inl here ↦ (k.places.head.page, k.places.head.slot, k, itself, here)
          | inr other ↦ old (tiled.of page slot x (rw other at is))
        ]
          where
            itself : with_kept k rows k.places.head.page k.places.head.slot ≡ Some k
            itself = rw (eq-eqb k.places.head.page k.places.head.page refl, eq-eqb k.places.head.slot k.places.head.slot refl) refl

            old : (h : ℕ) × (s : ℕ) × (l : Kept) × (rows h s ≡ Some l) × (is_one_of l.places page slot ≡ true) → (h : ℕ) × (s : ℕ) × (l : Kept) × (with_kept k rows h s ≡ Some l) × (is_one_of l.places page slot ≡ true)
            old (h, s, l, was, one) = (h, s, l, kept h s l was, one)
              where
                kept : (h s : ℕ) (l : Kept) → rows h s ≡ Some l → with_kept k rows h s ≡ Some l
                kept h s l was = elim (cases_Bool (is_at k.places.head h s)) [
                  | inl at ↦ let none = free h s (head_is_one k h s at) in let there = tiled.has h s l was h s (head_is_one l h s (tiled.head h s l was)) in absurd (cc)
                  | inr other ↦ rw other was
                ]

  module _ (k : Kept) (there : rows k.places.head.page k.places.head.slot ≡ Some k) where
    -- the row at the head's place is that one
    pub at_head : (h s : ℕ) → is_at k.places.head h s ≡ true → rows h s ≡ Some k
    at_head h s at =
        let parts : ((k.places.head.page == h) ≡ true) × ((k.places.head.slot == s) ≡ true) = and_parts _ _ at in
        subst (λ (n : ℕ). rows n s ≡ Some k) (eqb-true k.places.head.page h parts.0) (subst (λ (n : ℕ). rows k.places.head.page n ≡ Some k) (eqb-true k.places.head.slot s parts.1) there)

    -- the rows that are left
    left : (h s : ℕ) (l : Kept) → without_kept k.places.head rows h s ≡ Some l → (is_at k.places.head h s ≡ false) × (rows h s ≡ Some l)
    left h s l is = elim (cases_Bool (is_at k.places.head h s)) [
      | inl at ↦ let none : None ≡ Some l = rw at at is in absurd (cc)
      | inr other ↦ (other, rw other at is)
    ]

    -- have no place of that one
    beside : (h s : ℕ) (l : Kept) (page slot : ℕ) → is_at k.places.head h s ≡ false → rows h s ≡ Some l → is_one_of l.places page slot ≡ true → is_one_of k.places page slot ≡ false
    beside h s l page slot other is one = elim (cases_Bool (is_one_of k.places page slot)) [
      | inl both ↦
          let same : k ≡ l = tiled.once page slot k.places.head.page k.places.head.slot h s k l there is both one in
          let at : is_at k.places.head h s ≡ true = subst (λ (m : Kept). is_at m.places.head h s ≡ true) (sym same) (tiled.head h s l is) in absurd (cc)
      | inr no_one ↦ no_one
    ]

    pub without_one : IsTiled is_row (without_row k.places pieces) (without_kept k.places.head rows)
    without_one = record {
      head = λ h s l is. tiled.head h s l (left h s l is).1;
      laid = λ h s l is. tiled.laid h s l (left h s l is).1;
      rows = λ h s l is. tiled.rows h s l (left h s l is).1;
      has = λ h s l is page slot one. rw (beside h s l page slot (left h s l is).0 (left h s l is).1 one) (tiled.has h s l (left h s l is).1 page slot one);
      of = λ page slot x is. found page slot x is;
      once = λ page slot h s g t l m is js one other. tiled.once page slot h s g t l m (left h s l is).1 (left g t m js).1 one other;
    }
      where
        kept : (page slot h s : ℕ) (l : Kept) → is_one_of k.places page slot ≡ false → rows h s ≡ Some l → is_one_of l.places page slot ≡ true → without_kept k.places.head rows h s ≡ Some l
        kept page slot h s l off was one = elim (cases_Bool (is_at k.places.head h s)) [
          | inl at ↦
              let both : Some k ≡ Some l = sym (at_head h s at) ∙ was in
              let same : k ≡ l = cc in
              let on : is_one_of k.places page slot ≡ true = subst (λ (m : Kept). is_one_of m.places page slot ≡ true) (sym same) one in absurd (cc)
          | inr other ↦ rw other was
        ]

        old : (page slot : ℕ) → is_one_of k.places page slot ≡ false → (h : ℕ) × (s : ℕ) × (l : Kept) × (rows h s ≡ Some l) × (is_one_of l.places page slot ≡ true)
            → (h : ℕ) × (s : ℕ) × (l : Kept) × (without_kept k.places.head rows h s ≡ Some l) × (is_one_of l.places page slot ≡ true)
        old page slot off (h, s, l, was, one) = (h, s, l, kept page slot h s l off was one, one)

        found : (page slot : ℕ) (x : Piece) → without_row k.places pieces page slot ≡ Some x → (h : ℕ) × (s : ℕ) × (l : Kept) × (without_kept k.places.head rows h s ≡ Some l) × (is_one_of l.places page slot ≡ true)
        found page slot x is = elim (cases_Bool (is_one_of k.places page slot)) [
          | inl here ↦ let none : None ≡ Some x = rw here at is in absurd (cc)
          | inr off ↦ old page slot off (tiled.of page slot x (rw off at is))
        ]

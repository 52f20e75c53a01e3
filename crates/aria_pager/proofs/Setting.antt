-- One slot gets other numbers of pages: it stands for the same table.
use Rattle.std.proofs.Common.{◌≡◌, ◌∙◌, ◌||◌, ℕ, zero, suc, ◌+◌, ◌<◌, Bool, true, false, nat_eq, List, [], ◌∷◌, ◌++◌, length, take, drop, ap, sym, refl, arith, Some, inl, inr}
use Rattle.std.specs.Prelude.{slice_get}
use Rattle.std.specs.Option.{option_map, option_and_then}
use Rattle.std.specs.List.{list_any}
use Rattle.std.proofs.lemmas.Bool.{cases_Bool, eqb-true, eq-eqb}
use Rattle.aria_page.specs.declared.place.Part.{Part}
use Rattle.aria_page.specs.declared.place.Part.TheVariants.{Keys, Rows}
use Rattle.aria_pager.specs.declared.slot.Slot.{Slot}
use Rattle.aria_pager.specs.declared.slot.FilePages.{FilePages}
use Rattle.aria_pager.specs.PageStore.{name_in, sizes_in, stands_for, set_at}
use Rattle.aria_pager.specs.Pager.{pages_in, with_pages}

pub overwritten : (xs : List Slot) (n : ℕ) (y : Slot) → n < length xs → take n xs ++ ((y ∷ []) ++ drop (n + 1) xs) ≡ set_at xs n y
overwritten xs n y low = ap (λ (k : ℕ). take n xs ++ (y ∷ drop k xs)) (let e : n + 1 ≡ suc n = omega arith in e) ∙ by xs n low
  where
    by : (xs : List Slot) (n : ℕ) → n < length xs → take n xs ++ (y ∷ drop (suc n) xs) ≡ set_at xs n y
    by [] n low = absurd (let e : n < 0 = low in omega (arith, e))
    by (x ∷ xs) zero low = refl
    by (x ∷ xs) (suc n) low = ap (λ (l : List Slot). x ∷ l) (by xs n (let e : suc n < suc (length xs) = low in omega (arith, e)))

pub set_here : (xs : List Slot) (n : ℕ) (x y : Slot) → slice_get xs n ≡ Some x → slice_get (set_at xs n y) n ≡ Some y
set_here [] n x y at = absurd (cc)
set_here (z ∷ xs) zero x y at = refl
set_here (z ∷ xs) (suc n) x y at = set_here xs n x y at

eq_suc : (n m : ℕ) → nat_eq (suc n) (suc m) ≡ false → nat_eq n m ≡ false
eq_suc n m off = elim (cases_Bool (nat_eq n m)) [
  | inl same ↦ absurd (let e : true ≡ false = sym (eq-eqb (suc n) (suc m) (ap suc (eqb-true n m same))) ∙ off in (cc))
  | inr other ↦ other
]

pub set_other : (xs : List Slot) (n m : ℕ) (y : Slot) → nat_eq n m ≡ false → slice_get (set_at xs n y) m ≡ slice_get xs m
set_other [] n m y off = refl
set_other (x ∷ xs) zero zero y off = absurd (cc)
set_other (x ∷ xs) zero (suc m) y off = refl
set_other (x ∷ xs) (suc n) zero y off = refl
set_other (x ∷ xs) (suc n) (suc m) y off = set_other xs n m y (eq_suc n m off)

some_slot : (a b : Slot) → Some a ≡ Some b → a ≡ b
some_slot a b e = cc

-- the slot stands for the same table
pub set_names : (xs : List Slot) (n m : ℕ) (x y : Slot) → slice_get xs n ≡ Some x → name_in y ≡ name_in x → option_and_then name_in (slice_get (set_at xs n y) m) ≡ option_and_then name_in (slice_get xs m)
set_names [] n m x y at same = refl
set_names (z ∷ xs) zero zero x y at same = same ∙ ap name_in (sym (some_slot z x at))
set_names (z ∷ xs) zero (suc m) x y at same = refl
set_names (z ∷ xs) (suc n) zero x y at same = refl
set_names (z ∷ xs) (suc n) (suc m) x y at same = set_names xs n m x y at same

pub set_any : (p : Slot → Bool) (xs : List Slot) (n : ℕ) (x y : Slot) → slice_get xs n ≡ Some x → p y ≡ p x → list_any p (set_at xs n y) ≡ list_any p xs
set_any p [] n x y at same = refl
set_any p (z ∷ xs) zero x y at same = ap (λ (b : Bool). b || list_any p xs) (same ∙ ap p (sym (some_slot z x at)))
set_any p (z ∷ xs) (suc n) x y at same = ap (λ (b : Bool). p z || b) (set_any p xs n x y at same)

-- and its files have as many pages
pub set_sizes : (xs : List Slot) (n m : ℕ) (x y : Slot) → slice_get xs n ≡ Some x → sizes_in y ≡ sizes_in x → option_map sizes_in (slice_get (set_at xs n y) m) ≡ option_map sizes_in (slice_get xs m)
set_sizes [] n m x y at same = refl
set_sizes (z ∷ xs) zero zero x y at same = ap Some (same ∙ ap sizes_in (sym (some_slot z x at)))
set_sizes (z ∷ xs) zero (suc m) x y at same = refl
set_sizes (z ∷ xs) (suc n) zero x y at same = refl
set_sizes (z ∷ xs) (suc n) (suc m) x y at same = set_sizes xs n m x y at same

pub pages_sized : (part : Part) (pages : FilePages) (slot : Slot) → pages.pages ≡ (pages_in slot part).pages → sizes_in (with_pages part pages slot) ≡ sizes_in slot
pages_sized Keys pages slot same = λ i. (same i, slot.rows.pages)
pages_sized Rows pages slot same = λ i. (slot.keys.pages, same i)

-- other numbers of pages change neither the name nor whether the slot is used
pub pages_name : (part : Part) (pages : FilePages) (slot : Slot) → (with_pages part pages slot).name ≡ slot.name
pages_name Keys pages slot = refl
pages_name Rows pages slot = refl

pub pages_used : (part : Part) (pages : FilePages) (slot : Slot) → (with_pages part pages slot).used ≡ slot.used
pages_used Keys pages slot = refl
pages_used Rows pages slot = refl

pub pages_named : (part : Part) (pages : FilePages) (slot : Slot) → name_in (with_pages part pages slot) ≡ name_in slot
pages_named Keys pages slot = refl
pages_named Rows pages slot = refl

pub pages_stand : (part : Part) (pages : FilePages) (name : List ℕ) (slot : Slot) → stands_for name (with_pages part pages slot) ≡ stands_for name slot
pages_stand Keys pages name slot = refl
pages_stand Rows pages name slot = refl

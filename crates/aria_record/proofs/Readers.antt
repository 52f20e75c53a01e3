-- Readers put together read what was spelled.
use Rattle.std.proofs.Common.{◌≡◌, ℕ, ◌^◌, ◌<◌, cond, eqb, List, [], ◌++◌, length, Option, Some, None, refl, sym, ap, subst, ◌∙◌, append_assoc}
use Rattle.std.specs.Prelude.{IsTrue}
use Rattle.std.specs.List.{flat_map, AllByRecursion}
use Rattle.std.proofs.lemmas.Bool.{eqb-true}
use Rattle.std.proofs.lemmas.List.{append-nil, nil_from_length}
use Rattle.std.proofs.lemmas.Option.{same_Some, cond_some}
use Rattle.aria_page.specs.Field.{◌>>=◌, AreBytes, Takes}
use Rattle.aria_page.specs.Number.{number, number_at}
use Rattle.aria_page.specs.Lsn.{IsLsn, lsn_bytes, lsn_at}
use Rattle.aria_page.specs.Text.{name_bytes, name_at, counted_at}
use Rattle.aria_page.specs.Word.{is_word}
use Rattle.aria_page.proofs.Fields.{bind_some, Takes-then}
use Rattle.aria_page.proofs.Numbers.{number_takes, number_again}
use Rattle.aria_page.proofs.StoredLsn.{lsn_takes, lsn_again}
use Rattle.aria_page.proofs.Texts.{name_takes, name_again, counted_takes, counted_again}
use Rattle.aria_page.specs.Items.{list_bytes, items_at, list_at}
use Rattle.aria_page.proofs.Items.{Reader, Reads, items_take, items_again}
use Rattle.aria_record.specs.Spelled.{dirty_bytes}
use Rattle.aria_record.specs.Groups.{DirtyFits}
use Rattle.aria_record.specs.Reading.{read_both, read_as, read_whole, read_dirty, read_dirties}

-- ---- numbers, names and log sequence numbers

pub number_read : (n : ℕ) → Reads (number n) (λ x. x < 256 ^ n) (number_at n)
number_read n = record { takes = number_takes n; again = number_again n }

pub name_read : Reads name_bytes (λ name. IsTrue (is_word name)) name_at
name_read = record { takes = name_takes; again = name_again }

pub lsn_read : Reads lsn_bytes IsLsn lsn_at
lsn_read = record { takes = lsn_takes; again = lsn_again }

pub counted_read : (n : ℕ) → Reads (λ text. number n (length text) ++ text) (λ text. length text < 256 ^ n) (counted_at n)
counted_read n = record { takes = counted_takes n; again = counted_again n }

-- ---- readers put together

both_take : {A B : Type 0} (sa : A → List ℕ) (fa : A → Type 0) (ra : Reader A) (sb : B → List ℕ) (fb : B → Type 0) (rb : Reader B) → Reads sa fa ra → Reads sb fb rb
    → (bytes : List ℕ) (x : (A × B) × List ℕ) → AreBytes bytes → read_both ra rb bytes ≡ Some x → Takes bytes (sa x.0.0 ++ sb x.0.1) x.1 × (fa x.0.0 × fb x.0.1)
unfolding read_both
both_take {A} {B} sa fa ra sb fb rb la lb bytes x fits e =
    let a = bind_some (ra bytes) (λ a. rb a.1 >>= λ b. Some ((a.0, b.0), b.1)) x e in
    let b = bind_some (rb a.0.1) (λ b. Some ((a.0.0, b.0), b.1)) x a.2 in
    let first = la.takes bytes a.0 fits a.1 in
    let second = lb.takes a.0.1 b.0 first.0.rest_bytes b.1 in
    let made : (A × B) × List ℕ = ((a.0.0, b.0.0), b.0.1) in
    subst (λ (y : (A × B) × List ℕ). Takes bytes (sa y.0.0 ++ sb y.0.1) y.1 × (fa y.0.0 × fb y.0.1)) (same_Some made x b.2)
    (Takes-then bytes (sa a.0.0) a.0.1 (sb b.0.0) b.0.1 first.0 second.0, (first.1, second.1))

both_again : {A B : Type 0} (sa : A → List ℕ) (fa : A → Type 0) (ra : Reader A) (sb : B → List ℕ) (fb : B → Type 0) (rb : Reader B) → Reads sa fa ra → Reads sb fb rb
    → (x : A × B) (rest : List ℕ) → fa x.0 × fb x.1 → read_both ra rb ((sa x.0 ++ sb x.1) ++ rest) ≡ Some (x, rest)
unfolding read_both
both_again sa fa ra sb fb rb la lb x rest fits =
    ap (λ (l : List ℕ). ra l >>= λ a. rb a.1 >>= λ b. Some ((a.0, b.0), b.1)) (append_assoc (sa x.0) (sb x.1) rest)
    ∙ rw (la.again x.0 (sb x.1 ++ rest) fits.0, lb.again x.1 rest fits.1) refl

-- two fields one after the other
pub both_read : {A B : Type 0} (sa : A → List ℕ) (fa : A → Type 0) (ra : Reader A) (sb : B → List ℕ) (fb : B → Type 0) (rb : Reader B) → Reads sa fa ra → Reads sb fb rb
    → Reads {A = A × B} (λ x. sa x.0 ++ sb x.1) (λ x. fa x.0 × fb x.1) (read_both ra rb)
both_read sa fa ra sb fb rb la lb = record { takes = both_take sa fa ra sb fb rb la lb; again = both_again sa fa ra sb fb rb la lb }

-- What a field means is spelled as the field, and what can be stored is meant by some field.
pub record Means {A B : Type 0} (sa : A → List ℕ) (fa : A → Type 0) (sb : B → List ℕ) (fb : B → Type 0) (means : A → Option B) : Type 0 where
  pub found : (a : A) (b : B) → fa a → means a ≡ Some b → (sa a ≡ sb b) × fb b
  pub meant : (b : B) → fb b → (a : A) × fa a × (means a ≡ Some b) × (sa a ≡ sb b)

as_take : {A B : Type 0} (sa : A → List ℕ) (fa : A → Type 0) (ra : Reader A) (sb : B → List ℕ) (fb : B → Type 0) (means : A → Option B) → Reads sa fa ra → Means sa fa sb fb means
    → (bytes : List ℕ) (x : B × List ℕ) → AreBytes bytes → read_as means ra bytes ≡ Some x → Takes bytes (sb x.0) x.1 × fb x.0
unfolding read_as
as_take {A} {B} sa fa ra sb fb means la m bytes x fits e =
    let a = bind_some (ra bytes) (λ a. means a.0 >>= λ b. Some (b, a.1)) x e in
    let b = bind_some (means a.0.0) (λ b. Some (b, a.0.1)) x a.2 in
    let first = la.takes bytes a.0 fits a.1 in
    let is = m.found a.0.0 b.0 first.1 b.1 in
    let made : B × List ℕ = (b.0, a.0.1) in
    subst (λ (y : B × List ℕ). Takes bytes (sb y.0) y.1 × fb y.0) (same_Some made x b.2) (subst (λ (l : List ℕ). Takes bytes l a.0.1) is.0 first.0, is.1)

as_again : {A B : Type 0} (sa : A → List ℕ) (fa : A → Type 0) (ra : Reader A) (sb : B → List ℕ) (fb : B → Type 0) (means : A → Option B) → Reads sa fa ra → Means sa fa sb fb means
    → (b : B) (rest : List ℕ) → fb b → read_as means ra (sb b ++ rest) ≡ Some (b, rest)
unfolding read_as
as_again {A} {B} sa fa ra sb fb means la m b rest fits =
    let a = m.meant b fits in
    ap (λ (l : List ℕ). ra (l ++ rest) >>= λ a. means a.0 >>= λ b. Some (b, a.1)) (sym a.3) ∙ rw (la.again a.0 rest a.1, a.2) refl

-- what a field means
pub as_read : {A B : Type 0} (sa : A → List ℕ) (fa : A → Type 0) (ra : Reader A) (sb : B → List ℕ) (fb : B → Type 0) (means : A → Option B) → Reads sa fa ra → Means sa fa sb fb means
    → Reads sb fb (read_as means ra)
as_read sa fa ra sb fb means la m = record { takes = as_take sa fa ra sb fb means la m; again = as_again sa fa ra sb fb means la m }

-- ---- all of the bytes

pub whole_takes : {A : Type 0} (sa : A → List ℕ) (fa : A → Type 0) (ra : Reader A) → Reads sa fa ra → (bytes : List ℕ) (a : A) → AreBytes bytes → read_whole ra bytes ≡ Some a → (bytes ≡ sa a) × fa a
unfolding read_whole
whole_takes {A} sa fa ra la bytes a fits e =
    let x = bind_some (ra bytes) (λ x. cond (eqb (length x.1) 0) (Some x.0) None) a e in
    let t = cond_some (eqb (length x.0.1) 0) x.0.0 a x.2 in
    let first = la.takes bytes x.0 fits x.1 in
    let nothing : x.0.1 ≡ [] = nil_from_length x.0.1 (eqb-true _ _ t.0) in
    let all : bytes ≡ sa x.0.0 = first.0.parts ∙ ap (λ (l : List ℕ). sa x.0.0 ++ l) nothing ∙ append-nil (sa x.0.0) in
    subst (λ (y : A). (bytes ≡ sa y) × fa y) t.1 (all, first.1)

pub whole_again : {A : Type 0} (sa : A → List ℕ) (fa : A → Type 0) (ra : Reader A) → Reads sa fa ra → (a : A) → fa a → read_whole ra (sa a) ≡ Some a
unfolding read_whole
whole_again sa fa ra la a fits = rw (← append-nil (sa a), la.again a [] fits) refl

-- ---- items behind their number

many_take : {A : Type 0} (n : ℕ) (spell : A → List ℕ) (Fits : A → Type 0) (read : Reader A) → Reads spell Fits read → (bytes : List ℕ) (x : List A × List ℕ) → AreBytes bytes
    → (number_at n bytes >>= λ count. items_at read count.0 count.1) ≡ Some x → Takes bytes (number n (length x.0) ++ flat_map spell x.0) x.1 × ((length x.0 < 256 ^ n) × AllByRecursion Fits x.0)
many_take n spell Fits read laws bytes x fits e =
    let a = bind_some (number_at n bytes) (λ count. items_at read count.0 count.1) x e in
    let first = number_takes n bytes a.0 fits a.1 in
    let second = items_take spell Fits read laws a.0.0 a.0.1 x first.0.rest_bytes a.2 in
    let both = Takes-then bytes (number n a.0.0) a.0.1 (flat_map spell x.0) x.1 first.0 second.spelled in
    (subst (λ (k : ℕ). Takes bytes (number n k ++ flat_map spell x.0) x.1) (sym second.count) both, (subst (λ (k : ℕ). k < 256 ^ n) (sym second.count) first.1, second.each))

many_again : {A : Type 0} (n : ℕ) (spell : A → List ℕ) (Fits : A → Type 0) (read : Reader A) → Reads spell Fits read → (items : List A) (rest : List ℕ) → (length items < 256 ^ n) × AllByRecursion Fits items
    → (number_at n ((number n (length items) ++ flat_map spell items) ++ rest) >>= λ count. items_at read count.0 count.1) ≡ Some (items, rest)
many_again n spell Fits read laws items rest fits =
    ap (λ (l : List ℕ). number_at n l >>= λ count. items_at read count.0 count.1) (append_assoc (number n (length items)) (flat_map spell items) rest)
    ∙ rw (number_again n (length items) (flat_map spell items ++ rest) fits.0) (items_again spell Fits read laws items rest fits.1)

pub list_read : {A : Type 0} (spell : A → List ℕ) (Fits : A → Type 0) (read : Reader A) → Reads spell Fits read → Reads (list_bytes spell) (λ items. (length items < 256 ^ 1) × AllByRecursion Fits items) (list_at read)
unfolding list_at
list_read spell Fits read laws = record { takes = many_take 1 spell Fits read laws; again = many_again 1 spell Fits read laws }

pub dirties_read : (laws : Reads dirty_bytes DirtyFits read_dirty) → Reads (λ items. number 4 (length items) ++ flat_map dirty_bytes items) (λ items. (length items < 256 ^ 4) × AllByRecursion DirtyFits items) read_dirties
unfolding read_dirties
dirties_read laws = record { takes = many_take 4 dirty_bytes DirtyFits read_dirty laws; again = many_again 4 dirty_bytes DirtyFits read_dirty laws }

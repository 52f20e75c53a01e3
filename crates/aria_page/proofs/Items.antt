-- Items that are stored one after another.
use Rattle.std.proofs.Common.{◌≡◌, ℕ, zero, suc, ◌+◌, ◌-◌, ◌<◌, ◌≤◌, List, [], ◌∷◌, ◌++◌, length, Option, Some, None, refl, sym, ap, subst, ◌∙◌, append_assoc, arith}
use Rattle.std.specs.List.{flat_map, AllByRecursion}
use Rattle.std.proofs.lemmas.List.{append-nil}
use Rattle.std.proofs.lemmas.List.Concat.{flat_map-cons}
use Rattle.std.proofs.lemmas.Option.{same_Some}
use Rattle.aria_page.specs.Field.{◌>>=◌, AreBytes, Takes}
use Rattle.aria_page.specs.Number.{number, number_at}
use Rattle.aria_page.proofs.Fields.{bind_some, Takes-then}
use Rattle.aria_page.proofs.Numbers.{number_takes, number_again}
use Rattle.aria_page.specs.Items.{items_at, list_bytes, list_at}

-- a reader of an item
abbrev pub Reader : Type 0 → Type 0
Reader A = List ℕ → Option (A × List ℕ)

-- What is read is spelled so, and what is spelled so is read.
pub record Reads {A : Type 0} (spell : A → List ℕ) (Fits : A → Type 0) (read : Reader A) : Type 0 where
  pub takes : (bytes : List ℕ) (x : A × List ℕ) → AreBytes bytes → read bytes ≡ Some x → Takes bytes (spell x.0) x.1 × Fits x.0
  pub again : (a : A) (rest : List ℕ) → Fits a → read (spell a ++ rest) ≡ Some (a, rest)

-- what is read of items
pub record AreRead {A : Type 0} (spell : A → List ℕ) (Fits : A → Type 0) (n : ℕ) (bytes : List ℕ) (x : List A × List ℕ) : Type 0 where
  pub spelled : Takes bytes (flat_map spell x.0) x.1
  pub count : length x.0 ≡ n
  pub each : AllByRecursion Fits x.0

pub items_take : {A : Type 0} (spell : A → List ℕ) (Fits : A → Type 0) (read : Reader A) → Reads spell Fits read
    → (n : ℕ) (bytes : List ℕ) (x : List A × List ℕ) → AreBytes bytes → items_at read n bytes ≡ Some x → AreRead spell Fits n bytes x
unfolding items_at
items_take {A} spell Fits read laws zero bytes x fits e =
    let nothing : List A × List ℕ = ([], bytes) in
    subst (λ (y : List A × List ℕ). AreRead spell Fits 0 bytes y) (same_Some nothing x e) (record { spelled = record { parts = refl; rest_bytes = fits }; count = refl; each = tt })
items_take {A} spell Fits read laws (suc n) bytes x fits e =
    let a = bind_some (read bytes) (λ first. items_at read n first.1 >>= λ others. Some (first.0 ∷ others.0, others.1)) x e in
    let b = bind_some (items_at read n a.0.1) (λ others. Some (a.0.0 ∷ others.0, others.1)) x a.2 in
    let first = laws.takes bytes a.0 fits a.1 in
    let second = items_take spell Fits read laws n a.0.1 b.0 first.0.rest_bytes b.1 in
    let both = Takes-then bytes (spell a.0.0) a.0.1 (flat_map spell b.0.0) b.0.1 first.0 second.spelled in
    let made : List A × List ℕ = (a.0.0 ∷ b.0.0, b.0.1) in
    subst (λ (y : List A × List ℕ). AreRead spell Fits (suc n) bytes y) (same_Some made x b.2) (record { spelled = rw flat_map-cons both; count = ap suc second.count; each = (first.1, second.each) })

pub items_again : {A : Type 0} (spell : A → List ℕ) (Fits : A → Type 0) (read : Reader A) → Reads spell Fits read
    → (items : List A) (rest : List ℕ) → AllByRecursion Fits items → items_at read (length items) (flat_map spell items ++ rest) ≡ Some (items, rest)
unfolding items_at
items_again spell Fits read laws [] rest fits = refl
items_again spell Fits read laws (a ∷ items) rest fits =
    let regrouped : flat_map spell (a ∷ items) ++ rest ≡ spell a ++ (flat_map spell items ++ rest) = ap (λ (x : List ℕ). x ++ rest) (flat_map-cons spell a items) ∙ append_assoc (spell a) (flat_map spell items) rest in
    ap (items_at read (suc (length items))) regrouped ∙ rw (laws.again a (flat_map spell items ++ rest) fits.0, items_again spell Fits read laws items rest fits.1) refl

-- ---- items behind their number

pub list_takes : {A : Type 0} (spell : A → List ℕ) (Fits : A → Type 0) (read : Reader A) → Reads spell Fits read
    → (bytes : List ℕ) (x : List A × List ℕ) → AreBytes bytes → list_at read bytes ≡ Some x → Takes bytes (list_bytes spell x.0) x.1 × AllByRecursion Fits x.0
unfolding list_at
list_takes spell Fits read laws bytes x fits e =
    let a = bind_some (number_at 1 bytes) (λ count. items_at read count.0 count.1) x e in
    let first = number_takes 1 bytes a.0 fits a.1 in
    let second = items_take spell Fits read laws a.0.0 a.0.1 x first.0.rest_bytes a.2 in
    let both = Takes-then bytes (number 1 a.0.0) a.0.1 (flat_map spell x.0) x.1 first.0 second.spelled in
    (subst (λ (n : ℕ). Takes bytes (number 1 n ++ flat_map spell x.0) x.1) (sym second.count) both, second.each)

pub list_again : {A : Type 0} (spell : A → List ℕ) (Fits : A → Type 0) (read : Reader A) → Reads spell Fits read
    → (items : List A) (rest : List ℕ) → length items < 256 → AllByRecursion Fits items → list_at read (list_bytes spell items ++ rest) ≡ Some (items, rest)
unfolding list_at
list_again spell Fits read laws items rest low fits =
    ap (list_at read) (append_assoc (number 1 (length items)) (flat_map spell items) rest)
    ∙ rw (number_again 1 (length items) (flat_map spell items ++ rest) low) (items_again spell Fits read laws items rest fits)

-- ---- items read in a loop

-- what was read before, and what is still read
abbrev pub with_front : {A : Type 0} → List A → Option (List A × List ℕ) → Option (List A × List ℕ)
with_front front read = read >>= λ x. Some (front ++ x.0, x.1)

regroup : {A : Type 0} (front : List A) (a : A) (read : Option (List A × List ℕ)) → with_front front (read >>= λ x. Some (a ∷ x.0, x.1)) ≡ with_front (front ++ a ∷ []) read
regroup {A} front a (Some x) = ap (λ (items : List A). Some (items, x.1)) (simp append_assoc)
regroup front a None = refl

-- One more is read.
pub goes_on : {A : Type 0} (read : Reader A) (front : List A) (count i : ℕ) (bytes : List ℕ) (a : A) (after : List ℕ) (total : Option (List A × List ℕ)) → i < count → read bytes ≡ Some (a, after)
    → with_front front (items_at read (count - i) bytes) ≡ total → with_front (front ++ a ∷ []) (items_at read (count - (i + 1)) after) ≡ total
unfolding items_at
goes_on read front count i bytes a after total lt h so_far =
    let k : count - i ≡ suc (count - (i + 1)) = omega arith in
    let one : with_front front (items_at read (count - i) bytes) ≡ with_front (front ++ a ∷ []) (items_at read (count - (i + 1)) after) = rw (k, h) (regroup front a (items_at read (count - (i + 1)) after)) in
    sym one ∙ so_far

-- Nothing is read in an item's place.
pub ends : {A : Type 0} (read : Reader A) (front : List A) (count i : ℕ) (bytes : List ℕ) (total : Option (List A × List ℕ)) → i < count → read bytes ≡ None
    → with_front front (items_at read (count - i) bytes) ≡ total → total ≡ None
unfolding items_at
ends read front count i bytes total lt h so_far =
    let k : count - i ≡ suc (count - (i + 1)) = omega arith in
    let one : with_front front (items_at read (count - i) bytes) ≡ None = rw (k, h) refl in
    sym so_far ∙ one

-- All are read.
pub is_done : {A : Type 0} (read : Reader A) (front : List A) (count i : ℕ) (bytes : List ℕ) (total : Option (List A × List ℕ)) → count ≤ i
    → with_front front (items_at read (count - i) bytes) ≡ total → total ≡ Some (front, bytes)
unfolding items_at
is_done {A} read front count i bytes total le so_far =
    let k : count - i ≡ 0 = omega arith in
    let one : with_front front (items_at read (count - i) bytes) ≡ Some (front, bytes) = rw k (ap (λ (items : List A). Some (items, bytes)) (append-nil front)) in
    sym so_far ∙ one

-- The entries that begin with a prefix stand side by side, from the first that isn't below it on.
use Rattle.std.proofs.Common.{◌≡◌, ◌==◌, ℕ, Bool, true, false, cond, List, [], ◌∷◌, Option, Some, None, refl, sym, ap, subst, ◌∙◌, ◌<◌, arith, inl, inr}
use Rattle.std.specs.List.{AllByRecursion, starts_with}
use Rattle.std.proofs.lemmas.Bool.Decides.{nat_tests}
use Rattle.aria_keypage.specs.Item.{Item, is_below}
use Rattle.aria_key.specs.Tree.{Placed, Rising, Under, IsTree, items_on, top}
use Rattle.aria_key.specs.IndexFile.{HoldsTrees, IsTreeOf}
use Rattle.aria_key.specs.Rest.{from}
use Rattle.aria_key.specs.Prefixed.{first_with}

-- an entry below a prefix doesn't begin with it
below-front : (p x : List ℕ) → is_below x p ≡ true → starts_with ◌==◌ x p ≡ false
below-front [] [] h = absurd cc
below-front [] (b ∷ x) h = absurd cc
below-front (a ∷ p) [] h = refl
below-front (a ∷ p) (b ∷ x) h = grind (arith, nat_tests, below-front p x)

-- where one begins with it, so does each between it and the prefix
front-between : (p y z : List ℕ) → is_below y p ≡ false → is_below y z ≡ true → starts_with ◌==◌ z p ≡ true → starts_with ◌==◌ y p ≡ true
front-between [] [] z l h s = refl
front-between [] (b ∷ y) z l h s = refl
front-between (a ∷ p) y [] l h s = absurd cc
front-between (a ∷ p) [] (c ∷ z) l h s = absurd cc
front-between (a ∷ p) (b ∷ y) (c ∷ z) l h s = grind (arith, nat_tests, front-between p y z)

none-behind : (p y z : List ℕ) → is_below y p ≡ false → starts_with ◌==◌ y p ≡ false → is_below y z ≡ true → starts_with ◌==◌ z p ≡ false
none-behind p y z l n h = by (starts_with ◌==◌ z p) refl
  where
    by : (b : Bool) → starts_with ◌==◌ z p ≡ b → starts_with ◌==◌ z p ≡ false
    by true e = absurd (let k = front-between p y z l h e in cc)
    by false e = e

none-with : (p : List ℕ) (xs : List Item) → AllByRecursion (λ x. starts_with ◌==◌ x.entry p ≡ false) xs → first_with p xs ≡ None
none-with p [] all = refl
none-with p (x ∷ xs) all = ap (λ (b : Bool). cond b (Some (x.entry, x.to)) (first_with p xs)) all.0 ∙ none-with p xs all.1

-- the first of some entries, where it begins with a prefix
abbrev pub head_with : List ℕ → List Item → Option (List ℕ × ℕ)
head_with p [] = None
head_with p (x ∷ xs) = cond (starts_with ◌==◌ x.entry p) (Some (x.entry, x.to)) None

all-behind : (p y : List ℕ) (xs : List Item) → is_below y p ≡ false → starts_with ◌==◌ y p ≡ false → AllByRecursion (λ x. is_below y x.entry ≡ true) xs → AllByRecursion (λ x. starts_with ◌==◌ x.entry p ≡ false) xs
all-behind p y [] l n all = tt
all-behind p y (x ∷ xs) l n all = (none-behind p y x.entry l n all.0, all-behind p y xs l n all.1)

-- the first that begins with a prefix is the first that isn't below it, or none does
pub first-from : (p : List ℕ) (walk : List Item) → Rising walk → first_with p walk ≡ head_with p (from p walk)
first-from p [] rises = refl
first-from p (x ∷ xs) rises = by (is_below x.entry p) refl (first-from p xs rises.1)
  where
    rest : is_below x.entry p ≡ false → (b : Bool) → starts_with ◌==◌ x.entry p ≡ b → cond b (Some (x.entry, x.to)) (first_with p xs) ≡ cond b (Some (x.entry, x.to)) None
    rest l true e = refl
    rest l false e = none-with p xs (all-behind p x.entry xs l e rises.0)

    by : (b : Bool) → is_below x.entry p ≡ b → first_with p xs ≡ head_with p (from p xs) → first_with p (x ∷ xs) ≡ head_with p (cond b (from p xs) (x ∷ xs))
    by true e h = ap (λ (t : Bool). cond t (Some (x.entry, x.to)) (first_with p xs)) (below-front p x.entry e) ∙ h
    by false e h = rest e (starts_with ◌==◌ x.entry p) refl

-- the entries of a tree rise
under-rises : (root : Bool) (key : ℕ) (xs : List Item) (l : List Placed) (ls : List (List Placed)) (walk : List Item) → Under root key xs (l ∷ ls) walk → Rising walk
under-rises root key xs l [] walk u = subst Rising (sym u.2) u.0.rising
under-rises root key xs l (m ∷ ls) walk u = under-rises false key (items_on l) m ls walk u.2

pub walk-rises : (bodies : ℕ → Option (List ℕ)) (count key root : ℕ) (levels : List (List Placed)) (walk : List Item) → IsTree bodies count key root levels walk → Rising walk
walk-rises bodies count key root [] walk t = absurd (let h = t.some in omega (arith, h))
walk-rises bodies count key root (l ∷ ls) walk t = under-rises true key (top root) l ls walk t.under

-- and those of each key of a file
of-rises : (bodies : ℕ → Option (List ℕ)) (count key root : ℕ) (levels : List (List Placed)) (walk : List Item) → IsTreeOf bodies count key root levels walk → Rising walk
of-rises bodies count key root levels walk (inl k) = subst Rising (sym k.2) tt
of-rises bodies count key root levels walk (inr k) = walk-rises bodies count key root levels walk k.1

pub key-rises : (keys count key : ℕ) (bodies : ℕ → Option (List ℕ)) (walks : ℕ → List Item) → (h : HoldsTrees keys count bodies walks) → key < keys → Rising (walks key)
key-rises keys count key bodies walks h low = of-rises bodies count key _ (h.levels key) (walks key) (h.file.trees key low)

-- what a cursor read first from the prefix on is it
pub found-first : (p entry : List ℕ) (to : ℕ) (item : Item) (more walk : List Item) → Rising walk → from p walk ≡ item ∷ more → entry ≡ item.entry → to ≡ item.to → cond (starts_with ◌==◌ entry p) (Some (entry, to)) None ≡ first_with p walk
found-first p entry to item more walk rises parts is leads =
    (λ i. cond (starts_with ◌==◌ (is i) p) (Some (is i, leads i)) None) ∙ sym (first-from p walk rises ∙ ap (head_with p) parts)

-- none does where none comes from there on
pub found-none : (p : List ℕ) (walk : List Item) → Rising walk → from p walk ≡ [] → None ≡ first_with p walk
found-none p walk rises none = sym (first-from p walk rises ∙ ap (head_with p) none)

-- Lists in pieces, and what holds of each of their elements.
use Rattle.std.proofs.Common.{◌≡◌, List, [], ◌∷◌, ◌++◌, map, refl, ap, subst, ℕ, zero, suc, ◌+◌, ◌<◌, arith, length, drop, sym, ◌∙◌, add-one, drop-cons}
use Rattle.std.specs.List.{AllByRecursion}
use Rattle.aria_keypage.specs.Item.{Item, item_at}

pub all-append : {X : Type 0} (P : X → Type 0) (xs ys : List X) → AllByRecursion P xs → AllByRecursion P ys → AllByRecursion P (xs ++ ys)
all-append P [] ys p q = q
all-append P (x ∷ xs) ys p q = (p.0, all-append P xs ys p.1 q)

pub all-left : {X : Type 0} (P : X → Type 0) (xs ys : List X) → AllByRecursion P (xs ++ ys) → AllByRecursion P xs
all-left P [] ys p = tt
all-left P (x ∷ xs) ys p = (p.0, all-left P xs ys p.1)

pub all-right : {X : Type 0} (P : X → Type 0) (xs ys : List X) → AllByRecursion P (xs ++ ys) → AllByRecursion P ys
all-right P [] ys p = p
all-right P (x ∷ xs) ys p = all-right P xs ys p.1

pub all-weaker : {X : Type 0} (P Q : X → Type 0) (xs : List X) → ((x : X) → P x → Q x) → AllByRecursion P xs → AllByRecursion Q xs
all-weaker P Q [] f p = tt
all-weaker P Q (x ∷ xs) f p = (f x p.0, all-weaker P Q xs f p.1)

pub all-mapped : {X Y : Type 0} (f : X → Y) (P : Y → Type 0) (xs : List X) → AllByRecursion P (map f xs) → AllByRecursion (λ x. P (f x)) xs
all-mapped f P [] p = tt
all-mapped f P (x ∷ xs) p = (p.0, all-mapped f P xs p.1)

-- the list whose images are these is in three pieces
pub record Cut {X Y : Type 0} (f : X → Y) (l : List X) (front : List Y) (y : Y) (back : List Y) : Type 0 where
  pub before : List X
  pub here : X
  pub behind : List X
  pub parts : l ≡ before ++ here ∷ behind
  pub front_is : map f before ≡ front
  pub here_is : f here ≡ y
  pub back_is : map f behind ≡ back

pub cut : {X Y : Type 0} (f : X → Y) (l : List X) (front : List Y) (y : Y) (back : List Y) → map f l ≡ front ++ y ∷ back → Cut f l front y back
cut f [] [] y back e = absurd cc
cut f [] (z ∷ front) y back e = absurd cc
cut f (x ∷ l) [] y back e = record { before = []; here = x; behind = l; parts = refl; front_is = refl; here_is = cc; back_is = cc }
cut f (x ∷ l) (z ∷ front) y back e =
    let h = cut f l front y back (cc) in
    let head : f x ≡ z = cc in
    record { before = x ∷ h.before; here = h.here; behind = h.behind; parts = ap (λ m. x ∷ m) {y = h.before ++ h.here ∷ h.behind} h.parts; front_is = cc (h.front_is); here_is = h.here_is; back_is = h.back_is }

-- the last element of a list that has one
pub record Last {X : Type 0} (l : List X) : Type 0 where
  pub front : List X
  pub last : X
  pub parts : l ≡ front ++ last ∷ []

pub last_of : {X : Type 0} (x : X) (l : List X) → Last (x ∷ l)
last_of x [] = record { front = []; last = x; parts = refl }
last_of x (y ∷ l) = let h = last_of y l in record { front = x ∷ h.front; last = h.last; parts = ap (λ m. x ∷ m) h.parts }

pub all-at : {X : Type 0} (P : X → Type 0) (xs : List X) (y : X) (ys l : List X) → l ≡ xs ++ y ∷ ys → AllByRecursion P l → P y
all-at P xs y ys l e p = (all-right P xs (y ∷ ys) (subst (AllByRecursion P) e p)).0

pub drop-at : (xs : List Item) (at : ℕ) → at < length xs → drop at xs ≡ item_at xs at ∷ drop (at + 1) xs
drop-at xs at h = drop-cons xs at (record { entry = []; to = 0 }) h ∙ ap (λ (n : ℕ). item_at xs at ∷ drop n xs) (sym (add-one at))

-- what holds of each item
pub all-item : (P : Item → Type 0) (xs : List Item) (at : ℕ) → at < length xs → AllByRecursion P xs → P (item_at xs at)
all-item P [] at low h = absurd (omega (arith, low))
all-item P (x ∷ xs) zero low h = h.0
all-item P (x ∷ xs) (suc at) low h = all-item P xs at (omega (arith, low)) h.1

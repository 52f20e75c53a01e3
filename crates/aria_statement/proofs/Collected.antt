-- Items found one after another, if each is.
use Rattle.std.proofs.Common.{◌≡◌, List, [], ◌∷◌, ◌++◌, Option, Some, None, refl}

abbrev pub onto : {B : Type 0} → Option B → Option (List B) → Option (List B)
onto None ys = None
onto (Some y) None = None
onto (Some y) (Some ys) = Some (y ∷ ys)

-- what is found for each, if it is for all
abbrev pub collected : {A B : Type 0} → (A → Option B) → List A → Option (List B)
collected f [] = Some []
collected f (x ∷ xs) = onto (f x) (collected f xs)

-- what was found before, and what is still found
abbrev pub with_front : {B : Type 0} → List B → Option (List B) → Option (List B)
with_front front None = None
with_front front (Some ys) = Some (front ++ ys)

pub with_none : {B : Type 0} (o : Option (List B)) → with_front [] o ≡ o
with_none None = refl
with_none (Some ys) = refl

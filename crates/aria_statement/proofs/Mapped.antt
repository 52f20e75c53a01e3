-- Tests of lists whose items are seen in another form.
use Rattle.std.proofs.Common.{◌≡◌, Bool, not, ◌&&◌, ◌||◌, List, [], ◌∷◌, map, refl, ap, ◌∙◌}
use Rattle.std.specs.List.{list_any}
use Rattle.aria_value.specs.Defined.{distinct}

pub any_of : {X Y : Type 0} (p : Y → Bool) (f : X → Y) (xs : List X) → list_any (λ x. p (f x)) xs ≡ list_any p (map f xs)
any_of p f [] = refl
any_of p f (x ∷ xs) = ap (λ b. p (f x) || b) (any_of p f xs)

pub distinct_of : {X Y : Type 0} (same : Y → Y → Bool) (f : X → Y) (xs : List X) → distinct (λ a b. same (f a) (f b)) xs ≡ distinct same (map f xs)
distinct_of same f [] = refl
distinct_of same f (x ∷ xs) = ap (λ b. not b && distinct (λ a b. same (f a) (f b)) xs) (any_of (same (f x)) f xs) ∙ ap (λ b. not (list_any (same (f x)) (map f xs)) && b) (distinct_of same f xs)

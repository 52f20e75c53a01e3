-- Items that have names.
use Rattle.std.specs.Prelude.{ℕ, suc, Bool, true, not, ◌&&◌, ◌==◌, List, [], ◌∷◌, Option, Some, None, if◌then◌else◌}
use Rattle.std.specs.List.{list_any}
use Rattle.std.specs.Cmp.Lexicographic.{pointwise}

-- two names are one
abbrev pub same_name : List ℕ → List ℕ → Bool
same_name = pointwise ◌==◌

-- no two are the same
abbrev pub distinct : {A : Type 0} → (A → A → Bool) → List A → Bool
distinct same [] = true
distinct same (x ∷ xs) = not (list_any (same x) xs) && distinct same xs

abbrev pub option_suc : Option ℕ → Option ℕ
option_suc None = None
option_suc (Some n) = Some (suc n)

-- the number of the first item that has this name, counted from 0
abbrev pub nth_named : {A : Type 0} → (A → List ℕ) → List A → List ℕ → Option ℕ
nth_named name [] wanted = None
nth_named name (x ∷ xs) wanted = if same_name (name x) wanted then Some 0 else option_suc (nth_named name xs wanted)

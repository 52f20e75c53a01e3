-- Entries that begin with given bytes.
use Rattle.std.specs.Prelude.{◌==◌, if◌then◌else◌, ℕ, List, [], ◌∷◌, Option, Some, None}
use Rattle.std.specs.List.{starts_with}
use Rattle.aria_keypage.specs.Item.{Item}

-- the first entry that begins with a prefix, and where it leads
abbrev pub first_with : List ℕ → List Item → Option (List ℕ × ℕ)
first_with prefix [] = None
first_with prefix (x ∷ xs) = if starts_with ◌==◌ x.entry prefix then Some (x.entry, x.to) else first_with prefix xs

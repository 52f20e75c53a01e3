-- Packed items in two pieces: the first one, which leans on the entry before it, and those behind it, which don't.
use Rattle.std.specs.Prelude.{ℕ, List, [], ◌∷◌}
use Rattle.aria_keypage.specs.Item.{Item}
use Rattle.aria_keypage.specs.Packed.{packed_item, packed}

-- the first item, behind an entry
unfoldable pub first_packed : ℕ → List ℕ → List Item → List ℕ
first_packed width before [] = []
first_packed width before (x ∷ xs) = packed_item width before x

-- the items behind the first
unfoldable pub rest_packed : ℕ → List Item → List ℕ
rest_packed width [] = []
rest_packed width (x ∷ xs) = packed width x.entry xs

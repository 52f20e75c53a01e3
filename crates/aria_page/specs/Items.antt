-- Items that are stored one after another.
use Rattle.std.specs.Prelude.{ℕ, zero, suc, List, [], ◌∷◌, ◌++◌, length, Option, Some}
use Rattle.std.specs.List.{flat_map}
use Rattle.aria_page.specs.Field.{◌>>=◌}
use Rattle.aria_page.specs.Number.{number, number_at}

-- so many items one after another, and the bytes after them
unfoldable pub items_at : {A : Type 0} → (List ℕ → Option (A × List ℕ)) → ℕ → List ℕ → Option (List A × List ℕ)
items_at read zero bytes = Some ([], bytes)
items_at read (suc n) bytes = do
  first ← read bytes
  others ← items_at read n first.1
  Some (first.0 ∷ others.0, others.1)

-- a byte with the number of items, and the items
abbrev pub list_bytes : {A : Type 0} → (A → List ℕ) → List A → List ℕ
list_bytes spell items = number 1 (length items) ++ flat_map spell items

-- items behind a byte with their number, and the bytes after them
unfoldable pub list_at : {A : Type 0} → (List ℕ → Option (A × List ℕ)) → List ℕ → Option (List A × List ℕ)
list_at read bytes = do
  count ← number_at 1 bytes
  items_at read count.0 count.1

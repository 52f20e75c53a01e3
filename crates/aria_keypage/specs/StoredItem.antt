-- An item as it is stored, apart from the entry before it.
use Rattle.std.specs.Prelude.{◌≡◌, ℕ, ◌≤◌, List, ◌++◌, length, take, drop, Option, Some}
use Rattle.aria_page.specs.Field.{◌>>=◌}
use Rattle.aria_page.specs.Number.{number, number_at}
use Rattle.aria_page.specs.Text.{bytes_at}
use Rattle.aria_keypage.specs.declared.item.TheConstants.{ENTRY_MAX}
use Rattle.aria_keypage.specs.Item.{Item}
use Rattle.aria_keypage.specs.Packed.{shared}

-- how many bytes it shares, the rest of its entry, and the bytes of where it leads
pub record StoredItem : Type 0 where
  pub shared : ℕ
  pub rest : List ℕ
  pub to : List ℕ

-- what is stored of an item behind an entry
abbrev pub as_stored : ℕ → List ℕ → Item → StoredItem
as_stored width before x = record { shared = shared before x.entry; rest = drop (shared before x.entry) x.entry; to = number width x.to }

-- what is stored of the item in front, and the bytes after it; nothing where the bytes run out
unfoldable pub stored_at : ℕ → List ℕ → Option (StoredItem × List ℕ)
stored_at width bytes = do
  count ← number_at 1 bytes
  len ← number_at 2 count.1
  rest ← bytes_at len.0 len.1
  to ← bytes_at width rest.1
  Some (record { shared = count.0; rest = rest.0; to = to.0 }, to.1)

-- the entry that is stored so behind another
abbrev pub entry_of : List ℕ → StoredItem → List ℕ
entry_of before item = take item.shared before ++ item.rest

-- nothing else is stored for the entry that it gives behind another, and that entry is not too long
pub record IsStored (before : List ℕ) (item : StoredItem) : Type 0 where
  pub shares : shared before (entry_of before item) ≡ item.shared
  pub fits : length (entry_of before item) ≤ ENTRY_MAX

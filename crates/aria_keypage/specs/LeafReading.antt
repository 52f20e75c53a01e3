-- Reading a leaf's items one by one.
use Rattle.std.specs.Prelude.{◌≡◌, ℕ, ◌+◌, ◌≤◌, List, length, drop, Option, Some, None}
use Rattle.aria_keypage.specs.Item.{item_at, entry_before}
use Rattle.aria_keypage.specs.Packed.{packed}
use Rattle.aria_keypage.specs.Content.{Content, front}
use Rattle.aria_keypage.specs.declared.leaf_reader.LeafReader.{LeafReader}

-- the entry of the item that was read last, or of the one before the first that is read
abbrev pub last_read : LeafReader → List ℕ
last_read r = r.entry.items

-- A reader stands before an item of a leaf, or behind the last one: the items from there on take as many bytes as are left
-- of those that the body begins with, and the entry of the item in front of it is known.
pub record IsBefore (c : Content) (at : ℕ) (r : LeafReader) : Type 0 where
  pub within : at ≤ length c.items
  pub byte : r.byte + length (packed 5 (entry_before c.items at) (drop at c.items)) ≡ length (front c)
  pub entry : last_read r ≡ entry_before c.items at

-- The item at a position was read, and the reader stands behind it.
pub record HasRead (c : Content) (at to : ℕ) (r : LeafReader) : Type 0 where
  pub to_is : to ≡ (item_at c.items at).to
  pub entry_is : last_read r ≡ (item_at c.items at).entry
  pub behind : IsBefore c (at + 1) r

abbrev pub Reads : Content → ℕ → Option ℕ → LeafReader → Type 0
Reads c at (Some to) r = HasRead c at to r
Reads c at None r = ⊥

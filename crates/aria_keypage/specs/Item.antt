-- Items of a key page: an entry, and where it leads.
use Rattle.std.specs.Prelude.{◌≡◌, ℕ, zero, suc, ◌≤◌, ◌<◌, ◌^◌, Bool, List, [], length, slice_index_or, IsTrue, ◌↔◌}
use Rattle.std.specs.List.{prefix_len}
use Rattle.std.specs.Ordering.{nat_cmp, is_lt}
use Rattle.std.specs.Cmp.Lexicographic.{slice_cmp}
use Rattle.aria_keypage.specs.declared.item.TheConstants.{ENTRY_MAX}

-- an entry with a row's target in a leaf, or with a child page in a node
pub record Item : Type 0 where
  pub entry : List ℕ
  pub to : ℕ

-- what can be stored: an entry that is not too long, and a number of the given width in bytes
pub record IsItem (width : ℕ) (x : Item) : Type 0 where
  pub entry : length x.entry ≤ ENTRY_MAX
  pub to : x.to < 256 ^ width

-- the item at a position, from 0 on
abbrev pub item_at : List Item → ℕ → Item
item_at items at = slice_index_or items at (record { entry = []; to = 0 })

-- the entry that stands before a position; nothing before the first
abbrev pub entry_before : List Item → ℕ → List ℕ
entry_before items zero = []
entry_before items (suc n) = (item_at items n).entry

-- a stands before b: at the first byte where they differ it has the lower one, or it is a front of b
abbrev pub is_below : List ℕ → List ℕ → Bool
is_below a b = is_lt (slice_cmp nat_cmp a b)

-- the position is that of the first item whose entry isn't below the given one, or behind all; and same says whether that is its entry
pub record IsPosition (entry : List ℕ) (items : List Item) (position : ℕ) (same : Bool) : Type 0 where
  pub first : position ≡ prefix_len (λ x. is_below x.entry entry) items
  pub found : IsTrue same ↔ ((position < length items) × ((item_at items position).entry ≡ entry))

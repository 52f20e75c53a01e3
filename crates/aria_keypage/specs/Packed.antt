-- How items are stored: each entry without the leading bytes that it shares with the one before it.
use Rattle.std.specs.Prelude.{◌≡◌, ℕ, ◌≤◌, min, ◌==◌, List, [], ◌∷◌, ◌++◌, length, drop}
use Rattle.std.specs.List.{AllByRecursion, common_prefix_len}
use Rattle.aria_page.specs.Number.{number}
use Rattle.aria_keypage.specs.declared.entry.TheConstants.{SHARED_MAX}
use Rattle.aria_keypage.specs.Item.{Item, IsItem, entry_before}

-- how many leading bytes two entries have in common
abbrev pub common_length : List ℕ → List ℕ → ℕ
common_length a b = common_prefix_len ◌==◌ a b

-- how many leading bytes an entry takes from the one before it: all that both have in common, but at most so many as one byte counts
unfoldable pub shared : List ℕ → List ℕ → ℕ
shared before entry = min SHARED_MAX (common_length before entry)

-- 1 byte of how many bytes are shared, 2 of the length of the rest, the rest, and where the item leads
unfoldable pub packed_item : ℕ → List ℕ → Item → List ℕ
packed_item width before x =
    let rest = drop (shared before x.entry) x.entry in
    number 1 (shared before x.entry) ++ (number 2 (length rest) ++ (rest ++ number width x.to))

-- items one after the other, behind an entry
unfoldable pub packed : ℕ → List ℕ → List Item → List ℕ
packed width before [] = []
packed width before (x ∷ xs) = packed_item width before x ++ packed width x.entry xs

-- the bytes spell these items, and each of them can be stored
pub record ArePacked (width : ℕ) (items : List Item) (bytes : List ℕ) : Type 0 where
  pub all : AllByRecursion (IsItem width) items
  pub is : bytes ≡ packed width [] items

-- what is left of packed items from a position on
pub record IsLeft (width : ℕ) (items : List Item) (at : ℕ) (rest : List ℕ) : Type 0 where
  pub within : at ≤ length items
  pub is : rest ≡ packed width (entry_before items at) (drop at items)

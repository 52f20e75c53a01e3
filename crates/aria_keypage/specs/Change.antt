-- Changes of a key page, as edits of its body.
use Rattle.std.specs.Prelude.{◌≡◌, ℕ, ◌+◌, ◌≤◌, List, [], ◌∷◌, length, drop}
use Rattle.std.specs.List.{AllByRecursion, insert, remove}
use Rattle.aria_page.specs.declared.edit.Edit.{Edit}
use Rattle.aria_page.specs.declared.edit.Edit.TheVariants.{Set, Shift}
use Rattle.aria_page.specs.Edit.{IsWithin, all_edited}
use Rattle.aria_page.specs.Number.{number}
use Rattle.aria_page.specs.declared.page.TheConstants.{BODY_BYTES}
use Rattle.aria_keypage.specs.declared.key_page.TheConstants.{ITEMS_AT, ITEM_BYTES_MAX, SIZE_AT}
use Rattle.aria_keypage.specs.declared.kind.Kind.TheVariants.{Leaf, Node}
use Rattle.aria_keypage.specs.Item.{Item, entry_before}
use Rattle.aria_keypage.specs.Packed.{packed_item}
use Rattle.aria_keypage.specs.Pieces.{first_packed}
use Rattle.aria_keypage.specs.Content.{Content, width, Spells}

-- the edits make each body that spells the one content into one that spells the other
pub record Changes (edits : List Edit) (before after : Content) : Type 0 where
  pub within : AllByRecursion IsWithin edits
  pub body : (body : List ℕ) → length body ≡ BODY_BYTES → Spells body before → Spells (all_edited edits body) after

-- the page with one more item at a position
abbrev pub with_item : Content → ℕ → Item → Content
with_item c at x = record c { items = insert c.items at x }

-- the page without the item at a position
abbrev pub without_item : Content → ℕ → Content
without_item c at = record c { items = remove c.items at }

-- the edits that put item bytes in the place of others, after so many of them and before so many
abbrev pub patch : ℕ → ℕ → ℕ → List ℕ → List Edit
patch before old behind bytes =
    Shift (ITEMS_AT + before + old) behind (ITEMS_AT + before + length bytes) ∷ Set (ITEMS_AT + before) bytes ∷ Set SIZE_AT (number 2 (before + length bytes + behind)) ∷ []

-- item bytes fit in a page before and after, and their new number is spelled so
pub record IsPatch (before old behind : ℕ) (bytes size : List ℕ) : Type 0 where
  pub old_fits : before + old + behind ≤ ITEM_BYTES_MAX
  pub new_fits : before + length bytes + behind ≤ ITEM_BYTES_MAX
  pub size_is : size ≡ number 2 (before + length bytes + behind)

-- a whole body that spells this
pub record IsBody (body : List ℕ) (c : Content) : Type 0 where
  pub size : length body ≡ BODY_BYTES
  pub spells : Spells body c

-- a leaf with one item
abbrev pub leaf_of_one : ℕ → Item → Content
leaf_of_one key x = record { kind = Leaf; key = key; first = 0; items = x ∷ [] }

-- a node with a first child and one item
abbrev pub node_of_one : ℕ → ℕ → Item → Content
node_of_one key first x = record { kind = Node; key = key; first = first; items = x ∷ [] }

-- what the edits of an insert bring: the item, the one behind it as it then stands, and the number of item bytes
abbrev pub inserted_bytes : Content → ℕ → Item → ℕ
inserted_bytes c at x = length (packed_item (width c.kind) (entry_before c.items at) x) + length (first_packed (width c.kind) x.entry (drop at c.items)) + 2

-- what those of a removal bring: the item behind it as it then stands, and the number of item bytes
abbrev pub removed_bytes : Content → ℕ → ℕ
removed_bytes c at = length (first_packed (width c.kind) (entry_before c.items at) (drop (at + 1) c.items)) + 2

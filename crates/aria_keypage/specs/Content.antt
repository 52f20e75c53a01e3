-- What a key page holds, and its bytes.
use Rattle.std.specs.Prelude.{◌≡◌, ℕ, ◌<◌, ◌≤◌, ◌^◌, List, [], ◌++◌, length}
use Rattle.std.specs.List.{AllByRecursion}
use Rattle.aria_page.specs.Number.{number}
use Rattle.aria_keypage.specs.declared.kind.TheConstants.{LEAF, NODE}
use Rattle.aria_keypage.specs.declared.key_page.TheConstants.{ITEM_BYTES_MAX}
use Rattle.aria_keypage.specs.declared.kind.Kind.{Kind}
use Rattle.aria_keypage.specs.declared.kind.Kind.TheVariants.{Leaf, Node}
use Rattle.aria_keypage.specs.Item.{Item, IsItem}
use Rattle.aria_keypage.specs.Packed.{packed}

-- whether it is a leaf, the number of its key, a node's first child (0 in a leaf), and the items in their order
pub record Content : Type 0 where
  pub kind : Kind
  pub key : ℕ
  pub first : ℕ
  pub items : List Item

-- the byte of a leaf and of a node
abbrev pub kind_byte : Kind → ℕ
kind_byte Leaf = LEAF
kind_byte Node = NODE

-- the width of a target and of a child, in bytes
abbrev pub width : Kind → ℕ
width Leaf = 5
width Node = 4

-- a node's first child
abbrev pub first_bytes : Kind → ℕ → List ℕ
first_bytes Leaf first = []
first_bytes Node first = number 4 first

-- the item bytes: a node's first child, and the items
unfoldable pub item_bytes : Content → List ℕ
item_bytes c = first_bytes c.kind c.first ++ packed (width c.kind) [] c.items

-- what a body begins with: 1 byte each of the kind and the key, 2 of the number of item bytes, and the item bytes
unfoldable pub front : Content → List ℕ
front c = number 1 (kind_byte c.kind) ++ (number 1 c.key ++ (number 2 (length (item_bytes c)) ++ item_bytes c))

-- the first child can be stored
abbrev pub IsFirst : Kind → ℕ → Type 0
IsFirst Leaf first = first ≡ 0
IsFirst Node first = first < 256 ^ 4

-- what a page can hold: items that can be stored, and at most as many item bytes as fit
pub record IsContent (c : Content) : Type 0 where
  pub key : c.key < 256
  pub first : IsFirst c.kind c.first
  pub items : AllByRecursion (IsItem (width c.kind)) c.items
  pub size : length (item_bytes c) ≤ ITEM_BYTES_MAX

-- the body spells this; what comes behind isn't looked at
pub record Spells (body : List ℕ) (c : Content) : Type 0 where
  pub content : IsContent c
  pub behind : List ℕ
  pub parts : body ≡ front c ++ behind

-- Items divided between a page and the one to its right.
use Rattle.std.specs.Prelude.{◌≡◌, ℕ, ◌+◌, ◌-◌, ◌*◌, ◌<◌, ◌≤◌, List, length, take, drop}
use Rattle.aria_page.specs.declared.edit.Edit.{Edit}
use Rattle.aria_keypage.specs.declared.kind.Kind.{Kind}
use Rattle.aria_keypage.specs.declared.kind.Kind.TheVariants.{Leaf, Node}
use Rattle.aria_keypage.specs.Item.{item_at}
use Rattle.aria_keypage.specs.Packed.{ArePacked}
use Rattle.aria_keypage.specs.Content.{Content, width, item_bytes}
use Rattle.aria_keypage.specs.Reading.{content_of}
use Rattle.aria_keypage.specs.Change.{Changes, IsBody}

-- the page with these packed items, which may be more than fit
abbrev pub holding : Content → List ℕ → Content
holding c bytes = content_of c.kind c.key c.first bytes

-- the bytes spell so many items
pub record AreItems (kind : Kind) (bytes : List ℕ) (count : ℕ) : Type 0 where
  pub packed : ArePacked (width kind) (content_of kind 0 0 bytes).items bytes
  pub count_is : count ≡ length (content_of kind 0 0 bytes).items

-- what stays of a page: the items before a position
abbrev pub left_half : Content → ℕ → Content
left_half c at = record c { items = take at c.items }

-- what goes to the right: the items from the position on; in a node the entry there goes up, and its child becomes the first one
abbrev pub right_from : Kind → Content → ℕ → Content
right_from Leaf c at = record c { items = drop at c.items }
right_from Node c at = record c { first = (item_at c.items at).to; items = drop (at + 1) c.items }

abbrev pub right_half : Content → ℕ → Content
right_half c at = right_from c.kind c at

-- twice the distance of a position from half of the item bytes
abbrev pub from_half : Content → ℕ → ℕ
from_half c at =
    let twice = 2 * length (item_bytes (left_half c at)) in
    (twice - length (item_bytes c)) + (length (item_bytes c) - twice)

-- the position that is nearest to half of the item bytes, the lower one of two
pub record IsMiddle (c : Content) (at : ℕ) : Type 0 where
  pub within : at ≤ length c.items
  pub nearest : (other : ℕ) → other ≤ length c.items → from_half c at ≤ from_half c other
  pub lower : (other : ℕ) → other < at → from_half c at < from_half c other

-- both sides have items or a first child, and are near to half
pub record AreHalves (c : Content) (at : ℕ) : Type 0 where
  pub some : 0 < at
  pub more : at < length c.items
  pub left_most : 2 * length (item_bytes (left_half c at)) ≤ length (item_bytes c) + 1008
  pub left_least : length (item_bytes c) ≤ 2 * length (item_bytes (left_half c at)) + 1008
  pub right_most : 2 * length (item_bytes (right_half c at)) ≤ length (item_bytes c) + 1518
  pub right_least : length (item_bytes c) ≤ 2 * length (item_bytes (right_half c at)) + 3016

-- a page, a new one to its right and the entry between the two have all of the items, divided in the middle
pub record IsSplit (page all : Content) (edits : List Edit) (body entry : List ℕ) : Type 0 where
  pub at : ℕ
  pub middle : IsMiddle all at
  pub sizes : AreHalves all at
  pub left : Changes edits page (left_half all at)
  pub right : IsBody body (right_half all at)
  pub between : entry ≡ (item_at all.items at).entry

-- Reading a key page from its front.
use Rattle.std.specs.Prelude.{◌≡◌, ℕ, zero, suc, List, [], ◌∷◌, length, Option, Some, None}
use Rattle.aria_page.specs.Field.{◌>>=◌}
use Rattle.aria_page.specs.Number.{number_of, number_at}
use Rattle.aria_page.specs.Text.{bytes_at}
use Rattle.aria_keypage.specs.declared.kind.Kind.{Kind}
use Rattle.aria_keypage.specs.Item.{Item}
use Rattle.aria_keypage.specs.Packed.{ArePacked}
use Rattle.aria_keypage.specs.StoredItem.{StoredItem, stored_at, entry_of}
use Rattle.aria_keypage.specs.Content.{Content, width, item_bytes, IsContent}

-- the kind, the key and the item bytes; nothing where the bytes run out
unfoldable pub head_at : List ℕ → Option (ℕ × ℕ × List ℕ)
head_at body = do
  byte ← number_at 1 body
  key ← number_at 1 byte.1
  size ← number_at 2 key.1
  bytes ← bytes_at size.0 size.1
  Some (byte.0, key.0, bytes.0)

-- an item that was read, and those that come after it
abbrev pub with_more : ℕ → List ℕ → (List ℕ → List ℕ → List Item) → Option (StoredItem × List ℕ) → List Item
with_more width before more None = []
with_more width before more (Some r) = (record { entry = entry_of before r.0; to = number_of width r.0.to }) ∷ more (entry_of before r.0) r.1

-- the items in front, at most so many
unfoldable pub items_of : ℕ → ℕ → List ℕ → List ℕ → List Item
items_of zero width before bytes = []
items_of (suc n) width before bytes = with_more width before (items_of n width) (stored_at width bytes)

-- what a page with these packed items holds
abbrev pub content_of : Kind → ℕ → ℕ → List ℕ → Content
content_of kind key first bytes = record { kind = kind; key = key; first = first; items = items_of (length bytes) (width kind) [] bytes }

-- the bytes are so many items, all that a page holds
pub record IsRead (kind : Kind) (key first : ℕ) (bytes : List ℕ) (count : ℕ) : Type 0 where
  pub content : IsContent (content_of kind key first bytes)
  pub packed : ArePacked (width kind) (content_of kind key first bytes).items bytes
  pub count_is : count ≡ length (content_of kind key first bytes).items

-- what a page with these item bytes holds
pub record IsPageOf (kind : Kind) (key : ℕ) (bytes : List ℕ) (c : Content) : Type 0 where
  pub content : IsContent c
  pub kind_is : c.kind ≡ kind
  pub key_is : c.key ≡ key
  pub bytes_is : item_bytes c ≡ bytes

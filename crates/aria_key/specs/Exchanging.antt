-- An item of a node put in the place of another.
use Rattle.std.specs.Prelude.{◌≡◌, ⊤, ℕ, ◌<◌, ◌++◌, length, Option, Some, None}
use Rattle.aria_host.specs.declared.file_name.FileName.{FileName}
use Rattle.aria_cache.specs.PageState.{PageState}
use Rattle.aria_keypage.specs.declared.key_page.TheConstants.{ITEM_BYTES_MAX}
use Rattle.aria_keypage.specs.declared.kind.Kind.TheVariants.{Node}
use Rattle.aria_keypage.specs.Item.{Item}
use Rattle.aria_keypage.specs.Content.{Content, item_bytes}
use Rattle.aria_keypage.specs.Change.{with_item, without_item, Changes}
use Rattle.aria_key.specs.declared.exchange.Exchange.{Exchange}
use Rattle.aria_key.specs.declared.exchange.Space.{Space}
use Rattle.aria_key.specs.declared.exchange.Space.TheVariants.{Room, Full, Other}
use Rattle.aria_key.specs.Held.{AreEdits}
use Rattle.aria_key.specs.Merging.{IsRenamable}

-- the page with another item in the place of the one at a position
abbrev pub exchanged : Content → ℕ → Item → Content
exchanged c at x = with_item (without_item c at) at x

-- the edits of an exchange make that of the page
abbrev pub IsExchange : Content → ℕ → Item → Exchange → Type 0
IsExchange c at x e = Changes (e.out ++ e.put) c (exchanged c at x)

-- and are few
abbrev pub IsSmallExchange : Exchange → Type 0
IsSmallExchange e = AreEdits 6 3146 (e.out ++ e.put)

-- what a node offers for an item in the place of the one at a position: the edits that put it there; or it has no room, or
-- is no such page
abbrev pub IsSpace : Content → ℕ → Item → Space → Type 0
IsSpace c at x (Room e) = IsExchange c at x e
IsSpace c at x Full = ITEM_BYTES_MAX < length (item_bytes (exchanged c at x))
IsSpace c at x Other = c.kind ≡ Node → at < length c.items → ⊥

abbrev pub IsSmallSpace : Space → Type 0
IsSmallSpace (Room e) = IsSmallExchange e
IsSmallSpace _ = ⊤

-- the edits that were offered, or none where there is no room
abbrev pub IsExchanged : Content → ℕ → Item → Option Exchange → Type 0
IsExchanged c at x (Some e) = IsExchange c at x e
IsExchanged c at x None = ITEM_BYTES_MAX < length (item_bytes (exchanged c at x))

-- a node whose item can have another entry, and it has no room for it
pub record IsTight (s : PageState) (file : FileName) (page at : ℕ) (x : Item) (free : ℕ) : Type 0 where
  pub place : IsRenamable s file page at x.entry free
  pub full : ITEM_BYTES_MAX < length (item_bytes (exchanged place.content at x))

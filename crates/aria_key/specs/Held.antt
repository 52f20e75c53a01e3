-- What a key page holds, and a page that is written anew.
use Rattle.std.specs.Prelude.{◌≡◌, ℕ, ◌<◌, Bool, true, false, List, length, Option, Some, None, ◌==◌, ◌&&◌}
use Rattle.std.specs.Prelude.{All, ◌≤◌}
use Rattle.aria_page.specs.declared.edit.Edit.{Edit}
use Rattle.aria_page.specs.Edit.{IsWithin}
use Rattle.aria_page.specs.declared.page.TheConstants.{BODY_BYTES}
use Rattle.aria_keypage.specs.declared.key_page.TheConstants.{ITEM_BYTES_MAX, ITEM_BYTES_LOW}
use Rattle.aria_record.specs.Writing.{redo_size}
use Rattle.aria_host.specs.declared.file_name.FileName.{FileName}
use Rattle.aria_host.specs.Folder.{same_file}
use Rattle.aria_cache.specs.PageState.{Bodies}
use Rattle.std.specs.Prelude.{⊤}
use Rattle.aria_keypage.specs.declared.kind.Kind.{Kind}
use Rattle.aria_keypage.specs.Item.{Item, item_at}
use Rattle.aria_key.specs.declared.offer.Offer.{Offer}
use Rattle.aria_key.specs.declared.offer.Offer.TheVariants.{Room, Full, Other}
use Rattle.std.specs.Prelude.{nat_le, if◌then◌else◌}
use Rattle.aria_key.specs.Step.{in_right}
use Rattle.aria_keypage.specs.declared.split.Split.{Split}
use Rattle.aria_keypage.specs.Split.{IsMiddle, AreHalves, IsSplit, left_half, right_half}
use Rattle.aria_keypage.specs.Change.{with_item, Changes}
use Rattle.aria_keypage.specs.Content.{Content, item_bytes, Spells}

-- the page holds this
pub record HasContent (bodies : ℕ → Option (List ℕ)) (page : ℕ) (c : Content) : Type 0 where
  pub body : List ℕ
  pub there : bodies page ≡ Some body
  pub size : length body ≡ BODY_BYTES
  pub spells : Spells body c

-- the page holds this now, and no other page was changed
pub record Rewritten (file : FileName) (page : ℕ) (c : Content) (old new : Bodies) : Type 0 where
  pub here : HasContent (new file) page c
  pub other : (f : FileName) (n : ℕ) → (same_file file f && (page == n)) ≡ false → new f n ≡ old f n

-- an item was put into a page, or it has no room
abbrev pub IsPut : FileName → ℕ → Content → ℕ → Item → Bodies → Bodies → Bool → Type 0
IsPut file page c at x old new true = Rewritten file page (with_item c at x) old new
IsPut file page c at x old new false = (new ≡ old) × (ITEM_BYTES_MAX < length (item_bytes (with_item c at x)))

-- so many edits of a page at most, with so many bytes in the log
pub record AreEdits (most cost : ℕ) (edits : List Edit) : Type 0 where
  pub within : All IsWithin edits
  pub few : length edits ≤ most
  pub bytes : redo_size edits ≤ cost

-- what a page of this kind offers for an item at a position: the edits that put it there; or it has no room, or is no
-- such page
abbrev pub IsOffer : Kind → Content → ℕ → Item → Offer → Type 0
IsOffer kind c at x (Room edits) = Changes edits c (with_item c at x)
IsOffer kind c at x Full = ITEM_BYTES_MAX < length (item_bytes (with_item c at x))
IsOffer kind c at x Other = c.kind ≡ kind → at ≤ length c.items → ⊥

-- its edits are few
abbrev pub IsSmall : Offer → Type 0
IsSmall (Room edits) = AreEdits 3 2115 edits
IsSmall _ = ⊤

-- and there are some
abbrev pub HasEdits : Offer → Type 0
HasEdits (Room edits) = 1 ≤ length edits
HasEdits _ = ⊤

-- what a page must be that an item is put into
abbrev pub Takes : Kind → ℕ → Content → Type 0
Takes kind at c = (c.kind ≡ kind) × (at ≤ length c.items)

-- the edits that an item was offered, or none where it has no room
abbrev pub IsOffered : Content → ℕ → Item → Option (List Edit) → Type 0
IsOffered c at x (Some edits) = Changes edits c (with_item c at x)
IsOffered c at x None = ITEM_BYTES_MAX < length (item_bytes (with_item c at x))

-- the two halves of a page, or none where it has too few item bytes
abbrev pub IsHalved : Content → Option Split → Type 0
IsHalved c (Some s) = IsSplit c c s.left s.right s.between
IsHalved c None = length (item_bytes c) < ITEM_BYTES_LOW

-- it is full enough to be divided
abbrev pub IsFull : Content → Type 0
IsFull c = ITEM_BYTES_LOW ≤ length (item_bytes c)

-- a page was divided: what stays in it, and what went into a new page
pub record IsDivided (file : FileName) (page fresh : ℕ) (c : Content) (between : List ℕ) (old new : Bodies) : Type 0 where
  pub at : ℕ
  pub middle : IsMiddle c at
  pub sizes : AreHalves c at
  pub left : HasContent (new file) page (left_half c at)
  pub right : HasContent (new file) fresh (right_half c at)
  pub between_is : between ≡ (item_at c.items at).entry
  pub other : (f : FileName) (n : ℕ) → (same_file file f && (page == n)) ≡ false → (same_file file f && (fresh == n)) ≡ false → new f n ≡ old f n

-- the two halves of a page that was divided at k, one of which has one more item
abbrev pub left_with : Content → ℕ → ℕ → Item → Content
left_with c k at x = if nat_le at k then with_item (left_half c k) at x else left_half c k

abbrev pub right_with : Content → ℕ → ℕ → Item → Content
right_with c k at x = if nat_le at k then right_half c k else with_item (right_half c k) (in_right c.kind k at) x

-- a page was divided, and an item put into one of the halves
pub record IsPutInHalf (file : FileName) (page fresh : ℕ) (c : Content) (at : ℕ) (x : Item) (between : List ℕ) (old new : Bodies) : Type 0 where
  pub k : ℕ
  pub middle : IsMiddle c k
  pub sizes : AreHalves c k
  pub left : HasContent (new file) page (left_with c k at x)
  pub right : HasContent (new file) fresh (right_with c k at x)
  pub between_is : between ≡ (item_at c.items k).entry
  pub other : (f : FileName) (n : ℕ) → (same_file file f && (page == n)) ≡ false → (same_file file f && (fresh == n)) ≡ false → new f n ≡ old f n

-- Pages that lose an item: the ones beside them, with which they are joined or divided anew, and pages that are free then.
use Rattle.std.specs.Prelude.{◌≡◌, ◌==◌, ◌&&◌, ◌⊎◌, ℕ, ◌-◌, ◌<◌, ◌≤◌, ◌^◌, nat_lt, if◌then◌else◌, Bool, true, false, List, length, Option, Some, None}
use Rattle.std.specs.List.{AllByRecursion}
use Rattle.std.specs.Prelude.{drop, slice_index, IsSome}
use Rattle.aria_page.specs.declared.page.TheConstants.{BODY_BYTES}
use Rattle.aria_page.specs.declared.page_kind.PageKind.TheVariants.{FreeIndex}
use Rattle.aria_page.specs.PageKind.{kind_byte}
use Rattle.aria_page.specs.Number.{number_of}
use Rattle.aria_page.specs.declared.edit.Edit.{Edit}
use Rattle.aria_host.specs.declared.file_name.FileName.{FileName}
use Rattle.aria_host.specs.Folder.{same_file}
use Rattle.aria_cache.specs.PageState.{PageState, Bodies}
use Rattle.aria_keypage.specs.declared.item.TheConstants.{ENTRY_MAX}
use Rattle.aria_keypage.specs.declared.key_page.TheConstants.{ITEM_BYTES_MAX, ITEM_BYTES_LOW}
use Rattle.aria_keypage.specs.declared.kind.Kind.{Kind}
use Rattle.aria_keypage.specs.declared.kind.Kind.TheVariants.{Node}
use Rattle.aria_keypage.specs.Item.{item_at}
use Rattle.aria_keypage.specs.Child.{child_at}
use Rattle.aria_keypage.specs.Content.{Content, item_bytes, Spells}
use Rattle.aria_keypage.specs.Change.{without_item, Changes}
use Rattle.aria_keypage.specs.Merge.{joined}
use Rattle.aria_keypage.specs.Split.{IsSplit}
use Rattle.aria_key.specs.declared.neighbours.Pair.{Pair}
use Rattle.aria_key.specs.declared.merging.Merger.{Merger}
use Rattle.aria_key.specs.declared.merging.Merger.TheVariants.{Join, Share}
use Rattle.aria_key.specs.Held.{AreEdits, HasContent, Rewritten, IsDivided}
use Rattle.aria_key.specs.IndexFile.{IsFree, IsChain, times_free}

-- what a page must be that an item is taken from
abbrev pub HasItem : Kind → ℕ → Content → Type 0
HasItem kind at c = (c.kind ≡ kind) × (at < length c.items)

-- the edits that take an item out of a page, or none where it is no such page or hasn't the item
abbrev pub IsRemoval : Kind → ℕ → Content → Option (List Edit) → Type 0
IsRemoval kind at c (Some edits) = Changes edits c (without_item c at)
IsRemoval kind at c None = c.kind ≡ kind → at < length c.items → ⊥

-- it has too few item bytes
abbrev pub IsThin : Content → Type 0
IsThin c = length (item_bytes c) < ITEM_BYTES_LOW

-- what is found of that
abbrev pub IsWeighed : Content → Bool → Type 0
IsWeighed c b = (b ≡ true → IsThin c) × (b ≡ false → ITEM_BYTES_LOW ≤ length (item_bytes c))

-- the body of a free page that names the next one
pub record IsFreeBody (next : ℕ) (body : List ℕ) : Type 0 where
  pub size : length body ≡ BODY_BYTES
  pub kind : slice_index body 0 ≡ kind_byte FreeIndex
  pub next_is : next ≡ number_of 4 (drop 1 body)

-- a page is free now, and no other page was changed
pub record IsFreed (file : FileName) (page next : ℕ) (old new : Bodies) : Type 0 where
  pub free : IsFree (new file) page next
  pub other : (f : FileName) (n : ℕ) → (same_file file f && (page == n)) ≡ false → new f n ≡ old f n

-- what a page must be that has another child beside one
abbrev pub HasPair : ℕ → Content → Type 0
HasPair at c = (c.kind ≡ Node) × (0 < length c.items) × (at ≤ length c.items)

-- which item of a node stands between a child and the one beside it: the one to its left, or for the first child to its right
abbrev pub pair_at : ℕ → ℕ
pair_at at = if nat_lt 0 at then at - 1 else 0

-- a child of a node and the one beside it, with the item between them
pub record AreNeighbours (c : Content) (at : ℕ) (r : Pair) : Type 0 where
  pub at_is : r.at ≡ pair_at at
  pub within : r.at < length c.items
  pub left_is : r.left ≡ child_at c r.at
  pub right_is : r.right ≡ (item_at c.items r.at).to
  pub between_is : r.between ≡ (item_at c.items r.at).entry
  pub alone_is : r.alone ≡ (length c.items == 1)

-- what is found in a page for a child: the two, or none where it is no node with that child and another
abbrev pub IsPairOf : ℕ → Content → Option Pair → Type 0
IsPairOf at c (Some r) = AreNeighbours c at r
IsPairOf at c None = c.kind ≡ Node → 0 < length c.items → at ≤ length c.items → ⊥

-- how two pages are merged: the edits that make the left one take over all items of the other, or their items divided anew
abbrev pub IsMerger : Content → Content → List ℕ → Merger → Type 0
IsMerger c d between (Join edits) = Changes edits c (joined c between d) × (length (item_bytes (joined c between d)) ≤ ITEM_BYTES_MAX)
IsMerger c d between (Share split) = IsSplit c (joined c between d) split.left split.right split.between × (ITEM_BYTES_MAX < length (item_bytes (joined c between d)))

-- what is found of two pages: that, or nothing where they are no such pages
abbrev pub IsMergerOf : Content → Content → List ℕ → Option Merger → Type 0
IsMergerOf c d between (Some m) = IsMerger c d between m
IsMergerOf c d between None = c.kind ≡ d.kind → IsThin c ⊎ IsThin d → ⊥

-- the edits of a merger are few
abbrev pub IsSmallMerger : Merger → Type 0
IsSmallMerger (Join edits) = AreEdits 3 8276 edits
IsSmallMerger (Share split) = AreEdits 3 6215 split.left × (length split.right ≡ BODY_BYTES)

-- what a page must be that is merged with the one to its right, which has this body
pub record IsBeside (body : List ℕ) (c : Content) : Type 0 where
  pub content : Content
  pub spells : Spells body content
  pub same : c.kind ≡ content.kind
  pub thin : IsThin c ⊎ IsThin content

-- two pages are there
pub record AreThere (s : PageState) (file : FileName) (left right : ℕ) : Type 0 where
  pub left_some : IsSome (s.bodies file left)
  pub right_some : IsSome (s.bodies file right)
  pub apart : left ≡ right → ⊥

-- A page took over all items of the one to its right; or their items were divided anew, which gives another entry between
-- them.
abbrev pub IsMerged : FileName → ℕ → ℕ → Content → Content → List ℕ → Bodies → Bodies → Option (List ℕ) → Type 0
IsMerged file left right c d between old new None = Rewritten file left (joined c between d) old new × (length (item_bytes (joined c between d)) ≤ ITEM_BYTES_MAX)
IsMerged file left right c d between old new (Some entry) = IsDivided file left right (joined c between d) entry old new × (ITEM_BYTES_MAX < length (item_bytes (joined c between d)))

-- two pages that can be merged
pub record AreMergeable (s : PageState) (file : FileName) (left right : ℕ) (between : List ℕ) : Type 0 where
  pub low_left : left < s.counts file
  pub low_right : right < s.counts file
  pub left_content : Content
  pub right_content : Content
  pub left_held : HasContent (s.bodies file) left left_content
  pub right_held : HasContent (s.bodies file) right right_content
  pub same : left_content.kind ≡ right_content.kind
  pub thin : IsThin left_content ⊎ IsThin right_content
  pub apart : left ≡ right → ⊥
  pub short : length between ≤ ENTRY_MAX

-- a node whose item can have another entry, and pages that can be taken if it has no room
pub record IsRenamable (s : PageState) (file : FileName) (page at : ℕ) (entry : List ℕ) (free : ℕ) : Type 0 where
  pub low : page < s.counts file
  pub content : Content
  pub held : HasContent (s.bodies file) page content
  pub has : HasItem Node at content
  pub short : length entry ≤ ENTRY_MAX
  pub left : List ℕ
  pub chain : IsChain (s.bodies file) free left
  pub off : times_free page left ≡ 0
  pub lows : AllByRecursion (λ p. p < s.counts file) left
  pub room : s.counts file < 2 ^ 31

-- A change of a tree on its way up, with the pages that it took, and the tree at its end.
use Rattle.std.specs.Prelude.{◌≡◌, ℕ, ◌+◌, ◌<◌, ◌≤◌, ◌^◌, max, List, ◌∷◌, length, Option, None, Some}
use Rattle.std.specs.List.{AllByRecursion}
use Rattle.aria_host.specs.declared.file_name.FileName.{FileName}
use Rattle.aria_cache.specs.PageState.{PageState, Bodies}
use Rattle.aria_keypage.specs.declared.item.TheConstants.{ENTRY_MAX}
use Rattle.aria_keypage.specs.declared.key_page.TheConstants.{ITEM_BYTES_MAX}
use Rattle.aria_keypage.specs.declared.kind.Kind.{Kind}
use Rattle.aria_keypage.specs.Item.{Item}
use Rattle.aria_keypage.specs.Content.{Content, item_bytes}
use Rattle.aria_keypage.specs.Change.{with_item}
use Rattle.aria_key.specs.declared.path.Passed.{Passed}
use Rattle.aria_key.specs.declared.place.Divided.{Divided}
use Rattle.aria_key.specs.Tree.{Placed, IsTree}
use Rattle.aria_key.specs.Climb.{FilledOver, IsPath}
use Rattle.aria_key.specs.Owned.{times_in}
use Rattle.aria_key.specs.Standing.{Standing}
use Rattle.aria_key.specs.IndexFile.{IsChain, times_free}
use Rattle.aria_key.specs.Held.{HasContent, Rewritten, Takes, IsPutInHalf}
use Rattle.aria_key.specs.Taking.{IsTaken, AreApart, AreTaken}

-- an item was put into a page; or the page was divided for it, a page that was taken having the right half
abbrev pub IsPlaced : FileName → ℕ → Content → ℕ → Item → ℕ → ℕ → List ℕ → Bodies → Bodies → Option Divided → Type 0
IsPlaced file page c at x count more left old new None = Rewritten file page (with_item c at x) old new × (more ≡ count)
IsPlaced file page c at x count more left old new (Some d) =
    IsTaken (old file) count left d.fresh d.free × IsPutInHalf file page d.fresh c at x d.between old new
    × (ITEM_BYTES_MAX < length (item_bytes (with_item c at x))) × (more ≡ max count (d.fresh + 1))

-- a page that takes an item, and pages that can be taken if it has no room
pub record IsPlaceable (s : PageState) (file : FileName) (page : ℕ) (kind : Kind) (at : ℕ) (entry : List ℕ) (free : ℕ) : Type 0 where
  pub low : page < s.counts file
  pub content : Content
  pub held : HasContent (s.bodies file) page content
  pub takes : Takes kind at content
  pub short : length entry ≤ ENTRY_MAX
  pub left : List ℕ
  pub chain : IsChain (s.bodies file) free left
  pub off : times_free page left ≡ 0
  pub lows : AllByRecursion (λ p. p < s.counts file) left
  pub room : s.counts file < 2 ^ 31

-- and it has no room
pub record IsCramped (s : PageState) (file : FileName) (page : ℕ) (kind : Kind) (at : ℕ) (x : Item) (free : ℕ) : Type 0 where
  pub place : IsPlaceable s file page kind at x.entry free
  pub full : ITEM_BYTES_MAX < length (item_bytes (with_item place.content at x))

-- the first free page then
abbrev pub free_after : ℕ → Option Divided → ℕ
free_after free None = free
free_after free (Some d) = d.free

-- The tree owes a name on the way up, with these pages taken since. No other page was changed.
pub record Ascent (file : FileName) (was now : Bodies) (before count key root : ℕ) (levels : List (List Placed)) (chain : List ℕ) (walk : List Item) (path : List Passed) (x : Item) (free : ℕ) : Type 0 where
  pub apart : AreApart before levels chain
  pub ups : List (List Placed)
  pub l : List Placed
  pub downs : List (List Placed)
  pub n : ℕ
  pub standing : Standing (now file) count key root ups l downs walk n x
  pub filled : FilledOver ups
  pub way : IsPath ups n path
  pub size : length ups + 1 + length downs ≡ length levels
  pub taken : List ℕ
  pub left : List ℕ
  pub chain_is : IsChain (now file) free left
  pub times : (m : ℕ) → times_in m ups + times_in m (l ∷ downs) ≡ times_in m levels + times_free m taken
  pub are : AreTaken before count chain taken left
  pub rest : (m : ℕ) → times_in m levels + times_free m taken ≡ 0 → now file m ≡ was file m

-- The tree was changed, with these pages taken. No other page was changed.
pub record Regrown (file : FileName) (was now : Bodies) (before count key : ℕ) (levels : List (List Placed)) (chain : List ℕ) (walk : List Item) (root free : ℕ) : Type 0 where
  pub apart : AreApart before levels chain
  pub grown : List (List Placed)
  pub tree : IsTree (now file) count key root grown walk
  pub taken : List ℕ
  pub left : List ℕ
  pub chain_is : IsChain (now file) free left
  pub times : (m : ℕ) → times_in m grown ≡ times_in m levels + times_free m taken
  pub are : AreTaken before count chain taken left
  pub rest : (m : ℕ) → times_in m levels + times_free m taken ≡ 0 → now file m ≡ was file m

-- the way up from here can be gone, with a page to be taken on each level and for a new root
pub record CanAscend (s : PageState) (file : FileName) (key root : ℕ) (path : List Passed) (x : Item) (free : ℕ) : Type 0 where
  pub was : Bodies
  pub before : ℕ
  pub levels : List (List Placed)
  pub chain : List ℕ
  pub walk : List Item
  pub ascent : Ascent file was s.bodies before (s.counts file) key root levels chain walk path x free
  pub few : length levels < 16
  pub short : length x.entry ≤ ENTRY_MAX
  pub room : s.counts file + (length path + 1) ≤ 2 ^ 31

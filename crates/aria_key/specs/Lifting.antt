-- A step up from a page that has too few item bytes: the page beside it and the node above.
use Rattle.std.specs.Prelude.{◌≡◌, ◌⊎◌, ⊤, ℕ, ◌+◌, ◌<◌, ◌≤◌, ◌^◌, ◌==◌, ◌&&◌, Bool, true, false, List, [], ◌∷◌, ◌++◌, length, IsSome, Option}
use Rattle.aria_host.specs.declared.file_name.FileName.{FileName}
use Rattle.aria_host.specs.Folder.{same_file}
use Rattle.aria_cache.specs.PageState.{PageState, Bodies}
use Rattle.aria_cache.specs.Calls.{Spends}
use Rattle.aria_keypage.specs.declared.kind.Kind.TheVariants.{Node}
use Rattle.aria_keypage.specs.declared.item.TheConstants.{ENTRY_MAX}
use Rattle.aria_keypage.specs.Item.{Item}
use Rattle.aria_keypage.specs.Content.{Content}
use Rattle.aria_keypage.specs.Change.{without_item}
use Rattle.aria_key.specs.declared.path.Passed.{Passed}
use Rattle.aria_key.specs.declared.thickening.Lift.{Lift}
use Rattle.aria_key.specs.declared.thickening.Lift.TheVariants.{Stands, Thin, Parted}
use Rattle.aria_key.specs.Path.{IsTop}
use Rattle.aria_key.specs.Tree.{Placed}
use Rattle.aria_key.specs.Owned.{times_in}
use Rattle.aria_key.specs.IndexFile.{IsFree, times_free}
use Rattle.aria_key.specs.Held.{HasContent}
use Rattle.aria_key.specs.Taking.{AreApart, GrowsBy}
use Rattle.aria_key.specs.Ascent.{Ascent}
use Rattle.aria_key.specs.Thinning.{AreMoved, Thinned, Reduced}
use Rattle.aria_key.specs.Merging.{HasItem, IsThin}

-- a page of the file
pub record IsPage (s : PageState) (file : FileName) (page : ℕ) : Type 0 where
  pub low : page < s.counts file
  pub some : IsSome (s.bodies file page)

-- the page to the right is free; and so is the node, or it lost the item that named that page
abbrev pub IsEmptied : FileName → ℕ → ℕ → ℕ → ℕ → Content → ℕ → Bool → Bodies → Bodies → Lift → Type 0
IsEmptied file node left right at c free last old new (Stands h) =
    (last ≡ true) × (h.root ≡ left) × (h.free ≡ node) × IsFree (new file) right free × IsFree (new file) node right
    × ((f : FileName) (n : ℕ) → (same_file file f && (right == n)) ≡ false → (same_file file f && (node == n)) ≡ false → new f n ≡ old f n)
IsEmptied file node left right at c free last old new (Thin next) =
    (last ≡ false) × (next ≡ right) × IsFree (new file) right free × HasContent (new file) node (without_item c at)
    × ((f : FileName) (n : ℕ) → (same_file file f && (right == n)) ≡ false → (same_file file f && (node == n)) ≡ false → new f n ≡ old f n)
IsEmptied file node left right at c free last old new (Parted d) = ⊥

-- a node that loses an item, and a page that is free then
pub record CanEmpty (s : PageState) (file : FileName) (node right at : ℕ) : Type 0 where
  pub low : node < s.counts file
  pub content : Content
  pub held : HasContent (s.bodies file) node content
  pub has : HasItem Node at content
  pub right_is : IsPage s file right
  pub apart : right ≡ node → ⊥

-- The tree owes a name on the way up, as it stood at some moment since.
pub record Owing (file : FileName) (was now : Bodies) (before count key root : ℕ) (levels : List (List Placed)) (chain : List ℕ) (walk : List Item) (path : List Passed) (x : Item) (free : ℕ) : Type 0 where
  pub mid : Bodies
  pub since : ℕ
  pub own : List (List Placed)
  pub left : List ℕ
  pub ascent : Ascent file mid now since count key root own left walk path x free
  pub few : length own ≤ length levels
  pub short : length x.entry ≤ ENTRY_MAX
  pub apart : AreApart before levels chain
  pub are : AreMoved before since levels chain (λ m. times_in m own) left
  pub rest : (m : ℕ) → m < before → times_in m levels + times_free m chain ≡ 0 → mid file m ≡ was file m

-- what a step up gives
abbrev pub IsLifted : FileName → Bodies → Bodies → ℕ → ℕ → ℕ → ℕ → List (List Placed) → List ℕ → List Item → List Passed → ℕ → Lift → Type 0
IsLifted file was now before count key root levels chain walk path node (Stands h) = Reduced file was now before count key levels chain walk h.root h.free
IsLifted file was now before count key root levels chain walk path node (Thin free) = Thinned file was now before count key root levels chain walk path node free
IsLifted file was now before count key root levels chain walk path node (Parted d) = Owing file was now before count key root levels chain walk path (record { entry = d.between; to = d.fresh }) d.free

-- how far it spends the group
abbrev pub SpendsLift : Lift → PageState → PageState → Type 0
SpendsLift (Stands h) old new = Spends 3 7 24792 old new
SpendsLift (Thin free) old new = Spends 3 10 17641 old new
SpendsLift (Parted d) old new = Spends 6 14 26052 old new

-- how far the file grew
abbrev pub GrowsLift : FileName → ℕ → Lift → PageState → PageState → Type 0
GrowsLift file free (Stands h) old new = new.counts ≡ old.counts
GrowsLift file free (Thin next) old new = new.counts ≡ old.counts
GrowsLift file free (Parted d) old new = GrowsBy file 1 free d.free old new

-- what the node above a joined page takes of that
abbrev pub SpendsEmpty : Lift → PageState → PageState → Type 0
SpendsEmpty (Stands h) old new = Spends 2 2 16516 old new
SpendsEmpty (Thin free) old new = Spends 2 4 9365 old new
SpendsEmpty (Parted d) old new = ⊥

-- a step up can be gone from a page with too few item bytes
pub record CanLift (s : PageState) (file : FileName) (key root : ℕ) (last : Passed) (top : Bool) (page free : ℕ) : Type 0 where
  pub was : Bodies
  pub before : ℕ
  pub levels : List (List Placed)
  pub chain : List ℕ
  pub walk : List Item
  pub path : List Passed
  pub thinned : Thinned file was s.bodies before (s.counts file) key root levels chain walk (path ++ last ∷ []) page free
  pub few : length levels < 16
  pub thin : (c : Content) → HasContent (s.bodies file) page c → IsThin c
  pub top_is : IsTop top path
  pub room : s.counts file < 2 ^ 31

-- the way up from here can be gone
pub record CanThicken (s : PageState) (file : FileName) (key root : ℕ) (path : List Passed) (page free : ℕ) : Type 0 where
  pub was : Bodies
  pub before : ℕ
  pub levels : List (List Placed)
  pub chain : List ℕ
  pub walk : List Item
  pub thinned : Thinned file was s.bodies before (s.counts file) key root levels chain walk path page free
  pub few : length levels < 16
  pub room : s.counts file + (length path + 1) ≤ 2 ^ 31

-- A file grew by so many pages at most, and only where no page is free any more. No other file did.
pub record Widens (file : FileName) (most next : ℕ) (old new : PageState) : Type 0 where
  pub others : (f : FileName) → same_file file f ≡ false → new.counts f ≡ old.counts f
  pub least : old.counts file ≤ new.counts file
  pub most_is : new.counts file ≤ old.counts file + most
  pub rose : (new.counts file ≡ old.counts file) ⊎ (next ≡ 0)

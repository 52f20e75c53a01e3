-- A tree that lost an entry, on its way back up: one page of a level may have too few item bytes.
use Rattle.std.specs.Prelude.{◌≡◌, ⊤, ℕ, zero, suc, ◌+◌, ◌<◌, ◌≤◌, nat_lt, nat_le, ◌&&◌, if◌then◌else◌, false, List, [], ◌∷◌, ◌++◌, length}
use Rattle.aria_host.specs.declared.file_name.FileName.{FileName}
use Rattle.aria_cache.specs.PageState.{Bodies}
use Rattle.aria_keypage.specs.declared.key_page.TheConstants.{ITEM_BYTES_LOW}
use Rattle.aria_keypage.specs.Item.{Item}
use Rattle.aria_keypage.specs.Content.{item_bytes}
use Rattle.aria_key.specs.declared.path.Passed.{Passed}
use Rattle.aria_key.specs.Tree.{Placed, items_on, IsLevel, Filled, kind_over, is_top, Under, HoldAll}
use Rattle.aria_key.specs.Climb.{above, Over, FilledOver, IsPath}
use Rattle.aria_key.specs.Owned.{times_in}
use Rattle.aria_key.specs.IndexFile.{IsChain, IsTreeOf, times_free}
use Rattle.aria_key.specs.Taking.{AreApart}

-- the pages of a level are full enough, but for this one
abbrev pub FilledBut : ℕ → List Placed → Type 0
FilledBut n [] = ⊤
FilledBut zero (p ∷ l) = Filled l
FilledBut (suc n) (p ∷ l) = (ITEM_BYTES_LOW ≤ length (item_bytes p.content)) × FilledBut n l

-- page n of a level
pub record IsNth (l : List Placed) (n page : ℕ) : Type 0 where
  pub before : List Placed
  pub here : Placed
  pub behind : List Placed
  pub parts : l ≡ before ++ here ∷ behind
  pub page_is : here.page ≡ page
  pub index : n ≡ length before

-- Pages went from the free ones and from behind the file's end into a tree that has page m `now m` times, and from the
-- tree to the free ones.
pub record AreMoved (before count : ℕ) (levels : List (List Placed)) (chain : List ℕ) (now : ℕ → ℕ) (left : List ℕ) : Type 0 where
  pub grows : before ≤ count
  pub times : (m : ℕ) → now m + times_free m left ≡ times_in m levels + times_free m chain + (if nat_le before m && nat_lt m count then 1 else 0)

-- Page n of a level may have too few item bytes, and nothing else is amiss. No page was changed but those of the tree, of
-- the free ones, and behind the file's end.
pub record Thinned (file : FileName) (was now : Bodies) (before count key root : ℕ) (levels : List (List Placed)) (chain : List ℕ) (walk : List Item) (path : List Passed) (page free : ℕ) : Type 0 where
  pub apart : AreApart before levels chain
  pub ups : List (List Placed)
  pub l : List Placed
  pub downs : List (List Placed)
  pub n : ℕ
  pub over : Over key root ups
  pub filled : FilledOver ups
  pub level : IsLevel (kind_over downs) key (above root ups) l
  pub but : is_top ups ≡ false → FilledBut n l
  pub below : Under false key (items_on l) downs walk
  pub nth : IsNth l n page
  pub way : IsPath ups n path
  pub size : length ups + 1 + length downs ≤ length levels
  pub hold_ups : HoldAll (now file) count ups
  pub hold : HoldAll (now file) count (l ∷ downs)
  pub left : List ℕ
  pub chain_is : IsChain (now file) free left
  pub are : AreMoved before count levels chain (λ m. times_in m ups + times_in m (l ∷ downs)) left
  pub rest : (m : ℕ) → m < before → times_in m levels + times_free m chain ≡ 0 → now file m ≡ was file m

-- The tree was changed so far, and stands: no page has too few item bytes.
pub record Reduced (file : FileName) (was now : Bodies) (before count key : ℕ) (levels : List (List Placed)) (chain : List ℕ) (walk : List Item) (root free : ℕ) : Type 0 where
  pub apart : AreApart before levels chain
  pub grown : List (List Placed)
  pub tree : IsTreeOf (now file) count key root grown walk
  pub left : List ℕ
  pub chain_is : IsChain (now file) free left
  pub are : AreMoved before count levels chain (λ m. times_in m grown) left
  pub rest : (m : ℕ) → m < before → times_in m levels + times_free m chain ≡ 0 → now file m ≡ was file m

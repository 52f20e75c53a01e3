-- An entry that is taken out of the tree of a key.
use Rattle.std.specs.Prelude.{true, ◌≡◌, ◌≢◌, ◌⊎◌, ℕ, ◌+◌, ◌<◌, ◌≤◌, ◌^◌, List, length, Option}
use Rattle.aria_host.specs.declared.file_name.FileName.{FileName}
use Rattle.aria_cache.specs.PageState.{PageState}
use Rattle.aria_keypage.specs.Item.{Item}
use Rattle.aria_key.specs.declared.path.Passed.{Passed}
use Rattle.aria_key.specs.Tree.{Placed, IsTree}
use Rattle.aria_key.specs.Place.{IsFound}
use Rattle.aria_key.specs.Owned.{without_entry}
use Rattle.aria_key.specs.IndexFile.{root_in, free_in, IsChain, IsTreeOf, IsIndexFile, HoldsTrees, with_walk}
use Rattle.aria_key.specs.Taking.{AreApart}
use Rattle.aria_key.specs.Inserting.{IsAbsent, IsFew, KeepsHeader}

-- an item has the entry
abbrev pub IsThere : List ℕ → List Item → Type 0
IsThere entry walk = IsAbsent entry walk → ⊥

-- a tree that an entry can be taken out of, and the free pages
pub record HasEntry (bodies : ℕ → Option (List ℕ)) (count key root free : ℕ) (entry : List ℕ) (levels : List (List Placed)) (chain : List ℕ) (walk : List Item) : Type 0 where
  pub tree : IsTreeOf bodies count key root levels walk
  pub apart : AreApart count levels chain
  pub chain_is : IsChain bodies free chain
  pub there : IsThere entry walk
  pub few : IsFew walk

-- there is one, and the file has room for what it may grow by
pub record CanWithdraw (s : PageState) (file : FileName) (key root free : ℕ) (entry : List ℕ) : Type 0 where
  pub levels : List (List Placed)
  pub chain : List ℕ
  pub walk : List Item
  pub has : HasEntry (s.bodies file) (s.counts file) key root free entry levels chain walk
  pub room : s.counts file + 32 ≤ 2 ^ 31

-- the entry was found in a leaf of such a tree
pub record CanPluck (s : PageState) (file : FileName) (key root page at free : ℕ) (path : List Passed) : Type 0 where
  pub entry : List ℕ
  pub levels : List (List Placed)
  pub chain : List ℕ
  pub walk : List Item
  pub tree : IsTree (s.bodies file) (s.counts file) key root levels walk
  pub apart : AreApart (s.counts file) levels chain
  pub chain_is : IsChain (s.bodies file) free chain
  pub found : IsFound (s.bodies file) (s.counts file) key root entry levels walk page at true path
  pub few : length levels < 16
  pub room : s.counts file + (length path + 1) ≤ 2 ^ 31

-- an index file that an entry of a key can be taken out of, whose header says these numbers
pub record IsReadyToLose (keys count : ℕ) (bodies : ℕ → Option (List ℕ)) (walks : ℕ → List Item) (key root free : ℕ) (entry : List ℕ) : Type 0 where
  pub low : key < keys
  pub held : HoldsTrees keys count bodies walks
  pub there : IsThere entry (walks key)
  pub few : IsFew (walks key)
  pub root_is : root ≡ root_in held.header key
  pub free_is : free ≡ free_in held.header

-- the entry is gone, and the entries of all other keys are what they were
pub record IsRemoved (keys count more : ℕ) (new : ℕ → Option (List ℕ)) (walks : ℕ → List Item) (key : ℕ) (entry header : List ℕ) : Type 0 where
  pub now : List ℕ
  pub levels : ℕ → List (List Placed)
  pub free : List ℕ
  pub file : IsIndexFile keys more new now levels free (with_walk key (without_entry entry (walks key)) walks)
  pub keeps : KeepsHeader key header now
  pub rose : (more ≡ count) ⊎ (free_in now ≡ 0)

-- there is such a file, and it has room
pub record CanLose (s : PageState) (file : FileName) (key root free : ℕ) (entry : List ℕ) : Type 0 where
  pub keys : ℕ
  pub walks : ℕ → List Item
  pub ready : IsReadyToLose keys (s.counts file) (s.bodies file) walks key root free entry
  pub room : s.counts file + 32 ≤ 2 ^ 31

-- an index file that an entry of a key can be taken out of
pub record CanRemove (s : PageState) (file : FileName) (key : ℕ) (entry : List ℕ) : Type 0 where
  pub keys : ℕ
  pub walks : ℕ → List Item
  pub low : key < keys
  pub held : HoldsTrees keys (s.counts file) (s.bodies file) walks
  pub there : IsThere entry (walks key)
  pub few : IsFew (walks key)
  pub room : s.counts file + 32 ≤ 2 ^ 31

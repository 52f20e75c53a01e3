-- An entry that is put into the tree of a key.
use Rattle.std.specs.Prelude.{◌≡◌, ◌≢◌, ◌⊎◌, ⊤, ℕ, ◌+◌, ◌<◌, ◌≤◌, ◌^◌, Bool, false, List, length, Option, Some, Result, Ok, Err}
use Rattle.std.specs.List.{AllByRecursion}
use Rattle.aria_host.specs.declared.file_name.FileName.{FileName}
use Rattle.aria_cache.specs.declared.row_fault.RowFault.{RowFault}
use Rattle.aria_cache.specs.declared.row_fault.RowFault.TheVariants as why
use Rattle.aria_cache.specs.PageState.{PageState}
use Rattle.aria_keypage.specs.Item.{Item}
use Rattle.aria_key.specs.Tree.{Placed}
use Rattle.aria_key.specs.Owned.{with_entry}
use Rattle.aria_key.specs.IndexFile.{root_in, free_in, IsChain, IsTreeOf, IsIndexFile, HoldsTrees, with_walk, ChangesRoot}
use Rattle.aria_key.specs.Taking.{AreApart}

-- the most entries of a key that count: a table has fewer rows
abbrev pub IsFew : List Item → Type 0
IsFew walk = length walk < 2 ^ 24

-- an entry that no item has
abbrev pub IsAbsent : List ℕ → List Item → Type 0
IsAbsent entry walk = AllByRecursion (λ y. y.entry ≢ entry) walk

-- a tree that an entry can be put into, with pages that can be taken for it
pub record IsOpenTo (bodies : ℕ → Option (List ℕ)) (count key root free : ℕ) (entry : List ℕ) (levels : List (List Placed)) (chain : List ℕ) (walk : List Item) : Type 0 where
  pub tree : IsTreeOf bodies count key root levels walk
  pub apart : AreApart count levels chain
  pub chain_is : IsChain bodies free chain
  pub absent : IsAbsent entry walk
  pub few : IsFew walk

-- there is one, and the file has room for what it may grow by
pub record CanAdd (s : PageState) (file : FileName) (key root free : ℕ) (entry : List ℕ) : Type 0 where
  pub levels : List (List Placed)
  pub chain : List ℕ
  pub walk : List Item
  pub opens : IsOpenTo (s.bodies file) (s.counts file) key root free entry levels chain walk
  pub room : s.counts file + 32 ≤ 2 ^ 31

-- an index file that an entry of a key can be put into, whose header says these numbers
pub record IsReadyFor (keys count : ℕ) (bodies : ℕ → Option (List ℕ)) (walks : ℕ → List Item) (key root free : ℕ) (entry : List ℕ) : Type 0 where
  pub low : key < keys
  pub held : HoldsTrees keys count bodies walks
  pub absent : IsAbsent entry (walks key)
  pub few : IsFew (walks key)
  pub root_is : root ≡ root_in held.header key
  pub free_is : free ≡ free_in held.header

-- the header then is as it was, or with another root of that key and another first free page
abbrev pub KeepsHeader : ℕ → List ℕ → List ℕ → Type 0
KeepsHeader key old new = (new ≡ old) ⊎ ChangesRoot key old new

-- The file has such a header. Where the file grew, it names no free page any more.
pub record HeaderKept (key count more : ℕ) (header : List ℕ) (bodies : ℕ → Option (List ℕ)) : Type 0 where
  pub now : List ℕ
  pub there : bodies 0 ≡ Some now
  pub keeps : KeepsHeader key header now
  pub rose : (more ≡ count) ⊎ (free_in now ≡ 0)

-- the entry is in its place, and the entries of all other keys are what they were
pub record IsInserted (keys count more : ℕ) (new : ℕ → Option (List ℕ)) (walks : ℕ → List Item) (key : ℕ) (x : Item) (header : List ℕ) : Type 0 where
  pub now : List ℕ
  pub levels : ℕ → List (List Placed)
  pub free : List ℕ
  pub file : IsIndexFile keys more new now levels free (with_walk key (with_entry x (walks key)) walks)
  pub keeps : KeepsHeader key header now
  pub rose : (more ≡ count) ⊎ (free_in now ≡ 0)

-- there is one, and it has room
pub record CanChange (s : PageState) (file : FileName) (key root free : ℕ) (entry : List ℕ) : Type 0 where
  pub keys : ℕ
  pub walks : ℕ → List Item
  pub ready : IsReadyFor keys (s.counts file) (s.bodies file) walks key root free entry
  pub room : s.counts file + 32 ≤ 2 ^ 31

-- Where the file had too many pages, which is tested, no entry was put.
abbrev pub TestsFull : {T : Type 0} → Bool → ℕ → Type 0 → Result T RowFault → Type 0
TestsFull tested count Nothing (Ok x) = tested ≡ false → count < 2 ^ 30
TestsFull tested count Nothing (Err (why.Fault fault)) = ⊤
TestsFull tested count Nothing (Err (why.TableFull pages)) = (tested ≡ false) × (pages ≡ count) × (2 ^ 30 ≤ count) × Nothing

-- an index file that an entry of a key can be put into
pub record CanInsert (s : PageState) (file : FileName) (key : ℕ) (entry : List ℕ) : Type 0 where
  pub keys : ℕ
  pub walks : ℕ → List Item
  pub low : key < keys
  pub held : HoldsTrees keys (s.counts file) (s.bodies file) walks
  pub absent : IsAbsent entry (walks key)
  pub few : IsFew (walks key)
  pub room : s.counts file + 32 ≤ 2 ^ 31

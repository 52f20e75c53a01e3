-- Pages that bitmap pages promise for a part.
use Rattle.std.specs.Prelude.{◌≡◌, ◌≢◌, ℕ, ◌%◌, ◌<◌, ◌⊎◌, Bool, true, false, IsTrue, List, Option, Some, None}
use Rattle.aria_bitmap.specs.Code.{code}
use Rattle.aria_bitmap.specs.Pattern.{pattern}
use Rattle.aria_bitmap.specs.Promise.{promises}
use Rattle.aria_cache.specs.PageState.{PageState}
use Rattle.aria_cache.specs.Calls.{SameSlots, SameGroup, SameLog, FewerLate}
use Rattle.aria_block.specs.declared.layout.TheConstants.{MAP_EVERY}
use Rattle.aria_block.specs.declared.part_kind.PartKind.{PartKind}
use Rattle.aria_block.specs.declared.part_kind.PartKind.TheVariants as part
use Rattle.aria_block.specs.DataFile.{map_of, nth_of}

abbrev pub is_tail : PartKind → Bool
is_tail part.Head = false
is_tail part.Tail = true

-- the page's pattern on this bitmap page promises room for a part of so many bytes
abbrev pub IsPromised : PartKind → ℕ → ℕ → List ℕ → Type 0
IsPromised kind len n map = IsTrue (promises (is_tail kind) len (pattern map (nth_of n)))

-- A page of the file under this bitmap page that it promises, or none where it promises no such page.
abbrev pub FindsUnder : PartKind → ℕ → ℕ → ℕ → List ℕ → Option ℕ → Type 0
FindsUnder kind len count at map (Some n) = (n % MAP_EVERY ≢ 0) × (map_of n ≡ at) × (n < count) × IsPromised kind len n map
FindsUnder kind len count at map None = (n : ℕ) → n % MAP_EVERY ≢ 0 → map_of n ≡ at → n < count → IsPromised kind len n map → ⊥

-- no page of the file under the bitmap pages before a place is promised
abbrev pub NoneBefore : PartKind → ℕ → ℕ → (ℕ → Option (List ℕ)) → ℕ → Type 0
NoneBefore kind len count bodies to = (n : ℕ) → n % MAP_EVERY ≢ 0 → map_of n < to → n < count → (map : List ℕ) → bodies (map_of n) ≡ Some map → IsPromised kind len n map → ⊥

-- A page of the file that its bitmap page promises, or none where no page of the file is promised.
abbrev pub FindsPage : PartKind → ℕ → ℕ → (ℕ → Option (List ℕ)) → Option ℕ → Type 0
FindsPage kind len count bodies (Some n) = (map : List ℕ) → bodies (map_of n) ≡ Some map → IsPromised kind len n map
FindsPage kind len count bodies None = NoneBefore kind len count bodies count

-- Pages are looked at, and nothing changes but the page that is in memory.
pub record Looks (tells : Bool) (old new : PageState) : Type 0 where
  pub slots : SameSlots old new
  pub group : SameGroup old new
  pub log : SameLog old new
  pub counts : new.counts ≡ old.counts
  pub bodies : IsTrue tells → new.bodies ≡ old.bodies
  pub late : IsTrue tells → FewerLate old new

-- the code of that page promises room for a part of so many bytes
pub record HasPromise (kind : PartKind) (len page : ℕ) (bodies : ℕ → Option (List ℕ)) : Type 0 where
  pub promise : (body : List ℕ) → bodies page ≡ Some body → IsTrue (promises (is_tail kind) len (code body))

-- A page of the file was taken, or a new one, which is only done where no page of the file is promised.
abbrev pub GrowsLast : PartKind → ℕ → ℕ → (ℕ → Option (List ℕ)) → ℕ → Type 0
GrowsLast kind len count bodies page = (page < count) ⊎ NoneBefore kind len count bodies count

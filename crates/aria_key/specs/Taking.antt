-- Pages that a change takes for itself: the first free one, or the one behind the end of the file.
use Rattle.std.specs.Prelude.{◌≡◌, ◌≢◌, ◌⊎◌, ◌&&◌, ℕ, ◌+◌, ◌<◌, ◌≤◌, ◌^◌, false, nat_lt, nat_le, if◌then◌else◌, List, [], ◌∷◌, Option}
use Rattle.std.specs.List.{AllByRecursion}
use Rattle.aria_host.specs.declared.file_name.FileName.{FileName}
use Rattle.aria_host.specs.Folder.{same_file}
use Rattle.aria_cache.specs.PageState.{PageState}
use Rattle.aria_key.specs.Tree.{Placed}
use Rattle.aria_key.specs.Owned.{times_in}
use Rattle.aria_key.specs.IndexFile.{IsFree, IsChain, times_free}

-- the page that is taken where these are free, and the first free one then
abbrev pub IsTaken : (ℕ → Option (List ℕ)) → ℕ → List ℕ → ℕ → ℕ → Type 0
IsTaken bodies count [] page next = (page ≡ count) × (next ≡ 0)
IsTaken bodies count (p ∷ ps) page next = (page ≡ p) × IsChain bodies next ps

-- it is a page of the file, or where none is free the one behind its end
abbrev pub IsSpare : ℕ → ℕ → ℕ → ℕ → Type 0
IsSpare count free page next = ((free ≢ 0) × (page < count)) ⊎ ((free ≡ 0) × (page ≡ count) × (next ≡ 0))

-- a page of the file is free
pub record IsFreePage (s : PageState) (file : FileName) (page : ℕ) : Type 0 where
  pub low : page < s.counts file
  pub next : ℕ
  pub free : IsFree (s.bodies file) page next

-- a page can be taken: the free ones are pages of the file, and it can grow
pub record HasSpare (s : PageState) (file : FileName) (free : ℕ) : Type 0 where
  pub left : List ℕ
  pub chain : IsChain (s.bodies file) free left
  pub low : AllByRecursion (λ p. p < s.counts file) left
  pub room : s.counts file < 2 ^ 31

-- a tree's levels and the free pages have no page in common, and have none behind the end nor the header
pub record AreApart (before : ℕ) (levels : List (List Placed)) (chain : List ℕ) : Type 0 where
  pub some : 0 < before
  pub once : (n : ℕ) → times_in n levels + times_free n chain ≤ 1
  pub low : (n : ℕ) → before ≤ n → times_in n levels + times_free n chain ≡ 0
  pub header : times_in 0 levels + times_free 0 chain ≡ 0

-- these were taken of the free pages and from behind the end, and those are left
pub record AreTaken (before count : ℕ) (chain taken left : List ℕ) : Type 0 where
  pub grows : before ≤ count
  pub times : (n : ℕ) → times_free n taken + times_free n left ≡ times_free n chain + (if nat_le before n && nat_lt n count then 1 else 0)

-- A file grew by so many pages at most, and only where no page is free any more. No other file did.
pub record GrowsBy (file : FileName) (most free next : ℕ) (old new : PageState) : Type 0 where
  pub others : (f : FileName) → same_file file f ≡ false → new.counts f ≡ old.counts f
  pub least : old.counts file ≤ new.counts file
  pub most_is : new.counts file ≤ old.counts file + most
  pub none : free ≡ 0 → next ≡ 0
  pub rose : (new.counts file ≡ old.counts file) ⊎ (next ≡ 0)

-- A file grew by at most 32 pages, and no other file did.
pub record GrowsTo (file : FileName) (old new : PageState) : Type 0 where
  pub others : (f : FileName) → same_file file f ≡ false → new.counts f ≡ old.counts f
  pub least : old.counts file ≤ new.counts file
  pub most : new.counts file ≤ old.counts file + 32

-- An index file: its header page, the trees of its keys, and the chain of its free pages (docs/FORMATS.md).
use Rattle.std.specs.Prelude.{◌≡◌, ◌≢◌, ◌==◌, ◌&&◌, ◌⊎◌, ℕ, zero, suc, ◌+◌, ◌*◌, ◌<◌, ◌≤◌, nat_lt, if◌then◌else◌, List, [], ◌∷◌, length, drop, slice_index, Option, Some}
use Rattle.aria_page.specs.declared.page.TheConstants.{BODY_BYTES}
use Rattle.aria_page.specs.declared.page_kind.PageKind.TheVariants.{FreeIndex}
use Rattle.aria_page.specs.PageKind.{kind_byte}
use Rattle.aria_page.specs.Number.{number_of, number}
use Rattle.aria_page.specs.Page.{with_bytes}
use Rattle.aria_keypage.specs.Item.{Item}
use Rattle.aria_value.specs.declared.definition.TheConstants.{MAX_KEYS}
use Rattle.aria_key.specs.declared.layout.TheConstants.{FREE_AT, ROOTS_AT}
use Rattle.aria_key.specs.Tree.{Placed, IsTree}
use Rattle.aria_key.specs.Owned.{times_in}

-- ---- the header's numbers

-- the first page of the chain of free pages; 0 where there is none
abbrev pub free_in : List ℕ → ℕ
free_in header = number_of 4 (drop FREE_AT header)

-- the root of a key's tree; 0 where it is empty
abbrev pub root_in : List ℕ → ℕ → ℕ
root_in header key = number_of 4 (drop (ROOTS_AT + 4 * key) header)

-- the header with another root, and with another first free page
abbrev pub with_root : ℕ → ℕ → List ℕ → List ℕ
with_root key root header = with_bytes (ROOTS_AT + 4 * key) (number 4 root) header

abbrev pub with_free : ℕ → List ℕ → List ℕ
with_free free header = with_bytes FREE_AT (number 4 free) header

-- ---- free pages

-- a free page, which names the next one; 0 where it is the last
pub record IsFree (bodies : ℕ → Option (List ℕ)) (page next : ℕ) : Type 0 where
  pub body : List ℕ
  pub there : bodies page ≡ Some body
  pub size : length body ≡ BODY_BYTES
  pub kind : slice_index body 0 ≡ kind_byte FreeIndex
  pub next_is : next ≡ number_of 4 (drop 1 body)

-- the chain of free pages from this one on
abbrev pub IsChain : (ℕ → Option (List ℕ)) → ℕ → List ℕ → Type 0
IsChain bodies head [] = head ≡ 0
IsChain bodies head (page ∷ pages) = (head ≡ page) × (page ≢ 0) × (next : ℕ) × IsFree bodies page next × IsChain bodies next pages

-- ---- trees

-- The tree of a key with its levels; an empty one has no page.
abbrev pub IsTreeOf : (ℕ → Option (List ℕ)) → ℕ → ℕ → ℕ → List (List Placed) → List Item → Type 0
IsTreeOf bodies count key root levels walk =
    ((root ≡ 0) × (levels ≡ []) × (walk ≡ []))
    ⊎ ((root ≢ 0) × IsTree bodies count key root levels walk)

-- how often page n is one of a list's, and one of the trees' of the first keys
abbrev pub times_free : ℕ → List ℕ → ℕ
times_free n [] = 0
times_free n (page ∷ pages) = (if n == page then 1 else 0) + times_free n pages

abbrev pub times_all : ℕ → ℕ → (ℕ → List (List Placed)) → ℕ
times_all n zero levels = 0
times_all n (suc keys) levels = times_in n (levels keys) + times_all n keys levels

-- The file: each page behind the header is in one tree or in the chain, once.
pub record IsIndexFile (keys count : ℕ) (bodies : ℕ → Option (List ℕ)) (header : List ℕ) (levels : ℕ → List (List Placed)) (free : List ℕ) (walks : ℕ → List Item) : Type 0 where
  pub there : bodies 0 ≡ Some header
  pub size : length header ≡ BODY_BYTES
  pub some : 0 < count
  pub few : keys ≤ MAX_KEYS
  pub trees : (key : ℕ) → key < keys → IsTreeOf bodies count key (root_in header key) (levels key) (walks key)
  pub chain : IsChain bodies (free_in header) free
  pub once : (n : ℕ) → times_all n keys levels + times_free n free ≡ (if nat_lt 0 n && nat_lt n count then 1 else 0)

-- There is such a file with these entries of each key.
pub record HoldsTrees (keys count : ℕ) (bodies : ℕ → Option (List ℕ)) (walks : ℕ → List Item) : Type 0 where
  pub header : List ℕ
  pub levels : ℕ → List (List Placed)
  pub free : List ℕ
  pub file : IsIndexFile keys count bodies header levels free walks

-- the entries of one key are others
abbrev pub with_walk : ℕ → List Item → (ℕ → List Item) → ℕ → List Item
with_walk key walk walks = λ k. if key == k then walk else walks k

-- Of the header nothing but that root and the first free page was changed.
pub record ChangesRoot (key : ℕ) (old new : List ℕ) : Type 0 where
  pub root : ℕ
  pub free : ℕ
  pub is : new ≡ with_root key root (with_free free old)

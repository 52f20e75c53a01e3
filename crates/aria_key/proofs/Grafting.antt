-- An entry that is put into a tree, seen from before the search.
use Rattle.std.proofs.Common.{◌≡◌, ◌≢◌, ℕ, ◌+◌, ◌<◌, ◌≤◌, Bool, true, false, IsTrue, List, length, sym, subst, arith}
use Rattle.std.specs.Prelude.{Option, None, Some}
use Rattle.aria_host.specs.declared.file_name.FileName.{FileName}
use Rattle.aria_cache.specs.PageState.{PageState, Bodies, Counts}
use Rattle.aria_keypage.specs.declared.kind.Kind.{Kind}
use Rattle.aria_keypage.specs.declared.kind.Kind.TheVariants.{Leaf}
use Rattle.aria_keypage.specs.Item.{Item}
use Rattle.aria_keypage.specs.Content.{Content}
use Rattle.aria_key.specs.declared.path.Passed.{Passed}
use Rattle.aria_key.specs.declared.place.Divided.{Divided}
use Rattle.aria_key.specs.Tree.{Placed, IsTree}
use Rattle.aria_key.specs.Place.{IsFound}
use Rattle.aria_key.specs.Held.{HasContent}
use Rattle.aria_key.specs.Owned.{with_entry}
use Rattle.aria_key.specs.IndexFile.{IsChain, times_free}
use Rattle.aria_key.specs.Ascent.{IsPlaced, IsPlaceable, Ascent, Regrown, CanAscend}
use Rattle.aria_key.specs.Inserting.{IsOpenTo, CanAdd}
use Rattle.aria_key.specs.Reading.{HasRoot}
use Rattle.aria_key.proofs.Adding.{open-tree, absent-same, path-few}
use Rattle.aria_key.proofs.Levels.{twelve}
use Rattle.aria_key.proofs.Cramped.{placeable-then}
use Rattle.aria_key.proofs.Regrowing.{begin-place, begin-next, begin-ends, begin-goes}

pub clash : (b : Bool) → IsTrue b → b ≡ false → ⊥
clash true t e = absurd cc
clash false t e = absurd cc

-- what placing an item says
abbrev pub Places : FileName → ℕ → ℕ → Item → ℕ → Kind → Option Divided → PageState → Bodies → Counts → Type 0
Places file page at x free kind r now b n =
    (c : Content) (left : List ℕ) → HasContent (b file) page c → c.kind ≡ kind → at ≤ length c.items → IsChain (b file) free left → page < n file → times_free page left ≡ 0
    → IsPlaced file page c at x (n file) (now.counts file) left b now.bodies r

pub places-then : (file other : FileName) (page at : ℕ) (x : Item) (free : ℕ) (kind : Kind) (r : Option Divided) (now old mid : PageState) → other ≡ file → mid.bodies ≡ old.bodies → mid.counts ≡ old.counts → Places other page at x free kind r now mid.bodies mid.counts → Places file page at x free kind r now old.bodies old.counts
places-then file other page at x free kind r now old mid same bodies counts h =
    subst (λ (n : Counts). Places file page at x free kind r now old.bodies n) counts (subst (λ (b : Bodies). Places file page at x free kind r now b mid.counts) bodies (subst (λ (f : FileName). Places f page at x free kind r now mid.bodies mid.counts) same h))

-- the tree has a root
pub add-root : (s : PageState) (file : FileName) (key root free : ℕ) (entry : List ℕ) → root ≢ 0 → CanAdd s file key root free entry → HasRoot s file root
add-root s file key root free entry some a = record { key = key; levels = a.levels; walk = a.walk; tree = open-tree (s.bodies file) (s.counts file) key root a.levels a.walk some a.opens.tree }

-- what a search for the entry finds
abbrev pub Finds : PageState → FileName → ℕ → List ℕ → ℕ → ℕ → Bool → List Passed → Type 0
Finds s file root entry page at same path = (key : ℕ) (levels : List (List Placed)) (walk : List Item) → IsTree (s.bodies file) (s.counts file) key root levels walk → IsFound (s.bodies file) (s.counts file) key root entry levels walk page at same path

find-in : (s : PageState) (file : FileName) (key root free : ℕ) (entry : List ℕ) (page at : ℕ) (same : Bool) (path : List Passed) → root ≢ 0 → (a : CanAdd s file key root free entry) → Finds s file root entry page at same path → IsFound (s.bodies file) (s.counts file) key root entry a.levels a.walk page at same path
find-in s file key root free entry page at same path some a finds = finds key a.levels a.walk (open-tree (s.bodies file) (s.counts file) key root a.levels a.walk some a.opens.tree)

pub add-absent : (s : PageState) (file : FileName) (key root free : ℕ) (entry : List ℕ) (page at : ℕ) (same : Bool) (path : List Passed) → root ≢ 0 → CanAdd s file key root free entry → Finds s file root entry page at same path → same ≡ false
add-absent s file key root free entry page at same path some a finds = absent-same (s.bodies file) (s.counts file) key root entry a.levels a.walk page at same path (find-in s file key root free entry page at same path some a finds) a.opens.absent

pub add-few : (s : PageState) (file : FileName) (key root free : ℕ) (entry : List ℕ) (page at : ℕ) (same : Bool) (path : List Passed) → root ≢ 0 → CanAdd s file key root free entry → Finds s file root entry page at same path → length path ≤ 11
add-few s file key root free entry page at same path some a finds =
    path-few (s.bodies file) (s.counts file) key root entry a.levels a.walk page at same path (open-tree (s.bodies file) (s.counts file) key root a.levels a.walk some a.opens.tree) a.opens.few (find-in s file key root free entry page at same path some a finds)

-- the leaf takes the entry
pub add-place : (s mid : PageState) (file other : FileName) (key root free : ℕ) (entry : List ℕ) (target page at : ℕ) (same : Bool) (path : List Passed) → other ≡ file → mid.bodies ≡ s.bodies → mid.counts ≡ s.counts → root ≢ 0 → length entry ≤ 1000 → CanAdd s file key root free entry → Finds s file root entry page at same path
    → IsPlaceable mid other page Leaf at entry free
add-place s mid file other key root free entry target page at same path is bodies counts some short a finds =
    placeable-then s mid file other page Leaf at entry free is bodies counts (begin-place s file key root free entry target page at same path some short a (find-in s file key root free entry page at same path some a finds))

-- where it was divided, the way goes up from there
pub add-next : (s now : PageState) (file other : FileName) (key root free : ℕ) (entry : List ℕ) (target page at : ℕ) (same : Bool) (path : List Passed) (d : Divided) → other ≡ file → root ≢ 0 → length entry ≤ 1000 → CanAdd s file key root free entry → Finds s file root entry page at same path
    → Places file page at (record { entry = entry; to = target }) free Leaf (Some d) now s.bodies s.counts → now.counts file ≤ s.counts file + 1 → CanAscend now other key root path (record { entry = d.between; to = d.fresh }) d.free
add-next s now file other key root free entry target page at same path d is some short a finds placed grows =
    subst (λ (f : FileName). CanAscend now f key root path (record { entry = d.between; to = d.fresh }) d.free) (sym is) (begin-next s now file key root free entry target page at same path d some short a (find-in s file key root free entry page at same path some a finds) placed grows)

-- the way up, and the tree at its end
pub open-ends : (s now : PageState) (file : FileName) (key root free : ℕ) (entry : List ℕ) (target page at : ℕ) (same : Bool) (path : List Passed) (levels : List (List Placed)) (chain : List ℕ) (walk : List Item) → root ≢ 0 → IsOpenTo (s.bodies file) (s.counts file) key root free entry levels chain walk → Finds s file root entry page at same path
    → Places file page at (record { entry = entry; to = target }) free Leaf None now s.bodies s.counts → Regrown file s.bodies now.bodies (s.counts file) (now.counts file) key levels chain (with_entry (record { entry = entry; to = target }) walk) root free
open-ends s now file key root free entry target page at same path levels chain walk some o finds placed =
    begin-ends file s.bodies now.bodies (s.counts file) (now.counts file) key root free entry target page at same path levels chain walk some o (finds key levels walk (open-tree (s.bodies file) (s.counts file) key root levels walk some o.tree)) placed

pub open-goes : (s now : PageState) (file other : FileName) (key root free : ℕ) (entry : List ℕ) (target page at : ℕ) (same : Bool) (path : List Passed) (levels : List (List Placed)) (chain : List ℕ) (walk : List Item) (d : Divided) → other ≡ file → root ≢ 0 → length entry ≤ 1000 → IsOpenTo (s.bodies file) (s.counts file) key root free entry levels chain walk → Finds s file root entry page at same path
    → Places file page at (record { entry = entry; to = target }) free Leaf (Some d) now s.bodies s.counts
    → Ascent other s.bodies now.bodies (s.counts file) (now.counts other) key root levels chain (with_entry (record { entry = entry; to = target }) walk) path (record { entry = d.between; to = d.fresh }) d.free × (length levels < 16)
open-goes s now file other key root free entry target page at same path levels chain walk d is some short o finds placed =
    let tree = open-tree (s.bodies file) (s.counts file) key root levels walk some o.tree in
    let twelve_at_most : length levels ≤ 12 = twelve (s.bodies file) (s.counts file) key root levels walk tree o.few in (
      subst (λ (f : FileName). Ascent f s.bodies now.bodies (s.counts file) (now.counts f) key root levels chain (with_entry (record { entry = entry; to = target }) walk) path (record { entry = d.between; to = d.fresh }) d.free) (sym is)
          (begin-goes file s.bodies now.bodies (s.counts file) (now.counts file) key root free entry target page at same path levels chain walk d some short o (finds key levels walk tree) placed),
      omega (arith, twelve_at_most),
    )

-- An entry that leaves its leaf, call by call.
use Rattle.std.proofs.Common.{◌≡◌, ◌≢◌, ◌∙◌, ◌==◌, ◌&&◌, ◌++◌, ◌∷◌, [], ℕ, ◌+◌, ◌<◌, ◌≤◌, ◌^◌, Bool, true, false, List, length, refl, ap, subst, sym, arith}
use Rattle.std.specs.Prelude.{Option, Some, IsSome, Result, Ok, Err, IfOk}
use Rattle.aria_host.specs.declared.fault.Fault.{Fault}
use Rattle.aria_host.specs.declared.file_name.FileName.{FileName}
use Rattle.aria_host.specs.Folder.{same_file}
use Rattle.aria_cache.specs.PageState.{PageState, Bodies, Counts}
use Rattle.aria_keypage.specs.declared.kind.Kind.TheVariants.{Leaf}
use Rattle.aria_keypage.specs.Item.{Item}
use Rattle.aria_keypage.specs.Content.{Content}
use Rattle.aria_keypage.specs.Change.{without_item}
use Rattle.aria_key.specs.declared.head.Head.{Head}
use Rattle.aria_key.specs.declared.path.Passed.{Passed}
use Rattle.aria_key.specs.Tree.{Placed, IsTree}
use Rattle.aria_key.specs.Place.{IsFound}
use Rattle.aria_key.specs.Held.{HasContent, Rewritten}
use Rattle.aria_key.specs.Owned.{without_entry}
use Rattle.aria_key.specs.IndexFile.{IsChain}
use Rattle.aria_key.specs.Taking.{AreApart}
use Rattle.aria_key.specs.Merging.{HasItem, IsFreed}
use Rattle.aria_key.specs.Thinning.{Thinned, Reduced}
use Rattle.aria_key.specs.Lifting.{IsPage, CanThicken}
use Rattle.aria_key.specs.Removing.{HasEntry, CanWithdraw, CanPluck}
use Rattle.aria_key.proofs.Later.{IsThere}
use Rattle.aria_key.proofs.Adding.{some-there, open-tree, path-few}
use Rattle.aria_key.proofs.Levels.{twelve}
use Rattle.aria_key.proofs.Present.{present_same}
use Rattle.aria_key.proofs.Grafting.{Finds}
use Rattle.aria_key.proofs.Plucking.{Plucks, plucks}

-- what comes of the leaf
pub leaf_of : (s : PageState) (file : FileName) (key root page at free : ℕ) (path : List Passed) (a : CanPluck s file key root page at free path) → Plucks file s.bodies (s.counts file) key root a.entry a.levels a.chain a.walk page at path free
leaf_of s file key root page at free path a = plucks file s.bodies (s.counts file) key root a.entry a.levels a.chain a.walk page at true path free refl a.tree a.apart a.chain_is a.found

module _ (s : PageState) (file : FileName) (key root page at free : ℕ) (path : List Passed) (entry : List ℕ) (levels : List (List Placed)) (chain : List ℕ) (walk : List Item) (v : Plucks file s.bodies (s.counts file) key root entry levels chain walk page at path free) where
  pub held_then : (other : FileName) (mid : PageState) → other ≡ file → mid.bodies ≡ s.bodies → HasContent (mid.bodies other) page v.content
  held_then other mid same bodies = subst (λ (f : FileName). HasContent (mid.bodies f) page v.content) (sym same) (subst (λ (b : Bodies). HasContent (b file) page v.content) (sym bodies) v.held)

  pub page_there : (other : FileName) (mid : PageState) → other ≡ file → mid.bodies ≡ s.bodies → mid.counts ≡ s.counts → IsPage mid other page
  page_there other mid same bodies counts = record {
    low = let low = v.low in let n : mid.counts other ≡ s.counts file = ap (λ (k : Counts). k other) counts ∙ ap s.counts same in omega (arith, low, n);
    some = let h = held_then other mid same bodies in some-there (mid.bodies other page) h.body h.there;
  }

  pub has_item : (other : FileName) (mid : PageState) → other ≡ file → mid.bodies ≡ s.bodies → mid.counts ≡ s.counts → IsThere mid other page (HasItem Leaf at)
  has_item other mid same bodies counts = record {
    low = (page_there other mid same bodies counts).low;
    content = v.content;
    held = held_then other mid same bodies;
    asked = (v.kind, v.within);
  }

  -- the last entry of the tree
  pub ends_then : (other : FileName) (mid new : PageState) → other ≡ file → mid.bodies ≡ s.bodies → new.counts ≡ s.counts → path ≡ [] → length v.content.items ≡ 1 → IsFreed other page free mid.bodies new.bodies
      → Reduced file s.bodies new.bodies (s.counts file) (new.counts file) key levels chain (without_entry entry walk) 0 page
  ends_then other mid new same bodies counts top one freed =
      let f : IsFreed file page free s.bodies new.bodies = subst (λ (b : Bodies). IsFreed file page free b new.bodies) bodies (subst (λ (g : FileName). IsFreed g page free mid.bodies new.bodies) same freed) in
      subst (λ (n : Counts). Reduced file s.bodies new.bodies (s.counts file) (n file) key levels chain (without_entry entry walk) 0 page) (sym counts) (v.ends new.bodies top one f.free f.other)

  -- one of several
  pub goes_then : (other third : FileName) (mid now : PageState) → other ≡ file → third ≡ file → mid.bodies ≡ s.bodies → now.counts ≡ s.counts → (path ≡ [] → length v.content.items ≡ 1 → ⊥) → Rewritten other page (without_item v.content at) mid.bodies now.bodies
      → Thinned third s.bodies now.bodies (s.counts file) (now.counts third) key root levels chain (without_entry entry walk) path page free
  goes_then other third mid now same also bodies counts more rewritten =
      let r : Rewritten file page (without_item v.content at) s.bodies now.bodies = subst (λ (b : Bodies). Rewritten file page (without_item v.content at) b now.bodies) bodies (subst (λ (g : FileName). Rewritten g page (without_item v.content at) mid.bodies now.bodies) same rewritten) in
      subst (λ (g : FileName). Thinned g s.bodies now.bodies (s.counts file) (now.counts g) key root levels chain (without_entry entry walk) path page free) (sym also)
      (subst (λ (n : Counts). Thinned file s.bodies now.bodies (s.counts file) (n file) key root levels chain (without_entry entry walk) path page free) (sym counts) (v.goes now.bodies more r))

-- the way up from the leaf can be gone
pub leaf_thickens : (s now : PageState) (file third : FileName) (key root page at free : ℕ) (path : List Passed) (a : CanPluck s file key root page at free path) → now.counts third ≡ s.counts file
    → Thinned third s.bodies now.bodies (s.counts file) (now.counts third) key root a.levels a.chain (without_entry a.entry a.walk) path page free → CanThicken now third key root path page free
leaf_thickens s now file third key root page at free path a counts t = record {
  was = s.bodies;
  before = s.counts file;
  levels = a.levels;
  chain = a.chain;
  walk = without_entry a.entry a.walk;
  thinned = t;
  few = a.few;
  room = let room = a.room in omega (arith, room, counts);
}

-- ---- from before the search

module _ (s : PageState) (file : FileName) (key root free : ℕ) (entry : List ℕ) (page at : ℕ) (same : Bool) (path : List Passed) (some : root ≢ 0) (finds : Finds s file root entry page at same path) where
  pub tree_of : (levels : List (List Placed)) (chain : List ℕ) (walk : List Item) → HasEntry (s.bodies file) (s.counts file) key root free entry levels chain walk → IsTree (s.bodies file) (s.counts file) key root levels walk
  tree_of levels chain walk h = open-tree (s.bodies file) (s.counts file) key root levels walk some h.tree

  pub there_same : (levels : List (List Placed)) (chain : List ℕ) (walk : List Item) → HasEntry (s.bodies file) (s.counts file) key root free entry levels chain walk → same ≡ true
  there_same levels chain walk h = present_same (s.bodies file) (s.counts file) key root entry levels walk page at same path (finds key levels walk (tree_of levels chain walk h)) h.there

  pub few_steps : (levels : List (List Placed)) (chain : List ℕ) (walk : List Item) → HasEntry (s.bodies file) (s.counts file) key root free entry levels chain walk → length path ≤ 11
  few_steps levels chain walk h = path-few (s.bodies file) (s.counts file) key root entry levels walk page at same path (tree_of levels chain walk h) h.few (finds key levels walk (tree_of levels chain walk h))

  pub few_levels : (levels : List (List Placed)) (chain : List ℕ) (walk : List Item) → HasEntry (s.bodies file) (s.counts file) key root free entry levels chain walk → length levels < 16
  few_levels levels chain walk h = let most = twelve (s.bodies file) (s.counts file) key root levels walk (tree_of levels chain walk h) h.few in omega (arith, most)

  pub found_there : (levels : List (List Placed)) (chain : List ℕ) (walk : List Item) → HasEntry (s.bodies file) (s.counts file) key root free entry levels chain walk → IsFound (s.bodies file) (s.counts file) key root entry levels walk page at true path
  found_there levels chain walk h = subst (λ (b : Bool). IsFound (s.bodies file) (s.counts file) key root entry levels walk page at b path) (there_same levels chain walk h) (finds key levels walk (tree_of levels chain walk h))

  -- the entry can be taken out of its leaf
  pub can_pluck : (a : CanWithdraw s file key root free entry) → CanPluck s file key root page at free path
  can_pluck a = record {
    entry = entry;
    levels = a.levels;
    chain = a.chain;
    walk = a.walk;
    tree = tree_of a.levels a.chain a.walk a.has;
    apart = a.has.apart;
    chain_is = a.has.chain_is;
    found = found_there a.levels a.chain a.walk a.has;
    few = few_levels a.levels a.chain a.walk a.has;
    room = let room = a.room in let steps = few_steps a.levels a.chain a.walk a.has in omega (arith, room, steps);
  }

-- the same of pages that are the same
pub pluck_then : (s mid : PageState) (file other : FileName) (key root page at free : ℕ) (path : List Passed) → other ≡ file → mid.bodies ≡ s.bodies → mid.counts ≡ s.counts → CanPluck s file key root page at free path → CanPluck mid other key root page at free path
pluck_then s mid file other key root page at free path same bodies counts a = record {
  entry = a.entry;
  levels = a.levels;
  chain = a.chain;
  walk = a.walk;
  tree = there (λ b n. IsTree b n key root a.levels a.walk) a.tree;
  apart = there (λ b n. AreApart n a.levels a.chain) a.apart;
  chain_is = there (λ b n. IsChain b free a.chain) a.chain_is;
  found = there (λ b n. IsFound b n key root a.entry a.levels a.walk page at true path) a.found;
  few = a.few;
  room = there (λ b n. n + (length path + 1) ≤ 2 ^ 31) a.room;
}
  where
    there : (P : (ℕ → Option (List ℕ)) → ℕ → Type 0) → P (s.bodies file) (s.counts file) → P (mid.bodies other) (mid.counts other)
    there P h = subst (λ (f : FileName). P (mid.bodies f) (mid.counts f)) (sym same) (subst (λ (n : Counts). P (mid.bodies file) (n file)) (sym counts) (subst (λ (b : Bodies). P (b file) (s.counts file)) (sym bodies) h))

-- what was plucked behind the search was withdrawn
pub withdrawn_ok : (r : Result Head Fault) (file other : FileName) (s mid new : PageState) (key : ℕ) (levels : List (List Placed)) (chain : List ℕ) (walk : List Item) → other ≡ file → mid.bodies ≡ s.bodies → mid.counts ≡ s.counts
    → IfOk r (λ h. Reduced other mid.bodies new.bodies (mid.counts other) (new.counts other) key levels chain walk h.root h.free) → IfOk r (λ h. Reduced file s.bodies new.bodies (s.counts file) (new.counts file) key levels chain walk h.root h.free)
withdrawn_ok (Ok h) file other s mid new key levels chain walk same bodies counts g =
    subst (λ (n : Counts). Reduced file s.bodies new.bodies (n file) (new.counts file) key levels chain walk h.root h.free) counts
    (subst (λ (b : Bodies). Reduced file b new.bodies (mid.counts file) (new.counts file) key levels chain walk h.root h.free) bodies
    (subst (λ (f : FileName). Reduced f mid.bodies new.bodies (mid.counts f) (new.counts f) key levels chain walk h.root h.free) same g))
withdrawn_ok (Err e) file other s mid new key levels chain walk same bodies counts g = tt

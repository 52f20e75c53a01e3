-- The way up from a page that lost an item, call by call.
use Rattle.std.proofs.Common.{◌≡◌, ◌≢◌, ◌∙◌, ◌++◌, ◌∷◌, [], ℕ, ◌+◌, ◌<◌, ◌≤◌, ◌^◌, Bool, true, false, IsTrue, List, length, length-append, ap, subst, sym, arith}
use Rattle.std.specs.Prelude.{Option, Some, None, Result, Ok, Err, IfOk}
use Rattle.aria_host.specs.declared.fault.Fault.{Fault}
use Rattle.aria_host.specs.declared.file_name.FileName.{FileName}
use Rattle.aria_cache.specs.PageState.{PageState, Bodies, Counts}
use Rattle.aria_keypage.specs.Item.{Item}
use Rattle.aria_keypage.specs.Content.{Content}
use Rattle.aria_key.specs.declared.head.Head.{Head}
use Rattle.aria_key.specs.declared.place.Divided.{Divided}
use Rattle.aria_key.specs.declared.path.Passed.{Passed}
use Rattle.aria_key.specs.Path.{IsTop}
use Rattle.aria_key.specs.Tree.{Placed}
use Rattle.aria_key.specs.Held.{HasContent}
use Rattle.aria_key.specs.Ascent.{Ascent, Regrown, CanAscend}
use Rattle.aria_key.specs.Merging.{IsThin}
use Rattle.aria_key.specs.Thinning.{Thinned, Reduced}
use Rattle.aria_key.specs.Lifting.{Owing, CanLift, CanThicken}
use Rattle.aria_key.proofs.Handing.{regrown_since}

-- pages that are the same
pub thinned_then : (file other : FileName) (was : Bodies) (old mid : PageState) (before key root : ℕ) (levels : List (List Placed)) (chain : List ℕ) (walk : List Item) (path way : List Passed) (page free : ℕ) → other ≡ file → mid.bodies ≡ old.bodies → mid.counts ≡ old.counts → path ≡ way
    → Thinned file was old.bodies before (old.counts file) key root levels chain walk path page free → Thinned other was mid.bodies before (mid.counts other) key root levels chain walk way page free
thinned_then file other was old mid before key root levels chain walk path way page free same bodies counts is t =
    subst (λ (f : FileName). Thinned f was mid.bodies before (mid.counts f) key root levels chain walk way page free) (sym same)
    (subst (λ (n : Counts). Thinned file was mid.bodies before (n file) key root levels chain walk way page free) (sym counts)
    (subst (λ (b : Bodies). Thinned file was b before (old.counts file) key root levels chain walk way page free) (sym bodies)
    (subst (λ (p : List Passed). Thinned file was old.bodies before (old.counts file) key root levels chain walk p page free) is t)))

pub reduced_then : (file other : FileName) (was : Bodies) (old mid : PageState) (before key root : ℕ) (levels : List (List Placed)) (chain : List ℕ) (walk : List Item) (free : ℕ) → other ≡ file → mid.bodies ≡ old.bodies → mid.counts ≡ old.counts
    → Reduced file was old.bodies before (old.counts file) key levels chain walk root free → Reduced file was mid.bodies before (mid.counts file) key levels chain walk root free
reduced_then file other was old mid before key root levels chain walk free same bodies counts r =
    subst (λ (n : Counts). Reduced file was mid.bodies before (n file) key levels chain walk root free) (sym counts)
    (subst (λ (b : Bodies). Reduced file was b before (old.counts file) key levels chain walk root free) (sym bodies) r)

pub thin_then : (file other : FileName) (old mid : Bodies) (page : ℕ) → other ≡ file → mid ≡ old → ((c : Content) → HasContent (old file) page c → IsThin c) → (c : Content) → HasContent (mid other) page c → IsThin c
thin_then file other old mid page same bodies thin =
    subst (λ (f : FileName). (c : Content) → HasContent (mid f) page c → IsThin c) (sym same) (subst (λ (b : Bodies). (c : Content) → HasContent (b file) page c → IsThin c) (sym bodies) thin)

-- a step up can be gone
pub lifts : (s mid : PageState) (file other : FileName) (key root : ℕ) (path front : List Passed) (last : Passed) (top : Bool) (page free : ℕ) → other ≡ file → mid.bodies ≡ s.bodies → mid.counts ≡ s.counts → path ≡ front ++ last ∷ [] → IsTop top front
    → ((c : Content) → HasContent (s.bodies file) page c → IsThin c) → CanThicken s file key root path page free → CanLift mid other key root last top page free
lifts s mid file other key root path front last top page free same bodies counts way is thin a = record {
  was = a.was;
  before = a.before;
  levels = a.levels;
  chain = a.chain;
  walk = a.walk;
  path = front;
  thinned = thinned_then file other a.was s mid a.before key root a.levels a.chain a.walk path (front ++ last ∷ []) page free same bodies counts way a.thinned;
  few = a.few;
  thin = thin_then file other s.bodies mid.bodies page same bodies thin;
  top_is = is;
  room = let room = a.room in let n : mid.counts other ≡ s.counts file = ap (λ (k : Counts). k other) counts ∙ ap s.counts same in omega (arith, room, n);
}

-- what a step up says of the pages before the look at the page
abbrev pub Lifts : FileName → PageState → PageState → ℕ → ℕ → Bool → ℕ → ℕ → Passed → (Bodies → ℕ → List (List Placed) → List ℕ → List Item → List Passed → Type 0) → Type 0
Lifts file old now key root top page free last Gives =
    (was : Bodies) (before : ℕ) (levels : List (List Placed)) (chain : List ℕ) (walk : List Item) (path : List Passed)
    → Thinned file was old.bodies before (old.counts file) key root levels chain walk (path ++ last ∷ []) page free → length levels < 16
    → ((c : Content) → HasContent (old.bodies file) page c → IsThin c) → IsTop top path → Gives was before levels chain walk path

-- the way from the node can be gone
pub thickens : (s now : PageState) (file other : FileName) (key root : ℕ) (path front : List Passed) (last : Passed) (page free next : ℕ) (a : CanThicken s file key root path page free) → path ≡ front ++ last ∷ [] → now.counts other ≡ s.counts file
    → Thinned other a.was now.bodies a.before (now.counts other) key root a.levels a.chain a.walk front last.page next → CanThicken now other key root front last.page next
thickens s now file other key root path front last page free next a way counts t = record {
  was = a.was;
  before = a.before;
  levels = a.levels;
  chain = a.chain;
  walk = a.walk;
  thinned = t;
  few = a.few;
  room = let room = a.room in let n : length path ≡ length (front ++ last ∷ []) = ap length way in omega (arith, room, counts, n, length-append front (last ∷ []));
}

-- or a name is owed from there on
pub ascends : (s now : PageState) (file other : FileName) (key root : ℕ) (path front : List Passed) (last : Passed) (page free next : ℕ) (x : Item) (a : CanThicken s file key root path page free) → path ≡ front ++ last ∷ [] → now.counts other ≤ s.counts file + 1
    → Owing other a.was now.bodies a.before (now.counts other) key root a.levels a.chain a.walk front x next → CanAscend now other key root front x next
ascends s now file other key root path front last page free next x a way counts o = record {
  was = o.mid;
  before = o.since;
  levels = o.own;
  chain = o.left;
  walk = a.walk;
  ascent = o.ascent;
  few = let few = a.few in let own = o.few in omega (arith, few, own);
  short = o.short;
  room = let room = a.room in let n : length path ≡ length (front ++ last ∷ []) = ap length way in omega (arith, room, counts, n, length-append front (last ∷ []));
}

-- and the tree that grew then is one that was reduced from the start
pub owed_ok : (r : Result Head Fault) (file : FileName) (was now : Bodies) (new : PageState) (before count key root : ℕ) (levels : List (List Placed)) (chain : List ℕ) (walk : List Item) (path : List Passed) (x : Item) (free : ℕ) (o : Owing file was now before count key root levels chain walk path x free)
    → IfOk r (λ h. Regrown file o.mid new.bodies o.since (new.counts file) key o.own o.left walk h.root h.free) → IfOk r (λ h. Reduced file was new.bodies before (new.counts file) key levels chain walk h.root h.free)
owed_ok (Ok h) file was now new before count key root levels chain walk path x free o g =
    regrown_since file was o.mid new.bodies before o.since (new.counts file) key levels o.own chain o.left walk h.root h.free o.apart o.are o.rest g
owed_ok (Err e) file was now new before count key root levels chain walk path x free o g = tt

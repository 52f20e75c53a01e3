-- A step up from a page with too few item bytes, call by call.
use Rattle.std.proofs.Common.{◌≡◌, ◌==◌, ◌&&◌, ◌⊎◌, inl, inr, ℕ, ◌+◌, ◌<◌, ◌≤◌, ◌^◌, cond, true, false, Bool, List, [], ◌∷◌, ◌++◌, length, IsTrue, refl, sym, ap, subst, ◌∙◌, arith, rules}
use Rattle.std.specs.Prelude.{Option, Some, None, IsSome, Result, Ok, Err, IfOk, OnOk}
use Rattle.std.specs.List.{AllByRecursion}
use Rattle.std.proofs.lemmas.Bool.{eq-eqb, eqb-true}
use Rattle.aria_host.specs.declared.fault.Fault.{Fault}
use Rattle.aria_host.specs.declared.file_name.FileName.{FileName}
use Rattle.aria_cache.specs.PageState.{PageState, Bodies, Counts}
use Rattle.aria_cache.specs.Causes.{HasPagesCause}
use Rattle.aria_cache.proofs.Causing.{cause_weaker}
use Rattle.aria_keypage.specs.declared.key_page.TheConstants.{ITEM_BYTES_MAX}
use Rattle.aria_keypage.specs.declared.kind.Kind.TheVariants.{Node}
use Rattle.aria_keypage.specs.Item.{Item}
use Rattle.aria_keypage.specs.Content.{Content}
use Rattle.aria_keypage.specs.Change.{without_item}
use Rattle.aria_key.specs.declared.path.Passed.{Passed}
use Rattle.aria_key.specs.declared.place.Divided.{Divided}
use Rattle.aria_key.specs.declared.neighbours.Pair.{Pair}
use Rattle.aria_key.specs.declared.thickening.Lift.{Lift}
use Rattle.aria_key.specs.declared.thickening.Lift.TheVariants.{Stands, Thin, Parted}
use Rattle.aria_key.specs.Tree.{Placed}
use Rattle.aria_key.specs.Held.{HasContent}
use Rattle.aria_key.specs.Owned.{times_in}
use Rattle.aria_key.specs.IndexFile.{IsFree, IsChain, times_free}
use Rattle.aria_key.specs.Ascent.{Ascent, IsPlaced}
use Rattle.aria_key.specs.Thinning.{Thinned, Reduced}
use Rattle.aria_key.specs.Merging.{HasItem, HasPair, IsThin, AreNeighbours, IsMerged, AreMergeable, IsRenamable}
use Rattle.aria_key.specs.Path.{IsTop}
use Rattle.aria_key.specs.Lifting.{IsPage, IsEmptied, CanEmpty, IsLifted, Owing, CanLift}
use Rattle.aria_key.specs.Reading.{keys_file, OfKeyPage, OfTree}
use Rattle.aria_key.proofs.Spare.{all-times}
use Rattle.aria_key.proofs.Later.{IsThere}
use Rattle.aria_key.proofs.Sparing.{of_key, held_then}
use Rattle.aria_key.proofs.Merged.{held-some}
use Rattle.aria_key.proofs.Beside.{AreBeside}
use Rattle.aria_key.proofs.Beneath.{IsBeneath, beneath, kept_content, not_page}
use Rattle.aria_key.proofs.Handing.{levels_of, moved_beneath, few_beneath}
use Rattle.aria_key.proofs.Mending.{IsNodeAbove, node_above, pair_of, ArePaired, paired, joined_up, joined_root, IsSharing, sharing}
use Rattle.aria_key.proofs.Parting.{shared_up, shared_divided, parted_short}

-- a page of a tree that lost an entry, and the node above it
pub record At : Type 0 where
  pub file : FileName
  pub was : Bodies
  pub old : Bodies
  pub before : ℕ
  pub count : ℕ
  pub key : ℕ
  pub root : ℕ
  pub levels : List (List Placed)
  pub chain : List ℕ
  pub walk : List Item
  pub front : List Passed
  pub last : Passed
  pub page : ℕ
  pub free : ℕ

abbrev pub ThinnedAt : At → Type 0
ThinnedAt a = Thinned a.file a.was a.old a.before a.count a.key a.root a.levels a.chain a.walk (a.front ++ a.last ∷ []) a.page a.free

abbrev pub BeneathAt : At → Type 0
BeneathAt a = IsBeneath a.file a.was a.old a.before a.count a.key a.root a.levels a.chain a.walk a.front a.last a.page a.free

pub beneath_at : (a : At) → ThinnedAt a → BeneathAt a
beneath_at a t = beneath a.file a.was a.old a.before a.count a.key a.root a.levels a.chain a.walk (a.front ++ a.last ∷ []) a.front a.last a.page a.free refl t

pub above_at : (a : At) → (s : BeneathAt a) → IsNodeAbove a.file a.old a.count a.last.page a.last.at a.free s.child.here.content s.left
above_at a s = node_above a.file a.was a.old a.before a.count a.key a.root a.levels a.chain a.walk a.front a.last a.page a.free s

-- what is found of the page beside it
abbrev pub FindsPair : FileName → Bodies → Passed → Pair → Type 0
FindsPair file bodies last r = (c : Content) → HasContent (bodies file) last.page c → c.kind ≡ Node → 0 < length c.items → last.at ≤ length c.items → AreNeighbours c last.at r

-- the two pages
pub record SideAt (a : At) (r : Pair) : Type 0 where
  pub s : BeneathAt a
  pub nb : AreNeighbours s.child.here.content a.last.at r
  pub w : AreBeside s.u s.l s.n a.last.page a.last.at r.at s.child
  pub n : IsNodeAbove a.file a.old a.count a.last.page a.last.at a.free s.child.here.content s.left
  pub two : ArePaired a.file a.old a.count a.last.page a.page r w.p.content w.r.content

pub side_at : (a : At) (r : Pair) → ThinnedAt a → FindsPair a.file a.old a.last r → SideAt a r
side_at a r t f =
    let s = beneath_at a t in
    let n = above_at a s in
    let nb : AreNeighbours s.child.here.content a.last.at r = f s.child.here.content n.held n.kind n.some n.within in
    let w = pair_of a.file a.was a.old a.before a.count a.key a.root a.levels a.chain a.walk a.front a.last a.page a.free s r nb in
    record { s = s; nb = nb; w = w; n = n; two = paired a.file a.was a.old a.before a.count a.key a.root a.levels a.chain a.walk a.front a.last a.page a.free s r nb w }

-- what merging two pages says
abbrev pub Merges : FileName → ℕ → ℕ → List ℕ → Bodies → Bodies → Option (List ℕ) → Type 0
Merges file left right between old new r = (c d : Content) → HasContent (old file) left c → HasContent (old file) right d → c.kind ≡ d.kind → IsThin c ⊎ IsThin d → (left ≡ right → ⊥) → IsMerged file left right c d between old new r

pub merges_then : (file other : FileName) (left right : ℕ) (between entry : List ℕ) (old mid new : Bodies) (r : Option (List ℕ)) → other ≡ file → mid ≡ old → between ≡ entry → Merges other left right between mid new r → Merges file left right entry old new r
merges_then file other left right between entry old mid new r same bodies is h =
    subst (λ (e : List ℕ). Merges file left right e old new r) is (subst (λ (b : Bodies). Merges file left right between b new r) bodies (subst (λ (f : FileName). Merges f left right between mid new r) same h))

abbrev pub IsThinAt : At → Type 0
IsThinAt a = (c : Content) → HasContent (a.old a.file) a.page c → IsThin c

pub merged_at : (a : At) (r : Pair) (new : Bodies) (m : Option (List ℕ)) → (v : SideAt a r) → IsThinAt a → Merges a.file r.left r.right r.between a.old new m → IsMerged a.file r.left r.right v.w.p.content v.w.r.content r.between a.old new m
merged_at a r new m v thin h = h v.w.p.content v.w.r.content v.two.left v.two.right v.two.same (v.two.thin thin) v.two.apart

-- ---- joined

pub node_at : (a : At) (r : Pair) (mid : Bodies) → (v : SideAt a r) → IsMerged a.file r.left r.right v.w.p.content v.w.r.content r.between a.old mid None → HasContent (mid a.file) a.last.page v.s.child.here.content
node_at a r mid v m = kept_content (a.old a.file) (mid a.file) a.last.page v.s.child.here.content (m.0.other a.file a.last.page (not_page a.file r.left a.last.page (λ e. v.two.off_left (sym e)))) v.n.held

pub right_at : (a : At) (r : Pair) (mid : Bodies) → (v : SideAt a r) → IsMerged a.file r.left r.right v.w.p.content v.w.r.content r.between a.old mid None → IsSome (mid a.file r.right)
right_at a r mid v m = held-some (mid a.file) r.right v.w.r.content (kept_content (a.old a.file) (mid a.file) r.right v.w.r.content (m.0.other a.file r.right (not_page a.file r.left r.right (λ e. v.two.apart (sym e)))) v.two.right)

both-true : (a b : Bool) → (a && b) ≡ true → (a ≡ true) × (b ≡ true)
both-true true true e = (refl, refl)
both-true true false e = absurd cc
both-true false b e = absurd cc

one-false : (a b : Bool) → (a && b) ≡ false → (a ≡ false) ⊎ (b ≡ false)
one-false true true e = absurd cc
one-false true false e = inr refl
one-false false b e = inl refl

pub emptied_at : (a : At) (r : Pair) (mid new : Bodies) (top : Bool) (x : Lift) → (v : SideAt a r) → IsMerged a.file r.left r.right v.w.p.content v.w.r.content r.between a.old mid None → length a.levels < 16 → IsTop top a.front
    → IsEmptied a.file a.last.page r.left r.right r.at v.s.child.here.content a.free (top && r.alone) mid new x → IsLifted a.file a.was new a.before a.count a.key a.root a.levels a.chain a.walk a.front a.last.page x
emptied_at a r mid new top (Stands h) v m few is (last, root_is, free_is, freed, gone, other) =
    let both = both-true top r.alone last in
    let one : length v.s.child.here.content.items ≡ 1 = eqb-true (length v.s.child.here.content.items) 1 (sym v.nb.alone_is ∙ both.1) in
    let g = joined_root a.file a.was a.old mid new a.before a.count a.key a.root a.levels a.chain a.walk a.front a.last a.page a.free v.s r v.nb v.w m (is.0 both.0) one (omega (arith, few)) freed gone other in
    subst (λ (n : ℕ). Reduced a.file a.was new a.before a.count a.key a.levels a.chain a.walk h.root n) (sym free_is) (subst (λ (n : ℕ). Reduced a.file a.was new a.before a.count a.key a.levels a.chain a.walk n a.last.page) (sym root_is) g)
emptied_at a r mid new top (Thin next) v m few is (last, next_is, freed, held, other) =
    subst (λ (n : ℕ). Thinned a.file a.was new a.before a.count a.key a.root a.levels a.chain a.walk a.front a.last.page n) (sym next_is)
    (joined_up a.file a.was a.old mid new a.before a.count a.key a.root a.levels a.chain a.walk a.front a.last a.page a.free v.s r v.nb v.w m (more (one-false top r.alone last)) freed held other)
  where
    more : (top ≡ false) ⊎ (r.alone ≡ false) → a.front ≡ [] → length v.s.child.here.content.items ≡ 1 → ⊥
    more (inl e) none one = is.1 e none
    more (inr e) none one = let t : (length v.s.child.here.content.items == 1) ≡ true = eq-eqb (length v.s.child.here.content.items) 1 one in let f : r.alone ≡ true = v.nb.alone_is ∙ t in absurd cc
emptied_at a r mid new top (Parted d) v m few is h = absurd h

-- what the call says, seen from before
pub emptied_then : (file other : FileName) (node left right at : ℕ) (c : Content) (free : ℕ) (one last : Bool) (mid new : Bodies) (x : Lift) → other ≡ file → one ≡ last → IsEmptied other node left right at c free one mid new x → IsEmptied file node left right at c free last mid new x
emptied_then file other node left right at c free one last mid new x same is h = subst (λ (b : Bool). IsEmptied file node left right at c free b mid new x) is (subst (λ (f : FileName). IsEmptied f node left right at c free one mid new x) same h)

pub empties : (r : Result Lift Fault) (a : At) (p : Pair) (now new : PageState) (other : FileName) (top one : Bool) → (v : SideAt a p) → IsMerged a.file p.left p.right v.w.p.content v.w.r.content p.between a.old now.bodies None → length a.levels < 16 → IsTop top a.front → other ≡ a.file → one ≡ (top && p.alone) → now.counts a.file ≡ a.count
    → OnOk r (new.counts ≡ now.counts) → IfOk r (λ x. IsEmptied other a.last.page p.left p.right p.at v.s.child.here.content a.free one now.bodies new.bodies x) → IfOk r (λ x. IsLifted a.file a.was new.bodies a.before (new.counts a.file) a.key a.root a.levels a.chain a.walk a.front a.last.page x)
empties (Err e) a p now new other top one v m few is same last count grown h = tt
empties (Ok x) a p now new other top one v m few is same last count grown h =
    subst (λ (n : ℕ). IsLifted a.file a.was new.bodies a.before n a.key a.root a.levels a.chain a.walk a.front a.last.page x) (sym (ap (λ (k : Counts). k a.file) grown ∙ count))
    (emptied_at a p now.bodies new.bodies top x v m few is (emptied_then a.file other a.last.page p.left p.right p.at v.s.child.here.content a.free one (top && p.alone) now.bodies new.bodies x same last h))

-- ---- divided anew

pub sharing_at : (a : At) (r : Pair) (mid : Bodies) (entry : List ℕ) → (v : SideAt a r) → IsMerged a.file r.left r.right v.w.p.content v.w.r.content r.between a.old mid (Some entry) → IsSharing a.file mid a.last.page a.free v.s.child.here.content v.s.left entry
sharing_at a r mid entry v m = sharing a.file a.was a.old mid a.before a.count a.key a.root a.levels a.chain a.walk a.front a.last a.page a.free v.s r v.nb v.w entry m

-- what the call says
abbrev pub Renames : FileName → ℕ → ℕ → Item → ℕ → ℕ → ℕ → Bodies → Bodies → Option Divided → Type 0
Renames file page at x free count more old new d =
    (c : Content) (left : List ℕ) → HasContent (old file) page c → c.kind ≡ Node → at < length c.items → IsChain (old file) free left → page < count → times_free page left ≡ 0 → IsPlaced file page (without_item c at) at x count more left old new d

pub renames_then : (file other : FileName) (page at : ℕ) (x y : Item) (free : ℕ) (mid new : PageState) (count : ℕ) (d : Option Divided) → other ≡ file → x ≡ y → mid.counts file ≡ count → Renames other page at x free (mid.counts other) (new.counts other) mid.bodies new.bodies d → Renames file page at y free count (new.counts file) mid.bodies new.bodies d
renames_then file other page at x y free mid new count d same is counts h =
    subst (λ (n : ℕ). Renames file page at y free n (new.counts file) mid.bodies new.bodies d) counts
    (subst (λ (z : Item). Renames file page at z free (mid.counts file) (new.counts file) mid.bodies new.bodies d) is (subst (λ (f : FileName). Renames f page at x free (mid.counts f) (new.counts f) mid.bodies new.bodies d) same h))

placed-at : (a : At) (r : Pair) (mid new : Bodies) (more : ℕ) (entry : List ℕ) (d : Option Divided) → (v : SideAt a r) → IsMerged a.file r.left r.right v.w.p.content v.w.r.content r.between a.old mid (Some entry) → Renames a.file a.last.page r.at (record { entry = entry; to = r.right }) a.free a.count more mid new d
    → IsPlaced a.file a.last.page (without_item v.s.child.here.content r.at) r.at (record { entry = entry; to = r.right }) a.count more v.s.left mid new d
placed-at a r mid new more entry d v m h = let k = sharing_at a r mid entry v m in h v.s.child.here.content v.s.left k.held v.n.kind v.nb.within k.chain_is v.n.low v.n.off

pub shared_at : (a : At) (r : Pair) (mid new : Bodies) (more : ℕ) (entry : List ℕ) → (v : SideAt a r) → IsMerged a.file r.left r.right v.w.p.content v.w.r.content r.between a.old mid (Some entry) → Renames a.file a.last.page r.at (record { entry = entry; to = r.right }) a.free a.count more mid new None
    → Thinned a.file a.was new a.before more a.key a.root a.levels a.chain a.walk a.front a.last.page a.free
shared_at a r mid new more entry v m h =
    shared_up a.file a.was a.old mid new a.before a.count more a.key a.root a.levels a.chain a.walk a.front a.last a.page a.free v.s r v.nb v.w entry m (placed-at a r mid new more entry None v m h)

pub parted_at : (a : At) (r : Pair) (mid new : Bodies) (more : ℕ) (entry : List ℕ) (g : Divided) → (v : SideAt a r) → IsMerged a.file r.left r.right v.w.p.content v.w.r.content r.between a.old mid (Some entry) → Renames a.file a.last.page r.at (record { entry = entry; to = r.right }) a.free a.count more mid new (Some g)
    → Owing a.file a.was new a.before more a.key a.root a.levels a.chain a.walk a.front (record { entry = g.between; to = g.fresh }) g.free
parted_at a r mid new more entry g v m h =
    let placed = placed-at a r mid new more entry (Some g) v m h in
    record {
      mid = a.old;
      since = a.count;
      own = levels_of v.s.u v.s.us v.s.l v.s.downs;
      left = v.s.left;
      ascent = shared_divided a.file a.was a.old mid new a.before a.count more a.key a.root a.levels a.chain a.walk a.front a.last a.page a.free v.s r v.nb v.w entry g m placed;
      few = few_beneath a.file a.was a.old a.before a.count a.key a.root a.levels a.chain a.walk a.front a.last a.page a.free v.s;
      short = parted_short a.file a.was a.old mid new a.before a.count more a.key a.root a.levels a.chain a.walk a.front a.last a.page a.free r.at v.s v.nb.within (record { entry = entry; to = r.right }) v.s.left g placed;
      apart = v.s.apart;
      are = moved_beneath a.file a.was a.old a.before a.count a.key a.root a.levels a.chain a.walk a.front a.last a.page a.free v.s;
      rest = v.s.rest;
    }

-- ---- what is asked of the calls

-- where it is
abbrev pub at_of : (s : PageState) (file : FileName) (key root : ℕ) (last : Passed) (top : Bool) (page free : ℕ) → CanLift s file key root last top page free → At
at_of s file key root last top page free h = record { file = file; was = h.was; old = s.bodies; before = h.before; count = s.counts file; key = key; root = root; levels = h.levels; chain = h.chain; walk = h.walk; front = h.path; last = last; page = page; free = free }

pub lift-pair : (s : PageState) (file : FileName) (key root : ℕ) (last : Passed) (top : Bool) (page free : ℕ) → CanLift s file key root last top page free → IsThere s file last.page (HasPair last.at)
lift-pair s file key root last top page free h =
    let n = above_at (at_of s file key root last top page free h) (beneath_at (at_of s file key root last top page free h) h.thinned) in
    record { low = n.low; content = (beneath_at (at_of s file key root last top page free h) h.thinned).child.here.content; held = n.held; asked = (n.kind, n.some, n.within) }

pub key_cause : (tells logged : Bool) (A : Content → Type 0) (B : Type 0) (file : FileName) (page : ℕ) (old new : PageState) (fault : Option Fault) → (IsTrue tells → B → IsThere old file page A) → HasPagesCause (OfKeyPage tells logged A file page old new) old new fault → HasPagesCause (OfTree tells logged B file old new) old new fault
key_cause tells logged A B file page old new fault there h = cause_weaker (OfKeyPage tells logged A file page old new) (OfTree tells logged B file old new) old new fault (of_key tells logged A B file page old new there) h

pub lift-merge : (s mid : PageState) (file other : FileName) (key root : ℕ) (last : Passed) (top : Bool) (page free : ℕ) (r : Pair) (between : List ℕ) → other ≡ file → mid.bodies ≡ s.bodies → mid.counts ≡ s.counts → between ≡ r.between → FindsPair file s.bodies last r → CanLift s file key root last top page free
    → AreMergeable mid other r.left r.right between
lift-merge s mid file other key root last top page free r between same bodies counts is f h =
    let a : At = at_of s file key root last top page free h in
    let v : SideAt a r = side_at a r h.thinned f in
    let n : mid.counts other ≡ s.counts file = ap (λ (c : Counts). c other) counts ∙ ap s.counts same in
    record {
      low_left = omega (arith, n, v.two.low_left);
      low_right = omega (arith, n, v.two.low_right);
      left_content = v.w.p.content;
      right_content = v.w.r.content;
      left_held = held_then file other r.left v.w.p.content s.bodies mid.bodies same bodies v.two.left;
      right_held = held_then file other r.right v.w.r.content s.bodies mid.bodies same bodies v.two.right;
      same = v.two.same;
      thin = v.two.thin h.thin;
      apart = v.two.apart;
      short = omega (arith, ap length is, v.two.short);
    }

pub lift-empty : (s mid : PageState) (file other : FileName) (key root : ℕ) (last : Passed) (top : Bool) (page free : ℕ) (r : Pair) → other ≡ file → mid.counts ≡ s.counts → FindsPair file s.bodies last r → Merges file r.left r.right r.between s.bodies mid.bodies None → CanLift s file key root last top page free
    → CanEmpty mid other last.page r.right r.at
lift-empty s mid file other key root last top page free r same counts f merges h =
    let a : At = at_of s file key root last top page free h in
    let v : SideAt a r = side_at a r h.thinned f in
    let m = merged_at a r mid.bodies None v h.thin merges in
    let n : mid.counts other ≡ s.counts file = ap (λ (c : Counts). c other) counts ∙ ap s.counts same in
    record {
      low = omega (arith, n, v.n.low);
      content = v.s.child.here.content;
      held = subst (λ (g : FileName). HasContent (mid.bodies g) last.page v.s.child.here.content) (sym same) (node_at a r mid.bodies v m);
      has = (v.n.kind, v.nb.within);
      right_is = record { low = omega (arith, n, v.two.low_right); some = subst (λ (g : FileName). IsSome (mid.bodies g r.right)) (sym same) (right_at a r mid.bodies v m) };
      apart = v.two.off_right;
    }

pub lift-rename : (s mid : PageState) (file other : FileName) (key root : ℕ) (last : Passed) (top : Bool) (page free : ℕ) (r : Pair) (entry text : List ℕ) → other ≡ file → mid.counts ≡ s.counts → text ≡ entry → FindsPair file s.bodies last r → Merges file r.left r.right r.between s.bodies mid.bodies (Some entry) → CanLift s file key root last top page free
    → IsRenamable mid other last.page r.at text free
lift-rename s mid file other key root last top page free r entry text same counts is f merges h =
    let a : At = at_of s file key root last top page free h in
    let v : SideAt a r = side_at a r h.thinned f in
    let m = merged_at a r mid.bodies (Some entry) v h.thin merges in
    let k = sharing_at a r mid.bodies entry v m in
    let n : mid.counts other ≡ s.counts file = ap (λ (c : Counts). c other) counts ∙ ap s.counts same in
    record {
      low = omega (arith, n, v.n.low);
      content = v.s.child.here.content;
      held = subst (λ (g : FileName). HasContent (mid.bodies g) last.page v.s.child.here.content) (sym same) k.held;
      has = (v.n.kind, v.nb.within);
      short = omega (arith, ap length is, k.short);
      left = v.s.left;
      chain = subst (λ (g : FileName). IsChain (mid.bodies g) free v.s.left) (sym same) k.chain_is;
      off = v.n.off;
      lows = all-times (λ p. p < mid.counts other) v.s.left (λ p low. omega (arith, n, v.n.lows p low));
      room = omega (arith, n, h.room);
    }

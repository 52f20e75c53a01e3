-- Where a change of a tree begins and ends: a leaf takes an entry, a root is made.
use Rattle.std.proofs.Common.{◌≡◌, ◌≢◌, ℕ, ◌+◌, ◌<◌, ◌≤◌, max, Bool, false, cond, List, [], ◌∷◌, ◌++◌, length, refl, sym, ap, subst, ◌∙◌, arith, length-append}
use Rattle.std.specs.Prelude.{None, Some}
use Rattle.std.proofs.lemmas.Bool.{eq-eqb}
use Rattle.aria_host.specs.declared.file_name.FileName.{FileName}
use Rattle.aria_cache.specs.PageState.{PageState, Bodies}
use Rattle.aria_keypage.specs.declared.key_page.TheConstants.{ITEM_BYTES_MAX}
use Rattle.aria_keypage.specs.declared.kind.Kind.TheVariants.{Leaf}
use Rattle.aria_keypage.specs.Item.{Item}
use Rattle.aria_keypage.specs.Content.{Content, item_bytes}
use Rattle.aria_keypage.specs.Change.{with_item, node_of_one, leaf_of_one}
use Rattle.aria_key.specs.declared.path.Passed.{Passed}
use Rattle.aria_key.specs.declared.place.Divided.{Divided}
use Rattle.aria_key.specs.Tree.{Placed, IsOf, Holds, IsTree}
use Rattle.aria_key.specs.Climb.{IsPath, onto}
use Rattle.aria_key.specs.Place.{IsFound}
use Rattle.aria_key.specs.Held.{HasContent, left_with, right_with, Rewritten, IsPutInHalf}
use Rattle.aria_key.specs.Owned.{times_on, times_in, with_entry}
use Rattle.aria_key.specs.Standing.{Standing}
use Rattle.aria_key.specs.IndexFile.{IsChain, times_free}
use Rattle.aria_key.specs.Taking.{IsTaken, AreApart, AreTaken}
use Rattle.aria_key.specs.Ascent.{IsPlaced, IsPlaceable, Ascent, Regrown, CanAscend}
use Rattle.aria_key.specs.Inserting.{IsOpenTo, CanAdd}
use Rattle.aria_key.proofs.Lists.{all-at}
use Rattle.aria_key.proofs.Children.{place-within}
use Rattle.aria_key.proofs.Dividing.{holding}
use Rattle.aria_key.proofs.Upward.{halved}
use Rattle.aria_key.proofs.Owning.{times-onto, length-onto}
use Rattle.aria_key.proofs.Climbed.{rooted-tree}
use Rattle.aria_key.proofs.Starting.{started}
use Rattle.aria_key.proofs.Leaf.{leaf-put-tree, leaf-holds}
use Rattle.aria_key.proofs.Single.{new-leaf}
use Rattle.aria_key.proofs.Spare.{chain-still, taken-none, all-once, left-low, TookOne, took-one, all-times}
use Rattle.aria_key.proofs.Ascending.{has-page, same-times, more-times, other-page, between-short}
use Rattle.aria_key.proofs.Levels.{twelve}
use Rattle.aria_key.proofs.Adding.{absent-same, path-few, open-tree}

-- ---- the root

-- a page that was taken became the root
pub raised : (file : FileName) (was old new : Bodies) (before count more key root : ℕ) (levels : List (List Placed)) (chain : List ℕ) (walk : List Item) (x : Item) (free fresh next : ℕ) → (s : Ascent file was old before count key root levels chain walk [] x free)
    → IsTaken (old file) count s.left fresh next → Rewritten file fresh (node_of_one key root x) old new → more ≡ max count (fresh + 1) → length levels < 16 → Regrown file was new before more key levels chain walk fresh next
raised file was old new before count more key root levels chain walk x free fresh next s is w grows few = by s.ups s.standing s.way s.size s.times
  where
    took : TookOne (old file) before more levels chain s.taken s.left fresh next
    took = took-one (old file) before count more levels chain s.taken s.left fresh next s.apart s.are is grows

    self : times_free fresh (fresh ∷ s.taken) ≡ 1 + times_free fresh s.taken
    self = ap (λ (t : Bool). cond t 1 0 + times_free fresh s.taken) (eq-eqb fresh fresh refl)

    still : (m : ℕ) → times_in m levels + times_free m (fresh ∷ s.taken) ≡ 0 → new file m ≡ old file m
    still m k = w.other file m (other-page file fresh m (λ k. times_in k levels + times_free k (fresh ∷ s.taken)) (omega (arith, self)) k)

    once : (m : ℕ) → times_in m levels + times_free m (fresh ∷ s.taken) + times_free m took.rest ≤ 1
    once m = all-once before more levels chain (fresh ∷ s.taken) took.rest s.apart took.are m

    by : (ups : List (List Placed)) → Standing (old file) count key root ups s.l s.downs walk s.n x → IsPath ups s.n [] → length ups + 1 + length s.downs ≡ length levels → ((m : ℕ) → times_in m ups + times_in m (s.l ∷ s.downs) ≡ times_in m levels + times_free m s.taken)
        → Regrown file was new before more key levels chain walk fresh next
    by (u ∷ us) st (ahead, step, whole, c, way) size times = absurd (omega (arith, ap length whole, length-append ahead (step ∷ [])))
    by [] st way size times = record {
      apart = s.apart;
      grown = (record { low = []; page = fresh; content = node_of_one key root x } ∷ []) ∷ s.l ∷ s.downs;
      tree = rooted-tree file old new count more key root fresh s.l s.downs walk s.n x st w (omega (arith, grows)) took.low (omega (arith, took.unused, times fresh)) (omega (arith, size, few));
      taken = fresh ∷ s.taken;
      left = took.rest;
      chain_is = chain-still (old file) (new file) next took.rest (λ m h. still m (omega (arith, h, once m))) took.chain_is;
      times = λ m. omega (arith, times m);
      are = took.are;
      rest = λ m k. still m k ∙ s.rest m (omega (arith, k));
    }

-- a page that was taken became the root and holds the first entry
pub planted : (file : FileName) (old new : Bodies) (count more key : ℕ) (chain : List ℕ) (x : Item) (fresh next : ℕ) → AreApart count [] chain → IsTaken (old file) count chain fresh next → Rewritten file fresh (leaf_of_one key x) old new → more ≡ max count (fresh + 1)
    → Regrown file old new count more key [] chain (x ∷ []) fresh next
planted file old new count more key chain x fresh next apart is w grows =
    let took : TookOne (old file) count more [] chain [] chain fresh next = took-one (old file) count count more [] chain [] chain fresh next apart (taken-none count chain) is grows in
    let self : times_free fresh (fresh ∷ []) ≡ 1 = ap (λ (t : Bool). cond t 1 0 + 0) (eq-eqb fresh fresh refl) in
    let still = λ (m : ℕ) (k : times_in m [] + times_free m (fresh ∷ []) ≡ 0). w.other file m (other-page file fresh m (λ k. times_in k [] + times_free k (fresh ∷ [])) (omega (arith, self)) k) in
    record {
      apart = apart;
      grown = (record { low = []; page = fresh; content = leaf_of_one key x } ∷ []) ∷ [];
      tree = new-leaf (new file) more key fresh x took.low w.here;
      taken = fresh ∷ [];
      left = took.rest;
      chain_is = chain-still (old file) (new file) next took.rest (λ m h. let once = all-once count more [] chain (fresh ∷ []) took.rest apart took.are m in still m (omega (arith, h, once))) took.chain_is;
      times = λ m. omega arith;
      are = took.are;
      rest = λ m k. still m k;
    }

-- ---- the leaf

-- the leaf that an entry goes to, and what comes of it
pub record Begun (file : FileName) (old : Bodies) (count key root : ℕ) (levels : List (List Placed)) (chain : List ℕ) (walk : List Item) (page at : ℕ) (path : List Passed) (x : Item) (free : ℕ) : Type 0 where
  pub content : Content
  pub held : HasContent (old file) page content
  pub kind : content.kind ≡ Leaf
  pub within : at ≤ length content.items
  pub low : page < count
  pub off : times_free page chain ≡ 0
  pub lows : (n : ℕ) → 0 < times_free n chain → n < count
  pub ends : (new : Bodies) (more : ℕ) → IsPlaced file page content at x count more chain old new None → Regrown file old new count more key levels chain (with_entry x walk) root free
  pub goes : (new : Bodies) (more : ℕ) (d : Divided) → IsPlaced file page content at x count more chain old new (Some d) → length x.entry ≤ 1000
      → Ascent file old new count more key root levels chain (with_entry x walk) path (record { entry = d.between; to = d.fresh }) d.free

pub begin : (file : FileName) (old : Bodies) (count key root : ℕ) (levels : List (List Placed)) (chain : List ℕ) (walk : List Item) (page at : ℕ) (path : List Passed) (x : Item) (free : ℕ) → IsTree (old file) count key root levels walk → AreApart count levels chain → IsChain (old file) free chain
    → IsFound (old file) count key root x.entry levels walk page at false path → Begun file old count key root levels chain walk page at path x free
begin file old count key root levels chain walk page at path x free t apart chain_is f = record {
  content = p.content;
  held = leaf-holds (old file) count key root x.entry levels walk page at false path f;
  kind = (all-at (IsOf Leaf key) f.on.before p f.on.behind f.leaves f.on.parts f.under.0.kinds).kind_is;
  within = place-within x.entry p.content.items at false f.place;
  low = omega (arith, there.low, f.on.page_is);
  off = omega (arith, one, apart.once page);
  lows = λ n k. left-low count count levels chain [] chain apart (taken-none count chain) n k;
  ends = λ new more placed. record {
    apart = apart;
    grown = onto f.ups ((f.on.before ++ holding p (with_item p.content at x) ∷ f.on.behind) ∷ []);
    tree = leaf-put-tree file old new count more key root x levels walk page at path t (λ m. omega (arith, apart.once m)) (omega (arith, placed.1)) f placed.0;
    taken = [];
    left = chain;
    chain_is = chain-still (old file) (new file) free chain (λ m h. placed.0.other file m (other-page file page m (λ k. times_in k levels) one (omega (arith, h, apart.once m)))) chain_is;
    times = λ m. omega (arith, parts m, times-onto m f.ups ((f.on.before ++ holding p (with_item p.content at x) ∷ f.on.behind) ∷ []), same-times m f.leaves f.on.before p f.on.behind (with_item p.content at x) f.on.parts);
    are = subst (λ (k : ℕ). AreTaken count k chain [] chain) (sym placed.1) (taken-none count chain);
    rest = λ m h. placed.0.other file m (other-page file page m (λ k. times_in k levels) one (omega (arith, h)));
  };
  goes = λ new more d placed short. divided new more d.between d.fresh d.free (took-one (old file) count count more levels chain [] chain d.fresh d.free apart (taken-none count chain) placed.0 placed.3) placed.1 placed.2 (omega (arith, placed.3)) short;
}
  where
    p : Placed
    p = f.on.here

    there : Holds (old file) count f.on.here
    there = all-at (Holds (old file) count) f.on.before f.on.here f.on.behind f.leaves f.on.parts f.hold.0

    parts : (m : ℕ) → times_in m levels ≡ times_in m f.ups + (times_on m f.leaves + 0)
    parts m = ap (times_in m) (sym f.whole) ∙ times-onto m f.ups (f.leaves ∷ [])

    one : 1 ≤ times_in page levels
    one = omega (arith, parts page, has-page page f.leaves f.on.before f.on.here f.on.behind f.on.parts f.on.page_is)

    divided : (new : Bodies) (more : ℕ) (between : List ℕ) (fresh next : ℕ) → TookOne (old file) count more levels chain [] chain fresh next → (h : IsPutInHalf file page fresh f.on.here.content at x between old new) → ITEM_BYTES_MAX < length (item_bytes (with_item f.on.here.content at x)) → count ≤ more → length x.entry ≤ 1000
        → Ascent file old new count more key root levels chain (with_entry x walk) path (record { entry = between; to = fresh }) next
    divided new more between fresh next took h full grows short =
        let self : times_free fresh (fresh ∷ []) ≡ 1 = ap (λ (t : Bool). cond t 1 0 + 0) (eq-eqb fresh fresh refl) in
        let begun = started file old new count more key root levels walk page at fresh x between path t (λ m. omega (arith, apart.once m)) grows took.low (omega (arith, took.unused)) f h short full in
        let big : List Placed = halved f.on.before f.on.here h.k fresh (left_with f.on.here.content h.k at x) (right_with f.on.here.content h.k at x) f.on.behind in
        let still = λ (m : ℕ) (q : times_in m levels + times_free m (fresh ∷ []) ≡ 0).
        h.other file m (other-page file page m (λ k. times_in k levels) one (omega (arith, q))) (other-page file fresh m (λ k. times_in k levels + times_free k (fresh ∷ [])) (omega (arith, self)) q) in
        record {
          apart = apart;
          ups = f.ups;
          l = big;
          downs = [];
          n = length f.on.before;
          standing = subst (λ (e : List ℕ). Standing (new file) more key root f.ups big [] (with_entry x walk) (length f.on.before) (record { entry = e; to = fresh })) (sym h.between_is) begun;
          filled = f.filled;
          way = subst (λ (n : ℕ). IsPath f.ups n path) (sym f.on.index) f.path_is;
          size = omega (arith, ap length f.whole, length-onto f.ups (f.leaves ∷ []));
          taken = fresh ∷ [];
          left = took.rest;
          chain_is = chain-still (old file) (new file) next took.rest (λ m k. let once = all-once count more levels chain (fresh ∷ []) took.rest apart took.are m in still m (omega (arith, k, once))) took.chain_is;
          times = λ m. omega (arith, parts m, more-times m f.leaves f.on.before f.on.here f.on.behind h.k fresh (left_with f.on.here.content h.k at x) (right_with f.on.here.content h.k at x) f.on.parts);
          are = took.are;
          rest = λ m k. still m k;
        }

-- ---- what is asked of the leaf

pub begin-place : (s : PageState) (file : FileName) (key root free : ℕ) (entry : List ℕ) (target page at : ℕ) (same : Bool) (path : List Passed) → root ≢ 0 → length entry ≤ 1000 → (a : CanAdd s file key root free entry) → IsFound (s.bodies file) (s.counts file) key root entry a.levels a.walk page at same path
    → IsPlaceable s file page Leaf at entry free
begin-place s file key root free entry target page at same path some short a f =
    let none = absent-same (s.bodies file) (s.counts file) key root entry a.levels a.walk page at same path f a.opens.absent in
    let found : IsFound (s.bodies file) (s.counts file) key root entry a.levels a.walk page at false path = subst (λ (b : Bool). IsFound (s.bodies file) (s.counts file) key root entry a.levels a.walk page at b path) none f in
    let tree = open-tree (s.bodies file) (s.counts file) key root a.levels a.walk some a.opens.tree in
    let h = begin file s.bodies (s.counts file) key root a.levels a.chain a.walk page at path (record { entry = entry; to = target }) free tree a.opens.apart a.opens.chain_is found in
    record {
      low = h.low;
      content = h.content;
      held = h.held;
      takes = (h.kind, h.within);
      short = short;
      left = a.chain;
      chain = a.opens.chain_is;
      off = h.off;
      lows = all-times (λ p. p < s.counts file) a.chain h.lows;
      room = omega (arith, a.room);
    }

-- once the leaf was divided, the way goes up from there
pub begin-next : (s now : PageState) (file : FileName) (key root free : ℕ) (entry : List ℕ) (target page at : ℕ) (same : Bool) (path : List Passed) (d : Divided) → root ≢ 0 → length entry ≤ 1000 → (a : CanAdd s file key root free entry) → IsFound (s.bodies file) (s.counts file) key root entry a.levels a.walk page at same path
    → ((c : Content) (left : List ℕ) → HasContent (s.bodies file) page c → c.kind ≡ Leaf → at ≤ length c.items → IsChain (s.bodies file) free left → page < s.counts file → times_free page left ≡ 0
    → IsPlaced file page c at (record { entry = entry; to = target }) (s.counts file) (now.counts file) left s.bodies now.bodies (Some d)) → now.counts file ≤ s.counts file + 1
    → CanAscend now file key root path (record { entry = d.between; to = d.fresh }) d.free
begin-next s now file key root free entry target page at same path d some short a f placed grows =
    let none = absent-same (s.bodies file) (s.counts file) key root entry a.levels a.walk page at same path f a.opens.absent in
    let found : IsFound (s.bodies file) (s.counts file) key root entry a.levels a.walk page at false path = subst (λ (b : Bool). IsFound (s.bodies file) (s.counts file) key root entry a.levels a.walk page at b path) none f in
    let tree = open-tree (s.bodies file) (s.counts file) key root a.levels a.walk some a.opens.tree in
    let x : Item = record { entry = entry; to = target } in
    let h = begin file s.bodies (s.counts file) key root a.levels a.chain a.walk page at path x free tree a.opens.apart a.opens.chain_is found in
    let p = placed h.content a.chain h.held h.kind h.within a.opens.chain_is h.low h.off in
    let levels : length a.levels ≤ 12 = twelve (s.bodies file) (s.counts file) key root a.levels a.walk tree a.opens.few in
    record {
      was = s.bodies;
      before = s.counts file;
      levels = a.levels;
      chain = a.chain;
      walk = with_entry x a.walk;
      ascent = h.goes now.bodies (now.counts file) d p short;
      few = omega (arith, levels);
      short = between-short (s.bodies file) file page d.fresh h.content at x d.between s.bodies now.bodies h.held p.1;
      room = omega (arith, a.room, grows, path-few (s.bodies file) (s.counts file) key root entry a.levels a.walk page at same path tree a.opens.few f);
    }

-- the tree with the entry, where the leaf had room
pub begin-ends : (file : FileName) (old new : Bodies) (count more key root free : ℕ) (entry : List ℕ) (target page at : ℕ) (same : Bool) (path : List Passed) (levels : List (List Placed)) (chain : List ℕ) (walk : List Item) → root ≢ 0 → IsOpenTo (old file) count key root free entry levels chain walk → IsFound (old file) count key root entry levels walk page at same path
    → ((c : Content) (left : List ℕ) → HasContent (old file) page c → c.kind ≡ Leaf → at ≤ length c.items → IsChain (old file) free left → page < count → times_free page left ≡ 0
    → IsPlaced file page c at (record { entry = entry; to = target }) count more left old new None)
    → Regrown file old new count more key levels chain (with_entry (record { entry = entry; to = target }) walk) root free
begin-ends file old new count more key root free entry target page at same path levels chain walk some o f placed =
    let none = absent-same (old file) count key root entry levels walk page at same path f o.absent in
    let found : IsFound (old file) count key root entry levels walk page at false path = subst (λ (b : Bool). IsFound (old file) count key root entry levels walk page at b path) none f in
    let tree = open-tree (old file) count key root levels walk some o.tree in
    let h = begin file old count key root levels chain walk page at path (record { entry = entry; to = target }) free tree o.apart o.chain_is found in
    h.ends new more (placed h.content chain h.held h.kind h.within o.chain_is h.low h.off)

-- the way up, where it was divided
pub begin-goes : (file : FileName) (old new : Bodies) (count more key root free : ℕ) (entry : List ℕ) (target page at : ℕ) (same : Bool) (path : List Passed) (levels : List (List Placed)) (chain : List ℕ) (walk : List Item) (d : Divided) → root ≢ 0 → length entry ≤ 1000 → IsOpenTo (old file) count key root free entry levels chain walk
    → IsFound (old file) count key root entry levels walk page at same path
    → ((c : Content) (left : List ℕ) → HasContent (old file) page c → c.kind ≡ Leaf → at ≤ length c.items → IsChain (old file) free left → page < count → times_free page left ≡ 0
    → IsPlaced file page c at (record { entry = entry; to = target }) count more left old new (Some d))
    → Ascent file old new count more key root levels chain (with_entry (record { entry = entry; to = target }) walk) path (record { entry = d.between; to = d.fresh }) d.free
begin-goes file old new count more key root free entry target page at same path levels chain walk d some short o f placed =
    let none = absent-same (old file) count key root entry levels walk page at same path f o.absent in
    let found : IsFound (old file) count key root entry levels walk page at false path = subst (λ (b : Bool). IsFound (old file) count key root entry levels walk page at b path) none f in
    let tree = open-tree (old file) count key root levels walk some o.tree in
    let h = begin file old count key root levels chain walk page at path (record { entry = entry; to = target }) free tree o.apart o.chain_is found in
    h.goes new more d (placed h.content chain h.held h.kind h.within o.chain_is h.low h.off) short

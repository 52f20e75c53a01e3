-- A change of a tree on its way up: each step is told by the page of the way and what was placed there.
use Rattle.std.proofs.Common.{◌≡◌, ◌==◌, ◌&&◌, ℕ, ◌+◌, ◌<◌, ◌≤◌, Bool, false, cond, List, [], ◌∷◌, ◌++◌, length, refl, sym, ap, subst, ◌∙◌, arith, length-append}
use Rattle.std.specs.Prelude.{Option, None, Some}
use Rattle.std.proofs.lemmas.Bool.{eq-eqb, ne_eqb}
use Rattle.aria_host.specs.declared.file_name.FileName.{FileName}
use Rattle.aria_host.specs.Folder.{same_file}
use Rattle.aria_host.proofs.Files.{same_file-refl}
use Rattle.aria_cache.specs.PageState.{PageState, Bodies}
use Rattle.aria_keypage.specs.declared.key_page.TheConstants.{ITEM_BYTES_MAX}
use Rattle.aria_keypage.specs.declared.kind.Kind.TheVariants.{Node}
use Rattle.aria_keypage.specs.Item.{Item, item_at, IsItem}
use Rattle.aria_keypage.specs.Content.{Content, item_bytes, width}
use Rattle.aria_keypage.specs.Change.{with_item}
use Rattle.aria_key.specs.declared.path.Passed.{Passed}
use Rattle.aria_key.specs.declared.place.Divided.{Divided}
use Rattle.aria_key.specs.Tree.{Placed, IsOf, Holds}
use Rattle.aria_key.specs.Climb.{FilledOver, IsChild, IsPath, onto}
use Rattle.aria_key.specs.Held.{HasContent, left_with, right_with, Rewritten, IsPutInHalf}
use Rattle.aria_key.specs.Owned.{times_on, times_in}
use Rattle.aria_key.specs.Standing.{Standing}
use Rattle.aria_key.specs.IndexFile.{IsChain, times_free}
use Rattle.aria_key.specs.Taking.{HasSpare, AreApart, AreTaken}
use Rattle.aria_key.specs.Ascent.{IsPlaced, IsPlaceable, Ascent, Regrown, CanAscend}
use Rattle.aria_key.proofs.Lists.{all-at, all-item}
use Rattle.aria_key.proofs.Behind.{same-last}
use Rattle.aria_key.proofs.Dividing.{holding, right_of}
use Rattle.aria_key.proofs.Upward.{halved}
use Rattle.aria_key.proofs.Owning.{times-append, times-onto}
use Rattle.aria_key.proofs.Climbed.{climbed, paid-tree}
use Rattle.aria_key.proofs.Spare.{chain-still, all-once, left-low, TookOne, took-one, all-times}

-- a level has a page that stands in it
pub has-page : (page : ℕ) (u a : List Placed) (p : Placed) (b : List Placed) → u ≡ a ++ p ∷ b → p.page ≡ page → 1 ≤ times_on page u
has-page page u a p b parts is =
    let self : times_on page (p ∷ b) ≡ 1 + times_on page b = ap (λ (t : Bool). cond t 1 0 + times_on page b) (eq-eqb page p.page (sym is)) in
    omega (arith, ap (times_on page) parts, times-append page a (p ∷ b), self)

-- a page with another content is the same page
pub same-times : (m : ℕ) (u a : List Placed) (p : Placed) (b : List Placed) (c : Content) → u ≡ a ++ p ∷ b → times_on m (a ++ holding p c ∷ b) ≡ times_on m u
same-times m u a p b c parts = times-append m a (holding p c ∷ b) ∙ sym (times-append m a (p ∷ b)) ∙ ap (times_on m) (sym parts)

-- a page that was divided has one more to its right
pub more-times : (m : ℕ) (u a : List Placed) (p : Placed) (b : List Placed) (k fresh : ℕ) (cl cr : Content) → u ≡ a ++ p ∷ b → times_on m (halved a p k fresh cl cr b) ≡ cond (m == fresh) 1 0 + times_on m u
more-times m u a p b k fresh cl cr parts =
    let now : times_on m (halved a p k fresh cl cr b) ≡ times_on m a + (cond (m == p.page) 1 0 + (cond (m == fresh) 1 0 + times_on m b)) = times-append m a (holding p cl ∷ holding (right_of p k fresh) cr ∷ b) in
    let was : times_on m u ≡ times_on m a + (cond (m == p.page) 1 0 + times_on m b) = ap (times_on m) parts ∙ times-append m a (p ∷ b) in
    omega (arith, now, was)

-- where a page is none of these, it was not the one that was written
pub other-page : (file : FileName) (page n : ℕ) (count : ℕ → ℕ) → 1 ≤ count page → count n ≡ 0 → (same_file file file && (page == n)) ≡ false
other-page file page n count one none =
    λ i. same_file-refl file i && ne_eqb page n (λ e. let k : count page ≡ 0 = ap count e ∙ none in absurd (omega (arith, k, one))) i

-- the entry between two halves is one of the page's
pub between-short : (bodies : ℕ → Option (List ℕ)) (file : FileName) (page fresh : ℕ) (c : Content) (at : ℕ) (x : Item) (between : List ℕ) (old new : Bodies) → HasContent bodies page c → IsPutInHalf file page fresh c at x between old new → length between ≤ 1000
between-short bodies file page fresh c at x between old new held h =
    let fits : IsItem (width c.kind) (item_at c.items h.k) = all-item (IsItem (width c.kind)) c.items h.k h.sizes.more held.spells.content.items in
    omega (arith, ap length h.between_is, fits.entry)

-- ---- a step up

-- the page of the way that the name goes to, and what comes of it
pub record Stepped (file : FileName) (was old : Bodies) (before count key root : ℕ) (levels : List (List Placed)) (chain : List ℕ) (walk : List Item) (front : List Passed) (last : Passed) (x : Item) (free : ℕ) : Type 0 where
  pub content : Content
  pub held : HasContent (old file) last.page content
  pub kind : content.kind ≡ Node
  pub within : last.at ≤ length content.items
  pub low : last.page < count
  pub left : List ℕ
  pub chain_is : IsChain (old file) free left
  pub off : times_free last.page left ≡ 0
  pub lows : (n : ℕ) → 0 < times_free n left → n < count
  pub ends : (new : Bodies) (more : ℕ) → IsPlaced file last.page content last.at x count more left old new None → length levels < 16 → Regrown file was new before more key levels chain walk root free
  pub goes : (new : Bodies) (more : ℕ) (d : Divided) → IsPlaced file last.page content last.at x count more left old new (Some d) → length x.entry ≤ 1000
      → Ascent file was new before more key root levels chain walk front (record { entry = d.between; to = d.fresh }) d.free

-- the page had room
up-ends : (file : FileName) (was old new : Bodies) (before count more key root : ℕ) (levels : List (List Placed)) (chain : List ℕ) (walk : List Item) (u l : List Placed) (us downs : List (List Placed)) (n page at : ℕ) (x : Item) (free : ℕ) (taken left : List ℕ)
    → AreApart before levels chain → Standing (old file) count key root (u ∷ us) l downs walk n x → FilledOver (u ∷ us) → (c : IsChild u n page at) → length (u ∷ us) + 1 + length downs ≡ length levels → IsChain (old file) free left
    → ((m : ℕ) → times_in m (u ∷ us) + times_in m (l ∷ downs) ≡ times_in m levels + times_free m taken) → AreTaken before count chain taken left → ((m : ℕ) → times_in m levels + times_free m taken ≡ 0 → old file m ≡ was file m)
    → Rewritten file page (with_item c.here.content at x) old new → more ≡ count → length levels < 16 → Regrown file was new before more key levels chain walk root free
up-ends file was old new before count more key root levels chain walk u l us downs n page at x free taken left apart s filled c size chain_is times are rest w same few =
    let one : 1 ≤ times_in page levels + times_free page taken = omega (arith, times page, has-page page u c.before c.here c.behind c.parts c.page_is) in
    let v : List Placed = c.before ++ holding c.here (with_item c.here.content at x) ∷ c.behind in
    record {
      apart = apart;
      grown = onto us (v ∷ l ∷ downs);
      tree = paid-tree file old new count more key root u l us downs walk n page at x s filled c w (omega (arith, same)) (omega (arith, size, few));
      taken = taken;
      left = left;
      chain_is = chain-still (old file) (new file) free left
          (λ m h. w.other file m (other-page file page m (λ k. times_in k levels + times_free k taken) one (omega (arith, h, all-once before count levels chain taken left apart are m)))) chain_is;
      times = λ m. omega (arith, times m, times-onto m us (v ∷ l ∷ downs), same-times m u c.before c.here c.behind (with_item c.here.content at x) c.parts);
      are = subst (λ (k : ℕ). AreTaken before k chain taken left) (sym same) are;
      rest = λ m h. w.other file m (other-page file page m (λ k. times_in k levels + times_free k taken) one h) ∙ rest m h;
    }

-- it was divided
up-goes : (file : FileName) (was old new : Bodies) (before count more key root : ℕ) (levels : List (List Placed)) (chain : List ℕ) (walk : List Item) (u l : List Placed) (us downs : List (List Placed)) (n page at : ℕ) (x : Item) (taken left : List ℕ) (front : List Passed) (between : List ℕ) (fresh next : ℕ)
    → AreApart before levels chain → Standing (old file) count key root (u ∷ us) l downs walk n x → FilledOver (u ∷ us) → (c : IsChild u n page at) → IsPath us (length c.before) front → length (u ∷ us) + 1 + length downs ≡ length levels
    → ((m : ℕ) → times_in m (u ∷ us) + times_in m (l ∷ downs) ≡ times_in m levels + times_free m taken) → AreTaken before count chain taken left → ((m : ℕ) → times_in m levels + times_free m taken ≡ 0 → old file m ≡ was file m)
    → TookOne (old file) before more levels chain taken left fresh next → (h : IsPutInHalf file page fresh c.here.content at x between old new) → ITEM_BYTES_MAX < length (item_bytes (with_item c.here.content at x)) → count ≤ more → length x.entry ≤ 1000
    → Ascent file was new before more key root levels chain walk front (record { entry = between; to = fresh }) next
up-goes file was old new before count more key root levels chain walk u l us downs n page at x taken left front between fresh next apart s filled c way size times are rest took h full grows short =
    let one : 1 ≤ times_in page levels + times_free page taken = omega (arith, times page, has-page page u c.before c.here c.behind c.parts c.page_is) in
    let self : times_free fresh (fresh ∷ taken) ≡ 1 + times_free fresh taken = ap (λ (t : Bool). cond t 1 0 + times_free fresh taken) (eq-eqb fresh fresh refl) in
    let off : times_in page levels + times_free page (fresh ∷ taken) + times_free page took.rest ≤ 1 = all-once before more levels chain (fresh ∷ taken) took.rest apart took.are page in
    let climb = climbed file old new count more key root u l us downs walk n page at fresh x between s filled c h grows took.low (omega (arith, took.unused, times fresh)) short full in
    let big : List Placed = halved c.before c.here h.k fresh (left_with c.here.content h.k at x) (right_with c.here.content h.k at x) c.behind in
    let still = λ (m : ℕ) (p : times_in m levels + times_free m taken ≡ 0) (q : times_in m levels + times_free m (fresh ∷ taken) ≡ 0).
    h.other file m (other-page file page m (λ k. times_in k levels + times_free k taken) one p) (other-page file fresh m (λ k. times_in k levels + times_free k (fresh ∷ taken)) (omega (arith, self)) q) in
    record {
      apart = apart;
      ups = us;
      l = big;
      downs = l ∷ downs;
      n = length c.before;
      standing = subst (λ (e : List ℕ). Standing (new file) more key root us big (l ∷ downs) walk (length c.before) (record { entry = e; to = fresh })) (sym h.between_is) climb;
      filled = filled.1;
      way = way;
      size = omega (arith, size);
      taken = fresh ∷ taken;
      left = took.rest;
      chain_is = chain-still (old file) (new file) next took.rest (λ m k. let once = all-once before more levels chain (fresh ∷ taken) took.rest apart took.are m in still m (omega (arith, k, once)) (omega (arith, k, once))) took.chain_is;
      times = λ m. omega (arith, times m, more-times m u c.before c.here c.behind h.k fresh (left_with c.here.content h.k at x) (right_with c.here.content h.k at x) c.parts);
      are = took.are;
      rest = λ m k. still m (omega (arith, k)) k ∙ rest m (omega (arith, k));
    }

pub ascend : (file : FileName) (was old : Bodies) (before count key root : ℕ) (levels : List (List Placed)) (chain : List ℕ) (walk : List Item) (front : List Passed) (last : Passed) (x : Item) (free : ℕ) → Ascent file was old before count key root levels chain walk (front ++ last ∷ []) x free
    → Stepped file was old before count key root levels chain walk front last x free
ascend file was old before count key root levels chain walk front last x free s = by s.ups s.standing s.filled s.way s.size s.times
  where
    here : (u : List Placed) (us : List (List Placed)) → Standing (old file) count key root (u ∷ us) s.l s.downs walk s.n x → FilledOver (u ∷ us) → (c : IsChild u s.n last.page last.at) → IsPath us (length c.before) front → length (u ∷ us) + 1 + length s.downs ≡ length levels
        → ((m : ℕ) → times_in m (u ∷ us) + times_in m (s.l ∷ s.downs) ≡ times_in m levels + times_free m s.taken) → Stepped file was old before count key root levels chain walk front last x free
    here u us st filled c way size times =
        let p : Placed = c.here in
        let h : Holds (old file) count p = all-at (Holds (old file) count) c.before p c.behind u c.parts st.hold_ups.0 in
        let one : 1 ≤ times_in last.page levels + times_free last.page s.taken = omega (arith, times last.page, has-page last.page u c.before p c.behind c.parts c.page_is) in
        record {
          content = p.content;
          held = record { body = h.body; there = ap (old file) (sym c.page_is) ∙ h.there; size = h.size; spells = h.spells };
          kind = (all-at (IsOf Node key) c.before p c.behind u c.parts st.owes.over.0.kinds).kind_is;
          within = c.within;
          low = omega (arith, h.low, c.page_is);
          left = s.left;
          chain_is = s.chain_is;
          off = omega (arith, one, all-once before count levels chain s.taken s.left s.apart s.are last.page);
          lows = λ n k. low-of n k;
          ends = λ new more placed few. up-ends file was old new before count more key root levels chain walk u s.l us s.downs s.n last.page last.at x free s.taken s.left s.apart st filled c size s.chain_is times s.are s.rest placed.0 placed.1 few;
          goes = λ new more d placed short.
              up-goes file was old new before count more key root levels chain walk u s.l us s.downs s.n last.page last.at x s.taken s.left front d.between d.fresh d.free s.apart st filled c way size times s.are s.rest
              (took-one (old file) before count more levels chain s.taken s.left d.fresh d.free s.apart s.are placed.0 placed.3) placed.1 placed.2 (omega (arith, placed.3)) short;
        }
      where
        low-of : (n : ℕ) → 0 < times_free n s.left → n < count
        low-of n k = left-low before count levels chain s.taken s.left s.apart s.are n k

    by : (ups : List (List Placed)) → Standing (old file) count key root ups s.l s.downs walk s.n x → FilledOver ups → IsPath ups s.n (front ++ last ∷ []) → length ups + 1 + length s.downs ≡ length levels
        → ((m : ℕ) → times_in m ups + times_in m (s.l ∷ s.downs) ≡ times_in m levels + times_free m s.taken) → Stepped file was old before count key root levels chain walk front last x free
    by [] st filled way size times = absurd (omega (arith, ap length way.0, length-append front (last ∷ [])))
    by (u ∷ us) st filled (ahead, step, whole, c, way) size times =
        let same = same-last front ahead last step whole in
        let there : (d : IsChild u s.n step.page step.at) × IsPath us (length d.before) front = (c, subst (λ (f : List Passed). IsPath us (length c.before) f) (sym same.0) way) in
        let moved = subst (λ (q : Passed). (d : IsChild u s.n q.page q.at) × IsPath us (length d.before) front) (sym same.1) there in
        here u us st filled moved.0 moved.1 size times

-- ---- what is asked on the way

pub ascend-place : (s : PageState) (file : FileName) (key root : ℕ) (front : List Passed) (last : Passed) (x : Item) (free : ℕ) → CanAscend s file key root (front ++ last ∷ []) x free → IsPlaceable s file last.page Node last.at x.entry free
ascend-place s file key root front last x free a =
    let h = ascend file a.was s.bodies a.before (s.counts file) key root a.levels a.chain a.walk front last x free a.ascent in
    record {
      low = h.low;
      content = h.content;
      held = h.held;
      takes = (h.kind, h.within);
      short = a.short;
      left = h.left;
      chain = h.chain_is;
      off = h.off;
      lows = all-times (λ p. p < s.counts file) h.left h.lows;
      room = omega (arith, a.room);
    }

-- once the page was divided, the way goes on from there
pub ascend-next : (s now : PageState) (file : FileName) (key root : ℕ) (front : List Passed) (last : Passed) (x : Item) (free : ℕ) (d : Divided) → CanAscend s file key root (front ++ last ∷ []) x free
    → ((c : Content) (left : List ℕ) → HasContent (s.bodies file) last.page c → c.kind ≡ Node → last.at ≤ length c.items → IsChain (s.bodies file) free left → last.page < s.counts file → times_free last.page left ≡ 0
    → IsPlaced file last.page c last.at x (s.counts file) (now.counts file) left s.bodies now.bodies (Some d)) → now.counts file ≤ s.counts file + 1
    → CanAscend now file key root front (record { entry = d.between; to = d.fresh }) d.free
ascend-next s now file key root front last x free d a placed grows =
    let h = ascend file a.was s.bodies a.before (s.counts file) key root a.levels a.chain a.walk front last x free a.ascent in
    let p = placed h.content h.left h.held h.kind h.within h.chain_is h.low h.off in
    record {
      was = a.was;
      before = a.before;
      levels = a.levels;
      chain = a.chain;
      walk = a.walk;
      ascent = h.goes now.bodies (now.counts file) d p a.short;
      few = a.few;
      short = between-short (s.bodies file) file last.page d.fresh h.content last.at x d.between s.bodies now.bodies h.held p.1;
      room = omega (arith, a.room, grows, length-append front (last ∷ []));
    }

-- a page can be taken on the way
pub ascend-spare : (s : PageState) (file : FileName) (key root : ℕ) (path : List Passed) (x : Item) (free : ℕ) → CanAscend s file key root path x free → HasSpare s file free
ascend-spare s file key root path x free a = record {
  left = a.ascent.left;
  chain = a.ascent.chain_is;
  low = all-times (λ p. p < s.counts file) a.ascent.left (left-low a.before (s.counts file) a.levels a.chain a.ascent.taken a.ascent.left a.ascent.apart a.ascent.are);
  room = omega (arith, a.room);
}

-- ---- the way, from what the calls say

-- the page above had room
pub way-ends : (file : FileName) (was old new : Bodies) (before count more key root : ℕ) (levels : List (List Placed)) (chain : List ℕ) (walk : List Item) (path front : List Passed) (last : Passed) (x : Item) (free : ℕ) → path ≡ front ++ last ∷ [] → Ascent file was old before count key root levels chain walk path x free → length levels < 16
    → ((c : Content) (left : List ℕ) → HasContent (old file) last.page c → c.kind ≡ Node → last.at ≤ length c.items → IsChain (old file) free left → last.page < count → times_free last.page left ≡ 0 → IsPlaced file last.page c last.at x count more left old new None)
    → Regrown file was new before more key levels chain walk root free
way-ends file was old new before count more key root levels chain walk path front last x free e s few placed =
    let h = ascend file was old before count key root levels chain walk front last x free (subst (λ (p : List Passed). Ascent file was old before count key root levels chain walk p x free) e s) in
    h.ends new more (placed h.content h.left h.held h.kind h.within h.chain_is h.low h.off) few

-- it was divided
pub way-goes : (file other : FileName) (was old : Bodies) (mid : PageState) (before count key root : ℕ) (levels : List (List Placed)) (chain : List ℕ) (walk : List Item) (path front : List Passed) (last : Passed) (x : Item) (free : ℕ) (d : Divided) → other ≡ file → path ≡ front ++ last ∷ [] → Ascent file was old before count key root levels chain walk path x free → length x.entry ≤ 1000
    → ((c : Content) (left : List ℕ) → HasContent (old file) last.page c → c.kind ≡ Node → last.at ≤ length c.items → IsChain (old file) free left → last.page < count → times_free last.page left ≡ 0 → IsPlaced file last.page c last.at x count (mid.counts file) left old mid.bodies (Some d))
    → Ascent other was mid.bodies before (mid.counts other) key root levels chain walk front (record { entry = d.between; to = d.fresh }) d.free
way-goes file other was old mid before count key root levels chain walk path front last x free d same e s short placed =
    let h = ascend file was old before count key root levels chain walk front last x free (subst (λ (p : List Passed). Ascent file was old before count key root levels chain walk p x free) e s) in
    subst (λ (f : FileName). Ascent f was mid.bodies before (mid.counts f) key root levels chain walk front (record { entry = d.between; to = d.fresh }) d.free) (sym same)
    (h.goes mid.bodies (mid.counts file) d (placed h.content h.left h.held h.kind h.within h.chain_is h.low h.off) short)

pub way-place : (s : PageState) (file : FileName) (key root : ℕ) (path front : List Passed) (last : Passed) (x : Item) (free : ℕ) → path ≡ front ++ last ∷ [] → CanAscend s file key root path x free → IsPlaceable s file last.page Node last.at x.entry free
way-place s file key root path front last x free e a = ascend-place s file key root front last x free (subst (λ (p : List Passed). CanAscend s file key root p x free) e a)

pub way-next : (s now : PageState) (file other : FileName) (key root : ℕ) (path front : List Passed) (last : Passed) (x : Item) (free : ℕ) (d : Divided) → other ≡ file → path ≡ front ++ last ∷ [] → CanAscend s file key root path x free
    → ((c : Content) (left : List ℕ) → HasContent (s.bodies file) last.page c → c.kind ≡ Node → last.at ≤ length c.items → IsChain (s.bodies file) free left → last.page < s.counts file → times_free last.page left ≡ 0
    → IsPlaced file last.page c last.at x (s.counts file) (now.counts file) left s.bodies now.bodies (Some d)) → now.counts file ≤ s.counts file + 1
    → CanAscend now other key root front (record { entry = d.between; to = d.fresh }) d.free
way-next s now file other key root path front last x free d same e a placed grows =
    subst (λ (f : FileName). CanAscend now f key root front (record { entry = d.between; to = d.fresh }) d.free) (sym same) (ascend-next s now file key root front last x free d (subst (λ (p : List Passed). CanAscend s file key root p x free) e a) placed grows)

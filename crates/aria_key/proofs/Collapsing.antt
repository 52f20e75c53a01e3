-- The root's only two children are joined: the joined page is the root then, and the old root is free.
use Rattle.std.proofs.Common.{◌≡◌, ◌≢◌, ◌==◌, ◌&&◌, ◌⊎◌, nat_le, ℕ, ◌+◌, ◌<◌, ◌≤◌, true, List, [], ◌∷◌, ◌++◌, length, refl, sym, ap, subst, ◌∙◌, arith, length-append, inr}
use Rattle.std.specs.Prelude.{nat_lt}
use Rattle.std.specs.List.{AllByRecursion}
use Rattle.std.proofs.lemmas.List.{length-map}
use Rattle.aria_host.specs.declared.file_name.FileName.{FileName}
use Rattle.aria_cache.specs.PageState.{Bodies}
use Rattle.aria_keypage.specs.declared.kind.Kind.{Kind}
use Rattle.aria_keypage.specs.declared.kind.Kind.TheVariants.{Node}
use Rattle.aria_keypage.specs.Item.{Item, item_at}
use Rattle.aria_keypage.specs.Merge.{taken_over}
use Rattle.aria_key.specs.declared.path.Passed.{Passed}
use Rattle.aria_key.specs.declared.path.TheConstants.{MAX_LEVELS}
use Rattle.aria_key.specs.Tree.{Placed, name_of, items_on, names, IsOf, Under, Holds, top}
use Rattle.aria_key.specs.Climb.{above, IsPath}
use Rattle.aria_key.specs.Owned.{times_on, times_in}
use Rattle.aria_key.specs.IndexFile.{IsFree, times_free}
use Rattle.aria_key.specs.Thinning.{Reduced}
use Rattle.aria_key.proofs.Lists.{all-at}
use Rattle.aria_key.proofs.Bounds.{names-append}
use Rattle.aria_key.proofs.Joining.{both_of}
use Rattle.aria_key.proofs.Lessening.{Drops, collapse}
use Rattle.aria_key.proofs.Owning.{times-append}
use Rattle.aria_key.proofs.Spare.{flag, span-under, chain-still}
use Rattle.aria_key.proofs.Filing.{levels-still}
use Rattle.aria_key.proofs.Moved.{moved_header}
use Rattle.aria_key.proofs.Beside.{AreBeside, item_past}
use Rattle.aria_key.proofs.Beneath.{IsBeneath, flag_one, still_other, others_in, others_once}
use Rattle.aria_key.proofs.Uniting.{AreUnited, united, AreJoined, united-holds}

-- no level is above, where no step of the way is left
pub no_levels : (us : List (List Placed)) (n : ℕ) (front : List Passed) → front ≡ [] → IsPath us n front → us ≡ []
no_levels [] n front e way = refl
no_levels (u ∷ us) n front e (ahead, last, parts, c, way) = absurd (omega (arith, ap length e, ap length parts, length-append ahead (last ∷ [])))

-- the root stands alone on its level
pub record IsAlone (root : ℕ) (a : List Placed) (p : Placed) (b : List Placed) : Type 0 where
  pub before : a ≡ []
  pub behind : b ≡ []
  pub low : p.low ≡ []

pub alone : (root : ℕ) (a : List Placed) (p : Placed) (b : List Placed) → names (a ++ p ∷ b) ≡ top root → IsAlone root a p b
alone root [] p [] e = record { before = refl; behind = refl; low = ap (λ (xs : List Item). (item_at xs 0).entry) e }
alone root [] p (q ∷ b) e = absurd (omega (arith, ap length e))
alone root (q ∷ a) p b e = absurd (omega (arith, ap length e, length-map (a ++ p ∷ b) name_of, length-append a (p ∷ b)))

-- what the root's level has
record HasTwo (root : ℕ) (a : List Placed) (p : Placed) (b : List Placed) : Type 0 where
  two : length (items_on (a ++ p ∷ b)) ≡ 2
  first : (item_at (items_on (a ++ p ∷ b)) 0).entry ≡ []
  none : length (items_on a) ≡ 0
  alone_on : (m : ℕ) → times_on m (a ++ p ∷ b) ≡ flag (m == p.page)

has-two : (root : ℕ) (a : List Placed) (p : Placed) (b : List Placed) → p.content.kind ≡ Node → length p.content.items ≡ 1 → names (a ++ p ∷ b) ≡ top root → HasTwo root a p b
has-two root [] p [] node one e =
    let is : items_on (p ∷ []) ≡ (record { entry = p.low; to = p.content.first } ∷ p.content.items) ++ [] = ap (λ (t : Kind). taken_over t p.low p.content.first p.content.items ++ []) node in
    record {
      two = omega (arith, ap length is, one, length-append p.content.items []);
      first = ap (λ (xs : List Item). (item_at xs 0).entry) is ∙ (alone root [] p [] e).low;
      none = refl;
      alone_on = λ m. omega arith;
    }
has-two root [] p (q ∷ b) node one e = absurd (omega (arith, ap length e))
has-two root (q ∷ a) p b node one e = absurd (omega (arith, ap length e, length-map (a ++ p ∷ b) name_of, length-append a (p ∷ b)))

ends : (key root : ℕ) (us : List (List Placed)) (u l : List Placed) (downs : List (List Placed)) (walk : List Item) (n : ℕ) (y : Item) → us ≡ [] → (d : Drops key root (u ∷ us) l downs walk n) → d.y ≡ y → length (items_on u) ≡ 2 → y.entry ≡ [] → Under true key (top y.to) (l ∷ downs) walk
ends key root [] u l downs walk n y e d is two none = subst (λ (x : Item). Under true key (top x.to) (l ∷ downs) walk) is (collapse key root u l downs walk n d two (ap (λ (x : Item). x.entry) is ∙ none))
ends key root (v ∷ us) u l downs walk n y e d is two none = absurd (omega (arith, ap length e))

pub collapses : (file : FileName) (was old new : Bodies) (before count key root : ℕ) (levels : List (List Placed)) (chain : List ℕ) (walk : List Item) (front : List Passed) (last : Passed) (page free k : ℕ) → (s : IsBeneath file was old before count key root levels chain walk front last page free)
    → (w : AreBeside s.u s.l s.n last.page last.at k s.child) → (last.at ≡ k) ⊎ (last.at ≡ k + 1) → k < length s.child.here.content.items → front ≡ [] → length s.child.here.content.items ≡ 1 → length levels ≤ MAX_LEVELS
    → AreJoined (old file) (new file) w.p w.r s.child.here free → IsFree (new file) s.child.here.page w.r.page
    → Reduced file was new before count key levels chain walk w.p.page s.child.here.page
collapses file was old new before count key root levels chain walk front last page free k s w near low none one few j freed = record {
  apart = s.apart;
  grown = m ∷ s.downs;
  tree = inr (
    left-some,
    record {
      some = omega arith;
      few = omega (arith, s.size, few);
      under = ends key root s.us s.u m s.downs walk (length (items_on s.child.before) + k) (name_of w.p) top-is g.drops g.first (ap length (ap items_on s.child.parts) ∙ h.two) low-none;
      hold = (
        united-holds (old file) (new file) count w.a w.p w.r w.b (λ m h. still m (omega (arith, h))) j.left (subst (AllByRecursion (Holds (old file) count)) w.parts s.hold.0),
        levels-still (old file) (new file) count count s.downs (omega arith) (λ m h. still m (omega (arith, h))) s.hold.1,
      );
    },
  );
  left = s.child.here.page ∷ w.r.page ∷ s.left;
  chain_is = (refl, node-some, w.r.page, freed, (refl, right-some, free, j.right, chain-still (old file) (new file) free s.left (λ m h. still m (omega (arith, h))) s.chain_is));
  are = record { grows = s.are.grows; times = times };
  rest = rest;
}
  where
    m : List Placed
    m = w.a ++ both_of w.p w.r ∷ w.b

    g : AreUnited key root s.us s.u s.downs walk (length (items_on s.child.before) + k) w.a w.p w.r w.b
    g = united file was old before count key root levels chain walk front last page free k s w near

    top-is : s.us ≡ []
    top-is = no_levels s.us (length s.child.before) front none s.way

    named : names (s.child.before ++ s.child.here ∷ s.child.behind) ≡ top root
    named = ap (λ (x : List Placed). names x) (sym s.child.parts) ∙ s.over.0.named ∙ ap (above root) top-is

    node : s.child.here.content.kind ≡ Node
    node = (all-at (IsOf Node key) s.child.before s.child.here s.child.behind s.u s.child.parts s.over.0.kinds).kind_is

    h : HasTwo root s.child.before s.child.here s.child.behind
    h = has-two root s.child.before s.child.here s.child.behind node one named

    first-is : names s.l ≡ names w.a ++ name_of w.p ∷ name_of w.r ∷ names w.b
    first-is = ap (λ (x : List Placed). names x) w.parts ∙ names-append w.a (w.p ∷ w.r ∷ w.b)

    low-none : w.p.low ≡ []
    low-none =
        ap (λ (x : Item). x.entry) (sym (item_past (names w.a) (name_of w.p ∷ name_of w.r ∷ names w.b) 0 0 (omega (arith, length-map w.a name_of, w.index, low, one, h.none))))
        ∙ ap (λ (x : List Item). (item_at x 0).entry) (sym first-is ∙ s.level.named ∙ ap items_on s.child.parts) ∙ h.first

    once : (m : ℕ) → others_in s.us s.child.before s.child.behind w.a w.b s.downs s.left m + (flag (m == w.p.page) + flag (m == w.r.page) + flag (m == s.child.here.page)) ≤ 1
    once m = others_once file was old before count key root levels chain walk front last page free k s w m

    still : (m : ℕ) → 0 < others_in s.us s.child.before s.child.behind w.a w.b s.downs s.left m → new file m ≡ old file m
    still m h = still_other (old file) (new file) w.p.page w.r.page s.child.here.page (others_in s.us s.child.before s.child.behind w.a w.b s.downs s.left) j.other once m h

    low-is : (m : ℕ) → times_on m s.l ≡ times_on m w.a + (flag (m == w.p.page) + (flag (m == w.r.page) + times_on m w.b))
    low-is m = ap (times_on m) w.parts ∙ times-append m w.a (w.p ∷ w.r ∷ w.b)

    low-now : (n : ℕ) → times_on n m ≡ times_on n w.a + (flag (n == w.p.page) + times_on n w.b)
    low-now n = times-append n w.a (both_of w.p w.r ∷ w.b)

    up-is : (m : ℕ) → times_in m (s.u ∷ s.us) ≡ flag (m == s.child.here.page)
    up-is m = omega (arith, ap (times_on m) s.child.parts, h.alone_on m, ap (times_in m) top-is)

    zero-none : (times_in 0 (s.u ∷ s.us) + times_in 0 (s.l ∷ s.downs)) + times_free 0 s.left ≡ 0
    zero-none = moved_header before count levels chain (λ m. times_in m (s.u ∷ s.us) + times_in m (s.l ∷ s.downs)) s.left s.apart s.are

    left-some : w.p.page ≢ 0
    left-some e = absurd (omega (arith, zero-none, low-is 0, flag_one 0 w.p.page (sym e)))

    right-some : w.r.page ≢ 0
    right-some e = absurd (omega (arith, zero-none, low-is 0, flag_one 0 w.r.page (sym e)))

    node-some : s.child.here.page ≢ 0
    node-some e = absurd (omega (arith, zero-none, up-is 0, flag_one 0 s.child.here.page (sym e)))

    times : (n : ℕ) → times_in n (m ∷ s.downs) + times_free n (s.child.here.page ∷ w.r.page ∷ s.left) ≡ times_in n levels + times_free n chain + flag (nat_le before n && nat_lt n count)
    times n = omega (arith, s.are.times n, up-is n, low-is n, low-now n)

    rest : (m : ℕ) → m < before → times_in m levels + times_free m chain ≡ 0 → new file m ≡ was file m
    rest m h e =
        let zero-all : (times_in m (s.u ∷ s.us) + times_in m (s.l ∷ s.downs)) + times_free m s.left ≡ 0 = omega (arith, s.are.times m, e, span-under before count m h) in
        j.other m (λ k. absurd (omega (arith, zero-all, low-is m, flag_one m w.p.page k))) (λ k. absurd (omega (arith, zero-all, low-is m, flag_one m w.r.page k))) (λ k. absurd (omega (arith, zero-all, up-is m, flag_one m s.child.here.page k)))
        ∙ s.rest m h e

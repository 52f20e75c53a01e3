-- An entry is taken out of the leaf in which it was found.
use Rattle.std.proofs.Common.{◌≡◌, ◌≢◌, ◌==◌, ◌&&◌, ℕ, zero, suc, ◌+◌, ◌<◌, ◌≤◌, Bool, true, false, cond, Option, List, [], ◌∷◌, ◌++◌, length, take, drop, refl, sym, ap, subst, ◌∙◌, arith, length-append, inl}
use Rattle.std.specs.List.{AllByRecursion}
use Rattle.std.specs.BTreeMap.{is_at}
use Rattle.std.specs.declared.cmp.Ordering.{Ordering}
use Rattle.std.specs.declared.cmp.Ordering.TheVariants.{Less, Equal, Greater}
use Rattle.std.specs.Ordering.{nat_cmp, is_lt, is_eq, ordering_reverse}
use Rattle.std.specs.Cmp.Lexicographic.{slice_cmp, nat_list_cmp_total}
use Rattle.std.proofs.lemmas.List.{length-take, length-drop}
use Rattle.aria_host.specs.declared.file_name.FileName.{FileName}
use Rattle.aria_host.specs.Folder.{same_file}
use Rattle.aria_cache.specs.PageState.{Bodies}
use Rattle.aria_keypage.specs.declared.kind.Kind.{Kind}
use Rattle.aria_keypage.specs.declared.kind.Kind.TheVariants.{Leaf}
use Rattle.aria_keypage.specs.Item.{Item, item_at, is_below}
use Rattle.aria_keypage.specs.Merge.{taken_over}
use Rattle.aria_keypage.specs.Content.{Content, item_bytes}
use Rattle.aria_keypage.specs.Change.{without_item}
use Rattle.aria_keypage.proofs.Fans.{fan_before, fan-parts, fan-remove}
use Rattle.aria_keypage.proofs.Sizes.{without_item-count, three-items}
use Rattle.aria_key.specs.declared.path.Passed.{Passed}
use Rattle.aria_key.specs.Tree.{Placed, items_on, Rising, IsOf, IsLevel, Filled, is_top, Holds, HoldAll, IsTree}
use Rattle.aria_key.specs.Step.{Has}
use Rattle.aria_key.specs.Climb.{above, IsPath}
use Rattle.aria_key.specs.Place.{IsFound}
use Rattle.aria_key.specs.Held.{HasContent, Rewritten}
use Rattle.aria_key.specs.Owned.{times_on, times_in, without_entry}
use Rattle.aria_key.specs.IndexFile.{IsFree, IsChain, times_free}
use Rattle.aria_key.specs.Taking.{AreApart}
use Rattle.aria_key.specs.Thinning.{AreMoved, Thinned, Reduced}
use Rattle.aria_key.proofs.Lists.{all-append, all-left, all-right, all-at, drop-at}
use Rattle.aria_key.proofs.Changing.{items-around, take-item}
use Rattle.aria_key.proofs.Dividing.{holding}
use Rattle.aria_key.proofs.Owning.{times-append, times-onto, length-onto, all-onto}
use Rattle.aria_key.proofs.Spare.{flag, chain-still}
use Rattle.aria_key.proofs.Filing.{held-still, levels-still}
use Rattle.aria_key.proofs.Moved.{moved_none, moved_as}
use Rattle.aria_key.proofs.Thick.{filled_but}
use Rattle.aria_key.proofs.Beneath.{flag_one, not_page}
use Rattle.aria_key.proofs.Collapsing.{IsAlone, alone, no_levels}

-- ---- the entries

-- an entry that stands before another isn't the same
not_at : (a b : List ℕ) → is_below b a ≡ true → is_at (slice_cmp nat_cmp a) b ≡ false
not_at a b e = ap is_eq (nat_list_cmp_total.antisymm a b) ∙ by (slice_cmp nat_cmp b a) e
  where
    by : (o : Ordering) → is_lt o ≡ true → is_eq (ordering_reverse o) ≡ false
    by Less e = refl
    by Equal e = absurd cc
    by Greater e = absurd cc

itself : (a : List ℕ) → is_at (slice_cmp nat_cmp a) a ≡ true
itself a = by (slice_cmp nat_cmp a a) (nat_list_cmp_total.antisymm a a)
  where
    by : (o : Ordering) → o ≡ ordering_reverse o → is_eq o ≡ true
    by Less e = absurd cc
    by Equal e = refl
    by Greater e = absurd cc

-- an entry goes out of its place
pub without-entry-at : (x : Item) (front back : List Item) → Rising (front ++ x ∷ back) → without_entry x.entry (front ++ x ∷ back) ≡ front ++ back
without-entry-at x [] back r = ap (λ (b : Bool). cond b back (x ∷ without_entry x.entry back)) (itself x.entry)
without-entry-at x (y ∷ front) back r =
    ap (λ (b : Bool). cond b (front ++ x ∷ back) (y ∷ without_entry x.entry (front ++ x ∷ back))) (not_at x.entry y.entry (all-right (λ z. is_below y.entry z.entry ≡ true) front (x ∷ back) r.0).0)
    ∙ ap (λ (m : List Item). y ∷ m) (without-entry-at x front back r.1)

-- ---- the leaf

-- the leaf with the entry
pub record HasEntry (file : FileName) (old : Bodies) (count key root : ℕ) (entry : List ℕ) (levels : List (List Placed)) (walk : List Item) (page at : ℕ) (path : List Passed) (f : IsFound (old file) count key root entry levels walk page at true path) : Type 0 where
  pub held : HasContent (old file) page f.on.here.content
  pub kind : f.on.here.content.kind ≡ Leaf
  pub within : at < length f.on.here.content.items
  pub low : page < count
  pub level : IsLevel Leaf key (above root f.ups) (f.on.before ++ f.on.here ∷ f.on.behind)
  pub less : without_entry entry walk ≡ (items_on f.on.before ++ fan_before f.on.here.low f.on.here.content at) ++ (drop (at + 1) f.on.here.content.items ++ items_on f.on.behind)
  pub times : (m : ℕ) → times_in m levels ≡ times_in m f.ups + (times_on m f.on.before + (flag (m == f.on.here.page) + times_on m f.on.behind))
  pub hold_ups : HoldAll (old file) count f.ups

pub has_entry : (file : FileName) (old : Bodies) (count key root : ℕ) (entry : List ℕ) (levels : List (List Placed)) (walk : List Item) (page at : ℕ) (path : List Passed) (f : IsFound (old file) count key root entry levels walk page at true path) → IsTree (old file) count key root levels walk
    → HasEntry file old count key root entry levels walk page at path f
has_entry file old count key root entry levels walk page at path f t =
    let p : Placed = f.on.here in
    let items : List Item = p.content.items in
    let found : (at < length items) × ((item_at items at).entry ≡ entry) = f.place.found.0 refl in
    let level : IsLevel Leaf key (above root f.ups) (f.on.before ++ p ∷ f.on.behind) = subst (IsLevel Leaf key (above root f.ups)) f.on.parts f.under.0 in
    let h : Holds (old file) count p = all-at (Holds (old file) count) f.on.before p f.on.behind f.leaves f.on.parts f.hold.0 in
    let front : List Item = items_on f.on.before ++ fan_before p.low p.content at in
    let back : List Item = drop (at + 1) items ++ items_on f.on.behind in
    let around : items_on (f.on.before ++ p ∷ f.on.behind) ≡ front ++ item_at items at ∷ back =
    items-around f.on.before f.on.behind p (fan_before p.low p.content at) (drop at items) (fan-parts p.low p.content at) ∙ ap (λ (m : List Item). front ++ (m ++ items_on f.on.behind)) (drop-at items at found.0) in
    let was : walk ≡ front ++ item_at items at ∷ back = f.under.2 ∙ ap items_on f.on.parts ∙ around in
    record {
      held = record { body = h.body; there = ap (old file) (sym f.on.page_is) ∙ h.there; size = h.size; spells = h.spells };
      kind = (all-at (IsOf Leaf key) f.on.before p f.on.behind (f.on.before ++ p ∷ f.on.behind) refl level.kinds).kind_is;
      within = found.0;
      low = omega (arith, h.low, f.on.page_is);
      level = level;
      less = ap (without_entry entry) was ∙ ap (λ (e : List ℕ). without_entry e (front ++ item_at items at ∷ back)) (sym found.1) ∙ without-entry-at (item_at items at) front back (subst Rising around level.rising);
      times = λ m. omega (arith, ap (times_in m) (sym f.whole), times-onto m f.ups (f.leaves ∷ []), ap (times_on m) f.on.parts, times-append m f.on.before (p ∷ f.on.behind));
      hold_ups = (all-onto (AllByRecursion (Holds (old file) count)) f.ups (f.leaves ∷ []) (subst (HoldAll (old file) count) (sym f.whole) t.hold)).0;
    }

-- a page beside another isn't it
still_one : (old new : ℕ → Option (List ℕ)) (x : ℕ) (others : ℕ → ℕ) → ((m : ℕ) → (m ≡ x → ⊥) → new m ≡ old m) → ((m : ℕ) → others m + flag (m == x) ≤ 1) → (m : ℕ) → 0 < others m → new m ≡ old m
still_one old new x others same once m h = same m (λ e. absurd (omega (arith, once m, h, flag_one m x e)))

-- a leaf that isn't the root has more items
more_items : (bodies : ℕ → Option (List ℕ)) (count : ℕ) (ups : List (List Placed)) (n : ℕ) (path : List Passed) (a : List Placed) (p : Placed) (b l : List Placed) (at : ℕ) → IsPath ups n path → l ≡ a ++ p ∷ b → (is_top ups ≡ false → Filled l) → AllByRecursion (Holds bodies count) l → (path ≡ [] → length p.content.items ≡ 1 → ⊥)
    → at < length p.content.items → 0 < length (without_item p.content at).items
more_items bodies count [] n path a p b l at way parts full hold more low = by (length p.content.items) refl
  where
    by : (k : ℕ) → length p.content.items ≡ k → 0 < length (without_item p.content at).items
    by zero e = absurd (omega (arith, low, e))
    by (suc zero) e = absurd (more way.0 e)
    by (suc (suc k)) e = omega (arith, without_item-count p.content at low, e)
more_items bodies count (u ∷ us) n path a p b l at way parts full hold more low =
    let h : Holds bodies count p = all-at (Holds bodies count) a p b l parts hold in
    let enough : 2045 ≤ length (item_bytes p.content) = all-at (λ q. 2045 ≤ length (item_bytes q.content)) a p b l parts (full refl) in
    omega (arith, three-items p.content h.spells.content enough, without_item-count p.content at low)

-- the tree without the entry, whose leaf may have too few item bytes
pub plucked : (file : FileName) (old new : Bodies) (count key root : ℕ) (entry : List ℕ) (levels : List (List Placed)) (chain : List ℕ) (walk : List Item) (page at : ℕ) (path : List Passed) (free : ℕ) → IsTree (old file) count key root levels walk → AreApart count levels chain → IsChain (old file) free chain
    → (f : IsFound (old file) count key root entry levels walk page at true path) → (path ≡ [] → length f.on.here.content.items ≡ 1 → ⊥) → Rewritten file page (without_item f.on.here.content at) old new
    → Thinned file old new count count key root levels chain (without_entry entry walk) path page free
plucked file old new count key root entry levels chain walk page at path free t apart chain_is f more r = record {
  apart = apart;
  ups = f.ups;
  l = v;
  downs = [];
  n = length f.on.before;
  over = f.over;
  filled = f.filled;
  level = taken.level;
  but = λ e. filled_but f.on.before p q f.on.behind (subst Filled f.on.parts (f.under.1 e));
  below = g.less ∙ sym taken.items_are;
  nth = record { before = f.on.before; here = q; behind = f.on.behind; parts = refl; page_is = f.on.page_is; index = refl };
  way = subst (λ (n : ℕ). IsPath f.ups n path) (sym f.on.index) f.path_is;
  size = omega (arith, ap length f.whole, length-onto f.ups (f.leaves ∷ []));
  hold_ups = levels-still (old file) (new file) count count f.ups (omega arith) (λ m h. still m (omega (arith, h))) g.hold_ups;
  hold = (
    all-append (Holds (new file) count) f.on.before (q ∷ f.on.behind) (held-still (old file) (new file) count count f.on.before (omega arith) (λ m h. still m (omega (arith, h))) (all-left (Holds (old file) count) f.on.before (p ∷ f.on.behind) leaves)) (
      record { low = own.0.low; body = r.here.body; there = ap (new file) f.on.page_is ∙ r.here.there; size = r.here.size; spells = r.here.spells },
      held-still (old file) (new file) count count f.on.behind (omega arith) (λ m h. still m (omega (arith, h))) own.1,
    ),
    tt,
  );
  left = chain;
  chain_is = chain-still (old file) (new file) free chain (λ m h. still m (omega (arith, h))) chain_is;
  are = moved_as count count levels chain (λ m. times_in m levels) (λ m. times_in m f.ups + times_in m (v ∷ [])) chain (λ m. omega (arith, g.times m, times-append m f.on.before (q ∷ f.on.behind))) (moved_none count levels chain);
  rest = λ m low e. same m (λ k. absurd (omega (arith, e, g.times m, flag_one m f.on.here.page k)));
}
  where
    p : Placed
    p = f.on.here

    q : Placed
    q = holding f.on.here (without_item f.on.here.content at)

    v : List Placed
    v = f.on.before ++ q ∷ f.on.behind

    g : HasEntry file old count key root entry levels walk page at path f
    g = has_entry file old count key root entry levels walk page at path f t

    is : IsOf Leaf key f.on.here
    is = all-at (IsOf Leaf key) f.on.before f.on.here f.on.behind (f.on.before ++ f.on.here ∷ f.on.behind) refl g.level.kinds

    some : 0 < length (without_item f.on.here.content at).items
    some = more_items (old file) count f.ups f.n path f.on.before f.on.here f.on.behind f.leaves at f.path_is f.on.parts f.under.1 f.hold.0 more g.within

    taken : Has Leaf key (above root f.ups) v ((items_on f.on.before ++ fan_before f.on.here.low f.on.here.content at) ++ (drop (at + 1) f.on.here.content.items ++ items_on f.on.behind))
    taken = take-item Leaf key (above root f.ups) f.on.before f.on.behind p q (fan_before p.low p.content at) (drop (at + 1) p.content.items) (item_at p.content.items at) g.level
        (fan-parts p.low p.content at ∙ ap (λ (m : List Item). fan_before p.low p.content at ++ m) (drop-at p.content.items at g.within)) (fan-remove p.low p.content at) refl refl (record { kind_is = is.kind_is; key_is = is.key_is; some = some })

    same : (m : ℕ) → (m ≡ f.on.here.page → ⊥) → new file m ≡ old file m
    same m other = r.other file m (not_page file page m (λ e. other (e ∙ sym f.on.page_is)))

    still : (m : ℕ) → 0 < times_in m f.ups + times_on m f.on.before + times_on m f.on.behind + times_free m chain → new file m ≡ old file m
    still m h = still_one (old file) (new file) f.on.here.page (λ m. times_in m f.ups + times_on m f.on.before + times_on m f.on.behind + times_free m chain) same (λ m. omega (arith, apart.once m, g.times m)) m h

    leaves : AllByRecursion (Holds (old file) count) (f.on.before ++ f.on.here ∷ f.on.behind)
    leaves = subst (AllByRecursion (Holds (old file) count)) f.on.parts f.hold.0

    own : AllByRecursion (Holds (old file) count) (f.on.here ∷ f.on.behind)
    own = all-right (Holds (old file) count) f.on.before (f.on.here ∷ f.on.behind) leaves

-- ---- the last entry

none-left : (xs : List Item) → length xs ≡ 0 → xs ≡ []
none-left [] e = refl
none-left (x ∷ xs) e = absurd (omega (arith, e))

none-on : (a : List Placed) → a ≡ [] → length (items_on a) ≡ 0
none-on [] e = refl
none-on (p ∷ a) e = absurd (omega (arith, ap length e))

none-times : (m : ℕ) (a : List Placed) → a ≡ [] → times_on m a ≡ 0
none-times m [] e = refl
none-times m (p ∷ a) e = absurd (omega (arith, ap length e))

-- the leaf is the root and has no other entry: it is free, and the tree is empty
pub cleared : (file : FileName) (old new : Bodies) (count key root : ℕ) (entry : List ℕ) (levels : List (List Placed)) (chain : List ℕ) (walk : List Item) (page at : ℕ) (path : List Passed) (free : ℕ) → IsTree (old file) count key root levels walk → AreApart count levels chain → IsChain (old file) free chain
    → (f : IsFound (old file) count key root entry levels walk page at true path) → path ≡ [] → length f.on.here.content.items ≡ 1 → IsFree (new file) page free → ((g : FileName) (n : ℕ) → (same_file file g && (page == n)) ≡ false → new g n ≡ old g n)
    → Reduced file old new count count key levels chain (without_entry entry walk) 0 page
cleared file old new count key root entry levels chain walk page at path free t apart chain_is f top-way one freed other = record {
  apart = apart;
  grown = [];
  tree = inl (refl, refl, empty);
  left = page ∷ chain;
  chain_is = (refl, some, free, freed, chain-still (old file) (new file) free chain (λ m h. other file m (not_page file page m (λ e. absurd (omega (arith, times m, flag_one m page e, apart.once m, h))))) chain_is);
  are = moved_times;
  rest = λ m low e. other file m (not_page file page m (λ k. absurd (omega (arith, e, times m, flag_one m page k))));
}
  where
    g : HasEntry file old count key root entry levels walk page at path f
    g = has_entry file old count key root entry levels walk page at path f t

    top-is : f.ups ≡ []
    top-is = no_levels f.ups f.n path top-way f.path_is

    lone : IsAlone root f.on.before f.on.here f.on.behind
    lone = alone root f.on.before f.on.here f.on.behind (g.level.named ∙ ap (above root) top-is)

    items-few : length (fan_before f.on.here.low f.on.here.content at) + length (drop (at + 1) f.on.here.content.items) ≡ 0
    items-few =
        let is : fan_before f.on.here.low f.on.here.content at ≡ take at f.on.here.content.items = ap (λ (t : Kind). taken_over t f.on.here.low f.on.here.content.first (take at f.on.here.content.items)) g.kind in
        omega (arith, ap length is, length-take at f.on.here.content.items, length-drop (at + 1) f.on.here.content.items, g.within, one)

    empty : without_entry entry walk ≡ []
    empty = g.less ∙ none-left ((items_on f.on.before ++ fan_before f.on.here.low f.on.here.content at) ++ (drop (at + 1) f.on.here.content.items ++ items_on f.on.behind))
        (omega (
          arith,
          length-append (items_on f.on.before ++ fan_before f.on.here.low f.on.here.content at) (drop (at + 1) f.on.here.content.items ++ items_on f.on.behind),
          length-append (items_on f.on.before) (fan_before f.on.here.low f.on.here.content at),
          length-append (drop (at + 1) f.on.here.content.items) (items_on f.on.behind),
          items-few,
          none-on f.on.before lone.before,
          none-on f.on.behind lone.behind,
        ))

    times : (m : ℕ) → times_in m levels ≡ flag (m == page)
    times m = omega (arith, g.times m, ap (times_in m) top-is, none-times m f.on.before lone.before, none-times m f.on.behind lone.behind, ap (λ (n : ℕ). flag (m == n)) f.on.page_is)

    some : page ≢ 0
    some e = absurd (omega (arith, apart.header, times 0, flag_one 0 page (sym e)))

    moved_times : AreMoved count count levels chain (λ m. times_in m []) (page ∷ chain)
    moved_times = let none = moved_none count levels chain in record { grows = omega arith; times = λ m. omega (arith, none.times m, times m) }

-- ---- from what the search says

-- the leaf that has the entry, and what comes of it
pub record Plucks (file : FileName) (old : Bodies) (count key root : ℕ) (entry : List ℕ) (levels : List (List Placed)) (chain : List ℕ) (walk : List Item) (page at : ℕ) (path : List Passed) (free : ℕ) : Type 0 where
  pub content : Content
  pub held : HasContent (old file) page content
  pub kind : content.kind ≡ Leaf
  pub within : at < length content.items
  pub low : page < count
  pub ends : (new : Bodies) → path ≡ [] → length content.items ≡ 1 → IsFree (new file) page free → ((g : FileName) (n : ℕ) → (same_file file g && (page == n)) ≡ false → new g n ≡ old g n)
      → Reduced file old new count count key levels chain (without_entry entry walk) 0 page
  pub goes : (new : Bodies) → (path ≡ [] → length content.items ≡ 1 → ⊥) → Rewritten file page (without_item content at) old new → Thinned file old new count count key root levels chain (without_entry entry walk) path page free

pub plucks : (file : FileName) (old : Bodies) (count key root : ℕ) (entry : List ℕ) (levels : List (List Placed)) (chain : List ℕ) (walk : List Item) (page at : ℕ) (same : Bool) (path : List Passed) (free : ℕ) → same ≡ true → IsTree (old file) count key root levels walk → AreApart count levels chain → IsChain (old file) free chain
    → IsFound (old file) count key root entry levels walk page at same path → Plucks file old count key root entry levels chain walk page at path free
plucks file old count key root entry levels chain walk page at same path free is t apart chain_is found = by (subst (λ (b : Bool). IsFound (old file) count key root entry levels walk page at b path) is found)
  where
    by : IsFound (old file) count key root entry levels walk page at true path → Plucks file old count key root entry levels chain walk page at path free
    by f =
        let g = has_entry file old count key root entry levels walk page at path f t in
        record {
          content = f.on.here.content;
          held = g.held;
          kind = g.kind;
          within = g.within;
          low = g.low;
          ends = λ new top one freed other. cleared file old new count key root entry levels chain walk page at path free t apart chain_is f top one freed other;
          goes = λ new more r. plucked file old new count key root entry levels chain walk page at path free t apart chain_is f more r;
        }

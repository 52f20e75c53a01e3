-- An entry that is put into a tree: what is asked of the file serves each call on the way.
use Rattle.std.proofs.Common.{◌≡◌, ◌≢◌, ◌⊎◌, inl, inr, ℕ, ◌<◌, ◌≤◌, ◌^◌, ◌&&◌, Bool, true, false, List, [], ◌∷◌, ◌++◌, length, IsTrue, refl, sym, ap, subst, ◌∙◌, arith, length-append}
use Rattle.std.specs.Prelude.{Option, Some, None, IsSome, Ok, Err, OnOk, Result}
use Rattle.std.proofs.Common.{rules}
use Rattle.std.specs.List.{AllByRecursion}
use Rattle.std.proofs.lemmas.Bool.{ne_eqb}
use Rattle.aria_page.specs.declared.page.TheConstants.{BODY_BYTES}
use Rattle.aria_host.specs.declared.file_name.FileName.{FileName}
use Rattle.aria_host.proofs.Files.{same_file-refl}
use Rattle.aria_cache.specs.PageState.{PageState, Bodies, with_count}
use Rattle.aria_keypage.specs.declared.kind.Kind.{Kind}
use Rattle.aria_keypage.specs.declared.kind.Kind.TheVariants.{Leaf}
use Rattle.aria_keypage.specs.Item.{Item}
use Rattle.aria_keypage.specs.Merge.{taken_over}
use Rattle.aria_key.specs.declared.path.Passed.{Passed}
use Rattle.aria_key.specs.Tree.{Placed, items_of, items_on, IsOf, IsTree}
use Rattle.aria_key.specs.Climb.{IsPath}
use Rattle.aria_key.specs.Place.{IsFound}
use Rattle.aria_key.specs.Owned.{with_entry}
use Rattle.aria_key.specs.IndexFile.{root_in, free_in, with_root, with_free, IsChain, IsTreeOf, HoldsTrees, with_walk}
use Rattle.aria_key.specs.Taking.{HasSpare, AreApart}
use Rattle.aria_key.specs.Ascent.{Regrown}
use Rattle.aria_key.specs.Header.{SetsHeader}
use Rattle.aria_key.specs.Inserting.{IsAbsent, IsOpenTo, CanAdd, IsReadyFor, KeepsHeader, IsInserted, HeaderKept, CanChange, CanInsert}
use Rattle.aria_key.proofs.Cramped.{count-then}
use Rattle.aria_key.proofs.Lists.{all-at, all-left, all-right, all-item}
use Rattle.aria_key.proofs.Descending.{items-append}
use Rattle.aria_key.proofs.Owning.{length-onto}
use Rattle.aria_key.proofs.Spare.{left-low, taken-none, all-some, all-times}
use Rattle.aria_key.proofs.Levels.{twelve}
use Rattle.aria_key.proofs.Filing.{says-header, apart-of, Headed, filed}

-- an entry that isn't there is not found
pub absent-same : (bodies : ℕ → Option (List ℕ)) (count key root : ℕ) (entry : List ℕ) (levels : List (List Placed)) (walk : List Item) (page at : ℕ) (same : Bool) (path : List Passed) → IsFound bodies count key root entry levels walk page at same path → IsAbsent entry walk → same ≡ false
absent-same bodies count key root entry levels walk page at same path f absent = by same refl
  where
    p : Placed
    p = f.on.here

    there : AllByRecursion (λ (y : Item). y.entry ≢ entry) (items_of p)
    there = all-left (λ (y : Item). y.entry ≢ entry) (items_of p) (items_on f.on.behind) (all-right (λ (y : Item). y.entry ≢ entry) (items_on f.on.before) (items_of p ++ items_on f.on.behind)
        (subst (AllByRecursion (λ (y : Item). y.entry ≢ entry)) (f.under.2 ∙ ap items_on f.on.parts ∙ items-append f.on.before (p ∷ f.on.behind)) absent))

    leaf : p.content.kind ≡ Leaf
    leaf = (all-at (IsOf Leaf key) f.on.before p f.on.behind f.leaves f.on.parts f.under.0.kinds).kind_is

    none : AllByRecursion (λ (y : Item). y.entry ≢ entry) p.content.items
    none = subst (AllByRecursion (λ (y : Item). y.entry ≢ entry)) (ap (λ (t : Kind). taken_over t p.low p.content.first p.content.items) leaf) there

    by : (b : Bool) → same ≡ b → same ≡ false
    by false e = e
    by true e =
        let found = f.place.found.0 (subst IsTrue (sym e) refl) in
        absurd (all-item (λ (y : Item). y.entry ≢ entry) p.content.items at found.0 none found.1)

-- the way has a node of each level
pub path-length : (ups : List (List Placed)) (n : ℕ) (path : List Passed) → IsPath ups n path → length path ≡ length ups
path-length [] n path way = ap length way.0
path-length (u ∷ us) n path (front, last, whole, c, way) = omega (arith, ap length whole, length-append front (last ∷ []), path-length us (length c.before) front way)

pub path-few : (bodies : ℕ → Option (List ℕ)) (count key root : ℕ) (entry : List ℕ) (levels : List (List Placed)) (walk : List Item) (page at : ℕ) (same : Bool) (path : List Passed) → IsTree bodies count key root levels walk → length walk < 16777216 → IsFound bodies count key root entry levels walk page at same path
    → length path ≤ 11
path-few bodies count key root entry levels walk page at same path t few f =
    omega (arith, twelve bodies count key root levels walk t few, ap length f.whole, length-onto f.ups (f.leaves ∷ []), path-length f.ups f.n path f.path_is)

-- the tree, where it isn't empty
pub open-tree : (bodies : ℕ → Option (List ℕ)) (count key root : ℕ) (levels : List (List Placed)) (walk : List Item) → root ≢ 0 → IsTreeOf bodies count key root levels walk → IsTree bodies count key root levels walk
open-tree bodies count key root levels walk some (inl none) = absurd (some none.0)
open-tree bodies count key root levels walk some (inr is) = is.1

-- and where it is
pub open-none : (bodies : ℕ → Option (List ℕ)) (count key root : ℕ) (levels : List (List Placed)) (walk : List Item) → root ≡ 0 → IsTreeOf bodies count key root levels walk → (levels ≡ []) × (walk ≡ [])
open-none bodies count key root levels walk none (inl is) = (is.1, is.2)
open-none bodies count key root levels walk none (inr is) = absurd (is.0 none)

-- free pages are pages of the file
pub low-pages : (count : ℕ) (levels : List (List Placed)) (chain : List ℕ) → AreApart count levels chain → AllByRecursion (λ p. p < count) chain
low-pages count levels chain apart = all-times (λ p. p < count) chain (left-low count count levels chain [] chain apart (taken-none count chain))

pub add-spare : (s : PageState) (file : FileName) (key root free : ℕ) (entry : List ℕ) → CanAdd s file key root free entry → HasSpare s file free
add-spare s file key root free entry a = record { left = a.chain; chain = a.opens.chain_is; low = low-pages (s.counts file) a.levels a.chain a.opens.apart; room = omega (arith, a.room) }

-- ---- the header

-- nothing was changed in it
pub headed-same : (file : FileName) (was mid : Bodies) (keys before count key root free more next : ℕ) (walks : ℕ → List Item) (walk : List Item) (entry : List ℕ) (r : IsReadyFor keys before (was file) walks key root free entry) → Regrown file was mid before count key (r.held.levels key) r.held.free walk more next → more ≡ root → next ≡ free
    → Headed key more next r.held.header r.held.header (mid file) (mid file)
headed-same file was mid keys before count key root free more next walks walk entry r g same also = record {
  here = g.rest 0 (omega (arith, all-some before count (r.held.levels key) r.held.free g.taken g.left g.apart g.are)) ∙ r.held.file.there;
  size = r.held.file.size;
  root_is = sym r.root_is ∙ sym same;
  others = λ k apart few. refl;
  free_is = sym r.free_is ∙ sym also;
  same = λ n some. refl;
}

pub header-there : (file : FileName) (was mid : Bodies) (keys before count key root free more next : ℕ) (walks : ℕ → List Item) (walk : List Item) (entry : List ℕ) (r : IsReadyFor keys before (was file) walks key root free entry) → Regrown file was mid before count key (r.held.levels key) r.held.free walk more next → mid file 0 ≡ Some r.held.header
header-there file was mid keys before count key root free more next walks walk entry r g = g.rest 0 (omega (arith, all-some before count (r.held.levels key) r.held.free g.taken g.left g.apart g.are)) ∙ r.held.file.there

-- two numbers were
pub headed-set : (file : FileName) (key root free : ℕ) (header : List ℕ) (mid new : Bodies) → length header ≡ BODY_BYTES → key < 8 → root < 256 ^ 4 → free < 256 ^ 4 → SetsHeader file key root free header mid new → Headed key root free header (with_root key root (with_free free header)) (mid file) (new file)
headed-set file key root free header mid new size low r f s =
    let says = says-header key root free header size low r f in
    record {
      here = s.here;
      size = says.size;
      root_is = says.root_is;
      others = says.other;
      free_is = says.free_is;
      same = λ n some. s.other file n (λ i. same_file-refl file i && ne_eqb 0 n (λ e. some (sym e)) i);
    }

-- the file with the entry
pub inserted : (file : FileName) (was mid new : Bodies) (keys before count key root free more next : ℕ) (walks : ℕ → List Item) (x : Item) (entry now : List ℕ) (r : IsReadyFor keys before (was file) walks key root free entry) → Regrown file was mid before count key (r.held.levels key) r.held.free (with_entry x (walks key)) more next
    → Headed key more next r.held.header now (mid file) (new file) → KeepsHeader key r.held.header now → (count ≡ before) ⊎ (next ≡ 0) → IsInserted keys before count (new file) walks key x r.held.header
inserted file was mid new keys before count key root free more next walks x entry now r g h keeps rose = record {
  now = now;
  levels = _;
  free = g.left;
  file = filed file was mid new keys before count key more next r.held.header now r.held.levels r.held.free walks (with_entry x (walks key)) r.held.file r.low g h;
  keeps = keeps;
  rose = by rose;
}
  where
    by : (count ≡ before) ⊎ (next ≡ 0) → (count ≡ before) ⊎ (free_in now ≡ 0)
    by (inl e) = inl e
    by (inr e) = inr (h.free_is ∙ e)

-- the tree that the entry is put into
pub ready-opens : (keys count : ℕ) (bodies : ℕ → Option (List ℕ)) (walks : ℕ → List Item) (key root free : ℕ) (entry : List ℕ) (r : IsReadyFor keys count bodies walks key root free entry) → IsOpenTo bodies count key root free entry (r.held.levels key) r.held.free (walks key)
ready-opens keys count bodies walks key root free entry r = record {
  tree = subst (λ (n : ℕ). IsTreeOf bodies count key n (r.held.levels key) (walks key)) (sym r.root_is) (r.held.file.trees key r.low);
  apart = apart-of keys count bodies r.held.header r.held.levels r.held.free walks key r.held.file r.low;
  chain_is = subst (λ (n : ℕ). IsChain bodies n r.held.free) (sym r.free_is) r.held.file.chain;
  absent = r.absent;
  few = r.few;
}

pub change-add : (s : PageState) (file : FileName) (key root free : ℕ) (entry : List ℕ) → CanChange s file key root free entry → CanAdd s file key root free entry
change-add s file key root free entry c = record {
  levels = c.ready.held.levels key;
  chain = c.ready.held.free;
  walk = c.walks key;
  opens = ready-opens c.keys (s.counts file) (s.bodies file) c.walks key root free entry c.ready;
  room = c.room;
}

-- ---- the header that was read

pub read-ready : (keys count : ℕ) (bodies : ℕ → Option (List ℕ)) (walks : ℕ → List Item) (key root free : ℕ) (entry : List ℕ) → key < keys → HoldsTrees keys count bodies walks → IsAbsent entry (walks key) → length (walks key) < 16777216
    → ((header : List ℕ) → bodies 0 ≡ Some header → (root ≡ root_in header key) × (free ≡ free_in header)) → IsReadyFor keys count bodies walks key root free entry
read-ready keys count bodies walks key root free entry low h absent few says = record {
  low = low;
  held = h;
  absent = absent;
  few = few;
  root_is = (says h.header h.file.there).0;
  free_is = (says h.header h.file.there).1;
}

pub insert-change : (s : PageState) (file : FileName) (key root free : ℕ) (entry : List ℕ) → ((header : List ℕ) → s.bodies file 0 ≡ Some header → (root ≡ root_in header key) × (free ≡ free_in header)) → CanInsert s file key entry → CanChange s file key root free entry
insert-change s file key root free entry says c = record { keys = c.keys; walks = c.walks; ready = read-ready c.keys (s.counts file) (s.bodies file) c.walks key root free entry c.low c.held c.absent c.few says; room = c.room }

-- the header was written behind the change of the tree
pub changed : {T E : Type 0} (result : Result T E) (old mid new : PageState) (file other : FileName) (keys key root free more next : ℕ) (walks : ℕ → List Item) (x : Item) (entry : List ℕ) → other ≡ file → (r : IsReadyFor keys (old.counts file) (old.bodies file) walks key root free entry)
    → Regrown file old.bodies mid.bodies (old.counts file) (mid.counts file) key (r.held.levels key) r.held.free (with_entry x (walks key)) more next → (mid.counts file ≡ old.counts file) ⊎ (next ≡ 0) → key < 8 → more < 256 ^ 4 → next < 256 ^ 4
    → ((header : List ℕ) → mid.bodies other 0 ≡ Some header → OnOk result (SetsHeader other key more next header mid.bodies new.bodies)) → OnOk result (new.counts ≡ with_count other 1 mid.counts)
    → OnOk result (IsInserted keys (old.counts file) (new.counts file) (new.bodies file) walks key x r.held.header)
changed (Err e) old mid new file other keys key root free more next walks x entry same r g rose low a b written counts = tt
changed (Ok v) old mid new file other keys key root free more next walks x entry same r g rose low a b written counts =
    let there : mid.bodies file 0 ≡ Some r.held.header = header-there file old.bodies mid.bodies keys (old.counts file) (mid.counts file) key root free more next walks (with_entry x (walks key)) entry r g in
    let sets : SetsHeader file key more next r.held.header mid.bodies new.bodies = subst (λ (f : FileName). SetsHeader f key more next r.held.header mid.bodies new.bodies) same (written r.held.header (ap (λ (f : FileName). mid.bodies f 0) same ∙ there)) in
    let grown : new.counts file ≡ mid.counts file = omega (arith, count-then file other 1 mid new same counts, g.are.grows, r.held.file.some) in
    subst (λ (n : ℕ). IsInserted keys (old.counts file) n (new.bodies file) walks key x r.held.header) (sym grown)
    (inserted file old.bodies mid.bodies new.bodies keys (old.counts file) (mid.counts file) key root free more next walks x entry (with_root key more (with_free next r.held.header)) r g
    (headed-set file key more next r.held.header mid.bodies new.bodies r.held.file.size low a b sets) (inr (record { root = more; free = next; is = refl })) rose)

-- it was left as it was
pub unchanged : (old mid : PageState) (file : FileName) (keys key root free more next : ℕ) (walks : ℕ → List Item) (x : Item) (entry : List ℕ) (r : IsReadyFor keys (old.counts file) (old.bodies file) walks key root free entry)
    → Regrown file old.bodies mid.bodies (old.counts file) (mid.counts file) key (r.held.levels key) r.held.free (with_entry x (walks key)) more next → (mid.counts file ≡ old.counts file) ⊎ (next ≡ 0) → more ≡ root → next ≡ free
    → IsInserted keys (old.counts file) (mid.counts file) (mid.bodies file) walks key x r.held.header
unchanged old mid file keys key root free more next walks x entry r g rose a b =
    inserted file old.bodies mid.bodies mid.bodies keys (old.counts file) (mid.counts file) key root free more next walks x entry r.held.header r g
    (headed-same file old.bodies mid.bodies keys (old.counts file) (mid.counts file) key root free more next walks (with_entry x (walks key)) entry r g a b) (inl refl) rose

-- what the file holds then
pub inserted-trees : (keys count more : ℕ) (bodies : ℕ → Option (List ℕ)) (walks : ℕ → List Item) (key : ℕ) (x : Item) (header : List ℕ) → IsInserted keys count more bodies walks key x header → HoldsTrees keys more bodies (with_walk key (with_entry x (walks key)) walks)
inserted-trees keys count more bodies walks key x header h = record { header = h.now; levels = h.levels; free = h.free; file = h.file }

pub inserted-header : (keys count more : ℕ) (bodies : ℕ → Option (List ℕ)) (walks : ℕ → List Item) (key : ℕ) (x : Item) (header : List ℕ) → IsInserted keys count more bodies walks key x header → HeaderKept key count more header bodies
inserted-header keys count more bodies walks key x header h = record { now = h.now; there = h.file.there; keeps = h.keeps; rose = h.rose }

pub some-there : (o : Option (List ℕ)) (body : List ℕ) → o ≡ Some body → IsSome o
some-there (Some b) body e = search rules
some-there None body e = absurd cc

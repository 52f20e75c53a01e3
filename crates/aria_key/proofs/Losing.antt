-- An index file that loses an entry of a key, and its header.
use Rattle.std.proofs.Common.{◌≡◌, ◌≢◌, ◌∙◌, ◌⊎◌, inl, inr, ℕ, ◌+◌, ◌<◌, ◌≤◌, ◌^◌, Bool, true, false, List, length, refl, ap, subst, sym, arith}
use Rattle.std.specs.Prelude.{Option, Some, IsSome, Result, Ok, Err, OnOk}
use Rattle.aria_page.specs.declared.page.TheConstants.{BODY_BYTES}
use Rattle.aria_host.specs.declared.file_name.FileName.{FileName}
use Rattle.aria_cache.specs.PageState.{PageState, Bodies, Counts, with_count}
use Rattle.aria_keypage.specs.Item.{Item}
use Rattle.aria_key.specs.Tree.{Placed}
use Rattle.aria_key.specs.Owned.{without_entry}
use Rattle.aria_key.specs.Header.{SetsHeader}
use Rattle.aria_key.specs.IndexFile.{root_in, free_in, with_root, with_free, IsChain, IsTreeOf, IsIndexFile, HoldsTrees, with_walk}
use Rattle.aria_key.specs.Inserting.{KeepsHeader, HeaderKept}
use Rattle.aria_key.specs.Thinning.{Reduced}
use Rattle.aria_key.specs.Removing.{IsThere, HasEntry, CanWithdraw, IsReadyToLose, IsRemoved, CanLose, CanRemove}
use Rattle.aria_key.proofs.Filing.{Headed, apart-of}
use Rattle.aria_key.proofs.Cramped.{count-then}
use Rattle.aria_key.proofs.Adding.{headed-set}
use Rattle.aria_key.proofs.Refiled.{less_header, less_same, filed_less}

-- the tree that the entry is taken out of
pub ready_has : (keys count : ℕ) (bodies : ℕ → Option (List ℕ)) (walks : ℕ → List Item) (key root free : ℕ) (entry : List ℕ) (r : IsReadyToLose keys count bodies walks key root free entry) → HasEntry bodies count key root free entry (r.held.levels key) r.held.free (walks key)
ready_has keys count bodies walks key root free entry r = record {
  tree = subst (λ (n : ℕ). IsTreeOf bodies count key n (r.held.levels key) (walks key)) (sym r.root_is) (r.held.file.trees key r.low);
  apart = apart-of keys count bodies r.held.header r.held.levels r.held.free walks key r.held.file r.low;
  chain_is = subst (λ (n : ℕ). IsChain bodies n r.held.free) (sym r.free_is) r.held.file.chain;
  there = r.there;
  few = r.few;
}

pub lose_withdraw : (s : PageState) (file : FileName) (key root free : ℕ) (entry : List ℕ) → CanLose s file key root free entry → CanWithdraw s file key root free entry
lose_withdraw s file key root free entry c = record {
  levels = c.ready.held.levels key;
  chain = c.ready.held.free;
  walk = c.walks key;
  has = ready_has c.keys (s.counts file) (s.bodies file) c.walks key root free entry c.ready;
  room = c.room;
}

module _ (file : FileName) (was mid : Bodies) (keys before count key root free more next : ℕ) (walks : ℕ → List Item) (entry : List ℕ) (r : IsReadyToLose keys before (was file) walks key root free entry)
    (g : Reduced file was mid before count key (r.held.levels key) r.held.free (without_entry entry (walks key)) more next) where
  pub less_there : mid file 0 ≡ Some r.held.header
  less_there = less_header file was mid keys before count key more next r.held.header r.held.levels r.held.free walks (without_entry entry (walks key)) r.held.file g

  -- the file without the entry
  pub removed : (new : Bodies) (now : List ℕ) → Headed key more next r.held.header now (mid file) (new file) → KeepsHeader key r.held.header now → (count ≡ before) ⊎ (next ≡ 0) → IsRemoved keys before count (new file) walks key entry r.held.header
  removed new now h keeps rose = record {
    now = now;
    levels = _;
    free = g.left;
    file = filed_less file was mid new keys before count key more next r.held.header now r.held.levels r.held.free walks (without_entry entry (walks key)) r.held.file r.low g h;
    keeps = keeps;
    rose = by rose;
  }
    where
      by : (count ≡ before) ⊎ (next ≡ 0) → (count ≡ before) ⊎ (free_in now ≡ 0)
      by (inl e) = inl e
      by (inr e) = inr (h.free_is ∙ e)

  -- whose header is as it was
  pub same_removed : more ≡ root → next ≡ free → (count ≡ before) ⊎ (next ≡ 0) → IsRemoved keys before count (mid file) walks key entry r.held.header
  same_removed a b rose =
      removed mid r.held.header (less_same file was mid keys before count key more next r.held.header r.held.levels r.held.free walks (without_entry entry (walks key)) r.held.file g (a ∙ r.root_is) (b ∙ r.free_is)) (inl refl) rose

-- the header was written behind the change of the tree
pub set_removed : {T E : Type 0} (result : Result T E) (old mid new : PageState) (file other : FileName) (keys key root free more next : ℕ) (walks : ℕ → List Item) (entry : List ℕ) → other ≡ file → (r : IsReadyToLose keys (old.counts file) (old.bodies file) walks key root free entry)
    → Reduced file old.bodies mid.bodies (old.counts file) (mid.counts file) key (r.held.levels key) r.held.free (without_entry entry (walks key)) more next → (mid.counts file ≡ old.counts file) ⊎ (next ≡ 0) → key < 8 → more < 256 ^ 4 → next < 256 ^ 4
    → ((header : List ℕ) → mid.bodies other 0 ≡ Some header → OnOk result (SetsHeader other key more next header mid.bodies new.bodies)) → OnOk result (new.counts ≡ with_count other 1 mid.counts)
    → OnOk result (IsRemoved keys (old.counts file) (new.counts file) (new.bodies file) walks key entry r.held.header)
set_removed (Err e) old mid new file other keys key root free more next walks entry same r g rose low a b written counts = tt
set_removed (Ok v) old mid new file other keys key root free more next walks entry same r g rose low a b written counts =
    let there : mid.bodies file 0 ≡ Some r.held.header = less_there file old.bodies mid.bodies keys (old.counts file) (mid.counts file) key root free more next walks entry r g in
    let sets : SetsHeader file key more next r.held.header mid.bodies new.bodies = subst (λ (f : FileName). SetsHeader f key more next r.held.header mid.bodies new.bodies) same (written r.held.header (ap (λ (f : FileName). mid.bodies f 0) same ∙ there)) in
    let grown : new.counts file ≡ mid.counts file = omega (arith, count-then file other 1 mid new same counts, g.are.grows, r.held.file.some) in
    subst (λ (n : ℕ). IsRemoved keys (old.counts file) n (new.bodies file) walks key entry r.held.header) (sym grown)
    (removed file old.bodies mid.bodies keys (old.counts file) (mid.counts file) key root free more next walks entry r g new.bodies (with_root key more (with_free next r.held.header))
    (headed-set file key more next r.held.header mid.bodies new.bodies r.held.file.size low a b sets) (inr (record { root = more; free = next; is = refl })) rose)

-- ---- the header that was read

pub ready_to_lose : (keys count : ℕ) (bodies : ℕ → Option (List ℕ)) (walks : ℕ → List Item) (key root free : ℕ) (entry : List ℕ) → key < keys → HoldsTrees keys count bodies walks → IsThere entry (walks key) → length (walks key) < 16777216
    → ((header : List ℕ) → bodies 0 ≡ Some header → (root ≡ root_in header key) × (free ≡ free_in header)) → IsReadyToLose keys count bodies walks key root free entry
ready_to_lose keys count bodies walks key root free entry low h there few says = record {
  low = low;
  held = h;
  there = there;
  few = few;
  root_is = (says h.header h.file.there).0;
  free_is = (says h.header h.file.there).1;
}

pub remove_lose : (s : PageState) (file : FileName) (key root free : ℕ) (entry : List ℕ) → ((header : List ℕ) → s.bodies file 0 ≡ Some header → (root ≡ root_in header key) × (free ≡ free_in header)) → CanRemove s file key entry → CanLose s file key root free entry
remove_lose s file key root free entry says c = record { keys = c.keys; walks = c.walks; ready = ready_to_lose c.keys (s.counts file) (s.bodies file) c.walks key root free entry c.low c.held c.there c.few says; room = c.room }

pub remove_then : (key : ℕ) (entry : List ℕ) (file other : FileName) (old mid : PageState) → other ≡ file → mid.bodies ≡ old.bodies → mid.counts ≡ old.counts → CanRemove old file key entry → CanRemove mid other key entry
remove_then key entry file other old mid same bodies counts c = record {
  keys = c.keys;
  walks = c.walks;
  low = c.low;
  held = moved (λ b n. HoldsTrees c.keys n b c.walks) c.held;
  there = c.there;
  few = c.few;
  room = moved (λ b n. n + 32 ≤ 2 ^ 31) c.room;
}
  where
    moved : (P : (ℕ → Option (List ℕ)) → ℕ → Type 0) → P (old.bodies file) (old.counts file) → P (mid.bodies other) (mid.counts other)
    moved P h = subst (λ (f : FileName). P (mid.bodies f) (mid.counts f)) (sym same) (subst (λ (n : Counts). P (mid.bodies file) (n file)) (sym counts) (subst (λ (b : Bodies). P (b file) (old.counts file)) (sym bodies) h))

-- what the file holds then
pub removed_trees : (keys count more : ℕ) (bodies : ℕ → Option (List ℕ)) (walks : ℕ → List Item) (key : ℕ) (entry header : List ℕ) → IsRemoved keys count more bodies walks key entry header → HoldsTrees keys more bodies (with_walk key (without_entry entry (walks key)) walks)
removed_trees keys count more bodies walks key entry header h = record { header = h.now; levels = h.levels; free = h.free; file = h.file }

pub removed_header : (keys count more : ℕ) (bodies : ℕ → Option (List ℕ)) (walks : ℕ → List Item) (key : ℕ) (entry header : List ℕ) → IsRemoved keys count more bodies walks key entry header → HeaderKept key count more header bodies
removed_header keys count more bodies walks key entry header h = record { now = h.now; there = h.file.there; keeps = h.keeps; rose = h.rose }

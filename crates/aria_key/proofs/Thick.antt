-- A tree that lost an entry stands where the page that may have too few item bytes has enough, or is the root.
use Rattle.std.proofs.Common.{◌≡◌, ◌≢◌, ℕ, ◌+◌, ◌<◌, ◌≤◌, false, List, [], ◌∷◌, ◌++◌, length, sym, ap, subst, ◌∙◌, arith, length-append, inr}
use Rattle.std.specs.List.{AllByRecursion}
use Rattle.aria_host.specs.declared.file_name.FileName.{FileName}
use Rattle.aria_cache.specs.PageState.{Bodies}
use Rattle.aria_keypage.specs.declared.key_page.TheConstants.{ITEM_BYTES_LOW}
use Rattle.aria_keypage.specs.Item.{Item}
use Rattle.aria_keypage.specs.Content.{Content, item_bytes}
use Rattle.aria_key.specs.declared.path.Passed.{Passed}
use Rattle.aria_key.specs.declared.path.TheConstants.{MAX_LEVELS}
use Rattle.aria_key.specs.Tree.{Placed, Filled, kind_over, is_top, IsOf, Holds, IsTree}
use Rattle.aria_key.specs.Climb.{IsPath, onto}
use Rattle.aria_key.specs.Held.{HasContent}
use Rattle.aria_key.specs.Owned.{times_in}
use Rattle.aria_key.specs.IndexFile.{times_free}
use Rattle.aria_key.specs.Thinning.{FilledBut, Thinned, Reduced}
use Rattle.aria_key.proofs.Lists.{all-at}
use Rattle.aria_key.proofs.Climbing.{closed}
use Rattle.aria_key.proofs.Owning.{times-onto, length-onto, onto-all}
use Rattle.aria_key.proofs.Filing.{has-root}
use Rattle.aria_key.proofs.Moved.{moved_header, moved_as}

-- with page n all pages are full enough
pub filled_whole : (a : List Placed) (p : Placed) (b l : List Placed) (n : ℕ) → l ≡ a ++ p ∷ b → n ≡ length a → FilledBut n l → ITEM_BYTES_LOW ≤ length (item_bytes p.content) → Filled l
filled_whole a p b l n e k f h = subst Filled (sym e) (by a (subst (λ (m : ℕ). FilledBut m (a ++ p ∷ b)) k (subst (FilledBut n) e f)))
  where
    by : (a : List Placed) → FilledBut (length a) (a ++ p ∷ b) → Filled (a ++ p ∷ b)
    by [] f = (h, f)
    by (q ∷ a) f = (f.0, by a f.1)

-- whatever page n is, the others are
pub filled_but : (a : List Placed) (p q : Placed) (b : List Placed) → Filled (a ++ p ∷ b) → FilledBut (length a) (a ++ q ∷ b)
filled_but [] p q b f = f.1
filled_but (r ∷ a) p q b f = (f.0, filled_but a p q b f.1)

-- what is known of the page
pub record IsThinPage (file : FileName) (now : Bodies) (count : ℕ) (page free : ℕ) : Type 0 where
  pub content : Content
  pub held : HasContent (now file) page content
  pub low : page < count
  pub some : 0 < length content.items

nth_held : (file : FileName) (was now : Bodies) (before count key root : ℕ) (levels : List (List Placed)) (chain : List ℕ) (walk : List Item) (path : List Passed) (page free : ℕ) → (t : Thinned file was now before count key root levels chain walk path page free) → HasContent (now file) page t.nth.here.content
nth_held file was now before count key root levels chain walk path page free t =
    let h : Holds (now file) count t.nth.here = all-at (Holds (now file) count) t.nth.before t.nth.here t.nth.behind t.l t.nth.parts t.hold.0 in
    record { body = h.body; there = ap (now file) (sym t.nth.page_is) ∙ h.there; size = h.size; spells = h.spells }

pub thin_page : (file : FileName) (was now : Bodies) (before count key root : ℕ) (levels : List (List Placed)) (chain : List ℕ) (walk : List Item) (path : List Passed) (page free : ℕ) → Thinned file was now before count key root levels chain walk path page free → IsThinPage file now count page free
thin_page file was now before count key root levels chain walk path page free t =
    let h : Holds (now file) count t.nth.here = all-at (Holds (now file) count) t.nth.before t.nth.here t.nth.behind t.l t.nth.parts t.hold.0 in
    let k : IsOf (kind_over t.downs) key t.nth.here = all-at (IsOf (kind_over t.downs) key) t.nth.before t.nth.here t.nth.behind t.l t.nth.parts t.level.kinds in
    record {
      content = t.nth.here.content;
      held = nth_held file was now before count key root levels chain walk path page free t;
      low = omega (arith, h.low, t.nth.page_is);
      some = k.some;
    }

-- the levels are whole
whole : (file : FileName) (was now : Bodies) (before count key root : ℕ) (levels : List (List Placed)) (chain : List ℕ) (walk : List Item) (path : List Passed) (page free : ℕ) → (t : Thinned file was now before count key root levels chain walk path page free) → length levels ≤ MAX_LEVELS
    → (is_top t.ups ≡ false → Filled t.l) → Reduced file was now before count key levels chain walk root free
whole file was now before count key root levels chain walk path page free t few full =
    let grown : List (List Placed) = onto t.ups (t.l ∷ t.downs) in
    let tree : IsTree (now file) count key root grown walk = record {
      some = omega (arith, length-onto t.ups (t.l ∷ t.downs));
      few = omega (arith, length-onto t.ups (t.l ∷ t.downs), t.size, few);
      under = closed key root t.ups t.l t.downs walk t.over t.filled (t.level, full, t.below);
      hold = onto-all (AllByRecursion (Holds (now file) count)) t.ups (t.l ∷ t.downs) t.hold_ups t.hold;
    } in
    let none : times_in 0 t.ups + times_in 0 (t.l ∷ t.downs) + times_free 0 t.left ≡ 0 = moved_header before count levels chain (λ m. times_in m t.ups + times_in m (t.l ∷ t.downs)) t.left t.apart t.are in
    let some : root ≢ 0 = λ e. absurd (omega (arith, none, times-onto 0 t.ups (t.l ∷ t.downs), has-root (now file) count key root grown walk tree, ap (λ (m : ℕ). times_in m grown) e)) in
    record {
      apart = t.apart;
      grown = grown;
      tree = inr (some, tree);
      left = t.left;
      chain_is = t.chain_is;
      are = moved_as before count levels chain (λ m. times_in m t.ups + times_in m (t.l ∷ t.downs)) (λ m. times_in m grown) t.left (λ m. times-onto m t.ups (t.l ∷ t.downs)) t.are;
      rest = t.rest;
    }

-- the page is the root
pub thick_root : (file : FileName) (was now : Bodies) (before count key root : ℕ) (levels : List (List Placed)) (chain : List ℕ) (walk : List Item) (path : List Passed) (page free : ℕ) → path ≡ [] → length levels ≤ MAX_LEVELS → Thinned file was now before count key root levels chain walk path page free
    → Reduced file was now before count key levels chain walk root free
thick_root file was now before count key root levels chain walk path page free e few t = whole file was now before count key root levels chain walk path page free t few (λ top. by t.ups t.way top)
  where
    by : (ups : List (List Placed)) → IsPath ups t.n path → is_top ups ≡ false → Filled t.l
    by [] way top = absurd cc
    by (u ∷ us) (front, last, whole, c, way) top = absurd (omega (arith, ap length e, ap length whole, length-append front (last ∷ [])))

-- it has enough item bytes
pub thick_enough : (file : FileName) (was now : Bodies) (before count key root : ℕ) (levels : List (List Placed)) (chain : List ℕ) (walk : List Item) (path : List Passed) (page free : ℕ) → ((c : Content) → HasContent (now file) page c → ITEM_BYTES_LOW ≤ length (item_bytes c)) → length levels ≤ MAX_LEVELS
    → Thinned file was now before count key root levels chain walk path page free → Reduced file was now before count key levels chain walk root free
thick_enough file was now before count key root levels chain walk path page free enough few t =
    whole file was now before count key root levels chain walk path page free t few (λ top. filled_whole t.nth.before t.nth.here t.nth.behind t.l t.n t.nth.parts t.nth.index (t.but top) (enough t.nth.here.content (nth_held file was now before count key root levels chain walk path page free t)))

-- A page that may have too few item bytes, and the node above it: what a step up begins with.
use Rattle.std.proofs.Common.{◌≡◌, ◌==◌, ◌&&◌, ℕ, ◌+◌, ◌<◌, ◌≤◌, false, List, [], ◌∷◌, ◌++◌, length, refl, sym, ap, subst, ◌∙◌, arith, length-append}
use Rattle.std.specs.Prelude.{Option}
use Rattle.std.proofs.lemmas.Bool.{eq-eqb, ne_eqb}
use Rattle.aria_host.specs.declared.file_name.FileName.{FileName}
use Rattle.aria_host.specs.Folder.{same_file}
use Rattle.aria_host.proofs.Files.{same_file-refl}
use Rattle.aria_cache.specs.PageState.{Bodies}
use Rattle.aria_keypage.specs.Item.{Item}
use Rattle.aria_keypage.specs.Content.{Content}
use Rattle.aria_key.specs.declared.path.Passed.{Passed}
use Rattle.aria_key.specs.Tree.{Placed, items_on, IsLevel, kind_over, is_top, Under, HoldAll}
use Rattle.aria_key.specs.Climb.{above, Over, FilledOver, IsChild, IsPath}
use Rattle.aria_key.specs.Held.{HasContent}
use Rattle.aria_key.specs.Owned.{times_on, times_in}
use Rattle.aria_key.specs.IndexFile.{IsFree, IsChain, times_free}
use Rattle.aria_key.specs.Taking.{AreApart}
use Rattle.aria_key.specs.Thinning.{FilledBut, IsNth, AreMoved, Thinned}
use Rattle.aria_key.proofs.Behind.{same-last}
use Rattle.aria_key.proofs.Owning.{times-append}
use Rattle.aria_key.proofs.Spare.{flag}
use Rattle.aria_key.proofs.Moved.{moved_once}
use Rattle.aria_key.proofs.Beside.{AreBeside}

-- the same as `Thinned`, where there is a node above
pub record IsBeneath (file : FileName) (was now : Bodies) (before count key root : ℕ) (levels : List (List Placed)) (chain : List ℕ) (walk : List Item) (front : List Passed) (last : Passed) (page free : ℕ) : Type 0 where
  pub apart : AreApart before levels chain
  pub u : List Placed
  pub us : List (List Placed)
  pub l : List Placed
  pub downs : List (List Placed)
  pub n : ℕ
  pub over : Over key root (u ∷ us)
  pub filled : FilledOver (u ∷ us)
  pub level : IsLevel (kind_over downs) key (items_on u) l
  pub but : FilledBut n l
  pub below : Under false key (items_on l) downs walk
  pub nth : IsNth l n page
  pub child : IsChild u n last.page last.at
  pub way : IsPath us (length child.before) front
  pub size : length us + 2 + length downs ≤ length levels
  pub hold_ups : HoldAll (now file) count (u ∷ us)
  pub hold : HoldAll (now file) count (l ∷ downs)
  pub left : List ℕ
  pub chain_is : IsChain (now file) free left
  pub are : AreMoved before count levels chain (λ m. times_in m (u ∷ us) + times_in m (l ∷ downs)) left
  pub rest : (m : ℕ) → m < before → times_in m levels + times_free m chain ≡ 0 → now file m ≡ was file m

pub beneath : (file : FileName) (was now : Bodies) (before count key root : ℕ) (levels : List (List Placed)) (chain : List ℕ) (walk : List Item) (path front : List Passed) (last : Passed) (page free : ℕ) → path ≡ front ++ last ∷ [] → Thinned file was now before count key root levels chain walk path page free
    → IsBeneath file was now before count key root levels chain walk front last page free
beneath file was now before count key root levels chain walk path front last page free e t = by t.ups t.over t.filled t.level t.but t.way t.size t.hold_ups t.are
  where
    here : (u : List Placed) (us : List (List Placed)) → Over key root (u ∷ us) → FilledOver (u ∷ us) → IsLevel (kind_over t.downs) key (items_on u) t.l → FilledBut t.n t.l → (c : IsChild u t.n last.page last.at) → IsPath us (length c.before) front → length (u ∷ us) + 1 + length t.downs ≤ length levels
        → HoldAll (now file) count (u ∷ us) → AreMoved before count levels chain (λ m. times_in m (u ∷ us) + times_in m (t.l ∷ t.downs)) t.left → IsBeneath file was now before count key root levels chain walk front last page free
    here u us over filled level but c way size hold are = record {
      apart = t.apart;
      u = u;
      us = us;
      l = t.l;
      downs = t.downs;
      n = t.n;
      over = over;
      filled = filled;
      level = level;
      but = but;
      below = t.below;
      nth = t.nth;
      child = c;
      way = way;
      size = omega (arith, size);
      hold_ups = hold;
      hold = t.hold;
      left = t.left;
      chain_is = t.chain_is;
      are = are;
      rest = t.rest;
    }

    by : (ups : List (List Placed)) → Over key root ups → FilledOver ups → IsLevel (kind_over t.downs) key (above root ups) t.l → (is_top ups ≡ false → FilledBut t.n t.l) → IsPath ups t.n path → length ups + 1 + length t.downs ≤ length levels → HoldAll (now file) count ups
        → AreMoved before count levels chain (λ m. times_in m ups + times_in m (t.l ∷ t.downs)) t.left → IsBeneath file was now before count key root levels chain walk front last page free
    by [] over filled level but way size hold are = absurd (omega (arith, ap length way.0, ap length e, length-append front (last ∷ [])))
    by (u ∷ us) over filled level but (ahead, step, parts, c, way) size hold are =
        let same = same-last front ahead last step (sym e ∙ parts) in
        let there : (d : IsChild u t.n step.page step.at) × IsPath us (length d.before) front = (c, subst (λ (f : List Passed). IsPath us (length c.before) f) (sym same.0) way) in
        let moved = subst (λ (q : Passed). (d : IsChild u t.n q.page q.at) × IsPath us (length d.before) front) (sym same.1) there in
        here u us over filled level (but refl) moved.0 moved.1 size hold are

-- ---- pages that stay

pub flag_one : (m x : ℕ) → m ≡ x → flag (m == x) ≡ 1
flag_one m x e = ap flag (eq-eqb m x e)

pub flag_none : (m x : ℕ) → (m ≡ x → ⊥) → flag (m == x) ≡ 0
flag_none m x e = ap flag (ne_eqb m x e)

-- a page beside three others isn't one of them
pub still_other : (old new : ℕ → Option (List ℕ)) (x y z : ℕ) (others : ℕ → ℕ) → ((m : ℕ) → (m ≡ x → ⊥) → (m ≡ y → ⊥) → (m ≡ z → ⊥) → new m ≡ old m) → ((m : ℕ) → others m + (flag (m == x) + flag (m == y) + flag (m == z)) ≤ 1) → (m : ℕ) → 0 < others m → new m ≡ old m
still_other old new x y z others same once m h =
    same m (λ e. absurd (omega (arith, once m, h, flag_one m x e))) (λ e. absurd (omega (arith, once m, h, flag_one m y e))) (λ e. absurd (omega (arith, once m, h, flag_one m z e)))

-- how often a page is one of the other pages of the tree, or free
abbrev pub others_in : List (List Placed) → List Placed → List Placed → List Placed → List Placed → List (List Placed) → List ℕ → ℕ → ℕ
others_in us c d a b downs left m = times_in m us + (times_on m c + times_on m d) + (times_on m a + times_on m b) + times_in m downs + times_free m left

pub others_once : (file : FileName) (was now : Bodies) (before count key root : ℕ) (levels : List (List Placed)) (chain : List ℕ) (walk : List Item) (front : List Passed) (last : Passed) (page free k : ℕ) → (s : IsBeneath file was now before count key root levels chain walk front last page free)
    → (w : AreBeside s.u s.l s.n last.page last.at k s.child) → (m : ℕ) → others_in s.us s.child.before s.child.behind w.a w.b s.downs s.left m + (flag (m == w.p.page) + flag (m == w.r.page) + flag (m == s.child.here.page)) ≤ 1
others_once file was now before count key root levels chain walk front last page free k s w m =
    let once = moved_once before count levels chain (λ m. times_in m (s.u ∷ s.us) + times_in m (s.l ∷ s.downs)) s.left s.apart s.are m in
    let up : times_on m s.u ≡ times_on m s.child.before + (flag (m == s.child.here.page) + times_on m s.child.behind) = ap (times_on m) s.child.parts ∙ times-append m s.child.before (s.child.here ∷ s.child.behind) in
    let low : times_on m s.l ≡ times_on m w.a + (flag (m == w.p.page) + (flag (m == w.r.page) + times_on m w.b)) = ap (times_on m) w.parts ∙ times-append m w.a (w.p ∷ w.r ∷ w.b) in
    omega (arith, once, up, low)

-- the three are apart
pub record AreThree (x y z : ℕ) : Type 0 where
  pub left : x ≡ y → ⊥
  pub right : y ≡ z → ⊥
  pub outer : x ≡ z → ⊥

pub three_apart : (x y z : ℕ) (others : ℕ → ℕ) → ((m : ℕ) → others m + (flag (m == x) + flag (m == y) + flag (m == z)) ≤ 1) → AreThree x y z
three_apart x y z others once = record {
  left = λ e. absurd (omega (arith, once x, flag_one x x refl, flag_one x y e));
  right = λ e. absurd (omega (arith, once y, flag_one y y refl, flag_one y z e));
  outer = λ e. absurd (omega (arith, once x, flag_one x x refl, flag_one x z e));
}

-- a page whose body stayed holds what it held
pub kept_content : (old new : ℕ → Option (List ℕ)) (page : ℕ) (c : Content) → new page ≡ old page → HasContent old page c → HasContent new page c
kept_content old new page c same h = record { body = h.body; there = same ∙ h.there; size = h.size; spells = h.spells }

pub kept_free : (old new : ℕ → Option (List ℕ)) (page next : ℕ) → new page ≡ old page → IsFree old page next → IsFree new page next
kept_free old new page next same h = record { body = h.body; there = same ∙ h.there; size = h.size; kind = h.kind; next_is = h.next_is }

-- another page than the one that was written
pub not_page : (file : FileName) (page m : ℕ) → (m ≡ page → ⊥) → (same_file file file && (page == m)) ≡ false
not_page file page m apart = λ i. same_file-refl file i && ne_eqb page m (λ e. apart (sym e)) i

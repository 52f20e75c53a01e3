-- One level of the way up, levels and pages together: the page above takes the name that is owed, or is divided for it.
use Rattle.std.proofs.Common.{◌≡◌, ℕ, ◌+◌, ◌<◌, ◌≤◌, Bool, false, cond, List, [], ◌∷◌, ◌++◌, length, refl, sym, ap, subst, ◌∙◌, arith}
use Rattle.std.specs.List.{AllByRecursion}
use Rattle.std.proofs.lemmas.Bool.{eq-eqb}
use Rattle.aria_host.specs.declared.file_name.FileName.{FileName}
use Rattle.aria_cache.specs.PageState.{Bodies}
use Rattle.aria_keypage.specs.declared.key_page.TheConstants.{ITEM_BYTES_MAX, ITEM_BYTES_LOW}
use Rattle.aria_keypage.specs.declared.kind.Kind.TheVariants.{Node}
use Rattle.aria_keypage.specs.Item.{Item}
use Rattle.aria_keypage.specs.Content.{item_bytes}
use Rattle.aria_keypage.specs.Change.{with_item, node_of_one}
use Rattle.aria_keypage.proofs.Sizes.{with_item-longer, halves-least}
use Rattle.aria_key.specs.declared.path.TheConstants.{MAX_LEVELS}
use Rattle.aria_key.specs.Tree.{Placed, name_of, names, Rising, IsLevel, Filled, kind_over, is_top, Holds, IsTree, HasTree}
use Rattle.aria_key.specs.Climb.{above, FilledOver, IsChild, onto}
use Rattle.aria_key.specs.Held.{left_with, right_with, Rewritten, IsPutInHalf}
use Rattle.aria_key.specs.Owned.{times_on, times_in}
use Rattle.aria_key.specs.Standing.{Standing}
use Rattle.aria_key.proofs.Lists.{all-append, all-left, all-right}
use Rattle.aria_key.proofs.Climbing.{closed, names-rise, belongs, node-fits, filled-instead, pay, new-root}
use Rattle.aria_key.proofs.Dividing.{holding, right_of, Fits}
use Rattle.aria_key.proofs.Filling.{fits-most, halves-filled, level-filled}
use Rattle.aria_key.proofs.Owning.{times-append, length-onto, onto-all, off-level, off-levels, frame, frame-levels, written}
use Rattle.aria_key.proofs.Starting.{some-right}
use Rattle.aria_key.proofs.Upward.{halved, upward}

-- the page above is divided, and the next level up owes a name
pub climbed : (file : FileName) (old new : Bodies) (count more key root : ℕ) (u l : List Placed) (us downs : List (List Placed)) (walk : List Item) (n page at fresh : ℕ) (x : Item) (between : List ℕ) → Standing (old file) count key root (u ∷ us) l downs walk n x → FilledOver (u ∷ us) → (c : IsChild u n page at)
    → (h : IsPutInHalf file page fresh c.here.content at x between old new) → count ≤ more → fresh < more → times_in fresh (u ∷ us) + times_in fresh (l ∷ downs) ≡ 0 → length x.entry ≤ 1000 → ITEM_BYTES_MAX < length (item_bytes (with_item c.here.content at x))
    → Standing (new file) more key root us (halved c.before c.here h.k fresh (left_with c.here.content h.k at x) (right_with c.here.content h.k at x) c.behind) (l ∷ downs) walk (length c.before) (name_of (right_of c.here h.k fresh))
climbed file old new count more key root u l us downs walk n page at fresh x between s filled c h grows low unused short full =
    let p : Placed = c.here in
    let o = s.owes in
    let w = belongs key n page at o.front o.y o.back u (above root us) o.over.0 c o.old o.index in
    let rises : Rising (o.front ++ o.y ∷ x ∷ o.back) = subst Rising o.named (names-rise (kind_over downs) key (names l) l o.under.0) in
    let level : IsLevel Node key (above root us) (c.before ++ p ∷ c.behind) = subst (IsLevel Node key (above root us)) c.parts o.over.0 in
    let fits : Fits p at x c.behind = node-fits key (above root us) o.front o.y x o.back c.before c.behind p at level w rises in
    let least = halves-least p.content h.k h.sizes (omega (arith, fits-most p at x c.behind fits c.within short, full)) in
    let q : Placed = holding p (left_with p.content h.k at x) in
    let r : Placed = holding (right_of p h.k fresh) (right_with p.content h.k at x) in
    let enough : Filled (c.before ++ q ∷ r ∷ c.behind) =
    level-filled root us c.before c.behind p (q ∷ r ∷ []) level.named (λ e. subst Filled c.parts (filled.0 e)) (halves-filled p at h.k fresh x c.behind fits c.within short h.sizes full) in
    upward file old new count more key root u l us downs walk n page at fresh x between s c h grows low unused (some-right p.content h.k least.1) enough

-- the page above has room, and the tree is whole
pub paid-tree : (file : FileName) (old new : Bodies) (count more key root : ℕ) (u l : List Placed) (us downs : List (List Placed)) (walk : List Item) (n page at : ℕ) (x : Item) → Standing (old file) count key root (u ∷ us) l downs walk n x → FilledOver (u ∷ us) → (c : IsChild u n page at)
    → Rewritten file page (with_item c.here.content at x) old new → count ≤ more → length us + 2 + length downs ≤ MAX_LEVELS
    → IsTree (new file) more key root (onto us ((c.before ++ holding c.here (with_item c.here.content at x) ∷ c.behind) ∷ l ∷ downs)) walk
paid-tree file old new count more key root u l us downs walk n page at x s filled c w grows few =
    let a : List Placed = c.before in
    let b : List Placed = c.behind in
    let p : Placed = c.here in
    let q : Placed = holding p (with_item p.content at x) in
    let v : List Placed = a ++ q ∷ b in
    let enough : is_top us ≡ false → Filled v = λ e.
    let was : Filled (a ++ p ∷ b) = subst Filled c.parts (filled.0 e) in
    filled-instead a b p (q ∷ []) was (omega (arith, with_item-longer p.content at x c.within, (all-right (λ r. ITEM_BYTES_LOW ≤ length (item_bytes r.content)) a (p ∷ b) was).0), tt) in
    let done = pay key root u l us downs walk n page at x s.owes c enough in
    let here : Rewritten file p.page (with_item p.content at x) old new = subst (λ (m : ℕ). Rewritten file m (with_item p.content at x) old new) (sym c.page_is) w in
    let parts = λ (m : ℕ). ap (times_on m) c.parts ∙ times-append m a (p ∷ b) in
    let self : times_on p.page (p ∷ b) ≡ 1 + times_on p.page b = ap (λ (t : Bool). cond t 1 0 + times_on p.page b) (eq-eqb p.page p.page refl) in
    let one = s.once p.page in
    let held : AllByRecursion (Holds (old file) count) (a ++ p ∷ b) = subst (AllByRecursion (Holds (old file) count)) c.parts s.hold_ups.0 in
    record {
      some = omega (arith, length-onto us (v ∷ l ∷ downs));
      few = omega (arith, length-onto us (v ∷ l ∷ downs), few);
      under = closed key root us v (l ∷ downs) walk done.over done.filled done.under;
      hold = onto-all (AllByRecursion (Holds (new file) more)) us (v ∷ l ∷ downs)
          (frame-levels file p.page (with_item p.content at x) old new count more us here grows (off-levels p.page us (omega (arith, one, parts p.page, self))) s.hold_ups.1) (
            all-append (Holds (new file) more) a (q ∷ b)
                (frame file p.page (with_item p.content at x) old new count more a here grows (off-level p.page a (omega (arith, one, parts p.page, self))) (all-left (Holds (old file) count) a (p ∷ b) held)) (
                  written file (with_item p.content at x) old new count more p here grows (all-right (Holds (old file) count) a (p ∷ b) held).0,
                  frame file p.page (with_item p.content at x) old new count more b here grows (off-level p.page b (omega (arith, one, parts p.page, self))) (all-right (Holds (old file) count) a (p ∷ b) held).1,
                ),
            frame-levels file p.page (with_item p.content at x) old new count more (l ∷ downs) here grows (off-levels p.page (l ∷ downs) (omega (arith, one, parts p.page, self))) s.hold,
          );
    }

pub paid : (file : FileName) (old new : Bodies) (count more key root : ℕ) (u l : List Placed) (us downs : List (List Placed)) (walk : List Item) (n page at : ℕ) (x : Item) → Standing (old file) count key root (u ∷ us) l downs walk n x → FilledOver (u ∷ us) → (c : IsChild u n page at)
    → Rewritten file page (with_item c.here.content at x) old new → count ≤ more → length us + 2 + length downs ≤ MAX_LEVELS → HasTree (new file) more key root walk
paid file old new count more key root u l us downs walk n page at x s filled c w grows few = record { levels = _; tree = paid-tree file old new count more key root u l us downs walk n page at x s filled c w grows few }

-- a new root names both pages of the level that was the root, and the tree is whole
pub rooted-tree : (file : FileName) (old new : Bodies) (count more key root fresh : ℕ) (l : List Placed) (downs : List (List Placed)) (walk : List Item) (n : ℕ) (x : Item) → Standing (old file) count key root [] l downs walk n x → Rewritten file fresh (node_of_one key root x) old new → count ≤ more → fresh < more
    → times_in fresh (l ∷ downs) ≡ 0 → 2 + length downs ≤ MAX_LEVELS → IsTree (new file) more key fresh ((record { low = []; page = fresh; content = node_of_one key root x } ∷ []) ∷ l ∷ downs) walk
rooted-tree file old new count more key root fresh l downs walk n x s w grows low unused few = record {
  some = omega arith;
  few = omega (arith, few);
  under = new-root key root fresh l downs walk n x s.owes;
  hold = (
    (record { low = low; body = w.here.body; there = w.here.there; size = w.here.size; spells = w.here.spells }, tt),
    frame-levels file fresh (node_of_one key root x) old new count more (l ∷ downs) w grows (off-levels fresh (l ∷ downs) (omega (arith, unused))) s.hold,
  );
}

pub rooted : (file : FileName) (old new : Bodies) (count more key root fresh : ℕ) (l : List Placed) (downs : List (List Placed)) (walk : List Item) (n : ℕ) (x : Item) → Standing (old file) count key root [] l downs walk n x → Rewritten file fresh (node_of_one key root x) old new → count ≤ more → fresh < more
    → times_in fresh (l ∷ downs) ≡ 0 → 2 + length downs ≤ MAX_LEVELS → HasTree (new file) more key fresh walk
rooted file old new count more key root fresh l downs walk n x s w grows low unused few = record { levels = _; tree = rooted-tree file old new count more key root fresh l downs walk n x s w grows low unused few }

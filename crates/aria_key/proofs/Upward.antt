-- One level of the way up, where the page above has to be divided too: levels and pages together.
use Rattle.std.proofs.Common.{◌≡◌, ◌==◌, ◌&&◌, ℕ, ◌+◌, ◌<◌, ◌≤◌, Bool, true, false, cond, List, [], ◌∷◌, ◌++◌, length, refl, sym, ap, subst, ◌∙◌, arith, nat_le}
use Rattle.std.specs.List.{AllByRecursion}
use Rattle.std.proofs.lemmas.Bool.{eq-eqb, eqb-true}
use Rattle.std.proofs.lemmas.Bool.Decides.{nat_tests}
use Rattle.aria_host.specs.declared.file_name.FileName.{FileName}
use Rattle.aria_host.specs.Folder.{same_file}
use Rattle.aria_host.proofs.Files.{same_file-refl}
use Rattle.aria_cache.specs.PageState.{Bodies}
use Rattle.aria_keypage.specs.Item.{Item}
use Rattle.aria_keypage.specs.Change.{with_item}
use Rattle.aria_keypage.specs.Content.{Content}
use Rattle.aria_keypage.specs.Split.{left_half, right_half}
use Rattle.aria_key.specs.Tree.{Placed, name_of, Filled, Holds, HoldAll}
use Rattle.aria_key.specs.Step.{in_right}
use Rattle.aria_key.specs.Climb.{IsChild, Owes}
use Rattle.aria_key.specs.Held.{left_with, right_with, IsPutInHalf}
use Rattle.aria_key.specs.Owned.{times_on, times_in}
use Rattle.aria_key.specs.Standing.{Standing}
use Rattle.aria_key.proofs.Lists.{all-append, all-left, all-right}
use Rattle.aria_key.proofs.Dividing.{holding, right_of}
use Rattle.aria_key.proofs.Climbing.{climb-left, climb-right}
use Rattle.aria_key.proofs.Owning.{times-append, IsOff, off-level, off-levels}

-- the level with both halves
abbrev pub halved : List Placed → Placed → ℕ → ℕ → Content → Content → List Placed → List Placed
halved a p k fresh cl cr b = a ++ holding p cl ∷ holding (right_of p k fresh) cr ∷ b

pub climb-either : (key root : ℕ) (u l : List Placed) (us downs : List (List Placed)) (walk : List Item) (n page at k fresh : ℕ) (x : Item) → Owes key root (u ∷ us) l downs walk n x → (c : IsChild u n page at)
    → 0 < k → k < length c.here.content.items → 0 < length (right_half c.here.content k).items
    → Filled (halved c.before c.here k fresh (left_with c.here.content k at x) (right_with c.here.content k at x) c.behind)
    → Owes key root us (halved c.before c.here k fresh (left_with c.here.content k at x) (right_with c.here.content k at x) c.behind) (l ∷ downs) walk (length c.before) (name_of (right_of c.here k fresh))
climb-either key root u l us downs walk n page at k fresh x o c some low right filled = by (nat_le at k) refl filled
  where
    d : Content
    d = c.here.content

    by : (b : Bool) → nat_le at k ≡ b → Filled (halved c.before c.here k fresh (cond b (with_item (left_half d k) at x) (left_half d k)) (cond b (right_half d k) (with_item (right_half d k) (in_right d.kind k at) x)) c.behind)
        → Owes key root us (halved c.before c.here k fresh (cond b (with_item (left_half d k) at x) (left_half d k)) (cond b (right_half d k) (with_item (right_half d k) (in_right d.kind k at) x)) c.behind) (l ∷ downs) walk (length c.before) (name_of (right_of c.here k fresh))
    by true e f = let le : at ≤ k = grind (arith, nat_tests) in climb-left key root u l us downs walk n page at k fresh x o c some low right le f
    by false e f = let gt : k < at = grind (arith, nat_tests) in climb-right key root u l us downs walk n page at k fresh x o c some low right gt f

-- pages that were not written hold what they held
pub frame-two : (file : FileName) (page fresh : ℕ) (old new : Bodies) (count more : ℕ) (l : List Placed) → ((f : FileName) (n : ℕ) → (same_file file f && (page == n)) ≡ false → (same_file file f && (fresh == n)) ≡ false → new f n ≡ old f n) → count ≤ more
    → IsOff page l → IsOff fresh l → AllByRecursion (Holds (old file) count) l → AllByRecursion (Holds (new file) more) l
frame-two file page fresh old new count more [] w h off out k = tt
frame-two file page fresh old new count more (p ∷ l) w h off out k =
    let one : (same_file file file && (page == p.page)) ≡ false = (λ i. same_file-refl file i && off.0 i) in
    let two : (same_file file file && (fresh == p.page)) ≡ false = (λ i. same_file-refl file i && out.0 i) in
    (record { low = omega (arith, k.0.low); body = k.0.body; there = w file p.page one two ∙ k.0.there; size = k.0.size; spells = k.0.spells }, frame-two file page fresh old new count more l w h off.1 out.1 k.1)

pub frame-all : (file : FileName) (page fresh : ℕ) (old new : Bodies) (count more : ℕ) (ls : List (List Placed)) → ((f : FileName) (n : ℕ) → (same_file file f && (page == n)) ≡ false → (same_file file f && (fresh == n)) ≡ false → new f n ≡ old f n) → count ≤ more
    → AllByRecursion (IsOff page) ls → AllByRecursion (IsOff fresh) ls → HoldAll (old file) count ls → HoldAll (new file) more ls
frame-all file page fresh old new count more [] w h off out k = tt
frame-all file page fresh old new count more (l ∷ ls) w h off out k = (frame-two file page fresh old new count more l w h off.0 out.0 k.0, frame-all file page fresh old new count more ls w h off.1 out.1 k.1)

-- one level up
pub upward : (file : FileName) (old new : Bodies) (count more key root : ℕ) (u l : List Placed) (us downs : List (List Placed)) (walk : List Item) (n page at fresh : ℕ) (x : Item) (between : List ℕ) → Standing (old file) count key root (u ∷ us) l downs walk n x → (c : IsChild u n page at)
    → (h : IsPutInHalf file page fresh c.here.content at x between old new) → count ≤ more → fresh < more → times_in fresh (u ∷ us) + times_in fresh (l ∷ downs) ≡ 0 → 0 < length (right_half c.here.content h.k).items
    → Filled (halved c.before c.here h.k fresh (left_with c.here.content h.k at x) (right_with c.here.content h.k at x) c.behind)
    → Standing (new file) more key root us (halved c.before c.here h.k fresh (left_with c.here.content h.k at x) (right_with c.here.content h.k at x) c.behind) (l ∷ downs) walk (length c.before) (name_of (right_of c.here h.k fresh))
upward file old new count more key root u l us downs walk n page at fresh x between s c h grows low unused some filled =
    let a : List Placed = c.before in
    let b : List Placed = c.behind in
    let p : Placed = c.here in
    let parts = λ (m : ℕ). ap (times_on m) c.parts ∙ times-append m a (p ∷ b) in
    let self : times_on page (p ∷ b) ≡ 1 + times_on page b = ap (λ (t : Bool). cond t 1 0 + times_on page b) (eq-eqb page p.page (sym c.page_is)) in
    let own = λ (m : ℕ). times-append m a (holding p (left_with p.content h.k at x) ∷ holding (right_of p h.k fresh) (right_with p.content h.k at x) ∷ b) in
    let held : AllByRecursion (Holds (old file) count) (a ++ p ∷ b) = subst (AllByRecursion (Holds (old file) count)) c.parts s.hold_ups.0 in
    record {
      owes = climb-either key root u l us downs walk n page at h.k fresh x s.owes c h.sizes.some h.sizes.more some filled;
      hold_ups = frame-all file page fresh old new count more us h.other grows (off-levels page us (omega (arith, s.once page, parts page, self))) (off-levels fresh us (omega (arith, unused))) s.hold_ups.1;
      hold = (
        all-append (Holds (new file) more) a (holding p (left_with p.content h.k at x) ∷ holding (right_of p h.k fresh) (right_with p.content h.k at x) ∷ b)
            (frame-two file page fresh old new count more a h.other grows (off-level page a (omega (arith, s.once page, parts page, self))) (off-level fresh a (omega (arith, unused, parts fresh))) (all-left (Holds (old file) count) a (p ∷ b) held)) (
              record { low = omega (arith, (all-right (Holds (old file) count) a (p ∷ b) held).0.low); body = h.left.body; there = ap (new file) c.page_is ∙ h.left.there; size = h.left.size; spells = h.left.spells },
              (
                record { low = low; body = h.right.body; there = h.right.there; size = h.right.size; spells = h.right.spells },
                frame-two file page fresh old new count more b h.other grows (off-level page b (omega (arith, s.once page, parts page, self))) (off-level fresh b (omega (arith, unused, parts fresh))) (all-right (Holds (old file) count) a (p ∷ b) held).1,
              ),
            ),
        frame-all file page fresh old new count more (l ∷ downs) h.other grows (off-levels page (l ∷ downs) (omega (arith, s.once page, parts page, self))) (off-levels fresh (l ∷ downs) (omega (arith, unused))) s.hold,
      );
      once = λ m. by m (m == fresh) refl (parts m) (own m) (s.once m);
    }
  where
    number : {s t : Bool} → s ≡ t → cond s 1 0 + 0 ≡ cond t 1 0 + 0
    number e = ap (λ (t : Bool). cond t 1 0 + 0) e

    by : (m : ℕ) (r : Bool) → (m == fresh) ≡ r → times_on m u ≡ times_on m c.before + times_on m (c.here ∷ c.behind)
        → times_on m (halved c.before c.here h.k fresh (left_with c.here.content h.k at x) (right_with c.here.content h.k at x) c.behind) ≡ times_on m c.before + (cond (m == c.here.page) 1 0 + (cond (m == fresh) 1 0 + times_on m c.behind))
        → times_in m (u ∷ us) + times_in m (l ∷ downs) ≤ 1
        → times_in m us + times_in m (halved c.before c.here h.k fresh (left_with c.here.content h.k at x) (right_with c.here.content h.k at x) c.behind ∷ l ∷ downs) ≤ 1
    by m true e parts own once =
        let none : times_in m (u ∷ us) + times_in m (l ∷ downs) ≡ 0 = subst (λ (k : ℕ). times_in k (u ∷ us) + times_in k (l ∷ downs) ≡ 0) (sym (eqb-true m fresh e)) unused in
        omega (arith, none, parts, own, number e)
    by m false e parts own once = omega (arith, once, parts, own, number e)

-- The pages of a tree apart from each other, and what they hold after one of them was written.
use Rattle.std.proofs.Common.{◌≡◌, ◌==◌, ◌&&◌, ℕ, ◌+◌, ◌≤◌, Bool, true, false, cond, List, [], ◌∷◌, ◌++◌, length, refl, ap, ◌∙◌, arith}
use Rattle.std.specs.List.{AllByRecursion}
use Rattle.aria_host.specs.declared.file_name.FileName.{FileName}
use Rattle.aria_host.specs.Folder.{same_file}
use Rattle.aria_host.proofs.Files.{same_file-refl}
use Rattle.aria_cache.specs.PageState.{Bodies}
use Rattle.aria_keypage.specs.Item.{Item, is_below}
use Rattle.aria_keypage.specs.Content.{Content}
use Rattle.aria_key.specs.Tree.{Placed, Rising, Holds, HoldAll}
use Rattle.aria_key.specs.Climb.{onto}
use Rattle.aria_key.specs.Held.{Rewritten}
use Rattle.aria_key.specs.Owned.{times_on, times_in, with_entry}
use Rattle.aria_key.proofs.Lists.{all-right}
use Rattle.aria_key.proofs.Order.{not-back}

pub times-append : (n : ℕ) (a b : List Placed) → times_on n (a ++ b) ≡ times_on n a + times_on n b
times-append n [] b = omega arith
times-append n (p ∷ a) b = omega (arith, times-append n a b)

pub times-onto : (n : ℕ) (us ds : List (List Placed)) → times_in n (onto us ds) ≡ times_in n us + times_in n ds
times-onto n [] ds = omega arith
times-onto n (u ∷ us) ds = omega (arith, times-onto n us (u ∷ ds))

pub length-onto : (us ds : List (List Placed)) → length (onto us ds) ≡ length us + length ds
length-onto [] ds = omega arith
length-onto (u ∷ us) ds = omega (arith, length-onto us (u ∷ ds))

pub all-onto : (P : List Placed → Type 0) (us ds : List (List Placed)) → AllByRecursion P (onto us ds) → AllByRecursion P us × AllByRecursion P ds
all-onto P [] ds h = (tt, h)
all-onto P (u ∷ us) ds h = let k = all-onto P us (u ∷ ds) h in ((k.1.0, k.0), k.1.1)

pub onto-all : (P : List Placed → Type 0) (us ds : List (List Placed)) → AllByRecursion P us → AllByRecursion P ds → AllByRecursion P (onto us ds)
onto-all P [] ds h k = k
onto-all P (u ∷ us) ds h k = onto-all P us (u ∷ ds) h.1 (h.0, k)

-- page n is none of a level's
abbrev pub IsOff : ℕ → List Placed → Type 0
IsOff n l = AllByRecursion (λ p. (n == p.page) ≡ false) l

pub off-level : (n : ℕ) (l : List Placed) → times_on n l ≡ 0 → IsOff n l
off-level n [] e = tt
off-level n (p ∷ l) e = by (n == p.page) refl (off-level n l)
  where
    by : (b : Bool) → (n == p.page) ≡ b → (times_on n l ≡ 0 → IsOff n l) → IsOff n (p ∷ l)
    by true t more = absurd (omega (arith, ap (λ (b : Bool). cond b 1 0 + times_on n l) t, e))
    by false t more = (t, more (omega (arith, e)))

pub off-levels : (n : ℕ) (ls : List (List Placed)) → times_in n ls ≡ 0 → AllByRecursion (IsOff n) ls
off-levels n [] e = tt
off-levels n (l ∷ ls) e = (off-level n l (omega (arith, e)), off-levels n ls (omega (arith, e)))

-- the other pages hold what they held
pub frame : (file : FileName) (page : ℕ) (c : Content) (old new : Bodies) (count more : ℕ) (l : List Placed) → Rewritten file page c old new → count ≤ more → IsOff page l → AllByRecursion (Holds (old file) count) l → AllByRecursion (Holds (new file) more) l
frame file page c old new count more [] w h off k = tt
frame file page c old new count more (p ∷ l) w h off k =
    let test : (same_file file file && (page == p.page)) ≡ false = (λ i. same_file-refl file i && off.0 i) in
    (record { low = omega (arith, k.0.low); body = k.0.body; there = w.other file p.page test ∙ k.0.there; size = k.0.size; spells = k.0.spells }, frame file page c old new count more l w h off.1 k.1)

pub frame-levels : (file : FileName) (page : ℕ) (c : Content) (old new : Bodies) (count more : ℕ) (ls : List (List Placed)) → Rewritten file page c old new → count ≤ more → AllByRecursion (IsOff page) ls → HoldAll (old file) count ls → HoldAll (new file) more ls
frame-levels file page c old new count more [] w h off k = tt
frame-levels file page c old new count more (l ∷ ls) w h off k = (frame file page c old new count more l w h off.0 k.0, frame-levels file page c old new count more ls w h off.1 k.1)

-- the page that was written holds its new content
pub written : (file : FileName) (c : Content) (old new : Bodies) (count more : ℕ) (p : Placed) → Rewritten file p.page c old new → count ≤ more → Holds (old file) count p → Holds (new file) more (record { low = p.low; page = p.page; content = c })
written file c old new count more p w h k = record { low = omega (arith, k.low); body = w.here.body; there = w.here.there; size = w.here.size; spells = w.here.spells }

-- an entry goes to its place
pub with-entry-at : (x : Item) (front back : List Item) → Rising (front ++ x ∷ back) → with_entry x (front ++ back) ≡ front ++ x ∷ back
with-entry-at x [] [] r = refl
with-entry-at x [] (y ∷ back) r = ap (λ (b : Bool). cond b (y ∷ with_entry x back) (x ∷ y ∷ back)) (not-back x.entry y.entry r.0.0)
with-entry-at x (y ∷ front) back r =
    ap (λ (b : Bool). cond b (y ∷ with_entry x (front ++ back)) (x ∷ y ∷ (front ++ back))) (all-right (λ z. is_below y.entry z.entry ≡ true) front (x ∷ back) r.0).0
    ∙ ap (λ (m : List Item). y ∷ m) (with-entry-at x front back r.1)

-- An index file after the tree of one key lost an entry.
use Rattle.std.proofs.Common.{◌≡◌, ◌==◌, ℕ, ◌+◌, ◌<◌, Bool, true, false, cond, List, refl, sym, ap, subst, ◌∙◌, arith, inl, inr}
use Rattle.std.specs.Prelude.{Some, nat_lt, ◌&&◌, ◌≤◌}
use Rattle.std.proofs.lemmas.Bool.{cases_lt, eqb-true, eqb-false}
use Rattle.std.proofs.lemmas.Bool.Decides.{nat_tests}
use Rattle.aria_host.specs.declared.file_name.FileName.{FileName}
use Rattle.aria_cache.specs.PageState.{Bodies}
use Rattle.aria_keypage.specs.Item.{Item}
use Rattle.aria_key.specs.Tree.{Placed}
use Rattle.aria_key.specs.Owned.{times_in}
use Rattle.aria_key.specs.IndexFile.{root_in, free_in, IsChain, IsTreeOf, times_free, times_all, IsIndexFile, with_walk}
use Rattle.aria_key.specs.Thinning.{Reduced}
use Rattle.aria_key.proofs.Spare.{flag, chain-still}
use Rattle.aria_key.proofs.Filing.{tree_of-still, with_levels, part-of-all, parts-of-all, change-all, more-pages, Headed}
use Rattle.aria_key.proofs.Moved.{moved_header}

-- the header is as it was, as long as it wasn't written
pub less_header : (file : FileName) (was mid : Bodies) (keys before count key root free : ℕ) (header : List ℕ) (levels : ℕ → List (List Placed)) (chain : List ℕ) (walks : ℕ → List Item) (walk : List Item) → IsIndexFile keys before (was file) header levels chain walks
    → Reduced file was mid before count key (levels key) chain walk root free → mid file 0 ≡ Some header
less_header file was mid keys before count key root free header levels chain walks walk f g = g.rest 0 f.some g.apart.header ∙ f.there

-- nothing was changed in it
pub less_same : (file : FileName) (was mid : Bodies) (keys before count key root free : ℕ) (header : List ℕ) (levels : ℕ → List (List Placed)) (chain : List ℕ) (walks : ℕ → List Item) (walk : List Item) → IsIndexFile keys before (was file) header levels chain walks
    → Reduced file was mid before count key (levels key) chain walk root free → root ≡ root_in header key → free ≡ free_in header → Headed key root free header header (mid file) (mid file)
less_same file was mid keys before count key root free header levels chain walks walk f g same also = record {
  here = less_header file was mid keys before count key root free header levels chain walks walk f g;
  size = f.size;
  root_is = sym same;
  others = λ k apart few. refl;
  free_is = sym also;
  same = λ n some. refl;
}

-- the whole file
pub filed_less : (file : FileName) (was mid new : Bodies) (keys before count key root free : ℕ) (header now : List ℕ) (levels : ℕ → List (List Placed)) (chain : List ℕ) (walks : ℕ → List Item) (walk : List Item) → IsIndexFile keys before (was file) header levels chain walks → key < keys
    → (g : Reduced file was mid before count key (levels key) chain walk root free) → Headed key root free header now (mid file) (new file) → IsIndexFile keys count (new file) now (with_levels key g.grown levels) g.left (with_walk key walk walks)
filed_less file was mid new keys before count key root free header now levels chain walks walk f low g h = record {
  there = h.here;
  size = h.size;
  some = omega (arith, f.some, g.are.grows);
  few = f.few;
  trees = trees;
  chain = subst (λ (m : ℕ). IsChain (new file) m g.left) (sym h.free_is) (chain-still (mid file) (new file) free g.left (λ n k. h.same n (λ e. none-left n e k)) g.chain_is);
  once = λ n. omega (arith, f.once n, g.are.times n, change-all n key keys g.grown levels low, more-pages before count n f.some g.are.grows);
}
  where
    header-off : times_in 0 g.grown + times_free 0 g.left ≡ 0
    header-off = moved_header before count (levels key) chain (λ m. times_in m g.grown) g.left g.apart g.are

    none-left : (n : ℕ) → n ≡ 0 → 0 < times_free n g.left → ⊥
    none-left n e k = absurd (omega (arith, header-off, ap (λ (m : ℕ). times_free m g.left) e, k))

    none-grown : (n : ℕ) → n ≡ 0 → 0 < times_in n g.grown → ⊥
    none-grown n e k = absurd (omega (arith, header-off, ap (λ (m : ℕ). times_in m g.grown) e, k))

    other-still : (k : ℕ) → k < keys → (key ≡ k → ⊥) → (n : ℕ) → 0 < times_in n (levels k) → new file n ≡ was file n
    other-still k there apart n some =
        let two = parts-of-all n key k keys levels low there apart in
        let whole = f.once n in
        h.same n (λ e. absurd (omega (arith, part-of-all n k keys levels there, f.once 0, ap (λ (m : ℕ). times_all m keys levels) e, some)))
        ∙ g.rest n (inside n some) (omega (arith, two, whole, some, at-most n))
      where
        at-most : (n : ℕ) → flag (nat_lt 0 n && nat_lt n before) ≤ 1
        at-most n = by (nat_lt 0 n && nat_lt n before)
          where
            by : (b : Bool) → flag b ≤ 1
            by true = omega arith
            by false = omega arith

        over : (n : ℕ) → before ≤ n → flag (nat_lt 0 n && nat_lt n before) ≡ 0
        over n h =
            let t : nat_lt n before ≡ false = grind (arith, nat_tests) in
            ap (λ (b : Bool). flag (nat_lt 0 n && b)) t ∙ by (nat_lt 0 n)
          where
            by : (b : Bool) → flag (b && false) ≡ flag false
            by true = refl
            by false = refl

        inside : (n : ℕ) → 0 < times_in n (levels k) → n < before
        inside n some = elim (cases_lt n before) as (λ _. n < before) [
          | inl lt ↦ lt
          | inr ge ↦ absurd (omega (arith, part-of-all n k keys levels there, f.once n, some, over n (omega (arith, ge))))
        ]

    trees : (k : ℕ) → k < keys → IsTreeOf (new file) count k (root_in now k) (with_levels key g.grown levels k) (with_walk key walk walks k)
    trees k there = by (key == k) refl
      where
        by : (b : Bool) → (key == k) ≡ b → IsTreeOf (new file) count k (root_in now k) (cond b g.grown (levels k)) (cond b walk (walks k))
        by true e =
            let same : key ≡ k = eqb-true key k e in
            let mine : IsTreeOf (new file) count key root g.grown walk = tree_of-still (mid file) (new file) count count key root g.grown walk (omega arith) (λ n some. h.same n (λ e. none-grown n e some)) g.tree in
            subst (λ (m : ℕ). IsTreeOf (new file) count m (root_in now m) g.grown walk) same (subst (λ (r : ℕ). IsTreeOf (new file) count key r g.grown walk) (sym h.root_is) mine)
        by false e =
            let apart : key ≡ k → ⊥ = eqb-false key k e in
            subst (λ (r : ℕ). IsTreeOf (new file) count k r (levels k) (walks k)) (sym (h.others k apart (omega (arith, there, f.few)))) (tree_of-still (was file) (new file) before count k (root_in header k) (levels k) (walks k) g.are.grows (other-still k there apart) (f.trees k there))

-- An index file after the tree of one key was changed.
use Rattle.std.proofs.Common.{◌≡◌, ◌≢◌, ◌==◌, ◌&&◌, ◌⊎◌, inl, inr, ℕ, zero, suc, ◌+◌, ◌*◌, ◌<◌, ◌≤◌, ◌^◌, Bool, true, false, cond, List, [], ◌∷◌, length, drop, refl, sym, ap, subst, ◌∙◌, arith}
use Rattle.std.specs.Prelude.{Option, Some, nat_lt}
use Rattle.std.specs.List.{AllByRecursion}
use Rattle.std.proofs.lemmas.Bool.{cases_lt, eq-eqb, ne_eqb, eqb-true, eqb-false}
use Rattle.std.proofs.lemmas.Bool.Decides.{nat_tests}
use Rattle.std.proofs.lemmas.List.{drop-take}
use Rattle.aria_page.specs.declared.page.TheConstants.{BODY_BYTES}
use Rattle.aria_page.specs.Page.{with_bytes}
use Rattle.aria_page.specs.Number.{number, number_of}
use Rattle.aria_page.proofs.Numbers.{length-number, number_of-number, number_of-take}
use Rattle.aria_page.proofs.Pages.{length-with_bytes, take-with_bytes, drop-with_bytes, drop-with_bytes-behind}
use Rattle.aria_host.specs.declared.file_name.FileName.{FileName}
use Rattle.aria_cache.specs.PageState.{Bodies}
use Rattle.aria_keypage.specs.Item.{Item}
use Rattle.aria_key.specs.Tree.{Placed, Holds, HoldAll, IsTree}
use Rattle.aria_key.specs.Owned.{times_on, times_in}
use Rattle.aria_key.specs.IndexFile.{root_in, free_in, with_root, with_free, IsChain, IsTreeOf, times_free, times_all, IsIndexFile, with_walk}
use Rattle.aria_key.specs.Taking.{AreApart}
use Rattle.aria_key.specs.Ascent.{Regrown}
use Rattle.aria_key.proofs.Spare.{flag, span, span-under, span-over, span-in, chain-still, all-some}

-- ---- the header's numbers

-- a number that lies apart from what was put
number-apart : (a at : ℕ) (bytes body : List ℕ) → ((a + 4 ≤ at) ⊎ (at + length bytes ≤ a)) → at + length bytes ≤ length body → number_of 4 (drop a (with_bytes at bytes body)) ≡ number_of 4 (drop a body)
number-apart a at bytes body (inl ahead) fits =
    sym (number_of-take 4 (drop a (with_bytes at bytes body)))
    ∙ ap (number_of 4) (sym (drop-take a 4 (with_bytes at bytes body)) ∙ ap (drop a) (take-with_bytes (a + 4) at bytes body ahead (omega (arith, fits))) ∙ drop-take a 4 body)
    ∙ number_of-take 4 (drop a body)
number-apart a at bytes body (inr behind) fits = ap (number_of 4) (drop-with_bytes-behind a at bytes body behind (omega (arith, fits)))

-- a number that was put
number-here : (at x : ℕ) (body : List ℕ) → x < 256 ^ 4 → at + 4 ≤ length body → number_of 4 (drop at (with_bytes at (number 4 x) body)) ≡ x
number-here at x body low fits =
    ap (number_of 4) (drop-with_bytes at (at + 4) (number 4 x) body (omega (arith, fits)) (omega (arith, length-number 4 x))) ∙ number_of-number 4 x (drop (at + 4) body) low

-- what the header says then
pub record SaysHeader (key root free : ℕ) (header : List ℕ) : Type 0 where
  pub size : length (with_root key root (with_free free header)) ≡ BODY_BYTES
  pub root_is : root_in (with_root key root (with_free free header)) key ≡ root
  pub other : (k : ℕ) → (key ≡ k → ⊥) → k < 8 → root_in (with_root key root (with_free free header)) k ≡ root_in header k
  pub free_is : free_in (with_root key root (with_free free header)) ≡ free

pub says-header : (key root free : ℕ) (header : List ℕ) → length header ≡ BODY_BYTES → key < 8 → root < 256 ^ 4 → free < 256 ^ 4 → SaysHeader key root free header
says-header key root free header size low r f =
    let mid : List ℕ = with_free free header in
    let l : length mid ≡ 8181 = length-with_bytes 23 (number 4 free) header (omega (arith, length-number 4 free, size)) ∙ size in
    let n = length-number 4 root in
    record {
      size = length-with_bytes (32 + 4 * key) (number 4 root) mid (omega (arith, n, l, low)) ∙ l;
      root_is = number-here (32 + 4 * key) root mid r (omega (arith, l, low));
      other = λ k apart few.
          number-apart (32 + 4 * k) (32 + 4 * key) (number 4 root) mid (elim (cases_lt k key) as (λ _. (32 + 4 * k + 4 ≤ 32 + 4 * key) ⊎ (32 + 4 * key + length (number 4 root) ≤ 32 + 4 * k)) [
            | inl lt ↦ inl (omega (arith, lt))
            | inr ge ↦ inr (omega (arith, more key k apart ge, n))
          ]) (omega (arith, n, l, low))
          ∙ number-apart (32 + 4 * k) 23 (number 4 free) header (inr (omega (arith, length-number 4 free))) (omega (arith, length-number 4 free, size));
      free_is = number-apart 23 (32 + 4 * key) (number 4 root) mid (inl (omega arith)) (omega (arith, n, l, low)) ∙ number-here 23 free header f (omega (arith, size));
    }
  where
    more : (a b : ℕ) → (a ≡ b → ⊥) → a ≤ b → a < b
    more a b apart le = elim (cases_lt a b) as (λ _. a < b) [
      | inl lt ↦ lt
      | inr ge ↦ absurd (apart (omega (arith, le, ge)))
    ]

-- ---- trees whose pages weren't written

pub held-still : (old new : ℕ → Option (List ℕ)) (count more : ℕ) (l : List Placed) → count ≤ more → ((n : ℕ) → 0 < times_on n l → new n ≡ old n) → AllByRecursion (Holds old count) l → AllByRecursion (Holds new more) l
held-still old new count more [] grows same h = tt
held-still old new count more (p ∷ l) grows same h =
    let self : times_on p.page (p ∷ l) ≡ 1 + times_on p.page l = ap (λ (t : Bool). cond t 1 0 + times_on p.page l) (eq-eqb p.page p.page refl) in
    (record { low = omega (arith, h.0.low, grows); body = h.0.body; there = same p.page (omega (arith, self)) ∙ h.0.there; size = h.0.size; spells = h.0.spells }, held-still old new count more l grows (λ n k. same n (omega (arith, k))) h.1)

pub levels-still : (old new : ℕ → Option (List ℕ)) (count more : ℕ) (ls : List (List Placed)) → count ≤ more → ((n : ℕ) → 0 < times_in n ls → new n ≡ old n) → HoldAll old count ls → HoldAll new more ls
levels-still old new count more [] grows same h = tt
levels-still old new count more (l ∷ ls) grows same h = (held-still old new count more l grows (λ n k. same n (omega (arith, k))) h.0, levels-still old new count more ls grows (λ n k. same n (omega (arith, k))) h.1)

pub tree-still : (old new : ℕ → Option (List ℕ)) (count more key root : ℕ) (levels : List (List Placed)) (walk : List Item) → count ≤ more → ((n : ℕ) → 0 < times_in n levels → new n ≡ old n) → IsTree old count key root levels walk → IsTree new more key root levels walk
tree-still old new count more key root levels walk grows same t = record { some = t.some; few = t.few; under = t.under; hold = levels-still old new count more levels grows same t.hold }

pub tree_of-still : (old new : ℕ → Option (List ℕ)) (count more key root : ℕ) (levels : List (List Placed)) (walk : List Item) → count ≤ more → ((n : ℕ) → 0 < times_in n levels → new n ≡ old n) → IsTreeOf old count key root levels walk → IsTreeOf new more key root levels walk
tree_of-still old new count more key root levels walk grows same (inl none) = inl none
tree_of-still old new count more key root levels walk grows same (inr (some, t)) = inr (some, tree-still old new count more key root levels walk grows same t)

-- the root of a tree is one of its pages
pub has-root : (bodies : ℕ → Option (List ℕ)) (count key root : ℕ) (levels : List (List Placed)) (walk : List Item) → IsTree bodies count key root levels walk → 1 ≤ times_in root levels
has-root bodies count key root [] walk t = absurd (omega (arith, t.some))
has-root bodies count key root ([] ∷ ls) walk t = let e : [] ≡ record { entry = []; to = root } ∷ [] = t.under.0.named in absurd cc
has-root bodies count key root ((p ∷ l) ∷ ls) walk t =
    let names : record { entry = p.low; to = p.page } ∷ _ ≡ record { entry = []; to = root } ∷ [] = t.under.0.named in
    let first : record { entry = p.low; to = p.page } ≡ record { entry = []; to = root } = cc in
    let is : p.page ≡ root = ap (λ (x : Item). x.to) first in
    let self : times_on root (p ∷ l) ≡ 1 + times_on root l = ap (λ (t : Bool). cond t 1 0 + times_on root l) (eq-eqb root p.page (sym is)) in
    omega (arith, self)

-- ---- how often a page is in the trees of all keys

-- the levels of one key are others
abbrev pub with_levels : ℕ → List (List Placed) → (ℕ → List (List Placed)) → ℕ → List (List Placed)
with_levels key grown levels = λ k. cond (key == k) grown (levels k)

pub part-of-all : (n key keys : ℕ) (levels : ℕ → List (List Placed)) → key < keys → times_in n (levels key) ≤ times_all n keys levels
part-of-all n key zero levels low = absurd (omega (arith, low))
part-of-all n key (suc keys) levels low = elim (cases_lt key keys) as (λ _. times_in n (levels key) ≤ times_in n (levels keys) + times_all n keys levels) [
  | inl lt ↦ omega (arith, part-of-all n key keys levels lt)
  | inr ge ↦ let same : key ≡ keys = omega (arith, low, ge) in omega (arith, ap (λ (k : ℕ). times_in n (levels k)) same)
]

-- two keys
pub parts-of-all : (n key other keys : ℕ) (levels : ℕ → List (List Placed)) → key < keys → other < keys → (key ≡ other → ⊥) → times_in n (levels key) + times_in n (levels other) ≤ times_all n keys levels
parts-of-all n key other zero levels low there apart = absurd (omega (arith, low))
parts-of-all n key other (suc keys) levels low there apart = elim (cases_lt key keys) as (λ _. times_in n (levels key) + times_in n (levels other) ≤ times_in n (levels keys) + times_all n keys levels) [
  | inl lt ↦ elim (cases_lt other keys) as (λ _. times_in n (levels key) + times_in n (levels other) ≤ times_in n (levels keys) + times_all n keys levels) [
    | inl also ↦ omega (arith, parts-of-all n key other keys levels lt also apart)
    | inr ge ↦ let same : other ≡ keys = omega (arith, there, ge) in omega (arith, part-of-all n key keys levels lt, ap (λ (k : ℕ). times_in n (levels k)) same)
  ]
  | inr ge ↦
      let same : key ≡ keys = omega (arith, low, ge) in
      elim (cases_lt other keys) as (λ _. times_in n (levels key) + times_in n (levels other) ≤ times_in n (levels keys) + times_all n keys levels) [
        | inl also ↦ omega (arith, part-of-all n other keys levels also, ap (λ (k : ℕ). times_in n (levels k)) same)
        | inr no_more ↦ absurd (apart (omega (arith, same, there, no_more)))
      ]
]

-- keys from another on have the levels that they had
same-all : (n key keys : ℕ) (grown : List (List Placed)) (levels : ℕ → List (List Placed)) → keys ≤ key → times_all n keys (with_levels key grown levels) ≡ times_all n keys levels
same-all n key zero grown levels h = refl
same-all n key (suc keys) grown levels h =
    let other : (key == keys) ≡ false = ne_eqb key keys (λ e. absurd (omega (arith, e, h))) in
    let one : times_in n (with_levels key grown levels keys) ≡ times_in n (levels keys) = ap (λ (b : Bool). times_in n (cond b grown (levels keys))) other in
    omega (arith, one, same-all n key keys grown levels (omega (arith, h)))

pub change-all : (n key keys : ℕ) (grown : List (List Placed)) (levels : ℕ → List (List Placed)) → key < keys → times_all n keys (with_levels key grown levels) + times_in n (levels key) ≡ times_all n keys levels + times_in n grown
change-all n key zero grown levels low = absurd (omega (arith, low))
change-all n key (suc keys) grown levels low = elim (cases_lt key keys) as (λ _. times_in n (with_levels key grown levels keys) + times_all n keys (with_levels key grown levels) + times_in n (levels key) ≡ times_in n (levels keys) + times_all n keys levels + times_in n grown) [
  | inl lt ↦
      let other : (key == keys) ≡ false = ne_eqb key keys (λ e. absurd (omega (arith, e, lt))) in
      let one : times_in n (with_levels key grown levels keys) ≡ times_in n (levels keys) = ap (λ (b : Bool). times_in n (cond b grown (levels keys))) other in
      omega (arith, one, change-all n key keys grown levels lt)
  | inr ge ↦
      let same : key ≡ keys = omega (arith, low, ge) in
      let test : (key == keys) ≡ true = eq-eqb key keys same in
      let one : times_in n (with_levels key grown levels keys) ≡ times_in n grown = ap (λ (b : Bool). times_in n (cond b grown (levels keys))) test in
      omega (arith, one, same-all n key keys grown levels (omega (arith, ge)), ap (λ (k : ℕ). times_in n (levels k)) same)
]

-- ---- the file

-- the tree of a key is apart from the free pages
pub apart-of : (keys count : ℕ) (bodies : ℕ → Option (List ℕ)) (header : List ℕ) (levels : ℕ → List (List Placed)) (free : List ℕ) (walks : ℕ → List Item) (key : ℕ) → IsIndexFile keys count bodies header levels free walks → key < keys → AreApart count (levels key) free
apart-of keys count bodies header levels free walks key f low = record {
  some = f.some;
  once = λ n. omega (arith, f.once n, part-of-all n key keys levels low, most n);
  low = λ n h. omega (arith, f.once n, part-of-all n key keys levels low, over n h);
  header = omega (arith, f.once 0, part-of-all 0 key keys levels low);
}
  where
    most : (n : ℕ) → flag (nat_lt 0 n && nat_lt n count) ≤ 1
    most n = by (nat_lt 0 n && nat_lt n count)
      where
        by : (b : Bool) → flag b ≤ 1
        by true = omega arith
        by false = omega arith

    over : (n : ℕ) → count ≤ n → flag (nat_lt 0 n && nat_lt n count) ≡ 0
    over n h =
        let t : nat_lt n count ≡ false = grind (arith, nat_tests) in
        ap (λ (b : Bool). flag (nat_lt 0 n && b)) t ∙ by (nat_lt 0 n)
      where
        by : (b : Bool) → flag (b && false) ≡ flag false
        by true = refl
        by false = refl

-- whether a page is one behind the header
inside : (count n : ℕ) → 0 < n → n < count → flag (nat_lt 0 n && nat_lt n count) ≡ 1
inside count n some low =
    let s : nat_lt 0 n ≡ true = grind (arith, nat_tests) in
    let t : nat_lt n count ≡ true = grind (arith, nat_tests) in
    λ i. flag (s i && t i)

outside : (count n : ℕ) → count ≤ n → flag (nat_lt 0 n && nat_lt n count) ≡ 0
outside count n high =
    let t : nat_lt n count ≡ false = grind (arith, nat_tests) in
    ap (λ (b : Bool). flag (nat_lt 0 n && b)) t ∙ by (nat_lt 0 n)
  where
    by : (b : Bool) → flag (b && false) ≡ flag false
    by true = refl
    by false = refl

-- how many pages there are behind the header
pub more-pages : (before count n : ℕ) → 0 < before → before ≤ count → flag (nat_lt 0 n && nat_lt n before) + span before count n ≡ flag (nat_lt 0 n && nat_lt n count)
more-pages before count n some grows = elim (cases_lt 0 n) as (λ _. flag (nat_lt 0 n && nat_lt n before) + span before count n ≡ flag (nat_lt 0 n && nat_lt n count)) [
  | inl positive ↦ elim (cases_lt n before) as (λ _. flag (nat_lt 0 n && nat_lt n before) + span before count n ≡ flag (nat_lt 0 n && nat_lt n count)) [
    | inl lt ↦ omega (arith, inside before n positive lt, inside count n positive (omega (arith, lt, grows)), span-under before count n lt)
    | inr ge ↦ elim (cases_lt n count) as (λ _. flag (nat_lt 0 n && nat_lt n before) + span before count n ≡ flag (nat_lt 0 n && nat_lt n count)) [
      | inl lt ↦ omega (arith, outside before n (omega (arith, ge)), inside count n positive lt, span-in before count n (omega (arith, ge)) lt)
      | inr over ↦ omega (arith, outside before n (omega (arith, ge)), outside count n (omega (arith, over)), span-over before count n (omega (arith, over)))
    ]
  ]
  | inr none ↦ omega (arith, header-out before n (omega (arith, none)), header-out count n (omega (arith, none)), span-under before count n (omega (arith, none, some)))
]
  where
    header-out : (count n : ℕ) → n ≤ 0 → flag (nat_lt 0 n && nat_lt n count) ≡ 0
    header-out count n h = let t : nat_lt 0 n ≡ false = grind (arith, nat_tests) in ap (λ (b : Bool). flag (b && nat_lt n count)) t

-- what the header holds then, and that no other page was changed since
pub record Headed (key root free : ℕ) (header now : List ℕ) (mid new : ℕ → Option (List ℕ)) : Type 0 where
  pub here : new 0 ≡ Some now
  pub size : length now ≡ BODY_BYTES
  pub root_is : root_in now key ≡ root
  pub others : (k : ℕ) → (key ≡ k → ⊥) → k < 8 → root_in now k ≡ root_in header k
  pub free_is : free_in now ≡ free
  pub same : (n : ℕ) → (n ≡ 0 → ⊥) → new n ≡ mid n

-- the whole file
pub filed : (file : FileName) (was mid new : Bodies) (keys before count key root free : ℕ) (header now : List ℕ) (levels : ℕ → List (List Placed)) (chain : List ℕ) (walks : ℕ → List Item) (walk : List Item) → IsIndexFile keys before (was file) header levels chain walks → key < keys
    → (g : Regrown file was mid before count key (levels key) chain walk root free) → Headed key root free header now (mid file) (new file) → IsIndexFile keys count (new file) now (with_levels key g.grown levels) g.left (with_walk key walk walks)
filed file was mid new keys before count key root free header now levels chain walks walk f low g h = record {
  there = h.here;
  size = h.size;
  some = omega (arith, f.some, g.are.grows);
  few = f.few;
  trees = trees;
  chain = subst (λ (m : ℕ). IsChain (new file) m g.left) (sym h.free_is) (chain-still (mid file) (new file) free g.left (λ n k. h.same n (λ e. none-left n e k)) g.chain_is);
  once = λ n. omega (arith, f.once n, g.times n, g.are.times n, change-all n key keys g.grown levels low, more-pages before count n f.some g.are.grows);
}
  where
    header-off : times_in 0 (levels key) + times_free 0 g.taken + times_free 0 g.left ≡ 0
    header-off = all-some before count (levels key) chain g.taken g.left g.apart g.are

    none-left : (n : ℕ) → n ≡ 0 → 0 < times_free n g.left → ⊥
    none-left n e k = absurd (omega (arith, header-off, ap (λ (m : ℕ). times_free m g.left) e, k))

    none-grown : (n : ℕ) → n ≡ 0 → 0 < times_in n g.grown → ⊥
    none-grown n e k = absurd (omega (arith, header-off, g.times 0, ap (λ (m : ℕ). times_in m g.grown) e, k))

    root-some : root ≢ 0
    root-some e = none-grown root e (omega (arith, has-root (mid file) count key root g.grown walk g.tree))

    other-still : (k : ℕ) → k < keys → (key ≡ k → ⊥) → (n : ℕ) → 0 < times_in n (levels k) → new file n ≡ was file n
    other-still k there apart n some =
        let two = parts-of-all n key k keys levels low there apart in
        let whole = f.once n in
        let most = elim (cases_lt n before) as (λ _. times_in n (levels key) + times_free n g.taken ≡ 0) [
          | inl lt ↦ omega (arith, two, whole, some, g.are.times n, span-under before count n lt, at-most n)
          | inr ge ↦ absurd (omega (arith, two, whole, some, over n (omega (arith, ge))))
        ] in
        h.same n (λ e. absurd (omega (arith, part-of-all n k keys levels there, f.once 0, ap (λ (m : ℕ). times_all m keys levels) e, some))) ∙ g.rest n most
      where
        at-most : (n : ℕ) → flag (nat_lt 0 n && nat_lt n before) ≤ 1
        at-most n = by (nat_lt 0 n && nat_lt n before)
          where
            by : (b : Bool) → flag b ≤ 1
            by true = omega arith
            by false = omega arith

        over : (n : ℕ) → before ≤ n → flag (nat_lt 0 n && nat_lt n before) ≡ 0
        over n h =
            let t : nat_lt n before ≡ false = grind (arith, nat_tests) in
            ap (λ (b : Bool). flag (nat_lt 0 n && b)) t ∙ by (nat_lt 0 n)
          where
            by : (b : Bool) → flag (b && false) ≡ flag false
            by true = refl
            by false = refl

    trees : (k : ℕ) → k < keys → IsTreeOf (new file) count k (root_in now k) (with_levels key g.grown levels k) (with_walk key walk walks k)
    trees k there = by (key == k) refl
      where
        by : (b : Bool) → (key == k) ≡ b → IsTreeOf (new file) count k (root_in now k) (cond b g.grown (levels k)) (cond b walk (walks k))
        by true e =
            let same : key ≡ k = eqb-true key k e in
            let mine : IsTreeOf (new file) count key root g.grown walk = inr (root-some, tree-still (mid file) (new file) count count key root g.grown walk (omega arith) (λ n some. h.same n (λ e. none-grown n e some)) g.tree) in
            subst (λ (m : ℕ). IsTreeOf (new file) count m (root_in now m) g.grown walk) same (subst (λ (r : ℕ). IsTreeOf (new file) count key r g.grown walk) (sym h.root_is) mine)
        by false e =
            let apart : key ≡ k → ⊥ = eqb-false key k e in
            subst (λ (r : ℕ). IsTreeOf (new file) count k r (levels k) (walks k)) (sym (h.others k apart (omega (arith, there, f.few)))) (tree_of-still (was file) (new file) before count k (root_in header k) (levels k) (walks k) g.are.grows (other-still k there apart) (f.trees k there))

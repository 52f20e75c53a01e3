-- Looking for an entry among items.
use Rattle.std.proofs.Common.{◌≡◌, ℕ, ◌+◌, ◌<◌, ◌≤◌, Bool, true, false, List, [], ◌∷◌, length, drop, refl, sym, ap, ◌∙◌, add-one, arith}
use Rattle.std.specs.List.{prefix_len}
use Rattle.std.specs.declared.cmp.Ordering.{Ordering}
use Rattle.std.specs.declared.cmp.Ordering.TheVariants.{Less, Equal, Greater}
use Rattle.std.specs.Ordering.{nat_cmp, is_lt}
use Rattle.std.specs.Cmp.Lexicographic.{slice_cmp}
use Rattle.std.proofs.lemmas.Bool.Decides.{nat_tests}
use Rattle.std.proofs.lemmas.List.Sums.{prefix_len-drop_yes, prefix_len-drop_no, prefix_len-drop_all}
use Rattle.aria_keypage.specs.Item.{Item, item_at, entry_before, is_below, IsPosition}
use Rattle.aria_keypage.specs.Packed.{common_length, shared, ArePacked, IsLeft}
use Rattle.aria_keypage.specs.StoredItem.{StoredItem, as_stored}
use Rattle.aria_keypage.proofs.Shares.{common-le, common-drop, order-drop, common-beyond, below-beyond, order-same, common-both}
use Rattle.aria_keypage.proofs.Stored.{shared-le}
use Rattle.aria_keypage.proofs.Left.{left-all}

-- an entry is none before itself
order-itself : (a : List ℕ) → slice_cmp nat_cmp a a ≡ Equal
order-itself [] = refl
order-itself (x ∷ a) = grind (arith, nat_tests, order-itself a)

-- the search has come to a position: all before it are below what is sought
pub record Sought (width : ℕ) (items : List Item) (entry : List ℕ) (at : ℕ) (rest : List ℕ) (common : ℕ) : Type 0 where
  pub left : IsLeft width items at rest
  pub common_is : common ≡ common_length (entry_before items at) entry
  pub below : common < length (entry_before items at) → is_below (entry_before items at) entry ≡ true
  pub before : prefix_len (λ x. is_below x.entry entry) items ≡ at + prefix_len (λ x. is_below x.entry entry) (drop at items)

-- at the beginning
pub sought-none : (width : ℕ) (items : List Item) (entry bytes : List ℕ) → ArePacked width items bytes → Sought width items entry 0 bytes 0
sought-none width items entry bytes is = record { left = left-all width items bytes is; common_is = refl; below = λ h. absurd (omega arith); before = omega arith }

-- what was read of an item shares no more than it has in common with the entry before it
pub read-shares : (width : ℕ) (items : List Item) (at : ℕ) (r : StoredItem) → r ≡ as_stored width (entry_before items at) (item_at items at)
    → (r.shared ≤ common_length (entry_before items at) (item_at items at).entry) × (r.rest ≡ drop r.shared (item_at items at).entry)
read-shares width items at r e =
    let n : ℕ = shared (entry_before items at) (item_at items at).entry in
    let same : r.shared ≡ n = ap (λ (x : StoredItem). x.shared) e in (
      omega (arith, same, (shared-le (entry_before items at) (item_at items at).entry).2),
      ap (λ (x : StoredItem). x.rest) e ∙ ap (λ (k : ℕ). drop k (item_at items at).entry) (sym same),
    )

-- an item below what is sought is passed
pub sought-more : (width : ℕ) (items : List Item) (entry : List ℕ) (at : ℕ) (rest behind : List ℕ) (common same : ℕ) → Sought width items entry at rest common → at < length items → IsLeft width items (at + 1) behind
    → same ≡ common_length (item_at items at).entry entry → slice_cmp nat_cmp (item_at items at).entry entry ≡ Less → Sought width items entry (at + 1) behind same
sought-more width items entry at rest behind common same h low left e order =
    let P : Item → Bool = λ x. is_below x.entry entry in
    let next : entry_before items (at + 1) ≡ (item_at items at).entry = ap (entry_before items) (add-one at) in
    let passes : is_below (item_at items at).entry entry ≡ true = ap is_lt order in
    let step : prefix_len P (drop at items) ≡ 1 + prefix_len P (drop (at + 1) items) = prefix_len-drop_yes P items at (record { entry = []; to = 0 }) low passes in
    record {
      left = left;
      common_is = e ∙ ap (λ (l : List ℕ). common_length l entry) (sym next);
      below = λ _. ap (λ (l : List ℕ). is_below l entry) next ∙ passes;
      before = omega (arith, h.before, step);
    }

-- one that is not below it is at the position
pub sought-here : (width : ℕ) (items : List Item) (entry : List ℕ) (at : ℕ) (rest : List ℕ) (common : ℕ) → Sought width items entry at rest common → at < length items → is_below (item_at items at).entry entry ≡ false
    → at ≡ prefix_len (λ x. is_below x.entry entry) items
sought-here width items entry at rest common h low not_below =
    omega (arith, h.before, prefix_len-drop_no (λ x. is_below x.entry entry) items at (record { entry = []; to = 0 }) low not_below)

-- it may be what is sought
pub sought-found : (width : ℕ) (items : List Item) (entry : List ℕ) (at : ℕ) (rest : List ℕ) (common : ℕ) → Sought width items entry at rest common → at < length items → slice_cmp nat_cmp (item_at items at).entry entry ≡ Equal
    → IsPosition entry items at true
sought-found width items entry at rest common h low order =
    record { first = sought-here width items entry at rest common h low (ap is_lt order); found = ((λ _. (low, order-same (item_at items at).entry entry order)), (λ _. refl)) }

-- or stand above it
pub sought-passed : (width : ℕ) (items : List Item) (entry : List ℕ) (at : ℕ) (rest : List ℕ) (common : ℕ) → Sought width items entry at rest common → at < length items → slice_cmp nat_cmp (item_at items at).entry entry ≡ Greater
    → IsPosition entry items at false
sought-passed width items entry at rest common h low order =
    record {
      first = sought-here width items entry at rest common h low (ap is_lt order);
      found = (
        (λ no. absurd cc),
        (λ there. let same : slice_cmp nat_cmp (item_at items at).entry entry ≡ Equal = ap (λ (l : List ℕ). slice_cmp nat_cmp l entry) there.1 ∙ order-itself entry in absurd cc),
      );
    }

-- behind all of them nothing is found
pub sought-all : (width : ℕ) (items : List Item) (entry : List ℕ) (at : ℕ) (rest : List ℕ) (common : ℕ) → Sought width items entry at rest common → at ≡ length items → IsPosition entry items at false
sought-all width items entry at rest common h end =
    record {
      first = omega (arith, h.before, prefix_len-drop_all (λ x. is_below x.entry entry) items at (omega arith));
      found = ((λ no. absurd cc), (λ there. absurd (omega (arith, there.0))));
    }

-- an entry that shares more than the one before has in common with what is sought stands as that one does
pub against-beyond : (before there entry : List ℕ) (common n : ℕ) → common ≡ common_length before entry → common < n → n ≤ common_length before there → (common ≡ common_length there entry) × ((common < length before → is_below before entry ≡ true) → Less ≡ slice_cmp nat_cmp there entry)
against-beyond before there entry common n e more shares =
    let far : common_length before entry < common_length before there = omega arith in (
      e ∙ sym (common-beyond before there entry far),
      (λ below. sym (below-beyond before there entry far ∙ is_less (slice_cmp nat_cmp before entry) (below (omega (arith, (common-le before there).0))))),
    )
  where
    is_less : (o : Ordering) → is_lt o ≡ true → o ≡ Less
    is_less Less e = refl
    is_less Equal e = absurd cc
    is_less Greater e = absurd cc

-- one that shares no more is told by the rest
pub against-rest : (before there entry rest tail : List ℕ) (common n : ℕ) → common ≡ common_length before entry → n ≤ common → n ≤ common_length before there → rest ≡ drop n there → tail ≡ drop n entry
    → (n + common_length rest tail ≡ common_length there entry) × (slice_cmp nat_cmp rest tail ≡ slice_cmp nat_cmp there entry)
against-rest before there entry rest tail common n e low shares er et =
    let shared_too : n ≤ common_length there entry = common-both before there entry n shares (omega arith) in (
      ap (λ (k : ℕ). n + k) (λ i. common_length (er i) (et i)) ∙ sym (common-drop n there entry shared_too),
      (λ i. slice_cmp nat_cmp (er i) (et i)) ∙ sym (order-drop n there entry shared_too),
    )

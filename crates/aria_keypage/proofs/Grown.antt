-- The size of a page with one more item, from what the entries around its position have in common with its entry.
use Rattle.std.proofs.Common.{◌≡◌, ℕ, ◌+◌, ◌≤◌, ◌<◌, min, List, length, drop, Some, None, ap, ◌∙◌, arith, inl, inr}
use Rattle.std.proofs.lemmas.Bool.{cases_lt}
use Rattle.std.proofs.lemmas.List.{drop_all}
use Rattle.aria_keypage.specs.Item.{Item, item_at, entry_before}
use Rattle.aria_keypage.specs.Packed.{common_length, shared, packed, ArePacked, IsLeft}
use Rattle.aria_keypage.specs.StoredItem.{StoredItem, stored_at}
use Rattle.aria_keypage.specs.Content.{Content, width, item_bytes}
use Rattle.aria_keypage.specs.Change.{with_item}
use Rattle.aria_keypage.proofs.Shares.{common-turn}
use Rattle.aria_keypage.proofs.Read.{raw-nil}
use Rattle.aria_keypage.proofs.Sought.{read-shares}
use Rattle.aria_keypage.proofs.Spliced.{grown-none, grown-some}
use Rattle.aria_keypage.proofs.Left.{left-more, left-read}

-- where an item is read, one is left
pub left-low : (w : ℕ) (items : List Item) (at : ℕ) (rest : List ℕ) (x : StoredItem × List ℕ) → IsLeft w items at rest → stored_at w rest ≡ Some x → at < length items
unfolding packed
left-low w items at rest x left e = elim (cases_lt at (length items)) [
  | inl lt ↦ lt
  | inr ge ↦
      let none : stored_at w rest ≡ None = ap (stored_at w) (left.is ∙ ap (packed w (entry_before items at)) (drop_all at items ge)) ∙ raw-nil w in
      absurd cc
]

-- the size behind the last item
pub grown-last : (c : Content) (at w n common : ℕ) (x : Item) (bytes rest : List ℕ) → ArePacked w c.items bytes → w ≡ width c.kind → IsLeft w c.items at rest → stored_at w rest ≡ None → common ≡ common_length (entry_before c.items at) x.entry → n ≡ min 255 common
    → length (item_bytes (with_item c at x)) + n ≡ length (item_bytes c) + 3 + w + length x.entry
unfolding shared
grown-last c at w n common x bytes rest is ew left none em en =
    let end : at ≡ length c.items = elim (cases_lt at (length c.items)) as (λ _. at ≡ length c.items) [
      | inl lt ↦ absurd (left-read w c.items at rest is.all left none lt)
      | inr ge ↦ omega (arith, left.within)
    ] in
    omega (arith, grown-none c at n x end (en ∙ ap (min 255) em), ew)

-- the size before another one
pub grown-inside : (c : Content) (at w n k common same : ℕ) (x : Item) (bytes rest behind : List ℕ) (r : StoredItem) → ArePacked w c.items bytes → w ≡ width c.kind → IsLeft w c.items at rest → stored_at w rest ≡ Some (r, behind)
    → common ≡ common_length (entry_before c.items at) x.entry → ((before there : List ℕ) → common ≡ common_length before x.entry → r.shared ≤ common_length before there → r.rest ≡ drop r.shared there → same ≡ common_length there x.entry)
    → n ≡ min 255 common → k ≡ min 255 same → length (item_bytes (with_item c at x)) + n + k ≡ length (item_bytes c) + 3 + w + length x.entry + r.shared
unfolding shared
grown-inside c at w n k common same x bytes rest behind r is ew left e em told en ek =
    let low : at < length c.items = left-low w c.items at rest (r, behind) left e in
    let y : Item = item_at c.items at in
    let more = left-more w c.items at rest (r, behind) is.all left e low in
    let read = read-shares w c.items at r more.0 in
    let turned : same ≡ common_length x.entry y.entry = told (entry_before c.items at) y.entry em read.0 read.1 ∙ common-turn y.entry x.entry in
    omega (arith, grown-some c at n k r.shared x low (en ∙ ap (min 255) em) (ek ∙ ap (min 255) turned) (ap (λ (z : StoredItem). z.shared) more.0), ew)

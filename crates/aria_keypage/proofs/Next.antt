-- The item in front of what is left.
use Rattle.std.proofs.Common.{◌≡◌, ℕ, ◌+◌, ◌<◌, ◌≤◌, List, ◌++◌, length, drop, Some, None, sym, ap, ◌∙◌, add-one, arith, inl, inr}
use Rattle.std.specs.List.{AllByRecursion}
use Rattle.std.proofs.lemmas.Bool.{cases_lt}
use Rattle.std.proofs.lemmas.List.{append-nil, drop_all}
use Rattle.aria_page.specs.Number.{number}
use Rattle.aria_keypage.specs.Item.{Item, IsItem, item_at, entry_before}
use Rattle.aria_keypage.specs.Packed.{packed, IsLeft}
use Rattle.aria_keypage.specs.Pieces.{first_packed, rest_packed}
use Rattle.aria_keypage.specs.StoredItem.{StoredItem, stored_at, entry_of}
use Rattle.aria_keypage.proofs.Left.{left-more, left-read, left-entry, item_fits}
use Rattle.aria_keypage.proofs.Grown.{left-low}
use Rattle.aria_keypage.proofs.Spliced.{first-none, rest-at}

-- where none is read, none is left
pub next-none : (w n : ℕ) (xs : List Item) (at : ℕ) (rest entry out : List ℕ) → n ≡ w → AllByRecursion (IsItem w) xs → IsLeft w xs at rest → stored_at n rest ≡ None
    → (out ≡ out ++ first_packed w entry (drop at xs)) × (rest ≡ rest_packed w (drop at xs))
unfolding packed rest_packed
next-none w n xs at rest entry out same all left e = elim (cases_lt at (length xs)) [
  | inl lt ↦ absurd (left-read w xs at rest all left (ap (λ (k : ℕ). stored_at k rest) (sym same) ∙ e) lt)
  | inr ge ↦ (
    sym (ap (λ (l : List ℕ). out ++ l) (first-none w entry xs at ge) ∙ append-nil out),
    left.is ∙ ap (packed w (entry_before xs at)) (drop_all at xs ge) ∙ sym (ap (rest_packed w) (drop_all at xs ge)),
  )
]

-- what is known of an item that is read in front
pub record Next (w : ℕ) (xs : List Item) (at : ℕ) (x : StoredItem × List ℕ) (next : List ℕ) : Type 0 where
  pub low : at < length xs
  pub entry : next ≡ (item_at xs at).entry
  pub before : next ≡ entry_before xs (at + 1)
  pub fits : length next ≤ 1000
  pub to : x.0.to ≡ number w (item_at xs at).to
  pub left : IsLeft w xs (at + 1) x.1
  pub behind : x.1 ≡ rest_packed w (drop at xs)

pub next-some : (w n : ℕ) (xs : List Item) (at : ℕ) (rest before next : List ℕ) (x : StoredItem × List ℕ) → n ≡ w → AllByRecursion (IsItem w) xs → IsLeft w xs at rest → stored_at n rest ≡ Some x → before ≡ entry_before xs at → next ≡ entry_of before x.0 → Next w xs at x next
next-some w n xs at rest before next x same all left e eb en =
    let read : stored_at w rest ≡ Some x = ap (λ (k : ℕ). stored_at k rest) (sym same) ∙ e in
    let low : at < length xs = left-low w xs at rest x left read in
    let more = left-more w xs at rest x all left read low in
    let is : next ≡ entry_before xs (at + 1) = en ∙ left-entry w xs at before x.0 eb more.0 in
    let entry : next ≡ (item_at xs at).entry = is ∙ ap (entry_before xs) (add-one at) in
    record {
      low = low;
      entry = entry;
      before = is;
      fits = omega (arith, ap length entry, (item_fits w xs at all low).entry);
      to = ap (λ (r : StoredItem). r.to) more.0;
      left = more.1;
      behind = more.1.is ∙ sym (rest-at w xs at low);
    }

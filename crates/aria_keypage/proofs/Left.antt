-- Going over packed items, one by one.
use Rattle.std.proofs.Common.{◌≡◌, ℕ, zero, suc, ◌+◌, ◌<◌, ◌^◌, List, [], ◌∷◌, ◌++◌, length, drop, Some, None, sym, ap, ◌∙◌, add-one, arith}
use Rattle.std.specs.List.{AllByRecursion}
use Rattle.std.proofs.lemmas.List.{append-nil, drop_more}
use Rattle.std.proofs.lemmas.Option.{same_Some}
use Rattle.aria_page.specs.Number.{number, number_at}
use Rattle.aria_page.proofs.Numbers.{number_again}
use Rattle.aria_keypage.specs.Item.{Item, IsItem, item_at, entry_before}
use Rattle.aria_keypage.specs.Packed.{packed_item, packed, ArePacked, IsLeft}
use Rattle.aria_keypage.specs.StoredItem.{StoredItem, as_stored, stored_at, entry_of}
use Rattle.aria_keypage.proofs.Stored.{item_again, entry-again}

-- at the beginning all are left
pub left-all : (width : ℕ) (items : List Item) (bytes : List ℕ) → ArePacked width items bytes → IsLeft width items 0 bytes
left-all width items bytes is = record { within = omega arith; is = is.is }

-- one of many that can be stored can be stored
pub item_fits : (width : ℕ) (items : List Item) (at : ℕ) → AllByRecursion (IsItem width) items → at < length items → IsItem width (item_at items at)
item_fits width [] at all h = absurd (omega arith)
item_fits width (x ∷ items) zero all h = all.0
item_fits width (x ∷ items) (suc at) all h = item_fits width items at all.1 (omega arith)

-- the items from a position on are the one there and those behind it
pub packed-at : (width : ℕ) (items : List Item) (at : ℕ) → at < length items → packed width (entry_before items at) (drop at items) ≡ packed_item width (entry_before items at) (item_at items at) ++ packed width (item_at items at).entry (drop (at + 1) items)
unfolding packed
packed-at width items at h = ap (packed width (entry_before items at)) (drop_more items at (record { entry = []; to = 0 }) h)

-- where an item is read, it is the one at the position, and those behind it are left
pub left-more : (width : ℕ) (items : List Item) (at : ℕ) (rest : List ℕ) (x : StoredItem × List ℕ) → AllByRecursion (IsItem width) items → IsLeft width items at rest → stored_at width rest ≡ Some x → at < length items
    → (x.0 ≡ as_stored width (entry_before items at) (item_at items at)) × IsLeft width items (at + 1) x.1
left-more width items at rest x all left e h =
    let before : List ℕ = entry_before items at in
    let item : Item = item_at items at in
    let behind : List ℕ = packed width item.entry (drop (at + 1) items) in
    let read : stored_at width rest ≡ Some (as_stored width before item, behind) =
    ap (stored_at width) (left.is ∙ packed-at width items at h) ∙ item_again width before item behind (item_fits width items at all h) in
    let same : x ≡ (as_stored width before item, behind) = same_Some x (as_stored width before item, behind) (sym e ∙ read) in
    let next : entry_before items (at + 1) ≡ item.entry = ap (entry_before items) (add-one at) in (
      ap (λ (y : StoredItem × List ℕ). y.0) same,
      record { within = omega arith; is = ap (λ (y : StoredItem × List ℕ). y.1) same ∙ ap (λ (b : List ℕ). packed width b (drop (at + 1) items)) (sym next) },
    )

-- where an item is left, one is read
pub left-read : (width : ℕ) (items : List Item) (at : ℕ) (rest : List ℕ) → AllByRecursion (IsItem width) items → IsLeft width items at rest → stored_at width rest ≡ None → at < length items → ⊥
left-read width items at rest all left e h =
    let before : List ℕ = entry_before items at in
    let item : Item = item_at items at in
    let behind : List ℕ = packed width item.entry (drop (at + 1) items) in
    let read : stored_at width rest ≡ Some (as_stored width before item, behind) =
    ap (stored_at width) (left.is ∙ packed-at width items at h) ∙ item_again width before item behind (item_fits width items at all h) in
    cc

-- the entry of an item that was read is the one at the position
pub left-entry : (width : ℕ) (items : List Item) (at : ℕ) (before : List ℕ) (r : StoredItem) → before ≡ entry_before items at → r ≡ as_stored width (entry_before items at) (item_at items at) → entry_of before r ≡ entry_before items (at + 1)
left-entry width items at before r eb er =
    (λ i. entry_of (eb i) (er i)) ∙ entry-again (entry_before items at) (item_at items at).entry ∙ sym (ap (entry_before items) (add-one at))

-- the bytes of where an item leads
pub left-number : (width n : ℕ) (items : List Item) (at : ℕ) (rest : List ℕ) (x : StoredItem × List ℕ) → width ≡ n → AllByRecursion (IsItem width) items → IsLeft width items at rest → at < length items → stored_at n rest ≡ Some x
    → x.0.to ≡ number width (item_at items at).to
left-number width n items at rest x same all left h e =
    ap (λ (r : StoredItem). r.to) (left-more width items at rest x all left (ap (λ (k : ℕ). stored_at k rest) same ∙ e) h).0

-- a number that fits is read back
number-back : (width n m : ℕ) (bytes : List ℕ) → width ≡ n → m < 256 ^ width → bytes ≡ number width m → number_at n bytes ≡ Some (m, [])
number-back width n m bytes same fits e =
    ap (number_at n) e
    ∙ ap (λ (k : ℕ). number_at k (number width m)) (sym same)
    ∙ ap (number_at width) (sym (append-nil (number width m)))
    ∙ number_again width m [] fits

pub number-told : (width n m : ℕ) (bytes : List ℕ) (y : ℕ × List ℕ) → width ≡ n → m < 256 ^ width → bytes ≡ number width m → number_at n bytes ≡ Some y → y.0 ≡ m
number-told width n m bytes y same fits e read =
    ap (λ (z : ℕ × List ℕ). z.0) (same_Some y (m, []) (sym read ∙ number-back width n m bytes same fits e))

pub number-there : (width n m : ℕ) (bytes : List ℕ) → width ≡ n → m < 256 ^ width → bytes ≡ number width m → number_at n bytes ≡ None → ⊥
number-there width n m bytes same fits e none = let some = number-back width n m bytes same fits e in absurd cc

-- where an item is left, one is read by the width of the page
pub left-there : (width n : ℕ) (items : List Item) (at : ℕ) (rest : List ℕ) → width ≡ n → AllByRecursion (IsItem width) items → IsLeft width items at rest → at < length items → stored_at n rest ≡ None → ⊥
left-there width n items at rest same all left h e = left-read width items at rest all left (ap (λ (k : ℕ). stored_at k rest) same ∙ e) h

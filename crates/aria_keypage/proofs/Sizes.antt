-- How many item bytes a page has with an item more or fewer, and with the items of another.
use Rattle.std.proofs.Common.{◌≡◌, ℕ, zero, suc, ◌+◌, ◌*◌, ◌≤◌, ◌<◌, true, List, [], ◌∷◌, ◌++◌, length, take, drop, refl, sym, ap, ◌∙◌, add-one, arith, inl, inr}
use Rattle.std.specs.List.{AllByRecursion}
use Rattle.std.proofs.lemmas.Bool.{cases_lt}
use Rattle.std.proofs.lemmas.List.{length-append, length-take, take_all, take_at, drop_at, take-append-drop}
use Rattle.aria_keypage.specs.declared.kind.Kind.{Kind}
use Rattle.aria_keypage.specs.declared.kind.Kind.TheVariants.{Leaf, Node}
use Rattle.aria_keypage.specs.Item.{Item, IsItem, item_at, entry_before, is_below}
use Rattle.aria_keypage.specs.Packed.{shared, packed_item, packed}
use Rattle.aria_keypage.specs.Content.{Content, width, item_bytes, IsContent}
use Rattle.aria_keypage.specs.Change.{with_item, without_item}
use Rattle.aria_keypage.specs.Merge.{taken_over, joined}
use Rattle.aria_keypage.specs.Split.{left_half, right_half, AreHalves}
use Rattle.aria_keypage.proofs.Between.{shared-at}
use Rattle.aria_keypage.proofs.Counted.{last_entry}
use Rattle.aria_keypage.proofs.Divided.{first-size, own-size}
use Rattle.aria_keypage.proofs.Fitting.{joined-leaf, joined-node}
use Rattle.aria_keypage.proofs.Joined.{joined-bytes}
use Rattle.aria_keypage.proofs.Left.{item_fits}
use Rattle.aria_keypage.proofs.Shares.{common-both, common-turn}
use Rattle.aria_keypage.proofs.Spliced.{drop-at, grown-none, grown-some, item-bytes-le, last_entry-before, length-packed_item, width-le}
use Rattle.aria_keypage.proofs.Stored.{shared-le}

-- ---- an item more

-- what an entry shares with the one before it and with the one behind it, these share with each other
shared-across : (a b c : List ℕ) (n : ℕ) → n ≤ shared a b → n ≤ shared b c → n ≤ shared a c
unfolding shared
shared-across a b c n h k = omega (arith, common-both b a c n (omega (arith, h, common-turn a b)) (omega (arith, k)))

-- so what both take from it is no more than it has and the two share
shared-both : (a b c : List ℕ) → shared a b + shared b c ≤ length b + shared a c
shared-both a b c = elim (cases_lt (shared a b) (shared b c)) as (λ _. shared a b + shared b c ≤ length b + shared a c) [
  | inl lt ↦ omega (arith, shared-across a b c (shared a b) (omega arith) (omega arith), (shared-le b c).0)
  | inr ge ↦ omega (arith, shared-across a b c (shared b c) (omega arith) (omega arith), (shared-le a b).1)
]

-- a page with one more item is longer
pub with_item-longer : (c : Content) (at : ℕ) (x : Item) → at ≤ length c.items → length (item_bytes c) < length (item_bytes (with_item c at x))
with_item-longer c at x h = elim (cases_lt at (length c.items)) as (λ _. length (item_bytes c) < length (item_bytes (with_item c at x))) [
  | inl lt ↦
      let p : List ℕ = entry_before c.items at in
      let y : List ℕ = (item_at c.items at).entry in
      omega (arith, grown-some c at (shared p x.entry) (shared x.entry y) (shared p y) x lt refl refl refl, shared-both p x.entry y)
  | inr ge ↦ omega (arith, grown-none c at (shared (entry_before c.items at) x.entry) x (omega arith) refl, (shared-le (entry_before c.items at) x.entry).1)
]

-- by no more than the item takes alone, where it takes as much from the entry before it as the next one did
pub with_item-most : (c : Content) (at : ℕ) (x : Item) → at ≤ length c.items → (at < length c.items → shared (entry_before c.items at) (item_at c.items at).entry ≤ shared (entry_before c.items at) x.entry)
    → length (item_bytes (with_item c at x)) ≤ length (item_bytes c) + 3 + width c.kind + length x.entry
with_item-most c at x h share = elim (cases_lt at (length c.items)) as (λ _. length (item_bytes (with_item c at x)) ≤ length (item_bytes c) + 3 + width c.kind + length x.entry) [
  | inl lt ↦
      let p : List ℕ = entry_before c.items at in
      let y : List ℕ = (item_at c.items at).entry in
      omega (arith, grown-some c at (shared p x.entry) (shared x.entry y) (shared p y) x lt refl refl refl, share lt)
  | inr ge ↦ omega (arith, grown-none c at (shared (entry_before c.items at) x.entry) x (omega arith) refl)
]

-- as it does where it stands between the two
pub with_item-between : (c : Content) (at : ℕ) (x : Item) → at ≤ length c.items → length x.entry ≤ 1000
    → (0 < at → is_below (entry_before c.items at) x.entry ≡ true) → (at < length c.items → is_below x.entry (item_at c.items at).entry ≡ true)
    → length (item_bytes (with_item c at x)) ≤ length (item_bytes c) + 1008
with_item-between c at x h short above below =
    omega (arith, with_item-most c at x h (λ lt. shared-at c.items at x.entry (item_at c.items at).entry above (below lt)), width-le c.kind)

-- ---- an item fewer

item-ahead : (xs ys : List Item) (at n : ℕ) → n < at → n < length xs → item_at (take at xs ++ ys) n ≡ item_at xs n
item-ahead [] ys at n low h = absurd (omega arith)
item-ahead (x ∷ xs) ys zero n low h = absurd (omega arith)
item-ahead (x ∷ xs) ys (suc at) zero low h = refl
item-ahead (x ∷ xs) ys (suc at) (suc n) low h = item-ahead xs ys at n (omega arith) (omega arith)

item-behind : (xs : List Item) (at : ℕ) → at < length xs → item_at (take at xs ++ drop (suc at) xs) at ≡ item_at xs (suc at)
item-behind [] at h = absurd (omega arith)
item-behind (x ∷ xs) zero h = refl
item-behind (x ∷ xs) (suc at) h = item-behind xs at (omega arith)

-- the entry before the position stays
before-same : (xs ys : List Item) (at : ℕ) → at ≤ length xs → entry_before (take at xs ++ ys) at ≡ entry_before xs at
before-same xs ys zero h = refl
before-same xs ys (suc n) h = ap (λ (x : Item). x.entry) (item-ahead xs ys (suc n) n (omega arith) (omega arith))

-- an item that was taken out may be put back
pub put-back : (c : Content) (at : ℕ) → at < length c.items → with_item (without_item c at) at (item_at c.items at) ≡ c
put-back c at h =
    let xs : List Item = c.items in
    let long : length (take at xs) ≡ at = omega (arith, length-take at xs) in
    let whole : take at (take at xs ++ drop (suc at) xs) ++ (item_at xs at ∷ drop at (take at xs ++ drop (suc at) xs)) ≡ xs =
    (λ i. take_at (take at xs) (drop (suc at) xs) at long i ++ (item_at xs at ∷ drop_at (take at xs) (drop (suc at) xs) at long i))
    ∙ ap (λ (l : List Item). take at xs ++ l) (sym (drop-at xs at h))
    ∙ take-append-drop at xs in
    λ i. record { kind = c.kind; key = c.key; first = c.first; items = whole i }

-- there is one item fewer
pub without_item-count : (c : Content) (at : ℕ) → at < length c.items → length (without_item c at).items + 1 ≡ length c.items
without_item-count c at h =
    omega (arith, length-append (take at c.items) (drop (suc at) c.items), ap length (take-append-drop at c.items), length-append (take at c.items) (drop at c.items), ap length (drop-at c.items at h))

-- a page with one item fewer is shorter
pub without_item-shorter : (c : Content) (at : ℕ) → at < length c.items → length (item_bytes (without_item c at)) < length (item_bytes c)
without_item-shorter c at h =
    omega (arith, with_item-longer (without_item c at) at (item_at c.items at) (omega (arith, without_item-count c at h)), ap (λ (d : Content). length (item_bytes d)) (put-back c at h))

-- by no more than the item takes alone, where it took as much from the entry before it as the next one does
pub without_item-least : (c : Content) (at : ℕ) → at < length c.items → (at + 1 < length c.items → shared (entry_before c.items at) (item_at c.items (at + 1)).entry ≤ shared (entry_before c.items at) (item_at c.items at).entry)
    → length (item_bytes c) ≤ length (item_bytes (without_item c at)) + 3 + width c.kind + length (item_at c.items at).entry
without_item-least c at h share =
    let d : Content = without_item c at in
    let x : Item = item_at c.items at in
    let before : entry_before d.items at ≡ entry_before c.items at = before-same c.items (drop (suc at) c.items) at (omega arith) in
    let next : item_at d.items at ≡ item_at c.items (suc at) = item-behind c.items at h in
    let one : item_at c.items (at + 1) ≡ item_at c.items (suc at) = ap (item_at c.items) (add-one at) in
    let count : length d.items + 1 ≡ length c.items = without_item-count c at h in
    let old_share : shared (entry_before d.items at) (item_at d.items at).entry ≡ shared (entry_before c.items at) (item_at c.items (at + 1)).entry = (λ i. shared (before i) ((next ∙ sym one) i).entry) in
    let own_share : shared (entry_before d.items at) x.entry ≡ shared (entry_before c.items at) x.entry = ap (λ (l : List ℕ). shared l x.entry) before in
    let most : length (item_bytes (with_item d at x)) ≤ length (item_bytes d) + 3 + width c.kind + length x.entry = with_item-most d at x (omega (arith, count)) (λ lt. omega (arith, share (omega (arith, count, lt)), old_share, own_share)) in
    omega (arith, most, ap (λ (e : Content). length (item_bytes e)) (put-back c at h))

-- as it did where the entries rise
pub without_item-between : (c : Content) (at : ℕ) → IsContent c → at < length c.items
    → (0 < at → is_below (entry_before c.items at) (item_at c.items at).entry ≡ true) → (at + 1 < length c.items → is_below (item_at c.items at).entry (item_at c.items (at + 1)).entry ≡ true)
    → length (item_bytes c) ≤ length (item_bytes (without_item c at)) + 1008
without_item-between c at is h above below =
    omega (arith, without_item-least c at h (λ lt. shared-at c.items at (item_at c.items at).entry (item_at c.items (at + 1)).entry above (below lt)), width-le c.kind, (item_fits (width c.kind) c.items at is.items h).entry)

-- ---- how many items

packed-most : (kind : Kind) (before : List ℕ) (xs : List Item) → AllByRecursion (IsItem (width kind)) xs → length (packed (width kind) before xs) ≤ 1008 * length xs
unfolding packed
packed-most kind before [] all = omega arith
packed-most kind before (x ∷ xs) all =
    omega (arith, length-append (packed_item (width kind) before x) (packed (width kind) x.entry xs), item-bytes-le kind before x all.0.entry, packed-most kind x.entry xs all.1)

-- an item takes at most 1008 bytes
pub size-most : (c : Content) → IsContent c → length (item_bytes c) ≤ 4 + 1008 * length c.items
size-most c is = omega (arith, own-size c, first-size c.kind c.first, packed-most c.kind [] c.items is.items)

-- a page that isn't low has three items at least
pub three-items : (c : Content) → IsContent c → 2045 ≤ length (item_bytes c) → 3 ≤ length c.items
three-items c is low = omega (arith, size-most c is)

-- ---- two pages in one

-- items take no fewer bytes than their last entry has
last-long : (w : ℕ) (before : List ℕ) (xs : List Item) → length (last_entry before xs) ≤ length before + length (packed w before xs)
unfolding packed
last-long w before [] = omega arith
last-long w before (x ∷ xs) =
    omega (arith, last-long w x.entry xs, length-packed_item w before x, (shared-le before x.entry).0, length-append (packed_item w before x) (packed w x.entry xs))

last-within : (c : Content) → length (entry_before c.items (length c.items)) ≤ length (item_bytes c)
last-within c =
    let last : last_entry [] c.items ≡ entry_before c.items (length c.items) = ap (last_entry []) (sym (take_all (length c.items) c.items (omega arith))) ∙ last_entry-before c.items (length c.items) (omega arith) in
    omega (arith, ap length last, last-long (width c.kind) [] c.items, own-size c)

-- a page with the items of another is no shorter than it was
pub joined-left : (c d : Content) (between : List ℕ) → length (item_bytes c) ≤ length (item_bytes (joined c between d))
joined-left c d between =
    omega (arith, ap length (joined-bytes c d between), length-append (item_bytes c) (packed (width c.kind) (entry_before c.items (length c.items)) (taken_over c.kind between d.first d.items)))

-- nor shorter than the other
pub joined-right : (c d : Content) (between : List ℕ) → d.kind ≡ c.kind → length (item_bytes d) ≤ length (item_bytes (joined c between d))
joined-right c d between kind = by c.kind refl
  where
    last : List ℕ
    last = entry_before c.items (length c.items)

    first : List ℕ
    first = (item_at d.items 0).entry

    by : (b : Kind) → c.kind ≡ b → length (item_bytes d) ≤ length (item_bytes (joined c between d))
    by Leaf e = omega (arith, joined-leaf c d between (shared last first) e kind refl, (shared-le last first).0, last-within c)
    by Node e = omega (arith, joined-node c d between (shared last between) (shared between first) e kind refl refl, (shared-le last between).0, last-within c, (shared-le between first).0)

-- ---- two halves

-- halves of a page that one more item may not fit into aren't low
pub halves-least : (c : Content) (at : ℕ) → AreHalves c at → 7169 < length (item_bytes c) → (2045 ≤ length (item_bytes (left_half c at))) × (2045 ≤ length (item_bytes (right_half c at)))
halves-least c at is many = (omega (arith, is.left_least), omega (arith, is.right_least))

-- and each of them has room for an item
pub halves-room : (c : Content) (at : ℕ) → AreHalves c at → length (item_bytes c) ≤ 8177 → (length (item_bytes (left_half c at)) + 1008 ≤ 8177) × (length (item_bytes (right_half c at)) + 1008 ≤ 8177)
halves-room c at is fits = (omega (arith, is.left_most), omega (arith, is.right_most))

-- The position that is nearest to half of the item bytes.
use Rattle.std.proofs.Common.{◌≡◌, ℕ, zero, suc, ◌+◌, ◌-◌, ◌*◌, ◌≤◌, ◌<◌, List, length, drop, refl, ap, ◌∙◌, arith, inl, inr}
use Rattle.std.specs.List.{AllByRecursion}
use Rattle.std.proofs.lemmas.Bool.{cases_lt}
use Rattle.std.proofs.lemmas.List.{length-append}
use Rattle.aria_keypage.specs.Item.{Item, IsItem, item_at, entry_before}
use Rattle.aria_keypage.specs.Packed.{packed_item, packed}
use Rattle.aria_keypage.specs.Content.{Content, width, item_bytes}
use Rattle.aria_keypage.specs.Split.{left_half, from_half, IsMiddle}
use Rattle.aria_keypage.proofs.Spliced.{bytes_before, length-bytes_before, length-packed_item, item-bytes-le, drop-at}
use Rattle.aria_keypage.proofs.Stored.{shared-le}
use Rattle.aria_keypage.proofs.Left.{item_fits}

-- the number of bytes that are left from a position on
abbrev pub left_size : ℕ → List Item → ℕ → ℕ
left_size w xs at = length (packed w (entry_before xs at) (drop at xs))

-- the item bytes before a position, and those from there on
pub half-size : (c : Content) (at : ℕ) → at ≤ length c.items → length (item_bytes (left_half c at)) + left_size (width c.kind) c.items at ≡ length (item_bytes c)
unfolding item_bytes bytes_before
half-size c at h = length-bytes_before c at h

-- behind an item there is less left, by what it takes
pub left-next : (w : ℕ) (xs : List Item) (at : ℕ) → at < length xs → left_size w xs at ≡ length (packed_item w (entry_before xs at) (item_at xs at)) + left_size w xs (suc at)
unfolding packed
left-next w xs at h =
    ap (λ (l : List Item). length (packed w (entry_before xs at) l)) (drop-at xs at h) ∙ length-append (packed_item w (entry_before xs at) (item_at xs at)) (packed w (item_at xs at).entry (drop (suc at) xs))

-- an item takes its width and 3 bytes at least
pub item-some : (w : ℕ) (before : List ℕ) (x : Item) → 3 + w ≤ length (packed_item w before x)
item-some w before x = omega (arith, length-packed_item w before x, (shared-le before x.entry).1)

falls-next : (w : ℕ) (xs : List Item) (at : ℕ) → at < length xs → left_size w xs (suc at) < left_size w xs at
falls-next w xs at h = omega (arith, left-next w xs at h, item-some w (entry_before xs at) (item_at xs at))

-- what is left falls from position to position
pub left-falls : (w : ℕ) (xs : List Item) (i k : ℕ) → i < k → k ≤ length xs → left_size w xs k < left_size w xs i
left-falls w xs i zero h g = absurd (omega arith)
left-falls w xs i (suc k) h g = elim (cases_lt i k) [
  | inl lt ↦ omega (arith, left-falls w xs i k lt (omega arith), falls-next w xs k (omega arith))
  | inr ge ↦
      let same : i ≡ k = omega arith in
      omega (arith, falls-next w xs k (omega arith), ap (left_size w xs) same)
]

-- a position is passed as long as the next one is nearer
abbrev pub Passed : ℕ → List Item → ℕ → ℕ → Type 0
Passed w xs size at = (k : ℕ) → suc k ≡ at → size < left_size w xs k + left_size w xs at

-- the distances from half, by what is left
nearer : (s a b la lb : ℕ) → a + la ≡ s → b + lb ≡ s → la < lb → s < la + lb → (2 * a - s) + (s - 2 * a) < (2 * b - s) + (s - 2 * b)
nearer s a b la lb ea eb h g = omega arith

no_farther : (s a b la lb : ℕ) → a + la ≡ s → b + lb ≡ s → lb ≤ la → la + lb ≤ s → (2 * a - s) + (s - 2 * a) ≤ (2 * b - s) + (s - 2 * b)
no_farther s a b la lb ea eb h g = omega arith

-- the position whose next one isn't nearer
middle-lower : (c : Content) (at other : ℕ) → at ≤ length c.items → Passed (width c.kind) c.items (length (item_bytes c)) at → other < at → from_half c at < from_half c other
middle-lower c zero other h passed lt = absurd (omega arith)
middle-lower c (suc k) other h passed lt =
    let w : ℕ = width c.kind in
    let far : left_size w c.items k ≤ left_size w c.items other = elim (cases_lt other k) [
      | inl low ↦ omega (arith, left-falls w c.items other k low (omega arith))
      | inr ge ↦ let same : other ≡ k = omega arith in omega (arith, ap (left_size w c.items) same)
    ] in
    nearer (length (item_bytes c)) (length (item_bytes (left_half c (suc k)))) (length (item_bytes (left_half c other))) (left_size w c.items (suc k)) (left_size w c.items other)
    (half-size c (suc k) h) (half-size c other (omega arith)) (left-falls w c.items other (suc k) lt h) (omega (arith, passed k refl))

middle-nearest : (c : Content) (at other : ℕ) → at ≤ length c.items → other ≤ length c.items → Passed (width c.kind) c.items (length (item_bytes c)) at
    → (at < length c.items → left_size (width c.kind) c.items at + left_size (width c.kind) c.items (suc at) ≤ length (item_bytes c)) → from_half c at ≤ from_half c other
middle-nearest c at other h g passed stop = elim (cases_lt other at) [
  | inl lt ↦ omega (arith, middle-lower c at other h passed lt)
  | inr ge ↦ elim (cases_lt at other) [
    | inl lt ↦
        let w : ℕ = width c.kind in
        let near : left_size w c.items other ≤ left_size w c.items (suc at) = elim (cases_lt (suc at) other) [
          | inl more ↦ omega (arith, left-falls w c.items (suc at) other more g)
          | inr le ↦ let same : other ≡ suc at = omega arith in omega (arith, ap (left_size w c.items) same)
        ] in
        no_farther (length (item_bytes c)) (length (item_bytes (left_half c at))) (length (item_bytes (left_half c other))) (left_size w c.items at) (left_size w c.items other)
        (half-size c at h) (half-size c other g) (omega (arith, left-falls w c.items at other lt g)) (omega (arith, stop (omega arith)))
    | inr le ↦ let same : at ≡ other = omega arith in omega (arith, ap (from_half c) same)
  ]
]

pub middle-is : (c : Content) (at size : ℕ) → at ≤ length c.items → size ≡ length (item_bytes c) → Passed (width c.kind) c.items size at
    → (at < length c.items → left_size (width c.kind) c.items at + left_size (width c.kind) c.items (suc at) ≤ size) → IsMiddle c at
middle-is c at size h es passed stop =
    let passed_all : Passed (width c.kind) c.items (length (item_bytes c)) at = λ k e. omega (arith, passed k e) in
    record {
      within = h;
      nearest = λ other g. middle-nearest c at other h g passed_all (λ lt. omega (arith, stop lt));
      lower = λ other lt. middle-lower c at other h passed_all lt;
    }

-- the middle is as near to half as half of an item
up-near : (s a b la lb n : ℕ) → a + la ≡ s → b + lb ≡ s → la ≡ n + lb → n ≤ 1008 → (2 * a - s) + (s - 2 * a) ≤ (2 * b - s) + (s - 2 * b) → 0 < n → s ≤ 2 * a + 1008
up-near s a b la lb n ea eb e most near some = omega arith

down-near : (s a b la lb n : ℕ) → a + la ≡ s → b + lb ≡ s → lb ≡ n + la → n ≤ 1008 → (2 * a - s) + (s - 2 * a) < (2 * b - s) + (s - 2 * b) → 0 < n → 2 * a ≤ s + 1008
down-near s a b la lb n ea eb e most near some = omega arith

pub left-least : (c : Content) (at : ℕ) → AllByRecursion (IsItem (width c.kind)) c.items → IsMiddle c at → at < length c.items → length (item_bytes c) ≤ 2 * length (item_bytes (left_half c at)) + 1008
left-least c at all is h =
    let w : ℕ = width c.kind in
    let x : Item = item_at c.items at in
    let n : ℕ = length (packed_item w (entry_before c.items at) x) in
    up-near (length (item_bytes c)) (length (item_bytes (left_half c at))) (length (item_bytes (left_half c (suc at)))) (left_size w c.items at) (left_size w c.items (suc at)) n
    (half-size c at is.within) (half-size c (suc at) (omega arith)) (left-next w c.items at h) (item-bytes-le c.kind (entry_before c.items at) x (item_fits w c.items at all h).entry)
    (is.nearest (suc at) (omega arith)) (omega (arith, item-some w (entry_before c.items at) x))

pub left-most : (c : Content) (k : ℕ) → AllByRecursion (IsItem (width c.kind)) c.items → IsMiddle c (suc k) → 2 * length (item_bytes (left_half c (suc k))) ≤ length (item_bytes c) + 1008
left-most c k all is =
    let w : ℕ = width c.kind in
    let x : Item = item_at c.items k in
    let h : k < length c.items = omega (arith, is.within) in
    let n : ℕ = length (packed_item w (entry_before c.items k) x) in
    down-near (length (item_bytes c)) (length (item_bytes (left_half c (suc k)))) (length (item_bytes (left_half c k))) (left_size w c.items (suc k)) (left_size w c.items k) n
    (half-size c (suc k) is.within) (half-size c k (omega arith)) (left-next w c.items k h) (item-bytes-le c.kind (entry_before c.items k) x (item_fits w c.items k all h).entry)
    (is.lower k (omega arith)) (omega (arith, item-some w (entry_before c.items k) x))

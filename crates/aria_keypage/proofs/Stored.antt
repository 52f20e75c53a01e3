-- An item that is read is the one that was stored, and what was stored is read again.
use Rattle.std.proofs.Common.{◌≡◌, ℕ, ◌+◌, ◌^◌, ◌<◌, ◌≤◌, List, [], ◌++◌, length, take, drop, Some, refl, sym, ap, subst, ◌∙◌, append_assoc, arith}
use Rattle.std.proofs.lemmas.List.{take_at, drop_at, append-nil, take-append-drop, length-append, length-take, length-drop}
use Rattle.std.proofs.lemmas.Option.{same_Some}
use Rattle.aria_page.specs.Field.{◌>>=◌, AreBytes, Takes}
use Rattle.aria_page.specs.Number.{number, number_of, number_at}
use Rattle.aria_page.specs.Text.{bytes_at}
use Rattle.aria_page.proofs.Fields.{AreBytes-take, bind_some, Takes-then}
use Rattle.aria_page.proofs.Numbers.{length-number, number_of-lt, number_of-number, number-number_of, number_takes, number_again}
use Rattle.aria_page.proofs.Texts.{bytes_take, bytes_again}
use Rattle.aria_keypage.specs.Item.{Item, IsItem}
use Rattle.aria_keypage.specs.Packed.{common_length, shared, packed_item}
use Rattle.aria_keypage.specs.StoredItem.{StoredItem, as_stored, stored_at, entry_of, IsStored}
use Rattle.aria_keypage.proofs.Shares.{common-le, common-same, take-common}

-- the bytes of an item as it is stored
abbrev pub raw_bytes : StoredItem → List ℕ
raw_bytes r = number 1 r.shared ++ (number 2 (length r.rest) ++ (r.rest ++ r.to))

-- what can stand in a page for an item
pub record IsRaw (width : ℕ) (r : StoredItem) : Type 0 where
  pub shared : r.shared < 256
  pub rest : length r.rest < 65536
  pub to : length r.to ≡ width
  pub to_bytes : AreBytes r.to

-- an entry shares at most 255 bytes
pub shared-lt : (before entry : List ℕ) → shared before entry < 256
unfolding shared
shared-lt before entry = omega arith

-- no more is shared than both have
pub shared-le : (before entry : List ℕ) → (shared before entry ≤ length before) × (shared before entry ≤ length entry) × (shared before entry ≤ common_length before entry)
unfolding shared
shared-le before entry = let h = common-le before entry in (omega (arith, h.0), omega (arith, h.1), omega arith)

-- an entry is what it shares and the rest of it
pub entry-again : (before entry : List ℕ) → take (shared before entry) before ++ drop (shared before entry) entry ≡ entry
entry-again before entry =
    ap (λ (l : List ℕ). l ++ drop (shared before entry) entry) (take-common (shared before entry) before entry (shared-le before entry).2)
    ∙ take-append-drop (shared before entry) entry

-- what is read in front are the bytes of an item
pub raw_takes : (width : ℕ) (bytes : List ℕ) (x : StoredItem × List ℕ) → AreBytes bytes → stored_at width bytes ≡ Some x → Takes bytes (raw_bytes x.0) x.1 × IsRaw width x.0
unfolding stored_at
raw_takes width bytes x fits e =
    let a = bind_some (number_at 1 bytes) (λ count. number_at 2 count.1 >>= λ len. bytes_at len.0 len.1 >>= λ rest. bytes_at width rest.1 >>= λ to. Some (record { shared = count.0; rest = rest.0; to = to.0 }, to.1)) x e in
    let b = bind_some (number_at 2 a.0.1) (λ len. bytes_at len.0 len.1 >>= λ rest. bytes_at width rest.1 >>= λ to. Some (record { shared = a.0.0; rest = rest.0; to = to.0 }, to.1)) x a.2 in
    let c = bind_some (bytes_at b.0.0 b.0.1) (λ rest. bytes_at width rest.1 >>= λ to. Some (record { shared = a.0.0; rest = rest.0; to = to.0 }, to.1)) x b.2 in
    let d = bind_some (bytes_at width c.0.1) (λ to. Some (record { shared = a.0.0; rest = c.0.0; to = to.0 }, to.1)) x c.2 in
    let one = number_takes 1 bytes a.0 fits a.1 in
    let two = number_takes 2 a.0.1 b.0 one.0.rest_bytes b.1 in
    let three = bytes_take b.0.0 b.0.1 c.0 two.0.rest_bytes c.1 in
    let four = bytes_take width c.0.1 d.0 three.0.rest_bytes d.1 in
    let last = Takes-then b.0.1 c.0.0 c.0.1 d.0.0 d.0.1 three.0 four.0 in
    let counted : Takes a.0.1 (number 2 (length c.0.0)) b.0.1 = subst (λ (n : ℕ). Takes a.0.1 (number 2 n) b.0.1) (sym three.1) two.0 in
    let middle = Takes-then a.0.1 (number 2 (length c.0.0)) b.0.1 (c.0.0 ++ d.0.0) d.0.1 counted last in
    let whole = Takes-then bytes (number 1 a.0.0) a.0.1 (number 2 (length c.0.0) ++ (c.0.0 ++ d.0.0)) d.0.1 one.0 middle in
    let front : take width c.0.1 ≡ d.0.0 = ap (take width) four.0.parts ∙ take_at d.0.0 d.0.1 width four.1 in
    let bytes_there : AreBytes d.0.0 = subst AreBytes front (AreBytes-take width c.0.1 three.0.rest_bytes) in
    let made : StoredItem × List ℕ = (record { shared = a.0.0; rest = c.0.0; to = d.0.0 }, d.0.1) in
    let low : a.0.0 < 256 = one.1 in
    let short : length c.0.0 < 65536 = omega (arith, two.1, three.1) in
    let good : IsRaw width made.0 = record { shared = low; rest = short; to = four.1; to_bytes = bytes_there } in
    subst (λ (y : StoredItem × List ℕ). Takes bytes (raw_bytes y.0) y.1 × IsRaw width y.0) (same_Some made x d.2) (whole, good)

-- an item that is stored is read, and what follows is left
pub raw_again : (width : ℕ) (r : StoredItem) (rest : List ℕ) → r.shared < 256 → length r.rest < 65536 → length r.to ≡ width → stored_at width (raw_bytes r ++ rest) ≡ Some (r, rest)
unfolding stored_at
raw_again width r rest low short size =
    let regrouped : raw_bytes r ++ rest ≡ number 1 r.shared ++ (number 2 (length r.rest) ++ (r.rest ++ (r.to ++ rest))) = simp append_assoc in
    ap (stored_at width) regrouped
    ∙ rw (number_again 1 r.shared (number 2 (length r.rest) ++ (r.rest ++ (r.to ++ rest))) low, number_again 2 (length r.rest) (r.rest ++ (r.to ++ rest)) short, bytes_again (length r.rest) r.rest (r.to ++ rest) refl, bytes_again width r.to rest size) refl

-- an item is stored by its bytes
pub packed_item_is : (width : ℕ) (before : List ℕ) (x : Item) → packed_item width before x ≡ raw_bytes (as_stored width before x)
unfolding packed_item
packed_item_is width before x = refl

-- an item that is packed is read, and what follows is left
pub item_again : (width : ℕ) (before : List ℕ) (x : Item) (rest : List ℕ) → IsItem width x → stored_at width (packed_item width before x ++ rest) ≡ Some (as_stored width before x, rest)
unfolding packed_item
item_again width before x rest is =
    let short : length (drop (shared before x.entry) x.entry) < 65536 = omega (arith, is.entry, length-drop (shared before x.entry) x.entry) in
    raw_again width (as_stored width before x) rest (shared-lt before x.entry) short (length-number width x.to)

-- the item that is stored so behind an entry
abbrev pub item_of : List ℕ → ℕ → StoredItem → Item
item_of before width r = record { entry = entry_of before r; to = number_of width r.to }

-- what is stored as it must be is stored of that item
pub raw_of-item_of : (width : ℕ) (before : List ℕ) (r : StoredItem) → IsRaw width r → IsStored before r → as_stored width before (item_of before width r) ≡ r
raw_of-item_of width before r is stored =
    let n : ℕ = shared before (entry_of before r) in
    let long : r.shared ≤ length before = omega (arith, stored.shares, (shared-le before (entry_of before r)).0) in
    let rest : drop n (entry_of before r) ≡ r.rest = ap (λ (k : ℕ). drop k (entry_of before r)) stored.shares ∙ drop_at (take r.shared before) r.rest r.shared (omega (arith, length-take r.shared before)) in
    let to : number width (number_of width r.to) ≡ r.to = number-number_of width r.to is.to_bytes is.to in
    λ i. record { shared = stored.shares i; rest = rest i; to = to i }

-- and that item can be stored
pub item_of-fits : (width : ℕ) (before : List ℕ) (r : StoredItem) → IsRaw width r → IsStored before r → IsItem width (item_of before width r)
item_of-fits width before r is stored = record { entry = stored.fits; to = number_of-lt width r.to is.to_bytes }

-- what was stored of an item stands as it must
pub stored_of : (width : ℕ) (before : List ℕ) (x : Item) → IsItem width x → IsStored before (as_stored width before x)
stored_of width before x is =
    record { shares = ap (shared before) (entry-again before x.entry); fits = omega (arith, is.entry, ap length (entry-again before x.entry)) }

-- the item is had again from what was stored
pub item_of-raw_of : (width : ℕ) (before : List ℕ) (x : Item) → x.to < 256 ^ width → item_of before width (as_stored width before x) ≡ x
item_of-raw_of width before x fits =
    let to : number_of width (number width x.to) ≡ x.to = ap (number_of width) (sym (append-nil (number width x.to))) ∙ number_of-number width x.to [] fits in
    λ i. record { entry = entry-again before x.entry i; to = to i }

-- where an item shares no more than stands before it, its entry has these bytes in common with the one before, and those that follow
common-entry_of : (before : List ℕ) (r : StoredItem) → r.shared ≤ length before → common_length before (entry_of before r) ≡ r.shared + common_length (drop r.shared before) r.rest
common-entry_of before r low =
    let whole : common_length before (entry_of before r) ≡ common_length (take r.shared before ++ drop r.shared before) (entry_of before r) = ap (λ (l : List ℕ). common_length l (entry_of before r)) (sym (take-append-drop r.shared before)) in
    omega (arith, whole, common-same (take r.shared before) (drop r.shared before) r.rest, length-take r.shared before)

-- the length of the entry
length-entry_of : (before : List ℕ) (r : StoredItem) → r.shared ≤ length before → length (entry_of before r) ≡ r.shared + length r.rest
length-entry_of before r low = omega (arith, length-append (take r.shared before) r.rest, length-take r.shared before)

-- an item that shares more than stands before it does not stand there
pub not_stored_short : (before : List ℕ) (r : StoredItem) → length before < r.shared → IsStored before r → ⊥
not_stored_short before r h is = omega (arith, is.shares, (shared-le before (entry_of before r)).0)

-- nor does one whose entry is too long
pub not_stored_long : (before : List ℕ) (r : StoredItem) → r.shared ≤ length before → 1000 < r.shared + length r.rest → IsStored before r → ⊥
not_stored_long before r low h is = omega (arith, is.fits, length-entry_of before r low)

-- one that shares 255 bytes stands there
pub stored-full : (before : List ℕ) (r : StoredItem) → r.shared ≤ length before → r.shared + length r.rest ≤ 1000 → r.shared ≡ 255 → IsStored before r
unfolding shared
stored-full before r low fits full = record { shares = omega (arith, common-entry_of before r low); fits = omega (arith, length-entry_of before r low) }

-- one that shares less stands there exactly where the next bytes differ
pub stored-part : (before : List ℕ) (r : StoredItem) → r.shared ≤ length before → r.shared + length r.rest ≤ 1000 → r.shared < 256 → (r.shared ≡ 255 → ⊥)
    → (common_length (drop r.shared before) r.rest ≡ 0 → IsStored before r) × (IsStored before r → common_length (drop r.shared before) r.rest ≡ 0)
unfolding shared
stored-part before r low fits byte part = (
  (λ h. record { shares = omega (arith, common-entry_of before r low); fits = omega (arith, length-entry_of before r low) }),
  (λ is. omega (arith, is.shares, common-entry_of before r low)),
)

-- an item that stands there shares no more than there is, and is not too long
pub stored-bounds : (before : List ℕ) (r : StoredItem) → IsStored before r → (r.shared ≤ length before) × (r.shared + length r.rest ≤ 1000)
stored-bounds before r is =
    let low : r.shared ≤ length before = omega (arith, is.shares, (shared-le before (entry_of before r)).0) in
    (low, omega (arith, is.fits, length-entry_of before r low))

-- an item takes 3 bytes, the rest of its entry, and its width
pub length-raw_bytes : (r : StoredItem) → length (raw_bytes r) ≡ 3 + length r.rest + length r.to
length-raw_bytes r =
    omega (arith, length-append (number 1 r.shared) (number 2 (length r.rest) ++ (r.rest ++ r.to)), length-append (number 2 (length r.rest)) (r.rest ++ r.to), length-append r.rest r.to, length-number 1 r.shared, length-number 2 (length r.rest))

-- Packed items with one more or one fewer of them.
use Rattle.std.proofs.Common.{◌≡◌, ℕ, zero, suc, ◌+◌, ◌-◌, ◌≤◌, ◌<◌, min, List, [], ◌∷◌, ◌++◌, length, take, drop, refl, sym, ap, subst, ◌∙◌, append_assoc, add-one, arith}
use Rattle.std.specs.List.{AllByRecursion, sum_by}
use Rattle.std.proofs.lemmas.List.{take-append-drop, drop_more, drop_all, length-append, length-drop}
use Rattle.aria_page.specs.declared.edit.Edit.{Edit}
use Rattle.aria_page.specs.Edit.{edit_bytes}
use Rattle.aria_page.specs.Number.{number}
use Rattle.aria_page.proofs.Numbers.{length-number, number-one}
use Rattle.aria_keypage.specs.declared.kind.Kind.{Kind}
use Rattle.aria_keypage.specs.declared.kind.Kind.TheVariants.{Leaf, Node}
use Rattle.aria_keypage.specs.Item.{Item, IsItem, item_at, entry_before}
use Rattle.aria_keypage.specs.Packed.{common_length, shared, packed_item, packed, IsLeft}
use Rattle.aria_keypage.specs.Pieces.{first_packed, rest_packed}
use Rattle.aria_keypage.specs.Content.{Content, width, first_bytes, item_bytes, IsContent}
use Rattle.aria_keypage.specs.Change.{Changes, with_item, without_item, inserted_bytes, removed_bytes, patch}
use Rattle.aria_keypage.proofs.Shares.{common-both, common-turn}
use Rattle.aria_keypage.proofs.Counted.{last_entry, packed-append, all-append}
use Rattle.aria_keypage.proofs.Patching.{patch-changes}
use Rattle.aria_keypage.proofs.Stored.{shared-le, shared-lt}

-- packed items are the first and the rest
pub pieces : (width : ℕ) (before : List ℕ) (xs : List Item) → packed width before xs ≡ first_packed width before xs ++ rest_packed width xs
unfolding packed first_packed rest_packed
pieces width before [] = refl
pieces width before (x ∷ xs) = refl

-- the last entry of the items before a position is the one before it
last_entry-take : (before : List ℕ) (xs : List Item) (at : ℕ) → at < length xs → last_entry before (take (suc at) xs) ≡ (item_at xs at).entry
last_entry-take before [] at h = absurd (omega arith)
last_entry-take before (x ∷ xs) zero h = refl
last_entry-take before (x ∷ xs) (suc at) h = last_entry-take x.entry xs at (omega arith)

pub last_entry-before : (xs : List Item) (at : ℕ) → at ≤ length xs → last_entry [] (take at xs) ≡ entry_before xs at
last_entry-before xs zero h = refl
last_entry-before xs (suc at) h = last_entry-take [] xs at (omega arith)

-- items put behind the first ones of others
pub packed-behind : (width : ℕ) (xs ys : List Item) (at : ℕ) → at ≤ length xs → packed width [] (take at xs ++ ys) ≡ packed width [] (take at xs) ++ packed width (entry_before xs at) ys
packed-behind width xs ys at h =
    packed-append width [] (take at xs) ys ∙ ap (λ (l : List ℕ). packed width [] (take at xs) ++ packed width l ys) (last_entry-before xs at h)

-- the items, cut at a position
pub packed-cut : (width : ℕ) (xs : List Item) (at : ℕ) → at ≤ length xs → packed width [] xs ≡ packed width [] (take at xs) ++ packed width (entry_before xs at) (drop at xs)
packed-cut width xs at h = ap (packed width []) (sym (take-append-drop at xs)) ∙ packed-behind width xs (drop at xs) at h

-- one of many is the first from its position on
pub drop-at : (xs : List Item) (at : ℕ) → at < length xs → drop at xs ≡ item_at xs at ∷ drop (suc at) xs
drop-at xs at h = drop_more xs at (record { entry = []; to = 0 }) h ∙ ap (λ (k : ℕ). item_at xs at ∷ drop k xs) (add-one at)

-- behind an entry, an item and the first of those after it
both-packed : (width : ℕ) (before : List ℕ) (x : Item) (xs : List Item) → packed width before (x ∷ xs) ≡ (packed_item width before x ++ first_packed width x.entry xs) ++ rest_packed width xs
unfolding packed
both-packed width before x xs =
    ap (λ (l : List ℕ). packed_item width before x ++ l) (pieces width x.entry xs) ∙ sym (append_assoc (packed_item width before x) (first_packed width x.entry xs) (rest_packed width xs))

pub all-take : (P : Item → Type 0) (n : ℕ) (xs : List Item) → AllByRecursion P xs → AllByRecursion P (take n xs)
all-take P zero xs h = tt
all-take P (suc n) [] h = tt
all-take P (suc n) (x ∷ xs) h = (h.0, all-take P n xs h.1)

pub all-drop : (P : Item → Type 0) (n : ℕ) (xs : List Item) → AllByRecursion P xs → AllByRecursion P (drop n xs)
all-drop P zero xs h = h
all-drop P (suc n) [] h = tt
all-drop P (suc n) (x ∷ xs) h = all-drop P n xs h.1

-- the bytes of the items before a position, with a node's first child
unfoldable pub bytes_before : Content → ℕ → List ℕ
bytes_before c at = first_bytes c.kind c.first ++ packed (width c.kind) [] (take at c.items)

-- how many they are
pub length-bytes_before : (c : Content) (at : ℕ) → at ≤ length c.items → length (bytes_before c at) + length (packed (width c.kind) (entry_before c.items at) (drop at c.items)) ≡ length (item_bytes c)
unfolding bytes_before item_bytes
length-bytes_before c at h =
    let first : List ℕ = first_bytes c.kind c.first in
    let front : List ℕ = packed (width c.kind) [] (take at c.items) in
    let back : List ℕ = packed (width c.kind) (entry_before c.items at) (drop at c.items) in
    omega (arith, length-append first front, length-append first (packed (width c.kind) [] c.items), ap length (packed-cut (width c.kind) c.items at h), length-append front back)

-- the item bytes, cut at a position
bytes-cut : (c : Content) (at : ℕ) (ys : List Item) (tail : List ℕ) → at ≤ length c.items → packed (width c.kind) (entry_before c.items at) ys ≡ tail
    → first_bytes c.kind c.first ++ packed (width c.kind) [] (take at c.items ++ ys) ≡ bytes_before c at ++ tail
unfolding bytes_before
bytes-cut c at ys tail h e =
    let first : List ℕ = first_bytes c.kind c.first in
    let front : List ℕ = packed (width c.kind) [] (take at c.items) in
    ap (λ (l : List ℕ). first ++ l) (packed-behind (width c.kind) c.items ys at h ∙ ap (λ (l : List ℕ). front ++ l) e) ∙ sym (append_assoc first front tail)

-- an item put at a position
pub insert-changes : (c : Content) (at : ℕ) (x : Item) (before old behind : ℕ) (new : List ℕ) → IsContent c → IsItem (width c.kind) x → at ≤ length c.items → length (item_bytes (with_item c at x)) ≤ 8177
    → before + length (packed (width c.kind) (entry_before c.items at) (drop at c.items)) ≡ length (item_bytes c)
    → behind ≡ length (rest_packed (width c.kind) (drop at c.items))
    → old + behind ≡ length (packed (width c.kind) (entry_before c.items at) (drop at c.items))
    → new ≡ packed_item (width c.kind) (entry_before c.items at) x ++ first_packed (width c.kind) x.entry (drop at c.items)
    → Changes (patch before old behind new) c (with_item c at x) × (before + length new + behind ≤ 8177)
unfolding item_bytes
insert-changes c at x before old behind new is fits h room eb ez eo en =
    let w : ℕ = width c.kind in
    let p : List ℕ = entry_before c.items at in
    let tail : List Item = drop at c.items in
    let a : List ℕ = bytes_before c at in
    let m : List ℕ = first_packed w p tail in
    let z : List ℕ = rest_packed w tail in
    let d : Content = with_item c at x in
    let all : AllByRecursion (IsItem w) d.items = all-append (IsItem w) (take at c.items) (x ∷ tail) (all-take (IsItem w) at c.items is.items) (fits, all-drop (IsItem w) at c.items is.items) in
    let good : IsContent d = record { key = is.key; first = is.first; items = all; size = room } in
    let from : item_bytes c ≡ a ++ (m ++ z) =
    ap (λ (l : List Item). first_bytes c.kind c.first ++ packed w [] l) (sym (take-append-drop at c.items)) ∙ bytes-cut c at tail (m ++ z) h (pieces w p tail) in
    let into : item_bytes d ≡ a ++ (new ++ z) = bytes-cut c at (x ∷ tail) (new ++ z) h (both-packed w p x tail ∙ ap (λ (l : List ℕ). l ++ z) (sym en)) in
    let na : length a ≡ before = omega (arith, length-bytes_before c at h, eb) in
    let nz : length z ≡ behind = sym ez in
    let nm : length m ≡ old = omega (arith, ap length (pieces w p tail), length-append m z, eo, ez) in
    (subst (λ (e : List Edit). Changes e c d) (λ i. patch (na i) (nm i) (nz i) new) (patch-changes c d a m z new is good refl refl from into), omega (arith, room, ap length into, length-append a (new ++ z), length-append new z, na, nz))

-- how many bytes an item takes
pub length-packed_item : (width : ℕ) (before : List ℕ) (x : Item) → length (packed_item width before x) + shared before x.entry ≡ 3 + width + length x.entry
unfolding packed_item
length-packed_item width before x =
    let n : ℕ = shared before x.entry in
    let rest : List ℕ = drop n x.entry in
    omega (arith, length-append (number 1 n) (number 2 (length rest) ++ (rest ++ number width x.to)), length-append (number 2 (length rest)) (rest ++ number width x.to), length-append rest (number width x.to), length-number 1 n, length-number 2 (length rest), length-number width x.to, length-drop n x.entry, (shared-le before x.entry).1)

-- what an entry shares with a second and that one with a third, the third shares with the first, or more
shared-over : (p y z : List ℕ) → min (shared p y) (shared y z) ≤ shared p z
unfolding shared
shared-over p y z =
    let n : ℕ = min (common_length p y) (common_length y z) in
    let both : n ≤ common_length p z = common-both y p z n (omega (arith, common-turn p y)) (omega arith) in
    omega arith

-- taking an item out makes the bytes no more
pub shorter-without : (width : ℕ) (before : List ℕ) (y : Item) (xs : List Item) → length (first_packed width before xs) ≤ length (packed_item width before y) + length (first_packed width y.entry xs)
unfolding first_packed
shorter-without width before y [] = omega arith
shorter-without width before y (z ∷ xs) =
    omega (arith, length-packed_item width before z, length-packed_item width before y, length-packed_item width y.entry z, shared-over before y.entry z.entry, (shared-le before y.entry).1, (shared-le y.entry z.entry).0)

-- an item taken from a position
pub remove-changes : (c : Content) (at : ℕ) (before old behind : ℕ) (new : List ℕ) → IsContent c → at < length c.items
    → before + length (packed (width c.kind) (entry_before c.items at) (drop at c.items)) ≡ length (item_bytes c)
    → behind ≡ length (rest_packed (width c.kind) (drop (suc at) c.items))
    → old + behind ≡ length (packed (width c.kind) (entry_before c.items at) (drop at c.items))
    → new ≡ first_packed (width c.kind) (entry_before c.items at) (drop (suc at) c.items)
    → Changes (patch before old behind new) c (without_item c at) × (before + length new + behind ≤ 8177)
unfolding item_bytes
remove-changes c at before old behind new is h eb ez eo en =
    let w : ℕ = width c.kind in
    let p : List ℕ = entry_before c.items at in
    let y : Item = item_at c.items at in
    let tail : List Item = drop (suc at) c.items in
    let a : List ℕ = bytes_before c at in
    let m : List ℕ = packed_item w p y ++ first_packed w y.entry tail in
    let z : List ℕ = rest_packed w tail in
    let d : Content = without_item c at in
    let cut : packed w p (drop at c.items) ≡ m ++ z = ap (packed w p) (drop-at c.items at h) ∙ both-packed w p y tail in
    let from : item_bytes c ≡ a ++ (m ++ z) =
    ap (λ (l : List Item). first_bytes c.kind c.first ++ packed w [] l) (sym (take-append-drop at c.items)) ∙ bytes-cut c at (drop at c.items) (m ++ z) (omega arith) cut in
    let into : item_bytes d ≡ a ++ (new ++ z) = bytes-cut c at tail (new ++ z) (omega arith) (pieces w p tail ∙ ap (λ (l : List ℕ). l ++ z) (sym en)) in
    let na : length a ≡ before = omega (arith, length-bytes_before c at (omega arith), eb) in
    let nz : length z ≡ behind = sym ez in
    let nm : length m ≡ old = omega (arith, ap length cut, length-append m z, eo, ez) in
    let less : length new ≤ length m = omega (arith, shorter-without w p y tail, ap length en, length-append (packed_item w p y) (first_packed w y.entry tail)) in
    let size : length (item_bytes d) ≤ 8177 = omega (arith, is.size, ap length from, ap length into, length-append a (m ++ z), length-append m z, length-append a (new ++ z), length-append new z, less) in
    let all : AllByRecursion (IsItem w) d.items = all-append (IsItem w) (take at c.items) tail (all-take (IsItem w) at c.items is.items) (all-drop (IsItem w) (suc at) c.items is.items) in
    let good : IsContent d = record { key = is.key; first = is.first; items = all; size = size } in (
      subst (λ (e : List Edit). Changes e c d) (λ i. patch (na i) (nm i) (nz i) new) (patch-changes c d a m z new is good refl refl from into),
      omega (arith, size, ap length into, length-append a (new ++ z), length-append new z, na, nz),
    )

-- an item, added field by field
pub pushed-item : (width n s : ℕ) (old before entry rest to a b c d size : List ℕ) → s ≡ shared before entry → rest ≡ drop s entry → to ≡ number width n → size ≡ number 2 (length rest) → a ≡ old ++ s ∷ [] → b ≡ a ++ size → c ≡ b ++ rest → d ≡ c ++ to
    → d ≡ old ++ packed_item width before (record { entry = entry; to = n })
unfolding packed_item
pushed-item width n s old before entry rest to a b c d size es er et ez ea eb ec ed =
    let real : ℕ = shared before entry in
    let one : number 1 real ≡ real ∷ [] = number-one real (shared-lt before entry) in
    let rest_is : rest ≡ drop real entry = er ∙ ap (λ (k : ℕ). drop k entry) es in
    let whole : d ≡ (((old ++ s ∷ []) ++ size) ++ rest) ++ to = ed ∙ (λ i. (ec ∙ ap (λ (l : List ℕ). l ++ rest) (eb ∙ ap (λ (l : List ℕ). l ++ size) ea)) i ++ to) in
    let named : (((old ++ s ∷ []) ++ size) ++ rest) ++ to ≡ (((old ++ number 1 real) ++ number 2 (length (drop real entry))) ++ drop real entry) ++ number width n =
    (λ i. (((old ++ (ap (λ (k : ℕ). k ∷ []) es ∙ sym one) i) ++ (ez ∙ ap (λ (l : List ℕ). number 2 (length l)) rest_is) i) ++ rest_is i) ++ et i) in
    whole ∙ named ∙ simp append_assoc

-- what is left from a position on is no more than all, and what is left behind the item there no more than that
pub left-sizes : (c : Content) (at size left behind : ℕ) → at ≤ length c.items → size ≡ length (item_bytes c) → left ≡ length (packed (width c.kind) (entry_before c.items at) (drop at c.items)) → behind ≡ length (rest_packed (width c.kind) (drop at c.items))
    → (left ≤ size) × (behind ≤ left)
left-sizes c at size left behind h es el eb = (
  omega (arith, length-bytes_before c at h, es, el),
  omega (arith, el, eb, ap length (pieces (width c.kind) (entry_before c.items at) (drop at c.items)), length-append (first_packed (width c.kind) (entry_before c.items at) (drop at c.items)) (rest_packed (width c.kind) (drop at c.items))),
)

-- past the last item there is none
pub first-none : (width : ℕ) (entry : List ℕ) (xs : List Item) (at : ℕ) → length xs ≤ at → first_packed width entry (drop at xs) ≡ []
unfolding first_packed
first-none width entry xs at h = ap (first_packed width entry) (drop_all at xs h)

-- the first from a position on is the item there
pub first-at : (width : ℕ) (entry : List ℕ) (xs : List Item) (at : ℕ) → at < length xs → first_packed width entry (drop at xs) ≡ packed_item width entry (item_at xs at)
unfolding first_packed
first-at width entry xs at h = ap (first_packed width entry) (drop-at xs at h)

-- and the rest are those from the next position on
pub rest-at : (width : ℕ) (xs : List Item) (at : ℕ) → at < length xs → rest_packed width (drop at xs) ≡ packed width (entry_before xs (at + 1)) (drop (at + 1) xs)
unfolding rest_packed
rest-at width xs at h = ap (rest_packed width) (drop-at xs at h) ∙ ap (λ (k : ℕ). packed width (entry_before xs k) (drop k xs)) (sym (add-one at))

-- a target or a child takes at most 5 bytes
pub width-le : (kind : Kind) → width kind ≤ 5
width-le Leaf = omega arith
width-le Node = omega arith

-- an item takes at most 1008 bytes
pub item-bytes-le : (kind : Kind) (before : List ℕ) (x : Item) → length x.entry ≤ 1000 → length (packed_item (width kind) before x) ≤ 1008
item-bytes-le kind before x h = omega (arith, length-packed_item (width kind) before x, width-le kind)

pub first-bytes-le : (kind : Kind) (entry : List ℕ) (xs : List Item) → AllByRecursion (IsItem (width kind)) xs → length (first_packed (width kind) entry xs) ≤ 1008
unfolding first_packed
first-bytes-le kind entry [] all = omega arith
first-bytes-le kind entry (x ∷ xs) all = item-bytes-le kind entry x all.0.entry

-- the edits bring the new bytes and their number
pub patch-bytes : (before old behind : ℕ) (bytes : List ℕ) → sum_by edit_bytes (patch before old behind bytes) ≡ length bytes + 2
patch-bytes before old behind bytes = omega (arith, length-number 2 (before + length bytes + behind))

-- the bytes of an item put in, and of the one behind it
pub insert-bytes : (c : Content) (at : ℕ) (x : Item) (new : List ℕ) → IsContent c → length x.entry ≤ 1000 → new ≡ packed_item (width c.kind) (entry_before c.items at) x ++ first_packed (width c.kind) x.entry (drop at c.items) → length new ≤ 2016
insert-bytes c at x new is fits e =
    omega (arith, ap length e, length-append (packed_item (width c.kind) (entry_before c.items at) x) (first_packed (width c.kind) x.entry (drop at c.items)), item-bytes-le c.kind (entry_before c.items at) x fits, first-bytes-le c.kind x.entry (drop at c.items) (all-drop (IsItem (width c.kind)) at c.items is.items))

-- the bytes of the one behind an item taken out
pub remove-bytes : (c : Content) (at : ℕ) (new : List ℕ) → IsContent c → new ≡ first_packed (width c.kind) (entry_before c.items at) (drop (suc at) c.items) → length new ≤ 1008
remove-bytes c at new is e = omega (arith, ap length e, first-bytes-le c.kind (entry_before c.items at) (drop (suc at) c.items) (all-drop (IsItem (width c.kind)) (suc at) c.items is.items))

-- a page made into another by a patch, at the sizes that were counted
pub record Patches (c d : Content) (size left behind : ℕ) (new : List ℕ) (most : ℕ) : Type 0 where
  pub changes : Changes (patch (size - left) (left - behind) behind new) c d
  pub old_fits : size - left + (left - behind) + behind ≤ 8177
  pub new_fits : size - left + length new + behind ≤ 8177
  pub few : length new ≤ most

-- what is left behind the next position is no more than what is left from a position on
pub behind-next : (c : Content) (at left behind : ℕ) → at < length c.items → left ≡ length (packed (width c.kind) (entry_before c.items at) (drop at c.items)) → behind ≡ length (rest_packed (width c.kind) (drop (at + 1) c.items)) → behind ≤ left
unfolding packed
behind-next c at left behind h el eb =
    let tail : List Item = drop (suc at) c.items in
    let y : Item = item_at c.items at in
    let cut : packed (width c.kind) (entry_before c.items at) (drop at c.items) ≡ packed_item (width c.kind) (entry_before c.items at) y ++ packed (width c.kind) y.entry tail = ap (packed (width c.kind) (entry_before c.items at)) (drop-at c.items at h) in
    omega (arith, el, ap length cut, length-append (packed_item (width c.kind) (entry_before c.items at) y) (packed (width c.kind) y.entry tail), ap length (pieces (width c.kind) y.entry tail), length-append (first_packed (width c.kind) y.entry tail) (rest_packed (width c.kind) tail), eb ∙ ap (λ (n : ℕ). length (rest_packed (width c.kind) (drop n c.items))) (add-one at))

-- an item taken out
pub removed : (c : Content) (at size left behind : ℕ) (before start new : List ℕ) → IsContent c → at < length c.items
    → size ≡ length (item_bytes c) → left ≡ length (packed (width c.kind) (entry_before c.items at) (drop at c.items)) → behind ≡ length (rest_packed (width c.kind) (drop (at + 1) c.items))
    → before ≡ entry_before c.items at → start ≡ [] → new ≡ start ++ first_packed (width c.kind) before (drop (at + 1) c.items)
    → Patches c (without_item c at) size left behind new 1008
removed c at size left behind before start new is h es el eb ep e0 en =
    let behind_is : behind ≡ length (rest_packed (width c.kind) (drop (suc at) c.items)) = eb ∙ ap (λ (n : ℕ). length (rest_packed (width c.kind) (drop n c.items))) (add-one at) in
    let new_is : new ≡ first_packed (width c.kind) (entry_before c.items at) (drop (suc at) c.items) = en ∙ (λ i. e0 i ++ first_packed (width c.kind) (ep i) (drop (add-one at i) c.items)) in
    let low : left ≤ size = omega (arith, length-bytes_before c at (omega arith), es, el) in
    let inner : behind ≤ left = behind-next c at left behind h el eb in
    let whole : size - left + length (packed (width c.kind) (entry_before c.items at) (drop at c.items)) ≡ length (item_bytes c) = omega (arith, low, es, el) in
    let part : left - behind + behind ≡ length (packed (width c.kind) (entry_before c.items at) (drop at c.items)) = omega (arith, inner, el) in
    let done = remove-changes c at (size - left) (left - behind) behind new is h whole behind_is part new_is in
    record { changes = done.0; old_fits = omega (arith, low, inner, es, is.size); new_fits = done.1; few = remove-bytes c at new is new_is }

-- what those edits bring
pub removed-brings : (c : Content) (at : ℕ) (before start new : List ℕ) → before ≡ entry_before c.items at → start ≡ [] → new ≡ start ++ first_packed (width c.kind) before (drop (at + 1) c.items) → length new + 2 ≡ removed_bytes c at
removed-brings c at before start new ep e0 en = ap (λ (l : List ℕ). length l + 2) (en ∙ (λ i. e0 i ++ first_packed (width c.kind) (ep i) (drop (at + 1) c.items)))

-- the size of a page with one more item
pub with-size : (c : Content) (at : ℕ) (x : Item) → at ≤ length c.items
    → length (item_bytes (with_item c at x)) + length (first_packed (width c.kind) (entry_before c.items at) (drop at c.items)) ≡ length (item_bytes c) + length (packed_item (width c.kind) (entry_before c.items at) x) + length (first_packed (width c.kind) x.entry (drop at c.items))
unfolding item_bytes
with-size c at x h =
    let w : ℕ = width c.kind in
    let p : List ℕ = entry_before c.items at in
    let tail : List Item = drop at c.items in
    let a : List ℕ = bytes_before c at in
    let m : List ℕ = first_packed w p tail in
    let z : List ℕ = rest_packed w tail in
    let one : List ℕ = packed_item w p x in
    let two : List ℕ = first_packed w x.entry tail in
    let from : item_bytes c ≡ a ++ (m ++ z) =
    ap (λ (l : List Item). first_bytes c.kind c.first ++ packed w [] l) (sym (take-append-drop at c.items)) ∙ bytes-cut c at tail (m ++ z) h (pieces w p tail) in
    let into : item_bytes (with_item c at x) ≡ a ++ ((one ++ two) ++ z) = bytes-cut c at (x ∷ tail) ((one ++ two) ++ z) h (both-packed w p x tail) in
    omega (arith, ap length from, ap length into, length-append a (m ++ z), length-append m z, length-append a ((one ++ two) ++ z), length-append (one ++ two) z, length-append one two)

-- an item put in, at the sizes that were counted
pub record Inserts (c : Content) (at : ℕ) (x : Item) (size : ℕ) (new rest behind : List ℕ) : Type 0 where
  pub low : length rest ≤ size
  pub inner : length behind ≤ length rest
  pub size_is : size - length rest + length new + length behind ≡ length (item_bytes (with_item c at x))
  pub old_fits : size - length rest + (length rest - length behind) + length behind ≤ 8177
  pub brings : length new + 2 ≡ inserted_bytes c at x
  pub few : length new ≤ 2016
  pub changes : length (item_bytes (with_item c at x)) ≤ 8177 → Changes (patch (size - length rest) (length rest - length behind) (length behind) new) c (with_item c at x)

pub inserts : (c : Content) (at size w : ℕ) (x : Item) (before start mid new rest behind : List ℕ) → IsContent c → IsItem (width c.kind) x → size ≡ length (item_bytes c) → IsLeft (width c.kind) c.items at rest → behind ≡ rest_packed (width c.kind) (drop at c.items)
    → w ≡ width c.kind → before ≡ entry_before c.items at → start ≡ [] → mid ≡ start ++ packed_item w before x → new ≡ mid ++ first_packed (width c.kind) x.entry (drop at c.items) → Inserts c at x size new rest behind
inserts c at size w x before start mid new rest behind is fits es left eb ew ep e0 em en =
    let k : ℕ = width c.kind in
    let tail : List Item = drop at c.items in
    let p : List ℕ = entry_before c.items at in
    let one : List ℕ = packed_item k p x in
    let two : List ℕ = first_packed k x.entry tail in
    let el : length rest ≡ length (packed k p tail) = ap length left.is in
    let ez : length behind ≡ length (rest_packed k tail) = ap length eb in
    let sizes = left-sizes c at size (length rest) (length behind) left.within es el ez in
    let mid_is : mid ≡ one = em ∙ (λ i. e0 i ++ packed_item (ew i) (ep i) x) in
    let new_is : new ≡ one ++ two = en ∙ ap (λ (l : List ℕ). l ++ two) mid_is in
    let whole : size - length rest + length (packed k p tail) ≡ length (item_bytes c) = omega (arith, sizes.0, es, el) in
    let part : length rest - length behind + length behind ≡ length (packed k p tail) = omega (arith, sizes.1, el) in
    record {
      low = sizes.0;
      inner = sizes.1;
      size_is = omega (arith, with-size c at x left.within, es, el, ez, ap length (pieces k p tail), length-append (first_packed k p tail) (rest_packed k tail), ap length new_is, length-append one two, sizes.0, sizes.1);
      old_fits = omega (arith, sizes.0, sizes.1, es, is.size);
      brings = omega (arith, ap length new_is, length-append one two);
      few = insert-bytes c at x new is fits.entry new_is;
      changes = λ room. (insert-changes c at x (size - length rest) (length rest - length behind) (length behind) new is fits left.within room whole ez part new_is).0;
    }

-- behind the last one
pub grown-none : (c : Content) (at n : ℕ) (x : Item) → at ≡ length c.items → n ≡ shared (entry_before c.items at) x.entry → length (item_bytes (with_item c at x)) + n ≡ length (item_bytes c) + 3 + width c.kind + length x.entry
grown-none c at n x h en =
    let one = ap length (first-none (width c.kind) (entry_before c.items at) c.items at (omega (arith, h))) in
    let two = ap length (first-none (width c.kind) x.entry c.items at (omega (arith, h))) in
    omega (arith, with-size c at x (omega (arith, h)), one, two, length-packed_item (width c.kind) (entry_before c.items at) x, en)

-- before another one
pub grown-some : (c : Content) (at n k s : ℕ) (x : Item) → at < length c.items → n ≡ shared (entry_before c.items at) x.entry → k ≡ shared x.entry (item_at c.items at).entry → s ≡ shared (entry_before c.items at) (item_at c.items at).entry
    → length (item_bytes (with_item c at x)) + n + k ≡ length (item_bytes c) + 3 + width c.kind + length x.entry + s
grown-some c at n k s x h en ek es =
    let y : Item = item_at c.items at in
    let one = ap length (first-at (width c.kind) (entry_before c.items at) c.items at h) in
    let two = ap length (first-at (width c.kind) x.entry c.items at h) in
    omega (arith, with-size c at x (omega arith), one, two, length-packed_item (width c.kind) (entry_before c.items at) x, length-packed_item (width c.kind) (entry_before c.items at) y, length-packed_item (width c.kind) x.entry y, en, ek, es)

-- Items divided between a page and the one to its right.
use Rattle.std.proofs.Common.{◌≡◌, ℕ, zero, suc, ◌+◌, ◌-◌, ◌*◌, ◌≤◌, ◌<◌, ◌^◌, min, List, [], ◌++◌, length, take, drop, Some, None, refl, sym, ap, subst, ◌∙◌, append_assoc, add-one, arith, inl, inr}
use Rattle.std.specs.List.{AllByRecursion}
use Rattle.std.proofs.lemmas.Bool.{cases_lt}
use Rattle.std.proofs.lemmas.List.{length-append, take-append-drop, take-append-le, length-take, length-drop, take-take, take_at, append-nil, drop_all}
use Rattle.aria_page.specs.declared.edit.Edit.{Edit}
use Rattle.aria_page.specs.Number.{number}
use Rattle.aria_page.proofs.Numbers.{length-number}
use Rattle.aria_keypage.specs.declared.kind.Kind.{Kind}
use Rattle.aria_keypage.specs.declared.kind.Kind.TheVariants.{Leaf, Node}
use Rattle.aria_keypage.specs.Item.{Item, IsItem, item_at, entry_before}
use Rattle.aria_keypage.specs.Packed.{packed_item, packed, ArePacked, IsLeft}
use Rattle.aria_keypage.specs.Content.{Content, width, first_bytes, item_bytes, IsFirst, IsContent}
use Rattle.aria_keypage.specs.Change.{Changes, patch}
use Rattle.aria_keypage.specs.Reading.{content_of, IsRead}
use Rattle.aria_keypage.specs.Split.{holding, left_half, right_from, right_half, AreItems, IsMiddle, AreHalves}
use Rattle.aria_keypage.specs.StoredItem.{StoredItem, stored_at}
use Rattle.aria_keypage.proofs.Fitting.{behind-size}
use Rattle.aria_keypage.proofs.Grown.{left-low}
use Rattle.aria_keypage.proofs.Middle.{left_size, Passed, half-size, left-next, item-some, middle-is, left-least, left-most}
use Rattle.aria_keypage.proofs.Patching.{patch-changes}
use Rattle.aria_keypage.proofs.Read.{read-packed}
use Rattle.aria_keypage.proofs.Spliced.{item-bytes-le, all-take, all-drop, drop-at, packed-cut}
use Rattle.aria_keypage.proofs.Stored.{shared-lt}
use Rattle.aria_keypage.proofs.Left.{item_fits, left-more, left-read}

-- a node's first child takes 4 bytes, a leaf has none
pub first-size : (kind : Kind) (first : ℕ) → length (first_bytes kind first) ≤ 4
first-size Leaf first = omega arith
first-size Node first = omega (arith, length-number 4 first)

-- items whose first one leans on no other take at most 255 bytes more
pub whole-size : (w : ℕ) (before : List ℕ) (xs : List Item) → (length (packed w before xs) ≤ length (packed w [] xs)) × (length (packed w [] xs) ≤ length (packed w before xs) + 255)
whole-size w before xs = (omega (arith, behind-size w before xs), omega (arith, behind-size w before xs, shared-lt before (item_at xs 0).entry))

-- before the first position there is a node's first child alone
none-before : (c : Content) → length (item_bytes (left_half c 0)) ≡ length (first_bytes c.kind c.first)
unfolding item_bytes packed
none-before c = ap length (append-nil (first_bytes c.kind c.first))

-- behind the last position nothing is left
left-end : (w : ℕ) (xs : List Item) (at : ℕ) → length xs ≤ at → left_size w xs at ≡ 0
unfolding packed
left-end w xs at h = ap (λ (l : List Item). length (packed w (entry_before xs at) l)) (drop_all at xs h)

-- the middle is neither the first position nor the last
middle-some : (c : Content) → AllByRecursion (IsItem (width c.kind)) c.items → 2045 ≤ length (item_bytes c) → IsMiddle c 0 → ⊥
middle-some c all size is = elim (cases_lt 0 (length c.items)) [
  | inl h ↦ omega (arith, left-least c 0 all is h, none-before c, first-size c.kind c.first)
  | inr end ↦ omega (arith, half-size c 0 (omega arith), none-before c, first-size c.kind c.first, left-end (width c.kind) c.items 0 end)
]

middle-more : (c : Content) (k : ℕ) → AllByRecursion (IsItem (width c.kind)) c.items → 2045 ≤ length (item_bytes c) → IsMiddle c (suc k) → suc k < length c.items
middle-more c k all size is = elim (cases_lt (suc k) (length c.items)) [
  | inl h ↦ h
  | inr end ↦ absurd (omega (arith, half-size c (suc k) is.within, left-most c k all is, left-end (width c.kind) c.items (suc k) end))
]

-- the item bytes of the right side
pub right-leaf : (c : Content) (at : ℕ) → c.kind ≡ Leaf → item_bytes (right_half c at) ≡ packed (width c.kind) [] (drop at c.items)
unfolding item_bytes
right-leaf c at e =
    ap (λ (b : Kind). item_bytes (right_from b c at)) e ∙ ap (λ (b : Kind). first_bytes b c.first ++ packed (width c.kind) [] (drop at c.items)) e

pub right-node : (c : Content) (at : ℕ) → c.kind ≡ Node → item_bytes (right_half c at) ≡ number 4 (item_at c.items at).to ++ packed (width c.kind) [] (drop (at + 1) c.items)
unfolding item_bytes
right-node c at e =
    ap (λ (b : Kind). item_bytes (right_from b c at)) e ∙ ap (λ (b : Kind). first_bytes b (item_at c.items at).to ++ packed (width c.kind) [] (drop (at + 1) c.items)) e

-- its size is near to what is left from the position on
right-size : (b : Kind) (c : Content) (at : ℕ) → c.kind ≡ b → AllByRecursion (IsItem (width c.kind)) c.items → at < length c.items
    → (length (item_bytes (right_half c at)) ≤ left_size (width c.kind) c.items at + 255) × (left_size (width c.kind) c.items at ≤ length (item_bytes (right_half c at)) + 1004)
right-size Leaf c at e all h =
    let size = whole-size (width c.kind) (entry_before c.items at) (drop at c.items) in
    let same = ap length (right-leaf c at e) in
    (omega (arith, size.1, same), omega (arith, size.0, same))
right-size Node c at e all h =
    let w : ℕ = width c.kind in
    let x : Item = item_at c.items at in
    let tail : List Item = drop (at + 1) c.items in
    let next : left_size w c.items (suc at) ≡ length (packed w x.entry tail) = ap (λ (n : ℕ). length (packed w x.entry (drop n c.items))) (sym (add-one at)) in
    let size = whole-size w x.entry tail in
    let same : length (item_bytes (right_half c at)) ≡ 4 + length (packed w [] tail) =
    omega (arith, ap length (right-node c at e), length-append (number 4 x.to) (packed w [] tail), length-number 4 x.to) in
    let four : w ≡ 4 = ap width e in
    let step = left-next w c.items at h in
    let least = item-some w (entry_before c.items at) x in
    let most = item-bytes-le c.kind (entry_before c.items at) x (item_fits w c.items at all h).entry in
    (omega (arith, size.1, same, step, next, least, four), omega (arith, size.0, same, step, next, most))

-- the two sides of the middle
pub halves : (c : Content) (at : ℕ) → AllByRecursion (IsItem (width c.kind)) c.items → 2045 ≤ length (item_bytes c) → IsMiddle c at → AreHalves c at
halves c zero all size is = absurd (middle-some c all size is)
halves c (suc k) all size is =
    let more : suc k < length c.items = middle-more c k all size is in
    let least = left-least c (suc k) all is more in
    let most = left-most c k all is in
    let whole = half-size c (suc k) is.within in
    let right = right-size c.kind c (suc k) refl all more in
    record {
      some = omega arith;
      more = more;
      left_most = most;
      left_least = least;
      right_most = omega (arith, whole, least, right.0);
      right_least = omega (arith, whole, most, right.1);
    }

-- what can be stored on one side
pub left-content : (c : Content) (at : ℕ) → c.key < 256 → IsFirst c.kind c.first → AllByRecursion (IsItem (width c.kind)) c.items → length (item_bytes (left_half c at)) ≤ 8177 → IsContent (left_half c at)
left-content c at key first all size = record { key = key; first = first; items = all-take (IsItem (width c.kind)) at c.items all; size = size }

pub right-content : (c : Content) (at : ℕ) → c.key < 256 → IsFirst c.kind c.first → AllByRecursion (IsItem (width c.kind)) c.items → at < length c.items → length (item_bytes (right_half c at)) ≤ 8177 → IsContent (right_half c at)
right-content c at key first all h size = by c.kind refl size
  where
    by : (b : Kind) → c.kind ≡ b → length (item_bytes (right_from b c at)) ≤ 8177 → IsContent (right_from b c at)
    by Leaf e size = record { key = key; first = first; items = all-drop (IsItem (width c.kind)) at c.items all; size = size }
    by Node e size =
        let fits : (item_at c.items at).to < 256 ^ width c.kind = (item_fits (width c.kind) c.items at all h).to in
        let child : IsFirst Node (item_at c.items at).to = subst (λ (b : Kind). (item_at c.items at).to < 256 ^ width b) e fits in
        record { key = key; first = subst (λ (b : Kind). IsFirst b (item_at c.items at).to) (sym e) child; items = all-drop (IsItem (width c.kind)) (at + 1) c.items all; size = size }

-- a page whose packed items begin as another's, up to a position
pub shortened : (c d : Content) (items behind : List ℕ) (size len first same : ℕ) (new : List ℕ) → IsContent c → IsContent d → d.kind ≡ c.kind → d.key ≡ c.key → d.first ≡ c.first
    → items ≡ packed (width c.kind) [] c.items ++ behind → packed (width d.kind) [] d.items ≡ take size items → size ≤ length items
    → len ≡ length (packed (width c.kind) [] c.items) → first ≡ length (first_bytes c.kind c.first) → same ≡ min size len → new ≡ drop same (take size items)
    → Changes (patch (first + same) (len - same) 0 new) c d
unfolding item_bytes
shortened c d items behind size len first same new pc pd kind key child ei ed low el ef es en =
    let sp : List ℕ = packed (width c.kind) [] c.items in
    let lp : List ℕ = take size items in
    let fb : List ℕ = first_bytes c.kind c.first in
    let a : List ℕ = fb ++ take same items in
    let m : List ℕ = drop same sp in
    let own : take same items ≡ take same sp = ap (take same) ei ∙ take-append-le same sp behind (omega (arith, es, el)) in
    let other : take same lp ≡ take same items = take-take same size items (omega (arith, es)) in
    let from : item_bytes c ≡ a ++ (m ++ []) =
    ap (λ (l : List ℕ). fb ++ l) (sym (take-append-drop same sp) ∙ ap (λ (l : List ℕ). l ++ m) (sym own)) ∙ sym (append_assoc fb (take same items) m) ∙ ap (λ (l : List ℕ). a ++ l) (sym (append-nil m)) in
    let named : item_bytes d ≡ fb ++ lp = (λ i. first_bytes (kind i) (child i) ++ ed i) in
    let into : item_bytes d ≡ a ++ (new ++ []) =
    named ∙ ap (λ (l : List ℕ). fb ++ l) (sym (take-append-drop same lp) ∙ (λ i. other i ++ sym en i)) ∙ sym (append_assoc fb (take same items) new) ∙ ap (λ (l : List ℕ). a ++ l) (sym (append-nil new)) in
    let na : length a ≡ first + same = omega (arith, length-append fb (take same items), length-take same items, ef, es) in
    let nm : length m ≡ len - same = omega (arith, length-drop same sp, el) in
    subst (λ (e : List Edit). Changes e c d) (λ i. patch (na i) (nm i) 0 new) (patch-changes c d a m [] new pc pd kind key from into)

-- the right side is of the same kind and key
pub right-same : (c : Content) (at : ℕ) → ((right_half c at).kind ≡ c.kind) × ((right_half c at).key ≡ c.key)
right-same c at = by c.kind
  where
    by : (b : Kind) → ((right_from b c at).kind ≡ c.kind) × ((right_from b c at).key ≡ c.key)
    by Leaf = (refl, refl)
    by Node = (refl, refl)

-- where no item is left, nothing is added
pub rest-missing : (w : ℕ) (xs : List Item) (at : ℕ) (rest : List ℕ) → AllByRecursion (IsItem w) xs → IsLeft w xs at rest → stored_at w rest ≡ None → packed w [] (drop at xs) ≡ []
unfolding packed
rest-missing w xs at rest all left e = elim (cases_lt at (length xs)) [
  | inl lt ↦ absurd (left-read w xs at rest all left e lt)
  | inr ge ↦ ap (packed w []) (drop_all at xs ge)
]

-- what is left, with the first entry whole
pub rest-pushed : (w : ℕ) (xs : List Item) (at : ℕ) (rest : List ℕ) (x : StoredItem × List ℕ) (entry : List ℕ) → AllByRecursion (IsItem w) xs → IsLeft w xs at rest → stored_at w rest ≡ Some x → (at < length xs → entry ≡ (item_at xs at).entry)
    → (x.0.to ≡ number w (item_at xs at).to) × (packed_item w [] (record { entry = entry; to = (item_at xs at).to }) ++ x.1 ≡ packed w [] (drop at xs))
unfolding packed
rest-pushed w xs at rest x entry all left e same =
    let low : at < length xs = left-low w xs at rest x left e in
    let more = left-more w xs at rest x all left e low in
    let item : Item = item_at xs at in
    let behind : x.1 ≡ packed w item.entry (drop (suc at) xs) = more.1.is ∙ (λ i. packed w (entry_before xs (add-one at i)) (drop (add-one at i) xs)) in (
      ap (λ (r : StoredItem). r.to) more.0,
      (λ i. packed_item w [] (record { entry = same low i; to = item.to }) ++ behind i) ∙ sym (ap (packed w []) (drop-at xs at low)),
    )

-- the position where a walk stops is the middle
pub stop-middle : (c : Content) (w at size : ℕ) (rest behind : List ℕ) → w ≡ width c.kind → size ≡ length (item_bytes c) → IsLeft w c.items at rest → Passed w c.items size at → IsLeft w c.items (at + 1) behind → length rest + length behind ≤ size → IsMiddle c at
stop-middle c w at size rest behind ew es left passed next low =
    let here : length rest ≡ left_size (width c.kind) c.items at = ap length left.is ∙ ap (λ (n : ℕ). left_size n c.items at) ew in
    let there : length behind ≡ left_size (width c.kind) c.items (suc at) = ap length next.is ∙ (λ i. left_size (ew i) c.items (add-one at i)) in
    middle-is c at size left.within es (subst (λ (n : ℕ). Passed n c.items size at) ew passed) (λ _. omega (arith, here, there, low))

pub end-middle : (c : Content) (w at size : ℕ) → w ≡ width c.kind → size ≡ length (item_bytes c) → at ≡ length c.items → Passed w c.items size at → IsMiddle c at
end-middle c w at size ew es end passed = middle-is c at size (omega arith) es (subst (λ (n : ℕ). Passed n c.items size at) ew passed) (λ lt. absurd (omega arith))

-- a position is passed where the next one is nearer
pub passed-more : (w : ℕ) (xs : List Item) (at size : ℕ) (rest behind : List ℕ) → IsLeft w xs at rest → IsLeft w xs (at + 1) behind → size < length rest + length behind → Passed w xs size (at + 1)
passed-more w xs at size rest behind left next far k e =
    let same : k ≡ at = omega arith in
    omega (arith, ap length left.is, ap length next.is, ap (left_size w xs) same)

-- packed items, cut at the middle
pub record Cut (d : Content) (items rest : List ℕ) (at : ℕ) : Type 0 where
  pub sizes : AreHalves d at
  pub inside : length rest ≤ length items
  pub front : packed (width d.kind) [] (take at d.items) ≡ take (length items - length rest) items
  pub left : length (item_bytes (left_half d at)) ≡ length (first_bytes d.kind d.first) + (length items - length rest)

pub cut : (d : Content) (items rest : List ℕ) (at : ℕ) → ArePacked (width d.kind) d.items items → IsLeft (width d.kind) d.items at rest → IsMiddle d at → 2045 ≤ length (item_bytes d) → Cut d items rest at
unfolding item_bytes
cut d items rest at is left middle size =
    let w : ℕ = width d.kind in
    let begin : List ℕ = packed w [] (take at d.items) in
    let parts : items ≡ begin ++ rest = is.is ∙ packed-cut w d.items at left.within ∙ ap (λ (l : List ℕ). begin ++ l) (sym left.is) in
    let long : length items ≡ length begin + length rest = omega (arith, ap length parts, length-append begin rest) in
    let front : begin ≡ take (length items - length rest) items = sym (ap (take (length items - length rest)) parts ∙ take_at begin rest (length items - length rest) (omega (arith, long))) in
    record {
      sizes = halves d at is.all size middle;
      inside = omega (arith, long);
      front = front;
      left = omega (arith, length-append (first_bytes d.kind d.first) begin, long);
    }

-- a node's first child, and its items
pub node-pushed : (c : Content) (at : ℕ) (to bytes : List ℕ) → c.kind ≡ Node → to ≡ number 4 (item_at c.items at).to → bytes ≡ packed 4 [] (drop (at + 1) c.items) → to ++ bytes ≡ item_bytes (right_half c at)
node-pushed c at to bytes e et eb =
    (λ i. et i ++ eb i) ∙ ap (λ (n : ℕ). number 4 (item_at c.items at).to ++ packed n [] (drop (at + 1) c.items)) (sym (ap width e)) ∙ sym (right-node c at e)

-- the packed items of a page that was read
pub own-packed : (l : Kind) (k f n : ℕ) (bytes : List ℕ) (d : Content) → IsRead l k f bytes n → content_of l k f bytes ≡ d → bytes ≡ packed (width d.kind) [] d.items
own-packed l k f n bytes d is e = subst (λ (c : Content). bytes ≡ packed (width c.kind) [] c.items) e is.packed.is

-- the page with its own packed items is the page
pub own-holding : (l : Kind) (k f : ℕ) (bytes : List ℕ) (d : Content) → content_of l k f bytes ≡ d → holding d bytes ≡ d
own-holding l k f bytes d e = subst (λ (c : Content). holding c bytes ≡ c) e refl

-- and they are so many
pub own-items : (l : Kind) (k f n : ℕ) (bytes : List ℕ) (d : Content) → IsRead l k f bytes n → content_of l k f bytes ≡ d → AreItems d.kind bytes n
own-items l k f n bytes d is e = subst (λ (c : Content). AreItems c.kind bytes n) e (record { packed = is.packed; count_is = is.count_is })

-- items that bytes spell are those that are held
pub held : (d all : Content) (bytes : List ℕ) (n : ℕ) → all.kind ≡ d.kind → all.key ≡ d.key → all.first ≡ d.first → ArePacked (width d.kind) all.items bytes → n ≡ length all.items → (holding d bytes ≡ all) × AreItems d.kind bytes n
held d all bytes n kind key first is count =
    let same : holding d bytes ≡ record { kind = d.kind; key = d.key; first = d.first; items = all.items } = read-packed d.kind d.key d.first bytes all.items is in
    let items : all.items ≡ (holding d bytes).items = ap (λ (c : Content). c.items) (sym same) in (
      same ∙ (λ i. record { kind = sym kind i; key = sym key i; first = sym first i; items = all.items }),
      record { packed = subst (λ (xs : List Item). ArePacked (width d.kind) xs bytes) items is; count_is = count ∙ ap length items },
    )

-- the item bytes of what is held
pub holding-size : (d : Content) (bytes : List ℕ) (n : ℕ) → AreItems d.kind bytes n → length (item_bytes (holding d bytes)) ≡ length (first_bytes d.kind d.first) + length bytes
unfolding item_bytes
holding-size d bytes n is = omega (arith, length-append (first_bytes d.kind d.first) (packed (width d.kind) [] (holding d bytes).items), ap length is.packed.is)

-- all that a division needs
pub record Divides (d : Content) (items rest entry : List ℕ) (at : ℕ) : Type 0 where
  pub cut : Cut (holding d items) items rest at
  pub entry_is : entry ≡ (item_at (holding d items).items at).entry
  pub left_fits : IsContent (left_half (holding d items) at)
  pub left_room : length items - length rest ≤ 8173
  pub right_room : length (item_bytes (right_half (holding d items) at)) ≤ 8177
  pub bytes : 2 * (length items - length rest) + 2 * length (first_bytes d.kind d.first) ≤ length (item_bytes (holding d items)) + 1008

pub divides : (d : Content) (items rest entry : List ℕ) (n at : ℕ) → IsContent d → AreItems d.kind items n → 2045 ≤ length (item_bytes (holding d items)) → length (item_bytes (holding d items)) ≤ 12000
    → IsLeft (width d.kind) (holding d items).items at rest → IsMiddle (holding d items) at → (at + 1 ≤ length (holding d items).items → entry ≡ entry_before (holding d items).items (at + 1)) → Divides d items rest entry at
divides d items rest entry n at pd is least most left middle entry_is =
    let all : Content = holding d items in
    let parts = cut all items rest at is.packed left middle least in
    let low : at < length all.items = parts.sizes.more in
    record {
      cut = parts;
      entry_is = entry_is (omega arith) ∙ ap (entry_before all.items) (add-one at);
      left_fits = left-content all at pd.key pd.first is.packed.all (omega (arith, parts.sizes.left_most));
      left_room = omega (arith, parts.sizes.left_most, parts.left);
      right_room = omega (arith, parts.sizes.right_most);
      bytes = omega (arith, parts.sizes.left_most, parts.left);
    }

-- what is left is no more than all
pub left-fits : (w : ℕ) (xs : List Item) (at : ℕ) (rest items : List ℕ) → ArePacked w xs items → IsLeft w xs at rest → length rest ≤ length items
left-fits w xs at rest items is left =
    omega (arith, ap length is.is, ap length (packed-cut w xs at left.within), length-append (packed w [] (take at xs)) (packed w (entry_before xs at) (drop at xs)), ap length left.is)

-- the sizes of the edits that leave so many bytes
pub short-fits : (c : Content) (items own new : List ℕ) (size len first same : ℕ) → IsContent c → own ≡ packed (width c.kind) [] c.items → len ≡ length own → first ≡ length (first_bytes c.kind c.first) → same ≡ min size len
    → size ≤ length items → size ≤ 8173 → new ≡ drop same (take size items) → (first + same + (len - same) ≤ 8177) × (first + same + length new ≤ 8177) × (length new ≡ size - len)
unfolding item_bytes
short-fits c items own new size len first same is eo el ef es low room en =
    let whole = length-append (first_bytes c.kind c.first) (packed (width c.kind) [] c.items) in
    let long : length new ≡ size - same = omega (arith, ap length en, length-drop same (take size items), length-take size items) in
    (omega (arith, is.size, whole, ap length eo), omega (arith, long, first-size c.kind c.first), omega (arith, long))

-- the item bytes of a page
pub own-size : (d : Content) → length (item_bytes d) ≡ length (first_bytes d.kind d.first) + length (packed (width d.kind) [] d.items)
unfolding item_bytes
own-size d = length-append (first_bytes d.kind d.first) (packed (width d.kind) [] d.items)

-- behind the last position no bytes are packed
pub packed-end : (w : ℕ) (before : List ℕ) (xs : List Item) (at : ℕ) → length xs ≤ at → [] ≡ packed w before (drop at xs)
unfolding packed
packed-end w before xs at h = sym (ap (packed w before) (drop_all at xs h))

-- the bytes of a leaf to the right
pub leaf-pushed : (c : Content) (at : ℕ) (start bytes : List ℕ) → c.kind ≡ Leaf → start ≡ [] → bytes ≡ start ++ packed 5 [] (drop at c.items) → item_bytes (right_half c at) ≡ bytes
leaf-pushed c at start bytes e e0 eb =
    right-leaf c at e ∙ ap (λ (b : Kind). packed (width b) [] (drop at c.items)) e ∙ sym (eb ∙ ap (λ (l : List ℕ). l ++ packed 5 [] (drop at c.items)) e0)

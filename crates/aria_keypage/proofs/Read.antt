-- What is read of a key page is what it spells.
use Rattle.std.proofs.Common.{◌≡◌, ℕ, zero, suc, ◌+◌, ◌<◌, ◌≤◌, ◌^◌, List, [], ◌∷◌, ◌++◌, length, Some, None, refl, sym, ap, subst, ◌∙◌, append_assoc, arith}
use Rattle.std.specs.List.{AllByRecursion}
use Rattle.std.proofs.lemmas.List.{length-append}
use Rattle.std.proofs.lemmas.Option.{same_Some}
use Rattle.aria_page.specs.Field.{◌>>=◌, AreBytes, Takes}
use Rattle.aria_page.specs.Number.{number, number_at}
use Rattle.aria_page.specs.Text.{bytes_at}
use Rattle.aria_page.proofs.Fields.{bind_some, Takes-then}
use Rattle.aria_page.proofs.Numbers.{length-number, number_takes, number_again, number_short}
use Rattle.aria_page.proofs.Texts.{bytes_take, bytes_again}
use Rattle.aria_keypage.specs.declared.kind.Kind.{Kind}
use Rattle.aria_keypage.specs.declared.kind.Kind.TheVariants.{Leaf, Node}
use Rattle.aria_keypage.specs.Item.{Item, IsItem}
use Rattle.aria_keypage.specs.Packed.{packed_item, packed, ArePacked}
use Rattle.aria_keypage.specs.StoredItem.{as_stored, stored_at}
use Rattle.aria_keypage.specs.Content.{Content, kind_byte, width, first_bytes, item_bytes, front, IsFirst, IsContent, Spells}
use Rattle.aria_keypage.specs.Reading.{head_at, with_more, items_of, content_of, IsRead, IsPageOf}
use Rattle.aria_keypage.proofs.Stored.{item_again, item_of-raw_of, packed_item_is, length-raw_bytes}

-- nothing is read where there are no bytes
pub raw-nil : (width : ℕ) → stored_at width [] ≡ None
unfolding stored_at
raw-nil width = rw (number_short 1 [] (omega arith)) refl

-- packed items are read again
pub items_again : (width n : ℕ) (before : List ℕ) (xs : List Item) → AllByRecursion (IsItem width) xs → length (packed width before xs) ≤ n → items_of n width before (packed width before xs) ≡ xs
unfolding packed items_of
items_again width zero before [] all h = refl
items_again width (suc n) before [] all h = ap (with_more width before (items_of n width)) (raw-nil width)
items_again width zero before (x ∷ xs) all h = absurd (omega (arith, length-append (packed_item width before x) (packed width x.entry xs), ap length (packed_item_is width before x), length-raw_bytes (as_stored width before x)))
items_again width (suc n) before (x ∷ xs) all h =
    let behind : List ℕ = packed width x.entry xs in
    let room : length behind ≤ n = omega (arith, length-append (packed_item width before x) behind, ap length (packed_item_is width before x), length-raw_bytes (as_stored width before x)) in
    ap (with_more width before (items_of n width)) (item_again width before x behind all.0)
    ∙ ap (λ (y : Item). y ∷ items_of n width y.entry behind) (item_of-raw_of width before x all.0.to)
    ∙ ap (λ (l : List Item). x ∷ l) (items_again width n x.entry xs all.1 room)

-- what is read of packed items are the items
pub read-packed : (kind : Kind) (key first : ℕ) (bytes : List ℕ) (xs : List Item) → ArePacked (width kind) xs bytes → content_of kind key first bytes ≡ record { kind = kind; key = key; first = first; items = xs }
read-packed kind key first bytes xs is =
    let items : items_of (length bytes) (width kind) [] bytes ≡ xs =
    ap (λ (l : List ℕ). items_of (length l) (width kind) [] l) is.is ∙ items_again (width kind) (length (packed (width kind) [] xs)) [] xs is.all (omega arith) in
    λ i. record { kind = kind; key = key; first = first; items = items i }

-- items that were counted make a page
pub page-read : (kind : Kind) (key first : ℕ) (bytes : List ℕ) (count : ℕ) (xs : List Item) → key < 256 → IsFirst kind first → length (first_bytes kind first) + length bytes ≤ 8177 → ArePacked (width kind) xs bytes → count ≡ length xs
    → IsRead kind key first bytes count
unfolding item_bytes
page-read kind key first bytes count xs low fits size is counted =
    let c : Content = record { kind = kind; key = key; first = first; items = xs } in
    let same : c ≡ content_of kind key first bytes = sym (read-packed kind key first bytes xs is) in
    let room : length (item_bytes c) ≤ 8177 = omega (arith, length-append (first_bytes kind first) (packed (width kind) [] xs), ap length is.is) in
    let good : IsContent c = record { key = low; first = fits; items = is.all; size = room } in
    record {
      content = subst IsContent same good;
      packed = subst (λ (d : Content). ArePacked (width kind) d.items bytes) same is;
      count_is = counted ∙ ap (λ (d : Content). length d.items) same;
    }

-- the item bytes of what was read
pub read-bytes : (kind : Kind) (key first : ℕ) (bytes : List ℕ) (count : ℕ) → IsRead kind key first bytes count → item_bytes (content_of kind key first bytes) ≡ first_bytes kind first ++ bytes
unfolding item_bytes
read-bytes kind key first bytes count is = ap (λ (l : List ℕ). first_bytes kind first ++ l) (sym is.packed.is)

-- a head that is read stands in front
pub head_takes : (body : List ℕ) (x : ℕ × ℕ × List ℕ) → AreBytes body → head_at body ≡ Some x → (behind : List ℕ) × (body ≡ (number 1 x.0 ++ (number 1 x.1 ++ (number 2 (length x.2) ++ x.2))) ++ behind)
unfolding head_at
head_takes body x fits e =
    let a = bind_some (number_at 1 body) (λ byte. number_at 1 byte.1 >>= λ key. number_at 2 key.1 >>= λ size. bytes_at size.0 size.1 >>= λ bytes. Some (byte.0, key.0, bytes.0)) x e in
    let b = bind_some (number_at 1 a.0.1) (λ key. number_at 2 key.1 >>= λ size. bytes_at size.0 size.1 >>= λ bytes. Some (a.0.0, key.0, bytes.0)) x a.2 in
    let c = bind_some (number_at 2 b.0.1) (λ size. bytes_at size.0 size.1 >>= λ bytes. Some (a.0.0, b.0.0, bytes.0)) x b.2 in
    let d = bind_some (bytes_at c.0.0 c.0.1) (λ bytes. Some (a.0.0, b.0.0, bytes.0)) x c.2 in
    let one = number_takes 1 body a.0 fits a.1 in
    let two = number_takes 1 a.0.1 b.0 one.0.rest_bytes b.1 in
    let three = number_takes 2 b.0.1 c.0 two.0.rest_bytes c.1 in
    let four = bytes_take c.0.0 c.0.1 d.0 three.0.rest_bytes d.1 in
    let counted : Takes b.0.1 (number 2 (length d.0.0)) c.0.1 = subst (λ (n : ℕ). Takes b.0.1 (number 2 n) c.0.1) (sym four.1) three.0 in
    let last = Takes-then b.0.1 (number 2 (length d.0.0)) c.0.1 d.0.0 d.0.1 counted four.0 in
    let middle = Takes-then a.0.1 (number 1 b.0.0) b.0.1 (number 2 (length d.0.0) ++ d.0.0) d.0.1 two.0 last in
    let whole = Takes-then body (number 1 a.0.0) a.0.1 (number 1 b.0.0 ++ (number 2 (length d.0.0) ++ d.0.0)) d.0.1 one.0 middle in
    let made : ℕ × ℕ × List ℕ = (a.0.0, b.0.0, d.0.0) in
    subst (λ (y : ℕ × ℕ × List ℕ). (behind : List ℕ) × (body ≡ (number 1 y.0 ++ (number 1 y.1 ++ (number 2 (length y.2) ++ y.2))) ++ behind)) {x = made} (same_Some made x d.2) (d.0.1, whole.parts)

-- the kind of a page is a byte
pub kind-lt : (kind : Kind) → kind_byte kind < 256
kind-lt Leaf = omega arith
kind-lt Node = omega arith

-- what a page spells in front is read
pub head_again : (body : List ℕ) (c : Content) → Spells body c → head_at body ≡ Some (kind_byte c.kind, c.key, item_bytes c)
unfolding head_at front
head_again body c is =
    let bytes : List ℕ = item_bytes c in
    let regrouped : body ≡ number 1 (kind_byte c.kind) ++ (number 1 c.key ++ (number 2 (length bytes) ++ (bytes ++ is.behind))) = is.parts ∙ simp append_assoc in
    let small : length bytes < 256 ^ 2 = omega (arith, is.content.size) in
    ap head_at regrouped
    ∙ rw (number_again 1 (kind_byte c.kind) (number 1 c.key ++ (number 2 (length bytes) ++ (bytes ++ is.behind))) (kind-lt c.kind), number_again 1 c.key (number 2 (length bytes) ++ (bytes ++ is.behind)) is.content.key, number_again 2 (length bytes) (bytes ++ is.behind) small, bytes_again (length bytes) bytes is.behind refl) refl

-- a page that was read with this head is spelled
pub spelled : (body : List ℕ) (c : Content) (k key : ℕ) (bytes : List ℕ) → AreBytes body → head_at body ≡ Some (k, key, bytes) → kind_byte c.kind ≡ k → c.key ≡ key → item_bytes c ≡ bytes → IsContent c → Spells body c
unfolding front
spelled body c k key bytes fits e ek ey eb is =
    let there = head_takes body (k, key, bytes) fits e in
    record { content = is; behind = there.0; parts = there.1 ∙ (λ i. (number 1 (sym ek i) ++ (number 1 (sym ey i) ++ (number 2 (length (sym eb i)) ++ sym eb i))) ++ there.0) }

-- the same, with the width that was counted by
pub page-found : (kind : Kind) (key first : ℕ) (bytes : List ℕ) (count w : ℕ) → w ≡ width kind → key < 256 → IsFirst kind first → length (first_bytes kind first) + length bytes ≤ 8177
    → (xs : List Item) × ArePacked w xs bytes × (count ≡ length xs) → IsRead kind key first bytes count
page-found kind key first bytes count w e low fits size found =
    page-read kind key first bytes count found.0 low fits size (subst (λ (n : ℕ). ArePacked n found.0 bytes) e found.1) found.2

-- it holds what was read
pub page-is : (kind : Kind) (key first : ℕ) (bytes : List ℕ) (count : ℕ) → IsRead kind key first bytes count → IsPageOf kind key (first_bytes kind first ++ bytes) (content_of kind key first bytes)
page-is kind key first bytes count is = record { content = is.content; kind_is = refl; key_is = refl; bytes_is = read-bytes kind key first bytes count is }

-- the item bytes of a leaf are its items
pub leaf-bytes : (c : Content) (bytes : List ℕ) → IsContent c → c.kind ≡ Leaf → item_bytes c ≡ bytes → ArePacked 5 c.items bytes
unfolding item_bytes
leaf-bytes c bytes is e eb =
    record { all = subst (λ (b : Kind). AllByRecursion (IsItem (width b)) c.items) e is.items; is = sym eb ∙ ap (λ (b : Kind). first_bytes b c.first ++ packed (width b) [] c.items) e }

-- those of a node are its first child and its items
pub node-bytes : (c : Content) (bytes : List ℕ) → IsContent c → c.kind ≡ Node → item_bytes c ≡ bytes → (number_at 4 bytes ≡ Some (c.first, packed 4 [] c.items)) × ArePacked 4 c.items (packed 4 [] c.items)
unfolding item_bytes
node-bytes c bytes is e eb =
    let parts : bytes ≡ number 4 c.first ++ packed 4 [] c.items = sym eb ∙ ap (λ (b : Kind). first_bytes b c.first ++ packed (width b) [] c.items) e in
    let fits : c.first < 256 ^ 4 = subst (λ (b : Kind). IsFirst b c.first) e is.first in (
      ap (number_at 4) parts ∙ number_again 4 c.first (packed 4 [] c.items) fits,
      record { all = subst (λ (b : Kind). AllByRecursion (IsItem (width b)) c.items) e is.items; is = refl },
    )

-- where no number of 4 bytes stands in front, the bytes are of no node
pub no_node : (c : Content) (bytes : List ℕ) → IsContent c → c.kind ≡ Node → item_bytes c ≡ bytes → number_at 4 bytes ≡ None → ⊥
no_node c bytes is e eb none = let some = (node-bytes c bytes is e eb).0 in absurd cc

-- where the bytes behind that number are no items, neither
pub no_items : (c : Content) (bytes items : List ℕ) (first : ℕ) → IsContent c → c.kind ≡ Node → item_bytes c ≡ bytes → number_at 4 bytes ≡ Some (first, items) → ((xs : List Item) → ArePacked 4 xs items → ⊥) → ⊥
no_items c bytes items first is e eb some none =
    let there = node-bytes c bytes is e eb in
    let same : packed 4 [] c.items ≡ items = ap (λ (x : ℕ × List ℕ). x.1) (same_Some (c.first, packed 4 [] c.items) (first, items) (sym there.0 ∙ some)) in
    none c.items (subst (λ (l : List ℕ). ArePacked 4 c.items l) same there.1)

-- the kinds of two pages that are both leaves or both nodes
kind-leaf : (kind : Kind) → kind_byte kind ≡ 10 → kind ≡ Leaf
kind-leaf Leaf e = refl
kind-leaf Node e = absurd (omega arith)

kind-node : (kind : Kind) → kind_byte kind ≡ 11 → kind ≡ Node
kind-node Node e = refl
kind-node Leaf e = absurd (omega arith)

-- a body has at most 8177 item bytes
pub head-size : (body : List ℕ) (k key : ℕ) (bytes : List ℕ) → AreBytes body → length body ≡ 8181 → head_at body ≡ Some (k, key, bytes) → length bytes ≤ 8177
head-size body k key bytes fits len e =
    let there = head_takes body (k, key, bytes) fits e in
    omega (arith, ap length there.1, length-append (number 1 k ++ (number 1 key ++ (number 2 (length bytes) ++ bytes))) there.0, length-append (number 1 k) (number 1 key ++ (number 2 (length bytes) ++ bytes)), length-append (number 1 key) (number 2 (length bytes) ++ bytes), length-append (number 2 (length bytes)) bytes, length-number 1 k, length-number 1 key, length-number 2 (length bytes))

-- a page of the bytes that stand in a body is what the body spells
pub page-spelled : (body : List ℕ) (kind : Kind) (key : ℕ) (bytes : List ℕ) (c : Content) → AreBytes body → head_at body ≡ Some (kind_byte kind, key, bytes) → IsPageOf kind key bytes c → Spells body c
page-spelled body kind key bytes c fits e is = spelled body c (kind_byte kind) key bytes fits e (ap kind_byte is.kind_is) is.key_is is.bytes_is is.content

-- what a body spells has the head that was read
pub head-same : (body : List ℕ) (c : Content) (k key : ℕ) (bytes : List ℕ) → Spells body c → head_at body ≡ Some (k, key, bytes) → (kind_byte c.kind ≡ k) × (item_bytes c ≡ bytes)
head-same body c k key bytes is e =
    let same = same_Some (kind_byte c.kind, c.key, item_bytes c) (k, key, bytes) (sym (head_again body c is) ∙ e) in
    (ap (λ (x : ℕ × ℕ × List ℕ). x.0) same, ap (λ (x : ℕ × ℕ × List ℕ). x.2) same)

-- a body without a head spells nothing
pub no_head : (body : List ℕ) (c : Content) → head_at body ≡ None → Spells body c → ⊥
no_head body c none is = let some = head_again body c is in absurd cc

-- where its bytes are of no leaf, or of no node, it spells nothing
pub no_page : (body : List ℕ) (kind : Kind) (key : ℕ) (bytes : List ℕ) (c : Content) → head_at body ≡ Some (kind_byte kind, key, bytes) → ((d : Content) → IsContent d → d.kind ≡ kind → item_bytes d ≡ bytes → ⊥) → Spells body c → ⊥
no_page body kind key bytes c e none is =
    let same = head-same body c (kind_byte kind) key bytes is e in
    none c is.content (by kind c.kind same.0) same.1
  where
    by : (a b : Kind) → kind_byte b ≡ kind_byte a → b ≡ a
    by Leaf b e = kind-leaf b e
    by Node b e = kind-node b e

-- a body of another kind spells nothing
pub no_kind : (body : List ℕ) (k key : ℕ) (bytes : List ℕ) (c : Content) → head_at body ≡ Some (k, key, bytes) → ((kind : Kind) → kind_byte kind ≡ k → ⊥) → Spells body c → ⊥
no_kind body k key bytes c e none is = none c.kind (head-same body c k key bytes is e).0

-- the number of item bytes of a page that was read
pub leaf-size : (kind : Kind) (key first : ℕ) (bytes : List ℕ) (count : ℕ) → IsRead kind key first bytes count → kind ≡ Leaf → length bytes ≡ length (item_bytes (content_of kind key first bytes))
leaf-size kind key first bytes count is e =
    sym (ap length (read-bytes kind key first bytes count is) ∙ ap (λ (b : Kind). length (first_bytes b first ++ bytes)) e)

pub node-size : (kind : Kind) (key first : ℕ) (bytes : List ℕ) (count : ℕ) → IsRead kind key first bytes count → kind ≡ Node → 4 + length bytes ≡ length (item_bytes (content_of kind key first bytes))
node-size kind key first bytes count is e =
    let whole = ap length (read-bytes kind key first bytes count is) ∙ ap (λ (b : Kind). length (first_bytes b first ++ bytes)) e in
    omega (arith, whole, length-append (number 4 first) bytes, length-number 4 first)

-- what a page holds, seen by another name of its kind and its bytes
pub page-node : (kind : Kind) (key : ℕ) (bytes whole : List ℕ) (c : Content) → kind ≡ Node → bytes ≡ whole → IsPageOf Node key bytes c → IsPageOf kind key whole c
page-node kind key bytes whole c e eb is = record { content = is.content; kind_is = is.kind_is ∙ sym e; key_is = is.key_is; bytes_is = is.bytes_is ∙ eb }

-- there are no more items than bytes
pub packed-count : (width : ℕ) (before : List ℕ) (xs : List Item) → length xs ≤ length (packed width before xs)
unfolding packed
packed-count width before [] = omega arith
packed-count width before (x ∷ xs) =
    omega (arith, packed-count width x.entry xs, length-append (packed_item width before x) (packed width x.entry xs), ap length (packed_item_is width before x), length-raw_bytes (as_stored width before x))

-- so a page has fewer than 8177
pub content-count : (c : Content) → IsContent c → length c.items ≤ 8177
unfolding item_bytes
content-count c is = omega (arith, is.size, packed-count (width c.kind) [] c.items, length-append (first_bytes c.kind c.first) (packed (width c.kind) [] c.items))

-- bytes are packed from one list of items at most
pub packed-one : (kind : Kind) (xs ys : List Item) (bytes : List ℕ) → ArePacked (width kind) xs bytes → ArePacked (width kind) ys bytes → xs ≡ ys
packed-one kind xs ys bytes p q = ap (λ (c : Content). c.items) (sym (read-packed kind 0 0 bytes xs p) ∙ read-packed kind 0 0 bytes ys q)

-- two pages of a kind and a key with the same item bytes hold the same
pub content-one : (l : Kind) (a b : Content) → IsContent a → IsContent b → a.kind ≡ l → b.kind ≡ l → a.key ≡ b.key → item_bytes a ≡ item_bytes b → a ≡ b
content-one Leaf a b p q ea eb key bytes =
    let first : a.first ≡ b.first = subst (λ (k : Kind). IsFirst k a.first) ea p.first ∙ sym (subst (λ (k : Kind). IsFirst k b.first) eb q.first) in
    let items : a.items ≡ b.items = packed-one Leaf a.items b.items (item_bytes b) (leaf-bytes a (item_bytes b) p ea bytes) (leaf-bytes b (item_bytes b) q eb refl) in
    λ i. record { kind = (ea ∙ sym eb) i; key = key i; first = first i; items = items i }
content-one Node a b p q ea eb key bytes =
    let left = node-bytes a (item_bytes b) p ea bytes in
    let right = node-bytes b (item_bytes b) q eb refl in
    let same = same_Some (a.first, packed 4 [] a.items) (b.first, packed 4 [] b.items) (sym left.0 ∙ right.0) in
    let first : a.first ≡ b.first = ap (λ (x : ℕ × List ℕ). x.0) same in
    let moved : ArePacked 4 a.items (packed 4 [] b.items) = subst (λ (l : List ℕ). ArePacked 4 a.items l) (ap (λ (x : ℕ × List ℕ). x.1) same) left.1 in
    let items : a.items ≡ b.items = packed-one Node a.items b.items (packed 4 [] b.items) moved right.1 in
    λ i. record { kind = (ea ∙ sym eb) i; key = key i; first = first i; items = items i }

kind-same : (a b : Kind) → kind_byte a ≡ kind_byte b → a ≡ b
kind-same Leaf b e = sym (kind-leaf b (sym e))
kind-same Node b e = sym (kind-node b (sym e))

-- a body spells one content at most
pub spells-one : (body : List ℕ) (c d : Content) → Spells body c → Spells body d → c ≡ d
spells-one body c d p q =
    let same = same_Some (kind_byte c.kind, c.key, item_bytes c) (kind_byte d.kind, d.key, item_bytes d) (sym (head_again body c p) ∙ head_again body d q) in
    let kind : c.kind ≡ d.kind = kind-same c.kind d.kind (ap (λ (x : ℕ × ℕ × List ℕ). x.0) same) in
    content-one c.kind c d p.content q.content refl (sym kind) (ap (λ (x : ℕ × ℕ × List ℕ). x.1) same) (ap (λ (x : ℕ × ℕ × List ℕ). x.2) same)

-- the packed items of a page, by what is seen of it
pub packed-seen : (inside c : Content) (w : ℕ) (bytes : List ℕ) → inside ≡ c → ArePacked (width inside.kind) inside.items bytes → w ≡ width c.kind → ArePacked w c.items bytes
packed-seen inside c w bytes e is ew = subst (λ (n : ℕ). ArePacked n c.items bytes) (sym ew) (subst (λ (d : Content). ArePacked (width d.kind) d.items bytes) e is)

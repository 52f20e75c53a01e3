-- How many item bytes a page has that takes over those of another.
use Rattle.std.proofs.Common.{◌≡◌, ℕ, ◌+◌, ◌≤◌, List, [], ◌∷◌, ◌++◌, length, drop, Some, None, refl, sym, ap, ◌∙◌, arith}
use Rattle.std.proofs.lemmas.List.{length-append}
use Rattle.aria_page.specs.Number.{number}
use Rattle.aria_page.proofs.Numbers.{length-number}
use Rattle.aria_keypage.specs.declared.kind.Kind.{Kind}
use Rattle.aria_keypage.specs.declared.kind.Kind.TheVariants.{Leaf, Node}
use Rattle.aria_keypage.specs.Item.{Item, item_at, entry_before}
use Rattle.aria_keypage.specs.Packed.{shared, packed_item, packed, ArePacked}
use Rattle.aria_keypage.specs.StoredItem.{StoredItem, stored_at}
use Rattle.aria_keypage.specs.Content.{Content, width, first_bytes, item_bytes}
use Rattle.aria_keypage.specs.Merge.{taken_over, joined}
use Rattle.aria_keypage.proofs.Shares.{common-nil}
use Rattle.aria_keypage.proofs.Sought.{read-shares}
use Rattle.aria_keypage.proofs.Grown.{left-low}
use Rattle.aria_keypage.proofs.Joined.{joined-bytes}
use Rattle.aria_keypage.proofs.Spliced.{length-packed_item}
use Rattle.aria_keypage.proofs.Left.{left-all, left-more, left-read}

-- nothing is shared with nothing
pub shared-nil : (entry : List ℕ) → shared [] entry ≡ 0
unfolding shared
shared-nil entry = refl

pub shared-none : (before : List ℕ) → shared before [] ≡ 0
unfolding shared
shared-none before = omega (arith, common-nil before)

-- behind an entry, items take as many bytes less as the first of them shares with it
pub behind-size : (w : ℕ) (before : List ℕ) (xs : List Item) → length (packed w before xs) + shared before (item_at xs 0).entry ≡ length (packed w [] xs)
unfolding packed
behind-size w before [] = omega (arith, shared-none before)
behind-size w before (x ∷ xs) =
    omega (arith, length-append (packed_item w before x) (packed w x.entry xs), length-append (packed_item w [] x) (packed w x.entry xs), length-packed_item w before x, length-packed_item w [] x, shared-nil x.entry)

-- the first entry is stored whole
pub first-read : (w : ℕ) (items : List Item) (bytes : List ℕ) (x : StoredItem × List ℕ) → ArePacked w items bytes → stored_at w bytes ≡ Some x → x.0.rest ≡ (item_at items 0).entry
first-read w items bytes x is e =
    let left = left-all w items bytes is in
    let more = left-more w items 0 bytes x is.all left e (left-low w items 0 bytes x left e) in
    let none : x.0.shared ≡ 0 = ap (λ (r : StoredItem). r.shared) more.0 ∙ shared-nil (item_at items 0).entry in
    (read-shares w items 0 x.0 more.0).1 ∙ ap (λ (n : ℕ). drop n (item_at items 0).entry) none

-- where none is read, there is none
pub first-missing : (w : ℕ) (items : List Item) (bytes : List ℕ) → ArePacked w items bytes → stored_at w bytes ≡ None → [] ≡ (item_at items 0).entry
first-missing w [] bytes is e = refl
first-missing w (x ∷ items) bytes is e = absurd (left-read w (x ∷ items) 0 bytes is.all (left-all w (x ∷ items) bytes is) e (omega arith))

-- a leaf with the items of another
pub joined-leaf : (c d : Content) (between : List ℕ) (n : ℕ) → c.kind ≡ Leaf → d.kind ≡ c.kind → n ≡ shared (entry_before c.items (length c.items)) (item_at d.items 0).entry
    → length (item_bytes (joined c between d)) + n ≡ length (item_bytes c) + length (item_bytes d)
unfolding item_bytes
joined-leaf c d between n e ed en =
    let w : ℕ = width c.kind in
    let last : List ℕ = entry_before c.items (length c.items) in
    let over : length (packed w last (taken_over c.kind between d.first d.items)) ≡ length (packed w last d.items) = ap (λ (b : Kind). length (packed w last (taken_over b between d.first d.items))) e in
    let right : length (item_bytes d) ≡ length (packed w [] d.items) =
    ap (λ (b : Kind). length (first_bytes b d.first ++ packed (width b) [] d.items)) (ed ∙ e) ∙ ap (λ (b : Kind). length (packed (width b) [] d.items)) (sym e) in
    omega (arith, ap length (joined-bytes c d between), length-append (item_bytes c) (packed w last (taken_over c.kind between d.first d.items)), over, right, behind-size w last d.items, en)

-- a node with those of another, and the entry between the two
pub joined-node : (c d : Content) (between : List ℕ) (n k : ℕ) → c.kind ≡ Node → d.kind ≡ c.kind → n ≡ shared (entry_before c.items (length c.items)) between → k ≡ shared between (item_at d.items 0).entry
    → length (item_bytes (joined c between d)) + n + k ≡ length (item_bytes c) + length (item_bytes d) + 3 + length between
unfolding item_bytes packed
joined-node c d between n k e ed en ek =
    let w : ℕ = width c.kind in
    let last : List ℕ = entry_before c.items (length c.items) in
    let x : Item = record { entry = between; to = d.first } in
    let over : length (packed w last (taken_over c.kind between d.first d.items)) ≡ length (packed w last (x ∷ d.items)) = ap (λ (b : Kind). length (packed w last (taken_over b between d.first d.items))) e in
    let right : length (item_bytes d) ≡ length (number 4 d.first ++ packed w [] d.items) =
    ap (λ (b : Kind). length (first_bytes b d.first ++ packed (width b) [] d.items)) (ed ∙ e) ∙ ap (λ (b : Kind). length (number 4 d.first ++ packed (width b) [] d.items)) (sym e) in
    let four : w ≡ 4 = ap width e in
    omega (arith, ap length (joined-bytes c d between), length-append (item_bytes c) (packed w last (taken_over c.kind between d.first d.items)), over, length-append (packed_item w last x) (packed w between d.items), length-packed_item w last x, right, length-append (number 4 d.first) (packed w [] d.items), length-number 4 d.first, behind-size w between d.items, en, ek, four)

-- it has at most an item more than both
pub joined-most : (c d : Content) (between : List ℕ) → d.kind ≡ c.kind → length between ≤ 1000 → length (item_bytes (joined c between d)) ≤ length (item_bytes c) + length (item_bytes d) + 1003
joined-most c d between kind low = by c.kind refl
  where
    by : (b : Kind) → c.kind ≡ b → length (item_bytes (joined c between d)) ≤ length (item_bytes c) + length (item_bytes d) + 1003
    by Leaf e = omega (arith, joined-leaf c d between (shared (entry_before c.items (length c.items)) (item_at d.items 0).entry) e kind refl)
    by Node e = omega (arith, joined-node c d between (shared (entry_before c.items (length c.items)) between) (shared between (item_at d.items 0).entry) e kind refl refl)

-- The items of a page, a node's first child among them, under an entry that none of its entries is below.
use Rattle.std.proofs.Common.{◌≡◌, ℕ, zero, suc, ◌+◌, ◌<◌, List, ◌∷◌, ◌++◌, length, take, drop, refl, sym, ap, ◌∙◌, add-one}
use Rattle.std.proofs.lemmas.List.{take-append-drop}
use Rattle.aria_keypage.specs.declared.kind.Kind.{Kind}
use Rattle.aria_keypage.specs.declared.kind.Kind.TheVariants.{Leaf, Node}
use Rattle.aria_keypage.specs.Item.{Item, item_at}
use Rattle.aria_keypage.specs.Content.{Content}
use Rattle.aria_keypage.specs.Change.{with_item, without_item}
use Rattle.aria_keypage.specs.Child.{child_at}
use Rattle.aria_keypage.specs.Merge.{taken_over, joined}
use Rattle.aria_keypage.specs.Split.{left_half, right_from, right_half}
use Rattle.aria_keypage.proofs.Spliced.{drop-at}

abbrev pub fan : List ℕ → Content → List Item
fan low c = taken_over c.kind low c.first c.items

-- those before a position of the stored items
abbrev pub fan_before : List ℕ → Content → ℕ → List Item
fan_before low c at = taken_over c.kind low c.first (take at c.items)

fan-cut : (kind : Kind) (low : List ℕ) (first : ℕ) (xs ys : List Item) → taken_over kind low first (xs ++ ys) ≡ taken_over kind low first xs ++ ys
fan-cut Leaf low first xs ys = refl
fan-cut Node low first xs ys = refl

-- those before a position, and those from there on
pub fan-parts : (low : List ℕ) (c : Content) (at : ℕ) → fan low c ≡ fan_before low c at ++ drop at c.items
fan-parts low c at = ap (taken_over c.kind low c.first) (sym (take-append-drop at c.items)) ∙ fan-cut c.kind low c.first (take at c.items) (drop at c.items)

-- they lead to the children, from left to right
pub fan-child : (low : List ℕ) (c : Content) (at : ℕ) → c.kind ≡ Node → (item_at (fan low c) at).to ≡ child_at c at
fan-child low c at node = ap (λ (b : Kind). (item_at (taken_over b low c.first c.items) at).to) node ∙ by at
  where
    by : (n : ℕ) → (item_at (taken_over Node low c.first c.items) n).to ≡ child_at c n
    by zero = refl
    by (suc n) = refl

-- a node has a child more than stored items
pub fan-count : (low : List ℕ) (c : Content) → c.kind ≡ Node → length (fan low c) ≡ length c.items + 1
fan-count low c node = ap (λ (b : Kind). length (taken_over b low c.first c.items)) node ∙ sym (add-one (length c.items))

-- with one more item
pub fan-insert : (low : List ℕ) (c : Content) (at : ℕ) (x : Item) → fan low (with_item c at x) ≡ fan_before low c at ++ x ∷ drop at c.items
fan-insert low c at x = fan-cut c.kind low c.first (take at c.items) (x ∷ drop at c.items)

-- with one item fewer
pub fan-remove : (low : List ℕ) (c : Content) (at : ℕ) → fan low (without_item c at) ≡ fan_before low c at ++ drop (at + 1) c.items
fan-remove low c at = fan-cut c.kind low c.first (take at c.items) (drop (suc at) c.items) ∙ ap (λ (n : ℕ). fan_before low c at ++ drop n c.items) (sym (add-one at))

-- of the left half
pub fan-left : (low : List ℕ) (c : Content) (at : ℕ) → fan low (left_half c at) ≡ fan_before low c at
fan-left low c at = refl

-- of the right half, under the entry between the two
pub fan-right : (c : Content) (at : ℕ) → at < length c.items → fan (item_at c.items at).entry (right_half c at) ≡ item_at c.items at ∷ drop (at + 1) c.items
fan-right c at h = by c.kind refl
  where
    by : (b : Kind) → c.kind ≡ b → fan (item_at c.items at).entry (right_from b c at) ≡ item_at c.items at ∷ drop (at + 1) c.items
    by Leaf e = ap (λ (b : Kind). taken_over b (item_at c.items at).entry c.first (drop at c.items)) e ∙ drop-at c.items at h ∙ ap (λ (n : ℕ). item_at c.items at ∷ drop n c.items) (sym (add-one at))
    by Node e = ap (λ (b : Kind). taken_over b (item_at c.items at).entry (item_at c.items at).to (drop (at + 1) c.items)) e

-- of two pages in one
pub fan-joined : (low : List ℕ) (c d : Content) (between : List ℕ) → d.kind ≡ c.kind → fan low (joined c between d) ≡ fan low c ++ fan between d
fan-joined low c d between e =
    fan-cut c.kind low c.first c.items (taken_over c.kind between d.first d.items) ∙ ap (λ (b : Kind). fan low c ++ taken_over b between d.first d.items) (sym e)

-- The children of a node.
use Rattle.std.proofs.Common.{◌≡◌, ℕ, zero, suc, ◌+◌, ◌-◌, ◌<◌, ◌≤◌, ◌^◌, Bool, List, length, refl, ap, subst, add-one, arith}
use Rattle.std.proofs.lemmas.List.Sums.{prefix_len-le-length}
use Rattle.aria_keypage.specs.declared.kind.Kind.{Kind}
use Rattle.aria_keypage.specs.declared.kind.Kind.TheVariants.{Node}
use Rattle.aria_keypage.specs.Item.{Item, item_at, is_below, IsPosition}
use Rattle.aria_keypage.specs.Content.{Content, width, IsFirst, IsContent}
use Rattle.aria_keypage.specs.Child.{child_at}
use Rattle.aria_keypage.proofs.Left.{item_fits}

-- a child behind the first one is that of an item
pub child-more : (c : Content) (at : ℕ) → (at ≡ 0 → ⊥) → (item_at c.items (at - 1)).to ≡ child_at c at
child-more c zero h = absurd (h refl)
child-more c (suc n) h = ap (λ (k : ℕ). (item_at c.items k).to) (less n)
  where
    less : (n : ℕ) → suc n - 1 ≡ n
    less n = omega arith

-- behind an item, the child is where it leads
pub child-behind : (c : Content) (n : ℕ) → child_at c (n + 1) ≡ (item_at c.items n).to
child-behind c n = ap (child_at c) (add-one n)

-- a child's number can be stored
pub child-fits : (c : Content) (at : ℕ) → IsContent c → c.kind ≡ Node → at ≤ length c.items → child_at c at < 256 ^ 4
child-fits c zero is node h = subst (λ (b : Kind). IsFirst b c.first) node is.first
child-fits c (suc n) is node h = subst (λ (b : Kind). (item_at c.items n).to < 256 ^ width b) node (item_fits (width c.kind) c.items n is.items (omega arith)).to

-- an entry's position is among the items or behind them
pub position-within : (entry : List ℕ) (items : List Item) (at : ℕ) (same : Bool) → IsPosition entry items at same → at ≤ length items
position-within entry items at same is = omega (arith, is.first, prefix_len-le-length (λ (x : Item). is_below x.entry entry) items)

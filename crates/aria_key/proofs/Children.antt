-- Children of a node.
use Rattle.std.proofs.Common.{◌≡◌, ℕ, ◌<◌, ◌≤◌, ◌^◌, Bool, List, length, subst, arith}
use Rattle.std.proofs.lemmas.List.Sums.{prefix_len-le-length}
use Rattle.aria_keypage.specs.declared.kind.Kind.{Kind}
use Rattle.aria_keypage.specs.declared.kind.Kind.TheVariants.{Node}
use Rattle.aria_keypage.specs.Item.{Item, item_at, is_below, IsPosition}
use Rattle.aria_keypage.specs.Content.{Content, width, IsContent}
use Rattle.aria_keypage.proofs.Left.{item_fits}

pub child-fits : (c : Content) (at : ℕ) → IsContent c → c.kind ≡ Node → at < length c.items → (item_at c.items at).to < 4294967296
child-fits c at is node low = subst (λ (b : Kind). (item_at c.items at).to < 256 ^ width b) node (item_fits (width c.kind) c.items at is.items low).to

pub place-within : (entry : List ℕ) (items : List Item) (at : ℕ) (same : Bool) → IsPosition entry items at same → at ≤ length items
place-within entry items at same is = omega (arith, is.first, prefix_len-le-length (λ (x : Item). is_below x.entry entry) items)

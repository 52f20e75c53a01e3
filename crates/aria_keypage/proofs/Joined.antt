-- A page that takes over the items of another.
use Rattle.std.proofs.Common.{◌≡◌, ℕ, ◌+◌, ◌≤◌, List, [], ◌++◌, length, take, refl, sym, ap, subst, ◌∙◌, append_assoc, arith}
use Rattle.std.specs.List.{AllByRecursion}
use Rattle.std.proofs.lemmas.List.{append-nil, take_all, length-append}
use Rattle.aria_keypage.specs.declared.kind.Kind.{Kind}
use Rattle.aria_keypage.specs.declared.kind.Kind.TheVariants.{Leaf, Node}
use Rattle.aria_keypage.specs.Item.{Item, IsItem, entry_before}
use Rattle.aria_keypage.specs.Packed.{packed_item, packed, ArePacked}
use Rattle.aria_keypage.specs.Content.{Content, width, first_bytes, item_bytes, IsFirst, IsContent}
use Rattle.aria_keypage.specs.Change.{Changes, patch}
use Rattle.aria_keypage.specs.Merge.{taken_over, joined}
use Rattle.aria_keypage.proofs.Counted.{all-append}
use Rattle.aria_keypage.proofs.Patching.{patch-changes}
use Rattle.aria_keypage.proofs.Spliced.{packed-behind}

-- all that is taken over can be stored
taken-fits : (l m : Kind) (between : List ℕ) (first : ℕ) (items : List Item) → m ≡ l → length between ≤ 1000 → IsFirst m first → AllByRecursion (IsItem (width m)) items → AllByRecursion (IsItem (width l)) (taken_over l between first items)
taken-fits Leaf m between first items e low fits all = subst (λ (b : Kind). AllByRecursion (IsItem (width b)) items) e all
taken-fits Node m between first items e low fits all =
    (record { entry = low; to = subst (λ (b : Kind). IsFirst b first) e fits }, subst (λ (b : Kind). AllByRecursion (IsItem (width b)) items) e all)

-- items with those that are taken over
pub joined-cut : (c d : Content) (between : List ℕ) → packed (width c.kind) [] (joined c between d).items ≡ packed (width c.kind) [] c.items ++ packed (width c.kind) (entry_before c.items (length c.items)) (taken_over c.kind between d.first d.items)
joined-cut c d between =
    let w : ℕ = width c.kind in
    let over : List Item = taken_over c.kind between d.first d.items in
    let whole : take (length c.items) c.items ≡ c.items = take_all (length c.items) c.items (omega arith) in
    ap (λ (l : List Item). packed w [] (l ++ over)) (sym whole) ∙ packed-behind w c.items over (length c.items) (omega arith) ∙ ap (λ (l : List Item). packed w [] l ++ packed w (entry_before c.items (length c.items)) over) whole

-- the new page's item bytes are the old ones and those taken over
pub joined-bytes : (c d : Content) (between : List ℕ) → item_bytes (joined c between d) ≡ item_bytes c ++ packed (width c.kind) (entry_before c.items (length c.items)) (taken_over c.kind between d.first d.items)
unfolding item_bytes
joined-bytes c d between =
    ap (λ (l : List ℕ). first_bytes c.kind c.first ++ l) (joined-cut c d between)
    ∙ sym (append_assoc (first_bytes c.kind c.first) (packed (width c.kind) [] c.items) (packed (width c.kind) (entry_before c.items (length c.items)) (taken_over c.kind between d.first d.items)))

-- the bytes of both, one after the other
pub joined-packed : (c d : Content) (between before items : List ℕ) → IsContent c → IsContent d → d.kind ≡ c.kind → length between ≤ 1000 → before ≡ entry_before c.items (length c.items)
    → items ≡ packed (width c.kind) [] c.items ++ packed (width d.kind) before (taken_over d.kind between d.first d.items) → ArePacked (width c.kind) (joined c between d).items items
joined-packed c d between before items pc pd kind low eb ei = record {
  all = all-append (IsItem (width c.kind)) c.items (taken_over c.kind between d.first d.items) pc.items (taken-fits c.kind d.kind between d.first d.items kind low pd.first pd.items);
  is = ei ∙ (λ i. packed (width c.kind) [] c.items ++ packed (width (kind i)) (eb i) (taken_over (kind i) between d.first d.items)) ∙ sym (joined-cut c d between);
}

-- so the page is made by adding those
pub joined-changes : (c d : Content) (between new start : List ℕ) (before : List ℕ) (size : ℕ) → IsContent c → IsContent d → d.kind ≡ c.kind → length between ≤ 1000 → length (item_bytes (joined c between d)) ≤ 8177
    → size ≡ length (item_bytes c) → before ≡ entry_before c.items (length c.items) → start ≡ [] → new ≡ start ++ packed (width d.kind) before (taken_over d.kind between d.first d.items)
    → Changes (patch size 0 0 new) c (joined c between d) × (size + length new ≤ 8177) × (size + length new ≡ length (item_bytes (joined c between d)))
joined-changes c d between new start before size pc pd kind low room es eb e0 en =
    let w : ℕ = width c.kind in
    let over : List Item = taken_over c.kind between d.first d.items in
    let both : Content = joined c between d in
    let new_is : new ≡ packed w (entry_before c.items (length c.items)) over = en ∙ (λ i. e0 i ++ packed (width (kind i)) (eb i) (taken_over (kind i) between d.first d.items)) in
    let all : AllByRecursion (IsItem w) both.items = all-append (IsItem w) c.items over pc.items (taken-fits c.kind d.kind between d.first d.items kind low pd.first pd.items) in
    let good : IsContent both = record { key = pc.key; first = pc.first; items = all; size = room } in
    let into : item_bytes both ≡ item_bytes c ++ new = joined-bytes c d between ∙ ap (λ (l : List ℕ). item_bytes c ++ l) (sym new_is) in
    let done = patch-changes c both (item_bytes c) [] [] new pc good refl refl (sym (append-nil (item_bytes c))) (into ∙ ap (λ (l : List ℕ). item_bytes c ++ l) (sym (append-nil new))) in
    (subst (λ (n : ℕ). Changes (patch n 0 0 new) c both) (sym es) done, omega (arith, room, ap length into, length-append (item_bytes c) new, es), omega (arith, ap length into, length-append (item_bytes c) new, es))

-- in a node the entry between comes first
pub over-node : (w : ℕ) (kind : Kind) (before between : List ℕ) (first : ℕ) (items : List Item) → kind ≡ Node → w ≡ width kind
    → packed_item 4 before (record { entry = between; to = first }) ++ packed w between items ≡ packed w before (taken_over kind between first items)
unfolding packed
over-node w kind before between first items e ew =
    ap (λ (n : ℕ). packed_item n before (record { entry = between; to = first }) ++ packed w between items) (sym (ew ∙ ap width e)) ∙ sym (ap (λ (b : Kind). packed w before (taken_over b between first items)) e)

-- at most one item more is taken over
pub over-count : (kind : Kind) (between : List ℕ) (first : ℕ) (items : List Item) → length (taken_over kind between first items) ≤ length items + 1
over-count Leaf between first items = omega arith
over-count Node between first items = omega arith

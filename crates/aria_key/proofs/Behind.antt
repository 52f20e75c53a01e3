-- The way back up to where the next leaf begins.
use Rattle.std.proofs.Common.{◌≡◌, ℕ, zero, suc, ◌+◌, ◌<◌, ◌≤◌, Bool, List, [], ◌∷◌, ◌++◌, length, Option, Some, None, refl, sym, ap, subst, ◌∙◌, arith, length-append}
use Rattle.std.specs.List.{AllByRecursion}
use Rattle.std.proofs.lemmas.List.{length-map}
use Rattle.aria_keypage.specs.declared.kind.Kind.{Kind}
use Rattle.aria_keypage.specs.declared.kind.Kind.TheVariants.{Node}
use Rattle.aria_keypage.specs.Item.{Item, item_at}
use Rattle.aria_keypage.specs.Merge.{taken_over}
use Rattle.aria_key.specs.declared.path.Passed.{Passed}
use Rattle.aria_key.specs.Tree.{Placed, name_of, items_on, names, IsOf, Holds, HoldAll, IsTree}
use Rattle.aria_key.specs.Climb.{above, Over, IsPath}
use Rattle.aria_key.specs.Place.{IsFound}
use Rattle.aria_key.specs.Rest.{next_low}
use Rattle.aria_key.specs.Cursor.{entry_in, IsWayTo}
use Rattle.aria_key.proofs.Lists.{all-at, all-right}
use Rattle.aria_key.proofs.Descending.{items-append}
use Rattle.aria_key.proofs.Bounds.{names-append}
use Rattle.aria_key.proofs.Owning.{all-onto}

-- lists with the same last element
pub same-last : {X : Type 0} (a b : List X) (x y : X) → a ++ x ∷ [] ≡ b ++ y ∷ [] → (a ≡ b) × (x ≡ y)
same-last [] [] x y e = (refl, cc)
same-last [] (z ∷ b) x y e = absurd (omega (arith, ap length e, length-append b (y ∷ [])))
same-last (z ∷ a) [] x y e = absurd (omega (arith, ap length e, length-append a (x ∷ [])))
same-last (z ∷ a) (w ∷ b) x y e =
    let h = same-last a b x y (cc) in
    let same : a ≡ b = h.0 in
    (cc, h.1)

-- an entry behind the items in front
entry-behind : (a b : List Item) (n k : ℕ) → n ≡ length a + k → entry_in (a ++ b) n ≡ entry_in b k
entry-behind [] b n k e = let same : n ≡ k = omega (arith, e) in ap (entry_in b) same
entry-behind (x ∷ a) b zero k e = absurd (omega (arith, e))
entry-behind (x ∷ a) b (suc n) k e = entry-behind a b n k (omega (arith, e))

-- and among them
entry-within : (a b : List Item) (n : ℕ) → n < length a → entry_in (a ++ b) n ≡ Some (item_at a n).entry
entry-within [] b n h = absurd (omega (arith, h))
entry-within (x ∷ a) b zero h = refl
entry-within (x ∷ a) b (suc n) h = entry-within a b n (omega (arith, h))

-- the first of the items of nodes is the low of the first of them
entry-first : (key : ℕ) (b : List Placed) → AllByRecursion (IsOf Node key) b → entry_in (items_on b) 0 ≡ next_low b
entry-first key [] kinds = refl
entry-first key (q ∷ b) kinds = ap (λ (t : Kind). entry_in (taken_over t q.low q.content.first q.content.items ++ items_on b) 0) kinds.0.kind_is

name-first : (b : List Placed) → entry_in (names b) 0 ≡ next_low b
name-first [] = refl
name-first (q ∷ b) = refl

-- behind a page comes the next one's name
name-behind : (a : List Placed) (p : Placed) (b : List Placed) → entry_in (names (a ++ p ∷ b)) (suc (length a)) ≡ next_low b
name-behind a p b =
    ap (λ (m : List Item). entry_in m (suc (length a))) (names-append a (p ∷ b))
    ∙ entry-behind (names a) (names (p ∷ b)) (suc (length a)) 1 (omega (arith, length-map a name_of))
    ∙ name-first b

-- the items of a level from a node on
level-from : (key : ℕ) (u a : List Placed) (p : Placed) (b : List Placed) → u ≡ a ++ p ∷ b → AllByRecursion (IsOf Node key) u → items_on u ≡ items_on a ++ ((record { entry = p.low; to = p.content.first } ∷ p.content.items) ++ items_on b)
level-from key u a p b parts kinds =
    ap items_on parts ∙ items-append a (p ∷ b)
    ∙ ap (λ (t : Kind). items_on a ++ (taken_over t p.low p.content.first p.content.items ++ items_on b)) (all-at (IsOf Node key) a p b u parts kinds).kind_is

-- behind a child that isn't the last one comes the next item of its node
child-within : (key : ℕ) (u a : List Placed) (p : Placed) (b : List Placed) (n at : ℕ) → u ≡ a ++ p ∷ b → AllByRecursion (IsOf Node key) u → n ≡ length (items_on a) + at → at < length p.content.items
    → entry_in (items_on u) (suc n) ≡ Some (item_at p.content.items at).entry
child-within key u a p b n at parts kinds index low =
    let x : Item = record { entry = p.low; to = p.content.first } in
    ap (λ (m : List Item). entry_in m (suc n)) (level-from key u a p b parts kinds)
    ∙ entry-behind (items_on a) ((x ∷ p.content.items) ++ items_on b) (suc n) (suc at) (omega (arith, index))
    ∙ entry-within p.content.items (items_on b) at low

-- behind the last one comes the first child of the next node
child-last : (key : ℕ) (u a : List Placed) (p : Placed) (b : List Placed) (n at : ℕ) → u ≡ a ++ p ∷ b → AllByRecursion (IsOf Node key) u → n ≡ length (items_on a) + at → at ≡ length p.content.items
    → entry_in (items_on u) (suc n) ≡ next_low b
child-last key u a p b n at parts kinds index last =
    let x : Item = record { entry = p.low; to = p.content.first } in
    ap (λ (m : List Item). entry_in m (suc n)) (level-from key u a p b parts kinds)
    ∙ entry-behind (items_on a) ((x ∷ p.content.items) ++ items_on b) (suc n) (suc at) (omega (arith, index))
    ∙ entry-behind p.content.items (items_on b) at 0 (omega (arith, last))
    ∙ entry-first key b (all-right (IsOf Node key) a (p ∷ b) (subst (AllByRecursion (IsOf Node key)) parts kinds)).1

-- the lowest node of the way: its place, and the way to it
pub record Lowest (bodies : ℕ → Option (List ℕ)) (count : ℕ) (front : List Passed) (last : Passed) (next : Option (List ℕ)) : Type 0 where
  pub here : Placed
  pub held : Holds bodies count here
  pub page_is : here.page ≡ last.page
  pub kind_is : here.content.kind ≡ Node
  pub within : last.at < length here.content.items → next ≡ Some (item_at here.content.items last.at).entry
  pub over : length here.content.items ≤ last.at → IsWayTo bodies count front next

pub lowest : (bodies : ℕ → Option (List ℕ)) (count : ℕ) (front : List Passed) (last : Passed) (next : Option (List ℕ)) → IsWayTo bodies count (front ++ last ∷ []) next → Lowest bodies count front last next
lowest bodies count front last next w = by w.ups w.over w.hold w.path_is w.next_is
  where
    by : (ups : List (List Placed)) → Over w.key w.root ups → HoldAll bodies count ups → IsPath ups w.n (front ++ last ∷ []) → next ≡ entry_in (above w.root ups) (suc w.n) → Lowest bodies count front last next
    by [] over hold path is = absurd (omega (arith, ap length path.0, length-append front (last ∷ [])))
    by (u ∷ us) over hold (before, step, whole, c, way) is =
        let same = same-last front before last step whole in
        let at : step.at ≡ last.at = ap (λ (s : Passed). s.at) (sym same.1) in
        let p : Placed = c.here in
        let kinds : AllByRecursion (IsOf Node w.key) u = over.0.kinds in
        record {
          here = p;
          held = all-at (Holds bodies count) c.before p c.behind u c.parts hold.0;
          page_is = c.page_is ∙ ap (λ (s : Passed). s.page) (sym same.1);
          kind_is = (all-at (IsOf Node w.key) c.before p c.behind u c.parts kinds).kind_is;
          within = λ low.
              is ∙ child-within w.key u c.before p c.behind w.n step.at c.parts kinds c.index (omega (arith, at, low)) ∙ ap (λ (k : ℕ). Some (item_at p.content.items k).entry) at;
          over = λ high. record {
            key = w.key;
            root = w.root;
            ups = us;
            n = length c.before;
            over = over.1;
            hold = hold.1;
            path_is = subst (λ (f : List Passed). IsPath us (length c.before) f) (sym same.0) way;
            next_is =
                is ∙ child-last w.key u c.before p c.behind w.n step.at c.parts kinds c.index (omega (arith, at, high, c.within)) ∙ sym (name-behind c.before p c.behind)
                ∙ ap (λ (m : List Item). entry_in m (suc (length c.before))) (ap (λ (m : List Placed). names m) (sym c.parts) ∙ over.0.named);
          };
        }

-- the root has none behind it
pub way-up : (bodies : ℕ → Option (List ℕ)) (count : ℕ) (next : Option (List ℕ)) → IsWayTo bodies count [] next → next ≡ None
way-up bodies count next w = by w.ups w.path_is w.next_is
  where
    by : (ups : List (List Placed)) → IsPath ups w.n [] → next ≡ entry_in (above w.root ups) (suc w.n) → next ≡ None
    by [] path is = is
    by (u ∷ us) (before, step, whole, c, way) is = absurd (omega (arith, ap length whole, length-append before (step ∷ [])))

-- where a search came to a leaf, its way tells where the next leaf begins
pub way-found : (bodies : ℕ → Option (List ℕ)) (count key root : ℕ) (entry : List ℕ) (levels : List (List Placed)) (walk : List Item) (page at : ℕ) (same : Bool) (path : List Passed) → IsTree bodies count key root levels walk → (f : IsFound bodies count key root entry levels walk page at same path)
    → IsWayTo bodies count path (next_low f.on.behind)
way-found bodies count key root entry levels walk page at same path t f = record {
  key = key;
  root = root;
  ups = f.ups;
  n = f.n;
  over = f.over;
  hold = (all-onto (AllByRecursion (Holds bodies count)) f.ups (f.leaves ∷ []) (subst (HoldAll bodies count) (sym f.whole) t.hold)).0;
  path_is = f.path_is;
  next_is =
      sym (name-behind f.on.before f.on.here f.on.behind)
      ∙ ap (λ (m : List Item). entry_in m (suc (length f.on.before))) (ap (λ (m : List Placed). names m) (sym f.on.parts) ∙ f.under.0.named)
      ∙ ap (λ (k : ℕ). entry_in (above root f.ups) (suc k)) f.on.index;
}

-- A cursor's steps.
use Rattle.std.proofs.Common.{◌≡◌, ℕ, ◌+◌, ◌<◌, ◌≤◌, List, [], ◌∷◌, length, Option, Some, None, sym, ap, subst, ◌∙◌, arith, rules, inl, inr}
use Rattle.std.specs.Prelude.{IsSome}
use Rattle.std.proofs.lemmas.Option.{same_Some}
use Rattle.aria_keypage.specs.declared.leaf_reader.LeafReader.{LeafReader}
use Rattle.aria_keypage.specs.Item.{Item, item_at}
use Rattle.aria_keypage.specs.Content.{Content, Spells}
use Rattle.aria_keypage.specs.LeafReading.{HasRead}
use Rattle.aria_keypage.proofs.Read.{spells-one}
use Rattle.aria_key.specs.declared.cursor.Cursor.{Cursor}
use Rattle.aria_key.specs.Held.{HasContent}
use Rattle.aria_key.specs.Tree.{Placed, Holds, IsTree}
use Rattle.aria_key.specs.Rest.{from, next_low}
use Rattle.aria_key.specs.Cursor.{HasRest}
use Rattle.aria_key.specs.Ahead.{HasSought, IsInTree, IsAheadIn}
use Rattle.aria_key.proofs.Lists.{all-at}
use Rattle.aria_key.proofs.Onward.{rest-sought, rest-held, rest-here, rest-from, rest-ends}
use Rattle.aria_key.proofs.Landing.{lands}

-- a page holds one content
held-one : (bodies : ℕ → Option (List ℕ)) (page : ℕ) (c d : Content) → HasContent bodies page c → HasContent bodies page d → c ≡ d
held-one bodies page c d p q = spells-one p.body c d p.spells (subst (λ (b : List ℕ). Spells b d) (same_Some q.body p.body (sym q.there ∙ p.there)) q.spells)

placed-there : (bodies : ℕ → Option (List ℕ)) (count page : ℕ) (p : Placed) → Holds bodies count p → p.page ≡ page → HasContent bodies page p.content
placed-there bodies count page p h e = record { body = h.body; there = ap bodies (sym e) ∙ h.there; size = h.size; spells = h.spells }

-- the leaf of a cursor
here : (bodies : ℕ → Option (List ℕ)) (count root page at : ℕ) (next : Option (List ℕ)) (rest : List Item) (c : Content) → HasContent bodies page c → (h : HasRest bodies count root page at next rest) → c ≡ h.cursor.here.content
here bodies count root page at next rest c held h =
    held-one bodies page c h.cursor.here.content held (placed-there bodies count page h.cursor.here (rest-held bodies count root page at next rest h) h.cursor.page_is)

-- where a search came to, a cursor has the entries ahead that aren't below the sought one
pub sought-in : (bodies : ℕ → Option (List ℕ)) (count key root : ℕ) (entry : List ℕ) (levels : List (List Placed)) (walk : List Item) (c : Cursor) → IsTree bodies count key root levels walk → HasSought bodies count key root entry levels walk c → IsInTree bodies count c (from entry walk)
sought-in bodies count key root entry levels walk c t s =
    let p : Placed = s.found.on.here in
    let held : Holds bodies count p = all-at (Holds bodies count) s.found.on.before p s.found.on.behind s.found.leaves s.found.on.parts s.found.hold.0 in
    let h : HasRest bodies count root c.page s.at (next_low s.found.on.behind) (from entry walk) = rest-sought bodies count key root entry levels walk c.page s.at s.same s.path t s.found in
    record {
      low = let same = s.found.on.page_is in omega (arith, held.low, same);
      content = p.content;
      held = placed-there bodies count c.page p held s.found.on.page_is;
      at = s.at;
      entered = s.entered;
      rest_is = subst (λ (r : ℕ). HasRest bodies count r c.page s.at c.next (from entry walk)) (sym s.root_is) (subst (λ (n : Option (List ℕ)). HasRest bodies count root c.page s.at n (from entry walk)) (sym s.next_is) h);
    }

-- an item of the leaf was read
pub read-in : (bodies : ℕ → Option (List ℕ)) (count : ℕ) (c : Cursor) (rest : List Item) (reader : LeafReader) (target left : ℕ) → (i : IsInTree bodies count c rest) → left + 1 ≡ c.left → HasRead i.content i.at target reader
    → (more : List Item) × (rest ≡ item_at i.content.items i.at ∷ more) × IsInTree bodies count (record c { reader = reader; target = target; left = left }) more
read-in bodies count c rest reader target left i less read =
    let h = i.rest_is in
    let same : i.content ≡ h.cursor.here.content = here bodies count c.root c.page i.at c.next rest i.content i.held h in
    let low : i.at < length h.cursor.here.content.items = omega (arith, less, i.entered.left, ap (λ (d : Content). length d.items) same) in
    let k = rest-here bodies count c.root c.page i.at c.next rest h low in (
      k.0,
      k.1 ∙ ap (λ (d : Content). item_at d.items i.at ∷ k.0) (sym same),
      record {
        low = i.low;
        content = i.content;
        held = i.held;
        at = i.at + 1;
        entered = record { leaf = i.entered.leaf; reader = read.behind; left = omega (arith, less, i.entered.left) };
        rest_is = k.2;
      },
    )

-- behind the last item of a leaf
spent : (bodies : ℕ → Option (List ℕ)) (count : ℕ) (c : Cursor) (rest : List Item) → (i : IsInTree bodies count c rest) → c.left ≡ 0 → length i.rest_is.cursor.here.content.items ≤ i.at
spent bodies count c rest i none = omega (arith, none, i.entered.left, ap (λ (d : Content). length d.items) (here bodies count c.root c.page i.at c.next rest i.content i.held i.rest_is))

-- a cursor in a tree has a way on where the next leaf is known
pub in-tree : (bodies : ℕ → Option (List ℕ)) (count : ℕ) (c : Cursor) (rest : List Item) (low : List ℕ) → IsAheadIn bodies count c rest → c.next ≡ Some low → IsInTree bodies count c rest
in-tree bodies count c rest low (inl k) e = absurd (let n = k.0.next_is in cc)
in-tree bodies count c rest low (inr k) e = k

-- it came to the next leaf
pub on-leaf : (bodies : ℕ → Option (List ℕ)) (count : ℕ) (c on : Cursor) (rest : List Item) (low : List ℕ) → (i : IsInTree bodies count c rest) → c.left ≡ 0 → c.next ≡ Some low → HasSought bodies count i.rest_is.key c.root low i.rest_is.levels i.rest_is.walk on
    → (0 < on.left) × IsInTree bodies count on rest
on-leaf bodies count c on rest low i none e s =
    let h = i.rest_is in
    let is : rest ≡ from low h.walk = rest-from bodies count c.root c.page i.at c.next low rest h e (spent bodies count c rest i none) in
    let first = lands bodies count c.root c.page i.at c.next low rest on.page s.at s.same s.path h e s.found in
    (omega (arith, first, s.entered.left), subst (IsInTree bodies count on) (sym is) (sought-in bodies count h.key c.root low h.levels h.walk on h.tree s))

-- the last leaf was read
pub last-leaf : (bodies : ℕ → Option (List ℕ)) (count : ℕ) (c : Cursor) (rest : List Item) → IsAheadIn bodies count c rest → c.left ≡ 0 → c.next ≡ None → rest ≡ []
last-leaf bodies count c rest (inl k) none e = k.1
last-leaf bodies count c rest (inr k) none e = rest-ends bodies count c.root c.page k.at c.next rest k.rest_is e (spent bodies count c rest k none)

-- a page of a cursor is there
pub present : (bodies : ℕ → Option (List ℕ)) (count : ℕ) (c : Cursor) (rest : List Item) → IsAheadIn bodies count c rest → (c.page < count) × IsSome (bodies c.page)
present bodies count c rest (inl k) = (k.0.low, k.0.there)
present bodies count c rest (inr k) = (k.low, subst (λ (b : Option (List ℕ)). IsSome b) (sym k.held.there) (search rules))

-- one that has no items left is in a tree where it has some
pub left-in : (bodies : ℕ → Option (List ℕ)) (count : ℕ) (c : Cursor) (rest : List Item) → IsAheadIn bodies count c rest → 0 < c.left → IsInTree bodies count c rest
left-in bodies count c rest (inl k) h = absurd (let n = k.0.left in omega (arith, n, h))
left-in bodies count c rest (inr k) h = k

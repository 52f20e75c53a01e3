-- A cursor, from its search on.
use Rattle.std.proofs.Common.{◌≡◌, ℕ, ◌+◌, ◌<◌, ◌≤◌, Bool, List, [], ◌∷◌, ◌++◌, length, drop, Option, Some, None, sym, ap, subst, ◌∙◌}
use Rattle.aria_keypage.specs.Item.{Item, item_at}
use Rattle.aria_key.specs.declared.path.Passed.{Passed}
use Rattle.aria_key.specs.Tree.{Placed, items_on, Holds, IsTree}
use Rattle.aria_key.specs.Place.{IsFound}
use Rattle.aria_key.specs.Rest.{from, next_low}
use Rattle.aria_key.specs.Cursor.{HasRest}
use Rattle.aria_key.proofs.Lists.{all-at}
use Rattle.aria_key.proofs.Seeking.{seek-rest, next-here, next-none, next-leaf}

-- where a search came to, the entries from the first that isn't below the sought one are still to come
pub rest-sought : (bodies : ℕ → Option (List ℕ)) (count key root : ℕ) (entry : List ℕ) (levels : List (List Placed)) (walk : List Item) (page at : ℕ) (same : Bool) (path : List Passed) → IsTree bodies count key root levels walk → (f : IsFound bodies count key root entry levels walk page at same path)
    → HasRest bodies count root page at (next_low f.on.behind) (from entry walk)
rest-sought bodies count key root entry levels walk page at same path t f = record {
  key = key;
  levels = levels;
  walk = walk;
  tree = t;
  ups = f.ups;
  leaves = f.leaves;
  whole = f.whole;
  named = _;
  level = f.under.0;
  hold = f.hold.0;
  all = f.under.2;
  cursor = seek-rest bodies count key root entry levels walk page at same path f;
}

-- what the leaf holds
pub rest-held : (bodies : ℕ → Option (List ℕ)) (count root page at : ℕ) (next : Option (List ℕ)) (rest : List Item) → (h : HasRest bodies count root page at next rest) → Holds bodies count h.cursor.here
rest-held bodies count root page at next rest h = all-at (Holds bodies count) h.cursor.before h.cursor.here h.cursor.behind h.leaves h.cursor.parts h.hold

-- the item at the cursor comes next, and then those behind it
pub rest-here : (bodies : ℕ → Option (List ℕ)) (count root page at : ℕ) (next : Option (List ℕ)) (rest : List Item) → (h : HasRest bodies count root page at next rest) → at < length h.cursor.here.content.items
    → (more : List Item) × (rest ≡ item_at h.cursor.here.content.items at ∷ more) × HasRest bodies count root page (at + 1) next more
rest-here bodies count root page at next rest h low =
    let k = next-here h.leaves page at next rest h.cursor low in (
      drop (at + 1) h.cursor.here.content.items ++ items_on h.cursor.behind,
      k.0,
      record { key = h.key; levels = h.levels; walk = h.walk; tree = h.tree; ups = h.ups; leaves = h.leaves; whole = h.whole; named = h.named; level = h.level; hold = h.hold; all = h.all; cursor = k.1 },
    )

-- behind the last leaf's last item none comes
pub rest-none : (bodies : ℕ → Option (List ℕ)) (count root page at : ℕ) (rest : List Item) → (h : HasRest bodies count root page at None rest) → length h.cursor.here.content.items ≤ at → rest ≡ []
rest-none bodies count root page at rest h high = next-none h.leaves page at rest h.cursor high

-- behind that of another leaf, a search for the next one's low goes on
pub rest-on : (bodies : ℕ → Option (List ℕ)) (count root page at : ℕ) (low : List ℕ) (rest : List Item) (there place : ℕ) (same : Bool) (path : List Passed) → (h : HasRest bodies count root page at (Some low) rest) → length h.cursor.here.content.items ≤ at
    → (f : IsFound bodies count h.key root low h.levels h.walk there place same path) → HasRest bodies count root there place (next_low f.on.behind) rest
rest-on bodies count root page at low rest there place same path h high f =
    let is : rest ≡ from low h.walk = next-leaf h.leaves h.key page at low rest h.named h.level h.cursor high ∙ ap (from low) (sym h.all) in
    subst (HasRest bodies count root there place (next_low f.on.behind)) (sym is) (rest-sought bodies count h.key root low h.levels h.walk there place same path h.tree f)

-- so behind another leaf's last item those from the next one's low on are still to come
pub rest-from : (bodies : ℕ → Option (List ℕ)) (count root page at : ℕ) (next : Option (List ℕ)) (low : List ℕ) (rest : List Item) → (h : HasRest bodies count root page at next rest) → next ≡ Some low → length h.cursor.here.content.items ≤ at → rest ≡ from low h.walk
rest-from bodies count root page at next low rest h e high =
    next-leaf h.leaves h.key page at low rest h.named h.level (record { before = h.cursor.before; here = h.cursor.here; behind = h.cursor.behind; parts = h.cursor.parts; page_is = h.cursor.page_is; next_is = sym e ∙ h.cursor.next_is; rest_is = h.cursor.rest_is }) high
    ∙ ap (from low) (sym h.all)

-- and behind that of the last leaf none
pub rest-ends : (bodies : ℕ → Option (List ℕ)) (count root page at : ℕ) (next : Option (List ℕ)) (rest : List Item) → (h : HasRest bodies count root page at next rest) → next ≡ None → length h.cursor.here.content.items ≤ at → rest ≡ []
rest-ends bodies count root page at next rest h e high =
    next-none h.leaves page at rest (record { before = h.cursor.before; here = h.cursor.here; behind = h.cursor.behind; parts = h.cursor.parts; page_is = h.cursor.page_is; next_is = sym e ∙ h.cursor.next_is; rest_is = h.cursor.rest_is }) high

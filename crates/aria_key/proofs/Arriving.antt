-- A cursor's way to a leaf.
use Rattle.std.proofs.Common.{◌≡◌, ℕ, Bool, List, IsTrue, Option, sym, ap, ◌∙◌, arith}
use Rattle.aria_cache.specs.PageState.{PageState}
use Rattle.aria_keypage.specs.declared.kind.Kind.TheVariants.{Leaf}
use Rattle.aria_keypage.specs.Item.{Item}
use Rattle.aria_keypage.specs.Content.{Content}
use Rattle.aria_key.specs.declared.cursor.Cursor.{Cursor}
use Rattle.aria_key.specs.declared.entering.Entered.{Entered}
use Rattle.aria_key.specs.declared.path.Passed.{Passed}
use Rattle.aria_key.specs.Held.{HasContent, Takes}
use Rattle.aria_key.specs.Tree.{Placed, IsOf, Holds, IsTree}
use Rattle.aria_key.specs.Place.{IsFound}
use Rattle.aria_key.specs.Rest.{next_low}
use Rattle.aria_key.specs.Cursor.{IsWayTo}
use Rattle.aria_key.specs.Reading.{keys_file, Reads, HasRoot}
use Rattle.aria_key.specs.WayUp.{HasWay}
use Rattle.aria_key.specs.Ahead.{HasEntered, HasSought}
use Rattle.aria_key.proofs.Behind.{way-found}
use Rattle.aria_key.proofs.Children.{place-within}
use Rattle.aria_key.proofs.Finding.{held_then}
use Rattle.aria_key.proofs.Later.{IsThere}
use Rattle.aria_key.proofs.Lists.{all-at}
use Rattle.aria_key.proofs.Then.{moved}

-- what a search finds, for each tree with this root
abbrev pub TellsFound : ℕ → ℕ → List ℕ → PageState → ℕ → ℕ → Bool → List Passed → Type 0
TellsFound slot root entry s page at same path = (key : ℕ) (levels : List (List Placed)) (walk : List Item) → IsTree (s.bodies (keys_file s slot)) (s.counts (keys_file s slot)) key root levels walk
    → IsFound (s.bodies (keys_file s slot)) (s.counts (keys_file s slot)) key root entry levels walk page at same path

-- the leaf that was found takes what was asked of it
pub leaf_there : (slot root : ℕ) (entry : List ℕ) (s : PageState) (page at : ℕ) (same : Bool) (path : List Passed) → TellsFound slot root entry s page at same path → HasRoot s (keys_file s slot) root → IsThere s (keys_file s slot) page (Takes Leaf at)
leaf_there slot root entry s page at same path told r = by (told r.key r.levels r.walk r.tree)
  where
    by : IsFound (s.bodies (keys_file s slot)) (s.counts (keys_file s slot)) r.key root entry r.levels r.walk page at same path → IsThere s (keys_file s slot) page (Takes Leaf at)
    by f =
        let p : Placed = f.on.here in
        let h : Holds (s.bodies (keys_file s slot)) (s.counts (keys_file s slot)) p = all-at (Holds (s.bodies (keys_file s slot)) (s.counts (keys_file s slot))) f.on.before p f.on.behind f.leaves f.on.parts f.hold.0 in
        let kind : IsOf Leaf r.key p = all-at (IsOf Leaf r.key) f.on.before p f.on.behind f.leaves f.on.parts f.under.0.kinds in
        record {
          low = let e = f.on.page_is in omega (arith, h.low, e);
          content = p.content;
          held = record { body = h.body; there = ap (s.bodies (keys_file s slot)) (sym f.on.page_is) ∙ h.there; size = h.size; spells = h.spells };
          asked = (kind.kind_is, place-within entry p.content.items at same f.place);
        }

-- its way is there then
pub way_there : (tells : Bool) (slot n root : ℕ) (entry : List ℕ) (old now : PageState) (page at : ℕ) (same : Bool) (path : List Passed) → Reads tells n old now → IsTrue tells → TellsFound slot root entry old page at same path → HasRoot old (keys_file old slot) root → HasWay now (keys_file now slot) path
way_there tells slot n root entry old now page at same path reads t told r = by (told r.key r.levels r.walk r.tree)
  where
    by : IsFound (old.bodies (keys_file old slot)) (old.counts (keys_file old slot)) r.key root entry r.levels r.walk page at same path → HasWay now (keys_file now slot) path
    by f = record {
      next = next_low f.on.behind;
      way = moved (λ b k. IsWayTo b k path (next_low f.on.behind)) tells slot n old now reads t (way-found (old.bodies (keys_file old slot)) (old.counts (keys_file old slot)) r.key root entry r.levels r.walk page at same path r.tree f);
    }

-- what the way and the leaf then tell
abbrev pub TellsNext : ℕ → List Passed → PageState → Option (List ℕ) → Type 0
TellsNext slot path s found = (next : Option (List ℕ)) → IsWayTo (s.bodies (keys_file s slot)) (s.counts (keys_file s slot)) path next → found ≡ next

abbrev pub TellsLeaf : ℕ → ℕ → ℕ → PageState → Entered → Type 0
TellsLeaf slot page at s e = (c : Content) → HasContent (s.bodies (keys_file s slot)) page c → HasEntered c at e

pub arrives : (tells : Bool) (slot n m key root : ℕ) (entry : List ℕ) (levels : List (List Placed)) (walk : List Item) (old now then_now : PageState) (at : ℕ) (same : Bool) (path : List Passed) (c : Cursor) → Reads tells n old now → Reads tells m old then_now → IsTrue tells
    → IsTree (old.bodies (keys_file old slot)) (old.counts (keys_file old slot)) key root levels walk → TellsFound slot root entry old c.page at same path → TellsNext slot path now c.next → TellsLeaf slot c.page at then_now (record { left = c.left; reader = c.reader }) → c.root ≡ root
    → HasSought (old.bodies (keys_file old slot)) (old.counts (keys_file old slot)) key root entry levels walk c
arrives tells slot n m key root entry levels walk old now then_now at same path c first second t tree found next leaf is = by (found key levels walk tree)
  where
    by : IsFound (old.bodies (keys_file old slot)) (old.counts (keys_file old slot)) key root entry levels walk c.page at same path → HasSought (old.bodies (keys_file old slot)) (old.counts (keys_file old slot)) key root entry levels walk c
    by f =
        let bodies = old.bodies (keys_file old slot) in
        let count = old.counts (keys_file old slot) in
        let p : Placed = f.on.here in
        let h : Holds bodies count p = all-at (Holds bodies count) f.on.before p f.on.behind f.leaves f.on.parts f.hold.0 in
        let held : HasContent bodies c.page p.content = record { body = h.body; there = ap bodies (sym f.on.page_is) ∙ h.there; size = h.size; spells = h.spells } in
        record {
          at = at;
          same = same;
          path = path;
          found = f;
          root_is = is;
          next_is = next (next_low f.on.behind) (moved (λ b k. IsWayTo b k path (next_low f.on.behind)) tells slot n old now first t (way-found bodies count key root entry levels walk c.page at same path tree f));
          entered = leaf p.content (held_then tells slot m c.page p.content old then_now second t held);
        }

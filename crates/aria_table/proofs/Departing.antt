-- An entry taken out of the tree of a key.
use Rattle.std.proofs.Common.{◌≡◌, ◌≢◌, ◌==◌, ℕ, ◌+◌, ◌<◌, ◌≤◌, ◌^◌, Bool, true, false, cond, Option, Some, None, List, [], ◌∷◌, length, refl, sym, ap, subst, ◌∙◌, arith}
use Rattle.std.specs.Prelude.{IsTrue, Result, Ok, Err, OnOk}
use Rattle.std.specs.declared.cmp.Ordering.{Ordering}
use Rattle.std.specs.declared.cmp.Ordering.TheVariants.{Less, Equal, Greater}
use Rattle.std.specs.Map.{lookup, remove_entry}
use Rattle.std.specs.Ordering.{nat_cmp, is_eq}
use Rattle.std.specs.Cmp.Lexicographic.{slice_cmp}
use Rattle.std.proofs.lemmas.Map.Lookups.{exact_bytes}
use Rattle.std.proofs.lemmas.Bool.{eqb-true}
use Rattle.aria_keypage.specs.Item.{Item}
use Rattle.aria_host.specs.declared.fault.Fault.{Fault}
use Rattle.aria_host.specs.declared.file_name.FileName.{FileName}
use Rattle.aria_cache.specs.PageState.{PageState}
use Rattle.aria_cache.specs.Calls.{SameSlots, StaysIn}
use Rattle.aria_cache.specs.Causes.{HasPagesCause}
use Rattle.aria_key.specs.Owned.{without_entry}
use Rattle.aria_key.specs.IndexFile.{HoldsTrees, with_walk as with_tree}
use Rattle.aria_key.specs.Inserting.{IsAbsent, HeaderKept}
use Rattle.aria_key.specs.Removing.{IsThere, CanRemove}
use Rattle.aria_key.specs.Taking.{GrowsTo}
use Rattle.aria_key.specs.Reading.{keys_file, OfTree}
use Rattle.aria_block.specs.Causes.{rows_file}
use Rattle.aria_table.specs.Content.{Content, Walk, with_walk, same_entry, take_entry}
use Rattle.aria_table.specs.Holds.{HasContent, pair_of, pairs, rows_in}
use Rattle.aria_table.specs.Step.{HoldsContent, HasEntryIn, OfTable}
use Rattle.aria_table.proofs.Placing.{same_keys, same_data}
use Rattle.aria_table.proofs.Causing.{cause_tree}
use Rattle.aria_table.proofs.Entering.{few, rows_same, walk_of, none_of}

-- ---- the walk

pairs_step : (b : Bool) (y : Item) (ys zs : List Item) (rest : Walk) → pairs zs ≡ rest → pairs (cond b ys (y ∷ zs)) ≡ cond b (pairs ys) (pair_of y ∷ rest)
pairs_step true y ys zs rest is = refl
pairs_step false y ys zs rest is = ap (λ (l : Walk). pair_of y ∷ l) is

pub pairs_without : (entry : List ℕ) (walk : List Item) → pairs (without_entry entry walk) ≡ remove_entry (same_entry entry) (pairs walk)
pairs_without entry [] = refl
pairs_without entry (y ∷ ys) = pairs_step (same_entry entry y.entry) y ys (without_entry entry ys) (remove_entry (same_entry entry) (pairs ys)) (pairs_without entry ys)

none_step : (b : Bool) (to : ℕ) (found : Option ℕ) → (b ≡ true → ⊥) → found ≡ None → cond b (Some to) found ≡ None
none_step true to found not none = absurd (not refl)
none_step false to found not none = none

equal_then : (r : Ordering) → is_eq r ≡ true → r ≡ Equal
equal_then Less is = absurd (cc)
equal_then Equal is = refl
equal_then Greater is = absurd (cc)

none_found : (entry : List ℕ) (walk : List Item) → IsAbsent entry walk → lookup (same_entry entry) (pairs walk) ≡ None
none_found entry [] absent = refl
none_found entry (y ∷ ys) absent =
    none_step (same_entry entry y.entry) y.to (lookup (same_entry entry) (pairs ys)) (λ same. absent.0 (sym (exact_bytes entry y.entry (equal_then (slice_cmp nat_cmp entry y.entry) same)))) (none_found entry ys absent.1)

-- an entry that is found is an item's
pub there : (entry : List ℕ) (target : ℕ) (walk : List Item) → lookup (same_entry entry) (pairs walk) ≡ Some target → IsThere entry walk
there entry target walk found = λ absent. let none = none_found entry walk absent in absurd (cc)

-- ---- the table

departed : (is_row : List ℕ → Bool) (keys : ℕ) (ic more : ℕ) (ib new : ℕ → Option (List ℕ)) (dc : ℕ) (db : ℕ → Option (List ℕ)) (c : Content) (key : ℕ) (entry : List ℕ) (h : HasContent is_row keys ic ib dc db c) → key < keys → key < 8
    → HoldsTrees keys more new (with_tree key (without_entry entry (h.walks key)) h.walks) → HeaderKept key ic more h.trees.header new → HasContent is_row keys more new dc db (take_entry key entry c)
departed is_row keys ic more ib new dc db c key entry h low eight t kept =
    let here : remove_entry (same_entry entry) (c.walks key) ≡ pairs (without_entry entry (h.walks key)) = ap (remove_entry (same_entry entry)) (h.walk key low) ∙ sym (pairs_without entry (h.walks key)) in
    record {
      walks = with_tree key (without_entry entry (h.walks key)) h.walks;
      trees = t;
      walk = λ k lt. walk_of (key == k) (without_entry entry (h.walks key)) (h.walks k) (remove_entry (same_entry entry) (c.walks key)) (c.walks k) (λ same. here) (h.walk k lt);
      none = λ k above. ap (λ (w : Walk). cond (key == k) (remove_entry (same_entry entry) (c.walks key)) w) (h.none k above)
          ∙ none_of (key == k) (remove_entry (same_entry entry) (c.walks key)) (λ same. let is = eqb-true key k same in omega (arith, is, low, above));
      number = h.number ∙ sym (rows_same keys ic more key h.trees.header new (with_tree key (without_entry entry (h.walks key)) h.walks) t eight h.trees.file.size kept);
      data_file = h.data_file;
    }

-- the same of a slot's pages, where the entry was taken by a call on the index file
pub departed_ok : {T : Type 0} (r : Result T Fault) (is_row : List ℕ → Bool) (keys slot : ℕ) (logged : Bool) (old new : PageState) (c : Content) (key : ℕ) (entry : List ℕ) (h : HoldsContent is_row keys slot old c) → key < keys → key < 8
    → SameSlots old new → OnOk r (StaysIn logged (keys_file old slot) old new) → OnOk r (GrowsTo (keys_file old slot) old new)
    → OnOk r (HoldsTrees keys (new.counts (keys_file old slot)) (new.bodies (keys_file old slot)) (with_tree key (without_entry entry (h.walks key)) h.walks))
    → OnOk r (HeaderKept key (old.counts (keys_file old slot)) (new.counts (keys_file old slot)) h.trees.header (new.bodies (keys_file old slot))) → OnOk r (HoldsContent is_row keys slot new (take_entry key entry c))
departed_ok (Err e) is_row keys slot logged old new c key entry h low eight slots inside grows t kept = tt
departed_ok (Ok x) is_row keys slot logged old new c key entry h low eight slots inside grows t kept =
    let data_file : FileName = rows_file old slot in
    let bodies : new.bodies data_file ≡ old.bodies data_file = inside.others data_file refl in
    let counts : new.counts data_file ≡ old.counts data_file = grows.others data_file refl in
    let now : HasContent is_row keys (new.counts (keys_file old slot)) (new.bodies (keys_file old slot)) (old.counts data_file) (old.bodies data_file) (take_entry key entry c) =
    departed is_row keys (old.counts (keys_file old slot)) (new.counts (keys_file old slot)) (old.bodies (keys_file old slot)) (new.bodies (keys_file old slot)) (old.counts data_file) (old.bodies data_file) c key entry h low eight t kept in
    let both : HasContent is_row keys (new.counts (keys_file old slot)) (new.bodies (keys_file old slot)) (new.counts data_file) (new.bodies data_file) (take_entry key entry c) =
    subst (λ (n : ℕ). HasContent is_row keys (new.counts (keys_file old slot)) (new.bodies (keys_file old slot)) n (new.bodies data_file) (take_entry key entry c)) (sym counts)
    (subst (λ (b : ℕ → Option (List ℕ)). HasContent is_row keys (new.counts (keys_file old slot)) (new.bodies (keys_file old slot)) (old.counts data_file) b (take_entry key entry c)) (sym bodies) now) in
    subst (λ (f : FileName). HasContent is_row keys (new.counts f) (new.bodies f) (new.counts (rows_file new slot)) (new.bodies (rows_file new slot)) (take_entry key entry c)) (sym (same_keys slot old new slots))
    (subst (λ (f : FileName). HasContent is_row keys (new.counts (keys_file old slot)) (new.bodies (keys_file old slot)) (new.counts f) (new.bodies f) (take_entry key entry c)) (sym (same_data slot old new slots)) both)

-- what a table asks of the tree that loses an entry
can_remove : (key slot : ℕ) (entry : List ℕ) (s : PageState) → HasEntryIn key entry slot s → CanRemove s (keys_file s slot) key entry
can_remove key slot entry s has = record {
  keys = has.keys;
  walks = has.held.walks;
  low = has.low;
  held = has.held.trees;
  there = there entry has.target (has.held.walks key) (ap (lookup (same_entry entry)) (sym (has.held.walk key has.low)) ∙ has.there);
  few = few (has.held.walks key) (has.content.walks key) (has.held.walk key has.low) has.few;
  room = has.room;
}

pub cause_departs : (tells logged : Bool) (key slot bytes : ℕ) (entry : List ℕ) (old new : PageState) (fault : Option Fault) → HasPagesCause (OfTree tells logged (CanRemove old (keys_file old slot) key entry) (keys_file old slot) old new) old new fault
    → HasPagesCause (OfTable tells logged (HasEntryIn key entry slot old) slot bytes old new) old new fault
cause_departs tells logged key slot bytes entry old new fault is = cause_tree tells logged (HasEntryIn key entry slot old) (CanRemove old (keys_file old slot) key entry) slot bytes old new fault (can_remove key slot entry old) is

-- An entry put into the tree of a key.
use Rattle.std.proofs.Common.{◌≡◌, ◌≢◌, ◌==◌, ◌⊎◌, inl, inr, ℕ, ◌+◌, ◌*◌, ◌<◌, ◌≤◌, ◌^◌, Bool, true, false, cond, Option, Some, None, List, [], ◌∷◌, length, refl, sym, ap, subst, ◌∙◌, arith}
use Rattle.std.specs.Prelude.{IsTrue, Result, Ok, Err, OnOk}
use Rattle.std.specs.declared.cmp.Ordering.{Ordering}
use Rattle.std.specs.declared.cmp.Ordering.TheVariants.{Equal}
use Rattle.std.specs.BTreeMap.{insert_entry}
use Rattle.std.specs.Map.{lookup}
use Rattle.std.specs.Ordering.{nat_cmp, is_eq}
use Rattle.std.specs.Cmp.{tied_itself}
use Rattle.std.specs.Cmp.Lexicographic.{slice_cmp, nat_list_cmp_total}
use Rattle.std.proofs.lemmas.List.{length-map}
use Rattle.std.proofs.lemmas.Bool.{cases_Bool, eqb-true}
use Rattle.aria_page.specs.declared.page.TheConstants.{BODY_BYTES}
use Rattle.aria_page.specs.Page.{with_bytes}
use Rattle.aria_page.specs.Number.{number}
use Rattle.aria_page.proofs.Numbers.{length-number}
use Rattle.aria_page.proofs.Pages.{length-with_bytes}
use Rattle.aria_keypage.specs.Item.{Item}
use Rattle.aria_key.specs.Owned.{with_entry}
use Rattle.aria_key.specs.IndexFile.{HoldsTrees, with_free, ChangesRoot, with_walk as with_tree}
use Rattle.aria_host.specs.declared.fault.Fault.{Fault}
use Rattle.aria_host.specs.declared.file_name.FileName.{FileName}
use Rattle.aria_cache.specs.PageState.{PageState}
use Rattle.aria_cache.specs.Calls.{SameSlots, StaysIn}
use Rattle.aria_cache.specs.Causes.{HasPagesCause}
use Rattle.aria_key.specs.Inserting.{IsAbsent, IsFew, KeepsHeader, HeaderKept, CanInsert}
use Rattle.aria_key.specs.Taking.{GrowsTo}
use Rattle.aria_key.specs.Reading.{keys_file, OfTree}
use Rattle.aria_block.specs.Causes.{rows_file}
use Rattle.aria_table.specs.Content.{Content, Walk, with_walk, same_entry, put_entry}
use Rattle.aria_table.specs.Holds.{HasContent, pair_of, pairs, rows_in}
use Rattle.aria_table.specs.Step.{HoldsContent, LacksEntry, OfTable}
use Rattle.aria_table.proofs.Walks.{pairs_with}
use Rattle.aria_table.proofs.Placing.{same_keys, same_data}
use Rattle.aria_table.proofs.Causing.{cause_tree}
use Rattle.aria_table.proofs.Counted.{apart}

-- ---- the header

-- the number of rows stays where a root and the first free page change
pub rows_kept : (key : ℕ) (old new : List ℕ) → key < 8 → length old ≡ BODY_BYTES → KeepsHeader key old new → rows_in new ≡ rows_in old
rows_kept key old new low size (inl same) = ap rows_in same
rows_kept key old new low size (inr changed) =
    let mid : List ℕ = with_free changed.free old in
    let n = length-number 4 changed.root in
    let m = length-number 4 changed.free in
    let long : length mid ≡ 8181 = length-with_bytes 23 (number 4 changed.free) old (omega (arith, m, size)) ∙ size in
    ap rows_in changed.is ∙ apart 19 (32 + 4 * key) (number 4 changed.root) mid (inl (omega arith)) (omega (arith, n, long, low)) ∙ apart 19 23 (number 4 changed.free) old (inl (omega arith)) (omega (arith, m, size))

some_is : {X : Type 0} (x y : X) → Some x ≡ Some y → x ≡ y
some_is x y same = cc

pub rows_same : (keys count more key : ℕ) (header : List ℕ) (bodies : ℕ → Option (List ℕ)) (walks : ℕ → List Item) (t : HoldsTrees keys more bodies walks) → key < 8 → length header ≡ BODY_BYTES → HeaderKept key count more header bodies → rows_in t.header ≡ rows_in header
rows_same keys count more key header bodies walks t low size kept =
    ap rows_in (some_is t.header kept.now (sym t.file.there ∙ kept.there)) ∙ rows_kept key header kept.now low size kept.keeps

-- ---- the walk

absent_step : (found : Option ℕ) (to : ℕ) (b : Bool) → cond b (Some to) found ≡ None → (b ≡ true → ⊥) × (found ≡ None)
absent_step found to true none = absurd (cc)
absent_step found to false none = ((λ same. absurd (cc)), none)

-- an entry that isn't found is no item's
pub absent : (entry : List ℕ) (walk : List Item) → lookup (same_entry entry) (pairs walk) ≡ None → IsAbsent entry walk
absent entry [] none = tt
absent entry (y ∷ ys) none =
    let parts = absent_step (lookup (same_entry entry) (pairs ys)) y.to (same_entry entry y.entry) none in
    ((λ same. parts.0 (subst (λ (e : List ℕ). is_eq (slice_cmp nat_cmp entry e) ≡ true) (sym same) (ap is_eq (tied_itself nat_list_cmp_total entry)))), absent entry ys parts.1)

pub few : (walk : List Item) (pairs_of : Walk) → pairs_of ≡ pairs walk → length pairs_of < 2 ^ 24 → IsFew walk
few walk pairs_of same low = let long : length pairs_of ≡ length walk = ap length same ∙ length-map walk pair_of in omega (arith, long, low)

pub walk_of : (b : Bool) (new was : List Item) (to from : Walk) → (b ≡ true → to ≡ pairs new) → from ≡ pairs was → cond b to from ≡ pairs (cond b new was)
walk_of true new was to from here there = here refl
walk_of false new was to from here there = there

pub none_of : (b : Bool) (to : Walk) → (b ≡ true → ⊥) → cond b to [] ≡ []
none_of true to not = absurd (not refl)
none_of false to not = refl

-- ---- the table

pub entered : (is_row : List ℕ → Bool) (keys : ℕ) (ic more : ℕ) (ib new : ℕ → Option (List ℕ)) (dc : ℕ) (db : ℕ → Option (List ℕ)) (c : Content) (key target : ℕ) (entry : List ℕ) (h : HasContent is_row keys ic ib dc db c) → key < keys → key < 8
    → lookup (same_entry entry) (c.walks key) ≡ None → HoldsTrees keys more new (with_tree key (with_entry (record { entry = entry; to = target }) (h.walks key)) h.walks) → HeaderKept key ic more h.trees.header new
    → HasContent is_row keys more new dc db (put_entry key entry target c)
entered is_row keys ic more ib new dc db c key target entry h low eight none t kept =
    let x : Item = record { entry = entry; to = target } in
    let at : lookup (same_entry entry) (pairs (h.walks key)) ≡ None = ap (lookup (same_entry entry)) (sym (h.walk key low)) ∙ none in
    let here : insert_entry (slice_cmp nat_cmp) (c.walks key) entry target ≡ pairs (with_entry x (h.walks key)) = ap (λ (w : Walk). insert_entry (slice_cmp nat_cmp) w entry target) (h.walk key low) ∙ sym (pairs_with x (h.walks key) at) in
    record {
      walks = with_tree key (with_entry x (h.walks key)) h.walks;
      trees = t;
      walk = λ k lt. walk_of (key == k) (with_entry x (h.walks key)) (h.walks k) (insert_entry (slice_cmp nat_cmp) (c.walks key) entry target) (c.walks k) (λ same. here) (h.walk k lt);
      none = λ k above. ap (λ (w : Walk). cond (key == k) (insert_entry (slice_cmp nat_cmp) (c.walks key) entry target) w) (h.none k above)
          ∙ none_of (key == k) (insert_entry (slice_cmp nat_cmp) (c.walks key) entry target) (λ same. let is = eqb-true key k same in omega (arith, is, low, above));
      number = h.number ∙ sym (rows_same keys ic more key h.trees.header new (with_tree key (with_entry x (h.walks key)) h.walks) t eight h.trees.file.size kept);
      data_file = h.data_file;
    }

-- the same of a slot's pages, where the entry was put by a call on the index file
pub entered_at : (is_row : List ℕ → Bool) (keys slot : ℕ) (logged : Bool) (old new : PageState) (c : Content) (key target : ℕ) (entry : List ℕ) (h : HoldsContent is_row keys slot old c) → key < keys → key < 8
    → lookup (same_entry entry) (c.walks key) ≡ None → SameSlots old new → StaysIn logged (keys_file old slot) old new → GrowsTo (keys_file old slot) old new
    → HoldsTrees keys (new.counts (keys_file old slot)) (new.bodies (keys_file old slot)) (with_tree key (with_entry (record { entry = entry; to = target }) (h.walks key)) h.walks)
    → HeaderKept key (old.counts (keys_file old slot)) (new.counts (keys_file old slot)) h.trees.header (new.bodies (keys_file old slot))
    → HoldsContent is_row keys slot new (put_entry key entry target c)
entered_at is_row keys slot logged old new c key target entry h low eight none slots inside grows t kept =
    let data_file : FileName = rows_file old slot in
    let bodies : new.bodies data_file ≡ old.bodies data_file = inside.others data_file refl in
    let counts : new.counts data_file ≡ old.counts data_file = grows.others data_file refl in
    let now : HasContent is_row keys (new.counts (keys_file old slot)) (new.bodies (keys_file old slot)) (old.counts data_file) (old.bodies data_file) (put_entry key entry target c) =
    entered is_row keys (old.counts (keys_file old slot)) (new.counts (keys_file old slot)) (old.bodies (keys_file old slot)) (new.bodies (keys_file old slot)) (old.counts data_file) (old.bodies data_file) c key target entry h low eight none t kept in
    let there : HasContent is_row keys (new.counts (keys_file old slot)) (new.bodies (keys_file old slot)) (new.counts data_file) (new.bodies data_file) (put_entry key entry target c) =
    subst (λ (n : ℕ). HasContent is_row keys (new.counts (keys_file old slot)) (new.bodies (keys_file old slot)) n (new.bodies data_file) (put_entry key entry target c)) (sym counts)
    (subst (λ (b : ℕ → Option (List ℕ)). HasContent is_row keys (new.counts (keys_file old slot)) (new.bodies (keys_file old slot)) (old.counts data_file) b (put_entry key entry target c)) (sym bodies) now) in
    subst (λ (f : FileName). HasContent is_row keys (new.counts f) (new.bodies f) (new.counts (rows_file new slot)) (new.bodies (rows_file new slot)) (put_entry key entry target c)) (sym (same_keys slot old new slots))
    (subst (λ (f : FileName). HasContent is_row keys (new.counts (keys_file old slot)) (new.bodies (keys_file old slot)) (new.counts f) (new.bodies f) (put_entry key entry target c)) (sym (same_data slot old new slots)) there)

pub entered_ok : {T E : Type 0} (r : Result T E) (is_row : List ℕ → Bool) (keys slot : ℕ) (logged : Bool) (old new : PageState) (c : Content) (key target : ℕ) (entry : List ℕ) (h : HoldsContent is_row keys slot old c) → key < keys → key < 8
    → lookup (same_entry entry) (c.walks key) ≡ None → SameSlots old new → OnOk r (StaysIn logged (keys_file old slot) old new) → OnOk r (GrowsTo (keys_file old slot) old new)
    → OnOk r (HoldsTrees keys (new.counts (keys_file old slot)) (new.bodies (keys_file old slot)) (with_tree key (with_entry (record { entry = entry; to = target }) (h.walks key)) h.walks))
    → OnOk r (HeaderKept key (old.counts (keys_file old slot)) (new.counts (keys_file old slot)) h.trees.header (new.bodies (keys_file old slot))) → OnOk r (HoldsContent is_row keys slot new (put_entry key entry target c))
entered_ok (Err e) is_row keys slot logged old new c key target entry h low eight none slots inside grows t kept = tt
entered_ok (Ok x) is_row keys slot logged old new c key target entry h low eight none slots inside grows t kept = entered_at is_row keys slot logged old new c key target entry h low eight none slots inside grows t kept

-- what a table asks of the tree that takes an entry
pub can_insert : (key slot : ℕ) (entry : List ℕ) (s : PageState) → LacksEntry key entry slot s → CanInsert s (keys_file s slot) key entry
can_insert key slot entry s lacks = record {
  keys = lacks.keys;
  walks = lacks.held.walks;
  low = lacks.low;
  held = lacks.held.trees;
  absent = absent entry (lacks.held.walks key) (ap (lookup (same_entry entry)) (sym (lacks.held.walk key lacks.low)) ∙ lacks.none);
  few = few (lacks.held.walks key) (lacks.content.walks key) (lacks.held.walk key lacks.low) lacks.few;
  room = lacks.room;
}

pub cause_lacks : (tells logged : Bool) (key slot bytes : ℕ) (entry : List ℕ) (old new : PageState) (fault : Option Fault) → HasPagesCause (OfTree tells logged (CanInsert old (keys_file old slot) key entry) (keys_file old slot) old new) old new fault
    → HasPagesCause (OfTable tells logged (LacksEntry key entry slot old) slot bytes old new) old new fault
cause_lacks tells logged key slot bytes entry old new fault is = cause_tree tells logged (LacksEntry key entry slot old) (CanInsert old (keys_file old slot) key entry) slot bytes old new fault (can_insert key slot entry old) is

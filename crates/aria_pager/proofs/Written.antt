-- All dirty pages are written, and the tables' files are brought to the disk.
use Rattle.std.proofs.Common.{rules, ◌≡◌, ◌∙◌, ◌||◌, ℕ, ◌+◌, ◌<◌, ◌≤◌, Bool, true, false, cond, nat_eq, List, [], ◌∷◌, length, take, get_or, ap, sym, refl, subst, arith, Option, Some, Result, Ok, Err, inl, inr}
use Rattle.std.specs.Prelude.{IsSome, OnOk, is_ok, slice_get}
use Rattle.std.specs.List.{list_any}
use Rattle.std.specs.Map.{update}
use Rattle.std.specs.Option.{option_map, option_map_or}
use Rattle.std.proofs.lemmas.Bool.{eqb-true, cases_lt}
use Rattle.std.proofs.lemmas.List.{take_more}
use Rattle.std.proofs.lemmas.List.Folds.{list_any-append}
use Rattle.std.proofs.lemmas.Option.{slice_get_within, slice_get-get_or}
use Rattle.aria_page.specs.declared.place.Part.{Part}
use Rattle.aria_host.specs.declared.file_name.FileName.TheVariants.{Control}
use Rattle.aria_host.specs.Calls.{Narrows}
use Rattle.aria_host.specs.declared.fault.Fault.{Fault}
use Rattle.aria_host.specs.Folder.{Folder}
use Rattle.aria_host.specs.State.{State}
use Rattle.aria_host.proofs.Moments.{OnlyNow}
use Rattle.aria_record.specs.declared.record.Record.{Record}
use Rattle.aria_record.specs.Logged.{Logged}
use Rattle.aria_record.specs.Writing.{records_of}
use Rattle.aria_log.specs.Pieces.{log_files}
use Rattle.aria_log.proofs.Staying.{narrows_leave}
use Rattle.aria_cache.specs.Frames.{Held, cleaned, is_pinned}
use Rattle.aria_recovery.specs.Frames.{Progress, dirty_of, is_dirty}
use Rattle.aria_recovery.specs.Images.{IsImage, SameNames}
use Rattle.aria_recovery.specs.Moves.{Moves}
use Rattle.aria_recovery.specs.Redo.{touches}
use Rattle.aria_recovery.specs.Tables.{Agrees, IsCurrent, life_of, file}
use Rattle.aria_recovery.proofs.Agreeing.{agrees_self}
use Rattle.aria_recovery.proofs.Moving.{moves_on}
use Rattle.aria_pager.specs.declared.page_store.PageStore.{PageStore}
use Rattle.aria_pager.specs.declared.slot.Slot.{Slot}
use Rattle.aria_pager.specs.PageStore.{name_at, opened, spot_of}
use Rattle.aria_pager.specs.Pager.{HasFront, HoldsPages, AreInside, AreSlots, KnowsTables, IsPagerAt, Standing}
use Rattle.aria_pager.specs.Goes.{Stays}
use Rattle.aria_pager.specs.Committed.{Forced, Closes}
use Rattle.aria_pager.specs.Steps.{SameWork, StepsAt, ForcesAt}
use Rattle.aria_pager.proofs.Bodies.{open_at}
use Rattle.aria_pager.proofs.Fronting.{fronts, log_within, log_of_stays, moves_call}
use Rattle.aria_pager.proofs.Keeping.{none_touched}
use Rattle.aria_pager.proofs.Putting.{clean_now}
use Rattle.aria_pager.proofs.Stepping.{fault_on}

-- where one page was cleaned, no page is dirty that wasn't
pub cleaned_fewer : (map map' : ℕ → Option Held) (n : ℕ) → map' ≡ update nat_eq map n (option_map cleaned (map n)) → (k : ℕ) → is_dirty map' k ≡ true → is_dirty map k ≡ true
cleaned_fewer map map' n is k dirty = by (nat_eq n k) (sym (ap (λ (m : ℕ → Option Held). is_dirty m k) is) ∙ dirty)
  where
    by : (b : Bool) → dirty_of (cond b (option_map cleaned (map n)) (map k)) ≡ true → is_dirty map k ≡ true
    by true on = absurd (let e : false ≡ true = sym (clean_now (map n)) ∙ on in (cc))
    by false on = on

off_true : (b : Bool) → (b ≡ true → ⊥) → b ≡ false
off_true true not = absurd (not refl)
off_true false not = refl

-- of pages that were written, and one more
pub clean_more : (map map' : ℕ → Option Held) (keys : List ℕ) (i : ℕ) → i < length keys → ((k : ℕ) → list_any (nat_eq k) (take i keys) ≡ true → is_dirty map k ≡ false)
    → ((k : ℕ) → is_dirty map' k ≡ true → is_dirty map k ≡ true) → is_dirty map' (get_or keys i 0) ≡ false → (k : ℕ) → list_any (nat_eq k) (take (i + 1) keys) ≡ true → is_dirty map' k ≡ false
clean_more map map' keys i low before fewer now k in_it =
    by (list_any (nat_eq k) (take i keys)) (nat_eq k (get_or keys i 0)) refl refl (sym (ap (list_any (nat_eq k)) (take_more keys i 0 low) ∙ list_any-append (nat_eq k) (take i keys) (get_or keys i 0 ∷ [])) ∙ in_it)
  where
    by : (a b : Bool) → list_any (nat_eq k) (take i keys) ≡ a → nat_eq k (get_or keys i 0) ≡ b → (a || (b || false)) ≡ true → is_dirty map' k ≡ false
    by true b was is on = off_true (is_dirty map' k) (λ dirty. let e : true ≡ false = sym (fewer k dirty) ∙ before k was in absurd (cc))
    by false true was is on = subst (λ (n : ℕ). is_dirty map' n ≡ false) (sym (eqb-true k (get_or keys i 0) is)) now
    by false false was is on = absurd (cc)

-- no page is dirty, once those that were are written
pub clean_all : (map map' : ℕ → Option Held) (keys : List ℕ) → ((k : ℕ) → list_any (nat_eq k) keys ≡ dirty_of (map k)) → ((k : ℕ) → list_any (nat_eq k) keys ≡ true → is_dirty map' k ≡ false)
    → ((k : ℕ) → is_dirty map' k ≡ true → is_dirty map k ≡ true) → (k : ℕ) → is_dirty map' k ≡ false
clean_all map map' keys all clean fewer k = off_true (is_dirty map' k) (λ dirty. let e : true ≡ false = sym dirty ∙ clean k (all k ∙ fewer k dirty) in absurd (cc))

pub same_none : (store : PageStore) → SameWork store store
same_none store = record { slots = refl; sizes = refl; opens = refl; tables = refl; writer = refl; pending = refl; started = refl; in_group = refl; made = refl; lent = refl; kept = refl }

-- ---- syncs

-- a step that only looks, but may bring files to the disk
pub narrow_step : (store : PageStore) (s t : State) (redone : Progress) (base : ℕ) (start : Folder) (groups : List Logged) (forced : ℕ) (done : Bool) → OnlyNow s → t.may_leave t.folder → Narrows s t
    → IsPagerAt store s redone base start groups forced → StepsAt store store s t redone base start groups forced done
narrow_step store s t redone base start groups forced done only now same is = record {
  forced' = forced;
  moves = moves_call (opened store) s t base groups forced (λ d c. c ≡ d) (log_within store.started store.log s base groups forced is.log) only now is.images (fronts store.started store.log s base groups forced is.log is.control)
      (λ d c left e. record {
        agrees = subst (λ (f : Folder). Agrees groups forced d f) (sym e) (agrees_self groups forced d);
        current = λ name on part. subst (λ (f : Folder). IsCurrent (life_of name groups).last (f (file name part))) (sym e) ((is.images d left).current name on part);
      })
      (λ d c left e. (ap log_files e, ap (λ (f : Folder). f Control) e)) (λ c leaves. (c, same.no_more c leaves, refl)) same.tells;
  fronts = λ c leaves. fronts store.started store.log s base groups forced is.log is.control c (same.no_more c leaves);
  pager = λ on. record {
    log = log_of_stays store.started store.log s t base groups forced (narrows_leave s t same) is.log;
    images = λ c leaves. subst (λ (f : Folder). IsImage (opened store) groups forced f c) (sym same.folder) (is.images c (same.no_more c leaves));
    names = λ c leaves. subst (λ (f : Folder). SameNames f c) (sym same.folder) (is.names c (same.no_more c leaves));
    control = λ c leaves. is.control c (same.no_more c leaves);
    raises = λ c leaves. is.raises c (same.no_more c leaves);
    pages = subst (λ (f : Folder). HoldsPages store f groups redone) (sym same.folder) is.pages;
    top = is.top;
    inside = subst (λ (f : Folder). AreInside store f groups) (sym same.folder) is.inside;
    pinned = is.pinned;
    own = is.own;
    named = is.named;
    slots = subst (λ (f : Folder). AreSlots store f groups) (sym same.folder) is.slots;
    tables = subst (λ (f : Folder). KnowsTables store f groups) (sym same.folder) is.tables;
    settled = is.settled;
    written = is.written;
    pending = is.pending;
  };
}

-- each image has the files of the tables of the slots before this one as they read
pub record SyncedUpTo (slots : List Slot) (t : State) (i : ℕ) : Type 0 where
  pub durable : (c : Folder) → t.may_leave c → (n : ℕ) (slot : Slot) → n < i → slice_get slots n ≡ Some slot → slot.used ≡ true → (part : Part) → c (file slot.name part) ≡ t.folder (file slot.name part)

pub synced_begun : (slots : List Slot) (t : State) → SyncedUpTo slots t 0
synced_begun slots t = record { durable = λ c leaves n slot low. absurd (omega (arith, low)) }

-- one more
pub synced_next : (slots : List Slot) (s t : State) (i : ℕ) (slot : Slot) → Narrows s t → slice_get slots i ≡ Some slot → (slot.used ≡ true → (c : Folder) → t.may_leave c → (part : Part) → c (file slot.name part) ≡ t.folder (file slot.name part))
    → SyncedUpTo slots s i → SyncedUpTo slots t (i + 1)
synced_next slots s t i slot same here now is = record { durable = each }
  where
    some : (a b : Slot) → Some a ≡ Some b → a ≡ b
    some a b e = cc

    each : (c : Folder) → t.may_leave c → (n : ℕ) (sl : Slot) → n < i + 1 → slice_get slots n ≡ Some sl → sl.used ≡ true → (part : Part) → c (file sl.name part) ≡ t.folder (file sl.name part)
    each c leaves n sl low there used part = elim (cases_lt n i) [
      | inl before ↦ is.durable c (same.no_more c leaves) n sl before there used part ∙ sym (ap (λ (f : Folder). f (file sl.name part)) same.folder)
      | inr behind ↦
          let at : n ≡ i = omega (arith, behind, low) in
          let one : sl ≡ slot = some sl slot (sym there ∙ ap (slice_get slots) at ∙ here) in
          subst (λ (x : Slot). c (file x.name part) ≡ t.folder (file x.name part)) (sym one) (now (ap (λ (x : Slot). x.used) (sym one) ∙ used) c leaves part)
    ]

-- all of them
pub synced_all : (store : PageStore) (t : State) (i : ℕ) → length store.slots ≤ i → SyncedUpTo store.slots t i → (c : Folder) → t.may_leave c → (n : ℕ) (name : List ℕ) → name_at store n ≡ Some name → (part : Part) → c (file name part) ≡ t.folder (file name part)
synced_all store t i end is c leaves n name named part =
    let o = open_at store n name named in
    let low : n < length store.slots = slice_get_within store.slots n o.slot o.there in
    subst (λ (m : List ℕ). c (file m part) ≡ t.folder (file m part)) o.named (is.durable c leaves n o.slot (omega (arith, low, end)) o.there o.used part)

-- the files of a slot's table are there
pub slot_files : (store : PageStore) (s t : State) (redone : Progress) (base : ℕ) (start : Folder) (groups : List Logged) (forced n : ℕ) (slot : Slot) → Narrows s t → slice_get store.slots n ≡ Some slot → slot.used ≡ true
    → IsPagerAt store s redone base start groups forced → (part : Part) → IsSome (t.folder (file slot.name part))
slot_files store s t redone base start groups forced n slot same there used is part =
    let d = (is.slots n slot there used).files part in
    subst (λ (f : Folder). IsSome (f (file slot.name part))) (sym same.folder) (subst IsSome (sym d.there) (search rules))

-- each image has the names
pub names_narrow : (store : PageStore) (s t : State) (redone : Progress) (base : ℕ) (start : Folder) (groups : List Logged) (forced : ℕ) → Narrows s t → IsPagerAt store s redone base start groups forced → (c : Folder) → t.may_leave c → SameNames t.folder c
names_narrow store s t redone base start groups forced same is c leaves = subst (λ (f : Folder). SameNames f c) (sym same.folder) (is.names c (same.no_more c leaves))

-- the slot of a turn of the loop
pub slot_here : (slots items : List Slot) (i : ℕ) (slot : Slot) → items ≡ slots → i < length items → slot ≡ get_or items i slot → slice_get slots i ≡ Some slot
slot_here slots items i slot same low is = subst (λ (l : List Slot). slice_get l i ≡ Some slot) same (slice_get-get_or items i slot low ∙ ap Some (sym is))

-- ---- all of it

-- a step failed, so nothing is said of what is forced
pub forces_failed : (a b : PageStore) (s t : State) (redone : Progress) (base : ℕ) (start : Folder) (groups : List Logged) (forced : ℕ) (done done' : Bool) → done' ≡ false → StepsAt a b s t redone base start groups forced done
    → ForcesAt a b s t redone base start groups forced done'
forces_failed a b s t redone base start groups forced done done' off is = record {
  steps = fault_on a b b s t redone base start groups forced done done' off is;
  all = λ on. absurd (let e : true ≡ false = sym on ∙ off in (cc));
}

-- all groups were brought to the disk, and a step followed
pub forces_on : (a b c : PageStore) (s t u : State) (redone : Progress) (base : ℕ) (start : Folder) (groups : List Logged) (forced : ℕ) (done : Bool) → opened b ≡ opened a → (first : ForcesAt a b s t redone base start groups forced true)
    → StepsAt b c t u redone base start groups first.steps.forced' done → ForcesAt a c s u redone base start groups forced done
forces_on a b c s t u redone base start groups forced done same first second = record {
  steps = record {
    forced' = second.forced';
    moves = moves_on (HasFront base) (opened a) s t u groups groups groups forced first.steps.forced' second.forced' first.steps.moves
        (subst (λ (o : List ℕ → Bool). Moves (HasFront base) o t u groups groups first.steps.forced' second.forced') same second.moves);
    fronts = second.fronts;
    pager = second.pager;
  };
  all = λ on. let f = first.all refl in let more = second.moves.forces in let within = second.moves.within in omega (arith, f, more, within);
}

-- where no group is open no page is pinned
pub none_pinned : (store : PageStore) (s : State) (redone : Progress) (base : ℕ) (start : Folder) (groups : List Logged) (forced : ℕ) → records_of store.writer ≡ [] → IsPagerAt store s redone base start groups forced → (k : ℕ) → is_pinned store.frames k ≡ false
none_pinned store s redone base start groups forced idle is k =
    is.pinned k ∙ ap (λ (rs : List Record). option_map_or (λ s. touches s.name s.part s.page rs) (spot_of store k) false) idle ∙ none_touched (spot_of store k)

-- A PAGER IS CLOSED
pub closes : {T : Type 0} (store store' : PageStore) (s t : State) (r : Result T Fault) → Stays store store' s t
    → OnOk r ((base : ℕ) (start : Folder) (groups : List Logged) (forced : ℕ) → Standing store s base start groups forced → Forced store store' s t base start groups forced)
    → (base : ℕ) (start : Folder) (groups : List Logged) (forced : ℕ) → Standing store s base start groups forced → Closes store s t base groups forced (is_ok r)
closes store store' s t (Ok x) stays all base start groups forced is = let one = all base start groups forced is in record { forced' = one.gone.forced'; moves = one.gone.moves; fronts = one.gone.standing.fronts; all = λ on. one.all }
closes store store' s t (Err f) stays all base start groups forced is = let one = stays.goes base start groups forced is in record { forced' = one.forced'; moves = one.moves; fronts = one.standing.fronts; all = λ on. absurd (let e : false ≡ true = on in (cc)) }

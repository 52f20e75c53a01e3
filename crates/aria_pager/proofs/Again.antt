-- What calls that make groups again do, one after another.
use Rattle.std.proofs.Common.{rules, ◌≡◌, ◌∙◌, ◌&&◌, inl, inr, ℕ, suc, ◌+◌, ◌/◌, ◌%◌, ◌^◌, ◌<◌, ◌≤◌, Bool, true, false, cond, nat_eq, nat_lt, List, [], ◌∷◌, ◌++◌, length, take, drop, get_or, drop-cons, ap, sym, refl, subst, arith, Option, None, Some, Result, Ok, Err}
use Rattle.std.specs.Prelude.{IfErr, IsTrue, is_some}
use Rattle.std.specs.Option.{option_map, option_and_then}
use Rattle.std.specs.Map.{update}
use Rattle.std.specs.Cmp.Lexicographic.{bytes_decides}
use Rattle.std.proofs.lemmas.Bool.{cases_lt}
use Rattle.std.proofs.lemmas.List.{append-nil, take-append-drop}
use Rattle.std.proofs.Math.Seq.{take-suc}
use Rattle.aria_page.specs.declared.edit.Edit.{Edit}
use Rattle.aria_page.specs.declared.group.RedoKind.{RedoKind}
use Rattle.aria_page.specs.declared.place.Part.{Part}
use Rattle.aria_value.specs.Named.{same_name}
use Rattle.aria_host.specs.Count.{Rose}
use Rattle.aria_host.specs.declared.fault.Fault.{Fault}
use Rattle.aria_host.specs.declared.fault.Fault.TheVariants.{Memory, Disk, PageDamaged, LogDamaged}
use Rattle.aria_host.specs.Folder.{Folder}
use Rattle.aria_host.specs.State.{State}
use Rattle.aria_host.proofs.Moments.{OnlyNow}
use Rattle.aria_record.specs.declared.record.Record.{Record}
use Rattle.aria_record.specs.declared.record.Record.TheVariants.{Redo}
use Rattle.aria_record.specs.declared.group_writer.GroupWriter.{GroupWriter}
use Rattle.aria_record.specs.Groups.{RecordFits, BodyFits}
use Rattle.aria_record.specs.Logged.{Logged, lsn_at_place}
use Rattle.aria_record.specs.Writing.{records_of}
use Rattle.aria_log.specs.declared.log.Log.{Log as LogValue}
use Rattle.aria_cache.specs.Frames.{Held, held, is_pinned}
use Rattle.aria_cache.specs.declared.frames.Frames.{Frames}
use Rattle.aria_cache.specs.declared.page_id.PageId.{PageId}
use Rattle.aria_cache.specs.Key.{key_of}
use Rattle.aria_recovery.specs.Redo.{number_at, is_some_edit, same_part, edits_in, edits_at, edits_on, touches}
use Rattle.aria_recovery.specs.Tables.{Maker, Life, life_of, tables_of, table_of, file}
use Rattle.aria_recovery.specs.Noted.{told_of}
use Rattle.aria_recovery.specs.Frames.{Spot, Progress, base_of, edits_of, redone_at, raw_at}
use Rattle.aria_recovery.specs.Midway.{raised, midway, EditsPage, is_counted}
use Rattle.aria_recovery.specs.Moves.{Moves}
use Rattle.aria_recovery.proofs.Moving.{moves_on}
use Rattle.aria_recovery.proofs.Comparing.{lt_true, lt_false}
use Rattle.aria_recovery.proofs.Behind.{edits_push}
use Rattle.aria_recovery.proofs.Placing.{edits_early, edits_here}
use Rattle.aria_recovery.proofs.Groupwise.{touched_here, midway_near, midway_same, midway_more, midway_none, midway_all, edited_last}
use Rattle.aria_recovery.proofs.Counted.{counted_behind, counted_before}
use Rattle.aria_pager.specs.declared.page_store.PageStore.{PageStore}
use Rattle.aria_pager.specs.PageStore.{name_in, name_at, opened, part_of_key, spot_of, with_frames, late_seen}
use Rattle.aria_pager.specs.Pager.{HasFront, IsPagerAt, known, next_number}
use Rattle.aria_pager.specs.Steps.{SameWork, StepsAt, OfHold}
use Rattle.aria_pager.specs.Redone.{KeepsLog, redone_by, is_older, IsRedoing, Redoes, OfRedo, HasRedoCause, IsEdited, OfEdited, is_log_damage}
use Rattle.aria_pager.proofs.Slots.{stands, keys_apart, key_parts}
use Rattle.aria_pager.proofs.Quiet.{keeps_on}
use Rattle.aria_pager.proofs.Editing.{some_edits}
use Rattle.aria_pager.proofs.Stepping.{still_step}
use Rattle.aria_pager.proofs.Redoing.{rises, redone_alike, redone_step, past_step}

-- ---- spots

abbrev spot_in : ℕ → Option (List ℕ) → Option Spot
spot_in k name = option_map (λ name. record { name = name; part = part_of_key k; page = k % 2 ^ 31 }) name

-- the slots stand for the same tables
pub same_spots : (a b : PageStore) → name_at b ≡ name_at a → spot_of b ≡ spot_of a
same_spots a b same = λ i k. spot_in k (same i (k / 2 ^ 32))

-- ---- one call behind another

pub redoing_same : (a b : PageStore) (s t : State) (redone redone' : Progress) (base : ℕ) (start : Folder) (groups : List Logged) (forced forced' : ℕ) → IsRedoing a s redone base start groups forced → SameWork a b → KeepsLog a b s.folder t.folder
    → IsPagerAt b t redone' base start groups forced' → IsRedoing b t redone' base start groups forced'
redoing_same a b s t redone redone' base start groups forced forced' is same log pager = record {
  pager = pager;
  started = same.started ∙ is.started;
  none = ap (λ (w : GroupWriter). records_of w) same.writer ∙ is.none;
  idle = ap (λ (l : LogValue). l.used) log.log ∙ is.idle;
}

-- what goes on behind a call
pub redoing_on : (a b : PageStore) (s t : State) (redone redone' : Progress) (base : ℕ) (start : Folder) (groups : List Logged) (forced : ℕ) → IsRedoing a s redone base start groups forced → SameWork a b → (first : Redoes a b s t redone' base start groups forced true)
    → IsRedoing b t redone' base start groups first.steps.forced'
redoing_on a b s t redone redone' base start groups forced is same first = redoing_same a b s t redone redone' base start groups forced first.steps.forced' is same (first.log refl) (first.steps.pager refl)

steps_to : (a b c : PageStore) (s t u : State) (redone redone' : Progress) (base : ℕ) (start : Folder) (groups : List Logged) (forced : ℕ) (done : Bool) → opened b ≡ opened a → (first : StepsAt a b s t redone base start groups forced true)
    → StepsAt b c t u redone' base start groups first.forced' done → StepsAt a c s u redone' base start groups forced done
steps_to a b c s t u redone redone' base start groups forced done same first second = record {
  forced' = second.forced';
  moves = moves_on (HasFront base) (opened a) s t u groups groups groups forced first.forced' second.forced' first.moves
      (subst (λ (o : List ℕ → Bool). Moves (HasFront base) o t u groups groups first.forced' second.forced') same second.moves);
  fronts = second.fronts;
  pager = second.pager;
}

pub redoes_on : (a b c : PageStore) (s t u : State) (redone redone' : Progress) (base : ℕ) (start : Folder) (groups : List Logged) (forced : ℕ) (done : Bool) → opened b ≡ opened a → (first : Redoes a b s t redone base start groups forced true)
    → Redoes b c t u redone' base start groups first.steps.forced' done → Redoes a c s u redone' base start groups forced done
redoes_on a b c s t u redone redone' base start groups forced done same first second = record {
  steps = steps_to a b c s t u redone redone' base start groups forced done same first.steps second.steps;
  log = λ on. keeps_on a b c s.folder t.folder u.folder (first.log refl) (second.log on);
}

-- a call, behind which a fault is answered
pub redoes_fault : (a b c : PageStore) (s t : State) (redone redone' : Progress) (base : ℕ) (start : Folder) (groups : List Logged) (forced : ℕ) (done done' : Bool) → done' ≡ false → StepsAt a b s t redone base start groups forced done → Redoes a c s t redone' base start groups forced done'
redoes_fault a b c s t redone redone' base start groups forced done done' off first = record {
  steps = record { forced' = first.forced'; moves = first.moves; fronts = first.fronts; pager = λ on. absurd (let e : true ≡ false = sym on ∙ off in (cc)) };
  log = λ on. absurd (let e : true ≡ false = sym on ∙ off in (cc));
}

-- another progress, by which each page comes to the same
pub redoes_alike : (a b : PageStore) (s t : State) (redone redone' : Progress) (base : ℕ) (start : Folder) (groups : List Logged) (forced : ℕ) (done : Bool) → redone' ≡ redone → Redoes a b s t redone base start groups forced done → Redoes a b s t redone' base start groups forced done
redoes_alike a b s t redone redone' base start groups forced done same is = subst (λ (p : Progress). Redoes a b s t p base start groups forced done) (sym same) is

-- ---- a page

module _ (a b : PageStore) (s t : State) (redone : Progress) (base : ℕ) (start : Folder) (groups before after : List Logged) (g : Logged) (forced key : ℕ) (sp : Spot) (is : IsRedoing a s redone base start groups forced) (page : EditsPage (spot_of a) redone groups before after g key sp)
    (same : SameWork a b) (first : StepsAt a b s t redone base start groups forced true) (log : KeepsLog a b s.folder t.folder) where
  abbrev next : Progress
  next = raised key (length before + 1) redone

  redoing : IsRedoing b t redone base start groups first.forced'
  redoing = redoing_same a b s t redone redone base start groups forced first.forced' is same log (first.pager refl)

  page_there : EditsPage (spot_of b) redone groups before after g key sp
  page_there = record { whole = page.whole; here = ap (λ (f : ℕ → Option Spot). f key) (same_spots a b same.slots) ∙ page.here; counts = page.counts; edits = page.edits; near = page.near }

  -- it has the group already
  pub page_past : (number : ℕ) → number ≡ number_at g.at → IsTrue (is_some (held b.frames key)) → is_older (held b.frames key) number ≡ false → Redoes a b s t next base start groups forced true
  page_past number number_is there older = record {
    steps = record { forced' = first.forced'; moves = first.moves; fronts = first.fronts; pager = λ on. by (held b.frames key) refl there older };
    log = λ on. record { log = log.log; files = log.files };
  }
    where
      high : (h : Held) → nat_lt h.lsn number ≡ false → number_at g.at ≤ h.lsn
      high h off = elim (cases_lt h.lsn number) [
        | inl less ↦ absurd (let e : true ≡ false = sym (lt_true h.lsn number less) ∙ off in (cc))
        | inr more ↦ omega (arith, number_is, more)
      ]

      by : (o : Option Held) → held b.frames key ≡ o → IsTrue (is_some o) → is_older o number ≡ false → IsPagerAt b t next base start groups first.forced'
      by None at none off = absurd (cc)
      by (Some h) at some off = past_step b t redone base start groups before after g first.forced' key sp h redoing page_there at (high h off)

  -- IT GETS THE GROUP
  pub page_gets : (number : ℕ) (frames' : Frames) → number ≡ number_at g.at → is_older (held b.frames key) number ≡ true → is_pinned frames' ≡ is_pinned b.frames
      → held frames' ≡ update nat_eq (held b.frames) key (option_map (redone_by number (edits_on sp.name sp.part sp.page g.group)) (held b.frames key)) → Redoes a (with_frames b frames') s t next base start groups forced true
  page_gets number frames' number_is older pins map = record {
    steps = record { forced' = first.forced'; moves = first.moves; fronts = first.fronts; pager = λ on. by (held b.frames key) refl older };
    log = λ on. record { log = log.log; files = log.files };
  }
    where
      low : (h : Held) → nat_lt h.lsn number ≡ true → h.lsn < number_at g.at
      low h on = elim (cases_lt h.lsn number) [
        | inl less ↦ omega (arith, number_is, less)
        | inr more ↦ absurd (let e : true ≡ false = sym on ∙ lt_false h.lsn number more in (cc))
      ]

      map_is : held frames' ≡ update nat_eq (held b.frames) key (option_map (redone_by (number_at g.at) (edits_on sp.name sp.part sp.page g.group)) (held b.frames key))
      map_is = map ∙ ap (λ (n : ℕ). update nat_eq (held b.frames) key (option_map (redone_by n (edits_on sp.name sp.part sp.page g.group)) (held b.frames key))) number_is

      by : (o : Option Held) → held b.frames key ≡ o → is_older o number ≡ true → IsPagerAt (with_frames b frames') t next base start groups first.forced'
      by None at on = absurd (cc)
      by (Some h) at on = redone_step b t redone base start groups before after g first.forced' key sp h redoing page_there frames' at (low h on) pins map_is

-- ---- an entry that is passed over

-- It changes no page of a key: its table has no slot, or the group doesn't count for it.
entry_aside : (store : PageStore) (groups : List Logged) (i : ℕ) (passed : List Record) (kind : RedoKind) (name : List ℕ) (part : Part) (page : ℕ) (edits : List Edit)
    → ((k : ℕ) (t : Spot) → spot_of store k ≡ Some t → t.name ≡ name → i < base_of name groups) → (k : ℕ) → edits_of groups i (passed ++ Redo kind name part page edits ∷ []) (spot_of store k) ≡ edits_of groups i passed (spot_of store k)
entry_aside store groups i passed kind name part page edits early k = by (spot_of store k) refl
  where
    entry : Record
    entry = Redo kind name part page edits

    by : (o : Option Spot) → spot_of store k ≡ o → edits_of groups i (passed ++ entry ∷ []) o ≡ edits_of groups i passed o
    by None at = refl
    by (Some t) at = named (same_name t.name name) refl
      where
        named : (b : Bool) → same_name t.name name ≡ b → edits_of groups i (passed ++ entry ∷ []) (Some t) ≡ edits_of groups i passed (Some t)
        named true on =
            let same : t.name ≡ name = (bytes_decides t.name name).0 on in
            let low : i < base_of t.name groups = subst (λ (n : List ℕ). i < base_of n groups) (sym same) (early k t at same) in
            edits_early groups i (passed ++ entry ∷ []) t low ∙ sym (edits_early groups i passed t low)
        named false off = ap (λ (l : List Edit). cond (nat_lt i (base_of t.name groups)) [] l)
            (edits_push t.name t.part t.page passed entry
            ∙ ap (λ (b : Bool). edits_on t.name t.part t.page passed ++ edits_at t.page (cond (b && same_part t.part part) (Some (page, edits)) None)) off
            ∙ append-nil (edits_on t.name t.part t.page passed))

-- nothing is to be done for it
pub redoes_aside : (store : PageStore) (s : State) (base : ℕ) (start : Folder) (groups : List Logged) (forced i : ℕ) (passed rs : List Record) → OnlyNow s → s.may_leave s.folder → ((k : ℕ) → edits_of groups i rs (spot_of store k) ≡ edits_of groups i passed (spot_of store k))
    → IsRedoing store s (midway groups i passed (spot_of store)) base start groups forced → Redoes store store s s (midway groups i rs (spot_of store)) base start groups forced true
redoes_aside store s base start groups forced i passed rs only now same is = record {
  steps = still_step store store s (midway groups i rs (spot_of store)) base start groups forced true only now (λ on p. p)
      (redone_alike store s (midway groups i passed (spot_of store)) (midway groups i rs (spot_of store)) base start groups forced
      (λ k. ap (λ (j : ℕ). redone_at groups j (spot_of store k) (raw_at s.folder (spot_of store k))) (midway_same groups i passed rs (spot_of store) k (same k))) is);
  log = λ on. record { log = refl; files = refl };
}

some_name : (a b : List ℕ) → Some a ≡ Some b → a ≡ b
some_name a b e = cc

-- a key's table is known by the key's slot
spot_known : (store : PageStore) (s : State) (redone : Progress) (base : ℕ) (start : Folder) (groups : List Logged) (forced k : ℕ) (t : Spot) → IsPagerAt store s redone base start groups forced → spot_of store k ≡ Some t
    → (known store t.name ≡ Some (Some (k / 2 ^ 32))) × (name_at store (k / 2 ^ 32) ≡ Some t.name)
spot_known store s redone base start groups forced k t is at =
    let there = stands store k t at in
    let slot = is.slots (k / 2 ^ 32) there.slot there.there there.used in
    (ap (known store) there.name ∙ slot.known, ap (option_and_then name_in) there.there ∙ ap (λ (b : Bool). cond b (Some there.slot.name) None) there.used ∙ ap Some (sym there.name))

-- a table without a slot
pub without_slot : (store : PageStore) (s : State) (redone : Progress) (base : ℕ) (start : Folder) (groups : List Logged) (forced i : ℕ) (passed : List Record) (kind : RedoKind) (name : List ℕ) (part : Part) (page : ℕ) (edits : List Edit)
    → IsPagerAt store s redone base start groups forced → ((n : ℕ) → known store name ≡ Some (Some n) → name_at store n ≡ None)
    → (k : ℕ) → edits_of groups i (passed ++ Redo kind name part page edits ∷ []) (spot_of store k) ≡ edits_of groups i passed (spot_of store k)
without_slot store s redone base start groups forced i passed kind name part page edits is closed = entry_aside store groups i passed kind name part page edits (λ k t at same.
    let is_known = spot_known store s redone base start groups forced k t is at in
    absurd (let f : Some t.name ≡ None = sym is_known.1 ∙ closed (k / 2 ^ 32) (ap (known store) (sym same) ∙ is_known.0) in (cc)))

-- a table that is there wasn't dropped
there_still : (store : PageStore) (s : State) (redone : Progress) (base : ℕ) (start : Folder) (groups : List Logged) (forced n : ℕ) (name : List ℕ) → IsPagerAt store s redone base start groups forced → known store name ≡ Some (Some n) → (life_of name groups).last ≡ Some None → ⊥
there_still store s redone base start groups forced n name is at dropped = absurd (
    let some : true ≡ is_some (tables_of s.folder groups name) = sym (ap is_some at) ∙ is.tables.each name in
    let off : is_some (tables_of s.folder groups name) ≡ false = gone (life_of name groups) dropped in
    let f : true ≡ false = some ∙ off in (cc))
  where
    gone : (life : Life) → life.last ≡ Some None → is_some (table_of name life s.folder) ≡ false
    gone life last = ap (λ (l : Option (Option Maker)). is_some (table_of name (record { last = l; since = life.since }) s.folder)) last

-- A GROUP THAT DOESN'T COUNT for the table
pub not_counted : (store : PageStore) (s : State) (redone : Progress) (base : ℕ) (start : Folder) (groups before after : List Logged) (g : Logged) (forced n : ℕ) (passed : List Record) (kind : RedoKind) (name : List ℕ) (part : Part) (page : ℕ) (edits : List Edit)
    → (is : IsRedoing store s redone base start groups forced) → groups ≡ before ++ g ∷ after → known store name ≡ Some (Some n) → is_counted (told_of (life_of name groups).last) (lsn_at_place g.at) ≡ false
    → (k : ℕ) → edits_of groups (length before) (passed ++ Redo kind name part page edits ∷ []) (spot_of store k) ≡ edits_of groups (length before) passed (spot_of store k)
not_counted store s redone base start groups before after g forced n passed kind name part page edits is whole at off = entry_aside store groups (length before) passed kind name part page edits (λ k t here same.
    counted_before name groups before after g whole (rises store s redone base start groups forced is) (there_still store s redone base start groups forced n name is.pager at) off)

-- ---- an entry of a page

named_spot : (store : PageStore) (at : PageId) (name : List ℕ) → at.page < 2 ^ 31 → name_at store at.slot ≡ Some name → spot_of store (key_of at) ≡ Some (record { name = name; part = at.part; page = at.page })
named_spot store at name low named =
    let parts = key_parts at low in
    ap (λ (n : ℕ). spot_in (key_of at) (name_at store n)) parts.0 ∙ ap (spot_in (key_of at)) named ∙ (λ i. Some (record { name = name; part = parts.1 i; page = parts.2 i }))

-- THE ENTRY'S PAGE is one on which the group is to be made again
pub entry_page : (store : PageStore) (s : State) (base : ℕ) (start : Folder) (groups before after : List Logged) (g : Logged) (forced : ℕ) (at : PageId) (passed rest : List Record) (kind : RedoKind) (name : List ℕ) (edits : List Edit)
    → (is : IsRedoing store s (midway groups (length before) passed (spot_of store)) base start groups forced) → groups ≡ before ++ g ∷ after → g.group ≡ passed ++ Redo kind name at.part at.page edits ∷ rest → is_some_edit edits ≡ true
    → at.page < 2 ^ 31 → known store name ≡ Some (Some at.slot) → is_counted (told_of (life_of name groups).last) (lsn_at_place g.at) ≡ true
    → EditsPage (spot_of store) (midway groups (length before) passed (spot_of store)) groups before after g (key_of at) (record { name = name; part = at.part; page = at.page })
entry_page store s base start groups before after g forced at passed rest kind name edits is whole group some low there on = record {
  whole = whole;
  here = named_spot store at name low (is.pager.tables.slot name at.slot there);
  counts = counted_behind name groups before after g whole (rises store s (midway groups (length before) passed (spot_of store)) base start groups forced is) on;
  edits = subst (λ (rs : List Record). touches name at.part at.page rs ≡ true) (sym group)
      (touched_here (record { name = name; part = at.part; page = at.page }) kind edits passed rest (edits_here (record { name = name; part = at.part; page = at.page }) kind edits) some);
  near = midway_near groups (length before) passed (spot_of store) (key_of at);
}

-- and it is gone through then
pub entry_passed : (store : PageStore) (s : State) (base : ℕ) (start : Folder) (groups before after : List Logged) (g : Logged) (forced : ℕ) (at : PageId) (passed : List Record) (kind : RedoKind) (name : List ℕ) (edits : List Edit)
    → (is : IsRedoing store s (midway groups (length before) passed (spot_of store)) base start groups forced) → is_some_edit edits ≡ true
    → EditsPage (spot_of store) (midway groups (length before) passed (spot_of store)) groups before after g (key_of at) (record { name = name; part = at.part; page = at.page })
    → midway groups (length before) (passed ++ Redo kind name at.part at.page edits ∷ []) (spot_of store) ≡ raised (key_of at) (length before + 1) (midway groups (length before) passed (spot_of store))
entry_passed store s base start groups before after g forced at passed kind name edits is some page = λ i k.
    midway_more groups (length before) passed (spot_of store) (key_of at) (record { name = name; part = at.part; page = at.page }) kind edits (keys_apart store s.folder groups is.pager.slots) page.here page.counts some k i

-- ---- the entries of a group, one after another

-- an entry that edits no page
pub entry_other : (groups : List Logged) (i : ℕ) (passed : List Record) (entry : Record) → ((kind : RedoKind) (name : List ℕ) (part : Part) (page : ℕ) (edits : List Edit) → entry ≡ Redo kind name part page edits → ⊥)
    → (o : Option Spot) → edits_of groups i (passed ++ entry ∷ []) o ≡ edits_of groups i passed o
entry_other groups i passed entry not None = refl
entry_other groups i passed entry not (Some t) = ap (λ (l : List Edit). cond (nat_lt i (base_of t.name groups)) [] l)
    (edits_push t.name t.part t.page passed entry ∙ ap (λ (e : Option (ℕ × List Edit)). edits_on t.name t.part t.page passed ++ edits_at t.page e) (by entry not) ∙ append-nil (edits_on t.name t.part t.page passed))
  where
    by : (r : Record) → ((kind : RedoKind) (name : List ℕ) (part : Part) (page : ℕ) (edits : List Edit) → r ≡ Redo kind name part page edits → ⊥) → edits_in t.name t.part r ≡ None
    by (Redo kind name part page edits) no_redo = absurd (no_redo kind name part page edits refl)
    by r no_redo = refl

-- an entry of a group that is stored has edits
pub stored_edits : (entry : Record) (kind : RedoKind) (name : List ℕ) (part : Part) (page : ℕ) (edits : List Edit) → RecordFits entry → entry ≡ Redo kind name part page edits → is_some_edit edits ≡ true
stored_edits entry kind name part page edits fits is = some_edits edits (subst BodyFits is fits.body).some

pub redoes_begun : (store : PageStore) (s : State) (base : ℕ) (start : Folder) (groups : List Logged) (forced i : ℕ) → OnlyNow s → s.may_leave s.folder → IsRedoing store s (λ k. i) base start groups forced
    → Redoes store store s s (midway groups i [] (spot_of store)) base start groups forced true
redoes_begun store s base start groups forced i only now is = record {
  steps = still_step store store s (midway groups i [] (spot_of store)) base start groups forced true only now (λ on p. p)
      (redone_alike store s (λ k. i) (midway groups i [] (spot_of store)) base start groups forced
      (λ k. ap (λ (j : ℕ). redone_at groups j (spot_of store k) (raw_at s.folder (spot_of store k))) (midway_none groups i (spot_of store) k)) is);
  log = λ on. record { log = refl; files = refl };
}

-- ALL ENTRIES WERE GONE THROUGH
pub redoes_ended : (store store' : PageStore) (s t : State) (base : ℕ) (start : Folder) (groups before after : List Logged) (g : Logged) (forced : ℕ) → IsRedoing store s (λ k. length before) base start groups forced → SameWork store store' → groups ≡ before ++ g ∷ after
    → Redoes store store' s t (midway groups (length before) g.group (spot_of store)) base start groups forced true → Redoes store store' s t (λ k. length before + 1) base start groups forced true
redoes_ended store store' s t base start groups before after g forced is same whole first = record {
  steps = record {
    forced' = first.steps.forced';
    moves = first.steps.moves;
    fronts = first.steps.fronts;
    pager = λ on. redone_alike store' t (midway groups (length before) g.group (spot_of store)) (λ k. length before + 1) base start groups first.steps.forced'
        (λ k. sym (ap (λ (f : ℕ → Option Spot). redone_at groups (midway groups (length before) g.group f k) (spot_of store' k) (raw_at t.folder (spot_of store' k))) (sym (same_spots store store' same.slots))
        ∙ midway_all groups before after g (spot_of store') k (raw_at t.folder (spot_of store' k)) whole))
        (redoing_on store store' s t (λ k. length before) (midway groups (length before) g.group (spot_of store)) base start groups forced is same first);
  };
  log = first.log;
}

-- what is so in between
pub here_now : (a l : PageStore) (s t : State) (base : ℕ) (start : Folder) (groups : List Logged) (forced i : ℕ) (passed : List Record) → IsRedoing a s (λ k. i) base start groups forced → SameWork a l
    → (first : Redoes a l s t (midway groups i passed (spot_of a)) base start groups forced true) → IsRedoing l t (midway groups i passed (spot_of l)) base start groups first.steps.forced'
here_now a l s t base start groups forced i passed is same first =
    subst (λ (f : ℕ → Option Spot). IsRedoing l t (midway groups i passed f) base start groups first.steps.forced') (sym (same_spots a l same.slots))
    (redoing_on a l s t (λ k. i) (midway groups i passed (spot_of a)) base start groups forced is same first)

-- one entry more, behind those that were gone through
pub redoes_entry : (a l n : PageStore) (s t u : State) (base : ℕ) (start : Folder) (groups : List Logged) (forced i : ℕ) (passed passed' : List Record) (done : Bool) → IsRedoing a s (λ k. i) base start groups forced → SameWork a l
    → (first : Redoes a l s t (midway groups i passed (spot_of a)) base start groups forced true)
    → (IsRedoing l t (midway groups i passed (spot_of l)) base start groups first.steps.forced' → Redoes l n t u (midway groups i passed' (spot_of l)) base start groups first.steps.forced' done)
    → Redoes a n s u (midway groups i passed' (spot_of a)) base start groups forced done
redoes_entry a l n s t u base start groups forced i passed passed' done is same first next =
    redoes_on a l n s t u (midway groups i passed (spot_of a)) (midway groups i passed' (spot_of a)) base start groups forced done same.opens first
    (subst (λ (f : ℕ → Option Spot). Redoes l n t u (midway groups i passed' f) base start groups first.steps.forced' done) (same_spots a l same.slots)
    (next (here_now a l s t base start groups forced i passed is same first)))

-- a list around one of its items
pub around : (xs : List Record) (i : ℕ) (x : Record) → i < length xs → x ≡ get_or xs i x → xs ≡ take i xs ++ x ∷ drop (suc i) xs
around xs i x low is = sym (take-append-drop i xs) ∙ ap (λ (l : List Record). take i xs ++ l) (drop-cons xs i x low ∙ ap (λ (y : Record). y ∷ drop (suc i) xs) (sym is))

pub one_more : (xs : List Record) (i : ℕ) (x : Record) → i < length xs → x ≡ get_or xs i x → take (i + 1) xs ≡ take i xs ++ x ∷ []
one_more xs i x low is = ap (λ (n : ℕ). take n xs) (let e : i + 1 ≡ suc i = omega arith in e) ∙ take-suc xs i x low ∙ ap (λ (y : Record). take i xs ++ y ∷ []) (sym is)

-- ---- faults

fault_held : (tells : Bool) (store : PageStore) (s t u : State) → t.disk_faults ≡ s.disk_faults → (key : ℕ) (f : Fault) → OfHold tells store key t u f → OfHold tells store key s u f
fault_held tells store s t u disk key Disk rose = subst (λ (n : ℕ). Rose n u.disk_faults) disk rose
fault_held tells store s t u disk key (Memory e) c = c
fault_held tells store s t u disk key (PageDamaged f n) c = c
fault_held tells store s t u disk key (LogDamaged f n) c = c
fault_held tells store s t u disk key f c = absurd c

-- a call that failed behind others, at which no fault of the disk was counted
pub cause_on : {T S : Type 0} (tells : Bool) (store : PageStore) (s t u : State) (r : Result S Fault) (y f : Fault) → r ≡ Err y → y ≡ f → t.disk_faults ≡ s.disk_faults → t.tell_faults ≡ s.tell_faults → HasRedoCause {T = T} tells store t u (Err f)
    → HasRedoCause {T = S} tells store s u r
cause_on {T} {S} tells store s t u r y f r_is y_is disk tell is = subst (HasRedoCause {T = S} tells store s u) (sym r_is) (subst (λ (x : Fault). HasRedoCause {T = S} tells store s u (Err x)) (sym y_is) (record {
  only = each is.only;
  calm = tt;
  later = omega (arith, disk, is.later);
  tell = is.tell ∙ tell;
}))
  where
    each : OfRedo tells store t u f → OfRedo tells store s u f
    each (inl (key, c)) = inl (key, fault_held tells store s t u disk key f c)
    each (inr c) = inr c

pub if_err_more : {T : Type 0} (r : Result T Fault) (P Q : Fault → Type 0) → ((f : Fault) → P f → Q f) → IfErr r P → IfErr r Q
if_err_more (Ok x) P Q more is = search rules
if_err_more (Err f) P Q more is = more f is

pub if_err_at : {T : Type 0} (r : Result T Fault) (P : Fault → Type 0) (y f : Fault) → r ≡ Err y → y ≡ f → P f → IfErr r P
if_err_at {T} r P y f r_is y_is is = subst (λ (x : Result T Fault). IfErr x P) (sym r_is) (subst P (sym y_is) is)

pub if_err_both : {T : Type 0} (r : Result T Fault) (P Q R : Fault → Type 0) → ((f : Fault) → P f → Q f → R f) → IfErr r P → IfErr r Q → IfErr r R
if_err_both (Ok x) P Q R both p q = search rules
if_err_both (Err f) P Q R both p q = both f p q

-- The log that a page is ahead of is the one that was.
pub edited_before : (log log' : LogValue) (groups : List Logged) (folder : Folder) (f : Fault) → OfEdited log' groups folder f → (is_log_damage f ≡ true → log' ≡ log) → OfEdited log groups folder f
edited_before log log' groups folder (LogDamaged f n) is same = subst (λ (l : LogValue). OfEdited l groups folder (LogDamaged f n)) (same refl) is
edited_before log log' groups folder (PageDamaged f n) is same = is
edited_before log log' groups folder f is same = tt

-- A page that can't be held is one that the groups edit.
pub of_edited : (tells : Bool) (a n : PageStore) (redone : Progress) (groups before after : List Logged) (g : Logged) (key : ℕ) (sp : Spot) (old new : State) → IsTrue tells → EditsPage (spot_of a) redone groups before after g key sp → name_at n ≡ name_at a → (f : Fault)
    → OfHold tells n key old new f → OfEdited n.log groups new.folder f
of_edited tells a n redone groups before after g key sp old new told page same f = by f
  where
    at : spot_of n key ≡ Some sp
    at = ap (λ (p : ℕ → Option Spot). p key) (same_spots a n same) ∙ page.here

    some_spot : (s t : Spot) → Some s ≡ Some t → s ≡ t
    some_spot s t e = cc

    edited : IsEdited groups sp
    edited = edited_last (spot_of a) redone groups before after g key sp page

    by : (f : Fault) → OfHold tells n key old new f → OfEdited n.log groups new.folder f
    by (PageDamaged f p) (s, there, file_is, page_is, unheld, none) =
        let one : s ≡ sp = some_spot s sp (sym there ∙ at) in
        (sp, edited, file_is ∙ ap (λ (x : Spot). file x.name x.part) one, page_is ∙ ap (λ (x : Spot). x.page) one, sym (ap (raw_at new.folder) at) ∙ (none told).none)
    by (LogDamaged f p) (is, unheld, late) = (sp, edited, is, sym (ap (λ (o : Option Spot). late_seen (next_number n) (raw_at new.folder o)) at) ∙ late told)
    by (Memory e) c = tt
    by Disk c = tt
    by f c = absurd c

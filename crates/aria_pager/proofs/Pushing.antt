-- The open group and the slots behind an edit, whatever the host tells.
use Rattle.std.proofs.Common.{◌≡◌, ◌∙◌, ℕ, ◌+◌, ◌^◌, ◌<◌, ◌≤◌, Bool, true, false, cond, nat_eq, List, [], ◌∷◌, ◌++◌, ap, sym, refl, subst, arith, Option, None, Some}
use Rattle.std.specs.Prelude.{IsTrue, All}
use Rattle.std.specs.Global.{Vec}
use Rattle.std.specs.List.{AllByRecursion}
use Rattle.std.specs.Option.{option_map}
use Rattle.std.specs.BTreeMap.{get}
use Rattle.std.specs.Ordering.{nat_cmp}
use Rattle.std.specs.Cmp.Lexicographic.{slice_cmp}
use Rattle.aria_page.specs.declared.lsn.Lsn.{Lsn}
use Rattle.aria_page.specs.Lsn.{IsLsn}
use Rattle.aria_page.specs.declared.place.Part.{Part}
use Rattle.aria_page.specs.declared.place.Part.TheVariants.{Keys, Rows}
use Rattle.aria_host.specs.declared.fault.Fault.{Fault}
use Rattle.aria_host.specs.Folder.{Folder}
use Rattle.aria_host.specs.State.{State}
use Rattle.aria_record.specs.declared.group_writer.GroupWriter.{GroupWriter}
use Rattle.aria_record.specs.declared.record.Record.{Record}
use Rattle.aria_record.specs.Groups.{is_redo}
use Rattle.aria_record.specs.Logged.{Logged}
use Rattle.aria_record.specs.Writing.{Writes, Pushes, records_of}
use Rattle.aria_cache.specs.declared.page_id.PageId.{PageId}
use Rattle.aria_pager.specs.declared.page_store.PageStore.{PageStore}
use Rattle.aria_pager.specs.PageStore.{sizes_at, grown, sizes_after, with_rest}
use Rattle.aria_pager.specs.Goes.{Stays}
use Rattle.aria_pager.specs.Pager.{IsPager}
use Rattle.aria_pager.specs.Steps.{SameTables, Adds}
use Rattle.aria_pager.specs.View.{size_in, HasEdits, IsTidy}
use Rattle.aria_pager.proofs.Keeping.{gone_step}

each_more : (rs : List Record) (r : Record) → AllByRecursion (λ r. is_redo r ≡ true) rs → is_redo r ≡ true → AllByRecursion (λ r. is_redo r ≡ true) (rs ++ r ∷ [])
each_more [] r all here = (here, tt)
each_more (x ∷ rs) r all here = (all.0, each_more rs r all.1 here)

-- an edit more
pub edits_pushed : (old new : GroupWriter) (r : Record) (most : ℕ) → is_redo r ≡ true → Pushes old new r most → HasEdits old → HasEdits new
edits_pushed old new r most redo pushes is = record {
  writing = subst (Writes new) (sym told) (pushes.pushed (records_of old) is.writing);
  redo = subst (λ (rs : List Record). AllByRecursion (λ r. is_redo r ≡ true) rs) (sym told) (each_more (records_of old) r is.redo redo);
}
  where
    told : records_of new ≡ records_of old ++ r ∷ []
    told = pushes.told is.writing

-- the slots stand for the same tables
tidy_slots : (store now : PageStore) → SameTables store now → store.in_group ≡ true → ((n : ℕ) (part : Part) (sizes : ℕ × ℕ) → sizes_at now n ≡ Some sizes → size_in part sizes ≤ 2 ^ 31) → (HasEdits store.writer → HasEdits now.writer) → IsTidy store → IsTidy now
tidy_slots store now same on few edits is = record {
  one = λ n m name a b. is.one n m name (ap (λ (f : ℕ → Option (List ℕ)). f n) (sym same.slots) ∙ a) (ap (λ (f : ℕ → Option (List ℕ)). f m) (sym same.slots) ∙ b);
  known = λ n name a. ap (λ t. get (slice_cmp nat_cmp) t name) same.tables ∙ is.known n name (ap (λ (f : ℕ → Option (List ℕ)). f n) (sym same.slots) ∙ a);
  few = few;
  closed = λ off none. absurd (let e : true ≡ false = sym on ∙ sym same.in_group ∙ off in (cc));
  edits = λ none. edits (is.edits (sym same.kept ∙ none));
  undo = subst (λ (v : Vec Lsn). All IsLsn v.items) (sym same.pending) is.undo;
}

size_grown : (p q : Part) (k : ℕ) (sizes : ℕ × ℕ) → size_in q sizes ≤ 2 ^ 31 → k ≤ 2 ^ 31 → size_in q (grown p k sizes) ≤ 2 ^ 31
size_grown Keys Keys k sizes few low = omega (arith, few, low)
size_grown Keys Rows k sizes few low = few
size_grown Rows Keys k sizes few low = few
size_grown Rows Rows k sizes few low = omega (arith, few, low)

-- a page was edited
pub tidy_edited : (store now : PageStore) (at : PageId) → SameTables store now → store.in_group ≡ true → at.page < 2 ^ 31 → sizes_at now ≡ sizes_after at (sizes_at store) → (HasEdits store.writer → HasEdits now.writer) → IsTidy store → IsTidy now
tidy_edited store now at same on low sizes edits is = tidy_slots store now same on few edits is
  where
    few : (n : ℕ) (part : Part) (s : ℕ × ℕ) → sizes_at now n ≡ Some s → size_in part s ≤ 2 ^ 31
    few n part s e = by (nat_eq at.slot n) (sym (ap (λ (f : ℕ → Option (ℕ × ℕ)). f n) sizes) ∙ e)
      where
        some : (a b : ℕ × ℕ) → Some a ≡ Some b → a ≡ b
        some a b e = cc

        grew : (o : Option (ℕ × ℕ)) → sizes_at store n ≡ o → option_map (grown at.part (at.page + 1)) o ≡ Some s → size_in part s ≤ 2 ^ 31
        grew None none e = absurd (cc)
        grew (Some was) there e = subst (λ (x : ℕ × ℕ). size_in part x ≤ 2 ^ 31) (some (grown at.part (at.page + 1) was) s e) (size_grown at.part part (at.page + 1) was (is.few n part was there) (omega (arith, low)))

        by : (b : Bool) → cond b (option_map (grown at.part (at.page + 1)) (sizes_at store n)) (sizes_at store n) ≡ Some s → size_in part s ≤ 2 ^ 31
        by false e = is.few n part s e
        by true e = grew (sizes_at store n) refl e

-- no page was edited
pub tidy_failed : (store now : PageStore) → SameTables store now → store.in_group ≡ true → sizes_at now ≡ sizes_at store → (HasEdits store.writer → HasEdits now.writer) → IsTidy store → IsTidy now
tidy_failed store now same on sizes edits is = tidy_slots store now same on (λ n part s e. is.few n part s (ap (λ (f : ℕ → Option (ℕ × ℕ)). f n) (sym sizes) ∙ e)) edits is

-- A FAULT IS KEPT behind an edit that failed.
pub stays_adds : (store mid : PageStore) (entry : Record) (kept : Option Fault) (s t : State) (done : Bool) → SameTables store mid → store.kept ≡ None → (kept ≡ None → IsTrue done)
    → ((base : ℕ) (start : Folder) (groups : List Logged) (forced : ℕ) → IsPager store s base start groups forced → Adds store mid s t base start groups forced entry done) → Stays store (with_rest mid mid.in_group mid.made mid.lent kept) s t
stays_adds store mid entry kept s t done same none only adds = record {
  slots = same.slots;
  opens = same.opens;
  goes = λ base start groups forced is.
      let a = adds base start groups forced (is.pager none) in
      gone_step store mid mid.in_group mid.made mid.lent kept s t base start groups forced done same.opens record { forced' = a.forced'; moves = a.moves; fronts = a.fronts; pager = a.pager } only;
}

-- the same but for the fault that is kept
pub tables_rest : (store mid : PageStore) (kept : Option Fault) → SameTables store mid → SameTables store (with_rest (with_rest mid mid.in_group mid.made mid.lent kept) mid.in_group mid.made mid.lent store.kept)
tables_rest store mid kept same = record { slots = same.slots; opens = same.opens; tables = same.tables; pending = same.pending; started = same.started; in_group = same.in_group; lent = same.lent; kept = refl }

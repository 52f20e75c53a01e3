-- What a pager's own calls come to, in the words of `Pages`.
use Rattle.std.proofs.Common.{rules, ◌≡◌, ◌∙◌, ℕ, ◌+◌, ◌-◌, ◌^◌, ◌≤◌, min, Bool, true, false, cond, List, [], ◌∷◌, ◌++◌, length, reverse, ap, sym, refl, subst, arith, Option, None, Some, Result, Ok, Err}
use Rattle.std.specs.Prelude.{IsTrue, IsSome, IfSome, IfOk, OnOk, OnErr, is_some, unwrap_or}
use Rattle.aria_page.specs.declared.edit.Edit.{Edit}
use Rattle.aria_page.specs.declared.group.RedoKind.{RedoKind}
use Rattle.aria_page.specs.declared.lsn.Lsn.{Lsn}
use Rattle.aria_page.specs.declared.place.Part.{Part}
use Rattle.aria_host.specs.declared.fault.Fault.{Fault}
use Rattle.aria_host.specs.declared.fault.Fault.TheVariants.{Memory, Disk, PageDamaged, LogDamaged}
use Rattle.aria_host.specs.declared.file_name.FileName.{FileName}
use Rattle.aria_host.specs.State.{State}
use Rattle.aria_host.proofs.Moments.{OnlyNow}
use Rattle.aria_record.specs.declared.group_writer.GroupWriter.{GroupWriter}
use Rattle.aria_record.specs.declared.record.Record.{Record}
use Rattle.aria_record.specs.declared.record.Record.TheVariants.{Redo}
use Rattle.aria_record.specs.Logged.{Logged, lsn_at_place}
use Rattle.aria_record.specs.Writing.{Writes, records_of, size_of}
use Rattle.aria_record.proofs.Writers.{written_is}
use Rattle.aria_log.specs.Log.{log_pages}
use Rattle.aria_cache.specs.declared.frames.Frames.{Frames}
use Rattle.aria_cache.specs.Calls.{Loads, Edits, Begins, Ended, fault_of}
use Rattle.aria_cache.specs.PageState.{table_file}
use Rattle.aria_cache.specs.Causes.{OfPage, HasPagesCause}
use Rattle.aria_cache.specs.Frames.{held}
use Rattle.aria_pager.specs.declared.page_store.PageStore.{PageStore}
use Rattle.aria_pager.specs.PageStore.{name_at, with_frames, with_writer, with_rest}
use Rattle.aria_pager.specs.Goes.{Stands, Stays, Ends}
use Rattle.aria_pager.specs.Steps.{SameWork}
use Rattle.aria_pager.specs.View.{IsTidy, page_counts, loaded_body, some_record, pages_of}
use Rattle.aria_pager.specs.Looks.{KeepsPages}
use Rattle.aria_pager.specs.Shows.{ShowsEdits, OfLook, HasLookCause}
use Rattle.aria_pager.specs.Laws.{stands_stays, stands_ends}
use Rattle.aria_pager.proofs.Keeping.{stays_rest, stays_begun}
use Rattle.aria_pager.proofs.Viewing.{counts_same}
use Rattle.aria_pager.proofs.Showing.{SameView, view_same}

-- ---- calls that ask nothing of the host

pub stays_but : (store store' : PageStore) (in_group : Bool) (made lent : ℕ) (kept : Option Fault) (s : State) → OnlyNow s → (kept ≡ None → store.kept ≡ None) → store' ≡ with_rest store in_group made lent kept → Stays store store' s s
stays_but store store' in_group made lent kept s only clear is = subst (λ (v : PageStore). Stays store v s s) (sym is) (stays_rest store in_group made lent kept s only clear)

-- a group that is begun
abbrev pub begun : PageStore → Frames → GroupWriter → PageStore
begun store frames writer = with_writer (with_frames (with_rest store true 0 store.lent store.kept) frames) writer

pub stays_group : (store store' : PageStore) (frames : Frames) (writer : GroupWriter) (s : State) → OnlyNow s → IsTidy store → store.in_group ≡ false → Writes writer [] → frames.cache ≡ store.frames.cache → frames.pins.items ≡ [] → store' ≡ begun store frames writer → Stays store store' s s
stays_group store store' frames writer s only tidy off writes cache pins is = subst (λ (v : PageStore). Stays store v s s) (sym is) (stays_begun store frames writer 0 s only tidy off writes cache pins)

begins_at : (store : PageStore) (frames : Frames) (writer : GroupWriter) (s : State) → Writes writer [] → size_of writer ≡ 5 → frames.cache ≡ store.frames.cache → frames.pins.items ≡ [] → Begins (pages_of store s) (pages_of (begun store frames writer) s)
begins_at store frames writer s writes size cache pins = record {
  rests = record {
    slots = record { is_open = refl; name = refl };
    pages = record { counts = view.counts; bodies = view.bodies; late = view.late };
    log = record { pending = refl; reach = refl };
    loaded = ap (λ c. loaded_body (with_frames store (record { cache = c; pins = frames.pins }))) cache;
    lent = refl;
    faults = refl;
  };
  kept = refl;
  in_group = refl;
  edited = ap some_record none;
  edits = none;
  touched = ap (λ (l : List ℕ). length l) pins;
  made = refl;
  bytes = omega (arith, size);
}
  where
    none : records_of writer ≡ []
    none = written_is writer [] writes

    view : SameView store (begun store frames writer) s.folder
    view = view_same store (begun store frames writer) s.folder refl (ap (λ c. held (record { cache = c; pins = frames.pins })) cache) refl

pub begins : (store store' : PageStore) (frames : Frames) (writer : GroupWriter) (s : State) → Writes writer [] → size_of writer ≡ 5 → frames.cache ≡ store.frames.cache → frames.pins.items ≡ [] → store' ≡ begun store frames writer → Begins (pages_of store s) (pages_of store' s)
begins store store' frames writer s writes size cache pins is = subst (λ (v : PageStore). Begins (pages_of store s) (pages_of v s)) (sym is) (begins_at store frames writer s writes size cache pins)

-- ---- a page is loaded

pub counts_rest : (store : PageStore) (in_group : Bool) (made lent : ℕ) (kept : Option Fault) (s : State) → page_counts (with_rest store in_group made lent kept) ≡ page_counts store
counts_rest store in_group made lent kept s = (view_same store (with_rest store in_group made lent kept) s.folder refl refl refl).counts

lent_more : (done : Bool) (old new : ℕ) → new ≡ cond done (min (old + 1) (2 ^ 64 - 1)) old → new ≤ old + 1
lent_more true old new is = omega (arith, is)
lent_more false old new is = omega (arith, is)

pub loads : (tells : Bool) (store store' : PageStore) (s t : State) (done : Bool) → IsTidy store → SameWork store (with_rest store' store'.in_group store'.made store.lent store.kept) → log_pages store'.log ≡ log_pages store.log → store'.frames.pins ≡ store.frames.pins
    → (IsTrue tells → KeepsPages store store' s.folder t.folder) → store'.lent ≡ cond done (min (store.lent + 1) (2 ^ 64 - 1)) store.lent → Loads tells 1 (pages_of store s) (pages_of store' t)
loads tells store store' s t done tidy same reach pins keeps lent = record {
  slots = record { is_open = λ i n. is_some (same.slots i n); name = λ i n. unwrap_or (same.slots i n) [] };
  group = record {
    in_group = same.in_group;
    edited = ap (λ (w : GroupWriter). some_record (records_of w)) same.writer;
    edits = ap records_of same.writer;
    touched = ap (λ p. length p.items) pins;
    made = same.made;
    bytes = ap (λ (w : GroupWriter). size_of w - 5) same.writer;
  };
  log = record { pending = ap (λ p. reverse p.items) same.pending; reach = reach };
  counts = sym (counts_rest store' store'.in_group store'.made store.lent store.kept t) ∙ counts_same store (with_rest store' store'.in_group store'.made store.lent store.kept) same tidy;
  bodies = λ told. (keeps told).bodies;
  late = λ told. record { late = (keeps told).late };
  lent = lent_more done store.lent store'.lent lent;
}

-- ---- causes

of_page : (tells : Bool) (file : FileName) (page : ℕ) (store store' : PageStore) (s t : State) (fault : Fault) → OfLook tells file page store s t fault → OfPage tells true file page (pages_of store s) (pages_of store' t) fault
of_page tells file page store store' s t (Memory e) is = is
of_page tells file page store store' s t Disk is = is
of_page tells file page store store' s t (PageDamaged f n) is = is
of_page tells file page store store' s t (LogDamaged f n) is = (refl, is)
of_page tells file page store store' s t _ is = absurd is

look_only : {T : Type 0} (tells : Bool) (file : FileName) (page : ℕ) (store store' : PageStore) (s t : State) (r : Result T Fault) → HasLookCause tells file page store s t r → IfSome (fault_of r) (OfPage tells true file page (pages_of store s) (pages_of store' t))
look_only tells file page store store' s t (Ok x) is = tt
look_only tells file page store store' s t (Err fault) is = of_page tells file page store store' s t fault is.only

look_calm : {T : Type 0} (tells : Bool) (file : FileName) (page : ℕ) (store : PageStore) (s t : State) (r : Result T Fault) → HasLookCause tells file page store s t r → fault_of r ≡ None → t.disk_faults ≡ s.disk_faults
look_calm tells file page store s t (Ok x) is none = is.calm
look_calm tells file page store s t (Err fault) is none = absurd (cc)

-- why a page isn't held, or isn't edited
pub page_cause : {T : Type 0} (tells : Bool) (file : FileName) (page : ℕ) (store store' : PageStore) (s t : State) (r : Result T Fault) → (store.kept ≡ None → HasLookCause tells file page store s t r) → (IsSome store.kept → t.disk_faults ≡ s.disk_faults)
    → HasPagesCause (OfPage tells true file page (pages_of store s) (pages_of store' t)) (pages_of store s) (pages_of store' t) (fault_of r)
page_cause tells file page store store' s t r cause still = by store.kept refl
  where
    by : (o : Option Fault) → store.kept ≡ o → HasPagesCause (OfPage tells true file page (pages_of store s) (pages_of store' t)) (pages_of store s) (pages_of store' t) (fault_of r)
    by None is = record {
      cause = λ none. look_only tells file page store store' s t r (cause none);
      calm = λ none. look_calm tells file page store s t r (cause is) none;
      later = (cause is).later;
    }
    by (Some f) is = record {
      cause = λ none. look_only tells file page store store' s t r (cause none);
      calm = λ none. same;
      later = omega (arith, same);
    }
      where
        same : t.disk_faults ≡ s.disk_faults
        same = still (subst IsSome (sym is) (search rules))

-- ---- groups

-- a page was edited
pub edits_page : (kind : RedoKind) (slot : ℕ) (part : Part) (page : ℕ) (es : List Edit) (store store' : PageStore) (s t : State) → ShowsEdits (table_file (unwrap_or (name_at store slot) []) part) page es store store' s.folder t.folder
    → records_of store'.writer ≡ records_of store.writer ++ Redo kind (unwrap_or (name_at store slot) []) part page es ∷ [] → Edits true kind slot part page es (pages_of store s) (pages_of store' t)
edits_page kind slot part page es store store' s t shows entries = record { bodies = shows.bodies; late = record { late = shows.late }; records = λ log. entries }

-- a group ended
pub ended : {S : Type 0} (ends : S → S → List Logged → Type 0) (group : List Record) (place : ℕ) (old new : S) (r : Result Lsn Fault) → IfOk r (λ lsn. lsn ≡ lsn_at_place place) → OnOk r (ends old new (record { at = place; group = group } ∷ []))
    → IfOk r (λ lsn. Ended true ends group lsn old new)
ended ends group place old new (Ok lsn) is moves = record { at = place; is = λ log. is; none = λ off. absurd (cc); moves = moves }
ended ends group place old new (Err e) is moves = tt

-- it ended, or it didn't
pub stands_end : (store store' : PageStore) (s t : State) (added : List Logged) (r : Result Lsn Fault) → Stands store s → OnErr r (Stays store store' s t) → OnOk r (Ends store store' s t added) → Stands store' t
stands_end store store' s t added (Ok lsn) is stays ends = stands_ends store store' s t added is ends
stands_end store store' s t added (Err e) is stays ends = stands_stays store store' s t is stays

-- A folder is opened: what its steps come to.
use Rattle.std.proofs.Common.{◌≡◌, ◌∙◌, ◌≤◌, ◌⊎◌, inl, inr, ⊎_elim, ℕ, ◌*◌, Bool, true, false, List, [], ◌++◌, take, length, ap, sym, refl, subst, arith, true≢false}
use Rattle.std.specs.Prelude.{Option, Result, Ok, Err, IsTrue, IfErr, IsErrOf, OnOk, is_some}
use Rattle.std.specs.List.{list_any}
use Rattle.std.proofs.Math.Seq.{take-length, take-nil}
use Rattle.std.proofs.lemmas.List.{append-nil}
use Rattle.aria_page.specs.declared.lsn.Lsn.{Lsn}
use Rattle.aria_page.specs.declared.place.Part.{Part}
use Rattle.aria_page.specs.declared.place.Part.TheVariants.{Keys, Rows}
use Rattle.aria_host.specs.Count.{Rose}
use Rattle.aria_host.specs.declared.fault.Fault.{Fault}
use Rattle.aria_host.specs.declared.fault.Fault.TheVariants.{Memory, Disk, Tell, Input, PageDamaged, LogDamaged, LogSpent, ControlDamaged, NotOurs, FileMissing, TooManyTables}
use Rattle.aria_host.specs.declared.file_name.FileName.{FileName}
use Rattle.aria_host.specs.declared.file_name.FileName.TheVariants as files
use Rattle.aria_host.specs.Folder.{Folder, IsFileName, same_file}
use Rattle.aria_host.specs.Seen.{page_or_zero}
use Rattle.aria_host.specs.State.{State, LeavesOnly}
use Rattle.aria_host.specs.Calls.{Unchanged}
use Rattle.aria_host.specs.Moments.{SameBut, Left, Moments}
use Rattle.aria_host.proofs.Moments.{OnlyNow, started, goes_on, joined, weakened}
use Rattle.aria_control.specs.Found.{control_file, is_control}
use Rattle.aria_record.specs.Logged.{Logged}
use Rattle.aria_recovery.specs.Redo.{Content, seen}
use Rattle.aria_record.specs.Writing.{records_of}
use Rattle.aria_recovery.specs.Tables.{Agrees, Table, file, page_in, tables_of}
use Rattle.aria_recovery.specs.Frames.{Progress, all_of}
use Rattle.aria_recovery.specs.Moves.{AtFront}
use Rattle.aria_recovery.proofs.Stepping.{tables_same}
use Rattle.aria_pager.specs.declared.find.Found.{Found}
use Rattle.aria_pager.specs.declared.page_store.PageStore.{PageStore}
use Rattle.aria_pager.specs.Pager.{HasFront, IsPagerAt, IsPager}
use Rattle.aria_pager.specs.Redone.{Redoes, OfRedo, OfEdited}
use Rattle.aria_log.specs.declared.log.Log.{Log as LogValue}
use Rattle.aria_log.specs.Files.{HoldsLog}
use Rattle.aria_log.specs.Log.{IsOpened, place}
use Rattle.aria_log.specs.Pieces.{LogFiles, log_files}
use Rattle.aria_record.specs.Logged.{lsn_at_place}
use Rattle.aria_recovery.specs.Redo.{number_at}
use Rattle.aria_recovery.specs.Images.{page_of}
use Rattle.aria_pager.specs.PageStore.{late_seen}
use Rattle.aria_pager.specs.Steps.{damaged_at}
use Rattle.aria_pager.specs.Prepared.{AreAllListed, KeepsTables, may_change}
use Rattle.aria_pager.specs.Found.{IsBegun, AtBegin, MayBegin, IsFoundAs, Holds, HasCause}
use Rattle.aria_pager.proofs.LogRead.{opened_end}
use Rattle.aria_pager.specs.Opening.{OfRedonePage, Finds, AtGroups, IsReopened, AsBefore, AtOpening, LeavesOpened, IsOpenedPager, OfGroups, OfReopened, OfOpen, IsReopenFault}
use Rattle.aria_pager.specs.Headers.{HasOtherMagic, IsNoHeader, OfHeader, OfHeaders, HasHeaderCause, AreToldOf, header_of, OfRedoneHeader}
use Rattle.aria_pager.proofs.Again.{if_err_more}
use Rattle.aria_pager.proofs.Heading.{redone_header}
use Rattle.aria_pager.proofs.Stepping.{pager_look}

-- ---- where it began

-- The same holds from another folder on that has the same tables' files.
pub starts_same : (store : PageStore) (s : State) (redone : Progress) (base : ℕ) (start start' : Folder) (groups : List Logged) (forced : ℕ) → ((name : List ℕ) (part : Part) → start (file name part) ≡ start' (file name part))
    → IsPagerAt store s redone base start groups forced → IsPagerAt store s redone base start' groups forced
starts_same store s redone base start start' groups forced same is = record {
  log = is.log;
  images = is.images;
  names = is.names;
  control = is.control;
  raises = λ c left name part n. ⊎_elim (λ e. inl (e ∙ ap (λ (content : Content). seen (page_or_zero n content)) (same name part))) (λ b. inr b) (is.raises c left name part n);
  pages = is.pages;
  top = is.top;
  inside = is.inside;
  pinned = is.pinned;
  own = is.own;
  named = is.named;
  slots = is.slots;
  tables = is.tables;
  settled = is.settled;
  written = is.written;
  pending = is.pending;
}

-- ---- the groups are made again

module _ (store store' : PageStore) (s s' : State) (base : ℕ) (start : Folder) (groups : List Logged) (done : Bool) (is : Redoes store store' s s' (all_of groups) base start groups (length groups) done) where
  abbrev all : ℕ
  all = length groups

  whole : (n : ℕ) → n ≡ all → take n groups ≡ groups
  whole n e = ap (λ (m : ℕ). take m groups) e ∙ take-length groups

  -- all are forced still
  pub all_forced : is.steps.forced' ≡ all
  all_forced = omega (arith, is.steps.moves.forces, is.steps.moves.within)

  pub pager_redone : IsTrue done → IsPager store' s' base start groups all
  pager_redone yes_done = subst (λ (n : ℕ). IsPager store' s' base start groups n) all_forced (is.steps.pager yes_done)

  tables_then : (name : List ℕ) → is.steps.moves.tables all name ≡ tables_of s.folder groups name
  tables_then name = is.steps.moves.starts all (omega arith) (omega arith) name ∙ ap (λ (gs : List Logged). tables_of s.folder gs name) (whole all refl)

  -- the tables stay
  pub tables_redone : (name : List ℕ) → tables_of s'.folder groups name ≡ tables_of s.folder groups name
  tables_redone name = sym (is.steps.moves.ends all (omega (arith, all_forced)) (omega arith) name ∙ ap (λ (gs : List Logged). tables_of s'.folder gs name) (whole all refl)) ∙ tables_then name

  -- at each moment too
  pub groups_redone : LeavesOnly s s' (AtGroups s base groups)
  groups_redone = weakened s s' (AtFront (HasFront base) is.steps.moves.tables groups all s.out) (AtGroups s base groups) is.steps.moves.moments (λ c told left.
      let here : left.count ≡ all = omega (arith, left.from, left.within) in
      record {
        log = subst (λ (gs : List Logged). HasFront base c gs) (whole left.count here) left.log;
        tables = λ name. ap (λ (gs : List Logged). tables_of c gs name) (sym (whole left.count here)) ∙ left.is name ∙ ap (λ (n : ℕ). is.steps.moves.tables n name) here ∙ tables_then name;
        told_is = left.told_is;
      })

-- ---- one step after another

-- tables by all groups, where two folders agree
pub tables_agree : (groups : List Logged) (d c : Folder) → Agrees groups (length groups) d c → (name : List ℕ) → tables_of c groups name ≡ tables_of d groups name
tables_agree groups d c agrees name = ap (λ (gs : List Logged). tables_of c gs name) (sym (take-length groups)) ∙ sym (agrees.tables (length groups) (omega arith) (omega arith) name) ∙ ap (λ (gs : List Logged). tables_of d gs name) (take-length groups)

-- the files of tables are settled
pub groups_prepared : (old new : State) (base : ℕ) (groups : List Logged) → Moments (may_change groups) old new (KeepsTables base groups old.folder) → LeavesOnly old new (AtGroups old base groups)
groups_prepared old new base groups run = weakened old new (Left (may_change groups) old (KeepsTables base groups old.folder)) (AtGroups old base groups) run.moments (λ c told left. record { log = left.has.log; tables = tables_agree groups old.folder c left.has.agrees; told_is = left.told_is })

-- a call that only looks, behind a run
pub look_behind : (a b c : State) (P : Folder → List ℕ → Type 0) → ((t : ℕ) (f : Folder) → t ≤ b.moment → b.may_leave f → b.since t f b.out) → LeavesOnly a b P → Unchanged b c → LeavesOnly a c P
look_behind a b c P counts run same = goes_on a b c [] P run same.tells.time (λ f n left. subst (λ (told : List ℕ). P f told) (sym (ap (λ (l : List ℕ). b.out ++ l) (take-nil n) ∙ append-nil b.out)) (run.each f b.out (counts a.moment f run.later (same.images.no_more f left))))

-- one run after another
pub groups_on : (a b c : State) (base : ℕ) (groups : List Logged) → ((name : List ℕ) → tables_of b.folder groups name ≡ tables_of a.folder groups name) → b.out ≡ a.out → LeavesOnly a b (AtGroups a base groups) → LeavesOnly b c (AtGroups b base groups) → LeavesOnly a c (AtGroups a base groups)
groups_on a b c base groups same out first next = joined a b c (AtGroups a base groups) (AtGroups b base groups) first next (λ f told left. record { log = left.log; tables = λ name. left.tables name ∙ same name; told_is = left.told_is ∙ out })

-- ---- the whole, behind what was found

module _ (old mid seen : State) (base : ℕ) (groups : List Logged) (keeps : Moments (may_change groups) old mid (KeepsTables base groups old.folder)) (agrees : Agrees groups (length groups) old.folder mid.folder) (look : Unchanged mid seen) (counts : (t : ℕ) (f : Folder) → t ≤ mid.moment → mid.may_leave f → mid.since t f mid.out) where
  pub entered_keeps : LeavesOnly old seen (AtGroups old base groups)
  entered_keeps = look_behind old mid seen (AtGroups old base groups) counts (groups_prepared old mid base groups keeps) look

  same_tables : (name : List ℕ) → tables_of seen.folder groups name ≡ tables_of old.folder groups name
  same_tables name = ap (λ (d : Folder). tables_of d groups name) look.folder ∙ tables_agree groups old.folder mid.folder agrees name

  same_out : seen.out ≡ old.out
  same_out = look.tells.out ∙ keeps.others.out

  pub reopened_keeps : (new : State) (store store' : PageStore) (done : Bool) → Redoes store store' seen new (all_of groups) base old.folder groups (length groups) done → LeavesOnly old new (AtGroups old base groups)
  reopened_keeps new store store' done redoes = groups_on old seen new base groups same_tables same_out entered_keeps (groups_redone store store' seen new base old.folder groups done redoes)

  pub reopened : (new : State) (store store' : PageStore) (done : Bool) → IsTrue done → Redoes store store' seen new (all_of groups) base old.folder groups (length groups) done → IsReopened old new base groups store'
  reopened new store store' done whole_run redoes = record {
    pager = pager_redone store store' seen new base old.folder groups done redoes whole_run;
    tables = λ name. tables_redone store store' seen new base old.folder groups done redoes name ∙ same_tables name;
    out = redoes.steps.moves.out ∙ same_out;
    err = redoes.steps.moves.err ∙ look.tells.err ∙ keeps.others.err;
  }

-- ---- and what was found

-- each file of a table is listed
pub all_listed : (names : List FileName) (folder : Folder) → ((f : FileName) → IsFileName f → is_control f ≡ false → list_any (same_file f) names ≡ is_some (folder f)) → AreAllListed names folder
all_listed names folder each files.Control is = absurd (cc)
all_listed names folder each (files.Log n) is = absurd (cc)
all_listed names folder each (files.Keys name) is = each (files.Keys name) (cc) refl
all_listed names folder each (files.Rows name) is = each (files.Rows name) (cc) refl
all_listed names folder each (files.NewKeys name) is = each (files.NewKeys name) (cc) refl
all_listed names folder each (files.NewRows name) is = each (files.NewRows name) (cc) refl

pub finds : (value : Found) (old new : State) (checkpoint : Lsn) (base : ℕ) (groups : List Logged) → IsFoundAs value old new checkpoint base groups → Finds value new checkpoint base groups
finds value old new checkpoint base groups is = record { found = is.found; has = is.has; low = is.low; listed = all_listed value.files new.folder is.listed; from_is = is.from_is }

file_other : (name : List ℕ) (part : Part) → is_control (file name part) ≡ false
file_other name Keys = refl
file_other name Rows = refl

-- finding leaves the tables' files
pub files_found : (old new : Folder) → SameBut is_control old new → (name : List ℕ) (part : Part) → new (file name part) ≡ old (file name part)
files_found old new same name part = same (file name part) (file_other name part)

tables_found : (old new : Folder) (groups : List Logged) → SameBut is_control old new → (name : List ℕ) → tables_of new groups name ≡ tables_of old groups name
tables_found old new groups same name = tables_same old new groups name (files_found old new same name)

out_found : (old new : State) → MayBegin old new → new.out ≡ old.out
out_found old new (inl same) = same.tells.out
out_found old new (inr begins) = begins.out

err_found : (old new : State) → MayBegin old new → new.err ≡ old.err
err_found old new (inl same) = same.tells.err
err_found old new (inr begins) = begins.err

-- what finding may leave is what opening may leave
pub opening_found : (old new : State) → OnlyNow old → MayBegin old new → LeavesOpened old new
opening_found old new only (inl same) =
    goes_on old old new [] (AtOpening old) (started old (AtOpening old) (λ c told left. let now = only c told left in record { left = inl (inl now.0); told_is = now.1 })) same.tells.time
    (λ c n left. record { left = inl (inl (same.no_more c left)); told_is = ap (λ (l : List ℕ). old.out ++ l) (take-nil n) ∙ append-nil old.out })
opening_found old new only (inr begins) = weakened old new (AtBegin old) (AtOpening old) begins.moments (λ c told left. record { left = inl (by c left.image); told_is = left.told_is })
  where
    by : (c : Folder) → (d : Folder) × old.may_leave d × ((c ≡ d) ⊎ (SameBut is_control d c × IsBegun (c control_file))) → AsBefore old c
    by c (d, left, inl same) = inl (subst (λ (f : Folder). old.may_leave f) (sym same) left)
    by c (d, left, inr (same, begun)) = inr (begins.fresh, d, left, same, begun)

module _ (value : Found) (old mid new : State) (checkpoint : Lsn) (base : ℕ) (groups : List Logged) (is : IsFoundAs value old mid checkpoint base groups) (begins : MayBegin old mid) where
  -- THE MOMENTS OF OPENING
  pub opening_all : OnlyNow old → LeavesOnly mid new (AtGroups mid base groups) → LeavesOpened old new
  opening_all only next = joined old mid new (AtOpening old) (AtGroups mid base groups) (opening_found old mid only begins) next (λ c told left. record {
    left = inr (record { checkpoint = checkpoint; base = base; groups = groups; own = is.own; log = left.log; tables = λ name. left.tables name ∙ tables_found old.folder mid.folder groups is.others name });
    told_is = left.told_is ∙ out_found old mid begins;
  })

  -- THE PAGER THAT WAS OPENED
  pub opened_all : (store : PageStore) → IsReopened mid new base groups store → IsOpenedPager old new store
  opened_all store reopened_as = record {
    checkpoint = checkpoint;
    base = base;
    groups = groups;
    own = is.own;
    chained = is.chained;
    pager = starts_same store new (all_of groups) base mid.folder old.folder groups (length groups) (files_found old.folder mid.folder is.others) reopened_as.pager;
    tables = λ name. reopened_as.tables name ∙ tables_found old.folder mid.folder groups is.others name;
    out = reopened_as.out ∙ out_found old mid begins;
    err = reopened_as.err ∙ err_found old mid begins;
  }

-- ---- why it isn't opened

-- a page that redo can't do with is damaged, or is ahead of the log
page_redone : (log : LogValue) (base end : ℕ) (groups : List Logged) (old new : Folder) (fault : Fault) → HoldsLog (log_files old) base groups end → place log ≡ 8176 * end → OfEdited log groups new fault → OfRedonePage base groups old new fault
page_redone log base end groups old new (PageDamaged f n) holds at edited = edited
page_redone log base end groups old new (LogDamaged f n) holds at (s, is, page, late) =
    (s, is, end, holds, page ∙ ap (λ (p : ℕ). damaged_at (lsn_at_place p)) at, sym (ap (λ (p : ℕ). late_seen (number_at p) (page_of new s.name s.part s.page)) at) ∙ late)
page_redone log base end groups old new fault holds at edited = tt

-- the groups weren't made again
pub of_redo : (tells : Bool) (store : PageStore) (first log : LogValue) (base : ℕ) (groups : List Logged) (last : ℕ) (began old new : State) (fault : Fault) → IsTrue tells → IsOpened first began base groups last → place log ≡ place first
    → OfRedo tells store old new fault → OfEdited log groups new.folder fault → OfGroups base groups began.folder new.folder fault
of_redo tells store first log base groups last began old new fault told opened same redo edited =
    let (end, holds, at) = opened_end first began base groups last opened in
    by fault redo (page_redone log base end groups began.folder new.folder fault holds (same ∙ at) edited)
  where
    by : (f : Fault) → OfRedo tells store old new f → OfRedonePage base groups began.folder new.folder f → OfGroups base groups began.folder new.folder f
    by f (inr (off, damage)) page = absurd (true≢false (sym told ∙ off))
    by (Memory e) (inl why) page = record { late = tt; missing = tt; many = tt; page = page }
    by Disk (inl why) page = record { late = tt; missing = tt; many = tt; page = page }
    by (PageDamaged f n) (inl why) page = record { late = tt; missing = tt; many = tt; page = page }
    by (LogDamaged f n) (inl why) page = record { late = tt; missing = tt; many = tt; page = page }
    by Tell (inl why) page = absurd why.1
    by Input (inl why) page = absurd why.1
    by (LogSpent n) (inl why) page = absurd why.1
    by ControlDamaged (inl why) page = absurd why.1
    by (NotOurs f) (inl why) page = absurd why.1
    by (FileMissing f) (inl why) page = absurd why.1
    by TooManyTables (inl why) page = absurd why.1

-- finding leaves the log's files
log_found : (old new : Folder) → SameBut is_control old new → log_files new ≡ log_files old
log_found old new same = λ i f. same (files.Log f) refl i

pub of_found : (base : ℕ) (groups : List Logged) (old mid new : Folder) → SameBut is_control old mid → (fault : Fault) → OfGroups base groups mid new fault → OfGroups base groups old new fault
of_found base groups old mid new same fault why = record { late = why.late; missing = why.missing; many = why.many; page = by fault why.page }
  where
    by : (f : Fault) → OfRedonePage base groups mid new f → OfRedonePage base groups old new f
    by (PageDamaged f n) page = page
    by (LogDamaged f n) (s, is, end, holds, page, late) = (s, is, end, subst (λ (l : LogFiles). HoldsLog l base groups end) (log_found old mid same) holds, page, late)
    by f page = tt

-- the header of a table, from where the folder was found
pub header_found : (base : ℕ) (groups : List Logged) (old mid : Folder) → SameBut is_control old mid → (fault : Fault) → OfRedoneHeader base groups mid fault → OfRedoneHeader base groups old fault
header_found base groups old mid same = by
  where
    is : (name : List ℕ) → header_of mid groups name ≡ header_of old groups name
    is name = ap (λ (t : Option Table). page_in t Keys 0) (tables_found old mid groups same name)

    by : (f : Fault) → OfRedoneHeader base groups mid f → OfRedoneHeader base groups old f
    by (NotOurs f) (name, told, file_is, other) = (name, told, file_is, subst HasOtherMagic (is name) other)
    by (PageDamaged f n) (name, told, file_is, zero, other) = (name, told, file_is, zero, subst IsNoHeader (is name) other)
    by (LogDamaged f n) (name, told, end, holds, at, late) =
        (name, told, end, subst (λ (l : LogFiles). HoldsLog l base groups end) (log_found old mid same) holds, at, ap (late_seen (number_at (8176 * end))) (sym (is name)) ∙ late)
    by (Memory e) why = absurd why
    by Disk why = absurd why
    by Tell why = absurd why
    by Input why = absurd why
    by (LogSpent n) why = absurd why
    by ControlDamaged why = absurd why
    by (FileMissing f) why = absurd why
    by TooManyTables why = absurd why

-- A FOLDER ISN'T OPENED behind what was found
pub of_own : (checkpoint : Lsn) (base : ℕ) (groups : List Logged) (old mid new : Folder) → Holds old checkpoint base groups → SameBut is_control old mid → (fault : Fault) → OfReopened base groups mid new fault → OfOpen old new fault
of_own checkpoint base groups old mid new own same fault (inl why) = inl (inr (record { checkpoint = checkpoint; base = base; groups = groups; own = own; why = of_found base groups old mid new same fault why }))
of_own checkpoint base groups old mid new own same fault (inr why) = inr (record { checkpoint = checkpoint; base = base; groups = groups; own = own; why = header_found base groups old mid same fault why })

-- ---- headers are looked at, behind the groups

pub reopened_look : (old s t : State) (base : ℕ) (groups : List Logged) (store : PageStore) → Unchanged s t → IsReopened old s base groups store → IsReopened old t base groups store
reopened_look old s t base groups store same is = record {
  pager = pager_look store s t (all_of groups) base old.folder groups (length groups) same is.pager;
  tables = λ name. ap (λ (d : Folder). tables_of d groups name) same.folder ∙ is.tables name;
  out = same.tells.out ∙ is.out;
  err = same.tells.err ∙ is.err;
}

-- a table doesn't begin with a header
pub of_header : (old s t : State) (first : LogValue) (base : ℕ) (groups : List Logged) (last : ℕ) (store : PageStore) (new : Folder) → s.may_leave s.folder → IsOpened first old base groups last → place store.log ≡ place first → records_of store.writer ≡ [] → IsReopened old s base groups store
    → AreToldOf store groups → (fault : Fault) → OfHeaders true store s t fault → OfReopened base groups old.folder new fault
of_header old s t first base groups last store new now opened same empty is told_of fault why =
    let (end, holds, at) = opened_end first old base groups last opened in
    by fault (redone_header store s t base old.folder groups now empty is.pager told_of old.folder is.tables end holds (same ∙ at) why.slot why.name fault why.named why.why)
  where
    disk : OfGroups base groups old.folder new Disk
    disk = record { late = tt; missing = tt; many = tt; page = tt }

    by : (f : Fault) → (f ≡ Disk) ⊎ OfRedoneHeader base groups old.folder f → OfReopened base groups old.folder new f
    by f (inl is_disk) = inl (subst (OfGroups base groups old.folder new) (sym is_disk) disk)
    by f (inr header) = inr header

-- ---- causes

-- a call behind one that met no fault of the disk
pub cause_behind : {T : Type 0} (P Q : Fault → Type 0) (s m t : State) (r : Result T Fault) → ((f : Fault) → P f → Q f) → m.disk_faults ≡ s.disk_faults → m.tell_faults ≡ s.tell_faults → HasCause P m t r → HasCause Q s t r
cause_behind P Q s m t r more disk tell is = record {
  only = if_err_more r P Q more is.only;
  counted = λ e. subst (λ (n : ℕ). Rose n t.disk_faults) disk (is.counted e);
  calm = subst (λ (n : ℕ). OnOk r (t.disk_faults ≡ n)) disk is.calm;
  later = subst (λ (n : ℕ). n ≤ t.disk_faults) disk is.later;
  tell = is.tell ∙ tell;
}

abbrev err_or : {T : Type 0} → Fault → Result T Fault → Fault
err_or d (Ok x) = d
err_or d (Err f) = f

-- a fault that is passed on
pub cause_passed : {T U : Type 0} (P Q : Fault → Type 0) (s t : State) (f y : Fault) (r : Result U Fault) → r ≡ Err y → y ≡ f → ((f : Fault) → P f → Q f) → HasCause {T = T} P s t (Err f) → HasCause {T = U} Q s t r
cause_passed {T} {U} P Q s t f y r r_is y_is more is = subst (λ (q : Result U Fault). HasCause {T = U} Q s t q) (sym (r_is ∙ ap (λ (x : Fault). Err x) y_is)) record {
  only = more f is.only;
  counted = λ e. is.counted (ap (λ (x : Fault). Err x) (ap (λ (q : Result U Fault). err_or f q) e));
  calm = tt;
  later = is.later;
  tell = is.tell;
}

-- a table doesn't begin with a header
pub header_passed : {T : Type 0} (tells : Bool) (store : PageStore) (s m t : State) (r : Result T Fault) → m.disk_faults ≡ s.disk_faults → m.tell_faults ≡ s.tell_faults → HasHeaderCause tells store m t r → HasCause (IsReopenFault tells) s t r
header_passed {T} tells store s m t r disk tell is = record {
  only = only r is.only;
  counted = counted r is.only;
  calm = subst (λ (n : ℕ). OnOk r (t.disk_faults ≡ n)) disk is.calm;
  later = subst (λ (n : ℕ). n ≤ t.disk_faults) disk is.later;
  tell = is.tell ∙ tell;
}
  where
    by : (n : ℕ) (name : List ℕ) (f : Fault) → OfHeader tells store n name m t f → IsReopenFault tells f
    by n name Disk why = inl tt
    by n name (NotOurs f) why = inr (name, why.0)
    by n name (PageDamaged f p) why = inl tt
    by n name (LogDamaged f p) why = inl tt
    by n name (Memory e) why = absurd why
    by n name Tell why = absurd why
    by n name Input why = absurd why
    by n name (LogSpent p) why = absurd why
    by n name ControlDamaged why = absurd why
    by n name (FileMissing f) why = absurd why
    by n name TooManyTables why = absurd why

    only : (q : Result T Fault) → IfErr q (OfHeaders tells store m t) → IfErr q (IsReopenFault tells)
    only (Ok x) why = tt
    only (Err f) why = by why.slot why.name f why.why

    counted : (q : Result T Fault) → IfErr q (OfHeaders tells store m t) → IsErrOf q Disk → Rose s.disk_faults t.disk_faults
    counted (Ok x) why e = absurd (cc)
    counted (Err f) why e = subst (λ (n : ℕ). Rose n t.disk_faults) disk (subst (OfHeader tells store why.slot why.name m t) (ap (λ (q : Result T Fault). err_or f q) e) why.why)

-- A whole command: its store is opened, its script is run, and it ends.
use Rattle.std.proofs.Common.{◌≡◌, inl, inr, ⊎_elim, ℕ, ◌+◌, ◌-◌, ◌^◌, ◌≤◌, min, Bool, true, false, Option, Some, None, List, [], ◌∷◌, ◌++◌, length, take, drop, IsTrue, Result, Ok, Err, refl, sym, ap, subst, ◌∙◌, arith}
use Rattle.std.specs.Prelude.{◌↔◌, ◌⊎◌, IfErr, OnOk, IsSome}
use Rattle.std.proofs.lemmas.List.{append-nil, length-append}
use Rattle.std.proofs.Math.Seq.{take-length, drop-append_seam}
use Rattle.aria_host.specs.Count.{Rose}
use Rattle.aria_host.specs.State.{Folder, State, LeavesOnly}
use Rattle.aria_host.specs.declared.fault.Fault.{Fault}
use Rattle.aria_host.specs.declared.fault.Fault.TheVariants.{Memory, Disk, LogDamaged, NotOurs, Input, Tell, LogSpent, ControlDamaged, PageDamaged, FileMissing, TooManyTables}
use Rattle.aria_host.proofs.Moments.{joined, weakened}
use Rattle.aria_model.specs.World.{World}
use Rattle.aria_journal.specs.Front.{end_of}
use Rattle.aria_journal.specs.Log.{log_pages}
use Rattle.aria_model.specs.declared.refusal.Met.{Met}
use Rattle.aria_model.specs.Journal.{met_at}
use Rattle.aria_model.specs.Script.{Exceptions, lines_of, ended_lines, statements, after, told, told_first, any_refused, acknowledged}
use Rattle.aria_engine.specs.declared.store.Store.{Store}
use Rattle.aria_engine.specs.Entries.{Meets, MeetsFirst}
use Rattle.aria_engine.specs.Holds.{Holds, HoldsSome, EachHolds, EachHoldsSome, AreLogAlone, IsDamage}
use Rattle.aria_engine.specs.Store.{tables_of, pages_of, SameFaults, OpensAs, HasOpenCause}
use Rattle.aria_engine.specs.Done.{Leaves}
use Rattle.aria_engine.proofs.Leaving.{first_all, part_of_first, leaves_none}
use Rattle.aria_engine.proofs.Meeting.{meets_no_first}
use Rattle.aria_tools.specs.declared.stop.Stop.{Stop}
use Rattle.aria_tools.specs.declared.stop.Stop.TheVariants as why
use Rattle.aria_tools.specs.Sessions.{Works}
use Rattle.aria_tools.specs.Statuses.{is_named}
use Rattle.aria_tools.specs.Stops.{named_fault, status_of}
use Rattle.aria_tools.specs.Endings.{Supply, StopsBy, Ends, AnswersAll, AnswersBy, AnswersEnded, AnswersFull, Answered, WasSound, RunsWhole, MeetsDue, MeetsAllDue, Began, Prefix, BeganOrPrefix, IsEnd, IsEndText, IsStatusText, TellsText, TellsErr, status_of_run}
use Rattle.aria_tools.proofs.Pieces.{rose_since, same_faults_more}

-- in the words of the whole run
pub leaves_prefix : (w : World) (lines : List (List ℕ)) (xs : Exceptions) (out : List ℕ) (c : Folder) (told_by : List ℕ) → Leaves w lines xs out c told_by → Prefix w lines xs out c told_by
leaves_prefix w lines xs out c told_by leaves = record {
  count = leaves.count;
  part = leaves.part;
  told_is = leaves.told_is;
  acked = subst (λ (t : List ℕ). acknowledged t ≤ leaves.count) (sym (ap (drop (length out)) leaves.told_is ∙ drop-append_seam out _)) leaves.acked;
  holds = leaves.holds;
}

-- a run's end, also since its store was opened, which counted no fault
pub ends_after : (ti to : Bool) (s0 s1 : Supply) (r : Result Bool Stop) (h h0 h1 : State) → SameFaults h h0 → IfErr r (λ stop. named_fault stop ≡ None) → Ends ti to s0 s1 r h0 h1 → Ends ti to s0 s1 r h h1
ends_after ti to s0 s1 (Ok refused) h h0 h1 same sound ends = record { few = ends.few; ended = ends.ended; calm = ends.calm; same = same_faults_more h h0 h1 same ends.same }
ends_after ti to s0 s1 (Err (why.Fault (Memory error))) h h0 h1 same sound ends = ends
ends_after ti to s0 s1 (Err (why.Fault Disk)) h h0 h1 same sound ends = (ends.0, rose_since h.disk_faults h0.disk_faults h1.disk_faults (2 ^ 64 - 1) same.disk ends.1)
ends_after ti to s0 s1 (Err (why.Fault (LogDamaged file page))) h h0 h1 same sound ends = absurd (cc)
ends_after ti to s0 s1 (Err (why.Fault (NotOurs file))) h h0 h1 same sound ends = absurd (cc)
ends_after ti to s0 s1 (Err (why.Fault Input)) h h0 h1 same sound ends = ends
ends_after ti to s0 s1 (Err (why.Fault Tell)) h h0 h1 same sound ends = (ends.0, rose_since h.tell_faults h0.tell_faults h1.tell_faults (2 ^ 64 - 1) same.tell ends.1)
ends_after ti to s0 s1 (Err why.TooLong) h h0 h1 same sound ends = ends
ends_after ti to s0 s1 (Err (why.Fault (LogSpent file))) h h0 h1 same sound ends = absurd ends
ends_after ti to s0 s1 (Err (why.Fault ControlDamaged)) h h0 h1 same sound ends = absurd ends
ends_after ti to s0 s1 (Err (why.Fault (PageDamaged file page))) h h0 h1 same sound ends = absurd ends
ends_after ti to s0 s1 (Err (why.Fault (FileMissing file))) h h0 h1 same sound ends = absurd ends
ends_after ti to s0 s1 (Err (why.Fault TooManyTables)) h h0 h1 same sound ends = absurd ends

by_after : (stop : Stop) (s0 s1 : Supply) (w : World) (xs : Exceptions) (h h0 h1 : State) → h0.out ≡ h.out → AnswersBy stop s0 s1 w xs h0 h1 → AnswersBy stop s0 s1 w xs h h1
by_after (why.Fault (Memory error)) s0 s1 w xs h h0 h1 same by = tt
by_after (why.Fault Disk) s0 s1 w xs h h0 h1 same by = tt
by_after (why.Fault (LogDamaged file page)) s0 s1 w xs h h0 h1 same by = tt
by_after (why.Fault (NotOurs file)) s0 s1 w xs h h0 h1 same by = tt
by_after (why.Fault Input) s0 s1 w xs h h0 h1 same (taken, is, out) = (taken, is, out ∙ ap (λ (o : List ℕ). o ++ told w (ended_lines taken) xs) same)
by_after (why.Fault Tell) s0 s1 w xs h h0 h1 same by = tt
by_after why.TooLong s0 s1 w xs h h0 h1 same (taken, further, is, long, out) = (taken, further, is, long, out ∙ ap (λ (o : List ℕ). o ++ told w (ended_lines taken) xs) same)
by_after (why.Fault (LogSpent file)) s0 s1 w xs h h0 h1 same by = tt
by_after (why.Fault ControlDamaged) s0 s1 w xs h h0 h1 same by = tt
by_after (why.Fault (PageDamaged file page)) s0 s1 w xs h h0 h1 same by = tt
by_after (why.Fault (FileMissing file)) s0 s1 w xs h h0 h1 same by = tt
by_after (why.Fault TooManyTables) s0 s1 w xs h h0 h1 same by = tt

answered_after : (s0 s1 : Supply) (w : World) (xs : Exceptions) (k : ℕ) (r : Result Bool Stop) (h h0 h1 : State) → h0.out ≡ h.out → Answered s0 s1 w xs k r h0 h1 → Answered s0 s1 w xs k r h h1
answered_after s0 s1 w xs k (Ok refused) h h0 h1 same all = record {
  all = all.all;
  out = all.out ∙ ap (λ (o : List ℕ). o ++ told w (lines_of s0.left) xs) same;
  is_refused = all.is_refused;
  rest = all.rest;
  settled = all.settled;
  holds = all.holds;
}
answered_after s0 s1 w xs k (Err stop) h h0 h1 same part = record {
  out = (part.out.0, part.out.1 ∙ ap (λ (o : List ℕ). o ++ take part.out.0 (told_first w (lines_of s0.left) xs k)) same);
  by = by_after stop s0 s1 w xs h h0 h1 same part.by;
}

-- what a crash leaves as a store is opened, in the words of the whole run
opens_began : (h : State) (w : World) (lines : List (List ℕ)) (xs : Exceptions) (c : Folder) (t : List ℕ) → OpensAs h w c t → Began h c t ⊎ Leaves w lines xs h.out c t
opens_began h w lines xs c t (left, is) = ⊎_elim (λ was. inl (was, is)) (λ holds. inr (leaves_none w lines xs h.out c t is holds)) left

-- a run, also since its store was opened
pub runs_after : (to : Bool) (s0 s1 : Supply) (world : World) (store : Store) (met : List Met) (r : Result Bool Stop) (h h0 h1 : State) → tables_of store ≡ world
    → pages_of store ≡ end_of (log_pages h.folder) → h0.out ≡ h.out → LeavesOnly h h0 (OpensAs h world) → IsTrue to → AreLogAlone h0 → Works to s0 s1 r met store h0 h1 → RunsWhole s0 s1 world met r h h1
runs_after to s0 s1 world store met r h h0 h1 is pages same opens told alone works =
    let opened = tables_of store in
    let xs : Exceptions = met_at met in
    let lines = statements (lines_of s0.left) in
    let runs = works.runs told alone in record {
      count = works.count;
      meets = record {
        within = works.meets.within;
        last = works.meets.last;
        left = works.meets.left;
        meets = subst (λ (w : World). Meets 0 (end_of (log_pages h.folder)) w (take works.count lines) met works.meets.last works.meets.left) is
            (subst (λ (k : ℕ). Meets 0 k opened (take works.count lines) met works.meets.last works.meets.left) pages works.meets.meets);
      };
      pages = works.pages told;
      answered = answered_after s0 s1 world xs works.count r h h0 h1 same (subst (λ (w : World). Answered s0 s1 w xs works.count r h0 h1) is runs.answered);
      moments = joined h h0 h1 (λ c t. Began h c t ⊎ Leaves world (lines_of s0.left) xs h.out c t) (Leaves opened (lines_of s0.left) xs h0.out)
          (weakened h h0 (OpensAs h world) (λ c t. Began h c t ⊎ Leaves world (lines_of s0.left) xs h.out c t) opens (opens_began h world (lines_of s0.left) xs))
          runs.moments
          (λ c t leaves. inr (subst (λ (o : List ℕ). Leaves world (lines_of s0.left) xs o c t) same (subst (λ (w : World). Leaves w (lines_of s0.left) xs h0.out c t) is leaves)));
    }

-- a run that stopped as its store was opened
pub runs_never : (s0 s1 : Supply) (world : World) (met : List Met) (stop : Stop) (h h0 : State) → met ≡ [] → h0.out ≡ h.out → AnswersBy stop s0 s1 world (met_at met) h h0
    → LeavesOnly h h0 (OpensAs h world) → RunsWhole s0 s1 world met (Err stop) h h0
runs_never s0 s1 world met stop h h0 none same by opens = let xs : Exceptions = met_at met in record {
  count = 0;
  meets = subst (λ (ms : List Met). MeetsFirst 0 (end_of (log_pages h.folder)) world (statements (lines_of s0.left)) 0 ms) (sym none)
      (meets_no_first 0 (end_of (log_pages h.folder)) world (statements (lines_of s0.left)));
  pages = tt;
  answered = record { out = (0, same ∙ sym (append-nil h.out)); by = by };
  moments = weakened h h0 (OpensAs h world) (λ c t. Began h c t ⊎ Leaves world (lines_of s0.left) xs h.out c t) opens (opens_began h world (lines_of s0.left) xs);
}

-- a fault of the opening owes no answers
pub opening_answers : (to : Bool) (fault : Fault) (s0 s1 : Supply) (w : World) (xs : Exceptions) (h h0 : State) → HasOpenCause to fault h h0 → AnswersBy (why.Fault fault) s0 s1 w xs h h0
opening_answers to (Memory error) s0 s1 w xs h h0 cause = tt
opening_answers to Disk s0 s1 w xs h h0 cause = tt
opening_answers to Tell s0 s1 w xs h h0 cause = absurd cause
opening_answers to Input s0 s1 w xs h h0 cause = absurd cause
opening_answers to (LogDamaged file page) s0 s1 w xs h h0 cause = tt
opening_answers to (NotOurs file) s0 s1 w xs h h0 cause = tt
opening_answers to (LogSpent file) s0 s1 w xs h h0 cause = tt
opening_answers to ControlDamaged s0 s1 w xs h h0 cause = tt
opening_answers to (PageDamaged file page) s0 s1 w xs h h0 cause = tt
opening_answers to (FileMissing file) s0 s1 w xs h h0 cause = tt
opening_answers to TooManyTables s0 s1 w xs h h0 cause = tt

-- what a crash leaves of a run, in the words of the whole command
pub began_or_prefix : (h : State) (w : World) (lines : List (List ℕ)) (xs : Exceptions) (c : Folder) (t : List ℕ) → Began h c t ⊎ Leaves w lines xs h.out c t → BeganOrPrefix h w lines xs c t
began_or_prefix h w lines xs c t (inl was) = inl was
began_or_prefix h w lines xs c t (inr leaves) = inr (leaves_prefix w lines xs h.out c t leaves)

-- where each folder that a crash might have left as the run began holds some tables, it holds some
pub each_some : (h : State) (w : World) (lines : List (List ℕ)) (xs : Exceptions) → EachHoldsSome h → (c : Folder) (t : List ℕ) → Began h c t ⊎ Leaves w lines xs h.out c t → HoldsSome c
each_some h w lines xs each c t (inl was) = each c was.0
each_some h w lines xs each c t (inr leaves) = (after w lines xs leaves.count, leaves.holds)

-- where each folder that a crash might have left as the run began holds the tables, it is one with them
pub each_prefix : (h : State) (w : World) (lines : List (List ℕ)) (xs : Exceptions) → EachHolds h w → (c : Folder) (t : List ℕ) → Began h c t ⊎ Leaves w lines xs h.out c t → Prefix w lines xs h.out c t
each_prefix h w lines xs each c t (inl was) = leaves_prefix w lines xs h.out c t (leaves_none w lines xs h.out c t was.1 (each c was.0))
each_prefix h w lines xs each c t (inr leaves) = leaves_prefix w lines xs h.out c t leaves

-- what is told on standard error leaves what a crash may leave
pub moments_after : (P : Folder → List ℕ → Type 0) (h h0 h1 : State) → ((c : Folder) → h.moment ≤ h0.moment → h0.may_leave c → h0.since h.moment c h0.out) → LeavesOnly h h0 P → TellsErr h0 h1 → LeavesOnly h h1 P
moments_after P h h0 h1 counts run tells = record {
  later = omega (arith, run.later, tells.later);
  each = λ c t since. ⊎_elim (run.each c t) (now c t) (tells.moments h.moment c t run.later since);
  before = λ u c t low since. ⊎_elim (run.before u c t low) (λ is. inr (now c t is)) (tells.moments u c t (omega (arith, low, run.later)) since);
}
  where
    now : (c : Folder) (t : List ℕ) → h0.may_leave c × (t ≡ h0.out) → P c t
    now c t (leaves, is) = subst (λ (o : List ℕ). P c o) (sym is) (run.each c h0.out (counts c run.later leaves))

ok_of : (r : Result Bool Stop) → status_of_run r ≤ 1 → (refused : Bool) × (r ≡ Ok refused)
ok_of (Ok refused) low = (refused, refl)
ok_of (Err (why.Fault (Memory error))) low = absurd (omega (arith, low))
ok_of (Err (why.Fault Disk)) low = absurd (omega (arith, low))
ok_of (Err (why.Fault (LogDamaged file page))) low = absurd (omega (arith, low))
ok_of (Err (why.Fault (NotOurs file))) low = absurd (omega (arith, low))
ok_of (Err (why.Fault Input)) low = absurd (omega (arith, low))
ok_of (Err (why.Fault Tell)) low = absurd (omega (arith, low))
ok_of (Err why.TooLong) low = absurd (omega (arith, low))
ok_of (Err (why.Fault (LogSpent file))) low = absurd (omega (arith, low))
ok_of (Err (why.Fault ControlDamaged)) low = absurd (omega (arith, low))
ok_of (Err (why.Fault (PageDamaged file page))) low = absurd (omega (arith, low))
ok_of (Err (why.Fault (FileMissing file))) low = absurd (omega (arith, low))
ok_of (Err (why.Fault TooManyTables)) low = absurd (omega (arith, low))

-- the status of a run that has read all
pub ended_ok : (r : Result Bool Stop) (status : ℕ) → IsEnd r status → status ≤ 1 → (refused : Bool) × (r ≡ Ok refused) × (status ≡ status_of_run r)
ended_ok r status end low = ⊎_elim (λ (is : status ≡ status_of_run r). let ok = ok_of r (omega (arith, low, is)) in (ok.0, ok.1, is)) (λ both. absurd (omega (arith, low, both.0))) end

-- what a run that has read all has answered
pub all_answered : (s0 s1 : Supply) (w : World) (met : List Met) (r : Result Bool Stop) (refused : Bool) (h h0 : State) → r ≡ Ok refused → (runs : RunsWhole s0 s1 w met r h h0) → AnswersAll s0 w (met_at met) runs.count refused h h0
all_answered s0 s1 w met r refused h h0 is runs = subst (λ (o : Result Bool Stop). Answered s0 s1 w (met_at met) runs.count o h h0) is runs.answered

one_where : (refused any : Bool) (status : ℕ) → status ≡ status_of_run (Ok refused) → refused ≡ any → (status ≡ 1) ↔ IsTrue any
one_where true true status is same = (λ h. refl, λ h. is)
one_where false false status is same = (λ h. absurd (omega (arith, h, is)), λ h. absurd (cc))
one_where true false status is same = absurd (cc)
one_where false true status is same = absurd (cc)

-- a refusal is told by the status
pub refused_is : (s0 s1 : Supply) (w : World) (met : List Met) (r : Result Bool Stop) (status : ℕ) (h h0 : State) → IsEnd r status → status ≤ 1 → RunsWhole s0 s1 w met r h h0
    → (status ≡ 1) ↔ IsTrue (any_refused w (lines_of s0.left) (met_at met))
refused_is s0 s1 w met r status h h0 end low runs =
    let ok = ended_ok r status end low in
    let all = all_answered s0 s1 w met r ok.0 h h0 ok.1 runs in
    one_where ok.0 (any_refused w (lines_of s0.left) (met_at met)) status (ok.2 ∙ ap status_of_run ok.1) all.is_refused

-- the statuses of an ended run
pub run_statuses : (ti to : Bool) (s0 s1 : Supply) (r : Result Bool Stop) (status : ℕ) (h h0 : State) → Ends ti to s0 s1 r h h0 → IsEnd r status → status ≤ 8
run_statuses ti to s0 s1 r status h h0 ends end = ⊎_elim (λ (is : status ≡ status_of_run r). omega (arith, is, most r ends)) (λ both. omega (arith, both.0)) end
  where
    most : (o : Result Bool Stop) → Ends ti to s0 s1 o h h0 → status_of_run o ≤ 8
    most (Ok true) all = omega arith
    most (Ok false) all = omega arith
    most (Err (why.Fault (Memory error))) stops = omega arith
    most (Err (why.Fault Disk)) stops = omega arith
    most (Err (why.Fault (LogDamaged file page))) stops = omega arith
    most (Err (why.Fault (NotOurs file))) stops = omega arith
    most (Err (why.Fault Input)) stops = omega arith
    most (Err (why.Fault Tell)) stops = omega arith
    most (Err why.TooLong) stops = omega arith
    most (Err (why.Fault (LogSpent file))) stops = absurd stops
    most (Err (why.Fault ControlDamaged)) stops = absurd stops
    most (Err (why.Fault (PageDamaged file page))) stops = absurd stops
    most (Err (why.Fault (FileMissing file))) stops = absurd stops
    most (Err (why.Fault TooManyTables)) stops = absurd stops

stop_six : (r : Result Bool Stop) → status_of_run r ≡ 6 → r ≡ Err (why.Fault Input)
stop_six (Ok true) is = absurd (omega (arith, is))
stop_six (Ok false) is = absurd (omega (arith, is))
stop_six (Err (why.Fault (Memory error))) is = absurd (omega (arith, is))
stop_six (Err (why.Fault Disk)) is = absurd (omega (arith, is))
stop_six (Err (why.Fault (LogDamaged file page))) is = absurd (omega (arith, is))
stop_six (Err (why.Fault (NotOurs file))) is = absurd (omega (arith, is))
stop_six (Err (why.Fault Input)) is = refl
stop_six (Err (why.Fault Tell)) is = absurd (omega (arith, is))
stop_six (Err why.TooLong) is = absurd (omega (arith, is))
stop_six (Err (why.Fault (LogSpent file))) is = absurd (omega (arith, is))
stop_six (Err (why.Fault ControlDamaged)) is = absurd (omega (arith, is))
stop_six (Err (why.Fault (PageDamaged file page))) is = absurd (omega (arith, is))
stop_six (Err (why.Fault (FileMissing file))) is = absurd (omega (arith, is))
stop_six (Err (why.Fault TooManyTables)) is = absurd (omega (arith, is))

stop_eight : (r : Result Bool Stop) → status_of_run r ≡ 8 → r ≡ Err why.TooLong
stop_eight (Ok true) is = absurd (omega (arith, is))
stop_eight (Ok false) is = absurd (omega (arith, is))
stop_eight (Err (why.Fault (Memory error))) is = absurd (omega (arith, is))
stop_eight (Err (why.Fault Disk)) is = absurd (omega (arith, is))
stop_eight (Err (why.Fault (LogDamaged file page))) is = absurd (omega (arith, is))
stop_eight (Err (why.Fault (NotOurs file))) is = absurd (omega (arith, is))
stop_eight (Err (why.Fault Input)) is = absurd (omega (arith, is))
stop_eight (Err (why.Fault Tell)) is = absurd (omega (arith, is))
stop_eight (Err why.TooLong) is = refl
stop_eight (Err (why.Fault (LogSpent file))) is = absurd (omega (arith, is))
stop_eight (Err (why.Fault ControlDamaged)) is = absurd (omega (arith, is))
stop_eight (Err (why.Fault (PageDamaged file page))) is = absurd (omega (arith, is))
stop_eight (Err (why.Fault (FileMissing file))) is = absurd (omega (arith, is))
stop_eight (Err (why.Fault TooManyTables)) is = absurd (omega (arith, is))

-- what a run has answered at a fault of the input
pub ended_answered : (s0 s1 : Supply) (w : World) (met : List Met) (r : Result Bool Stop) (status : ℕ) (h h0 h1 : State) → IsEnd r status → status ≡ 6 → RunsWhole s0 s1 w met r h h0 → h1.out ≡ h0.out → AnswersEnded s0 s1 w (met_at met) h h1
ended_answered s0 s1 w met r status h h0 h1 end six runs same =
    let is = stop_six r (⊎_elim (λ (e : status ≡ status_of_run r). sym e ∙ six) (λ both. absurd (omega (arith, six, both.0))) end) in
    let part = subst (λ (o : Result Bool Stop). Answered s0 s1 w (met_at met) runs.count o h h0) is runs.answered in
    (part.by.0, part.by.1, same ∙ part.by.2)

pub full_answered : (s0 s1 : Supply) (w : World) (met : List Met) (r : Result Bool Stop) (status : ℕ) (h h0 h1 : State) → IsEnd r status → status ≡ 8 → RunsWhole s0 s1 w met r h h0 → h1.out ≡ h0.out → AnswersFull s0 s1 w (met_at met) h h1
full_answered s0 s1 w met r status h h0 h1 end eight runs same =
    let is = stop_eight r (⊎_elim (λ (e : status ≡ status_of_run r). sym e ∙ eight) (λ both. absurd (omega (arith, eight, both.0))) end) in
    let part = subst (λ (o : Result Bool Stop). Answered s0 s1 w (met_at met) runs.count o h h0) is runs.answered in
    (part.by.0, part.by.1, part.by.2, part.by.3, same ∙ part.by.4)

-- a front of what the statements tell that were answered was told
first_told : (s0 s1 : Supply) (w : World) (met : List Met) (r : Result Bool Stop) (h h0 : State) → (runs : RunsWhole s0 s1 w met r h h0)
    → (n : ℕ) × (h0.out ≡ h.out ++ take n (told_first w (lines_of s0.left) (met_at met) runs.count))
first_told s0 s1 w met r h h0 runs = front r runs.answered
  where
    front : (o : Result Bool Stop) → Answered s0 s1 w (met_at met) runs.count o h h0 → (n : ℕ) × (h0.out ≡ h.out ++ take n (told_first w (lines_of s0.left) (met_at met) runs.count))
    front (Ok refused) all =
        let text = told w (lines_of s0.left) (met_at met) in
        let whole : told_first w (lines_of s0.left) (met_at met) runs.count ≡ text = ap (told_first w (lines_of s0.left) (met_at met)) all.all ∙ first_all w (lines_of s0.left) (met_at met) in
        (length text, all.out ∙ ap (λ (t : List ℕ). h.out ++ t) (sym (take-length text) ∙ ap (take (length text)) (sym whole)))
    front (Err stop) part = part.out

-- exactly the statements to which it was due met an exception
pub meets_due : (s0 s1 : Supply) (w : World) (met : List Met) (r : Result Bool Stop) (h h0 h1 : State) → RunsWhole s0 s1 w met r h h0 → h1.out ≡ h0.out → MeetsDue w (lines_of s0.left) met h h1
meets_due s0 s1 w met r h h0 h1 runs same = let first = first_told s0 s1 w met r h h0 runs in record {
  count = runs.count;
  meets = runs.meets;
  told = (first.0, same ∙ first.1);
}

pub meets_all_due : (s0 s1 : Supply) (w : World) (met : List Met) (r : Result Bool Stop) (status : ℕ) (h h0 h1 : State) → IsEnd r status → status ≤ 1 → RunsWhole s0 s1 w met r h h0 → h1.folder ≡ h0.folder
    → MeetsAllDue w (lines_of s0.left) met h h1
meets_all_due s0 s1 w met r status h h0 h1 end low runs same =
    let ok = ended_ok r status end low in
    let all = all_answered s0 s1 w met r ok.0 h h0 ok.1 runs in
    let lines = statements (lines_of s0.left) in
    let whole : take runs.count lines ≡ lines = ap (λ (n : ℕ). take n lines) all.all ∙ take-length lines in
    let pages : runs.meets.last ≡ length (log_pages h0.folder) = subst (λ (o : Result Bool Stop). OnOk o (runs.meets.last ≡ length (log_pages h0.folder))) ok.1 runs.pages in
    let last : runs.meets.last ≡ length (log_pages h1.folder) = pages ∙ ap (λ (f : Folder). length (log_pages f)) (sym same) in (
      runs.meets.left,
      subst (λ (n : ℕ). Meets 0 (end_of (log_pages h.folder)) w lines met n runs.meets.left) last
          (subst (λ (ls : List (List ℕ)). Meets 0 (end_of (log_pages h.folder)) w ls met runs.meets.last runs.meets.left) whole runs.meets.meets),
    )

-- a front of what all lines tell was told
pub front_told : (s0 s1 : Supply) (w : World) (met : List Met) (r : Result Bool Stop) (h h0 : State) → RunsWhole s0 s1 w met r h h0 → (n : ℕ) × (h0.out ≡ h.out ++ take n (told w (lines_of s0.left) (met_at met)))
front_told s0 s1 w met r h h0 runs =
    let first = first_told s0 s1 w met r h h0 runs in
    let part = part_of_first w (lines_of s0.left) (met_at met) runs.count first.0 in
    (part.0, first.1 ∙ ap (λ (t : List ℕ). h.out ++ t) part.1)

-- where a run stops at a fault that its line names, the folder is damaged
damage_found : (to : Bool) (s0 s1 : Supply) (fault : Fault) (h h0 : State) → IsTrue (is_named fault) → StopsBy to (why.Fault fault) s0 s1 h h0 → IsTrue to → (status_of (why.Fault fault) ≡ 5) × IsDamage fault h.folder
damage_found to s0 s1 (Memory error) h h0 named stops told = absurd (cc)
damage_found to s0 s1 Disk h h0 named stops told = absurd (cc)
damage_found to s0 s1 Tell h h0 named stops told = absurd (cc)
damage_found to s0 s1 Input h h0 named stops told = absurd (cc)
damage_found to s0 s1 (LogDamaged file page) h h0 named stops told = (refl, (stops.1 told).0)
damage_found to s0 s1 (LogSpent file) h h0 named stops told = absurd stops
damage_found to s0 s1 ControlDamaged h h0 named stops told = absurd stops
damage_found to s0 s1 (NotOurs file) h h0 named stops told = (refl, (stops.1 told).0)
damage_found to s0 s1 (PageDamaged file page) h h0 named stops told = absurd stops
damage_found to s0 s1 (FileMissing file) h h0 named stops told = absurd stops
damage_found to s0 s1 TooManyTables h h0 named stops told = absurd stops

-- the text of a run's end is that of its status
pub text_is : (ti to : Bool) (s0 s1 : Supply) (r : Result Bool Stop) (status : ℕ) (text : List ℕ) (h h0 : State) → Ends ti to s0 s1 r h h0 → IsTrue to → IsEndText r status text → IsStatusText status h.folder text
text_is ti to s0 s1 r status text h h0 ends told (inl plain) = inl (λ five. plain.0 (inl five), plain.1)
text_is ti to s0 s1 r status text h h0 ends told (inr (fault, r_is, named, is_status, is)) =
    let found = damage_found to s0 s1 fault h h0 named (subst (λ (o : Result Bool Stop). Ends ti to s0 s1 o h h0) r_is ends) told in
    inr (is_status ∙ found.0, fault, found.1, is)

-- what is told on standard error at the end, as told since the beginning
pub text_after : (text : List ℕ) (h h0 h1 : State) → h0.err ≡ h.err → h.tell_faults ≤ h0.tell_faults → TellsText text h0 h1 → TellsText text h h1
text_after text h h0 h1 same later (inl is) = inl (is ∙ ap (λ (e : List ℕ). e ++ text) same)
text_after text h h0 h1 same later (inr (rose, n, is)) = inr (rose_later h.tell_faults h0.tell_faults h1.tell_faults (2 ^ 64 - 1) later rose, n, is ∙ ap (λ (e : List ℕ). e ++ take n text) same)
  where
    rose_later : (a b c m : ℕ) → a ≤ b → min (b + 1) m ≤ c → min (a + 1) m ≤ c
    rose_later a b c m low rose = omega arith

-- a folder that holds tables has no damage
pub no_damage : (fault : Fault) (folder : Folder) (w : World) → IsDamage fault folder → Holds folder w → ⊥
no_damage (NotOurs file) folder w damage holds = none_there (folder file) damage.there (holds.alone file damage.form damage.other)
  where
    none_there : (content : Option (List (List ℕ))) → IsSome content → content ≡ None → ⊥
    none_there None there none = cc
    none_there (Some pages) there none = cc
no_damage (LogDamaged file page) folder w (one, alone, inl pages) holds = let none = holds.sound in cc
no_damage (LogDamaged file page) folder w (one, alone, inr line) holds = let none = holds.changes in let some = line.line in cc
no_damage (Memory error) folder w damage holds = absurd damage
no_damage Disk folder w damage holds = absurd damage
no_damage Tell folder w damage holds = absurd damage
no_damage Input folder w damage holds = absurd damage
no_damage (LogSpent file) folder w damage holds = absurd damage
no_damage ControlDamaged folder w damage holds = absurd damage
no_damage (PageDamaged file page) folder w damage holds = absurd damage
no_damage (FileMissing file) folder w damage holds = absurd damage
no_damage TooManyTables folder w damage holds = absurd damage

-- no fault is counted, so none is answered
pub completes : (to : Bool) (ti : Bool) (s0 s1 : Supply) (w : World) (met : List Met) (r : Result Bool Stop) (status : ℕ) (h h0 h1 : State) → IsTrue to → Holds h.folder w
    → Ends ti to s0 s1 r h h0 → RunsWhole s0 s1 w met r h h0 → IsEnd r status → length s0.left ≤ 2 ^ 40
    → (Rose h.disk_faults h1.disk_faults → ⊥) → (Rose h.tell_faults h1.tell_faults → ⊥) → (Rose s0.faults s1.faults → ⊥)
    → h0.disk_faults ≤ h1.disk_faults → h0.tell_faults ≤ h1.tell_faults → (status ≤ 1) ⊎ (status ≡ 3)
completes to ti s0 s1 w met r status h h0 h1 told holds ends runs end short disk tell input disk_later tell_later =
    ⊎_elim (λ (is : status ≡ status_of_run r). subst (λ (n : ℕ). (n ≤ 1) ⊎ (n ≡ 3)) (sym is) (of r ends runs.answered)) (λ both. inr both.0) end
  where
    rose_on : (a b c m : ℕ) → min (a + 1) m ≤ b → b ≤ c → min (a + 1) m ≤ c
    rose_on a b c m rose later = omega arith

    of : (o : Result Bool Stop) → Ends ti to s0 s1 o h h0 → Answered s0 s1 w (met_at met) runs.count o h h0 → (status_of_run o ≤ 1) ⊎ (status_of_run o ≡ 3)
    of (Ok true) all answered = inl (omega arith)
    of (Ok false) all answered = inl (omega arith)
    of (Err (why.Fault (Memory error))) stops answered = inr refl
    of (Err (why.Fault Disk)) stops answered = absurd (disk (rose_on h.disk_faults h0.disk_faults h1.disk_faults (2 ^ 64 - 1) stops.1 disk_later))
    of (Err (why.Fault (LogDamaged file page))) stops answered = absurd (no_damage (LogDamaged file page) h.folder w (stops.1 told).0 holds)
    of (Err (why.Fault (NotOurs file))) stops answered = absurd (no_damage (NotOurs file) h.folder w (stops.1 told).0 holds)
    of (Err (why.Fault Input)) stops answered = absurd (input stops.1)
    of (Err (why.Fault Tell)) stops answered = absurd (tell (rose_on h.tell_faults h0.tell_faults h1.tell_faults (2 ^ 64 - 1) stops.1 tell_later))
    of (Err why.TooLong) stops answered =
        let by = answered.by in
        let long : length s0.left ≡ length by.0 + length (by.1 ∷ s1.left) = ap length by.2 ∙ length-append by.0 (by.1 ∷ s1.left) in
        absurd (omega (arith, long, by.3, short))
    of (Err (why.Fault (LogSpent file))) stops answered = absurd stops
    of (Err (why.Fault ControlDamaged)) stops answered = absurd stops
    of (Err (why.Fault (PageDamaged file page))) stops answered = absurd stops
    of (Err (why.Fault (FileMissing file))) stops answered = absurd stops
    of (Err (why.Fault TooManyTables)) stops answered = absurd stops

-- a store is opened of a folder that holds tables
pub was_sound : (r : Result Bool Stop) (folder : Folder) (w : World) → Holds folder w → WasSound r folder
was_sound (Ok refused) folder w holds = (w, holds)
was_sound (Err (why.Fault (Memory error))) folder w holds = tt
was_sound (Err (why.Fault Disk)) folder w holds = tt
was_sound (Err (why.Fault (LogDamaged file page))) folder w holds = tt
was_sound (Err (why.Fault (NotOurs file))) folder w holds = tt
was_sound (Err (why.Fault Input)) folder w holds = (w, holds)
was_sound (Err (why.Fault Tell)) folder w holds = (w, holds)
was_sound (Err why.TooLong) folder w holds = (w, holds)
was_sound (Err (why.Fault (LogSpent file))) folder w holds = (w, holds)
was_sound (Err (why.Fault ControlDamaged)) folder w holds = (w, holds)
was_sound (Err (why.Fault (PageDamaged file page))) folder w holds = (w, holds)
was_sound (Err (why.Fault (FileMissing file))) folder w holds = (w, holds)
was_sound (Err (why.Fault TooManyTables)) folder w holds = (w, holds)

-- with these statuses it was
pub sound_where : (r : Result Bool Stop) (folder : Folder) (status : ℕ) → WasSound r folder → IsEnd r status → (status ≤ 1) ⊎ (6 ≤ status) → (world : World) × Holds folder world
sound_where r folder status sound end which =
    ⊎_elim (λ (is : status ≡ status_of_run r). of r sound (subst (λ (n : ℕ). (n ≤ 1) ⊎ (6 ≤ n)) is which))
    (λ both. absurd (⊎_elim (λ low. omega (arith, low, both.0)) (λ high. omega (arith, high, both.0)) which)) end
  where
    of : (o : Result Bool Stop) → WasSound o folder → (status_of_run o ≤ 1) ⊎ (6 ≤ status_of_run o) → (world : World) × Holds folder world
    of (Ok refused) held some = held
    of (Err (why.Fault (Memory error))) held some = absurd (⊎_elim (λ low. omega (arith, low)) (λ high. omega (arith, high)) some)
    of (Err (why.Fault Disk)) held some = absurd (⊎_elim (λ low. omega (arith, low)) (λ high. omega (arith, high)) some)
    of (Err (why.Fault (LogDamaged file page))) held some = absurd (⊎_elim (λ low. omega (arith, low)) (λ high. omega (arith, high)) some)
    of (Err (why.Fault (NotOurs file))) held some = absurd (⊎_elim (λ low. omega (arith, low)) (λ high. omega (arith, high)) some)
    of (Err (why.Fault Input)) held some = held
    of (Err (why.Fault Tell)) held some = held
    of (Err why.TooLong) held some = held
    of (Err (why.Fault (LogSpent file))) held some = held
    of (Err (why.Fault ControlDamaged)) held some = absurd (⊎_elim (λ low. omega (arith, low)) (λ high. omega (arith, high)) some)
    of (Err (why.Fault (PageDamaged file page))) held some = absurd (⊎_elim (λ low. omega (arith, low)) (λ high. omega (arith, high)) some)
    of (Err (why.Fault (FileMissing file))) held some = absurd (⊎_elim (λ low. omega (arith, low)) (λ high. omega (arith, high)) some)
    of (Err (why.Fault TooManyTables)) held some = held

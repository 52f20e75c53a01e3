-- The telling of a log, and how the command ends that tells it.
use Rattle.std.proofs.Common.{◌≡◌, inl, inr, ⊎_elim, ℕ, ◌+◌, ◌-◌, ◌^◌, ◌≤◌, min, Bool, List, ◌++◌, IsTrue, Result, Ok, Err, refl, sym, ap, subst, ◌∙◌, arith}
use Rattle.std.specs.Prelude.{◌⊎◌, IfErr, OnOk, is_ok}
use Rattle.aria_host.specs.Count.{Rose}
use Rattle.aria_host.specs.State.{Folder, State, LeavesOnly}
use Rattle.aria_host.specs.declared.fault.Fault.{Fault}
use Rattle.aria_host.specs.declared.fault.Fault.TheVariants.{Memory, Disk, LogDamaged, NotOurs, Input, Tell, LogSpent, ControlDamaged, PageDamaged, FileMissing, TooManyTables}
use Rattle.aria_host.proofs.Moments.{weakened}
use Rattle.aria_engine.specs.Holds.{HoldsSome, EachHoldsSome}
use Rattle.aria_engine.specs.Store.{SameFaults}
use Rattle.aria_readlog.specs.Telling.{HasCause, Shows}
use Rattle.aria_readlog.specs.Display.{Agree, Answers, AtDisplay, Fails, IsDamaged, IsDisplayFault, Keeps}
use Rattle.aria_tools.specs.declared.stop.Stop.{Stop}
use Rattle.aria_tools.specs.declared.stop.Stop.TheVariants as why
use Rattle.aria_tools.specs.Statuses.{is_named}
use Rattle.aria_tools.specs.Stops.{status_of}
use Rattle.aria_tools.specs.Endings.{BeganButLog, IsEnd, IsEndText, LeavesOtherFiles, TellsErr, status_of_run}
use Rattle.aria_tools.specs.LogEndings.{IsLogStatus, IsLogText, OnlyTells, as_run, whole_log}
use Rattle.aria_tools.proofs.Commands.{ended_ok, moments_after}
use Rattle.aria_tools.proofs.Others.{ended_five}

pub log_statuses : (r : Result (Unit {0}) Fault) (status : ℕ) → IfErr r IsDisplayFault → IsEnd (as_run r) status → IsLogStatus status
log_statuses r status only end = ⊎_elim (λ (is : status ≡ status_of_run (as_run r)). subst (λ (n : ℕ). IsLogStatus n) (sym is) (of r only)) (λ both. inr (inl both.0)) end
  where
    of : (o : Result (Unit {0}) Fault) → IfErr o IsDisplayFault → IsLogStatus (status_of_run (as_run o))
    of (Ok done) is = inl refl
    of (Err (Memory error)) is = inr (inl refl)
    of (Err Disk) is = inr (inr (inl refl))
    of (Err Tell) is = inr (inr (inr (inr refl)))
    of (Err Input) is = absurd is
    of (Err (LogDamaged file page)) is = inr (inr (inr (inl refl)))
    of (Err (LogSpent file)) is = absurd is
    of (Err ControlDamaged) is = inr (inr (inr (inl refl)))
    of (Err (NotOurs file)) is = inr (inr (inr (inl refl)))
    of (Err (PageDamaged file page)) is = absurd is
    of (Err (FileMissing file)) is = inr (inr (inr (inl refl)))
    of (Err TooManyTables) is = absurd is

-- status 0 comes with Ok alone
pub log_ok : (r : Result (Unit {0}) Fault) (status : ℕ) → IsEnd (as_run r) status → status ≡ 0 → (done : Unit {0}) × (r ≡ Ok done)
log_ok (Ok done) status end zero = (done, refl)
log_ok (Err fault) status end zero = let ok = ended_ok (Err (why.Fault fault)) status end (omega (arith, zero)) in let is = ok.1 in absurd (cc)

-- status 5 comes with none of the faults of the disk, of memory and of a stream
not_failed : (r : Result (Unit {0}) Fault) (status : ℕ) → IsEnd (as_run r) status → status ≡ 5 → Fails r → ⊥
not_failed r status end five = of r (ended_five (as_run r) status end five)
  where
    of : (o : Result (Unit {0}) Fault) → status_of_run (as_run o) ≡ 5 → Fails o → ⊥
    of (Ok done) is fails = fails
    of (Err (Memory error)) is fails = omega (arith, is)
    of (Err Disk) is fails = omega (arith, is)
    of (Err Tell) is fails = omega (arith, is)
    of (Err Input) is fails = fails
    of (Err (LogDamaged file page)) is fails = fails
    of (Err (LogSpent file)) is fails = fails
    of (Err ControlDamaged) is fails = fails
    of (Err (NotOurs file)) is fails = fails
    of (Err (PageDamaged file page)) is fails = fails
    of (Err (FileMissing file)) is fails = fails
    of (Err TooManyTables) is fails = fails

-- what is answered with status 0
pub zero_answers : (r : Result (Unit {0}) Fault) (status : ℕ) (folder : Folder) → IsEnd (as_run r) status → status ≡ 0 → Fails r ⊎ Answers r folder → Answers (Ok tt) folder
zero_answers r status folder end zero answer =
    let ok = log_ok r status end zero in
    ⊎_elim (λ fails. absurd (subst (λ (o : Result (Unit {0}) Fault). Fails o) ok.1 fails)) (λ is. subst (λ (o : Result (Unit {0}) Fault). Answers o folder) ok.1 is) answer

-- what is so of Ok is so with status 0
pub zero_of : {P : Type 0} (r : Result (Unit {0}) Fault) (status : ℕ) → IsEnd (as_run r) status → status ≡ 0 → OnOk r P → P
zero_of {P} r status end zero on = subst (λ (o : Result (Unit {0}) Fault). OnOk o P) (log_ok r status end zero).1 on

pub log_whole : (r : Result (Unit {0}) Fault) (status : ℕ) → IsEnd (as_run r) status → status ≡ 0 → (text : List ℕ) (h h0 : State) → Shows text h h0 (is_ok r) → h0.out ≡ h.out ++ text
log_whole r status end zero text h h0 shows = shows.whole (ap is_ok (log_ok r status end zero).1)

pub zero_calm : (r : Result (Unit {0}) Fault) (status : ℕ) (h h0 h1 : State) → IsEnd (as_run r) status → status ≡ 0 → HasCause IsDisplayFault h h0 r → h1 ≡ h0 → SameFaults h h1
zero_calm r status h h0 h1 end zero cause same = subst (λ (s : State). SameFaults h s) (sym same) (record {
  disk = zero_of r status end zero cause.calm;
  tell = zero_of r status end zero cause.calm_too;
})

-- a fault that stands in the folder is no status 0
pub fault_no_zero : (r : Result (Unit {0}) Fault) (status : ℕ) (fault : Fault) → IsEnd (as_run r) status → Fails r ⊎ Agree (Err fault) r → status ≡ 0 → ⊥
fault_no_zero r status fault end answer zero =
    let ok = log_ok r status end zero in
    of (subst (λ (o : Result (Unit {0}) Fault). Fails o ⊎ Agree (Err fault) o) ok.1 answer)
  where
    of : {done : Unit {0}} → Fails (Ok done) ⊎ Agree (Err fault) (Ok done) → ⊥
    of (inl fails) = fails
    of (inr (inl is)) = cc
    of (inr (inr both)) = both.1

-- a sound folder is no status 5
pub sound_no_five : (r : Result (Unit {0}) Fault) (status : ℕ) → IsEnd (as_run r) status → Fails r ⊎ Agree (Ok tt) r → status ≡ 5 → ⊥
sound_no_five r status end answer five = of (ended_five (as_run r) status end five) answer
  where
    of : status_of_run (as_run r) ≡ 5 → Fails r ⊎ Agree (Ok tt) r → ⊥
    of is (inl fails) = not_failed r status end five fails
    of is (inr (inl same)) = let zero : 0 ≡ 5 = subst (λ (o : Result (Unit {0}) Fault). status_of_run (as_run o) ≡ 5) (sym same) is in omega (arith, zero)
    of is (inr (inr both)) = both.0

-- where the log is damaged, status 5 says so
pub five_damaged : (r : Result (Unit {0}) Fault) (status file page : ℕ) → IsEnd (as_run r) status → status ≡ 5 → Fails r ⊎ Agree (Err (LogDamaged file page)) r → IsDamaged r
five_damaged r status file page end five (inl fails) = absurd (not_failed r status end five fails)
five_damaged r status file page end five (inr (inl is)) = subst (λ (o : Result (Unit {0}) Fault). IsDamaged o) is tt
five_damaged r status file page end five (inr (inr both)) = both.1

-- what one call counted stays counted
rose_on : (a b c m : ℕ) → min (a + 1) m ≤ b → b ≤ c → min (a + 1) m ≤ c
rose_on a b c m rose later = omega arith

pub log_disk : (r : Result (Unit {0}) Fault) (status : ℕ) (h h0 h1 : State) → HasCause IsDisplayFault h h0 r → IsEnd (as_run r) status → h0.disk_faults ≤ h1.disk_faults → status ≡ 4 → Rose h.disk_faults h1.disk_faults
log_disk r status h h0 h1 cause end later four =
    rose_on h.disk_faults h0.disk_faults h1.disk_faults (2 ^ 64 - 1) (cause.disk (of r (⊎_elim (λ (e : status ≡ status_of_run (as_run r)). sym e ∙ four) (λ both. absurd (omega (arith, four, both.0))) end))) later
  where
    of : (o : Result (Unit {0}) Fault) → status_of_run (as_run o) ≡ 4 → o ≡ Err Disk
    of (Ok done) is = absurd (omega (arith, is))
    of (Err (Memory error)) is = absurd (omega (arith, is))
    of (Err Disk) is = refl
    of (Err Tell) is = absurd (omega (arith, is))
    of (Err Input) is = absurd (omega (arith, is))
    of (Err (LogDamaged file page)) is = absurd (omega (arith, is))
    of (Err (LogSpent file)) is = absurd (omega (arith, is))
    of (Err ControlDamaged) is = absurd (omega (arith, is))
    of (Err (NotOurs file)) is = absurd (omega (arith, is))
    of (Err (PageDamaged file page)) is = absurd (omega (arith, is))
    of (Err (FileMissing file)) is = absurd (omega (arith, is))
    of (Err TooManyTables) is = absurd (omega (arith, is))

pub log_tell : (r : Result (Unit {0}) Fault) (status : ℕ) (h h0 h1 : State) → HasCause IsDisplayFault h h0 r → IsEnd (as_run r) status → h0.tell_faults ≤ h1.tell_faults → status ≡ 7 → Rose h.tell_faults h1.tell_faults
log_tell r status h h0 h1 cause end later seven =
    rose_on h.tell_faults h0.tell_faults h1.tell_faults (2 ^ 64 - 1) (cause.tell (of r (⊎_elim (λ (e : status ≡ status_of_run (as_run r)). sym e ∙ seven) (λ both. absurd (omega (arith, seven, both.0))) end))) later
  where
    of : (o : Result (Unit {0}) Fault) → status_of_run (as_run o) ≡ 7 → o ≡ Err Tell
    of (Ok done) is = absurd (omega (arith, is))
    of (Err (Memory error)) is = absurd (omega (arith, is))
    of (Err Disk) is = absurd (omega (arith, is))
    of (Err Tell) is = refl
    of (Err Input) is = absurd (omega (arith, is))
    of (Err (LogDamaged file page)) is = absurd (omega (arith, is))
    of (Err (LogSpent file)) is = absurd (omega (arith, is))
    of (Err ControlDamaged) is = absurd (omega (arith, is))
    of (Err (NotOurs file)) is = absurd (omega (arith, is))
    of (Err (PageDamaged file page)) is = absurd (omega (arith, is))
    of (Err (FileMissing file)) is = absurd (omega (arith, is))
    of (Err TooManyTables) is = absurd (omega (arith, is))

-- no fault is counted, so only the folder or want of memory is answered
pub log_completes : (r : Result (Unit {0}) Fault) (status : ℕ) (h h0 h1 : State) → HasCause IsDisplayFault h h0 r → IsEnd (as_run r) status → h0.disk_faults ≤ h1.disk_faults → h0.tell_faults ≤ h1.tell_faults
    → (Rose h.disk_faults h1.disk_faults → ⊥) → (Rose h.tell_faults h1.tell_faults → ⊥) → (status ≡ 0) ⊎ ((status ≡ 5) ⊎ (status ≡ 3))
log_completes r status h h0 h1 cause end disk_later tell_later disk tell =
    of (log_statuses r status cause.only end)
  where
    of : IsLogStatus status → (status ≡ 0) ⊎ ((status ≡ 5) ⊎ (status ≡ 3))
    of (inl is) = inl is
    of (inr (inl is)) = inr (inr is)
    of (inr (inr (inl is))) = absurd (disk (log_disk r status h h0 h1 cause end disk_later is))
    of (inr (inr (inr (inl is)))) = inr (inl is)
    of (inr (inr (inr (inr is)))) = absurd (tell (log_tell r status h h0 h1 cause end tell_later is))

-- a fault that its line names stands in the folder
named_stands : (fault : Fault) (folder : Folder) → IsTrue (is_named fault) → Fails {T = Unit {0}} (Err fault) ⊎ Answers (Err fault) folder → (status_of (why.Fault fault) ≡ 5) × Answers (Err fault) folder
named_stands (Memory error) folder named answer = absurd (cc)
named_stands Disk folder named answer = absurd (cc)
named_stands Tell folder named answer = absurd (cc)
named_stands Input folder named answer = absurd (cc)
named_stands (LogDamaged file page) folder named answer = (refl, ⊎_elim (λ fails. absurd fails) (λ is. is) answer)
named_stands (LogSpent file) folder named answer = absurd (⊎_elim (λ fails. fails) (λ is. is) answer)
named_stands ControlDamaged folder named answer = (refl, ⊎_elim (λ fails. absurd fails) (λ is. is) answer)
named_stands (NotOurs file) folder named answer = (refl, ⊎_elim (λ fails. absurd fails) (λ is. is) answer)
named_stands (PageDamaged file page) folder named answer = absurd (⊎_elim (λ fails. fails) (λ is. is) answer)
named_stands (FileMissing file) folder named answer = (refl, ⊎_elim (λ fails. absurd fails) (λ is. is) answer)
named_stands TooManyTables folder named answer = absurd (cc)

same_fault : (r : Result (Unit {0}) Fault) (fault : Fault) → as_run r ≡ Err (why.Fault fault) → r ≡ Err fault
same_fault (Ok done) fault is = absurd (cc)
same_fault (Err other) fault is = cc

-- the text of the end is that of its status
pub log_text : (r : Result (Unit {0}) Fault) (status : ℕ) (text : List ℕ) (folder : Folder) → Fails r ⊎ Answers r folder → IsEndText (as_run r) status text → IsLogText status folder text
log_text r status text folder answer (inl plain) = inl (λ five. plain.0 (inl five), plain.1)
log_text r status text folder answer (inr (fault, is, named, is_status, text_is)) =
    let stands = named_stands fault folder named (subst (λ (o : Result (Unit {0}) Fault). Fails o ⊎ Answers o folder) (same_fault r fault is) answer) in
    inr (is_status ∙ stands.0, fault, stands.1, text_is)

-- the log is told, and then a line on standard error
pub log_kept : (silent : Bool) (h h0 h1 : State) → ((c : Folder) → h.moment ≤ h0.moment → h0.may_leave c → h0.since h.moment c h0.out)
    → Keeps h h0 → LeavesOnly h h0 (AtDisplay h (whole_log silent)) → TellsErr h0 h1 → OnlyTells silent h h1
log_kept silent h h0 h1 counts keeps moments tells = record {
  folder = tells.folder ∙ keeps.folder;
  images = λ c leaves. keeps.images c (tells.images.no_more c leaves);
  moments = moments_after (AtDisplay h (whole_log silent)) h h0 h1 counts moments tells;
}

-- so no file is changed
pub log_others : (silent : Bool) (h h1 : State) → OnlyTells silent h h1 → LeavesOtherFiles h h1
log_others silent h h1 only = record {
  folder = λ f form other. ap (λ (g : Folder). g f) only.folder;
  images = λ c leaves. (c, only.images c leaves, λ f form other. refl);
  moments = weakened h h1 (AtDisplay h (whole_log silent)) (λ c told. BeganButLog h c) only.moments (λ c told at. (c, at.0, λ f form other. refl));
}

-- and where each image held some tables, each does
pub log_held : (silent : Bool) (h h1 : State) → EachHoldsSome h → OnlyTells silent h h1 → LeavesOnly h h1 (λ c told. HoldsSome c)
log_held silent h h1 each only = weakened h h1 (AtDisplay h (whole_log silent)) (λ c told. HoldsSome c) only.moments (λ c told at. each c at.0)

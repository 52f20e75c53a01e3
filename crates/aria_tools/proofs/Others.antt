-- That files other than the log's stay as they are, and that nothing is changed at a damage or at bad words.
use Rattle.std.proofs.Common.{◌≡◌, ⊎_elim, ℕ, zero, suc, ◌≤◌, Bool, false, true, None, List, [], ◌++◌, take, IsTrue, Result, Ok, Err, refl, sym, ap, ◌∙◌, arith}
use Rattle.std.specs.Prelude.{IfErr}
use Rattle.std.proofs.lemmas.List.{append-nil}
use Rattle.aria_host.specs.Folder.{Folder}
use Rattle.aria_host.specs.State.{State, LeavesOnly, Elapses}
use Rattle.aria_host.specs.Calls.{Narrows}
use Rattle.aria_host.proofs.Moments.{OnlyNow, started, goes_on, joined, weakened}
use Rattle.aria_journal.specs.Log.{AtLog}
use Rattle.aria_engine.specs.Holds.{IsLogAlone, AreLogAlone}
use Rattle.aria_engine.specs.Opening.{ChangesLogAlone}
use Rattle.aria_tools.specs.declared.stop.Stop.{Stop}
use Rattle.aria_host.specs.declared.fault.Fault.TheVariants.{Memory, Disk, LogDamaged, NotOurs, Input, Tell, LogSpent, ControlDamaged, PageDamaged, FileMissing, TooManyTables}
use Rattle.aria_tools.specs.declared.stop.Stop.TheVariants as why
use Rattle.aria_tools.specs.Stops.{named_fault}
use Rattle.aria_tools.specs.Endings.{Supply, Ends, Began, BeganButLog, ChangesNothing, LeavesOtherFiles, TellsErr, IsEnd, status_of_run}
use Rattle.aria_tools.proofs.Commands.{moments_after}

-- a store was opened, or wasn't
pub opened_others : (h h0 : State) → ChangesLogAlone h h0 → LeavesOtherFiles h h0
opened_others h h0 changes = record {
  folder = λ f form other. changes.others.folder f other;
  images = λ c leaves. let (d, was, same) = changes.others.images c leaves in (d, was, λ f form other. same f other);
  moments = weakened h h0 (AtLog h (λ content. Unit {0})) (λ c told. BeganButLog h c) changes.moments
      (λ c told at. let (d, was, same) = at.others in (d, was, λ f form other. same f other));
}

-- a run on a store that was opened
pub run_others : (h h0 h1 : State) → h0.may_leave h0.folder → h1.may_leave h1.folder → ((c : Folder) → h0.moment ≤ h1.moment → h1.may_leave c → h1.since h0.moment c h1.out)
    → ChangesLogAlone h h0 → AreLogAlone h0 → LeavesOnly h0 h1 (λ c told. IsLogAlone c) → LeavesOtherFiles h h1
run_others h h0 h1 reads reads_now counts changes alone run = record {
  folder = λ f form other.
      run.each h1.folder h1.out (counts h1.folder run.later reads_now) f form other ∙ sym (alone h0.folder reads f form other) ∙ changes.others.folder f other;
  images = λ c leaves. began c (run.each c h1.out (counts c run.later leaves));
  moments = joined h h0 h1 (λ c told. BeganButLog h c) (λ c told. IsLogAlone c) (opened_others h h0 changes).moments run (λ c told is. began c is);
}
  where
    began : (c : Folder) → IsLogAlone c → BeganButLog h c
    began c is =
        let (d, was, same) = changes.others.images h0.folder reads in
        (d, was, λ f form other. is f form other ∙ sym (alone h0.folder reads f form other) ∙ same f other)

-- what is told on standard error changes no file
pub others_after : (h h0 h1 : State) → ((c : Folder) → h.moment ≤ h0.moment → h0.may_leave c → h0.since h.moment c h0.out) → LeavesOtherFiles h h0 → TellsErr h0 h1 → LeavesOtherFiles h h1
others_after h h0 h1 counts leaves_others tells = record {
  folder = λ f form other. ap (λ (g : Folder). g f) tells.folder ∙ leaves_others.folder f form other;
  images = λ c leaves. leaves_others.images c (tells.images.no_more c leaves);
  moments = moments_after (λ c told. BeganButLog h c) h h0 h1 counts leaves_others.moments tells;
}

nothing_of : (n : ℕ) → take {A = ℕ} n [] ≡ []
nothing_of zero = refl
nothing_of (suc n) = refl

-- a call after which a crash leaves what one might have left before
began_still : (h h0 : State) → OnlyNow h → Elapses h h0 [] → ((c : Folder) → h0.may_leave c → h.may_leave c) → LeavesOnly h h0 (Began h)
began_still h h0 only time no_more =
    goes_on h h h0 [] (Began h) (started h (Began h) (λ c told left. only c told left)) time
    (λ c n leaves. (no_more c leaves, ap (λ (l : List ℕ). h.out ++ l) (nothing_of n) ∙ append-nil h.out))

-- only a line on standard error is told
pub told_nothing : (h h1 : State) → OnlyNow h → ((c : Folder) → h.moment ≤ h.moment → h.may_leave c → h.since h.moment c h.out) → TellsErr h h1 → ChangesNothing h h1
told_nothing h h1 only counts tells = record {
  folder = tells.folder;
  images = tells.images.no_more;
  moments = moments_after (Began h) h h h1 counts (started h (Began h) (λ c told left. only c told left)) tells;
}

-- and so no file is changed
pub nothing_others : (h h1 : State) → ChangesNothing h h1 → LeavesOtherFiles h h1
nothing_others h h1 nothing = record {
  folder = λ f form other. ap (λ (g : Folder). g f) nothing.folder;
  images = λ c leaves. (c, nothing.images c leaves, λ f form other. refl);
  moments = weakened h h1 (Began h) (λ c told. BeganButLog h c) nothing.moments (λ c told began. (c, began.0, λ f form other. refl));
}

-- a damage was found, and its line is told
pub damage_nothing : (h h0 h1 : State) → OnlyNow h → ((c : Folder) → h.moment ≤ h0.moment → h0.may_leave c → h0.since h.moment c h0.out) → Narrows h h0 → TellsErr h0 h1 → ChangesNothing h h1
damage_nothing h h0 h1 only counts same tells = record {
  folder = tells.folder ∙ same.folder;
  images = λ c leaves. same.no_more c (tells.images.no_more c leaves);
  moments = moments_after (Began h) h h0 h1 counts (began_still h h0 only same.tells.time same.no_more) tells;
}

-- status 5 is that of a damage
pub ended_five : (r : Result Bool Stop) (status : ℕ) → IsEnd r status → status ≡ 5 → status_of_run r ≡ 5
ended_five r status end five = ⊎_elim (λ (is : status ≡ status_of_run r). sym is ∙ five) (λ both. absurd (omega (arith, five, both.0))) end

pub ended_damage : (ti to : Bool) (s0 s1 : Supply) (r : Result Bool Stop) (h h0 : State) → Ends ti to s0 s1 r h h0 → status_of_run r ≡ 5 → IsTrue to → Narrows h h0
ended_damage ti to s0 s1 (Ok true) h h0 ends five told = absurd (omega (arith, five))
ended_damage ti to s0 s1 (Ok false) h h0 ends five told = absurd (omega (arith, five))
ended_damage ti to s0 s1 (Err (why.Fault (Memory error))) h h0 ends five told = absurd (omega (arith, five))
ended_damage ti to s0 s1 (Err (why.Fault Disk)) h h0 ends five told = absurd (omega (arith, five))
ended_damage ti to s0 s1 (Err (why.Fault (LogDamaged file page))) h h0 ends five told = (ends.1 told).1
ended_damage ti to s0 s1 (Err (why.Fault (NotOurs file))) h h0 ends five told = (ends.1 told).1
ended_damage ti to s0 s1 (Err (why.Fault Input)) h h0 ends five told = absurd (omega (arith, five))
ended_damage ti to s0 s1 (Err (why.Fault Tell)) h h0 ends five told = absurd (omega (arith, five))
ended_damage ti to s0 s1 (Err why.TooLong) h h0 ends five told = absurd (omega (arith, five))
ended_damage ti to s0 s1 (Err (why.Fault (LogSpent file))) h h0 ends five told = absurd ends
ended_damage ti to s0 s1 (Err (why.Fault ControlDamaged)) h h0 ends five told = absurd ends
ended_damage ti to s0 s1 (Err (why.Fault (PageDamaged file page))) h h0 ends five told = absurd ends
ended_damage ti to s0 s1 (Err (why.Fault (FileMissing file))) h h0 ends five told = absurd ends
ended_damage ti to s0 s1 (Err (why.Fault TooManyTables)) h h0 ends five told = absurd ends

-- no run on a store that was opened has it
pub no_five : (r : Result Bool Stop) → IfErr r (λ stop. named_fault stop ≡ None) → status_of_run r ≡ 5 → ⊥
no_five (Ok true) sound five = omega (arith, five)
no_five (Ok false) sound five = omega (arith, five)
no_five (Err (why.Fault (Memory error))) sound five = omega (arith, five)
no_five (Err (why.Fault Disk)) sound five = omega (arith, five)
no_five (Err (why.Fault (LogDamaged file page))) sound five = cc
no_five (Err (why.Fault (NotOurs file))) sound five = cc
no_five (Err (why.Fault Input)) sound five = omega (arith, five)
no_five (Err (why.Fault Tell)) sound five = omega (arith, five)
no_five (Err why.TooLong) sound five = omega (arith, five)
no_five (Err (why.Fault (LogSpent file))) sound five = omega (arith, five)
no_five (Err (why.Fault ControlDamaged)) sound five = cc
no_five (Err (why.Fault (PageDamaged file page))) sound five = cc
no_five (Err (why.Fault (FileMissing file))) sound five = cc
no_five (Err (why.Fault TooManyTables)) sound five = omega (arith, five)

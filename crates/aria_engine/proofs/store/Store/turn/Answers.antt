use Rattle.std.proofs.Common.{ℕ, List, Bool, true, false, [], ◌∷◌, length, refl, sym, subst}
use Rattle.aria_host.specs.State.{State}
use Rattle.aria_journal.specs.declared.log.Log.{Log as LogValue}
use Rattle.aria_journal.specs.Log.{IsLog}
use Rattle.aria_engine.specs.declared.store.Store.{Store}
use Rattle.aria_engine.specs.Done.{Does}
use Rattle.aria_engine.specs.Store.{IsRunning}
use Rattle.aria_engine.specs.Turns.{with_line, Turned, Completes}
use Rattle.aria_engine.proofs.Running.{running_holds}
use Rattle.aria_engine.proofs.Turning.{does_turned, does_part_turned, does_blank, does_noted, runs_on, on_err}
use Rattle.aria_engine.proofs.store.Store.turn.Goals as goal

-- the log is that of before
log_before : (line : List ℕ) (before now : Store) (refused changed : Bool) (s : State) (running : IsRunning before s) → Turned line before now refused changed → IsLog now.log s running.lines (length running.lines)
log_before line before now refused changed s running t = subst (λ (l : LogValue). IsLog l s running.lines (length running.lines)) (sym t.log) running.log

pub returns-in-Err-clause-part : goal.returns-in-Err-clause-part
returns-in-Err-clause-part g c =
    does_noted g.H.Host.tells c.args.line.now c.args.self.now c.take.new.self (g.H.Host.state c.args.host.now) c.take.ensures.noted
    (λ tells alone f b since. let now = g.met.H.Host.only_now c.args.host.now f b tells since in
    (now.1, running_holds c.args.self.now (g.H.Host.state c.args.host.now) (c.requires.running tells) alone f now.0))

pub returns-in-Ok-None-clause-done : goal.returns-in-Ok-None-clause-done
returns-in-Ok-None-clause-done g c =
    does_blank g.H.Host.tells c.args.line.now c.args.self.now c.take.new.self (g.H.Host.state c.args.host.now) (rw c.in-Ok-None.field-0-is at c.in-Ok-None.ensures.turned)
    (λ tells alone f b since. let now = g.met.H.Host.only_now c.args.host.now f b tells since in
    (now.1, running_holds c.args.self.now (g.H.Host.state c.args.host.now) (c.requires.running tells) alone f now.0))

pub returns-in_ok-complete-in-Ok-Some-clause-done : goal.returns-in_ok-complete-in-Ok-Some-clause-done
returns-in_ok-complete-in-Ok-Some-clause-done g c =
    let s0 = g.H.Host.state c.args.host.now in
    let s1 = g.H.Host.state c.complete.new.host in
    let now = c.take.new.self in
    let line = c.args.line.now in
    let turn = c.in-Ok-Some.turn in
    let t : Turned line c.args.self.now now turn.refused turn.changed = rw c.in-Ok-Some.field-0-is at c.in-Ok-Some.ensures.turned in
    let final : Store = record now { log = c.complete.new.log } in
    subst (λ (b : Bool). Does g.H.Host.tells (line ∷ []) c.args.self.now final false b s0 s1) (sym c.of_statement.ensures.refused)
    (does_turned g.H.Host.tells line c.args.self.now now final turn.refused turn.changed s0 s1 t refl refl c.in_ok-complete-in-Ok-Some.ensures.grows c.in_ok-complete-in-Ok-Some.ensures.pages
    (λ h. c.requires.running h)
    (λ h. let running = c.requires.running h in
    subst (λ (text : List ℕ). Completes running.lines (with_line turn.changed running.lines line) text c.complete.new.log s0 s1 true) c.as_slice.ensures
    (c.in_ok-complete-in-Ok-Some.ensures.completes h running.lines (log_before line c.args.self.now now turn.refused turn.changed s0 running t))))

pub returns-in_ok-complete-in-Ok-Some-clause-running : goal.returns-in_ok-complete-in-Ok-Some-clause-running
returns-in_ok-complete-in-Ok-Some-clause-running g c = λ h.
    let s0 = g.H.Host.state c.args.host.now in
    let s1 = g.H.Host.state c.complete.new.host in
    let now = c.take.new.self in
    let line = c.args.line.now in
    let turn = c.in-Ok-Some.turn in
    let t : Turned line c.args.self.now now turn.refused turn.changed = rw c.in-Ok-Some.field-0-is at c.in-Ok-Some.ensures.turned in
    let running = c.requires.running h in
    runs_on line c.args.self.now now _ turn.refused turn.changed s0 s1 running t refl
    ((c.in_ok-complete-in-Ok-Some.ensures.completes h running.lines (log_before line c.args.self.now now turn.refused turn.changed s0 running t)).log_is refl)

pub returns-in_err-complete-in-Ok-Some-clause-part : goal.returns-in_err-complete-in-Ok-Some-clause-part
returns-in_err-complete-in-Ok-Some-clause-part g c =
    let s0 = g.H.Host.state c.args.host.now in
    let s1 = g.H.Host.state c.complete.new.host in
    let now = c.take.new.self in
    let line = c.args.line.now in
    let turn = c.in-Ok-Some.turn in
    let t : Turned line c.args.self.now now turn.refused turn.changed = rw c.in-Ok-Some.field-0-is at c.in-Ok-Some.ensures.turned in
    on_err c.from_residual.result
    (does_part_turned g.H.Host.tells line c.args.self.now now _ turn.refused turn.changed s0 s1 t refl
    (λ h. c.requires.running h)
    (λ h. let running = c.requires.running h in
    subst (λ (text : List ℕ). Completes running.lines (with_line turn.changed running.lines line) text c.complete.new.log s0 s1 false) c.as_slice.ensures
    (c.in_err-complete-in-Ok-Some.ensures.completes h running.lines (log_before line c.args.self.now now turn.refused turn.changed s0 running t))))

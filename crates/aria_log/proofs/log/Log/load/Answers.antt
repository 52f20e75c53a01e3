use Rattle.std.proofs.Common.{◌∙◌, sym}
use Rattle.aria_log.specs.Pieces.{log_files}
use Rattle.aria_log.proofs.RunReads.{shown_last, shown_below, some_last, some_loaded, number_below}
use Rattle.aria_log.proofs.PageCauses.{damaged_cause}
use Rattle.aria_log.specs.Reading.{loaded}
use Rattle.aria_log.proofs.log.Log.load.Goals as goal

pub returns-then-number-self-clause-loaded : goal.returns-then-number-self-clause-loaded
returns-then-number-self-clause-loaded g c = λ told. shown_last c.args.self.now c.args.reader.now (log_files (g.H.Host.state c.args.host.now).folder) c.args.number c.if-number-self.true

pub returns-then-number-self-clause-some : goal.returns-then-number-self-clause-some
returns-then-number-self-clause-some g c = some_last c.args.self.now c.args.reader.now c.args.number c.if-number-self.true c.requires.here

pub returns-then-branch-clause-loaded : goal.returns-then-branch-clause-loaded
returns-then-branch-clause-loaded g c = λ told.
    shown_below c.args.self.now c.load.new.self (log_files (g.H.Host.state c.args.host.now).folder) c.args.number c.if-number-self.false c.requires.here (c.in_ok-load.ensures.loaded told)

pub returns-then-branch-clause-some : goal.returns-then-branch-clause-some
returns-then-branch-clause-some g c = some_loaded c.args.self.now c.load.new.self c.args.number c.if-number-self.false (sym c.in_ok-load.ensures.valid ∙ c.if-branch.true)

pub returns-else-branch-clause-cause : goal.returns-else-branch-clause-cause
returns-else-branch-clause-cause g c =
    damaged_cause {T = Unit {0}} g.H.Host.tells c.args.self.now (log_files (g.H.Host.state c.args.host.now).folder) (loaded c.load.new.self) c.args.number (g.H.Host.state c.args.host.now) (g.H.Host.state c.load.new.host) c.damaged.result
    c.in_ok-load.ensures.loaded c.requires.valid (number_below c.args.self.now c.args.number c.if-number-self.false c.requires.here) (sym c.in_ok-load.ensures.valid ∙ c.if-branch.false) c.damaged.ensures
    c.in_ok-load.ensures.cause.calm c.in_ok-load.ensures.cause.tell

use Rattle.std.proofs.Common.{subst}
use Rattle.aria_engine.specs.declared.store.Store.{Store}
use Rattle.aria_tools.specs.Pieces.{supply}
use Rattle.aria_tools.specs.Sessions.{RunsOn}
use Rattle.aria_tools.proofs.Runs.{runs_from}
use Rattle.aria_tools.proofs.reading.run_store.Goals as goal

pub returns : goal.returns
returns g c = record {
  runs =
      let supply0 = supply (g.S.Source.left c.args.input.now) (g.S.Source.taken c.args.input.now) (g.S.Source.faults c.args.input.now) in
      let supply1 = supply (g.S.Source.left c.run_session-outcome.new.input) (g.S.Source.taken c.run_session-outcome.new.input) (g.S.Source.faults c.run_session-outcome.new.input) in
      let before = g.H.Host.state c.args.host.now in
      let now = g.H.Host.state c.run_session-outcome.new.host in
      runs_from g.S.Source.tells g.H.Host.tells supply0 supply1 c.run_session-outcome.result c.take_met-met.result c.args.store c.run_session-outcome.new.session.store before now
      c.requires.fresh c.take_met-met.ensures
      (subst (λ (st : Store). RunsOn g.S.Source.tells g.H.Host.tells supply0 supply1 c.run_session-outcome.result st c.run_session-outcome.new.session.store before now)
      c.new-session.ensures.store c.run_session-outcome.ensures.runs);
}

use Rattle.std.proofs.Common.{Bool, [], Err, refl, ap, subst, ◌∙◌, arith}
use Rattle.std.proofs.lemmas.Result.{err_from_is_err_and, IfOk-weaker, on_err_weaker}
use Rattle.aria_model.specs.Script.{lines_of}
use Rattle.aria_engine.proofs.Doing.{does_none}
use Rattle.std.specs.Prelude.{alloc_error}
use Rattle.aria_host.specs.declared.fault.Fault.TheVariants.{Memory}
use Rattle.aria_tools.specs.declared.stop.Stop.TheVariants as why
use Rattle.aria_tools.specs.Pieces.{Fed, supply}
use Rattle.aria_tools.proofs.Ready.{ready_now}
use Rattle.aria_tools.proofs.Runs.{part_alone, stopped_on, finished_on}
use Rattle.aria_tools.proofs.reading.run_session.Goals as goal

pub returns-in_err-piece : goal.returns-in_err-piece
returns-in_err-piece g c = record {
  runs =
      let p = err_from_is_err_and c.from_residual.result c.from_residual.ensures.1 in
      let supply0 = supply (g.S.Source.left c.args.input.now) (g.S.Source.taken c.args.input.now) (g.S.Source.faults c.args.input.now) in
      let before = g.H.Host.state c.args.host.now in
      let none = does_none g.H.Host.tells (lines_of (g.S.Source.left c.args.input.now)) c.args.session.now.store c.args.session.now.store before refl
      (ready_now g.H.Host.tells c.args.session.now.store before c.requires.ready (λ f t told since. g.met.H.Host.only_now c.args.host.now f t told since)) in
      stopped_on g.S.Source.tells g.H.Host.tells supply0 supply0 c.from_residual.result c.args.session.now.store c.args.session.now.store before before (why.Fault (Memory alloc_error))
      (p.1 ∙ ap Err p.2)
      (λ h. none)
      (record { cause = omega arith; sound = refl; by = λ h told xs met. tt })
      (λ told. refl) (part_alone g.H.Host.tells (lines_of (g.S.Source.left c.args.input.now)) c.args.session.now.store c.args.session.now.store before before none) (record { disk = omega arith; tell = omega arith });
}

pub returns-in_err-read_script : goal.returns-in_err-read_script
returns-in_err-read_script g c = record {
  runs =
      let p = err_from_is_err_and c.from_residual-in_err-read_script.result c.from_residual-in_err-read_script.ensures.1 in
      let supply0 = supply (g.S.Source.left c.args.input.now) (g.S.Source.taken c.args.input.now) (g.S.Source.faults c.args.input.now) in
      let supply1 = supply (g.S.Source.left c.read_script.new.input) (g.S.Source.taken c.read_script.new.input) (g.S.Source.faults c.read_script.new.input) in
      stopped_on g.S.Source.tells g.H.Host.tells supply0 supply1 c.from_residual-in_err-read_script.result c.args.session.now.store c.read_script.new.session.store
      (g.H.Host.state c.args.host.now) (g.H.Host.state c.read_script.new.host) c.in_err-read_script.field-0.0
      (p.1 ∙ ap Err p.2) c.in_err-read_script.ensures.part c.in_err-read_script.ensures.cause c.in_err-read_script.ensures.silent c.in_err-read_script.ensures.alone c.in_err-read_script.ensures.later;
}

pub returns : goal.returns
returns g c = record {
  runs =
      let done = c.in_ok-read_script.ensures.done in
      let supply0 = supply (g.S.Source.left c.args.input.now) (g.S.Source.taken c.args.input.now) (g.S.Source.faults c.args.input.now) in
      let supply1 = supply (g.S.Source.left c.read_script.new.input) (g.S.Source.taken c.read_script.new.input) (g.S.Source.faults c.read_script.new.input) in
      let before = g.H.Host.state c.args.host.now in
      let between = g.H.Host.state c.read_script.new.host in
      let now = g.H.Host.state c.finish.new.host in
      let fed = subst (λ (r : Bool). Fed g.H.Host.tells [] done.0 done.1 c.args.session.now.store c.read_script.new.session.store r c.read_script.new.session.refused before between) c.requires.refused done.6 in
      finished_on g.S.Source.tells g.H.Host.tells supply0 supply1 c.finish.result before between now done.0 done.1
      c.args.session.now.store c.read_script.new.session.store c.finish.new.self.store c.read_script.new.session.refused
      fed done.3 done.4 done.2 c.in_ok-read_script.ensures.calm_too c.in_ok-read_script.ensures.calm
      (IfOk-weaker c.finish.result _ _ (λ (refused : Bool) does. does done.1 fed.splits.no_lf done.5) c.finish.ensures.done)
      (on_err_weaker c.finish.result (λ part. part done.1 fed.splits.no_lf done.5) c.finish.ensures.part)
      c.finish.ensures.cause c.finish.ensures.calm c.finish.ensures.ready c.finish.ensures.later
      (λ told. g.met.H.Host.reads_now c.finish.new.host told);
}

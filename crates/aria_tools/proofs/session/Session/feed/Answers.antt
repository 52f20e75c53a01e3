use Rattle.std.proofs.Common.{List, ℕ, [], ◌∷◌, ◌++◌, refl, sym, subst}
use Rattle.aria_model.specs.Script.{ended_lines}
use Rattle.aria_tools.specs.Held.{Splits}
use Rattle.aria_engine.specs.Done.{Does}
use Rattle.aria_tools.proofs.Holding.{on_err}
use Rattle.aria_tools.proofs.Ready.{ready_now}
use Rattle.aria_tools.proofs.Pieces.{same_faults_more}
use Rattle.aria_tools.proofs.Feeding.{fed_none, fed_line, fed_last, fed_part_line, fed_part, front_next}
use Rattle.aria_tools.proofs.session.Session.feed.Goals as goal

pub loop-line-init : goal.loop-line-init
loop-line-init g c = record {
  calm = record { disk = refl; tell = refl };
  ready = c.requires.ready;
  fed = λ rest none held. (
    [],
    rest,
    refl,
    held,
    fed_none g.H.Host.tells rest c.args.self.now.store c.args.self.now.refused (g.H.Host.state c.args.host.now)
        (ready_now g.H.Host.tells c.args.self.now.store (g.H.Host.state c.args.host.now) c.requires.ready (λ f t told since. g.met.H.Host.only_now c.args.host.now f t told since)) none,
  );
}

pub returns-in_err-end_line-clause-part : goal.returns-in_err-end_line-clause-part
returns-in_err-end_line-clause-part g c = on_err c.from_residual.result (λ rest none held. let fed = c.loop-line.invariant.fed rest none held in
    fed_part_line g.H.Host.tells rest c.args.piece.now fed.0 fed.1 c.loop-line.left.now c.in-Some.line.now c.in-Some.behind.now
    c.args.self.now.store c.loop-line.self.store c.end_line.new.self.store c.args.self.now.refused c.loop-line.self.refused
    (g.H.Host.state c.args.host.now) (g.H.Host.state c.loop-line.host) (g.H.Host.state c.end_line.new.host)
    fed.4 fed.2 c.in-Some.ensures (c.in_err-end_line.ensures.part fed.1 fed.3))

pub loop-line-preserved : goal.loop-line-preserved
loop-line-preserved g c = record {
  calm = same_faults_more (g.H.Host.state c.args.host.now) (g.H.Host.state c.loop-line.host) (g.H.Host.state c.end_line.new.host) c.loop-line.invariant.calm c.in_ok-end_line.ensures.calm;
  ready = c.in_ok-end_line.ensures.ready;
  fed = λ rest none held. let fed = c.loop-line.invariant.fed rest none held in (
    fed.0 ++ (c.in-Some.line.now ++ 10 ∷ []),
    [],
    front_next c.args.piece.now fed.0 c.loop-line.left.now c.in-Some.line.now c.in-Some.behind.now fed.2 c.in-Some.ensures.whole,
    c.in_ok-end_line.ensures.emptied,
    fed_line g.H.Host.tells rest fed.0 fed.1 c.in-Some.line.now c.args.self.now.store c.loop-line.self.store c.end_line.new.self.store
        c.args.self.now.refused c.loop-line.self.refused c.end_line.new.self.refused
        (g.H.Host.state c.args.host.now) (g.H.Host.state c.loop-line.host) (g.H.Host.state c.end_line.new.host)
        fed.4 c.in-Some.ensures.no_lf (c.in_ok-end_line.ensures.done fed.1 fed.3),
  );
}

pub returns-in_err-hold-clause-part : goal.returns-in_err-hold-clause-part
returns-in_err-hold-clause-part g c = on_err c.from_residual-in_err-hold.result (λ rest none held. let fed = c.loop-line.invariant.fed rest none held in
    fed_part g.H.Host.tells rest c.args.piece.now fed.0 fed.1 c.loop-line.left.now c.args.self.now.store c.loop-line.self.store c.args.self.now.refused c.loop-line.self.refused
    (g.H.Host.state c.args.host.now) (g.H.Host.state c.loop-line.host) fed.4 fed.2)

pub returns-clause-done : goal.returns-clause-done
returns-clause-done g c = λ rest none held. let fed = c.loop-line.invariant.fed rest none held in
    let last = fed_last g.H.Host.tells rest fed.0 fed.1 c.loop-line.left.now c.args.self.now.store c.loop-line.self.store c.args.self.now.refused c.loop-line.self.refused
    (g.H.Host.state c.args.host.now) (g.H.Host.state c.loop-line.host) fed.4 c.in_default.ensures in (
      fed.1 ++ c.loop-line.left.now,
      subst (λ (l : List ℕ). Splits (rest ++ l) (fed.1 ++ c.loop-line.left.now)) (sym fed.2) last.splits,
      c.in_ok-hold.ensures fed.1 fed.3,
      subst (λ (l : List ℕ). Does g.H.Host.tells (ended_lines (rest ++ l)) c.args.self.now.store c.loop-line.self.store c.args.self.now.refused c.loop-line.self.refused
          (g.H.Host.state c.args.host.now) (g.H.Host.state c.loop-line.host)) (sym fed.2) last.does,
    )

use Rattle.std.proofs.Common.{Err, refl, sym, subst}
use Rattle.aria_engine.specs.Store.{tables_of}
use Rattle.aria_engine.proofs.Running.{holds_one}
use Rattle.aria_model.specs.Journal.{met_at}
use Rattle.aria_tools.specs.declared.stop.Stop.{Stop}
use Rattle.aria_tools.specs.declared.stop.Stop.TheVariants as why
use Rattle.aria_tools.specs.Endings.{RunsWhole}
use Rattle.aria_tools.specs.Pieces.{supply}
use Rattle.aria_tools.proofs.Commands.{ends_after, runs_after, runs_never, opening_answers, was_sound}
use Rattle.aria_tools.proofs.Others.{opened_others, run_others, no_five}
use Rattle.aria_tools.proofs.reading.run.Goals as goal

pub returns-in-Ok-clause-ends : goal.returns-in-Ok-clause-ends
returns-in-Ok-clause-ends g c =
    let supply0 = supply (g.S.Source.left c.args.input.now) (g.S.Source.taken c.args.input.now) (g.S.Source.faults c.args.input.now) in
    let supply1 = supply (g.S.Source.left c.run_store.new.input) (g.S.Source.taken c.run_store.new.input) (g.S.Source.faults c.run_store.new.input) in
    ends_after g.S.Source.tells g.H.Host.tells supply0 supply1 c.run_store.result.outcome (g.H.Host.state c.args.host.now) (g.H.Host.state c.open.new.host) (g.H.Host.state c.run_store.new.host)
    c.in-Ok.ensures.calm c.run_store.ensures.runs.sound c.run_store.ensures.runs.ends

pub returns-in-Ok-clause-runs : goal.returns-in-Ok-clause-runs
returns-in-Ok-clause-runs g c ti to world reads =
    let supply0 = supply (g.S.Source.left c.args.input.now) (g.S.Source.taken c.args.input.now) (g.S.Source.faults c.args.input.now) in
    let supply1 = supply (g.S.Source.left c.run_store.new.input) (g.S.Source.taken c.run_store.new.input) (g.S.Source.faults c.run_store.new.input) in
    let old = g.H.Host.state c.args.host.now in
    let mid = g.H.Host.state c.open.new.host in
    let is = holds_one old.folder (tables_of c.in-Ok.store) world (c.in-Ok.ensures.holds to) reads.holds in
    runs_after g.H.Host.tells supply0 supply1 world c.in-Ok.store c.run_store.result.met c.run_store.result.outcome old mid (g.H.Host.state c.run_store.new.host)
    is (c.in-Ok.ensures.ends to) (c.in-Ok.ensures.silent to).out ((c.in-Ok.ensures.opens to).moments world reads)
    to (λ f leaves. ((c.in-Ok.ensures.opens to).each world reads refl f leaves).alone) (c.run_store.ensures.runs.works ti)

pub returns-in-Ok-clause-sound : goal.returns-in-Ok-clause-sound
returns-in-Ok-clause-sound g c to = was_sound c.run_store.result.outcome (g.H.Host.state c.args.host.now).folder (tables_of c.in-Ok.store) (c.in-Ok.ensures.holds to)

pub returns-in-Err-clause-runs : goal.returns-in-Err-clause-runs
returns-in-Err-clause-runs g c ti to world reads =
    let supply0 = supply (g.S.Source.left c.args.input.now) (g.S.Source.taken c.args.input.now) (g.S.Source.faults c.args.input.now) in
    let old = g.H.Host.state c.args.host.now in
    let now = g.H.Host.state c.open.new.host in
    let met = c.new.result in
    subst (λ (stop : Stop). RunsWhole supply0 supply0 world met (Err stop) old now) (sym c.from.ensures)
    (runs_never supply0 supply0 world met (why.Fault c.in-Err.fault) old now c.new.ensures (c.in-Err.ensures.silent to).out
    (opening_answers g.H.Host.tells c.in-Err.fault supply0 supply0 world (met_at met) old now c.in-Err.ensures.cause) ((c.in-Err.ensures.opens to).moments world reads))

pub returns-in-Ok-clause-others : goal.returns-in-Ok-clause-others
returns-in-Ok-clause-others g c to =
    let old = g.H.Host.state c.args.host.now in
    let mid = g.H.Host.state c.open.new.host in
    let now = g.H.Host.state c.run_store.new.host in
    run_others old mid now (g.met.H.Host.reads_now c.open.new.host to) (g.met.H.Host.reads_now c.run_store.new.host to)
    (λ f low leaves. g.met.H.Host.counts_now c.run_store.new.host mid.moment f to low leaves)
    (c.in-Ok.ensures.others to) (c.in-Ok.ensures.alone to) (c.run_store.ensures.runs.alone to (c.in-Ok.ensures.alone to))

pub returns-in-Ok-clause-untouched : goal.returns-in-Ok-clause-untouched
returns-in-Ok-clause-untouched g c five = absurd (no_five c.run_store.result.outcome c.run_store.ensures.runs.sound five)

pub returns-in-Err-clause-others : goal.returns-in-Err-clause-others
returns-in-Err-clause-others g c to = opened_others (g.H.Host.state c.args.host.now) (g.H.Host.state c.open.new.host) (c.in-Err.ensures.others to)

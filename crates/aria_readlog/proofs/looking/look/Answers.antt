use Rattle.std.proofs.Common.{Err, ◌∙◌, sym, ap, subst}
use Rattle.std.specs.Prelude.{Result, IfErr}
use Rattle.std.proofs.lemmas.Result.{err_from_is_err_and}
use Rattle.aria_host.specs.declared.fault.Fault.{Fault}
use Rattle.aria_host.proofs.Moments.{narrows_then}
use Rattle.aria_readlog.specs.declared.looking.Looked.{Looked}
use Rattle.aria_readlog.specs.Looking.{IsRefused}
use Rattle.aria_readlog.proofs.Answering.{looked, refused}
use Rattle.aria_readlog.proofs.looking.look.Goals as goal

pub returns-in_err-found-clause-refused : goal.returns-in_err-found-clause-refused
returns-in_err-found-clause-refused g c = λ told.
    let s0 = g.H.Host.state c.args.host.now in
    let p = err_from_is_err_and c.from_residual-in_err-found.result c.from_residual-in_err-found.ensures.1 in
    subst (λ (r : Result Looked Fault). IfErr r (IsRefused s0.folder)) (sym (p.1 ∙ ap Err p.2))
    (refused s0.folder (g.H.Host.state c.read.new.host).folder (g.H.Host.state c.start.new.host).folder c.in_ok-control.control c.in_ok-start.start c.in_err-found.field-0.0
    (c.in_ok-control.ensures.same told).folder (c.in_ok-start.ensures.same told).folder (c.in_ok-control.ensures.found told) (c.in_ok-control.ensures.only told)
    (c.in_ok-start.ensures.start told) c.in_ok-start.ensures.lsn (c.in_err-found.ensures.found told))

pub returns-clause-looked : goal.returns-clause-looked
returns-clause-looked g c = λ told.
    looked (g.H.Host.state c.args.host.now).folder (g.H.Host.state c.read.new.host).folder (g.H.Host.state c.start.new.host).folder c.in_ok-control.control c.in_ok-start.start c.start_of.result c.in_ok-found.found
    (c.in_ok-control.ensures.same told).folder (c.in_ok-start.ensures.same told).folder (c.in_ok-control.ensures.found told) (c.in_ok-control.ensures.only told)
    (c.in_ok-start.ensures.start told) c.in_ok-start.ensures.lsn (c.in_ok-found.ensures.found told) c.start_of.ensures

pub returns-clause-same : goal.returns-clause-same
returns-clause-same g c = λ told.
    let s0 = g.H.Host.state c.args.host.now in
    let s1 = g.H.Host.state c.read.new.host in
    let s2 = g.H.Host.state c.start.new.host in
    let s3 = g.H.Host.state c.find.new.host in
    narrows_then s0 s1 s3 (λ t f le leaves. g.met.H.Host.counts_now c.args.host.now t f told le leaves) (c.in_ok-control.ensures.same told)
    (narrows_then s1 s2 s3 (λ t f le leaves. g.met.H.Host.counts_now c.read.new.host t f told le leaves) (c.in_ok-start.ensures.same told) (c.in_ok-found.ensures.same told))

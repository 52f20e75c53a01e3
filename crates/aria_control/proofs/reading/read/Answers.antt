use Rattle.aria_host.proofs.Moments.{looks, narrows_then}
use Rattle.aria_control.proofs.reading.read.Goals as goal

pub returns-in-None-clause-same : goal.returns-in-None-clause-same
returns-in-None-clause-same g c = λ told.
    let s0 = g.H.Host.state c.args.host.now in
    let s1 = g.H.Host.state c.look.new.self in
    let s2 = g.H.Host.state c.first_page.new.host in
    let s3 = g.H.Host.state c.on_blank.new.host in
    narrows_then s0 s1 s3 (λ t f le leaves. g.met.H.Host.counts_now c.args.host.now t f told le leaves) (looks s0 s1 (c.in_ok-looked.ensures.same told))
    (narrows_then s1 s2 s3 (λ t f le leaves. g.met.H.Host.counts_now c.look.new.self t f told le leaves) (looks s1 s2 (c.in_ok-first_page.ensures.same told)) (c.on_blank.ensures.same told))

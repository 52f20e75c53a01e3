use Rattle.std.proofs.Common.{true, false}
use Rattle.aria_engine.proofs.Settling.{unchanged_keeps, keeps_then, settled_cause}
use Rattle.aria_engine.proofs.Opening.{opens_then}
use Rattle.aria_engine.proofs.open.resume.Goals as goal

pub returns-in-Err-clause-keeps : goal.returns-in-Err-clause-keeps
returns-in-Err-clause-keeps g c = λ told.
    let s0 = g.H.Host.state c.args.host.now in
    let s1 = g.H.Host.state c.settle.new.host in
    let s2 = g.H.Host.state c.recover.new.host in
    keeps_then s0 s1 s2 (c.in_ok-settle.ensures.keeps told)
    (unchanged_keeps s1 s2 (λ f b left. g.met.H.Host.only_now c.settle.new.host f b told left) (c.recover.ensures.same told))

pub returns-in-Err-clause-cause : goal.returns-in-Err-clause-cause
returns-in-Err-clause-cause g c =
    settled_cause g.H.Host.tells c.in-Err.fault (g.H.Host.state c.args.host.now) (g.H.Host.state c.settle.new.host) (g.H.Host.state c.recover.new.host)
    c.in_ok-settle.ensures.cause.calm (λ told t f le leaves. g.met.H.Host.counts_now c.args.host.now t f told le leaves) (λ told. c.in_ok-settle.ensures.same told) c.in-Err.ensures.cause

pub returns-in-Err-start-clause-keeps : goal.returns-in-Err-start-clause-keeps
returns-in-Err-start-clause-keeps g c = λ told.
    let s0 = g.H.Host.state c.args.host.now in
    let s1 = g.H.Host.state c.settle.new.host in
    let s2 = g.H.Host.state c.recover.new.host in
    let s3 = g.H.Host.state c.start.new.host in
    keeps_then s0 s2 s3
    (keeps_then s0 s1 s2 (c.in_ok-settle.ensures.keeps told) (unchanged_keeps s1 s2 (λ f b left. g.met.H.Host.only_now c.settle.new.host f b told left) (c.recover.ensures.same told)))
    (c.start.ensures.keeps told)

pub returns-in-Ok-start-clause-keeps : goal.returns-in-Ok-start-clause-keeps
returns-in-Ok-start-clause-keeps g c = λ told.
    let s0 = g.H.Host.state c.args.host.now in
    let s1 = g.H.Host.state c.settle.new.host in
    let s2 = g.H.Host.state c.recover.new.host in
    let s3 = g.H.Host.state c.start.new.host in
    keeps_then s0 s2 s3
    (keeps_then s0 s1 s2 (c.in_ok-settle.ensures.keeps told) (unchanged_keeps s1 s2 (λ f b left. g.met.H.Host.only_now c.settle.new.host f b told left) (c.recover.ensures.same told)))
    (c.start.ensures.keeps told)

pub returns-in-Err-clause-opens : goal.returns-in-Err-clause-opens
returns-in-Err-clause-opens g c = λ told.
    let s0 = g.H.Host.state c.args.host.now in
    let s1 = g.H.Host.state c.settle.new.host in
    let s2 = g.H.Host.state c.recover.new.host in
    opens_then s0 s1 s2 false (c.in_ok-settle.ensures.keeps told).silent.out (c.in_ok-settle.ensures.opens told)
    (unchanged_keeps s1 s2 (λ f b left. g.met.H.Host.only_now c.settle.new.host f b told left) (c.recover.ensures.same told))

pub returns-in-Err-start-clause-opens : goal.returns-in-Err-start-clause-opens
returns-in-Err-start-clause-opens g c = λ told.
    let s0 = g.H.Host.state c.args.host.now in
    let s1 = g.H.Host.state c.settle.new.host in
    let s2 = g.H.Host.state c.recover.new.host in
    let s3 = g.H.Host.state c.start.new.host in
    opens_then s0 s1 s3 false (c.in_ok-settle.ensures.keeps told).silent.out (c.in_ok-settle.ensures.opens told)
    (keeps_then s1 s2 s3 (unchanged_keeps s1 s2 (λ f b left. g.met.H.Host.only_now c.settle.new.host f b told left) (c.recover.ensures.same told)) (c.start.ensures.keeps told))

pub returns-in-Ok-start-clause-opens : goal.returns-in-Ok-start-clause-opens
returns-in-Ok-start-clause-opens g c = λ told.
    let s0 = g.H.Host.state c.args.host.now in
    let s1 = g.H.Host.state c.settle.new.host in
    let s2 = g.H.Host.state c.recover.new.host in
    let s3 = g.H.Host.state c.start.new.host in
    opens_then s0 s1 s3 true (c.in_ok-settle.ensures.keeps told).silent.out (c.in_ok-settle.ensures.opens told)
    (keeps_then s1 s2 s3 (unchanged_keeps s1 s2 (λ f b left. g.met.H.Host.only_now c.settle.new.host f b told left) (c.recover.ensures.same told)) (c.start.ensures.keeps told))

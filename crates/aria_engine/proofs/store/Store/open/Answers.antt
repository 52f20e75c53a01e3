use Rattle.std.proofs.lemmas.Result.{IfErr-weaker}
use Rattle.aria_engine.specs.Holds.{IsLogAlone}
use Rattle.aria_host.specs.declared.fault.Fault.{Fault}
use Rattle.aria_host.proofs.Answered.{on_ok}
use Rattle.aria_engine.proofs.Settling.{narrows_keeps, keeps_then, names_alone, still_alone, opened_cause}
use Rattle.aria_engine.proofs.Opening.{looked_opens}
use Rattle.aria_engine.proofs.store.Store.open.Goals as goal

pub returns-in-Ok-None-clause-moments : goal.returns-in-Ok-None-clause-moments
returns-in-Ok-None-clause-moments g c = λ told.
    let s0 = g.H.Host.state c.args.host.now in
    let s1 = g.H.Host.state c.find_other.new.host in
    let s2 = g.H.Host.state c.resume.new.host in
    (keeps_then s0 s1 s2 (narrows_keeps s0 s1 (λ f b left. g.met.H.Host.only_now c.args.host.now f b told left) (c.in-Ok-None.ensures.same told)) (c.resume.ensures.keeps told)).moments

pub returns-in-Ok-None-clause-each : goal.returns-in-Ok-None-clause-each
returns-in-Ok-None-clause-each g c = λ told.
    let s0 = g.H.Host.state c.args.host.now in
    let s1 = g.H.Host.state c.find_other.new.host in
    let s2 = g.H.Host.state c.resume.new.host in
    (keeps_then s0 s1 s2 (narrows_keeps s0 s1 (λ f b left. g.met.H.Host.only_now c.args.host.now f b told left) (c.in-Ok-None.ensures.same told)) (c.resume.ensures.keeps told)).each

pub returns-in-Ok-None-clause-opens : goal.returns-in-Ok-None-clause-opens
returns-in-Ok-None-clause-opens g c = λ told.
    looked_opens (g.H.Host.state c.args.host.now) (g.H.Host.state c.find_other.new.host) (g.H.Host.state c.resume.new.host) _
    (λ f b left. g.met.H.Host.only_now c.args.host.now f b told left) (c.in-Ok-None.ensures.same told) (c.resume.ensures.opens told)

pub returns-in-Ok-None-clause-others : goal.returns-in-Ok-None-clause-others
returns-in-Ok-None-clause-others g c = λ told.
    let s0 = g.H.Host.state c.args.host.now in
    let s1 = g.H.Host.state c.find_other.new.host in
    let s2 = g.H.Host.state c.resume.new.host in
    (keeps_then s0 s1 s2 (narrows_keeps s0 s1 (λ f b left. g.met.H.Host.only_now c.args.host.now f b told left) (c.in-Ok-None.ensures.same told)) (c.resume.ensures.keeps told)).others

pub returns-in-Ok-None-clause-alone : goal.returns-in-Ok-None-clause-alone
returns-in-Ok-None-clause-alone g c = λ told.
    let s0 = g.H.Host.state c.args.host.now in
    let s1 = g.H.Host.state c.find_other.new.host in
    let s2 = g.H.Host.state c.resume.new.host in
    let alone : IsLogAlone s0.folder = rw c.in-Ok-None.field-0-is at (c.in-Ok-None.ensures.found told) in
    on_ok c.resume.result _ (λ done. still_alone s1 s2 (names_alone s0 s1 alone (c.in-Ok-None.ensures.same told) (c.in-Ok-None.ensures.named told)) (c.resume.ensures.keeps told).others)

pub returns-in-Ok-None-clause-cause : goal.returns-in-Ok-None-clause-cause
returns-in-Ok-None-clause-cause g c =
    let s0 = g.H.Host.state c.args.host.now in
    let s1 = g.H.Host.state c.find_other.new.host in
    let s2 = g.H.Host.state c.resume.new.host in
    IfErr-weaker c.resume.result _ _ (λ (fault : Fault) is.
    opened_cause g.H.Host.tells fault s0 s1 s2 c.in-Ok-None.ensures.cause.calm (λ told t f le leaves. g.met.H.Host.counts_now c.args.host.now t f told le leaves)
    (λ told. let alone : IsLogAlone s0.folder = rw c.in-Ok-None.field-0-is at (c.in-Ok-None.ensures.found told) in alone) (λ told. c.in-Ok-None.ensures.same told) is) c.resume.ensures.cause

use Rattle.std.proofs.Common.{ap, ◌∙◌}
use Rattle.aria_host.specs.Folder.{Folder}
use Rattle.aria_host.proofs.Answered.{on_ok}
use Rattle.aria_host.proofs.Moments.{looks}
use Rattle.aria_journal.specs.Log.{log_file}
use Rattle.aria_engine.proofs.Settling.{keeps_then, unchanged_keeps, created_keeps, not_found, image_there, created_rest, created_same, synced_rest, synced_same}
use Rattle.aria_engine.proofs.Opening.{created_opens, synced_opens, looked_opens}
use Rattle.aria_engine.proofs.open.settle.Goals as goal

pub returns-in-None-clause-keeps : goal.returns-in-None-clause-keeps
returns-in-None-clause-keeps g c = λ told.
    let s0 = g.H.Host.state c.args.host.now in
    let s1 = g.H.Host.state c.look.new.self in
    let s2 = g.H.Host.state c.create.new.self in
    let same = c.in_ok-look.ensures.same told in
    keeps_then s0 s1 s2 (unchanged_keeps s0 s1 (λ f b left. g.met.H.Host.only_now c.args.host.now f b told left) same)
    (created_keeps s1 s2 _ (λ f b left. g.met.H.Host.only_now c.look.new.self f b told left) (g.met.H.Host.reads_now c.look.new.self told)
    (ap (λ (f : Folder). f log_file) same.folder ∙ not_found s0.folder c.in_ok-look.field-0 (c.in_ok-look.ensures.found told) c.in-None.is)
    (c.create.ensures.created told))

pub returns-in-None-clause-opens : goal.returns-in-None-clause-opens
returns-in-None-clause-opens g c = λ told.
    let s0 = g.H.Host.state c.args.host.now in
    let s1 = g.H.Host.state c.look.new.self in
    let s2 = g.H.Host.state c.create.new.self in
    let same = c.in_ok-look.ensures.same told in
    looked_opens s0 s1 s2 _ (λ f b left. g.met.H.Host.only_now c.args.host.now f b told left) (looks s0 s1 same)
    (created_opens s1 s2 _ (λ f b left. g.met.H.Host.only_now c.look.new.self f b told left)
    (ap (λ (f : Folder). f log_file) same.folder ∙ not_found s0.folder c.in_ok-look.field-0 (c.in_ok-look.ensures.found told) c.in-None.is)
    (c.create.ensures.created told))

pub returns-in-None-clause-rest : goal.returns-in-None-clause-rest
returns-in-None-clause-rest g c = λ told.
    on_ok c.create.result _ (λ done. created_rest (g.H.Host.state c.look.new.self) (g.H.Host.state c.create.new.self) _ done (c.create.ensures.created told))

pub returns-in-None-clause-same : goal.returns-in-None-clause-same
returns-in-None-clause-same g c = λ told.
    let s0 = g.H.Host.state c.args.host.now in
    let same = c.in_ok-look.ensures.same told in
    on_ok c.create.result _ (λ done. created_same s0 (g.H.Host.state c.look.new.self) (g.H.Host.state c.create.new.self) _ done same
    (ap (λ (f : Folder). f log_file) same.folder ∙ not_found s0.folder c.in_ok-look.field-0 (c.in_ok-look.ensures.found told) c.in-None.is)
    (c.create.ensures.created told))

pub returns-in-Some-clause-opens : goal.returns-in-Some-clause-opens
returns-in-Some-clause-opens g c = λ told.
    let s0 = g.H.Host.state c.args.host.now in
    let s1 = g.H.Host.state c.look.new.self in
    let s2 = g.H.Host.state c.sync.new.self in
    let same = c.in_ok-look.ensures.same told in
    looked_opens s0 s1 s2 _ (λ f b left. g.met.H.Host.only_now c.args.host.now f b told left) (looks s0 s1 same)
    (synced_opens s1 s2 _ (λ f b left. g.met.H.Host.only_now c.look.new.self f b told left)
    (image_there s0 s1 c.in_ok-look.field-0 _ (c.requires told) same (c.in_ok-look.ensures.found told) c.in-Some.is)
    (c.sync.ensures.synced told))

pub returns-in-Some-clause-rest : goal.returns-in-Some-clause-rest
returns-in-Some-clause-rest g c = λ told.
    let s0 = g.H.Host.state c.args.host.now in
    let s1 = g.H.Host.state c.look.new.self in
    on_ok c.sync.result _ (λ done. synced_rest s1 (g.H.Host.state c.sync.new.self) _ done
    (image_there s0 s1 c.in_ok-look.field-0 _ (c.requires told) (c.in_ok-look.ensures.same told) (c.in_ok-look.ensures.found told) c.in-Some.is)
    (c.sync.ensures.synced told))

pub returns-in-Some-clause-same : goal.returns-in-Some-clause-same
returns-in-Some-clause-same g c = λ told.
    on_ok c.sync.result _ (λ done. synced_same (g.H.Host.state c.args.host.now) (g.H.Host.state c.look.new.self) (g.H.Host.state c.sync.new.self) _
    (λ t f le leaves. g.met.H.Host.counts_now c.args.host.now t f told le leaves) (c.in_ok-look.ensures.same told) (c.sync.ensures.synced told))

use Rattle.std.proofs.Common.{◌∙◌, ap, inl, subst}
use Rattle.aria_host.specs.Folder.{Folder}
use Rattle.aria_host.proofs.Moments.{narrows_then}
use Rattle.aria_pager.specs.Found.{Names}
use Rattle.aria_pager.proofs.Founding.{listed_is, listed_on}
use Rattle.aria_pager.proofs.FolderFound.{begins_behind, begins_before, begins_others, all_found, log_refuses}
use Rattle.aria_pager.proofs.find.find.Goals as goal

pub returns-in_err-files-clause-begins : goal.returns-in_err-files-clause-begins
returns-in_err-files-clause-begins g c = λ told.
    inl (narrows_then (g.H.Host.state c.args.host.now) (g.H.Host.state c.read.new.host) (g.H.Host.state c.names.new.self) (λ k f le leaves. g.met.H.Host.counts_now c.args.host.now k f told le leaves)
    (c.in_ok-found.ensures.same told) (c.in_err-files.ensures.same told))

pub returns-in_err-control-clause-begins : goal.returns-in_err-control-clause-begins
returns-in_err-control-clause-begins g c = λ told.
    let s = g.H.Host.state c.args.host.now in
    let m = g.H.Host.state c.names.new.self in
    begins_behind s m (g.H.Host.state c.settle_control.new.host) (λ f b left. g.met.H.Host.only_now c.args.host.now f b told left) (λ k f le leaves. g.met.H.Host.counts_now c.args.host.now k f told le leaves)
    (narrows_then s (g.H.Host.state c.read.new.host) m (λ k f le leaves. g.met.H.Host.counts_now c.args.host.now k f told le leaves) (c.in_ok-found.ensures.same told) (c.in_ok-files.ensures.same told))
    (c.in_err-control.ensures.begins told)

pub read_log-requires-clause-listed : goal.read_log-requires-clause-listed
read_log-requires-clause-listed g c = λ told.
    let m = g.H.Host.state c.names.new.self in
    let t = g.H.Host.state c.settle_control.new.host in
    listed_on c.in_ok-files.files m.folder t.folder (begins_others m t (c.in_ok-control.ensures.begins told))
    (listed_on c.in_ok-files.files (g.H.Host.state c.read.new.host).folder m.folder (λ f other. ap (λ (d : Folder). d f) (c.in_ok-files.ensures.same told).folder)
    (listed_is c.in_ok-files.files (g.H.Host.state c.read.new.host).folder (c.in_ok-files.ensures.names told)))

pub returns-clause-found : goal.returns-clause-found
returns-clause-found g c = λ told.
    let s = g.H.Host.state c.args.host.now in
    let l = g.H.Host.state c.read.new.host in
    let m = g.H.Host.state c.names.new.self in
    let t = g.H.Host.state c.settle_control.new.host in
    let same = (c.in_ok-files.ensures.same told).folder ∙ (c.in_ok-found.ensures.same told).folder in
    let others = begins_others m t (c.in_ok-control.ensures.begins told) in
    all_found s t (g.H.Host.state c.read_log.new.host) c.read_log.result c.in_ok-control.control c.in_ok-files.files
    (λ f other. others f other ∙ ap (λ (d : Folder). d f) same)
    (subst (λ (d : Folder). Names d c.in_ok-control.control) same (c.in_ok-control.ensures.named told)) (c.in_ok-control.ensures.kept told) (c.in_ok-control.ensures.names told)
    (listed_on c.in_ok-files.files m.folder t.folder others
    (listed_on c.in_ok-files.files l.folder m.folder (λ f other. ap (λ (d : Folder). d f) (c.in_ok-files.ensures.same told).folder) (listed_is c.in_ok-files.files l.folder (c.in_ok-files.ensures.names told))))
    (c.read_log.ensures.same told) (c.read_log.ensures.read told)

pub returns-clause-refused : goal.returns-clause-refused
returns-clause-refused g c = λ told.
    let s = g.H.Host.state c.args.host.now in
    let m = g.H.Host.state c.names.new.self in
    let t = g.H.Host.state c.settle_control.new.host in
    let same = (c.in_ok-files.ensures.same told).folder ∙ (c.in_ok-found.ensures.same told).folder in
    log_refuses s t c.read_log.result c.in_ok-control.control (λ f other. begins_others m t (c.in_ok-control.ensures.begins told) f other ∙ ap (λ (d : Folder). d f) same)
    (subst (λ (d : Folder). Names d c.in_ok-control.control) same (c.in_ok-control.ensures.named told)) (c.read_log.ensures.refused told)

pub returns-clause-begins : goal.returns-clause-begins
returns-clause-begins g c = λ told.
    let s = g.H.Host.state c.args.host.now in
    let m = g.H.Host.state c.names.new.self in
    let t = g.H.Host.state c.settle_control.new.host in
    begins_before s t (g.H.Host.state c.read_log.new.host) (λ k f le leaves. g.met.H.Host.counts_now c.args.host.now k f told le leaves) (λ k f le leaves. g.met.H.Host.counts_now c.settle_control.new.host k f told le leaves)
    (begins_behind s m t (λ f b left. g.met.H.Host.only_now c.args.host.now f b told left) (λ k f le leaves. g.met.H.Host.counts_now c.args.host.now k f told le leaves)
    (narrows_then s (g.H.Host.state c.read.new.host) m (λ k f le leaves. g.met.H.Host.counts_now c.args.host.now k f told le leaves) (c.in_ok-found.ensures.same told) (c.in_ok-files.ensures.same told))
    (c.in_ok-control.ensures.begins told))
    (c.read_log.ensures.same told)

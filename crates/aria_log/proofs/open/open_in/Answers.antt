use Rattle.std.proofs.Common.{◌∙◌, inr, sym, subst}
use Rattle.aria_page.specs.declared.lsn.Lsn.{Lsn}
use Rattle.aria_host.specs.Folder.{Folder}
use Rattle.aria_host.proofs.Moments.{narrows_then}
use Rattle.aria_log.specs.Pieces.{log_files}
use Rattle.aria_log.specs.Log.{AreAtRest}
use Rattle.aria_log.specs.Finding.{IsLast}
use Rattle.aria_log.proofs.Opening.{AreInRow, found_last, found_row, found_opened}
use Rattle.aria_log.proofs.open.open_in.Goals as goal

pub settle-requires-clause-last : goal.settle-requires-clause-last
settle-requires-clause-last g c = λ told.
    let folder = (g.H.Host.state c.args.host.now).folder in
    subst (λ (f : Folder). IsLast (log_files f) c.start_of.result.file c.in_ok-log.field-0.log.last) (sym (c.in_ok-log.ensures.same told).folder)
    (subst (λ (l : Lsn). IsLast (log_files folder) l.file c.in_ok-log.field-0.log.last) (sym c.start_of.ensures.is) (found_last c.args.from (log_files folder) c.in_ok-log.field-0 (c.in_ok-log.ensures.found told)))

pub settle-requires-clause-stand : goal.settle-requires-clause-stand
settle-requires-clause-stand g c = λ told.
    let folder = (g.H.Host.state c.args.host.now).folder in
    subst (λ (f : Folder). AreInRow (log_files f) c.start_of.result.file) (sym (c.in_ok-log.ensures.same told).folder)
    (subst (λ (l : Lsn). AreInRow (log_files folder) l.file) (sym c.start_of.ensures.is) (found_row c.args.from (log_files folder) c.in_ok-log.field-0 (c.in_ok-log.ensures.found told)))

pub returns-in_err-settle-clause-same : goal.returns-in_err-settle-clause-same
returns-in_err-settle-clause-same g c = λ told.
    narrows_then (g.H.Host.state c.args.host.now) (g.H.Host.state c.find.new.host) (g.H.Host.state c.settle.new.host) (λ t f le leaves. g.met.H.Host.counts_now c.args.host.now t f told le leaves)
    (c.in_ok-log.ensures.same told) (c.in_err-settle.ensures.same told)

pub returns-clause-opened : goal.returns-clause-opened
returns-clause-opened g c = λ told.
    let s1 = g.H.Host.state c.find.new.host in
    let s2 = g.H.Host.state c.settle.new.host in
    inr (found_opened c.args.from (g.H.Host.state c.args.host.now) s2 c.in_ok-log.field-0 (c.in_ok-log.ensures.found told) c.in_default.is ((c.in_ok-settle.ensures.same told).folder ∙ (c.in_ok-log.ensures.same told).folder)
    (subst (λ (l : Lsn). AreAtRest s2 l.file) c.start_of.ensures.is (c.in_ok-settle.ensures.rest told)))

pub returns-clause-same : goal.returns-clause-same
returns-clause-same g c = λ told.
    narrows_then (g.H.Host.state c.args.host.now) (g.H.Host.state c.find.new.host) (g.H.Host.state c.settle.new.host) (λ t f le leaves. g.met.H.Host.counts_now c.args.host.now t f told le leaves)
    (c.in_ok-log.ensures.same told) (c.in_ok-settle.ensures.same told)

use Rattle.std.proofs.Common.{is_ok}
use Rattle.aria_host.proofs.Answered.{on_ok}
use Rattle.aria_log.proofs.Cutting.{cut_all, cut_failed, cut_file}
use Rattle.aria_log.proofs.log.Log.cut_end.Goals as goal

pub returns-in_err-cut-clause-moments : goal.returns-in_err-cut-clause-moments
returns-in_err-cut-clause-moments g c = λ told base groups is.
    let (content, there, size) = c.requires.pages told in
    cut_failed c.args.self.now (g.H.Host.state c.args.host.now) (g.H.Host.state c.cut.new.self) _ base groups _ _ content (λ f b left. g.met.H.Host.only_now c.args.host.now f b told left) is
    c.file_of.ensures.is c.page_of.ensures.is there (c.in_err-cut.ensures.cut told)

pub returns-clause-opened : goal.returns-clause-opened
returns-clause-opened g c = λ told base groups is.
    let (content, there, size) = c.requires.pages told in
    on_ok c.sync.result _ (cut_all c.args.self.now (g.H.Host.state c.args.host.now) (g.H.Host.state c.cut.new.self) (g.H.Host.state c.sync.new.self) (is_ok c.sync.result) base groups _ _ content
    (λ f b left. g.met.H.Host.only_now c.args.host.now f b told left) (λ f b left. g.met.H.Host.only_now c.cut.new.self f b told left) is
    c.file_of.ensures.is c.page_of.ensures.is there (c.in_ok-cut.ensures.cut told) (c.sync.ensures.synced told)).0

pub returns-clause-cut : goal.returns-clause-cut
returns-clause-cut g c = λ told.
    on_ok c.sync.result _ (λ done. cut_file _ _ _ _ (g.H.Host.state c.args.host.now) (g.H.Host.state c.cut.new.self) (g.H.Host.state c.sync.new.self) (is_ok c.sync.result) c.file_of.ensures.is c.page_of.ensures.is
    (c.in_ok-cut.ensures.cut told) (c.sync.ensures.synced told))

pub returns-clause-moments : goal.returns-clause-moments
returns-clause-moments g c = λ told base groups is.
    let (content, there, size) = c.requires.pages told in
    (cut_all c.args.self.now (g.H.Host.state c.args.host.now) (g.H.Host.state c.cut.new.self) (g.H.Host.state c.sync.new.self) (is_ok c.sync.result) base groups _ _ content
    (λ f b left. g.met.H.Host.only_now c.args.host.now f b told left) (λ f b left. g.met.H.Host.only_now c.cut.new.self f b told left) is
    c.file_of.ensures.is c.page_of.ensures.is there (c.in_ok-cut.ensures.cut told) (c.sync.ensures.synced told)).1

use Rattle.std.proofs.Common.{◌∙◌, ap, sym}
use Rattle.aria_host.specs.Folder.{Folder, page_at}
use Rattle.aria_pager.proofs.Settling.{from_page}
use Rattle.aria_pager.proofs.settle.is_from.Goals as goal

pub returns-clause-is : goal.returns-clause-is
returns-clause-is g c = λ told.
    let same = (c.in_ok-extent.ensures.same told).folder in
    from_page c.args.at ((g.H.Host.state c.args.host.now).folder c.args.file.now) c.read_page.new.into c.lsn.result c.is_before.result
    (ap (λ (d : Folder). page_at c.args.file.now 0 d) (sym same) ∙ c.in_ok-read_page.ensures.page told) c.lsn.ensures.value c.is_before.ensures

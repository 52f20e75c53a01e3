use Rattle.std.proofs.Common.{◌∙◌, sym, ap}
use Rattle.aria_host.specs.Folder.{Folder}
use Rattle.aria_control.specs.Found.{control_file}
use Rattle.aria_log.proofs.Cutting.{found_none}
use Rattle.aria_pager.proofs.Beginning.{none_durable}
use Rattle.aria_pager.proofs.begin.sync_control.Goals as goal

pub returns-in-None-clause-durable : goal.returns-in-None-clause-durable
returns-in-None-clause-durable g c = λ told f leaves.
    let s = g.H.Host.state c.args.host.now in
    let same = c.in_ok-look.ensures.same told in
    none_durable s control_file tt (c.requires.names told) (found_none (s.folder control_file) (sym c.in-None.is ∙ c.in_ok-look.ensures.found told)) f (same.images.no_more f leaves)
    ∙ sym (ap (λ (d : Folder). d control_file) same.folder)

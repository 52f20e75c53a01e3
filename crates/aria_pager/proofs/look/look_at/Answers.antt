use Rattle.std.proofs.Common.{◌∙◌, List, ap, sym, subst}
use Rattle.std.proofs.lemmas.Result.{err_from_is_err_and}
use Rattle.aria_host.specs.declared.file_name.FileName.{FileName}
use Rattle.aria_host.specs.Folder.{Folder}
use Rattle.aria_record.specs.Logged.{lsn_at_place}
use Rattle.aria_pager.specs.Entered.{AreListed}
use Rattle.aria_pager.specs.Opening.{OfGroups}
use Rattle.aria_pager.proofs.Again.{if_err_at}
use Rattle.aria_pager.proofs.LogRead.{opened_end}
use Rattle.aria_pager.proofs.Inspecting.{of_looked, listed_all}
use Rattle.aria_pager.proofs.look.look_at.Goals as goal

pub returns-in_err-look_found-clause-why : goal.returns-in_err-look_found-clause-why
returns-in_err-look_found-clause-why g c = λ told checkpoint base groups is.
    let s = g.H.Host.state c.args.host.now in
    let t = g.H.Host.state c.look_found.new.host in
    let e = err_from_is_err_and c.from_residual.result c.from_residual.ensures.1 in
    let f = c.in_err-look_found.field-0.0 in
    let look = c.in_err-look_found.ensures in
    if_err_at c.from_residual.result (OfGroups base groups s.folder t.folder) e.0 f e.1 e.2
    (subst (λ (d : Folder). OfGroups base groups s.folder d f) (sym (look.same told).folder)
    (of_looked g.H.Host.tells c.args.found.log s base groups _ f told is.found.log look.cause.only (look.missing told checkpoint groups is.has) (look.many checkpoint groups is.has) (look.edited checkpoint groups is.has)))

pub returns-in-None-clause-looked : goal.returns-in-None-clause-looked
returns-in-None-clause-looked g c = λ told checkpoint base groups is.
    let s = g.H.Host.state c.args.host.now in
    let (n, holds, same) = opened_end c.args.found.log s base groups _ is.found.log in
    let listed = subst (λ (l : List FileName). AreListed l s.folder groups) (sym c.as_slice.ensures) (listed_all c.args.found.files s.folder groups is.listed) in
    (rw c.in-None.is at (c.in_ok-look_found.ensures.settled told checkpoint base groups is.found is.has is.low listed), n, holds, c.end-end.ensures.is ∙ ap lsn_at_place same)

pub returns-clause-looked : goal.returns-clause-looked
returns-clause-looked g c = λ told checkpoint base groups is.
    let s = g.H.Host.state c.args.host.now in
    let listed = subst (λ (l : List FileName). AreListed l s.folder groups) (sym c.as_slice.ensures) (listed_all c.args.found.files s.folder groups is.listed) in
    rw c.in-Some.is at (c.in_ok-look_found.ensures.settled told checkpoint base groups is.found is.has is.low listed)

use Rattle.std.proofs.Common.{◌∙◌, ap, sym, refl, arith}
use Rattle.std.proofs.lemmas.Result.{err_from_is_err_and}
use Rattle.aria_page.specs.declared.place.Part.TheVariants.{Keys}
use Rattle.aria_host.specs.declared.file_name.FileName.{FileName}
use Rattle.aria_host.specs.Folder.{Folder}
use Rattle.aria_host.specs.Seen.{page_or_zero}
use Rattle.aria_recovery.specs.Tables.{file}
use Rattle.aria_pager.proofs.Slotting.{table_err, table_disk, table_first}
use Rattle.aria_pager.proofs.page_store.PageStore.find_files.Goals as goal

pub returns-in_err-keys-clause-cause : goal.returns-in_err-keys-clause-cause
returns-in_err-keys-clause-cause g c =
    let p = err_from_is_err_and c.from_residual.result c.from_residual.ensures.1 in
    let s = g.H.Host.state c.args.host.now in
    table_err g.H.Host.tells c.args.self.now c.args.name.now s s (g.H.Host.state c.file_pages.new.host) _ p.0 c.from_residual.result p.1 p.2 refl refl (c.in_err-keys.ensures.cause c.args.self.now)

pub returns-in_err-rows-clause-cause : goal.returns-in_err-rows-clause-cause
returns-in_err-rows-clause-cause g c =
    let p = err_from_is_err_and c.from_residual-in_err-rows.result c.from_residual-in_err-rows.ensures.1 in
    let first = c.in_ok-keys.ensures.cause c.args.self.now in
    table_err g.H.Host.tells c.args.self.now c.args.name.now (g.H.Host.state c.args.host.now) (g.H.Host.state c.file_pages.new.host) (g.H.Host.state c.file_pages-2.new.host) _ p.0 c.from_residual-in_err-rows.result p.1 p.2 first.calm first.tell
    (c.in_err-rows.ensures.cause c.args.self.now)

pub returns-in_err-page-clause-cause : goal.returns-in_err-page-clause-cause
returns-in_err-page-clause-cause g c =
    let p = err_from_is_err_and c.from_residual-in_err-page.result c.from_residual-in_err-page.ensures.1 in
    let m = g.H.Host.state c.file_pages-2.new.host in
    let t = g.H.Host.state c.read_or_zero.new.host in
    let first = c.in_ok-keys.ensures.cause c.args.self.now in
    let second = c.in_ok-rows.ensures.cause c.args.self.now in
    table_err g.H.Host.tells c.args.self.now c.args.name.now (g.H.Host.state c.args.host.now) m t _ p.0 c.from_residual-in_err-page.result p.1 p.2 (second.calm ∙ first.calm) (second.tell ∙ first.tell)
    (table_disk g.H.Host.tells c.args.self.now c.args.name.now m t _ c.in_err-page.ensures.cause)

pub returns-in_err-check_first-clause-cause : goal.returns-in_err-check_first-clause-cause
returns-in_err-check_first-clause-cause g c =
    let p = err_from_is_err_and c.from_residual-in_err-check_first.result c.from_residual-in_err-check_first.ensures.1 in
    let m = g.H.Host.state c.file_pages-2.new.host in
    let t = g.H.Host.state c.read_or_zero.new.host in
    let first = c.in_ok-keys.ensures.cause c.args.self.now in
    let second = c.in_ok-rows.ensures.cause c.args.self.now in
    let third = c.in_ok-page.ensures.cause in
    table_err g.H.Host.tells c.args.self.now c.args.name.now (g.H.Host.state c.args.host.now) t t _ p.0 c.from_residual-in_err-check_first.result p.1 p.2 (third.calm ∙ second.calm ∙ first.calm) (third.tell ∙ second.tell ∙ first.tell)
    (table_first g.H.Host.tells c.args.self.now c.args.name.now t c.in_ok-page.page c.file_of-file.result c.end.result _ c.file_of-file.ensures c.end.ensures.is
    (λ told. c.in_ok-page.ensures.page told ∙ ap (λ (f : FileName). page_or_zero 0 (m.folder f)) c.file_of-file.ensures ∙ ap (λ (d : Folder). page_or_zero 0 (d (file c.args.name.now Keys))) (sym (c.in_ok-page.ensures.same told).folder))
    c.in_err-check_first.ensures.cause)

pub returns-clause-cause : goal.returns-clause-cause
returns-clause-cause g c =
    let first = c.in_ok-keys.ensures.cause c.args.self.now in
    let second = c.in_ok-rows.ensures.cause c.args.self.now in
    let third = c.in_ok-page.ensures.cause in
    record {
      only = tt;
      calm = third.calm ∙ second.calm ∙ first.calm;
      later = omega (arith, first.later, second.later, third.later);
      tell = third.tell ∙ second.tell ∙ first.tell;
    }

use Rattle.std.proofs.Common.{refl, sym, ap, ◌≡◌, ◌∙◌}
use Rattle.aria_host.specs.Folder.{Folder, with_page}
use Rattle.aria_control.specs.Found.{control_file}
use Rattle.aria_control.specs.ControlPage.{control_page}
use Rattle.aria_host.proofs.Answered.{on_ok}
use Rattle.aria_control.proofs.Kept.{kept_everywhere, still_named}
use Rattle.aria_control.proofs.writing.write.Goals as goal

pub returns-clause-kept : goal.returns-clause-kept
returns-clause-kept g c = λ told storable.
    let old = g.H.Host.state c.args.host.now in
    let new = g.H.Host.state c.sync.new.self in
    let syncs = c.sync.ensures.synced told in
    let folder : new.folder ≡ with_page control_file 0 (control_page c.args.control.now) old.folder =
    syncs.folder ∙ (c.in_ok-write_page.ensures.written told).whole refl ∙ ap (λ page. with_page control_file 0 page old.folder) c.page_of-page.ensures.page in
    on_ok c.sync.result _ (λ done. kept_everywhere c.args.control.now old new (c.page_of-page.ensures.found storable old.folder (c.requires told)) folder
    (λ f leaves there. syncs.durable done f leaves there ∙ sym (ap (λ (g : Folder). g control_file) syncs.folder)))

pub returns-in_err-write_page-clause-named : goal.returns-in_err-write_page-clause-named
returns-in_err-write_page-clause-named g c = λ told.
    still_named (g.H.Host.state c.args.host.now) (g.H.Host.state c.write_page.new.self) 0 _ (c.in_err-write_page.ensures.written told).images

pub returns-clause-named : goal.returns-clause-named
returns-clause-named g c = λ told named f leaves.
    still_named (g.H.Host.state c.args.host.now) (g.H.Host.state c.write_page.new.self) 0 _ (c.in_ok-write_page.ensures.written told).images named f ((c.sync.ensures.synced told).no_more f leaves)

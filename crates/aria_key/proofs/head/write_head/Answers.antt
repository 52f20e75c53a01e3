use Rattle.aria_page.specs.declared.group.RedoKind.TheVariants.{Index}
use Rattle.aria_key.proofs.Sparing.{set_result}
use Rattle.aria_key.proofs.head.write_head.Goals as goal

pub returns-clause-written : goal.returns-clause-written
returns-clause-written g c = λ t header there.
    set_result c.edit_page.result g.P.Pages.logged Index c.args.slot c.args.key c.args.root c.args.free c.u32_bytes-first.result c.u32_bytes-top.result header (g.P.Pages.state c.args.pages.now) (g.P.Pages.state c.edit_page.new.pages)
    (c.edit_page.ensures.edits t) c.u32_bytes-first.ensures c.u32_bytes-top.ensures there

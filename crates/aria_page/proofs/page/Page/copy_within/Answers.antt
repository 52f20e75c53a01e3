use Rattle.std.proofs.Common.{◌∙◌, arith}
use Rattle.aria_page.proofs.Edits.{copied_is}
use Rattle.aria_page.proofs.page.Page.copy_within.Goals as goal

pub returns-clause-bytes : goal.returns-clause-bytes
returns-clause-bytes c =
    rw (← c.self.view_is) (c.copy_within.ensures.after ∙ copied_is c.args.at c.args.len c.args.to c.self.inside.bytes (omega (arith, c.self.told, c.requires.from)))

use Rattle.std.proofs.Common.{◌+◌, ◌-◌, ◌%◌, ◌∙◌, arith}
use Rattle.aria_block.proofs.Causing.{edit_counts}
use Rattle.aria_block.proofs.codes.set_code.Goals as goal

pub returns-clause-counts : goal.returns-clause-counts
returns-clause-counts g c =
    edit_counts c.edit.result c.args.slot (c.args.page - c.args.page % 21809 + 1) (g.P.Pages.state c.args.pages.now) (g.P.Pages.state c.load-2.new.self) (g.P.Pages.state c.edit.new.self)
    (c.in_ok-load-2.ensures.loads.counts ∙ c.in_ok-load.ensures.loads.counts) (c.in_ok-load-2.ensures.loads.slots.name ∙ c.in_ok-load.ensures.loads.slots.name) (omega (arith, c.requires.below)) c.edit.ensures.counts

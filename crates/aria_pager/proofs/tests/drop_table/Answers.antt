use Rattle.std.proofs.Common.{refl, ◌∙◌}
use Rattle.aria_pager.proofs.Usable.{rests_standing}
use Rattle.aria_pager.proofs.tests.drop_table.Goals as goal

pub returns : goal.returns
returns c =
    let on = c.requires.stands in
    let turned = (c.drop_table.ensures.moves refl on.0 on.1 on.2 on.3 on.4).turned in
    rests_standing _ _ on.0 on.1 _ turned.forced' turned.standing c.drop_table.ensures.tidy (c.drop_table.ensures.same.in_group ∙ c.requires.idle)

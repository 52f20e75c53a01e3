use Rattle.std.proofs.Common.{refl, ◌∙◌}
use Rattle.aria_pager.proofs.Usable.{rests_stays}
use Rattle.aria_pager.proofs.tests.look.Goals as goal

pub returns-in_err-load : goal.returns-in_err-load
returns-in_err-load c = rests_stays _ _ _ _ c.slot_of.ensures.rests (c.load.ensures.moves refl) c.load.ensures.tidy (c.load.ensures.same.in_group ∙ c.slot_of.ensures.rests.idle)

pub returns : goal.returns
returns c = rests_stays _ _ _ _ c.slot_of.ensures.rests (c.load.ensures.moves refl) c.load.ensures.tidy (c.load.ensures.same.in_group ∙ c.slot_of.ensures.rests.idle)

use Rattle.std.proofs.Common.{refl, ◌∙◌}
use Rattle.aria_host.specs.MemHost.{mem_state}
use Rattle.aria_pager.proofs.Usable.{rests_stays}
use Rattle.aria_pager.proofs.tests.force.Goals as goal

pub returns : goal.returns
returns c = rests_stays c.args.store.now c.force.new.self (mem_state c.args.host.now) (mem_state c.force.new.host) c.requires (c.force.ensures.moves refl) c.force.ensures.tidy (c.force.ensures.same.in_group ∙ c.requires.idle)

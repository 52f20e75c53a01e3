use Rattle.std.proofs.Common.{refl, ◌∙◌, ap}
use Rattle.aria_host.specs.MemHost.{mem_state}
use Rattle.aria_pager.specs.declared.page_store.PageStore.{PageStore}
use Rattle.aria_pager.proofs.Usable.{rests_opens}
use Rattle.aria_pager.proofs.tests.slot_of.Goals as goal

pub returns-clause-rests : goal.returns-clause-rests
returns-clause-rests c = rests_opens c.args.store.now c.table.new.self (mem_state c.args.host.now) (mem_state c.table.new.host) c.requires (c.table.ensures.moves refl) c.table.ensures.tidy (ap (λ (v : PageStore). v.in_group) c.table.ensures.rest ∙ c.requires.idle)

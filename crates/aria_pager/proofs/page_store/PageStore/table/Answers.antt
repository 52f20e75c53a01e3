use Rattle.std.proofs.Common.{refl}
use Rattle.aria_pager.specs.Going.{opens_none}
use Rattle.aria_pager.proofs.Slotting.{table_opens}
use Rattle.aria_pager.proofs.page_store.PageStore.table.Goals as goal

pub returns-in-Some-clause-moves : goal.returns-in-Some-clause-moves
returns-in-Some-clause-moves g c = λ told. opens_none c.args.self.now (g.H.Host.state c.args.host.now) (λ f b left. g.met.H.Host.only_now c.args.host.now f b told left)

pub returns-in-Some-slot_of_table-clause-moves : goal.returns-in-Some-slot_of_table-clause-moves
returns-in-Some-slot_of_table-clause-moves g c = λ told. opens_none c.args.self.now (g.H.Host.state c.args.host.now) (λ f b left. g.met.H.Host.only_now c.args.host.now f b told left)

pub returns-clause-moves : goal.returns-clause-moves
returns-clause-moves g c = λ told.
    let mid = c.open_table-answer.new.self in
    table_opens c.args.self.now mid mid.in_group mid.made mid.lent c.fault_of_slot-self.result (g.H.Host.state c.args.host.now) (g.H.Host.state c.open_table-answer.new.host) (λ f b left. g.met.H.Host.only_now c.args.host.now f b told left)
    (g.met.H.Host.reads_now c.open_table-answer.new.host told) (c.open_table-answer.ensures.same told) c.args.name.now c.open_table-answer.result c.in_default.is c.fault_of_slot-self.ensures c.requires.known
    (c.in_default-slot_of_table.ensures.none refl) (c.requires.tidy.closed c.requires.idle c.in_default.is) c.open_table-answer.ensures.gives c.open_table-answer.ensures.failed (c.open_table-answer.ensures.pager told)

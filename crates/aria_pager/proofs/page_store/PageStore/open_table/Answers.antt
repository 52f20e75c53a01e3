use Rattle.std.proofs.Common.{cond, ◌∙◌, Some, ap}
use Rattle.aria_page.specs.declared.place.Part.TheVariants.{Keys, Rows}
use Rattle.aria_pager.specs.declared.slot.Slot.{Slot}
use Rattle.aria_value.specs.Named.{same_name}
use Rattle.aria_pager.specs.Pager.{known}
use Rattle.aria_pager.specs.PageStore.{set_at}
use Rattle.aria_pager.proofs.Editing.{on_err}
use Rattle.aria_pager.proofs.Slotting.{Taken, gives, sizes_end, taken_pager, taken_tidy, reserved_tidy, reserved_of, reserved_kept, there_count}
use Rattle.aria_pager.proofs.page_store.PageStore.open_table.Given as given
use Rattle.aria_pager.proofs.page_store.PageStore.open_table.Goals as goal

pub returns-in_err-n-clause-tidy : goal.returns-in_err-n-clause-tidy
returns-in_err-n-clause-tidy g c = reserved_tidy c.args.self.now c.reserve.new.self (reserved_of c.args.self.now c.reserve.new.self c.in_err-n.ensures.rest c.in_err-n.ensures.reserves)

pub returns-in_err-take_slot-clause-failed : goal.returns-in_err-take_slot-clause-failed
returns-in_err-take_slot-clause-failed g c = on_err c.from_residual-in_err-take_slot.result
    (reserved_kept c.args.self.now c.reserve.new.self c.take_slot.new.self c.in_ok-n.ensures.rest c.in_ok-n.ensures.reserves c.in_err-take_slot.ensures.rest c.in_err-take_slot.ensures.failed.0 c.in_err-take_slot.ensures.failed.1)

pub returns-in_err-take_slot-clause-tidy : goal.returns-in_err-take_slot-clause-tidy
returns-in_err-take_slot-clause-tidy g c = reserved_tidy c.args.self.now c.take_slot.new.self
    (reserved_kept c.args.self.now c.reserve.new.self c.take_slot.new.self c.in_ok-n.ensures.rest c.in_ok-n.ensures.reserves c.in_err-take_slot.ensures.rest c.in_err-take_slot.ensures.failed.0 c.in_err-take_slot.ensures.failed.1)

-- a slot was taken
taken : (g : given.Over) (c : goal.In_ok-take_slot g) → Taken c.args.self.now c.reserve.new.self c.take_slot.new.self c.args.name.now c.in_ok-n.n c.in_ok-keys.keys c.in_ok-keys.rows
taken g c = record {
  reserved = c.in_ok-n.ensures.rest;
  more = c.in_ok-n.ensures.reserves;
  free = c.in_ok-n.ensures.free;
  there = c.in_ok-n.ensures.there;
  taken = c.in_ok-take_slot.ensures.rest;
  slots = c.in_ok-take_slot.ensures.slots ∙ ap (set_at c.reserve.new.self.slots c.in_ok-n.n) c.given_slot.ensures;
  knows = λ q. c.in_ok-take_slot.ensures.knows q ∙ ap (λ (x : Slot). cond (same_name x.name q) (Some (Some c.in_ok-n.n)) (known c.reserve.new.self q)) c.given_slot.ensures;
}

pub returns-clause-pager : goal.returns-clause-pager
returns-clause-pager g c = λ told base start groups forced closed idle is.
    let there = c.in_ok-keys.ensures.there told in
    let few = c.in_ok-keys.ensures.few in
    taken_pager c.args.self.now c.reserve.new.self c.take_slot.new.self c.args.name.now c.in_ok-n.n c.in_ok-keys.keys c.in_ok-keys.rows (taken g c) (g.H.Host.state c.find_files.new.host) base start groups forced closed idle there.0 there.1 few.0 few.1 is

pub returns-clause-gives : goal.returns-clause-gives
returns-clause-gives g c = gives c.args.self.now c.reserve.new.self c.take_slot.new.self c.args.name.now c.in_ok-n.n c.in_ok-keys.keys c.in_ok-keys.rows (taken g c)

pub returns-clause-sizes : goal.returns-clause-sizes
returns-clause-sizes g c = λ told.
    let there = c.in_ok-keys.ensures.there told in
    let t = g.H.Host.state c.find_files.new.host in
    let keys = there_count c.args.name.now Keys t.folder c.in_ok-keys.keys there.0 in
    let rows = there_count c.args.name.now Rows t.folder c.in_ok-keys.rows there.1 in
    sizes_end c.args.self.now c.reserve.new.self c.take_slot.new.self c.args.name.now c.in_ok-n.n c.in_ok-keys.keys c.in_ok-keys.rows (taken g c) ∙ (λ i. Some (keys i, rows i))

pub returns-clause-tidy : goal.returns-clause-tidy
returns-clause-tidy g c =
    let few = c.in_ok-keys.ensures.few in
    taken_tidy c.args.self.now c.reserve.new.self c.take_slot.new.self c.args.name.now c.in_ok-n.n c.in_ok-keys.keys c.in_ok-keys.rows (taken g c) c.requires.none few.0 few.1

use Rattle.std.proofs.Common.{◌≡◌, ◌++◌, ◌∷◌, []}
use Rattle.aria_page.specs.Items.{items_at}
use Rattle.aria_page.proofs.Items.{goes_on, ends, is_done}
use Rattle.aria_record.specs.Reading.{read_edit}
use Rattle.aria_record.proofs.edit_codec.edits_from.Goals as goal

pub returns-in-None : goal.returns-in-None
returns-in-None c =
    let none = rw c.in-None.is at c.in_ok-edit_at.ensures in
    ends read_edit c.loop.edits c.args.count c.loop.counter c.loop.rest.now (items_at read_edit c.args.count c.args.bytes.now) c.loop-test.true none c.loop.invariant

pub loop-preserved : goal.loop-preserved
loop-preserved c =
    let some = rw c.in-Some.is at c.in_ok-edit_at.ensures in
    let more : c.push.new.self ≡ c.loop.edits ++ c.in-Some.edit ∷ [] = c.in_ok-push-in-Some.ensures.ok in
    rw more (goes_on read_edit c.loop.edits c.args.count c.loop.counter c.loop.rest.now c.in-Some.edit c.in-Some.after.now (items_at read_edit c.args.count c.args.bytes.now) c.loop-test.true some c.loop.invariant)

pub returns : goal.returns
returns c = is_done read_edit c.loop.edits c.args.count c.loop.counter c.loop.rest.now (items_at read_edit c.args.count c.args.bytes.now) c.loop-test.false c.loop.invariant

use Rattle.std.proofs.Common.{◌≡◌, ◌++◌, ◌∷◌, []}
use Rattle.aria_page.specs.Items.{items_at}
use Rattle.aria_page.proofs.Items.{goes_on, ends, is_done}
use Rattle.aria_page.proofs.stored.items_at.Goals as goal

pub returns-in-None : goal.returns-in-None
returns-in-None g c =
    let none = rw c.in-None.is at c.in_ok-read.ensures in
    ends g.T.Stored.reads c.loop.items c.args.count c.loop.counter c.loop.rest.now (items_at g.T.Stored.reads c.args.count c.args.bytes.now) c.loop-test.true none c.loop.invariant

pub loop-preserved : goal.loop-preserved
loop-preserved g c =
    let some = rw c.in-Some.is at c.in_ok-read.ensures in
    let more : c.push.new.self ≡ c.loop.items ++ c.in-Some.item ∷ [] = c.in_ok-push-in-Some.ensures.ok in
    rw more (goes_on g.T.Stored.reads c.loop.items c.args.count c.loop.counter c.loop.rest.now c.in-Some.item c.in-Some.after.now (items_at g.T.Stored.reads c.args.count c.args.bytes.now) c.loop-test.true some c.loop.invariant)

pub returns : goal.returns
returns g c = is_done g.T.Stored.reads c.loop.items c.args.count c.loop.counter c.loop.rest.now (items_at g.T.Stored.reads c.args.count c.args.bytes.now) c.loop-test.false c.loop.invariant

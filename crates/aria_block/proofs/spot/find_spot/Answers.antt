use Rattle.std.proofs.Common.{rules}
use Rattle.aria_block.proofs.Spots.{finds}
use Rattle.aria_block.proofs.spot.find_spot.Goals as goal

pub returns : goal.returns
returns c = finds c.args.kind c.args.body.now c.in_ok-space.space c.lowest.result c.args.len c.fit.result c.in_ok-space.ensures (search rules) c.lowest.ensures c.fit.ensures

use Rattle.std.proofs.Common.{ℕ, List}
use Rattle.aria_record.proofs.InPlaces.{long_enough}
use Rattle.aria_record.proofs.edit_codec.whole_at.Goals as goal

pub returns-clause-within : goal.returns-clause-within
returns-clause-within c =
    let x : List ℕ × List ℕ = (c.in_ok-body.body.now, c.in_ok-body.rest.now) in
    long_enough 8181 c.args.bytes.now x c.in_ok-body.ensures

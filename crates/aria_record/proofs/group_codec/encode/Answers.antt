use Rattle.std.proofs.lemmas.List.Elements.{All-from_recursion}
use Rattle.aria_record.specs.Groups.{RecordFits}
use Rattle.aria_record.proofs.group_codec.encode.Goals as goal

pub push_group-requires-clause-each : goal.push_group-requires-clause-each
push_group-requires-clause-each c = rw c.as_slice.ensures (All-from_recursion RecordFits c.args.group.now c.requires.each)

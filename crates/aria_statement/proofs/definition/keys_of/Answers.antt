use Rattle.std.proofs.Common.{map, sym, ◌∙◌}
use Rattle.aria_statement.specs.Writing.{column_seen}
use Rattle.aria_statement.proofs.Collected.{collected, with_none}
use Rattle.aria_statement.proofs.Defining.{key_if, keys_collected}
use Rattle.aria_statement.proofs.definition.keys_of.Goals as goal

pub loop-key-init : goal.loop-key-init
loop-key-init c =
    let columns = map column_seen c.args.columns.now in
    rw c.new-keys.ensures (with_none (collected (key_if columns) c.args.written.now) ∙ sym (keys_collected columns c.args.written.now))

use Rattle.std.proofs.Common.{sym, ◌∙◌}
use Rattle.aria_statement.proofs.Collected.{collected, with_none}
use Rattle.aria_statement.proofs.Defining.{found_column, columns_collected}
use Rattle.aria_statement.proofs.definition.columns_of.Goals as goal

pub loop-column-init : goal.loop-column-init
loop-column-init c = rw c.new-columns.ensures (with_none (collected found_column c.args.written.now) ∙ sym (columns_collected c.args.written.now))

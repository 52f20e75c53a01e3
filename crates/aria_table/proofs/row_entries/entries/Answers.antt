use Rattle.aria_value.specs.Entry.{entry_bytes}
use Rattle.aria_table.proofs.Listing.{one_more}
use Rattle.aria_table.proofs.row_entries.entries.Goals as goal

pub loop-key-preserved : goal.loop-key-preserved
loop-key-preserved c =
    one_more (λ key. entry_bytes c.args.definition.now key c.args.row.now) c.loop-key.key c.loop-key.out c.push.new.self c.in_ok-entry.field-0 c.loop-key.invariant c.in_ok-entry.ensures.spelled c.in_ok-push.ensures.ok

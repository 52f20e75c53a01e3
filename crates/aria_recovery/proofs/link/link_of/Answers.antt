use Rattle.std.proofs.Common.{◌∙◌}
use Rattle.aria_recovery.proofs.Chaining.{link_last}
use Rattle.aria_recovery.proofs.link.link_of.Goals as goal

pub returns-in-Some : goal.returns-in-Some
returns-in-Some c = c.link_in.ensures ∙ link_last c.args.records.now c.in-Some.entry.now c.in-Some.ensures.value

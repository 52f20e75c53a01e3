use Rattle.std.proofs.Common.{◌∙◌}
use Rattle.aria_journal.proofs.AtRest.{unchanged_rests}
use Rattle.aria_journal.proofs.tests.empty_folder.Goals as goal

pub returns : goal.returns
returns c = unchanged_rests c.reserve.new.self (c.in_ok-reserve.ensures.same.changes ∙ c.new-host.ensures.changes)

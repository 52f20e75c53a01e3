use Rattle.std.proofs.Common.{◌∙◌}
use Rattle.aria_log.proofs.Testing.{no_log}
use Rattle.aria_readlog.proofs.tests.empty_folder.Goals as goal

pub returns : goal.returns
returns c = no_log c.reserve.new.self (c.in_ok-reserve.ensures.same.base ∙ c.new-host.ensures.base) (c.in_ok-reserve.ensures.same.changes ∙ c.new-host.ensures.changes)

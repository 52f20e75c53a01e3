use Rattle.aria_log.proofs.Purging.{lowest_none}
use Rattle.aria_log.proofs.purge.lowest.Goals as goal

pub loop-file-init : goal.loop-file-init
loop-file-init c = lowest_none c.args.first c.args.end c.requires

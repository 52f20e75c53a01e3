use Rattle.std.proofs.Common.{take}
use Rattle.aria_log.specs.Purge.{IsLowest}
use Rattle.aria_log.proofs.purge.lowest.Given as goal

abbrev pub invariant-loop-file : goal.invariant-loop-file
invariant-loop-file l = IsLowest (take l.file-index l.names) l.first l.end l.lowest

use Rattle.std.proofs.Common.{◌≡◌}
use Rattle.aria_host.specs.MemHost.{mem_state}
use Rattle.aria_log.specs.Pieces.{log_files}
use Rattle.aria_log.specs.Reading.{IsReader}
use Rattle.aria_log.proofs.Walking.{StandsBehind}
use Rattle.aria_log.proofs.tests.walking.walk.Given as goal

abbrev pub invariant-loop-nth : goal.invariant-loop-nth
invariant-loop-nth l = record {
  reader : IsReader l.reader (log_files (mem_state l.host).folder);
  stands : StandsBehind l.log (log_files (mem_state l.host).folder) l.found.end;
}

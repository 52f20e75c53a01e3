use Rattle.std.proofs.Common.{◌≡◌, ℕ, List}
use Rattle.aria_host.specs.Calls.{Unchanged}
use Rattle.aria_host.specs.MemHost.{mem_state}
use Rattle.aria_log.specs.Pieces.{log_files}
use Rattle.aria_record.specs.Logged.{lsn_at_place}
use Rattle.aria_log.specs.Reading.{Entry, IsReader, StandsAt}
use Rattle.aria_log.proofs.tests.crashes.count_groups.Given as goal

abbrev pub invariant-loop-nth : goal.invariant-loop-nth
invariant-loop-nth l = record {
  reader : IsReader l.reader (log_files (mem_state l.host).folder);
  stands : (at : ℕ) × (before : List Entry) × (more : List Entry) × StandsAt l.log (log_files (mem_state l.host).folder) at before more × (l.at ≡ lsn_at_place at);
  same : Unchanged (mem_state l.fn.host) (mem_state l.host);
}

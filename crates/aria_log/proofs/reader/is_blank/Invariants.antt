use Rattle.aria_log.proofs.PageReads.{AreZeros}
use Rattle.aria_log.proofs.reader.is_blank.Given as goal

abbrev pub invariant-loop-byte : goal.invariant-loop-byte
invariant-loop-byte l = AreZeros l.bits l.bytes l.byte-index

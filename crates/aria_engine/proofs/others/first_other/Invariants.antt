use Rattle.std.proofs.Common.{take}
use Rattle.aria_engine.specs.Opening.{IsFirst}
use Rattle.aria_engine.proofs.others.first_other.Given as goal

abbrev pub invariant-loop-file : goal.invariant-loop-file
invariant-loop-file l = IsFirst l.first (take l.file-index l.files)

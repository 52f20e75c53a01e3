use Rattle.std.proofs.Common.{take}
use Rattle.aria_recovery.specs.Noted.{NotesAll}
use Rattle.aria_recovery.proofs.lives.note_all.Given as goal

abbrev pub invariant-loop-entry : goal.invariant-loop-entry
invariant-loop-entry l = NotesAll l.fn.at (take l.entry-index l.records) l.fn.lives l.lives

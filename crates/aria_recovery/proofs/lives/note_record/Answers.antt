use Rattle.aria_recovery.proofs.Noting.{all_five, notes_redo}
use Rattle.aria_recovery.proofs.lives.note_record.Goals as goal

pub returns-in-Redo : goal.returns-in-Redo
returns-in-Redo c = rw c.in-Redo.is (all_five c.note.result c.note.ensures.edits c.note.ensures.reach c.note.ensures.told c.note.ensures.file_group c.note.ensures.names
    (notes_redo c.args.at c.in-Redo.kind c.in-Redo.table c.in-Redo.part c.in-Redo.page c.in-Redo.edits (c.has_edits.result) c.args.lives.now c.note.new.lives (rw c.as_slice.ensures at c.has_edits.ensures)))

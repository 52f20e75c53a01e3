-- The kinds of records, and the bytes that stand for them.
use Rattle.std.specs.Prelude.{ℕ, ◌==◌, List, [], ◌∷◌, Option, Some, None, if◌then◌else◌}
use Rattle.aria_page.specs.declared.group.RedoKind.{RedoKind}
use Rattle.aria_page.specs.declared.group.RedoKind.TheVariants as redo
use Rattle.aria_record.specs.declared.record_kind.RecordKind.{RecordKind}
use Rattle.aria_record.specs.declared.record_kind.RecordKind.TheVariants as kinds
use Rattle.aria_record.specs.declared.record.Record.{Record}
use Rattle.aria_record.specs.declared.record.Record.TheVariants as records

-- the byte of a kind of edits
abbrev pub redo_byte : RedoKind → ℕ
redo_byte redo.InsertRowHead = 1
redo_byte redo.InsertRowTail = 2
redo_byte redo.InsertRowBlobs = 3
redo_byte redo.PurgeRowHead = 4
redo_byte redo.PurgeRowTail = 5
redo_byte redo.FreeBlocks = 6
redo_byte redo.Index = 7
redo_byte redo.IndexNewPage = 8
redo_byte redo.IndexFreePage = 9
redo_byte redo.Bitmap = 20
redo_byte redo.State = 21

-- the byte of a kind
abbrev pub kind_byte : RecordKind → ℕ
kind_byte (kinds.Redo kind) = redo_byte kind
kind_byte kinds.RowInsert = 10
kind_byte kinds.RowDelete = 11
kind_byte kinds.KeyInsert = 12
kind_byte kinds.KeyDelete = 13
kind_byte kinds.ClrEnd = 14
kind_byte kinds.Commit = 15
kind_byte kinds.Checkpoint = 16
kind_byte kinds.CreateTable = 17
kind_byte kinds.DropTable = 18
kind_byte kinds.RepairTable = 19

-- all kinds
abbrev pub record_kinds : List RecordKind
record_kinds =
    kinds.Redo redo.InsertRowHead ∷ kinds.Redo redo.InsertRowTail ∷ kinds.Redo redo.InsertRowBlobs ∷ kinds.Redo redo.PurgeRowHead ∷ kinds.Redo redo.PurgeRowTail ∷ kinds.Redo redo.FreeBlocks
    ∷ kinds.Redo redo.Index ∷ kinds.Redo redo.IndexNewPage ∷ kinds.Redo redo.IndexFreePage ∷ kinds.RowInsert ∷ kinds.RowDelete ∷ kinds.KeyInsert ∷ kinds.KeyDelete ∷ kinds.ClrEnd ∷ kinds.Commit
    ∷ kinds.Checkpoint ∷ kinds.CreateTable ∷ kinds.DropTable ∷ kinds.RepairTable ∷ kinds.Redo redo.Bitmap ∷ kinds.Redo redo.State ∷ []

abbrev pub kind_in : List RecordKind → ℕ → Option RecordKind
kind_in [] byte = None
kind_in (kind ∷ others) byte = if kind_byte kind == byte then Some kind else kind_in others byte

-- the kind that a byte stands for
abbrev pub kind_with : ℕ → Option RecordKind
kind_with = kind_in record_kinds

-- the kind of a record
abbrev pub kind_of : Record → RecordKind
kind_of (records.Redo kind table part page edits) = kinds.Redo kind
kind_of (records.UndoRowInsert table prev places) = kinds.RowInsert
kind_of (records.UndoRowDelete table prev places row) = kinds.RowDelete
kind_of (records.UndoKeyInsert table prev key target entry) = kinds.KeyInsert
kind_of (records.UndoKeyDelete table prev key target entry) = kinds.KeyDelete
kind_of (records.ClrEnd table undone next) = kinds.ClrEnd
kind_of records.Commit = kinds.Commit
kind_of (records.Checkpoint redo dirty) = kinds.Checkpoint
kind_of (records.CreateTable table plain definition format) = kinds.CreateTable
kind_of (records.DropTable table) = kinds.DropTable
kind_of (records.RepairTable table) = kinds.RepairTable

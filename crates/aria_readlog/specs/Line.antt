-- How what stands in the log is told: a line for each record, and one for each void rest.
use Rattle.std.specs.Prelude.{ℕ, List, [], ◌++◌, length, codes, decimal}
use Rattle.std.specs.List.{flat_map}
use Rattle.aria_page.specs.declared.group.RedoKind.{RedoKind}
use Rattle.aria_page.specs.declared.group.RedoKind.TheVariants as redo
use Rattle.aria_page.specs.declared.lsn.Lsn.{Lsn}
use Rattle.aria_page.specs.declared.place.Part.{Part}
use Rattle.aria_page.specs.declared.place.Part.TheVariants.{Keys, Rows}
use Rattle.aria_page.specs.declared.place.Place.{Place}
use Rattle.aria_page.specs.Lsn.{lsn_text}
use Rattle.aria_record.specs.declared.record.Record.{Record}
use Rattle.aria_record.specs.declared.record.Record.TheVariants as records
use Rattle.aria_record.specs.declared.record_kind.RecordKind.{RecordKind}
use Rattle.aria_record.specs.declared.record_kind.RecordKind.TheVariants as kinds
use Rattle.aria_record.specs.RecordKind.{kind_of}

-- how a kind of edits is named
abbrev pub redo_name : RedoKind → List ℕ
redo_name redo.InsertRowHead = codes "REDO_INSERT_ROW_HEAD"
redo_name redo.InsertRowTail = codes "REDO_INSERT_ROW_TAIL"
redo_name redo.InsertRowBlobs = codes "REDO_INSERT_ROW_BLOBS"
redo_name redo.PurgeRowHead = codes "REDO_PURGE_ROW_HEAD"
redo_name redo.PurgeRowTail = codes "REDO_PURGE_ROW_TAIL"
redo_name redo.FreeBlocks = codes "REDO_FREE_BLOCKS"
redo_name redo.Index = codes "REDO_INDEX"
redo_name redo.IndexNewPage = codes "REDO_INDEX_NEW_PAGE"
redo_name redo.IndexFreePage = codes "REDO_INDEX_FREE_PAGE"
redo_name redo.Bitmap = codes "REDO_BITMAP"
redo_name redo.State = codes "REDO_STATE"

-- how a kind is named
abbrev pub kind_name : RecordKind → List ℕ
kind_name (kinds.Redo kind) = redo_name kind
kind_name kinds.RowInsert = codes "UNDO_ROW_INSERT"
kind_name kinds.RowDelete = codes "UNDO_ROW_DELETE"
kind_name kinds.KeyInsert = codes "UNDO_KEY_INSERT"
kind_name kinds.KeyDelete = codes "UNDO_KEY_DELETE"
kind_name kinds.ClrEnd = codes "CLR_END"
kind_name kinds.Commit = codes "COMMIT"
kind_name kinds.Checkpoint = codes "CHECKPOINT"
kind_name kinds.CreateTable = codes "REDO_CREATE_TABLE"
kind_name kinds.DropTable = codes "REDO_DROP_TABLE"
kind_name kinds.RepairTable = codes "REDO_REPAIR_TABLE"

-- the file of a table
abbrev pub part_name : Part → List ℕ
part_name Keys = codes "index"
part_name Rows = codes "data"

-- what was changed, where, and by how many edits
abbrev pub redo_text : List ℕ → Part → ℕ → ℕ → List ℕ
redo_text table part page edits =
    codes " " ++ (table ++ (codes " part " ++ (part_name part ++ (codes " page " ++ (decimal page ++ (codes " edits " ++ decimal edits))))))

-- a row by its head
abbrev pub row_text : List ℕ → Lsn → Place → List ℕ
row_text table prev head = codes " " ++ (table ++ (codes " prev " ++ (lsn_text prev ++ (codes " place " ++ (decimal head.page ++ (codes " " ++ decimal head.slot))))))

-- an entry of a key
abbrev pub key_text : List ℕ → Lsn → ℕ → List ℕ
key_text table prev key = codes " " ++ (table ++ (codes " key " ++ (decimal key ++ (codes " prev " ++ lsn_text prev))))

-- what was undone, and what is to be undone next
abbrev pub clr_text : List ℕ → Lsn → Lsn → List ℕ
clr_text table undone next = codes " " ++ (table ++ (codes " undone " ++ (lsn_text undone ++ (codes " next " ++ lsn_text next))))

-- where redo may start, and how many pages weren't written then
abbrev pub checkpoint_text : Lsn → ℕ → List ℕ
checkpoint_text redo dirty = codes " redo " ++ (lsn_text redo ++ (codes " dirty " ++ decimal dirty))

abbrev pub table_text : List ℕ → List ℕ
table_text table = codes " " ++ table

-- what is told of a record behind its kind
abbrev pub details : Record → List ℕ
details (records.Redo kind table part page edits) = redo_text table part page (length edits)
details (records.UndoRowInsert table prev places) = row_text table prev places.head
details (records.UndoRowDelete table prev places row) = row_text table prev places.head
details (records.UndoKeyInsert table prev key target entry) = key_text table prev key
details (records.UndoKeyDelete table prev key target entry) = key_text table prev key
details (records.ClrEnd table undone next) = clr_text table undone next
details records.Commit = []
details (records.Checkpoint redo dirty) = checkpoint_text redo (length dirty)
details (records.CreateTable table plain definition format) = table_text table
details (records.DropTable table) = table_text table
details (records.RepairTable table) = table_text table

abbrev pub record_text : Record → List ℕ
record_text r = kind_name (kind_of r) ++ details r

-- the line of a record of the group with this number
unfoldable pub record_line : Lsn → Record → List ℕ
record_line lsn r = lsn_text lsn ++ (codes " " ++ (record_text r ++ codes "\n"))

-- a line for each record of a group
abbrev pub group_lines : Lsn → List Record → List ℕ
group_lines lsn group = flat_map (record_line lsn) group

-- the line of a void rest of so many bytes
unfoldable pub rest_line : Lsn → ℕ → List ℕ
rest_line lsn bytes = lsn_text lsn ++ (codes " INCOMPLETE_GROUP " ++ (decimal bytes ++ codes "\n"))

-- the last line: how many groups there are, and how many void rests
unfoldable pub last_line : ℕ → ℕ → List ℕ
last_line groups rests = codes "groups " ++ (decimal groups ++ (codes " incomplete " ++ (decimal rests ++ codes "\n")))

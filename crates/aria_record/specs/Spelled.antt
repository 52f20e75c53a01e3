-- How groups of the log are spelled.
use Rattle.std.specs.Prelude.{ℕ, ◌+◌, ◌-◌, ◌*◌, Bool, List, [], ◌∷◌, ◌++◌, length, Option, Some, None, if◌then◌else◌}
use Rattle.std.specs.List.{flat_map}
use Rattle.aria_page.specs.declared.edit.Edit.{Edit}
use Rattle.aria_page.specs.declared.edit.Edit.TheVariants.{Set, Shift, Whole}
use Rattle.aria_page.specs.declared.place.Part.{Part}
use Rattle.aria_page.specs.declared.place.Part.TheVariants.{Keys, Rows}
use Rattle.aria_page.specs.declared.place.Place.{Place}
use Rattle.aria_page.specs.declared.place.Places.{Places}
use Rattle.aria_page.specs.Number.{number}
use Rattle.aria_page.specs.declared.lsn.Lsn.{Lsn}
use Rattle.aria_page.specs.Lsn.{lsn_bytes}
use Rattle.aria_page.specs.Text.{counted, name_bytes}
use Rattle.aria_page.specs.Items.{list_bytes}
use Rattle.aria_record.specs.RecordKind.{kind_byte, kind_of}
use Rattle.aria_record.specs.declared.record.Dirty.{Dirty}
use Rattle.aria_record.specs.declared.record.Record.{Record}
use Rattle.aria_record.specs.declared.record.Record.TheVariants.{Redo, UndoRowInsert, UndoRowDelete, UndoKeyInsert, UndoKeyDelete, ClrEnd, Commit, Checkpoint, CreateTable, DropTable, RepairTable}

-- ---- fields

abbrev pub part_bytes : Part → List ℕ
part_bytes Keys = number 1 0
part_bytes Rows = number 1 1

-- a page and its directory entry
abbrev pub place_bytes : Place → List ℕ
place_bytes place = number 4 place.page ++ number 1 place.slot

-- of a row without a tail, zeros
abbrev pub tail_bytes : Option Place → List ℕ
tail_bytes None = number 4 0 ++ number 1 0
tail_bytes (Some place) = place_bytes place

-- head, tail, the first blob page and the number of blob pages
abbrev pub places_bytes : Places → List ℕ
places_bytes places = place_bytes places.head ++ (tail_bytes places.tail ++ (number 4 places.blob ++ number 1 places.blobs))

-- a byte for the kind; then where, how many and which bytes, or from where, how many and to where, or a whole body
abbrev pub edit_bytes : Edit → List ℕ
edit_bytes (Set at bytes) = 0 ∷ (number 2 at ++ counted 2 bytes)
edit_bytes (Shift at len to) = 1 ∷ (number 2 at ++ (number 2 len ++ number 2 to))
edit_bytes (Whole body) = 2 ∷ body

-- the page and the log entry since which it is changed
abbrev pub dirty_bytes : Dirty → List ℕ
dirty_bytes dirty = name_bytes dirty.table ++ (part_bytes dirty.part ++ (number 4 dirty.page ++ lsn_bytes dirty.since))

-- ---- entries

-- 0 for a transactional and 1 for a plain table of format 1, and 2 more in format 2
abbrev pub table_number : Bool → ℕ → ℕ
table_number plain format = (if plain then 1 else 0) + 2 * (format - 1)

-- the table, the undo record before this one, and the places of a row
abbrev pub row_head : List ℕ → Lsn → Places → List ℕ
row_head table prev places = name_bytes table ++ (lsn_bytes prev ++ places_bytes places)

-- the table, the undo record before this one, the key and the target
abbrev pub key_head : List ℕ → Lsn → ℕ → ℕ → List ℕ
key_head table prev key target = name_bytes table ++ (lsn_bytes prev ++ (number 1 key ++ number 5 target))

-- what an entry has behind its kind and its length
abbrev pub body_bytes : Record → List ℕ
body_bytes (Redo kind table part page edits) = name_bytes table ++ (part_bytes part ++ (number 4 page ++ list_bytes edit_bytes edits))
body_bytes (UndoRowInsert table prev places) = row_head table prev places
body_bytes (UndoRowDelete table prev places row) = row_head table prev places ++ row
body_bytes (UndoKeyInsert table prev key target entry) = key_head table prev key target ++ entry
body_bytes (UndoKeyDelete table prev key target entry) = key_head table prev key target ++ entry
body_bytes (ClrEnd table undone next) = name_bytes table ++ (lsn_bytes undone ++ lsn_bytes next)
body_bytes Commit = []
body_bytes (Checkpoint redo dirty) = lsn_bytes redo ++ (number 4 (length dirty) ++ flat_map dirty_bytes dirty)
body_bytes (CreateTable table plain definition format) = (name_bytes table ++ number 1 (table_number plain format)) ++ definition
body_bytes (DropTable table) = name_bytes table
body_bytes (RepairTable table) = name_bytes table

-- a byte for the kind, the length of the body in 4 bytes, and the body
abbrev pub record_bytes : Record → List ℕ
record_bytes r = number 1 (kind_byte (kind_of r)) ++ counted 4 (body_bytes r)

-- ---- groups

-- the number of entries in a byte, and the entries
abbrev pub content_bytes : List Record → List ℕ
content_bytes group = list_bytes record_bytes group

-- the length of what follows in 4 bytes, and that
abbrev pub group_bytes : List Record → List ℕ
group_bytes group = counted 4 (content_bytes group)

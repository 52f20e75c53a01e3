-- Entries as they lie in the bytes of a group.
use Rattle.std.specs.Prelude.{◌≡◌, ℕ, false, List, [], ◌∷◌, Option, Some, None}
use Rattle.aria_page.specs.declared.change.Change.{Change}
use Rattle.aria_page.specs.declared.edit.Edit.{Edit}
use Rattle.aria_page.specs.declared.group.RedoKind.{RedoKind}
use Rattle.aria_page.specs.declared.place.Part.{Part}
use Rattle.aria_page.specs.Change.{edit_of}
use Rattle.aria_page.specs.Field.{◌>>=◌}
use Rattle.aria_page.specs.Items.{items_at}
use Rattle.aria_page.specs.Number.{number_at}
use Rattle.aria_page.specs.Text.{name_at, counted_at}
use Rattle.aria_record.specs.declared.entries.Edits.{Edits}
use Rattle.aria_record.specs.declared.entries.Entries.{Entries}
use Rattle.aria_record.specs.declared.entries.Entry.{Entry}
use Rattle.aria_record.specs.declared.entries.Entry.TheVariants as here
use Rattle.aria_record.specs.declared.record.Record.{Record}
use Rattle.aria_record.specs.declared.record.Record.TheVariants.{Redo}
use Rattle.aria_record.specs.declared.record_kind.RecordKind.{RecordKind}
use Rattle.aria_record.specs.Groups.{is_redo}
use Rattle.aria_record.specs.RecordKind.{kind_with, kind_of}
use Rattle.aria_record.specs.Reading.{read_both, read_part, read_page, read_edit, read_kind, read_record}

-- ---- parts of entries

-- the kind and the body of the entry in front
unfoldable pub read_frame : List ℕ → Option ((RecordKind × List ℕ) × List ℕ)
read_frame bytes = do
  byte ← number_at 1 bytes
  body ← counted_at 4 byte.1
  kind ← kind_with byte.0
  Some ((kind, body.0), body.1)

-- the table, the part, the page and the number of edits
unfoldable pub read_redo_head : List ℕ → Option ((List ℕ × (Part × (ℕ × ℕ))) × List ℕ)
read_redo_head = read_both name_at (read_both read_part (read_both read_page (number_at 1)))

-- ---- edits

-- the edits that are left are these
abbrev pub AreEdits : Edits → List Edit → Type 0
AreEdits left edits = items_at read_edit left.left left.rest.now ≡ Some (edits, [])

-- the first of these edits, and the others; nothing where there is none
abbrev pub IsFirstEdit : Option (Change × Edits) → List Edit → Type 0
IsFirstEdit None edits = edits ≡ []
IsFirstEdit (Some x) [] = ⊥
IsFirstEdit (Some x) (e ∷ edits) = (edit_of x.0 ≡ e) × AreEdits x.1 edits

-- ---- entries

-- An entry without edits.
pub record IsOther (kind : RecordKind) (body : List ℕ) (r : Record) : Type 0 where
  pub same : kind ≡ kind_of r
  pub read : read_kind kind body ≡ Some r
  pub other : is_redo r ≡ false

-- edits of this kind, of the table and the page that were read
abbrev pub IsRedo : RedoKind → Option Entry → Option ((List ℕ × (Part × (ℕ × ℕ))) × List ℕ) → Type 0
IsRedo kind None head = head ≡ None
IsRedo kind (Some (here.Redo same table part page edits)) head = (same ≡ kind) × (head ≡ Some ((table, (part, (page, edits.left))), edits.rest.now))
IsRedo kind (Some (here.Other other body)) head = ⊥

-- what lies there is this record
abbrev pub IsEntry : Entry → Record → Type 0
IsEntry (here.Redo kind table part page edits) r = (all : List Edit) × (r ≡ Redo kind table part page all) × AreEdits edits all
IsEntry (here.Other kind body) r = IsOther kind body.now r

abbrev pub Tells : Option Entry → Record → Type 0
Tells None r = ⊥
Tells (Some entry) r = IsEntry entry r

-- the entries that are left are these
abbrev pub AreEntries : Entries → List Record → Type 0
AreEntries left records = items_at read_record left.left left.rest.now ≡ Some (records, [])

abbrev pub Begins : Option Entries → List Record → Type 0
Begins None group = ⊥
Begins (Some entries) group = AreEntries entries group

-- the first of these entries, and the others; nothing where there is none
abbrev pub IsFirstEntry : Option (Entry × Entries) → List Record → Type 0
IsFirstEntry None records = records ≡ []
IsFirstEntry (Some x) [] = ⊥
IsFirstEntry (Some x) (r ∷ records) = IsEntry x.0 r × AreEntries x.1 records

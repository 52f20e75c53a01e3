-- Groups in the making.
use Rattle.std.specs.Prelude.{◌≡◌, ℕ, ◌+◌, ◌*◌, ◌^◌, ◌<◌, ◌≤◌, List, [], ◌∷◌, ◌++◌, length, drop, Option, Some, None}
use Rattle.std.specs.List.{flat_map, AllByRecursion}
use Rattle.aria_page.specs.declared.edit.Edit.{Edit}
use Rattle.aria_page.specs.declared.edit.Edit.TheVariants.{Set, Shift, Whole}
use Rattle.aria_page.specs.declared.group.Last.{Last}
use Rattle.aria_page.specs.declared.group.Last.TheVariants as last
use Rattle.aria_page.specs.declared.lsn.Lsn.{Lsn}
use Rattle.aria_page.specs.Lsn.{IsLsn}
use Rattle.aria_page.specs.Items.{items_at}
use Rattle.aria_value.specs.declared.definition.TheConstants.{MAX_KEYS}
use Rattle.aria_record.specs.declared.group_writer.GroupWriter.{GroupWriter}
use Rattle.aria_record.specs.declared.record.Record.{Record}
use Rattle.aria_record.specs.declared.record.Record.TheVariants.{UndoRowInsert, UndoRowDelete, UndoKeyInsert, UndoKeyDelete, ClrEnd}
use Rattle.aria_record.specs.Groups.{PlacesFit, RecordFits}
use Rattle.aria_record.specs.Spelled.{record_bytes}
use Rattle.aria_record.specs.Reading.{read_record}

-- ---- what ends a group of edits

-- the record of a table; prev is the undo record before this one
abbrev pub last_record : List ℕ → Lsn → Last → Record
last_record table prev (last.RowInsert places) = UndoRowInsert table prev places
last_record table prev (last.RowDelete places row) = UndoRowDelete table prev places row
last_record table prev (last.KeyInsert key target entry) = UndoKeyInsert table prev key target entry
last_record table prev (last.KeyDelete key target entry) = UndoKeyDelete table prev key target entry
last_record table prev (last.Clr undone next) = ClrEnd table undone next

-- its numbers can be stored, and its row or its entry has at most 2^22 - 100 bytes
abbrev pub LastFits : Last → Type 0
LastFits (last.RowInsert places) = PlacesFit places
LastFits (last.RowDelete places row) = PlacesFit places × (100 + length row ≤ 2 ^ 22)
LastFits (last.KeyInsert key target entry) = (key < MAX_KEYS) × (target < 2 ^ 40) × (100 + length entry ≤ 2 ^ 22)
LastFits (last.KeyDelete key target entry) = (key < MAX_KEYS) × (target < 2 ^ 40) × (100 + length entry ≤ 2 ^ 22)
LastFits (last.Clr undone next) = IsLsn undone × IsLsn next

-- ---- how many bytes entries take

-- an edit
abbrev pub edit_size : Edit → ℕ
edit_size (Set at bytes) = 5 + length bytes
edit_size (Shift at len to) = 7
edit_size (Whole body) = 1 + length body

abbrev pub edits_size : List Edit → ℕ
edits_size [] = 0
edits_size (e ∷ edits) = edit_size e + edits_size edits

-- an entry with these edits, at most
abbrev pub redo_size : List Edit → ℕ
redo_size edits = 76 + edits_size edits

-- what ends a group of edits, at most
abbrev pub last_size : Last → ℕ
last_size (last.RowInsert places) = 100
last_size (last.RowDelete places row) = 100 + length row
last_size (last.KeyInsert key target entry) = 100 + length entry
last_size (last.KeyDelete key target entry) = 100 + length entry
last_size (last.Clr undone next) = 100

-- An entry was added to bytes, and takes so many at most.
pub record Adds (old new : List ℕ) (r : Record) (most : ℕ) : Type 0 where
  pub spelled : new ≡ old ++ record_bytes r
  pub fits : RecordFits r
  pub size : length (record_bytes r) ≤ most

-- ---- the group that is written

-- The records that the writer has written. An entry takes at most 2^22 bytes.
pub record Writes (writer : GroupWriter) (records : List Record) : Type 0 where
  pub spelled : drop 5 writer.bytes ≡ flat_map record_bytes records
  pub count : writer.count ≡ length records
  pub each : AllByRecursion RecordFits records
  pub size : length (drop 5 writer.bytes) ≤ 2 ^ 22 * writer.count

abbrev pub read_all : Option (List Record × List ℕ) → List Record
read_all None = []
read_all (Some x) = x.0

-- the records that a writer's bytes spell
unfoldable pub records_of : GroupWriter → List Record
records_of writer = read_all (items_at read_record writer.count (drop 5 writer.bytes))

-- The bytes are those of records, so no call has failed since the writer was cleared.
abbrev pub IsWriting : GroupWriter → Type 0
IsWriting writer = Writes writer (records_of writer)

-- how many bytes the group has so far
abbrev pub size_of : GroupWriter → ℕ
size_of writer = 5 + length (drop 5 writer.bytes)

-- A record was added to those that were written, and takes so many bytes at most.
pub record Pushes (old new : GroupWriter) (r : Record) (most : ℕ) : Type 0 where
  pub pushed : (records : List Record) → Writes old records → Writes new (records ++ r ∷ [])
  pub told : IsWriting old → records_of new ≡ records_of old ++ r ∷ []
  pub count : new.count ≡ old.count + 1
  pub bytes : size_of new ≤ size_of old + most

-- Which groups there are.
use Rattle.std.specs.Prelude.{◌≡◌, ℕ, ◌^◌, ◌<◌, ◌≤◌, ◌⊎◌, Bool, true, false, not, ◌&&◌, ◌||◌, List, [], ◌∷◌, ◌++◌, length, Option, Some, None, IsTrue, is_some}
use Rattle.std.specs.List.{AllByRecursion}
use Rattle.aria_page.specs.declared.edit.Edit.{Edit}
use Rattle.aria_page.specs.declared.lsn.Lsn.{Lsn}
use Rattle.aria_page.specs.declared.place.Place.{Place}
use Rattle.aria_page.specs.declared.place.Places.{Places}
use Rattle.aria_page.specs.Edit.{IsWithin}
use Rattle.aria_page.specs.Lsn.{IsLsn}
use Rattle.aria_page.specs.Word.{is_word}
use Rattle.aria_value.specs.declared.definition.TheConstants.{MAX_KEYS}
use Rattle.aria_value.specs.Reading.{read_definition}
use Rattle.aria_record.specs.declared.record.Dirty.{Dirty}
use Rattle.aria_record.specs.declared.record.Record.{Record}
use Rattle.aria_record.specs.declared.record.Record.TheVariants.{Redo, UndoRowInsert, UndoRowDelete, UndoKeyInsert, UndoKeyDelete, ClrEnd, Commit, Checkpoint, CreateTable, DropTable, RepairTable}
use Rattle.aria_record.specs.Spelled.{body_bytes, content_bytes, group_bytes}

-- ---- the shape of a group

-- edits of a page
abbrev pub is_redo : Record → Bool
is_redo (Redo kind table part page edits) = true
is_redo (UndoRowInsert table prev places) = false
is_redo (UndoRowDelete table prev places row) = false
is_redo (UndoKeyInsert table prev key target entry) = false
is_redo (UndoKeyDelete table prev key target entry) = false
is_redo (ClrEnd table undone next) = false
is_redo Commit = false
is_redo (Checkpoint redo dirty) = false
is_redo (CreateTable table plain definition format) = false
is_redo (DropTable table) = false
is_redo (RepairTable table) = false

-- what ends a group of edits
abbrev pub is_last : Record → Bool
is_last (Redo kind table part page edits) = false
is_last (UndoRowInsert table prev places) = true
is_last (UndoRowDelete table prev places row) = true
is_last (UndoKeyInsert table prev key target entry) = true
is_last (UndoKeyDelete table prev key target entry) = true
is_last (ClrEnd table undone next) = true
is_last Commit = false
is_last (Checkpoint redo dirty) = false
is_last (CreateTable table plain definition format) = false
is_last (DropTable table) = false
is_last (RepairTable table) = false

-- edits, and one entry that ends them
abbrev pub is_edited : List Record → Bool
is_edited [] = false
is_edited (r ∷ []) = is_last r
is_edited (r ∷ s ∷ group) = is_redo r && is_edited (s ∷ group)

-- one entry that stands alone
abbrev pub is_alone : List Record → Bool
is_alone [] = false
is_alone (r ∷ []) = not (is_redo r) && not (is_last r)
is_alone (r ∷ s ∷ group) = false

abbrev pub is_group : List Record → Bool
is_group group = is_edited group || is_alone group

-- ---- numbers that can be stored

pub record PlaceFits (place : Place) : Type 0 where
  pub page : place.page < 2 ^ 31
  pub slot : place.slot < 256

-- a tail isn't on page 0
abbrev pub TailFits : Option Place → Type 0
TailFits None = Unit {0}
TailFits (Some place) = PlaceFits place × (0 < place.page)

-- without blob pages the first of them is 0
pub record PlacesFit (places : Places) : Type 0 where
  pub head : PlaceFits places.head
  pub tail : TailFits places.tail
  pub blob : places.blob < 2 ^ 31
  pub blobs : places.blobs < 256
  pub none : places.blobs ≡ 0 → places.blob ≡ 0

pub record DirtyFits (dirty : Dirty) : Type 0 where
  pub word : IsTrue (is_word dirty.table)
  pub page : dirty.page < 2 ^ 31
  pub since : IsLsn dirty.since

pub record RedoFits (table : List ℕ) (page : ℕ) (edits : List Edit) : Type 0 where
  pub word : IsTrue (is_word table)
  pub low : page < 2 ^ 31
  pub some : 1 ≤ length edits
  pub few : length edits < 256
  pub within : AllByRecursion IsWithin edits

pub record RowFits (table : List ℕ) (prev : Lsn) (places : Places) : Type 0 where
  pub word : IsTrue (is_word table)
  pub before : IsLsn prev
  pub fit : PlacesFit places

pub record KeyFits (table : List ℕ) (prev : Lsn) (key target : ℕ) : Type 0 where
  pub word : IsTrue (is_word table)
  pub before : IsLsn prev
  pub known : key < MAX_KEYS
  pub low : target < 2 ^ 40

pub record ClrFits (table : List ℕ) (undone next : Lsn) : Type 0 where
  pub word : IsTrue (is_word table)
  pub this : IsLsn undone
  pub before : IsLsn next

pub record CheckpointFits (redo : Lsn) (dirty : List Dirty) : Type 0 where
  pub start : IsLsn redo
  pub few : length dirty < 2 ^ 32
  pub each : AllByRecursion DirtyFits dirty

-- the definition is one that is stored
pub record TableFits (table definition : List ℕ) (format : ℕ) : Type 0 where
  pub word : IsTrue (is_word table)
  pub known : (format ≡ 1) ⊎ (format ≡ 2)
  pub spelled : IsTrue (is_some (read_definition definition))

abbrev pub BodyFits : Record → Type 0
BodyFits (Redo kind table part page edits) = RedoFits table page edits
BodyFits (UndoRowInsert table prev places) = RowFits table prev places
BodyFits (UndoRowDelete table prev places row) = RowFits table prev places
BodyFits (UndoKeyInsert table prev key target entry) = KeyFits table prev key target
BodyFits (UndoKeyDelete table prev key target entry) = KeyFits table prev key target
BodyFits (ClrEnd table undone next) = ClrFits table undone next
BodyFits Commit = Unit {0}
BodyFits (Checkpoint redo dirty) = CheckpointFits redo dirty
BodyFits (CreateTable table plain definition format) = TableFits table definition format
BodyFits (DropTable table) = IsTrue (is_word table)
BodyFits (RepairTable table) = IsTrue (is_word table)

-- an entry whose numbers can be stored
pub record RecordFits (r : Record) : Type 0 where
  pub body : BodyFits r
  pub size : length (body_bytes r) < 2 ^ 32

-- a group whose numbers can be stored
pub record IsGroup (group : List Record) : Type 0 where
  pub shape : IsTrue (is_group group)
  pub few : length group < 256
  pub each : AllByRecursion RecordFits group
  pub size : length (content_bytes group) < 2 ^ 32

-- The group stands in front of the bytes, and takes so many of them.
pub record IsInFront (bytes : List ℕ) (x : List Record × ℕ) : Type 0 where
  pub is : IsGroup x.0
  pub rest : List ℕ
  pub spelled : bytes ≡ group_bytes x.0 ++ rest
  pub size : x.1 ≡ length (group_bytes x.0)

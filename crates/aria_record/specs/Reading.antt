-- Reading groups of the log, from left to right.
use Rattle.std.specs.Prelude.{◌≡◌, ℕ, zero, suc, ◌+◌, ◌^◌, Bool, true, false, not, ◌&&◌, nat_lt, nat_le, ◌==◌, List, [], ◌∷◌, length, Option, Some, None, is_some, if◌then◌else◌}
use Rattle.aria_page.specs.declared.edit.Edit.{Edit}
use Rattle.aria_page.specs.declared.edit.Edit.TheVariants.{Set, Shift, Whole}
use Rattle.aria_page.specs.declared.group.RedoKind.{RedoKind}
use Rattle.aria_page.specs.declared.lsn.Lsn.{Lsn}
use Rattle.aria_page.specs.declared.page.TheConstants.{BODY_BYTES}
use Rattle.aria_page.specs.declared.place.Part.{Part}
use Rattle.aria_page.specs.declared.place.Part.TheVariants.{Keys, Rows}
use Rattle.aria_page.specs.declared.place.Place.{Place}
use Rattle.aria_page.specs.declared.place.Places.{Places}
use Rattle.aria_page.specs.Field.{◌>>=◌}
use Rattle.aria_page.specs.Number.{number_at}
use Rattle.aria_page.specs.Lsn.{lsn_at}
use Rattle.aria_page.specs.Text.{bytes_at, name_at, counted_at}
use Rattle.aria_page.specs.Items.{items_at, list_at}
use Rattle.aria_value.specs.declared.definition.TheConstants.{MAX_KEYS}
use Rattle.aria_value.specs.Reading.{read_definition}
use Rattle.aria_record.specs.declared.record.Dirty.{Dirty}
use Rattle.aria_record.specs.declared.record.Record.{Record}
use Rattle.aria_record.specs.declared.record.Record.TheVariants.{Redo, UndoRowInsert, UndoRowDelete, UndoKeyInsert, UndoKeyDelete, ClrEnd, Commit, Checkpoint, CreateTable, DropTable, RepairTable}
use Rattle.aria_record.specs.declared.record_kind.RecordKind.{RecordKind}
use Rattle.aria_record.specs.declared.record_kind.RecordKind.TheVariants as kinds
use Rattle.aria_record.specs.RecordKind.{kind_with}
use Rattle.aria_record.specs.Groups.{is_group}

-- ---- readers put together

-- two fields one after the other
unfoldable pub read_both : {A B : Type 0} → (List ℕ → Option (A × List ℕ)) → (List ℕ → Option (B × List ℕ)) → List ℕ → Option ((A × B) × List ℕ)
read_both first second bytes = do
  a ← first bytes
  b ← second a.1
  Some ((a.0, b.0), b.1)

-- what a field means; nothing where it means nothing
unfoldable pub read_as : {A B : Type 0} → (A → Option B) → (List ℕ → Option (A × List ℕ)) → List ℕ → Option (B × List ℕ)
read_as means read bytes = do
  a ← read bytes
  b ← means a.0
  Some (b, a.1)

-- what all of the bytes spell
unfoldable pub read_whole : {A : Type 0} → (List ℕ → Option (A × List ℕ)) → List ℕ → Option A
read_whole read bytes = do
  a ← read bytes
  if length a.1 == 0 then Some a.0 else None

-- ---- fields

abbrev pub part_of : ℕ → Option Part
part_of zero = Some Keys
part_of (suc zero) = Some Rows
part_of (suc (suc n)) = None

unfoldable pub read_part : List ℕ → Option (Part × List ℕ)
read_part = read_as part_of (number_at 1)

-- a page number is below 2^31
abbrev pub page_of : ℕ → Option ℕ
page_of n = if nat_lt n (2 ^ 31) then Some n else None

unfoldable pub read_page : List ℕ → Option (ℕ × List ℕ)
read_page = read_as page_of (number_at 4)

abbrev pub place_of : ℕ × ℕ → Option Place
place_of x = Some (record { page = x.0; slot = x.1 })

unfoldable pub read_place : List ℕ → Option (Place × List ℕ)
read_place = read_as place_of (read_both read_page (number_at 1))

-- page 0 stands for no tail, and its slot is then 0
abbrev pub tail_of : Place → Option (Option Place)
tail_of place = if place.page == 0 then (if place.slot == 0 then Some None else None) else Some (Some place)

unfoldable pub read_tail : List ℕ → Option (Option Place × List ℕ)
read_tail = read_as tail_of read_place

-- without blob pages the first of them is 0
abbrev pub blobs_of : ℕ × ℕ → Option (ℕ × ℕ)
blobs_of x = if x.1 == 0 && not (x.0 == 0) then None else Some x

unfoldable pub read_blobs : List ℕ → Option ((ℕ × ℕ) × List ℕ)
read_blobs = read_as blobs_of (read_both read_page (number_at 1))

abbrev pub places_of : Place × (Option Place × (ℕ × ℕ)) → Option Places
places_of x = Some (record { head = x.0; tail = x.1.0; blob = x.1.1.0; blobs = x.1.1.1 })

unfoldable pub read_places : List ℕ → Option (Places × List ℕ)
read_places = read_as places_of (read_both read_place (read_both read_tail read_blobs))

-- ---- edits

-- the edit stays within a body
abbrev pub is_within : Edit → Bool
is_within (Set at bytes) = nat_le (at + length bytes) BODY_BYTES
is_within (Shift at len to) = nat_le (at + len) BODY_BYTES && nat_le (to + len) BODY_BYTES
is_within (Whole body) = length body == BODY_BYTES

abbrev pub fitting : Edit → Option Edit
fitting edit = if is_within edit then Some edit else None

unfoldable pub read_set : List ℕ → Option (Edit × List ℕ)
read_set = read_as (λ x. fitting (Set x.0 x.1)) (read_both (number_at 2) (counted_at 2))

unfoldable pub read_shift : List ℕ → Option (Edit × List ℕ)
read_shift = read_as (λ x. fitting (Shift x.0 x.1.0 x.1.1)) (read_both (number_at 2) (read_both (number_at 2) (number_at 2)))

unfoldable pub read_body_edit : List ℕ → Option (Edit × List ℕ)
read_body_edit = read_as (λ body. Some (Whole body)) (bytes_at BODY_BYTES)

unfoldable pub read_edit : List ℕ → Option (Edit × List ℕ)
read_edit [] = None
read_edit (zero ∷ rest) = read_set rest
read_edit (suc zero ∷ rest) = read_shift rest
read_edit (suc (suc zero) ∷ rest) = read_body_edit rest
read_edit (suc (suc (suc kind)) ∷ rest) = None

-- one edit or more
abbrev pub some_edits : List Edit → Option (List Edit)
some_edits edits = if length edits == 0 then None else Some edits

unfoldable pub read_edits : List ℕ → Option (List Edit × List ℕ)
read_edits = read_as some_edits (list_at read_edit)

-- ---- parts of entries

unfoldable pub read_row_head : List ℕ → Option ((List ℕ × (Lsn × Places)) × List ℕ)
read_row_head = read_both name_at (read_both lsn_at read_places)

abbrev pub key_of : ℕ → Option ℕ
key_of n = if nat_lt n MAX_KEYS then Some n else None

unfoldable pub read_key : List ℕ → Option (ℕ × List ℕ)
read_key = read_as key_of (number_at 1)

unfoldable pub read_key_head : List ℕ → Option ((List ℕ × (Lsn × (ℕ × ℕ))) × List ℕ)
read_key_head = read_both name_at (read_both lsn_at (read_both read_key (number_at 5)))

abbrev pub dirty_of : List ℕ × (Part × (ℕ × Lsn)) → Option Dirty
dirty_of x = Some (record { table = x.0; part = x.1.0; page = x.1.1.0; since = x.1.1.1 })

unfoldable pub read_dirty : List ℕ → Option (Dirty × List ℕ)
read_dirty = read_as dirty_of (read_both name_at (read_both read_part (read_both read_page lsn_at)))

-- changed pages behind 4 bytes with their number
unfoldable pub read_dirties : List ℕ → Option (List Dirty × List ℕ)
read_dirties bytes = do
  count ← number_at 4 bytes
  items_at read_dirty count.0 count.1

-- whether a table is plain, and its format
abbrev pub table_of : ℕ → Option (Bool × ℕ)
table_of zero = Some (false, 1)
table_of (suc zero) = Some (true, 1)
table_of (suc (suc zero)) = Some (false, 2)
table_of (suc (suc (suc zero))) = Some (true, 2)
table_of (suc (suc (suc (suc n)))) = None

unfoldable pub read_table : List ℕ → Option ((Bool × ℕ) × List ℕ)
read_table = read_as table_of (number_at 1)

-- ---- entries

unfoldable pub read_redo_parts : List ℕ → Option ((List ℕ × (Part × (ℕ × List Edit))) × List ℕ)
read_redo_parts = read_both name_at (read_both read_part (read_both read_page read_edits))

unfoldable pub read_redo : RedoKind → List ℕ → Option Record
read_redo kind body = do
  x ← read_whole read_redo_parts body
  Some (Redo kind x.0 x.1.0 x.1.1.0 x.1.1.1)

unfoldable pub read_row_insert : List ℕ → Option Record
read_row_insert body = do
  x ← read_whole read_row_head body
  Some (UndoRowInsert x.0 x.1.0 x.1.1)

unfoldable pub read_row_delete : List ℕ → Option Record
read_row_delete body = do
  head ← read_row_head body
  Some (UndoRowDelete head.0.0 head.0.1.0 head.0.1.1 head.1)

unfoldable pub read_key_insert : List ℕ → Option Record
read_key_insert body = do
  head ← read_key_head body
  Some (UndoKeyInsert head.0.0 head.0.1.0 head.0.1.1.0 head.0.1.1.1 head.1)

unfoldable pub read_key_delete : List ℕ → Option Record
read_key_delete body = do
  head ← read_key_head body
  Some (UndoKeyDelete head.0.0 head.0.1.0 head.0.1.1.0 head.0.1.1.1 head.1)

unfoldable pub read_clr_parts : List ℕ → Option ((List ℕ × (Lsn × Lsn)) × List ℕ)
read_clr_parts = read_both name_at (read_both lsn_at lsn_at)

unfoldable pub read_clr_end : List ℕ → Option Record
read_clr_end body = do
  x ← read_whole read_clr_parts body
  Some (ClrEnd x.0 x.1.0 x.1.1)

unfoldable pub read_commit : List ℕ → Option Record
read_commit body = if length body == 0 then Some Commit else None

unfoldable pub read_checkpoint_parts : List ℕ → Option ((Lsn × List Dirty) × List ℕ)
read_checkpoint_parts = read_both lsn_at read_dirties

unfoldable pub read_checkpoint : List ℕ → Option Record
read_checkpoint body = do
  x ← read_whole read_checkpoint_parts body
  Some (Checkpoint x.0 x.1)

unfoldable pub read_table_head : List ℕ → Option ((List ℕ × (Bool × ℕ)) × List ℕ)
read_table_head = read_both name_at read_table

unfoldable pub read_create : List ℕ → Option Record
read_create body = do
  head ← read_table_head body
  if is_some (read_definition head.1) then Some (CreateTable head.0.0 head.0.1.0 head.1 head.0.1.1) else None

unfoldable pub read_drop : List ℕ → Option Record
read_drop body = do
  name ← read_whole name_at body
  Some (DropTable name)

unfoldable pub read_repair : List ℕ → Option Record
read_repair body = do
  name ← read_whole name_at body
  Some (RepairTable name)

-- the record of a kind that a body spells
abbrev pub read_kind : RecordKind → List ℕ → Option Record
read_kind (kinds.Redo kind) body = read_redo kind body
read_kind kinds.RowInsert body = read_row_insert body
read_kind kinds.RowDelete body = read_row_delete body
read_kind kinds.KeyInsert body = read_key_insert body
read_kind kinds.KeyDelete body = read_key_delete body
read_kind kinds.ClrEnd body = read_clr_end body
read_kind kinds.Commit body = read_commit body
read_kind kinds.Checkpoint body = read_checkpoint body
read_kind kinds.CreateTable body = read_create body
read_kind kinds.DropTable body = read_drop body
read_kind kinds.RepairTable body = read_repair body

-- the record that a body spells behind the byte of its kind
unfoldable pub read_body : ℕ → List ℕ → Option Record
read_body byte body = do
  kind ← kind_with byte
  read_kind kind body

unfoldable pub read_record : List ℕ → Option (Record × List ℕ)
read_record bytes = do
  kind ← number_at 1 bytes
  body ← counted_at 4 kind.1
  r ← read_body kind.0 body.0
  Some (r, body.1)

-- ---- groups

-- the entries that bytes spell behind their number
unfoldable pub read_content : List ℕ → Option (List Record)
read_content bytes = do
  group ← read_whole (list_at read_record) bytes
  if is_group group then Some group else None

-- the group in front and the bytes after it
unfoldable pub read_group : List ℕ → Option (List Record × List ℕ)
read_group bytes = do
  content ← counted_at 4 bytes
  group ← read_content content.0
  Some (group, content.1)

-- the group in front and its length
abbrev pub Decodes : List ℕ → Option (List Record × ℕ) → Type 0
Decodes bytes None = read_group bytes ≡ None
Decodes bytes (Some x) = (rest : List ℕ) × (read_group bytes ≡ Some (x.0, rest)) × (x.1 + length rest ≡ length bytes)

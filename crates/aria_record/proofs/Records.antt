-- Entries and groups are read as they were spelled.
use Rattle.std.proofs.Common.{◌≡◌, ℕ, ◌^◌, ◌<◌, ◌≤◌, Bool, true, false, cond, eqb, List, [], ◌∷◌, ◌++◌, length, take, Option, Some, None, Result, Ok, Err, refl, sym, ap, subst, ◌∙◌, append_assoc, arith, lit<}
use Rattle.std.specs.Prelude.{IsTrue, IfSome, IfOk, is_some}
use Rattle.std.specs.List.{AllByRecursion}
use Rattle.std.proofs.lemmas.Bool.{eqb-true}
use Rattle.std.proofs.lemmas.List.{append-nil, nil_from_length, take_at, drop_at, length-append}
use Rattle.std.proofs.lemmas.Option.{same_Some, cond_some}
use Rattle.aria_page.specs.declared.group.RedoKind.{RedoKind}
use Rattle.aria_page.specs.declared.group.RedoKind.TheVariants as redo
use Rattle.aria_page.specs.Field.{◌>>=◌, AreBytes, Takes}
use Rattle.aria_page.specs.Number.{number, number_at}
use Rattle.aria_page.specs.Text.{name_at, counted_at}
use Rattle.aria_page.proofs.Fields.{AreBytes-take, AreBytes-drop, bind_some, Takes-then}
use Rattle.aria_page.proofs.Numbers.{number_takes, number_again}
use Rattle.aria_value.specs.Reading.{read_definition}
use Rattle.aria_page.proofs.Texts.{counted_takes, counted_again}
use Rattle.aria_page.specs.Items.{list_at}
use Rattle.aria_page.proofs.Items.{Reads}
use Rattle.aria_record.specs.declared.record_kind.RecordKind.{RecordKind}
use Rattle.aria_record.specs.declared.record_kind.RecordKind.TheVariants as kinds
use Rattle.aria_record.specs.RecordKind.{redo_byte, kind_byte, record_kinds, kind_in, kind_with, kind_of}
use Rattle.aria_record.specs.declared.record.Record.{Record}
use Rattle.aria_record.specs.declared.record.Record.TheVariants.{Redo, UndoRowInsert, UndoRowDelete, UndoKeyInsert, UndoKeyDelete, ClrEnd, Commit, Checkpoint, CreateTable, DropTable, RepairTable}
use Rattle.aria_record.specs.Spelled.{body_bytes, record_bytes, content_bytes, group_bytes}
use Rattle.aria_record.specs.Groups.{is_group, BodyFits, RecordFits, IsGroup, IsInFront}
use Rattle.aria_record.specs.Reading.{read_whole, read_redo_parts, read_redo, read_row_head, read_row_insert, read_row_delete, read_key_head, read_key_insert, read_key_delete, read_clr_parts, read_clr_end, read_commit, read_checkpoint_parts, read_checkpoint, read_table_head, read_create, read_drop, read_repair, read_kind, read_body, read_record, read_content, read_group, Decodes}
use Rattle.aria_record.proofs.Readers.{name_read, whole_takes, whole_again, list_read}
use Rattle.aria_record.proofs.Parts.{row_head_read, key_head_read, table_head_read, redo_parts_read, clr_parts_read, checkpoint_parts_read}

-- ---- bodies

-- what a body of this kind gave
record Gave (kind : RecordKind) (body : List ℕ) (r : Record) : Type 0 where
  spelled : body ≡ body_bytes r
  fits : BodyFits r
  is : kind ≡ kind_of r

redo_takes : (kind : RedoKind) (body : List ℕ) (r : Record) → AreBytes body → read_redo kind body ≡ Some r → Gave (kinds.Redo kind) body r
unfolding read_redo
redo_takes kind body r fits e =
    let a = bind_some (read_whole read_redo_parts body) (λ x. Some (Redo kind x.0 x.1.0 x.1.1.0 x.1.1.1)) r e in
    let w = whole_takes _ _ _ redo_parts_read body a.0 fits a.1 in
    subst (λ (y : Record). Gave (kinds.Redo kind) body y) (same_Some (Redo kind a.0.0 a.0.1.0 a.0.1.1.0 a.0.1.1.1) r a.2)
    (record { spelled = w.0; fits = record { word = w.1.0; low = w.1.1.1.0; some = w.1.1.1.1.0; few = w.1.1.1.1.1.0; within = w.1.1.1.1.1.1 }; is = refl })

row_insert_takes : (body : List ℕ) (r : Record) → AreBytes body → read_row_insert body ≡ Some r → Gave kinds.RowInsert body r
unfolding read_row_insert
row_insert_takes body r fits e =
    let a = bind_some (read_whole read_row_head body) (λ x. Some (UndoRowInsert x.0 x.1.0 x.1.1)) r e in
    let w = whole_takes _ _ _ row_head_read body a.0 fits a.1 in
    subst (λ (y : Record). Gave kinds.RowInsert body y) (same_Some (UndoRowInsert a.0.0 a.0.1.0 a.0.1.1) r a.2) (record { spelled = w.0; fits = record { word = w.1.0; before = w.1.1.0; fit = w.1.1.1 }; is = refl })

row_delete_takes : (body : List ℕ) (r : Record) → AreBytes body → read_row_delete body ≡ Some r → Gave kinds.RowDelete body r
unfolding read_row_delete
row_delete_takes body r fits e =
    let a = bind_some (read_row_head body) (λ x. Some (UndoRowDelete x.0.0 x.0.1.0 x.0.1.1 x.1)) r e in
    let t = row_head_read.takes body a.0 fits a.1 in
    subst (λ (y : Record). Gave kinds.RowDelete body y) (same_Some (UndoRowDelete a.0.0.0 a.0.0.1.0 a.0.0.1.1 a.0.1) r a.2)
    (record { spelled = t.0.parts; fits = record { word = t.1.0; before = t.1.1.0; fit = t.1.1.1 }; is = refl })

key_insert_takes : (body : List ℕ) (r : Record) → AreBytes body → read_key_insert body ≡ Some r → Gave kinds.KeyInsert body r
unfolding read_key_insert
key_insert_takes body r fits e =
    let a = bind_some (read_key_head body) (λ x. Some (UndoKeyInsert x.0.0 x.0.1.0 x.0.1.1.0 x.0.1.1.1 x.1)) r e in
    let t = key_head_read.takes body a.0 fits a.1 in
    subst (λ (y : Record). Gave kinds.KeyInsert body y) (same_Some (UndoKeyInsert a.0.0.0 a.0.0.1.0 a.0.0.1.1.0 a.0.0.1.1.1 a.0.1) r a.2)
    (record { spelled = t.0.parts; fits = record { word = t.1.0; before = t.1.1.0; known = t.1.1.1.0; low = t.1.1.1.1 }; is = refl })

key_delete_takes : (body : List ℕ) (r : Record) → AreBytes body → read_key_delete body ≡ Some r → Gave kinds.KeyDelete body r
unfolding read_key_delete
key_delete_takes body r fits e =
    let a = bind_some (read_key_head body) (λ x. Some (UndoKeyDelete x.0.0 x.0.1.0 x.0.1.1.0 x.0.1.1.1 x.1)) r e in
    let t = key_head_read.takes body a.0 fits a.1 in
    subst (λ (y : Record). Gave kinds.KeyDelete body y) (same_Some (UndoKeyDelete a.0.0.0 a.0.0.1.0 a.0.0.1.1.0 a.0.0.1.1.1 a.0.1) r a.2)
    (record { spelled = t.0.parts; fits = record { word = t.1.0; before = t.1.1.0; known = t.1.1.1.0; low = t.1.1.1.1 }; is = refl })

clr_end_takes : (body : List ℕ) (r : Record) → AreBytes body → read_clr_end body ≡ Some r → Gave kinds.ClrEnd body r
unfolding read_clr_end
clr_end_takes body r fits e =
    let a = bind_some (read_whole read_clr_parts body) (λ x. Some (ClrEnd x.0 x.1.0 x.1.1)) r e in
    let w = whole_takes _ _ _ clr_parts_read body a.0 fits a.1 in
    subst (λ (y : Record). Gave kinds.ClrEnd body y) (same_Some (ClrEnd a.0.0 a.0.1.0 a.0.1.1) r a.2) (record { spelled = w.0; fits = record { word = w.1.0; this = w.1.1.0; before = w.1.1.1 }; is = refl })

commit_takes : (body : List ℕ) (r : Record) → AreBytes body → read_commit body ≡ Some r → Gave kinds.Commit body r
unfolding read_commit
commit_takes body r fits e =
    let t = cond_some (eqb (length body) 0) Commit r e in
    let nothing : body ≡ [] = nil_from_length body (eqb-true _ _ t.0) in
    subst (λ (y : Record). Gave kinds.Commit body y) t.1 (record { spelled = nothing; fits = tt; is = refl })

checkpoint_takes : (body : List ℕ) (r : Record) → AreBytes body → read_checkpoint body ≡ Some r → Gave kinds.Checkpoint body r
unfolding read_checkpoint
checkpoint_takes body r fits e =
    let a = bind_some (read_whole read_checkpoint_parts body) (λ x. Some (Checkpoint x.0 x.1)) r e in
    let w = whole_takes _ _ _ checkpoint_parts_read body a.0 fits a.1 in
    subst (λ (y : Record). Gave kinds.Checkpoint body y) (same_Some (Checkpoint a.0.0 a.0.1) r a.2) (record { spelled = w.0; fits = record { start = w.1.0; few = w.1.1.0; each = w.1.1.1 }; is = refl })

create_takes : (body : List ℕ) (r : Record) → AreBytes body → read_create body ≡ Some r → Gave kinds.CreateTable body r
unfolding read_create
create_takes body r fits e =
    let a = bind_some (read_table_head body) (λ x. cond (is_some (read_definition x.1)) (Some (CreateTable x.0.0 x.0.1.0 x.1 x.0.1.1)) None) r e in
    let t = table_head_read.takes body a.0 fits a.1 in
    let d = cond_some (is_some (read_definition a.0.1)) (CreateTable a.0.0.0 a.0.0.1.0 a.0.1 a.0.0.1.1) r a.2 in
    subst (λ (y : Record). Gave kinds.CreateTable body y) d.1 (record { spelled = t.0.parts; fits = record { word = t.1.0; known = t.1.1; spelled = d.0 }; is = refl })

drop_takes : (body : List ℕ) (r : Record) → AreBytes body → read_drop body ≡ Some r → Gave kinds.DropTable body r
unfolding read_drop
drop_takes body r fits e =
    let a = bind_some (read_whole name_at body) (λ name. Some (DropTable name)) r e in
    let w = whole_takes _ _ _ name_read body a.0 fits a.1 in
    subst (λ (y : Record). Gave kinds.DropTable body y) (same_Some (DropTable a.0) r a.2) (record { spelled = w.0; fits = w.1; is = refl })

repair_takes : (body : List ℕ) (r : Record) → AreBytes body → read_repair body ≡ Some r → Gave kinds.RepairTable body r
unfolding read_repair
repair_takes body r fits e =
    let a = bind_some (read_whole name_at body) (λ name. Some (RepairTable name)) r e in
    let w = whole_takes _ _ _ name_read body a.0 fits a.1 in
    subst (λ (y : Record). Gave kinds.RepairTable body y) (same_Some (RepairTable a.0) r a.2) (record { spelled = w.0; fits = w.1; is = refl })

-- ---- kinds

kind_step : (k kind : RecordKind) (byte : ℕ) (rest : Option RecordKind) (b : Bool) → eqb (kind_byte k) byte ≡ b → (rest ≡ Some kind → kind_byte kind ≡ byte) → cond b (Some k) rest ≡ Some kind → kind_byte kind ≡ byte
kind_step k kind byte rest true is later e = ap kind_byte (sym (same_Some k kind e)) ∙ eqb-true (kind_byte k) byte is
kind_step k kind byte rest false is later e = later e

kind_found : (all : List RecordKind) (byte : ℕ) (kind : RecordKind) → kind_in all byte ≡ Some kind → kind_byte kind ≡ byte
kind_found [] byte kind e = absurd cc
kind_found (k ∷ all) byte kind e = kind_step k kind byte (kind_in all byte) (eqb (kind_byte k) byte) refl (kind_found all byte kind) e

redo_again : (kind : RedoKind) → kind_with (redo_byte kind) ≡ Some (kinds.Redo kind)
redo_again redo.InsertRowHead = refl
redo_again redo.InsertRowTail = refl
redo_again redo.InsertRowBlobs = refl
redo_again redo.PurgeRowHead = refl
redo_again redo.PurgeRowTail = refl
redo_again redo.FreeBlocks = refl
redo_again redo.Index = refl
redo_again redo.IndexNewPage = refl
redo_again redo.IndexFreePage = refl
redo_again redo.Bitmap = refl
redo_again redo.State = refl

kind_again : (kind : RecordKind) → kind_with (kind_byte kind) ≡ Some kind
kind_again (kinds.Redo kind) = redo_again kind
kind_again kinds.RowInsert = refl
kind_again kinds.RowDelete = refl
kind_again kinds.KeyInsert = refl
kind_again kinds.KeyDelete = refl
kind_again kinds.ClrEnd = refl
kind_again kinds.Commit = refl
kind_again kinds.Checkpoint = refl
kind_again kinds.CreateTable = refl
kind_again kinds.DropTable = refl
kind_again kinds.RepairTable = refl

-- the kind of a byte has that byte, and no other kind has
pub with_found : (byte : ℕ) (kind : Option RecordKind) → kind ≡ kind_with byte → IfSome kind (λ k. byte ≡ kind_byte k)
with_found byte None e = tt
with_found byte (Some kind) e = sym (kind_found record_kinds byte kind (sym e))

pub with_only : (byte : ℕ) (read : Option RecordKind) (kind : RecordKind) → read ≡ kind_with byte → byte ≡ kind_byte kind → read ≡ Some kind
with_only byte read kind e is = e ∙ ap kind_with is ∙ kind_again kind

-- what a kind's reader gives is of that kind
kind_takes : (kind : RecordKind) (body : List ℕ) (r : Record) → AreBytes body → read_kind kind body ≡ Some r → Gave kind body r
kind_takes (kinds.Redo kind) = redo_takes kind
kind_takes kinds.RowInsert = row_insert_takes
kind_takes kinds.RowDelete = row_delete_takes
kind_takes kinds.KeyInsert = key_insert_takes
kind_takes kinds.KeyDelete = key_delete_takes
kind_takes kinds.ClrEnd = clr_end_takes
kind_takes kinds.Commit = commit_takes
kind_takes kinds.Checkpoint = checkpoint_takes
kind_takes kinds.CreateTable = create_takes
kind_takes kinds.DropTable = drop_takes
kind_takes kinds.RepairTable = repair_takes

-- what a body behind the byte of its kind gave
record GaveBody (byte : ℕ) (body : List ℕ) (r : Record) : Type 0 where
  spelled : body ≡ body_bytes r
  fits : BodyFits r
  kind : byte ≡ kind_byte (kind_of r)

body_takes : (byte : ℕ) (body : List ℕ) (r : Record) → AreBytes body → read_body byte body ≡ Some r → GaveBody byte body r
unfolding read_body
body_takes byte body r fits e =
    let a = bind_some (kind_with byte) (λ kind. read_kind kind body) r e in
    let gave = kind_takes a.0 body r fits a.2 in
    record { spelled = gave.spelled; fits = gave.fits; kind = sym (kind_found record_kinds byte a.0 a.1) ∙ ap kind_byte gave.is }

body_again : (r : Record) → BodyFits r → read_body (kind_byte (kind_of r)) (body_bytes r) ≡ Some r
unfolding read_body read_redo read_row_insert read_row_delete read_key_insert read_key_delete read_clr_end read_commit read_checkpoint read_create read_drop read_repair
body_again (Redo kind table part page edits) fits =
    rw (redo_again kind, whole_again _ _ _ redo_parts_read (table, (part, (page, edits))) (fits.word, (tt, (fits.low, (fits.some, (fits.few, fits.within)))))) refl
body_again (UndoRowInsert table prev places) fits = rw (whole_again _ _ _ row_head_read (table, (prev, places)) (fits.word, (fits.before, fits.fit))) refl
body_again (UndoRowDelete table prev places row) fits = rw (row_head_read.again (table, (prev, places)) row (fits.word, (fits.before, fits.fit))) refl
body_again (UndoKeyInsert table prev key target entry) fits = rw (key_head_read.again (table, (prev, (key, target))) entry (fits.word, (fits.before, (fits.known, fits.low)))) refl
body_again (UndoKeyDelete table prev key target entry) fits = rw (key_head_read.again (table, (prev, (key, target))) entry (fits.word, (fits.before, (fits.known, fits.low)))) refl
body_again (ClrEnd table undone next) fits = rw (whole_again _ _ _ clr_parts_read (table, (undone, next)) (fits.word, (fits.this, fits.before))) refl
body_again Commit fits = refl
body_again (Checkpoint redo dirty) fits = rw (whole_again _ _ _ checkpoint_parts_read (redo, dirty) (fits.start, (fits.few, fits.each))) refl
body_again (CreateTable table plain definition format) fits = rw (table_head_read.again (table, (plain, format)) definition (fits.word, fits.known), fits.spelled) refl
body_again (DropTable table) fits = rw (whole_again _ _ _ name_read table fits) refl
body_again (RepairTable table) fits = rw (whole_again _ _ _ name_read table fits) refl

-- ---- entries

front_bytes : (bytes front rest : List ℕ) → AreBytes bytes → bytes ≡ front ++ rest → AreBytes front
front_bytes bytes front rest fits e = subst AreBytes (ap (take (length front)) e ∙ take_at front rest (length front) refl) (AreBytes-take (length front) bytes fits)

-- what stands behind a number is bytes
behind_bytes : (head text rest bytes : List ℕ) → AreBytes bytes → bytes ≡ (head ++ text) ++ rest → AreBytes text
behind_bytes head text rest bytes fits e =
    let whole : AreBytes (head ++ text) = front_bytes bytes (head ++ text) rest fits e in
    subst AreBytes (drop_at head text (length head) refl) (AreBytes-drop (length head) (head ++ text) whole)

record_takes : (bytes : List ℕ) (x : Record × List ℕ) → AreBytes bytes → read_record bytes ≡ Some x → Takes bytes (record_bytes x.0) x.1 × RecordFits x.0
unfolding read_record
record_takes bytes x fits e =
    let a = bind_some (number_at 1 bytes) (λ kind. counted_at 4 kind.1 >>= λ body. read_body kind.0 body.0 >>= λ r. Some (r, body.1)) x e in
    let b = bind_some (counted_at 4 a.0.1) (λ body. read_body a.0.0 body.0 >>= λ r. Some (r, body.1)) x a.2 in
    let c = bind_some (read_body a.0.0 b.0.0) (λ r. Some (r, b.0.1)) x b.2 in
    let first = number_takes 1 bytes a.0 fits a.1 in
    let second = counted_takes 4 a.0.1 b.0 first.0.rest_bytes b.1 in
    let body_fits : AreBytes b.0.0 = behind_bytes (number 4 (length b.0.0)) b.0.0 b.0.1 a.0.1 first.0.rest_bytes second.0.parts in
    let gave = body_takes a.0.0 b.0.0 c.0 body_fits c.1 in
    let both = Takes-then bytes (number 1 a.0.0) a.0.1 (number 4 (length b.0.0) ++ b.0.0) b.0.1 first.0 second.0 in
    let spelled : Takes bytes (record_bytes c.0) b.0.1 =
    subst (λ (k : ℕ). Takes bytes (number 1 k ++ (number 4 (length (body_bytes c.0)) ++ body_bytes c.0)) b.0.1) gave.kind (subst (λ (l : List ℕ). Takes bytes (number 1 a.0.0 ++ (number 4 (length l) ++ l)) b.0.1) gave.spelled both) in
    let made : Record × List ℕ = (c.0, b.0.1) in
    subst (λ (y : Record × List ℕ). Takes bytes (record_bytes y.0) y.1 × RecordFits y.0) (same_Some made x c.2)
    (spelled, record { body = gave.fits; size = subst (λ (l : List ℕ). length l < 256 ^ 4) gave.spelled second.1 })

-- a kind stands for a byte
redo_low : (kind : RedoKind) → redo_byte kind < 256
redo_low redo.InsertRowHead = lit< tt
redo_low redo.InsertRowTail = lit< tt
redo_low redo.InsertRowBlobs = lit< tt
redo_low redo.PurgeRowHead = lit< tt
redo_low redo.PurgeRowTail = lit< tt
redo_low redo.FreeBlocks = lit< tt
redo_low redo.Index = lit< tt
redo_low redo.IndexNewPage = lit< tt
redo_low redo.IndexFreePage = lit< tt
redo_low redo.Bitmap = lit< tt
redo_low redo.State = lit< tt

kind_low : (kind : RecordKind) → kind_byte kind < 256
kind_low (kinds.Redo kind) = redo_low kind
kind_low kinds.RowInsert = lit< tt
kind_low kinds.RowDelete = lit< tt
kind_low kinds.KeyInsert = lit< tt
kind_low kinds.KeyDelete = lit< tt
kind_low kinds.ClrEnd = lit< tt
kind_low kinds.Commit = lit< tt
kind_low kinds.Checkpoint = lit< tt
kind_low kinds.CreateTable = lit< tt
kind_low kinds.DropTable = lit< tt
kind_low kinds.RepairTable = lit< tt

record_again : (r : Record) (rest : List ℕ) → RecordFits r → read_record (record_bytes r ++ rest) ≡ Some (r, rest)
unfolding read_record
record_again r rest fits =
    let body : List ℕ = body_bytes r in
    let regrouped : record_bytes r ++ rest ≡ number 1 (kind_byte (kind_of r)) ++ ((number 4 (length body) ++ body) ++ rest) = append_assoc (number 1 (kind_byte (kind_of r))) (number 4 (length body) ++ body) rest in
    ap read_record regrouped
    ∙ rw (number_again 1 (kind_byte (kind_of r)) ((number 4 (length body) ++ body) ++ rest) (kind_low (kind_of r)), counted_again 4 body rest fits.size, body_again r fits.body) refl

pub records_read : Reads record_bytes RecordFits read_record
records_read = record { takes = record_takes; again = record_again }

-- ---- groups

-- what the entries of a group gave
record Content (bytes : List ℕ) (group : List Record) : Type 0 where
  spelled : bytes ≡ content_bytes group
  few : length group < 256
  each : AllByRecursion RecordFits group
  shape : IsTrue (is_group group)

content_takes : (bytes : List ℕ) (group : List Record) → AreBytes bytes → read_content bytes ≡ Some group → Content bytes group
unfolding read_content
content_takes bytes group fits e =
    let a = bind_some (read_whole (list_at read_record) bytes) (λ g. cond (is_group g) (Some g) None) group e in
    let t = cond_some (is_group a.0) a.0 group a.2 in
    let w = whole_takes _ _ _ (list_read record_bytes RecordFits read_record records_read) bytes a.0 fits a.1 in
    subst (Content bytes) t.1 (record { spelled = w.0; few = w.1.0; each = w.1.1; shape = t.0 })

content_again : (group : List Record) → IsGroup group → read_content (content_bytes group) ≡ Some group
unfolding read_content
content_again group is = rw (whole_again _ _ _ (list_read record_bytes RecordFits read_record records_read) group (is.few, is.each), is.shape) refl

group_takes : (bytes : List ℕ) (x : List Record × List ℕ) → AreBytes bytes → read_group bytes ≡ Some x → (bytes ≡ group_bytes x.0 ++ x.1) × IsGroup x.0
unfolding read_group
group_takes bytes x fits e =
    let a = bind_some (counted_at 4 bytes) (λ content. read_content content.0 >>= λ group. Some (group, content.1)) x e in
    let b = bind_some (read_content a.0.0) (λ group. Some (group, a.0.1)) x a.2 in
    let first = counted_takes 4 bytes a.0 fits a.1 in
    let content = content_takes a.0.0 b.0 (behind_bytes (number 4 (length a.0.0)) a.0.0 a.0.1 bytes fits first.0.parts) b.1 in
    let spelled : bytes ≡ group_bytes b.0 ++ a.0.1 = first.0.parts ∙ ap (λ (l : List ℕ). (number 4 (length l) ++ l) ++ a.0.1) content.spelled in
    let size : length (content_bytes b.0) < 256 ^ 4 = subst (λ (l : List ℕ). length l < 256 ^ 4) content.spelled first.1 in
    let made : List Record × List ℕ = (b.0, a.0.1) in
    subst (λ (y : List Record × List ℕ). (bytes ≡ group_bytes y.0 ++ y.1) × IsGroup y.0) (same_Some made x b.2) (spelled, record { shape = content.shape; few = content.few; each = content.each; size = size })

pub group_again : (group : List Record) (rest : List ℕ) → IsGroup group → read_group (group_bytes group ++ rest) ≡ Some (group, rest)
unfolding read_group
group_again group rest is = rw (counted_again 4 (content_bytes group) rest is.size, content_again group is) refl

pair_of : {A B : Type 0} (r : A × B) (s : A × B) → r ≡ s → (r.0 ≡ s.0) × (r.1 ≡ s.1)
pair_of {A} {B} r s e = (ap (λ (x : A × B). x.0) e, ap (λ (x : A × B). x.1) e)

-- No spelling of a group begins another's.
pub group_alone : (a b : List Record) (rest : List ℕ) → IsGroup a → IsGroup b → group_bytes a ≡ group_bytes b ++ rest → (a ≡ b) × (rest ≡ [])
group_alone a b rest is_a is_b e =
    let left : read_group (group_bytes a) ≡ Some (a, []) = ap read_group (sym (append-nil (group_bytes a))) ∙ group_again a [] is_a in
    let right : read_group (group_bytes a) ≡ Some (b, rest) = ap read_group e ∙ group_again b rest is_b in
    let first : List Record × List ℕ = (a, []) in
    let second : List Record × List ℕ = (b, rest) in
    let both = pair_of first second (same_Some first second (sym left ∙ right)) in
    (both.0, sym both.1)

-- ---- what the calls give

-- what is left of bytes is no longer than they are
pub rest_within : (bytes : List ℕ) (x : List Record × List ℕ) → AreBytes bytes → read_group bytes ≡ Some x → length x.1 ≤ length bytes
rest_within bytes x fits e = let t = group_takes bytes x fits e in omega (arith, ap (λ (l : List ℕ). length l) t.0, length-append (group_bytes x.0) x.1)

found_of : (bytes : List ℕ) (r : Option (List Record × ℕ)) → AreBytes bytes → Decodes bytes r → IfSome r (IsInFront bytes)
found_of bytes None fits e = tt
found_of bytes (Some x) fits e =
    let t = group_takes bytes (x.0, e.0) fits e.1 in
    record { is = t.1; rest = e.0; spelled = t.0; size = omega (arith, e.2, ap (λ (l : List ℕ). length l) t.0, length-append (group_bytes x.0) e.0) }

only_of : (bytes : List ℕ) (r : Option (List Record × ℕ)) (group : List Record) (rest : List ℕ) → Decodes bytes r → IsGroup group → bytes ≡ group_bytes group ++ rest → r ≡ Some (group, length (group_bytes group))
only_of bytes None group rest e is spelled =
    let again : read_group bytes ≡ Some (group, rest) = ap read_group spelled ∙ group_again group rest is in
    absurd (cc (again, e))
only_of bytes (Some x) group rest e is spelled =
    let again : read_group bytes ≡ Some (group, rest) = ap read_group spelled ∙ group_again group rest is in
    let first : List Record × List ℕ = (x.0, e.0) in
    let second : List Record × List ℕ = (group, rest) in
    let both = pair_of first second (same_Some first second (sym e.1 ∙ again)) in
    let size : x.1 ≡ length (group_bytes group) = omega (arith, e.2, ap (λ (l : List ℕ). length l) spelled, length-append (group_bytes group) rest, ap (λ (l : List ℕ). length l) both.1) in
    λ i. Some (both.0 i, size i)

pub result_found : {E : Type 0} (bytes : List ℕ) (r : Result (Option (List Record × ℕ)) E) → AreBytes bytes → IfOk r (Decodes bytes) → IfOk r (λ r. IfSome r (IsInFront bytes))
result_found bytes (Ok r) fits e = found_of bytes r fits e
result_found bytes (Err why) fits e = tt

pub result_only : {E : Type 0} (bytes : List ℕ) (r : Result (Option (List Record × ℕ)) E) (group : List Record) (rest : List ℕ) → IfOk r (Decodes bytes) → IsGroup group → bytes ≡ group_bytes group ++ rest
    → IfOk r (λ r. r ≡ Some (group, length (group_bytes group)))
result_only bytes (Ok r) group rest e is spelled = only_of bytes r group rest e is spelled
result_only bytes (Err why) group rest e is spelled = tt

pub result_alone : {E : Type 0} (r : Result (List ℕ) E) (group other : List Record) (rest : List ℕ) → IfOk r (λ bytes. bytes ≡ group_bytes group) → IsGroup group → IsGroup other
    → IfOk r (λ bytes. bytes ≡ group_bytes other ++ rest → (group ≡ other) × (rest ≡ []))
result_alone (Ok bytes) group other rest e is other_is = λ spelled. group_alone group other rest is other_is (sym e ∙ spelled)
result_alone (Err why) group other rest e is other_is = tt

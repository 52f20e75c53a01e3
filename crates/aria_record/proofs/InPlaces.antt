-- Entries are read as they lie in the bytes of a group.
use Rattle.std.proofs.Common.{◌≡◌, ℕ, suc, ◌-◌, ◌≤◌, false, cond, eqb, ltb, List, [], ◌∷◌, length, take, drop, Option, Some, None, refl, sym, ap, subst, ◌∙◌, arith}
use Rattle.std.specs.Prelude.{is_some}
use Rattle.std.proofs.lemmas.Bool.{eqb-true, ltb-false}
use Rattle.std.proofs.lemmas.List.{nil_from_length, length-take}
use Rattle.std.proofs.lemmas.Option.{same_Some, cond_some}
use Rattle.aria_page.specs.declared.change.Change.{Change}
use Rattle.aria_page.specs.declared.edit.Edit.{Edit}
use Rattle.aria_page.specs.declared.group.RedoKind.{RedoKind}
use Rattle.aria_page.specs.declared.place.Part.{Part}
use Rattle.aria_page.specs.Change.{edit_of}
use Rattle.aria_page.specs.Field.{◌>>=◌}
use Rattle.aria_page.specs.Items.{items_at, list_at}
use Rattle.aria_page.specs.Number.{number_at}
use Rattle.aria_page.specs.Text.{bytes_at, name_at, counted_at}
use Rattle.aria_page.proofs.Fields.{bind_some, guard_some}
use Rattle.aria_page.proofs.Items.{Reader}
use Rattle.aria_value.specs.Reading.{read_definition}
use Rattle.aria_record.specs.declared.entries.Edits.{Edits}
use Rattle.aria_record.specs.declared.entries.Entries.{Entries}
use Rattle.aria_record.specs.declared.entries.Entry.{Entry}
use Rattle.aria_record.specs.declared.entries.Entry.TheVariants as here
use Rattle.aria_record.specs.declared.record.Record.{Record}
use Rattle.aria_record.specs.declared.record.Record.TheVariants.{Redo, UndoRowInsert, UndoRowDelete, UndoKeyInsert, UndoKeyDelete, ClrEnd, Commit, Checkpoint, CreateTable, DropTable, RepairTable}
use Rattle.aria_record.specs.declared.record_kind.RecordKind.{RecordKind}
use Rattle.aria_record.specs.declared.record_kind.RecordKind.TheVariants as kinds
use Rattle.aria_record.specs.Groups.{is_group, is_redo}
use Rattle.aria_record.specs.RecordKind.{kind_with, kind_of}
use Rattle.aria_record.specs.Reading.{read_both, read_as, read_whole, read_part, read_page, read_edit, some_edits, read_edits, read_redo_parts, read_redo, read_row_head, read_row_insert, read_row_delete, read_key_head, read_key_insert, read_key_delete, read_clr_parts, read_clr_end, read_commit, read_checkpoint_parts, read_checkpoint, read_table_head, read_create, read_drop, read_repair, read_kind, read_body, read_record, read_content, read_group}
use Rattle.aria_record.specs.InPlace.{read_frame, read_redo_head, IsFirstEdit, IsOther, IsEntry, IsRedo, Tells, AreEntries, IsFirstEntry}

-- ---- items

-- the first of items that were read, and the others
record First {A : Type 0} (read : Reader A) (n : ℕ) (bytes : List ℕ) (all : List A) : Type 0 where
  x : A × List ℕ
  others : List A
  first : read bytes ≡ Some x
  rest : items_at read n x.1 ≡ Some (others, [])
  whole : all ≡ x.0 ∷ others

first_of : {A : Type 0} (read : Reader A) (n : ℕ) (bytes : List ℕ) (all : List A) → items_at read (suc n) bytes ≡ Some (all, []) → First read n bytes all
unfolding items_at
first_of {A} read n bytes all e =
    let total : List A × List ℕ = (all, []) in
    let a = bind_some (read bytes) (λ first. items_at read n first.1 >>= λ others. Some (first.0 ∷ others.0, others.1)) total e in
    let b = bind_some (items_at read n a.0.1) (λ others. Some (a.0.0 ∷ others.0, others.1)) total a.2 in
    let made : List A × List ℕ = (a.0.0 ∷ b.0.0, b.0.1) in
    let same : made ≡ total = same_Some made total b.2 in
    record {
      x = a.0;
      others = b.0.0;
      first = a.1;
      rest = b.1 ∙ ap (λ (l : List ℕ). Some (b.0.0, l)) (ap (λ (y : List A × List ℕ). y.1) same);
      whole = sym (ap (λ (y : List A × List ℕ). y.0) same);
    }

first_at : {A : Type 0} (read : Reader A) (n : ℕ) (bytes : List ℕ) (all : List A) → 1 ≤ n → items_at read n bytes ≡ Some (all, []) → First read (n - 1) bytes all
first_at read n bytes all some e =
    let k : n ≡ suc (n - 1) = omega arith in
    first_of read (n - 1) bytes all (subst (λ (m : ℕ). items_at read m bytes ≡ Some (all, [])) k e)

none_left : {A : Type 0} (read : Reader A) (n : ℕ) (bytes : List ℕ) (all : List A) → n ≡ 0 → items_at read n bytes ≡ Some (all, []) → all ≡ []
unfolding items_at
none_left {A} read n bytes all none e =
    let nothing : List A × List ℕ = ([], bytes) in
    let total : List A × List ℕ = (all, []) in
    let read_none : items_at read 0 bytes ≡ Some (all, []) = subst (λ (m : ℕ). items_at read m bytes ≡ Some (all, [])) none e in
    sym (ap (λ (y : List A × List ℕ). y.0) (same_Some nothing total read_none))

-- ---- edits

-- so many bytes are so many
pub long_enough : (n : ℕ) (bytes : List ℕ) (x : List ℕ × List ℕ) → bytes_at n bytes ≡ Some x → length x.0 ≡ n
unfolding bytes_at
long_enough n bytes x e =
    let made : List ℕ × List ℕ = (take n bytes, drop n bytes) in
    let t = guard_some (ltb (length bytes) n) (Some made) x e in
    let text : take n bytes ≡ x.0 = ap (λ (y : List ℕ × List ℕ). y.0) (same_Some made x t.1) in
    omega (arith, ap (λ (l : List ℕ). length l) text, length-take n bytes, ltb-false (length bytes) n t.0)

pub no_edits : (n : ℕ) (bytes : List ℕ) (edits : List Edit) → n ≡ 0 → items_at read_edit n bytes ≡ Some (edits, []) → edits ≡ []
no_edits n bytes edits none e = none_left read_edit n bytes edits none e

pub no_edit : (n : ℕ) (bytes : List ℕ) (edits : List Edit) → 1 ≤ n → read_edit bytes ≡ None → items_at read_edit n bytes ≡ Some (edits, []) → edits ≡ []
no_edit n bytes edits some nothing e = absurd (cc ((first_at read_edit n bytes edits some e).first, nothing))

pub first_edit : (n : ℕ) (bytes : List ℕ) (edits : List Edit) (found : Change) (others : Edits) → 1 ≤ n → read_edit bytes ≡ Some (edit_of found, others.rest.now) → others.left ≡ n - 1
    → items_at read_edit n bytes ≡ Some (edits, []) → IsFirstEdit (Some (found, others)) edits
first_edit n bytes edits found others some is left e =
    let f = first_at read_edit n bytes edits some e in
    let mine : Edit × List ℕ = (edit_of found, others.rest.now) in
    let same : mine ≡ f.x = same_Some mine f.x (sym is ∙ f.first) in
    let here : edit_of found ≡ f.x.0 = ap (λ (y : Edit × List ℕ). y.0) same in
    let behind : items_at read_edit others.left others.rest.now ≡ Some (f.others, []) =
    ap (λ (m : ℕ). items_at read_edit m others.rest.now) left ∙ ap (λ (l : List ℕ). items_at read_edit (n - 1) l) (ap (λ (y : Edit × List ℕ). y.1) same) ∙ f.rest in
    subst (λ (l : List Edit). IsFirstEdit (Some (found, others)) l) (sym f.whole) (here, behind)

-- ---- fields

-- what two fields gave
record Both {A B : Type 0} (first : Reader A) (second : Reader B) (bytes : List ℕ) (x : (A × B) × List ℕ) : Type 0 where
  a : A × List ℕ
  b : B × List ℕ
  one : first bytes ≡ Some a
  two : second a.1 ≡ Some b
  whole : x ≡ ((a.0, b.0), b.1)

both_gave : {A B : Type 0} (first : Reader A) (second : Reader B) (bytes : List ℕ) (x : (A × B) × List ℕ) → read_both first second bytes ≡ Some x → Both first second bytes x
unfolding read_both
both_gave {A} {B} first second bytes x e =
    let a = bind_some (first bytes) (λ a. second a.1 >>= λ b. Some ((a.0, b.0), b.1)) x e in
    let b = bind_some (second a.0.1) (λ b. Some ((a.0.0, b.0), b.1)) x a.2 in
    let made : (A × B) × List ℕ = ((a.0.0, b.0.0), b.0.1) in
    record { a = a.0; b = b.0; one = a.1; two = b.1; whole = sym (same_Some made x b.2) }

both_give : {A B : Type 0} (first : Reader A) (second : Reader B) (bytes : List ℕ) (a : A × List ℕ) (b : B × List ℕ) → first bytes ≡ Some a → second a.1 ≡ Some b → read_both first second bytes ≡ Some ((a.0, b.0), b.1)
unfolding read_both
both_give first second bytes a b one two = rw (one, two) refl

-- ---- edits of a page

-- the number of edits, and the edits
record Counted (bytes : List ℕ) (x : List Edit × List ℕ) : Type 0 where
  count : ℕ × List ℕ
  is : number_at 1 bytes ≡ Some count
  all : items_at read_edit count.0 count.1 ≡ Some x

some_are : (edits found : List Edit) → some_edits edits ≡ Some found → edits ≡ found
some_are [] found e = absurd cc
some_are (edit ∷ edits) found e =
    let t = guard_some (eqb (suc (length edits)) 0) (Some (edit ∷ edits)) found e in
    same_Some (edit ∷ edits) found t.1

edits_counted : (bytes : List ℕ) (x : List Edit × List ℕ) → read_edits bytes ≡ Some x → Counted bytes x
unfolding read_edits read_as list_at
edits_counted bytes x e =
    let a = bind_some (list_at read_edit bytes) (λ a. some_edits a.0 >>= λ b. Some (b, a.1)) x e in
    let b = bind_some (some_edits a.0.0) (λ b. Some (b, a.0.1)) x a.2 in
    let count = bind_some (number_at 1 bytes) (λ count. items_at read_edit count.0 count.1) a.0 a.1 in
    let made : List Edit × List ℕ = (b.0, a.0.1) in
    let same : a.0 ≡ x = ap (λ (l : List Edit). (l, a.0.1)) (some_are a.0.0 b.0 b.1) ∙ same_Some made x b.2 in
    record { count = count.0; is = count.1; all = count.2 ∙ ap Some same }

-- what a body of edits has
record RedoLies (kind : RedoKind) (body : List ℕ) (r : Record) : Type 0 where
  head : (List ℕ × (Part × (ℕ × ℕ))) × List ℕ
  is : read_redo_head body ≡ Some head
  all : List Edit
  whole : r ≡ Redo kind head.0.0 head.0.1.0 head.0.1.1.0 all
  rest : items_at read_edit head.0.1.1.1 head.1 ≡ Some (all, [])

redo_lies : (kind : RedoKind) (body : List ℕ) (r : Record) → read_redo kind body ≡ Some r → RedoLies kind body r
unfolding read_redo read_whole read_redo_parts read_redo_head
redo_lies kind body r e =
    let w = bind_some (read_whole read_redo_parts body) (λ x. Some (Redo kind x.0 x.1.0 x.1.1.0 x.1.1.1)) r e in
    let x = bind_some (read_redo_parts body) (λ x. cond (eqb (length x.1) 0) (Some x.0) None) w.0 w.1 in
    let t = cond_some (eqb (length x.0.1) 0) x.0.0 w.0 x.2 in
    let empty : x.0.1 ≡ [] = nil_from_length x.0.1 (eqb-true _ _ t.0) in
    let name = both_gave name_at (read_both read_part (read_both read_page read_edits)) body x.0 x.1 in
    let part = both_gave read_part (read_both read_page read_edits) name.a.1 name.b name.two in
    let page = both_gave read_page read_edits part.a.1 part.b part.two in
    let counted = edits_counted page.a.1 page.b page.two in
    let made : List ℕ × (Part × (ℕ × List Edit)) → Record = λ y. Redo kind y.0 y.1.0 y.1.1.0 y.1.1.1 in
    let behind_page : part.b ≡ ((page.a.0, page.b.0), page.b.1) = page.whole in
    let behind_part : name.b ≡ ((part.a.0, (page.a.0, page.b.0)), page.b.1) = part.whole ∙ ap (λ (y : (ℕ × List Edit) × List ℕ). ((part.a.0, y.0), y.1)) behind_page in
    let whole : x.0 ≡ ((name.a.0, (part.a.0, (page.a.0, page.b.0))), page.b.1) = name.whole ∙ ap (λ (y : (Part × (ℕ × List Edit)) × List ℕ). ((name.a.0, y.0), y.1)) behind_part in
    let parts : w.0 ≡ (name.a.0, (part.a.0, (page.a.0, page.b.0))) = sym t.1 ∙ ap (λ (y : (List ℕ × (Part × (ℕ × List Edit))) × List ℕ). y.0) whole in
    let done : page.b.1 ≡ [] = sym (ap (λ (y : (List ℕ × (Part × (ℕ × List Edit))) × List ℕ). y.1) whole) ∙ empty in
    let head : (List ℕ × (Part × (ℕ × ℕ))) × List ℕ = ((name.a.0, (part.a.0, (page.a.0, counted.count.0))), counted.count.1) in
    record {
      head = head;
      is = both_give name_at (read_both read_part (read_both read_page (number_at 1))) body name.a ((part.a.0, (page.a.0, counted.count.0)), counted.count.1) name.one
          (both_give read_part (read_both read_page (number_at 1)) name.a.1 part.a ((page.a.0, counted.count.0), counted.count.1) part.one
          (both_give read_page (number_at 1) part.a.1 page.a counted.count page.one counted.is));
      all = page.b.0;
      whole = sym (same_Some (Redo kind w.0.0 w.0.1.0 w.0.1.1.0 w.0.1.1.1) r w.2) ∙ ap made parts;
      rest = counted.all ∙ ap (λ (l : List ℕ). Some (page.b.0, l)) done;
    }

no_redo : (kind : RedoKind) (body : List ℕ) (r : Record) → read_redo_head body ≡ None → read_redo kind body ≡ Some r → ⊥
no_redo kind body r none e = cc ((redo_lies kind body r e).is, none)

redo_tells : (kind : RedoKind) (body : List ℕ) (r : Record) (table : List ℕ) (part : Part) (page : ℕ) (edits : Edits) → read_redo_head body ≡ Some ((table, (part, (page, edits.left))), edits.rest.now) → read_redo kind body ≡ Some r
    → IsEntry (here.Redo kind table part page edits) r
redo_tells kind body r table part page edits is e =
    let lies = redo_lies kind body r e in
    let mine : (List ℕ × (Part × (ℕ × ℕ))) × List ℕ = ((table, (part, (page, edits.left))), edits.rest.now) in
    let P : (List ℕ × (Part × (ℕ × ℕ))) × List ℕ → Type 0 = λ h. (r ≡ Redo kind h.0.0 h.0.1.0 h.0.1.1.0 lies.all) × (items_at read_edit h.0.1.1.1 h.1 ≡ Some (lies.all, [])) in
    let t = subst P (same_Some lies.head mine (sym lies.is ∙ is)) (lies.whole, lies.rest) in
    (lies.all, t.0, t.1)

pub redo_told : (kind : RedoKind) (body : List ℕ) (r : Record) (found : Option Entry) → IsRedo kind found (read_redo_head body) → read_redo kind body ≡ Some r → Tells found r
redo_told kind body r None is e = no_redo kind body r is e
redo_told kind body r (Some (here.Redo same table part page edits)) is e = subst (λ (k : RedoKind). IsEntry (here.Redo k table part page edits) r) (sym is.0) (redo_tells kind body r table part page edits is.1 e)
redo_told kind body r (Some (here.Other other text)) is e = absurd is

-- ---- other entries

pub kind_is : (kind : RecordKind) (body : List ℕ) (r : Record) → read_kind kind body ≡ Some r → kind ≡ kind_of r
unfolding read_redo read_row_insert read_row_delete read_key_insert read_key_delete read_clr_end read_commit read_checkpoint read_create read_drop read_repair
kind_is (kinds.Redo kind) body r e = let a = bind_some (read_whole read_redo_parts body) (λ x. Some (Redo kind x.0 x.1.0 x.1.1.0 x.1.1.1)) r e in ap kind_of (same_Some _ r a.2)
kind_is kinds.RowInsert body r e = let a = bind_some (read_whole read_row_head body) (λ x. Some (UndoRowInsert x.0 x.1.0 x.1.1)) r e in ap kind_of (same_Some _ r a.2)
kind_is kinds.RowDelete body r e = let a = bind_some (read_row_head body) (λ x. Some (UndoRowDelete x.0.0 x.0.1.0 x.0.1.1 x.1)) r e in ap kind_of (same_Some _ r a.2)
kind_is kinds.KeyInsert body r e = let a = bind_some (read_key_head body) (λ x. Some (UndoKeyInsert x.0.0 x.0.1.0 x.0.1.1.0 x.0.1.1.1 x.1)) r e in ap kind_of (same_Some _ r a.2)
kind_is kinds.KeyDelete body r e = let a = bind_some (read_key_head body) (λ x. Some (UndoKeyDelete x.0.0 x.0.1.0 x.0.1.1.0 x.0.1.1.1 x.1)) r e in ap kind_of (same_Some _ r a.2)
kind_is kinds.ClrEnd body r e = let a = bind_some (read_whole read_clr_parts body) (λ x. Some (ClrEnd x.0 x.1.0 x.1.1)) r e in ap kind_of (same_Some _ r a.2)
kind_is kinds.Commit body r e = ap kind_of (cond_some (eqb (length body) 0) Commit r e).1
kind_is kinds.Checkpoint body r e = let a = bind_some (read_whole read_checkpoint_parts body) (λ x. Some (Checkpoint x.0 x.1)) r e in ap kind_of (same_Some _ r a.2)
kind_is kinds.CreateTable body r e =
    let a = bind_some (read_table_head body) (λ x. cond (is_some (read_definition x.1)) (Some (CreateTable x.0.0 x.0.1.0 x.1 x.0.1.1)) None) r e in
    ap kind_of (cond_some (is_some (read_definition a.0.1)) (CreateTable a.0.0.0 a.0.0.1.0 a.0.1 a.0.0.1.1) r a.2).1
kind_is kinds.DropTable body r e = let a = bind_some (read_whole name_at body) (λ name. Some (DropTable name)) r e in ap kind_of (same_Some _ r a.2)
kind_is kinds.RepairTable body r e = let a = bind_some (read_whole name_at body) (λ name. Some (RepairTable name)) r e in ap kind_of (same_Some _ r a.2)

no_redo_kind : (kind : RecordKind) (r : Record) → ((k : RedoKind) → kind ≡ kinds.Redo k → ⊥) → kind ≡ kind_of r → is_redo r ≡ false
no_redo_kind kind (Redo k table part page edits) other is = absurd (other k is)
no_redo_kind kind (UndoRowInsert table prev places) other is = refl
no_redo_kind kind (UndoRowDelete table prev places row) other is = refl
no_redo_kind kind (UndoKeyInsert table prev key target entry) other is = refl
no_redo_kind kind (UndoKeyDelete table prev key target entry) other is = refl
no_redo_kind kind (ClrEnd table undone next) other is = refl
no_redo_kind kind Commit other is = refl
no_redo_kind kind (Checkpoint redo dirty) other is = refl
no_redo_kind kind (CreateTable table plain definition format) other is = refl
no_redo_kind kind (DropTable table) other is = refl
no_redo_kind kind (RepairTable table) other is = refl

pub other_tells : (kind : RecordKind) (body : List ℕ) (r : Record) → ((k : RedoKind) → kind ≡ kinds.Redo k → ⊥) → read_kind kind body ≡ Some r → IsOther kind body r
other_tells kind body r other e = let same = kind_is kind body r e in record { same = same; read = e; other = no_redo_kind kind r other same }

-- ---- entries

-- the kind and the body of a record that was read
record Framed (bytes : List ℕ) (x : Record × List ℕ) : Type 0 where
  kind : RecordKind
  body : List ℕ
  frame : read_frame bytes ≡ Some ((kind, body), x.1)
  read : read_kind kind body ≡ Some x.0

frame_gives : (bytes : List ℕ) (byte : ℕ × List ℕ) (body : List ℕ × List ℕ) (kind : RecordKind) → number_at 1 bytes ≡ Some byte → counted_at 4 byte.1 ≡ Some body → kind_with byte.0 ≡ Some kind → read_frame bytes ≡ Some ((kind, body.0), body.1)
unfolding read_frame
frame_gives bytes byte body kind one two three = rw (one, two, three) refl

framed : (bytes : List ℕ) (x : Record × List ℕ) → read_record bytes ≡ Some x → Framed bytes x
unfolding read_record read_body
framed bytes x e =
    let byte = bind_some (number_at 1 bytes) (λ kind. counted_at 4 kind.1 >>= λ body. read_body kind.0 body.0 >>= λ r. Some (r, body.1)) x e in
    let body = bind_some (counted_at 4 byte.0.1) (λ body. read_body byte.0.0 body.0 >>= λ r. Some (r, body.1)) x byte.2 in
    let r = bind_some (read_body byte.0.0 body.0.0) (λ r. Some (r, body.0.1)) x body.2 in
    let kind = bind_some (kind_with byte.0.0) (λ kind. read_kind kind body.0.0) r.0 r.1 in
    let made : Record × List ℕ = (r.0, body.0.1) in
    let same : made ≡ x = same_Some made x r.2 in
    let gave = frame_gives bytes byte.0 body.0 kind.0 byte.1 body.1 kind.1 in
    record {
      kind = kind.0;
      body = body.0.0;
      frame = gave ∙ ap (λ (y : Record × List ℕ). Some ((kind.0, body.0.0), y.1)) same;
      read = kind.2 ∙ ap (λ (y : Record × List ℕ). Some y.0) same;
    }

pub no_entries : (n : ℕ) (bytes : List ℕ) (records : List Record) → n ≡ 0 → items_at read_record n bytes ≡ Some (records, []) → records ≡ []
no_entries n bytes records none e = none_left read_record n bytes records none e

pub no_frame : (n : ℕ) (bytes : List ℕ) (records : List Record) → 1 ≤ n → read_frame bytes ≡ None → items_at read_record n bytes ≡ Some (records, []) → records ≡ []
no_frame n bytes records some nothing e =
    let f = first_at read_record n bytes records some e in
    absurd (cc ((framed bytes f.x f.first).frame, nothing))

-- what the entry in front is, by its frame
record InFront (n : ℕ) (kind : RecordKind) (body after : List ℕ) (records : List Record) : Type 0 where
  r : Record
  others : List Record
  read : read_kind kind body ≡ Some r
  rest : items_at read_record (n - 1) after ≡ Some (others, [])
  whole : records ≡ r ∷ others

in_front : (n : ℕ) (bytes : List ℕ) (records : List Record) (kind : RecordKind) (body after : List ℕ) → 1 ≤ n → read_frame bytes ≡ Some ((kind, body), after) → items_at read_record n bytes ≡ Some (records, []) → InFront n kind body after records
in_front n bytes records kind body after some is e =
    let f = first_at read_record n bytes records some e in
    let found = framed bytes f.x f.first in
    let theirs : (RecordKind × List ℕ) × List ℕ = ((found.kind, found.body), f.x.1) in
    let mine : (RecordKind × List ℕ) × List ℕ = ((kind, body), after) in
    let same : theirs ≡ mine = same_Some theirs mine (sym found.frame ∙ is) in
    let P : (RecordKind × List ℕ) × List ℕ → Type 0 = λ y. (read_kind y.0.0 y.0.1 ≡ Some f.x.0) × (items_at read_record (n - 1) y.1 ≡ Some (f.others, [])) in
    let t = subst P same (found.read, f.rest) in
    record { r = f.x.0; others = f.others; read = t.0; rest = t.1; whole = f.whole }

pub no_entry : (n : ℕ) (bytes : List ℕ) (records : List Record) (kind : RecordKind) (body after : List ℕ) → 1 ≤ n → read_frame bytes ≡ Some ((kind, body), after) → ((r : Record) → read_kind kind body ≡ Some r → ⊥)
    → items_at read_record n bytes ≡ Some (records, []) → records ≡ []
no_entry n bytes records kind body after some is none e = let f = in_front n bytes records kind body after some is e in absurd (none f.r f.read)

pub first_entry : (n : ℕ) (bytes : List ℕ) (records : List Record) (kind : RecordKind) (body : List ℕ) (entry : Entry) (others : Entries) → 1 ≤ n → read_frame bytes ≡ Some ((kind, body), others.rest.now) → others.left ≡ n - 1
    → ((r : Record) → read_kind kind body ≡ Some r → IsEntry entry r) → items_at read_record n bytes ≡ Some (records, []) → IsFirstEntry (Some (entry, others)) records
first_entry n bytes records kind body entry others some is left tells e =
    let f = in_front n bytes records kind body others.rest.now some is e in
    subst (λ (l : List Record). IsFirstEntry (Some (entry, others)) l) (sym f.whole) (tells f.r f.read, ap (λ (m : ℕ). items_at read_record m others.rest.now) left ∙ f.rest)

-- ---- groups

-- where the entries of a group lie
record GroupLies (bytes : List ℕ) (group : List Record) : Type 0 where
  content : List ℕ × List ℕ
  count : ℕ × List ℕ
  counted : counted_at 4 bytes ≡ Some content
  number : number_at 1 content.0 ≡ Some count
  entries : items_at read_record count.0 count.1 ≡ Some (group, [])

group_lies : (bytes : List ℕ) (group : List Record) (rest : List ℕ) → read_group bytes ≡ Some (group, rest) → GroupLies bytes group
unfolding read_group read_content read_whole list_at
group_lies bytes group rest e =
    let total : List Record × List ℕ = (group, rest) in
    let content = bind_some (counted_at 4 bytes) (λ content. read_content content.0 >>= λ group. Some (group, content.1)) total e in
    let g = bind_some (read_content content.0.0) (λ group. Some (group, content.0.1)) total content.2 in
    let w = bind_some (read_whole (list_at read_record) content.0.0) (λ g. cond (is_group g) (Some g) None) g.0 g.1 in
    let t = cond_some (is_group w.0) w.0 g.0 w.2 in
    let x = bind_some (list_at read_record content.0.0) (λ x. cond (eqb (length x.1) 0) (Some x.0) None) w.0 w.1 in
    let u = cond_some (eqb (length x.0.1) 0) x.0.0 w.0 x.2 in
    let empty : x.0.1 ≡ [] = nil_from_length x.0.1 (eqb-true _ _ u.0) in
    let count = bind_some (number_at 1 content.0.0) (λ count. items_at read_record count.0 count.1) x.0 x.1 in
    let made : List Record × List ℕ = (g.0, content.0.1) in
    let same : x.0.0 ≡ group = u.1 ∙ t.1 ∙ ap (λ (y : List Record × List ℕ). y.0) (same_Some made total g.2) in
    let ending : List Record × List ℕ = (group, []) in
    let all : x.0 ≡ ending = λ i. (same i, empty i) in
    record {
      content = content.0;
      count = count.0;
      counted = content.1;
      number = count.1;
      entries = count.2 ∙ ap Some all;
    }

pub no_content : (bytes : List ℕ) (group : List Record) (rest : List ℕ) → counted_at 4 bytes ≡ None → read_group bytes ≡ Some (group, rest) → ⊥
no_content bytes group rest none e = cc ((group_lies bytes group rest e).counted, none)

pub no_count : (bytes : List ℕ) (group : List Record) (rest content after : List ℕ) → counted_at 4 bytes ≡ Some (content, after) → number_at 1 content ≡ None → read_group bytes ≡ Some (group, rest) → ⊥
no_count bytes group rest content after is none e =
    let g = group_lies bytes group rest e in
    let mine : List ℕ × List ℕ = (content, after) in
    let same : g.content ≡ mine = same_Some g.content mine (sym g.counted ∙ is) in
    let there : number_at 1 content ≡ Some g.count = ap (λ (y : List ℕ × List ℕ). number_at 1 y.0) (sym same) ∙ g.number in
    cc (there, none)

pub group_begins : (bytes : List ℕ) (group : List Record) (rest content after : List ℕ) (entries : Entries) → counted_at 4 bytes ≡ Some (content, after) → number_at 1 content ≡ Some (entries.left, entries.rest.now)
    → read_group bytes ≡ Some (group, rest) → AreEntries entries group
group_begins bytes group rest content after entries is count e =
    let g = group_lies bytes group rest e in
    let mine : List ℕ × List ℕ = (content, after) in
    let same : g.content ≡ mine = same_Some g.content mine (sym g.counted ∙ is) in
    let there : number_at 1 content ≡ Some g.count = ap (λ (y : List ℕ × List ℕ). number_at 1 y.0) (sym same) ∙ g.number in
    let first : ℕ × List ℕ = (entries.left, entries.rest.now) in
    let both : g.count ≡ first = same_Some g.count first (sym there ∙ count) in
    subst (λ (y : ℕ × List ℕ). items_at read_record y.0 y.1 ≡ Some (group, [])) both g.entries

-- How many bytes entries take.
use Rattle.std.proofs.Common.{◌≡◌, ℕ, ◌+◌, ◌*◌, ◌^◌, ◌<◌, ◌≤◌, Bool, List, [], ◌∷◌, ◌++◌, length, Option, Some, None, refl, ap, ◌∙◌, arith, length-append}
use Rattle.std.specs.Prelude.{IsTrue}
use Rattle.std.specs.List.{flat_map, AllByRecursion}
use Rattle.std.proofs.lemmas.List.Concat.{flat_map-cons}
use Rattle.aria_page.specs.declared.edit.Edit.{Edit}
use Rattle.aria_page.specs.declared.edit.Edit.TheVariants.{Set, Shift, Whole}
use Rattle.aria_page.specs.declared.group.Last.{Last}
use Rattle.aria_page.specs.declared.group.Last.TheVariants as last
use Rattle.aria_page.specs.declared.group.RedoKind.{RedoKind}
use Rattle.aria_page.specs.declared.lsn.Lsn.{Lsn}
use Rattle.aria_page.specs.declared.place.Part.{Part}
use Rattle.aria_page.specs.declared.place.Part.TheVariants.{Keys, Rows}
use Rattle.aria_page.specs.declared.place.Place.{Place}
use Rattle.aria_page.specs.declared.place.Places.{Places}
use Rattle.aria_page.specs.Edit.{IsWithin}
use Rattle.aria_page.specs.Items.{list_bytes}
use Rattle.aria_page.specs.Lsn.{IsLsn, lsn_bytes}
use Rattle.aria_page.specs.Number.{number}
use Rattle.aria_page.specs.Text.{name_bytes}
use Rattle.aria_page.specs.Word.{is_word}
use Rattle.aria_page.proofs.Numbers.{length-number}
use Rattle.aria_page.proofs.StoredLsn.{length-lsn_bytes}
use Rattle.aria_page.proofs.Texts.{word_length}
use Rattle.aria_record.specs.declared.record.Record.{Record}
use Rattle.aria_record.specs.declared.record.Record.TheVariants.{Redo, Commit, CreateTable, DropTable}
use Rattle.aria_record.specs.RecordKind.{kind_byte, kind_of}
use Rattle.aria_record.specs.Groups.{BodyFits}
use Rattle.aria_record.specs.Spelled.{part_bytes, place_bytes, tail_bytes, places_bytes, edit_bytes, row_head, key_head, table_number, body_bytes, record_bytes}
use Rattle.aria_record.specs.Writing.{last_record, LastFits, edit_size, edits_size, redo_size, last_size}

-- ---- fields

name_most : (table : List ℕ) → IsTrue (is_word table) → length (name_bytes table) ≤ 65
unfolding name_bytes
name_most table word = omega (arith, word_length table word, length-append (number 1 (length table)) table, length-number 1 (length table))

length-part : (part : Part) → length (part_bytes part) ≡ 1
length-part Keys = length-number 1 0
length-part Rows = length-number 1 1

length-place : (place : Place) → length (place_bytes place) ≡ 5
length-place place = omega (arith, length-append (number 4 place.page) (number 1 place.slot), length-number 4 place.page, length-number 1 place.slot)

length-tail : (tail : Option Place) → length (tail_bytes tail) ≡ 5
length-tail None = omega (arith, length-append (number 4 0) (number 1 0), length-number 4 0, length-number 1 0)
length-tail (Some place) = length-place place

length-places : (places : Places) → length (places_bytes places) ≡ 15
length-places places =
    omega (
      arith,
      length-append (place_bytes places.head) (tail_bytes places.tail ++ (number 4 places.blob ++ number 1 places.blobs)),
      length-place places.head,
      length-append (tail_bytes places.tail) (number 4 places.blob ++ number 1 places.blobs),
      length-tail places.tail,
      length-append (number 4 places.blob) (number 1 places.blobs),
      length-number 4 places.blob,
      length-number 1 places.blobs,
    )

row_head_most : (table : List ℕ) (prev : Lsn) (places : Places) → IsTrue (is_word table) → length (row_head table prev places) ≤ 87
row_head_most table prev places word =
    omega (arith, name_most table word, length-append (name_bytes table) (lsn_bytes prev ++ places_bytes places), length-append (lsn_bytes prev) (places_bytes places), length-lsn_bytes prev, length-places places)

key_head_most : (table : List ℕ) (prev : Lsn) (key target : ℕ) → IsTrue (is_word table) → length (key_head table prev key target) ≤ 78
key_head_most table prev key target word =
    omega (
      arith,
      name_most table word,
      length-append (name_bytes table) (lsn_bytes prev ++ (number 1 key ++ number 5 target)),
      length-append (lsn_bytes prev) (number 1 key ++ number 5 target),
      length-lsn_bytes prev,
      length-append (number 1 key) (number 5 target),
      length-number 1 key,
      length-number 5 target,
    )

-- ---- edits

length-edit : (edit : Edit) → length (edit_bytes edit) ≡ edit_size edit
length-edit (Set at bytes) =
    omega (arith, length-append (number 2 at) (number 2 (length bytes) ++ bytes), length-append (number 2 (length bytes)) bytes, length-number 2 at, length-number 2 (length bytes))
length-edit (Shift at len to) =
    omega (arith, length-append (number 2 at) (number 2 len ++ number 2 to), length-append (number 2 len) (number 2 to), length-number 2 at, length-number 2 len, length-number 2 to)
length-edit (Whole body) = omega arith

length-edits : (edits : List Edit) → length (flat_map edit_bytes edits) ≡ edits_size edits
length-edits [] = refl
length-edits (e ∷ edits) =
    ap (λ (l : List ℕ). length l) (flat_map-cons edit_bytes e edits)
    ∙ omega (arith, length-append (edit_bytes e) (flat_map edit_bytes edits), length-edit e, length-edits edits)

-- an edit takes less than two pages
edit_most : (edit : Edit) → IsWithin edit → edit_size edit ≤ 8192
edit_most (Set at bytes) within = omega (arith, within)
edit_most (Shift at len to) within = omega arith
edit_most (Whole body) within = omega (arith, within)

edits_most : (edits : List Edit) → AllByRecursion IsWithin edits → edits_size edits ≤ 8192 * length edits
edits_most [] within = omega arith
edits_most (e ∷ edits) within = omega (arith, edit_most e within.0, edits_most edits within.1)

-- ---- entries

-- what stands in front of a body
pub length-record : (r : Record) → length (record_bytes r) ≡ 5 + length (body_bytes r)
length-record r =
    omega (
      arith,
      length-append (number 1 (kind_byte (kind_of r))) (number 4 (length (body_bytes r)) ++ body_bytes r),
      length-append (number 4 (length (body_bytes r))) (body_bytes r),
      length-number 1 (kind_byte (kind_of r)),
      length-number 4 (length (body_bytes r)),
    )

pub redo_most : (kind : RedoKind) (table : List ℕ) (part : Part) (page : ℕ) (edits : List Edit) → IsTrue (is_word table) → length (record_bytes (Redo kind table part page edits)) ≤ redo_size edits
redo_most kind table part page edits word =
    let list : List ℕ = list_bytes edit_bytes edits in
    omega (
      arith,
      length-record (Redo kind table part page edits),
      name_most table word,
      length-append (name_bytes table) (part_bytes part ++ (number 4 page ++ list)),
      length-append (part_bytes part) (number 4 page ++ list),
      length-part part,
      length-append (number 4 page) list,
      length-number 4 page,
      length-append (number 1 (length edits)) (flat_map edit_bytes edits),
      length-number 1 (length edits),
      length-edits edits,
    )

pub redo_low : (edits : List Edit) → AllByRecursion IsWithin edits → length edits < 256 → redo_size edits ≤ 2 ^ 22
redo_low edits within few = omega (arith, edits_most edits within)

pub last_most : (table : List ℕ) (prev : Lsn) (ending : Last) → IsTrue (is_word table) → length (record_bytes (last_record table prev ending)) ≤ last_size ending
last_most table prev (last.RowInsert places) word = omega (arith, length-record (last_record table prev (last.RowInsert places)), row_head_most table prev places word)
last_most table prev (last.RowDelete places row) word =
    omega (arith, length-record (last_record table prev (last.RowDelete places row)), row_head_most table prev places word, length-append (row_head table prev places) row)
last_most table prev (last.KeyInsert key target entry) word =
    omega (arith, length-record (last_record table prev (last.KeyInsert key target entry)), key_head_most table prev key target word, length-append (key_head table prev key target) entry)
last_most table prev (last.KeyDelete key target entry) word =
    omega (arith, length-record (last_record table prev (last.KeyDelete key target entry)), key_head_most table prev key target word, length-append (key_head table prev key target) entry)
last_most table prev (last.Clr undone next) word =
    omega (
      arith,
      length-record (last_record table prev (last.Clr undone next)),
      name_most table word,
      length-append (name_bytes table) (lsn_bytes undone ++ lsn_bytes next),
      length-append (lsn_bytes undone) (lsn_bytes next),
      length-lsn_bytes undone,
      length-lsn_bytes next,
    )

pub last_low : (ending : Last) → LastFits ending → last_size ending ≤ 2 ^ 22
last_low (last.RowInsert places) fits = omega arith
last_low (last.RowDelete places row) fits = fits.1
last_low (last.KeyInsert key target entry) fits = fits.2
last_low (last.KeyDelete key target entry) fits = fits.2
last_low (last.Clr undone next) fits = omega arith

pub last_fits : (table : List ℕ) (prev : Lsn) (ending : Last) → IsTrue (is_word table) → IsLsn prev → LastFits ending → BodyFits (last_record table prev ending)
last_fits table prev (last.RowInsert places) word before fits = record { word = word; before = before; fit = fits }
last_fits table prev (last.RowDelete places row) word before fits = record { word = word; before = before; fit = fits.0 }
last_fits table prev (last.KeyInsert key target entry) word before fits = record { word = word; before = before; known = fits.0; low = fits.1 }
last_fits table prev (last.KeyDelete key target entry) word before fits = record { word = word; before = before; known = fits.0; low = fits.1 }
last_fits table prev (last.Clr undone next) word before fits = record { word = word; this = fits.0; before = fits.1 }

pub create_most : (table : List ℕ) (plain : Bool) (definition : List ℕ) (format : ℕ) → IsTrue (is_word table) → length (record_bytes (CreateTable table plain definition format)) ≤ 71 + length definition
create_most table plain definition format word =
    omega (
      arith,
      length-record (CreateTable table plain definition format),
      name_most table word,
      length-append (name_bytes table ++ number 1 (table_number plain format)) definition,
      length-append (name_bytes table) (number 1 (table_number plain format)),
      length-number 1 (table_number plain format),
    )

pub commit_most : length (record_bytes Commit) ≤ 5
commit_most = omega (arith, length-record Commit)

pub drop_most : (table : List ℕ) → IsTrue (is_word table) → length (record_bytes (DropTable table)) ≤ 70
drop_most table word = omega (arith, length-record (DropTable table), name_most table word)

-- a body's length can be stored
pub body_low : (r : Record) {most : ℕ} → length (record_bytes r) ≤ most → most ≤ 2 ^ 22 → length (body_bytes r) < 2 ^ 32
body_low r size low = omega (arith, length-record r)

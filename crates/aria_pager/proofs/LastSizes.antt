-- How many bytes the record that ends a group takes.
use Rattle.std.proofs.Common.{◌≡◌, ◌∙◌, ℕ, ◌+◌, ◌≤◌, List, [], ◌∷◌, ◌++◌, length, ap, arith, length-append, Option, Some, None}
use Rattle.std.specs.Prelude.{IsTrue}
use Rattle.std.specs.List.{flat_map, AllByRecursion}
use Rattle.std.proofs.lemmas.Grind.{flat_map-append}
use Rattle.std.proofs.lemmas.List.{append-nil}
use Rattle.std.proofs.lemmas.List.Concat.{flat_map-cons}
use Rattle.aria_page.specs.declared.group.Last.{Last}
use Rattle.aria_page.specs.declared.group.Last.TheVariants.{RowInsert, RowDelete, KeyInsert, KeyDelete, Clr}
use Rattle.aria_page.specs.declared.lsn.Lsn.{Lsn}
use Rattle.aria_page.specs.declared.place.Place.{Place}
use Rattle.aria_page.specs.declared.place.Places.{Places}
use Rattle.aria_page.specs.Lsn.{lsn_bytes}
use Rattle.aria_page.specs.Number.{number}
use Rattle.aria_page.specs.Text.{name_bytes}
use Rattle.aria_page.specs.Word.{is_word}
use Rattle.aria_page.proofs.Numbers.{length-number}
use Rattle.aria_page.proofs.StoredLsn.{length-lsn_bytes}
use Rattle.aria_page.proofs.Texts.{word_length}
use Rattle.aria_record.specs.declared.group_writer.GroupWriter.{GroupWriter}
use Rattle.aria_record.specs.declared.record.Record.{Record}
use Rattle.aria_record.specs.Groups.{RecordFits}
use Rattle.aria_record.specs.Spelled.{place_bytes, tail_bytes, places_bytes, row_head, key_head, record_bytes}
use Rattle.aria_record.specs.Writing.{Writes, last_record, last_size, records_of, size_of}
use Rattle.aria_record.proofs.Sizes.{length-record}

name_most : (table : List ℕ) → IsTrue (is_word table) → length (name_bytes table) ≤ 65
unfolding name_bytes
name_most table word = omega (arith, word_length table word, length-append (number 1 (length table)) table, length-number 1 (length table))

length-place : (place : Place) → length (place_bytes place) ≡ 5
length-place place = omega (arith, length-append (number 4 place.page) (number 1 place.slot), length-number 4 place.page, length-number 1 place.slot)

length-tail : (tail : Option Place) → length (tail_bytes tail) ≡ 5
length-tail None = omega (arith, length-append (number 4 0) (number 1 0), length-number 4 0, length-number 1 0)
length-tail (Some place) = length-place place

length-places : (places : Places) → length (places_bytes places) ≡ 15
length-places places =
    omega (
      arith,
      length-append (place_bytes places.head) (tail_bytes places.tail ++ (number 4 places.blob ++ number 1 places.blobs)),
      length-place places.head,
      length-append (tail_bytes places.tail) (number 4 places.blob ++ number 1 places.blobs),
      length-tail places.tail,
      length-append (number 4 places.blob) (number 1 places.blobs),
      length-number 4 places.blob,
      length-number 1 places.blobs,
    )

row_most : (table : List ℕ) (prev : Lsn) (places : Places) → IsTrue (is_word table) → length (row_head table prev places) ≤ 87
row_most table prev places word =
    omega (arith, name_most table word, length-append (name_bytes table) (lsn_bytes prev ++ places_bytes places), length-append (lsn_bytes prev) (places_bytes places), length-lsn_bytes prev, length-places places)

key_most : (table : List ℕ) (prev : Lsn) (key target : ℕ) → IsTrue (is_word table) → length (key_head table prev key target) ≤ 78
key_most table prev key target word =
    omega (
      arith,
      name_most table word,
      length-append (name_bytes table) (lsn_bytes prev ++ (number 1 key ++ number 5 target)),
      length-append (lsn_bytes prev) (number 1 key ++ number 5 target),
      length-lsn_bytes prev,
      length-append (number 1 key) (number 5 target),
      length-number 1 key,
      length-number 5 target,
    )

-- with the five bytes in front of a group it takes what `last_size` says at most
last_short : (table : List ℕ) (prev : Lsn) (last : Last) → IsTrue (is_word table) → 5 + length (record_bytes (last_record table prev last)) ≤ last_size last
last_short table prev (RowInsert places) word = omega (arith, length-record (last_record table prev (RowInsert places)), row_most table prev places word)
last_short table prev (RowDelete places row) word = omega (arith, length-record (last_record table prev (RowDelete places row)), row_most table prev places word, length-append (row_head table prev places) row)
last_short table prev (KeyInsert key target entry) word =
    omega (arith, length-record (last_record table prev (KeyInsert key target entry)), key_most table prev key target word, length-append (key_head table prev key target) entry)
last_short table prev (KeyDelete key target entry) word =
    omega (arith, length-record (last_record table prev (KeyDelete key target entry)), key_most table prev key target word, length-append (key_head table prev key target) entry)
last_short table prev (Clr undone next) word =
    omega (
      arith,
      length-record (last_record table prev (Clr undone next)),
      name_most table word,
      length-append (name_bytes table) (lsn_bytes undone ++ lsn_bytes next),
      length-append (lsn_bytes undone) (lsn_bytes next),
      length-lsn_bytes undone,
      length-lsn_bytes next,
    )

last_word : (table : List ℕ) (prev : Lsn) (last : Last) → RecordFits (last_record table prev last) → IsTrue (is_word table)
last_word table prev (RowInsert places) fits = fits.body.word
last_word table prev (RowDelete places row) fits = fits.body.word
last_word table prev (KeyInsert key target entry) fits = fits.body.word
last_word table prev (KeyDelete key target entry) fits = fits.body.word
last_word table prev (Clr undone next) fits = fits.body.word

newest_of : (rs : List Record) (r : Record) → AllByRecursion RecordFits (rs ++ r ∷ []) → RecordFits r
newest_of [] r each = each.0
newest_of (x ∷ rs) r each = newest_of rs r each.1

-- THE GROUP WITH ITS LAST RECORD
pub last_bytes : (old new : GroupWriter) (table : List ℕ) (prev : Lsn) (last : Last) → Writes old (records_of old) → Writes new (records_of old ++ last_record table prev last ∷ []) → size_of new + 5 ≤ size_of old + last_size last
last_bytes old new table prev last was now =
    omega (
      arith,
      ap (λ (l : List ℕ). length l) was.spelled,
      ap (λ (l : List ℕ). length l) (now.spelled ∙ flat_map-append record_bytes (records_of old) (r ∷ [])),
      length-append (flat_map record_bytes (records_of old)) (flat_map record_bytes (r ∷ [])),
      ap (λ (l : List ℕ). length l) (flat_map-cons record_bytes r [] ∙ append-nil (record_bytes r)),
      last_short table prev last (last_word table prev last (newest_of (records_of old) r now.each)),
    )
  where
    r : Record
    r = last_record table prev last

-- What the calls of a writer do.
use Rattle.std.proofs.Common.{◌≡◌, ℕ, ◌+◌, ◌^◌, ◌<◌, ◌≤◌, List, [], ◌∷◌, ◌++◌, length, take, drop, sym, ap, subst, ◌∙◌, append_assoc, arith, length-append, length-drop}
use Rattle.std.specs.Prelude.{IsTrue}
use Rattle.std.specs.List.{flat_map, AllByRecursion}
use Rattle.std.proofs.lemmas.List.{append-nil, drop_at, drop-append-le, length-take}
use Rattle.std.proofs.lemmas.List.Concat.{flat_map-cons}
use Rattle.std.proofs.lemmas.Grind.{flat_map-append}
use Rattle.aria_page.specs.Items.{items_at}
use Rattle.aria_page.specs.Number.{number}
use Rattle.aria_page.proofs.Items.{items_again}
use Rattle.aria_page.proofs.Numbers.{length-number, number-one}
use Rattle.aria_record.specs.declared.group_writer.GroupWriter.{GroupWriter}
use Rattle.aria_record.specs.declared.record.Record.{Record}
use Rattle.aria_record.specs.Groups.{is_group, BodyFits, RecordFits, IsGroup}
use Rattle.aria_record.specs.RecordKind.{kind_byte, kind_of}
use Rattle.aria_record.specs.Spelled.{body_bytes, record_bytes, content_bytes, group_bytes}
use Rattle.aria_record.specs.Reading.{read_record}
use Rattle.aria_record.specs.Writing.{Adds, Writes, read_all, records_of, IsWriting, size_of, Pushes}
use Rattle.aria_record.proofs.Lengths.{Behind, entry_set}
use Rattle.aria_record.proofs.Records.{records_read}
use Rattle.aria_record.proofs.Sizes.{length-record, body_low}

-- ---- what is written is what the bytes spell

pub written_is : (writer : GroupWriter) (records : List Record) → Writes writer records → records_of writer ≡ records
unfolding records_of
written_is writer records w =
    ap (λ (n : ℕ). read_all (items_at read_record n (drop 5 writer.bytes))) w.count
    ∙ ap (λ (l : List ℕ). read_all (items_at read_record (length records) l)) (w.spelled ∙ sym (append-nil (flat_map record_bytes records)))
    ∙ ap read_all (items_again record_bytes RecordFits read_record records_read records [] w.each)

-- a writer that wrote some records is writing
pub is_writing : (writer : GroupWriter) (records : List Record) → Writes writer records → IsWriting writer
is_writing writer records w = subst (Writes writer) (sym (written_is writer records w)) w

-- ---- one record more

each_more : {A : Type 0} (P : A → Type 0) (xs : List A) (x : A) → AllByRecursion P xs → P x → AllByRecursion P (xs ++ x ∷ [])
each_more P [] x all here = (here, tt)
each_more P (y ∷ xs) x all here = (all.0, each_more P xs x all.1 here)

spelled_more : (records : List Record) (r : Record) → flat_map record_bytes (records ++ r ∷ []) ≡ flat_map record_bytes records ++ record_bytes r
spelled_more records r = flat_map-append record_bytes records (r ∷ []) ∙ ap (λ (l : List ℕ). flat_map record_bytes records ++ l) (flat_map-cons record_bytes r [] ∙ append-nil (record_bytes r))

-- what is behind the places in front
behind_head : (old head new text : List ℕ) → 5 ≤ length head → drop 5 head ≡ drop 5 old → new ≡ head ++ text → drop 5 new ≡ drop 5 old ++ text
behind_head old head new text place same is = ap (drop 5) is ∙ drop-append-le 5 head text place ∙ ap (λ (l : List ℕ). l ++ text) same

writes_more : (old new : GroupWriter) (r : Record) → drop 5 new.bytes ≡ drop 5 old.bytes ++ record_bytes r → new.count ≡ old.count + 1 → RecordFits r → length (record_bytes r) ≤ 2 ^ 22
    → (records : List Record) → Writes old records → Writes new (records ++ r ∷ [])
writes_more old new r spelled count fits low records w = record {
  spelled = spelled ∙ ap (λ (l : List ℕ). l ++ record_bytes r) w.spelled ∙ sym (spelled_more records r);
  count = omega (arith, count, w.count, length-append records (r ∷ []));
  each = each_more RecordFits records r w.each fits;
  size = omega (arith, ap (λ (l : List ℕ). length l) spelled, length-append (drop 5 old.bytes) (record_bytes r), w.size, count, low);
}

pub pushes : (old new : GroupWriter) (head : List ℕ) {r : Record} {most : ℕ} → 5 ≤ length head → drop 5 head ≡ drop 5 old.bytes → Adds head new.bytes r most → most ≤ 2 ^ 22 → new.count ≡ old.count + 1 → Pushes old new r most
pushes old new head {r} {most} place same added low count =
    let spelled : drop 5 new.bytes ≡ drop 5 old.bytes ++ record_bytes r = behind_head old.bytes head new.bytes (record_bytes r) place same added.spelled in
    let size : length (record_bytes r) ≤ most = added.size in
    let more = writes_more old new r spelled count added.fits (omega (arith, size, low)) in
    record {
      pushed = more;
      count = count;
      told = λ writing. written_is new (records_of old ++ r ∷ []) (more (records_of old) writing);
      bytes = omega (arith, ap (λ (l : List ℕ). length l) spelled, length-append (drop 5 old.bytes) (record_bytes r), size);
    }

-- ---- the places in front

-- the number of entries is put in its place
pub number_put : (bytes new : List ℕ) (count : ℕ) → 5 ≤ length bytes → new ≡ take 4 bytes ++ ((count ∷ []) ++ drop 5 bytes) → drop 4 new ≡ count ∷ drop 5 bytes
number_put bytes new count place is = ap (drop 4) is ∙ drop_at (take 4 bytes) (count ∷ drop 5 bytes) 4 (omega (arith, length-take 4 bytes))

-- and then the length
pub head_filled : (bytes put new : List ℕ) (count : ℕ) → count < 256 → drop 4 put ≡ count ∷ drop 5 bytes → new ≡ take 0 put ++ (number 4 (length (drop 4 put)) ++ drop 4 put)
    → new ≡ number 4 (1 + length (drop 5 bytes)) ++ (number 1 count ++ drop 5 bytes)
head_filled bytes put new count low is set =
    set ∙ ap (λ (l : List ℕ). number 4 (length l) ++ l) is
    ∙ ap (λ (n : ℕ). number 4 n ++ (count ∷ drop 5 bytes)) (omega arith)
    ∙ ap (λ (l : List ℕ). number 4 (1 + length (drop 5 bytes)) ++ (l ++ drop 5 bytes)) (sym (number-one count low))

-- ---- the group is whole

group_size : (writer : GroupWriter) (records : List Record) → Writes writer records → length (content_bytes records) ≡ 1 + length (drop 5 writer.bytes)
group_size writer records w = omega (arith, length-append (number 1 (length records)) (flat_map record_bytes records), length-number 1 (length records), ap (λ (l : List ℕ). length l) w.spelled)

pub length-group : (writer : GroupWriter) (records : List Record) → Writes writer records → length (group_bytes records) ≡ size_of writer
length-group writer records w = omega (arith, length-append (number 4 (length (content_bytes records))) (content_bytes records), length-number 4 (length (content_bytes records)), group_size writer records w)

pub group_filled : (writer : GroupWriter) (new : List ℕ) (records : List Record) → Writes writer records → new ≡ number 4 (1 + length (drop 5 writer.bytes)) ++ (number 1 writer.count ++ drop 5 writer.bytes) → new ≡ group_bytes records
group_filled writer new records w is =
    is ∙ ap (λ (n : ℕ). number 4 n ++ (number 1 writer.count ++ drop 5 writer.bytes)) (sym (group_size writer records w))
    ∙ ap (λ (n : ℕ). number 4 (length (content_bytes records)) ++ (number 1 n ++ drop 5 writer.bytes)) w.count
    ∙ ap (λ (l : List ℕ). number 4 (length (content_bytes records)) ++ (number 1 (length records) ++ l)) w.spelled

pub is_whole : (writer : GroupWriter) (records : List Record) → writer.count < 256 → Writes writer records → IsTrue (is_group records) → IsGroup records
is_whole writer records low w shape = record { shape = shape; few = omega (arith, w.count); each = w.each; size = omega (arith, group_size writer records w, w.size) }

-- what was written stands behind the places as before
pub still_writes : (writer new : GroupWriter) (records : List Record) → Writes writer records → new.bytes ≡ number 4 (1 + length (drop 5 writer.bytes)) ++ (number 1 writer.count ++ drop 5 writer.bytes) → new.count ≡ writer.count → Writes new records
still_writes writer new records w is count =
    let front : List ℕ = number 4 (1 + length (drop 5 writer.bytes)) ++ number 1 writer.count in
    let long : length front ≡ 5 = omega (arith, length-append (number 4 (1 + length (drop 5 writer.bytes))) (number 1 writer.count), length-number 4 (1 + length (drop 5 writer.bytes)), length-number 1 writer.count) in
    let same : drop 5 new.bytes ≡ drop 5 writer.bytes =
    ap (drop 5) (is ∙ sym (append_assoc (number 4 (1 + length (drop 5 writer.bytes))) (number 1 writer.count) (drop 5 writer.bytes))) ∙ drop_at front (drop 5 writer.bytes) 5 long in
    record { spelled = same ∙ w.spelled; count = count ∙ w.count; each = w.each; size = omega (arith, ap (λ (l : List ℕ). length l) same, w.size, count) }

-- A group has entries, so it is longer than the places, and not longer than what the places can tell.
pub is_long : (writer : GroupWriter) (records : List Record) → Writes writer records → IsTrue (is_group records) → 5 < length writer.bytes
is_long writer [] w shape = absurd cc
is_long writer (r ∷ records) w shape =
    omega (arith, ap (λ (l : List ℕ). length l) (w.spelled ∙ flat_map-cons record_bytes r records), length-append (record_bytes r) (flat_map record_bytes records), length-record r, length-drop 5 writer.bytes)

pub is_short : (writer : GroupWriter) (records : List Record) → writer.count < 256 → Writes writer records → length writer.bytes < 2 ^ 32
is_short writer records low w = omega (arith, w.size, length-drop 5 writer.bytes)

-- ---- an entry

-- the kind of an entry, behind what was there
abbrev pub with_kind : List ℕ → Record → List ℕ
with_kind out r = out ++ number 1 (kind_byte (kind_of r))

-- Once its length is set, an entry is added.
pub adds : (out : List ℕ) (r : Record) {left now new : List ℕ} {at most : ℕ} → Behind (with_kind out r) (body_bytes r) left now at → new ≡ take at now ++ (number 4 (length (drop (at + 4) now)) ++ drop (at + 4) now)
    → BodyFits r → length (record_bytes r) ≤ most → most ≤ 2 ^ 22 → Adds out new r most
adds out r written set fits size low = record { spelled = entry_set out (number 1 (kind_byte (kind_of r))) written set; fits = record { body = fits; size = body_low r size low }; size = size }

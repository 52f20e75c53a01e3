-- The fields of entries are read as they were spelled.
use Rattle.std.proofs.Common.{◌≡◌, ℕ, zero, suc, ◌+◌, ◌^◌, ◌<◌, ◌≤◌, ◌⊎◌, Bool, true, false, not, ◌&&◌, cond, eqb, ltb, List, [], ◌∷◌, ◌++◌, length, Option, Some, None, refl, sym, ap, subst, ◌∙◌, arith, inl, inr, lit<, nat_le}
use Rattle.std.specs.Prelude.{IsTrue}
use Rattle.std.specs.List.{flat_map, AllByRecursion}
use Rattle.std.proofs.lemmas.Bool.{eqb-true, eqb-false, eq-eqb, ne_eqb, ltb-true, lt-ltb, leb-true, le-leb, and_parts, and_from, cases_Bool}
use Rattle.std.proofs.lemmas.Option.{same_Some, cond_some}
use Rattle.aria_page.specs.declared.edit.Edit.{Edit}
use Rattle.aria_page.specs.declared.edit.Edit.TheVariants.{Set, Shift, Whole}
use Rattle.aria_page.specs.declared.lsn.Lsn.{Lsn}
use Rattle.aria_page.specs.declared.place.Part.{Part}
use Rattle.aria_page.specs.declared.place.Part.TheVariants.{Keys, Rows}
use Rattle.aria_page.specs.declared.place.Place.{Place}
use Rattle.aria_page.specs.declared.place.Places.{Places}
use Rattle.aria_page.specs.Edit.{IsWithin}
use Rattle.aria_page.specs.Field.{AreBytes, Takes}
use Rattle.aria_page.specs.Number.{number, number_at}
use Rattle.aria_page.specs.Lsn.{IsLsn, lsn_bytes, lsn_at}
use Rattle.aria_page.specs.Text.{bytes_at, name_bytes, name_at, counted_at}
use Rattle.aria_page.specs.Word.{is_word}
use Rattle.aria_page.proofs.Fields.{AreBytes-rest}
use Rattle.aria_page.proofs.Texts.{bytes_take, bytes_again}
use Rattle.aria_page.specs.Items.{list_bytes, list_at}
use Rattle.aria_page.proofs.Items.{Reads}
use Rattle.aria_record.specs.declared.record.Dirty.{Dirty}
use Rattle.aria_record.specs.Spelled.{part_bytes, place_bytes, tail_bytes, places_bytes, edit_bytes, dirty_bytes, table_number}
use Rattle.aria_record.specs.Groups.{PlaceFits, TailFits, PlacesFit, DirtyFits}
use Rattle.aria_record.specs.Reading.{read_both, part_of, read_part, page_of, read_page, place_of, read_place, tail_of, read_tail, blobs_of, read_blobs, places_of, read_places, is_within, fitting, read_set, read_shift, read_body_edit, read_edit, some_edits, read_edits, read_row_head, key_of, read_key, read_key_head, dirty_of, read_dirty, read_dirties, table_of, read_table, read_table_head, read_redo_parts, read_clr_parts, read_checkpoint_parts}
use Rattle.aria_record.proofs.Readers.{number_read, name_read, lsn_read, counted_read, both_read, as_read, list_read, dirties_read}

-- ---- places

part_found : (n : ℕ) (part : Part) → part_of n ≡ Some part → number 1 n ≡ part_bytes part
part_found zero part e = subst (λ p. number 1 0 ≡ part_bytes p) (same_Some Keys part e) refl
part_found (suc zero) part e = subst (λ p. number 1 1 ≡ part_bytes p) (same_Some Rows part e) refl
part_found (suc (suc n)) part e = absurd cc

part_meant : (part : Part) → (n : ℕ) × (n < 256 ^ 1) × (part_of n ≡ Some part) × (number 1 n ≡ part_bytes part)
part_meant Keys = (0, lit< tt, refl, refl)
part_meant Rows = (1, lit< tt, refl, refl)

pub part_read : Reads part_bytes (λ part. Unit {0}) read_part
unfolding read_part
part_read =
    as_read (number 1) (λ n. n < 256 ^ 1) (number_at 1) part_bytes (λ part. Unit {0}) part_of (number_read 1) (record {
      found = λ n part low e. (part_found n part e, tt);
      meant = λ part fits. part_meant part;
    })

page_found : (n page : ℕ) → page_of n ≡ Some page → (number 4 n ≡ number 4 page) × (page < 2 ^ 31)
page_found n page e =
    let t = cond_some (ltb n (2 ^ 31)) n page e in
    let low : n < 2 ^ 31 = ltb-true n (2 ^ 31) t.0 in
    (ap (number 4) t.1, subst (λ (k : ℕ). k < 2 ^ 31) t.1 low)

pub page_read : Reads (number 4) (λ n. n < 2 ^ 31) read_page
unfolding read_page
page_read =
    as_read (number 4) (λ n. n < 256 ^ 4) (number_at 4) (number 4) (λ n. n < 2 ^ 31) page_of (number_read 4) (record {
      found = λ n page low e. page_found n page e;
      meant = λ page low. (page, omega arith, rw (lt-ltb page (2 ^ 31) low) refl, refl);
    })

pub place_read : Reads place_bytes PlaceFits read_place
unfolding read_place
place_read =
    as_read (λ x. number 4 x.0 ++ number 1 x.1) (λ x. (x.0 < 2 ^ 31) × (x.1 < 256 ^ 1)) (read_both read_page (number_at 1)) place_bytes PlaceFits place_of
    (both_read (number 4) (λ n. n < 2 ^ 31) read_page (number 1) (λ n. n < 256 ^ 1) (number_at 1) page_read (number_read 1)) (record {
      found = λ x place fits e. subst (λ (p : Place). (number 4 x.0 ++ number 1 x.1 ≡ place_bytes p) × PlaceFits p) (same_Some (record { page = x.0; slot = x.1 }) place e) (refl, record { page = fits.0; slot = fits.1 });
      meant = λ place fits. ((place.page, place.slot), (fits.page, fits.slot), refl, refl);
    })

tail_found : (place : Place) (tail : Option Place) (zero_page zero_slot : Bool) → eqb place.page 0 ≡ zero_page → eqb place.slot 0 ≡ zero_slot → PlaceFits place
    → cond zero_page (cond zero_slot (Some None) None) (Some (Some place)) ≡ Some tail → (place_bytes place ≡ tail_bytes tail) × TailFits tail
tail_found place tail true true ep es fits e =
    let none : Option Place = None in
    subst (λ (t : Option Place). (place_bytes place ≡ tail_bytes t) × TailFits t) (same_Some none tail e) (rw (eqb-true place.page 0 ep, eqb-true place.slot 0 es) refl, tt)
tail_found place tail true false ep es fits e = absurd cc
tail_found place tail false zero_slot ep es fits e =
    subst (λ (t : Option Place). (place_bytes place ≡ tail_bytes t) × TailFits t) (same_Some (Some place) tail e) (refl, (fits, omega (arith, eqb-false place.page 0 ep)))

tail_meant : (tail : Option Place) → TailFits tail → (place : Place) × PlaceFits place × (tail_of place ≡ Some tail) × (place_bytes place ≡ tail_bytes tail)
tail_meant None fits = (record { page = 0; slot = 0 }, record { page = lit< tt; slot = lit< tt }, refl, refl)
tail_meant (Some place) fits = (place, fits.0, rw (ne_eqb place.page 0 (λ e. absurd (omega (arith, fits.1)))) refl, refl)

pub tail_read : Reads tail_bytes TailFits read_tail
unfolding read_tail
tail_read =
    as_read place_bytes PlaceFits read_place tail_bytes TailFits tail_of place_read (record {
      found = λ place tail fits e. tail_found place tail (eqb place.page 0) (eqb place.slot 0) refl refl fits e;
      meant = tail_meant;
    })

-- the first blob page and the number of blob pages
abbrev pub BlobsFit : ℕ × ℕ → Type 0
BlobsFit x = ((x.0 < 2 ^ 31) × (x.1 < 256 ^ 1)) × (x.1 ≡ 0 → x.0 ≡ 0)

abbrev pub blobs_bytes : ℕ × ℕ → List ℕ
blobs_bytes x = number 4 x.0 ++ number 1 x.1

blobs_found : (x y : ℕ × ℕ) (none some : Bool) → eqb x.1 0 ≡ none → eqb x.0 0 ≡ some → (x.0 < 2 ^ 31) × (x.1 < 256 ^ 1) → cond (none && not some) None (Some x) ≡ Some y
    → (blobs_bytes x ≡ blobs_bytes y) × BlobsFit y
blobs_found x y true true en es fits e = subst (λ (z : ℕ × ℕ). (blobs_bytes x ≡ blobs_bytes z) × BlobsFit z) (same_Some x y e) (refl, (fits, λ h. eqb-true x.0 0 es))
blobs_found x y true false en es fits e = absurd cc
blobs_found x y false some en es fits e =
    subst (λ (z : ℕ × ℕ). (blobs_bytes x ≡ blobs_bytes z) × BlobsFit z) (same_Some x y e) (refl, (fits, λ h. absurd (eqb-false x.1 0 en h)))

blobs_meant : (x : ℕ × ℕ) → BlobsFit x → blobs_of x ≡ Some x
blobs_meant x fits =
    elim (cases_Bool (eqb x.1 0)) [
      | inl none ↦ rw (none, eq-eqb x.0 0 (fits.1 (eqb-true x.1 0 none))) refl
      | inr some ↦ rw some refl
    ]

pub blobs_read : Reads blobs_bytes BlobsFit read_blobs
unfolding read_blobs
blobs_read =
    as_read blobs_bytes (λ x. (x.0 < 2 ^ 31) × (x.1 < 256 ^ 1)) (read_both read_page (number_at 1)) blobs_bytes BlobsFit blobs_of
    (both_read (number 4) (λ n. n < 2 ^ 31) read_page (number 1) (λ n. n < 256 ^ 1) (number_at 1) page_read (number_read 1)) (record {
      found = λ x y fits e. blobs_found x y (eqb x.1 0) (eqb x.0 0) refl refl fits e;
      meant = λ x fits. (x, fits.0, blobs_meant x fits, refl);
    })

pub places_read : Reads places_bytes PlacesFit read_places
unfolding read_places
places_read =
    as_read (λ x. place_bytes x.0 ++ (tail_bytes x.1.0 ++ blobs_bytes x.1.1)) (λ x. PlaceFits x.0 × (TailFits x.1.0 × BlobsFit x.1.1)) (read_both read_place (read_both read_tail read_blobs)) places_bytes PlacesFit places_of
    (both_read place_bytes PlaceFits read_place (λ x. tail_bytes x.0 ++ blobs_bytes x.1) (λ x. TailFits x.0 × BlobsFit x.1) (read_both read_tail read_blobs) place_read
    (both_read tail_bytes TailFits read_tail blobs_bytes BlobsFit read_blobs tail_read blobs_read)) (record {
      found = λ x places fits e. subst (λ (p : Places). (place_bytes x.0 ++ (tail_bytes x.1.0 ++ blobs_bytes x.1.1) ≡ places_bytes p) × PlacesFit p) (same_Some (record { head = x.0; tail = x.1.0; blob = x.1.1.0; blobs = x.1.1.1 }) places e)
          (refl, record { head = fits.0; tail = fits.1.0; blob = fits.1.1.0.0; blobs = fits.1.1.0.1; none = fits.1.1.1 });
      meant = λ places fits. ((places.head, (places.tail, (places.blob, places.blobs))), (fits.head, (fits.tail, ((fits.blob, fits.blobs), fits.none))), refl, refl);
    })

-- ---- edits

-- the number of an edit's kind, and what stands behind it
abbrev edit_kind : Edit → ℕ
edit_kind (Set at bytes) = 0
edit_kind (Shift at len to) = 1
edit_kind (Whole body) = 2

abbrev behind_kind : Edit → List ℕ
behind_kind (Set at bytes) = number 2 at ++ (number 2 (length bytes) ++ bytes)
behind_kind (Shift at len to) = number 2 at ++ (number 2 len ++ number 2 to)
behind_kind (Whole body) = body

edit_spelled : (edit : Edit) → edit_bytes edit ≡ edit_kind edit ∷ behind_kind edit
edit_spelled (Set at bytes) = refl
edit_spelled (Shift at len to) = refl
edit_spelled (Whole body) = refl

within_is : (edit : Edit) → is_within edit ≡ true → IsWithin edit
within_is (Set at bytes) e = leb-true _ _ e
within_is (Shift at len to) e = let t = and_parts (nat_le (at + len) 8181) (nat_le (to + len) 8181) e in (leb-true _ _ t.0, leb-true _ _ t.1)
within_is (Whole body) e = eqb-true _ _ e

is_within_of : (edit : Edit) → IsWithin edit → is_within edit ≡ true
is_within_of (Set at bytes) h = le-leb _ _ h
is_within_of (Shift at len to) h = and_from _ _ (le-leb _ _ h.0) (le-leb _ _ h.1)
is_within_of (Whole body) h = eq-eqb _ _ h

-- an edit of a kind that stays within the body
abbrev OfKind : ℕ → Edit → Type 0
OfKind kind edit = IsWithin edit × (edit_kind edit ≡ kind)

fitting_found : (edit found : Edit) → fitting edit ≡ Some found → (behind_kind edit ≡ behind_kind found) × OfKind (edit_kind edit) found
fitting_found edit found e =
    let t = cond_some (is_within edit) edit found e in
    subst (λ (x : Edit). (behind_kind edit ≡ behind_kind x) × OfKind (edit_kind edit) x) t.1 (refl, (within_is edit t.0, refl))

fitting_meant : (edit : Edit) → IsWithin edit → fitting edit ≡ Some edit
fitting_meant edit h = rw (is_within_of edit h) refl

set_meant : (edit : Edit) → OfKind 0 edit → (x : ℕ × List ℕ) × ((x.0 < 256 ^ 2) × (length x.1 < 256 ^ 2)) × (fitting (Set x.0 x.1) ≡ Some edit) × (number 2 x.0 ++ (number 2 (length x.1) ++ x.1) ≡ behind_kind edit)
set_meant (Set at bytes) h = ((at, bytes), (omega (arith, h.0), omega (arith, h.0)), fitting_meant (Set at bytes) h.0, refl)
set_meant (Shift at len to) h = absurd (omega (arith, h.1))
set_meant (Whole body) h = absurd (omega (arith, h.1))

set_read : Reads behind_kind (OfKind 0) read_set
unfolding read_set
set_read =
    as_read (λ x. number 2 x.0 ++ (number 2 (length x.1) ++ x.1)) (λ x. (x.0 < 256 ^ 2) × (length x.1 < 256 ^ 2)) (read_both (number_at 2) (counted_at 2)) behind_kind (OfKind 0) (λ x. fitting (Set x.0 x.1))
    (both_read (number 2) (λ n. n < 256 ^ 2) (number_at 2) (λ text. number 2 (length text) ++ text) (λ text. length text < 256 ^ 2) (counted_at 2) (number_read 2) (counted_read 2)) (record {
      found = λ x edit fits e. fitting_found (Set x.0 x.1) edit e;
      meant = set_meant;
    })

shift_meant : (edit : Edit) → OfKind 1 edit
    → (x : ℕ × (ℕ × ℕ)) × ((x.0 < 256 ^ 2) × ((x.1.0 < 256 ^ 2) × (x.1.1 < 256 ^ 2))) × (fitting (Shift x.0 x.1.0 x.1.1) ≡ Some edit) × (number 2 x.0 ++ (number 2 x.1.0 ++ number 2 x.1.1) ≡ behind_kind edit)
shift_meant (Set at bytes) h = absurd (omega (arith, h.1))
shift_meant (Shift at len to) h = ((at, (len, to)), (omega (arith, h.0.0), (omega (arith, h.0.0), omega (arith, h.0.1))), fitting_meant (Shift at len to) h.0, refl)
shift_meant (Whole body) h = absurd (omega (arith, h.1))

shift_read : Reads behind_kind (OfKind 1) read_shift
unfolding read_shift
shift_read =
    as_read (λ x. number 2 x.0 ++ (number 2 x.1.0 ++ number 2 x.1.1)) (λ x. (x.0 < 256 ^ 2) × ((x.1.0 < 256 ^ 2) × (x.1.1 < 256 ^ 2))) (read_both (number_at 2) (read_both (number_at 2) (number_at 2))) behind_kind (OfKind 1)
    (λ x. fitting (Shift x.0 x.1.0 x.1.1))
    (both_read (number 2) (λ n. n < 256 ^ 2) (number_at 2) (λ x. number 2 x.0 ++ number 2 x.1) (λ x. (x.0 < 256 ^ 2) × (x.1 < 256 ^ 2)) (read_both (number_at 2) (number_at 2)) (number_read 2)
    (both_read (number 2) (λ n. n < 256 ^ 2) (number_at 2) (number 2) (λ n. n < 256 ^ 2) (number_at 2) (number_read 2) (number_read 2))) (record {
      found = λ x edit fits e. fitting_found (Shift x.0 x.1.0 x.1.1) edit e;
      meant = shift_meant;
    })

body_found : (body : List ℕ) (edit : Edit) → length body ≡ 8181 → Some (Whole body) ≡ Some edit → (body ≡ behind_kind edit) × OfKind 2 edit
body_found body edit long e = subst (λ (x : Edit). (body ≡ behind_kind x) × OfKind 2 x) (same_Some (Whole body) edit e) (refl, (long, refl))

body_meant : (edit : Edit) → OfKind 2 edit → (body : List ℕ) × (length body ≡ 8181) × (Some (Whole body) ≡ Some edit) × (body ≡ behind_kind edit)
body_meant (Set at bytes) h = absurd (omega (arith, h.1))
body_meant (Shift at len to) h = absurd (omega (arith, h.1))
body_meant (Whole body) h = (body, h.0, refl, refl)

whole_body : Reads (λ body. body) (λ body. length body ≡ 8181) (bytes_at 8181)
whole_body = record { takes = λ bytes x fits e. bytes_take 8181 bytes x fits e; again = λ body rest long. bytes_again 8181 body rest long }

body_edit_read : Reads behind_kind (OfKind 2) read_body_edit
unfolding read_body_edit
body_edit_read = as_read (λ body. body) (λ body. length body ≡ 8181) (bytes_at 8181) behind_kind (OfKind 2) (λ body. Some (Whole body)) whole_body (record { found = body_found; meant = body_meant })

-- an edit behind the byte of its kind
kind_behind : (kind : ℕ) (bytes : List ℕ) (edit : Edit) (rest : List ℕ) → Takes bytes (behind_kind edit) rest × OfKind kind edit → Takes (kind ∷ bytes) (edit_bytes edit) rest × IsWithin edit
kind_behind kind bytes edit rest t =
    let spelled : edit_bytes edit ≡ kind ∷ behind_kind edit = edit_spelled edit ∙ ap (λ (k : ℕ). k ∷ behind_kind edit) t.1.1 in
    (record { parts = ap (λ (l : List ℕ). kind ∷ l) t.0.parts ∙ ap (λ (l : List ℕ). l ++ rest) (sym spelled); rest_bytes = t.0.rest_bytes }, t.1.0)

edit_takes : (bytes : List ℕ) (x : Edit × List ℕ) → AreBytes bytes → read_edit bytes ≡ Some x → Takes bytes (edit_bytes x.0) x.1 × IsWithin x.0
unfolding read_edit
edit_takes [] x fits e = absurd cc
edit_takes (zero ∷ bytes) x fits e = kind_behind 0 bytes x.0 x.1 (set_read.takes bytes x (AreBytes-rest 0 bytes fits) e)
edit_takes (suc zero ∷ bytes) x fits e = kind_behind 1 bytes x.0 x.1 (shift_read.takes bytes x (AreBytes-rest 1 bytes fits) e)
edit_takes (suc (suc zero) ∷ bytes) x fits e = kind_behind 2 bytes x.0 x.1 (body_edit_read.takes bytes x (AreBytes-rest 2 bytes fits) e)
edit_takes (suc (suc (suc kind)) ∷ bytes) x fits e = absurd cc

edit_again : (edit : Edit) (rest : List ℕ) → IsWithin edit → read_edit (edit_bytes edit ++ rest) ≡ Some (edit, rest)
unfolding read_edit
edit_again (Set at bytes) rest h = set_read.again (Set at bytes) rest (h, refl)
edit_again (Shift at len to) rest h = shift_read.again (Shift at len to) rest (h, refl)
edit_again (Whole body) rest h = body_edit_read.again (Whole body) rest (h, refl)

pub edit_read : Reads edit_bytes IsWithin read_edit
edit_read = record { takes = edit_takes; again = edit_again }

-- edits behind their number
abbrev pub EditsFit : List Edit → Type 0
EditsFit edits = (1 ≤ length edits) × ((length edits < 256) × AllByRecursion IsWithin edits)

some_is : (edit : Edit) (edits : List Edit) → some_edits (edit ∷ edits) ≡ Some (edit ∷ edits)
some_is edit edits = rw (ne_eqb (suc (length edits)) 0 (λ h. absurd (omega (arith, h)))) refl

edits_found : (edits found : List Edit) → (length edits < 256 ^ 1) × AllByRecursion IsWithin edits → some_edits edits ≡ Some found → (list_bytes edit_bytes edits ≡ list_bytes edit_bytes found) × EditsFit found
edits_found [] found fits e = absurd cc
edits_found (edit ∷ edits) found fits e =
    subst (λ (x : List Edit). (list_bytes edit_bytes (edit ∷ edits) ≡ list_bytes edit_bytes x) × EditsFit x) (same_Some (edit ∷ edits) found (sym (some_is edit edits) ∙ e)) (refl, (omega arith, fits))

edits_meant : (edits : List Edit) → EditsFit edits → some_edits edits ≡ Some edits
edits_meant [] fits = absurd (omega (arith, fits.0))
edits_meant (edit ∷ edits) fits = some_is edit edits

pub edits_read : Reads (list_bytes edit_bytes) EditsFit read_edits
unfolding read_edits
edits_read =
    as_read (list_bytes edit_bytes) (λ edits. (length edits < 256 ^ 1) × AllByRecursion IsWithin edits) (list_at read_edit) (list_bytes edit_bytes) EditsFit some_edits (list_read edit_bytes IsWithin read_edit edit_read) (record {
      found = edits_found;
      meant = λ edits fits. (edits, fits.1, edits_meant edits fits, refl);
    })

-- ---- heads of entries

abbrev pub RowHead : Type 0
RowHead = List ℕ × (Lsn × Places)

abbrev pub RowHeadFits : RowHead → Type 0
RowHeadFits x = IsTrue (is_word x.0) × (IsLsn x.1.0 × PlacesFit x.1.1)

pub row_head_read : Reads {A = RowHead} (λ x. name_bytes x.0 ++ (lsn_bytes x.1.0 ++ places_bytes x.1.1)) RowHeadFits read_row_head
unfolding read_row_head
row_head_read =
    both_read name_bytes (λ name. IsTrue (is_word name)) name_at (λ x. lsn_bytes x.0 ++ places_bytes x.1) (λ x. IsLsn x.0 × PlacesFit x.1) (read_both lsn_at read_places) name_read
    (both_read lsn_bytes IsLsn lsn_at places_bytes PlacesFit read_places lsn_read places_read)

key_found : (n key : ℕ) → key_of n ≡ Some key → (number 1 n ≡ number 1 key) × (key < 8)
key_found n key e =
    let t = cond_some (ltb n 8) n key e in
    let low : n < 8 = ltb-true n 8 t.0 in
    (ap (number 1) t.1, subst (λ (k : ℕ). k < 8) t.1 low)

pub key_read : Reads (number 1) (λ key. key < 8) read_key
unfolding read_key
key_read =
    as_read (number 1) (λ n. n < 256 ^ 1) (number_at 1) (number 1) (λ key. key < 8) key_of (number_read 1) (record {
      found = λ n key low e. key_found n key e;
      meant = λ key low. (key, omega arith, rw (lt-ltb key 8 low) refl, refl);
    })

abbrev pub KeyHead : Type 0
KeyHead = List ℕ × (Lsn × (ℕ × ℕ))

abbrev pub KeyHeadFits : KeyHead → Type 0
KeyHeadFits x = IsTrue (is_word x.0) × (IsLsn x.1.0 × ((x.1.1.0 < 8) × (x.1.1.1 < 256 ^ 5)))

pub key_head_read : Reads {A = KeyHead} (λ x. name_bytes x.0 ++ (lsn_bytes x.1.0 ++ (number 1 x.1.1.0 ++ number 5 x.1.1.1))) KeyHeadFits read_key_head
unfolding read_key_head
key_head_read =
    both_read name_bytes (λ name. IsTrue (is_word name)) name_at (λ x. lsn_bytes x.0 ++ (number 1 x.1.0 ++ number 5 x.1.1)) (λ x. IsLsn x.0 × ((x.1.0 < 8) × (x.1.1 < 256 ^ 5))) (read_both lsn_at (read_both read_key (number_at 5))) name_read
    (both_read lsn_bytes IsLsn lsn_at (λ x. number 1 x.0 ++ number 5 x.1) (λ x. (x.0 < 8) × (x.1 < 256 ^ 5)) (read_both read_key (number_at 5)) lsn_read
    (both_read (number 1) (λ key. key < 8) read_key (number 5) (λ n. n < 256 ^ 5) (number_at 5) key_read (number_read 5)))

abbrev pub DirtyParts : Type 0
DirtyParts = List ℕ × (Part × (ℕ × Lsn))

dirty_parts_read : Reads {A = DirtyParts} (λ x. name_bytes x.0 ++ (part_bytes x.1.0 ++ (number 4 x.1.1.0 ++ lsn_bytes x.1.1.1))) (λ x. IsTrue (is_word x.0) × (Unit {0} × ((x.1.1.0 < 2 ^ 31) × IsLsn x.1.1.1)))
    (read_both name_at (read_both read_part (read_both read_page lsn_at)))
dirty_parts_read =
    both_read name_bytes (λ name. IsTrue (is_word name)) name_at (λ x. part_bytes x.0 ++ (number 4 x.1.0 ++ lsn_bytes x.1.1)) (λ x. Unit {0} × ((x.1.0 < 2 ^ 31) × IsLsn x.1.1)) (read_both read_part (read_both read_page lsn_at)) name_read
    (both_read part_bytes (λ part. Unit {0}) read_part (λ x. number 4 x.0 ++ lsn_bytes x.1) (λ x. (x.0 < 2 ^ 31) × IsLsn x.1) (read_both read_page lsn_at) part_read
    (both_read (number 4) (λ n. n < 2 ^ 31) read_page lsn_bytes IsLsn lsn_at page_read lsn_read))

pub dirty_read : Reads dirty_bytes DirtyFits read_dirty
unfolding read_dirty
dirty_read =
    as_read {A = DirtyParts} (λ x. name_bytes x.0 ++ (part_bytes x.1.0 ++ (number 4 x.1.1.0 ++ lsn_bytes x.1.1.1))) (λ x. IsTrue (is_word x.0) × (Unit {0} × ((x.1.1.0 < 2 ^ 31) × IsLsn x.1.1.1)))
    (read_both name_at (read_both read_part (read_both read_page lsn_at))) dirty_bytes DirtyFits dirty_of dirty_parts_read (record {
      found = λ x dirty fits e. subst (λ (d : Dirty). (name_bytes x.0 ++ (part_bytes x.1.0 ++ (number 4 x.1.1.0 ++ lsn_bytes x.1.1.1)) ≡ dirty_bytes d) × DirtyFits d)
          (same_Some (record { table = x.0; part = x.1.0; page = x.1.1.0; since = x.1.1.1 }) dirty e) (refl, record { word = fits.0; page = fits.1.1.0; since = fits.1.1.1 });
      meant = λ dirty fits. ((dirty.table, (dirty.part, (dirty.page, dirty.since))), (fits.word, (tt, (fits.page, fits.since))), refl, refl);
    })

-- what a byte says of a table
abbrev pub TableByteFits : Bool × ℕ → Type 0
TableByteFits x = (x.1 ≡ 1) ⊎ (x.1 ≡ 2)

table_found : (n : ℕ) (x : Bool × ℕ) → table_of n ≡ Some x → (number 1 n ≡ number 1 (table_number x.0 x.1)) × TableByteFits x
table_found zero x e = subst (λ (y : Bool × ℕ). (number 1 0 ≡ number 1 (table_number y.0 y.1)) × TableByteFits y) (same_Some (false, 1) x e) (refl, inl refl)
table_found (suc zero) x e = subst (λ (y : Bool × ℕ). (number 1 1 ≡ number 1 (table_number y.0 y.1)) × TableByteFits y) (same_Some (true, 1) x e) (refl, inl refl)
table_found (suc (suc zero)) x e = subst (λ (y : Bool × ℕ). (number 1 2 ≡ number 1 (table_number y.0 y.1)) × TableByteFits y) (same_Some (false, 2) x e) (refl, inr refl)
table_found (suc (suc (suc zero))) x e = subst (λ (y : Bool × ℕ). (number 1 3 ≡ number 1 (table_number y.0 y.1)) × TableByteFits y) (same_Some (true, 2) x e) (refl, inr refl)
table_found (suc (suc (suc (suc n)))) x e = absurd cc

table_meant : (plain : Bool) (format : ℕ) → (format ≡ 1) ⊎ (format ≡ 2) → (n : ℕ) × (n < 256 ^ 1) × (table_of n ≡ Some (plain, format)) × (number 1 n ≡ number 1 (table_number plain format))
table_meant true format fits = elim fits [ inl one ↦ (1, lit< tt, rw one refl, rw one refl) | inr two ↦ (3, lit< tt, rw two refl, rw two refl) ]
table_meant false format fits = elim fits [ inl one ↦ (0, lit< tt, rw one refl, rw one refl) | inr two ↦ (2, lit< tt, rw two refl, rw two refl) ]

table_read : Reads {A = Bool × ℕ} (λ x. number 1 (table_number x.0 x.1)) TableByteFits read_table
unfolding read_table
table_read =
    as_read (number 1) (λ n. n < 256 ^ 1) (number_at 1) (λ x. number 1 (table_number x.0 x.1)) TableByteFits table_of (number_read 1) (record {
      found = λ n x low e. table_found n x e;
      meant = λ x fits. table_meant x.0 x.1 fits;
    })

abbrev pub TableHead : Type 0
TableHead = List ℕ × (Bool × ℕ)

pub table_head_read : Reads {A = TableHead} (λ x. name_bytes x.0 ++ number 1 (table_number x.1.0 x.1.1)) (λ x. IsTrue (is_word x.0) × TableByteFits x.1) read_table_head
unfolding read_table_head
table_head_read = both_read name_bytes (λ name. IsTrue (is_word name)) name_at (λ x. number 1 (table_number x.0 x.1)) TableByteFits read_table name_read table_read

abbrev pub RedoParts : Type 0
RedoParts = List ℕ × (Part × (ℕ × List Edit))

pub redo_parts_read : Reads {A = RedoParts} (λ x. name_bytes x.0 ++ (part_bytes x.1.0 ++ (number 4 x.1.1.0 ++ list_bytes edit_bytes x.1.1.1))) (λ x. IsTrue (is_word x.0) × (Unit {0} × ((x.1.1.0 < 2 ^ 31) × EditsFit x.1.1.1)))
    read_redo_parts
unfolding read_redo_parts
redo_parts_read =
    both_read name_bytes (λ name. IsTrue (is_word name)) name_at (λ x. part_bytes x.0 ++ (number 4 x.1.0 ++ list_bytes edit_bytes x.1.1)) (λ x. Unit {0} × ((x.1.0 < 2 ^ 31) × EditsFit x.1.1)) (read_both read_part (read_both read_page read_edits)) name_read
    (both_read part_bytes (λ part. Unit {0}) read_part (λ x. number 4 x.0 ++ list_bytes edit_bytes x.1) (λ x. (x.0 < 2 ^ 31) × EditsFit x.1) (read_both read_page read_edits) part_read
    (both_read (number 4) (λ n. n < 2 ^ 31) read_page (list_bytes edit_bytes) EditsFit read_edits page_read edits_read))

abbrev pub ClrParts : Type 0
ClrParts = List ℕ × (Lsn × Lsn)

pub clr_parts_read : Reads {A = ClrParts} (λ x. name_bytes x.0 ++ (lsn_bytes x.1.0 ++ lsn_bytes x.1.1)) (λ x. IsTrue (is_word x.0) × (IsLsn x.1.0 × IsLsn x.1.1)) read_clr_parts
unfolding read_clr_parts
clr_parts_read =
    both_read name_bytes (λ name. IsTrue (is_word name)) name_at (λ x. lsn_bytes x.0 ++ lsn_bytes x.1) (λ x. IsLsn x.0 × IsLsn x.1) (read_both lsn_at lsn_at) name_read (both_read lsn_bytes IsLsn lsn_at lsn_bytes IsLsn lsn_at lsn_read lsn_read)

abbrev pub DirtiesFit : List Dirty → Type 0
DirtiesFit dirty = (length dirty < 256 ^ 4) × AllByRecursion DirtyFits dirty

pub checkpoint_parts_read : Reads {A = Lsn × List Dirty} (λ x. lsn_bytes x.0 ++ (number 4 (length x.1) ++ flat_map dirty_bytes x.1)) (λ x. IsLsn x.0 × DirtiesFit x.1) read_checkpoint_parts
unfolding read_checkpoint_parts
checkpoint_parts_read =
    both_read lsn_bytes IsLsn lsn_at (λ dirty. number 4 (length dirty) ++ flat_map dirty_bytes dirty) DirtiesFit read_dirties lsn_read (dirties_read dirty_read)

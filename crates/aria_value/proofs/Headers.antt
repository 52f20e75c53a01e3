-- What a header that is read holds, and that the header of a new table is read again.
use Rattle.std.proofs.Common.{◌≡◌, ℕ, ◌+◌, ◌-◌, ◌^◌, ◌<◌, ◌≤◌, ◌⊎◌, Bool, true, false, ◌&&◌, cond, eqb, List, [], ◌++◌, length, take, drop, replicate, Option, Some, None, Result, Ok, Err, refl, sym, ap, subst, ◌∙◌, append_assoc, arith, inl, inr, nat_le}
use Rattle.std.specs.Prelude.{IfSome, IfOk, ◌==◌, ◌||◌, slice_index}
use Rattle.std.specs.List.{starts_with}
use Rattle.std.proofs.lemmas.Bool.{eqb-true, eq-eqb, leb-true, and_parts, or_cases}
use Rattle.std.proofs.lemmas.List.{drop_at, take_at, drop-drop, length-append, length-replicate, drop-replicate}
use Rattle.std.proofs.lemmas.Option.{same_Some}
use Rattle.aria_page.specs.declared.lsn.Lsn.{Lsn}
use Rattle.aria_page.specs.declared.page.TheConstants.{PAGE_BYTES, BODY_AT, BODY_BYTES}
use Rattle.aria_page.specs.Field.{◌>>=◌, AreBytes}
use Rattle.aria_page.specs.Number.{number, number_of}
use Rattle.aria_page.specs.Lsn.{IsLsn, lsn_bytes, lsn_of}
use Rattle.aria_page.specs.Page.{with_bytes, zero_page, page_body}
use Rattle.aria_page.specs.Text.{bytes_at, counted}
use Rattle.aria_page.proofs.Fields.{AreBytes-drop, AreBytes-take, bind_some}
use Rattle.aria_page.proofs.Numbers.{length-number, number_of-lt, number_of-number}
use Rattle.aria_page.proofs.StoredLsn.{length-lsn_bytes, lsn_of-lsn_bytes}
use Rattle.aria_page.proofs.Texts.{bytes_take, bytes_again}
use Rattle.aria_page.proofs.Pages.{drop-with_bytes, page_body-sealed}
use Rattle.aria_value.specs.declared.definition.Definition.{Definition}
use Rattle.aria_value.specs.declared.header.Header.{Header}
use Rattle.aria_value.specs.Stored.{definition_bytes}
use Rattle.aria_value.specs.Defined.{IsDefinition, HasNames}
use Rattle.aria_value.specs.Reading.{read_definition}
use Rattle.aria_value.specs.Header.{header_front, begins_header, definition_in, roots_in, header_of, read_header, IsHeader, new_header, new_front, new_fields, counted_definition, new_header_bytes, new_page}
use Rattle.aria_value.proofs.StoredDefinitions.{definitions_found, definitions_only, definition_short}

-- ---- what is read

-- the front of bytes is bytes
front_bytes : (bytes front rest : List ℕ) → AreBytes bytes → bytes ≡ front ++ rest → AreBytes front
front_bytes bytes front rest fits e = subst AreBytes (ap (take (length front)) e ∙ take_at front rest (length front) refl) (AreBytes-take (length front) bytes fits)

-- a definition that is read is one
read_is : (bytes : List ℕ) (d : Definition) → AreBytes bytes → read_definition bytes ≡ Some d → IsDefinition d × HasNames d
read_is bytes d fits e =
    let found = definitions_found {E = ℕ} bytes (Ok (Some d)) fits (sym e) in
    (found.0, found.1)

-- the test before a reading that gave something was met
tested_some : {A : Type 0} (b : Bool) (x : Option A) (y : A) → cond b x None ≡ Some y → (b ≡ true) × (x ≡ Some y)
tested_some true x y e = (refl, e)
tested_some false x y e = absurd cc

record Begins (body : List ℕ) : Type 0 where
  format : (slice_index body 9 ≡ 1) ⊎ (slice_index body 9 ≡ 2)
  plain : slice_index body 10 ≤ 1
  mark : slice_index body 11 ≤ slice_index body 10

begins_is : (body : List ℕ) → begins_header body ≡ true → Begins body
unfolding begins_header
begins_is body e =
    let front : Bool = starts_with ◌==◌ body header_front in
    let format : Bool = slice_index body 9 == 1 || slice_index body 9 == 2 in
    let plain : Bool = nat_le (slice_index body 10) 1 in
    let third = and_parts (front && format && plain) (nat_le (slice_index body 11) (slice_index body 10)) e in
    let second = and_parts (front && format) plain third.0 in
    let first = and_parts front format second.0 in
    record {
      format = elim (or_cases (slice_index body 9 == 1) (slice_index body 9 == 2) first.1) [
        | inl one ↦ inl (eqb-true _ _ one)
        | inr two ↦ inr (eqb-true _ _ two)
      ];
      plain = leb-true _ _ second.1;
      mark = leb-true _ _ third.1;
    }

-- what holds of a header that is read
fields_are : (body : List ℕ) (d : Definition) → AreBytes body → Begins body → IsDefinition d × HasNames d → IsHeader (header_of body d)
unfolding header_of lsn_of
fields_are body d fits begins is = record {
  definition = is.0;
  names = is.1;
  format = begins.format;
  mark = λ marked. eq-eqb _ _ (omega (arith, begins.plain, begins.mark, eqb-true _ _ marked));
  created = record { file = number_of-lt 3 (drop 12 body) (AreBytes-drop 12 body fits); offset = number_of-lt 4 (drop 3 (drop 12 body)) (AreBytes-drop 3 (drop 12 body) (AreBytes-drop 12 body fits)) };
  deleted = number_of-lt 5 (drop 27 body) (AreBytes-drop 27 body fits);
  end = number_of-lt 5 (drop 64 body) (AreBytes-drop 64 body fits);
}

header_is : (body : List ℕ) (h : Header) → AreBytes body → read_header body ≡ Some h → IsHeader h
unfolding read_header definition_in
header_is body h fits e =
    let g = tested_some (begins_header body) (definition_in body >>= λ d. Some (header_of body d)) h e in
    let a = bind_some (definition_in body) (λ d. Some (header_of body d)) h g.1 in
    let b = bind_some (bytes_at (number_of 2 (drop 69 body)) (drop 71 body)) (λ text. read_definition text.0) a.0 a.1 in
    let text = bytes_take (number_of 2 (drop 69 body)) (drop 71 body) b.0 (AreBytes-drop 71 body fits) b.1 in
    let front : AreBytes b.0.0 = front_bytes (drop 71 body) b.0.0 b.0.1 (AreBytes-drop 71 body fits) text.0.parts in
    subst IsHeader (same_Some (header_of body a.0) h a.2) (fields_are body a.0 fits (begins_is body g.0) (read_is b.0.0 a.0 front b.2))

pub header_found : {E : Type 0} (body : List ℕ) (r : Result (Option Header) E) → AreBytes body → IfOk r (λ h. h ≡ read_header body) → IfOk r (λ h. IfSome h IsHeader)
header_found body (Ok None) fits e = tt
header_found body (Ok (Some h)) fits e = header_is body h fits (sym e)
header_found body (Err why) fits e = tt

-- ---- the header of a new table

begins_new : (plain : Bool) (format : ℕ) (rest : List ℕ) → (format ≡ 1) ⊎ (format ≡ 2) → begins_header (new_front plain format ++ rest) ≡ true
unfolding begins_header
begins_new true format rest is = elim is [ inl one ↦ rw one refl | inr two ↦ rw two refl ]
begins_new false format rest is = elim is [ inl one ↦ rw one refl | inr two ↦ rw two refl ]

flag_is : (plain : Bool) → eqb (cond plain 1 0) 1 ≡ plain
flag_is true = refl
flag_is false = refl

-- what the fields of a new table say
record AreNew (plain : Bool) (fields : List ℕ) : Type 0 where
  rows : number_of 4 fields ≡ 0
  free : number_of 4 (drop 4 fields) ≡ 0
  deleted : number_of 5 (drop 8 fields) ≡ cond plain (2 ^ 40 - 1) 0
  end : number_of 5 (drop 45 fields) ≡ 0

fields_new : (plain : Bool) (rest : List ℕ) → AreNew plain (new_fields plain ++ rest)
unfolding number_of
fields_new true rest = record { rows = refl; free = refl; deleted = refl; end = refl }
fields_new false rest = record { rows = refl; free = refl; deleted = refl; end = refl }

roots_new : (body : List ℕ) (plain : Bool) (rest : List ℕ) → ((k : ℕ) → drop (19 + k) body ≡ drop k (new_fields plain ++ rest)) → roots_in body ≡ replicate 8 0
unfolding roots_in number_of
roots_new body plain rest at = rw (at 13, at 17, at 21, at 25, at 29, at 33, at 37, at 41) refl

-- the definition stands behind its length
definition_again : (d : Definition) (body rest : List ℕ) → IsDefinition d → HasNames d → drop 69 body ≡ number 2 (length (definition_bytes d)) ++ (definition_bytes d ++ rest) → definition_in body ≡ Some d
unfolding definition_in
definition_again d body rest is names e =
    let text : List ℕ = definition_bytes d in
    let low : length text < 256 ^ 2 = let short = definition_short d is names in omega arith in
    let count : number_of 2 (drop 69 body) ≡ length text = ap (number_of 2) e ∙ number_of-number 2 (length text) (text ++ rest) low in
    let behind : drop 71 body ≡ text ++ rest = sym (drop-drop 2 69 body) ∙ ap (drop 2) e ∙ drop_at (number 2 (length text)) (text ++ rest) 2 (length-number 2 (length text)) in
    let back : read_definition text ≡ Some d = definitions_only {E = ℕ} text d (Ok (read_definition text)) is names refl refl in
    rw (count, behind, bytes_again (length text) text rest refl, back) refl

pub new_again : (d : Definition) (plain : Bool) (created : Lsn) (format : ℕ) (rest : List ℕ) → IsDefinition d → HasNames d → IsLsn created → (format ≡ 1) ⊎ (format ≡ 2)
    → read_header (new_header_bytes d plain created format ++ rest) ≡ Some (new_header d plain created format)
unfolding read_header new_header_bytes header_of roots_in
new_again d plain created format rest is names lsn known =
    let text : List ℕ = definition_bytes d in
    let tail : List ℕ = number 2 (length text) ++ (text ++ rest) in
    let fields : List ℕ = new_fields plain ++ tail in
    let body : List ℕ = new_front plain format ++ (lsn_bytes created ++ fields) in
    let whole : new_header_bytes d plain created format ++ rest ≡ body =
    append_assoc (new_front plain format) (lsn_bytes created ++ (new_fields plain ++ counted_definition d)) rest
    ∙ ap (λ (l : List ℕ). new_front plain format ++ l) (
    append_assoc (lsn_bytes created) (new_fields plain ++ counted_definition d) rest
    ∙ ap (λ (l : List ℕ). lsn_bytes created ++ l) (append_assoc (new_fields plain) (counted_definition d) rest ∙ ap (λ (l : List ℕ). new_fields plain ++ l) (append_assoc (number 2 (length text)) text rest))
    ) in
    let behind : drop 19 body ≡ fields = sym (drop-drop 7 12 body) ∙ drop_at (lsn_bytes created) fields 7 (length-lsn_bytes created) in
    let at : (k : ℕ) → drop (19 + k) body ≡ drop k fields = λ k. sym (drop-drop k 19 body) ∙ ap (drop k) behind in
    let new : AreNew plain fields = fields_new plain tail in
    let lsn_there : lsn_of (drop 12 body) ≡ created = lsn_of-lsn_bytes created fields lsn in
    let rows : number_of 4 (drop 19 body) ≡ 0 = ap (number_of 4) behind ∙ new.rows in
    let free : number_of 4 (drop 23 body) ≡ 0 = ap (number_of 4) (at 4) ∙ new.free in
    let deleted : number_of 5 (drop 27 body) ≡ cond plain (2 ^ 40 - 1) 0 = ap (number_of 5) (at 8) ∙ new.deleted in
    let end : number_of 5 (drop 64 body) ≡ 0 = ap (number_of 5) (at 45) ∙ new.end in
    let roots : roots_in body ≡ replicate 8 0 = roots_new body plain tail at in
    let read : definition_in body ≡ Some d = definition_again d body rest is names (at 50) in
    let same : header_of body d ≡ new_header d plain created format =
    λ i. record {
      plain = flag_is plain i;
      marked = false;
      created = lsn_there i;
      rows = rows i;
      free = free i;
      deleted = deleted i;
      roots = roots i;
      end = end i;
      definition = d;
      format = format;
    } in
    rw (whole, begins_new plain format (lsn_bytes created ++ fields) known, read) (ap Some same)

-- ---- pages

length-zero_page : length zero_page ≡ PAGE_BYTES
unfolding zero_page
length-zero_page = length-replicate {A = ℕ} PAGE_BYTES 0

zeros_behind : (n : ℕ) → drop n zero_page ≡ replicate (PAGE_BYTES - n) 0
unfolding zero_page
zeros_behind n = drop-replicate n PAGE_BYTES 0

-- the bytes stand at the beginning of the body, and zeros behind them
pub new_page_body : (bytes : List ℕ) (created : Lsn) → page_body (new_page bytes created) ≡ bytes ++ replicate (BODY_BYTES - length bytes) 0
unfolding new_page page_body
new_page_body bytes created =
    let left : PAGE_BYTES - (BODY_AT + length bytes) ≡ BODY_BYTES - length bytes = omega arith in
    page_body-sealed created (with_bytes BODY_AT bytes zero_page)
    ∙ drop-with_bytes BODY_AT (BODY_AT + length bytes) bytes zero_page (omega (arith, length-zero_page)) refl
    ∙ ap (λ (l : List ℕ). bytes ++ l) (zeros_behind (BODY_AT + length bytes) ∙ ap (λ (n : ℕ). replicate n 0) left)

-- ---- what the calls give

-- the parts of a header, written one after another
pub header_spelled : (d : Definition) (plain : Bool) (created : Lsn) (format : ℕ) (o o1 o2 o3 o4 stored text : List ℕ) → o ≡ [] → o1 ≡ o ++ new_front plain format → o2 ≡ o1 ++ lsn_bytes created
    → o3 ≡ o2 ++ new_fields plain → o4 ≡ o3 ++ counted 2 text → text ≡ stored → stored ≡ definition_bytes d → o4 ≡ new_header_bytes d plain created format
unfolding new_header_bytes
header_spelled d plain created format o o1 o2 o3 o4 stored text e0 e1 e2 e3 e4 et es =
    let front : List ℕ = new_front plain format in
    let fields : List ℕ = new_fields plain in
    let stored_part : List ℕ = counted_definition d in
    let s1 : o1 ≡ front = e1 ∙ ap (λ (l : List ℕ). l ++ front) e0 in
    let s2 : o2 ≡ front ++ lsn_bytes created = e2 ∙ ap (λ (l : List ℕ). l ++ lsn_bytes created) s1 in
    let s3 : o3 ≡ (front ++ lsn_bytes created) ++ fields = e3 ∙ ap (λ (l : List ℕ). l ++ fields) s2 in
    let s4 : o4 ≡ ((front ++ lsn_bytes created) ++ fields) ++ stored_part = e4 ∙ ap (λ (l : List ℕ). l ++ counted 2 text) s3 ∙ ap (λ (l : List ℕ). ((front ++ lsn_bytes created) ++ fields) ++ counted 2 l) (et ∙ es) in
    s4 ∙ append_assoc (front ++ lsn_bytes created) fields stored_part ∙ append_assoc front (lsn_bytes created) (fields ++ stored_part)

-- a new header fits a body
pub header_short : (d : Definition) (plain : Bool) (created : Lsn) (format : ℕ) (bytes : List ℕ) → IsDefinition d → HasNames d → bytes ≡ new_header_bytes d plain created format → length bytes ≤ BODY_BYTES
unfolding new_header_bytes
header_short d plain created format bytes is names e =
    let text : List ℕ = definition_bytes d in
    omega (
      arith,
      ap (λ (l : List ℕ). length l) e,
      length-append (new_front plain format) (lsn_bytes created ++ (new_fields plain ++ counted_definition d)),
      length-append (lsn_bytes created) (new_fields plain ++ counted_definition d),
      length-append (new_fields plain) (counted_definition d),
      length-append (number 2 (length text)) text,
      length-lsn_bytes created,
      length-number 2 (length text),
      definition_short d is names,
    )

-- a page that begins so is read as the header of a new table
pub page_read : (d : Definition) (plain : Bool) (created : Lsn) (format : ℕ) (page bytes header rest : List ℕ) → IsDefinition d → HasNames d → IsLsn created → (format ≡ 1) ⊎ (format ≡ 2)
    → page_body page ≡ bytes ++ rest → bytes ≡ header → header ≡ new_header_bytes d plain created format → read_header (page_body page) ≡ Some (new_header d plain created format)
page_read d plain created format page bytes header rest is names lsn known e eb eh =
    ap read_header e ∙ ap (λ (l : List ℕ). read_header (l ++ rest)) (eb ∙ eh) ∙ new_again d plain created format rest is names lsn known

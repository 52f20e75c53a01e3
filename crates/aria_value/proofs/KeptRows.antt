-- A kept row that is read is the one that was kept, and what was kept is read again.
use Rattle.std.proofs.Common.{◌≡◌, ℕ, ◌+◌, ◌-◌, ◌≤◌, Bool, true, false, ltb, eqb, cond, List, [], ◌++◌, length, take, drop, Option, Some, None, Result, Ok, Err, refl, sym, ap, subst, ◌∙◌, arith}
use Rattle.std.specs.Prelude.{IfSome, IfOk}
use Rattle.std.proofs.lemmas.Bool.{ltb-false, le-ltb, eqb-true, eq-eqb}
use Rattle.std.proofs.lemmas.List.{take_at, drop_at, take-append-drop, length-append, length-drop}
use Rattle.std.proofs.lemmas.Option.{same_Some, cond_some}
use Rattle.aria_page.specs.Field.{AreBytes}
use Rattle.aria_page.specs.Number.{number, number_of}
use Rattle.aria_page.specs.Crc.{checksum}
use Rattle.aria_page.proofs.Fields.{AreBytes-drop, AreBytes-take, bind_some, guard_some}
use Rattle.aria_page.proofs.Numbers.{length-number, number-number_of, number_of-number}
use Rattle.aria_page.proofs.CrcSteps.{checksum-lt}
use Rattle.std.proofs.lemmas.List.{append-nil}
use Rattle.aria_value.specs.declared.value.Value.{Value}
use Rattle.aria_value.specs.declared.definition.Definition.{Definition}
use Rattle.aria_value.specs.Stored.{row_bytes}
use Rattle.aria_value.specs.Rows.{IsRow}
use Rattle.aria_value.specs.Reading.{read_row}
use Rattle.aria_value.specs.Kept.{with_checksum, kept_bytes, without_checksum, stored_in, read_kept}
use Rattle.aria_value.proofs.StoredRows.{row_takes, row_again}

-- what is found before a checksum are bytes, and stands so with its checksum
found_sum : (bytes stored : List ℕ) → AreBytes bytes → without_checksum bytes ≡ Some stored → AreBytes stored × (bytes ≡ with_checksum stored)
unfolding without_checksum with_checksum
found_sum bytes stored fits e =
    let size : ℕ = length bytes - 4 in
    let g = guard_some (ltb (length bytes) 4) (cond (eqb (number_of 4 (drop size bytes)) (checksum (take size bytes))) (Some (take size bytes)) None) stored e in
    let long : 4 ≤ length bytes = ltb-false _ _ g.0 in
    let t = cond_some (eqb (number_of 4 (drop size bytes)) (checksum (take size bytes))) (take size bytes) stored g.1 in
    let sum : number_of 4 (drop size bytes) ≡ checksum (take size bytes) = eqb-true _ _ t.0 in
    let spelled : number 4 (number_of 4 (drop size bytes)) ≡ drop size bytes = number-number_of 4 (drop size bytes) (AreBytes-drop size bytes fits) (omega (arith, length-drop size bytes)) in
    let tail : number 4 (checksum (take size bytes)) ≡ drop size bytes = ap (number 4) (sym sum) ∙ spelled in
    let whole : bytes ≡ take size bytes ++ number 4 (checksum (take size bytes)) = sym (take-append-drop size bytes) ∙ ap (λ (l : List ℕ). take size bytes ++ l) (sym tail) in
    subst (λ (l : List ℕ). AreBytes l × (bytes ≡ l ++ number 4 (checksum l))) t.1 (AreBytes-take size bytes fits, whole)

-- what has a checksum is found before it
sum_again : (stored : List ℕ) → AreBytes stored → without_checksum (with_checksum stored) ≡ Some stored
unfolding without_checksum with_checksum
sum_again stored fits =
    let sum : List ℕ = number 4 (checksum stored) in
    let four : length sum ≡ 4 = length-number 4 (checksum stored) in
    let all : length (stored ++ sum) ≡ length stored + 4 = omega (arith, length-append stored sum) in
    let size : length (stored ++ sum) - 4 ≡ length stored = omega arith in
    let long : ltb (length (stored ++ sum)) 4 ≡ false = le-ltb _ _ (omega arith) in
    let back : number_of 4 sum ≡ checksum stored = ap (number_of 4) (sym (append-nil sum)) ∙ number_of-number 4 (checksum stored) [] (checksum-lt stored fits) in
    rw (long, size, drop_at stored sum (length stored) refl, take_at stored sum (length stored) refl, back, eq-eqb (checksum stored) (checksum stored) refl) refl

found_stored : (summed : Bool) (bytes stored : List ℕ) → AreBytes bytes → cond summed (without_checksum bytes) (Some bytes) ≡ Some stored
    → AreBytes stored × (bytes ≡ cond summed (with_checksum stored) stored)
found_stored true bytes stored fits e = found_sum bytes stored fits e
found_stored false bytes stored fits e = subst (λ (l : List ℕ). AreBytes l × (bytes ≡ l)) (same_Some bytes stored e) (fits, refl)

-- what stands before a checksum is bytes
stored_bytes : (stored : List ℕ) → AreBytes (with_checksum stored) → AreBytes stored
unfolding with_checksum
stored_bytes stored fits = subst AreBytes (take_at stored (number 4 (checksum stored)) (length stored) refl) (AreBytes-take (length stored) (stored ++ number 4 (checksum stored)) fits)

stored_again : (summed : Bool) (stored : List ℕ) → AreBytes (cond summed (with_checksum stored) stored) → cond summed (without_checksum (cond summed (with_checksum stored) stored)) (Some (cond summed (with_checksum stored) stored)) ≡ Some stored
stored_again true stored fits = sum_again stored (stored_bytes stored fits)
stored_again false stored fits = refl

-- a kept row that is read
kept_takes : (d : Definition) (format : ℕ) (bytes : List ℕ) (row : List Value) → AreBytes bytes → read_kept d format bytes ≡ Some row → IsRow d row × (bytes ≡ kept_bytes format row)
unfolding read_kept
kept_takes d format bytes row fits e =
    let a = bind_some (stored_in format bytes) (read_row d) row e in
    let s = found_stored (eqb format 2) bytes a.0 fits a.1 in
    let r = row_takes d a.0 row s.0 a.2 in
    (r.0, s.1 ∙ ap (λ (l : List ℕ). cond (eqb format 2) (with_checksum l) l) r.1)

-- a row that is kept
kept_again : (d : Definition) (format : ℕ) (row : List Value) → IsRow d row → AreBytes (kept_bytes format row) → read_kept d format (kept_bytes format row) ≡ Some row
unfolding read_kept
kept_again d format row is fits = rw (stored_again (eqb format 2) (row_bytes row) fits) (row_again d row is)

-- ---- what the calls give

pub kept_found : {E : Type 0} (d : Definition) (format : ℕ) (bytes : List ℕ) (r : Result (Option (List Value)) E) → AreBytes bytes → IfOk r (λ row. row ≡ read_kept d format bytes)
    → IfOk r (λ row. IfSome row (λ row. IsRow d row × (bytes ≡ kept_bytes format row)))
kept_found d format bytes (Ok None) fits e = tt
kept_found d format bytes (Ok (Some row)) fits e = kept_takes d format bytes row fits (sym e)
kept_found d format bytes (Err why) fits e = tt

pub kept_only : {E : Type 0} (d : Definition) (format : ℕ) (bytes : List ℕ) (row : List Value) (r : Result (Option (List Value)) E) → AreBytes bytes → IsRow d row → bytes ≡ kept_bytes format row
    → IfOk r (λ row. row ≡ read_kept d format bytes) → IfOk r (λ read. read ≡ Some row)
kept_only d format bytes row (Ok r) fits is same e = e ∙ ap (read_kept d format) same ∙ kept_again d format row is (subst AreBytes same fits)
kept_only d format bytes row (Err why) fits is same e = tt

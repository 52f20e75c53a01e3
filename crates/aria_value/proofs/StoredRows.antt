-- A row that is read is the row that was stored, and what was stored is read again.
use Rattle.std.proofs.Common.{◌≡◌, ℕ, ℤ, zero, suc, ◌+◌, ◌^◌, ◌<◌, ◌≤◌, true, ◌&&◌, cond, eqb, List, [], ◌∷◌, ◌++◌, length, Option, Some, None, Result, Ok, Err, refl, sym, ap, subst, ◌∙◌, arith, lit<, nat_le}
use Rattle.std.specs.Prelude.{FitsSigned, IfSome, IfOk}
use Rattle.std.specs.List.{list_any, AllByRecursion}
use Rattle.std.specs.Int.{w64, cast_signed, cast_unsigned}
use Rattle.std.proofs.Math.Facts as facts
use Rattle.std.proofs.lemmas.Int.{to_z-of_z, of_z-to_z}
use Rattle.std.proofs.lemmas.Bool.{eqb-true, leb-true, and_parts}
use Rattle.std.proofs.lemmas.List.{append-nil, nil_from_length, length-append}
use Rattle.std.proofs.lemmas.List.Concat.{flat_map-cons}
use Rattle.std.proofs.lemmas.List.Sums.{sum_by-cons}
use Rattle.std.proofs.lemmas.Option.{same_Some, cond_some}
use Rattle.aria_page.specs.Field.{AreBytes, Takes}
use Rattle.aria_page.specs.Number.{number, number_at}
use Rattle.aria_page.proofs.Fields.{AreBytes-rest, bind_some}
use Rattle.aria_page.proofs.Numbers.{length-number, number_takes, number_again}
use Rattle.aria_value.specs.declared.value.Value.{Value}
use Rattle.aria_value.specs.declared.value.Value.TheVariants.{Null, Int, Text}
use Rattle.aria_value.specs.declared.definition.Column.{Column}
use Rattle.aria_value.specs.declared.definition.Definition.{Definition}
use Rattle.aria_value.specs.Order.{key_columns}
use Rattle.aria_value.specs.Stored.{value_bytes, row_bytes, value_length, row_length, text_length}
use Rattle.aria_value.specs.Rows.{may_hold, may_hold_all, is_row, Fits, IsRow}
use Rattle.aria_value.specs.Reading.{read_int, read_value, read_row}
use Rattle.aria_page.proofs.Texts.{counted_takes, counted_again}
use Rattle.aria_page.specs.Text.{counted_at}
use Rattle.aria_page.specs.Items.{items_at}
use Rattle.aria_page.proofs.Items.{Reads, items_take, items_again}

-- ---- numbers

int_takes : (bytes : List ℕ) (x : ℤ × List ℕ) → AreBytes bytes → read_int bytes ≡ Some x → Takes bytes (number 8 (cast_unsigned w64 x.0)) x.1 × FitsSigned w64 x.0
unfolding read_int
int_takes bytes x fits e =
    let a = bind_some (number_at 8 bytes) (λ n. Some (cast_signed w64 n.0, n.1)) x e in
    let t = number_takes 8 bytes a.0 fits a.1 in
    let low : a.0.0 < 2 ^ 64 = t.1 in
    let same : cast_unsigned w64 (cast_signed w64 a.0.0) ≡ a.0.0 = of_z-to_z w64 a.0.0 low in
    let spelled : Takes bytes (number 8 (cast_unsigned w64 (cast_signed w64 a.0.0))) a.0.1 = subst (λ (n : ℕ). Takes bytes (number 8 n) a.0.1) (sym same) t.0 in
    let made : ℤ × List ℕ = (cast_signed w64 a.0.0, a.0.1) in
    subst (λ (y : ℤ × List ℕ). Takes bytes (number 8 (cast_unsigned w64 y.0)) y.1 × FitsSigned w64 y.0) (same_Some made x a.2) (spelled, facts.sfits_to_z (facts.Fits-of_lt low))

int_again : (n : ℤ) (rest : List ℕ) → FitsSigned w64 n → read_int (number 8 (cast_unsigned w64 n) ++ rest) ≡ Some (n, rest)
unfolding read_int
int_again n rest fits =
    let low : cast_unsigned w64 n < 2 ^ 64 = (facts.Fits-of_z fits).fits in
    rw (number_again 8 (cast_unsigned w64 n) rest low, to_z-of_z w64 n fits) refl

-- ---- values

-- what has a spelling: a number of 64 bits, a text of fewer than 2^32 bytes
pub record Stores (v : Value) : Type 0 where
  pub fits : Fits v
  pub text : text_length v < 2 ^ 32

-- one more byte in front
behind : (b : ℕ) (bytes text rest : List ℕ) → Takes bytes text rest → Takes (b ∷ bytes) (b ∷ text) rest
behind b bytes text rest t = record { parts = ap (λ (x : List ℕ). b ∷ x) t.parts; rest_bytes = t.rest_bytes }

value_takes : (bytes : List ℕ) (x : Value × List ℕ) → AreBytes bytes → read_value bytes ≡ Some x → Takes bytes (value_bytes x.0) x.1 × Stores x.0
unfolding read_value
value_takes [] x fits e = absurd cc
value_takes (zero ∷ bytes) x fits e =
    let made : Value × List ℕ = (Null, bytes) in
    subst (λ (y : Value × List ℕ). Takes (0 ∷ bytes) (value_bytes y.0) y.1 × Stores y.0) (same_Some made x e) (record { parts = refl; rest_bytes = AreBytes-rest 0 bytes fits }, record { fits = tt; text = lit< tt })
value_takes (suc zero ∷ bytes) x fits e =
    let a = bind_some (read_int bytes) (λ n. Some (Int n.0, n.1)) x e in
    let t = int_takes bytes a.0 (AreBytes-rest 1 bytes fits) a.1 in
    let made : Value × List ℕ = (Int a.0.0, a.0.1) in
    subst (λ (y : Value × List ℕ). Takes (1 ∷ bytes) (value_bytes y.0) y.1 × Stores y.0) (same_Some made x a.2) (behind 1 bytes (number 8 (cast_unsigned w64 a.0.0)) a.0.1 t.0, record { fits = t.1; text = lit< tt })
value_takes (suc (suc zero) ∷ bytes) x fits e =
    let a = bind_some (counted_at 4 bytes) (λ text. Some (Text text.0, text.1)) x e in
    let t = counted_takes 4 bytes a.0 (AreBytes-rest 2 bytes fits) a.1 in
    let made : Value × List ℕ = (Text a.0.0, a.0.1) in
    subst (λ (y : Value × List ℕ). Takes (2 ∷ bytes) (value_bytes y.0) y.1 × Stores y.0) (same_Some made x a.2) (behind 2 bytes (number 4 (length a.0.0) ++ a.0.0) a.0.1 t.0, record { fits = tt; text = t.1 })
value_takes (suc (suc (suc kind)) ∷ bytes) x fits e = absurd cc

value_again : (v : Value) (rest : List ℕ) → Stores v → read_value (value_bytes v ++ rest) ≡ Some (v, rest)
unfolding read_value
value_again Null rest stores = refl
value_again (Int n) rest stores = rw (int_again n rest stores.fits) refl
value_again (Text bytes) rest stores = rw (counted_again 4 bytes rest stores.text) refl

values_read : Reads value_bytes Stores read_value
values_read = record { takes = value_takes; again = value_again }

-- ---- lengths

length-value_bytes : (v : Value) → length (value_bytes v) ≡ value_length v
length-value_bytes Null = refl
length-value_bytes (Int n) = ap suc (length-number 8 (cast_unsigned w64 n))
length-value_bytes (Text bytes) = omega (arith, length-append (number 4 (length bytes)) bytes, length-number 4 (length bytes))

-- a stored row has the length that is said of it
pub length-row_bytes : (row : List Value) → length (row_bytes row) ≡ row_length row
length-row_bytes [] = refl
length-row_bytes (v ∷ row) =
    ap (λ (x : List ℕ). length x) (flat_map-cons value_bytes v row) ∙ omega (arith, length-append (value_bytes v) (row_bytes row), length-value_bytes v, length-row_bytes row, sum_by-cons value_length v row)

-- a text is shorter than its stored value
text_within : (v : Value) → text_length v ≤ value_length v
text_within Null = omega arith
text_within (Int n) = omega arith
text_within (Text bytes) = omega arith

-- the values of a row that is not too long have spellings
pub all_store : (row : List Value) → AllByRecursion Fits row → row_length row ≤ 65536 → AllByRecursion Stores row
all_store [] fits short = tt
all_store (v ∷ row) fits short =
    let whole = sum_by-cons value_length v row in
    (record { fits = fits.0; text = omega (arith, whole, short, text_within v) }, all_store row fits.1 (omega (arith, whole, short)))

all_fit : (row : List Value) → AllByRecursion Stores row → AllByRecursion Fits row
all_fit [] stores = tt
all_fit (v ∷ row) stores = (stores.0.fits, all_fit row stores.1)

-- columns hold as many values as they are
held_number : (keyed : List ℕ) (nth : ℕ) (columns : List Column) (values : List Value) → may_hold_all keyed nth columns values ≡ true → length values ≡ length columns
held_number keyed nth [] [] e = refl
held_number keyed nth [] (v ∷ values) e = absurd cc
held_number keyed nth (c ∷ columns) [] e = absurd cc
held_number keyed nth (c ∷ columns) (v ∷ values) e =
    ap suc (held_number keyed (nth + 1) columns values (and_parts (may_hold (list_any (λ k. eqb k nth) keyed) c.kind v) (may_hold_all keyed (nth + 1) columns values) e).1)

-- ---- rows

pub row_takes : (d : Definition) (bytes : List ℕ) (row : List Value) → AreBytes bytes → read_row d bytes ≡ Some row → IsRow d row × (bytes ≡ row_bytes row)
unfolding read_row
row_takes d bytes row fits e =
    let a = bind_some (items_at read_value (length d.columns) bytes) (λ x. cond (eqb (length x.1) 0 && is_row d x.0) (Some x.0) None) row e in
    let g = cond_some (eqb (length a.0.1) 0 && is_row d a.0.0) a.0.0 row a.2 in
    let tests = and_parts (eqb (length a.0.1) 0) (is_row d a.0.0) g.0 in
    let items = items_take value_bytes Stores read_value values_read (length d.columns) bytes a.0 fits a.1 in
    let nothing : a.0.1 ≡ [] = nil_from_length a.0.1 (eqb-true _ _ tests.0) in
    let whole : bytes ≡ row_bytes a.0.0 = items.spelled.parts ∙ ap (λ (r : List ℕ). row_bytes a.0.0 ++ r) nothing ∙ append-nil (row_bytes a.0.0) in
    subst (λ (v : List Value). IsRow d v × (bytes ≡ row_bytes v)) g.1 (record { fits = all_fit a.0.0 items.each; is = tests.1 }, whole)

pub row_again : (d : Definition) (row : List Value) → IsRow d row → read_row d (row_bytes row) ≡ Some row
unfolding read_row
row_again d row is =
    let tests = and_parts (may_hold_all (key_columns d.keys 0) 0 d.columns row) (nat_le (row_length row) 65536) is.is in
    let stores = all_store row is.fits (leb-true _ _ tests.1) in
    let number = held_number (key_columns d.keys 0) 0 d.columns row tests.0 in
    let all : items_at read_value (length row) (row_bytes row) ≡ Some (row, []) = ap (items_at read_value (length row)) (sym (append-nil (row_bytes row))) ∙ items_again value_bytes Stores read_value values_read row [] stores in
    rw (← number, all, is.is) refl

-- what a reading gave
pub row_found : (d : Definition) (bytes : List ℕ) (r : Option (List Value)) → AreBytes bytes → r ≡ read_row d bytes → IfSome r (λ row. IsRow d row × (bytes ≡ row_bytes row))
row_found d bytes None fits e = tt
row_found d bytes (Some row) fits e = row_takes d bytes row fits (sym e)

-- no row is longer than 65536 bytes
none_long : (d : Definition) (bytes : List ℕ) (r : Option (List Value)) → AreBytes bytes → 65536 < length bytes → read_row d bytes ≡ r → None ≡ r
none_long d bytes None fits long e = refl
none_long d bytes (Some row) fits long e =
    let t = row_takes d bytes row fits e in
    let tests = and_parts (may_hold_all (key_columns d.keys 0) 0 d.columns row) (nat_le (row_length row) 65536) t.0.is in
    absurd (omega (arith, long, leb-true _ _ tests.1, length-row_bytes row, ap (λ (x : List ℕ). length x) t.1))

pub row_long : (d : Definition) (bytes : List ℕ) → AreBytes bytes → 65536 < length bytes → None ≡ read_row d bytes
row_long d bytes fits long = none_long d bytes (read_row d bytes) fits long refl

pub rows_found : {E : Type 0} (d : Definition) (bytes : List ℕ) (r : Result (Option (List Value)) E) → AreBytes bytes → IfOk r (λ row. row ≡ read_row d bytes)
    → IfOk r (λ row. IfSome row (λ row. IsRow d row × (bytes ≡ row_bytes row)))
rows_found d bytes (Ok r) fits e = row_found d bytes r fits e
rows_found d bytes (Err why) fits e = tt

pub rows_only : {E : Type 0} (d : Definition) (bytes : List ℕ) (row : List Value) (r : Result (Option (List Value)) E) → IsRow d row → bytes ≡ row_bytes row → IfOk r (λ row. row ≡ read_row d bytes)
    → IfOk r (λ read. read ≡ Some row)
rows_only d bytes row (Ok r) is same e = e ∙ ap (read_row d) same ∙ row_again d row is
rows_only d bytes row (Err why) is same e = tt

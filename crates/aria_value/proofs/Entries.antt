-- The bytes of entries are in the order of rows, and begin with a prefix exactly where the row has its values.
use Rattle.std.proofs.Common.{◌≡◌, ◌≢◌, ℕ, ℤ, pos, negsuc, zero, suc, ◌+◌, ◌*◌, ◌-◌, ◌^◌, ◌<◌, ◌≤◌, Bool, true, ◌&&◌, List, [], ◌∷◌, ◌++◌, length, drop, Result, Ok, Err, refl, sym, ap, ◌∙◌, append_assoc, arith, inl, inr}
use Rattle.std.specs.Prelude.{FitsSigned, IsTrue, ◌==◌, sum_by, nat_le, IfOk}
use Rattle.std.specs.Int.{w64}
use Rattle.std.specs.List.{flat_map, list_any, starts_with, AllByRecursion}
use Rattle.std.specs.Cmp.Lexicographic.{slice_cmp}
use Rattle.std.specs.Ordering.{ordering_then, nat_cmp, int_cmp, is_eq}
use Rattle.std.specs.declared.cmp.Ordering.{Ordering}
use Rattle.std.specs.declared.cmp.Ordering.TheVariants.{Less, Equal, Greater}
use Rattle.std.proofs.lemmas.Bool.{false≢true, cases_order, and_parts, false_from_ne_true, leb-true, eq-eqb, lt-ltb, le-ltb}
use Rattle.std.proofs.lemmas.Bool.Decides.{Decides-eqb}
use Rattle.std.proofs.lemmas.Cmp.{int_cmp_total, nat_list_cmp_total, tied_itself}
use Rattle.std.proofs.lemmas.List.{append-nil, length-append}
use Rattle.std.proofs.lemmas.List.Concat.{flat_map-append}
use Rattle.std.proofs.lemmas.List.Sums.{sum_by-cons}
use Rattle.std.proofs.lemmas.Slice.Eq.{starts_is}
use Rattle.std.proofs.lemmas.Map.Lookups.{exact_bytes}
use Rattle.aria_page.specs.Number.{number}
use Rattle.aria_page.proofs.Numbers.{length-number}
use Rattle.aria_value.specs.declared.value.Value.{Value}
use Rattle.aria_value.specs.declared.value.Value.TheVariants.{Null, Int, Text}
use Rattle.aria_value.specs.declared.definition.ColumnType.{ColumnType}
use Rattle.aria_value.specs.declared.definition.ColumnType.TheVariants as types
use Rattle.aria_value.specs.declared.definition.Column.{Column}
use Rattle.aria_value.specs.declared.definition.Definition.{Definition}
use Rattle.aria_value.specs.Order.{value_cmp, value_at, columns_cmp, key_columns, order_columns, key_cmp, has_values}
use Rattle.aria_value.specs.Stored.{row_length}
use Rattle.aria_value.specs.Rows.{may_hold, may_hold_all, Fits, IsRow}
use Rattle.aria_value.specs.Defined.{kind_at, longest_part, longest_entry, IsDefinition}
use Rattle.aria_value.specs.Entry.{raised, escaped, part, parts, entry_bytes, prefix_bytes, has_type, have_types}
use Rattle.aria_value.proofs.Definitions.{entry_at}
use Rattle.aria_value.proofs.Ordering.{cmp_less, cmp_same, cmp_greater, number_cmp, cmp_append, then_assoc}

-- ---- values of a type

-- null or a value of the type, and a number of 64 bits
pub record Typed (kind : ColumnType) (v : Value) : Type 0 where
  pub is : IsTrue (has_type kind v)
  pub fits : Fits v

-- each value of the row is of its column's type
pub record TypedRow (columns : List Column) (row : List Value) : Type 0 where
  pub each : (c : ℕ) → Typed (kind_at columns c) (value_at row c)

held_typed : (keyed : Bool) (kind : ColumnType) (v : Value) → may_hold keyed kind v ≡ true → Fits v → Typed kind v
held_typed keyed types.Int Null e fits = record { is = refl; fits = fits }
held_typed keyed types.Int (Int n) e fits = record { is = refl; fits = fits }
held_typed keyed types.Int (Text bytes) e fits = absurd cc
held_typed keyed (types.Text limit) Null e fits = record { is = refl; fits = fits }
held_typed keyed (types.Text limit) (Int n) e fits = absurd cc
held_typed keyed (types.Text limit) (Text bytes) e fits = record { is = refl; fits = fits }

typed_at : (keyed : List ℕ) (nth : ℕ) (columns : List Column) (row : List Value) → may_hold_all keyed nth columns row ≡ true → AllByRecursion Fits row → (c : ℕ) → Typed (kind_at columns c) (value_at row c)
typed_at keyed nth [] [] e fits c = record { is = refl; fits = tt }
typed_at keyed nth [] (v ∷ row) e fits c = absurd cc
typed_at keyed nth (column ∷ columns) [] e fits c = absurd cc
typed_at keyed nth (column ∷ columns) (v ∷ row) e fits zero =
    held_typed (list_any (λ k. k == nth) keyed) column.kind v (and_parts (may_hold (list_any (λ k. k == nth) keyed) column.kind v) (may_hold_all keyed (nth + 1) columns row) e).0 fits.0
typed_at keyed nth (column ∷ columns) (v ∷ row) e fits (suc c) =
    typed_at keyed (nth + 1) columns row (and_parts (may_hold (list_any (λ k. k == nth) keyed) column.kind v) (may_hold_all keyed (nth + 1) columns row) e).1 fits.1 c

-- the values of a row of the definition are of their columns' types
pub row_typed : (d : Definition) (row : List Value) → IsRow d row → TypedRow d.columns row
row_typed d row is =
    let tests = and_parts (may_hold_all (key_columns d.keys 0) 0 d.columns row) (nat_le (row_length row) 65536) is.is in
    record { each = typed_at (key_columns d.keys 0) 0 d.columns row tests.0 is.fits }

-- ---- numbers

less_shifted : (k a b : ℕ) → nat_cmp (a + k) (b + k) ≡ nat_cmp a b
less_shifted k a b =
    elim (cases_order a b) [
      | inl e ↦ rw e (cmp_same (b + k) ∙ sym (cmp_same b))
      | inr (inl lt) ↦ cmp_less (a + k) (b + k) (omega arith) ∙ sym (cmp_less a b lt)
      | inr (inr gt) ↦ cmp_greater (a + k) (b + k) (omega arith) ∙ sym (cmp_greater a b gt)
    ]

-- the further below zero, the less
less_back : (k a b : ℕ) → suc a ≤ k → suc b ≤ k → nat_cmp (k - suc a) (k - suc b) ≡ nat_cmp b a
less_back k a b ha hb =
    elim (cases_order b a) [
      | inl e ↦ rw e (cmp_same (k - suc a) ∙ sym (cmp_same a))
      | inr (inl lt) ↦ cmp_less (k - suc a) (k - suc b) (omega arith) ∙ sym (cmp_less b a lt)
      | inr (inr gt) ↦ cmp_greater (k - suc a) (k - suc b) (omega arith) ∙ sym (cmp_greater b a gt)
    ]

pos_cmp : (a b : ℕ) → nat_cmp a b ≡ int_cmp (pos a) (pos b)
pos_cmp a b =
    elim (cases_order a b) [
      | inl e ↦ rw e (cmp_same b ∙ sym (tied_itself int_cmp_total (pos b)))
      | inr (inl lt) ↦ rw (lt-ltb a b lt) refl
      | inr (inr gt) ↦ cmp_greater a b gt ∙ sym (rw (le-ltb a b (omega arith), lt-ltb b a gt) refl)
    ]

raised_cmp : (a b : ℤ) → FitsSigned w64 a → FitsSigned w64 b → nat_cmp (raised a) (raised b) ≡ int_cmp a b
raised_cmp (pos a) (pos b) fa fb = less_shifted (2 ^ 63) a b ∙ pos_cmp a b
raised_cmp (pos a) (negsuc b) fa fb = let low : suc b ≤ 2 ^ 63 = omega (arith, fb.sfits) in cmp_greater (a + 2 ^ 63) (2 ^ 63 - suc b) (omega arith)
raised_cmp (negsuc a) (pos b) fa fb = let low : suc a ≤ 2 ^ 63 = omega (arith, fa.sfits) in cmp_less (2 ^ 63 - suc a) (b + 2 ^ 63) (omega arith)
raised_cmp (negsuc a) (negsuc b) fa fb = less_back (2 ^ 63) a b (omega (arith, fa.sfits)) (omega (arith, fb.sfits)) ∙ pos_cmp b a

-- a number of 64 bits stays one
pub raised_fits : (n : ℤ) → FitsSigned w64 n → raised n < 2 ^ 64
raised_fits (pos n) fits = omega (arith, fits.sfits)
raised_fits (negsuc n) fits = omega (arith, fits.sfits)

-- ---- texts

ended : List ℕ → List ℕ
ended bytes = flat_map escaped bytes ++ 0 ∷ 0 ∷ []

text_cmp : (a b x y : List ℕ) → slice_cmp nat_cmp (ended a ++ x) (ended b ++ y) ≡ ordering_then (slice_cmp nat_cmp a b) (slice_cmp nat_cmp x y)
unfolding ended
text_cmp [] [] x y = refl
text_cmp [] (zero ∷ b) x y = refl
text_cmp [] (suc d ∷ b) x y = rw (cmp_less 0 (suc d) (omega arith)) refl
text_cmp (zero ∷ a) [] x y = refl
text_cmp (zero ∷ a) (zero ∷ b) x y = text_cmp a b x y
text_cmp (zero ∷ a) (suc d ∷ b) x y = rw (cmp_less 0 (suc d) (omega arith)) refl
text_cmp (suc c ∷ a) [] x y = rw (cmp_greater (suc c) 0 (omega arith)) refl
text_cmp (suc c ∷ a) (zero ∷ b) x y = rw (cmp_greater (suc c) 0 (omega arith)) refl
text_cmp (suc c ∷ a) (suc d ∷ b) x y = rw (text_cmp a b x y) (then_assoc (nat_cmp (suc c) (suc d)) (slice_cmp nat_cmp a b) (slice_cmp nat_cmp x y))

-- ---- parts

part_cmp : (kind : ColumnType) (v w : Value) → Typed kind v → Typed kind w → (x y : List ℕ) → slice_cmp nat_cmp (part v ++ x) (part w ++ y) ≡ ordering_then (value_cmp v w) (slice_cmp nat_cmp x y)
unfolding ended
part_cmp kind Null Null tv tw x y = refl
part_cmp kind Null (Int b) tv tw x y = refl
part_cmp kind Null (Text b) tv tw x y = refl
part_cmp kind (Int a) Null tv tw x y = refl
part_cmp kind (Int a) (Int b) tv tw x y =
    cmp_append (number 8 (raised a)) (number 8 (raised b)) x y (length-number 8 (raised a) ∙ sym (length-number 8 (raised b)))
    ∙ ap (λ o. ordering_then o (slice_cmp nat_cmp x y)) (number_cmp 8 (raised a) (raised b) (raised_fits a tv.fits) (raised_fits b tw.fits) ∙ raised_cmp a b tv.fits tw.fits)
part_cmp types.Int (Int a) (Text b) tv tw x y = absurd (false≢true tw.is)
part_cmp (types.Text limit) (Int a) (Text b) tv tw x y = absurd (false≢true tv.is)
part_cmp kind (Text a) Null tv tw x y = refl
part_cmp types.Int (Text a) (Int b) tv tw x y = absurd (false≢true tv.is)
part_cmp (types.Text limit) (Text a) (Int b) tv tw x y = absurd (false≢true tw.is)
part_cmp kind (Text a) (Text b) tv tw x y = text_cmp a b x y

-- the parts of two rows, whatever follows
parts_cmp : (all : List Column) (columns : List ℕ) (a b : List Value) → TypedRow all a → TypedRow all b → (x y : List ℕ)
    → slice_cmp nat_cmp (parts a columns ++ x) (parts b columns ++ y) ≡ ordering_then (columns_cmp columns a b) (slice_cmp nat_cmp x y)
parts_cmp all [] a b ta tb x y = refl
parts_cmp all (c ∷ columns) a b ta tb x y =
    rw (append_assoc (part (value_at a c)) (parts a columns) x, append_assoc (part (value_at b c)) (parts b columns) y) (
    part_cmp (kind_at all c) (value_at a c) (value_at b c) (ta.each c) (tb.each c) (parts a columns ++ x) (parts b columns ++ y)
    ∙ ap (ordering_then (value_cmp (value_at a c) (value_at b c))) (parts_cmp all columns a b ta tb x y)
    ∙ then_assoc (value_cmp (value_at a c) (value_at b c)) (columns_cmp columns a b) (slice_cmp nat_cmp x y)
    )

then_equal : (o : Ordering) → ordering_then o Equal ≡ o
then_equal Less = refl
then_equal Equal = refl
then_equal Greater = refl

-- Byte order of entries is the key's order of rows.
pub entries_cmp : (d : Definition) (key : ℕ) (a b : List Value) → TypedRow d.columns a → TypedRow d.columns b → slice_cmp nat_cmp (entry_bytes d key a) (entry_bytes d key b) ≡ key_cmp d key a b
entries_cmp d key a b ta tb =
    let columns : List ℕ = order_columns d key in
    rw (← append-nil (parts a columns), ← append-nil (parts b columns)) (parts_cmp d.columns columns a b ta tb [] [] ∙ then_equal (columns_cmp columns a b))

-- ---- prefixes

-- what comes after a front that both have decides
same_front : (u x y : List ℕ) → starts_with ◌==◌ (u ++ y) (u ++ x) ≡ starts_with ◌==◌ y x
same_front [] x y = refl
same_front (a ∷ u) x y = rw (eq-eqb a a refl) (same_front u x y)

differs : (u v x y : List ℕ) (o : Ordering) → ((x y : List ℕ) → slice_cmp nat_cmp (u ++ x) (v ++ y) ≡ ordering_then o (slice_cmp nat_cmp x y))
    → ((p : Ordering) → ordering_then o p ≢ Equal) → starts_with ◌==◌ (u ++ y) (v ++ x) ≡ true → ⊥
differs u v x y o law never e =
    let cut : List ℕ = drop (length (v ++ x)) (u ++ y) in
    let whole : u ++ y ≡ (v ++ x) ++ cut = (starts_is Decides-eqb (u ++ y) (v ++ x) (starts_with ◌==◌ (u ++ y) (v ++ x)) refl).0 e in
    let same : u ++ y ≡ v ++ (x ++ cut) = whole ∙ append_assoc v x cut in
    never (slice_cmp nat_cmp y (x ++ cut)) (sym (law y (x ++ cut)) ∙ ap (λ (l : List ℕ). slice_cmp nat_cmp l (v ++ (x ++ cut))) same ∙ tied_itself nat_list_cmp_total (v ++ (x ++ cut)))

less_apart : Less ≡ Equal → ⊥
less_apart e = absurd cc

greater_apart : Greater ≡ Equal → ⊥
greater_apart e = absurd cc

begins_as : (u v x y : List ℕ) (o : Ordering) → ((x y : List ℕ) → slice_cmp nat_cmp (u ++ x) (v ++ y) ≡ ordering_then o (slice_cmp nat_cmp x y))
    → starts_with ◌==◌ (u ++ y) (v ++ x) ≡ (is_eq o && starts_with ◌==◌ y x)
begins_as u v x y Less law = false_from_ne_true _ (λ e. differs u v x y Less law (λ p h. less_apart h) e)
begins_as u v x y Equal law =
    let tied : slice_cmp nat_cmp u v ≡ Equal = ap (λ (l : List ℕ). slice_cmp nat_cmp l v) (sym (append-nil u)) ∙ ap (slice_cmp nat_cmp (u ++ [])) (sym (append-nil v)) ∙ law [] [] in
    let same : u ≡ v = exact_bytes u v tied in
    rw same (same_front v x y)
begins_as u v x y Greater law = false_from_ne_true _ (λ e. differs u v x y Greater law (λ p h. greater_apart h) e)

-- the values of a row in the columns, and values that are looked for
begins_parts : (all : List Column) (columns : List ℕ) (row values : List Value) (y : List ℕ) → TypedRow all row → IsTrue (have_types all columns values) → AllByRecursion Fits values
    → starts_with ◌==◌ (parts row columns ++ y) (prefix_bytes values) ≡ has_values columns values row
begins_parts all columns row [] y typed types fits = refl
begins_parts all [] row (v ∷ values) y typed types fits = absurd (false≢true types)
begins_parts all (c ∷ columns) row (v ∷ values) y typed types fits =
    let tests = and_parts (has_type (kind_at all c) v) (have_types all columns values) types in
    let sought : Typed (kind_at all c) v = record { is = tests.0; fits = fits.0 } in
    rw (append_assoc (part (value_at row c)) (parts row columns) y) (
    begins_as (part (value_at row c)) (part v) (prefix_bytes values) (parts row columns ++ y) (value_cmp (value_at row c) v) (part_cmp (kind_at all c) (value_at row c) v (typed.each c) sought)
    ∙ ap (λ b. is_eq (value_cmp (value_at row c) v) && b) (begins_parts all columns row values y typed tests.1 fits.1)
    )

-- the parts of the key's own columns, and what comes after them
entry_front : (d : Definition) (key : ℕ) (row : List Value) → (rest : List ℕ) × (entry_bytes d key row ≡ parts row (key_columns d.keys key) ++ rest)
entry_front d zero row = ([], sym (append-nil (parts row (key_columns d.keys 0))))
entry_front d (suc key) row = (parts row (key_columns d.keys 0), flat_map-append (λ c. part (value_at row c)) (key_columns d.keys (suc key)) (key_columns d.keys 0))

-- An entry begins with a prefix exactly where the row has its values.
pub entry_begins : (d : Definition) (key : ℕ) (row values : List Value) → TypedRow d.columns row → IsTrue (have_types d.columns (key_columns d.keys key) values) → AllByRecursion Fits values
    → starts_with ◌==◌ (entry_bytes d key row) (prefix_bytes values) ≡ has_values (key_columns d.keys key) values row
entry_begins d key row values typed types fits =
    let front = entry_front d key row in
    rw front.1 (begins_parts d.columns (key_columns d.keys key) row values front.0 typed types fits)

-- ---- lengths

-- an escaped text is at most twice as long
escaped_length : (bytes : List ℕ) → length (flat_map escaped bytes) ≤ 2 * length bytes
escaped_length [] = omega arith
escaped_length (zero ∷ bytes) = let ih = escaped_length bytes in omega arith
escaped_length (suc b ∷ bytes) = let ih = escaped_length bytes in omega arith

part_short : (keyed : Bool) (kind : ColumnType) (v : Value) → may_hold keyed kind v ≡ true → length (part v) ≤ longest_part kind
part_short keyed types.Int Null e = omega arith
part_short keyed types.Int (Int n) e = omega (arith, length-number 8 (raised n))
part_short keyed types.Int (Text bytes) e = absurd cc
part_short keyed (types.Text limit) Null e = omega arith
part_short keyed (types.Text limit) (Int n) e = absurd cc
part_short keyed (types.Text limit) (Text bytes) e =
    omega (arith, leb-true (length bytes) limit e, escaped_length bytes, length-append (flat_map escaped bytes) (0 ∷ 0 ∷ []))

short_at : (keyed : List ℕ) (nth : ℕ) (columns : List Column) (row : List Value) → may_hold_all keyed nth columns row ≡ true → (c : ℕ) → length (part (value_at row c)) ≤ longest_part (kind_at columns c)
short_at keyed nth [] [] e c = omega arith
short_at keyed nth [] (v ∷ row) e c = absurd cc
short_at keyed nth (column ∷ columns) [] e c = absurd cc
short_at keyed nth (column ∷ columns) (v ∷ row) e zero =
    part_short (list_any (λ k. k == nth) keyed) column.kind v (and_parts (may_hold (list_any (λ k. k == nth) keyed) column.kind v) (may_hold_all keyed (nth + 1) columns row) e).0
short_at keyed nth (column ∷ columns) (v ∷ row) e (suc c) =
    short_at keyed (nth + 1) columns row (and_parts (may_hold (list_any (λ k. k == nth) keyed) column.kind v) (may_hold_all keyed (nth + 1) columns row) e).1 c

parts_short : (all : List Column) (row : List Value) (columns : List ℕ) → ((c : ℕ) → length (part (value_at row c)) ≤ longest_part (kind_at all c))
    → length (parts row columns) ≤ sum_by (λ c. longest_part (kind_at all c)) columns
parts_short all row [] each = omega arith
parts_short all row (c ∷ columns) each =
    omega (arith, length-append (part (value_at row c)) (parts row columns), each c, parts_short all row columns each, sum_by-cons (λ c. longest_part (kind_at all c)) c columns)

-- An entry of a row of the definition has at most 1000 bytes.
pub entry_short : (d : Definition) (key : ℕ) (row : List Value) → IsDefinition d → IsRow d row → key < length d.keys → length (entry_bytes d key row) ≤ 1000
entry_short d key row is row_is low =
    let tests = and_parts (may_hold_all (key_columns d.keys 0) 0 d.columns row) (nat_le (row_length row) 65536) row_is.is in
    let short = parts_short d.columns row (order_columns d key) (short_at (key_columns d.keys 0) 0 d.columns row tests.0) in
    let limit : longest_entry d key ≤ 1000 = entry_at d key (length d.keys) low is.entries in
    omega arith

-- ---- what the calls give

pub order_of : {E : Type 0} (d : Definition) (key : ℕ) (row other : List Value) (r : Result (List ℕ) E) → IfOk r (λ bytes. bytes ≡ entry_bytes d key row) → IsRow d row → IsRow d other
    → IfOk r (λ bytes. slice_cmp nat_cmp bytes (entry_bytes d key other) ≡ key_cmp d key row other)
order_of d key row other (Ok bytes) e is other_is =
    ap (λ (l : List ℕ). slice_cmp nat_cmp l (entry_bytes d key other)) e ∙ entries_cmp d key row other (row_typed d row is) (row_typed d other other_is)
order_of d key row other (Err why) e is other_is = tt

pub length_of : {E : Type 0} (d : Definition) (key : ℕ) (row : List Value) (r : Result (List ℕ) E) → IfOk r (λ bytes. bytes ≡ entry_bytes d key row) → IsDefinition d → IsRow d row → key < length d.keys
    → IfOk r (λ bytes. length bytes ≤ 1000)
length_of d key row (Ok bytes) e is row_is low = let same : length bytes ≡ length (entry_bytes d key row) = ap (λ (l : List ℕ). length l) e in let short = entry_short d key row is row_is low in omega arith
length_of d key row (Err why) e is row_is low = tt

pub begins_of : {E : Type 0} (d : Definition) (key : ℕ) (row values : List Value) (r : Result (List ℕ) E) → IfOk r (λ bytes. bytes ≡ prefix_bytes values) → IsRow d row
    → IsTrue (have_types d.columns (key_columns d.keys key) values) → AllByRecursion Fits values
    → IfOk r (λ bytes. starts_with ◌==◌ (entry_bytes d key row) bytes ≡ has_values (key_columns d.keys key) values row)
begins_of d key row values (Ok bytes) e is types fits =
    ap (λ (l : List ℕ). starts_with ◌==◌ (entry_bytes d key row) l) e ∙ entry_begins d key row values (row_typed d row is) types fits
begins_of d key row values (Err why) e is types fits = tt

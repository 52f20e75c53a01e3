-- A definition that is read is the one that was stored, and what was stored is read again.
use Rattle.std.proofs.Common.{◌≡◌, ℕ, zero, suc, ◌*◌, ◌^◌, ◌<◌, ◌≤◌, true, ◌&&◌, nat_le, cond, eqb, List, [], ◌∷◌, ◌++◌, length, Option, Some, None, Result, Ok, Err, refl, sym, ap, subst, ◌∙◌, append_assoc, arith, lit<}
use Rattle.std.specs.Prelude.{IsTrue, IfSome, IfOk, All}
use Rattle.std.specs.List.{flat_map, list_all, AllByRecursion}
use Rattle.std.proofs.lemmas.Bool.{eqb-true, leb-true, and_parts}
use Rattle.std.proofs.lemmas.List.{append-nil, nil_from_length, length-append}
use Rattle.std.proofs.lemmas.List.Elements.{recursion_from_All}
use Rattle.std.proofs.lemmas.Option.{same_Some, cond_some}
use Rattle.aria_page.specs.Field.{◌>>=◌, AreBytes, Takes}
use Rattle.aria_page.specs.Number.{number, number_at}
use Rattle.aria_page.specs.Text.{name_bytes, name_at, counted_at}
use Rattle.aria_page.specs.Word.{is_word}
use Rattle.aria_page.proofs.Fields.{bind_some, Takes-then}
use Rattle.aria_page.proofs.Numbers.{length-number, number-one, number_takes, number_again}
use Rattle.aria_page.proofs.Texts.{word_length, name_takes, name_again, counted_takes, counted_again}
use Rattle.aria_value.specs.declared.definition.ColumnType.{ColumnType}
use Rattle.aria_value.specs.declared.definition.ColumnType.TheVariants.{Int, Text}
use Rattle.aria_value.specs.declared.definition.Column.{Column}
use Rattle.aria_value.specs.declared.definition.Key.{Key}
use Rattle.aria_value.specs.declared.definition.Definition.{Definition}
use Rattle.aria_value.specs.Stored.{type_bytes, column_bytes, key_bytes, definition_bytes}
use Rattle.aria_value.specs.Defined.{same_name, distinct, is_type, is_key, is_definition, IsDefinition, HasNames}
use Rattle.aria_value.specs.Reading.{type_of, read_type, read_column, read_key, read_parts, read_definition}
use Rattle.aria_page.specs.Items.{list_bytes, list_at}
use Rattle.aria_page.proofs.Items.{Reads, list_takes, list_again}
use Rattle.aria_value.proofs.Definitions.{AllKeysFew, keys_few, definition_is, is_definition_of}

-- ---- a byte in front

-- bytes behind the byte with their number
pub counted_bytes : (out bytes : List ℕ) → length bytes < 256 → (out ++ length bytes ∷ []) ++ bytes ≡ out ++ (number 1 (length bytes) ++ bytes)
counted_bytes out bytes low = append_assoc out (length bytes ∷ []) bytes ∙ ap (λ (x : List ℕ). out ++ (x ++ bytes)) (sym (number-one (length bytes) low))

-- items behind the byte with their number
pub counted_items : (out text : List ℕ) (n : ℕ) → n < 256 → (out ++ n ∷ []) ++ text ≡ out ++ (number 1 n ++ text)
counted_items out text n low = append_assoc out (n ∷ []) text ∙ ap (λ (x : List ℕ). out ++ (x ++ text)) (sym (number-one n low))

-- ---- types

abbrev TypeFits : ColumnType → Type 0
TypeFits Int = Unit {0}
TypeFits (Text limit) = limit < 2 ^ 32

type_spelled : (kind limit : ℕ) (t : ColumnType) → limit < 2 ^ 32 → type_of kind limit ≡ Some t → (type_bytes t ≡ number 1 kind ++ number 4 limit) × TypeFits t
type_spelled zero zero t low e = subst (λ y. (type_bytes y ≡ number 1 0 ++ number 4 0) × TypeFits y) (same_Some Int t e) (refl, tt)
type_spelled zero (suc limit) t low e = absurd cc
type_spelled (suc zero) limit t low e = subst (λ y. (type_bytes y ≡ number 1 1 ++ number 4 limit) × TypeFits y) (same_Some (Text limit) t e) (refl, low)
type_spelled (suc (suc kind)) limit t low e = absurd cc

type_takes : (bytes : List ℕ) (x : ColumnType × List ℕ) → AreBytes bytes → read_type bytes ≡ Some x → Takes bytes (type_bytes x.0) x.1 × TypeFits x.0
unfolding read_type
type_takes bytes x fits e =
    let a = bind_some (number_at 1 bytes) (λ kind. number_at 4 kind.1 >>= λ limit. type_of kind.0 limit.0 >>= λ type. Some (type, limit.1)) x e in
    let b = bind_some (number_at 4 a.0.1) (λ limit. type_of a.0.0 limit.0 >>= λ type. Some (type, limit.1)) x a.2 in
    let c = bind_some (type_of a.0.0 b.0.0) (λ type. Some (type, b.0.1)) x b.2 in
    let first = number_takes 1 bytes a.0 fits a.1 in
    let second = number_takes 4 a.0.1 b.0 first.0.rest_bytes b.1 in
    let low : b.0.0 < 2 ^ 32 = second.1 in
    let t = type_spelled a.0.0 b.0.0 c.0 low c.1 in
    let both = Takes-then bytes (number 1 a.0.0) a.0.1 (number 4 b.0.0) b.0.1 first.0 second.0 in
    let made : ColumnType × List ℕ = (c.0, b.0.1) in
    subst (λ (y : ColumnType × List ℕ). Takes bytes (type_bytes y.0) y.1 × TypeFits y.0) (same_Some made x c.2) (subst (λ (y : List ℕ). Takes bytes y b.0.1) (sym t.0) both, t.1)

type_again : (t : ColumnType) (rest : List ℕ) → TypeFits t → read_type (type_bytes t ++ rest) ≡ Some (t, rest)
unfolding read_type
type_again Int rest fits =
    ap read_type (append_assoc (number 1 0) (number 4 0) rest) ∙ rw (number_again 1 0 (number 4 0 ++ rest) (lit< tt), number_again 4 0 rest (lit< tt)) refl
type_again (Text limit) rest fits =
    ap read_type (append_assoc (number 1 1) (number 4 limit) rest) ∙ rw (number_again 1 1 (number 4 limit ++ rest) (lit< tt), number_again 4 limit rest fits) refl

-- ---- columns

record ColumnFits (c : Column) : Type 0 where
  name : IsTrue (is_word c.name)
  kind : TypeFits c.kind

column_takes : (bytes : List ℕ) (x : Column × List ℕ) → AreBytes bytes → read_column bytes ≡ Some x → Takes bytes (column_bytes x.0) x.1 × ColumnFits x.0
unfolding read_column
column_takes bytes x fits e =
    let a = bind_some (name_at bytes) (λ name. read_type name.1 >>= λ type. Some (record { name = name.0; kind = type.0 }, type.1)) x e in
    let b = bind_some (read_type a.0.1) (λ type. Some (record { name = a.0.0; kind = type.0 }, type.1)) x a.2 in
    let first = name_takes bytes a.0 fits a.1 in
    let second = type_takes a.0.1 b.0 first.0.rest_bytes b.1 in
    let both = Takes-then bytes (name_bytes a.0.0) a.0.1 (type_bytes b.0.0) b.0.1 first.0 second.0 in
    let made : Column × List ℕ = (record { name = a.0.0; kind = b.0.0 }, b.0.1) in
    subst (λ (y : Column × List ℕ). Takes bytes (column_bytes y.0) y.1 × ColumnFits y.0) (same_Some made x b.2) (both, record { name = first.1; kind = second.1 })

column_again : (c : Column) (rest : List ℕ) → ColumnFits c → read_column (column_bytes c ++ rest) ≡ Some (c, rest)
unfolding read_column
column_again c rest fits =
    ap read_column (append_assoc (name_bytes c.name) (type_bytes c.kind) rest) ∙ rw (name_again c.name (type_bytes c.kind ++ rest) fits.name, type_again c.kind rest fits.kind) refl

columns_read : Reads column_bytes ColumnFits read_column
columns_read = record { takes = column_takes; again = column_again }

-- ---- keys

record KeyFits (key : Key) : Type 0 where
  name : IsTrue (is_word key.name)
  columns : length key.columns < 256

key_takes : (bytes : List ℕ) (x : Key × List ℕ) → AreBytes bytes → read_key bytes ≡ Some x → Takes bytes (key_bytes x.0) x.1 × KeyFits x.0
unfolding read_key
key_takes bytes x fits e =
    let a = bind_some (name_at bytes) (λ name. counted_at 1 name.1 >>= λ columns. Some (record { name = name.0; columns = columns.0 }, columns.1)) x e in
    let b = bind_some (counted_at 1 a.0.1) (λ columns. Some (record { name = a.0.0; columns = columns.0 }, columns.1)) x a.2 in
    let first = name_takes bytes a.0 fits a.1 in
    let second = counted_takes 1 a.0.1 b.0 first.0.rest_bytes b.1 in
    let both = Takes-then bytes (name_bytes a.0.0) a.0.1 (number 1 (length b.0.0) ++ b.0.0) b.0.1 first.0 second.0 in
    let made : Key × List ℕ = (record { name = a.0.0; columns = b.0.0 }, b.0.1) in
    subst (λ (y : Key × List ℕ). Takes bytes (key_bytes y.0) y.1 × KeyFits y.0) (same_Some made x b.2) (both, record { name = first.1; columns = second.1 })

key_again : (key : Key) (rest : List ℕ) → KeyFits key → read_key (key_bytes key ++ rest) ≡ Some (key, rest)
unfolding read_key
key_again key rest fits =
    ap read_key (append_assoc (name_bytes key.name) (number 1 (length key.columns) ++ key.columns) rest)
    ∙ rw (name_again key.name ((number 1 (length key.columns) ++ key.columns) ++ rest) fits.name, counted_again 1 key.columns rest fits.columns) refl

keys_read : Reads key_bytes KeyFits read_key
keys_read = record { takes = key_takes; again = key_again }

-- ---- definitions

record PartsFit (d : Definition) : Type 0 where
  columns : AllByRecursion ColumnFits d.columns
  keys : AllByRecursion KeyFits d.keys

parts_take : (bytes : List ℕ) (x : Definition × List ℕ) → AreBytes bytes → read_parts bytes ≡ Some x → Takes bytes (definition_bytes x.0) x.1 × PartsFit x.0
unfolding read_parts
parts_take bytes x fits e =
    let a = bind_some (list_at read_column bytes) (λ columns. list_at read_key columns.1 >>= λ keys. number_at 4 keys.1 >>= λ max_rows. Some (record { columns = columns.0; keys = keys.0; max_rows = max_rows.0 }, max_rows.1)) x e in
    let b = bind_some (list_at read_key a.0.1) (λ keys. number_at 4 keys.1 >>= λ max_rows. Some (record { columns = a.0.0; keys = keys.0; max_rows = max_rows.0 }, max_rows.1)) x a.2 in
    let c = bind_some (number_at 4 b.0.1) (λ max_rows. Some (record { columns = a.0.0; keys = b.0.0; max_rows = max_rows.0 }, max_rows.1)) x b.2 in
    let first = list_takes column_bytes ColumnFits read_column columns_read bytes a.0 fits a.1 in
    let second = list_takes key_bytes KeyFits read_key keys_read a.0.1 b.0 first.0.rest_bytes b.1 in
    let third = number_takes 4 b.0.1 c.0 second.0.rest_bytes c.1 in
    let behind = Takes-then a.0.1 (list_bytes key_bytes b.0.0) b.0.1 (number 4 c.0.0) c.0.1 second.0 third.0 in
    let all = Takes-then bytes (list_bytes column_bytes a.0.0) a.0.1 (list_bytes key_bytes b.0.0 ++ number 4 c.0.0) c.0.1 first.0 behind in
    let made : Definition × List ℕ = (record { columns = a.0.0; keys = b.0.0; max_rows = c.0.0 }, c.0.1) in
    subst (λ (y : Definition × List ℕ). Takes bytes (definition_bytes y.0) y.1 × PartsFit y.0) (same_Some made x c.2) (all, record { columns = first.1; keys = second.1 })

-- the numbers of columns, of keys and of rows
pub record Counts (d : Definition) : Type 0 where
  pub columns : length d.columns ≤ 32
  pub keys : length d.keys ≤ 8
  pub rows : d.max_rows < 2 ^ 32

parts_again : (d : Definition) (rest : List ℕ) → PartsFit d → Counts d → read_parts (definition_bytes d ++ rest) ≡ Some (d, rest)
unfolding read_parts
parts_again d rest fits counts =
    let regrouped : definition_bytes d ++ rest ≡ list_bytes column_bytes d.columns ++ (list_bytes key_bytes d.keys ++ (number 4 d.max_rows ++ rest)) =
    append_assoc (list_bytes column_bytes d.columns) (list_bytes key_bytes d.keys ++ number 4 d.max_rows) rest ∙ ap (λ (x : List ℕ). list_bytes column_bytes d.columns ++ x) (append_assoc (list_bytes key_bytes d.keys) (number 4 d.max_rows) rest) in
    ap read_parts regrouped
    ∙ rw (
      list_again column_bytes ColumnFits read_column columns_read d.columns (list_bytes key_bytes d.keys ++ (number 4 d.max_rows ++ rest)) (omega (arith, counts.columns)) fits.columns,
      list_again key_bytes KeyFits read_key keys_read d.keys (number 4 d.max_rows ++ rest) (omega (arith, counts.keys)) fits.keys,
      number_again 4 d.max_rows rest counts.rows,
    ) refl

pub counts_of : (d : Definition) → IsDefinition d → Counts d
counts_of d is =
    let columns = (and_parts (nat_le 1 (length d.columns)) (nat_le (length d.columns) 32) (and_parts (nat_le 1 (length d.columns) && nat_le (length d.columns) 32) (distinct (λ a b. same_name a.name b.name) d.columns) is.columns).0).1 in
    let distinct_keys = (and_parts (nat_le 1 (length d.keys) && nat_le (length d.keys) 8 && distinct (λ a b. same_name a.name b.name) d.keys) (list_all (is_key d.columns) d.keys) is.keys).0 in
    let keys = (and_parts (nat_le 1 (length d.keys)) (nat_le (length d.keys) 8) (and_parts (nat_le 1 (length d.keys) && nat_le (length d.keys) 8) (distinct (λ a b. same_name a.name b.name) d.keys) distinct_keys).0).1 in
    let rows = (and_parts (nat_le 1 d.max_rows) (nat_le d.max_rows 16777216) is.rows).1 in
    record { columns = leb-true _ _ columns; keys = leb-true _ _ keys; rows = omega (arith, leb-true _ _ rows) }

type_fits : (t : ColumnType) → is_type t ≡ true → TypeFits t
type_fits Int e = tt
type_fits (Text limit) e = omega (arith, leb-true _ _ (and_parts (nat_le 1 limit) (nat_le limit 65535) e).1)

columns_fit : (columns : List Column) → AllByRecursion (λ column. IsTrue (is_word column.name)) columns → list_all (λ column. is_type column.kind) columns ≡ true → AllByRecursion ColumnFits columns
columns_fit [] names types = tt
columns_fit (c ∷ columns) names types =
    let both = and_parts (is_type c.kind) (list_all (λ column. is_type column.kind) columns) types in
    (record { name = names.0; kind = type_fits c.kind both.0 }, columns_fit columns names.1 both.1)

keys_fit : (keys : List Key) → AllByRecursion (λ key. IsTrue (is_word key.name)) keys → AllKeysFew keys → AllByRecursion KeyFits keys
keys_fit [] names few = tt
keys_fit (key ∷ keys) names few = (record { name = names.0; columns = few.0 }, keys_fit keys names.1 few.1)

column_names : (columns : List Column) → AllByRecursion ColumnFits columns → AllByRecursion (λ column. IsTrue (is_word column.name)) columns
column_names [] fits = tt
column_names (c ∷ columns) fits = (fits.0.name, column_names columns fits.1)

key_names : (keys : List Key) → AllByRecursion KeyFits keys → AllByRecursion (λ key. IsTrue (is_word key.name)) keys
key_names [] fits = tt
key_names (key ∷ keys) fits = (fits.0.name, key_names keys fits.1)

-- what a reading tells of a definition
abbrev pub IsFound : List ℕ → Definition → Type 0
IsFound bytes d = IsDefinition d × HasNames d × (bytes ≡ definition_bytes d)

definition_takes : (bytes : List ℕ) (d : Definition) → AreBytes bytes → read_definition bytes ≡ Some d → IsFound bytes d
unfolding read_definition
definition_takes bytes d fits e =
    let a = bind_some (read_parts bytes) (λ read. cond (eqb (length read.1) 0 && is_definition read.0) (Some read.0) None) d e in
    let g = cond_some (eqb (length a.0.1) 0 && is_definition a.0.0) a.0.0 d a.2 in
    let tests = and_parts (eqb (length a.0.1) 0) (is_definition a.0.0) g.0 in
    let t = parts_take bytes a.0 fits a.1 in
    let nothing : a.0.1 ≡ [] = nil_from_length a.0.1 (eqb-true _ _ tests.0) in
    let whole : bytes ≡ definition_bytes a.0.0 = t.0.parts ∙ ap (λ (r : List ℕ). definition_bytes a.0.0 ++ r) nothing ∙ append-nil (definition_bytes a.0.0) in
    let names : HasNames a.0.0 = record { columns = column_names a.0.0.columns t.1.columns; keys = key_names a.0.0.keys t.1.keys } in
    subst (λ (v : Definition). IsFound bytes v) g.1 (definition_is a.0.0 tests.1, names, whole)

definition_again : (d : Definition) → IsDefinition d → HasNames d → read_definition (definition_bytes d) ≡ Some d
unfolding read_definition
definition_again d is names =
    let fits : PartsFit d = record { columns = columns_fit d.columns names.columns is.types; keys = keys_fit d.keys names.keys (keys_few d is) } in
    let all : read_parts (definition_bytes d) ≡ Some (d, []) = ap read_parts (sym (append-nil (definition_bytes d))) ∙ parts_again d [] fits (counts_of d is) in
    rw (all, is_definition_of d is) refl

found_one : (bytes : List ℕ) (r : Option Definition) → AreBytes bytes → r ≡ read_definition bytes → IfSome r (IsFound bytes)
found_one bytes None fits e = tt
found_one bytes (Some d) fits e = definition_takes bytes d fits (sym e)

pub definitions_found : {E : Type 0} (bytes : List ℕ) (r : Result (Option Definition) E) → AreBytes bytes → IfOk r (λ d. d ≡ read_definition bytes) → IfOk r (λ d. IfSome d (IsFound bytes))
definitions_found bytes (Ok r) fits e = found_one bytes r fits e
definitions_found bytes (Err why) fits e = tt

pub definitions_only : {E : Type 0} (bytes : List ℕ) (d : Definition) (r : Result (Option Definition) E) → IsDefinition d → HasNames d → bytes ≡ definition_bytes d → IfOk r (λ d. d ≡ read_definition bytes) → IfOk r (λ read. read ≡ Some d)
definitions_only bytes d (Ok r) is names same e = e ∙ ap read_definition same ∙ definition_again d is names
definitions_only bytes d (Err why) is names same e = tt

-- ---- lengths

-- a name takes at most 65 bytes
name_short : (name : List ℕ) → IsTrue (is_word name) → length (name_bytes name) ≤ 65
unfolding name_bytes
name_short name word = omega (arith, length-append (number 1 (length name)) name, length-number 1 (length name), word_length name word)

type_length : (kind : ColumnType) → length (type_bytes kind) ≡ 5
type_length Int = omega (arith, length-append (number 1 0) (number 4 0), length-number 1 0, length-number 4 0)
type_length (Text limit) = omega (arith, length-append (number 1 1) (number 4 limit), length-number 1 1, length-number 4 limit)

columns_short : (columns : List Column) → AllByRecursion (λ column. IsTrue (is_word column.name)) columns → length (flat_map column_bytes columns) ≤ 70 * length columns
columns_short [] words = omega arith
columns_short (c ∷ columns) words =
    omega (arith, length-append (column_bytes c) (flat_map column_bytes columns), length-append (name_bytes c.name) (type_bytes c.kind), name_short c.name words.0, type_length c.kind, columns_short columns words.1)

keys_short : (keys : List Key) → AllByRecursion (λ key. IsTrue (is_word key.name)) keys → AllByRecursion (λ key. length key.columns < 256) keys → length (flat_map key_bytes keys) ≤ 321 * length keys
keys_short [] words few = omega arith
keys_short (k ∷ keys) words few =
    omega (
      arith,
      length-append (key_bytes k) (flat_map key_bytes keys),
      length-append (name_bytes k.name) (number 1 (length k.columns) ++ k.columns),
      length-append (number 1 (length k.columns)) k.columns,
      length-number 1 (length k.columns),
      name_short k.name words.0,
      few.0,
      keys_short keys words.1 few.1,
    )

-- A stored definition has at most 4814 bytes.
pub definition_short : (d : Definition) → IsDefinition d → HasNames d → length (definition_bytes d) ≤ 4814
definition_short d is names =
    let columns = columns_short d.columns names.columns in
    let keys = keys_short d.keys names.keys (keys_few d is) in
    let counts = counts_of d is in
    omega (
      arith,
      columns,
      keys,
      counts.columns,
      counts.keys,
      length-append (list_bytes column_bytes d.columns) (list_bytes key_bytes d.keys ++ number 4 d.max_rows),
      length-append (list_bytes key_bytes d.keys) (number 4 d.max_rows),
      length-append (number 1 (length d.columns)) (flat_map column_bytes d.columns),
      length-append (number 1 (length d.keys)) (flat_map key_bytes d.keys),
      length-number 1 (length d.columns),
      length-number 1 (length d.keys),
      length-number 4 d.max_rows,
    )

-- ---- what the call gives

pub names_of : (d : Definition) → All (λ column. IsTrue (is_word column.name)) d.columns → All (λ key. IsTrue (is_word key.name)) d.keys → HasNames d
names_of d columns keys = record {
  columns = recursion_from_All (λ column. IsTrue (is_word column.name)) d.columns columns;
  keys = recursion_from_All (λ key. IsTrue (is_word key.name)) d.keys keys;
}

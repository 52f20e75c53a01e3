-- Which definitions there are.
use Rattle.std.proofs.Common.{◌≡◌, ◌≢◌, ℕ, zero, suc, ◌+◌, ◌*◌, ◌<◌, ◌≤◌, true, false, ◌&&◌, nat_le, List, [], ◌∷◌, length, get_or, refl, sym, ap, ◌∙◌, subst, arith, inl, inr}
use Rattle.std.specs.List.{sum_by, list_all, AllByRecursion}
use Rattle.std.proofs.Math.Bool.{and-false}
use Rattle.std.proofs.lemmas.Bool.{cases_lt, lt-leb, le-leb, leb-true, and_parts}
use Rattle.std.proofs.lemmas.List.Sums.{sum_by-cons, sum_by-append}
use Rattle.aria_value.specs.declared.definition.ColumnType.{ColumnType}
use Rattle.aria_value.specs.declared.definition.ColumnType.TheVariants.{Int, Text}
use Rattle.aria_value.specs.declared.definition.Column.{Column}
use Rattle.aria_value.specs.declared.definition.Key.{Key}
use Rattle.aria_value.specs.declared.definition.Definition.{Definition}
use Rattle.aria_value.specs.Order.{key_columns}
use Rattle.aria_value.specs.Defined.{kind_at, longest_part, longest_parts, longest_entry, are_columns, is_type, are_keys, entries_fit, is_definition, IsDefinition}

-- ---- columns and keys by their numbers

pub kind_here : (columns : List Column) (n : ℕ) (c : Column) → n < length columns → c ≡ get_or columns n c → c.kind ≡ kind_at columns n
kind_here [] n c low is = absurd (omega arith)
kind_here (x ∷ columns) zero c low is = ap (λ (y : Column). y.kind) is
kind_here (x ∷ columns) (suc n) c low is = kind_here columns n c (omega arith) is

pub kind_past : (columns : List Column) (n : ℕ) → length columns ≤ n → Int ≡ kind_at columns n
kind_past [] n past = refl
kind_past (x ∷ columns) zero past = absurd (omega arith)
kind_past (x ∷ columns) (suc n) past = kind_past columns n (omega arith)

pub columns_here : (keys : List Key) (n : ℕ) (key : Key) → n < length keys → key ≡ get_or keys n key → key.columns ≡ key_columns keys n
columns_here [] n key low is = absurd (omega arith)
columns_here (x ∷ keys) zero key low is = ap (λ (y : Key). y.columns) is
columns_here (x ∷ keys) (suc n) key low is = columns_here keys n key (omega arith) is

pub columns_past : (keys : List Key) (n : ℕ) → length keys ≤ n → [] ≡ key_columns keys n
columns_past [] n past = refl
columns_past (x ∷ keys) zero past = absurd (omega arith)
columns_past (x ∷ keys) (suc n) past = columns_past keys n (omega arith)

-- ---- the longest entries

-- an entry has the parts of its key's columns, and behind those of another key than the first, the parts of the first
pub longest_first : (d : Definition) → longest_entry d 0 ≡ longest_parts d 0
longest_first d = refl

pub longest_other : (d : Definition) (key : ℕ) → key ≢ 0 → longest_entry d key ≡ longest_parts d key + longest_parts d 0
longest_other d zero other = absurd (other refl)
longest_other d (suc key) other = sum_by-append (λ c. longest_part (kind_at d.columns c)) (key_columns d.keys (suc key)) (key_columns d.keys 0)

-- an entry is no shorter than the parts of its key's columns
pub longest_within : (d : Definition) (key : ℕ) → longest_parts d key ≤ longest_entry d key
longest_within d zero = omega arith
longest_within d (suc key) = omega (arith, longest_other d (suc key) (λ e. absurd (omega arith)))

-- whether the longest entry fits, by the room behind its parts
pub entry_long : (d : Definition) (key : ℕ) → 1000 < longest_parts d key → false ≡ nat_le (longest_entry d key) 1000
entry_long d key long = sym (lt-leb (longest_entry d key) 1000 (omega (arith, longest_within d key)))

pub entry_first : (d : Definition) (key room : ℕ) → key ≡ 0 → room + longest_parts d key ≡ 1000 → true ≡ nat_le (longest_entry d key) 1000
entry_first d key room first fits =
    let same : longest_entry d key ≡ longest_parts d key = ap (longest_entry d) first ∙ sym (ap (longest_parts d) first) in
    sym (le-leb (longest_entry d key) 1000 (omega (arith, same)))

pub entry_other_long : (d : Definition) (key room : ℕ) → key ≢ 0 → room + longest_parts d key ≡ 1000 → room < longest_parts d 0 → false ≡ nat_le (longest_entry d key) 1000
entry_other_long d key room other fits long = sym (lt-leb (longest_entry d key) 1000 (omega (arith, longest_other d key other)))

pub entry_other : (d : Definition) (key room left : ℕ) → key ≢ 0 → room + longest_parts d key ≡ 1000 → left + longest_parts d 0 ≡ room → true ≡ nat_le (longest_entry d key) 1000
entry_other d key room left other fits more = sym (le-leb (longest_entry d key) 1000 (omega (arith, longest_other d key other)))

pub ruleset entry_rules = (entry_long, entry_first, entry_other_long, entry_other)

-- entries fit only if each does
pub entries_fail : (d : Definition) (key n : ℕ) → key < n → nat_le (longest_entry d key) 1000 ≡ false → entries_fit d n ≡ false
entries_fail d key zero low e = absurd (omega arith)
entries_fail d key (suc n) low e =
    elim (cases_lt key n) [
      | inl lt ↦ ap (λ b. b && nat_le (longest_entry d n) 1000) (entries_fail d key n lt e)
      | inr le ↦ let same : key ≡ n = omega arith in ap (λ b. entries_fit d n && b) (subst (λ k. nat_le (longest_entry d k) 1000 ≡ false) same e) ∙ and-false (entries_fit d n)
    ]

pub entries_more : (d : Definition) (n : ℕ) → entries_fit d n ≡ true → nat_le (longest_entry d n) 1000 ≡ true → entries_fit d (n + 1) ≡ true
entries_more d n before here =
    let next : n + 1 ≡ suc n = omega arith in
    ap (entries_fit d) next ∙ rw (before, here) refl

pub entry_at : (d : Definition) (key n : ℕ) → key < n → entries_fit d n ≡ true → longest_entry d key ≤ 1000
entry_at d key zero low e = absurd (omega arith)
entry_at d key (suc n) low e =
    let parts = and_parts (entries_fit d n) (nat_le (longest_entry d n) 1000) e in
    elim (cases_lt key n) [
      | inl lt ↦ entry_at d key n lt parts.0
      | inr le ↦ let same : n ≡ key = omega arith in subst (λ k. longest_entry d k ≤ 1000) same (leb-true _ _ parts.1)
    ]

-- ---- the number of a key's columns

type_long : (t : ColumnType) → is_type t ≡ true → 5 ≤ longest_part t
type_long Int e = omega arith
type_long (Text n) e =
    let low : 1 ≤ n = leb-true _ _ (and_parts (nat_le 1 n) (nat_le n 65535) e).0 in
    omega arith

kind_long : (columns : List Column) (n : ℕ) → list_all (λ c. is_type c.kind) columns ≡ true → 5 ≤ longest_part (kind_at columns n)
kind_long [] n e = omega arith
kind_long (c ∷ columns) zero e = type_long c.kind (and_parts (is_type c.kind) (list_all (λ c. is_type c.kind) columns) e).0
kind_long (c ∷ columns) (suc n) e = kind_long columns n (and_parts (is_type c.kind) (list_all (λ c. is_type c.kind) columns) e).1

parts_long : (columns : List Column) (cs : List ℕ) → list_all (λ c. is_type c.kind) columns ≡ true → 5 * length cs ≤ sum_by (λ c. longest_part (kind_at columns c)) cs
parts_long columns [] e = omega arith
parts_long columns (c ∷ cs) e = omega (arith, sum_by-cons (λ c. longest_part (kind_at columns c)) c cs, kind_long columns c e, parts_long columns cs e)

-- a key's columns are counted in a byte, since each takes five bytes or more of an entry
columns_few : (d : Definition) → IsDefinition d → (key : ℕ) → key < length d.keys → length (key_columns d.keys key) < 256
columns_few d is key low =
    omega (arith, parts_long d.columns (key_columns d.keys key) is.types, longest_within d key, entry_at d key (length d.keys) low is.entries)

abbrev pub AllKeysFew : List Key → Type 0
AllKeysFew keys = AllByRecursion (λ key. length key.columns < 256) keys

few_from : (keys : List Key) → ((n : ℕ) → n < length keys → length (key_columns keys n) < 256) → AllKeysFew keys
few_from [] few = tt
few_from (key ∷ keys) few = (few 0 (omega arith), few_from keys (λ n low. few (suc n) (omega arith)))

pub keys_few : (d : Definition) → IsDefinition d → AllKeysFew d.keys
keys_few d is = few_from d.keys (columns_few d is)

-- ---- all tests together

pub definition_is : (d : Definition) → is_definition d ≡ true → IsDefinition d
definition_is d e =
    let f = and_parts (nat_le 1 d.max_rows && nat_le d.max_rows 16777216 && are_columns d.columns && list_all (λ column. is_type column.kind) d.columns && are_keys d.columns d.keys) (entries_fit d (length d.keys)) e in
    let g = and_parts (nat_le 1 d.max_rows && nat_le d.max_rows 16777216 && are_columns d.columns && list_all (λ column. is_type column.kind) d.columns) (are_keys d.columns d.keys) f.0 in
    let h = and_parts (nat_le 1 d.max_rows && nat_le d.max_rows 16777216 && are_columns d.columns) (list_all (λ column. is_type column.kind) d.columns) g.0 in
    let i = and_parts (nat_le 1 d.max_rows && nat_le d.max_rows 16777216) (are_columns d.columns) h.0 in
    record { rows = i.0; columns = i.1; types = h.1; keys = g.1; entries = f.1 }

pub is_definition_of : (d : Definition) → IsDefinition d → is_definition d ≡ true
is_definition_of d is = rw (is.rows, is.columns, is.types, is.keys, is.entries) refl

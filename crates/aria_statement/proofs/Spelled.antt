-- What every statement has that a line spells.
use Rattle.std.proofs.Common.{◌≡◌, ℕ, ◌<◌, ◌≤◌, Bool, true, false, ◌&&◌, ◌==◌, not, nat_le, nat_lt, List, [], ◌∷◌, length, map, Option, Some, None, Result, Ok, Err, ℤ, refl, sym, ap, ◌∙◌, inl, inr, subst, leb, arith}
use Rattle.std.specs.Prelude.{codes, IfOk, IfSome}
use Rattle.std.specs.List.{list_all, list_any}
use Rattle.std.proofs.lemmas.Bool.{and_parts, le-leb, ltb-true}
use Rattle.std.proofs.lemmas.List.{length-map}
use Rattle.std.proofs.lemmas.List.Folds.{list_all-map}
use Rattle.aria_value.specs.declared.definition.Column.{Column}
use Rattle.aria_value.specs.declared.definition.Key.{Key}
use Rattle.aria_value.specs.declared.definition.Definition.{Definition}
use Rattle.aria_value.specs.Defined.{same_name, distinct, is_type, is_key, are_keys, are_columns, entries_fit, IsDefinition}
use Rattle.aria_model.specs.declared.refusal.Refusal.{Refusal}
use Rattle.aria_model.specs.declared.refusal.Refusal.TheVariants.{BadDefinition}
use Rattle.aria_model.specs.declared.refusal.Which.{Which}
use Rattle.aria_model.specs.declared.refusal.Which.TheVariants as which
use Rattle.aria_model.specs.declared.statement.Statement.{Statement}
use Rattle.aria_model.specs.declared.statement.Statement.TheVariants.{Create, Insert, Delete, Update, Select, Drop, Flush, Checkpoint}
use Rattle.aria_model.specs.Token.{Word, Number, Wide, Quoted, Sign, End, Stray, tokens, is_blank}
use Rattle.aria_model.specs.Grammar.{Tokens, name, keyword, the_end, items, column, another_column, row, another_row, key, another_key, sought, setting, behind_comma, table_kind, max_rows, TableKind, is_packed, is_plain, WrittenColumn, WrittenKey, is_spatial, is_fulltext, natural_of, type_of, keys_of, unless_bad, defined_with, defined, create, insert, delete, update, select, drop, flush, statement, read_line, IsSpelled}
use Rattle.aria_model.specs.declared.stopped.Stopped.{Stopped}
use Rattle.aria_statement.specs.Reading.{Reads}
use Rattle.aria_statement.specs.Defining.{column_of, tested}
use Rattle.aria_statement.proofs.Steps.{bind_ok, chosen, done, done_same}
use Rattle.aria_statement.proofs.Mapped.{distinct_of}

-- ---- definitions

-- a test that was passed
passed : {A : Type 0} (b : Bool) (why : Which) (rest : Result A Refusal) (x : A) → unless_bad b why rest ≡ Ok x → (b ≡ true) × (rest ≡ Ok x)
passed true why rest x e = (refl, e)
passed false why rest x e = absurd cc

-- A column of a key is one of the table, so there is one.
some_column : (columns : List Column) (numbers : List ℕ) → nat_le 1 (length numbers) ≡ true → list_all (λ c. nat_lt c (length columns)) numbers ≡ true → 1 ≤ length columns
some_column columns [] some within = absurd cc
some_column columns (c ∷ numbers) some within =
    let low : c < length columns = ltb-true _ _ (and_parts (nat_lt c (length columns)) (list_all (λ c. nat_lt c (length columns)) numbers) within).0 in
    omega arith

keyed_columns : (columns : List Column) (keys : List Key) → are_keys columns keys ≡ true → 1 ≤ length columns
keyed_columns columns [] e = absurd cc
keyed_columns columns (k ∷ keys) e =
    let all = (and_parts (nat_le 1 (length (k ∷ keys)) && nat_le (length (k ∷ keys)) 8 && distinct (λ a b. same_name a.name b.name) (k ∷ keys)) (list_all (is_key columns) (k ∷ keys)) e).1 in
    let first = (and_parts (is_key columns k) (list_all (is_key columns) keys) all).0 in
    let parts = and_parts (nat_le 1 (length k.columns) && list_all (λ c. nat_lt c (length columns)) k.columns) (distinct ◌==◌ k.columns) first in
    let both = and_parts (nat_le 1 (length k.columns)) (list_all (λ c. nat_lt c (length columns)) k.columns) parts.0 in
    some_column columns k.columns both.0 both.1

good_columns : (written : List WrittenColumn) → 1 ≤ length (map column_of written) → nat_le (length written) 32 && distinct (λ a b. same_name a.0 b.0) written ≡ true → are_columns (map column_of written) ≡ true
good_columns written some e =
    let parts = and_parts (nat_le (length written) 32) (distinct (λ a b. same_name a.0 b.0) written) e in
    let low : nat_le 1 (length (map column_of written)) ≡ true = le-leb 1 (length (map column_of written)) some in
    let few : nat_le (length (map column_of written)) 32 ≡ true = ap (λ n. nat_le n 32) (length-map written column_of) ∙ parts.0 in
    let other : distinct (λ a b. same_name a.name b.name) (map column_of written) ≡ true = sym (distinct_of (λ (a b : Column). same_name a.name b.name) column_of written) ∙ parts.1 in
    rw (low, few, other) refl

-- what is tested behind the columns
tested_spelled : (rows : ℕ) (written : List WrittenColumn) (found : List Key) (keys : List WrittenKey) (d : Definition)
    → nat_le 1 rows && nat_le rows 16777216 ≡ true → nat_le (length written) 32 && distinct (λ a b. same_name a.0 b.0) written ≡ true → list_all (λ c. is_type (type_of c.1)) written ≡ true
    → tested (record { columns = map column_of written; keys = found; max_rows = rows }) keys ≡ Ok d → IsDefinition d
tested_spelled rows written found keys d good_rows distinct_columns types e =
    let those : Definition = record { columns = map column_of written; keys = found; max_rows = rows } in
    let good = passed (are_keys those.columns those.keys) which.Keys _ d e in
    let spatial = passed (not (list_any (λ k. is_spatial k.special) keys)) which.Spatial _ d good.1 in
    let fulltext = passed (not (list_any (λ k. is_fulltext k.special) keys)) which.Fulltext _ d spatial.1 in
    let entries = passed (entries_fit those (length those.keys)) which.Entry _ d fulltext.1 in
    subst IsDefinition (done_same those d entries.1) (record {
      rows = good_rows;
      columns = good_columns written (keyed_columns those.columns those.keys good.0) distinct_columns;
      types = list_all-map (λ (c : Column). is_type c.kind) column_of written ∙ types;
      keys = good.0;
      entries = entries.0;
    })

-- the definition with these keys, if there are all
keyed : (kind : TableKind) (rows : ℤ) (columns : List WrittenColumn) (keys : List WrittenKey) (o : Option (List Key)) (d : Definition)
    → nat_le 1 (natural_of rows) && nat_le (natural_of rows) 16777216 ≡ true → nat_le (length columns) 32 && distinct (λ a b. same_name a.0 b.0) columns ≡ true → list_all (λ c. is_type (type_of c.1)) columns ≡ true
    → elim o as (λ o'. Result Definition Refusal) [ None ↦ Err (BadDefinition which.Keys) | Some found ↦ defined_with kind rows columns keys found ] ≡ Ok d → IsDefinition d
keyed kind rows columns keys None d good_rows good_columns types e = absurd cc
keyed kind rows columns keys (Some found) d good_rows good_columns types e = tested_spelled (natural_of rows) columns found keys d good_rows good_columns types e

defined_spelled : (kind : TableKind) (rows : ℤ) (columns : List WrittenColumn) (keys : List WrittenKey) (d : Definition) → defined kind rows columns keys ≡ Ok d → IsDefinition d
defined_spelled kind rows columns keys d e =
    let unpacked = passed (not (is_packed kind)) which.Packed _ d e in
    let limited = passed (nat_le 1 (natural_of rows) && nat_le (natural_of rows) 16777216) which.MaxRows _ d unpacked.1 in
    let few = passed (nat_le (length columns) 32 && distinct (λ a b. same_name a.0 b.0) columns) which.Columns _ d limited.1 in
    let typed = passed (list_all (λ c. is_type (type_of c.1)) columns) which.Kind _ d few.1 in
    keyed kind rows columns keys (keys_of columns keys) d limited.0 few.0 typed.0 typed.1

-- ---- statements

end_same : {A : Type 0} (x : A) (ts : Tokens) (y : A) → the_end x ts ≡ Ok y → x ≡ y
end_same x ts y e = grind arith

created : (table : List ℕ) (plain : Bool) (d : Definition) (s : Statement) → done (Create table plain d) ≡ done s → IsDefinition d → IsSpelled s
created table plain d s e has = subst IsSpelled (done_same (Create table plain d) s e) has

create_spelled : (ts : Tokens) (s : Statement) → create ts ≡ Ok s → IsSpelled s
create_spelled ts s e =
    let table = bind_ok (name ts) _ s e in
    let kind = bind_ok (table_kind table.0.1) _ s table.2 in
    let rows = bind_ok (max_rows kind.0.1) _ s kind.2 in
    let columns = bind_ok (items column another_column rows.0.1) _ s rows.2 in
    let word = bind_ok (keyword (codes "keys") columns.0.1) _ s columns.2 in
    let written = bind_ok (items key another_key word.0) _ s word.2 in
    let ended = bind_ok (the_end written.0.0 written.0.1) _ s written.2 in
    let definition = bind_ok (defined kind.0.0 rows.0.0 columns.0.0 ended.0) _ s ended.2 in
    created table.0.0 (is_plain kind.0.0) definition.0 s definition.2 (defined_spelled kind.0.0 rows.0.0 columns.0.0 ended.0 definition.0 definition.1)

insert_spelled : (ts : Tokens) (s : Statement) → insert ts ≡ Ok s → IsSpelled s
insert_spelled ts s e =
    let table = bind_ok (name ts) _ s e in
    let rows = bind_ok (items row another_row table.0.1) _ s table.2 in
    subst IsSpelled (end_same (Insert table.0.0 rows.0.0) rows.0.1 s rows.2) tt

delete_spelled : (ts : Tokens) (s : Statement) → delete ts ≡ Ok s → IsSpelled s
delete_spelled ts s e =
    let table = bind_ok (name ts) _ s e in
    let by = bind_ok (name table.0.1) _ s table.2 in
    let vs = bind_ok (sought by.0.1) _ s by.2 in
    subst IsSpelled (end_same (Delete table.0.0 by.0.0 vs.0.0) vs.0.1 s vs.2) tt

update_spelled : (ts : Tokens) (s : Statement) → update ts ≡ Ok s → IsSpelled s
update_spelled ts s e =
    let table = bind_ok (name ts) _ s e in
    let by = bind_ok (name table.0.1) _ s table.2 in
    let vs = bind_ok (sought by.0.1) _ s by.2 in
    let word = bind_ok (keyword (codes "set") vs.0.1) _ s vs.2 in
    let settings = bind_ok (items setting behind_comma word.0) _ s word.2 in
    subst IsSpelled (end_same (Update table.0.0 by.0.0 vs.0.0 settings.0.0) settings.0.1 s settings.2) tt

select_spelled : (ts : Tokens) (s : Statement) → select ts ≡ Ok s → IsSpelled s
select_spelled ts s e =
    let table = bind_ok (name ts) _ s e in
    let by = bind_ok (name table.0.1) _ s table.2 in
    let vs = bind_ok (sought by.0.1) _ s by.2 in
    subst IsSpelled (end_same (Select table.0.0 by.0.0 vs.0.0) vs.0.1 s vs.2) tt

drop_spelled : (ts : Tokens) (s : Statement) → drop ts ≡ Ok s → IsSpelled s
drop_spelled ts s e =
    let table = bind_ok (name ts) _ s e in
    subst IsSpelled (end_same (Drop table.0.0) table.0.1 s table.2) tt

flush_spelled : (ts : Tokens) (s : Statement) → flush ts ≡ Ok s → IsSpelled s
flush_spelled ts s e =
    let table = bind_ok (name ts) _ s e in
    subst IsSpelled (end_same (Flush table.0.0) table.0.1 s table.2) tt

-- a statement by its first word
word_spelled : (at : ℕ) (word : List ℕ) (ts : Tokens) (s : Statement) → statement ((at, Word word) ∷ ts) ≡ Ok s → IsSpelled s
word_spelled at word ts s e =
    elim (chosen (same_name word (codes "create")) _ _ _ e) [
      | inl (yes', is) ↦ create_spelled ts s is
      | inr (other, rest) ↦ elim (chosen (same_name word (codes "insert")) _ _ _ rest) [
        | inl (yes', is) ↦ insert_spelled ts s is
        | inr (other, rest) ↦ elim (chosen (same_name word (codes "delete")) _ _ _ rest) [
          | inl (yes', is) ↦ delete_spelled ts s is
          | inr (other, rest) ↦ elim (chosen (same_name word (codes "update")) _ _ _ rest) [
            | inl (yes', is) ↦ update_spelled ts s is
            | inr (other, rest) ↦ elim (chosen (same_name word (codes "select")) _ _ _ rest) [
              | inl (yes', is) ↦ select_spelled ts s is
              | inr (other, rest) ↦ elim (chosen (same_name word (codes "drop")) _ _ _ rest) [
                | inl (yes', is) ↦ drop_spelled ts s is
                | inr (other, rest) ↦ elim (chosen (same_name word (codes "flush")) _ _ _ rest) [
                  | inl (yes', is) ↦ flush_spelled ts s is
                  | inr (other, rest) ↦ elim (chosen (same_name word (codes "checkpoint")) _ _ _ rest) [
                    | inl (yes', is) ↦ subst IsSpelled (end_same Checkpoint ts s is) tt
                    | inr (other, rest) ↦ absurd cc
                  ]
                ]
              ]
            ]
          ]
        ]
      ]
    ]

statement_spelled : (ts : Tokens) (s : Statement) → statement ts ≡ Ok s → IsSpelled s
statement_spelled [] s e = absurd cc
statement_spelled ((at, Word word) ∷ ts) s e = word_spelled at word ts s e
statement_spelled ((at, Number n) ∷ ts) s e = absurd cc
statement_spelled ((at, Wide) ∷ ts) s e = absurd cc
statement_spelled ((at, Quoted bytes) ∷ ts) s e = absurd cc
statement_spelled ((at, Sign sign) ∷ ts) s e = absurd cc
statement_spelled ((at, End) ∷ ts) s e = absurd cc
statement_spelled ((at, Stray) ∷ ts) s e = absurd cc

line_spelled : (line : List ℕ) (o : Option Statement) → read_line line ≡ Ok o → IfSome o IsSpelled
unfolding read_line
line_spelled line o e =
    elim (chosen (not (leb (length line) 1048576)) _ _ _ e) [
      | inl (long, is) ↦ absurd cc
      | inr (short, rest) ↦ elim (chosen (list_all is_blank line) _ _ _ rest) [
        | inl (blank, is) ↦ subst (λ (f : Option Statement). IfSome f IsSpelled) (done_same None o is) tt
        | inr (some, is) ↦
            let b = bind_ok (statement (tokens line)) _ o is in
            subst (λ (f : Option Statement). IfSome f IsSpelled) (done_same (Some b.0) o b.2) (statement_spelled (tokens line) b.0 b.1)
      ]
    ]

-- What was read from a line is a statement that a line spells.
pub read_spelled : (line : List ℕ) (answer : Result (Option Statement) Stopped) → Reads answer (read_line line) → IfOk answer (λ found. IfSome found IsSpelled)
read_spelled line (Ok o) reads = line_spelled line o reads
read_spelled line (Err fault) reads = tt

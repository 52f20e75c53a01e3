-- Which statement a line spells, or its first refusal.
use Rattle.std.specs.Prelude.{ℕ, zero, suc, ◌^◌, ℤ, pos, negsuc, Bool, true, false, not, ◌&&◌, ◌==◌, nat_le, if◌then◌else◌, List, [], ◌∷◌, length, map, Option, Some, None, Result, Ok, Err, codes}
use Rattle.std.specs.List.{list_all, list_any}
use Rattle.aria_value.specs.declared.value.Value.{Value}
use Rattle.aria_value.specs.declared.value.Value.TheVariants as values
use Rattle.aria_value.specs.declared.definition.ColumnType.TheVariants as kinds
use Rattle.aria_value.specs.declared.definition.Definition.{Definition}
use Rattle.aria_value.specs.declared.definition.ColumnType.{ColumnType}
use Rattle.aria_value.specs.declared.definition.Key.{Key}
use Rattle.aria_value.specs.Named.{nth_named}
pub use Rattle.aria_value.specs.Named.{option_suc}
use Rattle.aria_value.specs.Defined.{same_name, distinct, is_type, are_keys, entries_fit, IsDefinition}
use Rattle.aria_model.specs.declared.refusal.Which.{Which}
use Rattle.aria_model.specs.declared.refusal.Which.TheVariants.{MaxRows, Columns, Kind, Keys, Entry}
use Rattle.aria_model.specs.declared.refusal.Which.TheVariants as which
use Rattle.aria_model.specs.declared.refusal.Refusal.{Refusal}
use Rattle.aria_model.specs.declared.refusal.Refusal.TheVariants.{BadStatement, LineTooLong, NumberTooWide, BadDefinition}
use Rattle.aria_model.specs.declared.statement.Setting.{Setting}
use Rattle.aria_model.specs.declared.statement.Statement.{Statement}
use Rattle.aria_model.specs.declared.statement.Statement.TheVariants.{Create, Insert, Delete, Update, Select, Drop, Flush, Checkpoint}
use Rattle.aria_model.specs.Token.{Token, Word, Number, Wide, Quoted, Sign, End, tokens, is_blank}

abbrev pub Tokens : Type 0
Tokens = List (ℕ × Token)

infixl 10 ◌>>=◌
abbrev pub ◌>>=◌ : {A B : Type 0} → Result A Refusal → (A → Result B Refusal) → Result B Refusal
(Ok x) >>= f = f x
(Err e) >>= f = Err e

-- The first of these tokens is the first with which the tokens so far begin no statement.
abbrev pub bad : {A : Type 0} → Tokens → Result A Refusal
bad [] = Err (BadStatement 0)
bad ((at, token) ∷ ts) = Err (BadStatement at)

-- Each of the following reads in front of the tokens, and gives what it read and the tokens behind it.

abbrev pub name : Tokens → Result (List ℕ × Tokens) Refusal
name ((at, Word word) ∷ ts) = Ok (word, ts)
name ts = bad ts

-- a word of the grammar
abbrev pub keyword : List ℕ → Tokens → Result Tokens Refusal
keyword expected ((at, Word word) ∷ ts) = if same_name word expected then Ok ts else Err (BadStatement at)
keyword expected ts = bad ts

abbrev pub sign : ℕ → Tokens → Result Tokens Refusal
sign expected ((at, Sign found) ∷ ts) = if found == expected then Ok ts else Err (BadStatement at)
sign expected ts = bad ts

-- a number, a text or null
abbrev pub value : Tokens → Result (Value × Tokens) Refusal
value ((at, Number n) ∷ ts) = Ok (values.Int n, ts)
value ((at, Wide) ∷ ts) = Err (NumberTooWide at)
value ((at, Quoted bytes) ∷ ts) = Ok (values.Text bytes, ts)
value ((at, Word word) ∷ ts) = if same_name word (codes "null") then Ok (values.Null, ts) else Err (BadStatement at)
value ts = bad ts

-- a number
abbrev pub number : Tokens → Result (ℤ × Tokens) Refusal
number ((at, Number n) ∷ ts) = Ok (n, ts)
number ((at, Wide) ∷ ts) = Err (NumberTooWide at)
number ts = bad ts

abbrev pub the_end : {A : Type 0} → A → Tokens → Result A Refusal
the_end x ((at, End) ∷ ts) = Ok x
the_end x ts = bad ts

-- One item, and then others, each as long as `another` finds one behind; each takes a token, so they are at most n.
abbrev pub items_within : {A : Type 0} → (Tokens → Result (A × Tokens) Refusal) → (Tokens → Option Tokens) → ℕ → Tokens → Result (List A × Tokens) Refusal
items_within item another zero ts = bad ts
items_within item another (suc n) ts = do
  first ← item ts
  elim (another first.1) [
    | None ↦ Ok (first.0 ∷ [], first.1)
    | Some rest ↦ do
      others ← items_within item another n rest
      Ok (first.0 ∷ others.0, others.1)
  ]

abbrev pub items : {A : Type 0} → (Tokens → Result (A × Tokens) Refusal) → (Tokens → Option Tokens) → Tokens → Result (List A × Tokens) Refusal
items item another ts = items_within item another (length ts) ts

-- the type of a column as it is written: int, or text of any number
pub data WrittenType : Type 0 where
  AnInt : WrittenType
  AText : ℤ → WrittenType

-- a column as it is written
abbrev pub WrittenColumn : Type 0
WrittenColumn = List ℕ × WrittenType

-- what a key may be besides
pub data Special : Type 0 where
  Plain : Special
  Spatial : Special
  Fulltext : Special

-- a key as it is written: its name, its columns' names and what it is besides
pub record WrittenKey : Type 0 where
  pub name : List ℕ
  pub columns : List (List ℕ)
  pub special : Special

-- the kind of a table
pub data TableKind : Type 0 where
  Trans : TableKind
  PlainTable : TableKind
  Packed : TableKind

-- ( N )
abbrev pub limit : Tokens → Result (ℤ × Tokens) Refusal
limit ts = do
  opened ← sign 40 ts
  n ← number opened
  closed ← sign 41 n.1
  Ok (n.0, closed)

-- int | text ( N )
abbrev pub written_type : Tokens → Result (WrittenType × Tokens) Refusal
written_type ((at, Word word) ∷ ts) =
    if same_name word (codes "int") then Ok (AnInt, ts) else
    if same_name word (codes "text") then (do
      n ← limit ts
      Ok (AText n.0, n.1))
    else Err (BadStatement at)
written_type ts = bad ts

-- NAME : TYPE
abbrev pub column : Tokens → Result (WrittenColumn × Tokens) Refusal
column ts = do
  n ← name ts
  colon ← sign 58 n.1
  kind ← written_type colon
  Ok ((n.0, kind.0), kind.1)

-- A word begins another column, but the word keys only where a colon is behind it.
abbrev pub another_column : Tokens → Option Tokens
another_column ((at, Word word) ∷ (behind, Sign found) ∷ ts) =
    if same_name word (codes "keys") && not (found == 58) then None else Some ((at, Word word) ∷ (behind, Sign found) ∷ ts)
another_column ((at, Word word) ∷ ts) = if same_name word (codes "keys") then None else Some ((at, Word word) ∷ ts)
another_column ts = None

-- a comma joins another item
abbrev pub behind_comma : Tokens → Option Tokens
behind_comma ((at, Sign found) ∷ ts) = if found == 44 then Some ts else None
behind_comma ts = None

-- a parenthesis begins another row
abbrev pub another_row : Tokens → Option Tokens
another_row ((at, Sign found) ∷ ts) = if found == 40 then Some ((at, Sign found) ∷ ts) else None
another_row ts = None

-- ( VALUE {, VALUE} )
abbrev pub row : Tokens → Result (List Value × Tokens) Refusal
row ts = do
  opened ← sign 40 ts
  read ← items value behind_comma opened
  closed ← sign 41 read.1
  Ok (read.0, closed)

-- a row, where a parenthesis begins one, and no values else
abbrev pub sought : Tokens → Result (List Value × Tokens) Refusal
sought ((at, Sign found) ∷ ts) = if found == 40 then row ((at, Sign found) ∷ ts) else Ok ([], (at, Sign found) ∷ ts)
sought ts = Ok ([], ts)

-- : spatial | : fulltext, or nothing
abbrev pub special_word : Tokens → Result (Special × Tokens) Refusal
special_word ((at, Word word) ∷ ts) =
    if same_name word (codes "spatial") then Ok (Spatial, ts) else
    if same_name word (codes "fulltext") then Ok (Fulltext, ts) else Err (BadStatement at)
special_word ts = bad ts

abbrev pub special : Tokens → Result (Special × Tokens) Refusal
special ((at, Sign found) ∷ ts) = if found == 58 then special_word ts else Ok (Plain, (at, Sign found) ∷ ts)
special ts = Ok (Plain, ts)

-- NAME ( NAME {, NAME} ) [: spatial | : fulltext]
abbrev pub key : Tokens → Result (WrittenKey × Tokens) Refusal
key ts = do
  n ← name ts
  opened ← sign 40 n.1
  columns ← items name behind_comma opened
  closed ← sign 41 columns.1
  kind ← special closed
  Ok (record { name = n.0; columns = columns.0; special = kind.0 }, kind.1)

-- a word begins another key
abbrev pub another_key : Tokens → Option Tokens
another_key ((at, Word word) ∷ ts) = Some ((at, Word word) ∷ ts)
another_key ts = None

abbrev pub table_kind : Tokens → Result (TableKind × Tokens) Refusal
table_kind ((at, Word word) ∷ ts) =
    if same_name word (codes "trans") then Ok (Trans, ts) else
    if same_name word (codes "plain") then Ok (PlainTable, ts) else
    if same_name word (codes "packed") then Ok (Packed, ts) else Err (BadStatement at)
table_kind ts = bad ts

-- max_rows = N, behind its word
abbrev pub row_limit : Tokens → Result (ℤ × Tokens) Refusal
row_limit ts = do
  equals ← sign 61 ts
  number equals

-- [max_rows = N]: the word max_rows begins it but where a colon is behind it
abbrev pub max_rows : Tokens → Result (ℤ × Tokens) Refusal
max_rows ((at, Word word) ∷ (behind, Sign found) ∷ ts) =
    if same_name word (codes "max_rows") && not (found == 58) then row_limit ((behind, Sign found) ∷ ts) else Ok (pos 16777216, (at, Word word) ∷ (behind, Sign found) ∷ ts)
max_rows ((at, Word word) ∷ ts) = if same_name word (codes "max_rows") then row_limit ts else Ok (pos 16777216, (at, Word word) ∷ ts)
max_rows ts = Ok (pos 16777216, ts)

-- the number of the column of a name
abbrev pub column_number : List WrittenColumn → List ℕ → Option ℕ
column_number columns wanted = nth_named (λ c. c.0) columns wanted

abbrev pub onto_numbers : Option ℕ → Option (List ℕ) → Option (List ℕ)
onto_numbers None ns = None
onto_numbers (Some n) None = None
onto_numbers (Some n) (Some ns) = Some (n ∷ ns)

-- the numbers of the columns of names, if there are all of them
abbrev pub column_numbers : List WrittenColumn → List (List ℕ) → Option (List ℕ)
column_numbers columns [] = Some []
column_numbers columns (n ∷ ns) = onto_numbers (column_number columns n) (column_numbers columns ns)

abbrev pub onto_keys : List ℕ → Option (List ℕ) → Option (List Key) → Option (List Key)
onto_keys name None keys = None
onto_keys name (Some columns) None = None
onto_keys name (Some columns) (Some keys) = Some (record { name = name; columns = columns } ∷ keys)

-- the keys, if all their columns are there
abbrev pub keys_of : List WrittenColumn → List WrittenKey → Option (List Key)
keys_of columns [] = Some []
keys_of columns (k ∷ ks) = onto_keys k.name (column_numbers columns k.columns) (keys_of columns ks)

-- a number from 0 on, and one past every limit for one below 0
abbrev pub natural_of : ℤ → ℕ
natural_of (pos n) = n
natural_of (negsuc n) = 2 ^ 64

abbrev pub type_of : WrittenType → ColumnType
type_of AnInt = kinds.Int
type_of (AText n) = kinds.Text (natural_of n)

abbrev pub is_spatial : Special → Bool
is_spatial Plain = false
is_spatial Spatial = true
is_spatial Fulltext = false

abbrev pub is_fulltext : Special → Bool
is_fulltext Plain = false
is_fulltext Spatial = false
is_fulltext Fulltext = true

abbrev pub is_packed : TableKind → Bool
is_packed Trans = false
is_packed PlainTable = false
is_packed Packed = true

abbrev pub is_plain : TableKind → Bool
is_plain Trans = false
is_plain PlainTable = true
is_plain Packed = false

-- refused for this unless the test holds
abbrev pub unless_bad : {A : Type 0} → Bool → Which → Result A Refusal → Result A Refusal
unless_bad true which rest = rest
unless_bad false which rest = Err (BadDefinition which)

-- the definition as it is written, with keys whose columns are there
abbrev pub defined_with : TableKind → ℤ → List WrittenColumn → List WrittenKey → List Key → Result Definition Refusal
defined_with kind rows columns written keys =
    let d : Definition = record { columns = map (λ c. record { name = c.0; kind = type_of c.1 }) columns; keys = keys; max_rows = natural_of rows } in
    unless_bad (are_keys d.columns d.keys) Keys
    (unless_bad (not (list_any (λ k. is_spatial k.special) written)) which.Spatial
    (unless_bad (not (list_any (λ k. is_fulltext k.special) written)) which.Fulltext
    (unless_bad (entries_fit d (length d.keys)) Entry (Ok d))))

-- The definition that is written, or what is the first to be wrong in it.
abbrev pub defined : TableKind → ℤ → List WrittenColumn → List WrittenKey → Result Definition Refusal
defined kind rows columns keys =
    unless_bad (not (is_packed kind)) which.Packed
    (unless_bad (nat_le 1 (natural_of rows) && nat_le (natural_of rows) 16777216) MaxRows
    (unless_bad (nat_le (length columns) 32 && distinct (λ a b. same_name a.0 b.0) columns) Columns
    (unless_bad (list_all (λ c. is_type (type_of c.1)) columns) Kind
    (elim (keys_of columns keys) [
      | None ↦ Err (BadDefinition Keys)
      | Some found ↦ defined_with kind rows columns keys found
    ]))))

-- create NAME KIND [max_rows = N] COLUMN .. keys KEY ..
abbrev pub create : Tokens → Result Statement Refusal
create ts = do
  table ← name ts
  kind ← table_kind table.1
  rows ← max_rows kind.1
  columns ← items column another_column rows.1
  word ← keyword (codes "keys") columns.1
  written ← items key another_key word
  ended ← the_end written.0 written.1
  definition ← defined kind.0 rows.0 columns.0 ended
  Ok (Create table.0 (is_plain kind.0) definition)

-- insert NAME ROW ..
abbrev pub insert : Tokens → Result Statement Refusal
insert ts = do
  table ← name ts
  rows ← items row another_row table.1
  the_end (Insert table.0 rows.0) rows.1

-- delete NAME KEYNAME [ROW]
abbrev pub delete : Tokens → Result Statement Refusal
delete ts = do
  table ← name ts
  by ← name table.1
  vs ← sought by.1
  the_end (Delete table.0 by.0 vs.0) vs.1

-- NAME = VALUE
abbrev pub setting : Tokens → Result (Setting × Tokens) Refusal
setting ts = do
  n ← name ts
  equals ← sign 61 n.1
  v ← value equals
  Ok (record { column = n.0; value = v.0 }, v.1)

-- update NAME KEYNAME [ROW] set NAME = VALUE {, NAME = VALUE}
abbrev pub update : Tokens → Result Statement Refusal
update ts = do
  table ← name ts
  by ← name table.1
  vs ← sought by.1
  word ← keyword (codes "set") vs.1
  settings ← items setting behind_comma word
  the_end (Update table.0 by.0 vs.0 settings.0) settings.1

-- select NAME KEYNAME [ROW]
abbrev pub select : Tokens → Result Statement Refusal
select ts = do
  table ← name ts
  by ← name table.1
  vs ← sought by.1
  the_end (Select table.0 by.0 vs.0) vs.1

-- drop NAME
abbrev pub drop : Tokens → Result Statement Refusal
drop ts = do
  table ← name ts
  the_end (Drop table.0) table.1

-- flush NAME
abbrev pub flush : Tokens → Result Statement Refusal
flush ts = do
  table ← name ts
  the_end (Flush table.0) table.1

abbrev pub statement : Tokens → Result Statement Refusal
statement ((at, Word word) ∷ ts) =
    if same_name word (codes "create") then create ts else
    if same_name word (codes "insert") then insert ts else
    if same_name word (codes "delete") then delete ts else
    if same_name word (codes "update") then update ts else
    if same_name word (codes "select") then select ts else
    if same_name word (codes "drop") then drop ts else
    if same_name word (codes "flush") then flush ts else
    if same_name word (codes "checkpoint") then the_end Checkpoint ts else Err (BadStatement at)
statement ts = bad ts

-- a line of at most 1048576 bytes, all of them blanks
abbrev pub is_blank_line : List ℕ → Bool
is_blank_line line = nat_le (length line) 1048576 && list_all is_blank line

-- what a line spells: nothing where it is blank
unfoldable pub read_line : List ℕ → Result (Option Statement) Refusal
read_line line =
    if not (nat_le (length line) 1048576) then Err LineTooLong else
    if list_all is_blank line then Ok None else do
      spelled ← statement (tokens line)
      Ok (Some spelled)

-- what every statement has that a line spells: a table's definition is one that a table may have
abbrev pub IsSpelled : Statement → Type 0
IsSpelled (Create table plain definition) = IsDefinition definition
IsSpelled statement = Unit {0}

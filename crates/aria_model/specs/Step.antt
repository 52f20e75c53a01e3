-- What a statement does to the tables, and what it answers.
use Rattle.std.specs.Prelude.{ℕ, zero, suc, ◌+◌, Bool, true, false, not, ◌==◌, nat_lt, nat_le, if◌then◌else◌, List, [], ◌∷◌, length, filter, Option, Some, None, Result, Ok, Err}
use Rattle.std.specs.List.{list_any}
use Rattle.std.specs.Ordering.{is_eq}
use Rattle.aria_value.specs.declared.value.Value.{Value}
use Rattle.aria_value.specs.declared.definition.Column.{Column}
use Rattle.aria_value.specs.declared.definition.Key.{Key}
use Rattle.aria_value.specs.declared.definition.Definition.{Definition}
use Rattle.aria_value.specs.Named.{same_name, nth_named}
pub use Rattle.aria_value.specs.Named.{option_suc}
use Rattle.aria_value.specs.Defined.{kind_at}
use Rattle.aria_value.specs.Order.{key_columns, key_cmp, put, sorted, has_values}
use Rattle.aria_value.specs.Rows.{may_hold}
use Rattle.aria_value.specs.Entry.{has_type}
use Rattle.aria_value.specs.Stored.{row_length}
use Rattle.aria_model.specs.declared.refusal.Refusal.{Refusal}
use Rattle.aria_model.specs.declared.refusal.Refusal.TheVariants.{LogSpent, TableFull, TableCrashed, Duplicate, RowTooLong, BadValue, RowsFull, NoTable, TableExists, NoKey, TooManyRows, NoColumn, NotBuilt}
use Rattle.aria_model.specs.declared.refusal.Exception.{Exception}
use Rattle.aria_model.specs.declared.refusal.Exception.TheVariants.{Spent, Full}
use Rattle.aria_model.specs.declared.reply.Reply.{Reply}
use Rattle.aria_model.specs.declared.reply.Reply.TheVariants.{Done, Count, No}
use Rattle.aria_model.specs.declared.statement.Setting.{Setting}
use Rattle.aria_model.specs.declared.statement.Statement.{Statement}
use Rattle.aria_model.specs.declared.statement.Statement.TheVariants.{Create, Insert, Delete, Update, Select, Drop, Flush, Checkpoint}
use Rattle.aria_model.specs.World.{World, Table, Content, Sound, Crashed, with_table}
use Rattle.aria_model.specs.Grammar.{read_line}

-- the tables after a statement, the rows that it tells and its reply
pub record Outcome : Type 0 where
  pub world : World
  pub rows : List (List Value)
  pub reply : Reply

-- nothing changed
abbrev pub refused : World → Refusal → Outcome
refused world why = record { world = world; rows = []; reply = No why }

-- the first refusal of a list of tests, in their order
abbrev pub first_of : List (Option Refusal) → Option Refusal
first_of [] = None
first_of (Some why ∷ tests) = Some why
first_of (None ∷ tests) = first_of tests

-- refused where a test fails
abbrev pub refused_where : Bool → Refusal → Option Refusal
refused_where true why = Some why
refused_where false why = None

-- the outcome, unless there is a refusal
abbrev pub unless : Option Refusal → World → Outcome → Outcome
unless None world outcome = outcome
unless (Some why) world outcome = refused world why

-- The log has no room for a statement that changes transactional tables.
abbrev pub spent : Option Exception → Option Refusal
spent None = None
spent (Some (Spent file)) = Some (LogSpent file)
spent (Some (Full row pages)) = None

-- A file of the table has no room for the row of this number.
abbrev pub full_at : Option Exception → ℕ → Option Refusal
full_at None nth = None
full_at (Some (Spent file)) nth = None
full_at (Some (Full row pages)) nth = refused_where (row == nth) (TableFull pages)

abbrev pub is_taken : Option Table → Bool
is_taken None = false
is_taken (Some table) = true

-- A new table without rows. One that isn't logged isn't built yet.
abbrev pub create : World → List ℕ → Bool → Definition → Option Exception → Outcome
create world name plain definition exception =
    unless (first_of (refused_where (is_taken (world name)) (TableExists name) ∷ refused_where plain NotBuilt ∷ spent exception ∷ [])) world
    (record { world = with_table world name (Some (record { definition = definition; plain = plain; content = Sound [] })); rows = []; reply = Done })

-- From column nth on: the first column that may not hold its value or has none, and the last one where values are left.
abbrev pub bad_column : List ℕ → ℕ → List ℕ → List Column → List Value → Option (List ℕ)
bad_column keyed nth last [] [] = None
bad_column keyed nth last [] (v ∷ vs) = Some last
bad_column keyed nth last (c ∷ cs) [] = Some c.name
bad_column keyed nth last (c ∷ cs) (v ∷ vs) =
    if may_hold (list_any (λ k. k == nth) keyed) c.kind v then bad_column keyed (nth + 1) c.name cs vs else Some c.name

abbrev pub bad_value : Option (List ℕ) → Option Refusal
bad_value None = None
bad_value (Some column) = Some (BadValue column)

abbrev pub first_key_name : List Key → List ℕ
first_key_name [] = []
first_key_name (key ∷ keys) = key.name

-- the refusals of a row, the nth that the statement puts, in their order
abbrev pub row_refusal : Definition → Option Exception → ℕ → List (List Value) → List Value → Option Refusal
row_refusal d exception nth rows row = first_of (
    bad_value (bad_column (key_columns d.keys 0) 0 [] d.columns row)
    ∷ refused_where (nat_lt 65536 (row_length row)) RowTooLong
    ∷ refused_where (list_any (λ other. is_eq (key_cmp d 0 other row)) rows) (Duplicate (first_key_name d.keys))
    ∷ refused_where (nat_le d.max_rows (length rows)) RowsFull
    ∷ full_at exception nth
    ∷ [])

-- rows put one after another, up to the first that is refused
pub record Puts : Type 0 where
  pub rows : List (List Value)
  pub refusal : Option Refusal

abbrev pub put_all : Definition → Option Exception → ℕ → List (List Value) → List (List Value) → Puts
put_all d exception nth rows [] = record { rows = rows; refusal = None }
put_all d exception nth rows (row ∷ more) = elim (row_refusal d exception nth rows row) [
  | Some why ↦ record { rows = rows; refusal = Some why }
  | None ↦ put_all d exception (nth + 1) (put (key_cmp d 0) row rows) more
]

abbrev pub with_rows : World → List ℕ → Table → List (List Value) → World
with_rows world name table rows = with_table world name (Some (record table { content = Sound rows }))

-- A refused statement leaves a transactional table as it was, and in a plain one what was put before.
abbrev pub inserted : World → List ℕ → Table → ℕ → Puts → Outcome
inserted world name table count puts = elim puts.refusal [
  | None ↦ record { world = with_rows world name table puts.rows; rows = []; reply = Count count }
  | Some why ↦ if table.plain then record { world = with_rows world name table puts.rows; rows = []; reply = No why } else refused world why
]

abbrev pub insert_into : World → List ℕ → Table → Content → List (List Value) → Option Exception → Outcome
insert_into world name table Crashed rows exception = refused world (TableCrashed name)
insert_into world name table (Sound old) rows exception =
    unless (first_of (refused_where (nat_lt 65536 (length rows)) TooManyRows ∷ (if table.plain then None else spent exception) ∷ [])) world
    (inserted world name table (length rows) (put_all table.definition exception 1 old rows))

abbrev pub insert : World → List ℕ → List (List Value) → Option Exception → Outcome
insert world name rows exception = elim (world name) [
  | None ↦ refused world (NoTable name)
  | Some table ↦ insert_into world name table table.content rows exception
]

-- the number of the key of a name
abbrev pub key_number : List Key → List ℕ → Option ℕ
key_number keys wanted = nth_named (λ key. key.name) keys wanted

-- The log has no room for a change of this table.
abbrev pub spent_for : Table → Option Exception → Option Refusal
spent_for table exception = if table.plain then None else spent exception

-- the name of a column
abbrev pub name_at : List Column → ℕ → List ℕ
name_at [] n = []
name_at (c ∷ cs) zero = c.name
name_at (c ∷ cs) (suc n) = name_at cs n

-- The first of a key's columns that may not be sought by its value, and the last one where values are left.
abbrev pub bad_sought : List Column → List ℕ → List ℕ → List Value → Option (List ℕ)
bad_sought columns last key [] = None
bad_sought columns last [] (v ∷ vs) = Some last
bad_sought columns last (c ∷ cs) (v ∷ vs) =
    if has_type (kind_at columns c) v then bad_sought columns (name_at columns c) cs vs else Some (name_at columns c)

-- the rows that a statement concerns, in the key's order
abbrev pub concerned : Definition → ℕ → List Value → List (List Value) → List (List Value)
concerned d key sought rows = sorted (key_cmp d key) (filter (has_values (key_columns d.keys key) sought) rows)

-- the rows that it doesn't
abbrev pub others : Definition → ℕ → List Value → List (List Value) → List (List Value)
others d key sought rows = filter (λ row. not (has_values (key_columns d.keys key) sought row)) rows

-- What a statement does to the rows of a sound table by a key, unless it is refused before that: there is no such key,
-- the test on its columns fails, a value may not be sought, or a further test fails.
abbrev pub by_key : World → Definition → List ℕ → List Value → Option Refusal → (ℕ → Option Refusal) → (ℕ → Outcome) → Outcome
by_key world d key sought columns later does = elim (key_number d.keys key) [
  | None ↦ refused world (NoKey key)
  | Some number ↦ unless (first_of (columns ∷ bad_value (bad_sought d.columns [] (key_columns d.keys number) sought) ∷ later number ∷ [])) world (does number)
]

abbrev pub with_content : World → List ℕ → Content → (List (List Value) → Outcome) → Outcome
with_content world name Crashed does = refused world (TableCrashed name)
with_content world name (Sound rows) does = does rows

abbrev pub on_table : World → List ℕ → (Table → Outcome) → Outcome
on_table world name does = elim (world name) [
  | None ↦ refused world (NoTable name)
  | Some table ↦ does table
]

-- the statement concerns more rows than one may
abbrev pub too_many : List (List Value) → Option Refusal
too_many rows = refused_where (nat_lt 65536 (length rows)) TooManyRows

-- all rows that have these values, in the key's order
abbrev pub select : World → List ℕ → List ℕ → List Value → Outcome
select world name key sought = on_table world name (λ table. with_content world name table.content (λ rows.
    by_key world table.definition key sought None (λ number. None) (λ number.
    let found = concerned table.definition number sought rows in record { world = world; rows = found; reply = Count (length found) })))

-- the rows that have these values are taken out
abbrev pub delete : World → List ℕ → List ℕ → List Value → Option Exception → Outcome
delete world name key sought exception = on_table world name (λ table. with_content world name table.content (λ rows.
    by_key world table.definition key sought None
    (λ number. first_of (too_many (concerned table.definition number sought rows) ∷ spent_for table exception ∷ []))
    (λ number. record {
      world = with_rows world name table (others table.definition number sought rows);
      rows = [];
      reply = Count (length (concerned table.definition number sought rows));
    })))

-- the first of the columns set that the table hasn't
abbrev pub unknown_column : List Column → List Setting → Option Refusal
unknown_column columns [] = None
unknown_column columns (setting ∷ settings) =
    if list_any (λ c. same_name c.name setting.column) columns then unknown_column columns settings else Some (NoColumn setting.column)

-- From column nth on: the column of a name may hold a value.
abbrev pub may_set : List ℕ → ℕ → List Column → List ℕ → Value → Bool
may_set keyed nth [] name v = true
may_set keyed nth (c ∷ cs) name v =
    if same_name c.name name then may_hold (list_any (λ k. k == nth) keyed) c.kind v else may_set keyed (nth + 1) cs name v

-- the first of the columns set that may not hold its value
abbrev pub bad_setting : Definition → List Setting → Option (List ℕ)
bad_setting d [] = None
bad_setting d (setting ∷ settings) =
    if may_set (key_columns d.keys 0) 0 d.columns setting.column setting.value then bad_setting d settings else Some setting.column

-- a row with one column set
abbrev pub set_one : List Column → List ℕ → Value → List Value → List Value
set_one [] name v row = row
set_one (c ∷ cs) name v [] = []
set_one (c ∷ cs) name v (old ∷ row) = if same_name c.name name then v ∷ row else old ∷ set_one cs name v row

-- a row with the settings made, one after another
abbrev pub set_row : List Column → List Setting → List Value → List Value
set_row columns [] row = row
set_row columns (setting ∷ settings) row = set_row columns settings (set_one columns setting.column setting.value row)

-- the refusals of a row that is set, the nth, beside the other rows as they are then
abbrev pub set_refusal : Definition → Option Exception → ℕ → List (List Value) → List Value → Option Refusal
set_refusal d exception nth rows row = first_of (
    refused_where (nat_lt 65536 (row_length row)) RowTooLong
    ∷ refused_where (list_any (λ other. is_eq (key_cmp d 0 other row)) rows) (Duplicate (first_key_name d.keys))
    ∷ full_at exception nth
    ∷ [])

-- rows set one after another, up to the first that is refused
abbrev pub set_all : Definition → List Setting → Option Exception → ℕ → List (List Value) → List (List Value) → Puts
set_all d settings exception nth rows [] = record { rows = rows; refusal = None }
set_all d settings exception nth rows (old ∷ more) =
    let row = set_row d.columns settings old in
    let beside = filter (λ other. not (is_eq (key_cmp d 0 other old))) rows in
    elim (set_refusal d exception nth beside row) [
      | Some why ↦ record { rows = rows; refusal = Some why }
      | None ↦ set_all d settings exception (nth + 1) (put (key_cmp d 0) row beside) more
    ]

-- the rows that have these values are set, in the key's order
abbrev pub update : World → List ℕ → List ℕ → List Value → List Setting → Option Exception → Outcome
update world name key sought settings exception = on_table world name (λ table. with_content world name table.content (λ rows.
    by_key world table.definition key sought (unknown_column table.definition.columns settings)
    (λ number. first_of (bad_value (bad_setting table.definition settings) ∷ too_many (concerned table.definition number sought rows) ∷ spent_for table exception ∷ []))
    (λ number. inserted world name table (length (concerned table.definition number sought rows))
    (set_all table.definition settings exception 1 rows (concerned table.definition number sought rows)))))

-- the table is removed, crashed or not
abbrev pub drop : World → List ℕ → Option Exception → Outcome
drop world name exception = on_table world name (λ table.
    unless (spent exception) world (record { world = with_table world name None; rows = []; reply = Done }))

-- A table that isn't logged is brought to the disk; one that is, is there already.
abbrev pub flush : World → List ℕ → Outcome
flush world name = on_table world name (λ table. with_content world name table.content (λ rows. record { world = world; rows = []; reply = Done }))

abbrev pub checkpoint : World → Option Exception → Outcome
checkpoint world exception = unless (spent exception) world (record { world = world; rows = []; reply = Done })

-- a statement by its meaning in the whole language
abbrev pub perform : World → Statement → Option Exception → Outcome
perform world (Create name plain definition) exception = create world name plain definition exception
perform world (Insert name rows) exception = insert world name rows exception
perform world (Delete name key sought) exception = delete world name key sought exception
perform world (Update name key sought settings) exception = update world name key sought settings exception
perform world (Select name key sought) exception = select world name key sought
perform world (Drop name) exception = drop world name exception
perform world (Flush name) exception = flush world name
perform world Checkpoint exception = checkpoint world exception

-- what is answered to what was read of a line; a blank line does and tells nothing
abbrev pub answered : World → Result (Option Statement) Refusal → Option Exception → Outcome
answered world (Ok None) exception = record { world = world; rows = []; reply = Done }
answered world (Ok (Some statement)) exception = perform world statement exception
answered world (Err why) exception = refused world why

-- the step of a line that isn't blank, with the exception that it met
abbrev pub step : World → List ℕ → Option Exception → Outcome
step world line exception = answered world (read_line line) exception

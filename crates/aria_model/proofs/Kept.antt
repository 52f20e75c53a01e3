-- Statements that leave the tables as they were.
use Rattle.std.proofs.Common.{◌≡◌, ℕ, zero, suc, ◌+◌, Bool, true, false, not, ◌==◌, nat_lt, List, [], ◌∷◌, ◌++◌, length, filter, Option, Some, None, refl, sym, ap, ◌∙◌, arith, ne_eqb}
use Rattle.std.specs.Prelude.{cond}
use Rattle.std.specs.declared.cmp.Ordering.{Ordering}
use Rattle.std.specs.Ordering.{is_lt, is_gt}
use Rattle.std.proofs.lemmas.List.{length-append}
use Rattle.aria_value.specs.declared.value.Value.{Value}
use Rattle.aria_value.specs.declared.definition.Definition.{Definition}
use Rattle.aria_value.specs.Order.{key_columns, key_cmp, sorted, has_values}
use Rattle.aria_model.specs.declared.refusal.Refusal.{Refusal}
use Rattle.aria_model.specs.declared.refusal.Refusal.TheVariants.{TableExists, NoTable, NoKey, TooManyRows, NotBuilt}
use Rattle.aria_model.specs.declared.refusal.Exception.{Exception}
use Rattle.aria_model.specs.declared.reply.Reply.{Reply}
use Rattle.aria_model.specs.declared.reply.Reply.TheVariants.{Done, Count, No}
use Rattle.aria_model.specs.declared.statement.Setting.{Setting}
use Rattle.aria_model.specs.declared.statement.Statement.{Statement}
use Rattle.aria_model.specs.declared.statement.Statement.TheVariants.{Create, Insert, Delete, Update, Select, Drop, Flush, Checkpoint}
use Rattle.aria_model.specs.World.{World, Table, Content, Sound, Crashed, with_table}
use Rattle.aria_model.specs.Step.{Outcome, refused, first_of, refused_where, unless, spent, is_taken, bad_value, create, put_all, with_rows, inserted, insert_into, insert, key_number, bad_sought, concerned, others, by_key, with_content, on_table, delete, unknown_column, set_all, update, drop, perform}
use Rattle.aria_model.specs.Script.{is_refused}
use Rattle.aria_model.specs.Journal.{concerns_some, changes}
use Rattle.aria_model.proofs.Worlds.{with_rows-same}

-- a table is there, and is a plain one
abbrev pub is_plain : Option Table → Bool
is_plain None = false
is_plain (Some table) = table.plain

-- the world has no plain tables
abbrev pub HasNoPlain : World → Type 0
HasNoPlain world = (name : List ℕ) → is_plain (world name) ≡ false

-- ---- replies

-- A refusal is no change.
pub changes-refused : (s : Statement) (reply : Reply) → is_refused reply ≡ true → changes s reply ≡ false
changes-refused (Create name plain d) reply is = ap not is
changes-refused (Insert name rows) reply is = ap not is
changes-refused (Delete name key sought) (No why) is = refl
changes-refused (Delete name key sought) Done is = refl
changes-refused (Delete name key sought) (Count n) is = absurd (cc)
changes-refused (Update name key sought set) (No why) is = refl
changes-refused (Update name key sought set) Done is = refl
changes-refused (Update name key sought set) (Count n) is = absurd (cc)
changes-refused (Select name key sought) reply is = refl
changes-refused (Drop name) reply is = ap not is
changes-refused (Flush name) reply is = refl
changes-refused Checkpoint reply is = refl

some_accepted : (reply : Reply) → concerns_some reply ≡ true → not (is_refused reply) ≡ true
some_accepted Done is = refl
some_accepted (Count n) is = refl
some_accepted (No why) is = absurd (cc)

-- A change was accepted.
pub changes-accepted : (s : Statement) (reply : Reply) → changes s reply ≡ true → not (is_refused reply) ≡ true
changes-accepted (Create name plain d) reply is = is
changes-accepted (Insert name rows) reply is = is
changes-accepted (Delete name key sought) reply is = some_accepted reply is
changes-accepted (Update name key sought set) reply is = some_accepted reply is
changes-accepted (Select name key sought) reply is = absurd (cc)
changes-accepted (Drop name) reply is = is
changes-accepted (Flush name) reply is = absurd (cc)
changes-accepted Checkpoint reply is = absurd (cc)

-- ---- outcomes

-- the reply is no refusal
abbrev accepts : Reply → Bool
accepts reply = not (is_refused reply)

-- where the reply is none of a change, this is left
abbrev Keeps : (Reply → Bool) → World → Outcome → Type 0
Keeps change world outcome = change outcome.reply ≡ false → outcome.world ≡ world

unless_keeps : (change : Reply → Bool) (refusal : Option Refusal) (world : World) (outcome : Outcome) → Keeps change world outcome → Keeps change world (unless refusal world outcome)
unless_keeps change None world outcome keeps = keeps
unless_keeps change (Some why) world outcome keeps = λ _. refl

-- what is done at what a name has
abbrev pub on_found : World → List ℕ → (Table → Outcome) → Option Table → Outcome
on_found world name does found = elim found [
  | None ↦ refused world (NoTable name)
  | Some table ↦ does table
]

on_found_keeps : (change : Reply → Bool) (world : World) (name : List ℕ) (does : Table → Outcome) (found : Option Table) → world name ≡ found
    → ((table : Table) → world name ≡ Some table → Keeps change world (does table)) → Keeps change world (on_found world name does found)
on_found_keeps change world name does None is each = λ _. refl
on_found_keeps change world name does (Some table) is each = each table is

on_table_keeps : (change : Reply → Bool) (world : World) (name : List ℕ) (does : Table → Outcome)
    → ((table : Table) → world name ≡ Some table → Keeps change world (does table)) → Keeps change world (on_table world name does)
on_table_keeps change world name does each = on_found_keeps change world name does (world name) refl each

with_content_keeps : (change : Reply → Bool) (world : World) (name : List ℕ) (content : Content) (does : List (List Value) → Outcome)
    → ((rows : List (List Value)) → content ≡ Sound rows → Keeps change world (does rows)) → Keeps change world (with_content world name content does)
with_content_keeps change world name Crashed does each = λ _. refl
with_content_keeps change world name (Sound rows) does each = each rows refl

-- what is done by a key of this number, or by none
abbrev pub by_number : World → Definition → List ℕ → List Value → Option Refusal → (ℕ → Option Refusal) → (ℕ → Outcome) → Option ℕ → Outcome
by_number world d key sought columns later does found = elim found [
  | None ↦ refused world (NoKey key)
  | Some number ↦ unless (first_of (columns ∷ bad_value (bad_sought d.columns [] (key_columns d.keys number) sought) ∷ later number ∷ [])) world (does number)
]

by_number_keeps : (change : Reply → Bool) (world : World) (d : Definition) (key : List ℕ) (sought : List Value) (columns : Option Refusal) (later : ℕ → Option Refusal) (does : ℕ → Outcome) (found : Option ℕ)
    → ((number : ℕ) → Keeps change world (does number)) → Keeps change world (by_number world d key sought columns later does found)
by_number_keeps change world d key sought columns later does None each = λ _. refl
by_number_keeps change world d key sought columns later does (Some number) each =
    unless_keeps change (first_of (columns ∷ bad_value (bad_sought d.columns [] (key_columns d.keys number) sought) ∷ later number ∷ [])) world (does number) (each number)

by_key_keeps : (change : Reply → Bool) (world : World) (d : Definition) (key : List ℕ) (sought : List Value) (columns : Option Refusal) (later : ℕ → Option Refusal) (does : ℕ → Outcome)
    → ((number : ℕ) → Keeps change world (does number)) → Keeps change world (by_key world d key sought columns later does)
by_key_keeps change world d key sought columns later does each = by_number_keeps change world d key sought columns later does (key_number d.keys key) each

-- ---- rows that aren't concerned

none_counted : (n : ℕ) → not (n == 0) ≡ false → n ≡ 0
none_counted zero is = refl
none_counted (suc n) is = let other : (suc n == 0) ≡ false = ne_eqb (suc n) 0 (λ e. omega arith) in absurd (cc)

none_sorted : (cmp : List Value → List Value → Ordering) (rows : List (List Value)) → length (sorted cmp rows) ≡ 0 → rows ≡ []
none_sorted cmp [] none = refl
none_sorted cmp (row ∷ rows) none =
    let below = filter (λ r. is_lt (cmp r row)) (sorted cmp rows) in
    let above = filter (λ r. is_gt (cmp r row)) (sorted cmp rows) in
    let all : length (below ++ row ∷ above) ≡ length below + length (row ∷ above) = length-append below (row ∷ above) in
    absurd (omega arith)

-- a row that passes a test or not, before rows of which none passes
passing : (p : List Value → Bool) (row : List Value) (rows : List (List Value)) (here : Bool) → p row ≡ here → (filter p rows ≡ [] → filter (λ r. not (p r)) rows ≡ rows)
    → cond here (row ∷ filter p rows) (filter p rows) ≡ [] → cond (not here) (row ∷ filter (λ r. not (p r)) rows) (filter (λ r. not (p r)) rows) ≡ row ∷ rows
passing p row rows true is more none = absurd (cc)
passing p row rows false is more none = ap (λ (rs : List (List Value)). row ∷ rs) (more none)

-- where none passes a test, all pass its opposite
all_others : (p : List Value → Bool) (rows : List (List Value)) → filter p rows ≡ [] → filter (λ r. not (p r)) rows ≡ rows
all_others p [] none = refl
all_others p (row ∷ rows) none = passing p row rows (p row) refl (all_others p rows) none

-- Where no row is concerned, the others are all rows.
pub others-all : (d : Definition) (number : ℕ) (sought : List Value) (rows : List (List Value)) → length (concerned d number sought rows) ≡ 0 → others d number sought rows ≡ rows
others-all d number sought rows none =
    all_others (has_values (key_columns d.keys number) sought) rows
    (none_sorted (key_cmp d number) (filter (has_values (key_columns d.keys number) sought) rows) none)

-- ---- each kind of statement

create_keeps : (world : World) (name : List ℕ) (plain : Bool) (d : Definition) (exception : Option Exception) → Keeps accepts world (create world name plain d exception)
create_keeps world name plain d exception =
    unless_keeps accepts (first_of (refused_where (is_taken (world name)) (TableExists name) ∷ refused_where plain NotBuilt ∷ spent exception ∷ [])) world
    (record { world = with_table world name (Some (record { definition = d; plain = plain; content = Sound [] })); rows = []; reply = Done }) (λ h. absurd (cc))

-- rows that were put or refused, where accepted ones count as a change
inserted_keeps : (change : Reply → Bool) (world : World) (name : List ℕ) (table : Table) (count : ℕ) (rows : List (List Value)) (refusal : Option Refusal) → table.plain ≡ false
    → change (Count count) ≡ true → Keeps change world (inserted world name table count (record { rows = rows; refusal = refusal }))
inserted_keeps change world name table count rows None plain counts = λ h. absurd (cc)
inserted_keeps change world name table count rows (Some why) plain counts = rw plain (λ _. refl)

insert_into_keeps : (world : World) (name : List ℕ) (table : Table) (content : Content) (rows : List (List Value)) (exception : Option Exception) → table.plain ≡ false
    → Keeps accepts world (insert_into world name table content rows exception)
insert_into_keeps world name table Crashed rows exception plain = λ _. refl
insert_into_keeps world name table (Sound old) rows exception plain =
    let puts = put_all table.definition exception 1 old rows in
    unless_keeps accepts (first_of (refused_where (nat_lt 65536 (length rows)) TooManyRows ∷ cond table.plain None (spent exception) ∷ [])) world
    (inserted world name table (length rows) puts) (inserted_keeps accepts world name table (length rows) puts.rows puts.refusal plain refl)

-- the table of a name isn't plain
not_plain : (world : World) (name : List ℕ) (table : Table) → HasNoPlain world → world name ≡ Some table → table.plain ≡ false
not_plain world name table none has = ap is_plain (sym has) ∙ none name

insert_keeps : (world : World) (name : List ℕ) (rows : List (List Value)) (exception : Option Exception) → HasNoPlain world → Keeps accepts world (insert world name rows exception)
insert_keeps world name rows exception none =
    on_table_keeps accepts world name (λ table. insert_into world name table table.content rows exception)
    (λ table has. insert_into_keeps world name table table.content rows exception (not_plain world name table none has))

delete_keeps : (world : World) (name key : List ℕ) (sought : List Value) (exception : Option Exception) → Keeps concerns_some world (delete world name key sought exception)
delete_keeps world name key sought exception =
    on_table_keeps concerns_some world name _ (λ table has.
    with_content_keeps concerns_some world name table.content _ (λ rows is.
    by_key_keeps concerns_some world table.definition key sought None _ _ (λ number.
    λ none. ap (with_rows world name table) (others-all table.definition number sought rows (none_counted (length (concerned table.definition number sought rows)) none))
    ∙ with_rows-same world name table rows has is)))

-- so many rows set, where none is a change of nothing
set_keeps : (world : World) (name : List ℕ) (table : Table) (set : List Setting) (exception : Option Exception) (rows found : List (List Value)) → table.plain ≡ false
    → world name ≡ Some table → table.content ≡ Sound rows
    → Keeps concerns_some world (inserted world name table (length found) (set_all table.definition set exception 1 rows found))
set_keeps world name table set exception rows [] plain has is = λ _. with_rows-same world name table rows has is
set_keeps world name table set exception rows (row ∷ found) plain has is =
    let puts = set_all table.definition set exception 1 rows (row ∷ found) in
    inserted_keeps concerns_some world name table (suc (length found)) puts.rows puts.refusal plain (ap not (ne_eqb (suc (length found)) 0 (λ e. omega arith)))

update_keeps : (world : World) (name key : List ℕ) (sought : List Value) (set : List Setting) (exception : Option Exception) → HasNoPlain world
    → Keeps concerns_some world (update world name key sought set exception)
update_keeps world name key sought set exception none =
    on_table_keeps concerns_some world name _ (λ table has.
    with_content_keeps concerns_some world name table.content _ (λ rows is.
    by_key_keeps concerns_some world table.definition key sought (unknown_column table.definition.columns set) _ _ (λ number.
    set_keeps world name table set exception rows (concerned table.definition number sought rows) (not_plain world name table none has) has is)))

drop_keeps : (world : World) (name : List ℕ) (exception : Option Exception) → Keeps accepts world (drop world name exception)
drop_keeps world name exception =
    on_table_keeps accepts world name (λ table. unless (spent exception) world (record { world = with_table world name None; rows = []; reply = Done }))
    (λ table has. unless_keeps accepts (spent exception) world (record { world = with_table world name None; rows = []; reply = Done }) (λ h. absurd (cc)))

select_same : (world : World) (name key : List ℕ) (sought : List Value) (exception : Option Exception) → (perform world (Select name key sought) exception).world ≡ world
select_same world name key sought exception =
    on_table_keeps (λ _. false) world name _ (λ table has.
    with_content_keeps (λ _. false) world name table.content _ (λ rows is.
    by_key_keeps (λ _. false) world table.definition key sought None _ _ (λ number. λ _. refl))) refl

flush_same : (world : World) (name : List ℕ) (exception : Option Exception) → (perform world (Flush name) exception).world ≡ world
flush_same world name exception =
    on_table_keeps (λ _. false) world name _ (λ table has. with_content_keeps (λ _. false) world name table.content _ (λ rows is. λ _. refl)) refl

checkpoint_same : (world : World) (exception : Option Exception) → (perform world Checkpoint exception).world ≡ world
checkpoint_same world exception = unless_keeps (λ _. false) (spent exception) world (record { world = world; rows = []; reply = Done }) (λ _. refl) refl

-- A statement that changes nothing leaves the tables as they were, where none is plain.
pub kept : (world : World) (s : Statement) (exception : Option Exception) → HasNoPlain world → changes s (perform world s exception).reply ≡ false → (perform world s exception).world ≡ world
kept world (Create name plain d) exception none = create_keeps world name plain d exception
kept world (Insert name rows) exception none = insert_keeps world name rows exception none
kept world (Delete name key sought) exception none = delete_keeps world name key sought exception
kept world (Update name key sought set) exception none = update_keeps world name key sought set exception none
kept world (Select name key sought) exception none = λ _. select_same world name key sought exception
kept world (Drop name) exception none = drop_keeps world name exception
kept world (Flush name) exception none = λ _. flush_same world name exception
kept world Checkpoint exception none = λ _. checkpoint_same world exception

-- So does one that is refused.
pub refused-kept : (world : World) (s : Statement) (exception : Option Exception) → HasNoPlain world → is_refused (perform world s exception).reply ≡ true → (perform world s exception).world ≡ world
refused-kept world s exception none is = kept world s exception none (changes-refused s (perform world s exception).reply is)

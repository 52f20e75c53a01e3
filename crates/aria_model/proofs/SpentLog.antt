-- What it changes of a statement that the log is spent.
use Rattle.std.proofs.Common.{◌≡◌, ◌≢◌, ◌⊎◌, inl, inr, ℕ, ◌+◌, Bool, true, false, not, nat_lt, List, [], ◌∷◌, length, filter, Option, Some, None, refl, ap}
use Rattle.std.specs.Prelude.{cond}
use Rattle.std.specs.Ordering.{is_eq}
use Rattle.aria_value.specs.declared.value.Value.{Value}
use Rattle.aria_value.specs.declared.definition.Definition.{Definition}
use Rattle.aria_value.specs.Order.{key_columns, key_cmp, put}
use Rattle.aria_model.specs.declared.refusal.Refusal.{Refusal}
use Rattle.aria_model.specs.declared.refusal.Refusal.TheVariants.{LogSpent, TableExists, TableCrashed, NoTable, NoKey, TooManyRows, NotBuilt}
use Rattle.aria_model.specs.declared.refusal.Exception.{Exception}
use Rattle.aria_model.specs.declared.refusal.Exception.TheVariants.{Spent}
use Rattle.aria_model.specs.declared.reply.Reply.{Reply}
use Rattle.aria_model.specs.declared.reply.Reply.TheVariants.{Done, No}
use Rattle.aria_model.specs.declared.statement.Setting.{Setting}
use Rattle.aria_model.specs.declared.statement.Statement.{Statement}
use Rattle.aria_model.specs.declared.statement.Statement.TheVariants.{Create, Insert, Delete, Update, Select, Drop, Flush, Checkpoint}
use Rattle.aria_model.specs.World.{World, Table, Content, Sound, Crashed, with_table}
use Rattle.aria_model.specs.Step.{Outcome, first_of, refused_where, unless, spent_for, is_taken, bad_value, row_refusal, Puts, put_all, inserted, insert_into, key_number, bad_sought, concerned, by_key, with_content, on_table, too_many, unknown_column, bad_setting, set_row, set_refusal, set_all, perform}
use Rattle.aria_model.specs.Script.{is_refused}
use Rattle.aria_model.specs.Journal.{concerns_some, changes}
use Rattle.aria_model.proofs.Kept.{is_plain, HasNoPlain, on_found, by_number}

-- ---- refused for a spent log, or the same without one

-- with a spent log the refusal is the same as without, or that the log is spent
abbrev IsFree : ℕ → Option Refusal → Option Refusal → Type 0
IsFree file with_spent without = (with_spent ≡ without) ⊎ (with_spent ≡ Some (LogSpent file))

-- an outcome that isn't refused for a spent log is the one without
abbrev DoesFree : ℕ → Outcome → Outcome → Type 0
DoesFree file with_spent without = with_spent.reply ≢ No (LogSpent file) → with_spent ≡ without

only_free : (file : ℕ) (with_spent without : Option Refusal) → IsFree file with_spent without → IsFree file (first_of (with_spent ∷ [])) (first_of (without ∷ []))
only_free file with_spent without (inl same) = inl (ap (λ (r : Option Refusal). first_of (r ∷ [])) same)
only_free file with_spent without (inr is) = inr (ap (λ (r : Option Refusal). first_of (r ∷ [])) is)

behind_free : (file : ℕ) (first : Option Refusal) (with_spent without : List (Option Refusal)) → IsFree file (first_of with_spent) (first_of without)
    → IsFree file (first_of (first ∷ with_spent)) (first_of (first ∷ without))
behind_free file None with_spent without free = free
behind_free file (Some why) with_spent without free = inl refl

spent_for_free : (table : Table) (file : ℕ) (plain : Bool) → IsFree file (cond plain None (Some (LogSpent file))) (cond plain None None)
spent_for_free table file true = inl refl
spent_for_free table file false = inr refl

unless_same : (file : ℕ) (refusal : Option Refusal) (world : World) (with_spent without : Outcome) → DoesFree file with_spent without
    → DoesFree file (unless refusal world with_spent) (unless refusal world without)
unless_same file None world with_spent without free = free
unless_same file (Some why) world with_spent without free = λ _. refl

unless_free : (file : ℕ) (a b : Option Refusal) (world : World) (with_spent without : Outcome) → IsFree file a b → DoesFree file with_spent without
    → DoesFree file (unless a world with_spent) (unless b world without)
unless_free file a b world with_spent without (inl same) free = rw same (unless_same file b world with_spent without free)
unless_free file a b world with_spent without (inr is) free = λ other. absurd (other (ap (λ (r : Option Refusal). (unless r world with_spent).reply) is))

on_found_free : (file : ℕ) (world : World) (name : List ℕ) (with_spent without : Table → Outcome) (found : Option Table)
    → ((table : Table) → DoesFree file (with_spent table) (without table)) → DoesFree file (on_found world name with_spent found) (on_found world name without found)
on_found_free file world name with_spent without None each = λ _. refl
on_found_free file world name with_spent without (Some table) each = each table

on_table_free : (file : ℕ) (world : World) (name : List ℕ) (with_spent without : Table → Outcome)
    → ((table : Table) → DoesFree file (with_spent table) (without table)) → DoesFree file (on_table world name with_spent) (on_table world name without)
on_table_free file world name with_spent without each = on_found_free file world name with_spent without (world name) each

with_content_free : (file : ℕ) (world : World) (name : List ℕ) (content : Content) (with_spent without : List (List Value) → Outcome)
    → ((rows : List (List Value)) → DoesFree file (with_spent rows) (without rows)) → DoesFree file (with_content world name content with_spent) (with_content world name content without)
with_content_free file world name Crashed with_spent without each = λ _. refl
with_content_free file world name (Sound rows) with_spent without each = each rows

by_number_free : (file : ℕ) (world : World) (d : Definition) (key : List ℕ) (sought : List Value) (columns : Option Refusal) (a b : ℕ → Option Refusal) (with_spent without : ℕ → Outcome) (found : Option ℕ)
    → ((number : ℕ) → IsFree file (a number) (b number)) → ((number : ℕ) → DoesFree file (with_spent number) (without number))
    → DoesFree file (by_number world d key sought columns a with_spent found) (by_number world d key sought columns b without found)
by_number_free file world d key sought columns a b with_spent without None free each = λ _. refl
by_number_free file world d key sought columns a b with_spent without (Some number) free each =
    let value = bad_value (bad_sought d.columns [] (key_columns d.keys number) sought) in
    unless_free file (first_of (columns ∷ value ∷ a number ∷ [])) (first_of (columns ∷ value ∷ b number ∷ [])) world (with_spent number) (without number)
    (behind_free file columns (value ∷ a number ∷ []) (value ∷ b number ∷ []) (behind_free file value (a number ∷ []) (b number ∷ []) (only_free file (a number) (b number) (free number))))
    (each number)

by_key_free : (file : ℕ) (world : World) (d : Definition) (key : List ℕ) (sought : List Value) (columns : Option Refusal) (a b : ℕ → Option Refusal) (with_spent without : ℕ → Outcome)
    → ((number : ℕ) → IsFree file (a number) (b number)) → ((number : ℕ) → DoesFree file (with_spent number) (without number))
    → DoesFree file (by_key world d key sought columns a with_spent) (by_key world d key sought columns b without)
by_key_free file world d key sought columns a b with_spent without free each = by_number_free file world d key sought columns a b with_spent without (key_number d.keys key) free each

-- ---- each kind of statement

-- what a row leaves that is refused or not
abbrev put_first : List (List Value) → Option Refusal → Puts → Puts
put_first rows refusal more = elim refusal [
  | Some why ↦ record { rows = rows; refusal = Some why }
  | None ↦ more
]

-- a spent log refuses no single row
puts_free : (d : Definition) (file nth : ℕ) (rows more : List (List Value)) → put_all d (Some (Spent file)) nth rows more ≡ put_all d None nth rows more
puts_free d file nth rows [] = refl
puts_free d file nth rows (row ∷ more) =
    ap (put_first rows (row_refusal d None nth rows row)) (puts_free d file (nth + 1) (put (key_cmp d 0) row rows) more)

sets_free : (d : Definition) (set : List Setting) (file nth : ℕ) (rows more : List (List Value)) → set_all d set (Some (Spent file)) nth rows more ≡ set_all d set None nth rows more
sets_free d set file nth rows [] = refl
sets_free d set file nth rows (old ∷ more) =
    let row = set_row d.columns set old in
    let beside = filter (λ other. not (is_eq (key_cmp d 0 other old))) rows in
    ap (put_first rows (set_refusal d None nth beside row)) (sets_free d set file (nth + 1) (put (key_cmp d 0) row beside) more)

insert_into_free : (file : ℕ) (world : World) (name : List ℕ) (table : Table) (content : Content) (rows : List (List Value))
    → DoesFree file (insert_into world name table content rows (Some (Spent file))) (insert_into world name table content rows None)
insert_into_free file world name table Crashed rows = λ _. refl
insert_into_free file world name table (Sound old) rows =
    let many = refused_where (nat_lt 65536 (length rows)) TooManyRows in
    unless_free file (first_of (many ∷ cond table.plain None (Some (LogSpent file)) ∷ [])) (first_of (many ∷ cond table.plain None None ∷ [])) world
    (inserted world name table (length rows) (put_all table.definition (Some (Spent file)) 1 old rows)) (inserted world name table (length rows) (put_all table.definition None 1 old rows))
    (behind_free file many (cond table.plain None (Some (LogSpent file)) ∷ []) (cond table.plain None None ∷ [])
    (only_free file (cond table.plain None (Some (LogSpent file))) (cond table.plain None None) (spent_for_free table file table.plain)))
    (λ _. ap (inserted world name table (length rows)) (puts_free table.definition file 1 old rows))

-- the last tests of a delete and of an update
later_free : (file : ℕ) (table : Table) (found : List (List Value))
    → IsFree file (first_of (too_many found ∷ spent_for table (Some (Spent file)) ∷ [])) (first_of (too_many found ∷ spent_for table None ∷ []))
later_free file table found =
    behind_free file (too_many found) (spent_for table (Some (Spent file)) ∷ []) (spent_for table None ∷ [])
    (only_free file (spent_for table (Some (Spent file))) (spent_for table None) (spent_for_free table file table.plain))

-- A statement that isn't refused for a spent log does what it does without one.
pub perform-free : (world : World) (s : Statement) (file : ℕ) → (perform world s (Some (Spent file))).reply ≢ No (LogSpent file)
    → perform world s (Some (Spent file)) ≡ perform world s None
perform-free world (Create name plain d) file =
    let exists = refused_where (is_taken (world name)) (TableExists name) in
    let unbuilt = refused_where plain NotBuilt in
    let new : Outcome = record { world = with_table world name (Some (record { definition = d; plain = plain; content = Sound [] })); rows = []; reply = Done } in
    unless_free file (first_of (exists ∷ unbuilt ∷ Some (LogSpent file) ∷ [])) (first_of (exists ∷ unbuilt ∷ None ∷ [])) world new new
    (behind_free file exists (unbuilt ∷ Some (LogSpent file) ∷ []) (unbuilt ∷ None ∷ []) (behind_free file unbuilt (Some (LogSpent file) ∷ []) (None ∷ []) (inr refl))) (λ _. refl)
perform-free world (Insert name rows) file =
    on_table_free file world name (λ table. insert_into world name table table.content rows (Some (Spent file))) (λ table. insert_into world name table table.content rows None)
    (λ table. insert_into_free file world name table table.content rows)
perform-free world (Delete name key sought) file =
    on_table_free file world name _ _ (λ table.
    with_content_free file world name table.content _ _ (λ rows.
    by_key_free file world table.definition key sought None _ _ _ _ (λ number. later_free file table (concerned table.definition number sought rows)) (λ number. λ _. refl)))
perform-free world (Update name key sought set) file =
    on_table_free file world name _ _ (λ table.
    with_content_free file world name table.content _ _ (λ rows.
    by_key_free file world table.definition key sought (unknown_column table.definition.columns set) _ _ _ _
    (λ number.
    let found = concerned table.definition number sought rows in
    let value = bad_value (bad_setting table.definition set) in
    behind_free file value (too_many found ∷ spent_for table (Some (Spent file)) ∷ []) (too_many found ∷ spent_for table None ∷ []) (later_free file table found))
    (λ number. λ _.
    ap (inserted world name table (length (concerned table.definition number sought rows)))
    (sets_free table.definition set file 1 rows (concerned table.definition number sought rows)))))
perform-free world (Select name key sought) file = λ _. refl
perform-free world (Drop name) file =
    let new : Outcome = record { world = with_table world name None; rows = []; reply = Done } in
    on_table_free file world name (λ table. unless (Some (LogSpent file)) world new) (λ table. unless None world new) (λ table. λ other. absurd (other refl))
perform-free world (Flush name) file = λ _. refl
perform-free world Checkpoint file = λ other. absurd (other refl)

-- A select meets no exception.
pub select-free : (world : World) (name key : List ℕ) (sought : List Value) (exception : Option Exception)
    → perform world (Select name key sought) exception ≡ perform world (Select name key sought) None
select-free world name key sought exception = refl

-- Nor does a flush.
pub flush-free : (world : World) (name : List ℕ) (exception : Option Exception) → perform world (Flush name) exception ≡ perform world (Flush name) None
flush-free world name exception = refl

-- ---- a spent log refuses each change

-- there is a refusal
abbrev Refuses : Option Refusal → Type 0
Refuses refusal = (why : Refusal) × (refusal ≡ Some why)

-- no refusal is a change
abbrev RefusesAll : (Reply → Bool) → Type 0
RefusesAll change = (why : Refusal) → change (No why) ≡ false

behind_refuses : (first : Option Refusal) (tests : List (Option Refusal)) → Refuses (first_of tests) → Refuses (first_of (first ∷ tests))
behind_refuses None tests refuses = refuses
behind_refuses (Some why) tests refuses = (why, refl)

spent_for_refuses : (file : ℕ) (plain : Bool) → plain ≡ false → Refuses (first_of (cond plain None (Some (LogSpent file)) ∷ []))
spent_for_refuses file true is = absurd (cc)
spent_for_refuses file false is = (LogSpent file, refl)

unless_refuses : (change : Reply → Bool) (refusal : Option Refusal) (world : World) (outcome : Outcome) → RefusesAll change → Refuses refusal
    → change (unless refusal world outcome).reply ≡ false
unless_refuses change refusal world outcome none (why, is) = rw is (none why)

on_found_refuses : (change : Reply → Bool) (world : World) (name : List ℕ) (does : Table → Outcome) (found : Option Table) → RefusesAll change → is_plain found ≡ false
    → ((table : Table) → table.plain ≡ false → change (does table).reply ≡ false) → change (on_found world name does found).reply ≡ false
on_found_refuses change world name does None none plain each = none (NoTable name)
on_found_refuses change world name does (Some table) none plain each = each table plain

on_table_refuses : (change : Reply → Bool) (world : World) (name : List ℕ) (does : Table → Outcome) → RefusesAll change → HasNoPlain world
    → ((table : Table) → table.plain ≡ false → change (does table).reply ≡ false) → change (on_table world name does).reply ≡ false
on_table_refuses change world name does none plain each = on_found_refuses change world name does (world name) none (plain name) each

with_content_refuses : (change : Reply → Bool) (world : World) (name : List ℕ) (content : Content) (does : List (List Value) → Outcome) → RefusesAll change
    → ((rows : List (List Value)) → change (does rows).reply ≡ false) → change (with_content world name content does).reply ≡ false
with_content_refuses change world name Crashed does none each = none (TableCrashed name)
with_content_refuses change world name (Sound rows) does none each = each rows

by_number_refuses : (change : Reply → Bool) (world : World) (d : Definition) (key : List ℕ) (sought : List Value) (columns : Option Refusal) (later : ℕ → Option Refusal) (does : ℕ → Outcome) (found : Option ℕ)
    → RefusesAll change → ((number : ℕ) → Refuses (first_of (later number ∷ []))) → change (by_number world d key sought columns later does found).reply ≡ false
by_number_refuses change world d key sought columns later does None none each = none (NoKey key)
by_number_refuses change world d key sought columns later does (Some number) none each =
    let value = bad_value (bad_sought d.columns [] (key_columns d.keys number) sought) in
    unless_refuses change (first_of (columns ∷ value ∷ later number ∷ [])) world (does number) none
    (behind_refuses columns (value ∷ later number ∷ []) (behind_refuses value (later number ∷ []) (each number)))

by_key_refuses : (change : Reply → Bool) (world : World) (d : Definition) (key : List ℕ) (sought : List Value) (columns : Option Refusal) (later : ℕ → Option Refusal) (does : ℕ → Outcome)
    → RefusesAll change → ((number : ℕ) → Refuses (first_of (later number ∷ []))) → change (by_key world d key sought columns later does).reply ≡ false
by_key_refuses change world d key sought columns later does none each = by_number_refuses change world d key sought columns later does (key_number d.keys key) none each

-- one refusal alone
alone_refuses : (refusal : Option Refusal) → Refuses refusal → Refuses (first_of (refusal ∷ []))
alone_refuses refusal (why, is) = (why, ap (λ (r : Option Refusal). first_of (r ∷ [])) is)

later_refuses : (file : ℕ) (table : Table) (found : List (List Value)) → table.plain ≡ false → Refuses (first_of (too_many found ∷ spent_for table (Some (Spent file)) ∷ []))
later_refuses file table found plain = behind_refuses (too_many found) (spent_for table (Some (Spent file)) ∷ []) (spent_for_refuses file table.plain plain)

insert_into_refuses : (file : ℕ) (world : World) (name : List ℕ) (table : Table) (content : Content) (rows : List (List Value)) → table.plain ≡ false
    → not (is_refused (insert_into world name table content rows (Some (Spent file))).reply) ≡ false
insert_into_refuses file world name table Crashed rows plain = refl
insert_into_refuses file world name table (Sound old) rows plain =
    let many = refused_where (nat_lt 65536 (length rows)) TooManyRows in
    unless_refuses (λ reply. not (is_refused reply)) (first_of (many ∷ cond table.plain None (Some (LogSpent file)) ∷ [])) world
    (inserted world name table (length rows) (put_all table.definition (Some (Spent file)) 1 old rows)) (λ why. refl)
    (behind_refuses many (cond table.plain None (Some (LogSpent file)) ∷ []) (spent_for_refuses file table.plain plain))

-- Where the log is spent, no statement changes tables of which none is plain.
pub spent-refuses : (world : World) (s : Statement) (file : ℕ) → HasNoPlain world → changes s (perform world s (Some (Spent file))).reply ≡ false
spent-refuses world (Create name plain d) file none =
    let exists = refused_where (is_taken (world name)) (TableExists name) in
    let unbuilt = refused_where plain NotBuilt in
    unless_refuses (λ reply. not (is_refused reply)) (first_of (exists ∷ unbuilt ∷ Some (LogSpent file) ∷ [])) world
    (record { world = with_table world name (Some (record { definition = d; plain = plain; content = Sound [] })); rows = []; reply = Done }) (λ why. refl)
    (behind_refuses exists (unbuilt ∷ Some (LogSpent file) ∷ []) (behind_refuses unbuilt (Some (LogSpent file) ∷ []) (LogSpent file, refl)))
spent-refuses world (Insert name rows) file none =
    on_table_refuses (λ reply. not (is_refused reply)) world name (λ table. insert_into world name table table.content rows (Some (Spent file))) (λ why. refl) none
    (λ table plain. insert_into_refuses file world name table table.content rows plain)
spent-refuses world (Delete name key sought) file none =
    on_table_refuses concerns_some world name _ (λ why. refl) none (λ table plain.
    with_content_refuses concerns_some world name table.content _ (λ why. refl) (λ rows.
    by_key_refuses concerns_some world table.definition key sought None _ _ (λ why. refl) (λ number.
    let found = concerned table.definition number sought rows in
    alone_refuses (first_of (too_many found ∷ spent_for table (Some (Spent file)) ∷ [])) (later_refuses file table found plain))))
spent-refuses world (Update name key sought set) file none =
    on_table_refuses concerns_some world name _ (λ why. refl) none (λ table plain.
    with_content_refuses concerns_some world name table.content _ (λ why. refl) (λ rows.
    by_key_refuses concerns_some world table.definition key sought (unknown_column table.definition.columns set) _ _ (λ why. refl) (λ number.
    let found = concerned table.definition number sought rows in
    let value = bad_value (bad_setting table.definition set) in
    alone_refuses (first_of (value ∷ too_many found ∷ spent_for table (Some (Spent file)) ∷ []))
    (behind_refuses value (too_many found ∷ spent_for table (Some (Spent file)) ∷ []) (later_refuses file table found plain)))))
spent-refuses world (Select name key sought) file none = refl
spent-refuses world (Drop name) file none =
    on_table_refuses (λ reply. not (is_refused reply)) world name (λ table. unless (Some (LogSpent file)) world (record { world = with_table world name None; rows = []; reply = Done }))
    (λ why. refl) none (λ table plain. refl)
spent-refuses world (Flush name) file none = refl
spent-refuses world Checkpoint file none = refl

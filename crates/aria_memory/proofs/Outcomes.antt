-- The outcome of each kind of statement, case by case.
use Rattle.std.specs.Prelude.{◌≡◌, ℕ, Bool, true, false, cond, nat_lt, List, [], ◌∷◌, length, Option, Some, None, refl}
use Rattle.std.proofs.Common.{sym, ap, ◌∙◌}
use Rattle.aria_value.specs.declared.value.Value.{Value}
use Rattle.aria_value.specs.declared.definition.Definition.{Definition}
use Rattle.aria_model.specs.declared.refusal.Refusal.{Refusal}
use Rattle.aria_model.specs.declared.refusal.Refusal.TheVariants.{NoTable, TableExists, NotBuilt, TooManyRows}
use Rattle.aria_model.specs.declared.refusal.Exception.{Exception}
use Rattle.aria_model.specs.declared.reply.Reply.TheVariants.{Done, Count}
use Rattle.aria_model.specs.World.{World, Table, Content, Sound, Crashed, with_table}
use Rattle.aria_model.specs.Step.{Outcome, refused, first_of, refused_where, unless, spent, is_taken, create, Puts, put_all, inserted, insert_into, insert, with_content, drop, flush, checkpoint}

-- a transactional table of these rows
abbrev pub sound : Definition → List (List Value) → Table
sound d rows = record { definition = d; plain = false; content = Sound rows }

-- ---- create

-- a create of a name that is taken or free, of a table that isn't logged or one that is, with the exception that it met
abbrev creates : World → List ℕ → Definition → Option Exception → Bool → Bool → Outcome
creates world name d exception taken plain = unless (first_of (refused_where taken (TableExists name) ∷ refused_where plain NotBuilt ∷ spent exception ∷ [])) world
    (record { world = with_table world name (Some (record { definition = d; plain = plain; content = Sound [] })); rows = []; reply = Done })

pub create_taken : (world : World) (name : List ℕ) (plain : Bool) (d : Definition) (exception : Option Exception) → is_taken (world name) ≡ true
    → create world name plain d exception ≡ refused world (TableExists name)
create_taken world name plain d exception taken = ap (λ t. creates world name d exception t plain) taken

pub create_plain : (world : World) (name : List ℕ) (plain : Bool) (d : Definition) (exception : Option Exception) → is_taken (world name) ≡ false → plain ≡ true
    → create world name plain d exception ≡ refused world NotBuilt
create_plain world name plain d exception free is = λ i. creates world name d exception (free i) (is i)

pub create_spent : (world : World) (name : List ℕ) (plain : Bool) (d : Definition) (exception : Option Exception) (why : Refusal) → is_taken (world name) ≡ false → plain ≡ false
    → spent exception ≡ Some why → create world name plain d exception ≡ refused world why
create_spent world name plain d exception why free is none =
    λ i. unless (first_of (refused_where (free i) (TableExists name) ∷ refused_where (is i) NotBuilt ∷ none i ∷ [])) world
    (record { world = with_table world name (Some (record { definition = d; plain = is i; content = Sound [] })); rows = []; reply = Done })

pub create_free : (world : World) (name : List ℕ) (plain : Bool) (d : Definition) (exception : Option Exception) → is_taken (world name) ≡ false → plain ≡ false → exception ≡ None
    → create world name plain d exception ≡ record { world = with_table world name (Some (sound d [])); rows = []; reply = Done }
create_free world name plain d exception free is none = λ i. creates world name d (none i) (free i) (is i)

pub no_rows_unless : (refusal : Option Refusal) (world : World) (outcome : Outcome) → outcome.rows ≡ [] → (unless refusal world outcome).rows ≡ []
no_rows_unless None world outcome none = none
no_rows_unless (Some why) world outcome none = refl

-- a create tells no rows
pub create-rows : (world : World) (name : List ℕ) (plain : Bool) (d : Definition) (exception : Option Exception) → (create world name plain d exception).rows ≡ []
create-rows world name plain d exception =
    no_rows_unless (first_of (refused_where (is_taken (world name)) (TableExists name) ∷ refused_where plain NotBuilt ∷ spent exception ∷ [])) world
    (record { world = with_table world name (Some (record { definition = d; plain = plain; content = Sound [] })); rows = []; reply = Done }) refl

-- ---- insert

-- an insert at what a name has
abbrev pub insert_at : World → List ℕ → List (List Value) → Option Exception → Option Table → Outcome
insert_at world name rows exception found = elim found [
  | None ↦ refused world (NoTable name)
  | Some table ↦ insert_into world name table table.content rows exception
]

pub insert_absent : (world : World) (name : List ℕ) (rows : List (List Value)) (exception : Option Exception) → world name ≡ None
    → insert world name rows exception ≡ refused world (NoTable name)
insert_absent world name rows exception absent = ap (insert_at world name rows exception) absent

-- an insert of more rows than a statement may have, or not, with the exception that it met, whose rows leave these
abbrev inserts : World → List ℕ → Table → ℕ → Bool → Option Exception → Puts → Outcome
inserts world name table count many exception puts = unless (first_of (refused_where many TooManyRows ∷ spent exception ∷ [])) world (inserted world name table count puts)

inserts_by : (world : World) (name : List ℕ) (d : Definition) (old rows : List (List Value)) (many : Bool) (exception : Option Exception) (puts : Puts) → world name ≡ Some (sound d old)
    → nat_lt 65536 (length rows) ≡ many → put_all d exception 1 old rows ≡ puts → insert world name rows exception ≡ inserts world name (sound d old) (length rows) many exception puts
inserts_by world name d old rows many exception puts has m p =
    ap (insert_at world name rows exception) has ∙ (λ i. inserts world name (sound d old) (length rows) (m i) exception (p i))

pub insert_many : (world : World) (name : List ℕ) (d : Definition) (old rows : List (List Value)) (exception : Option Exception) → world name ≡ Some (sound d old)
    → nat_lt 65536 (length rows) ≡ true → insert world name rows exception ≡ refused world TooManyRows
insert_many world name d old rows exception has many = inserts_by world name d old rows true exception (put_all d exception 1 old rows) has many refl

pub insert_spent : (world : World) (name : List ℕ) (d : Definition) (old rows : List (List Value)) (exception : Option Exception) (why : Refusal) → world name ≡ Some (sound d old)
    → nat_lt 65536 (length rows) ≡ false → spent exception ≡ Some why → insert world name rows exception ≡ refused world why
insert_spent world name d old rows exception why has few is =
    ap (insert_at world name rows exception) has
    ∙ (λ i. unless (first_of (refused_where (few i) TooManyRows ∷ is i ∷ [])) world (inserted world name (sound d old) (length rows) (put_all d exception 1 old rows)))

-- what rows leave, by its parts
pub same_puts : (puts : Puts) (rows : List (List Value)) (refusal : Option Refusal) → rows ≡ puts.rows → refusal ≡ puts.refusal → puts ≡ record { rows = rows; refusal = refusal }
same_puts puts rows refusal r f = λ i. record { rows = sym r i; refusal = sym f i }

pub insert_refused : (world : World) (name : List ℕ) (d : Definition) (old rows : List (List Value)) (exception : Option Exception) (why : Refusal) → world name ≡ Some (sound d old)
    → nat_lt 65536 (length rows) ≡ false → exception ≡ None → Some why ≡ (put_all d None 1 old rows).refusal → insert world name rows exception ≡ refused world why
insert_refused world name d old rows exception why has few none refusal =
    ap (insert world name rows) none
    ∙ inserts_by world name d old rows false None (record { rows = (put_all d None 1 old rows).rows; refusal = Some why }) has few
    (same_puts (put_all d None 1 old rows) (put_all d None 1 old rows).rows (Some why) refl refusal)

pub insert_put : (world : World) (name : List ℕ) (d : Definition) (old rows new : List (List Value)) (exception : Option Exception) → world name ≡ Some (sound d old)
    → nat_lt 65536 (length rows) ≡ false → exception ≡ None → None ≡ (put_all d None 1 old rows).refusal → new ≡ (put_all d None 1 old rows).rows
    → insert world name rows exception ≡ record { world = with_table world name (Some (sound d new)); rows = []; reply = Count (length rows) }
insert_put world name d old rows new exception has few none refusal leaves =
    ap (insert world name rows) none
    ∙ inserts_by world name d old rows false None (record { rows = new; refusal = None }) has few (same_puts (put_all d None 1 old rows) new None leaves refusal)

inserted_by-rows : (world : World) (name : List ℕ) (table : Table) (count : ℕ) (rows : List (List Value)) (refusal : Option Refusal) (plain : Bool) → table.plain ≡ plain
    → (inserted world name table count (record { rows = rows; refusal = refusal })).rows ≡ []
inserted_by-rows world name table count rows None plain is = refl
inserted_by-rows world name table count rows (Some why) true is = rw is refl
inserted_by-rows world name table count rows (Some why) false is = rw is refl

-- rows that are put or set aren't told
pub inserted-rows : (world : World) (name : List ℕ) (table : Table) (count : ℕ) (puts : Puts) → (inserted world name table count puts).rows ≡ []
inserted-rows world name table count puts = inserted_by-rows world name table count puts.rows puts.refusal table.plain refl

insert_into-rows : (world : World) (name : List ℕ) (table : Table) (content : Content) (rows : List (List Value)) (exception : Option Exception)
    → (insert_into world name table content rows exception).rows ≡ []
insert_into-rows world name table Crashed rows exception = refl
insert_into-rows world name table (Sound old) rows exception =
    let puts = put_all table.definition exception 1 old rows in
    no_rows_unless (first_of (refused_where (nat_lt 65536 (length rows)) TooManyRows ∷ cond table.plain None (spent exception) ∷ [])) world
    (inserted world name table (length rows) puts) (inserted-rows world name table (length rows) puts)

insert_at-rows : (world : World) (name : List ℕ) (rows : List (List Value)) (exception : Option Exception) (found : Option Table) → (insert_at world name rows exception found).rows ≡ []
insert_at-rows world name rows exception None = refl
insert_at-rows world name rows exception (Some table) = insert_into-rows world name table table.content rows exception

-- an insert tells no rows
pub insert-rows : (world : World) (name : List ℕ) (rows : List (List Value)) (exception : Option Exception) → (insert world name rows exception).rows ≡ []
insert-rows world name rows exception = insert_at-rows world name rows exception (world name)

-- ---- drop, flush and checkpoint

-- what is done with a table whatever it holds, where a name has one or none
abbrev pub drop_at : World → List ℕ → Option Exception → Option Table → Outcome
drop_at world name exception found = elim found [
  | None ↦ refused world (NoTable name)
  | Some table ↦ unless (spent exception) world (record { world = with_table world name None; rows = []; reply = Done })
]

drop_found : (world : World) (name : List ℕ) (exception : Option Exception) (found : Option Table) → is_taken found ≡ true
    → drop_at world name exception found ≡ unless (spent exception) world (record { world = with_table world name None; rows = []; reply = Done })
drop_found world name exception None taken = absurd (cc)
drop_found world name exception (Some table) taken = refl

drop_none : (world : World) (name : List ℕ) (exception : Option Exception) (found : Option Table) → is_taken found ≡ false → drop_at world name exception found ≡ refused world (NoTable name)
drop_none world name exception None taken = refl
drop_none world name exception (Some table) taken = absurd (cc)

pub drop_absent : (world : World) (name : List ℕ) (exception : Option Exception) → is_taken (world name) ≡ false → drop world name exception ≡ refused world (NoTable name)
drop_absent world name exception taken = drop_none world name exception (world name) taken

pub drop_taken : (world : World) (name : List ℕ) (exception : Option Exception) → is_taken (world name) ≡ true
    → drop world name exception ≡ unless (spent exception) world (record { world = with_table world name None; rows = []; reply = Done })
drop_taken world name exception taken = drop_found world name exception (world name) taken

pub drop_gone : (world : World) (name : List ℕ) (exception : Option Exception) → is_taken (world name) ≡ true → exception ≡ None
    → drop world name exception ≡ record { world = with_table world name None; rows = []; reply = Done }
drop_gone world name exception taken none =
    drop_taken world name exception taken ∙ ap (λ e. unless (spent e) world (record { world = with_table world name None; rows = []; reply = Done })) none

drop_at-rows : (world : World) (name : List ℕ) (exception : Option Exception) (found : Option Table) → (drop_at world name exception found).rows ≡ []
drop_at-rows world name exception None = refl
drop_at-rows world name exception (Some table) = no_rows_unless (spent exception) world (record { world = with_table world name None; rows = []; reply = Done }) refl

-- a drop tells no rows
pub drop-rows : (world : World) (name : List ℕ) (exception : Option Exception) → (drop world name exception).rows ≡ []
drop-rows world name exception = drop_at-rows world name exception (world name)

-- a flush at what a name has
abbrev pub flush_at : World → List ℕ → Option Table → Outcome
flush_at world name found = elim found [
  | None ↦ refused world (NoTable name)
  | Some table ↦ with_content world name table.content (λ rows. record { world = world; rows = []; reply = Done })
]

flush_content-rows : (world : World) (name : List ℕ) (content : Content) → (with_content world name content (λ rows. record { world = world; rows = []; reply = Done })).rows ≡ []
flush_content-rows world name Crashed = refl
flush_content-rows world name (Sound rows) = refl

flush_at-rows : (world : World) (name : List ℕ) (found : Option Table) → (flush_at world name found).rows ≡ []
flush_at-rows world name None = refl
flush_at-rows world name (Some table) = flush_content-rows world name table.content

-- a flush tells no rows
pub flush-rows : (world : World) (name : List ℕ) → (flush world name).rows ≡ []
flush-rows world name = flush_at-rows world name (world name)

pub checkpoint-rows : (world : World) (exception : Option Exception) → (checkpoint world exception).rows ≡ []
checkpoint-rows world exception = no_rows_unless (spent exception) world (record { world = world; rows = []; reply = Done }) refl

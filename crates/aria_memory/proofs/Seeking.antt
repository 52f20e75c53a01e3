-- The outcome of each statement that seeks values by a key, case by case.
use Rattle.std.specs.Prelude.{◌≡◌, ℕ, Bool, nat_lt, List, [], ◌∷◌, length, Option, Some, None, refl}
use Rattle.std.proofs.Common.{sym, ap, ◌∙◌}
use Rattle.aria_value.specs.declared.value.Value.{Value}
use Rattle.aria_value.specs.declared.definition.Definition.{Definition}
use Rattle.aria_value.specs.Order.{key_columns}
use Rattle.aria_model.specs.declared.refusal.Refusal.{Refusal}
use Rattle.aria_model.specs.declared.refusal.Refusal.TheVariants.{NoKey, NoTable, TooManyRows}
use Rattle.aria_model.specs.declared.refusal.Exception.{Exception}
use Rattle.aria_model.specs.declared.reply.Reply.TheVariants.{Count}
use Rattle.aria_model.specs.World.{World, Table, Content, Sound, Crashed}
use Rattle.aria_model.specs.Step.{Outcome, refused, first_of, refused_where, unless, spent, bad_value, key_number, spent_for, bad_sought, concerned, by_key, with_content, too_many, select, delete}
use Rattle.aria_memory.specs.Seeking.{seek_refusal, deleted}
use Rattle.aria_memory.proofs.Outcomes.{sound, no_rows_unless}

-- ---- the key that is named

-- the refusal by the number of a key
abbrev seek_refusal_at : Definition → List ℕ → List Value → Option ℕ → Option Refusal
seek_refusal_at d key sought number = elim number [
  | None ↦ Some (NoKey key)
  | Some n ↦ bad_value (bad_sought d.columns [] (key_columns d.keys n) sought)
]

pub seek_keyless : (d : Definition) (key : List ℕ) (sought : List Value) → key_number d.keys key ≡ None → seek_refusal d key sought ≡ Some (NoKey key)
seek_keyless d key sought none = ap (seek_refusal_at d key sought) none

pub seek_by : (d : Definition) (key : List ℕ) (sought : List Value) (n : ℕ) (bad : Option (List ℕ)) → key_number d.keys key ≡ Some n
    → bad_sought d.columns [] (key_columns d.keys n) sought ≡ bad → seek_refusal d key sought ≡ bad_value bad
seek_by d key sought n bad named is = ap (seek_refusal_at d key sought) named ∙ ap bad_value is

-- ---- what is done by a key

abbrev by_number : World → Definition → List ℕ → List Value → (ℕ → Option Refusal) → (ℕ → Outcome) → Option ℕ → Outcome
by_number world d key sought later does number = elim number [
  | None ↦ refused world (NoKey key)
  | Some n ↦ unless (first_of (None ∷ bad_value (bad_sought d.columns [] (key_columns d.keys n) sought) ∷ later n ∷ [])) world (does n)
]

first_of_one : (refusal : Option Refusal) → first_of (refusal ∷ []) ≡ refusal
first_of_one None = refl
first_of_one (Some why) = refl

refused_by_number : (world : World) (d : Definition) (key : List ℕ) (sought : List Value) (later : ℕ → Option Refusal) (does : ℕ → Outcome) (number : Option ℕ) (why : Refusal)
    → seek_refusal_at d key sought number ≡ Some why → by_number world d key sought later does number ≡ refused world why
refused_by_number world d key sought later does None why is = let same : NoKey key ≡ why = cc in ap (refused world) same
refused_by_number world d key sought later does (Some n) why is = ap (λ bad. unless (first_of (None ∷ bad ∷ later n ∷ [])) world (does n)) is

by_key_refused : (world : World) (d : Definition) (key : List ℕ) (sought : List Value) (later : ℕ → Option Refusal) (does : ℕ → Outcome) (why : Refusal)
    → seek_refusal d key sought ≡ Some why → by_key world d key sought None later does ≡ refused world why
by_key_refused world d key sought later does why is = refused_by_number world d key sought later does (key_number d.keys key) why is

by_key_does : (world : World) (d : Definition) (key : List ℕ) (sought : List Value) (later : ℕ → Option Refusal) (does : ℕ → Outcome) (n : ℕ)
    → key_number d.keys key ≡ Some n → seek_refusal d key sought ≡ None → by_key world d key sought None later does ≡ unless (later n) world (does n)
by_key_does world d key sought later does n named is =
    let fits : bad_value (bad_sought d.columns [] (key_columns d.keys n) sought) ≡ None = sym (ap (seek_refusal_at d key sought) named) ∙ is in
    ap (by_number world d key sought later does) named
    ∙ ap (λ bad. unless (first_of (None ∷ bad ∷ later n ∷ [])) world (does n)) fits
    ∙ ap (λ refusal. unless refusal world (does n)) (first_of_one (later n))

-- what a name has
abbrev at_table : World → List ℕ → (Table → Outcome) → Option Table → Outcome
at_table world name does found = elim found [
  | None ↦ refused world (NoTable name)
  | Some table ↦ does table
]

-- ---- select

abbrev selects : World → List ℕ → List ℕ → List Value → Table → Outcome
selects world name key sought table = with_content world name table.content (λ rows.
    by_key world table.definition key sought None (λ number. None) (λ number.
    let found = concerned table.definition number sought rows in record { world = world; rows = found; reply = Count (length found) }))

pub select_absent : (world : World) (name key : List ℕ) (sought : List Value) → world name ≡ None → select world name key sought ≡ refused world (NoTable name)
select_absent world name key sought absent = ap (at_table world name (selects world name key sought)) absent

pub select_refused : (world : World) (name key : List ℕ) (sought : List Value) (d : Definition) (rows : List (List Value)) (why : Refusal) → world name ≡ Some (sound d rows)
    → seek_refusal d key sought ≡ Some why → select world name key sought ≡ refused world why
select_refused world name key sought d rows why has is =
    ap (at_table world name (selects world name key sought)) has
    ∙ by_key_refused world d key sought (λ number. None) (λ number. let found = concerned d number sought rows in record { world = world; rows = found; reply = Count (length found) }) why is

pub select_told : (world : World) (name key : List ℕ) (sought : List Value) (d : Definition) (rows : List (List Value)) (n : ℕ) → world name ≡ Some (sound d rows)
    → key_number d.keys key ≡ Some n → seek_refusal d key sought ≡ None
    → select world name key sought ≡ record { world = world; rows = concerned d n sought rows; reply = Count (length (concerned d n sought rows)) }
select_told world name key sought d rows n has named is =
    ap (at_table world name (selects world name key sought)) has
    ∙ by_key_does world d key sought (λ number. None) (λ number. let found = concerned d number sought rows in record { world = world; rows = found; reply = Count (length found) }) n named is

-- ---- delete

abbrev deletes : World → List ℕ → List ℕ → List Value → Option Exception → Table → Outcome
deletes world name key sought exception table = with_content world name table.content (λ rows.
    by_key world table.definition key sought None
    (λ number. first_of (too_many (concerned table.definition number sought rows) ∷ spent_for table exception ∷ []))
    (λ number. deleted table number sought rows world name))

pub delete_absent : (world : World) (name key : List ℕ) (sought : List Value) (exception : Option Exception) → world name ≡ None
    → delete world name key sought exception ≡ refused world (NoTable name)
delete_absent world name key sought exception absent = ap (at_table world name (deletes world name key sought exception)) absent

pub delete_refused : (world : World) (name key : List ℕ) (sought : List Value) (exception : Option Exception) (d : Definition) (rows : List (List Value)) (why : Refusal)
    → world name ≡ Some (sound d rows) → seek_refusal d key sought ≡ Some why → delete world name key sought exception ≡ refused world why
delete_refused world name key sought exception d rows why has is =
    ap (at_table world name (deletes world name key sought exception)) has
    ∙ by_key_refused world d key sought (λ number. first_of (too_many (concerned d number sought rows) ∷ spent exception ∷ [])) (λ number. deleted (sound d rows) number sought rows world name) why is

-- a delete by a key of these rows, or more rows than a statement may concern, with the exception that it met
pub delete_by : (world : World) (name key : List ℕ) (sought : List Value) (exception : Option Exception) (d : Definition) (rows : List (List Value)) (n : ℕ) (many : Bool)
    → world name ≡ Some (sound d rows) → key_number d.keys key ≡ Some n → seek_refusal d key sought ≡ None → nat_lt 65536 (length (concerned d n sought rows)) ≡ many
    → delete world name key sought exception ≡ unless (first_of (refused_where many TooManyRows ∷ spent exception ∷ [])) world (deleted (sound d rows) n sought rows world name)
delete_by world name key sought exception d rows n many has named is m =
    ap (at_table world name (deletes world name key sought exception)) has
    ∙ by_key_does world d key sought (λ number. first_of (too_many (concerned d number sought rows) ∷ spent exception ∷ [])) (λ number. deleted (sound d rows) number sought rows world name) n named is
    ∙ ap (λ b. unless (first_of (refused_where b TooManyRows ∷ spent exception ∷ [])) world (deleted (sound d rows) n sought rows world name)) m

by_number-rows : (world : World) (d : Definition) (key : List ℕ) (sought : List Value) (later : ℕ → Option Refusal) (does : ℕ → Outcome) (number : Option ℕ) → ((n : ℕ) → (does n).rows ≡ [])
    → (by_number world d key sought later does number).rows ≡ []
by_number-rows world d key sought later does None none = refl
by_number-rows world d key sought later does (Some n) none =
    no_rows_unless (first_of (None ∷ bad_value (bad_sought d.columns [] (key_columns d.keys n) sought) ∷ later n ∷ [])) world (does n) (none n)

delete_content-rows : (world : World) (name key : List ℕ) (sought : List Value) (exception : Option Exception) (table : Table) (content : Content)
    → (with_content world name content (λ rows. by_key world table.definition key sought None
    (λ number. first_of (too_many (concerned table.definition number sought rows) ∷ spent_for table exception ∷ []))
    (λ number. deleted table number sought rows world name))).rows ≡ []
delete_content-rows world name key sought exception table Crashed = refl
delete_content-rows world name key sought exception table (Sound rows) =
    by_number-rows world table.definition key sought (λ number. first_of (too_many (concerned table.definition number sought rows) ∷ spent_for table exception ∷ []))
    (λ number. deleted table number sought rows world name) (key_number table.definition.keys key) (λ n. refl)

delete_at-rows : (world : World) (name key : List ℕ) (sought : List Value) (exception : Option Exception) (found : Option Table)
    → (at_table world name (deletes world name key sought exception) found).rows ≡ []
delete_at-rows world name key sought exception None = refl
delete_at-rows world name key sought exception (Some table) = delete_content-rows world name key sought exception table table.content

-- a delete tells no rows
pub delete-rows : (world : World) (name key : List ℕ) (sought : List Value) (exception : Option Exception) → (delete world name key sought exception).rows ≡ []
delete-rows world name key sought exception = delete_at-rows world name key sought exception (world name)

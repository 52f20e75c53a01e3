-- The outcome of an update, case by case.
use Rattle.std.specs.Prelude.{◌≡◌, ℕ, true, false, nat_lt, List, [], ◌∷◌, length, Option, Some, None, refl}
use Rattle.std.proofs.Common.{sym, ap, ◌∙◌}
use Rattle.aria_value.specs.declared.value.Value.{Value}
use Rattle.aria_value.specs.declared.definition.Definition.{Definition}
use Rattle.aria_value.specs.Order.{key_columns}
use Rattle.aria_model.specs.declared.refusal.Refusal.{Refusal}
use Rattle.aria_model.specs.declared.refusal.Refusal.TheVariants.{NoTable, NoKey, TooManyRows}
use Rattle.aria_model.specs.declared.refusal.Exception.{Exception}
use Rattle.aria_model.specs.declared.reply.Reply.TheVariants.{Count, No}
use Rattle.aria_model.specs.declared.statement.Setting.{Setting}
use Rattle.aria_model.specs.World.{World, Table, Content, Sound, Crashed, with_table}
use Rattle.aria_model.specs.Step.{Outcome, refused, first_of, refused_where, bad_value, unless, spent, spent_for, Puts, key_number, bad_sought, concerned, by_key, with_content, too_many, unknown_column, bad_setting, set_all, inserted, update}
use Rattle.aria_memory.specs.Performs.{Leaves}
use Rattle.aria_memory.proofs.Worlds.{with_table_same}
use Rattle.aria_memory.proofs.Outcomes.{sound, no_rows_unless, same_puts, inserted-rows}

-- ---- an update of a sound table

-- what an update does with the rows of a sound table that it concerns, by the first of the refusals before that, if there is one
abbrev pub update_tested : World → List ℕ → Definition → List (List Value) → List Setting → Option Exception → Option Refusal → List (List Value) → Outcome
update_tested world name d rows settings exception bad found =
    unless (first_of (bad ∷ too_many found ∷ spent exception ∷ [])) world (inserted world name (sound d rows) (length found) (set_all d settings exception 1 rows found))

-- the refusals of an update whose rows aren't looked at
abbrev pub bad_first : Definition → List Value → List Setting → ℕ → Option Refusal
bad_first d sought settings n = first_of (unknown_column d.columns settings ∷ bad_value (bad_sought d.columns [] (key_columns d.keys n) sought) ∷ bad_value (bad_setting d settings) ∷ [])

regrouped : (u s b t p : Option Refusal) → first_of (u ∷ s ∷ first_of (b ∷ t ∷ p ∷ []) ∷ []) ≡ first_of (first_of (u ∷ s ∷ b ∷ []) ∷ t ∷ p ∷ [])
regrouped (Some w) s b t p = refl
regrouped None (Some w) b t p = refl
regrouped None None (Some w) t p = refl
regrouped None None None (Some w) p = refl
regrouped None None None None (Some w) = refl
regrouped None None None None None = refl

-- an update at what a name has
abbrev pub update_at : World → List ℕ → List ℕ → List Value → List Setting → Option Exception → Option Table → Outcome
update_at world name key sought settings exception found = elim found [
  | None ↦ refused world (NoTable name)
  | Some table ↦ with_content world name table.content (λ rows.
      by_key world table.definition key sought (unknown_column table.definition.columns settings)
      (λ number. first_of (bad_value (bad_setting table.definition settings) ∷ too_many (concerned table.definition number sought rows) ∷ spent_for table exception ∷ []))
      (λ number. inserted world name table (length (concerned table.definition number sought rows))
      (set_all table.definition settings exception 1 rows (concerned table.definition number sought rows))))
]

-- an update by a key of this number, or by none
abbrev update_by : World → List ℕ → Definition → List (List Value) → List ℕ → List Value → List Setting → Option Exception → Option ℕ → Outcome
update_by world name d rows key sought settings exception number = elim number [
  | None ↦ refused world (NoKey key)
  | Some n ↦ unless (first_of (unknown_column d.columns settings ∷ bad_value (bad_sought d.columns [] (key_columns d.keys n) sought)
      ∷ first_of (bad_value (bad_setting d settings) ∷ too_many (concerned d n sought rows) ∷ spent exception ∷ []) ∷ [])) world
      (inserted world name (sound d rows) (length (concerned d n sought rows)) (set_all d settings exception 1 rows (concerned d n sought rows)))
]

update_numbered : (world : World) (name : List ℕ) (d : Definition) (rows : List (List Value)) (key : List ℕ) (sought : List Value) (settings : List Setting) (exception : Option Exception)
    (number : Option ℕ) → world name ≡ Some (sound d rows) → key_number d.keys key ≡ number → update world name key sought settings exception ≡ update_by world name d rows key sought settings exception number
update_numbered world name d rows key sought settings exception number has is =
    ap (update_at world name key sought settings exception) has ∙ ap (update_by world name d rows key sought settings exception) is

pub update_absent : (world : World) (name key : List ℕ) (sought : List Value) (settings : List Setting) (exception : Option Exception) → world name ≡ None
    → update world name key sought settings exception ≡ refused world (NoTable name)
update_absent world name key sought settings exception absent = ap (update_at world name key sought settings exception) absent

pub update_keyless : (world : World) (name : List ℕ) (d : Definition) (rows : List (List Value)) (key : List ℕ) (sought : List Value) (settings : List Setting) (exception : Option Exception)
    → world name ≡ Some (sound d rows) → key_number d.keys key ≡ None → update world name key sought settings exception ≡ refused world (NoKey key)
update_keyless world name d rows key sought settings exception has is = update_numbered world name d rows key sought settings exception None has is

-- an update by a key that there is, by its tests and the rows that it concerns
pub update_is : (world : World) (name : List ℕ) (d : Definition) (rows : List (List Value)) (key : List ℕ) (sought : List Value) (settings : List Setting) (exception : Option Exception)
    (n : ℕ) (bad : Option Refusal) (found : List (List Value)) → world name ≡ Some (sound d rows) → key_number d.keys key ≡ Some n → bad_first d sought settings n ≡ bad
    → concerned d n sought rows ≡ found → update world name key sought settings exception ≡ update_tested world name d rows settings exception bad found
update_is world name d rows key sought settings exception n bad found has is b f =
    let all = concerned d n sought rows in
    update_numbered world name d rows key sought settings exception (Some n) has is
    ∙ ap (λ why. unless why world (inserted world name (sound d rows) (length all) (set_all d settings exception 1 rows all)))
    (regrouped (unknown_column d.columns settings) (bad_value (bad_sought d.columns [] (key_columns d.keys n) sought)) (bad_value (bad_setting d settings)) (too_many all) (spent exception))
    ∙ (λ i. update_tested world name d rows settings exception (b i) (f i))

-- what rows that are few enough leave
abbrev tested_by : World → List ℕ → Definition → List (List Value) → ℕ → Option Refusal → Option Exception → Puts → Outcome
tested_by world name d rows count many exception puts = unless (first_of (None ∷ many ∷ spent exception ∷ [])) world (inserted world name (sound d rows) count puts)

pub update_many : (world : World) (name : List ℕ) (d : Definition) (rows : List (List Value)) (settings : List Setting) (exception : Option Exception) (found : List (List Value))
    → nat_lt 65536 (length found) ≡ true → update_tested world name d rows settings exception None found ≡ refused world TooManyRows
update_many world name d rows settings exception found many =
    ap (λ b. tested_by world name d rows (length found) (refused_where b TooManyRows) exception (set_all d settings exception 1 rows found)) many

pub update_spent : (world : World) (name : List ℕ) (d : Definition) (rows : List (List Value)) (settings : List Setting) (exception : Option Exception) (found : List (List Value)) (why : Refusal)
    → nat_lt 65536 (length found) ≡ false → spent exception ≡ Some why → update_tested world name d rows settings exception None found ≡ refused world why
update_spent world name d rows settings exception found why few is =
    λ i. unless (first_of (None ∷ refused_where (few i) TooManyRows ∷ is i ∷ [])) world (inserted world name (sound d rows) (length found) (set_all d settings exception 1 rows found))

set_by : (world : World) (name : List ℕ) (d : Definition) (rows : List (List Value)) (settings : List Setting) (exception : Option Exception) (found : List (List Value)) (puts : Puts)
    → nat_lt 65536 (length found) ≡ false → exception ≡ None → set_all d settings None 1 rows found ≡ puts
    → update_tested world name d rows settings exception None found ≡ inserted world name (sound d rows) (length found) puts
set_by world name d rows settings exception found puts few none leaves =
    ap (λ e. update_tested world name d rows settings e None found) none
    ∙ (λ i. tested_by world name d rows (length found) (refused_where (few i) TooManyRows) None (leaves i))

pub update_refused : (world : World) (name : List ℕ) (d : Definition) (rows : List (List Value)) (settings : List Setting) (exception : Option Exception) (found : List (List Value)) (why : Refusal)
    → nat_lt 65536 (length found) ≡ false → exception ≡ None → Some why ≡ (set_all d settings None 1 rows found).refusal
    → update_tested world name d rows settings exception None found ≡ refused world why
update_refused world name d rows settings exception found why few none refusal =
    let puts = set_all d settings None 1 rows found in
    set_by world name d rows settings exception found (record { rows = puts.rows; refusal = Some why }) few none (same_puts puts puts.rows (Some why) refl refusal)

pub update_set : (world : World) (name : List ℕ) (d : Definition) (rows new : List (List Value)) (settings : List Setting) (exception : Option Exception) (found : List (List Value))
    → nat_lt 65536 (length found) ≡ false → exception ≡ None → None ≡ (set_all d settings None 1 rows found).refusal → new ≡ (set_all d settings None 1 rows found).rows
    → update_tested world name d rows settings exception None found ≡ record { world = with_table world name (Some (sound d new)); rows = []; reply = Count (length found) }
update_set world name d rows new settings exception found few none refusal leaves =
    set_by world name d rows settings exception found (record { rows = new; refusal = None }) few none (same_puts (set_all d settings None 1 rows found) new None leaves refusal)

-- ---- replies that leave the table as it is

-- a refusal leaves a table as it was
pub leaves_same : (world : World) (name : List ℕ) (table : Table) (outcome : Outcome) (why : Refusal) → world name ≡ Some table → outcome ≡ refused world why
    → Leaves outcome (with_table world name (Some table)) (No why)
leaves_same world name table outcome why has is = record {
  world = with_table_same world name (Some table) has ∙ sym (ap (λ o. o.world) is);
  reply = sym (ap (λ o. o.reply) is);
}

-- ---- an update tells no rows

-- what is done by a key of this number, or by none
abbrev keyed_by : World → Definition → List ℕ → List Value → Option Refusal → (ℕ → Option Refusal) → (ℕ → Outcome) → Option ℕ → Outcome
keyed_by world d key sought columns later does number = elim number [
  | None ↦ refused world (NoKey key)
  | Some n ↦ unless (first_of (columns ∷ bad_value (bad_sought d.columns [] (key_columns d.keys n) sought) ∷ later n ∷ [])) world (does n)
]

keyed_by-rows : (world : World) (d : Definition) (key : List ℕ) (sought : List Value) (columns : Option Refusal) (later : ℕ → Option Refusal) (does : ℕ → Outcome) (number : Option ℕ)
    → ((n : ℕ) → (does n).rows ≡ []) → (keyed_by world d key sought columns later does number).rows ≡ []
keyed_by-rows world d key sought columns later does None none = refl
keyed_by-rows world d key sought columns later does (Some n) none =
    no_rows_unless (first_of (columns ∷ bad_value (bad_sought d.columns [] (key_columns d.keys n) sought) ∷ later n ∷ [])) world (does n) (none n)

-- an update of a table with this content
abbrev update_content : World → List ℕ → List ℕ → List Value → List Setting → Option Exception → Table → Content → Outcome
update_content world name key sought settings exception table content = with_content world name content (λ rows.
    by_key world table.definition key sought (unknown_column table.definition.columns settings)
    (λ number. first_of (bad_value (bad_setting table.definition settings) ∷ too_many (concerned table.definition number sought rows) ∷ spent_for table exception ∷ []))
    (λ number. inserted world name table (length (concerned table.definition number sought rows))
    (set_all table.definition settings exception 1 rows (concerned table.definition number sought rows))))

update_content-rows : (world : World) (name key : List ℕ) (sought : List Value) (settings : List Setting) (exception : Option Exception) (table : Table) (content : Content)
    → (update_content world name key sought settings exception table content).rows ≡ []
update_content-rows world name key sought settings exception table Crashed = refl
update_content-rows world name key sought settings exception table (Sound rows) =
    keyed_by-rows world table.definition key sought (unknown_column table.definition.columns settings)
    (λ number. first_of (bad_value (bad_setting table.definition settings) ∷ too_many (concerned table.definition number sought rows) ∷ spent_for table exception ∷ []))
    (λ number. inserted world name table (length (concerned table.definition number sought rows))
    (set_all table.definition settings exception 1 rows (concerned table.definition number sought rows)))
    (key_number table.definition.keys key)
    (λ n. inserted-rows world name table (length (concerned table.definition n sought rows)) (set_all table.definition settings exception 1 rows (concerned table.definition n sought rows)))

update_at-rows : (world : World) (name key : List ℕ) (sought : List Value) (settings : List Setting) (exception : Option Exception) (found : Option Table)
    → (update_at world name key sought settings exception found).rows ≡ []
update_at-rows world name key sought settings exception None = refl
update_at-rows world name key sought settings exception (Some table) = update_content-rows world name key sought settings exception table table.content

pub update-rows : (world : World) (name key : List ℕ) (sought : List Value) (settings : List Setting) (exception : Option Exception) → (update world name key sought settings exception).rows ≡ []
update-rows world name key sought settings exception = update_at-rows world name key sought settings exception (world name)

-- The keys of a definition by their numbers.
use Rattle.std.specs.Prelude.{◌≡◌, ℕ, zero, suc, ◌<◌, ◌≤◌, Bool, true, false, cond, List, [], ◌∷◌, length, Option, Some, None, refl}
use Rattle.std.specs.List.{list_all}
use Rattle.std.proofs.Common.{arith}
use Rattle.std.proofs.lemmas.Bool.{and_parts, leb-true}
use Rattle.aria_value.specs.declared.definition.Column.{Column}
use Rattle.aria_value.specs.declared.definition.Key.{Key}
use Rattle.aria_value.specs.declared.definition.Definition.{Definition}
use Rattle.aria_value.specs.Defined.{same_name, is_key, is_definition}
use Rattle.aria_value.specs.Order.{key_columns}
use Rattle.aria_value.proofs.Definitions.{definition_is}
use Rattle.aria_model.specs.Step.{option_suc, key_number}
use Rattle.aria_memory.specs.Keyed.{are_columns_of}

suc_is : (found : Option ℕ) (n : ℕ) → option_suc found ≡ Some n → (m : ℕ) × (found ≡ Some m) × (n ≡ suc m)
suc_is None n is = absurd (cc)
suc_is (Some m) n is = (m, refl, cc)

number_step : (same : Bool) (found : Option ℕ) (n l : ℕ) → cond same (Some 0) (option_suc found) ≡ Some n → ((m : ℕ) → found ≡ Some m → m < l) → n < suc l
number_step true found n l is below = let first : 0 ≡ n = cc in omega arith
number_step false found n l is below =
    let further = suc_is found n is in
    let low = below further.0 further.1 in
    let next = further.2 in
    omega arith

-- a key that is found is one of them
pub number_within : (keys : List Key) (wanted : List ℕ) (n : ℕ) → key_number keys wanted ≡ Some n → n < length keys
number_within [] wanted n is = absurd (cc)
number_within (key ∷ keys) wanted n is =
    number_step (same_name key.name wanted) (key_number keys wanted) n (length keys) is (λ m found. number_within keys wanted m found)

columns_step : (columns : List Column) (key : Key) → is_key columns key ≡ true → (0 < length key.columns) × (are_columns_of columns key.columns ≡ true)
columns_step columns key is =
    let parts = and_parts _ _ is in
    let own = and_parts _ _ parts.0 in
    let some : 1 ≤ length key.columns = leb-true 1 (length key.columns) own.0 in
    (omega arith, own.1)

columns_from : (columns : List Column) (keys : List Key) (n : ℕ) → list_all (is_key columns) keys ≡ true → n < length keys
    → (0 < length (key_columns keys n)) × (are_columns_of columns (key_columns keys n) ≡ true)
columns_from columns [] n all low = absurd (omega arith)
columns_from columns (key ∷ keys) zero all low = columns_step columns key (and_parts (is_key columns key) (list_all (is_key columns) keys) all).0
columns_from columns (key ∷ keys) (suc n) all low = columns_from columns keys n (and_parts (is_key columns key) (list_all (is_key columns) keys) all).1 (omega arith)

-- a key has columns, and they are the table's
pub key_has_columns : (d : Definition) (n : ℕ) → is_definition d ≡ true → n < length d.keys → (0 < length (key_columns d.keys n)) × (are_columns_of d.columns (key_columns d.keys n) ≡ true)
key_has_columns d n is low = columns_from d.columns d.keys n (and_parts _ _ (definition_is d is).keys).1 low

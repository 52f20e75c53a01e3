-- The columns that an update sets.
use Rattle.std.specs.Prelude.{◌≡◌, ℕ, zero, suc, ◌+◌, ◌<◌, ◌≤◌, Bool, true, false, not, nat_lt, cond, List, [], ◌∷◌, length, drop, Some, None, slice_set, refl}
use Rattle.std.specs.List.{list_any, position, position_or_len}
use Rattle.std.proofs.Common.{sym, ap, arith, get_or, drop-cons, add-one, ltb-false, lt-ltb, le-ltb}
use Rattle.std.proofs.lemmas.List.Quantifiers.{position-Some}
use Rattle.aria_value.specs.declared.value.Value.{Value}
use Rattle.aria_value.specs.declared.definition.Column.{Column}
use Rattle.aria_value.specs.declared.definition.ColumnType.TheVariants.{Int}
use Rattle.aria_value.specs.Defined.{same_name}
use Rattle.aria_model.specs.declared.refusal.Refusal.TheVariants.{NoColumn}
use Rattle.aria_model.specs.declared.statement.Setting.{Setting}
use Rattle.aria_model.specs.Step.{unknown_column, set_one}

set_at : (columns : List Column) (name : List ℕ) (v : Value) (row : List Value) (i : ℕ) (d : Column) → i < length columns → same_name (get_or columns i d).name name ≡ true
    → ((k : ℕ) → k < i → same_name (get_or columns k d).name name ≡ false) → set_one columns name v row ≡ slice_set row i v
set_at [] name v row i d low here before = absurd (omega arith)
set_at (c ∷ cs) name v [] zero d low here before = refl
set_at (c ∷ cs) name v (old ∷ row) zero d low here before = rw here refl
set_at (c ∷ cs) name v [] (suc i) d low here before = refl
set_at (c ∷ cs) name v (old ∷ row) (suc i) d low here before =
    let first : same_name c.name name ≡ false = before 0 (omega arith) in
    rw first (ap (λ l. old ∷ l) (set_at cs name v row i d (omega arith) here (λ k h. before (suc k) (omega arith))))

-- a column for where none is found
pub no_column : Column
no_column = record { name = []; kind = Int }

-- the first column of the name is set
pub set_found : (columns : List Column) (name : List ℕ) (v : Value) (row : List Value) (i : ℕ) (d : Column) → position (λ c. same_name c.name name) columns ≡ Some i
    → set_one columns name v row ≡ slice_set row i v
set_found columns name v row i d is =
    let at = position-Some (λ c. same_name c.name name) columns i d is in
    set_at columns name v row i d at.0 at.1 at.2

none_step : (same : Bool) (n l : ℕ) → nat_lt (cond (not same) (1 + n) 0) (suc l) ≡ false → (same ≡ false) × (nat_lt n l ≡ false)
none_step true n l none =
    let low : nat_lt 0 (suc l) ≡ true = lt-ltb 0 (suc l) (omega arith) in absurd (cc)
none_step false n l none =
    let past : suc l ≤ 1 + n = ltb-false (1 + n) (suc l) none in
    (refl, le-ltb n l (omega arith))

set_nowhere : (columns : List Column) (name : List ℕ) (v : Value) (row : List Value) → nat_lt (position_or_len (λ c. same_name c.name name) columns) (length columns) ≡ false
    → set_one columns name v row ≡ row
set_nowhere [] name v row none = refl
set_nowhere (c ∷ cs) name v [] none = refl
set_nowhere (c ∷ cs) name v (old ∷ row) none =
    let parts = none_step (same_name c.name name) (position_or_len (λ (x : Column). same_name x.name name) cs) (length cs) none in
    rw parts.0 (ap (λ l. old ∷ l) (set_nowhere cs name v row parts.1))

none_where : (b : Bool) (n : ℕ) → cond b (Some n) None ≡ None → b ≡ false
none_where true n none = absurd (cc)
none_where false n none = refl

-- no column of the name is set
pub set_none : (columns : List Column) (name : List ℕ) (v : Value) (row : List Value) → position (λ c. same_name c.name name) columns ≡ None → set_one columns name v row ≡ row
set_none columns name v row none =
    set_nowhere columns name v row
    (none_where (nat_lt (position_or_len (λ (c : Column). same_name c.name name) columns) (length columns)) (position_or_len (λ (c : Column). same_name c.name name) columns) none)

-- one setting on: whether its column is there
pub unknown_here : (columns : List Column) (settings : List Setting) (i : ℕ) (s : Setting) → i < length settings → s ≡ get_or settings i s
    → unknown_column columns (drop i settings) ≡ cond (list_any (λ c. same_name c.name s.column) columns) (unknown_column columns (drop (i + 1) settings)) (Some (NoColumn s.column))
unknown_here columns settings i s low is = rw (add-one, drop-cons settings i s, sym is) refl

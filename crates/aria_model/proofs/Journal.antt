-- Lines that change the tables, one after another, and statements that met an exception.
use Rattle.std.proofs.Common.{◌≡◌, ◌≢◌, ℕ, ◌<◌, ◌≤◌, Bool, true, false, not, ◌==◌, nat_le, if◌then◌else◌, List, [], ◌∷◌, ◌++◌, length, Option, Some, None, Result, Ok, Err, refl, ap, arith, eq-eqb, ne_eqb}
use Rattle.std.specs.Prelude.{◌↔◌, cond}
use Rattle.std.specs.List.{list_all, All}
use Rattle.std.proofs.lemmas.Bool.{leb-true}
use Rattle.std.proofs.lemmas.List.Elements.{All-head, All-tail}
use Rattle.aria_model.specs.declared.refusal.Refusal.{Refusal}
use Rattle.aria_model.specs.declared.refusal.Refusal.TheVariants.{LineTooLong}
use Rattle.aria_model.specs.declared.refusal.Exception.{Exception}
use Rattle.aria_model.specs.declared.refusal.Met.{Met}
use Rattle.aria_model.specs.declared.statement.Statement.{Statement}
use Rattle.aria_model.specs.Token.{is_blank, tokens}
use Rattle.aria_model.specs.Grammar.{read_line, statement, ◌>>=◌}
use Rattle.aria_model.specs.World.{World}
use Rattle.aria_model.specs.Step.{refused, option_suc, answered, perform, step}
use Rattle.aria_model.specs.Script.{no_exception, world_after}
use Rattle.aria_model.specs.Journal.{changes, changes_read, is_change, first_no_change, met_at}

-- ---- a line by what was read of it

-- The step of a line that spells a statement.
pub step-statement : (world : World) (line : List ℕ) (s : Statement) (exception : Option Exception) → read_line line ≡ Ok (Some s)
    → step world line exception ≡ perform world s exception
step-statement world line s exception read = ap (λ (r : Result (Option Statement) Refusal). answered world r exception) read

-- The step of a line that is refused.
pub step-refused : (world : World) (line : List ℕ) (why : Refusal) (exception : Option Exception) → read_line line ≡ Err why
    → step world line exception ≡ refused world why
step-refused world line why exception read = ap (λ (r : Result (Option Statement) Refusal). answered world r exception) read

-- A line that spells a statement is a change where the statement changed the tables.
pub is_change-statement : (world : World) (line : List ℕ) (s : Statement) (exception : Option Exception) → read_line line ≡ Ok (Some s)
    → is_change world line exception ≡ changes s (perform world s exception).reply
is_change-statement world line s exception read = ap (λ (r : Result (Option Statement) Refusal). changes_read world r exception) read

-- A blank line is none.
pub is_change-blank : (world : World) (line : List ℕ) (exception : Option Exception) → read_line line ≡ Ok None → is_change world line exception ≡ false
is_change-blank world line exception read = ap (λ (r : Result (Option Statement) Refusal). changes_read world r exception) read

-- Nor is a line that spells no statement.
pub is_change-refused : (world : World) (line : List ℕ) (why : Refusal) (exception : Option Exception) → read_line line ≡ Err why → is_change world line exception ≡ false
is_change-refused world line why exception read = ap (λ (r : Result (Option Statement) Refusal). changes_read world r exception) read

-- what is read of a line that is short enough or not, of blanks alone or not, and spells a statement or none
abbrev reading : Bool → Bool → Result Statement Refusal → Result (Option Statement) Refusal
reading short blank spelled = cond (not short) (Err LineTooLong) (cond blank (Ok None) (spelled >>= λ s. Ok (Some s)))

short_reading : (short blank : Bool) (spelled : Result Statement Refusal) (s : Statement) → reading short blank spelled ≡ Ok (Some s) → (short ≡ true) × (blank ≡ false)
short_reading true true spelled s h = absurd (cc)
short_reading true false spelled s h = (refl, refl)
short_reading false blank spelled s h = absurd (cc)

not_empty : (line : List ℕ) → list_all is_blank line ≡ false → 1 ≤ length line
not_empty [] h = absurd (cc)
not_empty (b ∷ bs) h = omega arith

-- A line that spells a statement has a byte, and no more than a line may have.
pub spelled_length : (line : List ℕ) (s : Statement) → read_line line ≡ Ok (Some s) → (1 ≤ length line) × (length line ≤ 1048576)
unfolding read_line
spelled_length line s h =
    let parts = short_reading (nat_le (length line) 1048576) (list_all is_blank line) (statement (tokens line)) s h in
    (not_empty line parts.1, leb-true (length line) 1048576 parts.0)

-- ---- lines that change the tables

-- where lines that all change the tables begin with a line that does or not, and go on with others
first_by : (here : Bool) (front all back : Option ℕ) → (front ≡ None → (all ≡ None) ↔ (back ≡ None))
    → (if here then option_suc front else Some 0) ≡ None → ((if here then option_suc all else Some 0) ≡ None) ↔ (back ≡ None)
first_by true None None back more none = ((λ _. (more refl).0 refl), (λ _. refl))
first_by true None (Some n) back more none = ((λ e. absurd (cc)), (λ e. let is : Some n ≡ None = (more refl).1 e in absurd (cc)))
first_by true (Some n) all back more none = absurd (cc)
first_by false front all back more none = absurd (cc)

-- Behind lines that all change the tables others all do, exactly if they do from the tables that the first left.
pub first_no_change-append : (world : World) (a b : List (List ℕ)) → first_no_change world a ≡ None
    → (first_no_change world (a ++ b) ≡ None) ↔ (first_no_change (world_after world a no_exception) b ≡ None)
first_no_change-append world [] b none = ((λ e. e), (λ e. e))
first_no_change-append world (line ∷ lines) b none =
    let next = (step world line None).world in
    first_by (is_change world line None) (first_no_change next lines) (first_no_change next (lines ++ b)) (first_no_change (world_after next lines no_exception) b)
    (first_no_change-append next lines b) none

-- One more line that changes the tables which the others left.
pub first_no_change-push : (world : World) (lines : List (List ℕ)) (line : List ℕ) → first_no_change world lines ≡ None
    → is_change (world_after world lines no_exception) line None ≡ true → first_no_change world (lines ++ line ∷ []) ≡ None
first_no_change-push world lines line none change =
    (first_no_change-append world lines (line ∷ []) none).1 (ap (λ (b : Bool). cond b (option_suc None) (Some 0)) change)

-- ---- exceptions by the number of the statement

-- what one of this number and reason gives where the later ones give this or nothing
abbrev met_by : Option Exception → Bool → Exception → Option Exception
met_by later here why = elim later [
  | Some other ↦ Some other
  | None ↦ if here then Some why else None
]

-- The last entry is that of its number.
pub met_at-last : (mets : List Met) (met : Met) (nth : ℕ) → met.nth ≡ nth → met_at (mets ++ met ∷ []) nth ≡ Some met.why
met_at-last [] met nth is = ap (λ (b : Bool). met_by None b met.why) (eq-eqb met.nth nth is)
met_at-last (first ∷ mets) met nth is = ap (λ (o : Option Exception). met_by o (first.nth == nth) first.why) (met_at-last mets met nth is)

-- Of another number it counts for nothing.
pub met_at-other : (mets : List Met) (met : Met) (nth : ℕ) → met.nth ≢ nth → met_at (mets ++ met ∷ []) nth ≡ met_at mets nth
met_at-other [] met nth other = ap (λ (b : Bool). met_by None b met.why) (ne_eqb met.nth nth other)
met_at-other (first ∷ mets) met nth other = ap (λ (o : Option Exception). met_by o (first.nth == nth) first.why) (met_at-other mets met nth other)

-- Past the numbers of all entries there is none.
pub met_at-past : (mets : List Met) (nth : ℕ) → All (λ met. met.nth < nth) mets → met_at mets nth ≡ None
met_at-past [] nth below = refl
met_at-past (met ∷ mets) nth below =
    let here : met.nth < nth = All-head (λ (m : Met). m.nth < nth) met mets below in
    let other : (met.nth == nth) ≡ false = ne_eqb met.nth nth (λ is. omega arith) in
    let rest : met_at mets nth ≡ None = met_at-past mets nth (All-tail (λ (m : Met). m.nth < nth) met mets below) in
    (λ i. met_by (rest i) (other i) met.why)

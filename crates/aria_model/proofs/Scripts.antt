-- How a script goes on where lines are added behind.
use Rattle.std.proofs.Common.{◌≡◌, ℕ, suc, ◌+◌, Bool, not, ◌||◌, List, [], ◌∷◌, ◌++◌, length, sym, ap, ◌∙◌, zero-add, suc-add}
use Rattle.std.specs.List.{flat_map, list_any}
use Rattle.std.proofs.lemmas.Grind.{flat_map-append}
use Rattle.std.proofs.lemmas.List.Elements.{filter-append}
use Rattle.std.proofs.lemmas.List.Folds.{list_any-append}
use Rattle.aria_model.specs.World.{World}
use Rattle.aria_model.specs.Grammar.{is_blank_line}
use Rattle.aria_model.specs.Step.{Outcome, step}
use Rattle.aria_model.specs.Script.{statements, Exceptions, outcomes, world_after, outcome_text, told, is_refused, any_refused}

-- the exceptions of the statements from the nth on, counted from 0
abbrev pub from_nth : Exceptions → ℕ → Exceptions
from_nth exceptions n = λ nth. exceptions (n + nth)

-- from the first on, all of them
from_nth-zero : (exceptions : Exceptions) → exceptions ≡ from_nth exceptions 0
from_nth-zero exceptions = λ i. λ nth. ap exceptions (sym (zero-add nth)) i

-- past the first, and n more
from_nth-suc : (exceptions : Exceptions) (n : ℕ) → from_nth (λ nth. exceptions (suc nth)) n ≡ from_nth exceptions (suc n)
from_nth-suc exceptions n = λ i. λ nth. ap exceptions (sym (suc-add n nth)) i

-- The statements of lines and then of others.
pub statements-append : (a b : List (List ℕ)) → statements (a ++ b) ≡ statements a ++ statements b
statements-append a b = filter-append (λ line. not (is_blank_line line)) a b

-- Statements go on from the tables that those before them left.
pub world_after-append : (world : World) (a b : List (List ℕ)) (exceptions : Exceptions)
    → world_after world (a ++ b) exceptions ≡ world_after (world_after world a exceptions) b (from_nth exceptions (length a))
world_after-append world [] b exceptions = ap (world_after world b) (from_nth-zero exceptions)
world_after-append world (line ∷ lines) b exceptions =
    let next = (step world line (exceptions 0)).world in
    world_after-append next lines b (λ nth. exceptions (suc nth))
    ∙ ap (world_after (world_after next lines (λ nth. exceptions (suc nth))) b) (from_nth-suc exceptions (length lines))

-- The outcomes of statements, and of others behind them.
pub outcomes-append : (world : World) (a b : List (List ℕ)) (exceptions : Exceptions)
    → outcomes world (a ++ b) exceptions ≡ outcomes world a exceptions ++ outcomes (world_after world a exceptions) b (from_nth exceptions (length a))
outcomes-append world [] b exceptions = ap (outcomes world b) (from_nth-zero exceptions)
outcomes-append world (line ∷ lines) b exceptions =
    let next = (step world line (exceptions 0)).world in
    let later : Exceptions = λ nth. exceptions (suc nth) in
    ap (λ (os : List Outcome). step world line (exceptions 0) ∷ os)
    (outcomes-append next lines b later
    ∙ ap (λ (xs : Exceptions). outcomes next lines later ++ outcomes (world_after next lines later) b xs) (from_nth-suc exceptions (length lines)))

-- the tables after all statements of a script
abbrev pub left_by : World → List (List ℕ) → Exceptions → World
left_by world lines exceptions = world_after world (statements lines) exceptions

-- Lines go on from the tables that those before them left.
pub left_by-append : (world : World) (a b : List (List ℕ)) (exceptions : Exceptions)
    → left_by world (a ++ b) exceptions ≡ left_by (left_by world a exceptions) b (from_nth exceptions (length (statements a)))
left_by-append world a b exceptions = rw (statements-append a b) (world_after-append world (statements a) (statements b) exceptions)

-- What lines tell, and what others behind them tell.
pub told-append : (world : World) (a b : List (List ℕ)) (exceptions : Exceptions)
    → told world (a ++ b) exceptions ≡ told world a exceptions ++ told (left_by world a exceptions) b (from_nth exceptions (length (statements a)))
told-append world a b exceptions =
    let later = from_nth exceptions (length (statements a)) in
    ap (λ (lines : List (List ℕ)). flat_map outcome_text (outcomes world lines exceptions)) (statements-append a b)
    ∙ ap (flat_map outcome_text) (outcomes-append world (statements a) (statements b) exceptions)
    ∙ flat_map-append outcome_text (outcomes world (statements a) exceptions) (outcomes (left_by world a exceptions) (statements b) later)

-- A refusal is among the replies to the first lines or to the others.
pub any_refused-append : (world : World) (a b : List (List ℕ)) (exceptions : Exceptions)
    → any_refused world (a ++ b) exceptions ≡ (any_refused world a exceptions || any_refused (left_by world a exceptions) b (from_nth exceptions (length (statements a))))
any_refused-append world a b exceptions =
    let refuses : Outcome → Bool = λ outcome. is_refused outcome.reply in
    let later = from_nth exceptions (length (statements a)) in
    ap (λ (lines : List (List ℕ)). list_any refuses (outcomes world lines exceptions)) (statements-append a b)
    ∙ ap (list_any refuses) (outcomes-append world (statements a) (statements b) exceptions)
    ∙ list_any-append refuses (outcomes world (statements a) exceptions) (outcomes (left_by world a exceptions) (statements b) later)

use Rattle.std.proofs.Common.{◌<◌, ℕ, length, sym, ◌∙◌, subst}
use Rattle.std.specs.Prelude.{List}
use Rattle.aria_memory.specs.Keyed.{are_columns_of}
use Rattle.aria_memory.proofs.KeyNumbers.{number_within, key_has_columns}
use Rattle.aria_memory.proofs.find.seek.Goals as goal

pub bad_sought-requires-clause-some : goal.bad_sought-requires-clause-some
bad_sought-requires-clause-some c =
    let d = c.args.definition.now in
    let number = c.in_ok-number.number in
    subst (λ (key : List ℕ). 0 < length key) (sym c.key_columns.ensures) (key_has_columns d number c.requires (number_within d.keys c.args.key number c.in_ok-number.ensures.found)).0

pub bad_sought-requires-clause-within : goal.bad_sought-requires-clause-within
bad_sought-requires-clause-within c =
    let d = c.args.definition.now in
    let number = c.in_ok-number.number in
    (λ i. are_columns_of (c.as_slice.ensures i) (c.key_columns.ensures i)) ∙ (key_has_columns d number c.requires (number_within d.keys c.args.key number c.in_ok-number.ensures.found)).1

use Rattle.std.proofs.Common.{◌<◌, length, sym, ◌∙◌, subst}
use Rattle.aria_memory.specs.Keyed.{are_columns_of}
use Rattle.aria_memory.proofs.KeyNumbers.{key_has_columns}
use Rattle.aria_memory.proofs.update.check_update.Goals as goal

pub bad_sought-requires-clause-some : goal.bad_sought-requires-clause-some
bad_sought-requires-clause-some c = subst (λ cs. 0 < length cs) (sym c.key_columns.ensures) (key_has_columns c.args.definition.now c.args.number c.requires.defined c.requires.number).0

pub bad_sought-requires-clause-within : goal.bad_sought-requires-clause-within
bad_sought-requires-clause-within c =
    (λ i. are_columns_of (c.as_slice-columns.ensures i) (c.key_columns.ensures i)) ∙ (key_has_columns c.args.definition.now c.args.number c.requires.defined c.requires.number).1

use Rattle.std.proofs.Common.{ℤ, not, map, Result, subst, ap, ◌∙◌, w64, rules}
use Rattle.std.proofs.lemmas.Int.{to_z-of_z}
use mir.Val.{SFits}
use Rattle.aria_value.specs.declared.definition.Definition.{Definition}
use Rattle.aria_model.specs.declared.refusal.Refusal.{Refusal}
use Rattle.aria_model.specs.declared.refusal.Which.TheVariants.{Packed}
use Rattle.aria_model.specs.Grammar.{is_packed, unless_bad}
use Rattle.aria_statement.specs.Reading.{Reads}
use Rattle.aria_statement.specs.Writing.{column_seen, key_seen, kind_seen}
use Rattle.aria_statement.specs.Defining.{up_to, with_rows}
use Rattle.aria_statement.proofs.Defining.{defined_is}
use Rattle.aria_statement.proofs.definition.defined.Goals as goal

pub returns : goal.returns
returns c =
    let kind = kind_seen c.args.kind in
    let columns = map column_seen c.args.columns.now in
    let keys = map key_seen c.args.keys.now in
    let fits : SFits w64 c.args.rows = search rules in
    subst (λ (read : Result Definition Refusal). Reads c.defined_in_turn.result read) (ap (λ (rows : ℤ). unless_bad (not (is_packed kind)) Packed (with_rows columns keys (up_to 16777216 rows))) (to_z-of_z w64 c.args.rows fits) ∙ defined_is kind c.args.rows columns keys) c.defined_in_turn.ensures

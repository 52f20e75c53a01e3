use Rattle.std.proofs.Common.{◌≡◌, Bool, true, ◌&&◌, nat_le, length, sym, ap, ◌∙◌}
use Rattle.std.proofs.lemmas.Bool.{le-leb}
use Rattle.aria_value.specs.Defined.{same_name, distinct}
use Rattle.aria_statement.proofs.Defining.{good_columns_is}
use Rattle.aria_statement.proofs.definition.are_good_columns.Goals as goal

pub returns-then-columns-le-MAX_COLUMNS-clause-same : goal.returns-then-columns-le-MAX_COLUMNS-clause-same
returns-then-columns-le-MAX_COLUMNS-clause-same c =
    let columns = c.args.columns.now in
    let few : nat_le (length columns) 32 ≡ true = le-leb (length columns) 32 c.if-columns-le-MAX_COLUMNS.true in
    c.are_distinct.ensures ∙ ap (λ (b : Bool). b && distinct (λ a b. same_name a.name b.name) columns) (sym few) ∙ good_columns_is columns

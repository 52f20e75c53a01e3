use Rattle.std.proofs.Common.{ap, ◌∙◌, arith}
use Rattle.aria_value.specs.Reading.{read_row}
use Rattle.aria_value.proofs.StoredRows.{row_again, row_long, rows_found, rows_only}
use Rattle.aria_value.proofs.row_codec.decode_row.Goals as goal

pub returns-then-bytes-clause-read : goal.returns-then-bytes-clause-read
returns-then-bytes-clause-read c = row_long c.args.definition.now c.args.bytes.now (λ i. omega (arith, c.type_inv.bytes i)) (omega arith)

pub returns-then-bytes-clause-only : goal.returns-then-bytes-clause-only
returns-then-bytes-clause-only c = λ row is e.
    row_long c.args.definition.now c.args.bytes.now (λ i. omega (arith, c.type_inv.bytes i)) (omega arith) ∙ ap (read_row c.args.definition.now) e ∙ row_again c.args.definition.now row is

pub returns-clause-found : goal.returns-clause-found
returns-clause-found c = rows_found c.args.definition.now c.args.bytes.now c.row_at.result (λ i. omega (arith, c.type_inv.bytes i)) c.row_at.ensures

pub returns-clause-only : goal.returns-clause-only
returns-clause-only c = λ row is e. rows_only c.args.definition.now c.args.bytes.now row c.row_at.result is e c.row_at.ensures

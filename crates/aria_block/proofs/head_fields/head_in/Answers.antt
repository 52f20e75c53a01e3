use Rattle.std.proofs.Common.{◌≡◌, ◌-◌, length, ap, arith}
use Rattle.aria_block.specs.Pieces.{head_size}
use Rattle.aria_block.proofs.HeadText.{head_long, numbers_of, row_of}
use Rattle.aria_block.proofs.head_fields.head_in.Goals as goal

pub returns-then-bytes-lt-HEAD_FIELDS-clause-row : goal.returns-then-bytes-lt-HEAD_FIELDS-clause-row
returns-then-bytes-lt-HEAD_FIELDS-clause-row c = λ k laid fits is.
    let long = head_long k.places k.row in
    let same = ap length is in
    omega (arith, long, same, c.if-bytes-lt-HEAD_FIELDS.true)

pub returns-clause-row : goal.returns-clause-row
returns-clause-row c = λ k laid fits is.
    let long = head_long k.places k.row in
    let same = ap length is in
    let size : length c.args.bytes.now - 14 ≡ head_size (length k.row) = omega (arith, long, same) in
    row_of k c.numbers_in.result (length c.args.bytes.now - 14) c.fields_of.result laid fits (numbers_of k c.args.bytes.now c.numbers_in.result fits c.numbers_in.ensures.range c.numbers_in.ensures.numbers is) size c.fields_of.ensures

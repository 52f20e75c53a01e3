use Rattle.std.proofs.Common.{◌<◌, length, sym, arith}
use Rattle.std.proofs.lemmas.List.{length-take-le}
use Rattle.aria_statement.proofs.Texts.{hex_within}
use Rattle.aria_statement.proofs.lexer.hex_of.Goals as goal

pub slice_bounds-result-end : goal.slice_bounds-result-end
slice_bounds-result-end c =
    let low : c.in_ok-length.length < length c.args.bytes.now = hex_within c.args.bytes.now c.in_ok-length.length (sym c.in_ok-length.ensures) in
    sym (length-take-le c.in_ok-length.length c.args.bytes.now (omega arith))

pub overflow_add-result : goal.overflow_add-result
overflow_add-result c =
    let low : c.in_ok-length.length < length c.args.bytes.now = hex_within c.args.bytes.now c.in_ok-length.length (sym c.in_ok-length.ensures) in
    omega arith

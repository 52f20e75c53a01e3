use Rattle.std.proofs.Common.{◌≡◌, ◌∙◌, ℕ, sym, ap, arith, length}
use Rattle.aria_block.specs.Pieces.{head_size, tail_size}
use Rattle.aria_block.proofs.Measuring.{blob_long}
use Rattle.aria_block.proofs.row_sizes.blob_size.Goals as goal

pub returns-clause-size : goal.returns-clause-size
returns-clause-size c = λ row same.
    let n : ℕ = length row in
    let long = blob_long row c.args.k in
    let h : c.head_size.result ≡ head_size n = c.head_size.ensures.size ∙ ap head_size (sym same) in
    let t : c.tail_size.result ≡ tail_size n = c.tail_size.ensures ∙ ap tail_size (sym same) in
    omega (arith, long, h, t, same, c.saturating_sub.ensures, c.min.ensures)

use Rattle.std.proofs.Common.{◌≡◌, ℕ, List, ◌++◌, length, take, ap, ◌∙◌, append_assoc}
use Rattle.aria_page.specs.Number.{number}
use Rattle.aria_block.specs.Pieces.{head_of, tail_bytes, head_size}
use Rattle.aria_block.proofs.row_bytes.head_bytes.Goals as goal

nested : (a b c d e : List ℕ) → ((a ++ b) ++ (c ++ d)) ++ e ≡ a ++ (b ++ (c ++ (d ++ e)))
nested a b c d e =
    append_assoc (a ++ b) (c ++ d) e ∙ append_assoc a b ((c ++ d) ++ e) ∙ ap (λ (xs : List ℕ). a ++ (b ++ xs)) (append_assoc c d e)

pub returns-clause-is : goal.returns-clause-is
unfolding head_of
returns-clause-is c = λ head.
    let row : List ℕ = c.args.row.now in
    rw (c.add-2.ensures.items, c.add_page.ensures.items, c.add_tail.ensures.items, c.add.ensures.items, c.u32_bytes.ensures, c.head_size.ensures, c.new-head.ensures)
    (nested (number 4 (length row)) (tail_bytes c.args.tail) (number 4 c.args.blob) (number 1 c.args.blobs) (take (head_size (length row)) row))

use Rattle.std.proofs.Common.{ℕ, List, [], ◌∷◌, ◌++◌, sym, ap, ◌∙◌, append_assoc}
use Rattle.aria_page.specs.Number.{number}
use Rattle.aria_page.proofs.Numbers.{number-one}
use Rattle.aria_block.proofs.row_bytes.add_page.Goals as goal

pub returns-clause-items : goal.returns-clause-items
returns-clause-items c =
    rw (c.add-2.ensures.items, c.add.ensures.items, c.u32_bytes.ensures)
    (append_assoc c.args.head.now.items (number 4 c.args.page) (c.args.nth ∷ []) ∙ ap (λ (xs : List ℕ). c.args.head.now.items ++ (number 4 c.args.page ++ xs)) (sym (number-one c.args.nth c.ranges.nth.fits)))

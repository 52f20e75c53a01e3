use Rattle.std.proofs.Common.{◌∙◌}
use Rattle.aria_table.proofs.Beginning.{found_in}
use Rattle.aria_table.proofs.refusing.has_entry.Goals as goal

pub returns-clause-has : goal.returns-clause-has
returns-clause-has g c = λ told is_row keys content held low.
    c.is_some.ensures ∙ found_in is_row keys c.args.slot c.args.key (g.P.Pages.state c.args.pages.now) content held low c.args.prefix.now c.in_ok-found.found (c.in_ok-found.ensures.first told keys held.walks held.trees low)

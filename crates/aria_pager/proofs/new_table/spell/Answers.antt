use Rattle.std.proofs.Common.{◌∙◌, ℕ, List, length, ap, sym}
use Rattle.aria_pager.proofs.Spelling.{new_table}
use Rattle.aria_pager.proofs.new_table.spell.Goals as goal

pub returns-clause-table : goal.returns-clause-table
returns-clause-table c = new_table c.args.definition.now _ c.requires.definition c.in_ok-stored.ensures.names c.in_ok-stored.ensures.spelled c.in_ok-stored.ensures.length c.requires.created c.in_ok-keys.ensures.index c.in_ok-keys.ensures.data c.in_ok-keys.ensures.sums
    (sym (ap (λ (l : List ℕ). length l) c.body.ensures.value) ∙ c.body.ensures.len, sym (ap (λ (l : List ℕ). length l) c.body-2.ensures.value) ∙ c.body-2.ensures.len)

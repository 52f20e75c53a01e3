use Rattle.std.proofs.Common.{sym, ap, ◌∙◌}
use Rattle.aria_memory.specs.Keyed.{values_cmp}
use Rattle.aria_memory.specs.Undone.{undone}
use Rattle.aria_memory.proofs.Entries.{undone-push}
use Rattle.aria_memory.proofs.insert.take_back.Goals as goal

pub loop-key-preserved : goal.loop-key-preserved
loop-key-preserved c =
    ap (undone values_cmp c.pop.new.self.items) c.remove.ensures.entries
    ∙ sym (undone-push values_cmp c.pop.new.self.items c.in-Some.key c.loop-key.rows.entries)
    ∙ ap (λ keys. undone values_cmp keys c.loop-key.rows.entries) (sym c.in-Some.ensures.items)
    ∙ c.loop-key.invariant

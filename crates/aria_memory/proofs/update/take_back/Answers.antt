use Rattle.std.proofs.Common.{◌∷◌, [], length, arith, length-append, sym, ap, ◌∙◌}
use Rattle.aria_memory.specs.Updated.{taken_back}
use Rattle.aria_memory.proofs.Changed.{taken_back-push}
use Rattle.aria_memory.proofs.update.take_back.Goals as goal

pub loop-change-smaller : goal.loop-change-smaller
loop-change-smaller c =
    let longer = ap length c.in-Some.ensures.items in
    omega (arith, longer, length-append c.pop.new.self.items (c.in-Some.change ∷ []))

pub loop-change-preserved : goal.loop-change-preserved
loop-change-preserved c =
    ap (taken_back c.pop.new.self.items) c.in_ok-take_back_one.ensures
    ∙ sym (taken_back-push c.pop.new.self.items c.in-Some.change c.loop-change.rows.entries)
    ∙ ap (λ steps. taken_back steps c.loop-change.rows.entries) (sym c.in-Some.ensures.items)
    ∙ c.loop-change.invariant

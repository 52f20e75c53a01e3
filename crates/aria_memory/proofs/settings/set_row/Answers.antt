use Rattle.std.proofs.Common.{◌+◌, ◌++◌, ◌∷◌, [], map, drop, add-one, append_assoc, sym, ap, ◌∙◌}
use Rattle.std.specs.Option.{option_map}
use Rattle.aria_memory.specs.LastSet.{with_set}
use Rattle.aria_memory.proofs.LastSet.{value_next}
use Rattle.aria_memory.proofs.settings.set_row.Goals as goal

pub loop-nth-preserved : goal.loop-nth-preserved
loop-nth-preserved c =
    let sets = map (option_map (λ v. v.now)) c.args.sets.now in
    let row = c.args.row.now in
    let i = c.loop-nth.nth in
    let left = with_set (drop (i + 1) sets) (drop (i + 1) row) in
    let next = value_next sets row i c.index-row-nth.result c.loop-nth-test.true c.index-row-nth.is in
    ap (λ l. l ++ left) c.in_ok-push.ensures.items
    ∙ append_assoc c.loop-nth.values.items (c.in_ok-copy.field-0 ∷ []) left
    ∙ ap (λ v. c.loop-nth.values.items ++ v ∷ left) (c.in_ok-copy.ensures ∙ c.value_set.ensures)
    ∙ ap (λ l. c.loop-nth.values.items ++ l) (sym (rw add-one next))
    ∙ c.loop-nth.invariant

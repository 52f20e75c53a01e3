use Rattle.std.proofs.Common.{◌≡◌, List, length, arith, sym, ap, ◌∙◌}
use Rattle.std.specs.Vec.Iter.{into_iter_items}
use Rattle.aria_value.specs.declared.value.Value.{Value}
use Rattle.aria_memory.specs.Keyed.{values_cmp}
use Rattle.aria_memory.specs.Without.{without}
use Rattle.aria_memory.proofs.Keyed.{values_total}
use Rattle.aria_memory.proofs.Without.{without-cons, without-none}
use Rattle.aria_memory.proofs.table.delete_all.Goals as goal

pub loop-key-preserved : goal.loop-key-preserved
loop-key-preserved c =
    let left = into_iter_items c.next.new.self in
    let old = c.loop-key.rows.entries in
    record {
      rest = ap (without values_cmp left) c.remove.ensures.entries
          ∙ without-cons values_total c.in-Some.key left old c.loop-key.invariant.ordered
          ∙ ap (λ (keys : List (List Value)). without values_cmp keys old) (sym c.in-Some.ensures.steps.0)
          ∙ c.loop-key.invariant.rest;
      ordered = c.remove.ensures.ordered;
      whole = let longer = ap length c.in-Some.ensures.steps.0 in omega (arith, longer, c.in-Some.ensures.steps.1, c.loop-key.invariant.whole);
    }

pub returns : goal.returns
returns c =
    let none : length (into_iter_items c.loop-key.key-iterator) ≡ 0 = omega (arith, c.in-None.ensures.steps.0, c.loop-key.invariant.whole) in
    sym (without-none values_cmp (into_iter_items c.loop-key.key-iterator) c.loop-key.rows.entries none) ∙ c.loop-key.invariant.rest

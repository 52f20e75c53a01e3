use Rattle.std.proofs.Common.{◌≡◌, vec_len}
use Rattle.std.specs.Prelude.{map}
use Rattle.std.specs.List.{AllByRecursion}
use Rattle.std.specs.BTreeMap.{values}
use Rattle.aria_value.specs.Order.{columns_cmp, sorted}
use Rattle.aria_memory.specs.Keyed.{values_in}
use Rattle.aria_memory.proofs.Found.{puts}
use Rattle.aria_memory.proofs.find.by_columns.Given as goal

-- the rows to come, put to those so far, are all in order
abbrev pub invariant-loop-row : goal.invariant-loop-row
invariant-loop-row l = record {
  rest : puts (columns_cmp l.columns) (map (λ r. r.now) l.found.items) (map (λ r. r.now) (values l.ordered))
      ≡ sorted (columns_cmp l.columns) (map (λ r. r.now) l.fn.found.items);
  placed : AllByRecursion (λ e. e.0 ≡ values_in (l.columns) e.1.now) l.ordered.entries;
}

abbrev pub decreases-loop-row : goal.decreases-loop-row
decreases-loop-row l = vec_len l.found

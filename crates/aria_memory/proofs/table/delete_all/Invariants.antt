use Rattle.std.proofs.Common.{◌≡◌, length}
use Rattle.std.specs.BTreeMap.{IsOrdered}
use Rattle.std.specs.Vec.Iter.{into_iter_items, into_iter_len}
use Rattle.aria_memory.specs.Keyed.{values_cmp}
use Rattle.aria_memory.specs.Without.{without}
use Rattle.aria_memory.proofs.table.delete_all.Given as goal

-- the rows without those of the keys to come are what is to be left
abbrev pub invariant-loop-key : goal.invariant-loop-key
invariant-loop-key l = record {
  rest : without values_cmp (into_iter_items l.key-iterator) l.rows.entries ≡ without values_cmp l.fn.keys.items l.fn.rows.entries;
  ordered : IsOrdered values_cmp l.rows;
  whole : into_iter_len l.key-iterator ≡ length (into_iter_items l.key-iterator);
}

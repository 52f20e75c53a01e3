use Rattle.std.proofs.Common.{◌≡◌, IsTrue, length}
use Rattle.std.specs.BTreeMap.{values, IsOrdered}
use Rattle.std.specs.Vec.Iter.{into_iter_items, into_iter_len}
use Rattle.aria_memory.specs.Keyed.{values_cmp, are_keyed}
use Rattle.aria_memory.specs.Updated.{taken_back}
use Rattle.aria_memory.proofs.Changed.{Goes}
use Rattle.aria_memory.proofs.update.set_rows.Given as goal

-- the changes to come leave, from here, what all of them leave from the start
abbrev pub invariant-loop-change : goal.invariant-loop-change
invariant-loop-change l = record {
  rest : Goes l.definition l.fn.changes.items (values l.fn.rows) (into_iter_items l.change-iterator) (values l.rows);
  keyed : IsTrue (are_keyed l.definition l.rows.entries);
  ordered : IsOrdered values_cmp l.rows;
  undo : taken_back l.done.items l.rows.entries ≡ l.fn.rows.entries;
  whole : into_iter_len l.change-iterator ≡ length (into_iter_items l.change-iterator);
}

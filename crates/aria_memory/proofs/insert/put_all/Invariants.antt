use Rattle.std.proofs.Common.{◌≡◌, IsTrue, length}
use Rattle.std.specs.Prelude.{None}
use Rattle.std.specs.BTreeMap.{values}
use Rattle.std.specs.Vec.Iter.{into_iter_items, into_iter_len}
use Rattle.aria_model.specs.Step.{put_all}
use Rattle.aria_memory.specs.Keyed.{values_cmp, are_keyed}
use Rattle.aria_memory.specs.Undone.{undone}
use Rattle.aria_memory.proofs.insert.put_all.Given as goal

-- the rows to come leave, from here, what all of them leave from the start
abbrev pub invariant-loop-row : goal.invariant-loop-row
invariant-loop-row l = record {
  rest : put_all l.definition None 1 (values l.rows) (into_iter_items l.row-iterator) ≡ put_all l.definition None 1 (values l.fn.rows) l.fn.more.items;
  keyed : IsTrue (are_keyed l.definition l.rows.entries);
  undo : undone values_cmp l.put.items l.rows.entries ≡ l.fn.rows.entries;
  whole : into_iter_len l.row-iterator ≡ length (into_iter_items l.row-iterator);
}

use Rattle.std.proofs.Common.{◌≡◌, ◌++◌, take}
use Rattle.std.specs.Prelude.{All}
use Rattle.std.specs.List.{flat_map}
use Rattle.aria_page.proofs.stored.push_items.Given as goal

-- the items so far are written, and what holds of every item holds of them
abbrev pub invariant-loop-item : goal.invariant-loop-item
invariant-loop-item g l = record {
  written : l.out ≡ l.initial.out ++ flat_map g.T.Stored.spelled (take l.item-index l.items);
  hold : All g.T.Stored.holds (take l.item-index l.items);
}

use Rattle.std.proofs.Common.{◌≡◌, drop}
use Rattle.aria_value.specs.Rows.{may_hold_all}
use Rattle.aria_value.proofs.row.may_hold_all.Given as goal

-- All columns hold their values if those that are left do.
abbrev pub invariant-loop-nth : goal.invariant-loop-nth
invariant-loop-nth l = may_hold_all l.keyed l.nth (drop l.nth l.columns) (drop l.nth l.row) ≡ may_hold_all l.keyed 0 l.columns l.row

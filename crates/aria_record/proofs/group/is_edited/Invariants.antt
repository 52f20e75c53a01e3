use Rattle.std.proofs.Common.{◌≡◌, drop}
use Rattle.aria_record.specs.Groups.{is_edited}
use Rattle.aria_record.proofs.group.is_edited.Given as goal

-- All are edits and one entry that ends them, if those that are left are.
abbrev pub invariant-loop-i : goal.invariant-loop-i
invariant-loop-i l = is_edited (drop l.i l.records) ≡ is_edited l.records

use Rattle.std.proofs.Common.{◌≡◌, drop}
use Rattle.aria_value.specs.Named.{nth_named}
use Rattle.aria_value.proofs.Naming.{further}
use Rattle.aria_value.proofs.named.number_of.Given as goal

-- the item of the name is one of those that are left, if there is one
abbrev pub invariant-loop-nth : goal.invariant-loop-nth
invariant-loop-nth g l = further l.nth (nth_named g.T.Named.named (drop l.nth l.items) l.name) ≡ nth_named g.T.Named.named l.items l.name

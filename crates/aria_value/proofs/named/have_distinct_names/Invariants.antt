use Rattle.std.proofs.Common.{◌≡◌, drop}
use Rattle.aria_value.specs.Named.{same_name, distinct}
use Rattle.aria_value.proofs.named.have_distinct_names.Given as goal

-- All are distinct if those that are left are.
abbrev pub invariant-loop-nth : goal.invariant-loop-nth
invariant-loop-nth g l =
    distinct (λ a b. same_name (g.T.Named.named a) (g.T.Named.named b)) (drop l.nth l.items) ≡ distinct (λ a b. same_name (g.T.Named.named a) (g.T.Named.named b)) l.items

use Rattle.std.proofs.Common.{◌≡◌, ◌-◌}
use Rattle.aria_page.specs.Items.{items_at}
use Rattle.aria_page.proofs.Items.{with_front}
use Rattle.aria_page.proofs.stored.items_at.Given as goal

-- The items so far, and those that are left, are those of the whole.
abbrev pub invariant-loop : goal.invariant-loop
invariant-loop g l = with_front l.items (items_at g.T.Stored.reads (l.count - l.counter) l.rest) ≡ items_at g.T.Stored.reads l.count l.bytes

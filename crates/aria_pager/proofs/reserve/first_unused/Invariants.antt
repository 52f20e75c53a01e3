use Rattle.std.proofs.Common.{ℕ, ◌<◌}
use Rattle.std.specs.Prelude.{IsTrue, is_some, slice_get}
use Rattle.std.specs.Option.{option_and_then}
use Rattle.aria_pager.specs.PageStore.{name_in}
use Rattle.aria_pager.proofs.reserve.first_unused.Given as goal

abbrev pub invariant-loop-n : goal.invariant-loop-n
invariant-loop-n l = (k : ℕ) → k < l.n → IsTrue (is_some (option_and_then name_in (slice_get l.slots k)))

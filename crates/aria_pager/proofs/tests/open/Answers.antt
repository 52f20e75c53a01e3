use Rattle.std.proofs.Common.{refl}
use Rattle.aria_host.specs.MemHost.{mem_state}
use Rattle.aria_pager.proofs.Usable.{rests_pager}
use Rattle.aria_pager.proofs.tests.open.Goals as goal

pub returns : goal.returns
returns c =
    let is = c.in_ok-store.ensures.pager refl in
    rests_pager _ _ is.base _ is.groups is.pager c.in_ok-store.ensures.tidy c.in_ok-store.ensures.in_group

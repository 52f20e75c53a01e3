-- A pager between calls, where no group is open.
use Rattle.std.specs.Prelude.{◌≡◌, false}
use Rattle.aria_host.specs.State.{State}
use Rattle.aria_pager.specs.declared.page_store.PageStore.{PageStore}
use Rattle.aria_pager.specs.Goes.{Stands}
use Rattle.aria_pager.specs.View.{IsTidy}

pub record IsUsable (store : PageStore) (s : State) : Type 0 where
  pub tidy : IsTidy store
  pub stands : Stands store s
  pub idle : store.in_group ≡ false

-- What it takes to write a page: its own last group is on the disk.
use Rattle.std.specs.Prelude.{ℕ, Bool, IsTrue, List}
use Rattle.aria_host.specs.Folder.{Folder}
use Rattle.aria_host.specs.State.{State}
use Rattle.aria_record.specs.Logged.{Logged}
use Rattle.aria_recovery.specs.Forced.{IsForced}
use Rattle.aria_recovery.specs.Frames.{Progress}
use Rattle.aria_pager.specs.declared.page_store.PageStore.{PageStore}
use Rattle.aria_pager.specs.Steps.{StepsAt}

-- the group with this number is on the disk, and others may have been brought there
pub record ForcesFor (store store' : PageStore) (s s' : State) (redone : Progress) (base : ℕ) (start : Folder) (groups : List Logged) (forced number : ℕ) (done : Bool) : Type 0 where
  pub steps : StepsAt store store' s s' redone base start groups forced done
  pub ahead : IsTrue done → IsForced number groups steps.forced'

-- A page's own last group is on the disk already, or all groups are brought there.
use Rattle.std.proofs.Common.{◌≡◌, ◌∙◌, ℕ, ◌≤◌, Bool, true, false, List, length, sym, refl, subst, inl, inr}
use Rattle.std.specs.Prelude.{IsTrue}
use Rattle.aria_page.specs.declared.lsn.Lsn.{Lsn}
use Rattle.aria_page.specs.Lsn.{lsn_number}
use Rattle.aria_host.specs.Folder.{Folder}
use Rattle.aria_host.specs.State.{State}
use Rattle.aria_host.proofs.Moments.{OnlyNow, unchanged_now}
use Rattle.aria_record.specs.Logged.{Logged}
use Rattle.aria_log.specs.declared.log.Log.{Log as LogValue}
use Rattle.aria_log.specs.Forced.{TellsForced}
use Rattle.aria_log.specs.Log.{IsLog}
use Rattle.aria_recovery.specs.Forced.{IsForced}
use Rattle.aria_recovery.specs.Frames.{Progress}
use Rattle.aria_pager.specs.declared.page_store.PageStore.{PageStore}
use Rattle.aria_pager.specs.Evicting.{ForcesFor}
use Rattle.aria_pager.specs.Pager.{LogOf, IsPagerAt}
use Rattle.aria_pager.specs.Steps.{ForcesAt}
use Rattle.aria_pager.proofs.Fronting.{fronts}
use Rattle.aria_pager.proofs.Stepping.{moves_look}

-- Of a log that isn't started all groups are forced.
ahead_of : (started : Bool) (log : LogValue) (s : State) (base : ℕ) (groups : List Logged) (forced : ℕ) (lsn : Lsn) → (IsLog log s base groups forced → TellsForced lsn groups forced true) → LogOf started log s base groups forced
    → IsForced (lsn_number lsn) groups forced
ahead_of true log s base groups forced lsn tells is = inr (tells is)
ahead_of false log s base groups forced lsn tells is = inl is.1

-- THE GROUP IS ON THE DISK: nothing is asked of the host
pub forced_already : (store : PageStore) (s : State) (redone : Progress) (base : ℕ) (start : Folder) (groups : List Logged) (forced : ℕ) (lsn : Lsn) → OnlyNow s → s.may_leave s.folder → (b : Bool) → b ≡ true
    → (IsLog store.log s base groups forced → TellsForced lsn groups forced b) → IsPagerAt store s redone base start groups forced → ForcesFor store store s s redone base start groups forced (lsn_number lsn) true
forced_already store s redone base start groups forced lsn only now b on tells is = record {
  steps = record {
    forced' = forced;
    moves = moves_look store s s redone base start groups forced only now (unchanged_now s) is;
    fronts = fronts store.started store.log s base groups forced is.log is.control;
    pager = λ done. is;
  };
  ahead = λ done. ahead_of store.started store.log s base groups forced lsn (λ log. subst (TellsForced lsn groups forced) on (tells log)) is.log;
}

-- ALL GROUPS ARE FORCED
pub forced_now : (store store' : PageStore) (s t : State) (redone : Progress) (base : ℕ) (start : Folder) (groups : List Logged) (forced : ℕ) (lsn : Lsn) (done : Bool) → ForcesAt store store' s t redone base start groups forced done
    → ForcesFor store store' s t redone base start groups forced (lsn_number lsn) done
forced_now store store' s t redone base start groups forced lsn done is = record { steps = is.steps; ahead = λ on. inl (is.all on) }

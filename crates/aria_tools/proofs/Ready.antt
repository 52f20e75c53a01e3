-- A store that is ready holds its tables.
use Rattle.std.proofs.Common.{◌≡◌, ℕ, Bool, List, IsTrue}
use Rattle.aria_host.specs.State.{Folder, State}
use Rattle.aria_engine.specs.declared.store.Store.{Store}
use Rattle.aria_engine.proofs.Running.{running_holds}
use Rattle.aria_engine.proofs.Doing.{HoldsNow}
use Rattle.aria_tools.specs.Pieces.{IsReady}

pub ready_now : (tells : Bool) (store : Store) (s : State) → IsReady tells store s
    → ((c : Folder) (t : List ℕ) → IsTrue tells → s.since s.moment c t → s.may_leave c × (t ≡ s.out)) → HoldsNow tells store s
ready_now tells store s ready only told alone c t since = let is = only c t told since in (is.1, running_holds store s (ready.running told) alone c is.0)

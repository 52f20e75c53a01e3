-- How a run on an opened store ends.
use Rattle.std.specs.Prelude.{◌≡◌, ℕ, Bool, IsTrue, None, List, length, Result, IfErr, OnOk, All}
use Rattle.aria_host.specs.State.{State}
use Rattle.aria_model.specs.declared.refusal.Met.{Met}
use Rattle.aria_journal.specs.Log.{log_pages}
use Rattle.aria_model.specs.Script.{Exceptions, lines_of, statements}
use Rattle.aria_model.specs.Journal.{met_at}
use Rattle.aria_engine.specs.declared.store.Store.{Store}
use Rattle.aria_engine.specs.Holds.{AreLogAlone}
use Rattle.aria_engine.specs.Entries.{MeetsFirst}
use Rattle.aria_engine.specs.Store.{tables_of, count_of, pages_of, IsFresh, NoFewerFaults}
use Rattle.aria_engine.specs.Done.{AreMet, IsFull}
use Rattle.aria_tools.specs.declared.stop.Stop.{Stop}
use Rattle.aria_tools.specs.Stops.{named_fault}
use Rattle.aria_tools.specs.Endings.{Supply, StopsBy, AnswersBy, Ends, Runs, StaysAlone}

-- the cause where lines are executed and the run stops, and what is answered then
pub record LineStops (tells told_too : Bool) (stop : Stop) (supply supply_now : Supply) (st0 st1 : Store) (before now : State) : Type 0 where
  pub cause : StopsBy told_too stop supply supply_now before now
  pub sound : named_fault stop ≡ None
  pub by : IsTrue tells → IsTrue told_too → (exceptions : Exceptions) → AreMet exceptions (count_of st0) st1
      → AnswersBy stop supply supply_now (tables_of st0) exceptions before now

-- The statements that a run on a store answered, of which these met exceptions, and what was told.
pub record Works (told_too : Bool) (supply supply_now : Supply) (result : Result Bool Stop) (met : List Met) (store : Store) (before now : State) : Type 0 where
  pub count : ℕ
  pub meets : MeetsFirst 0 (pages_of store) (tables_of store) (statements (lines_of supply.left)) count met
  pub pages : IsTrue told_too → OnOk result (meets.last ≡ length (log_pages now.folder))
  pub runs : IsTrue told_too → AreLogAlone before → Runs supply supply_now (tables_of store) (met_at met) count result before now

-- a run that leads from one store to another
pub record RunsOn (tells told_too : Bool) (supply supply_now : Supply) (result : Result Bool Stop) (st0 st1 : Store) (before now : State) : Type 0 where
  pub ends : Ends tells told_too supply supply_now result before now
  pub sound : IfErr result (λ stop. named_fault stop ≡ None)
  pub works : IsTrue tells → IsFresh st0 → Works told_too supply supply_now result st1.tally.met st0 before now
  pub silent : IsTrue told_too → now.err ≡ before.err
  pub alone : IsTrue told_too → StaysAlone before now
  pub later : NoFewerFaults before now

-- a run on a store that was opened for it, in which these exceptions were met
pub record RunsFrom (tells told_too : Bool) (supply supply_now : Supply) (result : Result Bool Stop) (met : List Met) (store : Store) (before now : State) : Type 0 where
  pub ends : Ends tells told_too supply supply_now result before now
  pub sound : IfErr result (λ stop. named_fault stop ≡ None)
  pub full : IsTrue tells → All (IsFull (lines_of supply.left) 0 (pages_of store)) met
  pub works : IsTrue tells → Works told_too supply supply_now result met store before now
  pub silent : IsTrue told_too → now.err ≡ before.err
  pub alone : IsTrue told_too → StaysAlone before now
  pub later : NoFewerFaults before now

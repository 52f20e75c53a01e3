-- What a piece of the input is, and what is read so far.
use Rattle.std.specs.Prelude.{◌≡◌, ◌↔◌, ℕ, ◌+◌, ◌^◌, ◌≤◌, Bool, IsTrue, None, List, [], ◌∷◌, ◌++◌, take, length}
use Rattle.aria_host.specs.Count.{Rose}
use Rattle.aria_tools.specs.declared.stop.Stop.{Stop}
use Rattle.aria_tools.specs.declared.stop.Stop.TheVariants as why
use Rattle.aria_host.specs.declared.fault.Fault.TheVariants as faults
use Rattle.aria_host.specs.State.{State}
use Rattle.aria_model.specs.Script.{ended_lines}
use Rattle.aria_tools.specs.Held.{Splits}
use Rattle.aria_engine.specs.declared.store.Store.{Store}
use Rattle.aria_engine.specs.Store.{IsRunning}
use Rattle.aria_engine.specs.Done.{Does}
use Rattle.aria_tools.specs.Endings.{Supply, Counts}

abbrev pub supply : List ℕ → ℕ → ℕ → Supply
supply left taken faults = record { left = left; taken = taken; faults = faults }

-- the store runs, and has answered no fault
pub record IsReady (tells : Bool) (store : Store) (s : State) : Type 0 where
  pub sound : store.kept ≡ None
  pub running : IsTrue tells → IsRunning store s

-- The first n bytes that were left stand in front of the piece; there are none only at the end of the input.
pub record TakesPiece (tells : Bool) (n taken : ℕ) (piece : List ℕ) (before now : Supply) : Type 0 where
  pub within : n ≤ length piece
  pub few : taken + n ≤ 2 ^ 40
  pub number : Counts before.taken n now.taken
  pub calm : now.faults ≡ before.faults
  pub bytes : IsTrue tells → before.left ≡ take n piece ++ now.left
  pub end : IsTrue tells → (n ≡ 0) ↔ (before.left ≡ [])

-- The input failed and nothing was taken, or a byte came behind so many as an input may have.
abbrev pub NoPiece : Bool → Stop → ℕ → Supply → Supply → Type 0
NoPiece tells (why.Fault faults.Input) taken before now = Rose before.faults now.faults × (now.left ≡ before.left) × (now.taken ≡ before.taken)
NoPiece tells why.TooLong taken before now = (taken ≡ 2 ^ 40) × Counts before.taken 1 now.taken
    × (IsTrue tells → (further : ℕ) × (before.left ≡ further ∷ now.left))
NoPiece tells _ taken before now = ⊥

-- The lines that end in the rest and the front of a piece are done, and what is behind the last of them is held.
pub record Fed (tells : Bool) (rest front here : List ℕ) (st0 st1 : Store) (r0 r1 : Bool) (s0 s1 : State) : Type 0 where
  pub splits : Splits (rest ++ front) here
  pub does : Does tells (ended_lines (rest ++ front)) st0 st1 r0 r1 s0 s1

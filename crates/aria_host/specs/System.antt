-- What the system has done of what it was asked.
use Rattle.std.specs.Prelude.{◌≡◌, ◌⊎◌, ℕ, Option, ◌+◌, List, ◌∷◌, ◌++◌, replicate, Result, MatchResult}
use Rattle.aria_host.specs.declared.file_name.FileName.{FileName}
use Rattle.aria_host.specs.declared.host.Stream.{Stream}

-- A call of the system: what it did, or that it refused.
pub data Call : Type 0 where
  -- the length of a file in bytes, or that it isn't there
  Looked : FileName → Option ℕ → Call
  Opened : FileName → Call
  Made : FileName → Call
  Removed : FileName → Call
  -- the names of the folder
  Listed : List (List ℕ) → Call
  SyncedFolder : Call
  -- the bytes of a file from an offset on
  Read : FileName → ℕ → List ℕ → Call
  Wrote : FileName → ℕ → List ℕ → Call
  -- the file is cut to so many bytes
  Cut : FileName → ℕ → Call
  SyncedData : FileName → Call
  SyncedWhole : FileName → Call
  Told : Stream → List ℕ → Call
  -- bytes of the input
  Took : List ℕ → Call
  Refused : Call

-- the last call was refused
abbrev pub IsRefused : List Call → Type 0
IsRefused calls = (rest : List Call) × (calls ≡ Refused ∷ rest)

-- the system did this, or it refused
abbrev pub Does : {T E : Type 0} → Result T E → (T → Call) → List Call → List Call → Type 0
Does result call old new = MatchResult result (λ x. new ≡ call x ∷ old) (λ _. new ≡ Refused ∷ old)

-- the file was opened, unless it was open already
abbrev pub Opens : FileName → List Call → List Call → Type 0
Opens file old new = (new ≡ old) ⊎ (new ≡ Opened file ∷ old)

-- the system did this with the file, which was opened before if need be; or it refused a call
abbrev pub DoesWith : {T E : Type 0} → FileName → Result T E → (T → Call) → List Call → List Call → Type 0
DoesWith file result call old new = MatchResult result (λ x. (ready : List Call) × Opens file old ready × (new ≡ call x ∷ ready)) (λ _. IsRefused new)

-- nothing but refusals, one or more
abbrev pub Tries : List Call → List Call → Type 0
Tries old new = (n : ℕ) × (new ≡ replicate (n + 1) Refused ++ old)

-- this, after no call but refused ones
abbrev pub Gets : Call → List Call → List Call → Type 0
Gets call old new = (n : ℕ) × (new ≡ call ∷ (replicate n Refused ++ old))

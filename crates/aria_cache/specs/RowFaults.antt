-- Answers of calls that put rows or entries into a table.
use Rattle.std.specs.Prelude.{◌≡◌, ℕ, ◌≤◌, ◌^◌, Option, None, Some, Result, Ok, Err}
use Rattle.aria_host.specs.declared.fault.Fault.{Fault}
use Rattle.aria_cache.specs.declared.row_fault.RowFault.{RowFault}
use Rattle.aria_cache.specs.declared.row_fault.RowFault.TheVariants as why

-- the fault that such a call answered, if it did; a file that is full is none
abbrev pub row_fault_of : {T : Type 0} → Result T RowFault → Option Fault
row_fault_of (Ok x) = None
row_fault_of (Err (why.Fault fault)) = Some fault
row_fault_of (Err (why.TableFull pages)) = None

-- a file has too many pages to take a row or an entry more
abbrev pub IsFull : ℕ → Type 0
IsFull count = 2 ^ 30 ≤ count

-- The call answered that the file with so many pages is full.
abbrev pub SaysFull : {T : Type 0} → ℕ → Result T RowFault → Type 0
SaysFull count (Err (why.TableFull pages)) = (pages ≡ count) × IsFull count
SaysFull count _ = ⊥

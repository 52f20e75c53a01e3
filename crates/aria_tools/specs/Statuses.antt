-- The statuses that a command ends with, and their lines on standard error.
use Rattle.std.specs.Prelude.{◌≡◌, ◌⊎◌, ℕ, Bool, true, false, ◌==◌, if◌then◌else◌, List, [], ◌∷◌, ◌++◌, codes, decimal}
use Rattle.aria_host.specs.FileText.{file_text}
use Rattle.aria_host.specs.declared.file_name.FileName.TheVariants.{Log}
use Rattle.aria_host.specs.declared.fault.Fault.{Fault}
use Rattle.aria_host.specs.declared.fault.Fault.TheVariants as faults
use Rattle.aria_tools.specs.declared.status.Status.{Status}
use Rattle.aria_tools.specs.declared.status.Status.TheVariants.{Done, Refused, BadWords, Memory, Disk, Damaged, Input, Tell, TooLong, LogSpent, TooManyTables}

-- the number that the program exits with
abbrev pub code_of : Status → ℕ
code_of Done = 0
code_of Refused = 1
code_of BadWords = 2
code_of Memory = 3
code_of Disk = 4
code_of Damaged = 5
code_of Input = 6
code_of Tell = 7
code_of TooLong = 8
code_of LogSpent = 9
code_of TooManyTables = 10

-- the status at each fault
abbrev pub status_at : Fault → Status
status_at (faults.Memory error) = Memory
status_at faults.Disk = Disk
status_at faults.Tell = Tell
status_at faults.Input = Input
status_at (faults.LogDamaged file page) = Damaged
status_at (faults.LogSpent file) = LogSpent
status_at faults.ControlDamaged = Damaged
status_at (faults.NotOurs file) = Damaged
status_at (faults.PageDamaged file page) = Damaged
status_at (faults.FileMissing file) = Damaged
status_at faults.TooManyTables = TooManyTables

-- the line on standard error for a status, but for those that name a fault
abbrev pub status_text : ℕ → List ℕ
status_text status =
    if status == 2 then codes "aria: bad words\n" else
    if status == 3 then codes "aria: want of memory\n" else
    if status == 4 then codes "aria: disk fault\n" else
    if status == 6 then codes "aria: input fault\n" else
    if status == 8 then codes "aria: input too long\n" else
    if status == 10 then codes "aria: too many tables\n" else []

-- the statuses with a line that names a fault
abbrev pub NamesFault : ℕ → Type 0
NamesFault status = (status ≡ 5) ⊎ (status ≡ 9)

-- the line of its status names the fault: a damage of the folder, or the log's last file
abbrev pub is_named : Fault → Bool
is_named (faults.LogDamaged file page) = true
is_named (faults.LogSpent file) = true
is_named faults.ControlDamaged = true
is_named (faults.NotOurs file) = true
is_named (faults.PageDamaged file page) = true
is_named (faults.FileMissing file) = true
is_named _ = false

-- the line on standard error that names a fault
abbrev pub fault_text : Fault → List ℕ
fault_text (faults.LogDamaged file page) = codes "aria: damaged log " ++ (file_text (Log file) ++ (codes " page " ++ (decimal page ++ 10 ∷ [])))
fault_text (faults.PageDamaged file page) = codes "aria: damaged page " ++ (file_text file ++ (codes " page " ++ (decimal page ++ 10 ∷ [])))
fault_text faults.ControlDamaged = codes "aria: damaged control\n"
fault_text (faults.FileMissing file) = codes "aria: missing " ++ (file_text file ++ 10 ∷ [])
fault_text (faults.NotOurs file) = codes "aria: not ours " ++ (file_text file ++ 10 ∷ [])
fault_text (faults.LogSpent file) = codes "aria: log spent " ++ (decimal file ++ 10 ∷ [])
fault_text _ = []

-- How a run ends: what of the input was taken, what was told of it, what a crash may leave, and why it stopped.
use Rattle.std.specs.Prelude.{◌≡◌, ◌≢◌, ◌⊎◌, ℕ, ◌+◌, ◌-◌, ◌^◌, ◌≤◌, min, Bool, IsTrue, List, [], ◌∷◌, ◌++◌, take, drop, length, Result, Ok, Err, OnOk, false, true}
use Rattle.aria_host.specs.Count.{Rose}
use Rattle.aria_host.specs.State.{Folder, State, LeavesOnly}
use Rattle.aria_host.specs.Calls.{SameImages, Narrows}
use Rattle.aria_host.specs.declared.file_name.FileName.{FileName}
use Rattle.aria_host.specs.Folder.{IsFileName, same_file}
use Rattle.aria_host.specs.declared.fault.Fault.{Fault}
use Rattle.aria_host.specs.declared.fault.Fault.TheVariants as faults
use Rattle.aria_model.specs.World.{World}
use Rattle.aria_model.specs.Script.{Exceptions, lines_of, ended_lines, statements, world_after, after, told, told_first, any_refused, acknowledged}
use Rattle.aria_model.specs.declared.refusal.Met.{Met}
use Rattle.aria_model.specs.Journal.{met_at}
use Rattle.aria_journal.specs.Front.{end_of}
use Rattle.aria_journal.specs.Log.{log_file, log_pages}
use Rattle.aria_engine.specs.Entries.{Meets, MeetsFirst}
use Rattle.aria_engine.specs.Holds.{Holds, IsDamage, IsLogAlone, AreLogAlone, AtRest, IsSettled}
use Rattle.aria_engine.specs.Store.{SameFaults}
use Rattle.aria_engine.specs.Done.{Leaves}
use Rattle.aria_tools.specs.declared.stop.Stop.{Stop}
use Rattle.aria_tools.specs.declared.stop.Stop.TheVariants as why
use Rattle.aria_tools.specs.Statuses.{status_text, fault_text, is_named, NamesFault}
use Rattle.aria_tools.specs.Stops.{status_of}

-- a source as contracts see it: the bytes that are left, how many were taken, and how often it failed
pub record Supply : Type 0 where
  pub left : List ℕ
  pub taken : ℕ
  pub faults : ℕ

-- The number rose by n, or stands at its end.
pub record Counts (before n now : ℕ) : Type 0 where
  pub no_more : now ≤ before + n
  pub no_fewer : min (before + n) (2 ^ 128 - 1) ≤ now

-- These bytes were taken; those of a source that doesn't tell are some bytes.
pub record Took (tells : Bool) (bytes : List ℕ) (before now : Supply) : Type 0 where
  pub bytes_left : IsTrue tells → before.left ≡ bytes ++ now.left
  pub number : Counts before.taken (length bytes) now.taken

-- no more bytes were taken than an input may have
abbrev pub TookFew : Supply → Supply → Type 0
TookFew before now = now.taken ≤ before.taken + 2 ^ 40

-- this damage stands in the folder, in which nothing is changed
abbrev pub IsFoundDamaged : Bool → Fault → State → State → Type 0
IsFoundDamaged tells fault before now = IsTrue tells → IsDamage fault before.folder × Narrows before now

-- the cause of each reason to stop
abbrev pub StopsBy : Bool → Stop → Supply → Supply → State → State → Type 0
StopsBy told (why.Fault (faults.Memory error)) supply supply_now before now = TookFew supply supply_now
StopsBy told (why.Fault faults.Disk) supply supply_now before now = TookFew supply supply_now × Rose before.disk_faults now.disk_faults
StopsBy told (why.Fault (faults.LogDamaged file page)) supply supply_now before now = (supply_now ≡ supply) × IsFoundDamaged told (faults.LogDamaged file page) before now
StopsBy told (why.Fault (faults.NotOurs file)) supply supply_now before now = (supply_now ≡ supply) × IsFoundDamaged told (faults.NotOurs file) before now
StopsBy told (why.Fault faults.Input) supply supply_now before now = TookFew supply supply_now × Rose supply.faults supply_now.faults
StopsBy told (why.Fault faults.Tell) supply supply_now before now = TookFew supply supply_now × Rose before.tell_faults now.tell_faults
StopsBy told (why.Fault _) supply supply_now before now = ⊥
StopsBy told why.TooLong supply supply_now before now = Counts supply.taken (2 ^ 40 + 1) supply_now.taken

-- The whole input was read, and no fault was counted.
pub record ReadsAll (tells : Bool) (supply supply_now : Supply) (before now : State) : Type 0 where
  pub few : TookFew supply supply_now
  pub ended : IsTrue tells → supply_now.left ≡ []
  pub calm : supply_now.faults ≡ supply.faults
  pub same : SameFaults before now

-- how a run ends, which says whether a statement was refused, or why it stopped
abbrev pub Ends : Bool → Bool → Supply → Supply → Result Bool Stop → State → State → Type 0
Ends tells told_too supply supply_now (Ok refused) before now = ReadsAll tells supply supply_now before now
Ends tells told_too supply supply_now (Err stop) before now = StopsBy told_too stop supply supply_now before now

-- The folder held tables as the run began, but where it stopped as its store was opened, or may have.
abbrev pub WasSound : Result Bool Stop → Folder → Type 0
WasSound (Ok refused) folder = (world : World) × Holds folder world
WasSound (Err (why.Fault (faults.Memory error))) folder = Unit {0}
WasSound (Err (why.Fault faults.Disk)) folder = Unit {0}
WasSound (Err (why.Fault (faults.LogDamaged file page))) folder = Unit {0}
WasSound (Err (why.Fault (faults.NotOurs file))) folder = Unit {0}
WasSound (Err _) folder = (world : World) × Holds folder world

-- The lines that LF ends in the bytes that were taken are answered.
abbrev pub AnswersEnded : Supply → Supply → World → Exceptions → State → State → Type 0
AnswersEnded supply supply_now world exceptions before now =
    (taken : List ℕ) × (supply.left ≡ taken ++ supply_now.left) × (now.out ≡ before.out ++ told world (ended_lines taken) exceptions)

-- So many bytes were taken as an input may have, and a further one; the lines that LF ends in the former are answered.
abbrev pub AnswersFull : Supply → Supply → World → Exceptions → State → State → Type 0
AnswersFull supply supply_now world exceptions before now =
    (taken : List ℕ) × (further : ℕ) × (supply.left ≡ taken ++ further ∷ supply_now.left) × (length taken ≡ 2 ^ 40)
    × (now.out ≡ before.out ++ told world (ended_lines taken) exceptions)

-- what is answered where a run stops for this reason
abbrev pub AnswersBy : Stop → Supply → Supply → World → Exceptions → State → State → Type 0
AnswersBy (why.Fault faults.Input) supply supply_now world exceptions before now = AnswersEnded supply supply_now world exceptions before now
AnswersBy why.TooLong supply supply_now world exceptions before now = AnswersFull supply supply_now world exceptions before now
AnswersBy _ supply supply_now world exceptions before now = Unit {0}

-- Each line of the input is answered, so many statements; the folder is at rest and holds the tables after all of them.
pub record AnswersAll (supply : Supply) (world : World) (exceptions : Exceptions) (count : ℕ) (refused : Bool) (before now : State) : Type 0 where
  pub all : count ≡ length (statements (lines_of supply.left))
  pub out : now.out ≡ before.out ++ told world (lines_of supply.left) exceptions
  pub is_refused : refused ≡ any_refused world (lines_of supply.left) exceptions
  pub rest : AtRest now
  pub settled : IsSettled now.folder
  pub holds : Holds now.folder (world_after world (statements (lines_of supply.left)) exceptions)

-- A front of what the first so many statements of the input tell was told.
pub record AnswersPart (supply supply_now : Supply) (world : World) (exceptions : Exceptions) (count : ℕ) (stop : Stop) (before now : State) : Type 0 where
  pub out : (n : ℕ) × (now.out ≡ before.out ++ take n (told_first world (lines_of supply.left) exceptions count))
  pub by : AnswersBy stop supply supply_now world exceptions before now

-- what a run has answered where it ends
abbrev pub Answered : Supply → Supply → World → Exceptions → ℕ → Result Bool Stop → State → State → Type 0
Answered supply supply_now world exceptions count (Ok refused) before now = AnswersAll supply world exceptions count refused before now
Answered supply supply_now world exceptions count (Err stop) before now = AnswersPart supply supply_now world exceptions count stop before now

-- A run on these tables, which answered so many statements that met these exceptions: what it has answered, and what a
-- crash at any moment may have left.
pub record Runs (supply supply_now : Supply) (world : World) (exceptions : Exceptions) (count : ℕ) (result : Result Bool Stop) (before now : State) : Type 0 where
  pub answered : Answered supply supply_now world exceptions count result before now
  pub moments : LeavesOnly before now (Leaves world (lines_of supply.left) exceptions before.out)

-- a crash leaves what one might have left as the run began, with nothing told since
abbrev pub Began : State → Folder → List ℕ → Type 0
Began before c b = before.may_leave c × (b ≡ before.out)

-- Nothing is changed: the folder reads as it did, and a crash, now or at any moment, leaves what one might have left as
-- the run began, with nothing told.
pub record ChangesNothing (before now : State) : Type 0 where
  pub folder : now.folder ≡ before.folder
  pub images : (c : Folder) → now.may_leave c → before.may_leave c
  pub moments : LeavesOnly before now (Began before)

-- the folder has the files of another, but for the log's
abbrev pub SameOtherFiles : Folder → Folder → Type 0
SameOtherFiles before now = (f : FileName) → IsFileName f → same_file log_file f ≡ false → now f ≡ before f

-- a crash leaves what one might have left as the run began, but for the log's file
abbrev pub BeganButLog : State → Folder → Type 0
BeganButLog before c = (d : Folder) × before.may_leave d × SameOtherFiles d c

-- Files other than the log's are left as they are: in the folder, in what a crash now may leave, and in what one at any
-- moment might have left.
pub record LeavesOtherFiles (before now : State) : Type 0 where
  pub folder : SameOtherFiles before.folder now.folder
  pub images : (c : Folder) → now.may_leave c → BeganButLog before c
  pub moments : LeavesOnly before now (λ c told. BeganButLog before c)

-- no crash leaves a file but the log's at any moment, where none did as the run began
abbrev pub StaysAlone : State → State → Type 0
StaysAlone before now = AreLogAlone before → LeavesOnly before now (λ c told. IsLogAlone c)

-- A run on a folder that read as these tables, and its opening: the statements that it answered, of which these met
-- exceptions, what was told, and what a crash at any moment may have left.
pub record RunsWhole (supply supply_now : Supply) (world : World) (met : List Met) (result : Result Bool Stop) (before now : State) : Type 0 where
  pub count : ℕ
  pub meets : MeetsFirst 0 (end_of (log_pages before.folder)) world (statements (lines_of supply.left)) count met
  pub pages : OnOk result (meets.last ≡ length (log_pages now.folder))
  pub answered : Answered supply supply_now world (met_at met) count result before now
  pub moments : LeavesOnly before now (λ c b. Began before c b ⊎ Leaves world (lines_of supply.left) (met_at met) before.out c b)

-- The first so many statements were answered. Of these, exactly those to which it was due met an exception, and are
-- listed here. What was told is a part of what they tell.
pub record MeetsDue (world : World) (lines : List (List ℕ)) (met : List Met) (before now : State) : Type 0 where
  pub count : ℕ
  pub meets : MeetsFirst 0 (end_of (log_pages before.folder)) world (statements lines) count met
  pub told : (n : ℕ) × (now.out ≡ before.out ++ take n (told_first world lines (met_at met) count))

-- All statements were, and the log has the pages that they left.
abbrev pub MeetsAllDue : World → List (List ℕ) → List Met → State → State → Type 0
MeetsAllDue world lines met before now =
    (left : World) × Meets 0 (end_of (log_pages before.folder)) world (statements lines) met (length (log_pages now.folder)) left

-- A crash leaves the tables after the first so many of the statements. What was told since is a part of what these
-- statements tell, and acknowledges no more than them.
pub record Prefix (world : World) (lines : List (List ℕ)) (exceptions : Exceptions) (out : List ℕ) (c : Folder) (b : List ℕ) : Type 0 where
  pub count : ℕ
  pub part : ℕ
  pub told_is : b ≡ out ++ take part (told_first world lines exceptions count)
  pub acked : acknowledged (drop (length out) b) ≤ count
  pub holds : Holds c (after world lines exceptions count)

-- A crash leaves what one might have left as the run began, with nothing told since, or the tables after the first so
-- many of the statements.
abbrev pub BeganOrPrefix : State → World → List (List ℕ) → Exceptions → Folder → List ℕ → Type 0
BeganOrPrefix before world lines exceptions c b = Began before c b ⊎ Prefix world lines exceptions before.out c b

-- the status of a run
abbrev pub status_of_run : Result Bool Stop → ℕ
status_of_run (Ok false) = 0
status_of_run (Ok true) = 1
status_of_run (Err stop) = status_of stop

-- the statuses that the program ends with
abbrev pub IsStatus : ℕ → Type 0
IsStatus status = status ≤ 8

-- the line on standard error for a status; at 5 it names the damage of the folder
abbrev pub IsStatusText : ℕ → Folder → List ℕ → Type 0
IsStatusText status folder text =
    ((status ≢ 5) × (text ≡ status_text status)) ⊎ ((status ≡ 5) × (fault : Fault) × IsDamage fault folder × (text ≡ fault_text fault))

-- A text was told on standard error, or a front of it where telling failed.
abbrev pub TellsText : List ℕ → State → State → Type 0
TellsText text before now =
    (now.err ≡ before.err ++ text) ⊎ (Rose before.tell_faults now.tell_faults × (n : ℕ) × (now.err ≡ before.err ++ take n text))

-- On standard error the status's line was told, or a front of it where telling failed.
abbrev pub TellsStatus : ℕ → State → State → Type 0
TellsStatus status before now = (text : List ℕ) × IsStatusText status before.folder text × TellsText text before now

-- Nothing changed but what was told on standard error.
pub record TellsErr (before now : State) : Type 0 where
  pub folder : now.folder ≡ before.folder
  pub images : SameImages before now
  pub out : now.out ≡ before.out
  pub later : before.moment ≤ now.moment
  pub moments : (t : ℕ) (c : Folder) (b : List ℕ) → t ≤ before.moment → now.since t c b → before.since t c b ⊎ (before.may_leave c × (b ≡ before.out))

-- the status of an ended run; without memory for the line that names a fault it is that of want of memory
abbrev pub IsEnd : Result Bool Stop → ℕ → Type 0
IsEnd result status = (status ≡ status_of_run result) ⊎ ((status ≡ 3) × NamesFault (status_of_run result))

-- the line on standard error of an ended run
abbrev pub IsEndText : Result Bool Stop → ℕ → List ℕ → Type 0
IsEndText result status text =
    ((¬ NamesFault status) × (text ≡ status_text status))
    ⊎ ((fault : Fault) × (result ≡ Err (why.Fault fault)) × IsTrue (is_named fault) × (status ≡ status_of (why.Fault fault)) × (text ≡ fault_text fault))

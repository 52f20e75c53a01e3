-- How a log is found: from where on it is read, where it ends, and what of it is missing or damaged.
use Rattle.std.specs.Prelude.{◌≡◌, ◌⊎◌, ◌↔◌, ◌==◌, ◌&&◌, if◌then◌else◌, ⊤, ℕ, ◌+◌, ◌-◌, ◌*◌, ◌/◌, ◌%◌, ◌^◌, ◌<◌, ◌≤◌, nat_le, nat_lt, Bool, true, false, IsTrue, Option, None, Some, IsSome, IfSome, List, [], length, Result, Ok, Err, IfErr, IsErrOf}
use Rattle.std.specs.Option.{option_map_or}
use Rattle.aria_page.specs.declared.lsn.Lsn.{Lsn}
use Rattle.aria_host.specs.declared.fault.Fault.{Fault}
use Rattle.aria_host.specs.declared.fault.Fault.TheVariants.{Memory, Disk, FileMissing, LogDamaged}
use Rattle.aria_host.specs.declared.file_name.FileName.{FileName}
use Rattle.aria_host.specs.declared.file_name.FileName.TheVariants.{Log as LogFile}
use Rattle.aria_host.specs.Folder.{is_log}
use Rattle.aria_host.specs.Count.{Rose}
use Rattle.aria_host.specs.State.{State}
use Rattle.aria_log.specs.declared.log.Log.{Log as LogValue}
use Rattle.aria_log.specs.declared.find.Found.{Found as FoundValue}
use Rattle.aria_log.specs.Pieces.{Piece, LogFiles, pieces_of, IsFront}
use Rattle.aria_log.specs.Files.{IsBase, IsQuiet, IsSoundLog}
use Rattle.aria_record.specs.Logged.{Logged}
use Rattle.aria_log.specs.Log.{Fills, IsBaseOf, IsOpened, file_of}

-- ---- the base

-- the log sequence number that means none
abbrev pub means_none : Lsn → Bool
means_none from = from.file == 0 && from.offset == 0

-- the log is read from this one on: none stands for that of the log's first byte
unfoldable pub start_of : Lsn → Lsn
start_of from = if means_none from then record { file = 1; offset = 16 } else from

-- the place of the byte that has this log sequence number; nothing where no byte of a page's body has it
unfoldable pub place_of : Lsn → Option ℕ
place_of l =
    if nat_le 16 (l.offset % 8192) && nat_lt (l.offset / 8192) 1024 then Some (8176 * (1024 * l.file + l.offset / 8192) + (l.offset % 8192 - 16)) else None

-- the place from which on the log is read
abbrev pub base_of : Lsn → Option ℕ
base_of from = place_of (start_of from)

-- ---- files that are missing

-- it is a file of the log, with this number or a higher one
abbrev pub is_from : ℕ → FileName → Bool
is_from low (LogFile f) = nat_le low f
is_from low _ = false

-- a file of the log is there, with this number or a higher one
abbrev pub HasFrom : LogFiles → ℕ → Type 0
HasFrom files low = (f : ℕ) × (low ≤ f) × (f < 2 ^ 24) × IsSome (files f)

-- A file from the base's on isn't there although a later one is, or although it is the base's own. Only where no base is
-- given may a folder have no file of the log at all.
pub record IsAbsent (from : Lsn) (files : LogFiles) (f : ℕ) : Type 0 where
  pub low : (start_of from).file ≤ f
  pub absent : files f ≡ None
  pub needed : HasFrom files (f + 1) ⊎ ((f ≡ (start_of from).file) × (IsTrue (means_none from) → HasFrom files 0))

-- the lowest such file
pub record IsMissing (from : Lsn) (files : LogFiles) (f : ℕ) : Type 0 where
  pub absent : IsAbsent from files f
  pub lowest : (g : ℕ) → IsAbsent from files g → f ≤ g

-- there is none
abbrev pub NoneMissing : Lsn → LogFiles → Type 0
NoneMissing from files = (f : ℕ) → ¬ IsAbsent from files f

-- the last file of the log from the base's on: the base's own where there is no later one
pub record IsLast (files : LogFiles) (low last : ℕ) : Type 0 where
  pub from : low ≤ last
  pub there : low < last → IsSome (files last)
  pub none : (f : ℕ) → last < f → f < 2 ^ 24 → files f ≡ None

-- ---- damage

-- no byte of a page's body has this log sequence number, and the damage is at its page
pub record IsNowhere (from : Lsn) (file page : ℕ) : Type 0 where
  pub none : base_of from ≡ None
  pub file_is : file ≡ (start_of from).file
  pub page_is : page ≡ (start_of from).offset / 8192

-- the base is neither the first byte of a page nor a used one, and the damage is at its page
pub record IsOutside (files : LogFiles) (base file page : ℕ) : Type 0 where
  pub outside : ¬ IsBase (pieces_of files) base
  pub file_is : file ≡ base / 8176 / 1024
  pub page_is : page ≡ base / 8176 % 1024

-- a file from this one on has more than 1024 pages, and the damage is behind them
pub record IsLong (files : LogFiles) (low file page : ℕ) : Type 0 where
  pub from : low ≤ file
  pub form : file < 2 ^ 24
  pub many : 1024 < option_map_or length (files file) 0
  pub page_is : page ≡ 1024

-- a page from this one on begins a run
pub record BeginsBehind (files : LogFiles) (end : ℕ) : Type 0 where
  pub at : ℕ
  pub behind : end ≤ at
  pub piece : Piece
  pub valid : pieces_of files at ≡ Some piece
  pub begins : piece.0 ≡ true

-- the log ends before this page, from this one on
pub record EndsFront (files : LogFiles) (first end : ℕ) : Type 0 where
  pub whole : List Piece
  pub front : IsFront (pieces_of files) first true whole
  pub end_is : end ≡ first + length whole

-- Pages were read from one on, up to another. If a file is noted it has too many pages, and else none of theirs does.
pub record IsNoted (files : LogFiles) (first to : ℕ) (long : Option ℕ) : Type 0 where
  pub few : long ≡ None → (n : ℕ) → first ≤ n → n < to → option_map_or length (files (n / 1024)) 0 ≤ 1024
  pub many : IfSome long (λ f. (first / 1024 ≤ f) × (f < 2 ^ 24) × (1024 < option_map_or length (files f) 0))

-- no file from this one on has too many pages, and no page from the end on begins a run
pub record IsUndamaged (files : LogFiles) (low end : ℕ) : Type 0 where
  pub few : (f : ℕ) → low ≤ f → f < 2 ^ 24 → option_map_or length (files f) 0 ≤ 1024
  pub quiet : IsQuiet (pieces_of files) end

-- a log that ends before this page is broken there
pub record IsBrokenAt (files : LogFiles) (end file page : ℕ) : Type 0 where
  pub file_is : file ≡ end / 1024
  pub page_is : page ≡ end % 1024
  pub behind : BeginsBehind files end

-- damage behind what is read of a log that ends before this page, from this file on
abbrev pub IsDamageBehind : LogFiles → ℕ → ℕ → ℕ → ℕ → Type 0
IsDamageBehind files low end file page = IsLong files low file page ⊎ IsBrokenAt files end file page

-- a page behind the end of the log that is read from this base on begins a run, and the damage is at the end
pub record IsBroken (files : LogFiles) (base file page : ℕ) : Type 0 where
  pub end : ℕ
  pub front : EndsFront files (base / 8176) end
  pub at : IsBrokenAt files end file page

-- the log is damaged from this base on, at this page of a file
abbrev pub IsDamageFrom : LogFiles → ℕ → ℕ → ℕ → Type 0
IsDamageFrom files base file page = IsOutside files base file page ⊎ (IsLong files (file_of base) file page ⊎ IsBroken files base file page)

-- the same, from this log sequence number on
abbrev pub IsDamage : Lsn → LogFiles → ℕ → ℕ → Type 0
IsDamage from files file page = IsNowhere from file page ⊎ ((base : ℕ) × (base_of from ≡ Some base) × IsDamageFrom files base file page)

-- ---- what is found

-- the log value ends before this page, with no byte in the page that is filled, and has the files from the base's on
pub record Ends (log : LogValue) (files : LogFiles) (base end : ℕ) : Type 0 where
  pub first : log.first ≡ log.number
  pub fills : Fills log end []
  pub low : end < 2 ^ 34
  pub last : IsLast files (file_of base) log.last

-- the log value ends where the log does that is read from this base on
pub record IsFound (log : LogValue) (files : LogFiles) (base : ℕ) : Type 0 where
  pub whole : List Piece
  pub front : IsFront (pieces_of files) (base / 8176) true whole
  pub based : IsBaseOf base whole
  pub ends : Ends log files base (base / 8176 + length whole)

-- The log was found from this base on; where the base isn't in it, the log value ends before the base's page. Damage is
-- told exactly where there is some.
pub record Finds (from : Lsn) (files : LogFiles) (found : FoundValue) : Type 0 where
  pub base : ℕ
  pub base_is : base_of from ≡ Some base
  pub stands : IsFound found.log files base ⊎ ((¬ IsBase (pieces_of files) base) × Ends found.log files base (base / 8176))
  pub sound : (found.damage ≡ None) ↔ IsSoundLog files base found.log.number
  pub damaged : IfSome found.damage (λ d. IsDamageFrom files base d.file d.page)

-- the log was opened from this base on
pub record Opens (from : Lsn) (s : State) (log : LogValue) : Type 0 where
  pub base : ℕ
  pub base_is : base_of from ≡ Some base
  pub groups : List Logged
  pub opened : IsOpened log s base groups log.last

-- ---- what is answered

-- the disk or memory failed
abbrev pub Fails : {T : Type 0} → Result T Fault → Type 0
Fails (Err Disk) = ⊤
Fails (Err (Memory error)) = ⊤
Fails _ = ⊥

-- the faults that finding answers: the disk or memory failed, a file of the log is missing, or the log is damaged
abbrev pub IsFindFault : Fault → Type 0
IsFindFault Disk = ⊤
IsFindFault (Memory error) = ⊤
IsFindFault (FileMissing file) = IsTrue (is_log file)
IsFindFault (LogDamaged file page) = ⊤
IsFindFault _ = ⊥

-- No other fault is answered, and that of the disk only where one was counted; none was unless the disk or memory failed.
pub record HasFindCause {T : Type 0} (old new : State) (result : Result T Fault) : Type 0 where
  pub only : IfErr result IsFindFault
  pub counted : IsErrOf result Disk → Rose old.disk_faults new.disk_faults
  pub calm : Fails result ⊎ (new.disk_faults ≡ old.disk_faults)
  pub later : old.disk_faults ≤ new.disk_faults
  pub tell : new.tell_faults ≡ old.tell_faults

-- What is answered of the log's files: the lowest one that is missing, or damage, or what is asked for. P is known of what
-- is asked for, and D of the damage that is answered.
abbrev pub Answers : {T : Type 0} → Lsn → LogFiles → (T → Type 0) → (ℕ → ℕ → Type 0) → Result T Fault → Type 0
Answers from files P D (Ok x) = NoneMissing from files × P x
Answers from files P D (Err (FileMissing file)) = (f : ℕ) × (file ≡ LogFile f) × IsMissing from files f
Answers from files P D (Err (LogDamaged file page)) = NoneMissing from files × D file page
Answers from files P D (Err _) = ⊥

-- a file is told to be missing exactly where it is the lowest that is
abbrev pub TellsMissing : {T : Type 0} → Lsn → LogFiles → Result T Fault → Type 0
TellsMissing from files result = (f : ℕ) → IsErrOf result (FileMissing (LogFile f)) ↔ IsMissing from files f

-- a byte is told not to be in the log's files exactly where none has that number, and no file is missing
abbrev pub TellsNowhere : {T : Type 0} → Lsn → LogFiles → Result T Fault → Type 0
TellsNowhere from files result = (file page : ℕ) → IsErrOf result (LogDamaged file page) ↔ (NoneMissing from files × IsNowhere from file page)

-- no file is missing, and there is no damage
abbrev pub IsWhole : Lsn → LogFiles → Type 0
IsWhole from files = NoneMissing from files × ((file page : ℕ) → ¬ IsDamage from files file page)

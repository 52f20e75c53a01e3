-- How the log is read, one thing that stands in it after the other.
use Rattle.std.specs.Prelude.{◌≡◌, ◌⊎◌, ◌==◌, if◌then◌else◌, ⊤, ℕ, ◌+◌, ◌*◌, ◌/◌, ◌%◌, ◌<◌, ◌≤◌, Bool, true, false, Option, Some, None, List, [], ◌∷◌, ◌++◌, length, take, drop, Result, IfErr, IsErrOf, OnOk, alloc_error, is_some}
use Rattle.aria_page.specs.declared.lsn.Lsn.{Lsn}
use Rattle.aria_page.specs.Text.{counted_at}
use Rattle.aria_host.specs.declared.fault.Fault.{Fault}
use Rattle.aria_host.specs.declared.fault.Fault.TheVariants.{Memory, Disk, LogDamaged}
use Rattle.aria_host.specs.Count.{Rose}
use Rattle.aria_host.specs.State.{State}
use Rattle.aria_log.specs.declared.log.Log.{Log as LogValue}
use Rattle.aria_log.specs.declared.reader.Reader.{Reader as ReaderValue}
use Rattle.aria_log.specs.declared.step.Step.{Step}
use Rattle.aria_log.specs.declared.step.Step.TheVariants.{Group, Rest, End}
use Rattle.aria_log.specs.Pieces.{Piece, LogFiles, Stand}
use Rattle.aria_record.specs.Groups.{IsGroup}
use Rattle.aria_record.specs.Logged.{Logged, lsn_at_place}
use Rattle.aria_log.specs.Groups.{run_rest}
use Rattle.aria_log.specs.Log.{place}
use Rattle.aria_log.specs.Reading.{Standing, Whole, Void, Entry, entries_of_runs, entries_at, next_place, seen, loaded}

-- ---- what a step tells

-- this is the entry, with its place and that of what stands behind it
pub record IsEntry (end : ℕ) (entry : Entry) (more : List Entry) (at after : Lsn) (found : Standing) : Type 0 where
  pub at_is : at ≡ lsn_at_place entry.at
  pub found_is : entry.found ≡ found
  pub after_is : after ≡ lsn_at_place (next_place end more)

-- the step tells the first of what stands in the log from a place on, or that nothing does
abbrev pub IsStep : ℕ → List Entry → Step → Type 0
IsStep end [] End = ⊤
IsStep end [] (Group at group after) = ⊥
IsStep end [] (Rest at bytes after) = ⊥
IsStep end (entry ∷ more) End = ⊥
IsStep end (entry ∷ more) (Group at group after) = IsEntry end entry more at after (Whole group)
IsStep end (entry ∷ more) (Rest at bytes after) = IsEntry end entry more at after (Void bytes)

-- a group that a step tells is one
abbrev pub TellsGroup : Step → Type 0
TellsGroup (Group at group after) = IsGroup group
TellsGroup (Rest at bytes after) = ⊤
TellsGroup End = ⊤

-- ---- the groups among what stands in the log

abbrev pub group_of : ℕ → Standing → List Logged
group_of at (Whole group) = record { at = at; group = group } ∷ []
group_of at (Void bytes) = []

abbrev pub groups_of : List Entry → List Logged
groups_of [] = []
groups_of (entry ∷ entries) = group_of entry.at entry.found ++ groups_of entries

-- ---- pages that were read

-- the page that is filled
abbrev pub filled : LogValue → Option Piece
filled log = if log.used == 0 then None else Some (log.number == log.first, take log.used (drop 16 log.page))

-- what the log and a reader hold of the page of this number, which was loaded
unfoldable pub shown : LogValue → ReaderValue → ℕ → Option Piece
shown log reader n = if n == log.number then filled log else loaded reader

-- ---- a run, as far as it was read

-- the number behind that of the page in which the byte before this place lies
abbrev pub page_behind : ℕ → ℕ
page_behind read = (read + 8175) / 8176

-- the number of the page behind the log's end
abbrev pub end_page : LogValue → ℕ
end_page log = log.number + (if log.used == 0 then 0 else 1)

-- The pages before this place were read. These pieces stand behind them, up to the log's end.
pub record IsLeft (log : LogValue) (files : LogFiles) (read : ℕ) (rest : List Piece) : Type 0 where
  pub stand : Stand (seen log files) (page_behind read) (read % 8176 == 0) rest
  pub end : page_behind read + length rest ≡ end_page log
  pub within : (read ≤ 8176 * log.number) ⊎ (read ≡ place log)

-- the run ends before these pieces
abbrev pub EndsRun : List Piece → Type 0
EndsRun [] = ⊤
EndsRun (p ∷ ps) = p.0 ≡ true

-- whether a run goes on with these pieces; the first of them is shown then
abbrev pub GoesOn : Option Piece → List Piece → Bool → Type 0
GoesOn piece rest false = EndsRun rest
GoesOn piece [] true = ⊥
GoesOn piece (p ∷ ps) true = (piece ≡ Some p) × (p.0 ≡ false)

-- Of the pieces that were left these bytes of the run were read.
pub record ReadsOn (log : LogValue) (files : LogFiles) (read read' : ℕ) (rest rest' : List Piece) (bytes : List ℕ) : Type 0 where
  pub left : IsLeft log files read' rest'
  pub bytes_are : run_rest rest ≡ bytes ++ run_rest rest'
  pub place_is : read' ≡ read + length bytes
  pub runs : entries_of_runs (page_behind read) rest ≡ entries_of_runs (page_behind read') rest'

-- the bytes tell the length of the group in front, and are as many
abbrev pub are_enough : List ℕ → Bool
are_enough bytes = is_some (counted_at 4 bytes)

-- This is what stands in the log from a place on, whose page holds this piece: the rest of that run, and the runs in the
-- pieces behind it.
pub record StandsIn (log : LogValue) (files : LogFiles) (place' : ℕ) (entries : List Entry) (piece : Piece) (rest : List Piece) : Type 0 where
  pub piece_is : seen log files (place' / 8176) ≡ Some piece
  pub inside : place' % 8176 < length piece.1
  pub left : IsLeft log files (8176 * (place' / 8176) + length piece.1) rest
  pub entries_are : entries ≡ entries_at place' (drop (place' % 8176) piece.1 ++ run_rest rest) ++ entries_of_runs (place' / 8176 + 1) rest

-- ---- runs that are looked for

-- From the page of this number on these are the runs that begin in the log.
pub record RunsFrom (log : LogValue) (files : LogFiles) (entries : List Entry) (number : ℕ) : Type 0 where
  pub may : Bool
  pub rest : List Piece
  pub stand : Stand (seen log files) number may rest
  pub end : number + length rest ≡ end_page log
  pub entries_are : entries ≡ entries_of_runs number rest

-- ---- faults

-- The fault names a page below this number as damaged. It comes only where the host doesn't tell what its files hold.
abbrev pub IsUntold : Bool → ℕ → Fault → Type 0
IsUntold tells end fault = (tells ≡ false) × (n : ℕ) × (n < end) × (fault ≡ LogDamaged (n / 1024) (n % 1024))

-- It answers that the disk failed, only where such a fault was counted, or that a page isn't valid; at Ok none was counted.
pub record HasPageCause {T : Type 0} (tells : Bool) (end : ℕ) (old new : State) (result : Result T Fault) : Type 0 where
  pub only : IfErr result (λ fault. (fault ≡ Disk) ⊎ IsUntold tells end fault)
  pub counted : IsErrOf result Disk → Rose old.disk_faults new.disk_faults
  pub calm : OnOk result (new.disk_faults ≡ old.disk_faults)
  pub later : old.disk_faults ≤ new.disk_faults
  pub tell : new.tell_faults ≡ old.tell_faults

-- the same, or want of memory
pub record HasNextCause {T : Type 0} (tells : Bool) (end : ℕ) (old new : State) (result : Result T Fault) : Type 0 where
  pub only : IfErr result (λ fault. (fault ≡ Memory alloc_error) ⊎ ((fault ≡ Disk) ⊎ IsUntold tells end fault))
  pub counted : IsErrOf result Disk → Rose old.disk_faults new.disk_faults
  pub calm : OnOk result (new.disk_faults ≡ old.disk_faults)
  pub later : old.disk_faults ≤ new.disk_faults
  pub tell : new.tell_faults ≡ old.tell_faults

-- The log as a value, and what its calls do to the folder.
use Rattle.std.specs.Prelude.{◌≡◌, ◌⊎◌, ℕ, ◌+◌, ◌*◌, ◌≤◌, Bool, true, false, IsTrue, Option, None, Some, IsSome, unwrap_or, List, [], ◌∷◌, ◌++◌, length, take, drop, All}
use Rattle.aria_host.specs.declared.file_name.FileName.{FileName}
use Rattle.aria_host.specs.declared.file_name.FileName.TheVariants.{Log}
use Rattle.aria_host.specs.Folder.{Folder, same_file}
use Rattle.aria_host.specs.Moments.{SameBut, Left, Moments}
use Rattle.aria_host.specs.State.{State}
use Rattle.aria_journal.specs.declared.log.Log.{Log as LogValue}
use Rattle.aria_journal.specs.LogPage.{log_body}
use Rattle.aria_journal.specs.Frames.{IsFrame, frames_bytes}
use Rattle.aria_journal.specs.Runs.{IsRun, IsPartOf, IsWhole, HoldsFrames, HoldsFrom, begins_next}
use Rattle.aria_journal.specs.Front.{frames_of, end_of, damaged_at}

-- the file of the log
abbrev pub log_file : FileName
log_file = Log 1

-- all other files are as they were
abbrev pub SameOthers : Folder → Folder → Type 0
SameOthers = SameBut (same_file log_file)

-- a crash leaves the file of the log with P, and all else as a crash before might have
abbrev pub AtLog : State → (Option (List (List ℕ)) → Type 0) → Folder → List ℕ → Type 0
AtLog old P = Left (same_file log_file) old (λ c. P (c log_file))

-- A crash at any moment leaves the file of the log with P, and all else is left alone.
abbrev pub LogMoments : State → State → (Option (List (List ℕ)) → Type 0) → Type 0
LogMoments old new P = Moments (same_file log_file) old new (λ c. P (c log_file))

-- what the file of the log may hold while these bytes are written as a run behind whole pages
pub record IsImage (base : List (List ℕ)) (text : List ℕ) (content : Option (List (List ℕ))) : Type 0 where
  pub written : List (List ℕ)
  pub more : List (List ℕ)
  pub before : List ℕ
  pub ahead : List ℕ
  pub content_is : content ≡ Some (base ++ more)
  pub run : IsRun true (length base) true written before
  pub part : IsPartOf (length base) written more
  pub text_is : before ++ ahead ≡ text

-- Behind whole pages, which are on the disk, these pages were written as a run that holds these bytes.
pub record IsWriting (closed : Bool) (s : State) (base written : List (List ℕ)) (text : List ℕ) : Type 0 where
  pub folder : s.folder log_file ≡ Some (base ++ written)
  pub images : (c : Folder) → s.may_leave c → (more : List (List ℕ)) × (c log_file ≡ Some (base ++ more)) × IsPartOf (length base) written more
  pub run : IsRun closed (length base) true written text

-- the page that is filled has this number, begins a run or doesn't, and holds these bytes
pub record Fills (log : LogValue) (number : ℕ) (begins : Bool) (bytes : List ℕ) : Type 0 where
  pub number_is : log.number ≡ number
  pub begins_is : log.begins ≡ begins
  pub used_is : log.used ≡ length bytes
  pub body_is : drop 16 log.page ≡ log_body bytes

-- behind whole pages on the disk, these bytes were appended: some are in the file, and the others in the page that is filled
pub record IsAt (log : LogValue) (s : State) (base : List (List ℕ)) (text : List ℕ) : Type 0 where
  pub written : List (List ℕ)
  pub before : List ℕ
  pub held : List ℕ
  pub writing : IsWriting false s base written before
  pub fills : Fills log (length base + length written) (begins_next written) held
  pub text_is : before ++ held ≡ text

-- The log has these frames. So many are forced: they are on the disk, whole pages of them, and the others were appended behind.
pub record IsLog (log : LogValue) (s : State) (frames : List (List ℕ)) (forced : ℕ) : Type 0 where
  pub base : List (List ℕ)
  pub whole : IsWhole base (take forced frames)
  pub within : forced ≤ length frames
  pub are : All IsFrame (drop forced frames)
  pub at : IsAt log s base (frames_bytes (drop forced frames))
  -- with no byte in the page that is filled, that page begins a run: nothing was appended since the last force
  pub idle : log.used ≡ 0 → log.begins ≡ true

-- the log was started, and has some frames
abbrev pub IsRunning : LogValue → State → Type 0
IsRunning log s = (frames : List (List ℕ)) × (forced : ℕ) × IsLog log s frames forced

-- The log has these frames at each moment, but that some of those that aren't forced may be missing at its end.
abbrev pub LogKeeps : State → State → List (List ℕ) → ℕ → Type 0
LogKeeps old new frames forced = LogMoments old new (λ content. HoldsFrom content frames forced)

-- where the next byte is put, in bytes of pages' bodies from the start of the file
abbrev pub place : LogValue → ℕ
place log = 8176 * log.number + log.used

-- a page was written at the end of a run
pub record Wrote (log : LogValue) (old new : State) (base written : List (List ℕ)) (before held : List ℕ) (done : Bool) : Type 0 where
  pub page : List ℕ
  pub writing : IsTrue done → (closed : Bool) → (closed ≡ true) ⊎ (length held ≡ 8176) → IsWriting closed new base (written ++ page ∷ []) (before ++ held)
  pub fills : IsTrue done → Fills log (length base + (length written + 1)) false []
  pub keeps : LogMoments old new (IsImage base (before ++ held))

-- bytes were appended
pub record Adds (log : LogValue) (old new : State) (base : List (List ℕ)) (text : List ℕ) (done : Bool) : Type 0 where
  pub at : IsTrue done → IsAt log new base text
  pub keeps : LogMoments old new (IsImage base text)

-- the pages of the log's file; none where it isn't there
abbrev pub log_pages : Folder → List (List ℕ)
log_pages folder = unwrap_or (folder log_file) []

-- the log of a folder
abbrev pub log_of : Folder → List (List ℕ)
log_of folder = frames_of (log_pages folder)

-- each crash leaves the log's file as it reads
abbrev pub IsLogAtRest : State → Type 0
IsLogAtRest s = (c : Folder) → s.may_leave c → c log_file ≡ s.folder log_file

-- The log was opened: its end was found, and there is no damage. Nothing was changed, so nothing may be appended yet.
pub record IsOpened (log : LogValue) (folder : Folder) : Type 0 where
  pub sound : damaged_at (log_pages folder) ≡ None
  pub fills : Fills log (end_of (log_pages folder)) true []

-- the log's file was made or cut to its end, if it had to be
pub record Prepared (log : LogValue) (old new : State) (done : Bool) : Type 0 where
  pub keeps : LogMoments old new (λ content. HoldsFrames content (log_of old.folder))
  pub folder : IsTrue done → new.folder log_file ≡ Some (take (end_of (log_pages old.folder)) (log_pages old.folder))
  pub images : (c : Folder) → new.may_leave c → HoldsFrames (c log_file) (log_of old.folder)
  pub there : IsTrue done → (c : Folder) → new.may_leave c → IsSome (c log_file)

-- the log's file is there and has so many pages
abbrev pub HasPages : ℕ → Folder → Type 0
HasPages pages folder = (content : List (List ℕ)) × (folder log_file ≡ Some content) × (length content ≡ pages)

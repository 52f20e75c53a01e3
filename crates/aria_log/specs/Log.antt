-- The log as a value, and what its calls do to the folder.
use Rattle.std.specs.Prelude.{◌≡◌, ◌⊎◌, ◌==◌, ⊤, ℕ, ◌+◌, ◌*◌, ◌/◌, ◌%◌, ◌^◌, ◌<◌, ◌≤◌, max, Bool, true, false, IsTrue, Option, None, Some, IsSome, is_some, List, [], ◌∷◌, ◌++◌, length, take, drop, All}
use Rattle.std.specs.List.{flat_map}
use Rattle.std.specs.Option.{option_map, option_map_or}
use Rattle.aria_page.specs.Page.{zero_page}
use Rattle.aria_host.specs.Folder.{Folder, is_log}
use Rattle.aria_host.specs.Moments.{Moments}
use Rattle.aria_host.specs.State.{State}
use Rattle.aria_host.specs.Seen.{page_or_zero}
use Rattle.aria_record.specs.declared.record.Record.{Record}
use Rattle.aria_record.specs.Groups.{IsGroup}
use Rattle.aria_log.specs.declared.log.Log.{Log as LogValue}
use Rattle.aria_log.specs.LogPage.{log_body}
use Rattle.aria_log.specs.Pieces.{Piece, Pieces, LogFiles, log_files, pieces_of, Stand, IsFront}
use Rattle.aria_record.specs.Logged.{Logged}
use Rattle.aria_log.specs.Groups.{placed, groups_bytes, groups_from}
use Rattle.aria_log.specs.Files.{HoldsLog, IsSoundLog, HoldsFrom}

-- ---- the log at each moment

-- A crash at any moment leaves the log's files with P, and all other files are left alone.
abbrev pub LogMoments : State → State → (LogFiles → Type 0) → Type 0
LogMoments old new P = Moments is_log old new (λ c. P (log_files c))

-- ---- a run while it is written

-- The pages from n on hold these bytes, the first of them as one that begins a run or doesn't.
abbrev pub HoldRun : Pieces → ℕ → Bool → List (List ℕ) → Type 0
HoldRun pieces n begins [] = ⊤
HoldRun pieces n begins (bytes ∷ parts) = (pieces n ≡ Some (begins, bytes)) × HoldRun pieces (n + 1) false parts

-- the same, but that each page may be missing
abbrev pub HoldPart : Pieces → ℕ → Bool → List (List ℕ) → Type 0
HoldPart pieces n begins [] = ⊤
HoldPart pieces n begins (bytes ∷ parts) = ((pieces n ≡ Some (begins, bytes)) ⊎ (pieces n ≡ None)) × HoldPart pieces (n + 1) false parts

-- a run's pages are full, but for its last one
abbrev pub AreFull : List (List ℕ) → Type 0
AreFull [] = ⊤
AreFull (bytes ∷ []) = ⊤
AreFull (bytes ∷ next ∷ parts) = (length bytes ≡ 8176) × AreFull (next ∷ parts)

-- the bytes of a run
abbrev pub joined : List (List ℕ) → List ℕ
joined parts = flat_map (λ (bytes : List ℕ). bytes) parts

-- the file of a base
abbrev pub file_of : ℕ → ℕ
file_of base = base / 8176 / 1024

-- the number of the page behind a whole front and a run
abbrev pub behind : ℕ → List Piece → List (List ℕ) → ℕ
behind base whole parts = base / 8176 + length whole + length parts

-- From this file on the log's files stand up to the one of page n, and it too unless n is its first page. They have at
-- most 1024 pages, and there are none behind.
pub record FilesStand (files : LogFiles) (low n : ℕ) : Type 0 where
  pub here : IsSome (files (n / 1024)) ⊎ (n % 1024 ≡ 0)
  pub stand : (f : ℕ) → low ≤ f → f < n / 1024 → IsSome (files f)
  pub few : (f : ℕ) → low ≤ f → f ≤ n / 1024 → option_map_or length (files f) 0 ≤ 1024
  pub none : (f : ℕ) → n / 1024 < f → f < 2 ^ 24 → files f ≡ None

-- The files hold this front, and behind it each page of a run or nothing there.
pub record HoldsRun (base : ℕ) (whole : List Piece) (parts : List (List ℕ)) (content : LogFiles) : Type 0 where
  pub stand : Stand (pieces_of content) (base / 8176) true whole
  pub part : HoldPart (pieces_of content) (base / 8176 + length whole) true parts
  pub none : (n : ℕ) → behind base whole parts ≤ n → pieces_of content n ≡ None
  pub files : FilesStand content (file_of base) (behind base whole parts)

-- what the log's files may hold while these bytes are written as a run behind a whole front
pub record IsImage (base : ℕ) (whole : List Piece) (text : List ℕ) (files : LogFiles) : Type 0 where
  pub parts : List (List ℕ)
  pub ahead : List ℕ
  pub holds : HoldsRun base whole parts files
  pub full : AreFull parts
  pub text_is : joined parts ++ ahead ≡ text

-- the same, and some of the bytes aren't in the files
pub record IsStrict (base : ℕ) (whole : List Piece) (text : List ℕ) (files : LogFiles) : Type 0 where
  pub front : List ℕ
  pub ahead : List ℕ
  pub image : IsImage base whole front files
  pub some : 1 ≤ length ahead
  pub text_is : front ++ ahead ≡ text

-- the file of page n is there or it isn't
abbrev pub IsThere : Bool → LogFiles → ℕ → Type 0
IsThere true files n = IsSome (files (n / 1024))
IsThere false files n = files (n / 1024) ≡ None

-- Behind a whole front, which is on the disk, these pages were written as a run.
pub record IsWriting (s : State) (base : ℕ) (whole : List Piece) (parts : List (List ℕ)) (there : Bool) : Type 0 where
  pub run : HoldRun (pieces_of (log_files s.folder)) (base / 8176 + length whole) true parts
  pub reads : HoldsRun base whole parts (log_files s.folder)
  pub now : IsThere there (log_files s.folder) (behind base whole parts)
  pub images : (c : Folder) → s.may_leave c → HoldsRun base whole parts (log_files c)
  pub each : (c : Folder) → s.may_leave c → IsThere there (log_files c) (behind base whole parts)

-- the page that is filled has this number and holds these bytes
pub record Fills (log : LogValue) (number : ℕ) (bytes : List ℕ) : Type 0 where
  pub number_is : log.number ≡ number
  pub used_is : log.used ≡ length bytes
  pub body_is : drop 16 log.page ≡ log_body bytes

-- Behind a whole front, which is on the disk, these bytes were appended: some are in the files, in full pages, and the
-- others in the page that is filled.
pub record IsAt (log : LogValue) (s : State) (base : ℕ) (whole : List Piece) (text : List ℕ) : Type 0 where
  pub parts : List (List ℕ)
  pub held : List ℕ
  pub writing : IsWriting s base whole parts log.there
  pub full : All (λ (bytes : List ℕ). length bytes ≡ 8176) parts
  pub first : log.first ≡ base / 8176 + length whole
  pub fills : Fills log (behind base whole parts) held
  pub text_is : joined parts ++ held ≡ text

-- the base is the first byte behind the front, or a used byte of its first page
abbrev pub IsBaseOf : ℕ → List Piece → Type 0
IsBaseOf base [] = base % 8176 ≡ 0
IsBaseOf base (p ∷ ps) = base % 8176 < length p.1

-- The log has these groups from this base on. So many are forced: they are on the disk, whole runs of them, and the
-- others were appended behind.
pub record IsLog (log : LogValue) (s : State) (base : ℕ) (groups : List Logged) (forced : ℕ) : Type 0 where
  pub whole : List Piece
  pub based : IsBaseOf base whole
  pub fresh : List (List Record)
  pub are : All IsGroup fresh
  pub forced_are : forced ≡ length (groups_from base whole)
  pub groups_are : groups ≡ groups_from base whole ++ placed (8176 * (base / 8176 + length whole)) fresh
  pub at : IsAt log s base whole (groups_bytes fresh)
  -- with no byte in the page that is filled, nothing was appended since the last force
  pub idle : log.used ≡ 0 → log.first ≡ log.number

-- the log was started, and has some groups
abbrev pub IsRunning : LogValue → State → Type 0
IsRunning log s = (base : ℕ) × (groups : List Logged) × (forced : ℕ) × IsLog log s base groups forced

-- The log has these groups at each moment, but that some of those that aren't forced may be missing at its end.
abbrev pub LogKeeps : State → State → ℕ → List Logged → ℕ → Type 0
LogKeeps old new base groups forced = LogMoments old new (HoldsFrom base groups forced)

-- where the next byte is put
abbrev pub place : LogValue → ℕ
place log = 8176 * log.number + log.used

-- the pages that the log has once all of it is forced
abbrev pub log_pages : LogValue → ℕ
log_pages log = (place log + 8175) / 8176

-- the file of the page behind a run was made
pub record Makes (old new : State) (base : ℕ) (whole : List Piece) (parts : List (List ℕ)) (done : Bool) : Type 0 where
  pub writing : IsTrue done → IsWriting new base whole parts true
  pub keeps : LogMoments old new (HoldsRun base whole parts)

-- a page was written at the end of a run
pub record Wrote (log : LogValue) (old new : State) (base : ℕ) (whole : List Piece) (parts : List (List ℕ)) (held : List ℕ) (done : Bool) : Type 0 where
  pub writing : IsTrue done → IsWriting new base whole (parts ++ held ∷ []) log.there
  pub fills : IsTrue done → Fills log (behind base whole parts + 1) []
  pub keeps : LogMoments old new (IsImage base whole (joined parts ++ held))

-- bytes were appended
pub record Adds (log : LogValue) (old new : State) (base : ℕ) (whole : List Piece) (text : List ℕ) (done : Bool) : Type 0 where
  pub at : IsTrue done → IsAt log new base whole text
  pub keeps : LogMoments old new (IsImage base whole text)

-- The run was brought to the disk: each image has its pages.
pub record Synced (old new : State) (base : ℕ) (whole : List Piece) (parts : List (List ℕ)) (there : Bool) (done : Bool) : Type 0 where
  pub writing : IsTrue done → IsWriting new base whole parts there
  pub durable : IsTrue done → (c : Folder) → new.may_leave c → HoldRun (pieces_of (log_files c)) (base / 8176 + length whole) true parts
  pub keeps : LogMoments old new (HoldsRun base whole parts)

-- The files of the run below this one were brought to the disk.
pub record SyncedUpTo (old new : State) (base : ℕ) (whole : List Piece) (parts : List (List ℕ)) (there : Bool) (file : ℕ) : Type 0 where
  pub writing : IsWriting new base whole parts there
  pub durable : (c : Folder) → new.may_leave c → (n : ℕ) → base / 8176 + length whole ≤ n → n / 1024 < file → n < behind base whole parts → pieces_of (log_files c) n ≡ pieces_of (log_files new.folder) n
  pub keeps : LogMoments old new (HoldsRun base whole parts)

-- ---- opening and starting

-- each crash leaves the log's files as they read, from this one on
abbrev pub AreAtRest : State → ℕ → Type 0
AreAtRest s low = (c : Folder) → s.may_leave c → (f : ℕ) → low ≤ f → f < 2 ^ 24 → log_files c f ≡ log_files s.folder f

-- The log was opened from this base on: its end was found, and there is no damage. Its files up to the last one are on the
-- disk, and there are none behind it. Nothing was changed, so nothing may be appended yet.
pub record IsOpened (log : LogValue) (s : State) (base : ℕ) (groups : List Logged) (last : ℕ) : Type 0 where
  pub whole : List Piece
  pub front : IsFront (pieces_of (log_files s.folder)) (base / 8176) true whole
  pub based : IsBaseOf base whole
  pub groups_are : groups ≡ groups_from base whole
  pub first : log.first ≡ log.number
  pub fills : Fills log (base / 8176 + length whole) []
  pub low : base / 8176 + length whole < 2 ^ 34
  pub sound : IsSoundLog (log_files s.folder) base (base / 8176 + length whole)
  pub last_is : (base / 8176 + length whole) / 1024 < last → IsSome (log_files s.folder last)
  pub none : (f : ℕ) → (base / 8176 + length whole) / 1024 < f → last < f → f < 2 ^ 24 → log_files s.folder f ≡ None
  pub rest : AreAtRest s (file_of base)

-- the files hold exactly these groups, and no damage
pub record HoldsAll (base : ℕ) (groups : List Logged) (files : LogFiles) : Type 0 where
  pub end : ℕ
  pub holds : HoldsLog files base groups end
  pub sound : IsSoundLog files base end

-- A call of starting: the log stays opened, with this last file, the files up to that of its end stay as they were, and
-- each image has its groups at each moment.
pub record Starts (log : LogValue) (old new : State) (base : ℕ) (groups : List Logged) (last : ℕ) (done : Bool) : Type 0 where
  pub opened : IsTrue done → IsOpened log new base groups last
  pub same : IsTrue done → (f : ℕ) → f ≤ log.number / 1024 → log_files new.folder f ≡ log_files old.folder f
  pub keeps : LogMoments old new (HoldsAll base groups)

-- the file of page n is there or it isn't, and no page of it from there on holds anything
pub record EndsAt (there : Bool) (files : LogFiles) (n : ℕ) : Type 0 where
  pub now : IsThere there files n
  pub none : (k : ℕ) → n ≤ k → k / 1024 ≡ n / 1024 → pieces_of files k ≡ None

-- only zeros stand in the file from this page on
abbrev pub IsBlankFrom : ℕ → Option (List (List ℕ)) → Type 0
IsBlankFrom at content = (page : ℕ) → at ≤ page → page_or_zero page content ≡ zero_page

-- The file stays as it was where only zeros stand from this page on, and else it is cut there.
pub record EndsFile (at : ℕ) (old new : Option (List (List ℕ))) : Type 0 where
  pub blank : IsBlankFrom at old → new ≡ old
  pub cut : (¬ IsBlankFrom at old) → new ≡ option_map (take at) old

-- The log's last file was ended where the log ends: the log stays opened, and the file has so many pages, or isn't there.
pub record IsEnded (log : LogValue) (old new : State) (base : ℕ) (groups : List Logged) (pages : Option ℕ) : Type 0 where
  pub opened : IsOpened log new base groups (log.number / 1024)
  pub ends : EndsAt (is_some pages) (log_files new.folder) log.number
  pub file : EndsFile (log.number % 1024) (log_files old.folder (log.number / 1024)) (log_files new.folder (log.number / 1024))
  pub size : pages ≡ option_map length (log_files new.folder (log.number / 1024))

-- A log was started: zeros behind its end in its last file stay, as room for pages to come; and it knows how far they go.
pub record KeepsRoom (log log' : LogValue) (old new : LogFiles) : Type 0 where
  pub file : EndsFile (log.number % 1024) (old (log.number / 1024)) (new (log.number / 1024))
  pub made : log'.made ≡ max log.number (1024 * (log.number / 1024) + option_map_or length (new (log.number / 1024)) 0)

-- the folder and each image have no file of the log
pub record HasNoLog (s : State) : Type 0 where
  pub folder : (f : ℕ) → f < 2 ^ 24 → log_files s.folder f ≡ None
  pub images : (c : Folder) → s.may_leave c → (f : ℕ) → f < 2 ^ 24 → log_files c f ≡ None

-- the log's last file was cut, and isn't on the disk yet
pub record Cutting (log : LogValue) (old new : State) (base : ℕ) (groups : List Logged) (file : ℕ) (done : Bool) : Type 1 where
  pub keeps : LogMoments old new (HoldsAll base groups)
  pub now : (c : Folder) → new.may_leave c → HoldsAll base groups (log_files c)
  pub some : (c : Folder) → new.may_leave c → IsSome (log_files c file)
  pub same : (c : Folder) → new.may_leave c → (f : ℕ) → file_of base ≤ f → f < 2 ^ 24 → (file == f) ≡ false → log_files c f ≡ log_files new.folder f
  pub opened : IsTrue done → (s : State) → s.folder ≡ new.folder → AreAtRest s (file_of base) → IsOpened log s base groups file

-- the log ends where it did, with the same bytes in the page that is filled
pub record IsSameEnd (old new : LogValue) : Type 0 where
  pub page : new.page ≡ old.page
  pub number : new.number ≡ old.number
  pub first : new.first ≡ old.first
  pub used : new.used ≡ old.used
  pub there : new.there ≡ old.there

-- Pages of zeros were written behind a run, or some of them: the run is as it was.
pub record GoesAhead (old new : State) (base : ℕ) (whole : List Piece) (parts : List (List ℕ)) : Type 0 where
  pub writing : IsWriting new base whole parts true
  pub keeps : LogMoments old new (HoldsRun base whole parts)

-- What a crash leaves of the tables.
use Rattle.std.specs.Prelude.{is_some, ◌≡◌, ◌⊎◌, ◌<◌, ℕ, Bool, None, Some, List, IsTrue}
use Rattle.aria_page.specs.declared.place.Part.{Part}
use Rattle.aria_host.specs.Folder.{Folder}
use Rattle.aria_host.specs.Seen.{page_or_zero}
use Rattle.aria_host.specs.State.{State, LeavesOnly}
use Rattle.aria_record.specs.Logged.{Logged}
use Rattle.aria_recovery.specs.Redo.{Seen, seen}
use Rattle.aria_recovery.specs.Tables.{file, Agrees, AreCurrent}

-- a folder that a crash may leave, where the folder reads as d: it comes to the same tables, and the files of open tables are current
pub record IsImage (opened : List ℕ → Bool) (groups : List Logged) (forced : ℕ) (d c : Folder) : Type 0 where
  pub agrees : Agrees groups forced d c
  pub current : (name : List ℕ) → IsTrue (opened name) → AreCurrent name groups c

abbrev pub AreImages : (List ℕ → Bool) → State → List Logged → ℕ → Type 0
AreImages opened s groups forced = (c : Folder) → s.may_leave c → IsImage opened groups forced s.folder c

-- A step is neutral: from each image it leads to one that comes to the same tables, with the files of open tables current.
abbrev pub IsNeutral : (List ℕ → Bool) → List Logged → ℕ → Folder → (Folder → Folder → Type 0) → Type 0
IsNeutral opened groups forced now step = (d c : Folder) → IsImage opened groups forced now d → step d c → IsImage opened groups forced d c

-- a crash leaves the tables that were there as the call began, and nothing is told
pub record AtTables (old : State) (groups : List Logged) (forced : ℕ) (c : Folder) (told : List ℕ) : Type 0 where
  pub agrees : Agrees groups forced old.folder c
  pub told_is : told ≡ old.out

-- The tables stay, at each moment and in each image.
pub record Calm (opened : List ℕ → Bool) (old new : State) (groups : List Logged) (forced : ℕ) : Type 0 where
  pub moments : LeavesOnly old new (AtTables old groups forced)
  pub images : AreImages opened new groups forced
  pub folder : Agrees groups forced old.folder new.folder
  pub out : new.out ≡ old.out
  pub err : new.err ≡ old.err

-- a page of a table's file, or zeros past its end and where it isn't there
abbrev pub page_of : Folder → List ℕ → Part → ℕ → Seen
page_of folder name part n = seen (page_or_zero n (folder (file name part)))

-- it is sound, and its log sequence number is below
abbrev pub IsBelow : ℕ → Seen → Type 0
IsBelow bound None = ⊥
IsBelow bound (Some s) = s.0 < bound

-- Each page is as it was, or is below: no page is ahead of the log that wasn't so before.
abbrev pub Raises : ℕ → Folder → Folder → Type 0
Raises bound d c = (name : List ℕ) (part : Part) (n : ℕ) → (page_of c name part n ≡ page_of d name part n) ⊎ IsBelow bound (page_of c name part n)

-- A table's file is there in the image exactly where it is there as the folder reads. It holds until a fault is kept.
abbrev pub SameNames : Folder → Folder → Type 0
SameNames now c = (name : List ℕ) (part : Part) → is_some (c (file name part)) ≡ is_some (now (file name part))

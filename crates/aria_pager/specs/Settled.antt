-- A folder whose log was found, and one whose tables' files are settled.
use Rattle.std.specs.Prelude.{◌≡◌, ℕ, None, Some, List, length}
use Rattle.aria_page.specs.declared.place.Part.{Part}
use Rattle.aria_host.specs.Folder.{Folder}
use Rattle.aria_host.specs.State.{State}
use Rattle.aria_record.specs.Logged.{Logged}
use Rattle.aria_log.specs.declared.log.Log.{Log as LogValue}
use Rattle.aria_log.specs.Log.{IsLog, IsOpened, place}
use Rattle.aria_recovery.specs.Redo.{number_at}
use Rattle.aria_recovery.specs.Tables.{Maker, life_of, file, Agrees, AreCurrent}
use Rattle.aria_recovery.specs.Images.{Raises, SameNames}
use Rattle.aria_pager.specs.Pager.{NamesBase}

-- The log was found: it has these groups from the base on. Each image has the tables' files as they read, and names the base.
pub record IsFound (value : LogValue) (s : State) (base : ℕ) (groups : List Logged) : Type 0 where
  pub log : IsOpened value s base groups value.last
  pub names : (c : Folder) → s.may_leave c → SameNames s.folder c
  pub tables : (c : Folder) → s.may_leave c → (name : List ℕ) (part : Part) → c (file name part) ≡ s.folder (file name part)
  pub control : (c : Folder) → s.may_leave c → NamesBase base c

-- The log was started, and the tables' files are those that its groups made or left last.
pub record IsSettled (value : LogValue) (s : State) (base : ℕ) (start : Folder) (groups : List Logged) : Type 0 where
  pub log : IsLog value s base groups (length groups)
  pub idle : value.used ≡ 0
  pub names : (c : Folder) → s.may_leave c → SameNames s.folder c
  pub control : (c : Folder) → s.may_leave c → NamesBase base c
  pub agrees : (c : Folder) → s.may_leave c → Agrees groups (length groups) s.folder c
  pub made : (name : List ℕ) (m : Maker) → (life_of name groups).last ≡ Some (Some m) → (c : Folder) → s.may_leave c → AreCurrent name groups c
  pub gone : (name : List ℕ) → (life_of name groups).last ≡ Some None → (part : Part) → s.folder (file name part) ≡ None
  pub raises : (c : Folder) → s.may_leave c → Raises (number_at (place value)) start c

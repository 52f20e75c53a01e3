-- What holds while the files of tables are settled, and what the calls that settle them do.
use Rattle.std.specs.Prelude.{IsTrue, ◌≡◌, ℕ, Bool, true, false, Option, None, Some, is_some, List, [], ◌∷◌, length}
use Rattle.std.specs.List.{list_any}
use Rattle.aria_page.specs.Page.{Sums}
use Rattle.aria_page.specs.declared.place.Part.{Part}
use Rattle.aria_page.specs.declared.place.Part.TheVariants.{Keys, Rows}
use Rattle.aria_value.specs.Reading.{read_definition}
use Rattle.aria_host.specs.declared.file_name.FileName.{FileName}
use Rattle.aria_host.specs.declared.file_name.FileName.TheVariants as files
use Rattle.aria_host.specs.Folder.{Folder, same_file, with_file}
use Rattle.aria_host.specs.Moments.{Moments}
use Rattle.aria_host.specs.State.{State}
use Rattle.aria_record.specs.Logged.{Logged}
use Rattle.aria_log.specs.declared.log.Log.{Log as LogValue}
use Rattle.aria_log.specs.Log.{IsLog, place}
use Rattle.aria_recovery.specs.Redo.{number_at, seen}
use Rattle.aria_recovery.specs.Tables.{Maker, life_of, is_from, made_page, file, Agrees}
use Rattle.aria_recovery.specs.Images.{AreImages, IsBelow, Raises}
use Rattle.aria_pager.specs.Pager.{NamesBase, HasFront}

-- no table is open yet
abbrev pub none_open : List ℕ → Bool
none_open name = false

-- ---- files

-- a file of a table, or one that a repair writes beside it
abbrev pub is_table_file : FileName → Bool
is_table_file files.Control = false
is_table_file (files.Log n) = false
is_table_file (files.Keys name) = true
is_table_file (files.Rows name) = true
is_table_file (files.NewKeys name) = true
is_table_file (files.NewRows name) = true

-- each such file that is there is listed, and no other one
abbrev pub AreAllListed : List FileName → Folder → Type 0
AreAllListed names folder = (f : FileName) → is_table_file f ≡ true → list_any (same_file f) names ≡ is_some (folder f)

-- The files that may change: those of the log, those that a repair has left, and those of each table that the groups made or
-- dropped.
abbrev pub may_change : List Logged → FileName → Bool
may_change groups files.Control = false
may_change groups (files.Log n) = true
may_change groups (files.Keys name) = is_some (life_of name groups).last
may_change groups (files.Rows name) = is_some (life_of name groups).last
may_change groups (files.NewKeys name) = true
may_change groups (files.NewRows name) = true

-- ---- what stays

-- A crash leaves the log with these groups, from the base that the control file names, and what comes to the same tables by all
-- of them.
pub record KeepsTables (base : ℕ) (groups : List Logged) (old : Folder) (c : Folder) : Type 0 where
  pub log : HasFront base c groups
  pub agrees : Agrees groups (length groups) old c

-- The log was started, and has these groups from the base on, all of which are on the disk. Each image comes to the same tables
-- by them, names the base, and has no page ahead of the log that wasn't so where the folder was as at the start.
pub record HasTables (log' : LogValue) (s : State) (base : ℕ) (start : Folder) (groups : List Logged) : Type 0 where
  pub log : IsLog log' s base groups (length groups)
  pub images : AreImages none_open s groups (length groups)
  pub control : (c : Folder) → s.may_leave c → NamesBase base c
  pub raises : (c : Folder) → s.may_leave c → Raises (number_at (place log')) start c

-- each image has the tables' files as they read
abbrev pub HasFiles : State → Type 0
HasFiles s = (c : Folder) → s.may_leave c → (name : List ℕ) (part : Part) → c (file name part) ≡ s.folder (file name part)

-- Files of tables were settled, or some of them, with any answer.
pub record Prepares (log' : LogValue) (old new : State) (base : ℕ) (start : Folder) (groups : List Logged) : Type 0 where
  pub moments : Moments (may_change groups) old new (KeepsTables base groups old.folder)
  pub agrees : Agrees groups (length groups) old.folder new.folder
  pub tables : HasTables log' new base start groups

-- ---- one file

-- The file may be removed: it may change, and the tables don't.
pub record IsFree (f : FileName) (s : State) (groups : List Logged) : Type 0 where
  pub mine : may_change groups f ≡ true
  pub table : is_table_file f ≡ true
  pub agrees : (c : Folder) → s.may_leave c → Agrees groups (length groups) c (with_file f None c)

-- the first page of a file of a table that the groups made last; it bears a number below this one
pub record IsFirst (name : List ℕ) (part : Part) (groups : List Logged) (maker : Maker) (page : List ℕ) (bound : ℕ) : Type 0 where
  pub last : (life_of name groups).last ≡ Some (Some maker)
  pub page_is : page ≡ made_page maker part
  pub from : is_from maker.at (Some (page ∷ [])) ≡ true
  pub low : IsBelow bound (seen page)

-- the first pages of both files
pub record AreFirst (name : List ℕ) (groups : List Logged) (maker : Maker) (bound : ℕ) (first other : List ℕ) : Type 0 where
  pub keys : IsFirst name Keys groups maker first bound
  pub rows : IsFirst name Rows groups maker other bound

-- the same pages, as the maker has them
pub record HasMade (maker : Maker) (pages : List ℕ × List ℕ) : Type 0 where
  pub spelled : IsTrue (is_some (read_definition maker.definition))
  pub keys : pages.0 ≡ made_page maker Keys
  pub rows : pages.1 ≡ made_page maker Rows
  pub sums : Sums pages.0 × Sums pages.1

abbrev pub AreMade : Maker → Option (List ℕ × List ℕ) → Type 0
AreMade maker None = ⊥
AreMade maker (Some pages) = HasMade maker pages

-- ---- names

-- The table's files are settled: those of one that was dropped are gone, and those of one that was made aren't older than it.
abbrev pub IsSettledBy : Option (Option Maker) → Option (List (List ℕ)) → Type 0
IsSettledBy None content = Unit {0}
IsSettledBy (Some None) content = content ≡ None
IsSettledBy (Some (Some maker)) content = is_from maker.at content ≡ true

abbrev pub IsSettledName : List ℕ → List Logged → Folder → Type 0
IsSettledName name groups folder = (part : Part) → IsSettledBy (life_of name groups).last (folder (file name part))

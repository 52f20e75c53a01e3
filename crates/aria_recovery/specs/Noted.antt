-- What is kept of each table while groups are added.
use Rattle.std.specs.Prelude.{◌≡◌, ℕ, ◌||◌, max, Bool, false, Option, is_some, None, Some, List, [], ◌∷◌, if◌then◌else◌}
use Rattle.std.specs.List.{list_any}
use Rattle.std.specs.Option.{option_map, option_map_or}
use Rattle.std.specs.BTreeMap as tree
use Rattle.std.specs.BTreeMap.{BTreeMap}
use Rattle.std.specs.Cmp.Lexicographic.{slice_cmp}
use Rattle.std.specs.Ordering.{nat_cmp}
use Rattle.aria_page.specs.declared.lsn.Lsn.{Lsn}
use Rattle.aria_page.specs.declared.place.Part.{Part}
use Rattle.aria_page.specs.declared.place.Part.TheVariants.{Keys, Rows}
use Rattle.aria_page.specs.declared.edit.Edit.{Edit}
use Rattle.aria_value.specs.Named.{same_name}
use Rattle.aria_record.specs.declared.record.Record.{Record}
use Rattle.aria_record.specs.declared.record.Record.TheVariants.{Redo, CreateTable, DropTable, RepairTable}
use Rattle.aria_record.specs.Logged.{Logged, lsn_at_place}
use Rattle.aria_recovery.specs.Tables.{Maker, says, says_group, life_of}
use Rattle.aria_recovery.specs.Redo.{edits_in, edits_at, edits_on, is_some_edit, touches, reach, reach_on, reach_in as reach_by}
use Rattle.aria_recovery.specs.declared.edited.Edited.{Edited}
use Rattle.aria_recovery.specs.declared.life.Life.{Life}
use Rattle.aria_recovery.specs.declared.life.Told.{Told}
use Rattle.aria_recovery.specs.declared.life.Told.TheVariants as told

abbrev pub edited_of : Life → Part → Edited
edited_of life Keys = life.keys
edited_of life Rows = life.rows

-- the last group that edits the page, and one more than the highest page that is named, of a table of which something is told
abbrev pub edit_in : Life → Part → ℕ → Option Lsn
edit_in life part n = tree.get nat_cmp (edited_of life part).last n

abbrev pub reach_in : Life → Part → ℕ
reach_in life part = (edited_of life part).reach

abbrev pub Lives : Type 0
Lives = BTreeMap (List ℕ) Life

abbrev pub life_at : Lives → List ℕ → Option Life
life_at lives name = tree.get (slice_cmp nat_cmp) lives name

-- the same of any name
abbrev pub edit_at : Option Life → Part → ℕ → Option Lsn
edit_at life part n = option_map_or (λ l. edit_in l part n) life None

abbrev pub reach_at : Option Life → Part → ℕ
reach_at life part = option_map_or (λ l. reach_in l part) life 0

abbrev pub told_at : Option Life → Told
told_at life = option_map_or (λ l. l.told) life told.Nothing

abbrev pub file_group_at : Option Life → Option Lsn
file_group_at life = option_map_or (λ l. l.file_group) life None

-- what a page's last edit is after one group more
abbrev pub edit_after : Lsn → List Edit → Option Lsn → Option Lsn
edit_after at edits last = if is_some_edit edits then Some at else last

-- a record of edits of a page of that table
abbrev pub is_redo_of : List ℕ → Record → Bool
is_redo_of name (Redo kind table part page edits) = same_name name table
is_redo_of name _ = false

-- something is told of the name
abbrev pub is_known : Lives → List ℕ → Bool
is_known lives name = is_some (life_at lives name)

-- A record of a group is noted, in each table's life.
pub record Notes (at : Lsn) (r : Record) (old new : Lives) : Type 0 where
  pub edits : (name : List ℕ) (part : Part) (n : ℕ) → edit_at (life_at new name) part n ≡ edit_after at (edits_at n (edits_in name part r)) (edit_at (life_at old name) part n)
  pub reach : (name : List ℕ) (part : Part) → reach_at (life_at new name) part ≡ max (reach_at (life_at old name) part) (reach_by (edits_in name part r))
  pub told : (name : List ℕ) → told_at (life_at new name) ≡ told_at (life_at old name)
  pub file_group : (name : List ℕ) → file_group_at (life_at new name) ≡ file_group_at (life_at old name)
  pub names : (name : List ℕ) → is_known new name ≡ (is_redo_of name r || is_known old name)

-- All records of a group are noted.
pub record NotesAll (at : Lsn) (rs : List Record) (old new : Lives) : Type 0 where
  pub edits : (name : List ℕ) (part : Part) (n : ℕ) → edit_at (life_at new name) part n ≡ edit_after at (edits_on name part n rs) (edit_at (life_at old name) part n)
  pub reach : (name : List ℕ) (part : Part) → reach_at (life_at new name) part ≡ max (reach_at (life_at old name) part) (reach_on name part rs)
  pub told : (name : List ℕ) → told_at (life_at new name) ≡ told_at (life_at old name)
  pub file_group : (name : List ℕ) → file_group_at (life_at new name) ≡ file_group_at (life_at old name)
  pub names : (name : List ℕ) → is_known new name ≡ (list_any (is_redo_of name) rs || is_known old name)

-- ---- what a group says of files

abbrev pub told_of : Option (Option Maker) → Told
told_of None = told.Nothing
told_of (Some None) = told.Dropped
told_of (Some (Some maker)) = told.Made maker.at

-- as it was where nothing is said, and anew where files are made or dropped
abbrev pub unless_said : {A : Type 0} → Option (Option Maker) → A → A → A
unless_said None old anew = old
unless_said (Some last) old anew = anew

-- a record that makes, drops or repairs the files of a name
abbrev pub is_file_record : List ℕ → Record → Bool
is_file_record name (CreateTable table plain definition format) = same_name name table
is_file_record name (DropTable table) = same_name name table
is_file_record name (RepairTable table) = same_name name table
is_file_record name _ = false

-- What a group's first record says of files is taken in: where they are made or dropped, no page is edited since.
pub record Settles (at : Lsn) (r : Record) (old new : Lives) : Type 0 where
  pub edits : (name : List ℕ) (part : Part) (n : ℕ) → edit_at (life_at new name) part n ≡ unless_said (says at name r) (edit_at (life_at old name) part n) None
  pub reach : (name : List ℕ) (part : Part) → reach_at (life_at new name) part ≡ unless_said (says at name r) (reach_at (life_at old name) part) 0
  pub told : (name : List ℕ) → told_at (life_at new name) ≡ unless_said (says at name r) (told_at (life_at old name)) (told_of (says at name r))
  pub file_group : (name : List ℕ) → file_group_at (life_at new name) ≡ (if is_file_record name r then Some at else file_group_at (life_at old name))
  pub names : (name : List ℕ) → is_known new name ≡ (is_file_record name r || is_known old name)

-- the same of a group, whose first record alone may say it
abbrev pub is_file_group : List ℕ → List Record → Bool
is_file_group name [] = false
is_file_group name (r ∷ rs) = is_file_record name r

pub record SettlesGroup (at : Lsn) (rs : List Record) (old new : Lives) : Type 0 where
  pub edits : (name : List ℕ) (part : Part) (n : ℕ) → edit_at (life_at new name) part n ≡ unless_said (says_group name at rs) (edit_at (life_at old name) part n) None
  pub reach : (name : List ℕ) (part : Part) → reach_at (life_at new name) part ≡ unless_said (says_group name at rs) (reach_at (life_at old name) part) 0
  pub told : (name : List ℕ) → told_at (life_at new name) ≡ unless_said (says_group name at rs) (told_at (life_at old name)) (told_of (says_group name at rs))
  pub file_group : (name : List ℕ) → file_group_at (life_at new name) ≡ (if is_file_group name rs then Some at else file_group_at (life_at old name))
  pub names : (name : List ℕ) → is_known new name ≡ (is_file_group name rs || is_known old name)

-- ---- what the groups tell

-- the last of these groups that edits the page
abbrev pub last_edit_in : List ℕ → Part → ℕ → Option ℕ → List Logged → Option ℕ
last_edit_in name part n last [] = last
last_edit_in name part n last (g ∷ gs) = last_edit_in name part n (if touches name part n g.group then Some g.at else last) gs

-- the last group that edits the page, behind the one that made or dropped the table's files last
abbrev pub last_edit : List ℕ → Part → ℕ → List Logged → Option ℕ
last_edit name part n gs = last_edit_in name part n None (life_of name gs).since

-- the last group that makes, drops or repairs the files of the name
abbrev pub last_file_in : List ℕ → Option ℕ → List Logged → Option ℕ
last_file_in name last [] = last
last_file_in name last (g ∷ gs) = last_file_in name (if is_file_group name g.group then Some g.at else last) gs

abbrev pub last_file : List ℕ → List Logged → Option ℕ
last_file name gs = last_file_in name None gs

-- a group that edits pages of the table, or makes, drops or repairs its files
abbrev pub is_of : List ℕ → Logged → Bool
is_of name g = is_file_group name g.group || list_any (is_redo_of name) g.group

-- The map tells of each table what these groups do.
pub record HasLives (lives : Lives) (gs : List Logged) : Type 0 where
  pub edits : (name : List ℕ) (part : Part) (n : ℕ) → edit_at (life_at lives name) part n ≡ option_map lsn_at_place (last_edit name part n gs)
  pub reach : (name : List ℕ) (part : Part) → reach_at (life_at lives name) part ≡ reach name part (life_of name gs).since
  pub told : (name : List ℕ) → told_at (life_at lives name) ≡ told_of (life_of name gs).last
  pub file_group : (name : List ℕ) → file_group_at (life_at lives name) ≡ option_map lsn_at_place (last_file name gs)
  pub names : (name : List ℕ) → is_known lives name ≡ list_any (is_of name) gs

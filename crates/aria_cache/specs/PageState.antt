-- Pages as contracts see them: the bodies of the pages of tables' files, and the group of edits that is open.
use Rattle.std.specs.Prelude.{◌==◌, ◌&&◌, if◌then◌else◌, ℕ, max, Bool, Option, List, [], ◌∷◌}
use Rattle.std.specs.Option.{option_map}
use Rattle.aria_page.specs.declared.edit.Edit.{Edit}
use Rattle.aria_page.specs.declared.lsn.Lsn.{Lsn}
use Rattle.aria_page.specs.declared.place.Part.{Part}
use Rattle.aria_page.specs.declared.place.Part.TheVariants.{Keys as KeysPart, Rows as RowsPart}
use Rattle.aria_page.specs.Edit.{all_edited}
use Rattle.aria_host.specs.declared.fault.Fault.{Fault}
use Rattle.aria_host.specs.declared.file_name.FileName.{FileName}
use Rattle.aria_host.specs.declared.file_name.FileName.TheVariants.{Keys, Rows}
use Rattle.aria_host.specs.Folder.{same_file}
use Rattle.aria_record.specs.declared.record.Record.{Record}
use Rattle.aria_record.specs.declared.record.Record.TheVariants.{Redo}
use Rattle.aria_record.specs.Logged.{Logged}

-- the body of each page of each file: zeros past the file's end, and nothing where the page isn't sound
abbrev pub Bodies : Type 0
Bodies = FileName → ℕ → Option (List ℕ)

-- the number of pages of each file
abbrev pub Counts : Type 0
Counts = FileName → ℕ

-- the file of a part of a table
abbrev pub table_file : List ℕ → Part → FileName
table_file name KeysPart = Keys name
table_file name RowsPart = Rows name

-- what contracts know of pages
pub record PageState : Type 0 where
  -- the slots that stand for a table
  pub is_open : ℕ → Bool
  -- the name of each slot's table
  pub name : ℕ → List ℕ
  -- how many pages each file has, those not yet written too
  pub counts : Counts
  pub bodies : Bodies
  -- the page's log sequence number isn't before the log's end
  pub late : FileName → ℕ → Bool
  -- a group is open
  pub in_group : Bool
  -- and has an edit
  pub edited : Bool
  -- its edits, where the pages are logged
  pub edits : List Record
  -- they touch at most so many pages, are at most so many, and take at most so many bytes of the log
  pub touched : ℕ
  pub made : ℕ
  pub bytes : ℕ
  -- the undo records that are pending, the newest first
  pub pending : List Lsn
  -- how many pages the log has once all of it is forced
  pub reach : ℕ
  -- the fault that was answered first
  pub kept : Option Fault
  -- the body of the page that was loaded last
  pub loaded : List ℕ
  -- how many pages were lent, up to 2^64 - 1
  pub lent : ℕ
  -- how often the disk has failed, up to 2^64 - 1
  pub faults : ℕ

-- the file of a slot and part
abbrev pub file_of : PageState → ℕ → Part → FileName
file_of s slot part = table_file (s.name slot) part

-- the bodies with edits of a page, one after another
abbrev pub with_edits : FileName → ℕ → List Edit → Bodies → Bodies
with_edits file page edits bodies = λ f n. if same_file file f && (page == n) then option_map (all_edited edits) (bodies f n) else bodies f n

-- a file has at least so many pages
abbrev pub with_count : FileName → ℕ → Counts → Counts
with_count file pages counts = λ f. if same_file file f then max (counts f) pages else counts f

-- the bodies after a record: only edits of a page change any
abbrev pub record_applied : Record → Bodies → Bodies
record_applied (Redo kind table part page edits) bodies = with_edits (table_file table part) page edits bodies
record_applied _ bodies = bodies

-- the bodies after these records, one after another
abbrev pub edits_applied : List Record → Bodies → Bodies
edits_applied [] bodies = bodies
edits_applied (r ∷ rs) bodies = edits_applied rs (record_applied r bodies)

-- the bodies after these groups, one after another
abbrev pub applied : List Logged → Bodies → Bodies
applied [] bodies = bodies
applied (g ∷ gs) bodies = applied gs (edits_applied g.group bodies)

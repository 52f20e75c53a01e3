-- The tables that a folder comes to by the groups of the log.
use Rattle.std.specs.Prelude.{◌≡◌, if◌then◌else◌, ℕ, ◌≤◌, max, Bool, true, false, nat_le, Option, None, Some, is_some, List, [], ◌∷◌, ◌++◌, length, take, slice_get}
use Rattle.std.specs.Option.{option_map, option_and_then, option_map_or}
use Rattle.aria_page.specs.Lsn.{lsn_number}
use Rattle.aria_page.specs.Page.{zero_page}
use Rattle.aria_page.specs.declared.lsn.Lsn.{Lsn}
use Rattle.aria_page.specs.declared.place.Part.{Part}
use Rattle.aria_page.specs.declared.place.Part.TheVariants.{Keys, Rows}
use Rattle.aria_value.specs.Named.{same_name}
use Rattle.aria_value.specs.declared.definition.Definition.{Definition}
use Rattle.aria_value.specs.Header.{first_index_page, first_data_page}
use Rattle.aria_value.specs.Reading.{read_definition}
use Rattle.aria_host.specs.declared.file_name.FileName.{FileName}
use Rattle.aria_host.specs.declared.file_name.FileName.TheVariants as files
use Rattle.aria_host.specs.Folder.{Folder}
use Rattle.aria_record.specs.declared.record.Record.{Record}
use Rattle.aria_record.specs.declared.record.Record.TheVariants.{CreateTable, DropTable}
use Rattle.aria_record.specs.Logged.{Logged, lsn_at_place}
use Rattle.aria_recovery.specs.Redo.{Seen, Content, page_number, page_seen, reach, redo}

-- a table as a group made it, with the group's log sequence number
pub record Maker : Type 0 where
  pub at : Lsn
  pub plain : Bool
  pub definition : List ℕ
  pub format : ℕ

abbrev pub first_of : Maker → Definition → Part → List ℕ
first_of maker d Keys = first_index_page d maker.plain maker.at maker.format
first_of maker d Rows = first_data_page maker.plain maker.at

-- the first page of a table's file as it is made; zeros where the maker's definition is none
unfoldable pub made_page : Maker → Part → List ℕ
made_page maker part = option_map_or (λ d. first_of maker d part) (read_definition maker.definition) zero_page

-- what a record says of the files of a name: that they are made, or that they are dropped
abbrev pub says : Lsn → List ℕ → Record → Option (Option Maker)
says at name (CreateTable table plain definition format) = if same_name name table then Some (Some (record { at = at; plain = plain; definition = definition; format = format })) else None
says at name (DropTable table) = if same_name name table then Some None else None
says at name _ = None

-- such a record stands alone in its group
abbrev pub says_group : List ℕ → Lsn → List Record → Option (Option Maker)
says_group name at [] = None
says_group name at (r ∷ rs) = says at name r

-- what a group of the log says of the files of a name
abbrev pub told_by : List ℕ → Logged → Option (Option Maker)
told_by name g = says_group name (lsn_at_place g.at) g.group

-- what the log tells of a name: what its files were made as or dropped by last, and the groups since
pub record Life : Type 0 where
  pub last : Option (Option Maker)
  pub since : List Logged

abbrev pub lives : Logged → Life → Option (Option Maker) → Life
lives g life None = record { last = life.last; since = life.since ++ g ∷ [] }
lives g life (Some last) = record { last = Some last; since = [] }

abbrev pub life_from : List ℕ → Life → List Logged → Life
life_from name life [] = life
life_from name life (g ∷ gs) = life_from name (lives g life (told_by name g)) gs

abbrev pub life_of : List ℕ → List Logged → Life
life_of name gs = life_from name (record { last = None; since = [] }) gs

abbrev pub file : List ℕ → Part → FileName
file name Keys = files.Keys name
file name Rows = files.Rows name

-- a file whose first page is there and isn't older than that
abbrev pub is_from : Lsn → Content → Bool
is_from at content = option_map_or (λ page. nat_le (lsn_number at) (page_number page)) (option_and_then (λ pages. slice_get pages 0) content) false

-- a file as redo leaves it
pub record File : Type 0 where
  pub count : ℕ
  pub page : ℕ → Seen

-- a table's files
pub record Table : Type 0 where
  pub file : Part → Option File

-- The file that redo begins with: one that is older than its table stands for its first page as made, alone.
abbrev pub begun : Part → Option (Option Maker) → Content → Content
begun part None content = content
begun part (Some None) content = None
begun part (Some (Some maker)) content = if is_from maker.at content then content else Some (made_page maker part ∷ [])

abbrev pub file_of : List ℕ → Part → List Logged → Content → Option File
file_of name part since content = option_map (λ pages. record { count = max (length pages) (reach name part since); page = λ n. redo name part n since (page_seen pages n) }) content

-- a table is there where it was made last, and where nothing is told and its index file is there
abbrev pub is_there : Option (Option Maker) → Content → Bool
is_there None content = is_some content
is_there (Some last) content = is_some last

abbrev pub table_of : List ℕ → Life → Folder → Option Table
table_of name life folder =
    if is_there life.last (folder (file name Keys)) then Some (record { file = λ part. file_of name part life.since (begun part life.last (folder (file name part))) }) else None

-- THE TABLES
abbrev pub tables_of : Folder → List Logged → List ℕ → Option Table
tables_of folder groups name = table_of name (life_of name groups) folder

-- Two folders come to the same tables by each front of the groups that has so many.
pub record Agrees (groups : List Logged) (forced : ℕ) (one other : Folder) : Type 0 where
  pub tables : (m : ℕ) → forced ≤ m → m ≤ length groups → (name : List ℕ) → tables_of one (take m groups) name ≡ tables_of other (take m groups) name

-- A file of a table is there, and isn't older than its table. Behind a drop there is none.
abbrev pub IsCurrent : Option (Option Maker) → Content → Type 0
IsCurrent None content = is_some content ≡ true
IsCurrent (Some None) content = ⊥
IsCurrent (Some (Some maker)) content = is_from maker.at content ≡ true

-- both files of the name
abbrev pub AreCurrent : List ℕ → List Logged → Folder → Type 0
AreCurrent name groups folder = (part : Part) → IsCurrent (life_of name groups).last (folder (file name part))

-- ---- the pages of a table

-- a page of a table, and the number of its pages
abbrev pub page_in : Option Table → Part → ℕ → Seen
page_in None p n = None
page_in (Some t) p n = option_map_or (λ f. f.page n) (t.file p) None

abbrev pub count_in : Option Table → Part → ℕ
count_in None p = 0
count_in (Some t) p = option_map_or (λ f. f.count) (t.file p) 0

-- a page's body; nothing where it isn't sound or there is no table
abbrev pub body_in : Option Table → Part → ℕ → Option (List ℕ)
body_in t p n = option_map (λ s. s.1) (page_in t p n)

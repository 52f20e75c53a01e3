-- What calls may do to what a crash leaves, over all tables.
use Rattle.std.specs.Prelude.{◌≡◌, ◌+◌, ◌≤◌, ℕ, Bool, Option, None, Some, List, [], ◌∷◌, ◌++◌, length, take}
use Rattle.std.specs.Option.{option_map}
use Rattle.aria_page.specs.Edit.{all_edited}
use Rattle.aria_page.specs.declared.edit.Edit.{Edit}
use Rattle.aria_page.specs.declared.place.Part.{Part}
use Rattle.aria_host.specs.Folder.{Folder}
use Rattle.aria_host.specs.State.{State, LeavesOnly}
use Rattle.aria_record.specs.Logged.{Logged}
use Rattle.aria_recovery.specs.Redo.{body_of, page_seen, edits_on}
use Rattle.aria_recovery.specs.Tables.{Maker, Table, told_by, made_page, body_in, tables_of}
use Rattle.aria_recovery.specs.Images.{AreImages}

-- the tables after so many groups
abbrev pub Versions : Type 0
Versions = ℕ → List ℕ → Option Table

-- the bodies of the pages of tables; nothing where a page isn't sound, or there is no such table
abbrev pub Bodies : Type 0
Bodies = List ℕ → Part → ℕ → Option (List ℕ)

abbrev pub bodies_of : (List ℕ → Option Table) → Bodies
bodies_of tables name part n = body_in (tables name) part n

-- a page's body behind a group, by what it says of the table's files and its edits of the page
abbrev pub body_after : Option (Option Maker) → List Edit → Part → ℕ → Option (List ℕ) → Option (List ℕ)
body_after None edits part n body = option_map (all_edited edits) body
body_after (Some None) edits part n body = None
body_after (Some (Some maker)) edits part n body = body_of (page_seen (made_page maker part ∷ []) n)

abbrev pub after_group : Logged → Bodies → Bodies
after_group g bodies name part n = body_after (told_by name g) (edits_on name part n g.group) part n (bodies name part n)

-- the bodies behind these groups, one after another
abbrev pub applied : List Logged → Bodies → Bodies
applied [] bodies = bodies
applied (g ∷ gs) bodies = applied gs (after_group g bodies)

-- Redo skips none of the groups that follow so many.
abbrev pub Applies : Versions → ℕ → List Logged → Type 0
Applies tables count more = (m : ℕ) → m ≤ length more → (name : List ℕ) (part : Part) (n : ℕ) → bodies_of (tables (count + m)) name part n ≡ applied (take m more) (bodies_of (tables count)) name part n

-- these are the tables that the folder comes to, by each front that has the forced ones
abbrev pub AreTables : Versions → Folder → List Logged → ℕ → Type 0
AreTables tables d groups forced = (m : ℕ) → forced ≤ m → m ≤ length groups → (name : List ℕ) → tables m name ≡ tables_of d (take m groups) name

module _ (HoldsLog : Folder → List Logged → Type 0) where
  -- the log is a front of the groups, of at least so many
  pub record HasFront (groups : List Logged) (forced : ℕ) (c : Folder) : Type 0 where
    pub count : ℕ
    pub from : forced ≤ count
    pub within : count ≤ length groups
    pub log : HoldsLog c (take count groups)

  -- a crash leaves a front of the groups, of at least so many, and the tables after it
  pub record AtFront (tables : Versions) (groups : List Logged) (forced : ℕ) (out : List ℕ) (c : Folder) (told : List ℕ) : Type 0 where
    pub count : ℕ
    pub from : forced ≤ count
    pub within : count ≤ length groups
    pub log : HoldsLog c (take count groups)
    pub is : (name : List ℕ) → tables_of c (take count groups) name ≡ tables count name
    pub told_is : told ≡ out

  -- Groups were added and more are forced. At each moment a crash leaves a front of them, and the tables after it.
  pub record Moves (opened : List ℕ → Bool) (old new : State) (groups groups' : List Logged) (forced forced' : ℕ) : Type 0 where
    pub more : List Logged
    pub grows : groups' ≡ groups ++ more
    pub forces : forced ≤ forced'
    pub within : forced' ≤ length groups'
    pub tables : Versions
    pub starts : AreTables tables old.folder groups forced
    pub ends : AreTables tables new.folder groups' forced'
    pub applies : Applies tables (length groups) more
    pub moments : LeavesOnly old new (AtFront tables groups' forced old.out)
    pub images : AreImages opened new groups' forced'
    pub out : new.out ≡ old.out
    pub err : new.err ≡ old.err

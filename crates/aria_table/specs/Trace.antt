-- Groups of the log, and what tables hold once the pending ones among them are taken back.
use Rattle.std.specs.Prelude.{◌≡◌, ℕ, Bool, true, false, if◌then◌else◌, List, [], ◌∷◌, take, drop, ◌==◌}
use Rattle.std.specs.Cmp.Lexicographic.{pointwise}
use Rattle.aria_page.specs.declared.group.Last.{Last}
use Rattle.aria_page.specs.declared.group.Last.TheVariants.{RowInsert, RowDelete, KeyInsert, KeyDelete}
use Rattle.aria_record.specs.declared.record.Record.{Record}
use Rattle.aria_record.specs.declared.record.Record.TheVariants.{Redo, UndoRowInsert, UndoRowDelete, UndoKeyInsert, UndoKeyDelete, ClrEnd, Commit, Checkpoint, CreateTable, DropTable, RepairTable}
use Rattle.aria_record.specs.Logged.{Logged}
use Rattle.aria_table.specs.Content.{Content, undone, Fits}

-- what a group is for those who take it back: a step of an operation, the undoing of one, the end of a unit, a change of a
-- table's files, or none of these
pub data Means : Type 0 where
  Did : List ℕ → Last → Means
  Undid : List ℕ → Means
  Done : Means
  Filed : List ℕ → Means
  Nothing : Means

-- what the record says that ends the group
abbrev pub means : List Record → Means
means [] = Nothing
means (UndoRowInsert table prev places ∷ []) = Did table (RowInsert places)
means (UndoRowDelete table prev places row ∷ []) = Did table (RowDelete places row)
means (UndoKeyInsert table prev key target entry ∷ []) = Did table (KeyInsert key target entry)
means (UndoKeyDelete table prev key target entry ∷ []) = Did table (KeyDelete key target entry)
means (ClrEnd table this next ∷ []) = Undid table
means (Commit ∷ []) = Done
means (CreateTable table plain definition format ∷ []) = Filed table
means (DropTable table ∷ []) = Filed table
means (RepairTable table ∷ []) = Filed table
means (Redo kind table part page edits ∷ []) = Nothing
means (Checkpoint redo dirty ∷ []) = Nothing
means (r ∷ s ∷ group) = means (s ∷ group)

-- a step that is pending: its number in the log, its table, and what was done
pub record Step : Type 0 where
  pub at : ℕ
  pub table : List ℕ
  pub did : Last

-- the pending steps after a group, newest first
abbrev pub pend : ℕ → Means → List Step → List Step
pend at (Did table did) steps = record { at = at; table = table; did = did } ∷ steps
pend at (Undid table) steps = drop 1 steps
pend at Done steps = []
pend at (Filed table) steps = steps
pend at Nothing steps = steps

-- the pending steps after these groups
abbrev pub pending : List Step → List Logged → List Step
pending steps [] = steps
pending steps (g ∷ gs) = pending (pend g.at (means g.group) steps) gs

-- what each table holds, by its name
abbrev pub Contents : Type 0
Contents = List ℕ → Content

abbrev pub same_name : List ℕ → List ℕ → Bool
same_name = pointwise ◌==◌

-- one table's content without what was done to it last
abbrev pub undone_in : List ℕ → Last → Contents → Contents
undone_in table did cs = λ name. if same_name table name then undone did (cs name) else cs name

-- taken back through the pending steps
abbrev pub back : List Step → Contents → Contents
back [] cs = cs
back (s ∷ steps) cs = back steps (undone_in s.table s.did cs)

module _ (keys : List ℕ → ℕ) (Sound : List ℕ → Content → Type 0) where
  -- the step fits, and leaves what its table may hold
  abbrev pub CanStepBack : Step → Contents → Type 0
  CanStepBack s cs = Fits (keys s.table) s.did (cs s.table) × Sound s.table (undone s.did (cs s.table))

  -- each pending step does
  abbrev pub CanGoBack : List Step → Contents → Type 0
  CanGoBack [] cs = Unit {0}
  CanGoBack (s ∷ steps) cs = CanStepBack s cs × CanGoBack steps (undone_in s.table s.did cs)

  -- The contents, taken back through the pending steps, are these.
  pub record Holds (steps : List Step) (cs world : Contents) : Type 0 where
    pub can : CanGoBack steps cs
    pub is : back steps cs ≡ world

  -- the newest pending step is undone
  abbrev pub Undoes : List ℕ → List Step → Contents → Contents → Type 0
  Undoes table [] old new = ⊥
  Undoes table (s ∷ steps) old new = (s.table ≡ table) × (new ≡ undone_in s.table s.did old)

  -- nothing is pending, and the other tables stay
  abbrev pub Files : List ℕ → List Step → Contents → Contents → Type 0
  Files table [] old new = (name : List ℕ) → same_name table name ≡ false → new name ≡ old name
  Files table (s ∷ steps) old new = ⊥

  -- What a group may make of the contents: its own step takes the new ones back to the old ones.
  abbrev pub Makes : ℕ → Means → List Step → Contents → Contents → Type 0
  Makes at (Did table did) steps old new = CanStepBack (record { at = at; table = table; did = did }) new × (undone_in table did new ≡ old)
  Makes at (Undid table) steps old new = Undoes table steps old new
  Makes at Done steps old new = new ≡ old
  Makes at (Filed table) steps old new = Files table steps old new
  Makes at Nothing steps old new = new ≡ old

  module _ {P : Type 0} (apply : Logged → P → P) (Has : P → Contents → Type 0) where
    -- the pages after groups
    abbrev pub applied : List Logged → P → P
    applied [] pages = pages
    applied (g ∷ gs) pages = applied gs (apply g pages)

    -- Each single group leaves pages that hold contents, and makes of the contents before what it may.
    abbrev pub Trace : List Step → List Logged → P → Contents → Contents → Type 0
    Trace steps [] pages old new = new ≡ old
    Trace steps (g ∷ gs) pages old new =
        (mid : Contents) × Has (apply g pages) mid × Makes g.at (means g.group) steps old mid × Trace (pend g.at (means g.group) steps) gs (apply g pages) mid new

    -- The pages after the first m groups hold the world, once what is pending among them is taken back.
    pub record HoldsAt (steps : List Step) (gs : List Logged) (pages : P) (world : Contents) (m : ℕ) : Type 0 where
      pub cs : Contents
      pub has : Has (applied (take m gs) pages) cs
      pub holds : Holds (pending steps (take m gs)) cs world

-- steps of operations and the undoing of them alone
abbrev pub is_within : Means → Bool
is_within (Did table did) = true
is_within (Undid table) = true
is_within Done = false
is_within (Filed table) = false
is_within Nothing = true

abbrev pub AllWithin : List Logged → Type 0
AllWithin [] = Unit {0}
AllWithin (g ∷ gs) = (is_within (means g.group) ≡ true) × AllWithin gs

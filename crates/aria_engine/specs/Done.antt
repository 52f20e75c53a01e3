-- What lines of a script do to a store, to what is told, and to what a crash may leave.
use Rattle.std.specs.Prelude.{◌≡◌, ℕ, ◌+◌, ◌-◌, ◌/◌, ◌<◌, ◌≤◌, Bool, ◌||◌, IsTrue, List, [], ◌∷◌, ◌++◌, length, take, All}
use Rattle.aria_host.specs.State.{Folder, State, LeavesOnly}
use Rattle.aria_model.specs.declared.refusal.Exception.TheVariants.{Spent}
use Rattle.aria_model.specs.declared.refusal.Met.{Met}
use Rattle.aria_model.specs.World.{World}
use Rattle.aria_model.specs.Script.{Exceptions, statements, world_after, after, told, told_first, any_refused, acknowledged}
use Rattle.aria_engine.specs.declared.store.Store.{Store}
use Rattle.aria_engine.specs.Entries.{most_added, Meets, MeetsFirst}
use Rattle.aria_engine.specs.Holds.{Holds, AreLogAlone}
use Rattle.aria_engine.specs.Store.{tables_of, count_of, met_of, pages_of}

-- A crash leaves the tables after the first so many of the statements. What was told by then is a part of what these
-- statements tell, and acknowledges no more than them.
pub record Leaves (world : World) (lines : List (List ℕ)) (exceptions : Exceptions) (out : List ℕ) (c : Folder) (b : List ℕ) : Type 0 where
  pub count : ℕ
  pub within : count ≤ length (statements lines)
  pub part : ℕ
  pub told_is : b ≡ out ++ take part (told_first world lines exceptions count)
  pub acked : acknowledged (take part (told_first world lines exceptions count)) ≤ count
  pub holds : Holds c (after world lines exceptions count)

-- The lines are done: the tables are those after them, what they tell was told where the host tells, and whether a
-- statement was refused is kept.
pub record Done (tells : Bool) (exceptions : Exceptions) (lines : List (List ℕ)) (old new : World) (was is : Bool) (s0 s1 : State) : Type 0 where
  pub world : new ≡ world_after old (statements lines) exceptions
  pub refused : is ≡ (was || any_refused old lines exceptions)
  pub acked : acknowledged (told old lines exceptions) ≤ length (statements lines)
  pub out : IsTrue tells → s1.out ≡ s0.out ++ told old lines exceptions
  pub err : IsTrue tells → s1.err ≡ s0.err
  pub alone : IsTrue tells → AreLogAlone s0 → AreLogAlone s1
  pub moments : IsTrue tells → AreLogAlone s0 → LeavesOnly s0 s1 (Leaves old lines exceptions s0.out)

-- A part of what the first so many of the lines' statements tell was told.
pub record DonePart (tells : Bool) (exceptions : Exceptions) (lines : List (List ℕ)) (answered : ℕ) (old : World) (s0 s1 : State) : Type 0 where
  pub out : IsTrue tells → (n : ℕ) × (s1.out ≡ s0.out ++ take n (told_first old lines exceptions answered))
  pub err : IsTrue tells → s1.err ≡ s0.err
  pub moments : IsTrue tells → AreLogAlone s0 → LeavesOnly s0 s1 (Leaves old lines exceptions s0.out)

-- The exceptions of the statements that came since so many were executed are those that were met.
abbrev pub AreMet : Exceptions → ℕ → Store → Type 0
AreMet exceptions since now = (k : ℕ) → since + k < count_of now → exceptions k ≡ met_of now (since + k)

-- the most pages that statements add to the log
abbrev pub growth : List (List ℕ) → ℕ
growth [] = 0
growth (line ∷ lines) = most_added line + growth lines

-- A statement met that the log's file had its most pages, which the statements before it can have added.
pub record IsFull (lines : List (List ℕ)) (since pages : ℕ) (met : Met) : Type 0 where
  pub why : met.why ≡ Spent 1
  pub since_then : since ≤ met.nth
  pub pages_are : 524000 ≤ pages + growth (take (met.nth - since) (statements lines))

-- More statements were counted; these entries were added, and no exception that was met is forgotten.
pub record Counts (before now : Store) (added : List Met) : Type 0 where
  pub later : count_of before ≤ count_of now
  pub kept : (k : ℕ) → k < count_of before → met_of now k ≡ met_of before k
  pub met_is : now.tally.met ≡ before.tally.met ++ added

-- The store has done the lines.
pub record Does (tells : Bool) (lines : List (List ℕ)) (before now : Store) (was is : Bool) (s0 s1 : State) : Type 0 where
  pub added : List Met
  pub counts : Counts before now added
  pub count : count_of now ≡ count_of before + length (statements lines)
  pub meets : Meets (count_of before) (pages_of before) (tables_of before) (statements lines) added (pages_of now) (tables_of now)
  pub all : (exceptions : Exceptions) → AreMet exceptions (count_of before) now → Done tells exceptions lines (tables_of before) (tables_of now) was is s0 s1

-- The store has stopped. It has answered the first so many of the lines' statements, the last of them perhaps in part.
pub record DoesPart (tells : Bool) (lines : List (List ℕ)) (before now : Store) (s0 s1 : State) : Type 0 where
  pub added : List Met
  pub counts : Counts before now added
  pub answered : ℕ
  pub meets : MeetsFirst (count_of before) (pages_of before) (tables_of before) (statements lines) answered added
  pub all : (exceptions : Exceptions) → AreMet exceptions (count_of before) now → DonePart tells exceptions lines answered (tables_of before) s0 s1

-- Which statements meet exceptions, and their entries.
use Rattle.std.specs.Prelude.{◌≡◌, ℕ, ◌+◌, ◌/◌, ◌≤◌, Bool, true, false, ◌&&◌, nat_le, if◌then◌else◌, Option, Some, None, List, [], ◌∷◌, ◌++◌, length, take}
use Rattle.aria_model.specs.declared.refusal.Refusal.{Refusal}
use Rattle.aria_model.specs.declared.refusal.Refusal.TheVariants.{LogSpent}
use Rattle.aria_model.specs.declared.refusal.Exception.{Exception}
use Rattle.aria_model.specs.declared.refusal.Exception.TheVariants.{Spent}
use Rattle.aria_model.specs.declared.refusal.Met.{Met}
use Rattle.aria_model.specs.declared.reply.Reply.{Reply}
use Rattle.aria_model.specs.declared.reply.Reply.TheVariants.{Done, Count, No}
use Rattle.aria_model.specs.World.{World}
use Rattle.aria_model.specs.Step.{step}

-- the refusal says that the log is spent
abbrev pub is_spent : Refusal → Bool
is_spent (LogSpent file) = true
is_spent why = false

-- the reply does
abbrev pub is_log_spent : Reply → Bool
is_log_spent Done = false
is_log_spent (Count n) = false
is_log_spent (No why) = is_spent why

-- the exception that a statement meets on a log of so many pages: that the log is spent, where it is and refuses the statement
abbrev pub due : ℕ → World → List ℕ → Option Exception
due pages world line = if nat_le 524000 pages && is_log_spent (step world line (Some (Spent 1))).reply then Some (Spent 1) else None

-- the entry of a statement that met an exception
abbrev pub entry : ℕ → Option Exception → List Met
entry nth None = []
entry nth (Some why) = record { nth = nth; why = why } ∷ []

-- the most pages that a statement adds to the log
abbrev pub most_added : List ℕ → ℕ
most_added line = length line / 8176 + 2

-- Statements were executed on these tables and a log of so many pages, the first of them as the nth. Each met its
-- exception exactly where it was due, and these are the entries, in order. So many pages and these tables are left.
abbrev pub Meets : ℕ → ℕ → World → List (List ℕ) → List Met → ℕ → World → Type 0
Meets nth pages world [] met last left = (met ≡ []) × (last ≡ pages) × (left ≡ world)
Meets nth pages world (line ∷ lines) met last left =
    (next : ℕ) × (more : List Met) × (pages ≤ next) × (next ≤ pages + most_added line)
    × (met ≡ entry nth (due pages world line) ++ more)
    × Meets (nth + 1) next (step world line (due pages world line)).world lines more last left

-- The first so many of the statements were.
pub record MeetsFirst (nth pages : ℕ) (world : World) (lines : List (List ℕ)) (answered : ℕ) (met : List Met) : Type 0 where
  pub within : answered ≤ length lines
  pub last : ℕ
  pub left : World
  pub meets : Meets nth pages world (take answered lines) met last left

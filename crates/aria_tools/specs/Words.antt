-- The words of a command line that the program knows.
use Rattle.std.specs.Prelude.{◌≡◌, ◌⊎◌, ℕ, Bool, true, false, List, [], ◌∷◌, codes}

-- the one word run
abbrev pub IsRun : List (List ℕ) → Type 0
IsRun words = words ≡ codes "run" ∷ []

-- the option that tells the log and changes nothing
abbrev pub IsDisplay : List ℕ → Type 0
IsDisplay word = (word ≡ codes "-d") ⊎ (word ≡ codes "--display-only")

-- the option that tells its last line alone
abbrev pub IsSilent : List ℕ → Type 0
IsSilent word = (word ≡ codes "-s") ⊎ (word ≡ codes "--silent")

-- display, alone, or with silent before or behind it
abbrev pub AreOptions : List (List ℕ) → Bool → Type 0
AreOptions (display ∷ []) false = IsDisplay display
AreOptions (first ∷ second ∷ []) true = (IsDisplay first × IsSilent second) ⊎ (IsSilent first × IsDisplay second)
AreOptions _ _ = ⊥

-- the word read_log and its options, with silent among them or not
abbrev pub IsReadLog : List (List ℕ) → Bool → Type 0
IsReadLog [] silent = ⊥
IsReadLog (word ∷ options) silent = (word ≡ codes "read_log") × AreOptions options silent

-- the words that ask for the log
abbrev pub AsksForLog : List (List ℕ) → Type 0
AsksForLog words = (silent : Bool) × IsReadLog words silent

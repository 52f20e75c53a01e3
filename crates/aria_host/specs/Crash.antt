-- What a crash leaves of a record of changes, oldest first, where each unsynced write or cut has a fate.
use Rattle.std.specs.Prelude.{◌≡◌, ◌⊎◌, ℕ, Bool, false, IsTrue, List, [], ◌∷◌, ◌++◌, length, drop}
use Rattle.std.specs.Bool.{MatchBool}
use Rattle.std.specs.List.{list_any}
use Rattle.aria_page.specs.Page.{IsSound}
use Rattle.aria_host.specs.declared.memory.effect.Effect.{Effect}
use Rattle.aria_host.specs.declared.memory.effect.Effect.TheVariants.{Wrote, Cut, Created, Removed, Synced, Set, Told}
use Rattle.aria_host.specs.declared.memory.fate.Fate.{Fate}
use Rattle.aria_host.specs.declared.memory.fate.Fate.TheVariants.{Kept, Lost, Torn}
use Rattle.aria_host.specs.declared.file_name.FileName.{FileName}
use Rattle.aria_host.specs.Folder.{is_log, same_file}

-- the change is a sync of that file
abbrev pub is_sync_of : FileName → Effect → Bool
is_sync_of file (Synced g) = same_file g file
is_sync_of file _ = false

-- the file is synced by one of these
abbrev pub is_synced : FileName → List Effect → Bool
is_synced file later = list_any (is_sync_of file) later

-- the fate that is next, which is Lost where none is given
abbrev pub next_fate : List Fate → Fate
next_fate [] = Lost
next_fate (fate ∷ fates) = fate

-- What a write of that fate leaves. Torn counts as Lost but for a page of the log that is given a page that isn't sound.
abbrev pub LeavesOfWrite : FileName → ℕ → List ℕ → Fate → List Effect → Type 0
LeavesOfWrite file at page Kept now = now ≡ Wrote file at page ∷ []
LeavesOfWrite file at page Lost now = now ≡ []
LeavesOfWrite file at page (Torn torn) now =
    (IsTrue (is_log file) × (length torn ≡ 8192) × (¬ IsSound torn) × (now ≡ Wrote file at torn ∷ [])) ⊎ (((is_log file ≡ false) ⊎ IsSound torn) × (now ≡ []))

-- what a cut of that fate leaves
abbrev pub LeavesOfCut : FileName → ℕ → Fate → List Effect → Type 0
LeavesOfCut file pages Kept now = now ≡ Cut file pages ∷ []
LeavesOfCut file pages Lost now = now ≡ []
LeavesOfCut file pages (Torn torn) now = now ≡ []

-- These are left of those changes. What was synced later is left, and each other write or cut takes the next fate.
abbrev pub Survive : List Effect → List Fate → List Effect → Type 0
Survive [] fates left = left ≡ []
Survive (Wrote file at page ∷ later) fates left = MatchBool (is_synced file later)
    ((rest : List Effect) × (left ≡ Wrote file at page ∷ rest) × Survive later fates rest)
    ((now : List Effect) × (rest : List Effect) × LeavesOfWrite file at page (next_fate fates) now × (left ≡ now ++ rest) × Survive later (drop 1 fates) rest)
Survive (Cut file pages ∷ later) fates left = MatchBool (is_synced file later)
    ((rest : List Effect) × (left ≡ Cut file pages ∷ rest) × Survive later fates rest)
    ((now : List Effect) × (rest : List Effect) × LeavesOfCut file pages (next_fate fates) now × (left ≡ now ++ rest) × Survive later (drop 1 fates) rest)
Survive (Created file ∷ later) fates left = (rest : List Effect) × (left ≡ Created file ∷ rest) × Survive later fates rest
Survive (Removed file ∷ later) fates left = (rest : List Effect) × (left ≡ Removed file ∷ rest) × Survive later fates rest
Survive (Set file at page ∷ later) fates left = (rest : List Effect) × (left ≡ Set file at page ∷ rest) × Survive later fates rest
Survive (Synced file ∷ later) fates left = Survive later fates left
Survive (Told stream n ∷ later) fates left = Survive later fates left

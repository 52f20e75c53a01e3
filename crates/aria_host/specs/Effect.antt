-- A record of changes, newest first, and what it stands for.
use Rattle.std.specs.Prelude.{◌≡◌, ◌⊎◌, ℕ, ◌-◌, ◌≤◌, true, None, Some, List, [], ◌∷◌, ◌++◌, length, take, drop, unwrap_or, refl}
use Rattle.std.proofs.Common.{inl, inr, arith}
use Rattle.aria_host.specs.declared.memory.effect.Effect.{Effect}
use Rattle.aria_host.specs.declared.memory.effect.Effect.TheVariants.{Wrote, Cut, Created, Removed, Synced, Set, Told}
use Rattle.aria_host.specs.declared.file_name.FileName.{FileName}
use Rattle.aria_host.specs.declared.host.Stream.TheVariants.{Out}
use Rattle.aria_host.specs.Folder.{Folder, put_page, with_file, with_page, with_cut}
use Rattle.aria_host.specs.Steps.{MayWrite, MayCut, MayMake}

-- no file is there
abbrev pub no_files : Folder
no_files = λ _. None

-- the folder with that page of a file, which is made where it isn't there
abbrev pub with_set : FileName → ℕ → List ℕ → Folder → Folder
with_set file at page folder = with_file file (Some (put_page at page (unwrap_or (folder file) []))) folder

-- the folder after that change
abbrev pub after : Effect → Folder → Folder
after (Wrote file at page) folder = with_page file at page folder
after (Cut file pages) folder = with_cut file pages folder
after (Created file) folder = with_file file (Some []) folder
after (Removed file) folder = with_file file None folder
after (Synced file) folder = folder
after (Set file at page) folder = with_set file at page folder
after (Told stream n) folder = folder

-- the folder after those changes of a folder
abbrev pub reads : Folder → List Effect → Folder
reads base [] = base
reads base (change ∷ past) = after change (reads base past)

-- What a crash after those changes may leave: a sync leaves those images alone that have the file as it reads, and any
-- other change is a step of an image.
abbrev pub MayLeave : Folder → List Effect → Folder → Type 0
MayLeave base [] c = c ≡ base
MayLeave base (Wrote file at page ∷ past) c = (d : Folder) × MayLeave base past d × MayWrite file at page d c
MayLeave base (Cut file pages ∷ past) c = (d : Folder) × MayLeave base past d × MayCut file pages d c
MayLeave base (Created file ∷ past) c = (d : Folder) × MayLeave base past d × MayMake file (Some []) true d c
MayLeave base (Removed file ∷ past) c = (d : Folder) × MayLeave base past d × MayMake file None true d c
MayLeave base (Synced file ∷ past) c = MayLeave base past c × (c file ≡ reads base past file)
MayLeave base (Set file at page ∷ past) c = (d : Folder) × MayLeave base past d × (c ≡ with_set file at page d)
MayLeave base (Told stream n ∷ past) c = MayLeave base past c

-- of the bytes told on standard output by that change, those before it
abbrev pub told_before : Effect → List ℕ → List ℕ
told_before (Told Out n) out = take (length out - n) out
told_before _ out = out

-- A crash before the last change was whole, at a clock value from t on, left this. A part of its bytes may be told.
abbrev pub Earlier : Folder → List Effect → List ℕ → ℕ → Folder → List ℕ → Type 0
Earlier base [] out t c b = ⊥
Earlier base (change ∷ past) out t c b =
    ((t ≤ length past) × MayLeave base past c × (n : ℕ) × (b ≡ told_before change out ++ take n (drop (length (told_before change out)) out)))
    ⊎ Earlier base past (told_before change out) t c b

-- a crash at a clock value from t on left this
abbrev pub Since : Folder → List Effect → List ℕ → ℕ → Folder → List ℕ → Type 0
Since base past out t c b = ((t ≤ length past) × MayLeave base past c × (b ≡ out)) ⊎ Earlier base past out t c b

-- the folder as it reads is an image
pub reads_is_left : (base : Folder) (past : List Effect) → MayLeave base past (reads base past)
reads_is_left base [] = refl
reads_is_left base (Wrote file at page ∷ past) = (reads base past, reads_is_left base past, inr (inl refl))
reads_is_left base (Cut file pages ∷ past) = (reads base past, reads_is_left base past, inr refl)
reads_is_left base (Created file ∷ past) = (reads base past, reads_is_left base past, inl refl)
reads_is_left base (Removed file ∷ past) = (reads base past, reads_is_left base past, inl refl)
reads_is_left base (Synced file ∷ past) = (reads_is_left base past, refl)
reads_is_left base (Set file at page ∷ past) = (reads base past, reads_is_left base past, refl)
reads_is_left base (Told stream n ∷ past) = reads_is_left base past

-- nothing is earlier than the end of the record
pub no_earlier : (base : Folder) (past : List Effect) (out : List ℕ) (t : ℕ) (c : Folder) (b : List ℕ) → length past ≤ t → Earlier base past out t c b → ⊥
no_earlier base [] out t c b le none = none
no_earlier base (change ∷ past) out t c b le (inl (here, leaves, n, is)) = omega arith
no_earlier base (change ∷ past) out t c b le (inr there) = no_earlier base past (told_before change out) t c b (omega arith) there

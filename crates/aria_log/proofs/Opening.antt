-- A log that is opened: its files are brought to the disk.
use Rattle.std.proofs.Common.{◌≡◌, ◌⊎◌, ◌↔◌, inl, inr, ℕ, ◌+◌, ◌*◌, ◌/◌, ◌^◌, ◌<◌, ◌≤◌, Bool, true, false, IsTrue, is_some, Option, None, Some, Ok, Err, List, [], ◌∷◌, length, refl, sym, ◌∙◌, ap, subst, arith, rules}
use Rattle.std.specs.Prelude.{IsSome, IsOk, IfOk, Result}
use Rattle.std.proofs.lemmas.Option.{same_Some}
use Rattle.aria_page.specs.declared.lsn.Lsn.{Lsn}
use Rattle.aria_host.specs.declared.fault.Fault.{Fault}
use Rattle.aria_host.specs.declared.fault.Fault.TheVariants.{Memory, Disk, Tell, Input, LogDamaged, LogSpent, ControlDamaged, NotOurs, PageDamaged, FileMissing, TooManyTables}
use Rattle.aria_host.specs.declared.file_name.FileName.TheVariants.{Log}
use Rattle.aria_host.specs.Folder.{Folder}
use Rattle.aria_host.specs.State.{State}
use Rattle.aria_host.specs.Calls.{HaveNames}
use Rattle.aria_log.specs.declared.log.Log.{Log as LogValue}
use Rattle.aria_log.specs.declared.find.Found.{Found as FoundValue}
use Rattle.aria_log.specs.Pieces.{Piece, LogFiles, log_files, pieces_of, Stand, IsFront}
use Rattle.aria_record.specs.Logged.{Logged}
use Rattle.aria_log.specs.Groups.{groups_from}
use Rattle.aria_log.specs.Files.{IsBase, IsSoundLog}
use Rattle.aria_log.specs.Log.{file_of, AreAtRest, HasNoLog, IsOpened}
use Rattle.aria_log.specs.Finding.{means_none, start_of, IsLast, NoneMissing, IsDamageFrom, IsDamage, Ends, IsFound, Finds, Opens, Fails, Answers, IsWhole}
use Rattle.aria_log.proofs.Counting.{below_or_same}
use Rattle.aria_log.proofs.Fronts.{next_none}
use Rattle.aria_log.proofs.PutPages.{none_isnt}
use Rattle.aria_log.proofs.Starting.{none_reads}
use Rattle.aria_log.proofs.Cutting.{no_groups}
use Rattle.aria_log.proofs.Founds.{base_file, first_place, none_before, sound_undamaged}

-- each file before one that is there is there too
abbrev pub AreInRow : LogFiles → ℕ → Type 0
AreInRow files low = (f g : ℕ) → low ≤ f → f < g → g < 2 ^ 24 → IsSome (files g) → IsSome (files f)

-- where the first file is there all are
pub all_there : (files : LogFiles) (low last : ℕ) → IsLast files low last → last < 2 ^ 24 → AreInRow files low → IsSome (files low) → (f : ℕ) → low ≤ f → f ≤ last → IsSome (files f)
all_there files low last is form row first f from upto = elim (below_or_same f last upto) [
  | inl less ↦ row f last from less form (is.there (omega (arith, from, less)))
  | inr same ↦ elim (below_or_same low f from) [
    | inl less ↦ subst (λ (k : ℕ). IsSome (files k)) (sym same) (is.there (omega (arith, less, same)))
    | inr here ↦ subst (λ (k : ℕ). IsSome (files k)) here first
  ]
]

-- where it isn't none is
pub none_there : (files : LogFiles) (low f : ℕ) → AreInRow files low → files low ≡ None → low ≤ f → f < 2 ^ 24 → files f ≡ None
none_there files low f row absent from form = elim (below_or_same low f from) [
  | inr here ↦ subst (λ (k : ℕ). files k ≡ None) here absent
  | inl less ↦ by (files f) refl less
]
  where
    by : (o : Option (List (List ℕ))) → files f ≡ o → low < f → o ≡ None
    by None is less = refl
    by (Some pages) is less = absurd (none_isnt (files low) absent (row low f (omega arith) less form (subst (λ (o : Option (List (List ℕ))). IsSome o) (sym is) (search rules))))

-- a file that isn't in the folder is in no image that has the folder's names
pub image_none : (s : State) (c : Folder) (f : ℕ) → HaveNames s → s.may_leave c → f < 2 ^ 24 → s.folder (Log f) ≡ None → c (Log f) ≡ None
image_none s c f names leaves form absent = by (c (Log f)) (names c leaves (Log f) form ∙ ap is_some absent)
  where
    by : (o : Option (List (List ℕ))) → is_some o ≡ false → o ≡ None
    by None is = refl
    by (Some pages) is = absurd (cc)

pub some_there : (content : Option (List (List ℕ))) (pages : List (List ℕ)) → content ≡ Some pages → IsSome content
some_there content pages is = subst (λ (o : Option (List (List ℕ))). IsSome o) (sym is) (search rules)

-- ---- the log

really : {A : Type 0} → ⊥ ⊎ A → A
really (inl never) = absurd never
really (inr is) = is

-- the files from the base's on, of a log that is found
pub found_last : (from : Lsn) (files : LogFiles) (found : FoundValue) → ⊥ ⊎ (NoneMissing from files × Finds from files found) → IsLast files (start_of from).file found.log.last
found_last from files found answer =
    let finds = (really answer).1 in
    let low : file_of finds.base ≡ (start_of from).file = base_file from finds.base finds.base_is in
    subst (λ (n : ℕ). IsLast files n found.log.last) low (last finds.base finds.stands)
  where
    last : (base : ℕ) → IsFound found.log files base ⊎ ((¬ IsBase (pieces_of files) base) × Ends found.log files base (base / 8176)) → IsLast files (file_of base) found.log.last
    last base (inl is) = is.ends.last
    last base (inr outside) = outside.1.last

pub found_row : (from : Lsn) (files : LogFiles) (found : FoundValue) → ⊥ ⊎ (NoneMissing from files × Finds from files found) → AreInRow files (start_of from).file
found_row from files found answer = λ f g low less form some. none_before from files (really answer).0 f g low less form some

-- a log that is found without damage is opened, once its files are on the disk
pub found_opened : (from : Lsn) (old new : State) (found : FoundValue) → ⊥ ⊎ (NoneMissing from (log_files old.folder) × Finds from (log_files old.folder) found) → found.damage ≡ None → new.folder ≡ old.folder → AreAtRest new (start_of from).file
    → NoneMissing from (log_files old.folder) × Opens from new found.log
found_opened from old new found answer none same rest =
    let files = log_files old.folder in
    let finds = (really answer).1 in
    let base = finds.base in
    let sound = finds.sound.0 none in
    let is = in_log files base sound.based finds.stands in
    let now : log_files new.folder ≡ files = ap log_files same in
    let opened : (f : LogFiles) → f ≡ log_files new.folder → IsFront (pieces_of f) (base / 8176) true is.whole = λ f e. subst (λ (g : LogFiles). IsFront (pieces_of g) (base / 8176) true is.whole) (sym (e ∙ now)) is.front in (
      (really answer).0,
      record {
        base = base;
        base_is = finds.base_is;
        groups = groups_from base is.whole;
        opened = record {
          whole = is.whole;
          front = opened (log_files new.folder) refl;
          based = is.based;
          groups_are = refl;
          first = is.ends.first;
          fills = is.ends.fills;
          low = is.ends.low;
          sound = subst (λ (f : LogFiles). IsSoundLog f base (base / 8176 + length is.whole)) (sym now) (subst (λ (n : ℕ). IsSoundLog files base n) is.ends.fills.number_is sound);
          last_is = λ over. subst (λ (f : LogFiles). IsSome (f found.log.last)) (sym now) (is.ends.last.there (omega (arith, over)));
          none = λ f behind over form. ap (λ (g : LogFiles). g f) now ∙ is.ends.last.none f over form;
          rest = subst (λ (n : ℕ). AreAtRest new n) (sym (base_file from base finds.base_is)) rest;
        };
      },
    )
  where
    in_log : (files : LogFiles) (base : ℕ) → IsBase (pieces_of files) base → IsFound found.log files base ⊎ ((¬ IsBase (pieces_of files) base) × Ends found.log files base (base / 8176)) → IsFound found.log files base
    in_log files base based (inl is) = is
    in_log files base based (inr outside) = absurd (outside.0 based)

-- nothing stands where there is no file
nothing_stands : (files : LogFiles) (n : ℕ) (may : Bool) (whole : List Piece) → ((f : ℕ) → f < 2 ^ 24 → files f ≡ None) → n < 2 ^ 34 → Stand (pieces_of files) n may whole → whole ≡ []
nothing_stands files n may [] none low stand = refl
nothing_stands files n may (p ∷ ps) none low stand =
    absurd (let e : None ≡ Some p = sym (next_none (pieces_of files) n may (none_reads files n (none (n / 1024) (omega (arith, low))))) ∙ stand.0 in cc)

-- without a log file it is the log that has no groups
pub opened_fresh : (from : Lsn) (old new : State) (log : LogValue) → Opens from new log → IsTrue (means_none from) → HasNoLog old → new.folder ≡ old.folder → IsOpened log new (8176 * 1024) [] log.last
opened_fresh from old new log is none no_log same =
    let opened = is.opened in
    let at : is.base ≡ 8176 * 1024 = same_Some is.base (8176 * 1024) (sym is.base_is ∙ first_place from none) in
    let absent : (f : ℕ) → f < 2 ^ 24 → log_files new.folder f ≡ None = λ f form. ap (λ (d : Folder). d (Log f)) same ∙ no_log.folder f form in
    let whole : opened.whole ≡ [] = nothing_stands (log_files new.folder) (is.base / 8176) true opened.whole absent (omega (arith, opened.low)) opened.front.stand in
    let none_found : is.groups ≡ [] = opened.groups_are ∙ ap (groups_from is.base) whole ∙ sym (no_groups is.base) in
    subst (λ (b : ℕ). IsOpened log new b [] log.last) at (subst (λ (l : List Logged). IsOpened log new is.base l log.last) none_found opened)

-- ---- what is answered

-- a log that is opened has no damage
opened_whole : (from : Lsn) (old new : State) (log : LogValue) → NoneMissing from (log_files old.folder) → Opens from new log → new.folder ≡ old.folder → IsWhole from (log_files old.folder)
opened_whole from old new log missing is same = (missing, λ file page damage. none file page damage)
  where
    base : ℕ
    base = is.base

    files : LogFiles
    files = log_files old.folder

    sound : IsSoundLog files base (base / 8176 + length is.opened.whole)
    sound = subst (λ (d : Folder). IsSoundLog (log_files d) base (base / 8176 + length is.opened.whole)) same is.opened.sound

    front : IsFront (pieces_of files) (base / 8176) true is.opened.whole
    front = subst (λ (d : Folder). IsFront (pieces_of (log_files d)) (base / 8176) true is.opened.whole) same is.opened.front

    none : (file page : ℕ) → IsDamage from files file page → ⊥
    none file page (inl nowhere) = let e : None ≡ Some base = sym nowhere.none ∙ is.base_is in cc
    none file page (inr (b, b_is, damage)) =
        let at : b ≡ base = same_Some b base (sym b_is ∙ is.base_is) in
        sound_undamaged files base is.opened.whole file page sound front (subst (λ (k : ℕ). IsDamageFrom files k file page) at damage)

-- it is opened exactly where the log is whole
pub opened_exactly : (from : Lsn) (old new : State) (result : Result LogValue Fault) → new.folder ≡ old.folder → Fails result ⊎ Answers from (log_files old.folder) (Opens from new) (IsDamage from (log_files old.folder)) result
    → Fails result ⊎ (IsOk result ↔ IsWhole from (log_files old.folder))
opened_exactly from old new (Ok log) same answer = let (missing, is) = really answer in inr (λ done. opened_whole from old new log missing is same, λ whole. search rules)
opened_exactly from old new (Err Disk) same answer = inl (search rules)
opened_exactly from old new (Err (Memory error)) same answer = inl (search rules)
opened_exactly from old new (Err (FileMissing file)) same answer = let (f, file_is, missing) = really answer in inr (λ done. absurd (search rules), λ whole. absurd (whole.0 f missing.absent))
opened_exactly from old new (Err (LogDamaged file page)) same answer = let (missing, damage) = really answer in inr (λ done. absurd (search rules), λ whole. absurd (whole.1 file page damage))
opened_exactly from old new (Err Tell) same answer = absurd (really answer)
opened_exactly from old new (Err Input) same answer = absurd (really answer)
opened_exactly from old new (Err (LogSpent file)) same answer = absurd (really answer)
opened_exactly from old new (Err ControlDamaged) same answer = absurd (really answer)
opened_exactly from old new (Err (NotOurs file)) same answer = absurd (really answer)
opened_exactly from old new (Err (PageDamaged file page)) same answer = absurd (really answer)
opened_exactly from old new (Err TooManyTables) same answer = absurd (really answer)

-- and without a log file it is the log that has no groups
pub fresh_of : (from : Lsn) (old new : State) (result : Result LogValue Fault) → new.folder ≡ old.folder → IsTrue (means_none from) → HasNoLog old → Fails result ⊎ Answers from (log_files old.folder) (Opens from new) (IsDamage from (log_files old.folder)) result
    → IfOk result (λ log. IsOpened log new (8176 * 1024) [] log.last)
fresh_of from old new (Ok log) same none no_log answer = opened_fresh from old new log (really answer).1 none no_log same
fresh_of from old new (Err fault) same none no_log answer = search rules

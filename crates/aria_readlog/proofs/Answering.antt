-- Which answer a folder gets.
use Rattle.std.proofs.Common.{◌≡◌, inl, inr, ◌⊎◌, ⊎_elim, ℕ, ◌+◌, ◌*◌, ◌/◌, ◌≤◌, true, false, Option, None, Some, List, length, refl, sym, ◌∙◌, ap, subst, arith}
use Rattle.std.specs.Prelude.{Result, Ok, Err, IfSome}
use Rattle.std.proofs.lemmas.Option.{same_Some}
use Rattle.aria_page.specs.declared.lsn.Lsn.{Lsn}
use Rattle.aria_page.specs.Lsn.{IsLsn}
use Rattle.aria_host.specs.declared.fault.Fault.{Fault}
use Rattle.aria_host.specs.declared.fault.Fault.TheVariants.{Memory, Disk, Tell, Input, LogDamaged, LogSpent, ControlDamaged, NotOurs, PageDamaged, FileMissing, TooManyTables}
use Rattle.aria_host.specs.declared.file_name.FileName.{FileName}
use Rattle.aria_host.specs.declared.file_name.FileName.TheVariants.{Control, Log, Keys, Rows, NewKeys, NewRows}
use Rattle.aria_host.specs.Folder.{Folder}
use Rattle.aria_control.specs.declared.found.Found.{Found}
use Rattle.aria_control.specs.Found.{Answers as ControlAnswers, Fails as ControlFails}
use Rattle.aria_log.specs.declared.find.Damage.{Damage}
use Rattle.aria_log.specs.declared.find.Found.{Found as FoundValue}
use Rattle.aria_log.specs.Pieces.{Piece, LogFiles, log_files, pieces_of, IsFront}
use Rattle.aria_log.specs.Files.{IsSoundLog}
use Rattle.aria_log.specs.Finding.{start_of, base_of, IsAbsent, IsMissing, NoneMissing, IsNowhere, IsDamage, IsDamageFrom, EndsFront, Finds, Answers as FindAnswers, Fails as FindFails}
use Rattle.aria_log.proofs.Fronts.{front_unique}
use Rattle.aria_readlog.specs.Start.{IsStart}
use Rattle.aria_readlog.specs.Telling.{IsReadFault}
use Rattle.aria_readlog.specs.Display.{Begins, IsSound, Misses, DamagedAt, IsDamaged, IsEnd, Answers, Agree, Fails}
use Rattle.aria_readlog.specs.Looking.{IsReadFrom, IsReadAs, IsLooked, IsRefused}
use Rattle.aria_readlog.proofs.Started.{IsOnly, start_file, base_at, readable_of, begins_unique}

-- ---- the answer that is given fits

-- where the log was found and told
pub answer_of : (folder : Folder) (start : Lsn) (found : FoundValue) (result : Result (Unit {0}) Fault) → Begins folder start → NoneMissing start (log_files folder) → Finds start (log_files folder) found → IsReadFrom start (log_files folder) found.log
    → IsEnd found.damage result → Fails result ⊎ Answers result folder
answer_of folder start found (Ok done) begins missing finds r end = inr (record {
  start = start;
  begins = begins;
  missing = missing;
  base = finds.base;
  base_is = finds.base_is;
  end = found.log.number;
  ends = record { whole = r.front; front = subst (λ (k : ℕ). IsFront (pieces_of (log_files folder)) k true r.front) page r.is_front; end_is = r.number_is ∙ ap (λ (k : ℕ). k + length r.front) page };
  sound = finds.sound.0 (whole found.damage end);
})
  where
    whole : (damage : Option Damage) → IsEnd damage (Ok done) → damage ≡ None
    whole None end = refl
    whole (Some damage) end = absurd end

    page : r.n ≡ finds.base / 8176
    page = (let e : r.n ≡ 8176 * r.n / 8176 = omega arith in e) ∙ ap (λ (b : ℕ). b / 8176) (sym (same_Some finds.base (8176 * r.n) (sym finds.base_is ∙ r.base_is)))
answer_of folder start found (Err fault) begins missing finds r end = by found.damage finds.damaged end
  where
    read : (fault : Fault) → IsReadFault true fault → Fails {T = Unit {0}} (Err fault)
    read Disk is = tt
    read (Memory error) is = tt
    read Tell is = tt
    read (LogDamaged file page) is = absurd (cc)
    read Input is = absurd is
    read (LogSpent file) is = absurd is
    read ControlDamaged is = absurd is
    read (NotOurs file) is = absurd is
    read (PageDamaged file page) is = absurd is
    read (FileMissing file) is = absurd is
    read TooManyTables is = absurd is

    by : (damage : Option Damage) → IfSome damage (λ d. IsDamageFrom (log_files folder) finds.base d.file d.page) → IsEnd damage (Err fault) → Fails {T = Unit {0}} (Err fault) ⊎ Answers (Err fault) folder
    by None damaged end = inl (read fault end)
    by (Some damage) damaged (inl is) = inl (read fault is)
    by (Some damage) damaged (inr is) = inr (subst (λ (f : Fault). Answers (Err f) folder) (sym is)
        (record { start = start; begins = begins; missing = missing; damage = inr (finds.base, finds.base_is, damaged) }))

-- where the log wasn't found
pub answer_unfound : (folder : Folder) (start : Lsn) (fault : Fault) → Begins folder start → FindFails {T = FoundValue} (Err fault) ⊎ FindAnswers start (log_files folder) (Finds start (log_files folder)) (IsNowhere start) (Err fault) → Fails {T = Unit {0}} (Err fault) ⊎ Answers (Err fault) folder
answer_unfound folder start Disk begins (inl is) = inl tt
answer_unfound folder start (Memory error) begins (inl is) = inl tt
answer_unfound folder start Tell begins (inl is) = absurd is
answer_unfound folder start Input begins (inl is) = absurd is
answer_unfound folder start (LogDamaged file page) begins (inl is) = absurd is
answer_unfound folder start (LogSpent file) begins (inl is) = absurd is
answer_unfound folder start ControlDamaged begins (inl is) = absurd is
answer_unfound folder start (NotOurs file) begins (inl is) = absurd is
answer_unfound folder start (PageDamaged file page) begins (inl is) = absurd is
answer_unfound folder start (FileMissing file) begins (inl is) = absurd is
answer_unfound folder start TooManyTables begins (inl is) = absurd is
answer_unfound folder start (FileMissing file) begins (inr (f, is, missing)) =
    inr (subst (λ (name : FileName). Answers (Err (FileMissing name)) folder) (sym is) (record { start = start; begins = begins; missing = missing }))
answer_unfound folder start (LogDamaged file page) begins (inr (none, nowhere)) = inr (record { start = start; begins = begins; missing = none; damage = inl nowhere })
answer_unfound folder start Disk begins (inr is) = absurd is
answer_unfound folder start (Memory error) begins (inr is) = absurd is
answer_unfound folder start Tell begins (inr is) = absurd is
answer_unfound folder start Input begins (inr is) = absurd is
answer_unfound folder start (LogSpent file) begins (inr is) = absurd is
answer_unfound folder start ControlDamaged begins (inr is) = absurd is
answer_unfound folder start (NotOurs file) begins (inr is) = absurd is
answer_unfound folder start (PageDamaged file page) begins (inr is) = absurd is
answer_unfound folder start TooManyTables begins (inr is) = absurd is

-- no byte has the number of the log's start
pub not_nowhere : (folder : Folder) (start : Lsn) (fault : Fault) → (NoneMissing start (log_files folder) → (file page : ℕ) → ¬ IsNowhere start file page) → FindFails {T = FoundValue} (Err fault) ⊎ FindAnswers start (log_files folder) (Finds start (log_files folder)) (IsNowhere start) (Err fault)
    → IsDamaged (Err fault) → ⊥
not_nowhere folder start (LogDamaged file page) none (inl is) damaged = absurd is
not_nowhere folder start (LogDamaged file page) none (inr (missing, nowhere)) damaged = none missing file page nowhere
not_nowhere folder start Disk none answers damaged = damaged
not_nowhere folder start (Memory error) none answers damaged = damaged
not_nowhere folder start Tell none answers damaged = damaged
not_nowhere folder start Input none answers damaged = damaged
not_nowhere folder start (LogSpent file) none answers damaged = damaged
not_nowhere folder start ControlDamaged none answers damaged = damaged
not_nowhere folder start (NotOurs file) none answers damaged = damaged
not_nowhere folder start (PageDamaged file page) none answers damaged = damaged
not_nowhere folder start (FileMissing file) none answers damaged = damaged
not_nowhere folder start TooManyTables none answers damaged = damaged

-- ---- no other answer fits

-- where the control file is sound, an answer is of one of three kinds
data Kind (folder : Folder) : Result (Unit {0}) Fault → Type 0 where
  Sound : (done : Unit {0}) → IsSound folder → Kind folder (Ok done)
  Absent : (file : ℕ) → Misses folder file → Kind folder (Err (FileMissing (Log file)))
  Broken : (file page : ℕ) → DamagedAt folder file page → Kind folder (Err (LogDamaged file page))

kind_of : (folder : Folder) (found : Found) (result : Result (Unit {0}) Fault) → IsReadAs folder (Ok found) → Answers result folder → Kind folder result
kind_of folder found (Ok done) read is = Sound done is
kind_of folder found (Err (LogDamaged file page)) read is = Broken file page is
kind_of folder found (Err (FileMissing (Log file))) read is = Absent file is
kind_of folder found (Err (FileMissing Control)) read is = absurd (let e = read (Err (FileMissing Control)) is in (cc))
kind_of folder found (Err (FileMissing (Keys name))) read is = absurd (let e = read (Err (FileMissing (Keys name))) is in (cc))
kind_of folder found (Err (FileMissing (Rows name))) read is = absurd (let e = read (Err (FileMissing (Rows name))) is in (cc))
kind_of folder found (Err (FileMissing (NewKeys name))) read is = absurd (let e = read (Err (FileMissing (NewKeys name))) is in (cc))
kind_of folder found (Err (FileMissing (NewRows name))) read is = absurd (let e = read (Err (FileMissing (NewRows name))) is in (cc))
kind_of folder found (Err (NotOurs file)) read is = absurd (let e = read (Err (NotOurs file)) is in (cc))
kind_of folder found (Err ControlDamaged) read is = absurd (let e = read (Err ControlDamaged) is in (cc))
kind_of folder found (Err Disk) read is = absurd is
kind_of folder found (Err (Memory error)) read is = absurd is
kind_of folder found (Err Tell) read is = absurd is
kind_of folder found (Err Input) read is = absurd is
kind_of folder found (Err (LogSpent file)) read is = absurd is
kind_of folder found (Err (PageDamaged file page)) read is = absurd is
kind_of folder found (Err TooManyTables) read is = absurd is

-- a log that isn't damaged has no damage
not_both : (files : LogFiles) (base end file page : ℕ) → EndsFront files (base / 8176) end → IsSoundLog files base end → IsDamageFrom files base file page → ⊥
not_both files base end file page ends sound (inl outside) = outside.outside sound.based
not_both files base end file page ends sound (inr (inl long)) = absurd (omega (arith, long.many, sound.few file long.from long.form))
not_both files base end file page ends sound (inr (inr broken)) =
    let front = front_unique (pieces_of files) (base / 8176) true ends.whole broken.front.whole ends.front broken.front.front in
    let same : end ≡ broken.end = ends.end_is ∙ ap (λ (ps : List Piece). base / 8176 + length ps) front ∙ sym broken.front.end_is in
    let behind = broken.at.behind in
    let quiet = sound.quiet behind.at behind.piece (subst (λ (k : ℕ). k ≤ behind.at) (sym same) behind.behind) behind.valid in
    absurd (let e : true ≡ false = sym behind.begins ∙ quiet in (cc))

-- all answers look at the log from one start
record IsOne (folder : Folder) (start : Lsn) : Type 0 where
  one : (other : Lsn) → Begins folder other → other ≡ start

none_absent : (folder : Folder) (start s t : Lsn) (f : ℕ) → IsOne folder start → Begins folder s → Begins folder t → NoneMissing s (log_files folder) → IsMissing t (log_files folder) f → ⊥
none_absent folder start s t f is begins begins' none missing =
    let same : t ≡ s = is.one t begins' ∙ sym (is.one s begins) in
    none f (subst (λ (l : Lsn). IsAbsent l (log_files folder) f) same missing.absent)

sound_whole : (folder : Folder) (start : Lsn) (file page : ℕ) → IsOne folder start → IsSound folder → DamagedAt folder file page → ⊥
sound_whole folder start file page is sound damaged = by damaged.damage
  where
    same : damaged.start ≡ sound.start
    same = is.one damaged.start damaged.begins ∙ sym (is.one sound.start sound.begins)

    base : base_of damaged.start ≡ Some sound.base
    base = ap base_of same ∙ sound.base_is

    by : IsDamage damaged.start (log_files folder) file page → ⊥
    by (inl nowhere) = absurd (let e : None ≡ Some sound.base = sym nowhere.none ∙ base in (cc))
    by (inr (other, at, from)) = not_both (log_files folder) sound.base sound.end file page sound.ends sound.sound
        (subst (λ (b : ℕ). IsDamageFrom (log_files folder) b file page) (same_Some other sound.base (sym at ∙ base)) from)

absent_same : (folder : Folder) (start : Lsn) (f g : ℕ) → IsOne folder start → Misses folder f → Misses folder g → f ≤ g
absent_same folder start f g is first second =
    let same : second.start ≡ first.start = is.one second.start second.begins ∙ sym (is.one first.start first.begins) in
    first.missing.lowest g (subst (λ (l : Lsn). IsAbsent l (log_files folder) g) same second.missing.absent)

kinds_agree : (folder : Folder) (start : Lsn) (a b : Result (Unit {0}) Fault) → IsOne folder start → Kind folder a → Kind folder b → Agree a b
kinds_agree folder start _ _ is (Sound done first) (Sound done' second) = inl refl
kinds_agree folder start _ _ is (Sound done first) (Absent file second) = absurd (none_absent folder start first.start second.start file is first.begins second.begins first.missing second.missing)
kinds_agree folder start _ _ is (Sound done first) (Broken file page second) = absurd (sound_whole folder start file page is first second)
kinds_agree folder start _ _ is (Absent file first) (Sound done second) = absurd (none_absent folder start second.start first.start file is second.begins first.begins second.missing first.missing)
kinds_agree folder start _ _ is (Absent file first) (Absent file' second) =
    let same : file ≡ file' = omega (arith, absent_same folder start file file' is first second, absent_same folder start file' file is second first) in
    inl (ap (λ (k : ℕ). let r : Result (Unit {0}) Fault = Err (FileMissing (Log k)) in r) same)
kinds_agree folder start _ _ is (Absent file first) (Broken file' page second) = absurd (none_absent folder start second.start first.start file is second.begins first.begins second.missing first.missing)
kinds_agree folder start _ _ is (Broken file page first) (Sound done second) = absurd (sound_whole folder start file page is second first)
kinds_agree folder start _ _ is (Broken file page first) (Absent file' second) = absurd (none_absent folder start first.start second.start file' is first.begins second.begins first.missing second.missing)
kinds_agree folder start _ _ is (Broken file page first) (Broken file' page' second) = inr (tt, tt)

same_ok : (f found : Found) (r : Result Found Fault) → r ≡ Ok f → r ≡ Ok found → f ≡ found
same_ok f found r a b = cc

pub only_found : (folder : Folder) (found : Found) → IsReadAs folder (Ok found) → IsOnly folder found
only_found folder found read f finds = same_ok f found (Ok f) refl (read (Ok f) finds)

-- no answer but this fits a folder whose control file is sound
pub only_answer : (folder : Folder) (found : Found) (start : Lsn) (result other : Result (Unit {0}) Fault) → IsReadAs folder (Ok found) → IsStart found (log_files folder) start
    → Fails result ⊎ Answers result folder → Answers other folder → Fails result ⊎ Agree other result
only_answer folder found start result other read starts (inl fails) is = inl fails
only_answer folder found start result other read starts (inr here) is =
    let one : IsOne folder start = record { one = λ l begins. begins_unique folder found start l (only_found folder found read) starts begins } in
    inr (kinds_agree folder start other result one (kind_of folder found other read is) (kind_of folder found result read here))

-- ---- the log is looked for

-- it was found
pub looked : (folder f1 f2 : Folder) (control : Found) (start first : Lsn) (found : FoundValue) → f1 ≡ folder → f2 ≡ f1
    → ControlFails (Ok control) ⊎ ControlAnswers (Ok control) folder → ((other : Result Found Fault) → ControlAnswers other folder → ControlFails (Ok control) ⊎ (other ≡ Ok control))
    → IsStart control (log_files f1) start → IsLsn start → FindFails (Ok found) ⊎ FindAnswers start (log_files f2) (Finds start (log_files f2)) (IsNowhere start) (Ok found) → first ≡ start_of start → IsLooked folder found first
looked folder f1 f2 control start first found same same' answers only starts lsn finds first_is =
    let start_is = subst (λ (f : Folder). IsStart control (log_files f) start) same starts in
    let found_is : NoneMissing start (log_files folder) × Finds start (log_files folder) found = subst (λ (f : Folder). NoneMissing start (log_files f) × Finds start (log_files f) found) (same' ∙ same)
    (⊎_elim (λ (fails : FindFails (Ok found)). absurd fails) (λ (is : NoneMissing start (log_files f2) × Finds start (log_files f2) found). is) finds) in
    record {
      control = control;
      is = ⊎_elim (λ (fails : ControlFails (Ok control)). absurd fails) (λ (is : ControlAnswers (Ok control) folder). is) answers;
      only = λ other is. ⊎_elim (λ (fails : ControlFails (Ok control)). absurd fails) (λ (e : other ≡ Ok control). e) (only other is);
      start = start;
      starts = start_is;
      missing = found_is.0;
      finds = found_is.1;
      first_is = first_is;
      from = readable_of control (log_files folder) start found start_is lsn found_is.0 found_is.1;
    }

-- it wasn't
pub refused : (folder f1 f2 : Folder) (control : Found) (start : Lsn) (fault : Fault) → f1 ≡ folder → f2 ≡ f1
    → ControlFails (Ok control) ⊎ ControlAnswers (Ok control) folder → ((other : Result Found Fault) → ControlAnswers other folder → ControlFails (Ok control) ⊎ (other ≡ Ok control))
    → IsStart control (log_files f1) start → IsLsn start → FindFails {T = FoundValue} (Err fault) ⊎ FindAnswers start (log_files f2) (Finds start (log_files f2)) (IsNowhere start) (Err fault) → IsRefused folder fault
refused folder f1 f2 control start fault same same' answers only starts lsn finds =
    let start_is = subst (λ (f : Folder). IsStart control (log_files f) start) same starts in
    let finds_is : FindFails {T = FoundValue} (Err fault) ⊎ FindAnswers start (log_files folder) (Finds start (log_files folder)) (IsNowhere start) (Err fault) =
    subst (λ (f : Folder). FindFails {T = FoundValue} (Err fault) ⊎ FindAnswers start (log_files f) (Finds start (log_files f)) (IsNowhere start) (Err fault)) (same' ∙ same) finds in
    let begins : Begins folder start = record {
      found = control;
      finds = ⊎_elim (λ (fails : ControlFails (Ok control)). absurd fails) (λ (is : ControlAnswers (Ok control) folder). is) answers;
      starts = start_is;
    } in
    let read : IsReadAs folder (Ok control) = λ other is. ⊎_elim (λ (fails : ControlFails (Ok control)). absurd fails) (λ (e : other ≡ Ok control). e) (only other is) in
    let answer = answer_unfound folder start fault begins finds_is in
    record {
      answer = answer;
      only = λ other is. only_answer folder control start (Err fault) other read start_is answer is;
      whole = not_nowhere folder start fault (λ missing file page nowhere.
          let (k, first) = start_file control (log_files folder) start start_is lsn missing in
          absurd (let e : None ≡ Some (8176 * (1024 * k)) = sym nowhere.none ∙ base_at start k first in (cc))) finds_is;
    }

-- The log that is found.
use Rattle.std.proofs.Common.{◌≡◌, ◌==◌, ◌&&◌, ◌||◌, ◌⊎◌, ◌↔◌, inl, inr, ℕ, ◌+◌, ◌-◌, ◌*◌, ◌/◌, ◌%◌, ◌^◌, ◌<◌, ◌≤◌, Bool, true, false, if◌then◌else◌, nat_le, nat_lt, not, take, drop, Option, None, Some, List, [], ◌∷◌, length, refl, sym, ◌∙◌, ap, subst, arith, rules}
use Rattle.std.specs.Prelude.{IsSome, IfSome, MatchOption, option_and_then, Result, Ok, Err, IfOk, IfErr}
use Rattle.std.proofs.lemmas.Bool.{cases_Bool}
use Rattle.std.proofs.lemmas.Bool.Decides.{nat_tests}
use Rattle.std.proofs.lemmas.Option.{same_Some}
use Rattle.aria_page.specs.declared.lsn.Lsn.{Lsn}
use Rattle.aria_host.specs.declared.fault.Fault.{Fault}
use Rattle.aria_host.specs.declared.fault.Fault.TheVariants.{Disk, FileMissing}
use Rattle.aria_host.specs.declared.file_name.FileName.TheVariants.{Log as LogFile}
use Rattle.aria_host.specs.State.{State}
use Rattle.aria_host.specs.Seen.{page_or_zero}
use Rattle.aria_log.specs.declared.log.Log.{Log as LogValue}
use Rattle.aria_log.specs.declared.find.Damage.{Damage}
use Rattle.aria_log.specs.declared.find.Found.{Found as FoundValue}
use Rattle.aria_log.specs.Pieces.{Piece, Pieces, LogFiles, pieces_of, next_piece, IsFront}
use Rattle.aria_log.specs.Groups.{groups_from}
use Rattle.aria_log.specs.Files.{HoldsLog, IsBase, IsSoundLog}
use Rattle.aria_log.specs.Log.{Fills, IsBaseOf}
use Rattle.aria_log.specs.Reading.{seen, IsReadable}
use Rattle.aria_log.specs.Finding.{means_none, start_of, place_of, base_of, NoneMissing, IsLast, EndsFront, IsUndamaged, IsBrokenAt, IsDamageBehind, IsDamageFrom, Ends, IsFound, Finds, Answers, IsNowhere, Fails, HasFindCause}
use Rattle.aria_log.proofs.LogPages.{read_is_valid}
use Rattle.aria_log.proofs.Counting.{not_done, place_file, place_page}
use Rattle.aria_log.proofs.Fronts.{next_of, stand_same, front_unique}

-- ---- the base

-- a choice that gave something
chosen : (b : Bool) (n place : ℕ) → (if b then Some n else None) ≡ Some place → (b ≡ true) × (n ≡ place)
chosen true n place e = (refl, same_Some n place e)
chosen false n place e = absurd (cc)

both : (a b : Bool) → (a && b) ≡ true → (a ≡ true) × (b ≡ true)
both true b e = (refl, e)
both false b e = absurd (cc)

-- a place is in the file and the page that its log sequence number names
record IsPlace (l : Lsn) (place : ℕ) : Type 0 where
  file : place / 8176 / 1024 ≡ l.file
  page : place / 8176 % 1024 ≡ l.offset / 8192

is_place : (l : Lsn) (place : ℕ) → place_of l ≡ Some place → IsPlace l place
unfolding place_of
is_place l place e =
    let found = chosen (nat_le 16 (l.offset % 8192) && nat_lt (l.offset / 8192) 1024) (8176 * (1024 * l.file + l.offset / 8192) + (l.offset % 8192 - 16)) place e in
    let tests = both (nat_le 16 (l.offset % 8192)) (nat_lt (l.offset / 8192) 1024) found.0 in
    let few : l.offset / 8192 < 1024 = grind (arith, nat_tests, tests.1) in
    record {
      file = place_file l.file (l.offset / 8192) (l.offset % 8192 - 16) place few (omega arith) found.1;
      page = place_page l.file (l.offset / 8192) (l.offset % 8192 - 16) place few (omega arith) found.1;
    }

-- the file of the base
pub base_file : (from : Lsn) (base : ℕ) → base_of from ≡ Some base → base / 8176 / 1024 ≡ (start_of from).file
base_file from base is = (is_place (start_of from) base is).file

-- without a base the log is read from its first byte on
pub first_place : (from : Lsn) → means_none from ≡ true → base_of from ≡ Some (8176 * 1024)
unfolding start_of place_of
first_place from none = ap (λ (b : Bool). place_of (if b then record { file = 1; offset = 16 } else from)) none

first_page : (from : Lsn) (base : ℕ) → base_of from ≡ Some base → means_none from ≡ true → base / 8176 % 1024 ≡ 0
unfolding start_of
first_page from base is none =
    let start : (start_of from).offset ≡ 16 = ap (λ (b : Bool). (if b then record { file = 1; offset = 16 } else from).offset) none in
    omega (arith, (is_place (start_of from) base is).page, start)

-- ---- pieces

-- the next piece is the page's
pub next_is : (pieces : Pieces) (n : ℕ) (may : Bool) (p : Piece) → next_piece pieces n may ≡ Some p → pieces n ≡ Some p
unfolding next_piece
next_is pieces n may p e = by (pieces n) e
  where
    goes : (b : Bool) (x : Piece) → (if b then Some x else None) ≡ Some p → Some x ≡ Some p
    goes true x f = f
    goes false x f = absurd (cc)

    by : (o : Option Piece) → option_and_then (λ (x : Piece). if x.0 || may then Some x else None) o ≡ Some p → o ≡ Some p
    by None f = absurd (cc)
    by (Some x) f = goes (x.0 || may) x f

-- a valid page has used bytes
pub some_used : (files : LogFiles) (n : ℕ) (p : Piece) → pieces_of files n ≡ Some p → 1 ≤ length p.1
unfolding pieces_of
some_used files n p e = (read_is_valid n p.0 p.1 (page_or_zero (n % 1024) (files (n / 1024))) e).used

-- a base of the log is one of the front that is read from it
pub base_of_front : (files : LogFiles) (base : ℕ) (whole : List Piece) → IsBase (pieces_of files) base → IsFront (pieces_of files) (base / 8176) true whole → IsBaseOf base whole
base_of_front files base [] (inl even) front = even
base_of_front files base [] (inr used) front =
    let next : next_piece (pieces_of files) (base / 8176) true ≡ Some used.piece = next_of (pieces_of files) (base / 8176) true used.piece used.valid (or_true used.piece.0) in
    let none : next_piece (pieces_of files) (base / 8176) true ≡ None = ap (λ (k : ℕ). next_piece (pieces_of files) k true) (let e : base / 8176 ≡ base / 8176 + 0 = omega arith in e) ∙ front.end in
    absurd (let f : None ≡ Some used.piece = sym none ∙ next in cc)
  where
    or_true : (b : Bool) → (b || true) ≡ true
    or_true true = refl
    or_true false = refl
base_of_front files base (p ∷ ps) (inl even) front = omega (arith, even, some_used files (base / 8176) p (next_is (pieces_of files) (base / 8176) true p front.stand.0))
base_of_front files base (p ∷ ps) (inr used) front =
    let same : used.piece ≡ p = same_Some used.piece p (sym used.valid ∙ next_is (pieces_of files) (base / 8176) true p front.stand.0) in
    subst (λ (x : Piece). base % 8176 < length x.1) same used.used

-- ---- files

some_or_none : (o : Option (List (List ℕ))) → IsSome o ⊎ (o ≡ None)
some_or_none None = inr refl
some_or_none (Some pages) = inl (search rules)

-- with no file missing, each file before one that is there is there too
pub none_before : (from : Lsn) (files : LogFiles) → NoneMissing from files → (f g : ℕ) → (start_of from).file ≤ f → f < g → g < 2 ^ 24 → IsSome (files g) → IsSome (files f)
none_before from files missing f g low less high some = elim (some_or_none (files f)) [
  | inl there ↦ there
  | inr absent ↦ absurd (missing f (record { low = low; absent = absent; needed = inl (g, omega (arith, less), high, some) }))
]

-- and the base's own file is there, unless the base is on its first page
base_there : (from : Lsn) (files : LogFiles) (base : ℕ) → NoneMissing from files → base_of from ≡ Some base → IsSome (files (base / 8176 / 1024)) ⊎ (base / 8176 % 1024 ≡ 0)
base_there from files base missing is = elim (some_or_none (files (base / 8176 / 1024))) [
  | inl there ↦ inl there
  | inr absent ↦ elim (cases_Bool (means_none from)) [
    | inl none ↦ inr (first_page from base is none)
    | inr some ↦
        let at : base / 8176 / 1024 ≡ (start_of from).file = (is_place (start_of from) base is).file in
        absurd (missing (base / 8176 / 1024) (record { low = omega (arith, at); absent = absent; needed = inr (at, λ none. absurd (not_done (means_none from) some none)) }))
  ]
]

-- ---- damage

-- a log without damage is sound
pub is_sound : (from : Lsn) (files : LogFiles) (base end : ℕ) → NoneMissing from files → base_of from ≡ Some base → IsBase (pieces_of files) base → IsUndamaged files (base / 8176 / 1024) end → IsSoundLog files base end
is_sound from files base end missing is based undamaged = record {
  here = base_there from files base missing is;
  stand = λ f g low less high some. none_before from files missing f g (omega (arith, low, (is_place (start_of from) base is).file)) less high some;
  few = undamaged.few;
  based = based;
  quiet = undamaged.quiet;
}

-- a sound log has no damage
no_damage : (files : LogFiles) (base end file page : ℕ) → IsSoundLog files base end → IsDamageBehind files (base / 8176 / 1024) end file page → ⊥
no_damage files base end file page sound (inl long) = omega (arith, long.many, sound.few file long.from long.form)
no_damage files base end file page sound (inr broken) =
    let e : false ≡ true = sym (sound.quiet broken.behind.at broken.behind.piece broken.behind.behind broken.behind.valid) ∙ broken.behind.begins in cc

pub sound_undamaged : (files : LogFiles) (base : ℕ) (whole : List Piece) (file page : ℕ) → IsSoundLog files base (base / 8176 + length whole) → IsFront (pieces_of files) (base / 8176) true whole → IsDamageFrom files base file page → ⊥
sound_undamaged files base whole file page sound front (inl outside) = outside.outside sound.based
sound_undamaged files base whole file page sound front (inr (inl long)) = no_damage files base (base / 8176 + length whole) file page sound (inl long)
sound_undamaged files base whole file page sound front (inr (inr broken)) =
    let same : broken.front.whole ≡ whole = front_unique (pieces_of files) (base / 8176) true broken.front.whole whole broken.front.front front in
    let at : broken.end ≡ base / 8176 + length whole = broken.front.end_is ∙ ap (λ (l : List Piece). base / 8176 + length l) same in
    no_damage files base (base / 8176 + length whole) file page sound (inr (subst (λ (n : ℕ). IsBrokenAt files n file page) at broken.at))

-- where the log value ends
pub ends_at : (log : LogValue) (files : LogFiles) (base last end : ℕ) → log.number ≡ end → log.first ≡ end → Fills log end [] → log.last ≡ last → end < 2 ^ 34 → IsLast files (base / 8176 / 1024) last → Ends log files base end
ends_at log files base last end number first fills last_is high is = record {
  first = first ∙ sym number;
  fills = fills;
  low = high;
  last = subst (λ (f : ℕ). IsLast files (base / 8176 / 1024) f) (sym last_is) is;
}

-- the log that is found from a base in it
pub finds_inside : (from : Lsn) (files : LogFiles) (base end : ℕ) (found : FoundValue) → NoneMissing from files → base_of from ≡ Some base → IsBase (pieces_of files) base → EndsFront files (base / 8176) end → Ends found.log files base end
    → MatchOption found.damage (IsUndamaged files (base / 8176 / 1024) end) (λ d. IsDamageBehind files (base / 8176 / 1024) end d.file d.page) → Finds from files found
finds_inside from files base end found missing is based front ends damage = record {
  base = base;
  base_is = is;
  stands = inl (record {
    whole = front.whole;
    front = front.front;
    based = base_of_front files base front.whole based front.front;
    ends = subst (λ (n : ℕ). Ends found.log files base n) front.end_is ends;
  });
  sound = subst (λ (n : ℕ). (found.damage ≡ None) ↔ IsSoundLog files base n) (sym ends.fills.number_is) (tells found.damage damage);
  damaged = stands found.damage damage;
}
  where
    tells : (o : Option Damage) → MatchOption o (IsUndamaged files (base / 8176 / 1024) end) (λ d. IsDamageBehind files (base / 8176 / 1024) end d.file d.page) → (o ≡ None) ↔ IsSoundLog files base end
    tells None undamaged = (λ e. is_sound from files base end missing is based undamaged, λ sound. refl)
    tells (Some d) behind = (λ e. absurd (cc), λ sound. absurd (no_damage files base end d.file d.page sound behind))

    stands : (o : Option Damage) → MatchOption o (IsUndamaged files (base / 8176 / 1024) end) (λ d. IsDamageBehind files (base / 8176 / 1024) end d.file d.page) → IfSome o (λ d. IsDamageFrom files base d.file d.page)
    stands None undamaged = search rules
    stands (Some d) (inl long) = inr (inl long)
    stands (Some d) (inr broken) = inr (inr (record { end = end; front = front; at = broken }))

-- what is found from a base that isn't in the log
pub finds_outside : (from : Lsn) (files : LogFiles) (base : ℕ) (log : LogValue) (d : Damage) → NoneMissing from files → base_of from ≡ Some base → ¬ IsBase (pieces_of files) base → Ends log files base (base / 8176)
    → d.file ≡ base / 8176 / 1024 → d.page ≡ base / 8176 % 1024 → Finds from files (record { log = log; damage = Some d })
finds_outside from files base log d missing is outside ends file page = record {
  base = base;
  base_is = is;
  stands = inr (outside, ends);
  sound = (λ e. absurd (cc), λ sound. absurd (outside sound.based));
  damaged = inl (record { outside = outside; file_is = file; page_is = page });
}

-- ---- answers

-- what is answered where the folder's files were read
pub answers_of : (from : Lsn) (files : LogFiles) (result : Result FoundValue Fault) → NoneMissing from files → IfErr result (λ fault. fault ≡ Disk) → IfOk result (λ found. Finds from files found)
    → Fails result ⊎ Answers from files (Finds from files) (IsNowhere from) result
answers_of from files (Ok found) missing only finds = inr (missing, finds)
answers_of from files (Err fault) missing only finds = inl (subst (λ (f : Fault). let r : Result FoundValue Fault = Err f in Fails r) (sym only) (search rules))

-- a file is missing, and no fault was counted
pub missing_cause : {T : Type 0} (old new : State) (result : Result T Fault) (fault : Fault) (f : ℕ) → result ≡ Err fault → fault ≡ FileMissing (LogFile f) → new.disk_faults ≡ old.disk_faults → new.tell_faults ≡ old.tell_faults → HasFindCause old new result
missing_cause {T} old new result fault f is missing calm tell =
    let r : Result T Fault = Err (FileMissing (LogFile f)) in
    subst (λ (x : Result T Fault). HasFindCause old new x) (sym (is ∙ ap (λ (e : Fault). let r : Result T Fault = Err e in r) missing))
    (let cause : HasFindCause old new r = record { only = refl; counted = λ never. absurd (let e : r ≡ Err Disk = never in cc); calm = inr calm; later = omega (arith, calm); tell = tell } in cause)

-- ---- what is found can be read

-- the pages before the log's end are in the files
pub seen_before : (log : LogValue) (files : LogFiles) (n : ℕ) → n < log.number → seen log files n ≡ pieces_of files n
unfolding seen
seen_before log files n low =
    let less : nat_lt n log.number ≡ true = grind (arith, nat_tests, low) in
    ap (λ (b : Bool). if b then pieces_of files n else if n == log.number && not (log.used == 0) then (let p : Piece = (n == log.first, take log.used (drop 16 log.page)) in Some p) else None) less

-- a log that is found can be read from its base on
pub found_readable : (log : LogValue) (files : LogFiles) (base : ℕ) (is : IsFound log files base) → IsReadable log files base is.whole
found_readable log files base is = record {
  based = is.based;
  stand = stand_same (pieces_of files) (seen log files) (base / 8176) true is.whole (λ k from below. seen_before log files k (omega (arith, below, is.ends.fills.number_is))) is.front.stand;
  end = sym is.ends.fills.number_is ∙ add_none log.number log.used is.ends.fills.used_is;
}
  where
    add_none : (n used : ℕ) → used ≡ 0 → n ≡ n + (if used == 0 then 0 else 1)
    add_none n used none = subst (λ (k : ℕ). n ≡ n + (if k == 0 then 0 else 1)) (sym none) (omega arith)

-- the files hold its groups
pub found_holds : (log : LogValue) (files : LogFiles) (base : ℕ) (is : IsFound log files base) → HoldsLog files base (groups_from base is.whole) log.number
found_holds log files base is = record { pieces = is.whole; front = is.front; groups_are = refl; end_is = is.ends.fills.number_is }

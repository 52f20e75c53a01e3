-- From where on the log of a folder is looked at, and what stands there.
use Rattle.std.proofs.Common.{◌≡◌, ◌==◌, ◌&&◌, inl, inr, ⊎_elim, ℕ, ◌+◌, ◌*◌, ◌/◌, ◌%◌, ◌^◌, ◌<◌, ◌≤◌, Bool, true, false, cond, Option, None, Some, List, length, refl, sym, ◌∙◌, ap, subst, arith, rules}
use Rattle.std.specs.Prelude.{IsSome}
use Rattle.std.proofs.lemmas.Bool.{cases_lt}
use Rattle.std.proofs.lemmas.Option.{same_Some}
use Rattle.aria_page.specs.declared.lsn.Lsn.{Lsn}
use Rattle.aria_page.specs.Lsn.{IsLsn}
use Rattle.aria_host.specs.Folder.{Folder}
use Rattle.aria_control.specs.declared.found.Found.{Found}
use Rattle.aria_control.specs.Found.{Finds as FindsControl}
use Rattle.aria_log.specs.declared.log.Log.{Log as LogValue}
use Rattle.aria_log.specs.declared.find.Found.{Found as FoundValue}
use Rattle.aria_log.specs.Pieces.{Piece, LogFiles, log_files, pieces_of, IsFront}
use Rattle.aria_record.specs.Logged.{lsn_at_place}
use Rattle.aria_log.specs.Files.{IsBase}
use Rattle.aria_log.specs.Reading.{entries_of_runs}
use Rattle.aria_log.specs.Finding.{means_none, start_of, place_of, base_of, NoneMissing, IsFound, Finds}
use Rattle.aria_log.proofs.Fronts.{front_unique}
use Rattle.aria_log.proofs.Founds.{found_readable}
use Rattle.aria_readlog.specs.declared.choice.Choice.{Choice}
use Rattle.aria_readlog.specs.Choice.{all_lines, total_line}
use Rattle.aria_readlog.specs.Start.{IsLowest, IsStart}
use Rattle.aria_readlog.specs.Display.{Begins, IsDisplay}
use Rattle.aria_readlog.specs.Looking.{IsReadFrom}

-- ---- the first byte

-- the first byte of a file
abbrev pub first_byte : ℕ → Lsn
first_byte k = record { file = k; offset = 16 }

-- the log is looked at from the first byte of a file on, where no file is missing
pub start_file : (found : Found) (files : LogFiles) (start : Lsn) → IsStart found files start → IsLsn start → NoneMissing start files → (k : ℕ) × (start_of start ≡ first_byte k)
unfolding start_of
start_file found files start (inl (low, lowest, is)) lsn missing = (low, ap start_of is ∙ own (low == 0))
  where
    own : (b : Bool) → cond (b && false) (record { file = 1; offset = 16 }) (first_byte low) ≡ first_byte low
    own true = refl
    own false = refl
start_file found files start (inr (none, is)) lsn missing = by (means_none start) refl
  where
    by : (b : Bool) → means_none start ≡ b → (k : ℕ) × (cond (means_none start) (record { file = 1; offset = 16 }) start ≡ first_byte k)
    by true no' = (1, ap (λ (b : Bool). cond b (first_byte 1) start) no')
    by false some =
        let own : start_of start ≡ start = ap (λ (b : Bool). cond b (first_byte 1) start) some in
        let f = (start_of start).file in
        let form : f < 2 ^ 24 = subst (λ (l : Lsn). l.file < 2 ^ 24) (sym own) lsn.file in
        absurd (missing f (record { low = omega arith; absent = none f form; needed = inr (refl, λ yes'. absurd (let e : false ≡ true = sym some ∙ yes' in (cc))) }))

-- the place of the first byte of a file
pub base_at : (start : Lsn) (k : ℕ) → start_of start ≡ first_byte k → base_of start ≡ Some (8176 * (1024 * k))
unfolding place_of
base_at start k is = ap place_of is ∙ ap Some (let e : 8176 * (1024 * k + 0) + 0 ≡ 8176 * (1024 * k) = omega arith in e)

pub first_at : (k : ℕ) → first_byte k ≡ lsn_at_place (8176 * (1024 * k))
first_at k =
    let file : k ≡ 8176 * (1024 * k) / 8176 / 1024 = omega arith in
    let offset : 16 ≡ 8192 * (8176 * (1024 * k) / 8176 % 1024) + 16 + 8176 * (1024 * k) % 8176 = omega arith in
    ap (λ (f : ℕ). let l : Lsn = record { file = f; offset = 16 } in l) file ∙ ap (λ (o : ℕ). let l : Lsn = record { file = 8176 * (1024 * k) / 8176 / 1024; offset = o } in l) offset

-- ---- the log that was found is read from there on

pub readable_of : (control : Found) (files : LogFiles) (start : Lsn) (found : FoundValue) → IsStart control files start → IsLsn start → NoneMissing start files → Finds start files found → IsReadFrom start files found.log
readable_of control files start found starts lsn missing finds =
    let (k, first) = start_file control files start starts lsn missing in
    let n = 1024 * k in
    let base = base_at start k first in
    let same : finds.base ≡ 8176 * n = same_Some finds.base (8176 * n) (sym finds.base_is ∙ base) in
    let is : IsFound found.log files (8176 * n) = subst (λ (b : ℕ). IsFound found.log files b) same
    (⊎_elim (λ (f : IsFound found.log files finds.base). f) (λ outside. absurd (outside.0 (subst (λ (b : ℕ). IsBase (pieces_of files) b) (sym same) (inl (let e : 8176 * n % 8176 ≡ 0 = omega arith in e))))) finds.stands) in
    let div : 8176 * n / 8176 ≡ n = omega arith in
    record {
      n = n;
      front = is.whole;
      is_front = subst (λ (m : ℕ). IsFront (pieces_of files) m true is.whole) div is.front;
      readable = found_readable found.log files (8176 * n) is;
      first = first ∙ first_at k;
      base_is = base;
      number_is = is.ends.fills.number_is ∙ ap (λ (m : ℕ). m + length is.whole) div;
    }

-- ---- what is told

pub displayed : (folder : Folder) (choice : Choice) (start : Lsn) (log : LogValue) → Begins folder start → (r : IsReadFrom start (log_files folder) log)
    → IsDisplay folder choice (all_lines choice (entries_of_runs r.n r.front)) (total_line choice (entries_of_runs r.n r.front))
displayed folder choice start log begins r =
    let div : r.n ≡ 8176 * r.n / 8176 = omega arith in
    record {
      entries = entries_of_runs r.n r.front;
      stands = record {
        start = start;
        begins = begins;
        base = 8176 * r.n;
        base_is = r.base_is;
        front = r.front;
        is_front = subst (λ (k : ℕ). IsFront (pieces_of (log_files folder)) k true r.front) div r.is_front;
        entries_are = ap (λ (k : ℕ). entries_of_runs k r.front) div;
      };
      lines_are = refl;
      last_is = refl;
    }

-- ---- there is one start, and one list of lines

-- the control file says one thing
abbrev pub IsOnly : Folder → Found → Type 0
IsOnly folder found = (other : Found) → FindsControl other folder → other ≡ found

lowest_unique : (files : LogFiles) (a b : ℕ) → IsLowest files a → IsLowest files b → a ≤ b
lowest_unique files a b first second = ⊎_elim (λ low. absurd (gone (files b) (first.none b low) second.there)) (λ le. le) (cases_lt b a)
  where
    gone : (content : Option (List (List ℕ))) → content ≡ None → IsSome content → ⊥
    gone None is some = absurd (search rules)
    gone (Some pages) is some = absurd (cc)

start_unique : (found : Found) (files : LogFiles) (a b : Lsn) → IsStart found files a → IsStart found files b → a ≡ b
start_unique found files a b (inl (low, is, at)) (inl (low', is', at')) = at ∙ ap first_byte (omega (arith, lowest_unique files low low' is is', lowest_unique files low' low is' is)) ∙ sym at'
start_unique found files a b (inl (low, is, at)) (inr (none, at')) = absurd (gone (files low) (none low is.form) is.there)
  where
    gone : (content : Option (List (List ℕ))) → content ≡ None → IsSome content → ⊥
    gone None is some = absurd (search rules)
    gone (Some pages) is some = absurd (cc)
start_unique found files a b (inr (none, at)) (inl (low, is, at')) = absurd (gone (files low) (none low is.form) is.there)
  where
    gone : (content : Option (List (List ℕ))) → content ≡ None → IsSome content → ⊥
    gone None is some = absurd (search rules)
    gone (Some pages) is some = absurd (cc)
start_unique found files a b (inr (none, at)) (inr (none', at')) = at ∙ sym at'

pub begins_unique : (folder : Folder) (found : Found) (start other : Lsn) → IsOnly folder found → IsStart found (log_files folder) start → Begins folder other → other ≡ start
begins_unique folder found start other only starts begins =
    start_unique found (log_files folder) other start (subst (λ (f : Found). IsStart f (log_files folder) other) (only begins.found begins.finds) begins.starts) starts

pub display_unique : (folder : Folder) (choice : Choice) (found : Found) (start : Lsn) (log : LogValue) (lines last : List ℕ) → IsOnly folder found → IsStart found (log_files folder) start
    → (r : IsReadFrom start (log_files folder) log) → IsDisplay folder choice lines last
    → (lines ≡ all_lines choice (entries_of_runs r.n r.front)) × (last ≡ total_line choice (entries_of_runs r.n r.front))
display_unique folder choice found start log lines last only starts r display =
    let stands = display.stands in
    let same = begins_unique folder found start stands.start only starts stands.begins in
    let base : stands.base ≡ 8176 * r.n = same_Some stands.base (8176 * r.n) (sym stands.base_is ∙ ap base_of same ∙ r.base_is) in
    let page : stands.base / 8176 ≡ r.n = ap (λ (b : ℕ). b / 8176) base ∙ (let e : 8176 * r.n / 8176 ≡ r.n = omega arith in e) in
    let front : stands.front ≡ r.front = front_unique (pieces_of (log_files folder)) r.n true stands.front r.front
    (subst (λ (k : ℕ). IsFront (pieces_of (log_files folder)) k true stands.front) page stands.is_front) r.is_front in
    let entries : display.entries ≡ entries_of_runs r.n r.front = stands.entries_are ∙ ap (λ (k : ℕ). entries_of_runs k stands.front) page ∙ ap (λ (ps : List Piece). entries_of_runs r.n ps) front in
    (display.lines_are ∙ ap (all_lines choice) entries, display.last_is ∙ ap (total_line choice) entries)

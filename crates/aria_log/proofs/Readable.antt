-- Logs that can be read: one that was opened, and one that runs.
use Rattle.std.proofs.Common.{◌≡◌, ◌==◌, ◌||◌, ℕ, suc, ◌+◌, ◌-◌, ◌*◌, ◌/◌, ◌%◌, ◌<◌, ◌≤◌, Bool, true, false, cond, Some, List, [], ◌∷◌, ◌++◌, length, take, drop, map, replicate, refl, sym, ◌∙◌, ap, arith, append_assoc, length-append}
use Rattle.std.specs.Prelude.{All}
use Rattle.std.specs.List.{flat_map}
use Rattle.std.proofs.lemmas.Bool.{cases_lt, eq-eqb, ne_eqb}
use Rattle.std.proofs.lemmas.List.{append-nil, length-drop, length-replicate, length_push}
use Rattle.std.proofs.lemmas.List.Elements.{All-head, All-tail}
use Rattle.aria_record.specs.declared.record.Record.{Record}
use Rattle.aria_record.specs.Groups.{IsGroup}
use Rattle.aria_record.specs.Spelled.{group_bytes}
use Rattle.aria_record.proofs.Records.{group_again}
use Rattle.aria_host.specs.State.{State}
use Rattle.aria_log.specs.declared.log.Log.{Log as LogValue}
use Rattle.aria_log.specs.LogPage.{log_body}
use Rattle.aria_log.specs.Pieces.{Piece, Pieces, LogFiles, log_files, pieces_of, Stand, may_behind}
use Rattle.aria_record.specs.Logged.{Logged}
use Rattle.aria_log.specs.Groups.{placed, groups_bytes, run_rest, groups_from}
use Rattle.aria_log.specs.Log.{HoldRun, AreFull, joined, behind, Fills, IsAt, IsBaseOf, IsLog, IsOpened, place}
use Rattle.aria_log.specs.Reading.{Whole, Entry, entries_at, entries_of_runs, entries_from, next_place, seen, IsReadable, StandsAt}
use Rattle.aria_log.specs.Stepping.{filled, groups_of, end_page}
use Rattle.aria_log.proofs.LogPages.{take-log_body}
use Rattle.aria_log.proofs.GroupLists.{length-group_bytes}
use Rattle.aria_log.proofs.Fronts.{stand_same, stand-append, pieces_of_run, length-pieces_of_run, rest_of_run, rest_before}
use Rattle.aria_log.proofs.Writing.{full_are, full_more, joined_push}
use Rattle.aria_log.proofs.Logs.{run_stands}
use Rattle.aria_log.proofs.Images.{base_even}
use Rattle.aria_log.proofs.Entries.{at_nothing, at_whole, groups_of-append, groups_of-from}
use Rattle.aria_log.proofs.Splitting.{nothing_from}
use Rattle.aria_log.proofs.Steps.{next_at}
use Rattle.aria_log.proofs.RunReads.{seen_below, seen_last, filled_is, end_page_is}

-- ---- the page that is filled

-- a page that is filled has 8192 bytes
pub fills_long : (log : LogValue) (number : ℕ) (bytes : List ℕ) → Fills log number bytes → length bytes ≤ 8176 → length log.page ≡ 8192
unfolding log_body
fills_long log number bytes is fits =
    omega (arith, fits, ap length is.body_is, length-drop 16 log.page, length-append bytes (replicate (8176 - length bytes) 0), length-replicate {A = ℕ} (8176 - length bytes) 0)

-- it holds its used bytes
filled_holds : (log : LogValue) (number : ℕ) (bytes : List ℕ) → Fills log number bytes → 1 ≤ length bytes → filled log ≡ Some (log.number == log.first, bytes)
filled_holds log number bytes is some =
    let held : List ℕ → Piece = λ l. (log.number == log.first, l) in
    filled_is log (omega (arith, is.used_is, some))
    ∙ ap (λ (k : ℕ). Some (held (take k (drop 16 log.page)))) is.used_is ∙ ap (λ (l : List ℕ). Some (held (take (length bytes) l))) is.body_is ∙ ap (λ (l : List ℕ). Some (held l)) (take-log_body bytes)

-- ---- a log that was opened

-- An opened log can be read from its base on, and has its groups there.
pub record IsWhole (log : LogValue) (files : LogFiles) (base : ℕ) (front : List Piece) (groups : List Logged) : Type 0 where
  pub readable : IsReadable log files base front
  pub groups_are : groups_of (entries_from base front) ≡ groups
  pub long : length log.page ≡ 8192
  -- with no page in front of the log's end no byte was appended
  pub empty : length front ≡ 0 → log.used ≡ 0

pub opened_readable : (log : LogValue) (s : State) (base : ℕ) (groups : List Logged) (last : ℕ) → (is : IsOpened log s base groups last) → IsWhole log (log_files s.folder) base is.whole groups
opened_readable log s base groups last is = record {
  readable = record {
    based = is.based;
    stand = stand_same (pieces_of (log_files s.folder)) (seen log (log_files s.folder)) (base / 8176) true is.whole
        (λ k from below. seen_below log (log_files s.folder) k (omega (arith, below, is.fills.number_is))) is.front.stand;
    end = omega (arith, is.fills.number_is, (end_page_is log).0 is.fills.used_is);
  };
  groups_are = groups_of-from base is.whole ∙ sym is.groups_are;
  long = fills_long log (base / 8176 + length is.whole) [] is.fills (omega arith);
  empty = λ none. is.fills.used_is;
}

-- ---- a log that runs

-- the bytes of the pages of an open run, and of the page that is filled where it has any
abbrev pub run_of : List (List ℕ) → List ℕ → List (List ℕ)
run_of parts [] = parts
run_of parts (b ∷ bytes) = parts ++ (b ∷ bytes) ∷ []

joined_run : (parts : List (List ℕ)) (held : List ℕ) → joined (run_of parts held) ≡ joined parts ++ held
joined_run parts [] = sym (append-nil (joined parts))
joined_run parts (b ∷ bytes) = joined_push parts (b ∷ bytes)

full_run : (parts : List (List ℕ)) (held : List ℕ) → All (λ (bytes : List ℕ). length bytes ≡ 8176) parts → AreFull (run_of parts held)
full_run parts [] full = full_are parts full
full_run parts (b ∷ bytes) full = full_more parts (b ∷ bytes) full

-- whether the page behind these of a run begins it
abbrev last_begins : Bool → List (List ℕ) → Bool
last_begins begins [] = begins
last_begins begins (bytes ∷ parts) = false

-- one page more of a run
hold_push : (pieces : Pieces) (n m : ℕ) (begins : Bool) (parts : List (List ℕ)) (held : List ℕ) → HoldRun pieces n begins parts → m ≡ n + length parts → pieces m ≡ Some (last_begins begins parts, held) → HoldRun pieces n begins (parts ++ held ∷ [])
hold_push pieces n m begins [] held run at here = (ap pieces (let e : n ≡ m = omega (arith, at) in e) ∙ here, tt)
hold_push pieces n m begins (bytes ∷ parts) held run at here =
    (run.0, hold_push pieces (n + 1) m false parts held run.1 (omega (arith, at)) (here ∙ ap (λ (b : Bool). let p : Piece = (b, held) in Some p) (none_begins parts)))
  where
    none_begins : (parts : List (List ℕ)) → false ≡ last_begins false parts
    none_begins [] = refl
    none_begins (a ∷ parts) = refl

-- the same pages hold the same run
hold_same : (a b : Pieces) (n : ℕ) (begins : Bool) (parts : List (List ℕ)) → ((k : ℕ) → n ≤ k → k < n + length parts → b k ≡ a k) → HoldRun a n begins parts → HoldRun b n begins parts
hold_same a b n begins [] same run = tt
hold_same a b n begins (bytes ∷ parts) same run =
    (same n (omega arith) (omega arith) ∙ run.0, hold_same a b (n + 1) false parts (λ k from below. same k (omega (arith, from)) (omega (arith, below))) run.1)

-- the page that is filled begins a run where it is the first of it
filled_begins : (log : LogValue) (m : ℕ) (parts : List (List ℕ)) → log.first ≡ m → log.number ≡ m + length parts → (log.number == log.first) ≡ last_begins true parts
filled_begins log m [] first at = eq-eqb log.number log.first (omega (arith, first, at))
filled_begins log m (bytes ∷ parts) first at = ne_eqb log.number log.first (λ (e : log.number ≡ log.first). omega (arith, first, at, e))

-- the open run of a log, in its files and in memory
run_held : (log : LogValue) (s : State) (base : ℕ) (whole : List Piece) (text : List ℕ) → (is : IsAt log s base whole text) → HoldRun (seen log (log_files s.folder)) (base / 8176 + length whole) true (run_of is.parts is.held)
run_held log s base whole text is =
    by_held is.held is.fills (hold_same (pieces_of files) (seen log files) m true is.parts (λ k from below. seen_below log files k (omega (arith, below, is.fills.number_is))) is.writing.run)
  where
    files : LogFiles
    files = log_files s.folder

    m : ℕ
    m = base / 8176 + length whole

    by_held : (held : List ℕ) → Fills log (behind base whole is.parts) held → HoldRun (seen log (log_files s.folder)) (base / 8176 + length whole) true is.parts
        → HoldRun (seen log (log_files s.folder)) (base / 8176 + length whole) true (run_of is.parts held)
    by_held [] fills run = run
    by_held (b ∷ bytes) fills run =
        let at : log.number ≡ base / 8176 + length whole + length is.parts = fills.number_is in
        let piece : Bool → Piece = λ flag. (flag, b ∷ bytes) in
        hold_push (seen log (log_files s.folder)) (base / 8176 + length whole) log.number true is.parts (b ∷ bytes) run at
        (seen_last log (log_files s.folder) log.number refl ∙ filled_holds log (behind base whole is.parts) (b ∷ bytes) fills (omega arith)
        ∙ ap (λ (flag : Bool). Some (piece flag)) (filled_begins log (base / 8176 + length whole) is.parts is.first at))

-- the front of a log that runs: that of its files, and the open run
abbrev pub running_front : List Piece → List (List ℕ) → List ℕ → List Piece
running_front whole parts held = whole ++ pieces_of_run true (run_of parts held)

-- its base stays in it
running_based : (base : ℕ) (whole : List Piece) (parts : List (List ℕ)) (held : List ℕ) → IsBaseOf base whole → All (λ (bytes : List ℕ). length bytes ≡ 8176) parts → IsBaseOf base (running_front whole parts held)
running_based base (p ∷ ps) parts held based full = based
running_based base [] [] [] based full = based
running_based base [] [] (b ∷ bytes) based full = omega (arith, based)
running_based base [] (a ∷ parts) [] based full = omega (arith, based, All-head (λ (b : List ℕ). length b ≡ 8176) a parts full)
running_based base [] (a ∷ parts) (b ∷ bytes) based full = omega (arith, based, All-head (λ (b : List ℕ). length b ≡ 8176) a parts full)

-- it ends where the log does
running_end : (log : LogValue) (base : ℕ) (whole : List Piece) (parts : List (List ℕ)) (held : List ℕ) → Fills log (behind base whole parts) held → base / 8176 + length (running_front whole parts held) ≡ end_page log
running_end log base whole parts [] fills =
    omega (arith, (end_page_is log).0 fills.used_is, fills.number_is, length-append whole (pieces_of_run true parts), length-pieces_of_run true parts)
running_end log base whole parts (b ∷ bytes) fills =
    omega
    (arith, (end_page_is log).1 (omega (arith, fills.used_is)), fills.number_is, length-append whole (pieces_of_run true (parts ++ (b ∷ bytes) ∷ [])), length-pieces_of_run true (parts ++ (b ∷ bytes) ∷ []), length_push parts (b ∷ bytes))

-- A log to which bytes were appended can be read, those that aren't in the files too.
pub at_readable : (log : LogValue) (s : State) (base : ℕ) (whole : List Piece) (text : List ℕ) → IsBaseOf base whole → (is : IsAt log s base whole text) → IsReadable log (log_files s.folder) base (running_front whole is.parts is.held)
at_readable log s base whole text based is = record {
  based = running_based base whole is.parts is.held based is.full;
  stand = stand-append (seen log (log_files s.folder)) (base / 8176) (base / 8176 + length whole) true whole (pieces_of_run true (run_of is.parts is.held))
      (stand_same (pieces_of (log_files s.folder)) (seen log (log_files s.folder)) (base / 8176) true whole
      (λ k from below. seen_below log (log_files s.folder) k (omega (arith, below, is.fills.number_is))) is.writing.reads.stand)
      refl (run_stands (seen log (log_files s.folder)) (base / 8176 + length whole) true (may_behind true whole) (run_of is.parts is.held) (run_held log s base whole text is) (full_run is.parts is.held is.full) refl);
  end = running_end log base whole is.parts is.held is.fills;
}

pub at_long : (log : LogValue) (s : State) (base : ℕ) (whole : List Piece) (text : List ℕ) → IsAt log s base whole text → length log.page ≡ 8192
at_long log s base whole text is = fills_long log (behind base whole is.parts) is.held is.fills (omega (arith, is.fills.used_is))

-- with no page in front of the log's end no byte was appended
pub at_empty : (log : LogValue) (s : State) (base : ℕ) (whole : List Piece) (text : List ℕ) → (is : IsAt log s base whole text) → length (running_front whole is.parts is.held) ≡ 0 → log.used ≡ 0
at_empty log s base whole text is none =
    is.fills.used_is ∙ by_held is.held (omega (arith, none, length-append whole (pieces_of_run true (run_of is.parts is.held)), length-pieces_of_run true (run_of is.parts is.held)))
  where
    by_held : (held : List ℕ) → length (run_of is.parts held) ≡ 0 → length held ≡ 0
    by_held [] e = refl
    by_held (b ∷ bytes) e = absurd (omega (arith, e, length_push is.parts (b ∷ bytes)))

-- ---- what stands in a log that runs

-- groups as what stands in the log
abbrev pub wholes : List Logged → List Entry
wholes groups = map (λ (logged : Logged). record { at = logged.at; found = Whole logged.group }) groups

-- stored groups are all whole
all_whole : (groups : List (List Record)) (place : ℕ) → All IsGroup groups → entries_at place (groups_bytes groups) ≡ wholes (placed place groups)
unfolding groups_bytes
all_whole [] place are = at_nothing place
all_whole (group ∷ groups) place are =
    let bytes : List ℕ = group_bytes group in
    let more : List ℕ = flat_map group_bytes groups in
    let here : Entry = record { at = place; found = Whole group } in
    at_whole place (bytes ++ more) (group, more) (group_again group more (All-head IsGroup group groups are))
    ∙ ap (λ (k : ℕ). here ∷ entries_at (place + k) more) (let e : length (bytes ++ more) - length more ≡ length bytes = omega (arith, length-append bytes more) in e)
    ∙ ap (λ (l : List Entry). here ∷ l) (all_whole groups (place + length bytes) (All-tail IsGroup group groups are))

-- the rest of a run begins none
rest_quiet : (n : ℕ) (parts : List (List ℕ)) → entries_of_runs n (pieces_of_run false parts) ≡ []
unfolding entries_of_runs
rest_quiet n [] = refl
rest_quiet n (bytes ∷ parts) = rest_quiet (n + 1) parts

-- what stands in a run
entries_of_run : (n : ℕ) (parts : List (List ℕ)) → entries_of_runs n (pieces_of_run true parts) ≡ entries_at (8176 * n) (joined parts)
unfolding entries_of_runs
entries_of_run n [] = sym (at_nothing (8176 * n))
entries_of_run n (bytes ∷ parts) =
    ap (λ (l : List ℕ). entries_at (8176 * n) (bytes ++ l) ++ entries_of_runs (n + 1) (pieces_of_run false parts)) (rest_of_run parts)
    ∙ ap (λ (l : List Entry). entries_at (8176 * n) (bytes ++ joined parts) ++ l) (rest_quiet (n + 1) parts) ∙ append-nil (entries_at (8176 * n) (bytes ++ joined parts))

-- what stands in runs and in one behind them
runs_and_run : (n m : ℕ) (ps : List Piece) (parts : List (List ℕ)) → m ≡ n + length ps → entries_of_runs n (ps ++ pieces_of_run true parts) ≡ entries_of_runs n ps ++ entries_at (8176 * m) (joined parts)
unfolding entries_of_runs
runs_and_run n m [] parts at = entries_of_run n parts ∙ ap (λ (k : ℕ). entries_at (8176 * k) (joined parts)) (let e : n ≡ m = omega (arith, at) in e)
runs_and_run n m (p ∷ ps) parts at =
    let here : List ℕ → List Entry = λ rest. cond p.0 (entries_at (8176 * n) (p.1 ++ rest)) [] in
    ap (λ (l : List ℕ). here l ++ entries_of_runs (n + 1) (ps ++ pieces_of_run true parts)) (rest_before ps parts)
    ∙ ap (λ (l : List Entry). here (run_rest ps) ++ l) (runs_and_run (n + 1) m ps parts (at ∙ omega arith))
    ∙ sym (append_assoc (here (run_rest ps)) (entries_of_runs (n + 1) ps) (entries_at (8176 * m) (joined parts)))

-- What stands from a base in a whole front on, and in a run behind it; with no front the base is where the run begins.
pub entries-append : (base m : ℕ) (ps : List Piece) (parts : List (List ℕ)) → m ≡ base / 8176 + length ps → (length ps ≡ 0 → base % 8176 ≡ 0)
    → entries_from base (ps ++ pieces_of_run true parts) ≡ entries_from base ps ++ entries_at (8176 * m) (joined parts)
unfolding entries_from
entries-append base m [] [] at based = sym (at_nothing (8176 * m))
entries-append base m [] (bytes ∷ parts) at based =
    let even : base % 8176 ≡ 0 = based refl in
    let here : base ≡ 8176 * m = omega (arith, at, even) in
    ap (λ (l : List ℕ). entries_at base (drop (base % 8176) (bytes ++ l)) ++ entries_of_runs (base / 8176 + 1) (pieces_of_run false parts)) (rest_of_run parts)
    ∙ ap (λ (k : ℕ). entries_at base (drop k (bytes ++ joined parts)) ++ entries_of_runs (base / 8176 + 1) (pieces_of_run false parts)) even
    ∙ ap (λ (l : List Entry). entries_at base (bytes ++ joined parts) ++ l) (rest_quiet (base / 8176 + 1) parts)
    ∙ append-nil (entries_at base (bytes ++ joined parts)) ∙ ap (λ (k : ℕ). entries_at k (bytes ++ joined parts)) here
entries-append base m (p ∷ ps) parts at based =
    let here : List ℕ → List Entry = λ rest. entries_at base (drop (base % 8176) (p.1 ++ rest)) in
    ap (λ (l : List ℕ). here l ++ entries_of_runs (base / 8176 + 1) (ps ++ pieces_of_run true parts)) (rest_before ps parts)
    ∙ ap (λ (l : List Entry). here (run_rest ps) ++ l) (runs_and_run (base / 8176 + 1) m ps parts (at ∙ omega arith))
    ∙ sym (append_assoc (here (run_rest ps)) (entries_of_runs (base / 8176 + 1) ps) (entries_at (8176 * m) (joined parts)))

-- the groups are those
groups_of-wholes : (groups : List Logged) → groups_of (wholes groups) ≡ groups
groups_of-wholes [] = refl
groups_of-wholes (logged ∷ groups) = ap (λ (l : List Logged). logged ∷ l) (groups_of-wholes groups)

-- A log that runs can be read from its base on, with the groups that aren't forced. These stand behind all that is in
-- whole runs, and nothing is void among them.
pub record IsRead (log : LogValue) (files : LogFiles) (base : ℕ) (whole front : List Piece) (fresh : List (List Record)) (groups : List Logged) : Type 0 where
  pub all : IsWhole log files base front groups
  pub entries_are : entries_from base front ≡ entries_from base whole ++ wholes (placed (8176 * (base / 8176 + length whole)) fresh)

pub running_readable : (log : LogValue) (s : State) (base : ℕ) (groups : List Logged) (forced : ℕ) → (is : IsLog log s base groups forced)
    → IsRead log (log_files s.folder) base is.whole (running_front is.whole is.at.parts is.at.held) is.fresh groups
running_readable log s base groups forced is =
    let m : ℕ = base / 8176 + length is.whole in
    let run : List (List ℕ) = run_of is.at.parts is.at.held in
    let bytes : joined run ≡ groups_bytes is.fresh = joined_run is.at.parts is.at.held ∙ is.at.text_is in
    let entries : entries_from base (is.whole ++ pieces_of_run true run) ≡ entries_from base is.whole ++ wholes (placed (8176 * m) is.fresh) =
    entries-append base m is.whole run refl (base_even base is.whole is.based) ∙ ap (λ (l : List ℕ). entries_from base is.whole ++ entries_at (8176 * m) l) bytes
    ∙ ap (λ (l : List Entry). entries_from base is.whole ++ l) (all_whole is.fresh (8176 * m) is.are) in
    record {
      all = record {
        readable = at_readable log s base is.whole (groups_bytes is.fresh) is.based is.at;
        groups_are = ap groups_of entries ∙ groups_of-append (entries_from base is.whole) (wholes (placed (8176 * m) is.fresh))
            ∙ ap (λ (l : List Logged). l ++ groups_of (wholes (placed (8176 * m) is.fresh))) (groups_of-from base is.whole)
            ∙ ap (λ (l : List Logged). groups_from base is.whole ++ l) (groups_of-wholes (placed (8176 * m) is.fresh)) ∙ sym is.groups_are;
        long = at_long log s base is.whole (groups_bytes is.fresh) is.at;
        empty = at_empty log s base is.whole (groups_bytes is.fresh) is.at;
      };
      entries_are = entries;
    }

-- ---- from place to place

-- the first thing stands at the base
first_place : (end base : ℕ) (p : Piece) (ps : List Piece) → base % 8176 < length p.1 → next_place end (entries_from base (p ∷ ps)) ≡ base
unfolding entries_from
first_place end base p ps based =
    next_at end base (drop (base % 8176) (p.1 ++ run_rest ps)) (entries_of_runs (base / 8176 + 1) ps) (omega (arith, based, length-drop (base % 8176) (p.1 ++ run_rest ps), length-append p.1 (run_rest ps)))

-- A log that can be read from a base on is read from there: with no page in its files it has no byte in memory either.
pub stands_first : (log : LogValue) (files : LogFiles) (base : ℕ) (front : List Piece) → IsReadable log files base front → (length front ≡ 0 → log.used ≡ 0) → StandsAt log files base [] (entries_from base front)
stands_first log files base [] is empty = record {
  base = base;
  front = [];
  readable = is;
  entries = refl;
  here =
      let none = empty refl in
      let at : base ≡ place log = omega (arith, is.end, is.based, (end_page_is log).0 none, none) in at ∙ sym (ap (next_place (place log)) (nothing_from base));
}
stands_first log files base (p ∷ ps) is empty = record { base = base; front = p ∷ ps; readable = is; entries = refl; here = sym (first_place (place log) base p ps is.based) }

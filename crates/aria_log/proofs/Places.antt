-- The places of the log's groups rise, and so do their log sequence numbers.
use Rattle.std.proofs.Common.{◌≡◌, inl, inr, ℕ, zero, suc, ◌+◌, ◌-◌, ◌*◌, ◌/◌, ◌%◌, ◌^◌, ◌<◌, ◌≤◌, Bool, true, false, Option, None, Some, List, [], ◌∷◌, ◌++◌, length, drop, refl, sym, ◌∙◌, ap, subst, arith, length-append}
use Rattle.std.specs.List.{flat_map}
use Rattle.std.proofs.lemmas.Bool.{cases_lt}
use Rattle.std.proofs.lemmas.List.{length-drop}
use Rattle.aria_page.specs.declared.lsn.Lsn.{Lsn}
use Rattle.aria_host.specs.State.{State}
use Rattle.aria_record.specs.declared.record.Record.{Record}
use Rattle.aria_record.specs.Spelled.{group_bytes}
use Rattle.aria_record.specs.Reading.{read_group}
use Rattle.aria_log.specs.declared.log.Log.{Log as LogValue}
use Rattle.aria_log.specs.Pieces.{Piece, Pieces, LogFiles, log_files, pieces_of, Stand, is_full}
use Rattle.aria_record.specs.Logged.{Logged, lsn_at_place}
use Rattle.aria_log.specs.Groups.{placed, groups_bytes, groups_within, groups_at, run_rest, groups_of_runs, groups_from}
use Rattle.aria_log.specs.Log.{IsBaseOf, IsLog, IsOpened, place}
use Rattle.aria_log.proofs.GroupLists.{none_within, some_within, length-group_bytes}
use Rattle.aria_log.proofs.Images.{next_some}
use Rattle.aria_log.proofs.Later.{AreShort, are_short, group_rest, behind_length}
use Rattle.aria_log.proofs.Logs.{place_is}

-- Each group stands behind the one before it, the first one at this place or later, and all before the end.
abbrev pub AreRising : ℕ → List Logged → ℕ → Type 0
AreRising low [] end = low ≤ end
AreRising low (g ∷ groups) end = (low ≤ g.at) × AreRising (g.at + 1) groups end

-- from a lower place
rising_lower : (low low' : ℕ) (groups : List Logged) (end : ℕ) → low' ≤ low → AreRising low groups end → AreRising low' groups end
rising_lower low low' [] end le is = omega (arith, le, is)
rising_lower low low' (g ∷ groups) end le is = (omega (arith, le, is.0), is.1)

-- up to a higher one
rising_higher : (low : ℕ) (groups : List Logged) (end end' : ℕ) → end ≤ end' → AreRising low groups end → AreRising low groups end'
rising_higher low [] end end' le is = omega (arith, le, is)
rising_higher low (g ∷ groups) end end' le is = (is.0, rising_higher (g.at + 1) groups end end' le is.1)

-- groups behind others
rising_append : (low : ℕ) (groups : List Logged) (mid : ℕ) (more : List Logged) (end : ℕ) → AreRising low groups mid → AreRising mid more end → AreRising low (groups ++ more) end
rising_append low [] mid more end first second = rising_lower mid low more end first second
rising_append low (g ∷ groups) mid more end first second = (first.0, rising_append (g.at + 1) groups mid more end first.1 second)

-- ---- groups in pages

first_rising : (n place : ℕ) (bytes : List ℕ) → ((p : ℕ) (l : List ℕ) → AreRising p (groups_within n p l) (p + length l)) → (o : Option (List Record × List ℕ)) → read_group bytes ≡ o → AreRising place (groups_within (suc n) place bytes) (place + length bytes)
first_rising n place bytes again None e = subst (λ (l : List Logged). AreRising place l (place + length bytes)) (sym (none_within (suc n) place bytes e)) (omega arith)
first_rising n place bytes again (Some (group, rest)) e =
    let is = group_rest bytes (group, rest) e in
    let size : length rest + is.count ≡ length bytes = behind_length bytes rest is in
    let next : ℕ = place + (length bytes - length rest) in
    let more : AreRising (place + 1) (groups_within n next rest) (place + length bytes) =
    rising_lower next (place + 1) (groups_within n next rest) (place + length bytes) (omega (arith, size, is.some))
    (rising_higher next (groups_within n next rest) (next + length rest) (place + length bytes) (omega (arith, size)) (again next rest)) in
    subst (λ (l : List Logged). AreRising place l (place + length bytes)) (sym (some_within n place bytes rest group e)) (omega arith, more)

within_rising : (n place : ℕ) (bytes : List ℕ) → AreRising place (groups_within n place bytes) (place + length bytes)
unfolding groups_within
within_rising zero place bytes = omega arith
within_rising (suc n) place bytes = first_rising n place bytes (λ p l. within_rising n p l) (read_group bytes) refl

at_rising : (place : ℕ) (bytes : List ℕ) → AreRising place (groups_at place bytes) (place + length bytes)
unfolding groups_at
at_rising place bytes = within_rising (length bytes) place bytes

-- the groups of the runs that begin in these pieces, behind the bytes of the run before them
runs_rising : (files : LogFiles) (n low : ℕ) (may : Bool) (ps : List Piece) → low ≤ 8176 * n → Stand (pieces_of files) n may ps → AreRising (low + length (run_rest ps)) (groups_of_runs n ps) (8176 * (n + length ps))
unfolding run_rest groups_of_runs
runs_rising files n low may [] le stand = omega (arith, le)
runs_rising files n low may ((false, bytes) ∷ ps) le stand =
    let short : length bytes ≤ 8176 = are_short files n (false, bytes) (next_some (pieces_of files) n may (false, bytes) stand.0) in
    let size : length (bytes ++ run_rest ps) ≡ length bytes + length (run_rest ps) = length-append bytes (run_rest ps) in
    rising_lower (low + length bytes + length (run_rest ps)) (low + length (bytes ++ run_rest ps)) (groups_of_runs (n + 1) ps) (8176 * (n + suc (length ps))) (omega (arith, size))
    (rising_higher (low + length bytes + length (run_rest ps)) (groups_of_runs (n + 1) ps) (8176 * (n + 1 + length ps)) (8176 * (n + suc (length ps))) (omega arith)
    (runs_rising files (n + 1) (low + length bytes) (is_full (false, bytes)) ps (omega (arith, le, short)) stand.1))
runs_rising files n low may ((true, bytes) ∷ ps) le stand =
    let short : length bytes ≤ 8176 = are_short files n (true, bytes) (next_some (pieces_of files) n may (true, bytes) stand.0) in
    let size : length (bytes ++ run_rest ps) ≡ length bytes + length (run_rest ps) = length-append bytes (run_rest ps) in
    let here : List Logged = groups_at (8176 * n) (bytes ++ run_rest ps) in
    let end : ℕ = 8176 * n + length bytes + length (run_rest ps) in
    rising_append (low + 0) here end (groups_of_runs (n + 1) ps) (8176 * (n + suc (length ps)))
    (rising_lower (8176 * n) (low + 0) here end (omega (arith, le)) (rising_higher (8176 * n) here (8176 * n + length (bytes ++ run_rest ps)) end (omega (arith, size)) (at_rising (8176 * n) (bytes ++ run_rest ps))))
    (rising_higher end (groups_of_runs (n + 1) ps) (8176 * (n + 1 + length ps)) (8176 * (n + suc (length ps))) (omega arith)
    (runs_rising files (n + 1) (8176 * n + length bytes) (is_full (true, bytes)) ps (omega (arith, short)) stand.1))

-- the groups of a front
pub front_rising : (files : LogFiles) (base : ℕ) (ps : List Piece) → IsBaseOf base ps → Stand (pieces_of files) (base / 8176) true ps → AreRising base (groups_from base ps) (8176 * (base / 8176 + length ps))
unfolding groups_from
front_rising files base [] based stand = omega (arith, based)
front_rising files base (p ∷ ps) based stand =
    let n : ℕ = base / 8176 in
    let short : length p.1 ≤ 8176 = are_short files n p (next_some (pieces_of files) n true p stand.0) in
    let text : List ℕ = p.1 ++ run_rest ps in
    let size : length text ≡ length p.1 + length (run_rest ps) = length-append p.1 (run_rest ps) in
    let left : length (drop (base % 8176) text) ≡ length text - base % 8176 = length-drop (base % 8176) text in
    let here : List Logged = groups_at base (drop (base % 8176) text) in
    let end : ℕ = 8176 * n + length p.1 + length (run_rest ps) in
    rising_append base here end (groups_of_runs (n + 1) ps) (8176 * (n + suc (length ps)))
    (rising_higher base here (base + length (drop (base % 8176) text)) end (omega (arith, size, left, based)) (at_rising base (drop (base % 8176) text)))
    (rising_higher end (groups_of_runs (n + 1) ps) (8176 * (n + 1 + length ps)) (8176 * (n + suc (length ps))) (omega arith)
    (runs_rising files (n + 1) (8176 * n + length p.1) (is_full p) ps (omega (arith, short)) stand.1))

-- groups that were appended
pub placed_rising : (at : ℕ) (groups : List (List Record)) → AreRising at (placed at groups) (at + length (groups_bytes groups))
unfolding groups_bytes
placed_rising at [] = omega arith
placed_rising at (group ∷ groups) =
    let size : ℕ = length (group_bytes group) in
    let rest : List ℕ = flat_map group_bytes groups in
    let all : length (group_bytes group ++ rest) ≡ size + length rest = length-append (group_bytes group) rest in
    let more : AreRising (at + 1) (placed (at + size) groups) (at + length (group_bytes group ++ rest)) =
    rising_lower (at + size) (at + 1) (placed (at + size) groups) (at + length (group_bytes group ++ rest)) (omega (arith, length-group_bytes group))
    (rising_higher (at + size) (placed (at + size) groups) (at + size + length rest) (at + length (group_bytes group ++ rest)) (omega (arith, all)) (placed_rising (at + size) groups)) in
    (omega arith, more)

-- the groups of a log rise from its base on, up to where the next one begins
pub log_rising : (log : LogValue) (s : State) (base : ℕ) (groups : List Logged) (forced : ℕ) → IsLog log s base groups forced → AreRising base groups (place log)
log_rising log s base groups forced is =
    let start : ℕ = 8176 * (base / 8176 + length is.whole) in
    subst (λ (l : List Logged). AreRising base l (place log)) (sym is.groups_are)
    (rising_append base (groups_from base is.whole) start (placed start is.fresh) (place log)
    (front_rising (log_files s.folder) base is.whole is.based is.at.writing.reads.stand)
    (rising_higher start (placed start is.fresh) (start + length (groups_bytes is.fresh)) (place log) (omega (arith, place_is log s base is.whole (groups_bytes is.fresh) is.at)) (placed_rising start is.fresh)))

-- the same of a log that was opened, up to the end of its last page
pub opened_rising : (log : LogValue) (s : State) (base : ℕ) (groups : List Logged) (last : ℕ) → (is : IsOpened log s base groups last) → AreRising base groups (8176 * (base / 8176 + length is.whole))
opened_rising log s base groups last is =
    subst (λ (l : List Logged). AreRising base l (8176 * (base / 8176 + length is.whole))) (sym is.groups_are) (front_rising (log_files s.folder) base is.whole is.based is.front.stand)

-- ---- log sequence numbers

-- a log sequence number as one number
abbrev pub lsn_number : Lsn → ℕ
lsn_number l = 2 ^ 32 * l.file + l.offset

-- a place that a log may have is below the end of all of them
pub number_low : (at : ℕ) → at ≤ 8176 * (2 ^ 34 - 1) → lsn_number (lsn_at_place at) < 2 ^ 56
number_low at le =
    let file : at / 8176 / 1024 < 2 ^ 24 = omega (arith, le) in
    let offset : 8192 * (at / 8176 % 1024) + 16 + at % 8176 < 2 ^ 32 = omega arith in
    omega (arith, file, offset)

-- a later place has a higher one
pub number_rises : (a b : ℕ) → a < b → lsn_number (lsn_at_place a) < lsn_number (lsn_at_place b)
number_rises a b less = in_pages (a / 8176) (b / 8176) (a % 8176) (b % 8176) (omega (arith, less)) (omega arith) (omega (arith, less))
  where
    in_files : (f g x y : ℕ) → f ≤ g → x < 2 ^ 24 → (f ≡ g → x < y) → 2 ^ 32 * f + x < 2 ^ 32 * g + y
    in_files f g x y le low same = grind (arith, le, low, same)

    in_pages : (n m x y : ℕ) → n ≤ m → x < 8176 → (n ≡ m → x < y) → 2 ^ 32 * (n / 1024) + (8192 * (n % 1024) + 16 + x) < 2 ^ 32 * (m / 1024) + (8192 * (m % 1024) + 16 + y)
    in_pages n m x y le low same = in_files (n / 1024) (m / 1024) (8192 * (n % 1024) + 16 + x) (8192 * (m % 1024) + 16 + y) (omega (arith, le)) (omega (arith, low)) (λ file. elim (cases_lt n m) [
      | inl before ↦ omega (arith, file, before, low)
      | inr past ↦ omega (arith, file, le, past, same (omega (arith, le, past)))
    ])

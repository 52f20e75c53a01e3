-- A log has no more entries than bytes.
use Rattle.std.proofs.Common.{◌≡◌, ◌==◌, ◌&&◌, not, ℕ, zero, suc, ◌+◌, ◌-◌, ◌*◌, ◌/◌, ◌%◌, ◌<◌, ◌≤◌, nat_lt, Bool, true, false, cond, Option, None, Some, List, [], ◌∷◌, ◌++◌, length, take, drop, ap, arith}
use Rattle.std.specs.Option.{option_map_or}
use Rattle.std.proofs.lemmas.List.{length-append, length-take, length-drop}
use Rattle.aria_record.specs.declared.record.Record.{Record}
use Rattle.aria_record.specs.Reading.{read_group}
use Rattle.aria_log.specs.declared.log.Log.{Log as LogValue}
use Rattle.aria_log.specs.declared.next.TheConstants.{MAX_ENTRIES}
use Rattle.aria_log.specs.Pieces.{Piece, Pieces, LogFiles, pieces_of, is_full, Stand}
use Rattle.aria_log.specs.Groups.{run_rest}
use Rattle.aria_log.specs.Reading.{Entry, Whole, void_rest, entries_within, entries_at, entries_of_runs, entries_from, seen, StandsAt}
use Rattle.aria_log.proofs.Splitting.{next_is}
use Rattle.aria_log.proofs.RunReads.{pieces_used}

-- ---- a page has at most 8176 used bytes

abbrev AreShort : Pieces → Type 0
AreShort pieces = (n : ℕ) (p : Piece) → pieces n ≡ Some p → length p.1 ≤ 8176

seen_short : (log : LogValue) (files : LogFiles) → AreShort (seen log files)
unfolding seen
seen_short log files n p is = by (nat_lt n log.number) (n == log.number && not (log.used == 0)) is
  where
    last : (here : Bool) → cond here (Some (n == log.first, take log.used (drop 16 log.page))) None ≡ Some p → length p.1 ≤ 8176
    last true is = let e : take log.used (drop 16 log.page) ≡ p.1 = ap (λ (o : Option Piece). option_map_or (λ (x : Piece). x.1) o []) is in
        omega (arith, ap (λ (l : List ℕ). length l) e, length-take log.used (drop 16 log.page), log.within)
    last false is = absurd (cc)

    by : (low here : Bool) → cond low (pieces_of files n) (cond here (Some (n == log.first, take log.used (drop 16 log.page))) None) ≡ Some p → length p.1 ≤ 8176
    by true here is = (pieces_used files n p is).1
    by false here is = last here is

-- the used bytes of these pages
total : List Piece → ℕ
total [] = 0
total (p ∷ ps) = length p.1 + total ps

stand_total : (pieces : Pieces) (n : ℕ) (may : Bool) (ps : List Piece) → AreShort pieces → Stand pieces n may ps → total ps ≤ 8176 * length ps
unfolding total
stand_total pieces n may [] short stand = omega arith
stand_total pieces n may (p ∷ ps) short stand =
    omega (arith, short n p (next_is pieces n may p stand.0).0, stand_total pieces (n + 1) (is_full p) ps short stand.1)

-- ---- each entry takes a byte

void_few : (place : ℕ) (bytes : List ℕ) → length (void_rest place bytes) ≤ 1
void_few place [] = omega arith
void_few place (b ∷ bytes) = omega arith

within_few : (n place : ℕ) (bytes : List ℕ) → length (entries_within n place bytes) ≤ n
unfolding entries_within
within_few zero place bytes = omega arith
within_few (suc n) place bytes = by (λ at bytes. within_few n at bytes) (read_group bytes)
  where
    by : ((at : ℕ) (bytes : List ℕ) → length (entries_within n at bytes) ≤ n) → (found : Option (List Record × List ℕ))
        → length (option_map_or (λ (found : List Record × List ℕ). record { at = place; found = Whole found.0 } ∷ entries_within n (place + (length bytes - length found.1)) found.1) found (void_rest place bytes)) ≤ suc n
    by few None = omega (arith, void_few place bytes)
    by few (Some found) = omega (arith, few (place + (length bytes - length found.1)) found.1)

at_few : (place : ℕ) (bytes : List ℕ) → length (entries_at place bytes) ≤ length bytes
unfolding entries_at
at_few place bytes = within_few (length bytes) place bytes

runs_few : (n : ℕ) (ps : List Piece) → length (entries_of_runs n ps) + length (run_rest ps) ≤ total ps
unfolding entries_of_runs run_rest total
runs_few n [] = omega arith
runs_few n (p ∷ ps) = by p.0 (runs_few (n + 1) ps)
  where
    by : (begins : Bool) → length (entries_of_runs (n + 1) ps) + length (run_rest ps) ≤ total ps
        → length (cond begins (entries_at (8176 * n) (p.1 ++ run_rest ps)) [] ++ entries_of_runs (n + 1) ps) + length (cond begins [] (p.1 ++ run_rest ps)) ≤ length p.1 + total ps
    by true few = omega (arith, few, length-append (entries_at (8176 * n) (p.1 ++ run_rest ps)) (entries_of_runs (n + 1) ps), at_few (8176 * n) (p.1 ++ run_rest ps), length-append p.1 (run_rest ps))
    by false few = omega (arith, few, length-append p.1 (run_rest ps))

from_few : (base : ℕ) (ps : List Piece) → length (entries_from base ps) ≤ total ps
unfolding entries_from total
from_few base [] = omega arith
from_few base (p ∷ ps) =
    let bytes = p.1 ++ run_rest ps in
    omega (
      arith,
      length-append (entries_at base (drop (base % 8176) bytes)) (entries_of_runs (base / 8176 + 1) ps),
      at_few base (drop (base % 8176) bytes),
      length-drop (base % 8176) bytes,
      length-append p.1 (run_rest ps),
      runs_few (base / 8176 + 1) ps,
    )

pub few_entries : (log : LogValue) (files : LogFiles) (here : ℕ) (before more : List Entry) → StandsAt log files here before more → length before + length more < MAX_ENTRIES
few_entries log files here before more stands =
    let size = length-append before more in
    let few = stand_total (seen log files) (stands.base / 8176) true stands.front (seen_short log files) stands.readable.stand in
    let count = ap (λ (es : List Entry). length es) stands.entries in
    omega (arith, size, few, count, from_few stands.base stands.front, stands.readable.end, one (log.used == 0), log.room)
  where
    one : (b : Bool) → cond b 0 1 ≤ 1
    one true = omega arith
    one false = omega arith

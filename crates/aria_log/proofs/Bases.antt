-- A log that was opened is read from the log sequence number on that it was opened with.
use Rattle.std.proofs.Common.{◌≡◌, ◌&&◌, ℕ, ◌+◌, ◌-◌, ◌*◌, ◌/◌, ◌%◌, ◌<◌, ◌≤◌, Bool, true, false, if◌then◌else◌, nat_le, nat_lt, None, Some, List, [], refl, sym, ap, arith}
use Rattle.std.proofs.lemmas.Bool.Decides.{nat_tests}
use Rattle.std.proofs.lemmas.Option.{same_Some}
use Rattle.aria_page.specs.declared.lsn.Lsn.{Lsn}
use Rattle.aria_host.specs.State.{State}
use Rattle.aria_log.specs.declared.log.Log.{Log as LogValue}
use Rattle.aria_log.specs.Pieces.{log_files}
use Rattle.aria_record.specs.Logged.{Logged, lsn_at_place}
use Rattle.aria_log.specs.Log.{IsOpened}
use Rattle.aria_log.specs.Reading.{Entry, entries_from, StandsAt}
use Rattle.aria_log.specs.Finding.{means_none, start_of, place_of, base_of}
use Rattle.aria_log.specs.Stepping.{groups_of}
use Rattle.aria_log.proofs.Readable.{opened_readable, stands_first}

-- a choice that gave something
chosen : (b : Bool) (n place : ℕ) → (if b then Some n else None) ≡ Some place → (b ≡ true) × (n ≡ place)
chosen true n place e = (refl, same_Some n place e)
chosen false n place e = absurd (cc)

both : (a b : Bool) → (a && b) ≡ true → (a ≡ true) × (b ≡ true)
both true b e = (refl, e)
both false b e = absurd (cc)

-- the byte of a page of a file
byte_at : (file page byte place : ℕ) → page < 1024 → byte < 8176 → 8176 * (1024 * file + page) + byte ≡ place → (place / 8176 ≡ 1024 * file + page) × (place % 8176 ≡ byte)
byte_at file page byte place low inside is = (omega (arith, is, inside), omega (arith, is, inside))

file_at : (file page n : ℕ) → page < 1024 → n ≡ 1024 * file + page → (n / 1024 ≡ file) × (n % 1024 ≡ page)
file_at file page n low is = (omega (arith, is, low), omega (arith, is, low))

-- a byte's place has its log sequence number
pub place_lsn : (l : Lsn) (place : ℕ) → place_of l ≡ Some place → l ≡ lsn_at_place place
unfolding place_of
place_lsn l place e =
    let page : ℕ = l.offset / 8192 in
    let byte : ℕ = l.offset % 8192 - 16 in
    let found = chosen (nat_le 16 (l.offset % 8192) && nat_lt page 1024) (8176 * (1024 * l.file + page) + byte) place e in
    let tests = both (nat_le 16 (l.offset % 8192)) (nat_lt page 1024) found.0 in
    let some : 16 ≤ l.offset % 8192 = grind (arith, nat_tests, tests.0) in
    let few : page < 1024 = grind (arith, nat_tests, tests.1) in
    let at = byte_at l.file page byte place few (omega arith) found.1 in
    let in_file = file_at l.file page (place / 8176) few at.0 in
    let file_is : l.file ≡ place / 8176 / 1024 = sym in_file.0 in
    let offset_is : l.offset ≡ 8192 * (place / 8176 % 1024) + 16 + place % 8176 = omega (arith, in_file.1, at.1, some) in
    λ i. record { file = file_is i; offset = offset_is i }

-- an opened log is read from its base on
pub opened_reads : (from : Lsn) (log : LogValue) (s : State) (base : ℕ) (groups : List Logged) (last : ℕ) → base_of from ≡ Some base → IsOpened log s base groups last
    → (entries : List Entry) × StandsAt log (log_files s.folder) base [] entries × (groups_of entries ≡ groups) × (start_of from ≡ lsn_at_place base)
opened_reads from log s base groups last is opened =
    let whole = opened_readable log s base groups last opened in
    (entries_from base opened.whole, stands_first log (log_files s.folder) base opened.whole whole.readable whole.empty, whole.groups_are, place_lsn (start_of from) base is)

-- a place that is given is where the log is read from
pub start_given : (from : Lsn) → means_none from ≡ false → start_of from ≡ from
unfolding start_of
start_given from given = ap (λ (b : Bool). if b then record { file = 1; offset = 16 } else from) given

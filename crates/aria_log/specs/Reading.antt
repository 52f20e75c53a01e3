-- What stands in the log, one thing after the other, and how it is read.
use Rattle.std.specs.Prelude.{◌≡◌, ◌==◌, ◌&&◌, not, if◌then◌else◌, ℕ, zero, suc, ◌+◌, ◌-◌, ◌*◌, ◌/◌, ◌%◌, ◌^◌, ◌<◌, nat_lt, Bool, true, Option, None, Some, List, [], ◌∷◌, ◌++◌, length, take, drop}
use Rattle.std.specs.Option.{option_map_or}
use Rattle.aria_record.specs.declared.record.Record.{Record}
use Rattle.aria_record.specs.Reading.{read_group}
use Rattle.aria_log.specs.declared.log.Log.{Log as LogValue}
use Rattle.aria_log.specs.declared.reader.Reader.{Reader as ReaderValue}
use Rattle.aria_log.specs.Pieces.{Piece, Pieces, LogFiles, pieces_of, Stand}
use Rattle.aria_log.specs.Groups.{run_rest}
use Rattle.aria_log.specs.Log.{IsBaseOf, place}

-- ---- what stands in the log

-- What stands at a place: a whole group, or the void rest of a run, which has so many bytes.
pub data Standing : Type 0 where
  Whole : List Record → Standing
  Void : ℕ → Standing

-- an entry of the log and the place of its first byte
pub record Entry : Type 0 where
  pub at : ℕ
  pub found : Standing

-- the void rest of a run, where it isn't empty
abbrev pub void_rest : ℕ → List ℕ → List Entry
void_rest place [] = []
void_rest place (b ∷ bytes) = record { at = place; found = Void (suc (length bytes)) } ∷ []

-- the whole groups in front of bytes that stand at this place, at most so many, and the void rest behind them
unfoldable pub entries_within : ℕ → ℕ → List ℕ → List Entry
entries_within zero place bytes = []
entries_within (suc n) place bytes =
    option_map_or (λ found. record { at = place; found = Whole found.0 } ∷ entries_within n (place + (length bytes - length found.1)) found.1) (read_group bytes) (void_rest place bytes)

-- all that stands in these bytes of a run
unfoldable pub entries_at : ℕ → List ℕ → List Entry
entries_at place bytes = entries_within (length bytes) place bytes

-- what stands in each run that begins in these pieces, of which the first is page n's
unfoldable pub entries_of_runs : ℕ → List Piece → List Entry
entries_of_runs n [] = []
entries_of_runs n (p ∷ ps) = (if p.0 then entries_at (8176 * n) (p.1 ++ run_rest ps) else []) ++ entries_of_runs (n + 1) ps

-- What stands in the log from a base on, which is a place in the first piece, or the place of the page behind the log's end.
unfoldable pub entries_from : ℕ → List Piece → List Entry
entries_from base [] = []
entries_from base (p ∷ ps) = entries_at base (drop (base % 8176) (p.1 ++ run_rest ps)) ++ entries_of_runs (base / 8176 + 1) ps

-- where the first of these stands, or the log's end
abbrev pub next_place : ℕ → List Entry → ℕ
next_place end [] = end
next_place end (entry ∷ entries) = entry.at

-- ---- what a log is read from

-- what its pages hold for a log: those before the one that is filled are in the files, and that one is in memory
unfoldable pub seen : LogValue → LogFiles → Pieces
seen log files n =
    if nat_lt n log.number then pieces_of files n else if n == log.number && not (log.used == 0) then Some (n == log.first, take log.used (drop 16 log.page)) else None

-- From this base on the log can be read: these pieces stand from its page on, up to the log's end.
pub record IsReadable (log : LogValue) (files : LogFiles) (base : ℕ) (front : List Piece) : Type 0 where
  pub based : IsBaseOf base front
  pub stand : Stand (seen log files) (base / 8176) true front
  pub end : base / 8176 + length front ≡ log.number + (if log.used == 0 then 0 else 1)

-- what stands in the log from a base on, up to a place and from there on
pub record StandsAt (log : LogValue) (files : LogFiles) (place' : ℕ) (before more : List Entry) : Type 0 where
  pub base : ℕ
  pub front : List Piece
  pub readable : IsReadable log files base front
  pub entries : entries_from base front ≡ before ++ more
  pub here : place' ≡ next_place (place log) more

-- ---- a reader of pages

-- the valid page that was read last
abbrev pub loaded : ReaderValue → Option Piece
loaded reader = if reader.used == 0 then None else Some (reader.begins, take reader.used (drop 16 reader.page))

-- the reader holds a page of these files, and the number of pages of one of them
pub record IsReader (reader : ReaderValue) (files : LogFiles) : Type 0 where
  pub page : (piece : Piece) → loaded reader ≡ Some piece → pieces_of files reader.number ≡ Some piece
  pub count : reader.file < 2 ^ 24 → reader.pages ≡ option_map_or length (files reader.file) 0

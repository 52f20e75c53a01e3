-- The groups that the log's pages hold.
use Rattle.std.specs.Prelude.{if◌then◌else◌, ℕ, zero, suc, ◌+◌, ◌-◌, ◌*◌, ◌/◌, ◌%◌, List, [], ◌∷◌, ◌++◌, length, drop}
use Rattle.std.specs.List.{flat_map}
use Rattle.std.specs.Option.{option_map_or}
use Rattle.aria_page.specs.declared.lsn.Lsn.{Lsn}
use Rattle.aria_record.specs.declared.record.Record.{Record}
use Rattle.aria_record.specs.Logged.{Logged}
use Rattle.aria_record.specs.Spelled.{group_bytes}
use Rattle.aria_record.specs.Reading.{read_group}
use Rattle.aria_log.specs.Pieces.{Piece}

-- groups one behind the other, from a place on
abbrev pub placed : ℕ → List (List Record) → List Logged
placed place [] = []
placed place (group ∷ groups) = record { at = place; group = group } ∷ placed (place + length (group_bytes group)) groups

-- their bytes
unfoldable pub groups_bytes : List (List Record) → List ℕ
groups_bytes groups = flat_map group_bytes groups

-- the whole groups in front of bytes that stand at this place, at most so many
unfoldable pub groups_within : ℕ → ℕ → List ℕ → List Logged
groups_within zero place bytes = []
groups_within (suc n) place bytes =
    option_map_or (λ found. record { at = place; group = found.0 } ∷ groups_within n (place + (length bytes - length found.1)) found.1) (read_group bytes) []

-- All the whole groups in front; what stands behind them is void.
unfoldable pub groups_at : ℕ → List ℕ → List Logged
groups_at place bytes = groups_within (length bytes) place bytes

-- the used bytes up to the next page that begins a run
unfoldable pub run_rest : List Piece → List ℕ
run_rest [] = []
run_rest (p ∷ ps) = if p.0 then [] else p.1 ++ run_rest ps

-- the groups of each run that begins in these pieces, of which the first is page n's
unfoldable pub groups_of_runs : ℕ → List Piece → List Logged
groups_of_runs n [] = []
groups_of_runs n (p ∷ ps) = (if p.0 then groups_at (8176 * n) (p.1 ++ run_rest ps) else []) ++ groups_of_runs (n + 1) ps

-- The groups from a base, which is a place in the first piece, or the place of the page behind the log's end: those that
-- stand from the base on in its run, and those of all later runs.
unfoldable pub groups_from : ℕ → List Piece → List Logged
groups_from base [] = []
groups_from base (p ∷ ps) = groups_at base (drop (base % 8176) (p.1 ++ run_rest ps)) ++ groups_of_runs (base / 8176 + 1) ps

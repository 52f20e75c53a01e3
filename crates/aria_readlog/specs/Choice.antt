-- What is told of the log: the lines of the entries that are asked for, and the last line.
use Rattle.std.specs.Prelude.{ℕ, ◌==◌, ◌&&◌, ◌||◌, not, if◌then◌else◌, nat_lt, Bool, true, false, List, [], length}
use Rattle.std.specs.List.{filter, flat_map}
use Rattle.std.specs.Option.{option_map_or}
use Rattle.aria_page.specs.declared.lsn.Lsn.{Lsn}
use Rattle.aria_record.specs.Logged.{lsn_at_place}
use Rattle.aria_log.specs.Reading.{Entry, Standing, Whole, Void}
use Rattle.aria_readlog.specs.declared.choice.Choice.{Choice}
use Rattle.aria_readlog.specs.Line.{group_lines, rest_line, last_line}

-- a stands before b in the log
abbrev pub is_before : Lsn → Lsn → Bool
is_before a b = nat_lt a.file b.file || ((a.file == b.file) && nat_lt a.offset b.offset)

-- the number isn't below the lowest that is asked for, nor above the highest
abbrev pub is_within : Choice → Lsn → Bool
is_within choice lsn = not (option_map_or (λ low. is_before lsn low) choice.from false) && not (option_map_or (λ high. is_before high lsn) choice.to false)

-- the entry is asked for
abbrev pub is_asked : Choice → Entry → Bool
is_asked choice entry = is_within choice (lsn_at_place entry.at)

-- it is a whole group
abbrev pub is_whole : Standing → Bool
is_whole (Whole group) = true
is_whole (Void bytes) = false

-- the lines of what stands at this number
abbrev pub found_lines : Lsn → Standing → List ℕ
found_lines lsn (Whole group) = group_lines lsn group
found_lines lsn (Void bytes) = rest_line lsn bytes

abbrev pub entry_lines : Entry → List ℕ
entry_lines entry = found_lines (lsn_at_place entry.at) entry.found

-- the entries that are asked for
abbrev pub asked : Choice → List Entry → List Entry
asked choice entries = filter (is_asked choice) entries

-- their lines; none where only the last line is told
unfoldable pub all_lines : Choice → List Entry → List ℕ
all_lines choice entries = if choice.silent then [] else flat_map entry_lines (asked choice entries)

-- how many whole groups are among these entries, and how many void rests
unfoldable pub group_count : List Entry → ℕ
group_count entries = length (filter (λ entry. is_whole entry.found) entries)

unfoldable pub rest_count : List Entry → ℕ
rest_count entries = length (filter (λ entry. not (is_whole entry.found)) entries)

-- the last line, which counts the entries that are asked for
unfoldable pub total_line : Choice → List Entry → List ℕ
total_line choice entries = last_line (group_count (asked choice entries)) (rest_count (asked choice entries))

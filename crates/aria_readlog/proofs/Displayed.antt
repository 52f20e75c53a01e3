-- What is told of a folder whose log was looked for.
use Rattle.std.proofs.Common.{◌≡◌, inr, ◌⊎◌, ℕ, ◌*◌, Bool, List, ◌++◌, true, sym, ◌∙◌, ap, subst}
use Rattle.std.specs.Prelude.{Result}
use Rattle.aria_page.specs.declared.lsn.Lsn.{Lsn}
use Rattle.aria_host.specs.declared.fault.Fault.{Fault}
use Rattle.aria_host.specs.Calls.{Narrows}
use Rattle.aria_host.specs.State.{Folder, State, LeavesOnly}
use Rattle.aria_host.proofs.Moments.{weakened}
use Rattle.aria_log.specs.declared.find.Found.{Found as FoundValue}
use Rattle.aria_log.specs.Pieces.{Piece, log_files}
use Rattle.aria_record.specs.Logged.{lsn_at_place}
use Rattle.aria_log.specs.Reading.{Entry, entries_of_runs, IsReadable}
use Rattle.aria_readlog.specs.declared.choice.Choice.{Choice}
use Rattle.aria_readlog.specs.Choice.{all_lines, total_line}
use Rattle.aria_readlog.specs.Telling.{AtFront, Shows}
use Rattle.aria_readlog.specs.Display.{Begins, IsDisplay, IsTold, AtDisplay, Keeps, IsEnd, Answers, Agree, Fails}
use Rattle.aria_readlog.specs.Looking.{IsLooked}
use Rattle.aria_readlog.proofs.Telling.{OnlyNow, shows_after}
use Rattle.aria_readlog.proofs.Started.{displayed, display_unique}
use Rattle.aria_readlog.proofs.Answering.{answer_of, only_answer, only_found}

-- what stands in the log
abbrev pub entries_of : (folder : Folder) (found : FoundValue) (first : Lsn) → IsLooked folder found first → List Entry
entries_of folder found first looked = entries_of_runs looked.from.n looked.from.front

begins_of : (folder : Folder) (found : FoundValue) (first : Lsn) (looked : IsLooked folder found first) → Begins folder looked.start
begins_of folder found first looked = record { found = looked.control; finds = looked.is; starts = looked.starts }

-- it can be read, also after a call that leaves the folder as it was
pub read_at : (old new : Folder) (found : FoundValue) (first : Lsn) → new ≡ old → (looked : IsLooked old found first) → IsReadable found.log (log_files new) (8176 * looked.from.n) looked.from.front
read_at old new found first same looked = subst (λ (f : Folder). IsReadable found.log (log_files f) (8176 * looked.from.n) looked.from.front) (sym same) looked.from.readable

pub first_at : (folder : Folder) (found : FoundValue) (first : Lsn) (looked : IsLooked folder found first) → first ≡ lsn_at_place (8176 * looked.from.n)
first_at folder found first looked = looked.first_is ∙ looked.from.first

pub display_of : (folder : Folder) (choice : Choice) (found : FoundValue) (first : Lsn) (looked : IsLooked folder found first)
    → IsDisplay folder choice (all_lines choice (entries_of folder found first looked)) (total_line choice (entries_of folder found first looked))
display_of folder choice found first looked = displayed folder choice looked.start found.log (begins_of folder found first looked) looked.from

-- what a call tells of the log that was found is told since the call that found it
pub shows_found : (choice : Choice) (found : FoundValue) (first : Lsn) (old mid new : State) (done : Bool) → OnlyNow old → Narrows old mid → (looked : IsLooked old.folder found first)
    → ((n : ℕ) (front : List Piece) → IsReadable found.log (log_files mid.folder) (8176 * n) front → first ≡ lsn_at_place (8176 * n)
    → Shows (all_lines choice (entries_of_runs n front) ++ total_line choice (entries_of_runs n front)) mid new done)
    → Shows (all_lines choice (entries_of old.folder found first looked) ++ total_line choice (entries_of old.folder found first looked)) old new done
shows_found choice found first old mid new done only same looked shows =
    shows_after old mid new (all_lines choice (entries_of old.folder found first looked) ++ total_line choice (entries_of old.folder found first looked)) done only same
    (shows looked.from.n looked.from.front (read_at old.folder mid.folder found first same.folder looked) (first_at old.folder found first looked))

-- the same, without the last line
pub shows_lines : (choice : Choice) (found : FoundValue) (first : Lsn) (old mid new : State) → OnlyNow old → Narrows old mid → (looked : IsLooked old.folder found first)
    → ((n : ℕ) (front : List Piece) → IsReadable found.log (log_files mid.folder) (8176 * n) front → first ≡ lsn_at_place (8176 * n) → Shows (all_lines choice (entries_of_runs n front)) mid new true)
    → Shows (all_lines choice (entries_of old.folder found first looked)) old new true
shows_lines choice found first old mid new only same looked shows =
    shows_after old mid new (all_lines choice (entries_of old.folder found first looked)) true only same
    (shows looked.from.n looked.from.front (read_at old.folder mid.folder found first same.folder looked) (first_at old.folder found first looked))

-- it is told whatever the lines of the folder are called
pub shows_all : (choice : Choice) (found : FoundValue) (first : Lsn) (old new : State) (done : Bool) (lines last : List ℕ) → (looked : IsLooked old.folder found first)
    → Shows (all_lines choice (entries_of old.folder found first looked) ++ total_line choice (entries_of old.folder found first looked)) old new done
    → IsDisplay old.folder choice lines last → Shows (lines ++ last) old new done
shows_all choice found first old new done lines last looked shows display =
    let same = display_unique old.folder choice looked.control looked.start found.log lines last (only_found old.folder looked.control looked.only) looked.starts looked.from display in
    subst (λ (l : List ℕ). Shows l old new done)
    (sym (ap (λ (l : List ℕ). l ++ last) same.0 ∙ ap (λ (l : List ℕ). all_lines choice (entries_of old.folder found first looked) ++ l) same.1)) shows

pub told_part : (choice : Choice) (found : FoundValue) (first : Lsn) (old new : State) (done : Bool) → (looked : IsLooked old.folder found first)
    → Shows (all_lines choice (entries_of old.folder found first looked) ++ total_line choice (entries_of old.folder found first looked)) old new done → IsTold old.folder choice old.out new.out
told_part choice found first old new done looked shows =
    inr (all_lines choice (entries_of old.folder found first looked), total_line choice (entries_of old.folder found first looked), display_of old.folder choice found first looked, shows.part.0, shows.part.1)

pub told_moments : (choice : Choice) (found : FoundValue) (first : Lsn) (old new : State) (done : Bool) → (looked : IsLooked old.folder found first)
    → Shows (all_lines choice (entries_of old.folder found first looked) ++ total_line choice (entries_of old.folder found first looked)) old new done → LeavesOnly old new (AtDisplay old choice)
told_moments choice found first old new done looked shows =
    let lines = all_lines choice (entries_of old.folder found first looked) in
    let last = total_line choice (entries_of old.folder found first looked) in
    weakened old new (AtFront old (lines ++ last)) (AtDisplay old choice) shows.moments (λ c told (leaves, n, is). (leaves, inr (lines, last, display_of old.folder choice found first looked, n, is)))

pub shows_keeps : (old new : State) (text : List ℕ) (done : Bool) → Shows text old new done → Keeps old new
shows_keeps old new text done shows = record { folder = shows.folder; images = shows.images; err = shows.err }

pub answer_is : (folder : Folder) (found : FoundValue) (first : Lsn) (result : Result (Unit {0}) Fault) → IsLooked folder found first → IsEnd found.damage result → Fails result ⊎ Answers result folder
answer_is folder found first result looked end = answer_of folder looked.start found result (begins_of folder found first looked) looked.missing looked.finds looked.from end

pub answer_only : (folder : Folder) (found : FoundValue) (first : Lsn) (result other : Result (Unit {0}) Fault) → IsLooked folder found first → IsEnd found.damage result
    → Answers other folder → Fails result ⊎ Agree other result
answer_only folder found first result other looked end is = only_answer folder looked.control looked.start result other looked.only looked.starts (answer_is folder found first result looked end) is

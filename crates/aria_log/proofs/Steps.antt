-- What a step tells, and where the next one begins.
use Rattle.std.proofs.Common.{◌≡◌, ◌==◌, ◌⊎◌, inl, inr, ℕ, suc, ◌+◌, ◌-◌, ◌*◌, ◌/◌, ◌%◌, ◌<◌, ◌≤◌, Bool, true, false, cond, Option, None, Some, List, [], ◌∷◌, ◌++◌, length, take, drop, refl, sym, ◌∙◌, ap, subst, arith, append_assoc, length-append}
use Rattle.std.proofs.lemmas.Bool.{cases_lt, cases_Bool, eqb-true}
use Rattle.std.proofs.lemmas.List.{append-nil, drop-append-le, length-drop, nil_from_length, take_rest}
use Rattle.aria_page.specs.declared.lsn.Lsn.{Lsn}
use Rattle.aria_record.specs.declared.record.Record.{Record}
use Rattle.aria_record.specs.Reading.{read_group}
use Rattle.aria_log.specs.declared.log.Log.{Log as LogValue}
use Rattle.aria_log.specs.declared.step.Step.{Step}
use Rattle.aria_log.specs.declared.step.Step.TheVariants.{Group, Rest, End}
use Rattle.aria_log.specs.Pieces.{Piece, LogFiles, Stand, is_full}
use Rattle.aria_record.specs.Logged.{lsn_at_place}
use Rattle.aria_log.specs.Groups.{run_rest}
use Rattle.aria_log.specs.Log.{place}
use Rattle.aria_log.specs.Reading.{Whole, Void, Entry, void_rest, entries_at, entries_of_runs, entries_from, next_place, seen, IsReadable, StandsAt}
use Rattle.aria_log.specs.Stepping.{IsEntry, IsStep, page_behind, end_page, IsLeft, EndsRun, ReadsOn, are_enough, StandsIn}
use Rattle.aria_log.proofs.GroupReads.{group_more, none_more}
use Rattle.aria_log.proofs.Entries.{at_nothing, at_whole, at_void, at_some}
use Rattle.aria_log.proofs.Splitting.{AreUsed, IsFrom, next_is, goes_full, no_runs_left, nothing_from, page_entries, page_from, end_from, from_entry}
use Rattle.aria_log.proofs.RunReads.{seen_last, length-filled, seen_above, seen_used, end_page_is, left_end, rest_nothing, read_page, left_behind}

-- ---- where the next thing stands

-- what stands first where there is a byte
pub next_at : (end place : ℕ) (bytes : List ℕ) (runs : List Entry) → 1 ≤ length bytes → next_place end (entries_at place bytes ++ runs) ≡ place
next_at end place bytes runs some =
    let (entry, more, e, at) = at_some place bytes some in
    ap (λ (l : List Entry). next_place end (l ++ runs)) e ∙ at

-- what stands first in runs
pub next_run : (end n : ℕ) (p : Piece) (ps : List Piece) → p.0 ≡ true → 1 ≤ length p.1 → next_place end (entries_of_runs n (p ∷ ps)) ≡ 8176 * n
unfolding entries_of_runs
next_run end n p ps begins some =
    ap (λ (b : Bool). next_place end (cond b (entries_at (8176 * n) (p.1 ++ run_rest ps)) [] ++ entries_of_runs (n + 1) ps)) begins
    ∙ next_at end (8176 * n) (p.1 ++ run_rest ps) (entries_of_runs (n + 1) ps) (omega (arith, some, length-append p.1 (run_rest ps)))

-- what stands behind the pages of a run that were read
abbrev left_over : ℕ → List Piece → List Entry
left_over read rest = entries_at read (run_rest rest) ++ entries_of_runs (page_behind read) rest

-- with nothing left of the run
over_end : (read : ℕ) (rest : List Piece) → run_rest rest ≡ [] → left_over read rest ≡ entries_of_runs (page_behind read) rest
over_end read rest none = ap (λ (l : List ℕ). entries_at read l ++ entries_of_runs (page_behind read) rest) none ∙ ap (λ (l : List Entry). l ++ entries_of_runs (page_behind read) rest) (at_nothing read)

-- at the log's end
next_end : (log : LogValue) (files : LogFiles) (read : ℕ) (rest : List Piece) → IsLeft log files read rest → read ≡ place log → next_place (place log) (left_over read rest) ≡ read
next_end log files read rest is at =
    let none : rest ≡ [] = left_end log files read rest is at in
    ap (λ (l : List Piece). next_place (place log) (left_over read l)) none ∙ ap (next_place (place log)) (over_end read [] (rest_nothing [] tt) ∙ no_runs_left (page_behind read)) ∙ sym at

-- a run that goes on has a byte
run_some : (p : Piece) (ps : List Piece) → p.0 ≡ false → 1 ≤ length p.1 → 1 ≤ length (run_rest (p ∷ ps))
unfolding run_rest
run_some p ps goes some = subst (λ (b : Bool). 1 ≤ length (cond b [] (p.1 ++ run_rest ps))) (sym goes) (omega (arith, some, length-append p.1 (run_rest ps)))

-- and before it
next_page : (log : LogValue) (files : LogFiles) (read : ℕ) (rest : List Piece) → AreUsed (seen log files) → IsLeft log files read rest → read < place log → next_place (place log) (left_over read rest) ≡ 8176 * page_behind read
next_page log files read [] used is low =
    ap (next_place (place log)) (over_end read [] (rest_nothing [] tt) ∙ no_runs_left (page_behind read)) ∙ elim (cases_lt 0 log.used) [
      | inl some ↦ let e = (end_page_is log).1 some in elim is.within [
        | inl upto ↦ omega (arith, e, is.end, upto)
        | inr at ↦ omega (arith, at, low)
      ]
      | inr none ↦ let e = (end_page_is log).0 (omega (arith, none)) in omega (arith, e, is.end, none)
    ]
next_page log files read (p ∷ ps) used is low =
    let some = used (page_behind read) p (next_is (seen log files) (page_behind read) (read % 8176 == 0) p is.stand.0).0 in
    elim (cases_Bool p.0) [
      | inl begins ↦ ap (next_place (place log)) (over_end read (p ∷ ps) (rest_nothing (p ∷ ps) begins)) ∙ next_run (place log) (page_behind read) p ps begins some.0
      | inr goes ↦
          let full : read % 8176 ≡ 0 = eqb-true (read % 8176) 0 (goes_full (seen log files) (page_behind read) (read % 8176 == 0) p ps is.stand goes) in
          next_at (place log) read (run_rest (p ∷ ps)) (entries_of_runs (page_behind read) (p ∷ ps)) (run_some p ps goes some.0) ∙ omega (arith, full)
    ]

-- ---- steps

-- where a step says that the next thing stands: at this place, or on the next page
pub record IsAfter (log : LogValue) (at read after : ℕ) : Type 0 where
  pub here : at < read → after ≡ at
  pub last : place log ≤ at → after ≡ at
  pub next : read ≤ at → at < place log → after ≡ 8176 * page_behind read

-- behind the last byte that was read
after_read : (log : LogValue) (files : LogFiles) (read after : ℕ) (rest : List Piece) → AreUsed (seen log files) → IsLeft log files read rest → read ≤ place log → IsAfter log read read after
    → after ≡ next_place (place log) (left_over read rest)
after_read log files read after rest used is within says = elim (cases_lt read (place log)) [
  | inl low ↦ says.next (omega arith) low ∙ sym (next_page log files read rest used is low)
  | inr end ↦ says.last end ∙ sym (next_end log files read rest is (omega (arith, end, within)))
]

-- a group is told
pub group_told : (log : LogValue) (files : LogFiles) (entries : List Entry) (last : List Piece) (bytes rest : List ℕ) (group : List Record) (at size read after : ℕ) → length log.page ≡ 8192 → IsLeft log files read last → read ≡ at + length bytes
    → entries ≡ entries_at at (bytes ++ run_rest last) ++ entries_of_runs (page_behind read) last → read_group bytes ≡ Some (group, rest) → size + length rest ≡ length bytes → read ≤ place log → IsAfter log (at + size) read after
    → IsStep (place log) entries (Group (lsn_at_place at) group (lsn_at_place after))
group_told log files entries last bytes rest group at size read after long is read_is are found size_is within says =
    let runs : List Entry = entries_of_runs (page_behind read) last in
    let behind : List ℕ = run_rest last in
    let more : List Entry = entries_at (at + size) (rest ++ behind) ++ runs in
    let here : Entry = record { at = at; found = Whole group } in
    let taken : length (bytes ++ behind) - length (rest ++ behind) ≡ size = omega (arith, length-append bytes behind, length-append rest behind, size_is) in
    let split : entries ≡ here ∷ more =
    are ∙ ap (λ (l : List Entry). l ++ runs) (at_whole at (bytes ++ behind) (group, rest ++ behind) (group_more bytes behind (group, rest) found))
    ∙ ap (λ (k : ℕ). here ∷ (entries_at (at + k) (rest ++ behind) ++ runs)) taken in
    let next : after ≡ next_place (place log) more = elim (cases_lt 0 (length rest)) [
      | inl some ↦ says.here (omega (arith, some, size_is, read_is)) ∙ sym (next_at (place log) (at + size) (rest ++ behind) runs (omega (arith, some, length-append rest behind)))
      | inr none ↦
          let end : at + size ≡ read = omega (arith, none, size_is, read_is) in
          after_read log files read after last (seen_used log files long) is within (subst (λ (k : ℕ). IsAfter log k read after) end says)
          ∙ ap (λ (k : ℕ). next_place (place log) (entries_at k behind ++ runs)) (sym end)
          ∙ ap (λ (l : List ℕ). next_place (place log) (entries_at (at + size) (l ++ behind) ++ runs)) (sym (nil_from_length rest (omega (arith, none))))
    ] in
    subst (λ (l : List Entry). IsStep (place log) l (Group (lsn_at_place at) group (lsn_at_place after))) (sym split) (record { at_is = refl; found_is = refl; after_is = ap lsn_at_place next })

-- a void rest is told
pub rest_told : (log : LogValue) (files : LogFiles) (entries : List Entry) (last : List Piece) (bytes : List ℕ) (at end count after : ℕ) → length log.page ≡ 8192 → IsLeft log files end last → EndsRun last → end ≡ at + length bytes → at < end
    → entries ≡ entries_at at (bytes ++ run_rest last) ++ entries_of_runs (page_behind end) last → read_group bytes ≡ None → end ≤ place log → count ≡ length bytes → IsAfter log end end after
    → IsStep (place log) entries (Rest (lsn_at_place at) count (lsn_at_place after))
rest_told log files entries last bytes at end count after long is ends end_is some are none within count_is says =
    let runs : List Entry = entries_of_runs (page_behind end) last in
    let here : Entry = record { at = at; found = Void (length bytes) } in
    let nothing : run_rest last ≡ [] = rest_nothing last ends in
    let split : entries ≡ here ∷ runs =
    are ∙ ap (λ (l : List ℕ). entries_at at (bytes ++ l) ++ runs) nothing ∙ ap (λ (l : List ℕ). entries_at at l ++ runs) (append-nil bytes) ∙ ap (λ (l : List Entry). l ++ runs) (at_void at bytes none ∙ void_is bytes (omega (arith, end_is, some))) in
    let next : after ≡ next_place (place log) runs =
    after_read log files end after last (seen_used log files long) is within says ∙ ap (next_place (place log)) (over_end end last nothing) in
    subst (λ (l : List Entry). IsStep (place log) l (Rest (lsn_at_place at) count (lsn_at_place after))) (sym split) (record { at_is = refl; found_is = ap Void (sym count_is); after_is = ap lsn_at_place next })
  where
    void_is : (bytes : List ℕ) → 1 ≤ length bytes → void_rest at bytes ≡ record { at = at; found = Void (length bytes) } ∷ []
    void_is [] some = absurd (omega (arith, some))
    void_is (b ∷ bytes) some = refl

-- ---- from a place on

pub readable_from : (log : LogValue) (files : LogFiles) (base : ℕ) (front : List Piece) → IsReadable log files base front → IsFrom (seen log files) (end_page log) base front
readable_from log files base front is = record { based = is.based; stand = is.stand; end_is = is.end }

pub from_readable : (log : LogValue) (files : LogFiles) (base : ℕ) (front : List Piece) → IsFrom (seen log files) (end_page log) base front → IsReadable log files base front
from_readable log files base front is = record { based = is.based; stand = is.stand; end = is.end_is }

-- Each thing that stands in the log is a base from which it can be read.
pub record ReadableFrom (log : LogValue) (files : LogFiles) (entry : Entry) (more : List Entry) : Type 0 where
  pub front : List Piece
  pub readable : IsReadable log files entry.at front
  pub entries_are : entry ∷ more ≡ entries_from entry.at front

pub readable_at : (log : LogValue) (files : LogFiles) (base : ℕ) (front : List Piece) (before : List Entry) (entry : Entry) (more : List Entry) → length log.page ≡ 8192 → IsReadable log files base front
    → entries_from base front ≡ before ++ entry ∷ more → ReadableFrom log files entry more
readable_at log files base front before entry more long is e =
    let there = from_entry (seen log files) (seen_used log files long) before (end_page log) base front entry more (readable_from log files base front is) e in
    record { front = there.front; readable = from_readable log files entry.at there.front there.from; entries_are = there.entries_are }

-- a place in the log's front stands on a page
pub record IsOnPage (log : LogValue) (files : LogFiles) (place' : ℕ) (entries : List Entry) : Type 0 where
  pub piece : Piece
  pub rest : List Piece
  pub stands : StandsIn log files place' entries piece rest

on_page : (log : LogValue) (files : LogFiles) (base : ℕ) (p : Piece) (ps : List Piece) → length log.page ≡ 8192 → IsReadable log files base (p ∷ ps) → IsOnPage log files base (entries_from base (p ∷ ps))
unfolding entries_from
on_page log files base p ps long is =
    let n : ℕ = base / 8176 in
    let here : seen log files n ≡ Some p = (next_is (seen log files) n true p is.stand.0).0 in
    let some = seen_used log files long n p here in
    let based : base % 8176 < length p.1 = is.based in
    record {
      piece = p;
      rest = ps;
      stands = record {
        piece_is = here;
        inside = based;
        left = left_behind log files n true p ps is.stand is.end some.0 some.1 (λ at. (length-filled log p long (sym (seen_last log files n at) ∙ here)).1);
        entries_are = ap (λ (l : List ℕ). entries_at base l ++ entries_of_runs (n + 1) ps) (drop-append-le (base % 8176) p.1 (run_rest ps) (omega (arith, based)));
      };
    }

pub stands_in : (log : LogValue) (files : LogFiles) (place' : ℕ) (before : List Entry) (entry : Entry) (more : List Entry) → length log.page ≡ 8192 → StandsAt log files place' before (entry ∷ more) → IsOnPage log files place' (entry ∷ more)
stands_in log files place' before entry more long is =
    let there = readable_at log files is.base is.front before entry more long is.readable is.entries in
    let at : entry.at ≡ place' = sym is.here in
    by_front there.front (subst (λ (k : ℕ). IsReadable log files k there.front) at there.readable) (there.entries_are ∙ ap (λ (k : ℕ). entries_from k there.front) at)
  where
    by_front : (front : List Piece) → IsReadable log files place' front → entry ∷ more ≡ entries_from place' front → IsOnPage log files place' (entry ∷ more)
    by_front [] readable e = absurd (let f : entry ∷ more ≡ [] = e ∙ nothing_from place' in (cc))
    by_front (p ∷ ps) readable e = subst (IsOnPage log files place') (sym e) (on_page log files place' p ps long readable)

-- where nothing stands any more the log ends
pub stands_end : (log : LogValue) (files : LogFiles) (place' : ℕ) (before : List Entry) → StandsAt log files place' before [] → place' ≡ place log
stands_end log files place' before is = is.here

-- what stands at a place stands before the log's end
pub stands_low : (log : LogValue) (files : LogFiles) (place' : ℕ) (entries : List Entry) → length log.page ≡ 8192 → IsOnPage log files place' entries → place' < place log
stands_low log files place' entries long is =
    let n : ℕ = place' / 8176 in
    let fits = seen_used log files long n is.piece is.stands.piece_is in
    let inside : place' % 8176 < length is.piece.1 = is.stands.inside in
    elim (cases_lt n log.number) [
      | inl below ↦ omega (arith, below, inside, fits)
      | inr from ↦ elim (cases_lt log.number n) [
        | inl above ↦ absurd (let f : None ≡ Some is.piece = sym (seen_above log files n above) ∙ is.stands.piece_is in (cc))
        | inr upto ↦
            let at : n ≡ log.number = omega (arith, from, upto) in
            let len = length-filled log is.piece long (sym (seen_last log files n at) ∙ is.stands.piece_is) in
            omega (arith, at, len, inside)
      ]
    ]

-- ---- bytes of more than one page

-- what stands at a place, with more of its run read
pub entries_on : (log : LogValue) (files : LogFiles) (at read now : ℕ) (rest last : List Piece) (bytes more : List ℕ) (entries : List Entry) → ReadsOn log files read now rest last more
    → entries ≡ entries_at at (bytes ++ run_rest rest) ++ entries_of_runs (page_behind read) rest → entries ≡ entries_at at ((bytes ++ more) ++ run_rest last) ++ entries_of_runs (page_behind now) last
entries_on log files at read now rest last bytes more entries on are =
    are ∙ ap (λ (l : List ℕ). entries_at at (bytes ++ l) ++ entries_of_runs (page_behind read) rest) on.bytes_are
    ∙ ap (λ (l : List ℕ). entries_at at l ++ entries_of_runs (page_behind read) rest) (sym (append_assoc bytes more (run_rest last)))
    ∙ ap (λ (l : List Entry). entries_at at ((bytes ++ more) ++ run_rest last) ++ l) on.runs

-- no group stands in front of a run where none stands in front of enough bytes of it, or of all
pub none_on : (bytes more : List ℕ) (last end : List Piece) → (are_enough bytes ≡ true) ⊎ EndsRun last → run_rest last ≡ more ++ run_rest end → read_group bytes ≡ None → read_group (bytes ++ more) ≡ None
none_on bytes more last end (inl enough) e none = none_more bytes more enough none
none_on bytes more last end (inr ends) e none =
    let size : 0 ≡ length more + length (run_rest end) = ap length (sym (rest_nothing last ends) ∙ e) ∙ length-append more (run_rest end) in
    let nothing : more ≡ [] = nil_from_length more (omega (arith, size)) in
    ap (λ (l : List ℕ). read_group (bytes ++ l)) nothing ∙ ap read_group (append-nil bytes) ∙ none

-- A run of which more was read, from a place on.
pub record Across (log : LogValue) (files : LogFiles) (at now : ℕ) (last : List Piece) (run : List ℕ) (entries : List Entry) : Type 0 where
  pub left : IsLeft log files now last
  pub now_is : now ≡ at + length run
  pub entries_are : entries ≡ entries_at at (run ++ run_rest last) ++ entries_of_runs (page_behind now) last

pub across : (log : LogValue) (files : LogFiles) (at read now : ℕ) (rest last : List Piece) (bytes more run : List ℕ) (entries : List Entry) → read ≡ at + length bytes → ReadsOn log files read now rest last more → run ≡ bytes ++ more
    → entries ≡ entries_at at (bytes ++ run_rest rest) ++ entries_of_runs (page_behind read) rest → Across log files at now last run entries
across log files at read now rest last bytes more run entries read_is on run_is are = record {
  left = on.left;
  now_is = omega (arith, read_is, on.place_is, ap length run_is, length-append bytes more);
  entries_are = entries_on log files at read now rest last bytes more entries on are ∙ ap (λ (l : List ℕ). entries_at at (l ++ run_rest last) ++ entries_of_runs (page_behind now) last) (sym run_is);
}

-- the bytes from a place on in its page
pub on_spot : (log : LogValue) (files : LogFiles) (at read : ℕ) (entries : List Entry) (piece : Piece) (rest : List Piece) (text bytes : List ℕ) → StandsIn log files at entries piece rest → text ≡ piece.1 → length text ≤ 8176
    → bytes ≡ take (length text - at % 8176) (drop (at % 8176) text) → read ≡ at + length bytes → Across log files at read rest bytes entries
on_spot log files at read entries piece rest text bytes is text_is fits taken read_is =
    let bytes_are : bytes ≡ drop (at % 8176) text = taken ∙ take_rest text (at % 8176) in
    let n : ℕ = at / 8176 in
    let inside : at % 8176 < length piece.1 = is.inside in
    let size : length piece.1 ≡ length text = ap length (sym text_is) in
    let end : 8176 * n + length piece.1 ≡ read = omega (arith, inside, size, read_is, ap length bytes_are, length-drop (at % 8176) text) in
    let page : n + 1 ≡ page_behind read = sym (read_page n (length piece.1) (omega (arith, inside)) (omega (arith, size, fits))).0 ∙ ap page_behind end in
    record {
      left = subst (λ (k : ℕ). IsLeft log files k rest) end is.left;
      now_is = read_is;
      entries_are = is.entries_are ∙ ap (λ (l : List ℕ). entries_at at (drop (at % 8176) l ++ run_rest rest) ++ entries_of_runs (n + 1) rest) (sym text_is)
          ∙ ap (λ (l : List ℕ). entries_at at (l ++ run_rest rest) ++ entries_of_runs (n + 1) rest) (sym bytes_are)
          ∙ ap (λ (k : ℕ). entries_at at (bytes ++ run_rest rest) ++ entries_of_runs k rest) page;
    }

-- ---- a step at a place

-- what stands before the log's end stands on a page
pub stands_on : (log : LogValue) (files : LogFiles) (at here : ℕ) (before more : List Entry) → length log.page ≡ 8192 → StandsAt log files at before more → here ≡ at → here < place log → IsOnPage log files here more
stands_on log files at here before [] long is same low = absurd (omega (arith, stands_end log files at before is, same, low))
stands_on log files at here before (entry ∷ more) long is same low = subst (λ (k : ℕ). IsOnPage log files k (entry ∷ more)) (sym same) (stands_in log files at before entry more long is)

-- at the log's end nothing stands
pub end_told : (log : LogValue) (files : LogFiles) (at : ℕ) (before more : List Entry) → length log.page ≡ 8192 → StandsAt log files at before more → place log ≤ at → IsStep (place log) more End
end_told log files at before [] long is end = tt
end_told log files at before (entry ∷ more) long is end = absurd (omega (arith, stands_low log files at (entry ∷ more) long (stands_in log files at before entry more long is), end))

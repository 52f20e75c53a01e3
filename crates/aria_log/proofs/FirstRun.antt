-- The first run that begins in a page of the log or behind it.
use Rattle.std.proofs.Common.{◌≡◌, inl, inr, ℕ, ◌+◌, ◌*◌, ◌/◌, ◌<◌, ◌≤◌, Bool, true, false, Option, None, Some, List, [], ◌∷◌, length, refl, sym, ◌∙◌, ap, subst, arith}
use Rattle.std.proofs.lemmas.Bool.{cases_lt}
use Rattle.std.proofs.lemmas.Option.{same_Some}
use Rattle.aria_log.specs.declared.log.Log.{Log as LogValue}
use Rattle.aria_log.specs.Pieces.{Piece, LogFiles, Stand, is_full}
use Rattle.aria_log.specs.Log.{place}
use Rattle.aria_log.specs.Reading.{Entry, entries_of_runs, next_place, seen, IsReadable, StandsAt}
use Rattle.aria_log.specs.Stepping.{end_page, RunsFrom}
use Rattle.aria_log.proofs.Splitting.{next_is, page_from, page_entries, no_run, no_runs_left, nothing_from, end_from}
use Rattle.aria_log.proofs.RunReads.{seen_used, seen_above, seen_last, length-filled, end_page_is}
use Rattle.aria_log.proofs.Steps.{next_run, from_readable}

-- from the page of a base on
pub runs_start : (log : LogValue) (files : LogFiles) (n : ℕ) (front : List Piece) → IsReadable log files (8176 * n) front → RunsFrom log files (entries_of_runs n front) n
runs_start log files n front is =
    let page : (8176 * n) / 8176 ≡ n = omega arith in
    record { may = true; rest = front; stand = subst (λ (m : ℕ). Stand (seen log files) m true front) page is.stand; end = omega (arith, page, is.end); entries_are = refl }

-- a page before the log's end holds something
pub runs_page : (log : LogValue) (files : LogFiles) (entries : List Entry) (number : ℕ) → RunsFrom log files entries number → 8176 * number < place log → (piece : Piece) × (seen log files number ≡ Some piece)
runs_page log files entries number is low = by_rest is.rest is.stand is.end
  where
    by_rest : (rest : List Piece) → Stand (seen log files) number is.may rest → number + length rest ≡ end_page log → (piece : Piece) × (seen log files number ≡ Some piece)
    by_rest [] stand end = absurd (elim (cases_lt 0 log.used) [
      | inl some ↦ let e = (end_page_is log).1 some in omega (arith, e, end, low)
      | inr none ↦ let e = (end_page_is log).0 (omega (arith, none)) in omega (arith, e, end, low, none)
    ])
    by_rest (p ∷ ps) stand end = (p, (next_is (seen log files) number is.may p stand.0).0)

-- no page from the log's end on holds anything
no_page : (log : LogValue) (files : LogFiles) (n : ℕ) (p : Piece) → length log.page ≡ 8192 → n ≡ end_page log → seen log files n ≡ Some p → ⊥
no_page log files n p long at here = elim (cases_lt 0 log.used) [
  | inl some ↦ let e = (end_page_is log).1 some in let f : None ≡ Some p = sym (seen_above log files n (omega (arith, e, at))) ∙ here in cc
  | inr none ↦
      let e = (end_page_is log).0 (omega (arith, none)) in
      let used = length-filled log p long (sym (seen_last log files n (omega (arith, e, at))) ∙ here) in omega (arith, used, none)
]

-- where a page begins a run, that is the first
pub run_found : (log : LogValue) (files : LogFiles) (entries : List Entry) (number : ℕ) (p : Piece) → length log.page ≡ 8192 → RunsFrom log files entries number → seen log files number ≡ Some p → p.0 ≡ true → StandsAt log files (8176 * number) [] entries
run_found log files entries number p long is here begins = by_rest is.rest is.stand is.end is.entries_are
  where
    by_rest : (rest : List Piece) → Stand (seen log files) number is.may rest → number + length rest ≡ end_page log → entries ≡ entries_of_runs number rest → StandsAt log files (8176 * number) [] entries
    by_rest [] stand end are = absurd (no_page log files number p long (omega (arith, end)) here)
    by_rest (q ∷ qs) stand end are =
        let same : q ≡ p = same_Some q p (sym (next_is (seen log files) number is.may q stand.0).0 ∙ here) in
        let starts : q.0 ≡ true = ap (λ (x : Piece). x.0) same ∙ begins in
        let used = seen_used log files long in
        record {
          base = 8176 * number;
          front = q ∷ qs;
          readable = from_readable log files (8176 * number) (q ∷ qs) (page_from (seen log files) used (end_page log) number is.may q qs stand end);
          entries = page_entries number q qs starts ∙ sym are;
          here = sym (ap (next_place (place log)) are ∙ next_run (place log) number q qs starts (used number q (next_is (seen log files) number is.may q stand.0).0).0);
        }

-- where it doesn't, the first is behind
pub run_passed : (log : LogValue) (files : LogFiles) (entries : List Entry) (number : ℕ) (p : Piece) → length log.page ≡ 8192 → RunsFrom log files entries number → seen log files number ≡ Some p → p.0 ≡ false → RunsFrom log files entries (number + 1)
run_passed log files entries number p long is here goes = by_rest is.rest is.stand is.end is.entries_are
  where
    by_rest : (rest : List Piece) → Stand (seen log files) number is.may rest → number + length rest ≡ end_page log → entries ≡ entries_of_runs number rest → RunsFrom log files entries (number + 1)
    by_rest [] stand end are = absurd (no_page log files number p long (omega (arith, end)) here)
    by_rest (q ∷ qs) stand end are =
        let same : q ≡ p = same_Some q p (sym (next_is (seen log files) number is.may q stand.0).0 ∙ here) in
        record { may = is_full q; rest = qs; stand = stand.1; end = omega (arith, end); entries_are = are ∙ no_run number q qs (ap (λ (x : Piece). x.0) same ∙ goes) }

-- behind the log's last page there is none
pub run_none : (log : LogValue) (files : LogFiles) (entries : List Entry) (number : ℕ) → RunsFrom log files entries number → place log ≤ 8176 * number → StandsAt log files (place log) [] entries
run_none log files entries number is end = by_rest is.rest is.stand is.end is.entries_are
  where
    by_rest : (rest : List Piece) → Stand (seen log files) number is.may rest → number + length rest ≡ end_page log → entries ≡ entries_of_runs number rest → StandsAt log files (place log) [] entries
    by_rest [] stand at are =
        let none : entries ≡ [] = are ∙ no_runs_left number in
        record {
          base = 8176 * end_page log;
          front = [];
          readable = from_readable log files (8176 * end_page log) [] (end_from (seen log files) (end_page log));
          entries = nothing_from (8176 * end_page log) ∙ sym none;
          here = sym (ap (next_place (place log)) none);
        }
    by_rest (p ∷ ps) stand at are = absurd (elim (cases_lt 0 log.used) [
      | inl some ↦ let e = (end_page_is log).1 some in omega (arith, e, at, end, some)
      | inr none ↦ let e = (end_page_is log).0 (omega (arith, none)) in omega (arith, e, at, end, none)
    ])

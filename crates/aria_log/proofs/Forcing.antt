-- The groups that are forced stand before the first page of the run that is written, and the others don't.
use Rattle.std.proofs.Common.{◌≡◌, ◌∙◌, ℕ, ◌+◌, ◌*◌, ◌/◌, ◌<◌, ◌≤◌, Bool, true, false, nat_lt, List, [], ◌∷◌, ◌++◌, length, take, drop, refl, sym, ap, subst, arith, inl, inr}
use Rattle.std.specs.Prelude.{◌⊎◌, All}
use Rattle.std.proofs.lemmas.Bool.{cases_lt}
use Rattle.std.proofs.lemmas.Bool.Decides.{nat_tests}
use Rattle.std.proofs.lemmas.List.Elements.{All-nil, All-cons}
use Rattle.std.proofs.Math.Seq.{drop-append_seam, take-append_seam}
use Rattle.aria_page.specs.declared.lsn.Lsn.{Lsn}
use Rattle.aria_page.specs.Lsn.{lsn_number}
use Rattle.aria_host.specs.State.{State}
use Rattle.aria_record.specs.Logged.{Logged, lsn_at_place}
use Rattle.aria_log.specs.declared.log.Log.{Log as LogValue}
use Rattle.aria_log.specs.Pieces.{log_files}
use Rattle.aria_log.specs.Finding.{means_none}
use Rattle.aria_log.specs.Forced.{TellsForced}
use Rattle.aria_log.specs.Groups.{placed, groups_bytes, groups_from}
use Rattle.aria_log.specs.Log.{IsLog}
use Rattle.aria_log.proofs.Places.{AreRising, front_rising, placed_rising, number_rises}

abbrev pub number_of : ℕ → ℕ
number_of place = lsn_number (lsn_at_place place)

rises : (a b : ℕ) → a < b → number_of a < number_of b
rises a b less = let more = number_rises a b less in omega (arith, more)

rises_not : (a b : ℕ) → a ≤ b → number_of a ≤ number_of b
rises_not a b le = elim (cases_lt a b) [
  | inl less ↦ let more = rises a b less in omega (arith, more)
  | inr same ↦ let is : a ≡ b = omega (arith, le, same) in subst (λ (k : ℕ). number_of a ≤ number_of k) is (omega arith)
]

up_to : (low : ℕ) (groups : List Logged) (end : ℕ) → AreRising low groups end → low ≤ end
up_to low [] end is = is
up_to low (g ∷ groups) end is = let le = up_to (g.at + 1) groups end is.1 in omega (arith, is.0, le)

-- groups up to a place have lower numbers than it
earlier : (n low : ℕ) (groups : List Logged) (end : ℕ) → number_of end ≤ n → AreRising low groups end → All (λ g. number_of g.at < n) groups
earlier n low [] end le is = All-nil (λ g. number_of g.at < n)
earlier n low (g ∷ groups) end le is =
    let here = up_to (g.at + 1) groups end is.1 in
    let less = rises g.at end (omega (arith, here)) in
    All-cons (λ g. number_of g.at < n) g groups (omega (arith, less, le)) (earlier n (g.at + 1) groups end le is.1)

-- and those from it on don't
later : (n low : ℕ) (groups : List Logged) (end : ℕ) → n < number_of low → AreRising low groups end → All (λ g. n < number_of g.at) groups
later n low [] end less is = All-nil (λ g. n < number_of g.at)
later n low (g ∷ groups) end less is =
    let more = rises_not low g.at is.0 in
    let here : n < number_of g.at = omega (arith, less, more) in
    let next = rises_not g.at (g.at + 1) (omega arith) in
    All-cons (λ g. n < number_of g.at) g groups here (later n (g.at + 1) groups end (omega (arith, here, next)) is.1)

none_number : (lsn : Lsn) → means_none lsn ≡ true → lsn_number lsn ≡ 0
none_number lsn none = grind (arith, nat_tests)

some_number : (lsn : Lsn) → means_none lsn ≡ false → 1 ≤ lsn_number lsn
some_number lsn some = grind (arith, nat_tests)

module _ (log : LogValue) (s : State) (base : ℕ) (groups : List Logged) (forced : ℕ) (is : IsLog log s base groups forced) (lsn : Lsn) where
  abbrev front : List Logged
  front = groups_from base is.whole

  abbrev behind : List Logged
  behind = placed (8176 * (base / 8176 + length is.whole)) is.fresh

  forced_are : take forced groups ≡ front
  forced_are = ap (λ (l : List Logged). take forced l) is.groups_are ∙ ap (λ (k : ℕ). take k (front ++ behind)) is.forced_are ∙ take-append_seam front behind

  others_are : drop forced groups ≡ behind
  others_are = ap (λ (l : List Logged). drop forced l) is.groups_are ∙ ap (λ (k : ℕ). drop k (front ++ behind)) is.forced_are ∙ drop-append_seam front behind

  first_is : 8176 * (base / 8176 + length is.whole) ≡ log.first * 8176
  first_is = let e = is.at.first in omega (arith, e)

  -- none is the number of no group
  pub tells_none : means_none lsn ≡ true → TellsForced lsn groups forced false
  tells_none none = inl (none_number lsn none)

  -- a group is forced where its number is below that of the run's first page
  pub tells_before : (b : Bool) → means_none lsn ≡ false → b ≡ nat_lt (lsn_number lsn) (number_of (log.first * 8176)) → TellsForced lsn groups forced b
  tells_before true some less = (
    some_number lsn some,
    subst (All (λ g. lsn_number lsn < number_of g.at)) (sym others_are)
        (later (lsn_number lsn) (8176 * (base / 8176 + length is.whole)) behind _ (subst (λ (k : ℕ). lsn_number lsn < number_of k) (sym first_is) (grind (arith, nat_tests))) (placed_rising (8176 * (base / 8176 + length is.whole)) is.fresh)),
  )
  tells_before false some not = inr (subst (All (λ g. number_of g.at < lsn_number lsn)) (sym forced_are)
      (earlier (lsn_number lsn) base front (8176 * (base / 8176 + length is.whole)) (subst (λ (k : ℕ). number_of k ≤ lsn_number lsn) (sym first_is) (grind (arith, nat_tests)))
      (front_rising (log_files s.folder) base is.whole is.based is.at.writing.reads.stand)))

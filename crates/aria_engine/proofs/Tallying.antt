-- The statements that were counted, and the exceptions that they met.
use Rattle.std.proofs.Common.{◌≡◌, ℕ, ◌+◌, ◌<◌, ◌≤◌, List, [], ◌++◌, length, refl, sym, ap, ◌∙◌, arith}
use Rattle.std.proofs.lemmas.List.{append-nil, append_assoc, length-append}
use Rattle.aria_model.specs.declared.refusal.Met.{Met}
use Rattle.aria_model.specs.Script.{Exceptions, statements}
use Rattle.aria_model.proofs.Scripts.{from_nth, statements-append}
use Rattle.aria_engine.specs.declared.store.Store.{Store}
use Rattle.aria_engine.specs.declared.tally.Tally.{Tally}
use Rattle.aria_model.specs.Journal.{met_at}
use Rattle.aria_engine.specs.Store.{count_of, met_of}
use Rattle.aria_engine.specs.Done.{AreMet, Counts}

-- exceptions that agree with what was met in the end agree with what was met before
pub are_met_front : (exceptions : Exceptions) (since : ℕ) (mid now : Store) (added : List Met) → Counts mid now added → AreMet exceptions since now → AreMet exceptions since mid
are_met_front exceptions since mid now added counts met k low =
    let below : since + k < count_of now = omega (arith, low, counts.later) in met k below ∙ counts.kept (since + k) low

-- and so do those of the statements behind n more
pub are_met_behind : (exceptions : Exceptions) (since n : ℕ) (mid now : Store) → count_of mid ≡ since + n → AreMet exceptions since now → AreMet (from_nth exceptions n) (count_of mid) now
are_met_behind exceptions since n mid now is met k low =
    let same : since + (n + k) ≡ count_of mid + k = omega (arith, is) in
    let below : since + (n + k) < count_of now = omega (arith, same, low) in
    met (n + k) below ∙ ap (met_of now) same

pub length-statements : (a b : List (List ℕ)) → length (statements (a ++ b)) ≡ length (statements a) + length (statements b)
length-statements a b = ap length (statements-append a b) ∙ length-append (statements a) (statements b)

-- no statement was counted
pub counts_same : (before now : Store) → now.tally ≡ before.tally → Counts before now []
counts_same before now same = record {
  later = let e : count_of now ≡ count_of before = ap (λ (t : Tally). t.count) same in omega (arith, e);
  kept = λ k low. ap (λ (t : Tally). met_at t.met k) same;
  met_is = ap (λ (t : Tally). t.met) same ∙ sym (append-nil before.tally.met);
}

pub counts_more : (st0 st1 st2 : Store) (a b : List Met) → Counts st0 st1 a → Counts st1 st2 b → Counts st0 st2 (a ++ b)
counts_more st0 st1 st2 a b first then = record {
  later = omega (arith, first.later, then.later);
  kept = λ k low. let below : k < count_of st1 = omega (arith, low, first.later) in then.kept k below ∙ first.kept k low;
  met_is = then.met_is ∙ ap (λ (ms : List Met). ms ++ b) first.met_is ∙ append_assoc st0.tally.met a b;
}

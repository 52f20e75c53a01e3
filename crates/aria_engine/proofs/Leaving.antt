-- What a crash leaves of lines that are done one after another.
use Rattle.std.proofs.Common.{◌≡◌, ℕ, ◌+◌, ◌≤◌, min, List, ◌++◌, length, take, drop, sym, ap, subst, ◌∙◌, arith}
use Rattle.std.specs.List.{flat_map}
use Rattle.std.proofs.lemmas.Grind.{flat_map-append}
use Rattle.std.proofs.lemmas.List.{append-nil, append_assoc, take-append-drop, take-append-le, take_min}
use Rattle.std.proofs.Math.Seq.{take-append-add, take-length}
use Rattle.aria_host.specs.State.{Folder}
use Rattle.aria_model.specs.World.{World}
use Rattle.aria_model.specs.Script.{Exceptions, statements, outcomes, outcome_text, world_after, after, told, told_first, acknowledged}
use Rattle.aria_model.proofs.Scripts.{from_nth, statements-append, outcomes-append, world_after-append}
use Rattle.aria_model.proofs.Acknowledged.{acknowledged-append, told_ends}
use Rattle.aria_engine.specs.Holds.{Holds}
use Rattle.aria_engine.specs.Done.{Leaves}
use Rattle.aria_engine.proofs.Tallying.{length-statements}

-- what the first statements tell is the same with others behind them
pub first_front : (w : World) (a b : List (List ℕ)) (xs : Exceptions) (n : ℕ) → n ≤ length (statements a) → told_first w a xs n ≡ told_first w (a ++ b) xs n
first_front w a b xs n low =
    ap (λ (ls : List (List ℕ)). flat_map outcome_text (outcomes w ls xs)) (sym (take-append-le n (statements a) (statements b) low) ∙ ap (take n) (sym (statements-append a b)))

-- and behind all that lines tell comes what the first of the others tell
pub first_behind : (w w1 : World) (a b : List (List ℕ)) (xs : Exceptions) (n : ℕ) → w1 ≡ world_after w (statements a) xs
    → told w a xs ++ told_first w1 b (from_nth xs (length (statements a))) n ≡ told_first w (a ++ b) xs (length (statements a) + n)
first_behind w w1 a b xs n is =
    let later = from_nth xs (length (statements a)) in
    ap (λ (v : World). told w a xs ++ told_first v b later n) is
    ∙ sym (flat_map-append outcome_text (outcomes w (statements a) xs) (outcomes (world_after w (statements a) xs) (take n (statements b)) later))
    ∙ ap (flat_map outcome_text) (sym (outcomes-append w (statements a) (take n (statements b)) xs))
    ∙ ap (λ (ls : List (List ℕ)). flat_map outcome_text (outcomes w ls xs)) (sym (take-append-add (statements a) (statements b) n) ∙ ap (take (length (statements a) + n)) (sym (statements-append a b)))

-- a part of it, behind all that lines tell
pub part_behind : (w w1 : World) (a b : List (List ℕ)) (xs : Exceptions) (k n : ℕ) → w1 ≡ world_after w (statements a) xs
    → told w a xs ++ take n (told_first w1 b (from_nth xs (length (statements a))) k) ≡ take (length (told w a xs) + n) (told_first w (a ++ b) xs (length (statements a) + k))
part_behind w w1 a b xs k n is =
    sym (take-append-add (told w a xs) (told_first w1 b (from_nth xs (length (statements a))) k) n) ∙ ap (take (length (told w a xs) + n)) (first_behind w w1 a b xs k is)

-- what all statements tell is what the lines tell
pub first_all : (w : World) (a : List (List ℕ)) (xs : Exceptions) → told_first w a xs (length (statements a)) ≡ told w a xs
first_all w a xs = ap (λ (ls : List (List ℕ)). flat_map outcome_text (outcomes w ls xs)) (take-length (statements a))

-- a part of what the first statements tell is a part of what all tell
pub part_of_first : (w : World) (a : List (List ℕ)) (xs : Exceptions) (k n : ℕ) → (m : ℕ) × (take n (told_first w a xs k) ≡ take m (told w a xs))
part_of_first w a xs k n =
    let first = told_first w a xs k in
    let behind = flat_map outcome_text (outcomes (world_after w (take k (statements a)) xs) (drop k (statements a)) (from_nth xs (length (take k (statements a))))) in
    let all : told w a xs ≡ first ++ behind =
    ap (λ (ls : List (List ℕ)). flat_map outcome_text (outcomes w ls xs)) (sym (take-append-drop k (statements a)))
    ∙ ap (flat_map outcome_text) (outcomes-append w (take k (statements a)) (drop k (statements a)) xs)
    ∙ flat_map-append outcome_text (outcomes w (take k (statements a)) xs) (outcomes (world_after w (take k (statements a)) xs) (drop k (statements a)) (from_nth xs (length (take k (statements a))))) in
    let low : min n (length first) ≤ length first = omega arith in
    (min n (length first), sym (take_min n first) ∙ sym (take-append-le (min n (length first)) first behind low) ∙ ap (take (min n (length first))) (sym all))

after_front : (w : World) (a b : List (List ℕ)) (xs : Exceptions) (n : ℕ) → n ≤ length (statements a) → after w a xs n ≡ after w (a ++ b) xs n
after_front w a b xs n low =
    ap (λ (ls : List (List ℕ)). world_after w ls xs) (sym (take-append-le n (statements a) (statements b) low) ∙ ap (take n) (sym (statements-append a b)))

after_behind : (w w1 : World) (a b : List (List ℕ)) (xs : Exceptions) (n : ℕ) → w1 ≡ world_after w (statements a) xs
    → after w1 b (from_nth xs (length (statements a))) n ≡ after w (a ++ b) xs (length (statements a) + n)
after_behind w w1 a b xs n is =
    ap (λ (v : World). after v b (from_nth xs (length (statements a))) n) is
    ∙ sym (world_after-append w (statements a) (take n (statements b)) xs)
    ∙ ap (λ (ls : List (List ℕ)). world_after w ls xs) (sym (take-append-add (statements a) (statements b) n) ∙ ap (take (length (statements a) + n)) (sym (statements-append a b)))

-- what a crash leaves of lines, it leaves of them and others
pub leaves_front : (w : World) (a b : List (List ℕ)) (xs : Exceptions) (out : List ℕ) (c : Folder) (told_by : List ℕ) → Leaves w a xs out c told_by → Leaves w (a ++ b) xs out c told_by
leaves_front w a b xs out c told_by leaves =
    let same = first_front w a b xs leaves.count leaves.within in
    record {
      count = leaves.count;
      within = omega (arith, leaves.within, length-statements a b);
      part = leaves.part;
      told_is = leaves.told_is ∙ ap (λ (t : List ℕ). out ++ take leaves.part t) same;
      acked = subst (λ (t : List ℕ). acknowledged (take leaves.part t) ≤ leaves.count) same leaves.acked;
      holds = subst (λ (v : World). Holds c v) (after_front w a b xs leaves.count leaves.within) leaves.holds;
    }

-- and what it leaves of the others, behind lines that are done
pub leaves_behind : (w w1 : World) (a b : List (List ℕ)) (xs : Exceptions) (out out1 : List ℕ) (c : Folder) (told_by : List ℕ)
    → w1 ≡ world_after w (statements a) xs → out1 ≡ out ++ told w a xs → acknowledged (told w a xs) ≤ length (statements a)
    → Leaves w1 b (from_nth xs (length (statements a))) out1 c told_by → Leaves w (a ++ b) xs out c told_by
leaves_behind w w1 a b xs out out1 c told_by world_is out_is acked leaves =
    let later = from_nth xs (length (statements a)) in
    let part = take leaves.part (told_first w1 b later leaves.count) in
    let same = part_behind w w1 a b xs leaves.count leaves.part world_is in
    let sum : acknowledged (told w a xs ++ part) ≡ acknowledged (told w a xs) + acknowledged part = acknowledged-append (told w a xs) part (told_ends w a xs) in
    let few : acknowledged (told w a xs ++ part) ≤ length (statements a) + leaves.count = omega (arith, sum, acked, leaves.acked) in
    record {
      count = length (statements a) + leaves.count;
      within = omega (arith, leaves.within, length-statements a b);
      part = length (told w a xs) + leaves.part;
      told_is = leaves.told_is ∙ ap (λ (t : List ℕ). t ++ part) out_is ∙ append_assoc out (told w a xs) part ∙ ap (λ (t : List ℕ). out ++ t) same;
      acked = subst (λ (t : List ℕ). acknowledged t ≤ length (statements a) + leaves.count) same few;
      holds = subst (λ (v : World). Holds c v) (after_behind w w1 a b xs leaves.count world_is) leaves.holds;
    }

-- nothing is done and nothing told
pub leaves_none : (w : World) (lines : List (List ℕ)) (xs : Exceptions) (out : List ℕ) (c : Folder) (told_by : List ℕ) → told_by ≡ out → Holds c w → Leaves w lines xs out c told_by
leaves_none w lines xs out c told_by is holds = record {
  count = 0;
  within = omega arith;
  part = 0;
  told_is = is ∙ sym (append-nil out);
  acked = omega arith;
  holds = holds;
}

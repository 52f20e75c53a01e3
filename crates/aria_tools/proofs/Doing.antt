-- A line that is clipped, and whether a statement was refused.
use Rattle.std.proofs.Common.{◌≡◌, ℕ, zero, suc, ◌+◌, ◌≤◌, Bool, false, ◌||◌, ◌&&◌, nat_le, List, [], ◌∷◌, ◌++◌, length, take, true, cond, Option, Some, None, Result, refl, sym, ap, subst, ◌∙◌, arith}
use Rattle.std.specs.Prelude.{not}
use Rattle.std.specs.List.{flat_map, list_any}
use Rattle.aria_host.specs.State.{Folder, State}
use Rattle.aria_host.proofs.Moments.{weakened}
use Rattle.aria_model.specs.World.{World}
use Rattle.std.proofs.lemmas.List.{length-take}
use Rattle.aria_engine.specs.Holds.{Holds}
use Rattle.aria_model.specs.Script.{Exceptions, statements, after, world_after, outcomes, told, told_first, acknowledged, is_refused, outcome_text}
use Rattle.aria_model.specs.Grammar.{read_line, is_blank_line}
use Rattle.aria_model.specs.Step.{Outcome, answered, step}
use Rattle.aria_model.specs.declared.statement.Statement.{Statement}
use Rattle.aria_model.specs.declared.refusal.Refusal.{Refusal}
use Rattle.aria_model.specs.declared.refusal.Exception.{Exception}
use Rattle.aria_model.specs.declared.refusal.Exception.TheVariants.{Spent}
use Rattle.aria_model.specs.declared.refusal.Met.{Met}
use Rattle.aria_engine.specs.declared.store.Store.{Store}
use Rattle.aria_engine.specs.Store.{tables_of, count_of, pages_of}
use Rattle.aria_engine.specs.Entries.{is_log_spent, due, entry, Meets, MeetsFirst}
use Rattle.aria_engine.specs.Done.{Leaves, Done, DonePart, Does, DoesPart}
use Rattle.aria_tools.specs.Held.{clipped}
use Rattle.aria_tools.proofs.Splitting.{read_line-clipped, is_blank_line-clipped}

-- what outcomes tell, and whether one is a refusal
abbrev text_of : List Outcome → List ℕ
text_of os = flat_map outcome_text os

abbrev refused_of : List Outcome → Bool
refused_of os = list_any (λ (o : Outcome). is_refused o.reply) os

-- the outcomes of one line
abbrev one_outcome : Bool → Outcome → List Outcome
one_outcome blank o = cond (not blank) (o ∷ []) []

abbrev one_world : Bool → World → World → World
one_world blank old new = cond (not blank) new old

outcomes_one : (w : World) (line : List ℕ) (blank : Bool) (xs : Exceptions) → outcomes w (cond (not blank) (line ∷ []) []) xs ≡ one_outcome blank (step w line (xs 0))
outcomes_one w line true xs = refl
outcomes_one w line false xs = refl

world_one : (w : World) (line : List ℕ) (blank : Bool) (xs : Exceptions) → world_after w (cond (not blank) (line ∷ []) []) xs ≡ one_world blank w (step w line (xs 0)).world
world_one w line true xs = refl
world_one w line false xs = refl

outcomes_same : (w : World) (a b : List ℕ) (xs : Exceptions) → is_blank_line a ≡ is_blank_line b → read_line a ≡ read_line b
    → outcomes w (statements (a ∷ [])) xs ≡ outcomes w (statements (b ∷ [])) xs
outcomes_same w a b xs blank read = outcomes_one w a (is_blank_line a) xs ∙ ap (λ (x : Bool). one_outcome x (step w a (xs 0))) blank
    ∙ ap (λ (r : Result (Option Statement) Refusal). one_outcome (is_blank_line b) (answered w r (xs 0))) read ∙ sym (outcomes_one w b (is_blank_line b) xs)

world_same : (w : World) (a b : List ℕ) (xs : Exceptions) → is_blank_line a ≡ is_blank_line b → read_line a ≡ read_line b
    → world_after w (statements (a ∷ [])) xs ≡ world_after w (statements (b ∷ [])) xs
world_same w a b xs blank read = world_one w a (is_blank_line a) xs ∙ ap (λ (x : Bool). one_world x w (step w a (xs 0)).world) blank
    ∙ ap (λ (r : Result (Option Statement) Refusal). one_world (is_blank_line b) w (answered w r (xs 0)).world) read ∙ sym (world_one w b (is_blank_line b) xs)

length_one : (line : List ℕ) (blank : Bool) → length (cond (not blank) (line ∷ []) []) ≡ cond blank 0 1
length_one line true = refl
length_one line false = refl

-- clipped or not, the line is one statement or none
length_same : (line : List ℕ) → length (statements (clipped line ∷ [])) ≡ length (statements (line ∷ []))
length_same line = length_one (clipped line) (is_blank_line (clipped line)) ∙ ap (λ (b : Bool). cond b 0 1) (is_blank_line-clipped line) ∙ sym (length_one line (is_blank_line line))

-- the world after so many of the statements that one line is
abbrev world_part : ℕ → Bool → World → World → World
world_part n true old new = old
world_part zero false old new = old
world_part (suc n) false old new = new

after_one : (w : World) (line : List ℕ) (xs : Exceptions) (blank : Bool) (n : ℕ) → world_after w (take n (cond (not blank) (line ∷ []) [])) xs ≡ world_part n blank w (step w line (xs 0)).world
after_one w line xs true zero = refl
after_one w line xs true (suc n) = refl
after_one w line xs false zero = refl
after_one w line xs false (suc zero) = refl
after_one w line xs false (suc (suc n)) = refl

after_same : (w : World) (line : List ℕ) (xs : Exceptions) (n : ℕ) → after w (clipped line ∷ []) xs n ≡ after w (line ∷ []) xs n
after_same w line xs n = after_one w (clipped line) xs (is_blank_line (clipped line)) n
    ∙ ap (λ (x : Bool). world_part n x w (step w (clipped line) (xs 0)).world) (is_blank_line-clipped line)
    ∙ ap (λ (r : Result (Option Statement) Refusal). world_part n (is_blank_line line) w (answered w r (xs 0)).world) (read_line-clipped line)
    ∙ sym (after_one w line xs (is_blank_line line) n)

-- the outcomes of so many of the statements that one line is
abbrev outcomes_part : ℕ → Bool → Outcome → List Outcome
outcomes_part n true o = []
outcomes_part zero false o = []
outcomes_part (suc n) false o = o ∷ []

first_one : (w : World) (line : List ℕ) (xs : Exceptions) (blank : Bool) (n : ℕ) → outcomes w (take n (cond (not blank) (line ∷ []) [])) xs ≡ outcomes_part n blank (step w line (xs 0))
first_one w line xs true zero = refl
first_one w line xs true (suc n) = refl
first_one w line xs false zero = refl
first_one w line xs false (suc zero) = refl
first_one w line xs false (suc (suc n)) = refl

first_same : (w : World) (line : List ℕ) (xs : Exceptions) (n : ℕ) → told_first w (clipped line ∷ []) xs n ≡ told_first w (line ∷ []) xs n
first_same w line xs n = ap text_of (first_one w (clipped line) xs (is_blank_line (clipped line)) n
    ∙ ap (λ (x : Bool). outcomes_part n x (step w (clipped line) (xs 0))) (is_blank_line-clipped line)
    ∙ ap (λ (r : Result (Option Statement) Refusal). outcomes_part n (is_blank_line line) (answered w r (xs 0))) (read_line-clipped line)
    ∙ sym (first_one w line xs (is_blank_line line) n))

-- what a crash leaves of a clipped line, it leaves of the line
leaves_clipped : (w : World) (line : List ℕ) (xs : Exceptions) (out : List ℕ) (c : Folder) (t : List ℕ) → Leaves w (clipped line ∷ []) xs out c t → Leaves w (line ∷ []) xs out c t
leaves_clipped w line xs out c t leaves =
    let same = first_same w line xs leaves.count in
    record {
      count = leaves.count;
      within = subst (λ (n : ℕ). leaves.count ≤ n) (length_same line) leaves.within;
      part = leaves.part;
      told_is = leaves.told_is ∙ ap (λ (t : List ℕ). out ++ take leaves.part t) same;
      acked = subst (λ (t : List ℕ). acknowledged (take leaves.part t) ≤ leaves.count) same leaves.acked;
      holds = subst (λ (v : World). Holds c v) (after_same w line xs leaves.count) leaves.holds;
    }

-- clipped or not, the line meets the same exceptions
due_same : (pages : ℕ) (w : World) (a b : List ℕ) → read_line a ≡ read_line b → due pages w a ≡ due pages w b
due_same pages w a b read = ap (λ (r : Result (Option Statement) Refusal). cond (nat_le 524000 pages && is_log_spent (answered w r (Some (Spent 1))).reply) (Some (Spent 1)) None) read

meets_same : (nth pages : ℕ) (w : World) (a b : List ℕ) (ms : List Met) (last : ℕ) (left : World) → length a ≤ length b → read_line a ≡ read_line b
    → Meets nth pages w (a ∷ []) ms last left → Meets nth pages w (b ∷ []) ms last left
meets_same nth pages w a b ms last left low read (next, more, rises, within, is, (none, same, world)) = (
  next,
  more,
  rises,
  omega (arith, within, low),
  is ∙ ap (λ (x : Option Exception). entry nth x ++ more) (due_same pages w a b read),
  (none, same, world ∙ (λ i. (answered w (read i) (due_same pages w a b read i)).world)),
)

meets_part : (nth pages : ℕ) (w : World) (a b : List ℕ) (ms : List Met) (last : ℕ) (left : World) (n : ℕ) (blank : Bool) → length a ≤ length b → read_line a ≡ read_line b
    → Meets nth pages w (take n (cond (not blank) (a ∷ []) [])) ms last left → Meets nth pages w (take n (cond (not blank) (b ∷ []) [])) ms last left
meets_part nth pages w a b ms last left zero true low read meets = meets
meets_part nth pages w a b ms last left (suc n) true low read meets = meets
meets_part nth pages w a b ms last left zero false low read meets = meets
meets_part nth pages w a b ms last left (suc zero) false low read meets = meets_same nth pages w a b ms last left low read meets
meets_part nth pages w a b ms last left (suc (suc n)) false low read meets = meets_same nth pages w a b ms last left low read meets

meets_clipped : (nth pages : ℕ) (w : World) (line : List ℕ) (ms : List Met) (last : ℕ) (left : World) (n : ℕ)
    → Meets nth pages w (take n (statements (clipped line ∷ []))) ms last left → Meets nth pages w (take n (statements (line ∷ []))) ms last left
meets_clipped nth pages w line ms last left n meets =
    meets_part nth pages w (clipped line) line ms last left n (is_blank_line line) (omega (arith, length-take 1048577 line)) (read_line-clipped line)
    (subst (λ (blank : Bool). Meets nth pages w (take n (cond (not blank) (clipped line ∷ []) [])) ms last left) (is_blank_line-clipped line) meets)

-- one line is one statement or none
all_one : (l : List ℕ) (blank : Bool) → take 1 (cond (not blank) (l ∷ []) []) ≡ cond (not blank) (l ∷ []) []
all_one l true = refl
all_one l false = refl

meets_whole : (nth pages : ℕ) (w : World) (line : List ℕ) (ms : List Met) (last : ℕ) (left : World)
    → Meets nth pages w (statements (clipped line ∷ [])) ms last left → Meets nth pages w (statements (line ∷ [])) ms last left
meets_whole nth pages w line ms last left meets =
    subst (λ (ls : List (List ℕ)). Meets nth pages w ls ms last left) (all_one line (is_blank_line line))
    (meets_clipped nth pages w line ms last left 1
    (subst (λ (ls : List (List ℕ)). Meets nth pages w ls ms last left) (sym (all_one (clipped line) (is_blank_line (clipped line)))) meets))

meets_first : (nth pages : ℕ) (w : World) (line : List ℕ) (n : ℕ) (ms : List Met)
    → MeetsFirst nth pages w (statements (clipped line ∷ [])) n ms → MeetsFirst nth pages w (statements (line ∷ [])) n ms
meets_first nth pages w line n ms first = record {
  within = subst (λ (k : ℕ). n ≤ k) (length_same line) first.within;
  last = first.last;
  left = first.left;
  meets = meets_clipped nth pages w line ms first.last first.left n first.meets;
}

-- a line may be clipped
done_clipped : (tells : Bool) (xs : Exceptions) (line : List ℕ) (w0 w1 : World) (r0 r1 : Bool) (s0 s1 : State) → Done tells xs (clipped line ∷ []) w0 w1 r0 r1 s0 s1 → Done tells xs (line ∷ []) w0 w1 r0 r1 s0 s1
done_clipped tells xs line w0 w1 r0 r1 s0 s1 done =
    let outs = outcomes_same w0 (clipped line) line xs (is_blank_line-clipped line) (read_line-clipped line) in
    let long = length_same line in
    record {
      world = done.world ∙ world_same w0 (clipped line) line xs (is_blank_line-clipped line) (read_line-clipped line);
      refused = done.refused ∙ ap (λ (os : List Outcome). r0 || refused_of os) outs;
      acked = subst (λ (n : ℕ). acknowledged (told w0 (line ∷ []) xs) ≤ n) long (subst (λ (os : List Outcome). acknowledged (text_of os) ≤ length (statements (clipped line ∷ []))) outs done.acked);
      out = λ h. done.out h ∙ ap (λ (os : List Outcome). s0.out ++ text_of os) outs;
      err = done.err;
      alone = done.alone;
      moments = λ h was. weakened s0 s1 (Leaves w0 (clipped line ∷ []) xs s0.out) (Leaves w0 (line ∷ []) xs s0.out) (done.moments h was) (leaves_clipped w0 line xs s0.out);
    }

done_part_clipped : (tells : Bool) (xs : Exceptions) (line : List ℕ) (k : ℕ) (w : World) (s0 s1 : State) → DonePart tells xs (clipped line ∷ []) k w s0 s1 → DonePart tells xs (line ∷ []) k w s0 s1
done_part_clipped tells xs line k w s0 s1 part = record {
  out = λ h. ((part.out h).0, (part.out h).1 ∙ ap (λ (t : List ℕ). s0.out ++ take (part.out h).0 t) (first_same w line xs k));
  err = part.err;
  moments = λ h was. weakened s0 s1 (Leaves w (clipped line ∷ []) xs s0.out) (Leaves w (line ∷ []) xs s0.out) (part.moments h was) (leaves_clipped w line xs s0.out);
}

pub does_clipped : (tells : Bool) (line : List ℕ) (st0 st1 : Store) (r0 r1 : Bool) (s0 s1 : State) → Does tells (clipped line ∷ []) st0 st1 r0 r1 s0 s1 → Does tells (line ∷ []) st0 st1 r0 r1 s0 s1
does_clipped tells line st0 st1 r0 r1 s0 s1 does = record {
  added = does.added;
  counts = does.counts;
  count = does.count ∙ ap (λ (n : ℕ). count_of st0 + n) (length_same line);
  meets = meets_whole (count_of st0) (pages_of st0) (tables_of st0) line does.added (pages_of st1) (tables_of st1) does.meets;
  all = λ xs met. done_clipped tells xs line (tables_of st0) (tables_of st1) r0 r1 s0 s1 (does.all xs met);
}

pub does_part_clipped : (tells : Bool) (line : List ℕ) (st0 st1 : Store) (s0 s1 : State) → DoesPart tells (clipped line ∷ []) st0 st1 s0 s1 → DoesPart tells (line ∷ []) st0 st1 s0 s1
does_part_clipped tells line st0 st1 s0 s1 part = record {
  added = part.added;
  counts = part.counts;
  answered = part.answered;
  meets = meets_first (count_of st0) (pages_of st0) (tables_of st0) line part.answered part.added part.meets;
  all = λ xs met. done_part_clipped tells xs line part.answered (tables_of st0) s0 s1 (part.all xs met);
}

-- whether an earlier line was refused is kept
pub does_since : (tells : Bool) (lines : List (List ℕ)) (st0 st1 : Store) (was is : Bool) (s0 s1 : State) → Does tells lines st0 st1 false is s0 s1 → Does tells lines st0 st1 was (was || is) s0 s1
does_since tells lines st0 st1 was is s0 s1 does = record {
  added = does.added;
  counts = does.counts;
  count = does.count;
  meets = does.meets;
  all = λ xs met. let done = does.all xs met in record {
    world = done.world;
    refused = ap (λ (r : Bool). was || r) done.refused;
    acked = done.acked;
    out = done.out;
    err = done.err;
    alone = done.alone;
    moments = done.moments;
  };
}

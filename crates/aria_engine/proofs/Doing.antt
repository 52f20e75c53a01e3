-- Lines that are done one after another.
use Rattle.std.proofs.Common.{◌≡◌, ℕ, ◌+◌, ◌≤◌, Bool, ◌||◌, List, [], ◌++◌, length, take, IsTrue, refl, sym, ap, subst, add_assoc, ◌∙◌, arith}
use Rattle.std.proofs.lemmas.List.{append-nil, append_assoc}
use Rattle.std.proofs.Math.Seq.{take-length}
use Rattle.std.proofs.Math.Bool.{or_assoc, or-false}
use Rattle.aria_host.specs.State.{Folder, State}
use Rattle.aria_host.proofs.Moments.{started, joined, weakened}
use Rattle.aria_model.specs.World.{World}
use Rattle.aria_model.specs.Script.{Exceptions, statements, world_after, told, told_first, any_refused, acknowledged}
use Rattle.aria_engine.specs.declared.store.Store.{Store}
use Rattle.aria_engine.specs.Entries.{Meets}
use Rattle.aria_engine.specs.Holds.{Holds, AreLogAlone}
use Rattle.aria_engine.specs.Store.{tables_of, count_of, pages_of}
use Rattle.aria_engine.specs.Done.{Leaves, Done, DonePart, Does, DoesPart}
use Rattle.aria_model.proofs.Scripts.{from_nth, statements-append, told-append, any_refused-append, left_by-append}
use Rattle.aria_model.proofs.Acknowledged.{acknowledged-append, told_ends}
use Rattle.aria_engine.proofs.Tallying.{are_met_front, are_met_behind, counts_same, counts_more, length-statements}
use Rattle.aria_engine.proofs.Meeting.{meets_none, meets_then, meets_all, meets_no_first, meets_front, meets_behind}
use Rattle.aria_engine.proofs.Leaving.{first_front, part_behind, first_all, leaves_front, leaves_behind, leaves_none}

-- Each image now holds the tables of the store, with nothing told since.
abbrev pub HoldsNow : Bool → Store → State → Type 0
HoldsNow tells st s = IsTrue tells → AreLogAlone s → (c : Folder) (t : List ℕ) → s.since s.moment c t → (t ≡ s.out) × Holds c (tables_of st)

-- lines are done, and then others, in which the later exceptions were met
done_more : (tells : Bool) (xs : Exceptions) (a b : List (List ℕ)) (w0 w1 w2 : World) (r0 r1 r2 : Bool) (s0 s1 s2 : State)
    → Done tells xs a w0 w1 r0 r1 s0 s1 → Done tells (from_nth xs (length (statements a))) b w1 w2 r1 r2 s1 s2 → Done tells xs (a ++ b) w0 w2 r0 r2 s0 s2
done_more tells xs a b w0 w1 w2 r0 r1 r2 s0 s1 s2 first then =
    let later = from_nth xs (length (statements a)) in
    let world = then.world ∙ ap (λ (w : World). world_after w (statements b) later) first.world ∙ sym (left_by-append w0 a b xs) in
    let told_all : told w0 a xs ++ told w1 b later ≡ told w0 (a ++ b) xs = ap (λ (w : World). told w0 a xs ++ told w b later) first.world ∙ sym (told-append w0 a b xs) in
    let sum : acknowledged (told w0 a xs ++ told w1 b later) ≡ acknowledged (told w0 a xs) + acknowledged (told w1 b later) = acknowledged-append (told w0 a xs) (told w1 b later) (told_ends w0 a xs) in
    let few : acknowledged (told w0 a xs ++ told w1 b later) ≤ length (statements (a ++ b)) = omega (arith, sum, first.acked, then.acked, length-statements a b) in
    record {
      world = world;
      refused = then.refused ∙ ap (λ (r : Bool). r || any_refused w1 b later) first.refused
          ∙ ap (λ (w : World). (r0 || any_refused w0 a xs) || any_refused w b later) first.world
          ∙ or_assoc r0 _ _ ∙ ap (λ (r : Bool). r0 || r) (sym (any_refused-append w0 a b xs));
      acked = subst (λ (t : List ℕ). acknowledged t ≤ length (statements (a ++ b))) told_all few;
      out = λ h. then.out h ∙ ap (λ (o : List ℕ). o ++ told w1 b later) (first.out h) ∙ append_assoc s0.out _ _ ∙ ap (λ (o : List ℕ). s0.out ++ o) told_all;
      err = λ h. then.err h ∙ first.err h;
      alone = λ h was. then.alone h (first.alone h was);
      moments = λ h was. joined s0 s1 s2 (Leaves w0 (a ++ b) xs s0.out) (Leaves w1 b later s1.out)
          (weakened s0 s1 (Leaves w0 a xs s0.out) (Leaves w0 (a ++ b) xs s0.out) (first.moments h was) (leaves_front w0 a b xs s0.out))
          (then.moments h (first.alone h was))
          (λ c t. leaves_behind w0 w1 a b xs s0.out s1.out c t first.world (first.out h) first.acked);
    }

done_then_part : (tells : Bool) (xs : Exceptions) (a b : List (List ℕ)) (k : ℕ) (w0 w1 : World) (r0 r1 : Bool) (s0 s1 s2 : State)
    → Done tells xs a w0 w1 r0 r1 s0 s1 → DonePart tells (from_nth xs (length (statements a))) b k w1 s1 s2 → DonePart tells xs (a ++ b) (length (statements a) + k) w0 s0 s2
done_then_part tells xs a b k w0 w1 r0 r1 s0 s1 s2 first part =
    let later = from_nth xs (length (statements a)) in
    record {
      out = λ h. let n = (part.out h).0 in (
        length (told w0 a xs) + n,
        (part.out h).1 ∙ ap (λ (o : List ℕ). o ++ take n (told_first w1 b later k)) (first.out h) ∙ append_assoc s0.out _ _
            ∙ ap (λ (o : List ℕ). s0.out ++ o) (part_behind w0 w1 a b xs k n first.world),
      );
      err = λ h. part.err h ∙ first.err h;
      moments = λ h was. joined s0 s1 s2 (Leaves w0 (a ++ b) xs s0.out) (Leaves w1 b later s1.out)
          (weakened s0 s1 (Leaves w0 a xs s0.out) (Leaves w0 (a ++ b) xs s0.out) (first.moments h was) (leaves_front w0 a b xs s0.out))
          (part.moments h (first.alone h was))
          (λ c t. leaves_behind w0 w1 a b xs s0.out s1.out c t first.world (first.out h) first.acked);
    }

done_part_more : (tells : Bool) (xs : Exceptions) (a b : List (List ℕ)) (k : ℕ) (w : World) (s0 s1 : State) → k ≤ length (statements a) → DonePart tells xs a k w s0 s1 → DonePart tells xs (a ++ b) k w s0 s1
done_part_more tells xs a b k w s0 s1 within part = record {
  out = λ h. let n = (part.out h).0 in (n, (part.out h).1 ∙ ap (λ (o : List ℕ). s0.out ++ take n o) (first_front w a b xs k within));
  err = part.err;
  moments = λ h was. weakened s0 s1 (Leaves w a xs s0.out) (Leaves w (a ++ b) xs s0.out) (part.moments h was) (leaves_front w a b xs s0.out);
}

done_all : (tells : Bool) (xs : Exceptions) (a : List (List ℕ)) (w0 w1 : World) (r0 r1 : Bool) (s0 s1 : State) → Done tells xs a w0 w1 r0 r1 s0 s1 → DonePart tells xs a (length (statements a)) w0 s0 s1
done_all tells xs a w0 w1 r0 r1 s0 s1 done = record {
  out = λ h. let n = length (told w0 a xs) in
      (n, done.out h ∙ ap (λ (o : List ℕ). s0.out ++ o) (sym (take-length (told w0 a xs)) ∙ ap (take n) (sym (first_all w0 a xs))));
  err = done.err;
  moments = done.moments;
}

-- no line is done
pub does_nothing : (tells : Bool) (st : Store) (was : Bool) (s : State) → HoldsNow tells st s → Does tells [] st st was was s s
does_nothing tells st was s here = record {
  added = [];
  counts = counts_same st st refl;
  count = omega arith;
  meets = meets_none (count_of st) (pages_of st) (tables_of st);
  all = λ xs met. record {
    world = refl;
    refused = sym (or-false was);
    acked = omega arith;
    out = λ h. sym (append-nil s.out);
    err = λ h. refl;
    alone = λ h was. was;
    moments = λ h was. started s (Leaves (tables_of st) [] xs s.out) (λ c t since. let is = here h was c t since in leaves_none (tables_of st) [] xs s.out c t is.0 is.1);
  };
}

pub does_more : (tells : Bool) (a b : List (List ℕ)) (st0 st1 st2 : Store) (r0 r1 r2 : Bool) (s0 s1 s2 : State)
    → Does tells a st0 st1 r0 r1 s0 s1 → Does tells b st1 st2 r1 r2 s1 s2 → Does tells (a ++ b) st0 st2 r0 r2 s0 s2
does_more tells a b st0 st1 st2 r0 r1 r2 s0 s1 s2 first then = record {
  added = first.added ++ then.added;
  counts = counts_more st0 st1 st2 first.added then.added first.counts then.counts;
  count = then.count ∙ ap (λ (n : ℕ). n + length (statements b)) first.count ∙ add_assoc (count_of st0) (length (statements a)) (length (statements b)) ∙ ap (λ (n : ℕ). count_of st0 + n) (sym (length-statements a b));
  meets = subst (λ (ls : List (List ℕ)). Meets (count_of st0) (pages_of st0) (tables_of st0) ls (first.added ++ then.added) (pages_of st2) (tables_of st2)) (sym (statements-append a b))
      (meets_then (count_of st0) (pages_of st0) (tables_of st0) (statements a) (statements b) first.added then.added (pages_of st1) (pages_of st2) (tables_of st1) (tables_of st2) first.meets
      (subst (λ (n : ℕ). Meets n (pages_of st1) (tables_of st1) (statements b) then.added (pages_of st2) (tables_of st2)) first.count then.meets));
  all = λ xs met. done_more tells xs a b (tables_of st0) (tables_of st1) (tables_of st2) r0 r1 r2 s0 s1 s2
      (first.all xs (are_met_front xs (count_of st0) st1 st2 then.added then.counts met))
      (then.all (from_nth xs (length (statements a))) (are_met_behind xs (count_of st0) (length (statements a)) st1 st2 first.count met));
}

pub does_then_part : (tells : Bool) (a b : List (List ℕ)) (st0 st1 st2 : Store) (r0 r1 : Bool) (s0 s1 s2 : State)
    → Does tells a st0 st1 r0 r1 s0 s1 → DoesPart tells b st1 st2 s1 s2 → DoesPart tells (a ++ b) st0 st2 s0 s2
does_then_part tells a b st0 st1 st2 r0 r1 s0 s1 s2 first part = record {
  added = first.added ++ part.added;
  counts = counts_more st0 st1 st2 first.added part.added first.counts part.counts;
  answered = length (statements a) + part.answered;
  meets = meets_behind (count_of st0) (pages_of st0) (tables_of st0) a b part.answered first.added part.added (count_of st1) (pages_of st1) (tables_of st1) first.count first.meets part.meets;
  all = λ xs met. done_then_part tells xs a b part.answered (tables_of st0) (tables_of st1) r0 r1 s0 s1 s2
      (first.all xs (are_met_front xs (count_of st0) st1 st2 part.added part.counts met))
      (part.all (from_nth xs (length (statements a))) (are_met_behind xs (count_of st0) (length (statements a)) st1 st2 first.count met));
}

-- what was told goes on to be a front
pub does_part_more : (tells : Bool) (a b : List (List ℕ)) (st0 st1 : Store) (s0 s1 : State) → DoesPart tells a st0 st1 s0 s1 → DoesPart tells (a ++ b) st0 st1 s0 s1
does_part_more tells a b st0 st1 s0 s1 part = record {
  added = part.added;
  counts = part.counts;
  answered = part.answered;
  meets = meets_front (count_of st0) (pages_of st0) (tables_of st0) a b part.answered part.added part.meets;
  all = λ xs met. done_part_more tells xs a b part.answered (tables_of st0) s0 s1 part.meets.within (part.all xs met);
}

-- all of it is a front
pub does_part : (tells : Bool) (a : List (List ℕ)) (st0 st1 : Store) (r0 r1 : Bool) (s0 s1 : State) → Does tells a st0 st1 r0 r1 s0 s1 → DoesPart tells a st0 st1 s0 s1
does_part tells a st0 st1 r0 r1 s0 s1 does = record {
  added = does.added;
  counts = does.counts;
  answered = length (statements a);
  meets = meets_all (count_of st0) (pages_of st0) (tables_of st0) (statements a) does.added (pages_of st1) (tables_of st1) does.meets;
  all = λ xs met. done_all tells xs a (tables_of st0) (tables_of st1) r0 r1 s0 s1 (does.all xs met);
}

-- nothing was done
pub does_none : (tells : Bool) (a : List (List ℕ)) (before now : Store) (s : State) → now.tally ≡ before.tally → HoldsNow tells before s → DoesPart tells a before now s s
does_none tells a before now s same here = record {
  added = [];
  counts = counts_same before now same;
  answered = 0;
  meets = meets_no_first (count_of before) (pages_of before) (tables_of before) (statements a);
  all = λ xs met. record {
    out = λ h. (0, sym (append-nil s.out));
    err = λ h. refl;
    moments = λ h was. started s (Leaves (tables_of before) a xs s.out) (λ c t since. let is = here h was c t since in leaves_none (tables_of before) a xs s.out c t is.0 is.1);
  };
}

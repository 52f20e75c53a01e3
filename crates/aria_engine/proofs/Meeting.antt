-- Statements that are executed one after another, and the exceptions that they meet.
use Rattle.std.proofs.Common.{◌≡◌, inl, inr, ℕ, zero, suc, ◌+◌, ◌-◌, ◌≤◌, Bool, true, false, ◌&&◌, cond, nat_le, Option, Some, None, List, [], ◌∷◌, ◌++◌, length, take, refl, sym, ap, subst, ◌∙◌, arith, add-zero, append_assoc}
use Rattle.std.specs.Prelude.{All}
use Rattle.std.proofs.lemmas.Bool.{cases_lt, cases_Bool}
use Rattle.std.proofs.lemmas.Bool.Decides.{nat_tests}
use Rattle.std.proofs.lemmas.List.{append-nil, length-append, take-append-le}
use Rattle.std.proofs.lemmas.List.Elements.{All-nil, All-cons, All-append, All-weaker}
use Rattle.std.proofs.Math.Seq.{take-append-add, take-length}
use Rattle.aria_model.specs.declared.refusal.Exception.{Exception}
use Rattle.aria_model.specs.declared.refusal.Exception.TheVariants.{Spent}
use Rattle.aria_model.specs.declared.refusal.Met.{Met}
use Rattle.aria_model.specs.World.{World}
use Rattle.aria_model.specs.Step.{step}
use Rattle.aria_model.specs.Script.{statements}
use Rattle.aria_model.proofs.Scripts.{statements-append}
use Rattle.aria_engine.specs.Entries.{is_log_spent, due, entry, most_added, Meets, MeetsFirst}
use Rattle.aria_engine.specs.Done.{growth, IsFull}

-- no statement
pub meets_none : (nth pages : ℕ) (w : World) → Meets nth pages w [] [] pages w
meets_none nth pages w = (refl, refl, refl)

-- one statement
pub meets_one : (nth pages : ℕ) (w : World) (line : List ℕ) (x : Option Exception) (last : ℕ) (left : World)
    → x ≡ due pages w line → pages ≤ last → last ≤ pages + most_added line → left ≡ (step w line x).world → Meets nth pages w (line ∷ []) (entry nth x) last left
meets_one nth pages w line x last left is rises within left_is = (
  last,
  [],
  rises,
  within,
  ap (entry nth) is ∙ sym (append-nil (entry nth (due pages w line))),
  (refl, refl, left_is ∙ ap (λ (y : Option Exception). (step w line y).world) is),
)

-- statements, and then others
pub meets_then : (nth pages : ℕ) (w : World) (a b : List (List ℕ)) (ms ns : List Met) (mid last : ℕ) (v u : World)
    → Meets nth pages w a ms mid v → Meets (nth + length a) mid v b ns last u → Meets nth pages w (a ++ b) (ms ++ ns) last u
meets_then nth pages w [] b ms ns mid last v u (none, same, world) then =
    subst (λ (n : ℕ). Meets n pages w b (ms ++ ns) last u) (add-zero nth)
    (subst (λ (k : ℕ). Meets (nth + 0) k w b (ms ++ ns) last u) same
    (subst (λ (x : World). Meets (nth + 0) mid x b (ms ++ ns) last u) world
    (subst (λ (l : List Met). Meets (nth + 0) mid v b l last u) (sym (ap (λ (l : List Met). l ++ ns) none)) then)))
meets_then nth pages w (line ∷ a) b ms ns mid last v u (next, more, rises, within, is, rest) then = (
  next,
  more ++ ns,
  rises,
  within,
  ap (λ (l : List Met). l ++ ns) is ∙ append_assoc (entry nth (due pages w line)) more ns,
  meets_then (nth + 1) next (step w line (due pages w line)).world a b more ns mid last v u rest
      (let same : nth + suc (length a) ≡ (nth + 1) + length a = omega arith in subst (λ (n : ℕ). Meets n mid v b ns last u) same then),
)

-- all statements are the first of them
pub meets_all : (nth pages : ℕ) (w : World) (a : List (List ℕ)) (ms : List Met) (last : ℕ) (left : World) → Meets nth pages w a ms last left → MeetsFirst nth pages w a (length a) ms
meets_all nth pages w a ms last left meets = record {
  within = omega arith;
  last = last;
  left = left;
  meets = subst (λ (l : List (List ℕ)). Meets nth pages w l ms last left) (sym (take-length a)) meets;
}

-- none is
pub meets_no_first : (nth pages : ℕ) (w : World) (a : List (List ℕ)) → MeetsFirst nth pages w a 0 []
meets_no_first nth pages w a = record { within = omega arith; last = pages; left = w; meets = meets_none nth pages w }

-- the first of statements are the first of them and others
pub meets_front : (nth pages : ℕ) (w : World) (a b : List (List ℕ)) (n : ℕ) (ms : List Met) → MeetsFirst nth pages w (statements a) n ms → MeetsFirst nth pages w (statements (a ++ b)) n ms
meets_front nth pages w a b n ms first =
    let size : length (statements (a ++ b)) ≡ length (statements a) + length (statements b) = ap length (statements-append a b) ∙ length-append (statements a) (statements b) in
    let same : take n (statements a) ≡ take n (statements (a ++ b)) = sym (take-append-le n (statements a) (statements b) first.within) ∙ ap (take n) (sym (statements-append a b)) in
    record {
      within = omega (arith, first.within, size);
      last = first.last;
      left = first.left;
      meets = subst (λ (l : List (List ℕ)). Meets nth pages w l ms first.last first.left) same first.meets;
    }

-- and so are statements and the first of others behind them
pub meets_behind : (nth pages : ℕ) (w : World) (a b : List (List ℕ)) (n : ℕ) (ms ns : List Met) (count mid : ℕ) (v : World) → count ≡ nth + length (statements a)
    → Meets nth pages w (statements a) ms mid v → MeetsFirst count mid v (statements b) n ns → MeetsFirst nth pages w (statements (a ++ b)) (length (statements a) + n) (ms ++ ns)
meets_behind nth pages w a b n ms ns count mid v count_is meets first =
    let size : length (statements (a ++ b)) ≡ length (statements a) + length (statements b) = ap length (statements-append a b) ∙ length-append (statements a) (statements b) in
    let same : statements a ++ take n (statements b) ≡ take (length (statements a) + n) (statements (a ++ b)) =
    sym (take-append-add (statements a) (statements b) n) ∙ ap (take (length (statements a) + n)) (sym (statements-append a b)) in
    record {
      within = omega (arith, first.within, size);
      last = first.last;
      left = first.left;
      meets = subst (λ (l : List (List ℕ)). Meets nth pages w l (ms ++ ns) first.last first.left) same
          (meets_then nth pages w (statements a) (take n (statements b)) ms ns mid first.last v first.left meets
          (subst (λ (c : ℕ). Meets c mid v (take n (statements b)) ns first.last first.left) count_is first.meets));
    }

-- ---- the log of a statement that met an exception is full

-- an entry of statements of which the first is the nth
record FullAt (lines : List (List ℕ)) (nth pages : ℕ) (met : Met) : Type 0 where
  why : met.why ≡ Spent 1
  since_then : nth ≤ met.nth
  pages_are : 524000 ≤ pages + growth (take (met.nth - nth) lines)

full_here : (lines : List (List ℕ)) (nth pages : ℕ) (w : World) (line : List ℕ) → All (FullAt lines nth pages) (entry nth (due pages w line))
full_here lines nth pages w line = by (nat_le 524000 pages) refl (is_log_spent (step w line (Some (Spent 1))).reply)
  where
    by : (full : Bool) → nat_le 524000 pages ≡ full → (refuses : Bool) → All (FullAt lines nth pages) (entry nth (cond (full && refuses) (Some (Spent 1)) None))
    by false test refuses = All-nil (FullAt lines nth pages)
    by true test false = All-nil (FullAt lines nth pages)
    by true test true =
        let low : 524000 ≤ pages = grind (arith, nat_tests) in
        let none : nth - nth ≡ 0 = omega arith in
        let enough : 524000 ≤ pages + growth (take 0 lines) = omega (arith, low) in
        let met : Met = record { nth = nth; why = Spent 1 } in
        All-cons (FullAt lines nth pages) met [] (record {
          why = refl;
          since_then = omega arith;
          pages_are = subst (λ (k : ℕ). 524000 ≤ pages + growth (take k lines)) (sym none) enough;
        }) (All-nil (FullAt lines nth pages))

full_later : (lines : List (List ℕ)) (line : List ℕ) (nth pages next : ℕ) (met : Met) → next ≤ pages + most_added line → FullAt lines (nth + 1) next met → FullAt (line ∷ lines) nth pages met
full_later lines line nth pages next met within full =
    let step_of : met.nth - nth ≡ suc (met.nth - (nth + 1)) = omega (arith, full.since_then) in
    let enough : 524000 ≤ pages + growth (take (suc (met.nth - (nth + 1))) (line ∷ lines)) = omega (arith, full.pages_are, within) in
    record {
      why = full.why;
      since_then = omega (arith, full.since_then);
      pages_are = subst (λ (k : ℕ). 524000 ≤ pages + growth (take k (line ∷ lines))) (sym step_of) enough;
    }

meets_full_at : (nth pages : ℕ) (w : World) (lines : List (List ℕ)) (ms : List Met) (last : ℕ) (left : World) → Meets nth pages w lines ms last left → All (FullAt lines nth pages) ms
meets_full_at nth pages w [] ms last left (none, same, world) = subst (All (FullAt [] nth pages)) (sym none) (All-nil (FullAt [] nth pages))
meets_full_at nth pages w (line ∷ lines) ms last left (next, more, rises, within, is, rest) =
    subst (All (FullAt (line ∷ lines) nth pages)) (sym is)
    (All-append (FullAt (line ∷ lines) nth pages) (entry nth (due pages w line)) more
    (full_here (line ∷ lines) nth pages w line)
    (All-weaker (FullAt lines (nth + 1) next) (FullAt (line ∷ lines) nth pages) (λ met. full_later lines line nth pages next met within) more
    (meets_full_at (nth + 1) next (step w line (due pages w line)).world lines more last left rest)))

growth-take : (n k : ℕ) (lines : List (List ℕ)) → growth (take k (take n lines)) ≤ growth (take k lines)
growth-take zero zero lines = omega arith
growth-take zero (suc k) [] = omega arith
growth-take zero (suc k) (line ∷ lines) = omega arith
growth-take (suc n) zero lines = omega arith
growth-take (suc n) (suc k) [] = omega arith
growth-take (suc n) (suc k) (line ∷ lines) = let more = growth-take n k lines in omega (arith, more)

-- A statement met an exception only where those before it can have filled the log.
pub meets_full : (nth pages : ℕ) (w : World) (lines : List (List ℕ)) (n : ℕ) (ms : List Met) → MeetsFirst nth pages w (statements lines) n ms → All (IsFull lines nth pages) ms
meets_full nth pages w lines n ms first =
    All-weaker (FullAt (take n (statements lines)) nth pages) (IsFull lines nth pages)
    (λ met full. let le = growth-take n (met.nth - nth) (statements lines) in record { why = full.why; since_then = full.since_then; pages_are = omega (arith, full.pages_are, le) })
    ms (meets_full_at nth pages w (take n (statements lines)) ms first.last first.left first.meets)

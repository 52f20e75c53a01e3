-- Fronts of the log's pages: pieces that stand one behind the other, and the groups in them.
use Rattle.std.proofs.Common.{◌≡◌, ◌==◌, ◌||◌, inl, inr, ℕ, suc, ◌+◌, ◌*◌, ◌/◌, ◌%◌, ◌<◌, ◌≤◌, Bool, true, false, cond, None, Some, List, [], ◌∷◌, ◌++◌, length, take, drop, refl, sym, ◌∙◌, ap, subst, arith, append_assoc}
use Rattle.std.specs.Prelude.{option_and_then}
use Rattle.std.proofs.lemmas.List.{append-nil}
use Rattle.std.proofs.lemmas.Bool.{eq-eqb}
use Rattle.std.proofs.lemmas.Option.{same_Some}
use Rattle.aria_log.specs.Pieces.{Piece, Pieces, next_piece, Stand, IsFront, may_behind, is_full}
use Rattle.aria_record.specs.Logged.{Logged}
use Rattle.aria_log.specs.Groups.{groups_at, run_rest, groups_of_runs, groups_from}
use Rattle.aria_log.specs.Log.{HoldPart, AreFull, joined}
use Rattle.aria_log.proofs.Counting.{below_or_same}
use Rattle.aria_log.proofs.GroupLists.{none_found}

-- ---- pieces

-- what is known of the piece of a page is known of the next piece
pub next_of : (pieces : Pieces) (n : ℕ) (may : Bool) (p : Piece) → pieces n ≡ Some p → (p.0 || may) ≡ true → next_piece pieces n may ≡ Some p
unfolding next_piece
next_of pieces n may p is goes = ap (option_and_then (λ (x : Piece). cond (x.0 || may) (Some x) None)) is ∙ ap (λ (b : Bool). cond b (Some p) None) goes

pub next_none : (pieces : Pieces) (n : ℕ) (may : Bool) → pieces n ≡ None → next_piece pieces n may ≡ None
unfolding next_piece
next_none pieces n may is = ap (option_and_then (λ (x : Piece). cond (x.0 || may) (Some x) None)) is

-- pieces that are the same from one page up to another
pub next_same : (a b : Pieces) (n : ℕ) (may : Bool) → b n ≡ a n → next_piece b n may ≡ next_piece a n may
unfolding next_piece
next_same a b n may same = ap (option_and_then (λ (x : Piece). cond (x.0 || may) (Some x) None)) same

-- what stands, stands where the pages are the same
pub stand_same : (a b : Pieces) (n : ℕ) (may : Bool) (ps : List Piece) → ((k : ℕ) → n ≤ k → k < n + length ps → b k ≡ a k) → Stand a n may ps → Stand b n may ps
stand_same a b n may [] same stand = tt
stand_same a b n may (p ∷ ps) same stand =
    (next_same a b n may (same n (omega arith) (omega arith)) ∙ stand.0, stand_same a b (n + 1) (is_full p) ps (λ k from below. same k (omega (arith, from)) (omega (arith, below))) stand.1)

-- pieces behind pieces
pub stand-append : (pieces : Pieces) (n m : ℕ) (may : Bool) (ps qs : List Piece) → Stand pieces n may ps → m ≡ n + length ps → Stand pieces m (may_behind may ps) qs → Stand pieces n may (ps ++ qs)
stand-append pieces n m may [] qs first at second = subst (λ (k : ℕ). Stand pieces k may qs) (at ∙ omega arith) second
stand-append pieces n m may (p ∷ ps) qs first at second = (first.0, stand-append pieces (n + 1) m (is_full p) ps qs first.1 (at ∙ omega arith) second)

-- whether a page may go on with pieces behind pieces
pub may_behind-append : (may : Bool) (ps qs : List Piece) → may_behind may (ps ++ qs) ≡ may_behind (may_behind may ps) qs
may_behind-append may [] qs = refl
may_behind-append may (p ∷ ps) qs = may_behind-append (is_full p) ps qs

-- a front is the only one from its page on
pub front_unique : (pieces : Pieces) (n : ℕ) (may : Bool) (ps qs : List Piece) → IsFront pieces n may ps → IsFront pieces n may qs → ps ≡ qs
front_unique pieces n may [] [] a b = refl
front_unique pieces n may [] (q ∷ qs) a b =
    let none : next_piece pieces n may ≡ None = ap (λ (k : ℕ). next_piece pieces k may) (let e : n ≡ n + 0 = omega arith in e) ∙ a.end in
    absurd (let f : None ≡ Some q = sym none ∙ b.stand.0 in (cc))
front_unique pieces n may (p ∷ ps) [] a b =
    let none : next_piece pieces n may ≡ None = ap (λ (k : ℕ). next_piece pieces k may) (let e : n ≡ n + 0 = omega arith in e) ∙ b.end in
    absurd (let f : None ≡ Some p = sym none ∙ a.stand.0 in (cc))
front_unique pieces n may (p ∷ ps) (q ∷ qs) a b =
    let same : p ≡ q = same_Some p q (sym a.stand.0 ∙ b.stand.0) in
    let first : IsFront pieces (n + 1) (is_full q) ps = subst (λ (x : Piece). IsFront pieces (n + 1) (is_full x) ps) same (tail pieces n may p ps a) in
    ap (λ (x : Piece). x ∷ ps) same ∙ ap (λ (l : List Piece). q ∷ l) (front_unique pieces (n + 1) (is_full q) ps qs first (tail pieces n may q qs b))
  where
    tail : (pieces : Pieces) (n : ℕ) (may : Bool) (p : Piece) (ps : List Piece) → IsFront pieces n may (p ∷ ps) → IsFront pieces (n + 1) (is_full p) ps
    tail pieces n may p ps is = record {
      stand = is.stand.1;
      end = ap (λ (k : ℕ). next_piece pieces k (may_behind (is_full p) ps)) (let e : n + 1 + length ps ≡ n + suc (length ps) = omega arith in e) ∙ is.end;
    }

-- ---- the pieces of a run

-- the pieces of a run, or of the rest of one
abbrev pub pieces_of_run : Bool → List (List ℕ) → List Piece
pieces_of_run begins [] = []
pieces_of_run begins (bytes ∷ parts) = (begins, bytes) ∷ pieces_of_run false parts

pub length-pieces_of_run : (begins : Bool) (parts : List (List ℕ)) → length (pieces_of_run begins parts) ≡ length parts
length-pieces_of_run begins [] = refl
length-pieces_of_run begins (bytes ∷ parts) = ap suc (length-pieces_of_run false parts)

-- What is left of a run: its first pages stand and none goes on with them, and behind its first page none begins a run.
pub record Left (pieces : Pieces) (n : ℕ) (begins may : Bool) (parts : List (List ℕ)) : Type 0 where
  pub count : ℕ
  pub within : count ≤ length parts
  pub front : IsFront pieces n may (pieces_of_run begins (take count parts))
  pub quiet : (m : ℕ) (p : Piece) → n + count ≤ m → pieces m ≡ Some p → p.0 ≡ false

-- a page that others follow in its run is full
rest_goes : (bytes : List ℕ) (parts : List (List ℕ)) → AreFull (bytes ∷ parts) → 1 ≤ length parts → (length bytes == 8176) ≡ true
rest_goes bytes [] full some = absurd (omega (arith, some))
rest_goes bytes (next ∷ parts) full some = eq-eqb (length bytes) 8176 full.0

rest_full : (bytes : List ℕ) (parts : List (List ℕ)) → AreFull (bytes ∷ parts) → AreFull parts
rest_full bytes [] full = tt
rest_full bytes (next ∷ parts) full = full.1

-- no page of the rest of a run begins one
part_quiet : (pieces : Pieces) (n : ℕ) (parts : List (List ℕ)) → HoldPart pieces n false parts → ((m : ℕ) → n + length parts ≤ m → pieces m ≡ None) → (m : ℕ) (p : Piece) → n ≤ m → pieces m ≡ Some p → p.0 ≡ false
part_quiet pieces n [] part none m p from is = absurd (let f : None ≡ Some p = sym (none m (omega (arith, from))) ∙ is in (cc))
part_quiet pieces n (bytes ∷ parts) part none m p from is = elim (below_or_same n m from) [
  | inr same ↦ elim part.0 [
    | inl kept ↦ let e : Some (false, bytes) ≡ Some p = sym kept ∙ ap pieces same ∙ is in ap (λ (x : Piece). x.0) (sym (same_Some (false, bytes) p e))
    | inr lost ↦ absurd (let f : None ≡ Some p = sym lost ∙ ap pieces same ∙ is in (cc))
  ]
  | inl above ↦ part_quiet pieces (n + 1) parts part.1 (λ k le. none k (omega (arith, le))) m p (omega (arith, above)) is
]

-- what a crash left of a run
pub part_left : (pieces : Pieces) (n : ℕ) (begins may : Bool) (parts : List (List ℕ)) → HoldPart pieces n begins parts → AreFull parts → (1 ≤ length parts → (begins || may) ≡ true)
    → ((m : ℕ) → n + length parts ≤ m → pieces m ≡ None) → Left pieces n begins may parts
part_left pieces n begins may [] part full goes none = record {
  count = 0;
  within = omega arith;
  front = record { stand = tt; end = next_none pieces (n + 0) may (none (n + 0) (omega arith)) };
  quiet = λ m p from is. absurd (let f : None ≡ Some p = sym (none m (omega (arith, from))) ∙ is in (cc));
}
part_left pieces n begins may (bytes ∷ parts) part full goes none = elim part.0 [
  | inr lost ↦ record {
    count = 0;
    within = omega arith;
    front = record { stand = tt; end = next_none pieces (n + 0) may (ap pieces (let e : n + 0 ≡ n = omega arith in e) ∙ lost) };
    quiet = λ m p from is. elim (below_or_same n m (omega (arith, from))) [
      | inr same ↦ absurd (let f : None ≡ Some p = sym lost ∙ ap pieces same ∙ is in (cc))
      | inl above ↦ part_quiet pieces (n + 1) parts part.1 (λ k le. none k (omega (arith, le))) m p (omega (arith, above)) is
    ];
  }
  | inl kept ↦
      let more = part_left pieces (n + 1) false (length bytes == 8176) parts part.1 (rest_full bytes parts full) (rest_goes bytes parts full) (λ k le. none k (omega (arith, le))) in
      let here : next_piece pieces n may ≡ Some (begins, bytes) = next_of pieces n may (begins, bytes) kept (goes (omega arith)) in
      record {
        count = suc more.count;
        within = omega (arith, more.within);
        front = record {
          stand = (here, more.front.stand);
          end = ap (λ (k : ℕ). next_piece pieces k (may_behind (length bytes == 8176) (pieces_of_run false (take more.count parts))))
              (let e : n + suc (length (pieces_of_run false (take more.count parts))) ≡ n + 1 + length (pieces_of_run false (take more.count parts)) = omega arith in e) ∙ more.front.end;
        };
        quiet = λ m p from is. more.quiet m p (omega (arith, from)) is;
      }
]

-- ---- the groups of pieces

-- the rest of a run is all of its bytes
pub rest_of_run : (parts : List (List ℕ)) → run_rest (pieces_of_run false parts) ≡ joined parts
unfolding run_rest
rest_of_run [] = refl
rest_of_run (bytes ∷ parts) = ap (λ (l : List ℕ). bytes ++ l) (rest_of_run parts)

-- the rest of a run begins none
pub no_runs : (n : ℕ) (parts : List (List ℕ)) → groups_of_runs n (pieces_of_run false parts) ≡ []
unfolding groups_of_runs
no_runs n [] = refl
no_runs n (bytes ∷ parts) = no_runs (n + 1) parts

-- a run begins behind pieces, so the rest of theirs ends there
pub rest_before : (ps : List Piece) (parts : List (List ℕ)) → run_rest (ps ++ pieces_of_run true parts) ≡ run_rest ps
unfolding run_rest
rest_before [] [] = refl
rest_before [] (bytes ∷ parts) = refl
rest_before (p ∷ ps) parts = ap (λ (l : List ℕ). cond p.0 [] (p.1 ++ l)) (rest_before ps parts)

-- the groups of a run
groups_of_run : (n : ℕ) (parts : List (List ℕ)) → groups_of_runs n (pieces_of_run true parts) ≡ groups_at (8176 * n) (joined parts)
unfolding groups_of_runs
groups_of_run n [] = sym (none_found (8176 * n))
groups_of_run n (bytes ∷ parts) =
    ap (λ (l : List ℕ). groups_at (8176 * n) (bytes ++ l) ++ groups_of_runs (n + 1) (pieces_of_run false parts)) (rest_of_run parts)
    ∙ ap (λ (l : List Logged). groups_at (8176 * n) (bytes ++ joined parts) ++ l) (no_runs (n + 1) parts) ∙ append-nil (groups_at (8176 * n) (bytes ++ joined parts))

-- the groups of runs and a run behind them
runs-append : (n m : ℕ) (ps : List Piece) (parts : List (List ℕ)) → m ≡ n + length ps → groups_of_runs n (ps ++ pieces_of_run true parts) ≡ groups_of_runs n ps ++ groups_at (8176 * m) (joined parts)
unfolding groups_of_runs
runs-append n m [] parts at = groups_of_run n parts ∙ ap (λ (k : ℕ). groups_at (8176 * k) (joined parts)) (let e : n ≡ m = omega (arith, at) in e)
runs-append n m (p ∷ ps) parts at =
    let here : List ℕ → List Logged = λ rest. cond p.0 (groups_at (8176 * n) (p.1 ++ rest)) [] in
    ap (λ (l : List ℕ). here l ++ groups_of_runs (n + 1) (ps ++ pieces_of_run true parts)) (rest_before ps parts)
    ∙ ap (λ (l : List Logged). here (run_rest ps) ++ l) (runs-append (n + 1) m ps parts (at ∙ omega arith))
    ∙ sym (append_assoc (here (run_rest ps)) (groups_of_runs (n + 1) ps) (groups_at (8176 * m) (joined parts)))

-- The groups from a base in a whole front, and a run behind it; with no front the base is where the run begins.
pub groups-append : (base m : ℕ) (ps : List Piece) (parts : List (List ℕ)) → m ≡ base / 8176 + length ps → (length ps ≡ 0 → base % 8176 ≡ 0)
    → groups_from base (ps ++ pieces_of_run true parts) ≡ groups_from base ps ++ groups_at (8176 * m) (joined parts)
unfolding groups_from
groups-append base m [] [] at based = sym (none_found (8176 * m))
groups-append base m [] (bytes ∷ parts) at based =
    let even : base % 8176 ≡ 0 = based refl in
    let place : base ≡ 8176 * m = omega (arith, at, even) in
    ap (λ (l : List ℕ). groups_at base (drop (base % 8176) (bytes ++ l)) ++ groups_of_runs (base / 8176 + 1) (pieces_of_run false parts)) (rest_of_run parts)
    ∙ ap (λ (k : ℕ). groups_at base (drop k (bytes ++ joined parts)) ++ groups_of_runs (base / 8176 + 1) (pieces_of_run false parts)) even
    ∙ ap (λ (l : List Logged). groups_at base (bytes ++ joined parts) ++ l) (no_runs (base / 8176 + 1) parts)
    ∙ append-nil (groups_at base (bytes ++ joined parts)) ∙ ap (λ (k : ℕ). groups_at k (bytes ++ joined parts)) place
groups-append base m (p ∷ ps) parts at based =
    let here : List ℕ → List Logged = λ rest. groups_at base (drop (base % 8176) (p.1 ++ rest)) in
    ap (λ (l : List ℕ). here l ++ groups_of_runs (base / 8176 + 1) (ps ++ pieces_of_run true parts)) (rest_before ps parts)
    ∙ ap (λ (l : List Logged). here (run_rest ps) ++ l) (runs-append (base / 8176 + 1) m ps parts (at ∙ omega arith))
    ∙ sym (append_assoc (here (run_rest ps)) (groups_of_runs (base / 8176 + 1) ps) (groups_at (8176 * m) (joined parts)))

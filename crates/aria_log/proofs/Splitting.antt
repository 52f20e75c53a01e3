-- What stands in the log from a base on is divided at each thing that stands there.
use Rattle.std.proofs.Common.{◌≡◌, ◌==◌, ◌||◌, inl, inr, ℕ, zero, suc, ◌+◌, ◌-◌, ◌*◌, ◌/◌, ◌%◌, ◌<◌, ◌≤◌, Bool, true, false, cond, Option, None, Some, List, [], ◌∷◌, ◌++◌, length, drop, refl, sym, ◌∙◌, ap, subst, arith, append_assoc, length-append}
use Rattle.std.specs.Prelude.{option_and_then}
use Rattle.std.proofs.lemmas.Bool.{cases_lt, cases_Bool, eqb-true, ne_eqb, eq-eqb}
use Rattle.std.proofs.lemmas.List.{append-nil, length-drop, drop-append-le, drop_at, drop-drop, nil_from_length}
use Rattle.std.proofs.lemmas.Option.{same_Some}
use Rattle.aria_record.specs.declared.record.Record.{Record}
use Rattle.aria_record.specs.Reading.{read_group}
use Rattle.aria_log.specs.Pieces.{Piece, Pieces, next_piece, Stand, is_full}
use Rattle.aria_log.specs.Groups.{run_rest}
use Rattle.aria_log.specs.Log.{IsBaseOf}
use Rattle.aria_log.specs.Reading.{Whole, Void, Entry, void_rest, entries_at, entries_of_runs, entries_from}
use Rattle.aria_log.proofs.Fronts.{next_of}
use Rattle.aria_log.proofs.GroupReads.{group_left}
use Rattle.aria_log.proofs.Entries.{at_nothing, at_whole, at_void}

-- ---- pieces

-- each page that holds something has a used byte, and at most 8176
abbrev pub AreUsed : Pieces → Type 0
AreUsed pieces = (n : ℕ) (p : Piece) → pieces n ≡ Some p → (1 ≤ length p.1) × (length p.1 ≤ 8176)

-- the next piece is that of its page, and it begins a run or may go on with one
pub next_is : (pieces : Pieces) (n : ℕ) (may : Bool) (p : Piece) → next_piece pieces n may ≡ Some p → (pieces n ≡ Some p) × ((p.0 || may) ≡ true)
unfolding next_piece
next_is pieces n may p e = by_case (pieces n) e
  where
    by_test : (x : Piece) (b : Bool) → b ≡ (x.0 || may) → cond b (Some x) None ≡ Some p → (Some x ≡ Some p) × ((p.0 || may) ≡ true)
    by_test x true is e = (e, sym (ap (λ (y : Piece). y.0 || may) (same_Some x p e)) ∙ sym is)
    by_test x false is e = absurd (cc)

    by_case : (o : Option Piece) → option_and_then (λ (x : Piece). cond (x.0 || may) (Some x) None) o ≡ Some p → (o ≡ Some p) × ((p.0 || may) ≡ true)
    by_case None e = absurd (cc)
    by_case (Some x) e = by_test x (x.0 || may) refl e

-- what may go on with a run may begin anew
pub stand_anew : (pieces : Pieces) (n : ℕ) (may : Bool) (p : Piece) (ps : List Piece) → Stand pieces n may (p ∷ ps) → Stand pieces n true (p ∷ ps)
stand_anew pieces n may p ps stand = let is = next_is pieces n may p stand.0 in (next_of pieces n true p is.0 (either p.0), stand.1)
  where
    either : (b : Bool) → (b || true) ≡ true
    either true = refl
    either false = refl

-- a page that goes on with a run stands behind a full one
pub goes_full : (pieces : Pieces) (n : ℕ) (may : Bool) (p : Piece) (ps : List Piece) → Stand pieces n may (p ∷ ps) → p.0 ≡ false → may ≡ true
goes_full pieces n may p ps stand goes = sym (ap (λ (b : Bool). b || may) goes) ∙ (next_is pieces n may p stand.0).1

-- From this base on these pieces stand, up to this page.
pub record IsFrom (pieces : Pieces) (end base : ℕ) (front : List Piece) : Type 0 where
  pub based : IsBaseOf base front
  pub stand : Stand pieces (base / 8176) true front
  pub end_is : base / 8176 + length front ≡ end

-- ---- into a run

-- the first byte of the next page
next_base : (n : ℕ) → ((8176 * (n + 1)) / 8176 ≡ n + 1) × ((8176 * (n + 1)) % 8176 ≡ 0)
next_base n = (omega arith, omega arith)

-- a page that goes on with a run is a base
next_from : (pieces : Pieces) → AreUsed pieces → (end base : ℕ) (p q : Piece) (ps : List Piece) → IsFrom pieces end base (p ∷ q ∷ ps) → IsFrom pieces end (8176 * (base / 8176 + 1)) (q ∷ ps)
next_from pieces used end base p q ps is =
    let n : ℕ = base / 8176 in
    let some = used (n + 1) q (next_is pieces (n + 1) (is_full p) q is.stand.1.0).0 in
    record {
      based = omega (arith, some.0, (next_base n).1);
      stand = subst (λ (k : ℕ). Stand pieces k true (q ∷ ps)) (sym (next_base n).0) (stand_anew pieces (n + 1) (is_full p) q ps is.stand.1);
      end_is = omega (arith, (next_base n).0, is.end_is);
    }

-- What stands from a place inside a run on.
pub record Inside (pieces : Pieces) (end base : ℕ) (rest : List ℕ) (runs : List Entry) : Type 0 where
  pub front : List Piece
  pub from : IsFrom pieces end base front
  pub entries_are : entries_from base front ≡ entries_at base rest ++ runs

-- behind all of some bytes
drop_past : (k : ℕ) (a b : List ℕ) → drop (length a + k) (a ++ b) ≡ drop k b
drop_past k a b = sym (drop-drop k (length a) (a ++ b)) ∙ ap (drop k) (drop_at a b (length a) refl)

-- a place on the base's page
inside_page : (pieces : Pieces) → AreUsed pieces → (end base : ℕ) (p : Piece) (ps : List Piece) (k : ℕ) → IsFrom pieces end base (p ∷ ps) → base % 8176 + k < length p.1
    → Inside pieces end (base + k) (drop k (drop (base % 8176) (p.1 ++ run_rest ps))) (entries_of_runs (base / 8176 + 1) ps)
unfolding entries_from
inside_page pieces used end base p ps k is low =
    let n : ℕ = base / 8176 in
    let fits = used n p (next_is pieces n true p is.stand.0).0 in
    let page : (base + k) / 8176 ≡ n = omega (arith, fits.1, low) in
    let byte : (base + k) % 8176 ≡ base % 8176 + k = omega (arith, fits.1, low) in
    record {
      front = p ∷ ps;
      from = record { based = omega (arith, byte, low); stand = subst (λ (m : ℕ). Stand pieces m true (p ∷ ps)) (sym page) is.stand; end_is = omega (arith, page, is.end_is) };
      entries_are =
          ap (λ (b : ℕ). entries_at (base + k) (drop b (p.1 ++ run_rest ps)) ++ entries_of_runs ((base + k) / 8176 + 1) ps) byte
          ∙ ap (λ (m : ℕ). entries_at (base + k) (drop (base % 8176 + k) (p.1 ++ run_rest ps)) ++ entries_of_runs (m + 1) ps) page
          ∙ ap (λ (l : List ℕ). entries_at (base + k) l ++ entries_of_runs (n + 1) ps) (sym (drop-drop k (base % 8176) (p.1 ++ run_rest ps)));
    }

-- no byte of a run stands behind its last page
past_run : (b k : ℕ) (bytes : List ℕ) → k < length (drop b (bytes ++ [])) → length bytes ≤ b + k → ⊥
past_run b k bytes low high = omega (arith, low, high, length-drop b (bytes ++ []), ap length (append-nil bytes))

-- a page that begins no run has none
pub no_run : (n : ℕ) (p : Piece) (ps : List Piece) → p.0 ≡ false → entries_of_runs n (p ∷ ps) ≡ entries_of_runs (n + 1) ps
unfolding entries_of_runs
no_run n p ps goes = ap (λ (b : Bool). cond b (entries_at (8176 * n) (p.1 ++ run_rest ps)) [] ++ entries_of_runs (n + 1) ps) goes

-- the same place, with the same bytes from there on and the same runs behind
carried : (pieces : Pieces) (end place place' : ℕ) (rest rest' : List ℕ) (runs runs' : List Entry) → place ≡ place' → rest ≡ rest' → runs ≡ runs' → Inside pieces end place rest runs → Inside pieces end place' rest' runs'
carried pieces end place place' rest rest' runs runs' same bytes behind is =
    subst (λ (k : ℕ). Inside pieces end k rest' runs') same (subst (λ (l : List ℕ). Inside pieces end place l runs') bytes (subst (λ (l : List Entry). Inside pieces end place rest l) behind is))

-- a run that goes on has the bytes of its next page
run_goes : (q : Piece) (qs : List Piece) → q.0 ≡ false → run_rest (q ∷ qs) ≡ q.1 ++ run_rest qs
unfolding run_rest
run_goes q qs goes = ap (λ (b : Bool). cond b [] (q.1 ++ run_rest qs)) goes

-- a place behind the base's page in its run
further : (pieces : Pieces) → AreUsed pieces → (qs : List Piece) (end base : ℕ) (p q : Piece) (k : ℕ) → IsFrom pieces end base (p ∷ q ∷ qs) → k < length (drop (base % 8176) (p.1 ++ run_rest (q ∷ qs))) → length p.1 ≤ base % 8176 + k
    → q.0 ≡ false
    → ((end base : ℕ) (p : Piece) (k : ℕ) → IsFrom pieces end base (p ∷ qs) → k < length (drop (base % 8176) (p.1 ++ run_rest qs))
    → Inside pieces end (base + k) (drop k (drop (base % 8176) (p.1 ++ run_rest qs))) (entries_of_runs (base / 8176 + 1) qs))
    → Inside pieces end (base + k) (drop k (drop (base % 8176) (p.1 ++ run_rest (q ∷ qs)))) (entries_of_runs (base / 8176 + 1) (q ∷ qs))
further pieces used qs end base p q k is low past goes more =
    let n : ℕ = base / 8176 in
    let full : length p.1 ≡ 8176 = eqb-true (length p.1) 8176 (goes_full pieces (n + 1) (is_full p) q qs is.stand.1 goes) in
    let bytes : List ℕ = q.1 ++ run_rest qs in
    let all : run_rest (q ∷ qs) ≡ bytes = run_goes q qs goes in
    let next : ℕ = 8176 * (n + 1) in
    let j : ℕ = base % 8176 + k - 8176 in
    let based : base % 8176 < length p.1 = is.based in
    let first : drop (next % 8176) bytes ≡ bytes = ap (λ (m : ℕ). drop m bytes) (next_base n).1 in
    let whole : drop k (drop (base % 8176) (p.1 ++ run_rest (q ∷ qs))) ≡ drop j bytes =
    drop-drop k (base % 8176) (p.1 ++ run_rest (q ∷ qs)) ∙ ap (λ (l : List ℕ). drop (base % 8176 + k) (p.1 ++ l)) all
    ∙ ap (λ (m : ℕ). drop m (p.1 ++ bytes)) (let e : base % 8176 + k ≡ length p.1 + j = omega (arith, full, past) in e) ∙ drop_past j p.1 bytes in
    let size : length (drop (base % 8176) (p.1 ++ run_rest (q ∷ qs))) ≡ 8176 + length bytes - base % 8176 =
    length-drop (base % 8176) (p.1 ++ run_rest (q ∷ qs)) ∙ omega (arith, full, length-append p.1 (run_rest (q ∷ qs)), ap length all) in
    let there = more end next q j (next_from pieces used end base p q qs is) (omega (arith, low, size, ap length first, past, full, based)) in
    carried pieces end (next + j) (base + k) (drop j (drop (next % 8176) bytes)) (drop k (drop (base % 8176) (p.1 ++ run_rest (q ∷ qs)))) (entries_of_runs (next / 8176 + 1) qs) (entries_of_runs (n + 1) (q ∷ qs))
    (omega (arith, full, past)) (ap (drop j) first ∙ sym whole) (ap (λ (m : ℕ). entries_of_runs (m + 1) qs) (next_base n).0 ∙ sym (no_run (n + 1) q qs goes)) there

-- a place in a run
inside : (pieces : Pieces) → AreUsed pieces → (ps : List Piece) (end base : ℕ) (p : Piece) (k : ℕ) → IsFrom pieces end base (p ∷ ps) → k < length (drop (base % 8176) (p.1 ++ run_rest ps))
    → Inside pieces end (base + k) (drop k (drop (base % 8176) (p.1 ++ run_rest ps))) (entries_of_runs (base / 8176 + 1) ps)
unfolding run_rest
inside pieces used [] end base p k is low = elim (cases_lt (base % 8176 + k) (length p.1)) [
  | inl here ↦ inside_page pieces used end base p [] k is here
  | inr past ↦ absurd (past_run (base % 8176) k p.1 low past)
]
inside pieces used (q ∷ qs) end base p k is low = elim (cases_lt (base % 8176 + k) (length p.1)) [
  | inl here ↦ inside_page pieces used end base p (q ∷ qs) k is here
  | inr past ↦ elim (cases_Bool q.0) [
    | inl begins ↦ absurd (past_run (base % 8176) k p.1 (subst (λ (l : List ℕ). k < length (drop (base % 8176) (p.1 ++ l))) (ap (λ (b : Bool). cond b [] (q.1 ++ run_rest qs)) begins) low) past)
    | inr goes ↦ further pieces used qs end base p q k is low past goes (inside pieces used qs)
  ]
]

-- ---- behind a run

-- What stands behind a run.
pub record Behind (pieces : Pieces) (end : ℕ) (runs : List Entry) : Type 0 where
  pub base : ℕ
  pub front : List Piece
  pub from : IsFrom pieces end base front
  pub entries_are : entries_from base front ≡ runs

-- pieces from a page's first byte on
pub page_from : (pieces : Pieces) → AreUsed pieces → (end n : ℕ) (may : Bool) (p : Piece) (ps : List Piece) → Stand pieces n may (p ∷ ps) → n + length (p ∷ ps) ≡ end → IsFrom pieces end (8176 * n) (p ∷ ps)
page_from pieces used end n may p ps stand end_is =
    let page : (8176 * n) / 8176 ≡ n = omega arith in
    let byte : (8176 * n) % 8176 ≡ 0 = omega arith in
    record {
      based = omega (arith, byte, (used n p (next_is pieces n may p stand.0).0).0);
      stand = subst (λ (m : ℕ). Stand pieces m true (p ∷ ps)) (sym page) (stand_anew pieces n may p ps stand);
      end_is = omega (arith, page, end_is);
    }

-- what stands from the first byte of a page on that begins a run
pub page_entries : (n : ℕ) (p : Piece) (ps : List Piece) → p.0 ≡ true → entries_from (8176 * n) (p ∷ ps) ≡ entries_of_runs n (p ∷ ps)
unfolding entries_from entries_of_runs
page_entries n p ps begins =
    let page : (8176 * n) / 8176 ≡ n = omega arith in
    let byte : (8176 * n) % 8176 ≡ 0 = omega arith in
    ap (λ (b : ℕ). entries_at (8176 * n) (drop b (p.1 ++ run_rest ps)) ++ entries_of_runs ((8176 * n) / 8176 + 1) ps) byte
    ∙ ap (λ (m : ℕ). entries_at (8176 * n) (p.1 ++ run_rest ps) ++ entries_of_runs (m + 1) ps) page
    ∙ ap (λ (b : Bool). cond b (entries_at (8176 * n) (p.1 ++ run_rest ps)) [] ++ entries_of_runs (n + 1) ps) (sym begins)

-- the page behind the log's end is a base
pub end_from : (pieces : Pieces) (end : ℕ) → IsFrom pieces end (8176 * end) []
end_from pieces end = record { based = omega arith; stand = tt; end_is = omega arith }

-- no run stands in no pieces
pub no_runs_left : (n : ℕ) → entries_of_runs n [] ≡ []
unfolding entries_of_runs
no_runs_left n = refl

pub nothing_from : (base : ℕ) → entries_from base [] ≡ []
unfolding entries_from
nothing_from base = refl

-- the runs in these pieces
pub runs_from : (pieces : Pieces) → AreUsed pieces → (ps : List Piece) (end n : ℕ) (may : Bool) → Stand pieces n may ps → n + length ps ≡ end → Behind pieces end (entries_of_runs n ps)
runs_from pieces used [] end n may stand end_is =
    record { base = 8176 * end; front = []; from = end_from pieces end; entries_are = nothing_from (8176 * end) ∙ sym (no_runs_left n) }
runs_from pieces used (p ∷ ps) end n may stand end_is = elim (cases_Bool p.0) [
  | inl begins ↦ record { base = 8176 * n; front = p ∷ ps; from = page_from pieces used end n may p ps stand end_is; entries_are = page_entries n p ps begins }
  | inr goes ↦ subst (Behind pieces end) (sym (no_run n p ps goes)) (runs_from pieces used ps end (n + 1) (is_full p) stand.1 (omega (arith, end_is)))
]

-- ---- entry by entry

-- What stands first from a base on, and from where the others stand.
pub record First (pieces : Pieces) (end base : ℕ) (front : List Piece) : Type 0 where
  pub entry : Entry
  pub next : ℕ
  pub behind : List Piece
  pub from : IsFrom pieces end next behind
  pub entries_are : entries_from base front ≡ entry ∷ entries_from next behind
  pub at_is : entry.at ≡ base

-- what stands from a base on is what stands in the rest of its run, and in the runs behind
from_parts : (base : ℕ) (p : Piece) (ps : List Piece) → entries_from base (p ∷ ps) ≡ entries_at base (drop (base % 8176) (p.1 ++ run_rest ps)) ++ entries_of_runs (base / 8176 + 1) ps
unfolding entries_from
from_parts base p ps = refl

-- void bytes are followed by the runs behind
void_first : (pieces : Pieces) (end base : ℕ) (front : List Piece) (bytes : List ℕ) (runs : List Entry) → entries_from base front ≡ entries_at base bytes ++ runs → 1 ≤ length bytes → Behind pieces end runs
    → read_group bytes ≡ None → First pieces end base front
void_first pieces end base front [] runs e some over none = absurd (omega (arith, some))
void_first pieces end base front (b ∷ bytes) runs e some over none =
    let here : Entry = record { at = base; found = Void (suc (length bytes)) } in
    record {
      entry = here;
      next = over.base;
      behind = over.front;
      from = over.from;
      entries_are = e ∙ ap (λ (l : List Entry). l ++ runs) (at_void base (b ∷ bytes) none) ∙ ap (λ (l : List Entry). here ∷ l) (sym over.entries_are);
      at_is = refl;
    }

-- a group is followed by what is left of its run
whole_first : (pieces : Pieces) (end base : ℕ) (front : List Piece) (bytes : List ℕ) (runs : List Entry) → entries_from base front ≡ entries_at base bytes ++ runs → Behind pieces end runs
    → ((k : ℕ) → k < length bytes → Inside pieces end (base + k) (drop k bytes) runs) → (x : List Record × List ℕ) → read_group bytes ≡ Some x → First pieces end base front
whole_first pieces end base front bytes runs e over into x found =
    let here : Entry = record { at = base; found = Whole x.0 } in
    let left = group_left bytes x found in
    let k : ℕ = length bytes - length x.1 in
    let split : entries_from base front ≡ here ∷ (entries_at (base + k) x.1 ++ runs) = e ∙ ap (λ (l : List Entry). l ++ runs) (at_whole base bytes x found) in
    elim (cases_lt 0 (length x.1)) [
      | inl some ↦
          let there = into k (omega (arith, some, left.0)) in
          record {
            entry = here;
            next = base + k;
            behind = there.front;
            from = there.from;
            entries_are = split ∙ ap (λ (l : List ℕ). here ∷ (entries_at (base + k) l ++ runs)) left.1 ∙ ap (λ (l : List Entry). here ∷ l) (sym there.entries_are);
            at_is = refl;
          }
      | inr empty ↦
          let nothing : x.1 ≡ [] = nil_from_length x.1 (omega (arith, empty)) in
          record {
            entry = here;
            next = over.base;
            behind = over.front;
            from = over.from;
            entries_are = split ∙ ap (λ (l : List ℕ). here ∷ (entries_at (base + k) l ++ runs)) nothing ∙ ap (λ (l : List Entry). here ∷ (l ++ runs)) (at_nothing (base + k))
                ∙ ap (λ (l : List Entry). here ∷ l) (sym over.entries_are);
            at_is = refl;
          }
    ]

-- something stands at each base in the log
pub first : (pieces : Pieces) → AreUsed pieces → (end base : ℕ) (p : Piece) (ps : List Piece) → IsFrom pieces end base (p ∷ ps) → First pieces end base (p ∷ ps)
first pieces used end base p ps is =
    let bytes : List ℕ = drop (base % 8176) (p.1 ++ run_rest ps) in
    let runs : List Entry = entries_of_runs (base / 8176 + 1) ps in
    let over : Behind pieces end runs = runs_from pieces used ps end (base / 8176 + 1) (is_full p) is.stand.1 (omega (arith, is.end_is)) in
    let based : base % 8176 < length p.1 = is.based in
    let some : 1 ≤ length bytes = omega (arith, based, length-drop (base % 8176) (p.1 ++ run_rest ps), length-append p.1 (run_rest ps)) in
    by_case bytes runs (from_parts base p ps) some over (λ k low. inside pieces used ps end base p k is low) (read_group bytes) refl
  where
    by_case : (bytes : List ℕ) (runs : List Entry) → entries_from base (p ∷ ps) ≡ entries_at base bytes ++ runs → 1 ≤ length bytes → Behind pieces end runs
        → ((k : ℕ) → k < length bytes → Inside pieces end (base + k) (drop k bytes) runs) → (o : Option (List Record × List ℕ)) → read_group bytes ≡ o → First pieces end base (p ∷ ps)
    by_case bytes runs e some over into None none = void_first pieces end base (p ∷ ps) bytes runs e some over none
    by_case bytes runs e some over into (Some x) found = whole_first pieces end base (p ∷ ps) bytes runs e over into x found

-- what is behind a first item
behind_first : (a b : Entry) (more others : List Entry) → a ∷ more ≡ b ∷ others → (a ≡ b) × (more ≡ others)
behind_first a b more others e = (cc, cc)

-- The log from what stands at a place on.
pub record FromEntry (pieces : Pieces) (end : ℕ) (entry : Entry) (more : List Entry) : Type 0 where
  pub front : List Piece
  pub from : IsFrom pieces end entry.at front
  pub entries_are : entry ∷ more ≡ entries_from entry.at front

-- Each thing that stands in the log is a base, and the others behind it stand from there on.
pub from_entry : (pieces : Pieces) → AreUsed pieces → (before : List Entry) (end base : ℕ) (front : List Piece) (entry : Entry) (more : List Entry) → IsFrom pieces end base front
    → entries_from base front ≡ before ++ entry ∷ more → FromEntry pieces end entry more
from_entry pieces used [] end base [] entry more is e = absurd (let f : [] ≡ entry ∷ more = sym (nothing_from base) ∙ e in (cc))
from_entry pieces used [] end base (p ∷ ps) entry more is e =
    let one = first pieces used end base p ps is in
    let same = behind_first entry one.entry more (entries_from one.next one.behind) (sym e ∙ one.entries_are) in
    let at : base ≡ entry.at = sym one.at_is ∙ sym (ap (λ (x : Entry). x.at) same.0) in
    record { front = p ∷ ps; from = subst (λ (m : ℕ). IsFrom pieces end m (p ∷ ps)) at is; entries_are = sym e ∙ ap (λ (m : ℕ). entries_from m (p ∷ ps)) at }
from_entry pieces used (x ∷ before) end base [] entry more is e = absurd (let f : [] ≡ x ∷ (before ++ entry ∷ more) = sym (nothing_from base) ∙ e in (cc))
from_entry pieces used (x ∷ before) end base (p ∷ ps) entry more is e =
    let one = first pieces used end base p ps is in
    let same = behind_first one.entry x (entries_from one.next one.behind) (before ++ entry ∷ more) (sym one.entries_are ∙ e) in
    from_entry pieces used before end one.next one.behind entry more one.from same.1

-- The log from a later base: from the place of a group on the same files hold the groups from it on.
use Rattle.std.proofs.Common.{◌≡◌, ◌||◌, ◌⊎◌, inl, inr, ℕ, zero, suc, ◌+◌, ◌-◌, ◌*◌, ◌/◌, ◌%◌, ◌<◌, ◌≤◌, Bool, true, false, cond, ltb, Option, None, Some, List, [], ◌∷◌, ◌++◌, length, take, drop, refl, sym, ◌∙◌, ap, subst, arith, length-append}
use Rattle.std.specs.Prelude.{option_and_then}
use Rattle.std.proofs.Math.Seq.{drop-append-add}
use Rattle.std.proofs.lemmas.Bool.{cases_lt, eqb-true, ltb-false}
use Rattle.std.proofs.lemmas.List.{length-drop, drop-drop, drop-take, drop_all, drop-append-le}
use Rattle.std.proofs.lemmas.Option.{same_Some}
use Rattle.aria_host.specs.State.{State}
use Rattle.aria_host.proofs.Moments.{implied}
use Rattle.aria_record.specs.declared.record.Record.{Record}
use Rattle.aria_record.specs.Reading.{read_group}
use Rattle.aria_log.specs.declared.log.Log.{Log as LogValue}
use Rattle.aria_log.specs.Pieces.{Piece, Pieces, LogFiles, log_files, pieces_of, next_piece, Stand, IsFront, may_behind, is_full}
use Rattle.aria_record.specs.Logged.{Logged}
use Rattle.aria_log.specs.Groups.{placed, groups_within, groups_at, run_rest, groups_of_runs, groups_from}
use Rattle.aria_log.specs.Files.{HoldsLog, IsUsed, IsSoundLog, HoldsFrom}
use Rattle.aria_log.specs.Log.{LogKeeps, HoldRun, HoldPart, file_of, behind, FilesStand, HoldsRun, IsThere, IsWriting, Fills, IsLog, IsOpened, HoldsAll}
use Rattle.aria_log.proofs.LogPages.{read_is_valid}
use Rattle.aria_log.proofs.GroupReads.{group_left}
use Rattle.aria_log.proofs.GroupLists.{none_within, some_within, none_in_none}
use Rattle.aria_log.proofs.Fronts.{next_of}
use Rattle.aria_log.proofs.Images.{next_some}
use Rattle.aria_log.proofs.Cutting.{piece_there}

-- ---- groups in bytes

-- these are the bytes behind some others, of which there is one at least
pub record IsBehind (bytes rest : List ℕ) : Type 0 where
  pub count : ℕ
  pub some : 1 ≤ count
  pub within : count ≤ length bytes
  pub rest_is : rest ≡ drop count bytes

-- a group that is read leaves the bytes behind it
pub group_rest : (bytes : List ℕ) (x : List Record × List ℕ) → read_group bytes ≡ Some x → IsBehind bytes x.1
group_rest bytes x e =
    let left = group_left bytes x e in record { count = length bytes - length x.1; some = omega (arith, left.0); within = omega arith; rest_is = left.1 }

-- the length of what stands behind
pub behind_length : (bytes rest : List ℕ) (is : IsBehind bytes rest) → length rest + is.count ≡ length bytes
behind_length bytes rest is = omega (arith, ap (λ (l : List ℕ). length l) is.rest_is, length-drop is.count bytes, is.within)

-- as many steps as there are bytes find all groups
enough_more : (n m place : ℕ) (bytes : List ℕ) → ((p : ℕ) (l : List ℕ) → length l ≤ n → length l ≤ m → groups_within n p l ≡ groups_within m p l) → length bytes ≤ suc n → length bytes ≤ suc m
    → (o : Option (List Record × List ℕ)) → read_group bytes ≡ o → groups_within (suc n) place bytes ≡ groups_within (suc m) place bytes
enough_more n m place bytes again le le' None e = none_within (suc n) place bytes e ∙ sym (none_within (suc m) place bytes e)
enough_more n m place bytes again le le' (Some (group, rest)) e =
    let is = group_rest bytes (group, rest) e in
    let size = behind_length bytes rest is in
    let next : ℕ = place + (length bytes - length rest) in
    some_within n place bytes rest group e ∙ ap (λ (l : List Logged). record { at = place; group = group } ∷ l) (again next rest (omega (arith, size, le, is.some)) (omega (arith, size, le', is.some)))
    ∙ sym (some_within m place bytes rest group e)

enough : (n m place : ℕ) (bytes : List ℕ) → length bytes ≤ n → length bytes ≤ m → groups_within n place bytes ≡ groups_within m place bytes
enough zero m place [] le le' = none_within zero place [] none_in_none ∙ sym (none_within m place [] none_in_none)
enough zero m place (b ∷ bytes) le le' = absurd (omega (arith, le))
enough (suc n) zero place [] le le' = none_within (suc n) place [] none_in_none ∙ sym (none_within zero place [] none_in_none)
enough (suc n) zero place (b ∷ bytes) le le' = absurd (omega (arith, le'))
enough (suc n) (suc m) place bytes le le' = enough_more n m place bytes (λ p l. enough n m p l) le le' (read_group bytes) refl

-- with no group in front there is none
pub groups-none : (place : ℕ) (bytes : List ℕ) → read_group bytes ≡ None → groups_at place bytes ≡ []
unfolding groups_at
groups-none place bytes none = none_within (length bytes) place bytes none

-- a group in front, and those behind it
pub groups-some : (place : ℕ) (bytes rest : List ℕ) (group : List Record) → read_group bytes ≡ Some (group, rest)
    → groups_at place bytes ≡ record { at = place; group = group } ∷ groups_at (place + (length bytes - length rest)) rest
unfolding groups_at
groups-some place bytes rest group e =
    let size = behind_length bytes rest (group_rest bytes (group, rest) e) in
    enough (length bytes) (suc (length bytes)) place bytes (omega arith) (omega arith) ∙ some_within (length bytes) place bytes rest group e
    ∙ ap (λ (l : List Logged). record { at = place; group = group } ∷ l) (enough (length bytes) (length rest) (place + (length bytes - length rest)) rest (omega (arith, size)) (omega arith))

-- this group stands at some byte, and from it on the groups are it and the rest
record FromByte (place : ℕ) (bytes : List ℕ) (g : Logged) (rest : List Logged) : Type 0 where
  byte : ℕ
  below : byte < length bytes
  at : g.at ≡ place + byte
  groups : groups_at (place + byte) (drop byte bytes) ≡ g ∷ rest

from_first : (place : ℕ) (bytes : List ℕ) (g : Logged) (rest : List Logged) → groups_at place bytes ≡ g ∷ rest → (o : Option (List Record × List ℕ)) → read_group bytes ≡ o → FromByte place bytes g rest
from_first place bytes g rest is None e = absurd (let none : [] ≡ g ∷ rest = sym (groups-none place bytes e) ∙ is in (cc))
from_first place bytes g rest is (Some (group, left)) e =
    let behind = group_rest bytes (group, left) e in
    let first : g ≡ record { at = place; group = group } = let both : g ∷ rest ≡ record { at = place; group = group } ∷ groups_at (place + (length bytes - length left)) left = sym is ∙ groups-some place bytes left group e in (cc) in
    let none : place ≡ place + 0 = omega arith in
    record {
      byte = 0;
      below = omega (arith, behind.some, behind.within);
      at = ap (λ (x : Logged). x.at) first ∙ none;
      groups = ap (λ (p : ℕ). groups_at p bytes) (sym none) ∙ is;
    }

from_next : (i place : ℕ) (bytes : List ℕ) (g : Logged) (rest : List Logged) → ((p : ℕ) (l : List ℕ) → drop i (groups_at p l) ≡ g ∷ rest → FromByte p l g rest) → drop (suc i) (groups_at place bytes) ≡ g ∷ rest
    → (o : Option (List Record × List ℕ)) → read_group bytes ≡ o → FromByte place bytes g rest
from_next i place bytes g rest again is None e = absurd (let none : [] ≡ g ∷ rest = sym (ap (drop (suc i)) (groups-none place bytes e)) ∙ is in (cc))
from_next i place bytes g rest again is (Some (group, left)) e =
    let behind = group_rest bytes (group, left) e in
    let size = behind_length bytes left behind in
    let next : ℕ = place + (length bytes - length left) in
    let more = again next left (sym (ap (drop (suc i)) (groups-some place bytes left group e)) ∙ is) in
    let here : next + more.byte ≡ place + (behind.count + more.byte) = omega (arith, size) in
    record {
      byte = behind.count + more.byte;
      below = omega (arith, more.below, size);
      at = more.at ∙ here;
      groups = ap (λ (p : ℕ). groups_at p (drop (behind.count + more.byte) bytes)) (sym here)
          ∙ ap (λ (l : List ℕ). groups_at (next + more.byte) l) (sym (drop-drop more.byte behind.count bytes) ∙ ap (drop more.byte) (sym behind.rest_is)) ∙ more.groups;
    }

from_group : (i place : ℕ) (bytes : List ℕ) (g : Logged) (rest : List Logged) → drop i (groups_at place bytes) ≡ g ∷ rest → FromByte place bytes g rest
from_group zero place bytes g rest is = from_first place bytes g rest is (read_group bytes) refl
from_group (suc i) place bytes g rest is = from_next i place bytes g rest (λ p l. from_group i p l g rest) is (read_group bytes) refl

-- ---- the pieces of runs

-- no page holds more bytes than its body has
abbrev pub AreShort : Pieces → Type 0
AreShort pieces = (n : ℕ) (piece : Piece) → pieces n ≡ Some piece → length piece.1 ≤ 8176

pub are_short : (files : LogFiles) → AreShort (pieces_of files)
unfolding pieces_of
are_short files n (begins, bytes) is = (read_is_valid n begins bytes _ is).fits

-- a piece that goes on begins a run, or may go on
next_goes : (pieces : Pieces) (n : ℕ) (may : Bool) (bytes : List ℕ) → next_piece pieces n may ≡ Some (false, bytes) → may ≡ true
unfolding next_piece
next_goes pieces n true bytes is = refl
next_goes pieces n false bytes is = absurd (stops (pieces n) is)
  where
    stops : (o : Option Piece) → option_and_then (λ (x : Piece). cond (x.0 || false) (Some x) None) o ≡ Some (false, bytes) → ⊥
    stops None e = absurd (cc)
    stops (Some (true, other)) e = absurd (let f : true ≡ false = ap (λ (x : Piece). x.0) (same_Some _ _ e) in (cc))
    stops (Some (false, other)) e = absurd (cc)

-- this byte of a run stands in this piece of it
record InPiece (n : ℕ) (ps : List Piece) (text : List ℕ) (runs : List Logged) (byte : ℕ) : Type 0 where
  count : ℕ
  piece : Piece
  after : List Piece
  are : drop count ps ≡ piece ∷ after
  at : ℕ
  byte_is : byte ≡ 8176 * count + at
  used : at < length piece.1
  fits : at < 8176
  rest : drop byte text ≡ drop at (piece.1 ++ run_rest after)
  later : runs ≡ groups_of_runs (n + count + 1) after

-- it stands in the first piece
in_first : (n : ℕ) (p : Piece) (ps : List Piece) (byte : ℕ) → length p.1 ≤ 8176 → byte < length p.1 → InPiece n (p ∷ ps) (p.1 ++ run_rest ps) (groups_of_runs (n + 1) ps) byte
in_first n p ps byte short below = record {
  count = 0;
  piece = p;
  after = ps;
  are = refl;
  at = byte;
  byte_is = omega arith;
  used = below;
  fits = omega (arith, below, short);
  rest = refl;
  later = ap (λ (k : ℕ). groups_of_runs k ps) (let e : n + 1 ≡ n + 0 + 1 = omega arith in e);
}

in_run : (pieces : Pieces) (n : ℕ) (may : Bool) (p : Piece) (ps : List Piece) (byte : ℕ) → AreShort pieces → Stand pieces n may (p ∷ ps) → byte < length (p.1 ++ run_rest ps)
    → InPiece n (p ∷ ps) (p.1 ++ run_rest ps) (groups_of_runs (n + 1) ps) byte
unfolding run_rest groups_of_runs
in_run pieces n may p [] byte short stand below = in_first n p [] byte (short n p (next_some pieces n may p stand.0)) (omega (arith, below, length-append p.1 []))
in_run pieces n may p ((true, bytes) ∷ ps) byte short stand below =
    in_first n p ((true, bytes) ∷ ps) byte (short n p (next_some pieces n may p stand.0)) (omega (arith, below, length-append p.1 []))
in_run pieces n may p ((false, bytes) ∷ ps) byte short stand below = elim (cases_lt byte (length p.1)) [
  | inl here ↦ in_first n p ((false, bytes) ∷ ps) byte (short n p (next_some pieces n may p stand.0)) here
  | inr past ↦
      let full : length p.1 ≡ 8176 = eqb-true (length p.1) 8176 (next_goes pieces (n + 1) (is_full p) bytes stand.1.0) in
      let left : ℕ = byte - 8176 in
      let whole : byte ≡ length p.1 + left = omega (arith, past, full) in
      let more = in_run pieces (n + 1) (is_full p) (false, bytes) ps left short stand.1 (omega (arith, below, length-append p.1 (bytes ++ run_rest ps), whole)) in
      record {
        count = suc more.count;
        piece = more.piece;
        after = more.after;
        are = more.are;
        at = more.at;
        byte_is = omega (arith, more.byte_is, whole, full);
        used = more.used;
        fits = more.fits;
        rest = ap (λ (k : ℕ). drop k (p.1 ++ (bytes ++ run_rest ps))) whole ∙ drop-append-add p.1 (bytes ++ run_rest ps) left ∙ more.rest;
        later = more.later ∙ ap (λ (k : ℕ). groups_of_runs k more.after) (let e : n + 1 + more.count + 1 ≡ n + suc more.count + 1 = omega arith in e);
      }
]

-- From this piece on stand this group, of which the first byte is in it, and the rest.
record FromPiece (low n : ℕ) (ps : List Piece) (g : Logged) (rest : List Logged) : Type 0 where
  count : ℕ
  piece : Piece
  after : List Piece
  are : drop count ps ≡ piece ∷ after
  number : g.at / 8176 ≡ n + count
  used : g.at % 8176 < length piece.1
  low_is : low ≤ g.at
  groups : g ∷ rest ≡ groups_from g.at (piece ∷ after)

-- a group of the first run
of_run : (pieces : Pieces) (n byte : ℕ) (may : Bool) (p : Piece) (ps : List Piece) (i : ℕ) (g : Logged) (rest : List Logged) → AreShort pieces → Stand pieces n may (p ∷ ps)
    → drop i (groups_at (8176 * n + byte) (drop byte (p.1 ++ run_rest ps))) ≡ g ∷ rest → FromPiece (8176 * n + byte) n (p ∷ ps) g (rest ++ groups_of_runs (n + 1) ps)
unfolding groups_from
of_run pieces n byte may p ps i g rest short stand is =
    let text : List ℕ = p.1 ++ run_rest ps in
    let from = from_group i (8176 * n + byte) (drop byte text) g rest is in
    let here = in_run pieces n may p ps (byte + from.byte) short stand (omega (arith, from.below, length-drop byte text)) in
    let at : g.at ≡ 8176 * (n + here.count) + here.at = omega (arith, from.at, here.byte_is) in
    let number : g.at / 8176 ≡ n + here.count = omega (arith, at, here.fits) in
    let in_page : g.at % 8176 ≡ here.at = omega (arith, at, here.fits) in
    let front : g ∷ rest ≡ groups_at g.at (drop (g.at % 8176) (here.piece.1 ++ run_rest here.after)) =
    sym from.groups ∙ ap (λ (k : ℕ). groups_at k (drop from.byte (drop byte text))) (sym from.at)
    ∙ ap (λ (l : List ℕ). groups_at g.at l) (drop-drop from.byte byte text ∙ here.rest ∙ ap (λ (k : ℕ). drop k (here.piece.1 ++ run_rest here.after)) (sym in_page)) in
    record {
      count = here.count;
      piece = here.piece;
      after = here.after;
      are = here.are;
      number = number;
      used = omega (arith, in_page, here.used);
      low_is = omega (arith, from.at);
      groups = ap (λ (l : List Logged). l ++ groups_of_runs (n + 1) ps) front
          ∙ ap (λ (l : List Logged). groups_at g.at (drop (g.at % 8176) (here.piece.1 ++ run_rest here.after)) ++ l) (here.later ∙ ap (λ (k : ℕ). groups_of_runs (k + 1) here.after) (sym number));
    }

-- a group of lists one behind the other stands in the first, or in the second
pub record InFirst (a b : List Logged) (i : ℕ) (g : Logged) (rest : List Logged) : Type 0 where
  pub more : List Logged
  pub here : drop i a ≡ g ∷ more
  pub rest_is : rest ≡ more ++ b

pub in_lists : (a b : List Logged) (i : ℕ) (g : Logged) (rest : List Logged) → drop i (a ++ b) ≡ g ∷ rest → (InFirst a b i g rest × (i < length a)) ⊎ ((length a ≤ i) × (drop (i - length a) b ≡ g ∷ rest))
in_lists a b i g rest is = elim (cases_lt i (length a)) [
  | inl below ↦ inl (first (drop i a) refl below, below)
  | inr past ↦ inr (past, sym (drop-append-add a b (i - length a)) ∙ ap (λ (k : ℕ). drop k (a ++ b)) (let e : length a + (i - length a) ≡ i = omega (arith, past) in e) ∙ is)
]
  where
    first : (l : List Logged) → drop i a ≡ l → i < length a → InFirst a b i g rest
    first [] e below = absurd (omega (arith, ap (λ (l : List Logged). length l) e, length-drop i a, below))
    first (h ∷ t) e below =
        let both : g ∷ rest ≡ h ∷ (t ++ b) = sym is ∙ drop-append-le i a b (omega (arith, below)) ∙ ap (λ (l : List Logged). l ++ b) e in
        let head : h ≡ g = (cc) in
        record { more = t; here = e ∙ ap (λ (x : Logged). x ∷ t) head; rest_is = (cc) }

-- a page later
page_later : (low n : ℕ) (p : Piece) (ps : List Piece) (g : Logged) (rest : List Logged) → low ≤ 8176 * (n + 1) → FromPiece (8176 * (n + 1)) (n + 1) ps g rest → FromPiece low n (p ∷ ps) g rest
page_later low n p ps g rest le is = record {
  count = suc is.count;
  piece = is.piece;
  after = is.after;
  are = is.are;
  number = omega (arith, is.number);
  used = is.used;
  low_is = omega (arith, is.low_is, le);
  groups = is.groups;
}

-- a group of the runs that begin in these pieces
of_runs : (pieces : Pieces) (n : ℕ) (may : Bool) (ps : List Piece) (i : ℕ) (g : Logged) (rest : List Logged) → AreShort pieces → Stand pieces n may ps → drop i (groups_of_runs n ps) ≡ g ∷ rest → FromPiece (8176 * n) n ps g rest
unfolding groups_of_runs
of_runs pieces n may [] i g rest short stand is = absurd (let none : [] ≡ g ∷ rest = sym (drop_all i [] (omega arith)) ∙ is in (cc))
of_runs pieces n may ((false, bytes) ∷ ps) i g rest short stand is = page_later (8176 * n) n (false, bytes) ps g rest (omega arith) (of_runs pieces (n + 1) (is_full (false, bytes)) ps i g rest short stand.1 is)
of_runs pieces n may ((true, bytes) ∷ ps) i g rest short stand is = elim (in_lists (groups_at (8176 * n) (bytes ++ run_rest ps)) (groups_of_runs (n + 1) ps) i g rest is) [
  | inr later ↦ page_later (8176 * n) n (true, bytes) ps g rest (omega arith) (of_runs pieces (n + 1) (is_full (true, bytes)) ps (i - length (groups_at (8176 * n) (bytes ++ run_rest ps))) g rest short stand.1 later.1)
  | inl here ↦
      let none : 8176 * n ≡ 8176 * n + 0 = omega arith in
      subst (λ (l : List Logged). FromPiece (8176 * n) n ((true, bytes) ∷ ps) g l) (sym here.0.rest_is)
      (subst (λ (k : ℕ). FromPiece k n ((true, bytes) ∷ ps) g (here.0.more ++ groups_of_runs (n + 1) ps)) (sym none)
      (of_run pieces n 0 may (true, bytes) ps i g here.0.more short stand (ap (λ (k : ℕ). drop i (groups_at k (bytes ++ run_rest ps))) (sym none) ∙ here.0.here)))
]

-- a group from a base
of_front : (pieces : Pieces) (base : ℕ) (ps : List Piece) (i : ℕ) (g : Logged) (rest : List Logged) → AreShort pieces → Stand pieces (base / 8176) true ps → drop i (groups_from base ps) ≡ g ∷ rest → FromPiece base (base / 8176) ps g rest
unfolding groups_from
of_front pieces base [] i g rest short stand is = absurd (let none : [] ≡ g ∷ rest = sym (drop_all i [] (omega arith)) ∙ is in (cc))
of_front pieces base (p ∷ ps) i g rest short stand is =
    let n : ℕ = base / 8176 in
    let first : List Logged = groups_at base (drop (base % 8176) (p.1 ++ run_rest ps)) in
    let whole : 8176 * n + base % 8176 ≡ base = omega arith in
    elim (in_lists first (groups_of_runs (n + 1) ps) i g rest is) [
      | inl here ↦
          subst (λ (l : List Logged). FromPiece base n (p ∷ ps) g l) (sym here.0.rest_is)
          (subst (λ (k : ℕ). FromPiece k n (p ∷ ps) g (here.0.more ++ groups_of_runs (n + 1) ps)) whole
          (of_run pieces n (base % 8176) true p ps i g here.0.more short stand (ap (λ (k : ℕ). drop i (groups_at k (drop (base % 8176) (p.1 ++ run_rest ps)))) whole ∙ here.0.here)))
      | inr later ↦ page_later base n p ps g rest (omega arith) (of_runs pieces (n + 1) (is_full p) ps (i - length first) g rest short stand.1 later.1)
    ]

-- ---- fronts

-- what stands from a later page on
stand_later : (pieces : Pieces) (n : ℕ) (may : Bool) (ps : List Piece) (count : ℕ) (q : Piece) (qs : List Piece) → Stand pieces n may ps → drop count ps ≡ q ∷ qs → Stand pieces (n + count) true (q ∷ qs)
stand_later pieces n may [] count q qs stand are = absurd (let none : [] ≡ q ∷ qs = sym (drop_all count [] (omega arith)) ∙ are in (cc))
stand_later pieces n may (p ∷ ps) zero q qs stand are =
    let none : n ≡ n + 0 = omega arith in
    subst (λ (l : List Piece). Stand pieces (n + 0) true l) are (subst (λ (k : ℕ). Stand pieces k true (p ∷ ps)) none (next_of pieces n true p (next_some pieces n may p stand.0) (either p.0), stand.1))
  where
    either : (b : Bool) → (b || true) ≡ true
    either true = refl
    either false = refl
stand_later pieces n may (p ∷ ps) (suc count) q qs stand are =
    let next : n + 1 + count ≡ n + suc count = omega arith in
    subst (λ (k : ℕ). Stand pieces k true (q ∷ qs)) next (stand_later pieces (n + 1) (is_full p) ps count q qs stand.1 are)

-- whether the page behind them may go on is seen by the last one
behind_later : (may : Bool) (ps : List Piece) (count : ℕ) (q : Piece) (qs : List Piece) → drop count ps ≡ q ∷ qs → may_behind may ps ≡ may_behind true (q ∷ qs)
behind_later may [] count q qs are = absurd (let none : [] ≡ q ∷ qs = sym (drop_all count [] (omega arith)) ∙ are in (cc))
behind_later may (p ∷ ps) zero q qs are = ap (λ (l : List Piece). may_behind true l) are
behind_later may (p ∷ ps) (suc count) q qs are = behind_later (is_full p) ps count q qs are

-- the front ends where it did
same_end : (base : ℕ) (whole : List Piece) (g : Logged) (rest : List Logged) (is : FromPiece base (base / 8176) whole g rest) → base / 8176 + length whole ≡ g.at / 8176 + length (is.piece ∷ is.after)
same_end base whole g rest is = omega (arith, is.number, ap (λ (l : List Piece). length l) is.are, length-drop is.count whole)

later_stand : (pieces : Pieces) (base : ℕ) (whole : List Piece) (g : Logged) (rest : List Logged) (is : FromPiece base (base / 8176) whole g rest) → Stand pieces (base / 8176) true whole → Stand pieces (g.at / 8176) true (is.piece ∷ is.after)
later_stand pieces base whole g rest is stand =
    subst (λ (k : ℕ). Stand pieces k true (is.piece ∷ is.after)) (sym is.number) (stand_later pieces (base / 8176) true whole is.count is.piece is.after stand is.are)

later_front : (pieces : Pieces) (base : ℕ) (whole : List Piece) (g : Logged) (rest : List Logged) (is : FromPiece base (base / 8176) whole g rest) → IsFront pieces (base / 8176) true whole → IsFront pieces (g.at / 8176) true (is.piece ∷ is.after)
later_front pieces base whole g rest is front = record {
  stand = later_stand pieces base whole g rest is front.stand;
  end = ap (λ (k : ℕ). next_piece pieces k (may_behind true (is.piece ∷ is.after))) (sym (same_end base whole g rest is))
      ∙ ap (λ (b : Bool). next_piece pieces (base / 8176 + length whole) b) (sym (behind_later true whole is.count is.piece is.after is.are)) ∙ front.end;
}

-- the first byte of the group is used
later_used : (pieces : Pieces) (base : ℕ) (whole : List Piece) (g : Logged) (rest : List Logged) (is : FromPiece base (base / 8176) whole g rest) → Stand pieces (base / 8176) true whole → IsUsed pieces g.at
later_used pieces base whole g rest is stand = record { piece = is.piece; valid = next_some pieces (g.at / 8176) true is.piece (later_stand pieces base whole g rest is stand).0; used = is.used }

-- ---- logs

-- where the groups of a front are divided
from_front : (files : LogFiles) (base : ℕ) (whole : List Piece) (i : ℕ) (groups : List Logged) (g : Logged) (rest : List Logged) → Stand (pieces_of files) (base / 8176) true whole → groups ≡ groups_from base whole → drop i groups ≡ g ∷ rest
    → FromPiece base (base / 8176) whole g rest
from_front files base whole i groups g rest stand are is = of_front (pieces_of files) base whole i g rest (are_short files) stand (sym (ap (drop i) are) ∙ is)

-- From the place of group i on the files hold the groups from it on; that place is in the log.
pub record HoldsLater (files : LogFiles) (base : ℕ) (g : Logged) (rest : List Logged) (end : ℕ) : Type 0 where
  pub holds : HoldsLog files g.at (g ∷ rest) end
  pub from : base ≤ g.at
  pub used : IsUsed (pieces_of files) g.at

pub later_holds : (files : LogFiles) (base end i : ℕ) (groups : List Logged) (g : Logged) (rest : List Logged) → HoldsLog files base groups end → drop i groups ≡ g ∷ rest → HoldsLater files base g rest end
later_holds files base end i groups g rest log is =
    let from = from_front files base log.pieces i groups g rest log.front.stand log.groups_are is in
    record {
      holds = record {
        pieces = from.piece ∷ from.after;
        front = later_front (pieces_of files) base log.pieces g rest from log.front;
        groups_are = from.groups;
        end_is = log.end_is ∙ same_end base log.pieces g rest from;
      };
      from = from.low_is;
      used = later_used (pieces_of files) base log.pieces g rest from log.front.stand;
    }

-- a log that isn't damaged from a base on isn't from a used byte behind it on
pub later_sound : (files : LogFiles) (base place end : ℕ) → base ≤ place → IsUsed (pieces_of files) place → IsSoundLog files base end → IsSoundLog files place end
later_sound files base place end from used sound = record {
  here = inl (piece_there files (place / 8176) used.piece used.valid);
  stand = λ f g above. sound.stand f g (omega (arith, above, from));
  few = λ f above. sound.few f (omega (arith, above, from));
  based = inr used;
  quiet = sound.quiet;
}

-- the files hold exactly the groups from group i on
pub later_all : (files : LogFiles) (base i : ℕ) (groups : List Logged) (g : Logged) (rest : List Logged) → HoldsAll base groups files → drop i groups ≡ g ∷ rest → HoldsAll g.at (g ∷ rest) files
later_all files base i groups g rest all is =
    let later = later_holds files base all.end i groups g rest all.holds is in
    record { end = all.end; holds = later.holds; sound = later_sound files base g.at all.end later.from later.used all.sound }

-- the files hold a front of the groups from group i on, which is forced, that has all forced ones
pub later_from : (files : LogFiles) (base i forced : ℕ) (groups : List Logged) (g : Logged) (rest : List Logged) → HoldsFrom base groups forced files → drop i groups ≡ g ∷ rest → i < forced → HoldsFrom g.at (g ∷ rest) (forced - i) files
later_from files base i forced groups g rest held is low =
    let left : ℕ = held.count - i - 1 in
    let count : held.count ≡ i + suc left = omega (arith, low, held.from) in
    let front : drop i (take held.count groups) ≡ g ∷ take left rest = ap (λ (k : ℕ). drop i (take k groups)) count ∙ drop-take i (suc left) groups ∙ ap (take (suc left)) is in
    let later = later_holds files base held.end i (take held.count groups) g (take left rest) held.holds front in
    record {
      count = suc left;
      from = omega (arith, held.from, count);
      within = omega (arith, held.within, count, ap (λ (l : List Logged). length l) is, length-drop i groups);
      end = held.end;
      holds = later.holds;
      sound = later_sound files base g.at held.end later.from later.used held.sound;
    }

-- and so at each moment
pub later_keeps : (old new : State) (base i forced : ℕ) (groups : List Logged) (g : Logged) (rest : List Logged) → LogKeeps old new base groups forced → drop i groups ≡ g ∷ rest → i < forced → LogKeeps old new g.at (g ∷ rest) (forced - i)
later_keeps old new base i forced groups g rest keeps is low =
    implied old new keeps (λ c held. later_from (log_files c) base i forced groups g rest held is low)

-- the files stand from a later file on
pub later_files : (files : LogFiles) (low low' n : ℕ) → low ≤ low' → FilesStand files low n → FilesStand files low' n
later_files files low low' n from stands = record {
  here = stands.here;
  stand = λ f above. stands.stand f (omega (arith, above, from));
  few = λ f above. stands.few f (omega (arith, above, from));
  none = stands.none;
}

-- a run behind the front from a later base
later_run : (files : LogFiles) (base : ℕ) (whole : List Piece) (parts : List (List ℕ)) (g : Logged) (rest : List Logged) (is : FromPiece base (base / 8176) whole g rest) → HoldsRun base whole parts files → HoldsRun g.at (is.piece ∷ is.after) parts files
later_run files base whole parts g rest is run =
    let end = same_end base whole g rest is in
    record {
      stand = later_stand (pieces_of files) base whole g rest is run.stand;
      part = subst (λ (k : ℕ). HoldPart (pieces_of files) k true parts) end run.part;
      none = λ n from. run.none n (omega (arith, from, end));
      files = later_files files (file_of base) (file_of g.at) (behind g.at (is.piece ∷ is.after) parts) (omega (arith, is.low_is)) (subst (λ (k : ℕ). FilesStand files (file_of base) (k + length parts)) end run.files);
    }

later_writing : (s : State) (base : ℕ) (whole : List Piece) (parts : List (List ℕ)) (there : Bool) (g : Logged) (rest : List Logged) (is : FromPiece base (base / 8176) whole g rest) → IsWriting s base whole parts there
    → IsWriting s g.at (is.piece ∷ is.after) parts there
later_writing s base whole parts there g rest is writing =
    let end = same_end base whole g rest is in
    record {
      run = subst (λ (k : ℕ). HoldRun (pieces_of (log_files s.folder)) k true parts) end writing.run;
      reads = later_run (log_files s.folder) base whole parts g rest is writing.reads;
      now = subst (λ (k : ℕ). IsThere there (log_files s.folder) (k + length parts)) end writing.now;
      images = λ c leaves. later_run (log_files c) base whole parts g rest is (writing.images c leaves);
      each = λ c leaves. subst (λ (k : ℕ). IsThere there (log_files c) (k + length parts)) end (writing.each c leaves);
    }

-- a log that is running, from a forced group on
pub later_log : (log : LogValue) (s : State) (base i forced : ℕ) (groups : List Logged) (g : Logged) (rest : List Logged) → IsLog log s base groups forced → drop i groups ≡ g ∷ rest → i < forced → IsLog log s g.at (g ∷ rest) (forced - i)
later_log log s base i forced groups g rest is front low =
    elim (in_lists (groups_from base is.whole) (placed (8176 * (base / 8176 + length is.whole)) is.fresh) i g rest (sym (ap (drop i) is.groups_are) ∙ front)) [
      | inr past ↦ absurd (omega (arith, past.0, low, is.forced_are))
      | inl here ↦ from_here here.0
    ]
  where
    from_here : InFirst (groups_from base is.whole) (placed (8176 * (base / 8176 + length is.whole)) is.fresh) i g rest → IsLog log s g.at (g ∷ rest) (forced - i)
    from_here here =
        let from = from_front (log_files s.folder) base is.whole i (groups_from base is.whole) g here.more is.at.writing.reads.stand refl here.here in
        let end = same_end base is.whole g here.more from in
        record {
          whole = from.piece ∷ from.after;
          based = from.used;
          fresh = is.fresh;
          are = is.are;
          forced_are = omega (arith, is.forced_are, ap (λ (l : List Logged). length l) from.groups, ap (λ (l : List Logged). length l) here.here, length-drop i (groups_from base is.whole));
          groups_are = ap (λ (l : List Logged). g ∷ l) here.rest_is ∙ ap (λ (l : List Logged). l ++ placed (8176 * (base / 8176 + length is.whole)) is.fresh) from.groups
              ∙ ap (λ (k : ℕ). groups_from g.at (from.piece ∷ from.after) ++ placed (8176 * k) is.fresh) end;
          at = record {
            parts = is.at.parts;
            held = is.at.held;
            writing = later_writing s base is.whole is.at.parts log.there g here.more from is.at.writing;
            full = is.at.full;
            first = is.at.first ∙ end;
            fills = subst (λ (k : ℕ). Fills log (k + length is.at.parts) is.at.held) end is.at.fills;
            text_is = is.at.text_is;
          };
          idle = is.idle;
        }

-- a log that was opened, from a later group on
pub later_opened : (log : LogValue) (s : State) (base i last : ℕ) (groups : List Logged) (g : Logged) (rest : List Logged) → IsOpened log s base groups last → drop i groups ≡ g ∷ rest → IsOpened log s g.at (g ∷ rest) last
later_opened log s base i last groups g rest is front =
    let from = from_front (log_files s.folder) base is.whole i groups g rest is.front.stand is.groups_are front in
    let end = same_end base is.whole g rest from in
    record {
      whole = from.piece ∷ from.after;
      front = later_front (pieces_of (log_files s.folder)) base is.whole g rest from is.front;
      based = from.used;
      groups_are = from.groups;
      first = is.first;
      fills = subst (λ (k : ℕ). Fills log k []) end is.fills;
      low = omega (arith, is.low, end);
      sound = subst (λ (k : ℕ). IsSoundLog (log_files s.folder) g.at k) end
          (later_sound (log_files s.folder) base g.at (base / 8176 + length is.whole) from.low_is (later_used (pieces_of (log_files s.folder)) base is.whole g rest from is.front.stand) is.sound);
      last_is = λ over. is.last_is (omega (arith, over, end));
      none = λ f over. is.none f (omega (arith, over, end));
      rest = λ c leaves f above. is.rest c leaves f (omega (arith, above, from.low_is));
    }

-- What has been read of a log from a page on.
use Rattle.std.proofs.Common.{inl, inr, ◌≡◌, ◌==◌, ◌||◌, ℕ, ◌+◌, ◌-◌, ◌/◌, ◌%◌, ◌^◌, ◌<◌, ◌≤◌, Bool, true, false, if◌then◌else◌, is_some, Option, None, Some, List, [], ◌∷◌, ◌++◌, length, take, drop, refl, sym, ◌∙◌, ap, subst, arith, length-append}
use Rattle.std.specs.Prelude.{option_and_then}
use Rattle.std.proofs.lemmas.Bool.{cases_lt}
use Rattle.aria_host.specs.Seen.{page_or_zero}
use Rattle.aria_log.specs.Pieces.{Piece, LogFiles, pieces_of, next_piece, Stand, is_full, may_behind}
use Rattle.aria_log.specs.Finding.{EndsFront}
use Rattle.aria_log.proofs.Fronts.{next_of, next_none, stand-append, may_behind-append}
use Rattle.aria_log.proofs.PageReads.{high_reads}

-- these pieces stand from the first page on, up to this one
pub record IsReadTo (files : LogFiles) (first number : ℕ) (may : Bool) : Type 0 where
  pub front : List Piece
  pub stand : Stand (pieces_of files) first true front
  pub at : number ≡ first + length front
  pub may_is : may ≡ may_behind true front

-- nothing was read yet
pub read_none : (files : LogFiles) (first : ℕ) → IsReadTo files first first true
read_none files first = record { front = []; stand = tt; at = omega arith; may_is = refl }

-- one page more
pub read_more : (files : LogFiles) (first number : ℕ) (may : Bool) (piece : Piece) → IsReadTo files first number may → pieces_of files number ≡ Some piece → (piece.0 || may) ≡ true → IsReadTo files first (number + 1) (is_full piece)
read_more files first number may piece is valid goes =
    let next : next_piece (pieces_of files) number may ≡ Some piece = next_of (pieces_of files) number may piece valid goes in
    let here : next_piece (pieces_of files) number (may_behind true is.front) ≡ Some piece = subst (λ (b : Bool). next_piece (pieces_of files) number b ≡ Some piece) is.may_is next in
    record {
      front = is.front ++ piece ∷ [];
      stand = stand-append (pieces_of files) first number true is.front (piece ∷ []) is.stand is.at (here, tt);
      at = omega (arith, is.at, length-append is.front (piece ∷ []));
      may_is = sym (may_behind-append true is.front (piece ∷ []));
    }

-- no page goes on with those that were read
read_ends : (files : LogFiles) (first number : ℕ) (may : Bool) → IsReadTo files first number may → next_piece (pieces_of files) number may ≡ None → EndsFront files first number
read_ends files first number may is none = record {
  whole = is.front;
  front = record {
    stand = is.stand;
    end = ap (λ (k : ℕ). next_piece (pieces_of files) k (may_behind true is.front)) (sym is.at) ∙ subst (λ (b : Bool). next_piece (pieces_of files) number b ≡ None) is.may_is none;
  };
  end_is = is.at;
}

-- the next page isn't valid
pub read_invalid : (files : LogFiles) (first number : ℕ) (may : Bool) → IsReadTo files first number may → pieces_of files number ≡ None → EndsFront files first number
read_invalid files first number may is none = read_ends files first number may is (next_none (pieces_of files) number may none)

-- the next page doesn't go on with the last one
pub read_apart : (files : LogFiles) (first number : ℕ) (may : Bool) (piece : Piece) → IsReadTo files first number may → pieces_of files number ≡ Some piece → (piece.0 || may) ≡ false → EndsFront files first number
unfolding next_piece
read_apart files first number may piece is valid apart =
    read_ends files first number may is
    (ap (option_and_then (λ (x : Piece). if x.0 || may then Some x else None)) valid ∙ ap (λ (b : Bool). if b then Some piece else None) apart)

-- what a reader holds, where its page is valid and where it isn't
pub loaded_some : (used : ℕ) (begins : Bool) (page : List ℕ) → is_some (if used == 0 then None else let p : Piece = (begins, take used (drop 16 page)) in Some p) ≡ true
    → (if used == 0 then None else let p : Piece = (begins, take used (drop 16 page)) in Some p) ≡ Some (begins, take used (drop 16 page))
loaded_some used begins page valid = by (used == 0) valid
  where
    by : (b : Bool) → is_some (if b then None else let p : Piece = (begins, take used (drop 16 page)) in Some p) ≡ true → (if b then None else let p : Piece = (begins, take used (drop 16 page)) in Some p) ≡ Some (begins, take used (drop 16 page))
    by true v = absurd (cc)
    by false v = refl

pub loaded_none : (o : Option Piece) → is_some o ≡ false → o ≡ None
loaded_none None e = refl
loaded_none (Some p) e = absurd (cc)

-- a page that is numbered too high holds nothing
pub last_piece : (files : LogFiles) (n : ℕ) → 2 ^ 34 - 1 ≤ n → pieces_of files n ≡ None
unfolding pieces_of
last_piece files n high = high_reads n (page_or_zero (n % 1024) (files (n / 1024))) high

-- the last page is never used, so it isn't read
pub never_all : (files : LogFiles) (first number : ℕ) (may : Bool) → first < 2 ^ 34 → number ≡ 2 ^ 34 → IsReadTo files first number may → ⊥
never_all files first number may low at is = unread (is.front) first true low (omega (arith, is.at, at)) is.stand
  where
    unread : (ps : List Piece) (n : ℕ) (may : Bool) → n < 2 ^ 34 → n + length ps ≡ 2 ^ 34 → Stand (pieces_of files) n may ps → ⊥
    unread [] n may low at stand = omega (arith, low, at)
    unread (p ∷ ps) n may low at stand = elim (cases_lt n (2 ^ 34 - 1)) [
      | inl less ↦ unread ps (n + 1) (is_full p) (omega (arith, less)) (omega (arith, at)) stand.1
      | inr last ↦ let e : None ≡ Some p = sym (next_none (pieces_of files) n may (last_piece files n last)) ∙ stand.0 in cc
    ]

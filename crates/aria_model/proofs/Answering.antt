-- What a reader answers to the tokens of a line, in the words of the grammar.
use Rattle.std.proofs.Common.{◌≡◌, ℕ, List, [], ◌∷◌, ◌++◌, Result, refl, sym, ap, subst, ◌∙◌, append_assoc}
use Rattle.std.specs.List.{list_any}
use Rattle.aria_model.specs.declared.refusal.Refusal.{Refusal}
use Rattle.aria_model.specs.declared.statement.Statement.{Statement}
use Rattle.aria_model.specs.Token.{Token, Number, Wide, End, tokens}
use Rattle.aria_model.specs.Grammar.{Tokens, statement}
use Rattle.aria_model.specs.Spelling.{◌·◌, IsStatement, Begins, kinds, is_wide, IsNarrow, Spells, FirstBad, TooWide, Answers, spells, no_definition, first_bad, too_wide}
use Rattle.aria_model.proofs.Languages.{Example}
use Rattle.aria_model.proofs.Telling.{AllTaken, neither_holds, Bad, Wider, Told, read, undefined, bad, wider}
use Rattle.aria_model.proofs.Ended.{IsInside, taken_inside, tokens_ended}
use Rattle.aria_model.proofs.Statements.{FINISH, statement_told}

-- ---- what stands before the end

abbrev pub AllInside : List Token → Type 0
AllInside [] = Unit {0}
AllInside (t ∷ ts) = IsInside t × AllInside ts

all_inside : (xs : List Token) → AllTaken xs → AllInside xs
all_inside [] h = tt
all_inside (t ∷ xs) h = (taken_inside t h.0, all_inside xs h.1)

inside_more : (xs : List Token) (t : Token) → AllInside xs → IsInside t → AllInside (xs ++ t ∷ [])
inside_more [] t h i = (i, tt)
inside_more (x ∷ xs) t h i = (h.0, inside_more xs t h.1 i)

-- Tokens that don't end the line, and others, are all that stands before the end and the end: they are part of what stands before it.
part_of : (xs w front : List Token) → AllInside xs → xs ++ w ≡ front ++ End ∷ [] → Example (λ v. xs ++ v ≡ front)
part_of [] w front a e = record { tokens = front; holds = refl }
part_of (t ∷ xs) w [] a e =
    let same : t ≡ End = cc in
    absurd (subst IsInside same a.0)
part_of (t ∷ xs) w (f ∷ front) a e =
    let same : t ≡ f = cc in
    let rest : xs ++ w ≡ front ++ End ∷ [] = cc in
    let more = part_of xs w front a.1 rest in
    record { tokens = more.tokens; holds = ap (λ (u : Token). u ∷ (xs ++ more.tokens)) same ∙ ap (λ (u : List Token). f ∷ u) more.holds }

is_the_end : (w : List Token) → FINISH w → w ≡ End ∷ []
is_the_end [] h = absurd h
is_the_end (End ∷ []) h = refl
is_the_end (t ∷ []) h = absurd h
is_the_end (t ∷ u ∷ ts) h = absurd h

before_end : {w : List Token} (j : (IsStatement · FINISH) w) → w ≡ j.front ++ End ∷ []
before_end j = j.whole ∙ ap (λ (u : List Token). j.front ++ u) (is_the_end j.behind j.second)

begins : (xs : List Token) → AllInside xs → Example (λ w. (IsStatement · FINISH) (xs ++ w)) → Begins xs
begins xs a ex =
    let part = part_of xs ex.tokens ex.holds.front a (before_end ex.holds) in
    (part.tokens, subst IsStatement (sym part.holds) ex.holds.first)

begins_more : (xs : List Token) (t : Token) → AllInside xs → IsInside t → Example (λ w. (IsStatement · FINISH) (xs ++ t ∷ w)) → Begins (xs ++ t ∷ [])
begins_more xs t a i ex = begins (xs ++ t ∷ []) (inside_more xs t a i) (record { tokens = ex.tokens; holds = subst (IsStatement · FINISH) (sym (append_assoc xs (t ∷ []) ex.tokens)) ex.holds })

narrow_front : (xs ys : List Token) → IsNarrow (xs ++ ys) → IsNarrow xs
narrow_front [] ys n = refl
narrow_front (t ∷ xs) ys n =
    let parts = neither_holds (is_wide t) (list_any is_wide (xs ++ ys)) n in
    rw parts.0 (narrow_front xs ys parts.1)

taken_all : (xs : List Token) → AllTaken xs → IsNarrow xs
taken_all [] h = refl
taken_all (Wide ∷ xs) h = absurd h.0
taken_all (t ∷ xs) h = taken_all xs h.1

-- ---- from the language with its end to statements

spelled : {ts : Tokens} → (IsStatement · FINISH) (kinds ts) → IsNarrow (kinds ts) → Spells ts
spelled {ts} j n = record { tokens = j.front; whole = before_end j; is = j.first; narrow = narrow_front j.front (End ∷ []) (subst IsNarrow (before_end j) n) }

first_bad_of : {ts : Tokens} {at : ℕ} → Bad (IsStatement · FINISH) ts at → FirstBad ts at
first_bad_of b = record {
  before = b.before;
  token = b.token;
  after = b.after;
  parts = b.parts;
  narrow = taken_all (kinds b.before) b.taken;
  begin = begins (kinds b.before) (all_inside (kinds b.before) b.taken) b.begin;
  no_more = λ more. b.no_more (more.0 ++ End ∷ []) (record {
    front = (kinds b.before ++ b.token ∷ []) ++ more.0;
    behind = End ∷ [];
    whole = sym (append_assoc (kinds b.before ++ b.token ∷ []) more.0 (End ∷ []) ∙ append_assoc (kinds b.before) (b.token ∷ []) (more.0 ++ End ∷ []));
    first = more.1;
    second = tt;
  });
  unfinished = λ ends is. b.no_more [] (record { front = kinds b.before; behind = End ∷ []; whole = ap (λ (u : Token). kinds b.before ++ u ∷ []) ends; first = is; second = tt });
}

too_wide_of : {ts : Tokens} {at : ℕ} → Wider (IsStatement · FINISH) ts at → TooWide ts at
too_wide_of b = record {
  before = b.before;
  after = b.after;
  parts = b.parts;
  narrow = taken_all (kinds b.before) b.taken;
  begin = begins_more (kinds b.before) Wide (all_inside (kinds b.before) b.taken) tt b.begin;
  may_stand = λ n. begins_more (kinds b.before) (Number n) (all_inside (kinds b.before) b.taken) tt (b.may_stand n);
}

answers_of : {ts : Tokens} {r : Result Statement Refusal} → Told (IsStatement · FINISH) ts r → Answers ts r
answers_of (read h n) = spells (spelled h n)
answers_of (undefined h n) = no_definition (spelled h n)
answers_of (bad b) = first_bad (first_bad_of b)
answers_of (wider b) = too_wide (too_wide_of b)

-- What the tokens of a line spell, or where they are wrong, is as the grammar tells.
pub statement_answers : (line : List ℕ) → Answers (tokens line) (statement (tokens line))
statement_answers line = answers_of (statement_told (tokens line) (tokens_ended line))

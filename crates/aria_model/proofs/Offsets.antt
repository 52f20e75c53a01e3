-- A refusal names the offset of the first token that is wrong, and each line has the answer that the grammar tells.
use Rattle.std.proofs.Common.{◌≡◌, ◌↔◌, ℕ, Bool, true, false, not, List, length, nat_le, if◌then◌else◌, Some, None, Result, Ok, Err, refl, sym, ap, subst, ◌∙◌, ◌⊎◌, inl, inr}
use Rattle.std.specs.List.{list_all}
use Rattle.aria_model.specs.declared.refusal.Which.{Which}
use Rattle.aria_model.specs.declared.refusal.Refusal.{Refusal}
use Rattle.aria_model.specs.declared.refusal.Refusal.TheVariants.{BadStatement, LineTooLong, NumberTooWide, BadDefinition}
use Rattle.aria_model.specs.declared.statement.Statement.{Statement}
use Rattle.aria_model.specs.Token.{Wide, tokens, is_blank}
use Rattle.aria_model.specs.Grammar.{Tokens, ◌>>=◌, statement, read_line}
use Rattle.aria_model.specs.Spelling.{Stands, Spells, FirstBad, TooWide, IsReading, Answers, spells, no_definition, first_bad, too_wide}
use Rattle.aria_model.proofs.Ended.{token_stands}
use Rattle.aria_model.proofs.Answering.{statement_answers}
use Rattle.aria_model.proofs.OneAnswer.{bad_bad, bad_wide, wide_wide, bad_spells, wide_spells}

the_bad : {ts : Tokens} {at : ℕ} → Answers ts (Err (BadStatement at)) → FirstBad ts at
the_bad (first_bad b) = b

the_wide : {ts : Tokens} {at : ℕ} → Answers ts (Err (NumberTooWide at)) → TooWide ts at
the_wide (too_wide w) = w

the_spelled : {ts : Tokens} {r : Result Statement Refusal} → Answers ts r → IsReading r → Spells ts
the_spelled (spells s) h = s
the_spelled (no_definition s) h = s
the_spelled (first_bad b) h = absurd h
the_spelled (too_wide w) h = absurd h

bad_answer : {ts : Tokens} {at : ℕ} {r : Result Statement Refusal} → FirstBad ts at → Answers ts r → r ≡ Err (BadStatement at)
bad_answer b (spells s) = absurd (bad_spells b s)
bad_answer b (no_definition s) = absurd (bad_spells b s)
bad_answer b (first_bad c) = ap (λ (a : ℕ). Err (BadStatement a)) (bad_bad c b)
bad_answer b (too_wide w) = absurd (bad_wide b w)

wide_answer : {ts : Tokens} {at : ℕ} {r : Result Statement Refusal} → TooWide ts at → Answers ts r → r ≡ Err (NumberTooWide at)
wide_answer w (spells s) = absurd (wide_spells w s)
wide_answer w (no_definition s) = absurd (wide_spells w s)
wide_answer w (first_bad b) = absurd (bad_wide b w)
wide_answer w (too_wide v) = ap (λ (a : ℕ). Err (NumberTooWide a)) (wide_wide v w)

spelled_answer : {ts : Tokens} {r : Result Statement Refusal} → Spells ts → Answers ts r → IsReading r
spelled_answer s (spells t) = tt
spelled_answer s (no_definition t) = tt
spelled_answer s (first_bad b) = absurd (bad_spells b s)
spelled_answer s (too_wide w) = absurd (wide_spells w s)

-- ---- the tokens of a line

-- A statement is bad at an offset exactly if the token there is the first with which the tokens so far begin no statement.
pub bad_at : (line : List ℕ) (at : ℕ) → (statement (tokens line) ≡ Err (BadStatement at)) ↔ FirstBad (tokens line) at
bad_at line at = (λ e. the_bad (subst (Answers (tokens line)) e (statement_answers line)), λ b. bad_answer b (statement_answers line))

-- A number is too wide at an offset exactly if one may stand there and that one is the first that doesn't fit.
pub wide_at : (line : List ℕ) (at : ℕ) → (statement (tokens line) ≡ Err (NumberTooWide at)) ↔ TooWide (tokens line) at
wide_at line at = (λ e. the_wide (subst (Answers (tokens line)) e (statement_answers line)), λ w. wide_answer w (statement_answers line))

-- A statement is read exactly if the tokens before the end are one, with numbers that fit.
pub read_at : (line : List ℕ) → IsReading (statement (tokens line)) ↔ Spells (tokens line)
read_at line = (λ h. the_spelled (statement_answers line) h, λ s. spelled_answer s (statement_answers line))

-- ---- lines

line_is : (within blank : Bool) (r : Result Statement Refusal) → within ≡ true → blank ≡ false
    → (if not within then Err LineTooLong else if blank then Ok None else (r >>= λ s. Ok (Some s))) ≡ (r >>= λ s. Ok (Some s))
line_is true true r w b = absurd cc
line_is true false r w b = refl
line_is false blank r w b = absurd cc

-- A line that is not too long and not blank is read as its tokens are.
pub read_line_is : (line : List ℕ) → nat_le (length line) 1048576 ≡ true → list_all is_blank line ≡ false → read_line line ≡ (statement (tokens line) >>= λ s. Ok (Some s))
unfolding read_line
read_line_is line within some = line_is (nat_le (length line) 1048576) (list_all is_blank line) (statement (tokens line)) within some

refused_by : (r : Result Statement Refusal) (why : Refusal) → (r >>= λ s. Ok (Some s)) ≡ Err why → r ≡ Err why
refused_by (Ok s) why e = absurd cc
refused_by (Err other) why e =
    let same : other ≡ why = cc in
    ap (λ (w : Refusal). Err w) same

refused : (within blank : Bool) (r : Result Statement Refusal) (why : Refusal)
    → (if not within then Err LineTooLong else if blank then Ok None else (r >>= λ s. Ok (Some s))) ≡ Err why → (why ≡ LineTooLong) ⊎ (r ≡ Err why)
refused false blank r why e = inl (cc)
refused true true r why e = absurd cc
refused true false r why e = inr (refused_by r why e)

line_refused : (line : List ℕ) (why : Refusal) → read_line line ≡ Err why → (why ≡ LineTooLong) ⊎ (statement (tokens line) ≡ Err why)
unfolding read_line
line_refused line why e = refused (nat_le (length line) 1048576) (list_all is_blank line) (statement (tokens line)) why e

bad_by : (line : List ℕ) (at : ℕ) → (BadStatement at ≡ LineTooLong) ⊎ (statement (tokens line) ≡ Err (BadStatement at)) → FirstBad (tokens line) at
bad_by line at (inl e) = absurd cc
bad_by line at (inr e) = (bad_at line at).0 e

-- The offset of a bad statement is that of the first token with which the tokens so far begin no statement.
pub line_bad_at : (line : List ℕ) (at : ℕ) → read_line line ≡ Err (BadStatement at) → FirstBad (tokens line) at
line_bad_at line at e = bad_by line at (line_refused line (BadStatement at) e)

wide_by : (line : List ℕ) (at : ℕ) → (NumberTooWide at ≡ LineTooLong) ⊎ (statement (tokens line) ≡ Err (NumberTooWide at)) → TooWide (tokens line) at
wide_by line at (inl e) = absurd cc
wide_by line at (inr e) = (wide_at line at).0 e

-- The offset of a number that is too wide is that of the first that may stand where it stands and doesn't fit.
pub line_wide_at : (line : List ℕ) (at : ℕ) → read_line line ≡ Err (NumberTooWide at) → TooWide (tokens line) at
line_wide_at line at e = wide_by line at (line_refused line (NumberTooWide at) e)

undefined_by : (line : List ℕ) (which : Which) → (BadDefinition which ≡ LineTooLong) ⊎ (statement (tokens line) ≡ Err (BadDefinition which)) → Spells (tokens line)
undefined_by line which (inl e) = absurd cc
undefined_by line which (inr e) = (read_at line).0 (subst IsReading (sym e) tt)

-- Where a definition is bad, the tokens before the end are a statement.
pub line_undefined : (line : List ℕ) (which : Which) → read_line line ≡ Err (BadDefinition which) → Spells (tokens line)
line_undefined line which e = undefined_by line which (line_refused line (BadDefinition which) e)

made : (r : Result Statement Refusal) (s : Statement) → (r >>= λ t. Ok (Some t)) ≡ Ok (Some s) → r ≡ Ok s
made (Ok t) s e =
    let same : t ≡ s = cc in
    ap (λ (u : Statement). Ok u) same
made (Err why) s e = absurd cc

read_by : (within blank : Bool) (r : Result Statement Refusal) (s : Statement)
    → (if not within then Err LineTooLong else if blank then Ok None else (r >>= λ t. Ok (Some t))) ≡ Ok (Some s) → r ≡ Ok s
read_by false blank r s e = absurd cc
read_by true true r s e = absurd cc
read_by true false r s e = made r s e

-- Where a statement is read, the tokens before the end are a statement.
pub line_spells : (line : List ℕ) (s : Statement) → read_line line ≡ Ok (Some s) → Spells (tokens line)
unfolding read_line
line_spells line s e = (read_at line).0 (subst IsReading (sym (read_by (nat_le (length line) 1048576) (list_all is_blank line) (statement (tokens line)) s e)) tt)

-- And conversely, on a line that is not too long and not blank.
pub line_bad : (line : List ℕ) (at : ℕ) → nat_le (length line) 1048576 ≡ true → list_all is_blank line ≡ false → FirstBad (tokens line) at → read_line line ≡ Err (BadStatement at)
line_bad line at within some bad = read_line_is line within some ∙ ap (λ (r : Result Statement Refusal). r >>= λ s. Ok (Some s)) ((bad_at line at).1 bad)

pub line_wide : (line : List ℕ) (at : ℕ) → nat_le (length line) 1048576 ≡ true → list_all is_blank line ≡ false → TooWide (tokens line) at → read_line line ≡ Err (NumberTooWide at)
line_wide line at within some wide = read_line_is line within some ∙ ap (λ (r : Result Statement Refusal). r >>= λ s. Ok (Some s)) ((wide_at line at).1 wide)

reading_on : (r : Result Statement Refusal) → IsReading r → IsReading (r >>= λ s. Ok (Some s))
reading_on (Ok s) h = tt
reading_on (Err why) h = h

pub line_read : (line : List ℕ) → nat_le (length line) 1048576 ≡ true → list_all is_blank line ≡ false → Spells (tokens line) → IsReading (read_line line)
line_read line within some are = subst IsReading (sym (read_line_is line within some)) (reading_on (statement (tokens line)) ((read_at line).1 are))

-- The offset is where the token stands: where no token begins, it is that byte's, and where the tokens run out, the line's length.
pub bad_stands : (line : List ℕ) (at : ℕ) (bad : FirstBad (tokens line) at) → Stands line at bad.token
bad_stands line at bad = token_stands line bad.before at bad.token bad.after bad.parts

-- So is that of a number that is too wide.
pub wide_stands : (line : List ℕ) (at : ℕ) → TooWide (tokens line) at → Stands line at Wide
wide_stands line at wide = token_stands line wide.before at Wide wide.after wide.parts

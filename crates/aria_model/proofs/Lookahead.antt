-- Where two tokens say what is read: the limit on rows and the columns.
use Rattle.std.proofs.Common.{◌≡◌, ℕ, ◌≤◌, List, [], ◌∷◌, length, Bool, true, false, if◌then◌else◌, ◌==◌, ◌&&◌, not, Option, Some, None, Result, Ok, refl, sym, subst, arith}
use Rattle.std.specs.Prelude.{pos, codes}
use Rattle.std.specs.Cmp.Lexicographic.{same_text, other_text}
use Rattle.std.proofs.lemmas.Bool.{eqb-true, eqb-false}
use Rattle.aria_value.specs.Defined.{same_name}
use Rattle.aria_model.specs.declared.refusal.Refusal.{Refusal}
use Rattle.aria_model.specs.Token.{Token, Word, Sign}
use Rattle.aria_model.specs.Grammar.{Tokens, another_column, row_limit, max_rows}
use Rattle.aria_model.specs.Spelling.{Language, nothing, one, ◌·◌, left, optional, Sequence, IsName, IsWord, IsSign, word, colon, equals, NUMBER, TYPE, COLUMN, LIMIT}
use Rattle.aria_model.proofs.Languages.{Example, back, front_two, onto_one, joined_assoc, nothing_joined, optional_joined, sequence_joined, Tail, Heads, heads_one, heads_joined, joined_example, optional_example}
use Rattle.aria_model.proofs.Telling.{IsEnded, Told, same_told, left_told, right_told, by_first, by_second, From, Any, and_then, fewer, behind_one, left_out}
use Rattle.aria_model.proofs.Lists.{Joins, rest_of}
use Rattle.aria_model.proofs.OneToken.{sign_example, sign_from, number_example, number_from}
use Rattle.aria_model.proofs.Productions.{sign_apart, kept_heads, type_example}

-- ---- the limit on rows

-- what may stand behind an optional limit: any word begins it, and a colon is behind the word
pub record BeginsColumn (M : Language) : Type 0 where
  pub colon : (t u : Token) (w : List Token) → M (t ∷ u ∷ w) → IsSign 58 u
  pub any : (found : List ℕ) → Example (λ w. M (Word found ∷ w))

abbrev AMOUNT : Language
AMOUNT = equals · NUMBER

amount_example : Example AMOUNT
amount_example = joined_example (sign_example 61) number_example

pub limit_example : Example (optional LIMIT)
limit_example = optional_example LIMIT

row_limit_from : (ts : Tokens) → IsEnded ts → From Any AMOUNT 1 rest_of ts (row_limit ts)
row_limit_from ts e = and_then (sign_from 61 ts e) number_example (λ M d. tt) (λ equals e1 l1. number_from equals e1)

heads_limit : Heads (IsWord (codes "max_rows")) LIMIT
heads_limit = heads_joined AMOUNT (heads_one (IsWord (codes "max_rows")))

limit_behind : (M : Language) → Example M → (found : List ℕ) → found ≡ codes "max_rows" → Example (λ w. (LIMIT · M) (Word found ∷ w))
limit_behind M m found is =
    let rest : Example (AMOUNT · M) = joined_example amount_example m in
    record { tokens = rest.tokens; holds = (joined_assoc (word (codes "max_rows")) AMOUNT M).from (Word found ∷ rest.tokens) (onto_one {C = IsWord (codes "max_rows")} is rest.holds) }

-- the word, and no colon behind it
limit_stands : (at : ℕ) (found : List ℕ) (at2 : ℕ) (u : Token) (ts : Tokens) → IsEnded ((at2, u) ∷ ts) → found ≡ codes "max_rows" → ¬ (IsSign 58 u)
    → From BeginsColumn (optional LIMIT) 0 rest_of ((at, Word found) ∷ (at2, u) ∷ ts) (row_limit ((at2, u) ∷ ts))
limit_stands at found at2 u ts e is not = record {
  told = λ M g may m follows. same_told (back (optional_joined LIMIT M))
      (right_told (by_second (limit_behind M m found is) (λ w h. not (may.colon (Word found) u w h)))
      ((behind_one {class = IsWord (codes "max_rows")} {t = Word found} tt is (fewer (row_limit_from ((at2, u) ∷ ts) e))).told M g tt m follows));
}

-- the word as a column's name
name_stands : (at : ℕ) (found : List ℕ) (at2 : ℕ) (u : Token) (ts : Tokens) → IsEnded ((at2, u) ∷ ts) → IsSign 58 u
    → From BeginsColumn (optional LIMIT) 0 rest_of ((at, Word found) ∷ (at2, u) ∷ ts) (Ok (pos 16777216, (at, Word found) ∷ (at2, u) ∷ ts))
name_stands at found at2 u ts e is = record {
  told = λ M g may m follows. same_told (back (optional_joined LIMIT M))
      (left_told (by_second (may.any found) (λ w h. sign_apart 61 58 refl u (front_two {C = IsWord (codes "max_rows")} {D = IsSign 61} h).1 is))
      (follows (pos 16777216, (at, Word found) ∷ (at2, u) ∷ ts) e (omega arith)));
}

limit_by : (at : ℕ) (found : List ℕ) (at2 s : ℕ) (ts : Tokens) → IsEnded ts → (a b : Bool) → a ≡ same_name found (codes "max_rows") → (s == 58) ≡ b
    → From BeginsColumn (optional LIMIT) 0 rest_of ((at, Word found) ∷ (at2, Sign s) ∷ ts) (if a && not b then row_limit ((at2, Sign s) ∷ ts) else Ok (pos 16777216, (at, Word found) ∷ (at2, Sign s) ∷ ts))
limit_by at found at2 s ts e true false is not = limit_stands at found at2 (Sign s) ts e (same_text found (codes "max_rows") is) (eqb-false s 58 not)
limit_by at found at2 s ts e true true is stands = name_stands at found at2 (Sign s) ts e (eqb-true s 58 stands)
limit_by at found at2 s ts e false b is stands = left_out heads_limit (other_text found (codes "max_rows") is) e refl

limit_by_word : (at : ℕ) (found : List ℕ) (at2 : ℕ) (u : Token) (ts : Tokens) → IsEnded ((at2, u) ∷ ts) → ¬ (IsSign 58 u) → (a : Bool) → a ≡ same_name found (codes "max_rows")
    → From BeginsColumn (optional LIMIT) 0 rest_of ((at, Word found) ∷ (at2, u) ∷ ts) (if a then row_limit ((at2, u) ∷ ts) else Ok (pos 16777216, (at, Word found) ∷ (at2, u) ∷ ts))
limit_by_word at found at2 u ts e not true is = limit_stands at found at2 u ts e (same_text found (codes "max_rows") is) not
limit_by_word at found at2 u ts e not false is = left_out heads_limit (other_text found (codes "max_rows") is) e refl

pub max_rows_from : (ts : Tokens) → IsEnded ts → From BeginsColumn (optional LIMIT) 0 rest_of ts (max_rows ts)
max_rows_from [] e = absurd e
max_rows_from ((at, Word found) ∷ []) e = absurd e
max_rows_from ((at, Word found) ∷ (at2, Sign s) ∷ ts) e = limit_by at found at2 s ts e (same_name found (codes "max_rows")) (s == 58) refl refl
max_rows_from ((at, Word found) ∷ (at2, u) ∷ ts) e = limit_by_word at found at2 u ts e (λ h. h) (same_name found (codes "max_rows")) refl
max_rows_from ((at, t) ∷ ts) e = left_out heads_limit (λ h. h) e refl

-- ---- columns

-- what may stand behind columns: the word keys, and no colon behind it
pub record BeginsKeys (M : Language) : Type 0 where
  pub word : (t : Token) (w : List Token) → M (t ∷ w) → IsWord (codes "keys") t
  pub no_colon : (t u : Token) (w : List Token) → M (t ∷ u ∷ w) → ¬ (IsSign 58 u)
  pub any : (found : List ℕ) → found ≡ codes "keys" → Example (λ w. M (Word found ∷ w))

-- further columns
abbrev COLUMNS : Language → Language
COLUMNS M = nothing · (Sequence COLUMN nothing · M)

heads_column : Heads IsName COLUMN
heads_column = heads_joined (colon · TYPE) (heads_one IsName)

pub sequence_colon : (M : Language) (t u : Token) (w : List Token) → (Sequence COLUMN nothing · M) (t ∷ u ∷ w) → IsSign 58 u
sequence_colon M t u w h = (front_two {C = IsName} {D = IsSign 58} ((sequence_joined COLUMN nothing M).to (t ∷ u ∷ w) h)).1

columns_colon : (M : Language) (t u : Token) (w : List Token) → COLUMNS M (t ∷ u ∷ w) → IsSign 58 u
columns_colon M t u w h = sequence_colon M t u w ((nothing_joined (Sequence COLUMN nothing · M)).to (t ∷ u ∷ w) h)

pub sequence_any : (M : Language) → Example M → (found : List ℕ) → Example (λ w. (Sequence COLUMN nothing · M) (Word found ∷ w))
sequence_any M m found =
    let behind : Example (Tail COLUMN nothing M) = record { tokens = m.tokens; holds = left m.holds } in
    let rest : Example ((colon · TYPE) · Tail COLUMN nothing M) = joined_example (joined_example (sign_example 58) type_example) behind in
    record {
      tokens = rest.tokens;
      holds = (sequence_joined COLUMN nothing M).from (Word found ∷ rest.tokens) ((joined_assoc (one IsName) (colon · TYPE) (Tail COLUMN nothing M)).from (Word found ∷ rest.tokens) (onto_one {C = IsName} {t = Word found} tt rest.holds));
    }

columns_any : (M : Language) → Example M → (found : List ℕ) → Example (λ w. COLUMNS M (Word found ∷ w))
columns_any M m found =
    let there = sequence_any M m found in
    record { tokens = there.tokens; holds = (nothing_joined (Sequence COLUMN nothing · M)).from (Word found ∷ there.tokens) there.holds }

-- what the tokens say: whether another column stands there
data Columns : Tokens → Option Tokens → Type 0 where
  no_word : {at : ℕ} {t : Token} {ts : Tokens} → ¬ (IsName t) → Columns ((at, t) ∷ ts) None
  keys_word : {at : ℕ} {found : List ℕ} {at2 : ℕ} {u : Token} {ts : Tokens} → found ≡ codes "keys" → ¬ (IsSign 58 u) → Columns ((at, Word found) ∷ (at2, u) ∷ ts) None
  other_word : {at : ℕ} {found : List ℕ} {ts : Tokens} → ¬ (found ≡ codes "keys") → Columns ((at, Word found) ∷ ts) (Some ((at, Word found) ∷ ts))
  named : {at : ℕ} {found : List ℕ} {at2 : ℕ} {u : Token} {ts : Tokens} → IsSign 58 u → Columns ((at, Word found) ∷ (at2, u) ∷ ts) (Some ((at, Word found) ∷ (at2, u) ∷ ts))

columns_by : (at : ℕ) (found : List ℕ) (at2 s : ℕ) (ts : Tokens) (a b : Bool) → a ≡ same_name found (codes "keys") → (s == 58) ≡ b
    → Columns ((at, Word found) ∷ (at2, Sign s) ∷ ts) (if a && not b then None else Some ((at, Word found) ∷ (at2, Sign s) ∷ ts))
columns_by at found at2 s ts true false is not = keys_word (same_text found (codes "keys") is) (eqb-false s 58 not)
columns_by at found at2 s ts true true is stands = named (eqb-true s 58 stands)
columns_by at found at2 s ts false b is stands = other_word (other_text found (codes "keys") is)

columns_by_word : (at : ℕ) (found : List ℕ) (at2 : ℕ) (u : Token) (ts : Tokens) → ¬ (IsSign 58 u) → (a : Bool) → a ≡ same_name found (codes "keys")
    → Columns ((at, Word found) ∷ (at2, u) ∷ ts) (if a then None else Some ((at, Word found) ∷ (at2, u) ∷ ts))
columns_by_word at found at2 u ts not true is = keys_word (same_text found (codes "keys") is) not
columns_by_word at found at2 u ts not false is = other_word (other_text found (codes "keys") is)

columns_are : (ts : Tokens) → IsEnded ts → Columns ts (another_column ts)
columns_are [] e = absurd e
columns_are ((at, Word found) ∷ []) e = absurd e
columns_are ((at, Word found) ∷ (at2, Sign s) ∷ ts) e = columns_by at found at2 s ts (same_name found (codes "keys")) (s == 58) refl refl
columns_are ((at, Word found) ∷ (at2, u) ∷ ts) e = columns_by_word at found at2 u ts (λ h. h) (same_name found (codes "keys")) refl
columns_are ((at, t) ∷ ts) e = no_word (λ h. h)

columns_end : {B : Type 0} {r : Result B Refusal} (M : Language) → BeginsKeys M → Example M → {ts : Tokens} {o : Option Tokens} → Columns ts o → o ≡ None → Told M ts r → Told (Tail COLUMN nothing M) ts r
columns_end M may m (no_word {t = t} not) e told = left_told (by_first (λ w h. not ((kept_heads heads_column M).heads (t ∷ w) h))) told
columns_end M may m (keys_word {found = found} {u = u} is not) e told = left_told (by_second (may.any found is) (λ w h. not (columns_colon M (Word found) u w h))) told
columns_end M may m (other_word not) e told = absurd cc
columns_end M may m (named is) e told = absurd cc

columns_rest : {ts : Tokens} {o : Option Tokens} (rest : Tokens) → Columns ts o → o ≡ Some rest → rest ≡ ts
columns_rest rest (no_word not) e = absurd cc
columns_rest rest (keys_word is not) e = absurd cc
columns_rest rest (other_word not) e = cc
columns_rest rest (named is) e = cc

columns_go : {B : Type 0} {r : Result B Refusal} (M : Language) → BeginsKeys M → Example M → {ts : Tokens} {o : Option Tokens} (rest : Tokens) → Columns ts o → o ≡ Some rest → Told (COLUMNS M) ts r → Told (Tail COLUMN nothing M) ts r
columns_go M may m rest (no_word not) e told = absurd cc
columns_go M may m rest (keys_word is not) e told = absurd cc
columns_go M may m rest (other_word {found = found} not) e told = right_told (by_first (λ w h. not (may.word (Word found) w h))) told
columns_go M may m rest (named {found = found} {u = u} is) e told = right_told (by_second (columns_any M m found) (λ w h. may.no_colon (Word found) u w h is)) told

-- columns one behind another
pub columns_join : Joins BeginsKeys Any COLUMN nothing another_column
columns_join = record {
  behind = λ M may. tt;
  ends = λ M may m ts e none told. columns_end M may m (columns_are ts e) none told;
  ended = λ ts rest e some. subst IsEnded (sym (columns_rest rest (columns_are ts e) some)) e;
  no_longer = λ ts rest e some. subst (λ (v : Tokens). length v ≤ length ts) (sym (columns_rest rest (columns_are ts e) some)) (omega arith);
  goes = λ {B} {r} M may m ts rest e some told. columns_go M may m rest (columns_are ts e) some
      (same_told (back (nothing_joined (Sequence COLUMN nothing · M))) (subst (λ (v : Tokens). Told (Sequence COLUMN nothing · M) v r) (columns_rest rest (columns_are ts e) some) told));
}

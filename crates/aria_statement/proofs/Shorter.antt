-- Each reader leaves fewer tokens than it was given.
use Rattle.std.proofs.Common.{◌≡◌, ℕ, suc, ◌<◌, ◌≤◌, ◌==◌, List, [], ◌∷◌, length, Some, Ok, refl, ap, inl, inr, arith, ℤ}
use Rattle.std.specs.Prelude.{codes}
use Rattle.aria_value.specs.declared.value.Value.{Value}
use Rattle.aria_value.specs.Defined.{same_name}
use Rattle.aria_model.specs.declared.statement.Setting.{Setting}
use Rattle.aria_model.specs.Token.{Word, Number, Wide, Quoted, Sign, End, Stray}
use Rattle.aria_model.specs.Grammar.{Tokens, ◌>>=◌, name, keyword, sign, number, value, items, limit, WrittenType, AnInt, AText, written_type, WrittenColumn, column, another_column, behind_comma, another_row, row, Special, Plain, special_word, special, WrittenKey, key, another_key, setting}
use Rattle.aria_statement.proofs.Steps.{bind_ok, chosen, done, done_same}
use Rattle.aria_statement.proofs.Items.{Shortens, items_shorter}

name_shorter : (ts : Tokens) (x : List ℕ × Tokens) → name ts ≡ Ok x → length x.1 < length ts
name_shorter ts x e = grind arith

keyword_shorter : (expected : List ℕ) (ts rest : Tokens) → keyword expected ts ≡ Ok rest → length rest < length ts
keyword_shorter expected ts rest e = grind arith

sign_shorter : (expected : ℕ) (ts rest : Tokens) → sign expected ts ≡ Ok rest → length rest < length ts
sign_shorter expected ts rest e = grind arith

number_shorter : (ts : Tokens) (x : ℤ × Tokens) → number ts ≡ Ok x → length x.1 < length ts
number_shorter ts x e = grind arith

value_shorter : (ts : Tokens) (x : Value × Tokens) → value ts ≡ Ok x → length x.1 < length ts
value_shorter ts x e = grind arith

behind_comma_shorter : (ts rest : Tokens) → behind_comma ts ≡ Some rest → length rest ≤ length ts
behind_comma_shorter ts rest e = grind arith

another_column_shorter : (ts rest : Tokens) → another_column ts ≡ Some rest → length rest ≤ length ts
another_column_shorter ts rest e = grind arith

another_row_shorter : (ts rest : Tokens) → another_row ts ≡ Some rest → length rest ≤ length ts
another_row_shorter ts rest e = grind arith

another_key_shorter : (ts rest : Tokens) → another_key ts ≡ Some rest → length rest ≤ length ts
another_key_shorter ts rest e = grind arith

special_word_shorter : (ts : Tokens) (x : Special × Tokens) → special_word ts ≡ Ok x → length x.1 < length ts
special_word_shorter ts x e = grind arith

-- nothing besides
plain_shorter : (ts : Tokens) (x : Special × Tokens) → done (Plain, ts) ≡ done x → length x.1 ≤ length ts
plain_shorter ts x e =
    let same = ap (λ (y : Special × Tokens). y.1) (done_same (Plain, ts) x e) in
    rw (← same) (omega arith)

special_shorter : (ts : Tokens) (x : Special × Tokens) → special ts ≡ Ok x → length x.1 ≤ length ts
special_shorter [] x e = plain_shorter [] x e
special_shorter ((at, Word w) ∷ ts) x e = plain_shorter ((at, Word w) ∷ ts) x e
special_shorter ((at, Number n) ∷ ts) x e = plain_shorter ((at, Number n) ∷ ts) x e
special_shorter ((at, Wide) ∷ ts) x e = plain_shorter ((at, Wide) ∷ ts) x e
special_shorter ((at, Quoted bytes) ∷ ts) x e = plain_shorter ((at, Quoted bytes) ∷ ts) x e
special_shorter ((at, Sign found) ∷ ts) x e =
    elim (chosen (found == 58) _ _ _ e) [
      | inl (colon, is) ↦ omega (arith, special_word_shorter ts x is)
      | inr (other, is) ↦ plain_shorter ((at, Sign found) ∷ ts) x is
    ]
special_shorter ((at, End) ∷ ts) x e = plain_shorter ((at, End) ∷ ts) x e
special_shorter ((at, Stray) ∷ ts) x e = plain_shorter ((at, Stray) ∷ ts) x e

pub names_shorten : Shortens name behind_comma
names_shorten = record { shorter = name_shorter; no_longer = behind_comma_shorter; nothing = refl }

pub values_shorten : Shortens value behind_comma
values_shorten = record { shorter = value_shorter; no_longer = behind_comma_shorter; nothing = refl }

limit_shorter : (ts : Tokens) (x : ℤ × Tokens) → limit ts ≡ Ok x → length x.1 < length ts
limit_shorter ts x e =
    let opened = bind_ok (sign 40 ts) _ x e in
    let n = bind_ok (number opened.0) _ x opened.2 in
    let closed = bind_ok (sign 41 n.0.1) _ x n.2 in
    let same = ap (λ (y : ℤ × Tokens). y.1) (done_same _ x closed.2) in
    rw (← same) (omega (arith, sign_shorter 40 ts opened.0 opened.1, number_shorter opened.0 n.0 n.1, sign_shorter 41 n.0.1 closed.0 closed.1))

-- a text's limit behind its word
text_shorter : (ts : Tokens) (x : WrittenType × Tokens) → (limit ts >>= λ n. Ok (AText n.0, n.1)) ≡ Ok x → length x.1 < suc (length ts)
text_shorter ts x e =
    let n = bind_ok (limit ts) _ x e in
    let same = ap (λ (y : WrittenType × Tokens). y.1) (done_same _ x n.2) in
    rw (← same) (omega (arith, limit_shorter ts n.0 n.1))

type_shorter : (ts : Tokens) (x : WrittenType × Tokens) → written_type ts ≡ Ok x → length x.1 < length ts
type_shorter [] x e = absurd cc
type_shorter ((at, Word word) ∷ ts) x e =
    elim (chosen (same_name word (codes "int")) _ _ _ e) [
      | inl (int, is) ↦
          let same = ap (λ (y : WrittenType × Tokens). y.1) (done_same (AnInt, ts) x is) in
          rw (← same) (omega arith)
      | inr (other, rest) ↦ elim (chosen (same_name word (codes "text")) _ _ _ rest) [
        | inl (text, is) ↦ text_shorter ts x is
        | inr (neither, is) ↦ absurd cc
      ]
    ]
type_shorter ((at, Number n) ∷ ts) x e = absurd cc
type_shorter ((at, Wide) ∷ ts) x e = absurd cc
type_shorter ((at, Quoted bytes) ∷ ts) x e = absurd cc
type_shorter ((at, Sign sign) ∷ ts) x e = absurd cc
type_shorter ((at, End) ∷ ts) x e = absurd cc
type_shorter ((at, Stray) ∷ ts) x e = absurd cc

column_shorter : (ts : Tokens) (x : WrittenColumn × Tokens) → column ts ≡ Ok x → length x.1 < length ts
column_shorter ts x e =
    let n = bind_ok (name ts) _ x e in
    let colon = bind_ok (sign 58 n.0.1) _ x n.2 in
    let kind = bind_ok (written_type colon.0) _ x colon.2 in
    let same = ap (λ (y : WrittenColumn × Tokens). y.1) (done_same _ x kind.2) in
    rw (← same) (omega (arith, name_shorter ts n.0 n.1, sign_shorter 58 n.0.1 colon.0 colon.1, type_shorter colon.0 kind.0 kind.1))

pub columns_shorten : Shortens column another_column
columns_shorten = record { shorter = column_shorter; no_longer = another_column_shorter; nothing = refl }

row_shorter : (ts : Tokens) (x : List Value × Tokens) → row ts ≡ Ok x → length x.1 < length ts
row_shorter ts x e =
    let opened = bind_ok (sign 40 ts) _ x e in
    let values = bind_ok (items value behind_comma opened.0) _ x opened.2 in
    let closed = bind_ok (sign 41 values.0.1) _ x values.2 in
    let same = ap (λ (y : List Value × Tokens). y.1) (done_same _ x closed.2) in
    rw (← same) (omega (arith, sign_shorter 40 ts opened.0 opened.1, items_shorter value behind_comma values_shorten opened.0 values.0 values.1, sign_shorter 41 values.0.1 closed.0 closed.1))

pub rows_shorten : Shortens row another_row
rows_shorten = record { shorter = row_shorter; no_longer = another_row_shorter; nothing = refl }

key_shorter : (ts : Tokens) (x : WrittenKey × Tokens) → key ts ≡ Ok x → length x.1 < length ts
key_shorter ts x e =
    let n = bind_ok (name ts) _ x e in
    let opened = bind_ok (sign 40 n.0.1) _ x n.2 in
    let columns = bind_ok (items name behind_comma opened.0) _ x opened.2 in
    let closed = bind_ok (sign 41 columns.0.1) _ x columns.2 in
    let kind = bind_ok (special closed.0) _ x closed.2 in
    let same = ap (λ (y : WrittenKey × Tokens). y.1) (done_same _ x kind.2) in
    rw (← same) (omega (arith, name_shorter ts n.0 n.1, sign_shorter 40 n.0.1 opened.0 opened.1, items_shorter name behind_comma names_shorten opened.0 columns.0 columns.1, sign_shorter 41 columns.0.1 closed.0 closed.1, special_shorter closed.0 kind.0 kind.1))

pub keys_shorten : Shortens key another_key
keys_shorten = record { shorter = key_shorter; no_longer = another_key_shorter; nothing = refl }

setting_shorter : (ts : Tokens) (x : Setting × Tokens) → setting ts ≡ Ok x → length x.1 < length ts
setting_shorter ts x e =
    let n = bind_ok (name ts) _ x e in
    let equals = bind_ok (sign 61 n.0.1) _ x n.2 in
    let v = bind_ok (value equals.0) _ x equals.2 in
    let same = ap (λ (y : Setting × Tokens). y.1) (done_same _ x v.2) in
    rw (← same) (omega (arith, name_shorter ts n.0 n.1, sign_shorter 61 n.0.1 equals.0 equals.1, value_shorter equals.0 v.0 v.1))

pub settings_shorten : Shortens setting behind_comma
settings_shorten = record { shorter = setting_shorter; no_longer = behind_comma_shorter; nothing = refl }

-- Each production of the grammar is read as its language tells.
use Rattle.std.proofs.Common.{◌≡◌, ℕ, [], ◌∷◌, Bool, true, false, if◌then◌else◌, ◌==◌, not, Some, None, Result, Ok, Err, refl, sym, ◌∙◌, ◌⊎◌, arith}
use Rattle.std.specs.Prelude.{codes}
use Rattle.std.proofs.lemmas.Bool.{eqb-true, eqb-false}
use Rattle.aria_value.specs.Defined.{same_name}
use Rattle.aria_model.specs.declared.refusal.Refusal.{Refusal}
use Rattle.aria_model.specs.declared.refusal.Refusal.TheVariants.{BadStatement}
use Rattle.aria_model.specs.Token.{Token, Word, Sign}
use Rattle.aria_model.specs.Grammar.{Tokens, ◌>>=◌, name, value, limit, written_type, WrittenType, AnInt, AText, column, behind_comma, another_row, row, sought, special_word, special, Plain, key, another_key, setting}
use Rattle.aria_model.specs.Spelling.{Language, nothing, ◌·◌, Either, ◌∪◌, optional, Sequence, IsName, IsWord, IsSign, word, opening, closing, comma, list, NAME, NUMBER, VALUE, ROW, TYPE, COLUMN, SPECIAL, KEY, SETTING}
use Rattle.aria_model.proofs.Languages.{Example, Same, back, both, front_one, onto_one, joined_assoc, nothing_joined, either_joined, either_same, same_self, Heads, heads_one, heads_joined, heads_either, heads_same, heads_sequence, Avoids, avoids_heads, avoids_either, joined_example, left_example, optional_example, sequence_example}
use Rattle.aria_model.proofs.Telling.{IsTaken, IsEnded, ended_behind, Told, same_told, cons_told, bad_first, From, Any, and_then, made, fewer, behind_one, taken, left_out, choose, choose_last, heads_word}
use Rattle.aria_model.proofs.Lists.{Joins, rest_of, items_from, Choice, none_stands, one_stands, ByFirst, joins_by}
use Rattle.aria_model.proofs.OneToken.{name_example, name_from, word_example, sign_example, sign_from, number_example, number_from, value_example, value_from, special_word_from, second}

pub sign_apart : (a b : ℕ) → (a == b) ≡ false → (t : Token) → IsSign a t → ¬ (IsSign b t)
sign_apart a b e (Sign found) x y = eqb-false a b e (sym x ∙ y)
sign_apart a b e t x y = x

pub name_apart : (a : ℕ) (t : Token) → IsName t → ¬ (IsSign a t)
name_apart a (Word w) x y = y
name_apart a t x y = x

sign_taken : (a : ℕ) (t : Token) → IsSign a t → IsTaken t
sign_taken a (Sign found) h = tt
sign_taken a t h = absurd h

-- ---- commas

comma_by : (found : ℕ) (ts : Tokens) (b : Bool) → (found == 44) ≡ b → Choice (found ≡ 44) ts (if b then Some ts else None)
comma_by found ts true e = one_stands (eqb-true found 44 e)
comma_by found ts false e = none_stands (eqb-false found 44 e)

comma_choice : (at : ℕ) (t : Token) (ts : Tokens) → Choice (IsSign 44 t) ts (behind_comma ((at, t) ∷ ts))
comma_choice at (Sign found) ts = comma_by found ts (found == 44) refl
comma_choice at t ts = none_stands (λ h. h)

comma_first : (item : Language) → ByFirst (IsSign 44) (Avoids (IsSign 44)) Any item comma behind_comma (λ at t ts. ts)
comma_first item = record {
  choice = comma_choice;
  heads = λ M. heads_joined (Sequence item comma · M) (heads_one (IsSign 44));
  behind = λ M may. tt;
  other = λ M may. may;
  ended = λ at t ts is e. ended_behind at t ts (sign_taken 44 t is) e;
  no_longer = λ at t ts. omega arith;
  onto = λ M at t ts is told. cons_told (sign_taken 44 t is) (λ w h. onto_one is h) (λ w h. (front_one h).1) told;
}

-- items with commas between
pub list_join : (item : Language) → Joins (Avoids (IsSign 44)) Any item comma behind_comma
list_join item = joins_by (comma_first item)

closing_apart : (M : Language) → Avoids (IsSign 44) (closing · M)
closing_apart M = avoids_heads (heads_joined M (heads_one (IsSign 41))) (sign_apart 41 44 refl)

-- ---- rows

pub row_from : (ts : Tokens) → IsEnded ts → From Any ROW 1 rest_of ts (row ts)
row_from ts e =
    and_then (sign_from 40 ts e) (joined_example (sequence_example comma value_example) (sign_example 41)) (λ M d. tt) (λ opened e1 l1.
    and_then (items_from (list_join VALUE) value value_from opened e1) (sign_example 41) (λ M d. closing_apart M) (λ read e2 l2.
    made (λ closed. (read.0, closed)) (λ closed. refl) (sign_from 41 read.1 e2)))

pub row_example : Example ROW
row_example = joined_example (sign_example 40) (joined_example (sequence_example comma value_example) (sign_example 41))

heads_row : Heads (IsSign 40) ROW
heads_row = heads_joined (list VALUE · closing) (heads_one (IsSign 40))

-- from the token itself on
abbrev same_place : ℕ → Token → Tokens → Tokens
same_place at t ts = (at, t) ∷ ts

pub kept_heads : {class : Token → Type 0} {item : Language} → Heads class item → (M : Language) → Heads class (nothing · (Sequence item nothing · M))
kept_heads {item = item} heads M = heads_same (back (nothing_joined (Sequence item nothing · M))) (heads_joined M (heads_sequence nothing heads))

row_by : (found at : ℕ) (ts : Tokens) (b : Bool) → (found == 40) ≡ b → Choice (found ≡ 40) ((at, Sign found) ∷ ts) (if b then Some ((at, Sign found) ∷ ts) else None)
row_by found at ts true e = one_stands (eqb-true found 40 e)
row_by found at ts false e = none_stands (eqb-false found 40 e)

row_choice : (at : ℕ) (t : Token) (ts : Tokens) → Choice (IsSign 40 t) ((at, t) ∷ ts) (another_row ((at, t) ∷ ts))
row_choice at (Sign found) ts = row_by found at ts (found == 40) refl
row_choice at t ts = none_stands (λ h. h)

-- rows one behind another
pub rows_join : Joins (Avoids (IsSign 40)) Any ROW nothing another_row
rows_join = joins_by {from = same_place} (record {
  choice = row_choice;
  heads = kept_heads heads_row;
  behind = λ M may. tt;
  other = λ M may. may;
  ended = λ at t ts is e. e;
  no_longer = λ at t ts. omega arith;
  onto = λ M at t ts is told. same_told (back (nothing_joined M)) told;
})

sought_by : (found at : ℕ) (ts : Tokens) → IsEnded ts → (b : Bool) → (found == 40) ≡ b
    → From (Avoids (IsSign 40)) (optional ROW) 0 rest_of ((at, Sign found) ∷ ts) (if b then row ((at, Sign found) ∷ ts) else Ok ([], (at, Sign found) ∷ ts))
sought_by found at ts e true is = taken {class = IsSign 40} (eqb-true found 40 is) (fewer (row_from ((at, Sign found) ∷ ts) e))
sought_by found at ts e false is = left_out heads_row (eqb-false found 40 is) e refl

-- the values of a key, or none
pub sought_from : (ts : Tokens) → IsEnded ts → From (Avoids (IsSign 40)) (optional ROW) 0 rest_of ts (sought ts)
sought_from [] e = absurd e
sought_from ((at, Sign found) ∷ ts) e = sought_by found at ts e (found == 40) refl
sought_from ((at, t) ∷ ts) e = left_out heads_row (λ h. h) e refl

-- ---- settings

pub setting_from : (ts : Tokens) → IsEnded ts → From Any SETTING 1 rest_of ts (setting ts)
setting_from ts e =
    and_then (name_from ts e) (joined_example (sign_example 61) value_example) (λ M d. tt) (λ n e1 l1.
    and_then (sign_from 61 n.1 e1) value_example (λ M d. tt) (λ equals e2 l2.
    made (λ v. (record { column = n.0; value = v.0 }, v.1)) (λ v. refl) (value_from equals e2)))

pub setting_example : Example SETTING
setting_example = joined_example name_example (joined_example (sign_example 61) value_example)

-- ---- columns

abbrev pub WIDTH : Language
WIDTH = opening · NUMBER · closing

width_example : Example WIDTH
width_example = joined_example (sign_example 40) (joined_example number_example (sign_example 41))

limit_from : (ts : Tokens) → IsEnded ts → From Any WIDTH 1 rest_of ts (limit ts)
limit_from ts e =
    and_then (sign_from 40 ts e) (joined_example number_example (sign_example 41)) (λ M d. tt) (λ opened e1 l1.
    and_then (number_from opened e1) (sign_example 41) (λ M d. tt) (λ n e2 l2.
    made (λ closed. (n.0, closed)) (λ closed. refl) (sign_from 41 n.1 e2)))

-- what is done behind a choice
either_way : {A B : Type 0} {L : Language} {ts : Tokens} (b : Bool) (r r' : Result A Refusal) (g : A → Result B Refusal) → Told L ts (if b then r >>= g else (r' >>= g)) → Told L ts ((if b then r else r') >>= g)
either_way true r r' g t = t
either_way false r r' g t = t

pub type_example : Example TYPE
type_example = left_example (word (codes "text") · WIDTH) (word_example (codes "int"))

type_splits : (M : Language) → Same (TYPE · M) (Either (word (codes "int") · M) (word (codes "text") · (WIDTH · M)))
type_splits M = both (either_joined (word (codes "int")) (word (codes "text") · WIDTH) M) (either_same (same_self (word (codes "int") · M)) (joined_assoc (word (codes "text")) WIDTH M))

heads_type : Heads (λ t. IsWord (codes "int") t ⊎ IsWord (codes "text") t) TYPE
heads_type = heads_either (heads_one (IsWord (codes "int"))) (heads_joined WIDTH (heads_one (IsWord (codes "text"))))

no_type : (at : ℕ) (t : Token) (ts : Tokens) → ¬ (IsWord (codes "int") t ⊎ IsWord (codes "text") t) → From {A = WrittenType × Tokens} Any TYPE 1 rest_of ((at, t) ∷ ts) (Err (BadStatement at))
no_type at t ts not = record { told = λ M g d ex follows. bad_first (joined_example type_example ex) (λ w h. not ((heads_joined M heads_type).heads (t ∷ w) h)) }

text_from : (ts : Tokens) → IsEnded ts → From Any WIDTH 1 rest_of ts (limit ts >>= λ n. Ok (AText n.0, n.1))
text_from ts e = made (λ n. (AText n.0, n.1)) (λ n. refl) (limit_from ts e)

type_from : (ts : Tokens) → IsEnded ts → From Any TYPE 1 rest_of ts (written_type ts)
type_from [] e = absurd e
type_from ((at, Word found) ∷ ts) e = record {
  told = λ M g d ex follows. same_told (back (type_splits M))
      (either_way (same_name found (codes "int")) (Ok (AnInt, ts)) _ g
      (choose (codes "text" ∷ []) (same_name found (codes "int")) refl (heads_word (codes "text") (WIDTH · M)) refl
      (follows (AnInt, ts) e (omega arith))
      (either_way (same_name found (codes "text")) (limit ts >>= λ n. Ok (AText n.0, n.1)) (Err (BadStatement at)) g
      (choose_last (same_name found (codes "text")) refl (joined_example width_example ex)
      ((text_from ts e).told M g tt ex (λ x e1 l1. follows x e1 (omega arith)))))));
}
type_from ((at, t) ∷ ts) e = no_type at t ts (second (λ h. h))

pub column_from : (ts : Tokens) → IsEnded ts → From Any COLUMN 1 rest_of ts (column ts)
column_from ts e =
    and_then (name_from ts e) (joined_example (sign_example 58) type_example) (λ M d. tt) (λ n e1 l1.
    and_then (sign_from 58 n.1 e1) type_example (λ M d. tt) (λ colon e2 l2.
    made (λ kind. ((n.0, kind.0), kind.1)) (λ kind. refl) (type_from colon e2)))

pub column_example : Example COLUMN
column_example = joined_example name_example (joined_example (sign_example 58) type_example)

-- ---- keys

special_example : Example SPECIAL
special_example = joined_example (sign_example 58) (left_example _ (word_example (codes "spatial")))

heads_special : Heads (IsSign 58) SPECIAL
heads_special = heads_joined (word (codes "spatial") ∪ word (codes "fulltext")) (heads_one (IsSign 58))

special_by : (found at : ℕ) (ts : Tokens) → IsEnded ts → (b : Bool) → (found == 58) ≡ b
    → From (Avoids (IsSign 58)) (optional SPECIAL) 0 rest_of ((at, Sign found) ∷ ts) (if b then special_word ts else Ok (Plain, (at, Sign found) ∷ ts))
special_by found at ts e true is =
    let colon_stands : IsSign 58 (Sign found) = eqb-true found 58 is in
    taken {class = IsSign 58} colon_stands (behind_one {class = IsSign 58} {t = Sign found} tt colon_stands (fewer (special_word_from ts e)))
special_by found at ts e false is = left_out heads_special (eqb-false found 58 is) e refl

special_from : (ts : Tokens) → IsEnded ts → From (Avoids (IsSign 58)) (optional SPECIAL) 0 rest_of ts (special ts)
special_from [] e = absurd e
special_from ((at, Sign found) ∷ ts) e = special_by found at ts e (found == 58) refl
special_from ((at, t) ∷ ts) e = left_out heads_special (λ h. h) e refl

abbrev KEY_END : Language
KEY_END = closing · optional SPECIAL

key_end_example : Example KEY_END
key_end_example = joined_example (sign_example 41) (optional_example SPECIAL)

key_end_apart : (M : Language) → Avoids (IsSign 44) (KEY_END · M)
key_end_apart M = avoids_heads (heads_joined M (heads_joined (optional SPECIAL) (heads_one (IsSign 41)))) (sign_apart 41 44 refl)

pub key_from : (ts : Tokens) → IsEnded ts → From (Avoids (IsSign 58)) KEY 1 rest_of ts (key ts)
key_from ts e =
    and_then (name_from ts e) (joined_example (sign_example 40) (joined_example (sequence_example comma name_example) key_end_example)) (λ M d. tt) (λ n e1 l1.
    and_then (sign_from 40 n.1 e1) (joined_example (sequence_example comma name_example) key_end_example) (λ M d. tt) (λ opened e2 l2.
    and_then (items_from (list_join NAME) name name_from opened e2) key_end_example (λ M d. key_end_apart M) (λ columns e3 l3.
    and_then (sign_from 41 columns.1 e3) (optional_example SPECIAL) (λ M d. tt) (λ closed e4 l4.
    made (λ kind. (record { name = n.0; columns = columns.0; special = kind.0 }, kind.1)) (λ kind. refl) (special_from closed e4)))))

pub key_example : Example KEY
key_example = joined_example name_example (joined_example (sign_example 40) (joined_example (sequence_example comma name_example) key_end_example))

pub heads_key : Heads IsName KEY
heads_key = heads_joined (opening · (list NAME · KEY_END)) (heads_one IsName)

key_choice : (at : ℕ) (t : Token) (ts : Tokens) → Choice (IsName t) ((at, t) ∷ ts) (another_key ((at, t) ∷ ts))
key_choice at (Word w) ts = one_stands tt
key_choice at t ts = none_stands (λ h. h)

-- what may stand behind keys
pub record EndsKeys (M : Language) : Type 0 where
  pub name : Avoids IsName M
  pub sign : Avoids (IsSign 58) M

-- keys one behind another
pub keys_join : Joins EndsKeys (Avoids (IsSign 58)) KEY nothing another_key
keys_join = joins_by {from = same_place} (record {
  choice = key_choice;
  heads = kept_heads heads_key;
  behind = λ M may. avoids_either may.sign (avoids_heads (kept_heads heads_key M) (name_apart 58));
  other = λ M may. may.name;
  ended = λ at t ts is e. e;
  no_longer = λ at t ts. omega arith;
  onto = λ M at t ts is told. same_told (back (nothing_joined M)) told;
})

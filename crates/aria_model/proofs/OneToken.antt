-- One token, read as its language tells.
use Rattle.std.proofs.Common.{◌≡◌, ℕ, List, [], ◌∷◌, Bool, true, false, if◌then◌else◌, ◌==◌, Ok, Err, refl, ◌⊎◌, inl, inr}
use Rattle.std.specs.Prelude.{codes}
use Rattle.std.specs.Cmp.Lexicographic.{same_text, other_text}
use Rattle.std.proofs.lemmas.Bool.{eqb-true, eqb-false}
use Rattle.aria_value.specs.declared.value.Value.{Value}
use Rattle.aria_value.specs.declared.value.Value.TheVariants as values
use Rattle.aria_value.specs.Defined.{same_name}
use Rattle.aria_model.specs.declared.refusal.Refusal.TheVariants.{BadStatement}
use Rattle.aria_model.specs.Token.{Token, Word, Number, Wide, Quoted, Sign}
use Rattle.aria_model.specs.Grammar.{Tokens, name, keyword, sign, value, number, special_word, Special, Spatial, Fulltext, TableKind, Trans, PlainTable, Packed, table_kind}
use Rattle.aria_model.specs.Spelling.{one, ◌∪◌, IsName, IsWord, IsSign, IsNumber, IsText, word, NAME, NUMBER, VALUE, KIND}
use Rattle.aria_model.proofs.Languages.{Example, Same, both, either_same, same_self, one_same, one_example, left_example}
use Rattle.aria_model.proofs.Telling.{IsEnded, From, Any, from_same, Outcome, passes, fails, is_wider, one_from}
use Rattle.aria_model.proofs.Lists.{rest_of}

-- all that is left is behind
abbrev pub itself : Tokens → Tokens
itself ts = ts

name_outcome : (at : ℕ) (t : Token) (ts : Tokens) → Outcome IsName rest_of at t ts (name ((at, t) ∷ ts))
name_outcome at (Word w) ts = passes refl tt tt
name_outcome at t ts = fails (λ h. h)

pub name_example : Example NAME
name_example = one_example (Word []) tt

pub name_from : (ts : Tokens) → IsEnded ts → From Any NAME 1 rest_of ts (name ts)
name_from [] e = absurd e
name_from ((at, t) ∷ ts) e = one_from (name_outcome at t ts) name_example e

word_by : (expected found : List ℕ) (at : ℕ) (ts : Tokens) (b : Bool) → b ≡ same_name found expected → Outcome (IsWord expected) itself at (Word found) ts (if b then Ok ts else Err (BadStatement at))
word_by expected found at ts true e = passes refl (same_text found expected e) tt
word_by expected found at ts false e = fails (other_text found expected e)

keyword_outcome : (expected : List ℕ) (at : ℕ) (t : Token) (ts : Tokens) → Outcome (IsWord expected) itself at t ts (keyword expected ((at, t) ∷ ts))
keyword_outcome expected at (Word found) ts = word_by expected found at ts (same_name found expected) refl
keyword_outcome expected at t ts = fails (λ h. h)

pub word_example : (expected : List ℕ) → Example (word expected)
word_example expected = one_example (Word expected) refl

pub keyword_from : (expected : List ℕ) (ts : Tokens) → IsEnded ts → From Any (word expected) 1 itself ts (keyword expected ts)
keyword_from expected [] e = absurd e
keyword_from expected ((at, t) ∷ ts) e = one_from (keyword_outcome expected at t ts) (word_example expected) e

sign_by : (expected found at : ℕ) (ts : Tokens) (b : Bool) → (found == expected) ≡ b → Outcome (IsSign expected) itself at (Sign found) ts (if b then Ok ts else Err (BadStatement at))
sign_by expected found at ts true e = passes refl (eqb-true found expected e) tt
sign_by expected found at ts false e = fails (eqb-false found expected e)

sign_outcome : (expected at : ℕ) (t : Token) (ts : Tokens) → Outcome (IsSign expected) itself at t ts (sign expected ((at, t) ∷ ts))
sign_outcome expected at (Sign found) ts = sign_by expected found at ts (found == expected) refl
sign_outcome expected at t ts = fails (λ h. h)

pub sign_example : (expected : ℕ) → Example (one (IsSign expected))
sign_example expected = one_example (Sign expected) refl

pub sign_from : (expected : ℕ) (ts : Tokens) → IsEnded ts → From Any (one (IsSign expected)) 1 itself ts (sign expected ts)
sign_from expected [] e = absurd e
sign_from expected ((at, t) ∷ ts) e = one_from (sign_outcome expected at t ts) (sign_example expected) e

number_outcome : (at : ℕ) (t : Token) (ts : Tokens) → Outcome IsNumber rest_of at t ts (number ((at, t) ∷ ts))
number_outcome at (Number n) ts = passes refl tt tt
number_outcome at Wide ts = is_wider refl tt (λ n. tt)
number_outcome at t ts = fails (λ h. h)

pub number_example : Example NUMBER
number_example = one_example Wide tt

pub number_from : (ts : Tokens) → IsEnded ts → From Any NUMBER 1 rest_of ts (number ts)
number_from [] e = absurd e
number_from ((at, t) ∷ ts) e = one_from (number_outcome at t ts) number_example e

-- ---- one token of several classes

third : {A B C : Type 0} → ¬ A → ¬ B → A ⊎ (B ⊎ C) → C
third a b (inl h) = absurd (a h)
third a b (inr (inl h)) = absurd (b h)
third a b (inr (inr h)) = h

three_same : (C D E : Token → Type 0) → Same (one (λ t. C t ⊎ (D t ⊎ E t))) (one C ∪ (one D ∪ one E))
three_same C D E = both (one_same C (λ t. D t ⊎ E t)) (either_same (same_self (one C)) (one_same D E))

abbrev IsValue : Token → Type 0
IsValue t = IsNumber t ⊎ (IsText t ⊎ IsWord (codes "null") t)

null_by : (found : List ℕ) (at : ℕ) (ts : Tokens) (b : Bool) → b ≡ same_name found (codes "null")
    → Outcome {A = Value × Tokens} IsValue rest_of at (Word found) ts (if b then Ok (values.Null, ts) else Err (BadStatement at))
null_by found at ts true e = passes refl (inr (inr (same_text found (codes "null") e))) tt
null_by found at ts false e = fails (λ h. other_text found (codes "null") e (third (λ n. n) (λ n. n) h))

value_outcome : (at : ℕ) (t : Token) (ts : Tokens) → Outcome IsValue rest_of at t ts (value ((at, t) ∷ ts))
value_outcome at (Number n) ts = passes refl (inl tt) tt
value_outcome at Wide ts = is_wider refl (inl tt) (λ n. inl tt)
value_outcome at (Quoted bytes) ts = passes refl (inr (inl tt)) tt
value_outcome at (Word found) ts = null_by found at ts (same_name found (codes "null")) refl
value_outcome at t ts = fails (λ h. third (λ n. n) (λ n. n) h)

pub value_example : Example VALUE
value_example = left_example _ number_example

pub value_from : (ts : Tokens) → IsEnded ts → From Any VALUE 1 rest_of ts (value ts)
value_from [] e = absurd e
value_from ((at, t) ∷ ts) e = from_same (three_same IsNumber IsText (IsWord (codes "null"))) (one_from (value_outcome at t ts) (one_example Wide (inl tt)) e)

abbrev IsKind : Token → Type 0
IsKind t = IsWord (codes "trans") t ⊎ (IsWord (codes "plain") t ⊎ IsWord (codes "packed") t)

kind_by : (found : List ℕ) (at : ℕ) (ts : Tokens) (a b c : Bool) → a ≡ same_name found (codes "trans") → b ≡ same_name found (codes "plain") → c ≡ same_name found (codes "packed")
    → Outcome {A = TableKind × Tokens} IsKind rest_of at (Word found) ts (if a then Ok (Trans, ts) else if b then Ok (PlainTable, ts) else if c then Ok (Packed, ts) else Err (BadStatement at))
kind_by found at ts true b c e f g = passes refl (inl (same_text found (codes "trans") e)) tt
kind_by found at ts false true c e f g = passes refl (inr (inl (same_text found (codes "plain") f))) tt
kind_by found at ts false false true e f g = passes refl (inr (inr (same_text found (codes "packed") g))) tt
kind_by found at ts false false false e f g = fails (λ h. other_text found (codes "packed") g (third (other_text found (codes "trans") e) (other_text found (codes "plain") f) h))

kind_outcome : (at : ℕ) (t : Token) (ts : Tokens) → Outcome IsKind rest_of at t ts (table_kind ((at, t) ∷ ts))
kind_outcome at (Word found) ts = kind_by found at ts (same_name found (codes "trans")) (same_name found (codes "plain")) (same_name found (codes "packed")) refl refl refl
kind_outcome at t ts = fails (λ h. third (λ n. n) (λ n. n) h)

pub kind_example : Example KIND
kind_example = left_example _ (word_example (codes "trans"))

pub kind_from : (ts : Tokens) → IsEnded ts → From Any KIND 1 rest_of ts (table_kind ts)
kind_from [] e = absurd e
kind_from ((at, t) ∷ ts) e = from_same (three_same (IsWord (codes "trans")) (IsWord (codes "plain")) (IsWord (codes "packed"))) (one_from (kind_outcome at t ts) (one_example (Word (codes "trans")) (inl refl)) e)

abbrev IsSpecial : Token → Type 0
IsSpecial t = IsWord (codes "spatial") t ⊎ IsWord (codes "fulltext") t

pub second : {A B : Type 0} → ¬ A → A ⊎ B → B
second a (inl h) = absurd (a h)
second a (inr h) = h

special_by : (found : List ℕ) (at : ℕ) (ts : Tokens) (a b : Bool) → a ≡ same_name found (codes "spatial") → b ≡ same_name found (codes "fulltext")
    → Outcome {A = Special × Tokens} IsSpecial rest_of at (Word found) ts (if a then Ok (Spatial, ts) else if b then Ok (Fulltext, ts) else Err (BadStatement at))
special_by found at ts true b e f = passes refl (inl (same_text found (codes "spatial") e)) tt
special_by found at ts false true e f = passes refl (inr (same_text found (codes "fulltext") f)) tt
special_by found at ts false false e f = fails (λ h. other_text found (codes "fulltext") f (second (other_text found (codes "spatial") e) h))

special_outcome : (at : ℕ) (t : Token) (ts : Tokens) → Outcome IsSpecial rest_of at t ts (special_word ((at, t) ∷ ts))
special_outcome at (Word found) ts = special_by found at ts (same_name found (codes "spatial")) (same_name found (codes "fulltext")) refl refl
special_outcome at t ts = fails (λ h. second (λ n. n) h)

pub special_word_from : (ts : Tokens) → IsEnded ts → From Any (word (codes "spatial") ∪ word (codes "fulltext")) 1 rest_of ts (special_word ts)
special_word_from [] e = absurd e
special_word_from ((at, t) ∷ ts) e = from_same (one_same (IsWord (codes "spatial")) (IsWord (codes "fulltext"))) (one_from (special_outcome at t ts) (one_example (Word (codes "spatial")) (inl refl)) e)

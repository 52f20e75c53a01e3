-- No token that ends a line belongs to a statement.
use Rattle.std.proofs.Common.{ℕ, List, [], ◌∷◌, ◌++◌, sym, subst}
use Rattle.std.specs.Prelude.{codes}
use Rattle.aria_model.specs.Token.{Token, Word, Number, Wide, Quoted, Sign}
use Rattle.aria_model.specs.Spelling.{Language, nothing, one, ◌·◌, Either, left, right, ◌∪◌, optional, Sequence, last, more, some, IsName, IsWord, IsSign, IsNumber, IsText, word, list, NAME, NUMBER, VALUE, ROW, KIND, TYPE, COLUMN, SPECIAL, KEY, LIMIT, SETTING, CREATE, INSERT, UPDATE, SELECT, IsStatement}
use Rattle.aria_model.proofs.Ended.{IsInside}
use Rattle.aria_model.proofs.Answering.{AllInside}

-- a language whose tokens don't end the line
record Inside (L : Language) : Type 0 where
  inside : (w : List Token) → L w → AllInside w

inside_append : (xs ys : List Token) → AllInside xs → AllInside ys → AllInside (xs ++ ys)
inside_append [] ys x y = y
inside_append (t ∷ xs) ys x y = (x.0, inside_append xs ys x.1 y)

inside_nothing : Inside nothing
inside_nothing = record { inside = λ w e. subst AllInside (sym e) tt }

inside_one_at : (C : Token → Type 0) → ((t : Token) → C t → IsInside t) → (w : List Token) → one C w → AllInside w
inside_one_at C each [] h = absurd h
inside_one_at C each (t ∷ []) h = (each t h, tt)
inside_one_at C each (t ∷ u ∷ w) h = absurd h

inside_one : (C : Token → Type 0) → ((t : Token) → C t → IsInside t) → Inside (one C)
inside_one C each = record { inside = inside_one_at C each }

inside_joined : {L M : Language} → Inside L → Inside M → Inside (L · M)
inside_joined a b = record { inside = λ w j. subst AllInside (sym j.whole) (inside_append j.front j.behind (a.inside j.front j.first) (b.inside j.behind j.second)) }

inside_either_at : {L M : Language} {w : List Token} → Inside L → Inside M → Either L M w → AllInside w
inside_either_at {w = w} a b (left h) = a.inside w h
inside_either_at {w = w} a b (right h) = b.inside w h

inside_either : {L M : Language} → Inside L → Inside M → Inside (L ∪ M)
inside_either a b = record { inside = λ w h. inside_either_at a b h }

inside_sequence_at : {item between : Language} {w : List Token} → Inside item → Inside between → Sequence item between w → AllInside w
inside_sequence_at {w = w} a b (last h) = a.inside w h
inside_sequence_at a b (more front middle behind e h m s) = subst AllInside (sym e) (inside_append front (middle ++ behind) (a.inside front h) (inside_append middle behind (b.inside middle m) (inside_sequence_at a b s)))

inside_sequence : {item between : Language} → Inside item → Inside between → Inside (Sequence item between)
inside_sequence a b = record { inside = λ w h. inside_sequence_at a b h }

inside_optional : {L : Language} → Inside L → Inside (optional L)
inside_optional a = inside_either inside_nothing a

inside_some : {L : Language} → Inside L → Inside (some L)
inside_some a = inside_sequence a inside_nothing

-- ---- tokens

name_inside : (t : Token) → IsName t → IsInside t
name_inside (Word w) h = tt
name_inside t h = absurd h

word_inside : (k : List ℕ) (t : Token) → IsWord k t → IsInside t
word_inside k (Word w) h = tt
word_inside k t h = absurd h

sign_inside : (s : ℕ) (t : Token) → IsSign s t → IsInside t
sign_inside s (Sign found) h = tt
sign_inside s t h = absurd h

number_inside : (t : Token) → IsNumber t → IsInside t
number_inside (Number n) h = tt
number_inside Wide h = tt
number_inside t h = absurd h

text_inside : (t : Token) → IsText t → IsInside t
text_inside (Quoted bytes) h = tt
text_inside t h = absurd h

inside_name : Inside NAME
inside_name = inside_one IsName name_inside

inside_word : (k : List ℕ) → Inside (word k)
inside_word k = inside_one (IsWord k) (word_inside k)

inside_sign : (s : ℕ) → Inside (one (IsSign s))
inside_sign s = inside_one (IsSign s) (sign_inside s)

inside_number : Inside NUMBER
inside_number = inside_one IsNumber number_inside

inside_list : {L : Language} → Inside L → Inside (list L)
inside_list a = inside_sequence a (inside_sign 44)

-- ---- the grammar

inside_value : Inside VALUE
inside_value = inside_either inside_number (inside_either (inside_one IsText text_inside) (inside_word (codes "null")))

inside_row : Inside ROW
inside_row = inside_joined (inside_sign 40) (inside_joined (inside_list inside_value) (inside_sign 41))

inside_kind : Inside KIND
inside_kind = inside_either (inside_word (codes "trans")) (inside_either (inside_word (codes "plain")) (inside_word (codes "packed")))

inside_type : Inside TYPE
inside_type = inside_either (inside_word (codes "int")) (inside_joined (inside_word (codes "text")) (inside_joined (inside_sign 40) (inside_joined inside_number (inside_sign 41))))

inside_column : Inside COLUMN
inside_column = inside_joined inside_name (inside_joined (inside_sign 58) inside_type)

inside_special : Inside SPECIAL
inside_special = inside_joined (inside_sign 58) (inside_either (inside_word (codes "spatial")) (inside_word (codes "fulltext")))

inside_key : Inside KEY
inside_key = inside_joined inside_name (inside_joined (inside_sign 40) (inside_joined (inside_list inside_name) (inside_joined (inside_sign 41) (inside_optional inside_special))))

inside_limit : Inside LIMIT
inside_limit = inside_joined (inside_word (codes "max_rows")) (inside_joined (inside_sign 61) inside_number)

inside_setting : Inside SETTING
inside_setting = inside_joined inside_name (inside_joined (inside_sign 61) inside_value)

inside_create : Inside CREATE
inside_create =
    inside_joined inside_name (inside_joined inside_kind (inside_joined (inside_optional inside_limit) (inside_joined (inside_some inside_column)
    (inside_joined (inside_word (codes "keys")) (inside_some inside_key)))))

inside_insert : Inside INSERT
inside_insert = inside_joined inside_name (inside_some inside_row)

inside_select : Inside SELECT
inside_select = inside_joined inside_name (inside_joined inside_name (inside_optional inside_row))

inside_update : Inside UPDATE
inside_update =
    inside_joined inside_name (inside_joined inside_name (inside_joined (inside_optional inside_row) (inside_joined (inside_word (codes "set")) (inside_list inside_setting))))

inside_statement : Inside IsStatement
inside_statement =
    inside_either (inside_joined (inside_word (codes "create")) inside_create)
    (inside_either (inside_joined (inside_word (codes "insert")) inside_insert)
    (inside_either (inside_joined (inside_word (codes "delete")) inside_select)
    (inside_either (inside_joined (inside_word (codes "update")) inside_update)
    (inside_either (inside_joined (inside_word (codes "select")) inside_select)
    (inside_either (inside_joined (inside_word (codes "drop")) inside_name)
    (inside_either (inside_joined (inside_word (codes "flush")) inside_name) (inside_word (codes "checkpoint"))))))))

-- Neither the end of a line nor a byte at which no token begins belongs to a statement.
pub statement_inside : (w : List Token) → IsStatement w → AllInside w
statement_inside w h = inside_statement.inside w h

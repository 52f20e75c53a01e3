-- The statements as a language: which tokens are one, and where tokens stop to begin one.
use Rattle.std.specs.Prelude.{◌≡◌, ℕ, ℤ, Bool, true, false, List, [], ◌∷◌, ◌++◌, length, drop, Some, None, Result, Ok, Err, codes}
use Rattle.std.specs.List.{list_any}
use Rattle.aria_model.specs.declared.refusal.Which.{Which}
use Rattle.aria_model.specs.declared.refusal.Refusal.{Refusal}
use Rattle.aria_model.specs.declared.refusal.Refusal.TheVariants.{BadStatement, NumberTooWide, BadDefinition}
use Rattle.aria_model.specs.declared.statement.Statement.{Statement}
use Rattle.aria_model.specs.Token.{Token, Word, Number, Wide, Quoted, Sign, End, Stray, is_blank, token_at}
use Rattle.aria_model.specs.Grammar.{Tokens}

-- which lists of tokens are spelled so
abbrev pub Language : Type 1
Language = List Token → Type 0

-- ---- how languages are put together

-- no token
abbrev pub nothing : Language
nothing ts = ts ≡ []

-- one token, of a class
abbrev pub one : (Token → Type 0) → Language
one class [] = ⊥
one class (t ∷ []) = class t
one class (t ∷ u ∷ ts) = ⊥

-- tokens of the first, and behind them tokens of the second
pub record Joined (L M : Language) (ts : List Token) : Type 0 where
  pub front : List Token
  pub behind : List Token
  pub whole : ts ≡ front ++ behind
  pub first : L front
  pub second : M behind

infixr 40 ◌·◌
abbrev pub ◌·◌ : Language → Language → Language
L · M = Joined L M

-- tokens of either
pub data Either (L M : Language) (ts : List Token) : Type 0 where
  left : L ts → Either L M ts
  right : M ts → Either L M ts

infixr 30 ◌∪◌
abbrev pub ◌∪◌ : Language → Language → Language
L ∪ M = Either L M

abbrev pub optional : Language → Language
optional L = nothing ∪ L

-- one item or more, with the same between each two
pub data Sequence (item between : Language) : List Token → Type 0 where
  last : {ts : List Token} → item ts → Sequence item between ts
  more : {ts : List Token} (front middle behind : List Token) → ts ≡ front ++ (middle ++ behind) → item front → between middle → Sequence item between behind → Sequence item between ts

abbrev pub some : Language → Language
some item = Sequence item nothing

-- ---- tokens

abbrev pub IsName : Token → Type 0
IsName (Word word) = Unit {0}
IsName token = ⊥

abbrev pub IsWord : List ℕ → Token → Type 0
IsWord expected (Word word) = word ≡ expected
IsWord expected token = ⊥

abbrev pub IsSign : ℕ → Token → Type 0
IsSign expected (Sign found) = found ≡ expected
IsSign expected token = ⊥

-- of any value
abbrev pub IsNumber : Token → Type 0
IsNumber (Number n) = Unit {0}
IsNumber Wide = Unit {0}
IsNumber token = ⊥

abbrev pub IsText : Token → Type 0
IsText (Quoted bytes) = Unit {0}
IsText token = ⊥

-- a word of the grammar
abbrev pub word : List ℕ → Language
word expected = one (IsWord expected)

-- ( ) , : and =
abbrev pub opening : Language
opening = one (IsSign 40)

abbrev pub closing : Language
closing = one (IsSign 41)

abbrev pub comma : Language
comma = one (IsSign 44)

abbrev pub colon : Language
colon = one (IsSign 58)

abbrev pub equals : Language
equals = one (IsSign 61)

-- one item or more, with commas between
abbrev pub list : Language → Language
list item = Sequence item comma

-- ---- the grammar

abbrev pub NAME : Language
NAME = one IsName

abbrev pub NUMBER : Language
NUMBER = one IsNumber

abbrev pub VALUE : Language
VALUE = NUMBER ∪ one IsText ∪ word (codes "null")

abbrev pub ROW : Language
ROW = opening · list VALUE · closing

abbrev pub KIND : Language
KIND = word (codes "trans") ∪ word (codes "plain") ∪ word (codes "packed")

abbrev pub TYPE : Language
TYPE = word (codes "int") ∪ word (codes "text") · opening · NUMBER · closing

abbrev pub COLUMN : Language
COLUMN = NAME · colon · TYPE

abbrev pub SPECIAL : Language
SPECIAL = colon · (word (codes "spatial") ∪ word (codes "fulltext"))

abbrev pub KEY : Language
KEY = NAME · opening · list NAME · closing · optional SPECIAL

abbrev pub LIMIT : Language
LIMIT = word (codes "max_rows") · equals · NUMBER

abbrev pub SETTING : Language
SETTING = NAME · equals · VALUE

-- Each statement behind its word. A second name is a key's.
abbrev pub CREATE : Language
CREATE = NAME · KIND · optional LIMIT · some COLUMN · word (codes "keys") · some KEY

abbrev pub INSERT : Language
INSERT = NAME · some ROW

abbrev pub DELETE : Language
DELETE = NAME · NAME · optional ROW

abbrev pub UPDATE : Language
UPDATE = NAME · NAME · optional ROW · word (codes "set") · list SETTING

abbrev pub SELECT : Language
SELECT = NAME · NAME · optional ROW

abbrev pub IsStatement : Language
IsStatement =
    word (codes "create") · CREATE
    ∪ word (codes "insert") · INSERT
    ∪ word (codes "delete") · DELETE
    ∪ word (codes "update") · UPDATE
    ∪ word (codes "select") · SELECT
    ∪ word (codes "drop") · NAME
    ∪ word (codes "flush") · NAME
    ∪ word (codes "checkpoint")

-- There are further tokens, or none, with which these are a statement.
abbrev pub Begins : Language
Begins ts = (further : List Token) × IsStatement (ts ++ further)

-- ---- the tokens of a line

-- What a token at an offset of a line says of its bytes: the token begins there; at the end that is the line's length; for a stray byte that it is no blank and begins none.
abbrev pub Stands : List ℕ → ℕ → Token → Type 0
Stands line at End = at ≡ length line
Stands line at Stray = (b : ℕ) × (bs : List ℕ) × (drop at line ≡ b ∷ bs) × (is_blank b ≡ false) × (token_at (b ∷ bs) ≡ None)
Stands line at token = (taken : ℕ) × (token_at (drop at line) ≡ Some (token, taken))

-- tokens without their offsets
abbrev pub kinds : Tokens → List Token
kinds [] = []
kinds ((at, token) ∷ ts) = token ∷ kinds ts

abbrev pub is_wide : Token → Bool
is_wide Wide = true
is_wide token = false

-- each number fits 64 bits with sign
abbrev pub IsNarrow : Language
IsNarrow ts = list_any is_wide ts ≡ false

-- What stands before the end is a statement whose numbers fit.
pub record Spells (ts : Tokens) : Type 0 where
  pub tokens : List Token
  pub whole : kinds ts ≡ tokens ++ End ∷ []
  pub is : IsStatement tokens
  pub narrow : IsNarrow tokens

-- The token at this offset is the first with which the tokens so far begin no statement, and no number before it is too wide.
pub record FirstBad (ts : Tokens) (at : ℕ) : Type 0 where
  pub before : Tokens
  pub token : Token
  pub after : Tokens
  pub parts : ts ≡ before ++ (at, token) ∷ after
  pub narrow : IsNarrow (kinds before)
  pub begin : Begins (kinds before)
  pub no_more : ¬ (Begins (kinds before ++ token ∷ []))
  -- where the line ends, what stands before is no statement yet
  pub unfinished : token ≡ End → ¬ (IsStatement (kinds before))

-- The number at this offset may stand there, and is the first that doesn't fit 64 bits with sign.
pub record TooWide (ts : Tokens) (at : ℕ) : Type 0 where
  pub before : Tokens
  pub after : Tokens
  pub parts : ts ≡ before ++ (at, Wide) ∷ after
  pub narrow : IsNarrow (kinds before)
  pub begin : Begins (kinds before ++ Wide ∷ [])
  -- so may any number that fits, in its place
  pub may_stand : (n : ℤ) → Begins (kinds before ++ Number n ∷ [])

-- a statement was read, though no table may have its definition
abbrev pub IsReading : {A : Type 0} → Result A Refusal → Type 0
IsReading (Ok x) = Unit {0}
IsReading (Err (BadDefinition which)) = Unit {0}
IsReading (Err why) = ⊥

-- what each answer says of the tokens
pub data Answers (ts : Tokens) : Result Statement Refusal → Type 0 where
  spells : {statement : Statement} → Spells ts → Answers ts (Ok statement)
  no_definition : {which : Which} → Spells ts → Answers ts (Err (BadDefinition which))
  first_bad : {at : ℕ} → FirstBad ts at → Answers ts (Err (BadStatement at))
  too_wide : {at : ℕ} → TooWide ts at → Answers ts (Err (NumberTooWide at))

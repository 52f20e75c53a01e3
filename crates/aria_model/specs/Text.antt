-- How rows and replies are spelled.
use Rattle.std.specs.Prelude.{◌≡◌, ℕ, Bool, false, ◌&&◌, ◌==◌, nat_le, if◌then◌else◌, List, [], ◌∷◌, ◌++◌, codes, decimal, ◌+◌, ◌/◌, ◌%◌, ◌<◌, nat_lt, length}
use Rattle.std.specs.List.{list_all, list_any, flat_map, join_by}
use Rattle.std.specs.Fmt.{signed_decimal}
use Rattle.aria_value.specs.declared.value.Value.{Value}
use Rattle.aria_value.specs.declared.value.Value.TheVariants.{Null, Int, Text}
use Rattle.aria_model.specs.declared.refusal.Which.{Which}
use Rattle.aria_model.specs.declared.refusal.Which.TheVariants.{Packed, MaxRows, Columns, Kind, Keys, Spatial, Fulltext, Entry}
use Rattle.aria_model.specs.declared.refusal.Refusal.{Refusal}
use Rattle.aria_model.specs.declared.refusal.Refusal.TheVariants.{BadStatement, LineTooLong, NumberTooWide, LogSpent, TableFull, TableCrashed, Duplicate, RowTooLong, BadValue, RowsFull, NoTable, TableExists, NoKey, TooManyRows, BadDefinition, NoColumn, NotBuilt}
use Rattle.aria_model.specs.declared.reply.Reply.{Reply}
use Rattle.aria_model.specs.declared.reply.Reply.TheVariants.{Done, Count, No}

-- a byte from the space to ~
abbrev pub is_printed : ℕ → Bool
is_printed b = nat_le 32 b && nat_le b 126

-- a byte of a text between quotes, where a quote is doubled
abbrev pub quoted : ℕ → List ℕ
quoted b = if b == 39 then 39 ∷ 39 ∷ [] else b ∷ []

-- bytes are a run, a quote, and what is behind it, and between quotes the run stands as it is
pub record CutsAtQuote (bytes run behind : List ℕ) : Type 0 where
  pub whole : flat_map quoted bytes ≡ run ++ (39 ∷ 39 ∷ flat_map quoted behind)
  pub less : length behind < length bytes

-- a hexadecimal digit, in lower case
abbrev pub hex_digit : ℕ → ℕ
hex_digit n = if nat_lt n 10 then 48 + n else 87 + n

abbrev pub hex : ℕ → List ℕ
hex b = hex_digit (b / 16) ∷ hex_digit (b % 16) ∷ []

-- null, a number in decimal, a text between quotes or, where a byte of it isn't printed, in hexadecimal digits
abbrev pub value_text : Value → List ℕ
value_text Null = codes "null"
value_text (Int n) = signed_decimal n
value_text (Text bytes) =
    if list_all is_printed bytes then 39 ∷ flat_map quoted bytes ++ 39 ∷ [] else 120 ∷ 39 ∷ flat_map hex bytes ++ 39 ∷ []

-- a row's line, with its LF
abbrev pub row_text : List Value → List ℕ
row_text row = codes "row " ++ join_by value_text (codes ",") row ++ 10 ∷ []

-- the word for what is wrong in a definition
abbrev pub which_text : Which → List ℕ
which_text Packed = codes "packed"
which_text MaxRows = codes "max_rows"
which_text Columns = codes "columns"
which_text Kind = codes "type"
which_text Keys = codes "keys"
which_text Spatial = codes "spatial"
which_text Fulltext = codes "fulltext"
which_text Entry = codes "entry"

abbrev pub refusal_text : Refusal → List ℕ
refusal_text (BadStatement at) = codes "bad statement at " ++ decimal at
refusal_text LineTooLong = codes "line too long"
refusal_text (NumberTooWide at) = codes "number too wide at " ++ decimal at
refusal_text (LogSpent file) = codes "log spent " ++ decimal file
refusal_text (TableFull pages) = codes "table full " ++ decimal pages
refusal_text (TableCrashed name) = codes "table crashed " ++ name
refusal_text (Duplicate key) = codes "duplicate " ++ key
refusal_text RowTooLong = codes "row too long"
refusal_text (BadValue column) = codes "bad value " ++ column
refusal_text RowsFull = codes "rows full"
refusal_text (NoTable name) = codes "table " ++ name
refusal_text (TableExists name) = codes "table exists " ++ name
refusal_text (NoKey name) = codes "key " ++ name
refusal_text TooManyRows = codes "too many rows"
refusal_text (BadDefinition which) = codes "bad definition " ++ which_text which
refusal_text (NoColumn name) = codes "column " ++ name
refusal_text NotBuilt = codes "not built"

-- a reply's line, with its LF
abbrev pub reply_text : Reply → List ℕ
reply_text Done = codes "ok" ++ 10 ∷ []
reply_text (Count n) = codes "ok " ++ decimal n ++ 10 ∷ []
reply_text (No why) = codes "no " ++ refusal_text why ++ 10 ∷ []

-- no byte is LF
abbrev pub HasNoLineEnd : List ℕ → Type 0
HasNoLineEnd bytes = list_any (λ b. b == 10) bytes ≡ false

-- a line with its LF, and no LF before that
abbrev pub IsOneLine : List ℕ → Type 0
IsOneLine text = (line : List ℕ) × (text ≡ line ++ 10 ∷ []) × HasNoLineEnd line

-- Texts as they stand in a line, behind their opening quote.
use Rattle.std.specs.Prelude.{ℕ, Bool, true, false, ◌==◌, ◌&&◌, if◌then◌else◌, List, [], ◌∷◌, Option, Some, None}
use Rattle.aria_model.specs.Token.{hex_value, hex_byte, begins_quote}
use Rattle.aria_model.specs.Grammar.{option_suc}

-- an x and a quote come first
abbrev pub begins_hex : List ℕ → Bool
begins_hex [] = false
begins_hex (b ∷ bs) = (b == 120) && begins_quote bs

-- how many bytes of a text stand in front of the quote that ends it
abbrev pub text_length : List ℕ → Option ℕ
text_length [] = None
text_length (b ∷ []) = if b == 39 then Some 0 else None
text_length (b ∷ c ∷ bs) =
    if b == 39 then (if c == 39 then option_suc (option_suc (text_length bs)) else Some 0) else option_suc (text_length (c ∷ bs))

-- the bytes that are meant where each quote is doubled; whether the second quote of two comes first
abbrev pub undoubled : Bool → List ℕ → List ℕ
undoubled second [] = []
undoubled true (b ∷ bs) = undoubled false bs
undoubled false (b ∷ bs) = b ∷ undoubled (b == 39) bs

-- the byte that two hexadecimal digits in front spell
abbrev pub front_pair : List ℕ → Option ℕ
front_pair [] = None
front_pair (b ∷ []) = None
front_pair (b ∷ c ∷ bs) = hex_byte (hex_value b) (hex_value c)

-- two more than a number, where two digits spell a byte
abbrev pub past_pair : Option ℕ → Option ℕ → Option ℕ
past_pair None length = None
past_pair (Some b) length = option_suc (option_suc length)

-- how many bytes of a hexadecimal text stand in front of the quote that ends it
abbrev pub hex_length : List ℕ → Option ℕ
hex_length [] = None
hex_length (b ∷ []) = if b == 39 then Some 0 else None
hex_length (b ∷ c ∷ bs) = if b == 39 then Some 0 else past_pair (hex_byte (hex_value b) (hex_value c)) (hex_length bs)

-- a byte more, where two digits spell one
abbrev pub onto_bytes : Option ℕ → List ℕ → List ℕ
onto_bytes None bytes = []
onto_bytes (Some b) bytes = b ∷ bytes

-- the bytes that pairs of hexadecimal digits spell
abbrev pub hex_bytes : List ℕ → List ℕ
hex_bytes [] = []
hex_bytes (b ∷ []) = []
hex_bytes (b ∷ c ∷ bs) = onto_bytes (hex_byte (hex_value b) (hex_value c)) (hex_bytes bs)

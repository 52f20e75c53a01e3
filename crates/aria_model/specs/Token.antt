-- The tokens of a line, each with the offset of its first byte.
use Rattle.std.specs.Prelude.{ℕ, zero, suc, ◌+◌, ◌-◌, ◌*◌, ◌^◌, Bool, false, ◌&&◌, ◌||◌, ◌==◌, nat_le, nat_lt, if◌then◌else◌, ℤ, pos, negsuc, List, [], ◌∷◌, length, Option, Some, None}
use Rattle.std.specs.List.{take_while}
use Rattle.aria_page.specs.Word.{begins_word, continues_word}

pub data Token : Type 0 where
  -- a letter or _ and the letters, digits and _ that follow it, at most 64 bytes
  Word : List ℕ → Token
  -- an optional - and digits, of a value of 64 bits with sign
  Number : ℤ → Token
  -- a number of any other value
  Wide : Token
  -- the bytes of a text
  Quoted : List ℕ → Token
  -- one of ( ) , : =
  Sign : ℕ → Token
  -- the line ends
  End : Token
  -- no token begins
  Stray : Token

-- a space, a tab or a CR
abbrev pub is_blank : ℕ → Bool
is_blank b = (b == 32) || (b == 9) || (b == 13)

abbrev pub is_digit : ℕ → Bool
is_digit b = nat_le 48 b && nat_le b 57

abbrev pub is_sign : ℕ → Bool
is_sign b = (b == 40) || (b == 41) || (b == 44) || (b == 58) || (b == 61)

-- the value of digits that follow those of a value
abbrev pub digits_value : ℕ → List ℕ → ℕ
digits_value n [] = n
digits_value n (b ∷ bs) = digits_value (10 * n + (b - 48)) bs

-- a token and the number of its bytes
abbrev pub Spelled : Type 0
Spelled = Token × ℕ

abbrev pub word_of : List ℕ → Option Spelled
word_of word = if nat_le (length word) 64 then Some (Word word, length word) else None

abbrev pub number_of : List ℕ → Option Spelled
number_of digits = let n = digits_value 0 digits in
    Some (if nat_lt n (2 ^ 63) then Number (pos n) else Wide, length digits)

-- minus the value: negsuc n is - (n + 1)
abbrev pub minus : ℕ → ℤ
minus zero = pos 0
minus (suc n) = negsuc n

abbrev pub negative_of : List ℕ → Option Spelled
negative_of [] = None
negative_of (d ∷ digits) = let n = digits_value 0 (d ∷ digits) in
    Some (if nat_le n (2 ^ 63) then Number (minus n) else Wide, suc (length (d ∷ digits)))

-- a byte more of a text, which takes so many bytes of the line
abbrev pub onto_text : ℕ → ℕ → Option (List ℕ × ℕ) → Option (List ℕ × ℕ)
onto_text b taken None = None
onto_text b taken (Some text) = Some (b ∷ text.0, taken + text.1)

-- a text behind its opening quote, with each quote in it doubled, and how many bytes it takes with the closing one
abbrev pub text_rest : List ℕ → Option (List ℕ × ℕ)
text_rest [] = None
text_rest (b ∷ []) = if b == 39 then Some ([], 1) else None
text_rest (b ∷ c ∷ bs) =
    if b == 39 then (if c == 39 then onto_text 39 2 (text_rest bs) else Some ([], 1)) else onto_text b 1 (text_rest (c ∷ bs))

-- the value of a hexadecimal digit of either case
abbrev pub hex_value : ℕ → Option ℕ
hex_value b =
    if is_digit b then Some (b - 48) else
    if nat_le 97 b && nat_le b 102 then Some (b - 87) else
    if nat_le 65 b && nat_le b 70 then Some (b - 55) else None

abbrev pub hex_byte : Option ℕ → Option ℕ → Option ℕ
hex_byte None low = None
hex_byte (Some high) None = None
hex_byte (Some high) (Some low) = Some (16 * high + low)

abbrev pub onto_hex : Option ℕ → Option (List ℕ × ℕ) → Option (List ℕ × ℕ)
onto_hex None text = None
onto_hex (Some b) text = onto_text b 2 text

-- a hexadecimal text behind its opening quote, likewise
abbrev pub hex_rest : List ℕ → Option (List ℕ × ℕ)
hex_rest [] = None
hex_rest (b ∷ []) = if b == 39 then Some ([], 1) else None
hex_rest (b ∷ c ∷ bs) = if b == 39 then Some ([], 1) else onto_hex (hex_byte (hex_value b) (hex_value c)) (hex_rest bs)

-- a text whose opening takes so many bytes
abbrev pub quoted_of : ℕ → Option (List ℕ × ℕ) → Option Spelled
quoted_of opening None = None
quoted_of opening (Some text) = Some (Quoted text.0, opening + text.1)

-- the bytes begin with a quote
abbrev pub begins_quote : List ℕ → Bool
begins_quote [] = false
begins_quote (b ∷ bs) = b == 39

-- the bytes behind the first
abbrev pub behind_first : List ℕ → List ℕ
behind_first [] = []
behind_first (b ∷ bs) = bs

-- The token in front of bytes that begin with no blank. An x directly before a quote begins no word.
abbrev pub token_at : List ℕ → Option Spelled
token_at [] = None
token_at (b ∷ bs) =
    if b == 39 then quoted_of 1 (text_rest bs) else
    if (b == 120) && begins_quote bs then quoted_of 2 (hex_rest (behind_first bs)) else
    if begins_word b then word_of (take_while continues_word (b ∷ bs)) else
    if is_digit b then number_of (take_while is_digit (b ∷ bs)) else
    if b == 45 then negative_of (take_while is_digit bs) else
    if is_sign b then Some (Sign b, 1) else None

-- Where a token begins, it comes, and its further bytes are passed over.
abbrev pub tokens_from : ℕ → ℕ → List ℕ → List (ℕ × Token)
tokens_from at inside [] = (at, End) ∷ []
tokens_from at (suc inside) (b ∷ bs) = tokens_from (at + 1) inside bs
tokens_from at zero (b ∷ bs) =
    if is_blank b then tokens_from (at + 1) zero bs else
    elim (token_at (b ∷ bs)) [
      | None ↦ (at, Stray) ∷ []
      | Some spelled ↦ (at, spelled.0) ∷ tokens_from (at + 1) (spelled.1 - 1) bs
    ]

-- the tokens of a line, up to its end or to the first place where none begins
abbrev pub tokens : List ℕ → List (ℕ × Token)
tokens line = tokens_from 0 0 line

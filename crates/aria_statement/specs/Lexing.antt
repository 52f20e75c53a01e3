-- The tokens that the code reads, as those of a line.
use Rattle.std.specs.Prelude.{ℕ, false, ◌==◌, if◌then◌else◌, List, [], ◌∷◌, drop, Option, Some, None}
use Rattle.std.specs.List.{take_while}
use Rattle.aria_page.specs.Word.{begins_word, continues_word}
use Rattle.aria_model.specs.Token.{Token, Word, Number, Wide, Quoted, Sign, End, Stray, Spelled, is_digit, is_sign, word_of, number_of, negative_of, tokens_from}
use Rattle.aria_statement.specs.declared.token.Token.{Token as Found}
use Rattle.aria_statement.specs.declared.token.Token.TheVariants as found
use Rattle.aria_statement.specs.Texts.{undoubled, hex_bytes}

-- the token that the code found
abbrev pub seen : Found → Token
seen (found.Word word) = Word word
seen (found.Number n) = Number n
seen found.Wide = Wide
seen (found.Quoted text) = Quoted (undoubled false text.now)
seen (found.Hex text) = Quoted (hex_bytes text.now)
seen (found.Sign sign) = Sign sign
seen found.End = End
seen found.Stray = Stray

-- the token that the code found, and the number of its bytes
abbrev pub spelled : Option (Found × ℕ) → Option Spelled
spelled None = None
spelled (Some (token, bytes)) = Some (seen token, bytes)

-- the token in front of bytes that begin neither with a blank nor with a text
abbrev pub plain_at : List ℕ → Option Spelled
plain_at [] = None
plain_at (b ∷ bs) =
    if begins_word b then word_of (take_while continues_word (b ∷ bs)) else
    if is_digit b then number_of (take_while is_digit (b ∷ bs)) else
    if b == 45 then negative_of (take_while is_digit bs) else
    if is_sign b then Some (Sign b, 1) else None

-- the tokens of a line from a byte on
abbrev pub left : List ℕ → ℕ → List (ℕ × Token)
left line at = tokens_from at 0 (drop at line)

-- nothing comes behind the end, or behind a place where no token begins
abbrev pub behind : Token → List (ℕ × Token) → List (ℕ × Token)
behind (Word word) ts = ts
behind (Number n) ts = ts
behind Wide ts = ts
behind (Quoted bytes) ts = ts
behind (Sign sign) ts = ts
behind End ts = []
behind Stray ts = []

-- Texts behind their opening quote: how long they are, and what they mean.
use Rattle.std.proofs.Common.{◌≡◌, ℕ, suc, ◌+◌, ◌<◌, ◌≤◌, Bool, true, false, ◌==◌, if◌then◌else◌, List, [], ◌∷◌, ◌++◌, length, get_or, take, drop, drop-cons, add-one, Option, Some, None, refl, sym, ap, ◌∙◌, inl, inr, append_assoc, arith}
use Rattle.std.proofs.lemmas.Bool.{cases_Bool}
use Rattle.std.proofs.lemmas.List.{drop-drop, length-drop, append-nil}
use Rattle.aria_model.specs.Token.{onto_text, text_rest, hex_value, hex_byte, onto_hex, hex_rest, begins_quote, quoted_of, token_at}
use Rattle.aria_model.specs.Grammar.{option_suc}
use Rattle.aria_statement.specs.Texts.{begins_hex, text_length, undoubled, front_pair, past_pair, hex_length, onto_bytes, hex_bytes}
use Rattle.aria_statement.specs.Lexing.{plain_at}
use Rattle.aria_statement.proofs.Counting.{further, further_two, further_one}

-- a text whose length is known
abbrev pub found : (List ℕ → List ℕ) → List ℕ → Option ℕ → Option (List ℕ × ℕ)
found meaning bytes None = None
found meaning bytes (Some n) = Some (meaning (take n bytes), suc n)

-- one byte more in front
found_more : (b : ℕ) (bytes : List ℕ) (o : Option ℕ) → (b == 39) ≡ false → onto_text b 1 (found (undoubled false) bytes o) ≡ found (undoubled false) (b ∷ bytes) (option_suc o)
found_more b bytes None other = refl
found_more b bytes (Some n) other =
    let more : 1 + suc n ≡ suc (suc n) = omega arith in
    ap (λ (k : ℕ). Some (b ∷ undoubled false (take n bytes), k)) more ∙ ap (λ (second : Bool). Some (b ∷ undoubled second (take n bytes), suc (suc n))) (sym other)

-- two quotes more in front
found_two : (b c : ℕ) (bytes : List ℕ) (o : Option ℕ) → (b == 39) ≡ true → onto_text 39 2 (found (undoubled false) bytes o) ≡ found (undoubled false) (b ∷ c ∷ bytes) (option_suc (option_suc o))
found_two b c bytes None quote = refl
found_two b c bytes (Some n) quote =
    let more : 2 + suc n ≡ suc (suc (suc n)) = omega arith in
    let same : 39 ≡ b = grind arith in
    ap (λ (k : ℕ). Some (39 ∷ undoubled false (take n bytes), k)) more
    ∙ ap (λ (a : ℕ). Some (a ∷ undoubled false (take n bytes), suc (suc (suc n)))) same
    ∙ ap (λ (second : Bool). Some (b ∷ undoubled second (c ∷ take n bytes), suc (suc (suc n)))) (sym quote)

pub text_found : (bytes : List ℕ) → text_rest bytes ≡ found (undoubled false) bytes (text_length bytes)
text_found [] = refl
text_found (b ∷ []) =
    elim (cases_Bool (b == 39)) [
      | inl quote ↦ rw quote refl
      | inr other ↦ rw other refl
    ]
text_found (b ∷ c ∷ bytes) =
    elim (cases_Bool (b == 39)) [
      | inl quote ↦ elim (cases_Bool (c == 39)) [
        | inl again ↦ rw (quote, again) (ap (onto_text 39 2) (text_found bytes) ∙ found_two b c bytes (text_length bytes) quote)
        | inr other ↦ rw (quote, other) refl
      ]
      | inr other ↦ rw other (ap (onto_text b 1) (text_found (c ∷ bytes)) ∙ found_more b (c ∷ bytes) (text_length (c ∷ bytes)) other)
    ]

-- a pair more in front
found_pair : (b c : ℕ) (bytes : List ℕ) (byte o : Option ℕ) → hex_byte (hex_value b) (hex_value c) ≡ byte → onto_hex byte (found hex_bytes bytes o) ≡ found hex_bytes (b ∷ c ∷ bytes) (past_pair byte o)
found_pair b c bytes None o is = refl
found_pair b c bytes (Some byte) None is = refl
found_pair b c bytes (Some byte) (Some n) is =
    let more : 2 + suc n ≡ suc (suc (suc n)) = omega arith in
    ap (λ (k : ℕ). Some (byte ∷ hex_bytes (take n bytes), k)) more
    ∙ ap (λ (v : Option ℕ). Some (onto_bytes v (hex_bytes (take n bytes)), suc (suc (suc n)))) (sym is)

pub hex_found : (bytes : List ℕ) → hex_rest bytes ≡ found hex_bytes bytes (hex_length bytes)
hex_found [] = refl
hex_found (b ∷ []) =
    elim (cases_Bool (b == 39)) [
      | inl quote ↦ rw quote refl
      | inr other ↦ rw other refl
    ]
hex_found (b ∷ c ∷ bytes) =
    elim (cases_Bool (b == 39)) [
      | inl quote ↦ rw quote refl
      | inr other ↦ rw other (ap (onto_hex (hex_byte (hex_value b) (hex_value c))) (hex_found bytes) ∙ found_pair b c bytes (hex_byte (hex_value b) (hex_value c)) (hex_length bytes) refl)
    ]

-- ---- a text's quote stands in the line

more_within : (o : Option ℕ) (n limit : ℕ) → ((k : ℕ) → o ≡ Some k → k < limit) → option_suc o ≡ Some n → n < suc limit
more_within None n limit below e = absurd cc
more_within (Some k) n limit below e = let same : suc k ≡ n = cc in omega (arith, below k refl)

pair_within : (byte o : Option ℕ) (n limit : ℕ) → ((k : ℕ) → o ≡ Some k → k < limit) → past_pair byte o ≡ Some n → n < suc (suc limit)
pair_within None o n limit below e = absurd cc
pair_within (Some b) o n limit below e = more_within (option_suc o) n (suc limit) (λ k f. more_within o k limit below f) e

pub text_within : (bytes : List ℕ) (n : ℕ) → text_length bytes ≡ Some n → n < length bytes
text_within [] n e = absurd cc
text_within (b ∷ []) n e =
    elim (cases_Bool (b == 39)) [
      | inl quote ↦ let is = rw quote at e in let same : 0 ≡ n = cc in omega arith
      | inr other ↦ let is = rw other at e in absurd cc
    ]
text_within (b ∷ c ∷ bytes) n e =
    elim (cases_Bool (b == 39)) [
      | inl quote ↦ elim (cases_Bool (c == 39)) [
        | inl again ↦ more_within (option_suc (text_length bytes)) n (suc (length bytes)) (λ k f. more_within (text_length bytes) k (length bytes) (λ m g. text_within bytes m g) f) (rw (quote, again) at e)
        | inr other ↦ let is = rw (quote, other) at e in let same : 0 ≡ n = cc in omega arith
      ]
      | inr other ↦ more_within (text_length (c ∷ bytes)) n (length (c ∷ bytes)) (λ k f. text_within (c ∷ bytes) k f) (rw other at e)
    ]

pub hex_within : (bytes : List ℕ) (n : ℕ) → hex_length bytes ≡ Some n → n < length bytes
hex_within [] n e = absurd cc
hex_within (b ∷ []) n e =
    elim (cases_Bool (b == 39)) [
      | inl quote ↦ let is = rw quote at e in let same : 0 ≡ n = cc in omega arith
      | inr other ↦ let is = rw other at e in absurd cc
    ]
hex_within (b ∷ c ∷ bytes) n e =
    elim (cases_Bool (b == 39)) [
      | inl quote ↦ let is = rw quote at e in let same : 0 ≡ n = cc in omega arith
      | inr other ↦ pair_within (hex_byte (hex_value b) (hex_value c)) (hex_length bytes) n (length bytes) (λ k f. hex_within bytes k f) (rw other at e)
    ]

-- a text takes bytes of the line
found_within : (meaning : List ℕ → List ℕ) (bytes : List ℕ) (o : Option ℕ) (text : List ℕ × ℕ) → ((n : ℕ) → o ≡ Some n → n < length bytes) → found meaning bytes o ≡ Some text → text.1 ≤ length bytes
found_within meaning bytes None text below e = absurd cc
found_within meaning bytes (Some n) text below e =
    let same : (meaning (take n bytes), suc n) ≡ text = cc in
    let ends : suc n ≡ text.1 = ap (λ (t : List ℕ × ℕ). t.1) same in
    omega (arith, below n refl)

pub text_rest_within : (bytes : List ℕ) (text : List ℕ × ℕ) → text_rest bytes ≡ Some text → text.1 ≤ length bytes
text_rest_within bytes text e = found_within (undoubled false) bytes (text_length bytes) text (λ n f. text_within bytes n f) (sym (text_found bytes) ∙ e)

pub hex_rest_within : (bytes : List ℕ) (text : List ℕ × ℕ) → hex_rest bytes ≡ Some text → text.1 ≤ length bytes
hex_rest_within bytes text e = found_within hex_bytes bytes (hex_length bytes) text (λ n f. hex_within bytes n f) (sym (hex_found bytes) ∙ e)

-- ---- steps of loops over texts

text_other : (b : ℕ) (rest : List ℕ) → (b == 39) ≡ false → text_length (b ∷ rest) ≡ option_suc (text_length rest)
text_other b [] other = rw other refl
text_other b (c ∷ rest) other = rw other refl

text_ends : (b : ℕ) (rest : List ℕ) → (b == 39) ≡ true → begins_quote rest ≡ false → text_length (b ∷ rest) ≡ Some 0
text_ends b [] quote last = rw quote refl
text_ends b (c ∷ rest) quote last = rw (quote, last) refl

text_two : (b : ℕ) (rest : List ℕ) → (b == 39) ≡ true → begins_quote rest ≡ true → text_length (b ∷ rest) ≡ option_suc (option_suc (text_length (drop 1 rest)))
text_two b [] quote again = absurd cc
text_two b (c ∷ rest) quote again = rw (quote, again) refl

-- a byte and those behind it
front_is : (bytes : List ℕ) (at b : ℕ) → at < length bytes → get_or bytes at 0 ≡ b → drop at bytes ≡ b ∷ drop (at + 1) bytes
front_is bytes at b low is = drop-cons bytes at 0 low ∙ rw (is, add-one) refl

-- a byte that is no quote
pub step_other : (bytes : List ℕ) (at b : ℕ) → at < length bytes → get_or bytes at 0 ≡ b → (b == 39) ≡ false → further (at + 1) (text_length (drop (at + 1) bytes)) ≡ further at (text_length (drop at bytes))
step_other bytes at b low is other =
    further_one at (text_length (drop (at + 1) bytes))
    ∙ ap (further at) (sym (ap text_length (front_is bytes at b low is) ∙ text_other b (drop (at + 1) bytes) other))

-- two quotes
pub step_two : (bytes : List ℕ) (at b : ℕ) → at < length bytes → get_or bytes at 0 ≡ b → (b == 39) ≡ true → begins_quote (drop (at + 1) bytes) ≡ true
    → further (at + 2) (text_length (drop (at + 2) bytes)) ≡ further at (text_length (drop at bytes))
step_two bytes at b low is quote again =
    let two : (at + 1) + 1 ≡ at + 2 = omega arith in
    let rest : drop 1 (drop (at + 1) bytes) ≡ drop (at + 2) bytes = drop-drop 1 (at + 1) bytes ∙ ap (λ (k : ℕ). drop k bytes) two in
    further_two at (text_length (drop (at + 2) bytes))
    ∙ ap (λ (bs : List ℕ). further at (option_suc (option_suc (text_length bs)))) (sym rest)
    ∙ ap (further at) (sym (ap text_length (front_is bytes at b low is) ∙ text_two b (drop (at + 1) bytes) quote again))

-- the quote that ends the text
pub step_ends : (bytes : List ℕ) (at b : ℕ) → at < length bytes → get_or bytes at 0 ≡ b → (b == 39) ≡ true → begins_quote (drop (at + 1) bytes) ≡ false
    → Some at ≡ further at (text_length (drop at bytes))
step_ends bytes at b low is quote last =
    let here : at + 0 ≡ at = omega arith in
    ap (λ (k : ℕ). Some k) (sym here)
    ∙ ap (further at) (sym (ap text_length (front_is bytes at b low is) ∙ text_ends b (drop (at + 1) bytes) quote last))

quote_fits : (rest : List ℕ) → begins_quote rest ≡ true → 0 < length rest
quote_fits [] again = absurd cc
quote_fits (c ∷ rest) again = omega arith

-- Two quotes are both in the line.
pub two_fit : (bytes : List ℕ) (at : ℕ) → begins_quote (drop (at + 1) bytes) ≡ true → at + 2 ≤ length bytes
two_fit bytes at again = omega (arith, quote_fits (drop (at + 1) bytes) again, length-drop (at + 1) bytes)

hex_ends : (b : ℕ) (rest : List ℕ) → (b == 39) ≡ true → hex_length (b ∷ rest) ≡ Some 0
hex_ends b [] quote = rw quote refl
hex_ends b (c ∷ rest) quote = rw quote refl

-- no length
abbrev no_length : Option ℕ
no_length = None

hex_stops : (b : ℕ) (rest : List ℕ) → (b == 39) ≡ false → front_pair (b ∷ rest) ≡ no_length → hex_length (b ∷ rest) ≡ no_length
hex_stops b [] other stops = rw other refl
hex_stops b (c ∷ rest) other stops = rw (other, stops) refl

hex_two : (b : ℕ) (rest : List ℕ) (byte : ℕ) → (b == 39) ≡ false → front_pair (b ∷ rest) ≡ Some byte → hex_length (b ∷ rest) ≡ option_suc (option_suc (hex_length (drop 1 rest)))
hex_two b [] byte other goes_on = absurd cc
hex_two b (c ∷ rest) byte other goes_on = rw (other, goes_on) refl

-- the bytes behind two more
two_further : (bytes : List ℕ) (at : ℕ) → drop 1 (drop (at + 1) bytes) ≡ drop (at + 2) bytes
two_further bytes at =
    let two : (at + 1) + 1 ≡ at + 2 = omega arith in
    drop-drop 1 (at + 1) bytes ∙ ap (λ (k : ℕ). drop k bytes) two

pub step_hex_ends : (bytes : List ℕ) (at b : ℕ) → at < length bytes → get_or bytes at 0 ≡ b → (b == 39) ≡ true → Some at ≡ further at (hex_length (drop at bytes))
step_hex_ends bytes at b low is quote =
    let here : at + 0 ≡ at = omega arith in
    ap (λ (k : ℕ). Some k) (sym here)
    ∙ ap (further at) (sym (ap hex_length (front_is bytes at b low is) ∙ hex_ends b (drop (at + 1) bytes) quote))

pub step_hex_stops : (bytes : List ℕ) (at b : ℕ) → at < length bytes → get_or bytes at 0 ≡ b → (b == 39) ≡ false → front_pair (drop at bytes) ≡ no_length → no_length ≡ further at (hex_length (drop at bytes))
step_hex_stops bytes at b low is other stops =
    let front = front_is bytes at b low is in
    ap (further at) (sym (ap hex_length front ∙ hex_stops b (drop (at + 1) bytes) other (ap front_pair (sym front) ∙ stops)))

pub step_hex : (bytes : List ℕ) (at b byte : ℕ) → at < length bytes → get_or bytes at 0 ≡ b → (b == 39) ≡ false → front_pair (drop at bytes) ≡ Some byte
    → further (at + 2) (hex_length (drop (at + 2) bytes)) ≡ further at (hex_length (drop at bytes))
step_hex bytes at b byte low is other goes_on =
    let front = front_is bytes at b low is in
    further_two at (hex_length (drop (at + 2) bytes))
    ∙ ap (λ (bs : List ℕ). further at (option_suc (option_suc (hex_length bs)))) (sym (two_further bytes at))
    ∙ ap (further at) (sym (ap hex_length front ∙ hex_two b (drop (at + 1) bytes) byte other (ap front_pair (sym front) ∙ goes_on)))

pair_long : (bytes : List ℕ) (byte : ℕ) → front_pair bytes ≡ Some byte → 2 ≤ length bytes
pair_long [] byte e = absurd cc
pair_long (b ∷ []) byte e = absurd cc
pair_long (b ∷ c ∷ bytes) byte e = omega arith

-- Two digits are both in the line.
pub pair_fits : (bytes : List ℕ) (at byte : ℕ) → front_pair (drop at bytes) ≡ Some byte → at + 2 ≤ length bytes
pair_fits bytes at byte e = omega (arith, pair_long (drop at bytes) byte e, length-drop at bytes)

pair_first : (bytes : List ℕ) (byte : ℕ) → front_pair bytes ≡ Some byte → hex_bytes bytes ≡ byte ∷ hex_bytes (drop 2 bytes)
pair_first [] byte e = absurd cc
pair_first (b ∷ []) byte e = absurd cc
pair_first (b ∷ c ∷ bytes) byte e = rw e refl

-- one byte more of a hexadecimal text
pub byte_more : (text so_far : List ℕ) (at byte : ℕ) → front_pair (drop at text) ≡ Some byte → (so_far ++ byte ∷ []) ++ hex_bytes (drop (at + 2) text) ≡ so_far ++ hex_bytes (drop at text)
byte_more text so_far at byte e =
    append_assoc so_far (byte ∷ []) (hex_bytes (drop (at + 2) text))
    ∙ ap (λ (bs : List ℕ). so_far ++ byte ∷ hex_bytes bs) (sym (drop-drop 2 at text))
    ∙ ap (λ (bs : List ℕ). so_far ++ bs) (sym (pair_first (drop at text) byte e))

-- No pair comes first, so no byte is left.
no_pair : (bytes : List ℕ) → front_pair bytes ≡ no_length → hex_bytes bytes ≡ []
no_pair [] e = refl
no_pair (b ∷ []) e = refl
no_pair (b ∷ c ∷ bytes) e = rw e refl

pub all_bytes : (text so_far total : List ℕ) (at : ℕ) → front_pair (drop at text) ≡ no_length → so_far ++ hex_bytes (drop at text) ≡ total → so_far ≡ total
all_bytes text so_far total at e is = sym (append-nil so_far) ∙ ap (λ (bs : List ℕ). so_far ++ bs) (sym (no_pair (drop at text) e)) ∙ is

-- The second quote of two is passed over.
pub second_passed : (text so_far total : List ℕ) (i : ℕ) (second : Bool) → i < length text → second ≡ true → so_far ++ undoubled second (drop i text) ≡ total → so_far ++ undoubled false (drop (i + 1) text) ≡ total
second_passed text so_far total i second low is whole =
    ap (λ (bs : List ℕ). so_far ++ undoubled true bs) (sym (front_is text i (get_or text i 0) low refl))
    ∙ ap (λ (b : Bool). so_far ++ undoubled b (drop i text)) (sym is)
    ∙ whole

-- ---- how a token begins

token_choice : (bytes : List ℕ) → token_at bytes ≡ (if begins_quote bytes then quoted_of 1 (text_rest (drop 1 bytes)) else if begins_hex bytes then quoted_of 2 (hex_rest (drop 2 bytes)) else plain_at bytes)
token_choice [] = refl
token_choice (b ∷ []) = refl
token_choice (b ∷ c ∷ bytes) = refl

pub token_text : (bytes : List ℕ) → begins_quote bytes ≡ true → token_at bytes ≡ quoted_of 1 (text_rest (drop 1 bytes))
token_text bytes quote = token_choice bytes ∙ rw quote refl

pub token_hex : (bytes : List ℕ) → begins_quote bytes ≡ false → begins_hex bytes ≡ true → token_at bytes ≡ quoted_of 2 (hex_rest (drop 2 bytes))
token_hex bytes quote hex = token_choice bytes ∙ rw (quote, hex) refl

pub token_plain : (bytes : List ℕ) → begins_quote bytes ≡ false → begins_hex bytes ≡ false → token_at bytes ≡ plain_at bytes
token_plain bytes quote hex = token_choice bytes ∙ rw (quote, hex) refl

-- ---- for the search

-- the text that the code cuts off, and the bytes that it takes
pub ruleset text_is = (text_found, text_within)

pub ruleset hex_is = (hex_found, hex_within)

pub ruleset token_is = (token_text, token_hex, token_plain)

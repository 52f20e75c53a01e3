-- Where the next token of a line stands, and what comes behind it.
use Rattle.std.proofs.Common.{◌≡◌, ℕ, zero, suc, ◌+◌, ◌-◌, ◌<◌, ◌≤◌, Bool, true, false, cond, List, [], ◌∷◌, length, take, drop, Option, Some, None, refl, sym, ap, ◌∙◌, inl, inr, subst, leb, ℤ, ◌==◌, ◌&&◌, add-zero, arith}
use Rattle.std.specs.List.{prefix_len, take_while, list_all}
use Rattle.std.proofs.lemmas.Bool.{cases_Bool, cond-true, cond-false, or_left, and_from, and_parts}
use Rattle.std.proofs.lemmas.List.{drop-drop, length-take, length-take-le}
use Rattle.std.proofs.lemmas.List.Sums.{prefix_len-le-length}
use Rattle.aria_page.specs.Word.{begins_word, continues_word}
use Rattle.aria_model.specs.Token.{Token, Word, Number, Wide, Quoted, Sign, Stray, Spelled, is_blank, is_digit, is_sign, word_of, number_of, negative_of, text_rest, hex_rest, quoted_of, begins_quote, behind_first, token_at, tokens_from}
use Rattle.aria_statement.specs.Lexing.{behind, plain_at}
use Rattle.aria_statement.proofs.Steps.{chosen}
use Rattle.aria_statement.proofs.Texts.{text_rest_within, hex_rest_within}

-- one more of those in front that pass a test
prefix_len_more : (test : ℕ → Bool) (x : ℕ) (xs : List ℕ) → test x ≡ true → prefix_len test (x ∷ xs) ≡ suc (prefix_len test xs)
prefix_len_more test x xs passes = cond-true (test x) (1 + prefix_len test xs) 0 passes ∙ omega arith

-- Those in front that pass a test all pass it.
pub all_pass : (test : ℕ → Bool) (xs : List ℕ) → list_all test (take (prefix_len test xs) xs) ≡ true
all_pass test [] = refl
all_pass test (x ∷ xs) =
    elim (cases_Bool (test x)) [
      | inl passes ↦ ap (λ (n : ℕ). list_all test (take n (x ∷ xs))) (prefix_len_more test x xs passes) ∙ and_from _ _ passes (all_pass test xs)
      | inr fails ↦ ap (λ (n : ℕ). list_all test (take n (x ∷ xs))) (cond-false (test x) (1 + prefix_len test xs) 0 fails)
    ]

-- Blanks are passed over.
past_blanks : (bytes : List ℕ) (at : ℕ) → tokens_from at 0 bytes ≡ tokens_from (at + prefix_len is_blank bytes) 0 (drop (prefix_len is_blank bytes) bytes)
past_blanks [] at = rw add-zero refl
past_blanks (b ∷ bytes) at =
    elim (cases_Bool (is_blank b)) [
      | inl blank ↦
          let k : (at + 1) + prefix_len is_blank bytes ≡ at + suc (prefix_len is_blank bytes) = omega arith in
          cond-true (is_blank b) (tokens_from (at + 1) 0 bytes) _ blank
          ∙ past_blanks bytes (at + 1)
          ∙ ap (λ (n : ℕ). tokens_from n 0 (drop (prefix_len is_blank bytes) bytes)) k
          ∙ ap (λ (n : ℕ). tokens_from (at + n) 0 (drop n (b ∷ bytes))) (sym (prefix_len_more is_blank b bytes blank))
      | inr other ↦
          ap (λ (n : ℕ). tokens_from n 0 (b ∷ bytes)) (sym (add-zero at))
          ∙ ap (λ (n : ℕ). tokens_from (at + n) 0 (drop n (b ∷ bytes))) (sym (cond-false (is_blank b) (1 + prefix_len is_blank bytes) 0 other))
    ]

-- The further bytes of a token are passed over.
past_token : (bytes : List ℕ) (at inside : ℕ) → inside ≤ length bytes → tokens_from at inside bytes ≡ tokens_from (at + inside) 0 (drop inside bytes)
past_token bytes at zero fits = rw add-zero refl
past_token [] at (suc inside) fits = absurd (omega arith)
past_token (b ∷ bytes) at (suc inside) fits =
    let k : (at + 1) + inside ≡ at + suc inside = omega arith in
    past_token bytes (at + 1) inside (omega arith) ∙ ap (λ (n : ℕ). tokens_from n 0 (drop inside bytes)) k

-- a token is some of the bytes, and more may come behind it
pub record IsToken (bytes : List ℕ) (token : Spelled) : Type 0 where
  pub some : 0 < token.1
  pub within : token.1 ≤ length bytes
  pub more : (ts : List (ℕ × Token)) → behind token.0 ts ≡ ts

-- no token begins here
abbrev no_token : Option Spelled
no_token = None

-- a token of the first n bytes
is_some : (bytes : List ℕ) (n : ℕ) (token : Token) (spelled : Spelled) → 0 < n → n ≤ length bytes → ((ts : List (ℕ × Token)) → behind token ts ≡ ts)
    → (let found : Option Spelled = Some (token, n) in found ≡ Some spelled) → IsToken bytes spelled
is_some bytes n token spelled some within more e =
    let same : (token, n) ≡ spelled = cc in
    subst (IsToken bytes) same (record { some = some; within = within; more = more })

-- a word in front
is_word : (bytes : List ℕ) (n : ℕ) (spelled : Spelled) → 0 < n → n ≤ length bytes → word_of (take n bytes) ≡ Some spelled → IsToken bytes spelled
is_word bytes n spelled some within e =
    let long : length (take n bytes) ≡ n = length-take-le n bytes within in
    elim (chosen (leb (length (take n bytes)) 64) (Some (Word (take n bytes), length (take n bytes))) no_token (Some spelled) e) [
      | inl (short, is) ↦ is_some bytes (length (take n bytes)) (Word (take n bytes)) spelled (omega arith) (omega arith) (λ ts. refl) is
      | inr (long, is) ↦ absurd cc
    ]

-- More may come behind a number.
number_more : (fits : Bool) (n : ℤ) (ts : List (ℕ × Token)) → behind (cond fits (Number n) Wide) ts ≡ ts
number_more true n ts = refl
number_more false n ts = refl

-- a number in front
is_number : (bytes : List ℕ) (n : ℕ) (spelled : Spelled) → 0 < n → n ≤ length bytes → number_of (take n bytes) ≡ Some spelled → IsToken bytes spelled
is_number bytes n spelled some within e =
    let long : length (take n bytes) ≡ n = length-take-le n bytes within in
    is_some bytes (length (take n bytes)) _ spelled (omega arith) (omega arith) (number_more _ _) e

-- a minus and digits in front
is_negative : (b : ℕ) (digits bytes : List ℕ) (spelled : Spelled) → length digits ≤ length bytes → negative_of digits ≡ Some spelled → IsToken (b ∷ bytes) spelled
is_negative b [] bytes spelled within e = absurd cc
is_negative b (d ∷ digits) bytes spelled within e = is_some (b ∷ bytes) (suc (length (d ∷ digits))) _ spelled (omega arith) (omega arith) (number_more _ _) e

-- a text in front, of which so many bytes open it
is_text : (bytes : List ℕ) (opening limit : ℕ) (o : Option (List ℕ × ℕ)) (spelled : Spelled) → 0 < opening → opening + limit ≤ length bytes → ((text : List ℕ × ℕ) → o ≡ Some text → text.1 ≤ limit)
    → quoted_of opening o ≡ Some spelled → IsToken bytes spelled
is_text bytes opening limit None spelled some fits within e = absurd cc
is_text bytes opening limit (Some text) spelled some fits within e =
    is_some bytes (opening + text.1) (Quoted text.0) spelled (omega arith) (omega (arith, within text refl)) (λ ts. refl) e

-- a hexadecimal text in front, behind its x
is_hex : (b : ℕ) (bytes : List ℕ) (spelled : Spelled) → begins_quote bytes ≡ true → quoted_of 2 (hex_rest (behind_first bytes)) ≡ Some spelled → IsToken (b ∷ bytes) spelled
is_hex b [] spelled begins e = absurd cc
is_hex b (c ∷ bytes) spelled begins e = is_text (b ∷ c ∷ bytes) 2 (length bytes) (hex_rest bytes) spelled (omega arith) (omega arith) (hex_rest_within bytes) e

-- a token in front that is no text
is_plain : (b : ℕ) (bytes : List ℕ) (spelled : Spelled) → plain_at (b ∷ bytes) ≡ Some spelled → IsToken (b ∷ bytes) spelled
is_plain b bytes spelled e =
    elim (chosen (begins_word b) _ _ _ e) [
      | inl (begins, is) ↦
          let one = prefix_len_more continues_word b bytes (or_left _ _ begins) in
          is_word (b ∷ bytes) (prefix_len continues_word (b ∷ bytes)) spelled (omega arith) (prefix_len-le-length continues_word (b ∷ bytes)) is
      | inr (other, rest) ↦ elim (chosen (is_digit b) _ _ _ rest) [
        | inl (digit, is) ↦
            let one = prefix_len_more is_digit b bytes digit in
            is_number (b ∷ bytes) (prefix_len is_digit (b ∷ bytes)) spelled (omega arith) (prefix_len-le-length is_digit (b ∷ bytes)) is
        | inr (other, rest) ↦ elim (chosen (b == 45) _ _ _ rest) [
          | inl (minus, is) ↦
              let within : length (take_while is_digit bytes) ≤ length bytes = omega (arith, length-take (prefix_len is_digit bytes) bytes) in
              is_negative b (take_while is_digit bytes) bytes spelled within is
          | inr (other, rest) ↦ elim (chosen (is_sign b) _ _ _ rest) [
            | inl (sign, is) ↦ is_some (b ∷ bytes) 1 (Sign b) spelled (omega arith) (omega arith) (λ ts. refl) is
            | inr (other, rest) ↦ absurd cc
          ]
        ]
      ]
    ]

pub is_token : (bytes : List ℕ) (spelled : Spelled) → token_at bytes ≡ Some spelled → IsToken bytes spelled
is_token [] spelled e = absurd cc
is_token (b ∷ bytes) spelled e =
    elim (chosen (b == 39) _ _ _ e) [
      | inl (quote, is) ↦ is_text (b ∷ bytes) 1 (length bytes) (text_rest bytes) spelled (omega arith) (omega arith) (text_rest_within bytes) is
      | inr (other, rest) ↦ elim (chosen ((b == 120) && begins_quote bytes) _ _ _ rest) [
        | inl (hex, is) ↦ is_hex b bytes spelled (and_parts (b == 120) (begins_quote bytes) hex).1 is
        | inr (other, rest) ↦ is_plain b bytes spelled rest
      ]
    ]

-- No blank is in front of a byte that is none.
other_byte : (b : ℕ) (bytes : List ℕ) → prefix_len is_blank (b ∷ bytes) ≡ 0 → is_blank b ≡ false
other_byte b bytes front =
    elim (cases_Bool (is_blank b)) [
      | inl blank ↦ let one = prefix_len_more is_blank b bytes blank in absurd (omega arith)
      | inr other ↦ other
    ]

-- what begins with this byte, where the token is known
begun : (b : ℕ) (bytes : List ℕ) (at : ℕ) (found : Option Spelled) → prefix_len is_blank (b ∷ bytes) ≡ 0 → token_at (b ∷ bytes) ≡ found
    → tokens_from at 0 (b ∷ bytes) ≡ elim found [ None ↦ (at, Stray) ∷ [] | Some spelled ↦ (at, spelled.0) ∷ tokens_from (at + 1) (spelled.1 - 1) bytes ]
begun b bytes at found front e =
    cond-false (is_blank b) (tokens_from (at + 1) 0 bytes) _ (other_byte b bytes front)
    ∙ ap (λ (o : Option Spelled). elim o as (λ x. List (ℕ × Token)) [ None ↦ (at, Stray) ∷ [] | Some spelled ↦ (at, spelled.0) ∷ tokens_from (at + 1) (spelled.1 - 1) bytes ]) e

-- Bytes are left, and no token begins there.
pub no_token_at : (bytes : List ℕ) (at : ℕ) → prefix_len is_blank bytes ≡ 0 → 0 < length bytes → token_at bytes ≡ no_token → tokens_from at 0 bytes ≡ (at, Stray) ∷ []
no_token_at [] at front some e = absurd (omega arith)
no_token_at (b ∷ bytes) at front some e = begun b bytes at no_token front e

-- A token, and those behind it.
pub one_token : (bytes : List ℕ) (at : ℕ) (spelled : Spelled) → prefix_len is_blank bytes ≡ 0 → token_at bytes ≡ Some spelled
    → tokens_from at 0 bytes ≡ (at, spelled.0) ∷ behind spelled.0 (tokens_from (at + spelled.1) 0 (drop spelled.1 bytes))
one_token [] at spelled front e = absurd cc
one_token (b ∷ bytes) at spelled front e =
    let is = is_token (b ∷ bytes) spelled e in
    let one : suc (spelled.1 - 1) ≡ spelled.1 = omega (arith, is.some) in
    let end : (at + 1) + (spelled.1 - 1) ≡ at + spelled.1 = omega (arith, is.some) in
    let rest = tokens_from (at + spelled.1) 0 (drop spelled.1 (b ∷ bytes)) in
    let passed : tokens_from (at + 1) (spelled.1 - 1) bytes ≡ rest = past_token bytes (at + 1) (spelled.1 - 1) (omega (arith, is.within, is.some)) ∙ ap (λ (n : ℕ). tokens_from n 0 (drop (spelled.1 - 1) bytes)) end ∙ ap (λ (n : ℕ). tokens_from (at + spelled.1) 0 (drop n (b ∷ bytes))) one in
    begun b bytes at (Some spelled) front e ∙ ap (λ (ts : List (ℕ × Token)). (at, spelled.0) ∷ ts) (passed ∙ sym (is.more rest))

-- no blank stands behind the blanks in front
no_blank : (bytes : List ℕ) → prefix_len is_blank (drop (prefix_len is_blank bytes) bytes) ≡ 0
no_blank [] = refl
no_blank (b ∷ bytes) =
    elim (cases_Bool (is_blank b)) [
      | inl blank ↦ ap (λ (n : ℕ). prefix_len is_blank (drop n (b ∷ bytes))) (prefix_len_more is_blank b bytes blank) ∙ no_blank bytes
      | inr other ↦
          let none : prefix_len is_blank (b ∷ bytes) ≡ 0 = cond-false (is_blank b) (1 + prefix_len is_blank bytes) 0 other in
          ap (λ (n : ℕ). prefix_len is_blank (drop n (b ∷ bytes))) none ∙ none
    ]

-- The tokens behind the blanks are those in front of them.
pub past_blanks_of : (line : List ℕ) (at n : ℕ) → n ≡ prefix_len is_blank (drop at line) → tokens_from (at + n) 0 (drop (at + n) line) ≡ tokens_from at 0 (drop at line)
past_blanks_of line at n is =
    ap (λ (bytes : List ℕ). tokens_from (at + n) 0 bytes) (sym (drop-drop n at line))
    ∙ ap (λ (k : ℕ). tokens_from (at + k) 0 (drop k (drop at line))) is
    ∙ sym (past_blanks (drop at line) at)

-- No blank stands behind them.
pub no_blank_of : (line : List ℕ) (at n : ℕ) → n ≡ prefix_len is_blank (drop at line) → prefix_len is_blank (drop (at + n) line) ≡ 0
no_blank_of line at n is =
    ap (λ (bytes : List ℕ). prefix_len is_blank bytes) (sym (drop-drop n at line))
    ∙ ap (λ (k : ℕ). prefix_len is_blank (drop k (drop at line))) is
    ∙ no_blank (drop at line)

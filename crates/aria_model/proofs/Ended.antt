-- The tokens of a line end once.
use Rattle.std.proofs.Common.{◌≡◌, ℕ, zero, suc, ◌+◌, ◌-◌, Bool, true, false, ◌&&◌, ◌==◌, if◌then◌else◌, nat_le, List, [], ◌∷◌, ◌++◌, length, drop, Option, Some, None, refl, ap, ◌∙◌, subst, arith}
use Rattle.std.specs.Prelude.{ℤ, pos}
use Rattle.std.specs.List.{take_while}
use Rattle.aria_page.specs.Word.{begins_word, continues_word}
use Rattle.aria_model.specs.Token.{Token, Number, Wide, End, Stray, is_blank, is_digit, is_sign, Spelled, word_of, number_of, negative_of, minus, digits_value, text_rest, hex_rest, quoted_of, begins_quote, behind_first, token_at, tokens_from, tokens}
use Rattle.aria_model.specs.Grammar.{Tokens}
use Rattle.aria_model.specs.Spelling.{Stands}
use Rattle.aria_model.proofs.Telling.{IsEnded, IsTaken}

-- a token with which a line doesn't end
abbrev pub IsInside : Token → Type 0
IsInside End = ⊥
IsInside Stray = ⊥
IsInside token = Unit {0}

pub taken_inside : (t : Token) → IsTaken t → IsInside t
taken_inside Wide h = tt
taken_inside End h = h
taken_inside Stray h = h
taken_inside t h = tt

ended_onto : (at : ℕ) (t : Token) (ts : Tokens) → IsInside t → IsEnded ts → IsEnded ((at, t) ∷ ts)
ended_onto at End ts h e = absurd h
ended_onto at Stray ts h e = absurd h
ended_onto at t ts h e = e

-- ---- no token of bytes ends the line

data Gives : Option Spelled → Type 0 where
  nothing_there : Gives None
  gives : {spelled : Spelled} → IsInside spelled.0 → Gives (Some spelled)

gives_if : (b : Bool) {x y : Option Spelled} → Gives x → Gives y → Gives (if b then x else y)
gives_if true x y = x
gives_if false x y = y

gives_quoted : (opening : ℕ) (text : Option (List ℕ × ℕ)) → Gives (quoted_of opening text)
gives_quoted opening None = nothing_there
gives_quoted opening (Some text) = gives tt

gives_word : (word : List ℕ) → Gives (word_of word)
gives_word word = gives_if (nat_le (length word) 64) (gives tt) nothing_there

inside_number : (b : Bool) (n : ℤ) → IsInside (if b then Number n else Wide)
inside_number true n = tt
inside_number false n = tt

gives_number : (digits : List ℕ) → Gives (number_of digits)
gives_number digits = gives (inside_number _ (pos (digits_value 0 digits)))

gives_negative : (digits : List ℕ) → Gives (negative_of digits)
gives_negative [] = nothing_there
gives_negative (d ∷ digits) = gives (inside_number _ (minus (digits_value 0 (d ∷ digits))))

gives_token : (bytes : List ℕ) → Gives (token_at bytes)
gives_token [] = nothing_there
gives_token (b ∷ bs) =
    gives_if (b == 39) (gives_quoted 1 (text_rest bs))
    (gives_if ((b == 120) && begins_quote bs) (gives_quoted 2 (hex_rest (behind_first bs)))
    (gives_if (begins_word b) (gives_word (take_while continues_word (b ∷ bs)))
    (gives_if (is_digit b) (gives_number (take_while is_digit (b ∷ bs)))
    (gives_if (b == 45) (gives_negative (take_while is_digit bs))
    (gives_if (is_sign b) (gives tt) nothing_there)))))

-- ---- all tokens of a line

-- each token stands at its offset
abbrev pub AllStand : List ℕ → Tokens → Type 0
AllStand line [] = Unit {0}
AllStand line ((at, t) ∷ ts) = Stands line at t × AllStand line ts

stands_there : (line : List ℕ) (at : ℕ) (t : Token) → IsInside t → (taken : ℕ) → token_at (drop at line) ≡ Some (t, taken) → Stands line at t
stands_there line at End h taken e = absurd h
stands_there line at Stray h taken e = absurd h
stands_there line at t h taken e = (taken, e)

-- what is shown of all tokens of bytes of a line
record Shown (line : List ℕ) (ts : Tokens) : Type 0 where
  ended : IsEnded ts
  stand : AllStand line ts

shown_if : (b : Bool) (line : List ℕ) {x y : Tokens} (c : Bool) → c ≡ b → Shown line x → (c ≡ false → Shown line y) → Shown line (if b then x else y)
shown_if true line c e x y = x
shown_if false line c e x y = y e

shown_token : (line : List ℕ) (at b : ℕ) (bs : List ℕ) → drop at line ≡ b ∷ bs → is_blank b ≡ false → (o : Option Spelled) → token_at (b ∷ bs) ≡ o → Gives o → ((inside : ℕ) → Shown line (tokens_from (at + 1) inside bs))
    → Shown line (elim o as (λ _. Tokens) [ None ↦ (at, Stray) ∷ [] | Some spelled ↦ (at, spelled.0) ∷ tokens_from (at + 1) (spelled.1 - 1) bs ])
shown_token line at b bs here other None is nothing_there rest = record { ended = refl; stand = ((b, bs, here, other, is), tt) }
shown_token line at b bs here other (Some spelled) is (gives inside) rest =
    let behind = rest (spelled.1 - 1) in
    record {
      ended = ended_onto at spelled.0 (tokens_from (at + 1) (spelled.1 - 1) bs) inside behind.ended;
      stand = (stands_there line at spelled.0 inside spelled.1 (ap token_at here ∙ is), behind.stand);
    }

-- the bytes behind the next
drop_next : (line : List ℕ) (at b : ℕ) (bs : List ℕ) → drop at line ≡ b ∷ bs → drop (suc at) line ≡ bs
drop_next [] zero b bs e = absurd cc
drop_next [] (suc at) b bs e = absurd cc
drop_next (x ∷ line) zero b bs e = cc
drop_next (x ∷ line) (suc at) b bs e = drop_next line at b bs e

next : (line : List ℕ) (at b : ℕ) (bs : List ℕ) → drop at line ≡ b ∷ bs → drop (at + 1) line ≡ bs
next line at b bs e =
    let one_more : at + 1 ≡ suc at = omega arith in
    ap (λ (n : ℕ). drop n line) one_more ∙ drop_next line at b bs e

shown_tokens : (line : List ℕ) (at inside : ℕ) (bytes : List ℕ) → at + length bytes ≡ length line → drop at line ≡ bytes → Shown line (tokens_from at inside bytes)
shown_tokens line at inside [] e here = record { ended = refl; stand = (omega arith, tt) }
shown_tokens line at (suc inside) (b ∷ bs) e here = shown_tokens line (at + 1) inside bs (omega arith) (next line at b bs here)
shown_tokens line at zero (b ∷ bs) e here =
    let behind : (at + 1) + length bs ≡ length line = omega arith in
    shown_if (is_blank b) line (is_blank b) refl (shown_tokens line (at + 1) zero bs behind (next line at b bs here))
    (λ other. shown_token line at b bs here other (token_at (b ∷ bs)) refl (gives_token (b ∷ bs)) (λ inside. shown_tokens line (at + 1) inside bs behind (next line at b bs here)))

shown_line : (line : List ℕ) → Shown line (tokens line)
shown_line line = shown_tokens line 0 0 line (omega arith) refl

-- The last token of a line, and no other, is its end or a byte at which no token begins.
pub tokens_ended : (line : List ℕ) → IsEnded (tokens line)
tokens_ended line = (shown_line line).ended

stands_among : (line : List ℕ) (before : Tokens) (at : ℕ) (t : Token) (after : Tokens) → AllStand line (before ++ (at, t) ∷ after) → Stands line at t
stands_among line [] at t after h = h.0
stands_among line ((a, u) ∷ before) at t after h = stands_among line before at t after h.1

-- Each token of a line stands at its offset.
pub token_stands : (line : List ℕ) (before : Tokens) (at : ℕ) (t : Token) (after : Tokens) → tokens line ≡ before ++ (at, t) ∷ after → Stands line at t
token_stands line before at t after e = stands_among line before at t after (subst (AllStand line) e (shown_line line).stand)

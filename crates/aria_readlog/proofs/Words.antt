-- The bytes of a word are text.
use Rattle.std.proofs.Common.{◌≡◌, ℕ, ◌<◌, Bool, true, false, ◌&&◌, IsTrue, List, [], ◌∷◌, refl, arith, length, nat_le, All}
use Rattle.std.specs.List.{list_all}
use Rattle.std.specs.Str.{IsUtf8}
use Rattle.std.proofs.lemmas.List.Elements.{All-nil, All-cons}
use Rattle.std.proofs.lemmas.Bool.Decides.{nat_tests}
use Rattle.std.proofs.lemmas.Str.{IsUtf8-from_ascii}
use Rattle.std.proofs.lemmas.Str.Ascii.{IsAscii-from_all}
use Rattle.aria_page.specs.Word.{begins_as_word, continues_word, is_word}
use Rattle.aria_page.specs.declared.name.TheConstants.{NAME_BYTES}

parts : (a b : Bool) → (a && b) ≡ true → (a ≡ true) × (b ≡ true)
parts true b is = (refl, is)
parts false b is = absurd (cc)

low : (b : ℕ) → continues_word b ≡ true → b < 128
low b is = grind (arith, nat_tests)

all_low : (bytes : List ℕ) → list_all continues_word bytes ≡ true → All (λ b. b < 128) bytes
all_low [] is = All-nil (λ (b : ℕ). b < 128)
all_low (b ∷ bytes) is =
    let both = parts (continues_word b) (list_all continues_word bytes) is in
    All-cons (λ (b : ℕ). b < 128) b bytes (low b both.0) (all_low bytes both.1)

pub word_is_text : (bytes : List ℕ) → IsTrue (is_word bytes) → IsUtf8 bytes
word_is_text bytes is =
    let front = parts (begins_as_word bytes && list_all continues_word bytes) (nat_le (length bytes) NAME_BYTES) is in
    let both = parts (begins_as_word bytes) (list_all continues_word bytes) front.0 in
    IsUtf8-from_ascii bytes (IsAscii-from_all bytes (all_low bytes both.1))

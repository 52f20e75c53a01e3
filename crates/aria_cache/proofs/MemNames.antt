-- The names of tables in memory are words.
use Rattle.std.proofs.Common.{◌≡◌, ◌∙◌, ◌+◌, ◌^◌, ◌<◌, ◌≤◌, ◌%◌, ◌&&◌, ℕ, suc, Bool, true, nat_le, List, [], ◌∷◌, ◌++◌, length, refl, ap, arith}
use Rattle.std.specs.Prelude.{IsTrue, decimal}
use Rattle.std.specs.List.{list_all}
use Rattle.std.proofs.lemmas.List.Folds.{list_all-append}
use Rattle.std.proofs.lemmas.Fmt.{decimal_by_steps, length-decimal-le}
use Rattle.aria_page.specs.Word.{is_word, continues_word}
use Rattle.aria_cache.specs.MemPages.{mem_name}

-- a digit may stand in a word
digit : (n : ℕ) → n < 10 → continues_word (48 + n) ≡ true
digit n low = grind arith

digits : (n : ℕ) → n < 2 ^ 64 → list_all continues_word (decimal n) ≡ true
digits n low = decimal_by_steps (λ n ds. list_all continues_word ds ≡ true) one more n low
  where
    one : (n : ℕ) → n < 10 → list_all continues_word ((48 + n) ∷ []) ≡ true
    one n small = rw (digit n small) refl

    more : (n : ℕ) (ds : List ℕ) → 10 ≤ n → list_all continues_word ds ≡ true → list_all continues_word (ds ++ ((48 + n % 10) ∷ [])) ≡ true
    more n ds large each = list_all-append continues_word (ds) ((48 + n % 10) ∷ []) ∙ ap (λ (b : Bool). b && list_all continues_word ((48 + n % 10) ∷ [])) each ∙ one (n % 10) (omega arith)

pub short : (slot : ℕ) → slot < 2 ^ 32 → length (decimal slot) ≤ 10
short slot low = length-decimal-le 10 slot (omega arith) (omega arith) (omega arith)

pub named : (slot : ℕ) → slot < 2 ^ 32 → IsTrue (is_word (mem_name slot))
named slot low =
    let few : length (decimal slot) ≤ 10 = short slot low in
    let long : nat_le (suc (length (decimal slot))) 64 ≡ true = grind (arith, few) in
    rw (digits slot (omega arith)) long

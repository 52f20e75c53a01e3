-- Lists of what the numbers from 0 on give.
use Rattle.std.proofs.Common.{◌≡◌, ℕ, zero, suc, ◌+◌, List, [], ◌∷◌, ◌++◌, map, sym, ap, ◌∙◌, arith}
use Rattle.std.specs.List.{range_with_len}

last_one : {A : Type 0} (f : ℕ → A) (n a : ℕ) → map f (range_with_len a (suc n)) ≡ map f (range_with_len a n) ++ f (a + n) ∷ []
last_one f zero a = let e : a ≡ a + 0 = omega arith in ap (λ x. f x ∷ []) e
last_one f (suc n) a =
    let e : a + 1 + n ≡ a + suc n = omega arith in
    ap (λ l. f a ∷ l) (last_one f n (a + 1) ∙ ap (λ x. map f (range_with_len (a + 1) n) ++ f x ∷ []) e)

-- one more
pub one_more : {A : Type 0} (f : ℕ → A) (n : ℕ) (out more : List A) (x : A) → out ≡ map f (range_with_len 0 n) → x ≡ f n → more ≡ out ++ x ∷ [] → more ≡ map f (range_with_len 0 (n + 1))
one_more f n out more x is gives pushed =
    let e : 0 + n ≡ n = omega arith in
    let s : suc n ≡ n + 1 = omega arith in
    pushed ∙ ap (λ y. out ++ y ∷ []) gives ∙ ap (λ l. l ++ f n ∷ []) is ∙ ap (λ k. map f (range_with_len 0 n) ++ f k ∷ []) (sym e) ∙ sym (last_one f n 0) ∙ ap (λ k. map f (range_with_len 0 k)) s

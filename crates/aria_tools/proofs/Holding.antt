-- A held line that is clipped as it grows.
use Rattle.std.proofs.Common.{◌≡◌, ℕ, zero, suc, ◌-◌, List, [], ◌∷◌, ◌++◌, length, take, min, sym, ap, ◌∙◌, arith}
use Rattle.std.specs.Prelude.{Result, Ok, Err, OnErr, OnOk, is_ok, cond}
use Rattle.std.proofs.lemmas.List.{take_min, length-take}
use Rattle.aria_tools.specs.Held.{clipped}

-- the front of two lists, one after the other
take-append : (n : ℕ) (xs ys : List ℕ) → take n (xs ++ ys) ≡ take n xs ++ take (n - length xs) ys
take-append zero xs ys = let e : 0 - length xs ≡ 0 = omega arith in ap (λ (k : ℕ). take k ys) (sym e)
take-append (suc n) [] ys = let e : suc n - 0 ≡ suc n = omega arith in ap (λ (k : ℕ). take k ys) (sym e)
take-append (suc n) (x ∷ xs) ys = let e : n - length xs ≡ suc n - suc (length xs) = omega arith in
    ap (λ (l : List ℕ). x ∷ l) (take-append n xs ys ∙ ap (λ (k : ℕ). take n xs ++ take k ys) e)

-- more bytes are kept as far as there is room
pub clip_more : (rest bytes held new : List ℕ) → held ≡ clipped rest → new ≡ held ++ take (min (1048577 - length held) (length bytes)) bytes → new ≡ clipped (rest ++ bytes)
clip_more rest bytes held new held_is new_is =
    let size = ap length held_is ∙ length-take 1048577 rest in
    let room : 1048577 - length held ≡ 1048577 - length rest = omega (arith, size) in
    new_is ∙ ap (λ (l : List ℕ). held ++ l) (take_min (1048577 - length held) bytes ∙ ap (λ (k : ℕ). take k bytes) room)
    ∙ ap (λ (l : List ℕ). l ++ take (1048577 - length rest) bytes) held_is ∙ sym (take-append 1048577 rest bytes)

-- a fact holds after an error too
pub on_err : {T E P : Type 0} (r : Result T E) → P → OnErr r P
on_err (Ok x) p = tt
on_err (Err e) p = p

-- what a call that may fail leaves where it doesn't
pub on_ok_where : {T E A P : Type 0} (r : Result T E) (new a b : A) → new ≡ cond (is_ok r) a b → (new ≡ a → P) → OnOk r P
on_ok_where (Ok x) new a b e f = f e
on_ok_where (Err e) new a b h f = tt

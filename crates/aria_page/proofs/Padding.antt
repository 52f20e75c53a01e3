-- Bytes with zeros behind them, filled from the front.
use Rattle.std.proofs.Common.{◌≡◌, ℕ, suc, ◌+◌, ◌-◌, ◌<◌, ◌≤◌, List, [], ◌∷◌, ◌++◌, length, take, get_or, set, sym, ap, ◌∙◌, arith, append_assoc, add-one}
use Rattle.std.proofs.Math.ListN.{replicate}
use Rattle.std.proofs.Math.Seq.{set-append_seam, take-suc}
use Rattle.std.proofs.lemmas.List.{length-take}

-- one more byte in place of the first zero
pub padded_more : (bytes : List ℕ) (size i b : ℕ) → i < length bytes → length bytes ≤ size → get_or bytes i 0 ≡ b
    → set (take i bytes ++ replicate (size - i) 0) i b ≡ take (i + 1) bytes ++ replicate (size - (i + 1)) 0
padded_more bytes size i b low fits at =
    let left : size - i ≡ suc (size - (i + 1)) = omega arith in
    let front : length (take i bytes) ≡ i = length-take i bytes ∙ omega arith in
    let seam = set-append_seam (take i bytes) 0 (replicate (size - (i + 1)) 0) b in
    let longer : take (i + 1) bytes ≡ take i bytes ++ b ∷ [] = ap (λ (n : ℕ). take n bytes) (add-one i) ∙ take-suc bytes i 0 low ∙ ap (λ (x : ℕ). take i bytes ++ x ∷ []) at in
    ap (λ (n : ℕ). set (take i bytes ++ replicate n 0) i b) left
    ∙ ap (λ (n : ℕ). set (take i bytes ++ 0 ∷ replicate (size - (i + 1)) 0) n b) (sym front)
    ∙ seam
    ∙ sym (append_assoc (take i bytes) (b ∷ []) (replicate (size - (i + 1)) 0))
    ∙ ap (λ (l : List ℕ). l ++ replicate (size - (i + 1)) 0) (sym longer)

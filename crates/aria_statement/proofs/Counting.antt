-- Places counted from a further one.
use Rattle.std.proofs.Common.{◌≡◌, ℕ, suc, ◌+◌, Option, Some, None, refl, ap, ◌∙◌, arith}
use Rattle.aria_model.specs.Grammar.{option_suc}

-- a number counted from a further place
abbrev pub further : ℕ → Option ℕ → Option ℕ
further at None = None
further at (Some n) = Some (at + n)

pub further_none : (o : Option ℕ) → further 0 o ≡ o
further_none None = refl
further_none (Some n) = let same : 0 + n ≡ n = omega arith in ap (λ (k : ℕ). Some k) same

pub further_one : (at : ℕ) (o : Option ℕ) → further (at + 1) o ≡ further at (option_suc o)
further_one at None = refl
further_one at (Some n) = let same : (at + 1) + n ≡ at + suc n = omega arith in ap (λ (k : ℕ). Some k) same

pub further_two : (at : ℕ) (o : Option ℕ) → further (at + 2) o ≡ further at (option_suc (option_suc o))
further_two at o =
    let two : at + 2 ≡ (at + 1) + 1 = omega arith in
    ap (λ (k : ℕ). further k o) two ∙ further_one (at + 1) o ∙ further_one at (option_suc o)

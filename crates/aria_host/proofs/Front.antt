-- Taking bytes from the front of what is left.
use Rattle.std.proofs.Common.{◌≡◌, ℕ, ◌+◌, ◌-◌, ◌^◌, ◌<◌, min, true, refl, List, ◌++◌, length, take, drop, sym, ◌∙◌, ap, arith, take-append-drop}
use Rattle.std.proofs.lemmas.List.{nil_from_length, drop-drop}
use Rattle.aria_host.specs.Source.{Takes}

-- as many bytes as the buffer holds are taken from the front of what is left
pub takes_front : (bytes rest into : List ℕ) (at n room taken : ℕ) → rest ≡ drop at bytes → 0 < room → length into ≡ room
    → n ≡ min (length rest) room → take n into ≡ take n rest
    → Takes true n into (drop at bytes) (drop (at + n) bytes) taken (min (taken + n) (2 ^ 128 - 1))
takes_front bytes rest into at n room taken is some long count copied =
    let left = drop at bytes in
    let same : length rest ≡ length left = ap length is in
    let front : take n left ≡ take n into = ap (λ (l : List ℕ). take n l) (sym is) ∙ sym copied in
    record {
      within = omega arith;
      counted = refl;
      bytes = λ _. sym (take-append-drop n left) ∙ ap (λ (l : List ℕ). l ++ drop n left) front ∙ ap (λ (l : List ℕ). take n into ++ l) (drop-drop n at bytes);
      end = λ _. (λ none. nil_from_length left (omega arith), λ none. let l0 : length left ≡ 0 = ap length none in omega arith);
    }

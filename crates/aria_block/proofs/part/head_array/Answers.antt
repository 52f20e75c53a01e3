use Rattle.std.proofs.Common.{◌≡◌, ℕ, List, [], ◌∷◌, ◌++◌, length, get_or, refl, sym, ap, ◌∙◌, arith}
use Rattle.aria_page.specs.Number.{number}
use Rattle.aria_page.proofs.Numbers.{number-one, length-number}
use Rattle.aria_block.specs.PartPage.{part_byte}
use Rattle.aria_block.proofs.Spots.{part_byte-fits}
use Rattle.aria_block.proofs.part.head_array.Goals as goal

two : (xs : List ℕ) → length xs ≡ 2 → get_or xs 0 0 ∷ (get_or xs 1 0 ∷ []) ≡ xs
two [] long = absurd (omega (arith, long))
two (x ∷ []) long = absurd (omega (arith, long))
two (x ∷ y ∷ []) long = refl
two (x ∷ y ∷ z ∷ xs) long = absurd (omega (arith, long))

pub returns : goal.returns
returns c =
    let kind : ℕ = part_byte c.args.kind in
    let low : List ℕ = c.u16_bytes.result in
    let is : low ≡ number 2 c.args.end = c.u16_bytes.ensures in
    let parts : get_or low 0 0 ∷ (get_or low 1 0 ∷ []) ≡ number 2 c.args.end = two low (ap length is ∙ length-number 2 c.args.end) ∙ is in
    (λ i. c.to_byte.ensures i ∷ (c.args.entries ∷ (get_or low 0 0 ∷ (get_or low 1 0 ∷ []))))
    ∙ (λ i. sym (number-one kind (part_byte-fits c.args.kind)) i ++ (sym (number-one c.args.entries c.ranges.entries.fits) i ++ parts i))

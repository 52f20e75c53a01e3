-- The newest undo records, at the end of the list of those that are pending.
use Rattle.std.proofs.Common.{◌≡◌, ◌∙◌, ℕ, ◌-◌, ◌<◌, ◌≤◌, List, [], ◌∷◌, length, drop, reverse, ap, sym, refl, arith}
use Rattle.std.specs.Prelude.{slice_get, unwrap_or, get_or}
use Rattle.std.proofs.lemmas.List.{get_or-reverse}
use Rattle.std.proofs.lemmas.Option.{unwrap_or-slice_get}
use Rattle.aria_page.specs.declared.lsn.Lsn.{Lsn}
use Rattle.aria_cache.specs.Ending.{newest, no_lsn}

first : (l : List Lsn) → get_or l 0 no_lsn ≡ newest l
first [] = refl
first (x ∷ xs) = refl

second : (l : List Lsn) → get_or l 1 no_lsn ≡ newest (drop 1 l)
second [] = refl
second (x ∷ []) = refl
second (x ∷ y ∷ xs) = refl

pub last_is : (xs : List Lsn) → 1 ≤ length xs → unwrap_or (slice_get xs (length xs - 1)) no_lsn ≡ newest (reverse xs)
last_is xs some = unwrap_or-slice_get xs (length xs - 1) no_lsn
    ∙ ap (λ (n : ℕ). get_or xs n no_lsn) (let e : length xs - 1 ≡ length xs - 1 - 0 = omega (arith, some) in e)
    ∙ sym (get_or-reverse xs 0 no_lsn (omega (arith, some))) ∙ first (reverse xs)

pub second_is : (xs : List Lsn) → 2 ≤ length xs → unwrap_or (slice_get xs (length xs - 2)) no_lsn ≡ newest (drop 1 (reverse xs))
second_is xs some = unwrap_or-slice_get xs (length xs - 2) no_lsn
    ∙ ap (λ (n : ℕ). get_or xs n no_lsn) (let e : length xs - 2 ≡ length xs - 1 - 1 = omega (arith, some) in e)
    ∙ sym (get_or-reverse xs 1 no_lsn (omega (arith, some))) ∙ second (reverse xs)

pub none_is : (xs : List Lsn) → length xs < 1 → no_lsn ≡ newest (reverse xs)
none_is [] few = refl
none_is (x ∷ xs) few = absurd (omega (arith, few))

pub no_second : (xs : List Lsn) → length xs < 2 → no_lsn ≡ newest (drop 1 (reverse xs))
no_second [] few = refl
no_second (x ∷ []) few = refl
no_second (x ∷ y ∷ xs) few = absurd (omega (arith, few))

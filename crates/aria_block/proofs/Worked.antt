-- Rows worked out on the definitions.
use Rattle.std.proofs.Common.{◌≡◌, ℕ, List, [], ◌∷◌, Some, refl}
use Rattle.aria_page.specs.Number.{number}
use Rattle.aria_page.specs.declared.place.Places.{Places}
use Rattle.aria_block.specs.Pieces.{head_size, tail_size, blob_count, head_of}

-- the row bytes in a head and in a tail, and the number of blob pages
abbrev sizes : ℕ → List ℕ
sizes n = head_size n ∷ (tail_size n ∷ (blob_count n ∷ []))

-- 5986 bytes lie in a head of 6000 bytes
whole : sizes 5986 ≡ 5986 ∷ (0 ∷ (0 ∷ []))
whole = refl

-- of 5987 bytes 4001 are left, one too many for a tail: they lie on a blob page
too_long : sizes 5987 ≡ 1986 ∷ (0 ∷ (1 ∷ []))
too_long = refl

-- a full blob page and the longest tail
with_tail : sizes 14166 ≡ 1986 ∷ (4000 ∷ (1 ∷ []))
with_tail = refl

-- the longest row
longest : sizes 65540 ≡ 1986 ∷ (0 ∷ (8 ∷ []))
longest = refl

-- the head of a row of three bytes
abbrev places : Places
places = record { head = record { page = 7; slot = 1 }; tail = Some (record { page = 258; slot = 3 }); blob = 9; blobs = 2 }

small : head_of places (97 ∷ (98 ∷ (99 ∷ []))) ≡ 0 ∷ (0 ∷ (0 ∷ (3 ∷ (0 ∷ (0 ∷ (1 ∷ (2 ∷ (3 ∷ (0 ∷ (0 ∷ (0 ∷ (9 ∷ (2 ∷ (97 ∷ (98 ∷ (99 ∷ []))))))))))))))))
unfolding head_of number
small = refl

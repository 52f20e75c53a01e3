-- No two pages have one number, and it tells the page's slot.
use Rattle.std.proofs.Common.{◌≡◌, ◌+◌, ◌*◌, ◌/◌, ◌^◌, ◌<◌, ℕ, refl, arith}
use Rattle.aria_page.specs.declared.place.Part.{Part}
use Rattle.aria_page.specs.declared.place.Part.TheVariants.{Keys, Rows}
use Rattle.aria_cache.specs.declared.page_id.PageId.{PageId}
use Rattle.aria_cache.specs.Key.{part_key, key_of}

same_numbers : (s t : ℕ) (p q : Part) (m n : ℕ) → m < 2 ^ 31 → n < 2 ^ 31 → s * 2 ^ 32 + part_key p + m ≡ t * 2 ^ 32 + part_key q + n → (s ≡ t) × (p ≡ q) × (m ≡ n)
same_numbers s t Keys Keys m n low small is = (omega (arith, is, low, small), refl, omega (arith, is, low, small))
same_numbers s t Rows Rows m n low small is = (omega (arith, is, low, small), refl, omega (arith, is, low, small))
same_numbers s t Keys Rows m n low small is = absurd (omega (arith, is, low, small))
same_numbers s t Rows Keys m n low small is = absurd (omega (arith, is, low, small))

pub once : (at other : PageId) → at.page < 2 ^ 31 → other.page < 2 ^ 31 → key_of at ≡ key_of other → at ≡ other
once at other low small is =
    let same = same_numbers at.slot other.slot at.part other.part at.page other.page low small is in
    λ i. record { slot = same.0 i; part = same.1 i; page = same.2 i }

slot_of_number : (s : ℕ) (p : Part) (n : ℕ) → n < 2 ^ 31 → (s * 2 ^ 32 + part_key p + n) / 2 ^ 32 ≡ s
slot_of_number s Keys n low = omega (arith, low)
slot_of_number s Rows n low = omega (arith, low)

pub slot_of_key : (at : PageId) → at.page < 2 ^ 31 → key_of at / 2 ^ 32 ≡ at.slot
slot_of_key at low = slot_of_number at.slot at.part at.page low

-- Slots for one more part, and the room that a page has.
use Rattle.std.proofs.Common.{◌≡◌, ◌⊎◌, inl, inr, ℕ, ◌+◌, ◌*◌, ◌-◌, ◌<◌, ◌≤◌, max, true, false, Option, Some, None, List, refl, sym, ◌∙◌, arith, subst, eq-eqb}
use Rattle.std.specs.Prelude.{slice_index}
use Rattle.std.proofs.lemmas.Bool.{cases_eq, cases_lt, ne_eqb}
use Rattle.aria_bitmap.specs.Code.{entry, all_used, room}
use Rattle.aria_bitmap.proofs.Directory.{unused}
use Rattle.aria_block.specs.declared.spot.Space.{Space}
use Rattle.aria_block.specs.declared.spot.Spot.{Spot}
use Rattle.aria_block.specs.declared.part_kind.PartKind.{PartKind}
use Rattle.aria_block.specs.declared.part_kind.PartKind.TheVariants.{Head, Tail}
use Rattle.aria_block.specs.PartPage.{part_byte}
use Rattle.aria_block.specs.Spot.{Begins, IsLowest, IsSpot, FindsSpot, Fits}

-- the byte of a kind of parts
pub part_byte-some : (kind : PartKind) → 0 < part_byte kind
part_byte-some Head = omega arith
part_byte-some Tail = omega arith

pub part_byte-fits : (kind : PartKind) → part_byte kind < 256
part_byte-fits Head = omega arith
part_byte-fits Tail = omega arith

-- a slot that fits is where a part may go
pub is_spot : (kind : PartKind) (body : List ℕ) (space : Space) (slot len : ℕ) (s : Spot) → Begins kind body space.entries space.end → (slot < space.entries → entry body slot ≡ 0) → Fits space slot len (Some s) → IsSpot kind len body s
is_spot kind body space slot len s begins unused (is, few, room) = subst (IsSpot kind len body) (sym is) (record { begins = begins; unused = unused; entries = refl; few = few; room = room })

-- where the lowest slot doesn't fit, the page has less room
less : (kind : PartKind) (body : List ℕ) (space : Space) (slot len : ℕ) → Begins kind body space.entries space.end → space.entries ≤ 255 → IsLowest body space.entries slot
    → (255 < slot + 1) ⊎ (8181 < space.end + len + 4 * max space.entries (slot + 1)) → slice_index body 0 ≡ part_byte kind → 1 ≤ len → room body < len
unfolding room
less kind body space slot len (inl (free, none, end)) low lowest full is some = absurd (omega (arith, free, is, part_byte-some kind))
less kind body space slot len (inr (same, entries, end)) low lowest full is some = elim (cases_lt slot space.entries) [
  | inl lt ↦
      let gap : 8181 - space.end - 4 * space.entries < len = elim full [ inl past ↦ absurd (omega (arith, past, lt, low)) | inr big ↦ omega (arith, big, lt, some) ] in
      let not_all : all_used body (slice_index body 1) ≡ false = subst (λ (n : ℕ). all_used body n ≡ false) entries (unused body slot space.entries lt (eq-eqb (entry body slot) 0 (lowest.unused lt))) in
      rw not_all (subst (λ (n : ℕ). 8181 - n - 4 * slice_index body 1 < len) end (subst (λ (n : ℕ). 8181 - space.end - 4 * n < len) entries gap))
  | inr le ↦
      let at : slot ≡ space.entries = omega (arith, le, lowest.within) in
      let all : all_used body (slice_index body 1) ≡ true = subst (λ (n : ℕ). all_used body n ≡ true) (at ∙ entries) lowest.below in
      rw all (elim (cases_eq (slice_index body 1) 255) [
        | inl most ↦ rw (eq-eqb (slice_index body 1) 255 most) some
        | inr fewer ↦
            let gap : 8181 - space.end - 4 * space.entries - 4 < len = elim full [ inl past ↦ absurd (fewer (omega (arith, past, at, low, entries))) | inr big ↦ omega (arith, big, at, some) ] in
            rw (ne_eqb (slice_index body 1) 255 fewer) (subst (λ (n : ℕ). 8181 - n - 4 * slice_index body 1 - 4 < len) end (subst (λ (n : ℕ). 8181 - space.end - 4 * n - 4 < len) entries gap))
      ])
]

pub finds : (kind : PartKind) (body : List ℕ) (space : Space) (slot len : ℕ) (o : Option Spot) → Begins kind body space.entries space.end → space.entries ≤ 255 → IsLowest body space.entries slot → Fits space slot len o → FindsSpot kind len body o
finds kind body space slot len None begins low lowest full = (λ free. fresh begins free full, less kind body space slot len begins low lowest full)
  where
    fresh : Begins kind body space.entries space.end → slice_index body 0 ≡ 0 → (255 < slot + 1) ⊎ (8181 < space.end + len + 4 * max space.entries (slot + 1)) → 8181 < 4 + len + 4
    fresh (inl (is, none, end)) free (inl past) = absurd (omega (arith, past, none, lowest.within))
    fresh (inl (is, none, end)) free (inr big) = omega (arith, big, none, end, lowest.within)
    fresh (inr (is, entries, end)) free full = absurd (omega (arith, is, free, part_byte-some kind))
finds kind body space slot len (Some s) begins low lowest (is, few, room) = (is_spot kind body space slot len s begins lowest.unused (is, few, room), subst (λ (t : Spot). IsLowest body t.before t.slot) (sym is) lowest)

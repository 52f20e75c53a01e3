-- The edits that put a part on a page, and take one from it.
use Rattle.std.proofs.Common.{◌≡◌, ℕ, ◌+◌, ◌*◌, ◌-◌, ◌≤◌, List, [], ◌∷◌, ◌++◌, length, take, replicate, sym, ap, ◌∙◌, arith}
use Rattle.std.proofs.lemmas.List.{take-replicate}
use Rattle.std.proofs.Math.Seq.{take-append-add}
use Rattle.aria_page.specs.declared.edit.Edit.TheVariants.{Set}
use Rattle.aria_page.specs.Number.{number}
use Rattle.aria_page.proofs.Numbers.{length-number}
use Rattle.aria_block.specs.declared.part_kind.PartKind.{PartKind}
use Rattle.aria_block.specs.declared.spot.Spot.{Spot}
use Rattle.aria_block.specs.PartPage.{head_bytes, part_byte}
use Rattle.aria_block.specs.Puts.{new_entries, part_edits}

-- an entry and unused ones, of as many as a directory may have
pub entries_taken : (x k : ℕ) → k ≤ 254 → take (4 + 4 * k) (number 4 x ++ replicate 1016 0) ≡ number 4 x ++ replicate (4 * k) 0
entries_taken x k few =
    ap (λ (n : ℕ). take (n + 4 * k) (number 4 x ++ replicate 1016 0)) (sym (length-number 4 x))
    ∙ take-append-add (number 4 x) (replicate 1016 0) (4 * k)
    ∙ ap (λ (l : List ℕ). number 4 x ++ l) (take-replicate (4 * k) 1016 0 (omega (arith, few)))

pub same_edits : (kind : PartKind) (s : Spot) (bytes entries head : List ℕ) → entries ≡ new_entries s (length bytes) → head ≡ head_bytes (part_byte kind) s.entries (s.end + length bytes)
    → Set s.end bytes ∷ (Set (8181 - 4 * (s.slot + 1)) entries ∷ (Set 0 head ∷ [])) ≡ part_edits kind s bytes
same_edits kind s bytes entries head is first = λ i. Set s.end bytes ∷ (Set (8181 - 4 * (s.slot + 1)) (is i) ∷ (Set 0 (first i) ∷ []))

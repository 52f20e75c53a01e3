use Rattle.std.proofs.Common.{◌≡◌, ◌+◌, ◌-◌, ◌++◌, ℕ, List, length, take, ap, sym, ◌∙◌, arith, append_assoc, rules}
use Rattle.std.proofs.lemmas.Slice.{take-put_mid}
use Rattle.aria_page.specs.Number.{number}
use Rattle.aria_page.proofs.Numbers.{length-number}
use Rattle.aria_block.specs.Cut.{left_entry, left_directory}
use Rattle.aria_block.proofs.Cutting.{directory_step}
use Rattle.aria_block.proofs.cut.directory.Goals as goal

pub loop-slot-preserved : goal.loop-slot-preserved
loop-slot-preserved c =
    let slot : ℕ = c.loop-slot.slot in
    let to : ℕ = c.loop-slot.to in
    let x : List ℕ = c.copy_from_slice.new.self in
    let rest : List ℕ = left_directory c.args.body.now c.args.nth c.args.at c.args.len (slot - 1) in
    let is : x ≡ number 4 (left_entry c.args.body.now c.args.nth c.args.at c.args.len (slot - 1)) = c.copy_from_slice.ensures.after ∙ c.u32_bytes.ensures ∙ ap (number 4) c.left_entry.ensures in
    let long : length x ≡ 4 = ap length is ∙ length-number 4 (left_entry c.args.body.now c.args.nth c.args.at c.args.len (slot - 1)) in
    let some = c.loop-slot-test.true in (
      omega (arith, c.loop-slot.invariant.0),
      omega (arith, c.loop-slot.invariant.0, c.loop-slot.invariant.1, some),
      ap (λ (l : List ℕ). l ++ rest) (take-put_mid to (to + 4 - to) c.loop-slot.bytes x (to + 4) (omega (arith, long)) (search (rules, c.loop-slot.auto)))
          ∙ append_assoc (take to c.loop-slot.bytes) x rest
          ∙ ap (λ (l : List ℕ). take to c.loop-slot.bytes ++ l) (ap (λ (l : List ℕ). l ++ rest) is ∙ sym (directory_step c.args.body.now c.args.nth c.args.at c.args.len slot (omega (arith, some))))
          ∙ c.loop-slot.invariant.2,
    )

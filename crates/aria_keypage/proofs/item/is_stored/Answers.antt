use Rattle.std.proofs.Common.{◌∙◌, ap, sym, refl, arith, List, ℕ}
use Rattle.aria_keypage.specs.Packed.{common_length}
use Rattle.aria_keypage.specs.StoredItem.{StoredItem}
use Rattle.aria_keypage.proofs.Stored.{not_stored_short, stored-full, stored-part}
use Rattle.aria_keypage.proofs.item.is_stored.Goals as goal

pub returns-then-shared-before : goal.returns-then-shared-before
returns-then-shared-before c = ((λ h. absurd cc), (λ is. absurd (not_stored_short _ _ c.if-shared-before.true is)))

pub returns-then-item : goal.returns-then-item
returns-then-item c = (
  (λ _. stored-full c.args.before.now (record { shared = c.args.item.now.shared; rest = c.args.item.now.rest.now; to = c.args.item.now.to.now }) c.if-shared-before.false c.if-shared-item-gt-ENTRY_MAX.false (omega arith)),
  (λ _. refl),
)

pub returns : goal.returns
returns c =
    let r : StoredItem = record { shared = c.args.item.now.shared; rest = c.args.item.now.rest.now; to = c.args.item.now.to.now } in
    let both = stored-part c.args.before.now r c.if-shared-before.false c.if-shared-item-gt-ENTRY_MAX.false (omega arith) (λ e. absurd (omega arith)) in
    let tail = ap (λ (l : List ℕ). common_length l c.args.item.now.rest.now) c.bytes_from.ensures.value in
    ((λ t. both.0 (sym tail ∙ c.differ.ensures.0 t)), (λ is. c.differ.ensures.1 (tail ∙ both.1 is)))

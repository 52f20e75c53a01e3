use Rattle.std.proofs.Common.{refl, sym, ap, ◌∙◌}
use Rattle.std.proofs.lemmas.Bool.{eqb-true}
use Rattle.std.proofs.lemmas.List.{nil_from_length}
use Rattle.aria_keypage.specs.Packed.{common_length}
use Rattle.aria_keypage.proofs.Shares.{common-nil}
use Rattle.aria_keypage.proofs.item.differ.Goals as goal

pub returns-then-is_empty-2 : goal.returns-then-is_empty-2
returns-then-is_empty-2 c = (
  (λ _. ap (common_length c.args.a.now) (nil_from_length c.args.b.now (eqb-true _ _ (sym c.is_empty-2.ensures ∙ c.if-is_empty-2.true))) ∙ common-nil c.args.a.now),
  (λ _. refl),
)

use Rattle.std.proofs.Common.{sym, subst, List, ℕ}
use Rattle.aria_keypage.specs.Content.{Spells}
use Rattle.aria_keypage.proofs.Options.{none-map}
use Rattle.aria_keypage.proofs.key_page.KeyPage.view.Goals as goal

pub returns-clause-none : goal.returns-clause-none
returns-clause-none c =
    none-map c.of_body.result _ _ (λ none d is. none d (subst (λ (l : List ℕ). Spells l d) (sym c.body.ensures.value) is)) c.of_body.ensures.none

use Rattle.std.proofs.Common.{List, ℕ, drop, refl, ap, ◌∙◌}
use Rattle.aria_journal.proofs.Filled.{zero_fills}
use Rattle.aria_journal.proofs.log.Log.at.Goals as goal

pub returns : goal.returns
returns c = record { number_is = refl; begins_is = refl; used_is = refl; body_is = ap (λ (l : List ℕ). drop 16 l) c.zero.ensures ∙ zero_fills }

use Rattle.std.proofs.Common.{refl, ap, drop, ◌∙◌, List, ℕ}
use Rattle.aria_log.proofs.Filled.{zero_fills}
use Rattle.aria_log.proofs.find.log_at.Goals as goal

pub returns-clause-fills : goal.returns-clause-fills
returns-clause-fills c = record { number_is = refl; used_is = refl; body_is = ap (λ (l : List ℕ). drop 16 l) c.zero.ensures ∙ zero_fills }

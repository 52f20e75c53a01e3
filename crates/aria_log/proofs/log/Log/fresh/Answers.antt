use Rattle.std.proofs.Common.{refl, ap, drop, ◌∙◌, List, ℕ, arith}
use Rattle.aria_log.proofs.Filled.{zero_fills}
use Rattle.aria_log.proofs.Cutting.{fresh_opened}
use Rattle.aria_log.proofs.log.Log.fresh.Goals as goal

pub returns : goal.returns
returns g c = record { opened = λ told is. fresh_opened _ (g.H.Host.state c.args.host.now) 1 (omega arith) refl refl refl (ap (λ (l : List ℕ). drop 16 l) c.zero.ensures ∙ zero_fills) is }

use Rattle.std.proofs.Common.{◌∙◌, sym}
use Rattle.aria_log.proofs.Forcing.{tells_none, tells_before}
use Rattle.aria_log.proofs.log.Log.is_forced.Goals as goal

pub returns-then-means_none-clause-tells : goal.returns-then-means_none-clause-tells
returns-then-means_none-clause-tells g c = λ told base groups forced is. tells_none c.args.self.now (g.H.Host.state c.args.host.now) base groups forced is c.args.lsn (sym c.means_none.ensures ∙ c.if-means_none.true)

pub returns-clause-tells : goal.returns-clause-tells
returns-clause-tells g c = λ told base groups forced is. tells_before c.args.self.now (g.H.Host.state c.args.host.now) base groups forced is c.args.lsn c.is_before_place.result (sym c.means_none.ensures ∙ c.if-means_none.false) c.is_before_place.ensures

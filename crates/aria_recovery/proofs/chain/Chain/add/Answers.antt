use Rattle.std.proofs.Common.{refl}
use Rattle.aria_recovery.specs.Pending.{pending_of}
use Rattle.aria_recovery.specs.declared.chain.Chain.{Chain}
use Rattle.aria_recovery.proofs.Chaining.{chain_push}
use Rattle.aria_recovery.proofs.Noting.{when_ok}
use Rattle.aria_recovery.proofs.chain.Chain.add.Goals as goal

pub returns : goal.returns
returns c checkpoint gs place group has at_is link_is =
    let new : Chain = record { checkpoint = c.args.self.now.checkpoint; pending = c.pend.new.pending; unchained = c.failure-self.result } in
    when_ok c.pend.result (c.pend.ensures place (pending_of gs) at_is has.pending)
    (chain_push checkpoint c.args.self.now new gs place group c.args.at c.args.link has at_is link_is refl (c.failure-self.ensures (pending_of gs) has.pending))

use Rattle.std.proofs.Common.{◌≡◌, ◌∙◌, sym, arith, length}
use Rattle.aria_journal.proofs.Appending.{adds_nothing, wrote_full}
use Rattle.aria_journal.proofs.log.Log.make_room.Goals as goal

pub returns-then-self-clause-made : goal.returns-then-self-clause-made
returns-then-self-clause-made g c = λ told base text is.
    let full : length is.held ≡ 8176 = sym is.fills.used_is ∙ c.if-self.true in
    wrote_full c.args.self.now c.write.new.self (g.H.Host.state c.args.host.now) (g.H.Host.state c.write.new.host) base text _ is full
    (c.write.ensures.wrote told base is.written is.before is.held is.writing is.fills (omega (arith, full)))

pub returns-clause-made : goal.returns-clause-made
returns-clause-made g c = λ told base text is.
    adds_nothing c.args.self.now (g.H.Host.state c.args.host.now) base text (λ f b left. g.met.H.Host.only_now c.args.host.now f b told left) is

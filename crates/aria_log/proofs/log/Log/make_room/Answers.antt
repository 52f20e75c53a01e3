use Rattle.std.proofs.Common.{◌≡◌, ◌∙◌, sym, arith, length}
use Rattle.aria_log.proofs.Appending.{adds_nothing, wrote_full}
use Rattle.aria_log.proofs.log.Log.make_room.Goals as goal

pub write-requires-clause-at : goal.write-requires-clause-at
write-requires-clause-at g c = λ told.
    let (base, whole, text, is) = c.requires.at told in
    (base, whole, is.parts, is.writing, is.fills.number_is)

pub returns-then-self-clause-made : goal.returns-then-self-clause-made
returns-then-self-clause-made g c = λ told base whole text is.
    let full : length is.held ≡ 8176 = sym is.fills.used_is ∙ c.if-self.true in
    wrote_full c.args.self.now c.write.new.self (g.H.Host.state c.args.host.now) (g.H.Host.state c.write.new.host) base whole text _ is full c.write.ensures.first
    (c.write.ensures.wrote told base whole is.parts is.held is.writing is.full is.first is.fills (omega (arith, full)))

pub returns-clause-made : goal.returns-clause-made
returns-clause-made g c = λ told base whole text is.
    adds_nothing c.args.self.now (g.H.Host.state c.args.host.now) base whole text (λ f b left. g.met.H.Host.only_now c.args.host.now f b told left) is

use Rattle.std.proofs.Common.{◌≡◌, ◌∙◌, ◌+◌, ◌-◌, ℕ, List, ap, sym, arith, length, take, drop}
use Rattle.std.proofs.lemmas.List.{length-take, length-drop}
use Rattle.aria_log.proofs.RunReads.{last_is, loaded_is, last_some, loaded_some}
use Rattle.aria_log.proofs.log.Log.bytes_of.Goals as goal

pub returns-then-number-self-clause-shown : goal.returns-then-number-self-clause-shown
returns-then-number-self-clause-shown c = λ piece e.
    ap (λ (k : ℕ). take k (drop 16 c.bytes.result.now)) (let same : 16 + c.args.self.now.used - 16 ≡ c.args.self.now.used = omega arith in same)
    ∙ ap (λ (l : List ℕ). take c.args.self.now.used (drop 16 l)) c.bytes.ensures.value ∙ (last_is c.args.self.now c.args.reader.now c.args.number piece c.if-number-self.true e).1

pub returns-then-number-self-clause-some : goal.returns-then-number-self-clause-some
returns-then-number-self-clause-some c = λ some.
    let used = last_some c.args.self.now c.args.reader.now c.args.number c.if-number-self.true some in
    omega (arith, used, length-take (16 + c.args.self.now.used - 16) (drop 16 c.bytes.result.now), length-drop 16 c.bytes.result.now, ap length c.bytes.ensures.value, c.bytes.ensures.len)

pub returns-else-number-self-clause-shown : goal.returns-else-number-self-clause-shown
returns-else-number-self-clause-shown c = λ piece e. c.body.ensures.bytes ∙ (loaded_is c.args.self.now c.args.reader.now c.args.number piece c.if-number-self.false e).1

pub returns-else-number-self-clause-some : goal.returns-else-number-self-clause-some
returns-else-number-self-clause-some c = λ some. let used = loaded_some c.args.self.now c.args.reader.now c.args.number c.if-number-self.false some in omega (arith, used, c.body.ensures.len)

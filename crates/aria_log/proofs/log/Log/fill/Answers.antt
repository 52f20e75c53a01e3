use Rattle.std.proofs.Common.{◌≡◌, ◌-◌, min, length, refl, rules}
use Rattle.aria_log.proofs.Filled.{fills_more}
use Rattle.aria_log.proofs.log.Log.fill.Goals as goal

pub returns-clause-filled : goal.returns-clause-filled
returns-clause-filled c = λ number held is.
    let counts : c.min-count.result ≡ min (8176 - c.args.self.now.used) (length c.args.bytes.now) = search rules in
    fills_more c.args.self.now _ number held c.args.bytes.now _ c.min-count.result is c.put.ensures.len_before c.args.self.now.within counts refl c.put.ensures.bytes refl refl

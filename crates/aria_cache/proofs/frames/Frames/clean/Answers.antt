use Rattle.std.proofs.Common.{refl}
use Rattle.std.proofs.lemmas.Map.{length-set_value}
use Rattle.std.proofs.Common.{nat_eq}
use Rattle.aria_cache.specs.Frames.{shown, cleaned}
use Rattle.aria_cache.proofs.Entries.{changed}
use Rattle.aria_cache.proofs.frames.Frames.clean.Goals as goal

pub returns-in-Some-clause-held : goal.returns-in-Some-clause-held
returns-in-Some-clause-held c = changed shown cleaned c.args.key c.args.self.now.cache.entries c.in-Some.frame.now _ c.in-Some.ensures.value refl

pub returns-in-Some-clause-count : goal.returns-in-Some-clause-count
returns-in-Some-clause-count c = length-set_value (nat_eq c.args.key) c.args.self.now.cache.entries _

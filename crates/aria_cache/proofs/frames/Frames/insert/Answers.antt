use Rattle.std.proofs.Common.{◌≡◌, arith, refl, Some, None, Option}
use Rattle.std.specs.Prelude.{option_map}
use Rattle.aria_cache.specs.Frames.{shown}
use Rattle.aria_cache.specs.declared.frames.Frame.{Frame}
use Rattle.aria_cache.proofs.Entries.{put_held, put_new}
use Rattle.aria_cache.proofs.frames.Frames.insert.Goals as goal

unseen : (o : Option Frame) → option_map shown o ≡ None → o ≡ None
unseen None e = refl
unseen (Some f) e = absurd (cc)

pub returns-in-Ok-clause-ok : goal.returns-in-Ok-clause-ok
returns-in-Ok-clause-ok c = rw c.in-Ok.ensures.entries (put_held shown c.args.self.now.cache c.args.key c.args.frame (unseen _ c.requires.absent) c.requires.free)

pub returns-in-Ok-clause-count : goal.returns-in-Ok-clause-count
returns-in-Ok-clause-count c = rw (c.in-Ok.ensures.entries, put_new shown c.args.self.now.cache c.args.key c.args.frame (unseen _ c.requires.absent) c.requires.free) (omega arith)

use Rattle.aria_cache.specs.Frames.{shown}
use Rattle.aria_cache.proofs.Entries.{to_front, front_promoted, length-promoted}
use Rattle.std.proofs.Common.{◌∙◌, sym}
use Rattle.aria_cache.proofs.frames.Frames.find.Goals as goal

pub returns-clause-held : goal.returns-clause-held
returns-clause-held c = rw c.promote.ensures.entries (to_front shown c.args.key c.args.self.now.cache.entries c.len.ensures.valid.0)

pub returns-clause-count : goal.returns-clause-count
returns-clause-count c = rw c.promote.ensures.entries (length-promoted shown c.args.key c.args.self.now.cache.entries)

pub returns-clause-front : goal.returns-clause-front
returns-clause-front c = λ there. rw c.promote.ensures.entries (front_promoted shown c.args.key c.args.self.now.cache.entries (sym c.promote.ensures.value ∙ there))

use Rattle.std.proofs.Common.{◌≡◌, ◌∙◌, sym, Option, Some, None, is_some, refl}
use Rattle.std.specs.Prelude.{option_map}
use Rattle.aria_cache.specs.Frames.{shown}
use Rattle.aria_cache.specs.declared.frames.Frame.{Frame}
use Rattle.aria_cache.proofs.Entries.{removed, length-removed}
use Rattle.aria_cache.proofs.frames.Frames.remove.Goals as goal

there : (o : Option Frame) → is_some (option_map shown o) ≡ is_some o
there None = refl
there (Some f) = refl

pub returns-clause-held : goal.returns-clause-held
returns-clause-held c = rw c.pop.ensures.entries (removed shown c.args.key c.args.self.now.cache.entries c.len.ensures.valid.0)

pub returns-clause-count : goal.returns-clause-count
returns-clause-count c = λ on. rw c.pop.ensures.entries (length-removed shown c.args.key c.args.self.now.cache.entries (sym (there _) ∙ on))

use Rattle.std.proofs.Common.{ap, ◌∙◌}
use Rattle.aria_bitmap.specs.Sought.{any_sought}
use Rattle.aria_bitmap.proofs.Seeking.{by_pairs}
use Rattle.aria_bitmap.proofs.sought.Sought.is_in.Goals as goal

pub returns : goal.returns
returns c =
    by_pairs c.self.inside.codes c.self.inside.pairs c.self.invariant c.args.group c.requires
    ∙ ap (λ codes. any_sought codes 8 c.args.group) c.self.view_is

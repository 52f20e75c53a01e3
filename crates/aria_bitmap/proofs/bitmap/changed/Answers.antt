use Rattle.std.proofs.Common.{◌∙◌, ap}
use Rattle.aria_bitmap.specs.Pattern.{digit}
use Rattle.aria_bitmap.proofs.Patterns.{sets_pattern}
use Rattle.aria_bitmap.proofs.bitmap.changed.Goals as goal

pub returns-clause-sets : goal.returns-clause-sets
returns-clause-sets c =
    sets_pattern c.args.nth c.args.code c.with_digit.result c.group_bytes.result c.args.body.now c.requires.body c.group_bytes.ensures.len c.requires.nth
    c.group_bytes.ensures.value
    c.with_digit.ensures.here
    (λ k ne. c.with_digit.ensures.others k ne ∙ ap (digit k) c.group-old.ensures.value)

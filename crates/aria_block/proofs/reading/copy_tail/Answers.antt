use Rattle.std.proofs.Common.{List, ℕ, sym, ◌∙◌, subst}
use Rattle.aria_block.specs.declared.part_kind.PartKind.TheVariants.{Tail}
use Rattle.aria_block.specs.Reading.{IsPartAt}
use Rattle.aria_block.proofs.PartsAt.{part_long}
use Rattle.aria_block.proofs.reading.copy_tail.Goals as goal

pub returns-then-size-len : goal.returns-then-size-len
returns-then-size-len c = λ n items bytes page there long.
    let part = subst (λ (b : List ℕ). IsPartAt Tail c.args.nth b c.in-Some.at c.in-Some.size) c.body-body.ensures.value c.in-Some.ensures in
    c.if-size-len.true (sym (part_long Tail c.args.nth c.in-Some.at c.in-Some.size _ bytes n items part page there) ∙ long)

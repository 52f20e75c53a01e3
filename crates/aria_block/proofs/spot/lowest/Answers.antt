use Rattle.std.proofs.Common.{◌∙◌}
use Rattle.std.proofs.lemmas.Bool.{ne_eqb}
use Rattle.aria_bitmap.specs.Code.{entry}
use Rattle.aria_bitmap.proofs.Directory.{used-none, used-more}
use Rattle.aria_block.proofs.spot.lowest.Goals as goal

pub loop-nth-init : goal.loop-nth-init
loop-nth-init c = used-none c.args.body.now

pub loop-nth-preserved : goal.loop-nth-preserved
loop-nth-preserved c =
    used-more c.args.body.now c.loop-nth.nth c.loop-nth.invariant
    (ne_eqb (entry c.args.body.now c.loop-nth.nth) 0 (λ e. c.if-entry-eq0.false (c.entry.ensures ∙ e)))

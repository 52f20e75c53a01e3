use Rattle.std.proofs.Common.{sym, ◌∙◌}
use Rattle.std.proofs.lemmas.Bool.{eq-eqb, ne_eqb}
use Rattle.aria_bitmap.specs.Code.{entry}
use Rattle.aria_bitmap.proofs.Directory.{used-none, used-more, unused}
use Rattle.aria_bitmap.proofs.code.all_used.Goals as goal

pub loop-nth-init : goal.loop-nth-init
loop-nth-init c = used-none c.args.body.now

pub loop-nth-preserved : goal.loop-nth-preserved
loop-nth-preserved c =
    used-more c.args.body.now c.loop-nth.nth c.loop-nth.invariant
    (ne_eqb (entry c.args.body.now c.loop-nth.nth) 0 (λ e. c.if-entry-eq0.false (c.entry.ensures ∙ e)))

pub returns-then-entry-eq0 : goal.returns-then-entry-eq0
returns-then-entry-eq0 c =
    sym (unused c.args.body.now c.loop-nth.nth c.args.entries c.loop-nth-test.true
    (eq-eqb (entry c.args.body.now c.loop-nth.nth) 0 (sym c.entry.ensures ∙ c.if-entry-eq0.true)))

use Rattle.std.proofs.Common.{◌∙◌, Some, ap, sym, arith}
use Rattle.aria_key.proofs.GoingUp.{entry-is, entry-none}
use Rattle.aria_key.proofs.way_up.entry_of.Goals as goal

pub returns-then-at-count : goal.returns-then-at-count
returns-then-at-count c = sym (entry-none c.args.page.now.items c.args.at (omega (arith, c.count.ensures.count)))

pub returns : goal.returns
returns c = ap Some c.in_ok-entry.ensures ∙ sym (entry-is c.args.page.now.items c.args.at (omega (arith, c.count.ensures.count)))

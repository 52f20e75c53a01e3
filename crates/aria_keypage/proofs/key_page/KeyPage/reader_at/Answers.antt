use Rattle.std.proofs.Common.{◌+◌, ◌-◌, ℕ, ap, arith, length}
use Rattle.aria_keypage.proofs.ReadingOn.{left-short, before-left}
use Rattle.aria_keypage.proofs.key_page.KeyPage.reader_at.Goals as goal

pub overflow_sub-result : goal.overflow_sub-result
overflow_sub-result c = omega (arith, c.size-size.ensures.size, left-short c.args.self.now c.args.at c.in_ok-entry.rest.now c.requires.kind c.in_ok-entry.ensures.left)

pub returns : goal.returns
returns c = before-left c.args.self.now c.args.at c.in_ok-entry.rest.now _ c.requires.kind c.in_ok-entry.ensures.left (ap (λ (n : ℕ). 4 + (n - length c.in_ok-entry.rest.now)) c.size-size.ensures.size) c.in_ok-entry.ensures.entry

use Rattle.std.proofs.Common.{ap}
use Rattle.aria_keypage.specs.Content.{width}
use Rattle.aria_keypage.proofs.Left.{number-told, number-there}
use Rattle.aria_keypage.proofs.item.number_in.Goals as goal

pub returns-in-Some : goal.returns-in-Some
returns-in-Some c n fits is = number-told (width c.args.kind) 5 n c.args.bytes.now _ (ap width c.in-Leaf.is) fits is c.in-Some.ensures.value

pub returns-in-None : goal.returns-in-None
returns-in-None c n fits is = absurd (number-there (width c.args.kind) 5 n c.args.bytes.now (ap width c.in-Leaf.is) fits is c.in-None.ensures.value)

pub returns-in-Some-u32_at : goal.returns-in-Some-u32_at
returns-in-Some-u32_at c n fits is = number-told (width c.args.kind) 4 n c.args.bytes.now _ (ap width c.in-Node.is) fits is c.in-Some-u32_at.ensures

pub returns-in-None-u32_at : goal.returns-in-None-u32_at
returns-in-None-u32_at c n fits is = absurd (number-there (width c.args.kind) 4 n c.args.bytes.now (ap width c.in-Node.is) fits is c.in-None-u32_at.ensures)

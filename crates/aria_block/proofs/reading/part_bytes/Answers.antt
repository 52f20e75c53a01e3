use Rattle.std.proofs.Common.{◌≡◌, ◌+◌, ◌-◌, ℕ, ap, take, drop, arith}
use Rattle.aria_block.specs.PartPage.{window}
use Rattle.aria_block.proofs.reading.part_bytes.Goals as goal

pub returns : goal.returns
unfolding window
returns c = let same : c.args.at + c.args.len - c.args.at ≡ c.args.len = omega arith in ap (λ (n : ℕ). take n (drop c.args.at c.args.body.now)) same

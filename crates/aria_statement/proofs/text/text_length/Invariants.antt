use Rattle.std.proofs.Common.{◌≡◌, ◌≤◌, ◌-◌, length, drop}
use Rattle.aria_statement.specs.Texts.{text_length}
use Rattle.aria_statement.proofs.Counting.{further}
use Rattle.aria_statement.proofs.text.text_length.Given as goal

-- The quote that ends the text is one of those that are left.
abbrev pub invariant-loop-at : goal.invariant-loop-at
invariant-loop-at l = record {
  within : l.at ≤ length l.bytes;
  whole : further l.at (text_length (drop l.at l.bytes)) ≡ text_length l.bytes;
}

-- the bytes that are left
abbrev pub decreases-loop-at : goal.decreases-loop-at
decreases-loop-at l = length l.bytes - l.at

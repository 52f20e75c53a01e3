use Rattle.std.proofs.Common.{◌≡◌, ◌≤◌, ◌-◌, ◌++◌, length, drop}
use Rattle.aria_statement.specs.Texts.{hex_bytes}
use Rattle.aria_statement.proofs.text.hex_bytes.Given as goal

-- the bytes so far and those that are left are all
abbrev pub invariant-loop-byte : goal.invariant-loop-byte
invariant-loop-byte l = record {
  within : l.at ≤ length l.text;
  whole : l.bytes ++ hex_bytes (drop l.at l.text) ≡ hex_bytes l.text;
}

-- the digits that are left
abbrev pub decreases-loop-byte : goal.decreases-loop-byte
decreases-loop-byte l = length l.text - l.at

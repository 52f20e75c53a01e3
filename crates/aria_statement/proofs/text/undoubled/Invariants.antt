use Rattle.std.proofs.Common.{◌≡◌, ◌++◌, false, drop}
use Rattle.aria_statement.specs.Texts.{undoubled}
use Rattle.aria_statement.proofs.text.undoubled.Given as goal

-- the bytes so far and those that are left are all
abbrev pub invariant-loop-byte : goal.invariant-loop-byte
invariant-loop-byte l = l.bytes ++ undoubled l.second (drop l.byte-index l.text) ≡ undoubled false l.text

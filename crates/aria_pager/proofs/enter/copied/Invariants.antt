use Rattle.std.proofs.Common.{◌≡◌, take}
use Rattle.std.specs.List.{All}
use Rattle.aria_page.specs.Lsn.{IsLsn}
use Rattle.aria_pager.proofs.enter.copied.Given as goal

abbrev pub invariant-loop-number : goal.invariant-loop-number
invariant-loop-number l = record {
  fits : All IsLsn l.copy.items;
  same : All IsLsn l.numbers → l.copy.items ≡ take l.number-index l.numbers;
}

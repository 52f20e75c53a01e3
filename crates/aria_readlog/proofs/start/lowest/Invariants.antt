use Rattle.std.proofs.Common.{◌^◌, ◌<◌, take}
use Rattle.std.specs.Prelude.{IfSome}
use Rattle.aria_readlog.specs.Start.{IsLowestOf}
use Rattle.aria_readlog.proofs.start.lowest.Given as goal

abbrev pub invariant-loop-name : goal.invariant-loop-name
invariant-loop-name l = record {
  lowest : IsLowestOf l.low (take l.name-index l.names);
  form : IfSome l.low (λ low. low < 2 ^ 24);
}

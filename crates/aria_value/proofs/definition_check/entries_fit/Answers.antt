use Rattle.std.proofs.Common.{◌≡◌, ◌<◌, true, false, nat_le, length, sym, arith}
use Rattle.aria_value.specs.Defined.{longest_entry}
use Rattle.aria_value.proofs.Definitions.{entries_fail, entries_more}
use Rattle.aria_value.proofs.definition_check.entries_fit.Goals as goal

pub returns-then-not-entry_fits : goal.returns-then-not-entry_fits
returns-then-not-entry_fits c =
    let low : c.loop-key.key < length c.args.definition.now.keys = omega (arith, c.loop-key-test.true, c.len-key-end.ensures) in
    let long : nat_le (longest_entry c.args.definition.now c.loop-key.key) 1000 ≡ false = cc (c.entry_fits.ensures, c.if-not-entry_fits.true) in
    sym (entries_fail c.args.definition.now c.loop-key.key (length c.args.definition.now.keys) low long)

pub loop-key-preserved : goal.loop-key-preserved
loop-key-preserved c =
    let short : nat_le (longest_entry c.args.definition.now c.loop-key.key) 1000 ≡ true = cc (c.entry_fits.ensures, c.if-not-entry_fits.false) in
    entries_more c.args.definition.now c.loop-key.key c.loop-key.invariant short

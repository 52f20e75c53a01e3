use Rattle.std.proofs.Common.{◌≡◌, Some, drop, sym, ap, ◌∙◌}
use Rattle.aria_statement.specs.Texts.{front_pair}
use Rattle.aria_statement.proofs.Texts.{pair_fits, byte_more}
use Rattle.aria_statement.proofs.text.hex_bytes.Goals as goal

pub loop-byte-preserved : goal.loop-byte-preserved
loop-byte-preserved c =
    let text = c.args.text.now in
    let at = c.loop-byte.at in
    let pair : front_pair (drop at text) ≡ Some c.in-Some.byte = sym (c.in-Some.ensures ∙ ap front_pair c.bytes_from.ensures) in
    record {
      within = pair_fits text at c.in-Some.byte pair;
      whole = rw c.in_ok-push.ensures.ok (byte_more text c.loop-byte.bytes at c.in-Some.byte pair ∙ c.loop-byte.invariant.whole);
    }

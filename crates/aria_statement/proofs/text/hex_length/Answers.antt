use Rattle.std.proofs.Common.{◌≡◌, Some, get_or, drop, refl, sym, ap, ◌∙◌, arith}
use Rattle.std.proofs.lemmas.Bool.{eq-eqb, ne_eqb}
use Rattle.aria_statement.specs.Texts.{front_pair, hex_length}
use Rattle.aria_statement.proofs.Counting.{further_none}
use Rattle.aria_statement.proofs.Texts.{step_hex_ends, step_hex_stops, step_hex, pair_fits}
use Rattle.aria_statement.proofs.text.hex_length.Goals as goal

pub loop-at-init : goal.loop-at-init
loop-at-init c = record { within = omega arith; whole = further_none (hex_length c.args.bytes.now) }

pub returns-then-bytes-at-eq39 : goal.returns-then-bytes-at-eq39
returns-then-bytes-at-eq39 c =
    let bytes = c.args.bytes.now in
    let at = c.loop-at.at in
    step_hex_ends bytes at (get_or bytes at 0) c.loop-at-test.true refl (eq-eqb (get_or bytes at 0) 39 c.if-bytes-at-eq39.true) ∙ c.loop-at.invariant.whole

pub returns-in-None : goal.returns-in-None
returns-in-None c =
    let bytes = c.args.bytes.now in
    let at = c.loop-at.at in
    step_hex_stops bytes at (get_or bytes at 0) c.loop-at-test.true refl (ne_eqb (get_or bytes at 0) 39 c.if-bytes-at-eq39.false) (sym (c.in-None.ensures ∙ ap front_pair c.bytes_from.ensures)) ∙ c.loop-at.invariant.whole

pub loop-at-preserved : goal.loop-at-preserved
loop-at-preserved c =
    let bytes = c.args.bytes.now in
    let at = c.loop-at.at in
    let pair : front_pair (drop at bytes) ≡ Some c.in-Some.field-0 = sym (c.in-Some.ensures ∙ ap front_pair c.bytes_from.ensures) in
    record {
      within = pair_fits bytes at c.in-Some.field-0 pair;
      whole = step_hex bytes at (get_or bytes at 0) c.in-Some.field-0 c.loop-at-test.true refl (ne_eqb (get_or bytes at 0) 39 c.if-bytes-at-eq39.false) pair ∙ c.loop-at.invariant.whole;
    }

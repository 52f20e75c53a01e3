use Rattle.std.proofs.Common.{◌≡◌, ◌+◌, true, get_or, drop, refl, ap, ◌∙◌, arith}
use Rattle.std.proofs.lemmas.Bool.{eq-eqb, ne_eqb}
use Rattle.aria_model.specs.Token.{begins_quote}
use Rattle.aria_statement.proofs.Texts.{step_other, step_two, two_fit}
use Rattle.aria_statement.proofs.text.text_length.Goals as goal

pub loop-at-preserved-then-bytes-at-ne39 : goal.loop-at-preserved-then-bytes-at-ne39
loop-at-preserved-then-bytes-at-ne39 c =
    let bytes = c.args.bytes.now in
    let at = c.loop-at.at in
    record {
      within = omega arith;
      whole = step_other bytes at (get_or bytes at 0) c.loop-at-test.true refl (ne_eqb (get_or bytes at 0) 39 c.if-bytes-at-ne39.true) ∙ c.loop-at.invariant.whole;
    }

pub loop-at-preserved : goal.loop-at-preserved
loop-at-preserved c =
    let bytes = c.args.bytes.now in
    let at = c.loop-at.at in
    let again : begins_quote (drop (at + 1) bytes) ≡ true = cc (ap begins_quote c.bytes_from.ensures, c.begins_quote.ensures, c.if-not-begins_quote.false) in
    record {
      within = two_fit bytes at again;
      whole = step_two bytes at (get_or bytes at 0) c.loop-at-test.true refl (eq-eqb (get_or bytes at 0) 39 c.if-bytes-at-ne39.false) again ∙ c.loop-at.invariant.whole;
    }

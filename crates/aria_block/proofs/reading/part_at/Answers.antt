use Rattle.std.proofs.Common.{◌≡◌, ◌+◌, ◌*◌, ◌/◌, ◌%◌, ℕ, true, sym, ap, ◌∙◌, arith}
use Rattle.std.proofs.lemmas.List.{take_rest}
use Rattle.aria_page.specs.Number.{number_of}
use Rattle.aria_block.proofs.Taken.{not_kind, not_below, no_part}
use Rattle.aria_block.proofs.PartsAt.{lies_there}
use Rattle.aria_block.proofs.reading.part_at.Goals as goal

pub returns-then-body-to_byte : goal.returns-then-body-to_byte
returns-then-body-to_byte c = not_kind c.args.kind c.args.nth c.args.body.now (λ e. c.if-body-to_byte.true (e ∙ sym c.to_byte.ensures))

pub returns-then-nth-entries : goal.returns-then-nth-entries
returns-then-nth-entries c = not_below c.args.kind c.args.nth c.args.body.now c.if-nth-entries.true

pub returns-then-not-lies : goal.returns-then-not-lies
returns-then-not-lies c =
    let e : ℕ = c.entry-here.result in
    let parts : e ≡ 65536 * (e / 65536) + e % 65536 = omega arith in
    no_part c.args.kind c.args.nth (e / 65536) (e % 65536) c.u16_of-end.result c.args.body.now (sym c.entry-here.ensures ∙ parts) (omega arith) (c.u16_of-end.ensures ∙ ap (number_of 2) (take_rest c.args.body.now 2))
    (λ lies. let there : c.lies.result ≡ true = c.lies.ensures.no lies in let no_more = c.if-not-lies.true in absurd (cc))

pub returns : goal.returns
returns c =
    let e : ℕ = c.entry-here.result in
    let parts : e ≡ 65536 * (e / 65536) + e % 65536 = omega arith in
    let lies = c.lies.ensures.yes c.if-not-lies.false in
    record {
      first = c.if-body-to_byte.false ∙ c.to_byte.ensures;
      within = omega (arith, lies.1, lies.2);
      is = lies_there c.args.kind c.args.nth (e / 65536) (e % 65536) c.args.body.now (sym c.entry-here.ensures ∙ parts) (omega arith) lies.0 c.if-nth-entries.false;
    }

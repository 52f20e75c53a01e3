use Rattle.std.proofs.Common.{ap, sym, arith, length, refl}
use Rattle.std.proofs.lemmas.List.{length-append}
use Rattle.aria_page.specs.Field.{AreBytes}
use Rattle.aria_page.specs.Number.{number}
use Rattle.aria_page.proofs.Numbers.{number_takes}
use Rattle.aria_keypage.specs.declared.kind.Kind.TheVariants.{Node}
use Rattle.aria_keypage.proofs.Options.{some-map, none-map, none-any}
use Rattle.aria_keypage.proofs.Read.{no_node, no_items, page-node}
use Rattle.aria_keypage.proofs.key_page.of_node.Goals as goal

pub returns-in_err-first-clause-none : goal.returns-in_err-first-clause-none
returns-in_err-first-clause-none c = none-any c.from_residual.result _ (λ d is e eb. no_node d c.args.bytes.now is e eb c.in_err-first.ensures)

pub of_items-requires-clause-size : goal.of_items-requires-clause-size
of_items-requires-clause-size c =
    let are : AreBytes c.args.bytes.now = λ i. omega (arith, c.type_inv.bytes i) in
    let there = number_takes 4 c.args.bytes.now (c.in_ok-first.first, c.in_ok-first.items.now) are c.in_ok-first.ensures in
    omega (arith, c.requires, ap length there.0.parts, length-append (number 4 c.in_ok-first.first) c.in_ok-first.items.now)

pub returns-clause-found : goal.returns-clause-found
returns-clause-found c =
    let are : AreBytes c.args.bytes.now = λ i. omega (arith, c.type_inv.bytes i) in
    let there = number_takes 4 c.args.bytes.now (c.in_ok-first.first, c.in_ok-first.items.now) are c.in_ok-first.ensures in
    some-map c.of_items.result _ _ (λ p is. page-node Node c.args.key _ c.args.bytes.now p refl (sym there.0.parts) is) c.of_items.ensures.found

pub returns-clause-none : goal.returns-clause-none
returns-clause-none c =
    none-map c.of_items.result _ _ (λ none d is e eb. no_items d c.args.bytes.now c.in_ok-first.items.now c.in_ok-first.first is e eb c.in_ok-first.ensures none) c.of_items.ensures.none

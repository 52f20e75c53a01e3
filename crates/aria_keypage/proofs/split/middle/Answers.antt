use Rattle.std.proofs.Common.{◌≡◌, ◌+◌, ◌∙◌, sym, ap, subst, arith, ℕ, List}
use Rattle.aria_keypage.specs.Item.{Item}
use Rattle.aria_keypage.specs.Packed.{ArePacked}
use Rattle.aria_keypage.specs.Content.{width}
use Rattle.aria_keypage.specs.Reading.{content_of}
use Rattle.aria_keypage.proofs.Middle.{Passed}
use Rattle.aria_keypage.proofs.Left.{left-all, left-more, left-read}
use Rattle.aria_keypage.proofs.Divided.{stop-middle, end-middle, passed-more, left-fits}
use Rattle.aria_keypage.proofs.split.middle.Goals as goal

pub loop-at-init : goal.loop-at-init
loop-at-init c xs is e = (left-all c.width-width.result xs c.args.items.now is, λ k s. absurd (omega arith))

pub loop-at-preserved : goal.loop-at-preserved
loop-at-preserved c xs is e =
    let inv = c.loop-at.invariant xs is e in
    let next = (left-more c.width-width.result xs c.loop-at.at c.loop-at.rest.now _ is.all inv.0 c.in-Some.ensures (omega arith)).1 in
    (next, passed-more c.width-width.result xs c.loop-at.at c.args.size c.loop-at.rest.now c.in-Some.behind.now inv.0 next (omega arith))

pub returns-in_default-clause-middle : goal.returns-in_default-clause-middle
returns-in_default-clause-middle c d el is e es =
    let packed : ArePacked c.width-width.result d.items c.args.items.now = subst (λ (n : ℕ). ArePacked n d.items c.args.items.now) (sym c.width-width.ensures) is in
    absurd (left-read c.width-width.result d.items c.loop-at.at c.loop-at.rest.now packed.all (c.loop-at.invariant d.items packed e).0 c.in_default.ensures (omega arith))

pub returns-in_default-clause-left : goal.returns-in_default-clause-left
returns-in_default-clause-left c d el is e =
    let packed : ArePacked c.width-width.result d.items c.args.items.now = subst (λ (n : ℕ). ArePacked n d.items c.args.items.now) (sym c.width-width.ensures) is in
    absurd (left-read c.width-width.result d.items c.loop-at.at c.loop-at.rest.now packed.all (c.loop-at.invariant d.items packed e).0 c.in_default.ensures (omega arith))

pub overflow_add-rest : goal.overflow_add-rest
overflow_add-rest c =
    let w : ℕ = c.width-width.result in
    let xs : List Item = (content_of c.args.kind 0 0 c.args.items.now).items in
    let packed : ArePacked w xs c.args.items.now = subst (λ (n : ℕ). ArePacked n xs c.args.items.now) (sym c.width-width.ensures) c.requires.items.packed in
    let here = (c.loop-at.invariant xs packed c.requires.items.count_is).0 in
    let next = (left-more w xs c.loop-at.at c.loop-at.rest.now _ packed.all here c.in-Some.ensures (omega (arith, c.requires.items.count_is))).1 in
    omega (arith, left-fits w xs c.loop-at.at c.loop-at.rest.now c.args.items.now packed here, left-fits w xs (c.loop-at.at + 1) c.in-Some.behind.now c.args.items.now packed next, c.requires.most)

pub returns-then-rest-behind-clause-middle : goal.returns-then-rest-behind-clause-middle
returns-then-rest-behind-clause-middle c d el is e es =
    let w : ℕ = c.width-width.result in
    let packed : ArePacked w d.items c.args.items.now = subst (λ (n : ℕ). ArePacked n d.items c.args.items.now) (sym c.width-width.ensures) is in
    let here = c.loop-at.invariant d.items packed e in
    let next = (left-more w d.items c.loop-at.at c.loop-at.rest.now _ packed.all here.0 c.in-Some.ensures (omega arith)).1 in
    stop-middle d w c.loop-at.at c.args.size c.loop-at.rest.now c.in-Some.behind.now (c.width-width.ensures ∙ sym (ap width el)) es here.0 here.1 next c.if-rest-behind.true

pub returns-clause-middle : goal.returns-clause-middle
returns-clause-middle c d el is e es =
    let w : ℕ = c.width-width.result in
    let packed : ArePacked w d.items c.args.items.now = subst (λ (n : ℕ). ArePacked n d.items c.args.items.now) (sym c.width-width.ensures) is in
    let end : c.loop-at.at ≡ c.args.count = omega arith in
    end-middle d w c.args.count c.args.size (c.width-width.ensures ∙ sym (ap width el)) es e (subst (λ (n : ℕ). Passed w d.items c.args.size n) end (c.loop-at.invariant d.items packed e).1)

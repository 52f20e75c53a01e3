use Rattle.std.proofs.Common.{◌≡◌, ◌∙◌, ap, arith, sym, ℕ, Some}
use Rattle.aria_page.specs.Field.{AreBytes}
use Rattle.aria_keypage.specs.Reading.{head_at}
use Rattle.aria_keypage.specs.Content.{kind_byte}
use Rattle.aria_keypage.proofs.Options.{some-map, none-map, none-any}
use Rattle.aria_keypage.proofs.Read.{head-size, page-spelled, no_head, no_page, no_kind}
use Rattle.aria_keypage.proofs.key_page.of_body.Goals as goal

pub returns-in_err-byte-clause-none : goal.returns-in_err-byte-clause-none
returns-in_err-byte-clause-none c = none-any c.from_residual.result _ (λ d is. no_head c.args.body.now d c.in_err-byte.ensures is)

pub returns-in_err-kind-clause-none : goal.returns-in_err-kind-clause-none
returns-in_err-kind-clause-none c =
    none-any c.from_residual-in_err-kind.result _ (λ d is. no_kind c.args.body.now c.in_ok-byte.byte c.in_ok-byte.key c.in_ok-byte.bytes.now d c.in_ok-byte.ensures c.in_err-kind.ensures.none is)

pub of_bytes-requires : goal.of_bytes-requires
of_bytes-requires c = head-size c.args.body.now c.in_ok-byte.byte c.in_ok-byte.key c.in_ok-byte.bytes.now (λ i. omega (arith, c.type_inv.body i)) c.requires c.in_ok-byte.ensures

pub returns-clause-found : goal.returns-clause-found
returns-clause-found c =
    let are : AreBytes c.args.body.now = λ i. omega (arith, c.type_inv.body i) in
    let read : head_at c.args.body.now ≡ Some (kind_byte c.in_ok-kind.kind, c.in_ok-byte.key, c.in_ok-byte.bytes.now) = c.in_ok-byte.ensures ∙ ap (λ (k : ℕ). Some (k, c.in_ok-byte.key, c.in_ok-byte.bytes.now)) (sym c.in_ok-kind.ensures.found) in
    some-map c.of_bytes.result _ _ (λ p is. page-spelled c.args.body.now c.in_ok-kind.kind c.in_ok-byte.key c.in_ok-byte.bytes.now p are read is) c.of_bytes.ensures.found

pub returns-clause-none : goal.returns-clause-none
returns-clause-none c =
    let read : head_at c.args.body.now ≡ Some (kind_byte c.in_ok-kind.kind, c.in_ok-byte.key, c.in_ok-byte.bytes.now) = c.in_ok-byte.ensures ∙ ap (λ (k : ℕ). Some (k, c.in_ok-byte.key, c.in_ok-byte.bytes.now)) (sym c.in_ok-kind.ensures.found) in
    none-map c.of_bytes.result _ _ (λ none d is. no_page c.args.body.now c.in_ok-kind.kind c.in_ok-byte.key c.in_ok-byte.bytes.now d read none is) c.of_bytes.ensures.none

use Rattle.std.proofs.Common.{◌≡◌, ◌∙◌, ap, sym, length}
use Rattle.aria_page.specs.Page.{page_body}
use Rattle.aria_page.specs.declared.page.TheConstants.{BODY_BYTES}
use Rattle.aria_keypage.specs.Item.{Item}
use Rattle.aria_keypage.specs.Change.{without_item}
use Rattle.aria_key.specs.Exchanging.{exchanged}
use Rattle.aria_key.proofs.Exchanged.{made-spells, changes-on, place-left}
use Rattle.aria_key.proofs.exchange.space_in.Goals as goal

pub returns-in-Room-clause-space : goal.returns-in-Room-clause-space
returns-in-Room-clause-space c = λ content spells.
    let x : Item = record { entry = c.args.entry.now; to = c.args.to } in
    let rest = without_item content c.args.at in
    let size : length (page_body c.args.page.now) ≡ BODY_BYTES = ap length (sym c.body-body.ensures.value) ∙ c.body-body.ensures.len in
    let out = rw c.in-Some.is at (c.in_ok-out.ensures.removal content spells) in
    let put = rw c.in-Room.is at (c.in_ok-put-in-Some.ensures.offer rest (made-spells c.in-Some.out (page_body c.args.page.now) (page_body c.edited-copy.result) content rest size spells out c.edited-copy.ensures)) in
    changes-on c.in-Some.out c.in-Room.put content rest (exchanged content c.args.at x) out put

pub returns-in-Full-clause-space : goal.returns-in-Full-clause-space
returns-in-Full-clause-space c = λ content spells.
    let rest = without_item content c.args.at in
    let size : length (page_body c.args.page.now) ≡ BODY_BYTES = ap length (sym c.body-body.ensures.value) ∙ c.body-body.ensures.len in
    let out = rw c.in-Some.is at (c.in_ok-out.ensures.removal content spells) in
    rw c.in-Full.is at (c.in_ok-put-in-Some.ensures.offer rest (made-spells c.in-Some.out (page_body c.args.page.now) (page_body c.edited-copy.result) content rest size spells out c.edited-copy.ensures))

pub returns-in-Other-clause-space : goal.returns-in-Other-clause-space
returns-in-Other-clause-space c = λ content spells kind low.
    let rest = without_item content c.args.at in
    let size : length (page_body c.args.page.now) ≡ BODY_BYTES = ap length (sym c.body-body.ensures.value) ∙ c.body-body.ensures.len in
    let out = rw c.in-Some.is at (c.in_ok-out.ensures.removal content spells) in
    (rw c.in-Other.is at (c.in_ok-put-in-Some.ensures.offer rest (made-spells c.in-Some.out (page_body c.args.page.now) (page_body c.edited-copy.result) content rest size spells out c.edited-copy.ensures))) kind (place-left content c.args.at low)

pub returns-in-None-clause-space : goal.returns-in-None-clause-space
returns-in-None-clause-space c = λ content spells kind low. (rw c.in-None.is at (c.in_ok-out.ensures.removal content spells)) kind low

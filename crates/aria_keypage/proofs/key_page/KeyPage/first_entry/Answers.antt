use Rattle.std.proofs.Common.{◌∙◌, ap}
use Rattle.aria_keypage.specs.Content.{Content, width}
use Rattle.aria_keypage.proofs.Read.{packed-seen}
use Rattle.aria_keypage.proofs.Fitting.{first-read, first-missing}
use Rattle.aria_keypage.proofs.key_page.KeyPage.first_entry.Goals as goal

pub returns-in_default : goal.returns-in_default
returns-in_default c =
    let ew = c.width.ensures ∙ ap (λ (e : Content). width e.kind) c.self.view_is in
    let is = packed-seen _ c.args.self.now c.width.result c.self.inside.items.now c.self.view_is c.self.invariant.packed ew in
    first-missing c.width.result c.args.self.now.items c.self.inside.items.now is c.in_default.ensures

pub returns : goal.returns
returns c =
    let ew = c.width.ensures ∙ ap (λ (e : Content). width e.kind) c.self.view_is in
    let is = packed-seen _ c.args.self.now c.width.result c.self.inside.items.now c.self.view_is c.self.invariant.packed ew in
    first-read c.width.result c.args.self.now.items c.self.inside.items.now _ is c.in-Some.ensures

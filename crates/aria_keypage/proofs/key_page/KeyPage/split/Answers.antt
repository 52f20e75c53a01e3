use Rattle.std.proofs.Common.{◌∙◌, ◌+◌, ◌-◌, ◌*◌, ◌≤◌, [], sym, ap, subst, arith, length, IfOk}
use Rattle.std.specs.List.{sum_by}
use Rattle.std.proofs.lemmas.List.{append-nil}
use Rattle.aria_page.specs.Edit.{edit_bytes}
use Rattle.aria_keypage.specs.Content.{Content, IsContent, item_bytes}
use Rattle.aria_keypage.specs.Split.{holding, IsSplit}
use Rattle.aria_keypage.proofs.Options.{ok-map}
use Rattle.aria_keypage.proofs.Divided.{own-packed, own-holding, own-items}
use Rattle.aria_keypage.proofs.key_page.KeyPage.split.Goals as goal

pub divide-requires : goal.divide-requires
divide-requires c =
    let d : Content = c.args.self.now in
    let same = own-holding c.self.inside.kind c.self.inside.key c.self.inside.first c.self.inside.items.now d c.self.view_is in
    let content : IsContent d = subst IsContent c.self.view_is c.self.invariant.content in
    record {
      items = own-items c.self.inside.kind c.self.inside.key c.self.inside.first c.self.inside.count c.self.inside.items.now d c.self.invariant c.self.view_is;
      begin = ([], own-packed c.self.inside.kind c.self.inside.key c.self.inside.first c.self.inside.count c.self.inside.items.now d c.self.invariant c.self.view_is ∙ sym (append-nil _));
      least = omega (arith, ap (λ (e : Content). length (item_bytes e)) same, c.requires);
      most = omega (arith, ap (λ (e : Content). length (item_bytes e)) same, content.size);
    }

pub returns-clause-split : goal.returns-clause-split
returns-clause-split c =
    let d : Content = c.args.self.now in
    let same = own-holding c.self.inside.kind c.self.inside.key c.self.inside.first c.self.inside.items.now d c.self.view_is in
    subst (λ (all : Content). IfOk c.divide.result (λ s. IsSplit d all s.left s.right s.between)) same c.divide.ensures.split

pub returns-clause-bytes : goal.returns-clause-bytes
returns-clause-bytes c =
    let d : Content = c.args.self.now in
    let same = own-holding c.self.inside.kind c.self.inside.key c.self.inside.first c.self.inside.items.now d c.self.view_is in
    ok-map c.divide.result (λ s. 2 * sum_by edit_bytes s.left ≤ 4 + (length (item_bytes (holding d c.self.inside.items.now)) + 1008 - 2 * length (item_bytes d))) _
    (λ s few. omega (arith, ap (λ (e : Content). length (item_bytes e)) same, c.requires, few)) c.divide.ensures.bytes

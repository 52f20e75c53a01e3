use Rattle.std.proofs.Common.{◌∙◌, ◌+◌, ◌-◌, sym, ap, subst, arith, length, List}
use Rattle.std.specs.List.{sum_by}
use Rattle.aria_page.specs.declared.edit.Edit.{Edit}
use Rattle.aria_page.specs.Edit.{edit_bytes}
use Rattle.aria_keypage.specs.Content.{Content, IsContent}
use Rattle.aria_keypage.specs.Change.{Changes}
use Rattle.aria_keypage.proofs.Spliced.{patch-bytes}
use Rattle.aria_keypage.proofs.Divided.{first-size, own-packed, shortened, short-fits}
use Rattle.aria_keypage.proofs.key_page.KeyPage.shorten.Goals as goal

pub overflow_add-first : goal.overflow_add-first
overflow_add-first c = omega (arith, c.first_size-first.ensures, first-size c.args.self.now.kind c.args.self.now.first, c.lower-same.ensures, c.requires.room)

pub patch_of-requires-clause-old : goal.patch_of-requires-clause-old
patch_of-requires-clause-old c =
    let d : Content = c.args.self.now in
    let own = own-packed c.self.inside.kind c.self.inside.key c.self.inside.first c.self.inside.count c.self.inside.items.now d c.self.invariant c.self.view_is in
    let content : IsContent d = subst IsContent c.self.view_is c.self.invariant.content in
    let new = c.in_ok-bytes.ensures.items ∙ c.part.ensures in
    let fits = short-fits d c.args.items.now c.self.inside.items.now c.in_ok-bytes.bytes.items c.args.size (length c.self.inside.items.now) c.first_size-first.result c.lower-same.result content own (omega arith) c.first_size-first.ensures c.lower-same.ensures c.requires.size c.requires.room new in
    omega (arith, fits.0)

pub patch_of-requires-clause-new : goal.patch_of-requires-clause-new
patch_of-requires-clause-new c =
    let d : Content = c.args.self.now in
    let own = own-packed c.self.inside.kind c.self.inside.key c.self.inside.first c.self.inside.count c.self.inside.items.now d c.self.invariant c.self.view_is in
    let content : IsContent d = subst IsContent c.self.view_is c.self.invariant.content in
    let new = c.in_ok-bytes.ensures.items ∙ c.part.ensures in
    let fits = short-fits d c.args.items.now c.self.inside.items.now c.in_ok-bytes.bytes.items c.args.size (length c.self.inside.items.now) c.first_size-first.result c.lower-same.result content own (omega arith) c.first_size-first.ensures c.lower-same.ensures c.requires.size c.requires.room new in
    omega (arith, fits.1)

pub returns-clause-page : goal.returns-clause-page
returns-clause-page c a is kind key first front =
    let d : Content = c.args.self.now in
    let own = own-packed c.self.inside.kind c.self.inside.key c.self.inside.first c.self.inside.count c.self.inside.items.now d c.self.invariant c.self.view_is in
    let content : IsContent d = subst IsContent c.self.view_is c.self.invariant.content in
    let new = c.in_ok-bytes.ensures.items ∙ c.part.ensures in
    let done = shortened d a c.args.items.now c.requires.begin.0 c.args.size (length c.self.inside.items.now) c.first_size-first.result c.lower-same.result c.in_ok-bytes.bytes.items content is kind key first c.requires.begin.1 front c.requires.size (ap length own) c.first_size-first.ensures c.lower-same.ensures new in
    subst (λ (l : List Edit). Changes l d a) (sym c.patch_of.ensures) done

pub returns-clause-bytes : goal.returns-clause-bytes
returns-clause-bytes c =
    let d : Content = c.args.self.now in
    let own = own-packed c.self.inside.kind c.self.inside.key c.self.inside.first c.self.inside.count c.self.inside.items.now d c.self.invariant c.self.view_is in
    let content : IsContent d = subst IsContent c.self.view_is c.self.invariant.content in
    let new = c.in_ok-bytes.ensures.items ∙ c.part.ensures in
    let fits = short-fits d c.args.items.now c.self.inside.items.now c.in_ok-bytes.bytes.items c.args.size (length c.self.inside.items.now) c.first_size-first.result c.lower-same.result content own (omega arith) c.first_size-first.ensures c.lower-same.ensures c.requires.size c.requires.room new in
    omega (arith, ap (sum_by edit_bytes) c.patch_of.ensures, patch-bytes (c.first_size-first.result + c.lower-same.result) (length c.self.inside.items.now - c.lower-same.result) 0 c.in_ok-bytes.bytes.items, fits.2, ap length own)

use Rattle.std.proofs.Common.{◌≡◌, ◌∙◌, Some, List, ℕ, length, refl, sym, subst, ap}
use Rattle.aria_page.specs.Page.{page_body}
use Rattle.aria_cache.specs.Frames.{Held, held, shown}
use Rattle.aria_host.proofs.Answered.{on_ok, on_ok_of}
use Rattle.aria_pager.proofs.Again.{if_err_more}
use Rattle.aria_pager.specs.Headers.{IsHeader, first_key, OfHeader}
use Rattle.aria_pager.proofs.Heading.{early_held, of_held, header_cause, header_shown, seen_held}
use Rattle.aria_pager.proofs.page_store.PageStore.check_slot.Goals as goal

pub returns-in-Some-clause-cause : goal.returns-in-Some-clause-cause
returns-in-Some-clause-cause g c =
    let store = c.args.self.now in
    let s = g.H.Host.state c.args.host.now in
    let h : Held = shown c.in-Some.frame.now in
    let there : held store.frames (first_key c.args.n) ≡ Some h = ap (held store.frames) (sym c.key.ensures) ∙ sym c.in-Some.ensures in
    header_cause g.H.Host.tells store c.args.n c.args.name.now s s c.check_header.result c.requires.named refl refl
    (if_err_more c.check_header.result _ (OfHeader g.H.Host.tells store c.args.n c.args.name.now s s)
    (λ f why. of_held g.H.Host.tells store c.args.n c.args.name.now s s h c.body.result.now c.file_of.result f c.file_of.ensures there (c.body.ensures.value ∙ ap page_body c.deref.ensures) why) c.check_header.ensures.cause)

pub returns-in-Some-clause-header : goal.returns-in-Some-clause-header
returns-in-Some-clause-header g c = λ told. on_ok c.check_header.result _ (λ on.
    let store = c.args.self.now in
    let s = g.H.Host.state c.args.host.now in
    let (base, start, groups, forced, is) = c.requires.pager told in
    let h : Held = shown c.in-Some.frame.now in
    let there : held store.frames (first_key c.args.n) ≡ Some h = ap (held store.frames) (sym c.key.ensures) ∙ sym c.in-Some.ensures in
    let value : c.body.result.now ≡ h.body = c.body.ensures.value ∙ ap page_body c.deref.ensures in
    header_shown store s base start groups forced (g.met.H.Host.reads_now c.args.host.now told) c.requires.empty is c.args.n c.args.name.now c.requires.named c.requires.tidy h.lsn h.body
    (seen_held store s.folder (first_key c.args.n) h there) (sym (ap (λ (l : List ℕ). length l) value) ∙ c.body.ensures.len)
    (subst IsHeader value (on_ok_of c.check_header.result _ c.check_header.ensures.header on)) (early_held store s.folder (first_key c.args.n) h there))

pub check_file-requires-clause-absent : goal.check_file-requires-clause-absent
check_file-requires-clause-absent g c = ap (held c.args.self.now.frames) (sym c.key.ensures) ∙ sym c.in-None.ensures

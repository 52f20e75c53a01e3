use Rattle.std.proofs.Common.{◌∙◌, length, ap, sym, subst}
use Rattle.aria_page.specs.declared.place.Part.TheVariants.{Keys, Rows}
use Rattle.aria_host.proofs.Answered.{on_ok, on_ok_of}
use Rattle.aria_host.specs.Folder.{Folder}
use Rattle.aria_pager.specs.declared.page_store.PageStore.{PageStore}
use Rattle.aria_pager.specs.Entered.{HasPages, HasMany}
use Rattle.std.proofs.lemmas.Result.{err_from_is_err_and}
use Rattle.aria_pager.proofs.Again.{if_err_at}
use Rattle.aria_pager.proofs.Given.{entering_more, tidy_more, told_more}
use Rattle.aria_pager.proofs.page_store.PageStore.give_slot.Goals as goal

pub returns-clause-enters : goal.returns-clause-enters
returns-clause-enters g c = λ told checkpoint groups has low empty is. on_ok c.add_slot.result _ (λ on.
    entering_more c.args.self.now c.add_slot.new.self c.args.name.now c.in_ok-keys.keys c.in_ok-rows.rows (on_ok_of c.add_slot.result _ c.add_slot.ensures.slots on) (on_ok_of c.add_slot.result _ c.add_slot.ensures.knows on)
    (sym c.has_slot.ensures ∙ c.if-has_slot.false) (g.H.Host.state c.args.host.now).folder groups (ap (λ (s : PageStore). s.writer) c.add_slot.ensures.rest) empty (sym (c.needs_slot.ensures checkpoint groups has) ∙ c.if-not-needs_slot.false)
    (c.in_ok-keys.ensures.pages told checkpoint groups has (low c.args.name.now Keys)) c.in_ok-keys.ensures.few
    (subst (λ (d : Folder). HasPages d groups c.args.name.now Rows c.in_ok-rows.rows) (c.in_ok-keys.ensures.same told).folder (c.in_ok-rows.ensures.pages told checkpoint groups has (low c.args.name.now Rows))) c.in_ok-rows.ensures.few is)

pub returns-clause-told : goal.returns-clause-told
returns-clause-told g c = λ checkpoint groups has told. on_ok c.add_slot.result _ (λ on.
    told_more c.args.self.now c.add_slot.new.self c.args.name.now c.in_ok-keys.keys c.in_ok-rows.rows (on_ok_of c.add_slot.result _ c.add_slot.ensures.slots on) (on_ok_of c.add_slot.result _ c.add_slot.ensures.knows on)
    (sym c.has_slot.ensures ∙ c.if-has_slot.false) groups (sym (c.needs_slot.ensures checkpoint groups has) ∙ c.if-not-needs_slot.false) told)

pub returns-clause-tidy : goal.returns-clause-tidy
returns-clause-tidy g c = λ is. on_ok c.add_slot.result _ (λ on.
    tidy_more c.args.self.now c.add_slot.new.self c.args.name.now c.in_ok-keys.keys c.in_ok-rows.rows (on_ok_of c.add_slot.result _ c.add_slot.ensures.slots on) (on_ok_of c.add_slot.result _ c.add_slot.ensures.knows on)
    (sym c.has_slot.ensures ∙ c.if-has_slot.false) c.in_ok-keys.ensures.few c.in_ok-rows.ensures.few is)

pub returns-in_err-keys-clause-many : goal.returns-in_err-keys-clause-many
returns-in_err-keys-clause-many g c =
    let e = err_from_is_err_and c.from_residual.result c.from_residual.ensures.1 in
    if_err_at c.from_residual.result (HasMany (length c.args.self.now.slots)) e.0 c.in_err-keys.field-0.0 e.1 e.2 (c.in_err-keys.ensures.many (length c.args.self.now.slots))

pub returns-in_err-rows-clause-many : goal.returns-in_err-rows-clause-many
returns-in_err-rows-clause-many g c =
    let e = err_from_is_err_and c.from_residual-in_err-rows.result c.from_residual-in_err-rows.ensures.1 in
    if_err_at c.from_residual-in_err-rows.result (HasMany (length c.args.self.now.slots)) e.0 c.in_err-rows.field-0.0 e.1 e.2 (c.in_err-rows.ensures.many (length c.args.self.now.slots))

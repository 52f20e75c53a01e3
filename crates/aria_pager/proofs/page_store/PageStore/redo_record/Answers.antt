use Rattle.std.proofs.Common.{◌∙◌, ◌∷◌, [], ◌++◌, length, ap, sym, subst, is_ok}
use Rattle.aria_record.specs.declared.record.Record.{Record}
use Rattle.aria_recovery.specs.Midway.{midway}
use Rattle.aria_pager.specs.PageStore.{spot_of}
use Rattle.aria_pager.specs.Redone.{Redoes}
use Rattle.aria_pager.proofs.Again.{entry_other, stored_edits, redoes_aside}
use Rattle.aria_pager.proofs.page_store.PageStore.redo_record.Goals as goal

pub returns-in-Redo-clause-redoes : goal.returns-in-Redo-clause-redoes
returns-in-Redo-clause-redoes g c = λ told base start groups forced before after place at passed rest group is.
    let e = c.in-Redo in
    subst (λ (r : Record). Redoes c.args.self.now c.redo_on.new.self (g.H.Host.state c.args.host.now) (g.H.Host.state c.redo_on.new.host) (midway groups (length before) (passed ++ r ∷ []) (spot_of c.args.self.now)) base start groups forced (is_ok c.redo_on.result)) (sym e.is)
    (c.redo_on.ensures.redoes told base start groups forced before after place at passed rest e.kind e.edits (group ∙ ap (λ (r : Record). passed ++ r ∷ rest) e.is)
    (stored_edits c.args.entry.now e.kind e.table e.part e.page e.edits c.requires.entry e.is) is)

pub returns-in_default-clause-redoes : goal.returns-in_default-clause-redoes
returns-in_default-clause-redoes g c = λ told base start groups forced before after place at passed rest group is.
    redoes_aside c.args.self.now (g.H.Host.state c.args.host.now) base start groups forced (length before) passed (passed ++ c.args.entry.now ∷ [])
    (λ f b left. g.met.H.Host.only_now c.args.host.now f b told left) (g.met.H.Host.reads_now c.args.host.now told)
    (λ k. entry_other groups (length before) passed c.args.entry.now c.in_default.not-Redo (spot_of c.args.self.now k)) is

pub returns-in-Redo-clause-edited : goal.returns-in-Redo-clause-edited
returns-in-Redo-clause-edited g c = λ told base start groups forced before after place at passed rest group is.
    let e = c.in-Redo in
    c.redo_on.ensures.edited told base start groups forced before after place at passed rest e.kind e.edits (group ∙ ap (λ (r : Record). passed ++ r ∷ rest) e.is)
    (stored_edits c.args.entry.now e.kind e.table e.part e.page e.edits c.requires.entry e.is) is

use Rattle.std.proofs.Common.{◌∙◌, ℕ, false, nat_eq, is_ok, ap, sym}
use Rattle.std.specs.Option.{option_map}
use Rattle.std.specs.Map.{update}
use Rattle.std.proofs.lemmas.Result.{err_from_is_err_and}
use Rattle.aria_page.specs.Lsn.{lsn_number}
use Rattle.aria_cache.specs.Key.{key_of}
use Rattle.aria_cache.specs.Frames.{held, is_pinned}
use Rattle.aria_recovery.specs.Redo.{edits_on}
use Rattle.aria_pager.specs.Redone.{redone_by, is_older}
use Rattle.aria_pager.proofs.Again.{redoes_fault, page_past, page_gets}
use Rattle.aria_pager.proofs.page_store.PageStore.redo_page.Goals as goal

pub returns-in_err-hold-clause-redoes : goal.returns-in_err-hold-clause-redoes
returns-in_err-hold-clause-redoes g c = λ told redone base start groups forced is before after place at page.
    let e = err_from_is_err_and c.from_residual.result c.from_residual.ensures.1 in
    redoes_fault c.args.self.now c.hold.new.self c.hold.new.self (g.H.Host.state c.args.host.now) (g.H.Host.state c.hold.new.host) redone _ base start groups forced false (is_ok c.from_residual.result) (ap is_ok e.1)
    (c.in_err-hold.ensures.steps told redone base start groups forced is.pager)

pub returns-then-not-is_older-clause-redoes : goal.returns-then-not-is_older-clause-redoes
returns-then-not-is_older-clause-redoes g c = λ told redone base start groups forced is before after place at page.
    page_past c.args.self.now c.hold.new.self (g.H.Host.state c.args.host.now) (g.H.Host.state c.hold.new.host) redone base start groups before after _ forced (key_of c.args.at) _ is page
    c.in_ok-hold.ensures.same (c.in_ok-hold.ensures.steps told redone base start groups forced is.pager) (c.in_ok-hold.ensures.quiet told is.idle)
    (lsn_number c.args.lsn) (ap lsn_number at) c.in_ok-hold.ensures.held
    (ap (λ (k : ℕ). is_older (held c.hold.new.self.frames k) (lsn_number c.args.lsn)) (sym c.key-key.ensures) ∙ sym c.is_older.ensures ∙ c.if-not-is_older.true)

pub returns-clause-redoes : goal.returns-clause-redoes
returns-clause-redoes g c = λ told redone base start groups forced is before after place at page.
    page_gets c.args.self.now c.hold.new.self (g.H.Host.state c.args.host.now) (g.H.Host.state c.hold.new.host) redone base start groups before after _ forced (key_of c.args.at) _ is page
    c.in_ok-hold.ensures.same (c.in_ok-hold.ensures.steps told redone base start groups forced is.pager) (c.in_ok-hold.ensures.quiet told is.idle)
    (lsn_number c.args.lsn) c.redo_frame.new.frames (ap lsn_number at)
    (ap (λ (k : ℕ). is_older (held c.hold.new.self.frames k) (lsn_number c.args.lsn)) (sym c.key-key.ensures) ∙ sym c.is_older.ensures ∙ c.if-not-is_older.false)
    (ap (λ v k. is_pinned record { cache = c.redo_frame.new.frames.cache; pins = v } k) c.redo_frame.ensures.pins)
    (c.redo_frame.ensures.held ∙ ap (λ (k : ℕ). update nat_eq (held c.hold.new.self.frames) k (option_map (redone_by (lsn_number c.args.lsn) (edits_on c.args.name.now c.args.at.part c.args.at.page c.args.group.now)) (held c.hold.new.self.frames k))) c.key-key.ensures)

use Rattle.std.proofs.Common.{◌≡◌, ◌∙◌, ℕ, nat_eq, ap, sym, refl, Option}
use Rattle.std.specs.Option.{option_map}
use Rattle.std.specs.Map.{update}
use Rattle.std.proofs.lemmas.Option.{slice_get_within}
use Rattle.aria_page.specs.Change.{edits_of}
use Rattle.aria_record.specs.declared.record.Record.TheVariants.{Redo}
use Rattle.aria_record.specs.Writing.{redo_size}
use Rattle.aria_cache.specs.Frames.{Held, held, edited_held}
use Rattle.aria_pager.proofs.Keeping.{no_edits}
use Rattle.aria_pager.proofs.Pushing.{edits_pushed}
use Rattle.aria_pager.proofs.page_store.PageStore.change.Goals as goal

pub returns-clause-held : goal.returns-clause-held
returns-clause-held c =
    let old = c.args.self.now.frames in
    let es = edits_of c.args.edits.now in
    let pinned : held c.pin.new.self ≡ held old = ap (λ v k. held record { cache = v; pins = c.pin.new.self.pins } k) c.pin.ensures.cache in
    c.edit.ensures.held ∙ ap (λ (m : ℕ → Option Held). update nat_eq m c.key-key.result (option_map (edited_held es) (m c.key-key.result))) pinned
    ∙ ap (λ (k : ℕ). update nat_eq (held old) k (option_map (edited_held es) (held old k))) c.key-key.ensures

pub returns-in_default-push_redo-clause-edits : goal.returns-in_default-push_redo-clause-edits
returns-in_default-push_redo-clause-edits c = λ is. no_edits c.clear.new.self c.clear.ensures.writes

pub set_edited-requires-clause-there : goal.set_edited-requires-clause-there
set_edited-requires-clause-there c = slice_get_within c.args.self.now.slots c.args.at.slot c.in-Some.slot (sym c.in-Some.ensures)

pub returns-clause-edits : goal.returns-clause-edits
returns-clause-edits c = λ is. edits_pushed c.args.self.now.writer c.push_redo.new.self (Redo c.args.why c.in-Some.slot.name c.args.at.part c.args.at.page (edits_of c.args.edits.now)) (redo_size (edits_of c.args.edits.now)) refl c.in-Ok.ensures is

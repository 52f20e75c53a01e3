use Rattle.std.proofs.Common.{◌≡◌, ◌∙◌, ◌+◌, ◌∷◌, [], ◌++◌, ℕ, suc, nat_eq, List, take, ap, sym, subst, arith, Option}
use Rattle.std.specs.Option.{option_map}
use Rattle.std.specs.Map.{update}
use Rattle.std.proofs.Math.Seq.{take-suc}
use Rattle.std.proofs.lemmas.List.{take_all}
use Rattle.aria_page.specs.declared.edit.Edit.{Edit}
use Rattle.aria_page.specs.Lsn.{lsn_number}
use Rattle.aria_record.specs.declared.record.Record.{Record}
use Rattle.aria_cache.specs.Frames.{Held, held}
use Rattle.aria_recovery.specs.Redo.{edits_on}
use Rattle.aria_recovery.proofs.Behind.{edits_push}
use Rattle.aria_pager.specs.Redone.{redone_by}
use Rattle.aria_pager.proofs.Redoing.{redone_more}
use Rattle.aria_pager.proofs.redo.redo_frame.Goals as goal

pub loop-entry-preserved : goal.loop-entry-preserved
loop-entry-preserved c =
    let i : ℕ = c.loop-entry.entry-index in
    let group = c.args.group.now in
    let name = c.args.name.now in
    let at = c.args.at in
    let number : ℕ = lsn_number c.args.lsn in
    let m : ℕ → Option Held = held c.args.frames.now in
    let one_more : take (i + 1) group ≡ take i group ++ c.entry-item.result ∷ [] =
    ap (λ (n : ℕ). take n group) (let e : i + 1 ≡ suc i = omega arith in e) ∙ take-suc group i c.entry-item.result c.loop-entry-test.true ∙ ap (λ (r : Record). take i group ++ r ∷ []) (sym c.entry-item.is) in
    let edits : edits_on name at.part at.page (take i group) ++ c.edits_at.result.now ≡ edits_on name at.part at.page (take (i + 1) group) =
    ap (λ (es : List Edit). edits_on name at.part at.page (take i group) ++ es) c.edits_at.ensures.edits ∙ sym (edits_push name at.part at.page (take i group) c.entry-item.result)
    ∙ ap (edits_on name at.part at.page) (sym one_more) in
    record {
      held = subst (λ (es : List Edit). held c.redo_edits.new.frames ≡ update nat_eq m c.args.key (option_map (redone_by number es) (m c.args.key))) edits
          (redone_more m (held c.loop-entry.frames) (held c.redo_edits.new.frames) c.args.key number (edits_on name at.part at.page (take i group)) c.edits_at.result.now c.loop-entry.invariant.held c.redo_edits.ensures.held);
      pins = c.redo_edits.ensures.pins ∙ c.loop-entry.invariant.pins;
    }

pub returns-clause-held : goal.returns-clause-held
returns-clause-held c =
    subst (λ (rs : List Record). held c.loop-entry.frames ≡ update nat_eq (held c.args.frames.now) c.args.key (option_map (redone_by (lsn_number c.args.lsn) (edits_on c.args.name.now c.args.at.part c.args.at.page rs)) (held c.args.frames.now c.args.key)))
    (take_all c.loop-entry.entry-index c.args.group.now (omega arith)) c.loop-entry.invariant.held

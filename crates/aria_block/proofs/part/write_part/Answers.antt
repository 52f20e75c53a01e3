use Rattle.std.proofs.Common.{rules, ◌≡◌, ◌+◌, ◌*◌, ◌-◌, ℕ, List, [], ◌∷◌, length, take, ap, ◌∙◌, arith, subst, OnOk}
use Rattle.aria_page.specs.declared.edit.Edit.{Edit}
use Rattle.aria_page.specs.declared.edit.Edit.TheVariants.{Set}
use Rattle.aria_page.specs.declared.group.RedoKind.{RedoKind}
use Rattle.aria_page.specs.declared.place.Part.TheVariants.{Rows}
use Rattle.aria_cache.specs.PageState.{PageState}
use Rattle.aria_cache.specs.Calls.{Edits}
use Rattle.aria_block.specs.Puts.{put_kind, new_entries}
use Rattle.aria_block.proofs.Writing.{entries_taken, same_edits}
use Rattle.aria_block.proofs.part.write_part.Goals as goal

pub returns-clause-edits : goal.returns-clause-edits
returns-clause-edits g c = λ told.
    let old : PageState = g.P.Pages.state c.args.pages.now in
    let new : PageState = g.P.Pages.state c.edit.new.self in
    let x : ℕ = 65536 * c.args.spot.now.end + length c.args.bytes.now in
    let unused : c.saturating_sub-unused.result ≡ c.args.spot.now.slot - c.args.spot.now.before = search rules in
    let entries : take (4 + 4 * c.saturating_sub-unused.result) c.entry_array-entries.result ≡ new_entries c.args.spot.now (length c.args.bytes.now) =
    ap (λ (n : ℕ). take (4 + 4 * n) c.entry_array-entries.result) unused
    ∙ ap (take (4 + 4 * (c.args.spot.now.slot - c.args.spot.now.before))) c.entry_array-entries.ensures
    ∙ entries_taken x (c.args.spot.now.slot - c.args.spot.now.before) (omega (arith, c.requires.slot, c.requires.fits)) in
    let es : List Edit = Set c.args.spot.now.end c.args.bytes.now ∷ (Set (8181 - 4 * (c.args.spot.now.slot + 1)) (take (4 + 4 * c.saturating_sub-unused.result) c.entry_array-entries.result) ∷ (Set 0 c.head_array-head.result ∷ [])) in
    subst (λ (l : List Edit). OnOk c.edit.result (Edits g.P.Pages.logged (put_kind c.args.kind) c.args.slot Rows c.args.page l old new))
    (same_edits c.args.kind c.args.spot.now c.args.bytes.now (take (4 + 4 * c.saturating_sub-unused.result) c.entry_array-entries.result) c.head_array-head.result entries c.head_array-head.ensures)
    (subst (λ (k : RedoKind). OnOk c.edit.result (Edits g.P.Pages.logged k c.args.slot Rows c.args.page es old new)) c.put_kind.ensures (c.edit.ensures.edits told))

use Rattle.std.proofs.Common.{◌≡◌, ◌∙◌, ◌≤◌, ◌+◌, max, ◌/◌, ◌^◌, ℕ, Bool, true, false, is_ok, is_some, List, [], length, ap, sym, subst, refl, Option, Some, Result, Err}
use Rattle.std.specs.Prelude.{IsTrue, slice_get, unwrap_or}
use Rattle.std.proofs.lemmas.Result.{err_from_is_err_and}
use Rattle.aria_page.specs.declared.edit.Edit.{Edit}
use Rattle.aria_page.specs.Change.{edits_of}
use Rattle.aria_record.specs.declared.record.Record.TheVariants.{Redo}
use Rattle.aria_record.specs.Writing.{Writes, Pushes, records_of, redo_size}
use Rattle.aria_record.proofs.Lent.{lent_length}
use Rattle.aria_cache.specs.Frames.{Held, held}
use Rattle.aria_cache.specs.Key.{key_of}
use Rattle.aria_recovery.specs.Frames.{all_of}
use Rattle.aria_pager.specs.declared.page_store.PageStore.{PageStore}
use Rattle.aria_pager.specs.declared.slot.Slot.{Slot}
use Rattle.aria_pager.specs.PageStore.{name_at, set_at}
use Rattle.aria_pager.specs.Pager.{IsPager, next_number, pages_in, with_pages}
use Rattle.aria_pager.specs.Steps.{Adds, with_group}
use Rattle.aria_pager.proofs.Loading.{open_here}
use Rattle.aria_pager.proofs.Editing.{no_adds, adds_step, the_held, the_slot, same_tables, tables_edited, tables_failed, sizes_edited, some_edits, pager_edited, pins_more, named_slot, sizes_failed, on_err}
use Rattle.std.specs.Option.{option_map_or}
use Rattle.aria_page.specs.Page.{page_body}
use Rattle.aria_host.specs.declared.fault.Fault.{Fault}
use Rattle.aria_host.specs.declared.file_name.FileName.{FileName}
use Rattle.aria_cache.proofs.MemStates.{long_edited}
use Rattle.aria_record.specs.declared.group_writer.GroupWriter.{GroupWriter}
use Rattle.aria_cache.specs.PageState.{table_file, with_edits}
use Rattle.aria_pager.specs.Shows.{HasLookCause}
use Rattle.aria_pager.specs.View.{HasEdits, loaded_body}
use Rattle.aria_pager.proofs.Viewing.{tidy_same}
use Rattle.aria_pager.proofs.Lending.{open_name}
use Rattle.aria_pager.proofs.Glanced.{look_cause}
use Rattle.aria_pager.proofs.Edited.{Edited, past_zero, counts_edited, bodies_edited, late_edited}
use Rattle.aria_pager.proofs.Pushing.{tidy_edited, tidy_failed}
use Rattle.aria_pager.proofs.page_store.PageStore.edit.Goals as goal

pub returns-in_err-hold-clause-adds : goal.returns-in_err-hold-clause-adds
returns-in_err-hold-clause-adds g c = λ told base start groups forced is name named.
    let p = err_from_is_err_and c.from_residual.result c.from_residual.ensures.1 in
    no_adds c.args.self.now c.hold.new.self (g.H.Host.state c.args.host.now) (g.H.Host.state c.hold.new.host) base start groups forced (Redo c.args.why name c.args.at.part c.args.at.page (edits_of c.args.edits.now)) c.hold.new.self
    false (is_ok c.from_residual.result) (ap is_ok p.1) (c.in_err-hold.ensures.steps told (all_of groups) base start groups forced is)

pub returns-in_err-hold-clause-same : goal.returns-in_err-hold-clause-same
returns-in_err-hold-clause-same g c = same_tables c.args.self.now c.hold.new.self c.in_err-hold.ensures.same

pub returns-in_err-change-clause-adds : goal.returns-in_err-change-clause-adds
returns-in_err-change-clause-adds g c = λ told base start groups forced is name named.
    let p = err_from_is_err_and c.from_residual-in_err-change.result c.from_residual-in_err-change.ensures.1 in
    no_adds c.args.self.now c.hold.new.self (g.H.Host.state c.args.host.now) (g.H.Host.state c.hold.new.host) base start groups forced (Redo c.args.why name c.args.at.part c.args.at.page (edits_of c.args.edits.now)) c.change.new.self
    true (is_ok c.from_residual-in_err-change.result) (ap is_ok p.1) (c.in_ok-hold.ensures.steps told (all_of groups) base start groups forced is)

pub returns-in_err-change-clause-failed : goal.returns-in_err-change-clause-failed
returns-in_err-change-clause-failed g c = on_err c.from_residual-in_err-change.result (sizes_failed c.args.self.now c.hold.new.self c.change.new.self c.in_ok-hold.ensures.same.sizes c.in_err-change.ensures.failed)

pub returns-in_err-change-clause-same : goal.returns-in_err-change-clause-same
returns-in_err-change-clause-same g c = tables_failed c.args.self.now c.hold.new.self c.change.new.self c.in_ok-hold.ensures.same c.in_err-change.ensures.rest c.in_err-change.ensures.failed

pub returns-clause-same : goal.returns-clause-same
returns-clause-same g c =
    let at = c.args.at in
    let found = the_slot (slice_get c.hold.new.self.slots at.slot) c.in_ok-change.ensures.there in
    tables_edited c.args.self.now c.hold.new.self c.change.new.self at.slot found.0 at.part _ c.in_ok-hold.ensures.same c.in_ok-change.ensures.rest found.1 (c.in_ok-change.ensures.slots found.0 found.1)

pub returns-clause-sizes : goal.returns-clause-sizes
returns-clause-sizes g c =
    let at = c.args.at in
    let found = the_slot (slice_get c.hold.new.self.slots at.slot) c.in_ok-change.ensures.there in
    sizes_edited c.args.self.now c.hold.new.self c.change.new.self at found.0 c.in_ok-hold.ensures.same.sizes found.1 (c.in_ok-change.ensures.slots found.0 found.1)

pub returns-clause-adds : goal.returns-clause-adds
returns-clause-adds g c = λ told base start groups forced is name named.
    let a = c.args.self.now in
    let b = c.hold.new.self in
    let n = c.change.new.self in
    let at = c.args.at in
    let es : List Edit = edits_of c.args.edits.now in
    let t = g.H.Host.state c.hold.new.host in
    let found = the_slot (slice_get b.slots at.slot) c.in_ok-change.ensures.there in
    let slot = found.0 in
    let open_b : IsTrue (is_some (name_at b at.slot)) = subst (λ (f : ℕ → Option (List ℕ)). IsTrue (is_some (f at.slot))) (sym c.in_ok-hold.ensures.same.slots) c.requires.open in
    let here = open_here b at slot c.requires.low found.1 open_b in
    let name_is : slot.name ≡ name = named_slot b at.slot slot name found.1 (ap (λ (f : ℕ → Option (List ℕ)). f at.slot) c.in_ok-hold.ensures.same.slots ∙ named) in
    let first = c.in_ok-hold.ensures.steps told (all_of groups) base start groups forced is in
    let pushes = c.in_ok-change.ensures.entry slot found.1 in
    let key : ℕ = key_of at in
    let h = the_held (held b.frames key) c.in_ok-hold.ensures.held in
    let some : 1 ≤ length es = subst (λ (n : ℕ). 1 ≤ n) (sym (lent_length c.args.edits.now)) c.requires.some in
    subst (λ (x : List ℕ). Adds a n (g.H.Host.state c.args.host.now) t base start groups forced (Redo c.args.why x at.part at.page es) true) name_is
    (adds_step a b n (g.H.Host.state c.args.host.now) t base start groups forced (Redo c.args.why slot.name at.part at.page es) first c.in_ok-hold.ensures.same.writer (pushes.told (first.pager refl).written)
    (λ p.
    let slots : n.slots ≡ set_at b.slots (key / 2 ^ 32) (with_pages at.part (record { written = (pages_in slot at.part).written; pages = (max (pages_in slot at.part).pages (at.page + 1)) }) slot)
    = c.in_ok-change.ensures.slots slot found.1 ∙ ap (λ (m : ℕ). set_at b.slots m (with_pages at.part (record { written = (pages_in slot at.part).written; pages = (max (pages_in slot at.part).pages (at.page + 1)) }) slot)) (sym here.number) in
    let rest : n ≡ with_group b n.frames n.writer n.made (set_at b.slots (key / 2 ^ 32) (with_pages at.part (record { written = (pages_in slot at.part).written; pages = (max (pages_in slot at.part).pages (at.page + 1)) }) slot))
    = c.in_ok-change.ensures.rest ∙ ap (λ (l : List Slot). with_group b n.frames n.writer n.made l) slots in
    subst (λ (v : PageStore). IsPager v t base start groups first.forced') (sym rest)
    (pager_edited b n.frames n.writer n.made t base start groups first.forced' key h.0 at slot c.args.why es record {
      is = p;
      here = here;
      there = h.1;
      some = some_edits es some;
      low = c.requires.low;
      map = c.in_ok-change.ensures.held;
      pins = pins_more b.frames.pins.items n.frames.pins.items key c.in_ok-change.ensures.pins;
      told = pushes.told p.written;
      written = subst (Writes n.writer) (sym (pushes.told p.written)) (pushes.pushed (records_of b.writer) p.written);
    })))

pub returns-in_err-hold-clause-tidy : goal.returns-in_err-hold-clause-tidy
returns-in_err-hold-clause-tidy g c = λ tidy on. tidy_same c.args.self.now c.hold.new.self c.in_err-hold.ensures.same tidy

pub returns-in_err-hold-clause-cause : goal.returns-in_err-hold-clause-cause
returns-in_err-hold-clause-cause g c = λ tidy.
    let store = c.args.self.now in
    let mid = c.hold.new.self in
    let at = c.args.at in
    let s = g.H.Host.state c.args.host.now in
    let t = g.H.Host.state c.hold.new.host in
    let p = err_from_is_err_and c.from_residual.result c.from_residual.ensures.1 in
    let cause = look_cause g.H.Host.tells store mid s t at (tidy_same store mid c.in_err-hold.ensures.same tidy) c.requires.low c.requires.open c.in_err-hold.ensures.same.slots (λ told. c.in_err-hold.ensures.pages told tidy) in
    subst (λ (r : Result Unit Fault). HasLookCause g.H.Host.tells (table_file (unwrap_or (name_at store at.slot) []) at.part) at.page store s t r) (sym p.1)
    (subst (λ (f : Fault). HasLookCause {T = Unit} g.H.Host.tells (table_file (unwrap_or (name_at store at.slot) []) at.part) at.page store s t (Err f)) (sym p.2) (cause _ c.in_err-hold.ensures.cause))

pub returns-in_err-change-clause-tidy : goal.returns-in_err-change-clause-tidy
returns-in_err-change-clause-tidy g c = λ tidy on.
    let store = c.args.self.now in
    let mid = c.hold.new.self in
    let now = c.change.new.self in
    let first = c.in_ok-hold.ensures.same in
    tidy_failed store now (tables_failed store mid now first c.in_err-change.ensures.rest c.in_err-change.ensures.failed) on (sizes_failed store mid now first.sizes c.in_err-change.ensures.failed)
    (λ is. c.in_err-change.ensures.edits (subst HasEdits (sym first.writer) is)) tidy

-- the name of the slot that is edited
slot_name : (store mid : PageStore) (n : ℕ) (slot : Slot) → name_at mid ≡ name_at store → IsTrue (is_some (name_at store n)) → slice_get mid.slots n ≡ Some slot → slot.name ≡ unwrap_or (name_at store n) []
slot_name store mid n slot same on there = named_slot mid n slot (unwrap_or (name_at store n) []) there (ap (λ (f : ℕ → Option (List ℕ)). f n) same ∙ open_name store n on)

pub returns-clause-entry : goal.returns-clause-entry
returns-clause-entry g c =
    let store = c.args.self.now in
    let mid = c.hold.new.self in
    let now = c.change.new.self in
    let at = c.args.at in
    let es = edits_of c.args.edits.now in
    let first = c.in_ok-hold.ensures.same in
    let found = the_slot (slice_get mid.slots at.slot) c.in_ok-change.ensures.there in
    subst (λ (w : GroupWriter). Pushes w now.writer (Redo c.args.why (unwrap_or (name_at store at.slot) []) at.part at.page es) (redo_size es)) first.writer
    (subst (λ (m : List ℕ). Pushes mid.writer now.writer (Redo c.args.why m at.part at.page es) (redo_size es)) (slot_name store mid at.slot found.0 first.slots c.requires.open found.1) (c.in_ok-change.ensures.entry found.0 found.1))

pub returns-clause-tidy : goal.returns-clause-tidy
returns-clause-tidy g c = λ tidy on.
    let store = c.args.self.now in
    let mid = c.hold.new.self in
    let now = c.change.new.self in
    let at = c.args.at in
    let first = c.in_ok-hold.ensures.same in
    let found = the_slot (slice_get mid.slots at.slot) c.in_ok-change.ensures.there in
    tidy_edited store now at (tables_edited store mid now at.slot found.0 at.part _ first c.in_ok-change.ensures.rest found.1 (c.in_ok-change.ensures.slots found.0 found.1)) on c.requires.low
    (sizes_edited store mid now at found.0 first.sizes found.1 (c.in_ok-change.ensures.slots found.0 found.1)) (λ is. c.in_ok-change.ensures.edits (subst HasEdits (sym first.writer) is)) tidy

pub returns-clause-counts : goal.returns-clause-counts
returns-clause-counts g c = λ tidy on.
    let store = c.args.self.now in
    let mid = c.hold.new.self in
    let now = c.change.new.self in
    let at = c.args.at in
    let first = c.in_ok-hold.ensures.same in
    let found = the_slot (slice_get mid.slots at.slot) c.in_ok-change.ensures.there in
    let tables = tables_edited store mid now at.slot found.0 at.part _ first c.in_ok-change.ensures.rest found.1 (c.in_ok-change.ensures.slots found.0 found.1) in
    let sizes = sizes_edited store mid now at found.0 first.sizes found.1 (c.in_ok-change.ensures.slots found.0 found.1) in
    counts_edited store now at (unwrap_or (name_at store at.slot) []) record {
      tidy = tidy;
      tidied = tidy_edited store now at tables on c.requires.low sizes (λ is. c.in_ok-change.ensures.edits (subst HasEdits (sym first.writer) is)) tidy;
      named = open_name store at.slot c.requires.open;
      slots = tables.slots;
      sizes = sizes;
    }

pub returns-clause-shows : goal.returns-clause-shows
returns-clause-shows g c = λ told tidy on.
    let store = c.args.self.now in
    let mid = c.hold.new.self in
    let now = c.change.new.self in
    let at = c.args.at in
    let es : List Edit = edits_of c.args.edits.now in
    let t = g.H.Host.state c.hold.new.host in
    let name : List ℕ = unwrap_or (name_at store at.slot) [] in
    let p = c.requires.pager told in
    let first = c.in_ok-hold.ensures.same in
    let st = c.in_ok-hold.ensures.steps told (all_of p.2) p.0 p.1 p.2 p.3 p.4 in
    let keeps = c.in_ok-hold.ensures.pages told tidy in
    let h = the_held (held mid.frames (key_of at)) c.in_ok-hold.ensures.held in
    let found = the_slot (slice_get mid.slots at.slot) c.in_ok-change.ensures.there in
    let tables = tables_edited store mid now at.slot found.0 at.part _ first c.in_ok-change.ensures.rest found.1 (c.in_ok-change.ensures.slots found.0 found.1) in
    let named : name_at mid at.slot ≡ Some name = ap (λ (f : ℕ → Option (List ℕ)). f at.slot) first.slots ∙ open_name store at.slot c.requires.open in
    let lent : loaded_body mid ≡ h.0.body = ap (λ (o : Option Held). option_map_or (λ h. h.body) o (page_body mid.blank)) (c.in_ok-hold.ensures.front ∙ h.1) in
    let e : Edited mid now t.folder at name h.0 es = record {
      resized = record { tidy = tidy_same store mid first tidy; tidied = returns-clause-tidy g c tidy on; named = named; slots = tables.slots ∙ sym first.slots; sizes = sizes_edited mid mid now at found.0 refl found.1 (c.in_ok-change.ensures.slots found.0 found.1) };
      low = c.requires.low;
      there = h.1;
      map = c.in_ok-change.ensures.held;
      next = ap next_number c.in_ok-change.ensures.rest;
      long = sym (ap (λ (l : List ℕ). length l) (c.loaded.ensures.body ∙ lent)) ∙ c.loaded.ensures.len;
      within = λ body long. long_edited c.args.edits.now body c.requires.within long;
      past = λ page low past. past_zero mid t p.0 p.1 p.2 st.forced' (g.met.H.Host.reads_now c.hold.new.host told) (st.pager refl) at.slot name at.part page named low past;
    } in
    record {
      bodies = bodies_edited mid now t.folder at name h.0 es e ∙ ap (λ (b : FileName → ℕ → Option (List ℕ)). with_edits (table_file name at.part) at.page es b) keeps.bodies;
      late = λ f n is. keeps.late f n (subst (λ (b : FileName → ℕ → Bool). IsTrue (b f n)) (late_edited mid now t.folder at name h.0 es e) is);
    }

use Rattle.std.proofs.Common.{◌≡◌, ◌∙◌, ◌/◌, ◌^◌, ℕ, true, false, is_ok, List, ap, sym, refl, subst}
use Rattle.std.specs.Prelude.{IsSome}
use Rattle.std.proofs.lemmas.Option.{slice_get_within}
use Rattle.std.proofs.lemmas.Result.{err_from_is_err_and}
use Rattle.aria_host.specs.declared.file_name.FileName.{FileName}
use Rattle.aria_host.specs.Calls.{Writes}
use Rattle.aria_cache.specs.Frames.{held, is_pinned}
use Rattle.aria_recovery.specs.Frames.{Spot}
use Rattle.aria_pager.specs.declared.slot.Slot.{Slot}
use Rattle.aria_pager.specs.PageStore.{set_at}
use Rattle.aria_pager.specs.Steps.{StepsAt}
use Rattle.aria_pager.proofs.Putting.{put_failed, put_done, put_there, new_slot, with_slots, same_slots, cleaned_now, here_of}
use Rattle.aria_pager.proofs.Quiet.{keeps_write}
use Rattle.aria_pager.proofs.Looking.{looks_put, same_work, cleaned_alike, cleaned_none}
use Rattle.aria_pager.proofs.Stepping.{fault_on}
use Rattle.aria_pager.proofs.Written.{cleaned_fewer}
use Rattle.aria_pager.proofs.page_store.PageStore.put.Goals as goal

pub returns-in_default-clause-clean : goal.returns-in_default-clause-clean
returns-in_default-clause-clean g c = cleaned_now (held c.args.self.now.frames) (held c.clean.new.self) c.args.key c.clean.ensures.held

pub write_page-requires-clause-there : goal.write_page-requires-clause-there
write_page-requires-clause-there g c = λ told.
    let p = c.requires.pager told in
    let s = g.H.Host.state c.args.host.now in
    let here = here_of c.args.self.now s p.0 p.1 p.2 p.3 p.4 c.args.key p.5 c.of_key-at.result c.in-Some.slot c.of_key-at.ensures.low c.of_key-at.ensures.is (sym c.in-Some.ensures) p.6 p.7 in
    subst (λ (f : FileName). IsSome (s.folder f)) (sym c.file-file.ensures) (put_there c.args.self.now s p.0 p.1 p.2 p.3 p.4 c.args.key c.of_key-at.result c.in-Some.slot p.6 here)

pub returns-in_err-write_page-clause-steps : goal.returns-in_err-write_page-clause-steps
returns-in_err-write_page-clause-steps g c = λ told redone base start groups forced h is there dirty free sealed ahead.
    let s = g.H.Host.state c.args.host.now in
    let t = g.H.Host.state c.write_page.new.self in
    let at = c.of_key-at.result in
    let slot = c.in-Some.slot in
    let p = err_from_is_err_and c.from_residual.result c.from_residual.ensures.1 in
    let here = here_of c.args.self.now s redone base start groups forced c.args.key h at slot c.of_key-at.ensures.low c.of_key-at.ensures.is (sym c.in-Some.ensures) is there in
    let spot : Spot = record { name = slot.name; part = at.part; page = at.page } in
    fault_on c.args.self.now c.args.self.now c.args.self.now s t redone base start groups forced false (is_ok c.from_residual.result) (ap is_ok p.1)
    (put_failed c.args.self.now s t redone base start groups forced c.args.key h spot c.args.page.now false record {
      only = λ f b left. g.met.H.Host.only_now c.args.host.now f b told left;
      before = g.met.H.Host.reads_now c.args.host.now told;
      after = g.met.H.Host.reads_now c.write_page.new.self told;
      is = is;
      there = there;
      free = free;
      dirty = dirty;
      place = here.spot;
      sealed = sealed;
      ahead = ahead;
      wrote = subst (λ (f : FileName). Writes f at.page c.args.page.now s t false) c.file-file.ensures (c.in_err-write_page.ensures.written told);
    } refl)

pub set_written-requires-clause-there : goal.set_written-requires-clause-there
set_written-requires-clause-there g c = slice_get_within c.args.self.now.slots c.of_key-at.result.slot c.in-Some.slot (sym c.in-Some.ensures)

pub returns-clause-steps : goal.returns-clause-steps
returns-clause-steps g c = λ told redone base start groups forced h is there dirty free sealed ahead.
    let store = c.args.self.now in
    let s = g.H.Host.state c.args.host.now in
    let t = g.H.Host.state c.write_page.new.self in
    let at = c.of_key-at.result in
    let slot = c.in-Some.slot in
    let here = here_of store s redone base start groups forced c.args.key h at slot c.of_key-at.ensures.low c.of_key-at.ensures.is (sym c.in-Some.ensures) is there in
    let spot : Spot = record { name = slot.name; part = at.part; page = at.page } in
    let slots : c.set_written.new.slots ≡ set_at store.slots (c.args.key / 2 ^ 32) (new_slot store s t redone base start groups forced c.args.key h spot c.args.page.now true slot)
    = c.set_written.ensures ∙ ap (λ (n : ℕ). set_at store.slots n (new_slot store s t redone base start groups forced c.args.key h spot c.args.page.now true slot)) (sym here.number) in
    subst (λ (l : List Slot). StepsAt store (with_slots store l c.clean-2.new.self) s t redone base start groups forced true) (sym slots)
    (put_done store s t redone base start groups forced c.args.key h spot c.args.page.now true record {
      only = λ f b left. g.met.H.Host.only_now c.args.host.now f b told left;
      before = g.met.H.Host.reads_now c.args.host.now told;
      after = g.met.H.Host.reads_now c.write_page.new.self told;
      is = is;
      there = there;
      free = free;
      dirty = dirty;
      place = here.spot;
      sealed = sealed;
      ahead = ahead;
      wrote = subst (λ (f : FileName). Writes f at.page c.args.page.now s t true) c.file-file.ensures (c.in_ok-write_page.ensures.written told);
    } refl slot here.there c.clean-2.new.self c.clean-2.ensures.held (ap (λ v k. is_pinned record { cache = c.clean-2.new.self.cache; pins = v } k) c.clean-2.ensures.pins))

pub returns-clause-clean : goal.returns-clause-clean
returns-clause-clean g c = cleaned_now (held c.args.self.now.frames) (held c.clean-2.new.self) c.args.key c.clean-2.ensures.held

pub returns-clause-same : goal.returns-clause-same
returns-clause-same g c = same_slots c.args.self.now c.clean-2.new.self c.set_written.new.slots c.of_key-at.result.slot c.in-Some.slot c.of_key-at.result.part _ refl (sym c.in-Some.ensures) c.set_written.ensures

pub returns-clause-quiet : goal.returns-clause-quiet
returns-clause-quiet g c = λ told idle. keeps_write c.args.self.now _ (g.H.Host.state c.args.host.now) (g.H.Host.state c.write_page.new.self) c.in-Some.slot.name c.of_key-at.result.part c.file-file.result c.of_key-at.result.page c.args.page.now c.file-file.ensures refl (c.in_ok-write_page.ensures.written told)

pub returns-in_default-clause-dirty : goal.returns-in_default-clause-dirty
returns-in_default-clause-dirty g c = cleaned_fewer (held c.args.self.now.frames) (held c.clean.new.self) c.args.key c.clean.ensures.held

pub returns-clause-dirty : goal.returns-clause-dirty
returns-clause-dirty g c = cleaned_fewer (held c.args.self.now.frames) (held c.clean-2.new.self) c.args.key c.clean-2.ensures.held

pub returns-in_err-write_page-clause-pages : goal.returns-in_err-write_page-clause-pages
returns-in_err-write_page-clause-pages g c = λ told tidy.
    let p = c.requires.pager told in
    let s = g.H.Host.state c.args.host.now in
    let t = g.H.Host.state c.write_page.new.self in
    let store = c.args.self.now in
    let at = c.of_key-at.result in
    let slot = c.in-Some.slot in
    let here = here_of store s p.0 p.1 p.2 p.3 p.4 c.args.key p.5 at slot c.of_key-at.ensures.low c.of_key-at.ensures.is (sym c.in-Some.ensures) p.6 p.7 in
    looks_put store store s t p.0 p.1 p.2 p.3 p.4 c.args.key p.5 at slot c.args.page.now false tidy (same_work store store.frames) refl (λ k. refl) c.of_key-at.ensures.low p.6 here p.7
    (subst (λ (f : FileName). Writes f at.page c.args.page.now s t false) c.file-file.ensures (c.in_err-write_page.ensures.written told))

pub returns-clause-pages : goal.returns-clause-pages
returns-clause-pages g c = λ told tidy.
    let p = c.requires.pager told in
    let s = g.H.Host.state c.args.host.now in
    let t = g.H.Host.state c.write_page.new.self in
    let store = c.args.self.now in
    let at = c.of_key-at.result in
    let slot = c.in-Some.slot in
    let here = here_of store s p.0 p.1 p.2 p.3 p.4 c.args.key p.5 at slot c.of_key-at.ensures.low c.of_key-at.ensures.is (sym c.in-Some.ensures) p.6 p.7 in
    looks_put store (with_slots store c.set_written.new.slots c.clean-2.new.self) s t p.0 p.1 p.2 p.3 p.4 c.args.key p.5 at slot c.args.page.now true tidy
    (same_slots store c.clean-2.new.self c.set_written.new.slots at.slot slot at.part _ refl (sym c.in-Some.ensures) c.set_written.ensures) refl (cleaned_alike (held store.frames) (held c.clean-2.new.self) c.args.key c.clean-2.ensures.held) c.of_key-at.ensures.low p.6 here p.7
    (subst (λ (f : FileName). Writes f at.page c.args.page.now s t true) c.file-file.ensures (c.in_ok-write_page.ensures.written told))

pub returns-in_default-clause-fewer : goal.returns-in_default-clause-fewer
returns-in_default-clause-fewer g c = cleaned_none (held c.args.self.now.frames) (held c.clean.new.self) c.args.key c.clean.ensures.held

pub returns-clause-fewer : goal.returns-clause-fewer
returns-clause-fewer g c = cleaned_none (held c.args.self.now.frames) (held c.clean-2.new.self) c.args.key c.clean-2.ensures.held

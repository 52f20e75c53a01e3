use Rattle.std.proofs.Common.{◌≡◌, ◌∙◌, ℕ, List, refl, sym, subst, take}
use Rattle.std.specs.Prelude.{All}
use Rattle.std.proofs.lemmas.List.{take_all}
use Rattle.std.proofs.lemmas.List.Elements.{All-push}
use Rattle.std.proofs.lemmas.Result.{err_from_is_err_and}
use Rattle.aria_host.proofs.Answered.{on_ok_of}
use Rattle.aria_host.proofs.Moments.{unchanged_after}
use Rattle.aria_host.specs.Folder.{Folder}
use Rattle.aria_recovery.specs.Frames.{all_of}
use Rattle.aria_pager.specs.declared.slot.Slot.{Slot}
use Rattle.aria_pager.specs.Headers.{BeginsIn}
use Rattle.aria_pager.proofs.Given.{next_of}
use Rattle.aria_pager.proofs.Heading.{header_later}
use Rattle.aria_pager.proofs.Stepping.{pager_look}
use Rattle.aria_pager.proofs.page_store.PageStore.check_slots.Goals as goal

pub check_table-requires-clause-pager : goal.check_table-requires-clause-pager
check_table-requires-clause-pager g c = λ told.
    let (base, start, groups, forced, is) = c.requires.pager told in
    (base, start, groups, forced, pager_look c.args.self.now (g.H.Host.state c.args.host.now) (g.H.Host.state c.loop-slot.host) (all_of groups) base start groups forced (c.loop-slot.invariant.same told) is)

pub loop-slot-preserved : goal.loop-slot-preserved
loop-slot-preserved g c =
    let s = g.H.Host.state c.args.host.now in
    let i : ℕ = c.loop-slot.slot-index in
    let slots : List Slot = c.args.slots.now in
    let slot : Slot = c.slot-item.result in
    record {
      headers = λ told.
          let P : Slot → Type 0 = λ x. BeginsIn c.args.self.now s.folder x.name in
          subst (All P) (sym (next_of slots i slot c.loop-slot-test.true c.slot-item.is))
          (All-push P (take i slots) slot (c.loop-slot.invariant.headers told)
          (subst (λ (d : Folder). BeginsIn c.args.self.now d slot.name) (c.loop-slot.invariant.same told).folder (c.in_ok-check_table.ensures.header told)));
      same = λ told. unchanged_after s (g.H.Host.state c.loop-slot.host) (g.H.Host.state c.check_table.new.host) (c.loop-slot.invariant.same told) (c.in_ok-check_table.ensures.same told);
      disk = c.in_ok-check_table.ensures.cause.calm ∙ c.loop-slot.invariant.disk;
      tell = c.in_ok-check_table.ensures.cause.tell ∙ c.loop-slot.invariant.tell;
    }

pub returns-in_err-check_table-clause-cause : goal.returns-in_err-check_table-clause-cause
returns-in_err-check_table-clause-cause g c =
    let e = err_from_is_err_and c.from_residual.result c.from_residual.ensures.1 in
    header_later g.H.Host.tells c.args.self.now (g.H.Host.state c.args.host.now) (g.H.Host.state c.loop-slot.host) (g.H.Host.state c.check_table.new.host) _ e.0 c.from_residual.result e.1 e.2
    (λ told. (c.loop-slot.invariant.same told).folder) c.loop-slot.invariant.disk c.loop-slot.invariant.tell c.in_err-check_table.ensures.cause

pub returns-clause-headers : goal.returns-clause-headers
returns-clause-headers g c = λ told.
    subst (All (λ (x : Slot). BeginsIn c.args.self.now (g.H.Host.state c.args.host.now).folder x.name)) (take_all c.loop-slot.slot-index c.args.slots.now c.loop-slot-test.false) (c.loop-slot.invariant.headers told)

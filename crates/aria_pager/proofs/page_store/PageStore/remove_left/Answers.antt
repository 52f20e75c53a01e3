use Rattle.std.proofs.Common.{◌≡◌, Bool, true, false, is_ok, ap, refl, subst}
use Rattle.std.proofs.lemmas.Result.{err_from_is_err_and}
use Rattle.aria_host.specs.Calls.{Removes}
use Rattle.aria_host.specs.declared.file_name.FileName.{FileName}
use Rattle.aria_recovery.specs.Tables.{file}
use Rattle.aria_recovery.specs.Frames.{all_of}
use Rattle.aria_pager.proofs.Removing.{left_table, left_step}
use Rattle.aria_pager.proofs.Stepping.{look_step, steps_on}
use Rattle.aria_pager.proofs.page_store.PageStore.remove_left.Goals as goal

pub returns-in_err-found-clause-steps : goal.returns-in_err-found-clause-steps
returns-in_err-found-clause-steps g c = λ told base start groups forced is.
    let p = err_from_is_err_and c.from_residual.result c.from_residual.ensures.1 in
    let failed : is_ok c.from_residual.result ≡ false = ap is_ok p.1 in
    look_step c.args.self.now c.args.self.now (g.H.Host.state c.args.host.now) (g.H.Host.state c.look.new.self) (all_of groups) base start groups forced _ (λ f b left. g.met.H.Host.only_now c.args.host.now f b told left)
    (g.met.H.Host.reads_now c.look.new.self told) (c.in_err-found.ensures.same told) (λ on p. p) is

pub returns-then-is_none-clause-steps : goal.returns-then-is_none-clause-steps
returns-then-is_none-clause-steps g c = λ told base start groups forced is.
    look_step c.args.self.now c.args.self.now (g.H.Host.state c.args.host.now) (g.H.Host.state c.look.new.self) (all_of groups) base start groups forced true (λ f b left. g.met.H.Host.only_now c.args.host.now f b told left)
    (g.met.H.Host.reads_now c.look.new.self told) (c.in_ok-found.ensures.same told) (λ on p. p) is

pub returns-clause-steps : goal.returns-clause-steps
returns-clause-steps g c = λ told base start groups forced is.
    let store = c.args.self.now in
    let name = c.args.name.now in
    let s = g.H.Host.state c.args.host.now in
    let m = g.H.Host.state c.look.new.self in
    let t = g.H.Host.state c.remove.new.self in
    let done : Bool = is_ok c.remove.result in
    let first = look_step store store s m (all_of groups) base start groups forced true (λ f b left. g.met.H.Host.only_now c.args.host.now f b told left) (g.met.H.Host.reads_now c.look.new.self told) (c.in_ok-found.ensures.same told) (λ on p. p) is in
    let gone : Removes (file name c.args.part) m t done = subst (λ (f : FileName). Removes f m t done) c.file_of-file.ensures (c.remove.ensures.removed told) in
    steps_on store store store s m t (all_of groups) base start groups forced done refl first
    (left_step store m t base start groups first.forced' (file name c.args.part) done (λ f b left. g.met.H.Host.only_now c.look.new.self f b told left) (g.met.H.Host.reads_now c.remove.new.self told)
    (left_table store m base start groups first.forced' name c.args.part done c.requires.unknown (first.pager refl)) gone (first.pager refl))

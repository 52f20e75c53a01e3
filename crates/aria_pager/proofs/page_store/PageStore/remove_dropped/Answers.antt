use Rattle.std.proofs.Common.{Bool, true, is_ok, refl, subst}
use Rattle.aria_host.specs.Calls.{Removes}
use Rattle.aria_host.specs.declared.file_name.FileName.{FileName}
use Rattle.aria_host.proofs.Moments.{looks}
use Rattle.aria_recovery.specs.Tables.{file}
use Rattle.aria_pager.proofs.Filed.{look_file, dropped_file, files_on}
use Rattle.aria_pager.proofs.page_store.PageStore.remove_dropped.Goals as goal

pub returns-in_err-found-clause-steps : goal.returns-in_err-found-clause-steps
returns-in_err-found-clause-steps g c = λ told base start groups is dropped closed.
    look_file c.args.self.now (g.H.Host.state c.args.host.now) (g.H.Host.state c.look.new.self) base start groups _ (λ f b left. g.met.H.Host.only_now c.args.host.now f b told left)
    (g.met.H.Host.reads_now c.look.new.self told) (looks (g.H.Host.state c.args.host.now) (g.H.Host.state c.look.new.self) (c.in_err-found.ensures.same told)) is

pub returns-then-is_none-clause-steps : goal.returns-then-is_none-clause-steps
returns-then-is_none-clause-steps g c = λ told base start groups is dropped closed.
    look_file c.args.self.now (g.H.Host.state c.args.host.now) (g.H.Host.state c.look.new.self) base start groups true (λ f b left. g.met.H.Host.only_now c.args.host.now f b told left)
    (g.met.H.Host.reads_now c.look.new.self told) (looks (g.H.Host.state c.args.host.now) (g.H.Host.state c.look.new.self) (c.in_ok-found.ensures.same told)) is

pub returns-clause-steps : goal.returns-clause-steps
returns-clause-steps g c = λ told base start groups is dropped closed.
    let store = c.args.self.now in
    let name = c.args.name.now in
    let s = g.H.Host.state c.args.host.now in
    let m = g.H.Host.state c.look.new.self in
    let t = g.H.Host.state c.remove.new.self in
    let done : Bool = is_ok c.remove.result in
    let first = look_file store s m base start groups true (λ f b left. g.met.H.Host.only_now c.args.host.now f b told left) (g.met.H.Host.reads_now c.look.new.self told) (looks s m (c.in_ok-found.ensures.same told)) is in
    let gone : Removes (file name c.args.part) m t done = subst (λ (f : FileName). Removes f m t done) c.file_of-file.ensures (c.remove.ensures.removed told) in
    files_on store s m t base start groups done first
    (dropped_file store m t base start groups name c.args.part done closed dropped (λ f b left. g.met.H.Host.only_now c.look.new.self f b told left) (g.met.H.Host.reads_now c.remove.new.self told) gone (first.logged refl))

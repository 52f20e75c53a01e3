use Rattle.std.proofs.Common.{◌≡◌, ◌∙◌, false, ap, sym, subst}
use Rattle.aria_page.specs.declared.lsn.Lsn.{Lsn}
use Rattle.aria_host.specs.declared.file_name.FileName.{FileName}
use Rattle.aria_host.proofs.Moments.{looks}
use Rattle.aria_recovery.specs.Tables.{is_from, file}
use Rattle.aria_pager.specs.Prepared.{IsFree}
use Rattle.aria_pager.proofs.Preparing.{prepares_look, prepares_on}
use Rattle.aria_pager.proofs.Settling.{made_free, files_look}
use Rattle.aria_pager.proofs.settle.settle_made.Goals as goal

pub returns-in_err-is_from-clause-prepares : goal.returns-in_err-is_from-clause-prepares
returns-in_err-is_from-clause-prepares g c = λ told log base start groups maker first at_is files is.
    let s = g.H.Host.state c.args.host.now in
    let m = g.H.Host.state c.is_from.new.host in
    prepares_look log s m base start groups (λ f b left. g.met.H.Host.only_now c.args.host.now f b told left) (g.met.H.Host.reads_now c.is_from.new.host told) (looks s m (c.in_err-is_from.ensures.same told)) is

pub returns-then-branch-clause-prepares : goal.returns-then-branch-clause-prepares
returns-then-branch-clause-prepares g c = λ told log base start groups maker first at_is files is.
    let s = g.H.Host.state c.args.host.now in
    let m = g.H.Host.state c.is_from.new.host in
    prepares_look log s m base start groups (λ f b left. g.met.H.Host.only_now c.args.host.now f b told left) (g.met.H.Host.reads_now c.is_from.new.host told) (looks s m (c.in_ok-is_from.ensures.same told)) is

pub returns-in_err-remove_there-clause-prepares : goal.returns-in_err-remove_there-clause-prepares
returns-in_err-remove_there-clause-prepares g c = λ told log base start groups maker first at_is files is.
    let name = c.args.name.now in
    let s = g.H.Host.state c.args.host.now in
    let m = g.H.Host.state c.is_from.new.host in
    let a = g.H.Host.state c.remove_there.new.host in
    let same = looks s m (c.in_ok-is_from.ensures.same told) in
    let older : is_from maker.at (s.folder (file name c.args.part)) ≡ false = ap (λ (l : Lsn). is_from l (s.folder (file name c.args.part))) at_is ∙ ap (λ (f : FileName). is_from c.args.at (s.folder f)) (sym c.file_of-file.ensures) ∙ sym (c.in_ok-is_from.ensures.is told) ∙ c.if-branch.false in
    let one = prepares_look log s m base start groups (λ f b left. g.met.H.Host.only_now c.args.host.now f b told left) (g.met.H.Host.reads_now c.is_from.new.host told) same is in
    prepares_on log s m a base start groups one (c.in_err-remove_there.ensures.prepares told log base start groups
    (subst (λ (f : FileName). IsFree f m groups) (sym c.file_of-file.ensures) (made_free s m groups name c.args.part maker first.last same older files)) one.tables)

pub returns-clause-prepares : goal.returns-clause-prepares
returns-clause-prepares g c = λ told log base start groups maker first at_is files is.
    let name = c.args.name.now in
    let s = g.H.Host.state c.args.host.now in
    let m = g.H.Host.state c.is_from.new.host in
    let a = g.H.Host.state c.remove_there.new.host in
    let t = g.H.Host.state c.make_first.new.host in
    let same = looks s m (c.in_ok-is_from.ensures.same told) in
    let older : is_from maker.at (s.folder (file name c.args.part)) ≡ false = ap (λ (l : Lsn). is_from l (s.folder (file name c.args.part))) at_is ∙ ap (λ (f : FileName). is_from c.args.at (s.folder f)) (sym c.file_of-file.ensures) ∙ sym (c.in_ok-is_from.ensures.is told) ∙ c.if-branch.false in
    let one = prepares_look log s m base start groups (λ f b left. g.met.H.Host.only_now c.args.host.now f b told left) (g.met.H.Host.reads_now c.is_from.new.host told) same is in
    let two = c.in_ok-remove_there.ensures.prepares told log base start groups
    (subst (λ (f : FileName). IsFree f m groups) (sym c.file_of-file.ensures) (made_free s m groups name c.args.part maker first.last same older files)) one.tables in
    prepares_on log s m t base start groups one (prepares_on log m a t base start groups two
    (c.make_first.ensures.prepares told log base start groups maker first (c.in_ok-remove_there.ensures.files told (files_look s m same files)) two.tables))

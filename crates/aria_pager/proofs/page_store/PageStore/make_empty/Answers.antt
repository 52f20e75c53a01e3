use Rattle.std.proofs.Common.{◌∙◌, Bool, true, false, [], Some, is_ok, ap, refl, subst}
use Rattle.std.proofs.lemmas.Result.{err_from_is_err_and}
use Rattle.aria_page.specs.declared.place.Part.TheVariants.{Keys, Rows}
use Rattle.aria_host.specs.Calls.{Creates}
use Rattle.aria_host.specs.Folder.{Folder}
use Rattle.aria_host.specs.declared.file_name.FileName.{FileName}
use Rattle.aria_host.proofs.Files.{with_file-other}
use Rattle.aria_recovery.specs.Tables.{file}
use Rattle.aria_pager.proofs.Filed.{files_on, files_fault}
use Rattle.aria_pager.proofs.Filling.{empty_step, absent_older, making_on, none_is}
use Rattle.aria_pager.proofs.page_store.PageStore.make_empty.Goals as goal

pub create-requires-clause-absent : goal.create-requires-clause-absent
create-requires-clause-absent g c = λ told. none_is _ (ap (g.H.Host.state c.args.host.now).folder c.file_of-keys.ensures ∙ c.requires.absent told Keys)

pub returns-in_err-create-clause-steps : goal.returns-in_err-create-clause-steps
returns-in_err-create-clause-steps g c = λ told base start groups maker is.
    let store = c.args.self.now in
    let name = c.args.name.now in
    let s = g.H.Host.state c.args.host.now in
    let m = g.H.Host.state c.create.new.self in
    let p = err_from_is_err_and c.from_residual.result c.from_residual.ensures.1 in
    let made : Creates (file name Keys) s m false = subst (λ (f : FileName). Creates f s m false) c.file_of-keys.ensures (c.in_err-create.ensures.created told) in
    files_fault store s m base start groups false (is_ok c.from_residual.result) (ap is_ok p.1)
    (empty_step store s m base start groups name maker is Keys false (λ f b left. g.met.H.Host.only_now c.args.host.now f b told left) (g.met.H.Host.reads_now c.create.new.self told)
    (absent_older store s m base start groups name maker is Keys (c.requires.absent told Keys)) made)

pub create-requires-2-clause-absent : goal.create-requires-2-clause-absent
create-requires-2-clause-absent g c = λ told.
    let name = c.args.name.now in
    let s = g.H.Host.state c.args.host.now in
    let m = g.H.Host.state c.create.new.self in
    let made : Creates (file name Keys) s m true = subst (λ (f : FileName). Creates f s m true) c.file_of-keys.ensures (c.in_ok-create.ensures.created told) in
    none_is _ (ap m.folder c.file_of-rows.ensures ∙ ap (λ (f : Folder). f (file name Rows)) (made.whole refl) ∙ with_file-other (file name Keys) (file name Rows) (Some []) s.folder refl ∙ c.requires.absent told Rows)

pub returns-clause-steps : goal.returns-clause-steps
returns-clause-steps g c = λ told base start groups maker is.
    let store = c.args.self.now in
    let name = c.args.name.now in
    let s = g.H.Host.state c.args.host.now in
    let m = g.H.Host.state c.create.new.self in
    let t = g.H.Host.state c.create-2.new.self in
    let done : Bool = is_ok c.create-2.result in
    let one : Creates (file name Keys) s m true = subst (λ (f : FileName). Creates f s m true) c.file_of-keys.ensures (c.in_ok-create.ensures.created told) in
    let two : Creates (file name Rows) m t done = subst (λ (f : FileName). Creates f m t done) c.file_of-rows.ensures (c.create-2.ensures.created told) in
    let first = empty_step store s m base start groups name maker is Keys true (λ f b left. g.met.H.Host.only_now c.args.host.now f b told left) (g.met.H.Host.reads_now c.create.new.self told)
    (absent_older store s m base start groups name maker is Keys (c.requires.absent told Keys)) one in
    let on = making_on store s m base start groups name maker is first in
    let none = ap (λ (f : Folder). f (file name Rows)) (one.whole refl) ∙ with_file-other (file name Keys) (file name Rows) (Some []) s.folder refl ∙ c.requires.absent told Rows in
    files_on store s m t base start groups done first
    (empty_step store m t base start groups name maker on Rows done (λ f b left. g.met.H.Host.only_now c.create.new.self f b told left) (g.met.H.Host.reads_now c.create-2.new.self told)
    (absent_older store m t base start groups name maker on Rows none) two)

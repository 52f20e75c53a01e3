use Rattle.std.proofs.Common.{◌∙◌, Bool, true, false, [], Some, is_ok, ap, subst}
use Rattle.aria_host.specs.Calls.{Creates, Writes, Syncs}
use Rattle.aria_host.specs.Folder.{Folder}
use Rattle.aria_host.specs.declared.file_name.FileName.{FileName}
use Rattle.aria_host.proofs.Answered.{on_ok}
use Rattle.aria_host.proofs.Moments.{sync_narrows}
use Rattle.aria_recovery.specs.Tables.{file}
use Rattle.aria_pager.proofs.Filling.{first_there}
use Rattle.aria_pager.proofs.Preparing.{prepares_look, prepares_on}
use Rattle.aria_pager.proofs.Settling.{empty_prepares, empty_there, written_prepares, files_made, files_first}
use Rattle.aria_pager.proofs.settle.make_first.Goals as goal

pub returns-in_err-create-clause-prepares : goal.returns-in_err-create-clause-prepares
returns-in_err-create-clause-prepares g c = λ told log base start groups maker first is tables.
    let name = c.args.name.now in
    let s = g.H.Host.state c.args.host.now in
    let a = g.H.Host.state c.create.new.self in
    let made : Creates (file name c.args.part) s a false = subst (λ (f : FileName). Creates f s a false) c.file_of-file.ensures (c.in_err-create.ensures.created told) in
    empty_prepares log s a base start groups name c.args.part maker c.args.page.now false first (λ f b left. g.met.H.Host.only_now c.args.host.now f b told left) (g.met.H.Host.reads_now c.create.new.self told) (c.requires.absent told) is made tables

pub returns-in_err-write_page-clause-prepares : goal.returns-in_err-write_page-clause-prepares
returns-in_err-write_page-clause-prepares g c = λ told log base start groups maker first is tables.
    let name = c.args.name.now in
    let page = c.args.page.now in
    let s = g.H.Host.state c.args.host.now in
    let a = g.H.Host.state c.create.new.self in
    let b = g.H.Host.state c.write_page.new.self in
    let made : Creates (file name c.args.part) s a true = subst (λ (f : FileName). Creates f s a true) c.file_of-file.ensures (c.in_ok-create.ensures.created told) in
    let wrote : Writes (file name c.args.part) 0 page a b false = subst (λ (f : FileName). Writes f 0 page a b false) c.file_of-file.ensures (c.in_err-write_page.ensures.written told) in
    written_prepares log s a b base start groups name c.args.part maker page false first (λ f k left. g.met.H.Host.only_now c.args.host.now f k told left) (λ f k left. g.met.H.Host.only_now c.create.new.self f k told left)
    (g.met.H.Host.reads_now c.create.new.self told) (g.met.H.Host.reads_now c.write_page.new.self told) (c.requires.absent told) is made wrote tables

pub returns-clause-prepares : goal.returns-clause-prepares
returns-clause-prepares g c = λ told log base start groups maker first is tables.
    let name = c.args.name.now in
    let page = c.args.page.now in
    let s = g.H.Host.state c.args.host.now in
    let a = g.H.Host.state c.create.new.self in
    let b = g.H.Host.state c.write_page.new.self in
    let t = g.H.Host.state c.sync.new.self in
    let made : Creates (file name c.args.part) s a true = subst (λ (f : FileName). Creates f s a true) c.file_of-file.ensures (c.in_ok-create.ensures.created told) in
    let wrote : Writes (file name c.args.part) 0 page a b true = subst (λ (f : FileName). Writes f 0 page a b true) c.file_of-file.ensures (c.in_ok-write_page.ensures.written told) in
    let two = written_prepares log s a b base start groups name c.args.part maker page true first (λ f k left. g.met.H.Host.only_now c.args.host.now f k told left) (λ f k left. g.met.H.Host.only_now c.create.new.self f k told left)
    (g.met.H.Host.reads_now c.create.new.self told) (g.met.H.Host.reads_now c.write_page.new.self told) (c.requires.absent told) is made wrote tables in
    prepares_on log s b t base start groups two (prepares_look log b t base start groups (λ f k left. g.met.H.Host.only_now c.write_page.new.self f k told left) (g.met.H.Host.reads_now c.sync.new.self told) (sync_narrows b t (c.sync.ensures.synced told)) two.tables)

pub returns-clause-files : goal.returns-clause-files
returns-clause-files g c = λ told is. on_ok c.sync.result _ (λ on.
    let name = c.args.name.now in
    let page = c.args.page.now in
    let s = g.H.Host.state c.args.host.now in
    let a = g.H.Host.state c.create.new.self in
    let b = g.H.Host.state c.write_page.new.self in
    let t = g.H.Host.state c.sync.new.self in
    let made : Creates (file name c.args.part) s a true = subst (λ (f : FileName). Creates f s a true) c.file_of-file.ensures (c.in_ok-create.ensures.created told) in
    let wrote : Writes (file name c.args.part) 0 page a b true = subst (λ (f : FileName). Writes f 0 page a b true) c.file_of-file.ensures (c.in_ok-write_page.ensures.written told) in
    let synced : Syncs (file name c.args.part) b t true = subst (λ (k : Bool). Syncs (file name c.args.part) b t k) on (subst (λ (f : FileName). Syncs f b t (is_ok c.sync.result)) c.file_of-file.ensures (c.sync.ensures.synced told)) in
    files_first name page c.args.part a b t (files_made (file name c.args.part) (Some []) s a made is) (empty_there s a name c.args.part made) wrote synced)

pub returns-clause-made : goal.returns-clause-made
returns-clause-made g c = λ told. on_ok c.sync.result _ (λ on.
    let name = c.args.name.now in
    let page = c.args.page.now in
    let s = g.H.Host.state c.args.host.now in
    let a = g.H.Host.state c.create.new.self in
    let b = g.H.Host.state c.write_page.new.self in
    let made : Creates (file name c.args.part) s a true = subst (λ (f : FileName). Creates f s a true) c.file_of-file.ensures (c.in_ok-create.ensures.created told) in
    let wrote : Writes (file name c.args.part) 0 page a b true = subst (λ (f : FileName). Writes f 0 page a b true) c.file_of-file.ensures (c.in_ok-write_page.ensures.written told) in
    ap (λ (f : Folder). f (file name c.args.part)) (c.sync.ensures.synced told).folder ∙ first_there name c.args.part page a.folder b.folder (empty_there s a name c.args.part made) (wrote.whole (cc)))

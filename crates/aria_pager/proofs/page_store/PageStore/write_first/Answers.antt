use Rattle.std.proofs.Common.{◌∙◌, Bool, true, false, [], List, ℕ, is_ok, ap, refl, subst}
use Rattle.std.proofs.lemmas.Result.{err_from_is_err_and}
use Rattle.aria_page.specs.declared.place.Part.TheVariants.{Keys, Rows}
use Rattle.aria_host.specs.Calls.{Writes}
use Rattle.aria_host.specs.declared.file_name.FileName.{FileName}
use Rattle.aria_host.proofs.Answered.{on_ok}
use Rattle.aria_recovery.specs.Tables.{file, made_page}
use Rattle.aria_pager.specs.Filing.{maker_in}
use Rattle.aria_pager.proofs.Filed.{files_on, files_fault}
use Rattle.aria_pager.proofs.Filling.{first_write, making_on, some_is, rows_empty, both_made}
use Rattle.aria_pager.proofs.Spelling.{new_number, new_sums}
use Rattle.aria_pager.proofs.page_store.PageStore.write_first.Goals as goal

pub write_page-requires-clause-there : goal.write_page-requires-clause-there
write_page-requires-clause-there g c = λ told.
    let s = g.H.Host.state c.args.host.now in
    some_is _ [] (ap s.folder c.file_of-keys.ensures ∙ c.requires.empty told Keys s.folder (g.met.H.Host.reads_now c.args.host.now told))

pub returns-in_err-write_page-clause-steps : goal.returns-in_err-write_page-clause-steps
returns-in_err-write_page-clause-steps g c = λ told base start groups is.
    let store = c.args.self.now in
    let name = c.args.name.now in
    let table = c.args.table.now in
    let maker = maker_in table in
    let s = g.H.Host.state c.args.host.now in
    let m = g.H.Host.state c.write_page.new.self in
    let (d, new) = c.requires.table in
    let p = err_from_is_err_and c.from_residual.result c.from_residual.ensures.1 in
    let wrote : Writes (file name Keys) 0 (made_page maker Keys) s m false =
    subst (λ (page : List ℕ). Writes (file name Keys) 0 page s m false) new.keys (subst (λ (f : FileName). Writes f 0 table.keys s m false) c.file_of-keys.ensures (c.in_err-write_page.ensures.written told)) in
    files_fault store s m base start groups false (is_ok c.from_residual.result) (ap is_ok p.1)
    (first_write store s m base start groups name maker is Keys false (λ f b left. g.met.H.Host.only_now c.args.host.now f b told left) (g.met.H.Host.reads_now c.write_page.new.self told)
    (c.requires.empty told Keys) (new_number d table Keys new) (new_sums d table Keys new) wrote)

pub write_page-requires-2-clause-there : goal.write_page-requires-2-clause-there
write_page-requires-2-clause-there g c = λ told.
    let name = c.args.name.now in
    let table = c.args.table.now in
    let s = g.H.Host.state c.args.host.now in
    let m = g.H.Host.state c.write_page.new.self in
    let wrote = subst (λ (f : FileName). Writes f 0 table.keys s m true) c.file_of-keys.ensures (c.in_ok-write_page.ensures.written told) in
    some_is _ [] (ap m.folder c.file_of-rows.ensures ∙ rows_empty name table.keys s m true wrote (c.requires.empty told Rows) m.folder (g.met.H.Host.reads_now c.write_page.new.self told))

pub returns-clause-steps : goal.returns-clause-steps
returns-clause-steps g c = λ told base start groups is.
    let store = c.args.self.now in
    let name = c.args.name.now in
    let table = c.args.table.now in
    let maker = maker_in table in
    let s = g.H.Host.state c.args.host.now in
    let m = g.H.Host.state c.write_page.new.self in
    let t = g.H.Host.state c.write_page-2.new.self in
    let done : Bool = is_ok c.write_page-2.result in
    let (d, new) = c.requires.table in
    let raw = subst (λ (f : FileName). Writes f 0 table.keys s m true) c.file_of-keys.ensures (c.in_ok-write_page.ensures.written told) in
    let one : Writes (file name Keys) 0 (made_page maker Keys) s m true = subst (λ (page : List ℕ). Writes (file name Keys) 0 page s m true) new.keys raw in
    let two : Writes (file name Rows) 0 (made_page maker Rows) m t done =
    subst (λ (page : List ℕ). Writes (file name Rows) 0 page m t done) new.rows (subst (λ (f : FileName). Writes f 0 table.rows m t done) c.file_of-rows.ensures (c.write_page-2.ensures.written told)) in
    let first = first_write store s m base start groups name maker is Keys true (λ f b left. g.met.H.Host.only_now c.args.host.now f b told left) (g.met.H.Host.reads_now c.write_page.new.self told)
    (c.requires.empty told Keys) (new_number d table Keys new) (new_sums d table Keys new) one in
    files_on store s m t base start groups done first
    (first_write store m t base start groups name maker (making_on store s m base start groups name maker is first) Rows done (λ f b left. g.met.H.Host.only_now c.write_page.new.self f b told left) (g.met.H.Host.reads_now c.write_page-2.new.self told)
    (rows_empty name table.keys s m true raw (c.requires.empty told Rows)) (new_number d table Rows new) (new_sums d table Rows new) two)

pub returns-clause-made : goal.returns-clause-made
returns-clause-made g c = λ told. on_ok c.write_page-2.result _ (λ on.
    let name = c.args.name.now in
    let table = c.args.table.now in
    let s = g.H.Host.state c.args.host.now in
    let m = g.H.Host.state c.write_page.new.self in
    let t = g.H.Host.state c.write_page-2.new.self in
    let (d, new) = c.requires.table in
    let one = subst (λ (f : FileName). Writes f 0 table.keys s m true) c.file_of-keys.ensures (c.in_ok-write_page.ensures.written told) in
    let two = subst (λ (f : FileName). Writes f 0 table.rows m t (is_ok c.write_page-2.result)) c.file_of-rows.ensures (c.write_page-2.ensures.written told) in
    both_made name table.keys table.rows (maker_in table) s m t (c.requires.empty told Keys s.folder (g.met.H.Host.reads_now c.args.host.now told))
    (rows_empty name table.keys s m true one (c.requires.empty told Rows) m.folder (g.met.H.Host.reads_now c.write_page.new.self told)) new.keys new.rows (one.whole refl) (two.whole on))

use Rattle.std.proofs.Common.{◌≡◌, ◌∙◌, inl, inr, ap, sym, subst, None}
use Rattle.std.specs.Prelude.{IsSome}
use Rattle.std.proofs.lemmas.Bool.{cases_lt}
use Rattle.aria_host.specs.declared.file_name.FileName.TheVariants.{Log}
use Rattle.aria_host.specs.Folder.{Folder}
use Rattle.aria_host.proofs.Answered.{on_ok, on_ok_of}
use Rattle.aria_log.specs.Pieces.{log_files}
use Rattle.aria_log.proofs.Cutting.{found_none, found_some}
use Rattle.aria_log.proofs.Opening.{all_there, none_there, image_none, some_there}
use Rattle.aria_log.proofs.open.settle.Goals as goal

pub sync_files-requires-clause-there : goal.sync_files-requires-clause-there
sync_files-requires-clause-there g c = λ told f from upto.
    let folder = (g.H.Host.state c.args.host.now).folder in
    let (pages, there, size) = found_some (folder (Log c.args.low)) _ (sym c.in-Some.is ∙ c.in_ok-look.ensures.found told) in
    subst (λ (d : Folder). IsSome (d (Log f))) (sym (c.in_ok-look.ensures.same told).folder)
    (all_there (log_files folder) c.args.low c.args.last (c.requires.last told) c.requires.within (c.requires.stand told) (some_there (folder (Log c.args.low)) pages there) f from upto)

pub returns-in-None-clause-rest : goal.returns-in-None-clause-rest
returns-in-None-clause-rest g c = λ told c' leaves f from form.
    let s0 = g.H.Host.state c.args.host.now in
    let same = c.in_ok-look.ensures.same told in
    let none : s0.folder (Log f) ≡ None = none_there (log_files s0.folder) c.args.low f (c.requires.stand told) (found_none (s0.folder (Log c.args.low)) (sym c.in-None.is ∙ c.in_ok-look.ensures.found told)) from form in
    image_none s0 c' f (c.requires.names told) (same.images.no_more c' leaves) form none ∙ sym none ∙ sym (ap (λ (d : Folder). d (Log f)) same.folder)

pub returns-in-Some-clause-rest : goal.returns-in-Some-clause-rest
returns-in-Some-clause-rest g c = λ told.
    let s0 = g.H.Host.state c.args.host.now in
    let same = c.in_ok-look.ensures.same told in
    let synced = c.sync_files.ensures.same told in
    on_ok c.sync_files.result _ (λ done c' leaves f from form. elim (cases_lt c.args.last f) [
      | inr upto ↦ on_ok_of c.sync_files.result _ (c.sync_files.ensures.rest told) done c' leaves f from upto ∙ sym (ap (λ (d : Folder). d (Log f)) synced.folder)
      | inl over ↦
          let none : s0.folder (Log f) ≡ None = (c.requires.last told).none f over form in
          image_none s0 c' f (c.requires.names told) (same.images.no_more c' (synced.no_more c' leaves)) form none ∙ sym none ∙ sym (ap (λ (d : Folder). d (Log f)) (synced.folder ∙ same.folder))
    ])

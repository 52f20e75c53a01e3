use Rattle.std.proofs.Common.{◌≡◌, ◌∙◌, ◌/◌, ℕ, inr, List, ap, sym, subst}
use Rattle.std.specs.Prelude.{IfOk}
use Rattle.std.proofs.lemmas.Result.{err_from_is_err_and}
use Rattle.aria_page.specs.declared.lsn.Lsn.{Lsn}
use Rattle.aria_host.specs.declared.file_name.FileName.{FileName}
use Rattle.aria_host.specs.Folder.{Folder}
use Rattle.aria_host.specs.Calls.{Lists}
use Rattle.aria_log.specs.Pieces.{log_files}
use Rattle.aria_log.specs.Finding.{start_of, place_of, IsLast, NoneMissing, Finds}
use Rattle.aria_log.proofs.Founds.{answers_of, missing_cause}
use Rattle.aria_log.proofs.find.find_in.Goals as goal

pub returns-in_err-last-clause-cause : goal.returns-in_err-last-clause-cause
returns-in_err-last-clause-cause g c =
    let p = err_from_is_err_and c.from_residual-in_err-last.result c.from_residual-in_err-last.ensures.1 in
    let (f, is) = c.in_err-last.ensures.only in
    missing_cause (g.H.Host.state c.args.host.now) (g.H.Host.state c.names.new.self) _ p.0 f p.1 (p.2 ∙ is) c.in_ok-names.ensures.cause.calm c.in_ok-names.ensures.cause.tell

pub returns-in_default-clause-found : goal.returns-in_default-clause-found
returns-in_default-clause-found g c = λ told.
    let folder = (g.H.Host.state c.args.host.now).folder in
    let lists = subst (λ (l : List FileName). Lists folder l) (sym c.as_slice.ensures) (c.in_ok-names.ensures.names told) in
    inr (
      (c.in_ok-last.ensures.last folder lists).0,
      record {
        none = ap place_of (sym c.start_of-start.ensures.is) ∙ sym c.place_of.ensures.is ∙ c.in_default.is;
        file_is = ap (λ (l : Lsn). l.file) c.start_of-start.ensures.is;
        page_is = ap (λ (l : Lsn). l.offset / 8192) c.start_of-start.ensures.is;
      },
    )

pub find_from-requires-clause-last : goal.find_from-requires-clause-last
find_from-requires-clause-last g c = λ told.
    let folder = (g.H.Host.state c.args.host.now).folder in
    let lists = subst (λ (l : List FileName). Lists folder l) (sym c.as_slice.ensures) (c.in_ok-names.ensures.names told) in
    let low : (start_of c.args.from).file ≡ c.in-Some.base / 8176 / 1024 = sym (c.in-Some.ensures.file ∙ ap (λ (l : Lsn). l.file) c.start_of-start.ensures.is) in
    subst (λ (f : Folder). IsLast (log_files f) (c.in-Some.base / 8176 / 1024) c.in_ok-last.last) (sym (c.in_ok-names.ensures.same told).folder)
    (subst (λ (n : ℕ). IsLast (log_files folder) n c.in_ok-last.last) low (c.in_ok-last.ensures.last folder lists).1)

pub returns-clause-found : goal.returns-clause-found
returns-clause-found g c = λ told.
    let folder = (g.H.Host.state c.args.host.now).folder in
    let lists = subst (λ (l : List FileName). Lists folder l) (sym c.as_slice.ensures) (c.in_ok-names.ensures.names told) in
    let same = (c.in_ok-names.ensures.same told).folder in
    let missing = (c.in_ok-last.ensures.last folder lists).0 in
    answers_of c.args.from (log_files folder) c.find_from.result missing c.find_from.ensures.cause.only
    (subst (λ (f : Folder). IfOk c.find_from.result (λ found. Finds c.args.from (log_files f) found)) same
    (c.find_from.ensures.found told c.args.from (subst (λ (f : Folder). NoneMissing c.args.from (log_files f)) (sym same) missing)
    (ap place_of (sym c.start_of-start.ensures.is) ∙ sym c.place_of.ensures.is ∙ c.in-Some.is)))

use Rattle.std.proofs.Common.{◌≡◌, ◌∙◌, ◌<◌, List, ℕ, ap, sym, subst}
use Rattle.std.specs.Prelude.{IsTrue}
use Rattle.std.proofs.lemmas.Result.{err_from_is_err_and}
use Rattle.aria_page.specs.declared.lsn.Lsn.{Lsn}
use Rattle.aria_page.specs.declared.place.Part.TheVariants.{Keys}
use Rattle.aria_page.specs.Lsn.{lsn_number}
use Rattle.aria_page.specs.Page.{page_body}
use Rattle.aria_host.proofs.Answered.{on_ok, on_ok_of}
use Rattle.aria_host.specs.declared.file_name.FileName.{FileName}
use Rattle.aria_host.specs.Folder.{page_count}
use Rattle.aria_host.specs.Seen.{page_or_zero}
use Rattle.aria_recovery.specs.Redo.{page_number, seen}
use Rattle.aria_recovery.proofs.Seeing.{seen_sound}
use Rattle.aria_pager.proofs.Again.{if_err_more}
use Rattle.aria_pager.specs.Headers.{first_key, seen_at, OfHeader}
use Rattle.aria_pager.proofs.Heading.{early_read, first_raw, first_written, of_file, header_cause, header_disk, header_headed, header_shown, seen_raw}
use Rattle.aria_pager.proofs.page_store.PageStore.check_file.Goals as goal

pub read_or_zero-requires-clause-written : goal.read_or_zero-requires-clause-written
read_or_zero-requires-clause-written g c = λ told.
    let s = g.H.Host.state c.args.host.now in
    let (base, start, groups, forced, is) = c.requires.pager told in
    ap (λ (f : FileName). page_count f s.folder) c.file_of-file.ensures
    ∙ first_written c.args.self.now s base start groups forced (g.met.H.Host.reads_now c.args.host.now told) c.requires.empty is c.args.n c.args.name.now c.requires.named c.in-Some.slot (sym c.in-Some.ensures)

pub returns-in_err-page-clause-cause : goal.returns-in_err-page-clause-cause
returns-in_err-page-clause-cause g c =
    let e = err_from_is_err_and c.from_residual.result c.from_residual.ensures.1 in
    header_disk g.H.Host.tells c.args.self.now c.args.n c.args.name.now (g.H.Host.state c.args.host.now) (g.H.Host.state c.read_or_zero.new.host) _ e.0 c.from_residual.result e.1 e.2 c.requires.named c.in_err-page.ensures.cause

pub returns-clause-cause : goal.returns-clause-cause
returns-clause-cause g c =
    let store = c.args.self.now in
    let s = g.H.Host.state c.args.host.now in
    let t = g.H.Host.state c.read_or_zero.new.host in
    let read : IsTrue g.H.Host.tells → seen_at store s.folder (first_key c.args.n) ≡ seen c.in_ok-page.page = λ told.
    let (base, start, groups, forced, is) = c.requires.pager told in
    seen_raw store s.folder (first_key c.args.n) c.requires.absent
    ∙ first_raw store s base start groups forced (g.met.H.Host.reads_now c.args.host.now told) c.requires.empty is c.args.n c.args.name.now c.requires.named
    ∙ ap seen (sym (c.in_ok-page.ensures.page told ∙ ap (λ (f : FileName). page_or_zero 0 (s.folder f)) c.file_of-file.ensures)) in
    header_cause g.H.Host.tells store c.args.n c.args.name.now s t c.check_first.result c.requires.named c.in_ok-page.ensures.cause.calm c.in_ok-page.ensures.cause.tell
    (if_err_more c.check_first.result _ (OfHeader g.H.Host.tells store c.args.n c.args.name.now s t)
    (λ f why. of_file g.H.Host.tells store c.args.n c.args.name.now s t c.in_ok-page.page c.file_of-file.result c.end.result f c.file_of-file.ensures c.end.ensures.is read why) c.check_first.ensures.cause)

pub returns-clause-header : goal.returns-clause-header
returns-clause-header g c = λ told. on_ok c.check_first.result _ (λ on.
    let store = c.args.self.now in
    let s = g.H.Host.state c.args.host.now in
    let (base, start, groups, forced, is) = c.requires.pager told in
    let now = g.met.H.Host.reads_now c.args.host.now told in
    let page = c.in_ok-page.page in
    let headed = on_ok_of c.check_first.result _ c.check_first.ensures.headed on in
    let read : seen_at store s.folder (first_key c.args.n) ≡ seen page =
    seen_raw store s.folder (first_key c.args.n) c.requires.absent
    ∙ first_raw store s base start groups forced now c.requires.empty is c.args.n c.args.name.now c.requires.named
    ∙ ap seen (sym (c.in_ok-page.ensures.page told ∙ ap (λ (f : FileName). page_or_zero 0 (s.folder f)) c.file_of-file.ensures)) in
    header_shown store s base start groups forced now c.requires.empty is c.args.n c.args.name.now c.requires.named c.requires.tidy (page_number page) (page_body page)
    (read ∙ seen_sound page headed.sound) (on_ok_of c.check_first.result _ c.check_first.ensures.len on) (header_headed _ page headed)
    (early_read store s.folder (first_key c.args.n) (page_number page) (page_body page) c.requires.absent (read ∙ seen_sound page headed.sound) (subst (λ (l : Lsn). page_number page < lsn_number l) c.end.ensures.is headed.below)))

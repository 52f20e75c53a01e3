use Rattle.std.proofs.Common.{◌≡◌, ◌∙◌, ℕ, List, None, true, false, ap, sym, subst}
use Rattle.aria_page.specs.Lsn.{IsBefore, lsn_number}
use Rattle.aria_page.specs.Page.{IsSound, page_body}
use Rattle.aria_host.specs.declared.file_name.FileName.{FileName}
use Rattle.aria_host.specs.Folder.{Folder}
use Rattle.aria_host.specs.Seen.{page_or_zero}
use Rattle.aria_record.specs.Logged.{lsn_at_place}
use Rattle.aria_log.specs.Log.{place}
use Rattle.aria_cache.specs.Key.{key_of}
use Rattle.aria_recovery.specs.Tables.{file}
use Rattle.aria_recovery.proofs.Seeing.{seen_none}
use Rattle.aria_pager.specs.PageStore.{raw}
use Rattle.aria_pager.specs.Steps.{IsRead, IsDamaged, damaged_at}
use Rattle.aria_pager.proofs.Loading.{open_here, raw_here, before_number, behind_number, end_low, read_sound, late_here, damaged_here, damaged_cause, ahead_cause}
use Rattle.aria_pager.proofs.page_store.PageStore.read_frame.Goals as goal

pub returns-then-not-is_sound-clause-cause : goal.returns-then-not-is_sound-clause-cause
returns-then-not-is_sound-clause-cause g c =
    let store = c.args.self.now in
    let s = g.H.Host.state c.args.host.now in
    let t = g.H.Host.state c.read_or_zero.new.host in
    let at = c.args.at in
    let slot = c.in-Some.slot in
    let here = open_here store at slot c.requires.low (sym c.in-Some.ensures) c.requires.open in
    let not : ¬ IsSound c.in_ok-page.page = λ sound. let e : true ≡ false = sym (c.is_sound.ensures.1 sound) ∙ c.if-not-is_sound.true in (cc) in
    damaged_cause g.H.Host.tells store s t at slot c.file-file.result here c.file-file.ensures c.requires.absent
    (λ told.
    let p = c.requires.pager told in
    let none : raw store s.folder (key_of at) ≡ None = raw_here store s.folder at slot c.in_ok-page.page here (c.in_ok-page.ensures.page told ∙ ap (λ (f : FileName). page_or_zero at.page (s.folder f)) c.file-file.ensures) ∙ seen_none c.in_ok-page.page not in
    subst (λ (d : Folder). IsDamaged store d (key_of at) (record { name = slot.name; part = at.part; page = at.page })) (sym (c.in_ok-page.ensures.same told).folder)
    (damaged_here store s p.0 p.1 p.2 p.3 p.4 at slot p.5 here none))
    c.in_ok-page.ensures.cause.calm c.in_ok-page.ensures.cause.tell

pub returns-then-not-is_before-clause-cause : goal.returns-then-not-is_before-clause-cause
returns-then-not-is_before-clause-cause g c =
    let store = c.args.self.now in
    let s = g.H.Host.state c.args.host.now in
    let t = g.H.Host.state c.read_or_zero.new.host in
    let at = c.args.at in
    let slot = c.in-Some.slot in
    let here = open_here store at slot c.requires.low (sym c.in-Some.ensures) c.requires.open in
    let sound : IsSound c.in_ok-page.page = c.is_sound.ensures.0 c.if-not-is_sound.false in
    let not : ¬ IsBefore c.lsn-lsn.result (lsn_at_place (place store.log)) = λ before. let e : true ≡ false = sym (c.is_before.ensures.1 (subst (IsBefore c.lsn-lsn.result) (sym c.end-end.ensures.is) before)) ∙ c.if-not-is_before.true in (cc) in
    ahead_cause g.H.Host.tells store s t (key_of at) c.log_damaged.result (c.log_damaged.ensures ∙ ap damaged_at c.end-end.ensures.is) c.requires.absent
    (λ told. late_here store t.folder at slot c.in_ok-page.page c.lsn-lsn.result here
    (c.in_ok-page.ensures.page told ∙ ap (λ (f : FileName). page_or_zero at.page (s.folder f)) c.file-file.ensures ∙ ap (λ (d : Folder). page_or_zero at.page (d (file slot.name at.part))) (sym (c.in_ok-page.ensures.same told).folder))
    sound c.lsn-lsn.ensures.value (behind_number c.lsn-lsn.result (lsn_at_place (place store.log)) not (end_low (place store.log))))
    c.in_ok-page.ensures.cause.calm c.in_ok-page.ensures.cause.tell

pub returns-clause-read : goal.returns-clause-read
returns-clause-read g c = λ told.
    let store = c.args.self.now in
    let s = g.H.Host.state c.args.host.now in
    let at = c.args.at in
    let slot = c.in-Some.slot in
    let here = open_here store at slot c.requires.low (sym c.in-Some.ensures) c.requires.open in
    let before : IsBefore c.lsn-lsn.result (lsn_at_place (place store.log)) = subst (IsBefore c.lsn-lsn.result) c.end-end.ensures.is (c.is_before.ensures.0 c.if-not-is_before.false) in
    subst (λ (p : List ℕ). IsRead store s (key_of at) (record { lsn = lsn_number c.lsn-lsn.result; body = page_body p; dirty = false })) (sym c.in_ok-held.ensures.ok) (
    read_sound store s at slot c.in_ok-page.page c.lsn-lsn.result here (c.in_ok-page.ensures.page told ∙ ap (λ (f : FileName). page_or_zero at.page (s.folder f)) c.file-file.ensures)
    (c.is_sound.ensures.0 c.if-not-is_sound.false) c.lsn-lsn.ensures.value (before_number c.lsn-lsn.result (lsn_at_place (place store.log)) before c.lsn-lsn.ensures.fits.offset))

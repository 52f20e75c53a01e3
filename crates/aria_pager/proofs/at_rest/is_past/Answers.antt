use Rattle.std.proofs.Common.{◌≡◌, ◌∙◌, true, false, not, ap, sym}
use Rattle.aria_page.specs.Lsn.{IsBefore}
use Rattle.aria_page.specs.Page.{IsSound}
use Rattle.aria_host.specs.declared.file_name.FileName.{FileName}
use Rattle.aria_host.specs.Seen.{page_or_zero}
use Rattle.aria_recovery.specs.Redo.{seen}
use Rattle.aria_recovery.proofs.Seeing.{seen_none}
use Rattle.aria_pager.specs.Steps.{damaged_at}
use Rattle.aria_pager.proofs.Loading.{behind_number}
use Rattle.aria_pager.proofs.Resting.{past_page, late_page, damaged_page, ahead_page}
use Rattle.aria_pager.proofs.at_rest.is_past.Goals as goal

pub returns-then-not-is_sound-clause-cause : goal.returns-then-not-is_sound-clause-cause
returns-then-not-is_sound-clause-cause g c = λ among on.
    let s = g.H.Host.state c.args.host.now in
    let t = g.H.Host.state c.read_or_zero.new.host in
    let unsound : ¬ IsSound c.in_ok-found.found = λ sound. let e : true ≡ false = sym (c.is_sound.ensures.1 sound) ∙ c.if-not-is_sound.true in (cc) in
    damaged_page g.H.Host.tells c.args.end among s t c.in_ok-found.ensures.cause.calm c.in_ok-found.ensures.cause.tell (record { name = c.args.name.now; part = c.args.part; page = c.args.page }) c.file_of-file.result on c.file_of-file.ensures
    (λ told. ap seen (sym (c.in_ok-found.ensures.page told ∙ ap (λ (f : FileName). page_or_zero c.args.page (s.folder f)) c.file_of-file.ensures)) ∙ seen_none c.in_ok-found.found unsound)

pub returns-then-not-is_before-clause-cause : goal.returns-then-not-is_before-clause-cause
returns-then-not-is_before-clause-cause g c = λ among on.
    let s = g.H.Host.state c.args.host.now in
    let t = g.H.Host.state c.read_or_zero.new.host in
    let behind : ¬ IsBefore c.lsn-lsn.result c.args.end = λ before. let e : true ≡ false = sym (c.is_before.ensures.1 before) ∙ c.if-not-is_before.true in (cc) in
    ahead_page g.H.Host.tells c.args.end among s t c.in_ok-found.ensures.cause.calm c.in_ok-found.ensures.cause.tell (record { name = c.args.name.now; part = c.args.part; page = c.args.page }) c.log_damaged.result on
    (c.log_damaged.ensures ∙ ap damaged_at c.bounded.ensures.same)
    (λ told. late_page s.folder c.args.name.now c.args.part c.args.page c.in_ok-found.found c.lsn-lsn.result c.args.end
    (c.in_ok-found.ensures.page told ∙ ap (λ (f : FileName). page_or_zero c.args.page (s.folder f)) c.file_of-file.ensures) (c.is_sound.ensures.0 c.if-not-is_sound.false) c.lsn-lsn.ensures.value
    (behind_number c.lsn-lsn.result c.args.end behind c.bounded.ensures.small))

pub returns-clause-past : goal.returns-clause-past
returns-clause-past g c = λ told.
    let s = g.H.Host.state c.args.host.now in
    ap not c.is_before-2.ensures ∙ past_page s.folder c.args.name.now c.args.part c.args.page c.in_ok-found.found c.lsn-lsn.result c.args.edit
    (c.in_ok-found.ensures.page told ∙ ap (λ (f : FileName). page_or_zero c.args.page (s.folder f)) c.file_of-file.ensures) (c.is_sound.ensures.0 c.if-not-is_sound.false) c.lsn-lsn.ensures.value

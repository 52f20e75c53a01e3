use Rattle.std.proofs.Common.{◌≡◌, ◌∙◌, sym, ap, drop}
use Rattle.aria_host.specs.Folder.{Folder}
use Rattle.aria_journal.specs.Front.{begins_behind, end_of}
use Rattle.aria_journal.specs.Places.{frame_pages_of}
use Rattle.aria_journal.specs.Log.{log_pages, log_of}
use Rattle.aria_journal.proofs.Found.{found_sound, found_damaged}
use Rattle.aria_journal.proofs.scan.open.Goals as goal

pub returns-then-branch-clause-found : goal.returns-then-branch-clause-found
returns-then-branch-clause-found g c = λ told.
    let folder = (g.H.Host.state c.args.host.now).folder in
    let first = (c.in_ok-pages.ensures.same told).folder in
    let second = (c.in_ok-number.ensures.same told).folder in
    let at : c.in_ok-number.number ≡ end_of (log_pages folder) = c.in_ok-number.ensures.end told ∙ ap (λ (f : Folder). end_of (log_pages f)) first in
    let is = c.in_ok-begins_from.ensures.found told ∙ ap (λ (f : Folder). begins_behind c.in_ok-number.number (drop c.in_ok-number.number (log_pages f))) (second ∙ first) in
    found_damaged folder c.in_ok-number.number c.in_ok-begins_from.field-0 at is c.if-branch.true

pub returns-clause-found : goal.returns-clause-found
returns-clause-found g c = λ told.
    let folder = (g.H.Host.state c.args.host.now).folder in
    let first = (c.in_ok-pages.ensures.same told).folder in
    let second = (c.in_ok-number.ensures.same told).folder in
    let at : c.in_ok-number.number ≡ end_of (log_pages folder) = c.in_ok-number.ensures.end told ∙ ap (λ (f : Folder). end_of (log_pages f)) first in
    let is = c.in_ok-begins_from.ensures.found told ∙ ap (λ (f : Folder). begins_behind c.in_ok-number.number (drop c.in_ok-number.number (log_pages f))) (second ∙ first) in (
      found_sound c.at.result folder c.in_ok-number.number c.in_ok-begins_from.field-0 at is c.if-branch.false c.at.ensures,
      c.in_ok-frames.ensures.frames ∙ sym (c.in_ok-number.ensures.frames told) ∙ ap log_of first,
      c.in_ok-frames.ensures.starts ∙ sym (c.in_ok-number.ensures.starts told) ∙ ap (λ (f : Folder). frame_pages_of (log_pages f)) first,
    )

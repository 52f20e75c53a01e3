use Rattle.std.proofs.Common.{◌∙◌, ◌-◌, Some, ap, sym, arith, List, ℕ}
use Rattle.aria_page.specs.Page.{page_body}
use Rattle.aria_keypage.specs.LeafReading.{HasRead}
use Rattle.aria_key.specs.Reading.{keys_file, OfTree}
use Rattle.aria_key.specs.WayUp.{IsPresent}
use Rattle.aria_key.proofs.Going.{asked, has_next}
use Rattle.aria_key.proofs.Reading.{reads_one}
use Rattle.aria_key.proofs.cursor.read_item.Goals as goal

pub returns-in-Ok-Some-clause-next : goal.returns-in-Ok-Some-clause-next
returns-in-Ok-Some-clause-next g c = λ t rest ready.
    let old = g.P.Pages.state c.args.pages.now in
    let new = g.P.Pages.state c.fetch.new.pages in
    let at = c.args.cursor.now in
    let body : List ℕ = page_body c.loaded.result.now in
    let there = c.in_ok-fetch.ensures.loaded t ∙ ap Some (sym c.loaded.ensures.body) in
    let reads = reads_one g.P.Pages.tells 1 (OfTree g.P.Pages.tells g.P.Pages.logged (IsPresent old (keys_file old at.slot) at.page) (keys_file old at.slot) old new) old new c.in_ok-fetch.ensures.loads c.in_ok-fetch.ensures.answers c.in_ok-fetch.ensures.cause in
    let read = asked old at rest body (λ d n. HasRead d n c.in-Ok-Some.target c.read.new.self) ready there (λ d n spells leaf low before. rw c.in-Ok-Some.field-0-is at (c.in-Ok-Some.ensures d n spells leaf low before)) in
    has_next g.P.Pages.tells 1 at rest c.read.new.self c.in-Ok-Some.target (at.left - 1) old new reads t ready (omega (arith, c.requires.some)) read

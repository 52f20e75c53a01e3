use Rattle.std.proofs.Common.{false}
use Rattle.aria_page.specs.Change.{edits_of}
use Rattle.aria_cache.specs.MemPages.{mem_state, bodies_in, counts_in}
use Rattle.aria_cache.proofs.Growing.{stays_edited}
use Rattle.aria_cache.proofs.MemStates.{files_edited, files_same, long_edited}
use Rattle.aria_cache.proofs.mem_pages.MemPagesPages.edit.Goals as goal

pub returns-in-Ok-clause-stands : goal.returns-in-Ok-clause-stands
returns-in-Ok-clause-stands c =
    let old = c.args.self.now in
    let new = c.change.new.self in
    files_edited (counts_in old.keys old.rows) (counts_in new.keys new.rows) (bodies_in old.keys old.rows) (bodies_in new.keys new.rows) _ c.args.at.page (edits_of c.args.edits.now) c.requires.low
    (λ body long. long_edited c.args.edits.now body c.requires.within long) c.requires.stands c.in-Ok.ensures.counts c.in-Ok.ensures.bodies

pub returns-in-Err-clause-stands : goal.returns-in-Err-clause-stands
returns-in-Err-clause-stands c =
    let old = c.args.self.now in
    let new = c.change.new.self in
    files_same (counts_in old.keys old.rows) (counts_in new.keys new.rows) (bodies_in old.keys old.rows) (bodies_in new.keys new.rows) c.requires.stands c.in-Err.ensures.err.counts c.in-Err.ensures.err.bodies

pub returns-in-Ok-clause-edits : goal.returns-in-Ok-clause-edits
returns-in-Ok-clause-edits c = λ told. record { bodies = c.in-Ok.ensures.bodies; late = record { late = λ f n is. is }; records = λ logged. absurd (cc) }

pub returns-in-Ok-clause-inside : goal.returns-in-Ok-clause-inside
returns-in-Ok-clause-inside c = λ told. stays_edited false c.args._why c.args.at.slot c.args.at.part c.args.at.page (edits_of c.args.edits.now) (mem_state c.args.self.now) _ (returns-in-Ok-clause-edits c told)

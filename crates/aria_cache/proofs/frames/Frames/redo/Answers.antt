use Rattle.std.proofs.Common.{ap, ℕ, List, true}
use Rattle.aria_page.specs.Lsn.{lsn_number}
use Rattle.aria_cache.specs.Frames.{shown, redone_held}
use Rattle.aria_cache.proofs.Entries.{changed_front, length-set_front}
use Rattle.aria_cache.proofs.frames.Frames.redo.Goals as goal

pub returns-in-Some-clause-held : goal.returns-in-Some-clause-held
returns-in-Some-clause-held c =
    changed_front shown (redone_held (lsn_number c.args.lsn) c.args.edits.now) c.args.key c.args.self.now.cache.entries c.in-Some.frame.now _ c.len.ensures.valid.0 c.in-Some.ensures.value
    (ap (λ (b : List ℕ). record { lsn = lsn_number c.args.lsn; body = b; dirty = true }) (rw c.deref_mut.ensures.value at c.apply_edits.ensures))

pub returns-in-Some-clause-count : goal.returns-in-Some-clause-count
returns-in-Some-clause-count c = length-set_front shown c.args.key c.args.self.now.cache.entries _

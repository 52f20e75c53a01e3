use Rattle.aria_page.specs.Lsn.{lsn_number}
use Rattle.std.proofs.Common.{refl}
use Rattle.aria_cache.specs.Frames.{shown, stamped}
use Rattle.aria_cache.proofs.Entries.{changed_front, length-set_front}
use Rattle.aria_cache.proofs.frames.Frames.stamp.Goals as goal

pub returns-in-Some-clause-held : goal.returns-in-Some-clause-held
returns-in-Some-clause-held c =
    changed_front shown (stamped (lsn_number c.args.lsn)) c.args.key c.args.self.now.cache.entries c.in-Some.frame.now _ c.len.ensures.valid.0 c.in-Some.ensures.value refl

pub returns-in-Some-clause-count : goal.returns-in-Some-clause-count
returns-in-Some-clause-count c = length-set_front shown c.args.key c.args.self.now.cache.entries _

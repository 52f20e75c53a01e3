use Rattle.aria_record.specs.declared.entries.Entries.{Entries}
use Rattle.aria_record.proofs.InPlaces.{no_content, no_count, group_begins}
use Rattle.aria_record.proofs.entries.Entries.of.Goals as goal

pub returns-in-None : goal.returns-in-None
returns-in-None c = λ group rest e. no_content c.args.bytes.now group rest (rw c.in-None.is at c.counted_u32_at.ensures) e

pub returns-in-None-u8_at : goal.returns-in-None-u8_at
returns-in-None-u8_at c = λ group rest e. no_count c.args.bytes.now group rest _ _ (rw c.in-Some.is at c.counted_u32_at.ensures) (rw c.in-None-u8_at.is at c.u8_at.ensures) e

pub returns-in-Some-u8_at : goal.returns-in-Some-u8_at
returns-in-Some-u8_at c = λ group rest e.
    let entries : Entries = record { left = c.in-Some-u8_at.left; rest = c.in-Some-u8_at.rest } in
    group_begins c.args.bytes.now group rest _ _ entries (rw c.in-Some.is at c.counted_u32_at.ensures) (rw c.in-Some-u8_at.is at c.u8_at.ensures) e

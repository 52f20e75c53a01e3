use Rattle.std.proofs.Common.{refl, map}
use Rattle.aria_journal.specs.declared.opened.Frame.{Frame}
use Rattle.aria_journal.proofs.Collecting.{page_taken, page_unread, page_loose}
use Rattle.aria_journal.proofs.reader.Reader.take.Goals as goal

pub returns-then-not-goes_on-clause-taken : goal.returns-then-not-goes_on-clause-taken
returns-then-not-goes_on-clause-taken c = λ pages. (page_loose c.args.number c.args.self.now.full c.args.page.now pages c.in-Some.begins c.in-Some.bytes.now c.in-Some.ensures.read c.if-not-goes_on.true, refl, refl, refl)

pub returns-in-None-clause-taken : goal.returns-in-None-clause-taken
returns-in-None-clause-taken c = λ pages. (page_unread c.args.number c.args.self.now.full c.args.page.now pages c.in-None.ensures.read, refl, refl, refl)

pub returns-in_ok-put-in-Some-clause-taken : goal.returns-in_ok-put-in-Some-clause-taken
returns-in_ok-put-in-Some-clause-taken c = λ pages.
    page_taken c.args.number c.args.self.now.full c.put.new.self.full c.args.page.now pages c.in-Some.begins c.in-Some.bytes.now c.args.self.now.run c.put.new.self.run c.args.self.now.first c.put.new.self.first
    (map (λ (f : Frame). f.bytes) c.args.self.now.frames) (map (λ (f : Frame). f.bytes) c.put.new.self.frames) (map (λ (f : Frame). f.page) c.args.self.now.frames) (map (λ (f : Frame). f.page) c.put.new.self.frames)
    c.in-Some.ensures.read c.if-not-goes_on.false c.in_ok-put-in-Some.ensures.full c.in_ok-put-in-Some.ensures.frames c.in_ok-put-in-Some.ensures.starts c.in_ok-put-in-Some.ensures.first c.in_ok-put-in-Some.ensures.run

use Rattle.std.proofs.Common.{◌≡◌, ◌∙◌, ◌≤◌, length, map, sym, ap, refl, arith}
use Rattle.aria_host.proofs.Moments.{unchanged_now, unchanged_after}
use Rattle.aria_journal.specs.declared.opened.Frame.{Frame}
use Rattle.aria_journal.specs.Log.{log_pages}
use Rattle.aria_journal.proofs.Opening.{page_next, read_none, read_taken, read_stops, read_past}
use Rattle.aria_journal.proofs.scan.read_front.Goals as goal

pub loop-number-init : goal.loop-number-init
loop-number-init g c = record {
  same = λ told. unchanged_now (g.H.Host.state c.args.host.now);
  read = λ told.
      read_none (log_pages (g.H.Host.state c.args.host.now).folder) _ _ c.args.reader.now.first c.args.reader.now.run c.args.reader.now.full (ap (map (λ (f : Frame). f.bytes)) c.requires.frames) (ap (map (λ (f : Frame). f.page)) c.requires.frames)
      c.requires.first c.requires.run c.requires.full;
  before = omega (arith, c.requires.first, ap length c.requires.run);
  disk = omega arith;
  tell = refl;
}

pub loop-number-preserved : goal.loop-number-preserved
loop-number-preserved g c = record {
  same = λ told. unchanged_after (g.H.Host.state c.args.host.now) (g.H.Host.state c.loop-number.host) (g.H.Host.state c.read_page.new.self) (c.loop-number.invariant.same told) (c.in_ok-read_page.ensures.same told);
  read = λ told.
      let folder = (g.H.Host.state c.args.host.now).folder in
      let next = page_next c.loop-number.number folder (g.H.Host.state c.loop-number.host).folder c.read_page.new.into (c.loop-number.invariant.same told).folder (c.in_ok-read_page.ensures.page told) in
      read_taken (log_pages folder) c.loop-number.number c.loop-number.reader.frames c.take.new.self.frames c.loop-number.reader.first c.take.new.self.first c.loop-number.reader.run c.take.new.self.run c.loop-number.reader.full c.take.new.self.full
      c.read_page.new.into c.in_ok-take.field-0 (c.loop-number.invariant.read told) next (c.in_ok-take.ensures.taken _) c.if-not-branch.false;
  before = c.in_ok-take.ensures.within;
  disk = c.in_ok-read_page.ensures.cause.calm ∙ c.loop-number.invariant.disk;
  tell = c.in_ok-read_page.ensures.cause.tell ∙ c.loop-number.invariant.tell;
}

pub returns-then-not-branch-clause-end : goal.returns-then-not-branch-clause-end
returns-then-not-branch-clause-end g c = λ told.
    let folder = (g.H.Host.state c.args.host.now).folder in
    let next = page_next c.loop-number.number folder (g.H.Host.state c.loop-number.host).folder c.read_page.new.into (c.loop-number.invariant.same told).folder (c.in_ok-read_page.ensures.page told) in
    (read_stops (log_pages folder) c.loop-number.number c.loop-number.reader.frames c.take.new.self.frames c.loop-number.reader.first c.take.new.self.first c.loop-number.reader.run c.take.new.self.run c.loop-number.reader.full c.take.new.self.full
    c.read_page.new.into c.in_ok-take.field-0 (c.loop-number.invariant.read told) next (c.in_ok-take.ensures.taken _) c.if-not-branch.true).end

pub returns-then-not-branch-clause-frames : goal.returns-then-not-branch-clause-frames
returns-then-not-branch-clause-frames g c = λ told.
    let folder = (g.H.Host.state c.args.host.now).folder in
    let next = page_next c.loop-number.number folder (g.H.Host.state c.loop-number.host).folder c.read_page.new.into (c.loop-number.invariant.same told).folder (c.in_ok-read_page.ensures.page told) in
    (read_stops (log_pages folder) c.loop-number.number c.loop-number.reader.frames c.take.new.self.frames c.loop-number.reader.first c.take.new.self.first c.loop-number.reader.run c.take.new.self.run c.loop-number.reader.full c.take.new.self.full
    c.read_page.new.into c.in_ok-take.field-0 (c.loop-number.invariant.read told) next (c.in_ok-take.ensures.taken _) c.if-not-branch.true).frames_are

pub returns-then-not-branch-clause-starts : goal.returns-then-not-branch-clause-starts
returns-then-not-branch-clause-starts g c = λ told.
    let folder = (g.H.Host.state c.args.host.now).folder in
    let next = page_next c.loop-number.number folder (g.H.Host.state c.loop-number.host).folder c.read_page.new.into (c.loop-number.invariant.same told).folder (c.in_ok-read_page.ensures.page told) in
    (read_stops (log_pages folder) c.loop-number.number c.loop-number.reader.frames c.take.new.self.frames c.loop-number.reader.first c.take.new.self.first c.loop-number.reader.run c.take.new.self.run c.loop-number.reader.full c.take.new.self.full
    c.read_page.new.into c.in_ok-take.field-0 (c.loop-number.invariant.read told) next (c.in_ok-take.ensures.taken _) c.if-not-branch.true).starts_are

pub returns-then-not-branch-clause-before : goal.returns-then-not-branch-clause-before
returns-then-not-branch-clause-before g c = omega (arith, c.in_ok-take.ensures.within, c.loop-number-test.true, c.ranges.pages.fits)

pub returns-clause-end : goal.returns-clause-end
returns-clause-end g c = λ told.
    let folder = (g.H.Host.state c.args.host.now).folder in
    let past : length (log_pages folder) ≤ c.loop-number.number = omega (arith, c.requires.pages told, c.loop-number-test.false) in
    let at : c.loop-number.number ≡ c.args.pages = omega (arith, c.loop-number-test.false, c.loop-number.auto) in
    sym at ∙ (read_past (log_pages folder) c.loop-number.number _ _ c.loop-number.reader.first c.loop-number.reader.run c.loop-number.reader.full (c.loop-number.invariant.read told) past).end

pub returns-clause-frames : goal.returns-clause-frames
returns-clause-frames g c = λ told.
    let folder = (g.H.Host.state c.args.host.now).folder in
    let past : length (log_pages folder) ≤ c.loop-number.number = omega (arith, c.requires.pages told, c.loop-number-test.false) in
    (read_past (log_pages folder) c.loop-number.number _ _ c.loop-number.reader.first c.loop-number.reader.run c.loop-number.reader.full (c.loop-number.invariant.read told) past).frames_are

pub returns-clause-starts : goal.returns-clause-starts
returns-clause-starts g c = λ told.
    let folder = (g.H.Host.state c.args.host.now).folder in
    let past : length (log_pages folder) ≤ c.loop-number.number = omega (arith, c.requires.pages told, c.loop-number-test.false) in
    (read_past (log_pages folder) c.loop-number.number _ _ c.loop-number.reader.first c.loop-number.reader.run c.loop-number.reader.full (c.loop-number.invariant.read told) past).starts_are

pub returns-clause-before : goal.returns-clause-before
returns-clause-before g c = omega (arith, c.loop-number.invariant.before, c.loop-number.auto, c.ranges.pages.fits)

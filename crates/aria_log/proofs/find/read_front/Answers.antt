use Rattle.std.proofs.Common.{Option, refl, ◌≡◌, ◌==◌, ◌∙◌, ℕ, ◌+◌, ◌^◌, List, length, ap, sym, subst, arith, take, drop}
use Rattle.aria_log.specs.Pieces.{Piece, LogFiles, log_files, pieces_of}
use Rattle.aria_log.specs.Reading.{IsReader, loaded}
use Rattle.aria_log.specs.Finding.{IsNoted}
use Rattle.aria_log.proofs.Damages.{noted_none}
use Rattle.aria_log.proofs.FrontReads.{IsReadTo, read_none, read_more, read_invalid, read_apart, never_all, loaded_some, loaded_none}
use Rattle.aria_host.proofs.Moments.{unchanged_now, unchanged_after}
use Rattle.aria_log.proofs.Staying.{same_files}
use Rattle.aria_log.proofs.find.read_front.Goals as goal

pub returns-then-not-branch-clause-end : goal.returns-then-not-branch-clause-end
returns-then-not-branch-clause-end g c = λ told.
    let s0 = g.H.Host.state c.args.host.now in
    let same = same_files s0 (g.H.Host.state c.loop-number.host) (c.loop-number.invariant.same told) in
    let found = sym (c.in_ok-load.ensures.loaded told ∙ ap (λ (f : LogFiles). pieces_of f c.loop-number.number) same) in
    read_invalid (log_files s0.folder) c.args.first c.loop-number.number c.loop-number.may (c.loop-number.invariant.read told)
    (found ∙ loaded_none (loaded c.load.new.self.reader) (sym c.in_ok-load.ensures.valid ∙ c.if-not-branch.true))

pub returns-then-not-goes_on-clause-end : goal.returns-then-not-goes_on-clause-end
returns-then-not-goes_on-clause-end g c = λ told.
    let s0 = g.H.Host.state c.args.host.now in
    let same = same_files s0 (g.H.Host.state c.loop-number.host) (c.loop-number.invariant.same told) in
    let found = sym (c.in_ok-load.ensures.loaded told ∙ ap (λ (f : LogFiles). pieces_of f c.loop-number.number) same) in
    read_apart (log_files s0.folder) c.args.first c.loop-number.number c.loop-number.may (c.load.new.self.reader.begins, take c.load.new.self.reader.used (drop 16 c.load.new.self.reader.page)) (c.loop-number.invariant.read told)
    (found ∙ loaded_some c.load.new.self.reader.used c.load.new.self.reader.begins c.load.new.self.reader.page (sym c.in_ok-load.ensures.valid ∙ c.if-not-branch.false))
    (sym c.goes_on.ensures ∙ c.if-not-goes_on.true)

pub loop-number-init : goal.loop-number-init
loop-number-init g c = record {
  same = λ told. unchanged_now (g.H.Host.state c.args.host.now);
  reader = c.requires.reader;
  read = λ told. read_none (log_files (g.H.Host.state c.args.host.now).folder) c.args.first;
  noted = λ told. subst (λ (o : Option ℕ). IsNoted (log_files (g.H.Host.state c.args.host.now).folder) c.args.first c.args.first o) (sym c.requires.long) (noted_none (log_files (g.H.Host.state c.args.host.now).folder) c.args.first);
  disk = refl;
  tell = refl;
}

pub returns-then-not-branch-clause-noted : goal.returns-then-not-branch-clause-noted
returns-then-not-branch-clause-noted g c = λ told.
    let s0 = g.H.Host.state c.args.host.now in
    let same = same_files s0 (g.H.Host.state c.loop-number.host) (c.loop-number.invariant.same told) in
    subst (λ (f : LogFiles). IsNoted f c.args.first (c.loop-number.number + 1) c.load.new.self.long) same
    (c.in_ok-load.ensures.noted told c.args.first c.loop-number.auto.number (subst (λ (f : LogFiles). IsNoted f c.args.first c.loop-number.number c.loop-number.scan.long) (sym same) (c.loop-number.invariant.noted told)))

pub returns-then-not-goes_on-clause-noted : goal.returns-then-not-goes_on-clause-noted
returns-then-not-goes_on-clause-noted g c = λ told.
    let s0 = g.H.Host.state c.args.host.now in
    let same = same_files s0 (g.H.Host.state c.loop-number.host) (c.loop-number.invariant.same told) in
    subst (λ (f : LogFiles). IsNoted f c.args.first (c.loop-number.number + 1) c.load.new.self.long) same
    (c.in_ok-load.ensures.noted told c.args.first c.loop-number.auto.number (subst (λ (f : LogFiles). IsNoted f c.args.first c.loop-number.number c.loop-number.scan.long) (sym same) (c.loop-number.invariant.noted told)))

pub loop-number-preserved : goal.loop-number-preserved
loop-number-preserved g c = record {
  same = λ told. unchanged_after (g.H.Host.state c.args.host.now) (g.H.Host.state c.loop-number.host) (g.H.Host.state c.load.new.host) (c.loop-number.invariant.same told) (c.in_ok-load.ensures.same told);
  reader = λ told. subst (λ (f : LogFiles). IsReader c.load.new.self.reader f) (same_files (g.H.Host.state c.args.host.now) (g.H.Host.state c.loop-number.host) (c.loop-number.invariant.same told)) (c.in_ok-load.ensures.reader told);
  read = λ told.
      let s0 = g.H.Host.state c.args.host.now in
      let same = same_files s0 (g.H.Host.state c.loop-number.host) (c.loop-number.invariant.same told) in
      let found = sym (c.in_ok-load.ensures.loaded told ∙ ap (λ (f : LogFiles). pieces_of f c.loop-number.number) same) in
      let piece : Piece = (c.load.new.self.reader.begins, take c.load.new.self.reader.used (drop 16 c.load.new.self.reader.page)) in
      subst (λ (l : List ℕ). IsReadTo (log_files s0.folder) c.args.first (c.loop-number.number + 1) (length l == 8176)) (sym c.body.ensures.bytes)
      (read_more (log_files s0.folder) c.args.first c.loop-number.number c.loop-number.may piece (c.loop-number.invariant.read told)
      (found ∙ loaded_some c.load.new.self.reader.used c.load.new.self.reader.begins c.load.new.self.reader.page (sym c.in_ok-load.ensures.valid ∙ c.if-not-branch.false)) (sym c.goes_on.ensures ∙ c.if-not-goes_on.false));
  noted = λ told.
      let s0 = g.H.Host.state c.args.host.now in
      let same = same_files s0 (g.H.Host.state c.loop-number.host) (c.loop-number.invariant.same told) in
      subst (λ (f : LogFiles). IsNoted f c.args.first (c.loop-number.number + 1) c.load.new.self.long) same
      (c.in_ok-load.ensures.noted told c.args.first c.loop-number.auto.number (subst (λ (f : LogFiles). IsNoted f c.args.first c.loop-number.number c.loop-number.scan.long) (sym same) (c.loop-number.invariant.noted told)));
  disk = c.in_ok-load.ensures.cause.calm ∙ c.loop-number.invariant.disk;
  tell = c.in_ok-load.ensures.cause.tell ∙ c.loop-number.invariant.tell;
}

pub returns-clause-end : goal.returns-clause-end
returns-clause-end g c = λ told.
    let files = log_files (g.H.Host.state c.args.host.now).folder in
    let at : c.loop-number.number ≡ 2 ^ 34 = omega (arith, c.requires.low, c.loop-number-test.false, c.loop-number.auto) in
    absurd (never_all files c.args.first c.loop-number.number c.loop-number.may c.requires.low at (c.loop-number.invariant.read told))

pub returns-clause-noted : goal.returns-clause-noted
returns-clause-noted g c = λ told.
    let files = log_files (g.H.Host.state c.args.host.now).folder in
    let at : c.loop-number.number ≡ 2 ^ 34 = omega (arith, c.requires.low, c.loop-number-test.false, c.loop-number.auto) in
    absurd (never_all files c.args.first c.loop-number.number c.loop-number.may c.requires.low at (c.loop-number.invariant.read told))

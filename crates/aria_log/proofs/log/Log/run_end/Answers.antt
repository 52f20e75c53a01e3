use Rattle.std.proofs.Common.{◌≡◌, ◌∙◌, ◌+◌, ◌*◌, ◌/◌, ◌%◌, ℕ, length, sym, ap, arith}
use Rattle.aria_log.specs.Pieces.{log_files}
use Rattle.aria_log.specs.Stepping.{shown}
use Rattle.aria_host.proofs.Moments.{unchanged_after}
use Rattle.aria_log.proofs.Looking.{reader_at, left_at}
use Rattle.aria_log.proofs.RunReads.{ends_there, reads_on, page_within}
use Rattle.aria_log.proofs.log.Log.run_end.Goals as goal

pub goes_on-requires-clause-left : goal.goes_on-requires-clause-left
goes_on-requires-clause-left g c = λ told.
    let (rest, is) = c.requires.left told in
    let (last, more, on) = c.loop-reader.invariant.reads told rest is in
    (last, left_at c.args.self.now (g.H.Host.state c.args.host.now) (g.H.Host.state c.loop-reader.host) c.loop-reader.end last (sym (c.loop-reader.invariant.same told).folder) on.left)

pub returns-in_err-goes_on-clause-same : goal.returns-in_err-goes_on-clause-same
returns-in_err-goes_on-clause-same g c = λ told. unchanged_after _ _ _ (c.loop-reader.invariant.same told) (c.in_err-goes_on.ensures.same told)

pub loop-reader-preserved : goal.loop-reader-preserved
loop-reader-preserved g c =
    let goes = c.in_ok-goes_on.ensures.some c.if-branch.true in
    let some = c.bytes_of.ensures.some goes.2 in
    let within = page_within c.args.self.now (c.loop-reader.end / 8176) (length c.bytes_of.result.now) (omega (arith, goes.0, goes.1)) c.bytes_of.ensures.fits c.bytes_of.ensures.last in
    record {
      read = omega (arith, within, goes.0);
      some = omega (arith, c.loop-reader.invariant.some);
      reader = λ told. reader_at c.goes_on.new.reader (g.H.Host.state c.loop-reader.host) (g.H.Host.state c.args.host.now) (c.loop-reader.invariant.same told).folder (c.in_ok-goes_on.ensures.reader told);
      same = λ told. unchanged_after _ _ _ (c.loop-reader.invariant.same told) (c.in_ok-goes_on.ensures.same told);
      reads = λ told rest is.
          let files = log_files (g.H.Host.state c.args.host.now).folder in
          let (last, more, on) = c.loop-reader.invariant.reads told rest is in
          let left = left_at c.args.self.now (g.H.Host.state c.args.host.now) (g.H.Host.state c.loop-reader.host) c.loop-reader.end last (sym (c.loop-reader.invariant.same told).folder) on.left in
          let (next, now) =
          reads_on c.args.self.now files c.args.read c.loop-reader.end rest last more c.bytes_of.result.now _ c.in_ok-goes_on.field-0 on c.if-branch.true (c.in_ok-goes_on.ensures.goes told last left)
          (omega (arith, goes.0)) c.bytes_of.ensures.shown some c.bytes_of.ensures.fits c.bytes_of.ensures.last in
          (next, _, now);
      disk = c.in_ok-goes_on.ensures.cause.calm ∙ c.loop-reader.invariant.disk;
      tell = c.in_ok-goes_on.ensures.cause.tell ∙ c.loop-reader.invariant.tell;
    }

pub returns-clause-end : goal.returns-clause-end
returns-clause-end g c = λ told rest is.
    let (last, more, on) = c.loop-reader.invariant.reads told rest is in
    let left = left_at c.args.self.now (g.H.Host.state c.args.host.now) (g.H.Host.state c.loop-reader.host) c.loop-reader.end last (sym (c.loop-reader.invariant.same told).folder) on.left in
    (last, more, on, ends_there _ last c.in_ok-goes_on.field-0 c.if-branch.false (c.in_ok-goes_on.ensures.goes told last left))

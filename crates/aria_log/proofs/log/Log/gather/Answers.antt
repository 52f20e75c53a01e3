use Rattle.std.proofs.Common.{◌≡◌, ◌∙◌, ◌+◌, ◌*◌, ◌/◌, ◌%◌, ◌++◌, ℕ, List, length, inl, inr, sym, ap, subst, arith, append_assoc, length-append}
use Rattle.aria_log.specs.Pieces.{log_files}
use Rattle.aria_log.specs.Stepping.{are_enough, ReadsOn}
use Rattle.aria_host.proofs.Moments.{unchanged_after}
use Rattle.aria_log.proofs.Looking.{reader_at, left_at}
use Rattle.aria_log.proofs.RunReads.{ends_there, reads_on, page_within}
use Rattle.aria_log.proofs.log.Log.gather.Goals as goal

pub goes_on-requires-clause-left : goal.goes_on-requires-clause-left
goes_on-requires-clause-left g c = λ told.
    let (rest, is) = c.requires.left told in
    let (last, more, e, on) = c.loop-bytes.invariant.gathered told rest is in
    (last, rw c.len.ensures (left_at c.args.self.now (g.H.Host.state c.args.host.now) (g.H.Host.state c.loop-bytes.host) _ last (sym (c.loop-bytes.invariant.same told).folder) on.left))

pub returns-in_err-goes_on-clause-same : goal.returns-in_err-goes_on-clause-same
returns-in_err-goes_on-clause-same g c = λ told. unchanged_after _ _ _ (c.loop-bytes.invariant.same told) (c.in_err-goes_on.ensures.same told)

pub returns-then-not-branch-clause-gathered : goal.returns-then-not-branch-clause-gathered
returns-then-not-branch-clause-gathered g c = λ told rest is.
    let (last, more, e, on) = c.loop-bytes.invariant.gathered told rest is in
    let left = left_at c.args.self.now (g.H.Host.state c.args.host.now) (g.H.Host.state c.loop-bytes.host) (c.args.from + length c.loop-bytes.bytes) last (sym (c.loop-bytes.invariant.same told).folder) on.left in
    (last, more, e, on, inr (ends_there _ last c.in_ok-goes_on.field-0 c.if-not-branch.true (c.in_ok-goes_on.ensures.goes told last (rw c.len.ensures left))))

pub loop-bytes-preserved : goal.loop-bytes-preserved
loop-bytes-preserved g c =
    let goes = c.in_ok-goes_on.ensures.some c.if-not-branch.false in
    let some = c.bytes_of.ensures.some goes.2 in
    let read : ℕ = c.args.from + c.len.result in
    let within = page_within c.args.self.now (read / 8176) (length c.bytes_of.result.now) (omega (arith, goes.0, goes.1)) c.bytes_of.ensures.fits c.bytes_of.ensures.last in
    let size : length c.extend_from_slice.new.self ≡ c.len.result + length c.bytes_of.result.now =
    ap length c.in_ok-extend_from_slice.ensures.ok ∙ length-append c.loop-bytes.bytes c.bytes_of.result.now ∙ ap (λ (k : ℕ). k + length c.bytes_of.result.now) (sym c.len.ensures) in
    record {
      read = omega (arith, within, goes.0, size);
      some = omega (arith, c.loop-bytes.invariant.some, size, c.len.ensures);
      reader = λ told. reader_at c.goes_on.new.reader (g.H.Host.state c.loop-bytes.host) (g.H.Host.state c.args.host.now) (c.loop-bytes.invariant.same told).folder (c.in_ok-goes_on.ensures.reader told);
      same = λ told. unchanged_after _ _ _ (c.loop-bytes.invariant.same told) (c.in_ok-goes_on.ensures.same told);
      gathered = λ told rest is.
          let files = log_files (g.H.Host.state c.args.host.now).folder in
          let start : ℕ = c.args.from + length c.args.bytes.now in
          let (last, more, e, on) = c.loop-bytes.invariant.gathered told rest is in
          let now : ReadsOn c.args.self.now files start read rest last more =
          subst (λ (k : ℕ). ReadsOn c.args.self.now files start (c.args.from + k) rest last more) (sym c.len.ensures) on in
          let left = left_at c.args.self.now (g.H.Host.state c.args.host.now) (g.H.Host.state c.loop-bytes.host) read last (sym (c.loop-bytes.invariant.same told).folder) now.left in
          let (next, after) =
          reads_on c.args.self.now files start read rest last more c.bytes_of.result.now _ c.in_ok-goes_on.field-0 now c.if-not-branch.false (c.in_ok-goes_on.ensures.goes told last left)
          (omega (arith, goes.0)) c.bytes_of.ensures.shown some c.bytes_of.ensures.fits c.bytes_of.ensures.last in (
            next,
            more ++ c.bytes_of.result.now,
            c.in_ok-extend_from_slice.ensures.ok ∙ ap (λ (l : List ℕ). l ++ c.bytes_of.result.now) e ∙ append_assoc c.args.bytes.now more c.bytes_of.result.now,
            subst (λ (k : ℕ). ReadsOn c.args.self.now files start k rest next (more ++ c.bytes_of.result.now))
                (let same : read + length c.bytes_of.result.now ≡ c.args.from + length c.extend_from_slice.new.self = omega (arith, size) in same) after,
          );
      disk = c.in_ok-goes_on.ensures.cause.calm ∙ c.loop-bytes.invariant.disk;
      tell = c.in_ok-goes_on.ensures.cause.tell ∙ c.loop-bytes.invariant.tell;
    }

pub returns-in_err-extend_from_slice-clause-same : goal.returns-in_err-extend_from_slice-clause-same
returns-in_err-extend_from_slice-clause-same g c = λ told. unchanged_after _ _ _ (c.loop-bytes.invariant.same told) (c.in_ok-goes_on.ensures.same told)

pub returns-clause-gathered : goal.returns-clause-gathered
returns-clause-gathered g c = λ told rest is.
    let (last, more, e, on) = c.loop-bytes.invariant.gathered told rest is in
    (last, more, e, on, inl (sym (ap are_enough c.as_slice.ensures) ∙ sym c.are_enough.ensures ∙ c.loop-bytes-test.false))

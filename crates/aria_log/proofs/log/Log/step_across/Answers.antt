use Rattle.std.proofs.Common.{◌≡◌, ◌+◌, ◌++◌, ℕ, List, length, refl, sym, ap, arith, subst}
use Rattle.aria_log.specs.Pieces.{Piece, log_files}
use Rattle.aria_log.specs.Stepping.{IsLeft, ReadsOn}
use Rattle.aria_host.proofs.Moments.{unchanged_after}
use Rattle.aria_log.proofs.Looking.{left_at, reads_at}
use Rattle.aria_log.proofs.Steps.{across, none_on}
use Rattle.aria_log.proofs.log.Log.step_across.Goals as goal

pub returns-in-Some-clause-step : goal.returns-in-Some-clause-step
returns-in-Some-clause-step g c = λ told entries rest is are.
    let files = log_files (g.H.Host.state c.args.host.now).folder in
    let start : ℕ = c.args.at + length c.args.bytes in
    let (last, more, e, on, enough) = c.in_ok-gather.ensures.gathered told rest is in
    let now : ReadsOn c.args.self.now files start (c.args.at + c.len.result) rest last more = subst (λ (k : ℕ). ReadsOn c.args.self.now files start (c.args.at + k) rest last more) (sym c.len.ensures) on in
    let there = across c.args.self.now files c.args.at start (c.args.at + c.len.result) rest last c.args.bytes more c.gather.new.bytes entries refl now e are in
    let (behind, found, size) = rw c.as_slice.ensures at (rw c.in-Some.is at c.in_ok-group.ensures.decodes) in
    c.group_step.ensures.step files entries last c.gather.new.bytes behind there.left there.now_is there.entries_are found size

pub returns-in-Some-clause-group : goal.returns-in-Some-clause-group
returns-in-Some-clause-group g c = c.group_step.ensures.group (rw c.in-Some.is at c.in_ok-group.ensures.group)

pub returns-in_err-end-in-None-clause-same : goal.returns-in_err-end-in-None-clause-same
returns-in_err-end-in-None-clause-same g c = λ told. unchanged_after _ _ _ (c.in_ok-gather.ensures.same told) (c.in_err-end-in-None.ensures.same told)

pub returns-clause-step : goal.returns-clause-step
returns-clause-step g c = λ told entries rest is are.
    let old = g.H.Host.state c.args.host.now in
    let new = g.H.Host.state c.gather.new.host in
    let same = (c.in_ok-gather.ensures.same told).folder in
    let files = log_files old.folder in
    let start : ℕ = c.args.at + length c.args.bytes in
    let read : ℕ = c.args.at + c.len.result in
    let run : List ℕ = c.gather.new.bytes in
    let (last, more, e, on, enough) = c.in_ok-gather.ensures.gathered told rest is in
    let now : ReadsOn c.args.self.now files start read rest last more = subst (λ (k : ℕ). ReadsOn c.args.self.now files start (c.args.at + k) rest last more) (sym c.len.ensures) on in
    let there = across c.args.self.now files c.args.at start read rest last c.args.bytes more run entries refl now e are in
    let none = rw c.as_slice.ensures at (rw c.in-None.is at c.in_ok-group.ensures.decodes) in
    let (end, others, on', ends) = c.in_ok-end-in-None.ensures.end told last (left_at c.args.self.now old new read last (sym same) there.left) in
    let behind = across c.args.self.now files c.args.at read c.in_ok-end-in-None.end last end run others (run ++ others) entries there.now_is
    (reads_at c.args.self.now new old read c.in_ok-end-in-None.end last end others same on') refl there.entries_are in
    c.rest_step.ensures.step files entries end (run ++ others) behind.left ends behind.now_is behind.entries_are (none_on run others last end enough on'.bytes_are none)

pub returns-clause-same : goal.returns-clause-same
returns-clause-same g c = λ told. unchanged_after _ _ _ (c.in_ok-gather.ensures.same told) (c.in_ok-end-in-None.ensures.same told)

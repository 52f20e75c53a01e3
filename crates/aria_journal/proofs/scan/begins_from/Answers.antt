use Rattle.std.proofs.Common.{◌∙◌, ◌≤◌, length, sym, arith}
use Rattle.aria_host.proofs.Moments.{unchanged_after}
use Rattle.aria_journal.specs.Log.{log_pages}
use Rattle.aria_journal.proofs.Opening.{page_next, begun, not_begun, none_begun}
use Rattle.aria_journal.proofs.scan.begins_from.Goals as goal

pub returns-then-begins_run-clause-found : goal.returns-then-begins_run-clause-found
returns-then-begins_run-clause-found g c = λ told.
    let folder = (g.H.Host.state c.args.host.now).folder in
    let next = page_next c.loop-number.number folder (g.H.Host.state c.loop-number.host).folder c.read_page.new.into (c.loop-number.invariant.same told).folder (c.in_ok-read_page.ensures.page told) in
    sym (c.loop-number.invariant.quiet told ∙ begun c.loop-number.number (log_pages folder) c.read_page.new.into c.begins_run.result next c.begins_run.ensures c.if-begins_run.true)

pub loop-number-preserved : goal.loop-number-preserved
loop-number-preserved g c = record {
  same = λ told. unchanged_after (g.H.Host.state c.args.host.now) (g.H.Host.state c.loop-number.host) (g.H.Host.state c.read_page.new.self) (c.loop-number.invariant.same told) (c.in_ok-read_page.ensures.same told);
  quiet = λ told.
      let folder = (g.H.Host.state c.args.host.now).folder in
      let next = page_next c.loop-number.number folder (g.H.Host.state c.loop-number.host).folder c.read_page.new.into (c.loop-number.invariant.same told).folder (c.in_ok-read_page.ensures.page told) in
      c.loop-number.invariant.quiet told ∙ not_begun c.loop-number.number (log_pages folder) c.read_page.new.into c.begins_run.result next c.begins_run.ensures c.if-begins_run.false;
  disk = c.in_ok-read_page.ensures.cause.calm ∙ c.loop-number.invariant.disk;
  tell = c.in_ok-read_page.ensures.cause.tell ∙ c.loop-number.invariant.tell;
}

pub returns-clause-found : goal.returns-clause-found
returns-clause-found g c = λ told.
    let folder = (g.H.Host.state c.args.host.now).folder in
    let past : length (log_pages folder) ≤ c.loop-number.number = omega (arith, c.requires.pages told, c.loop-number-test.false) in
    sym (c.loop-number.invariant.quiet told ∙ none_begun c.loop-number.number (log_pages folder) past)

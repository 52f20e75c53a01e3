use Rattle.std.proofs.Common.{◌≡◌, ◌∙◌, ◌≤◌, ◌<◌, ◌%◌, ℕ, List, refl, arith, is_ok, ap}
use Rattle.std.proofs.lemmas.Result.{err_from_is_err_and}
use Rattle.aria_log.proofs.Zeros.{ahead_none, ahead_more, ahead_failed, file_ahead}
use Rattle.aria_log.proofs.log.Log.write_zeros.Goals as goal

pub loop-page-init : goal.loop-page-init
loop-page-init g c = record {
  from = omega (arith, c.page_of-first.ensures.is);
  ahead = λ told base whole parts is at. ahead_none (g.H.Host.state c.args.host.now) base whole parts (λ f b left. g.met.H.Host.only_now c.args.host.now f b told left) is;
  disk = refl;
  tell = refl;
}

pub write_page-requires-clause-there : goal.write_page-requires-clause-there
write_page-requires-clause-there g c = λ told.
    let (base, whole, parts, is, at) = c.requires.at told in
    file_ahead (g.H.Host.state c.loop-page.host) c.args.self.now.number _ base whole parts at c.file_of.ensures.is (c.loop-page.invariant.ahead told base whole parts is at).writing

pub returns-in_err-write_page-clause-moments : goal.returns-in_err-write_page-clause-moments
returns-in_err-write_page-clause-moments g c = λ told base whole parts is at.
    ahead_failed (g.H.Host.state c.args.host.now) (g.H.Host.state c.loop-page.host) (g.H.Host.state c.write_page.new.self) _ base c.args.self.now.number _ c.loop-page.page whole parts _
    (λ f b left. g.met.H.Host.only_now c.loop-page.host f b told left) at c.file_of.ensures.is c.loop-page.invariant.from
    (omega (arith, c.loop-page-test.true, c.page_of-first.ensures.is, c.requires.inside)) c.zero-zeros.ensures (c.loop-page.invariant.ahead told base whole parts is at) (c.in_err-write_page.ensures.written told)

pub loop-page-preserved : goal.loop-page-preserved
loop-page-preserved g c = record {
  from = omega (arith, c.loop-page.invariant.from);
  ahead = λ told base whole parts is at.
      ahead_more (g.H.Host.state c.args.host.now) (g.H.Host.state c.loop-page.host) (g.H.Host.state c.write_page.new.self) base c.args.self.now.number _ c.loop-page.page whole parts _
      (λ f b left. g.met.H.Host.only_now c.loop-page.host f b told left) at c.file_of.ensures.is c.loop-page.invariant.from
      (omega (arith, c.loop-page-test.true, c.page_of-first.ensures.is, c.requires.inside)) c.zero-zeros.ensures (c.loop-page.invariant.ahead told base whole parts is at) (c.in_ok-write_page.ensures.written told);
  disk = c.in_ok-write_page.ensures.cause.calm ∙ c.loop-page.invariant.disk;
  tell = c.in_ok-write_page.ensures.cause.tell ∙ c.loop-page.invariant.tell;
}

pub returns-clause-ahead : goal.returns-clause-ahead
returns-clause-ahead g c = λ told base whole parts is at. c.loop-page.invariant.ahead told base whole parts is at

pub returns-clause-moments : goal.returns-clause-moments
returns-clause-moments g c = λ told base whole parts is at. (c.loop-page.invariant.ahead told base whole parts is at).keeps

use Rattle.std.proofs.Common.{◌∙◌, ◌/◌, ℕ, IsTrue, false, refl, subst, arith}
use Rattle.std.specs.Prelude.{◌↔◌}
use Rattle.aria_log.specs.Pieces.{log_files}
use Rattle.aria_log.specs.Log.{IsBlankFrom}
use Rattle.aria_host.proofs.Moments.{unchanged_now, unchanged_after}
use Rattle.aria_log.proofs.Blank.{blank_more, not_blank, read_there, read_page}
use Rattle.aria_log.proofs.log.Log.is_blank.Goals as goal

pub loop-at-init : goal.loop-at-init
loop-at-init g c = record {
  from = omega arith;
  same = λ told. unchanged_now (g.H.Host.state c.args.host.now);
  zeros = λ told page from below. absurd (omega (arith, from, below));
  disk = refl;
  tell = refl;
}

pub read_page-requires-clause-there : goal.read_page-requires-clause-there
read_page-requires-clause-there g c = λ told.
    read_there (g.H.Host.state c.args.host.now).folder (g.H.Host.state c.loop-at.host).folder (c.args.self.now.number / 1024) _ c.loop-at.at c.args.extent (c.loop-at.invariant.same told).folder c.file_of.ensures.is
    (c.requires.found told) c.loop-at-test.true

pub returns-then-not-is_zero-clause-blank : goal.returns-then-not-is_zero-clause-blank
returns-then-not-is_zero-clause-blank g c = λ told.
    let old = (g.H.Host.state c.args.host.now).folder in
    let file = c.args.self.now.number / 1024 in
    subst (λ (k : ℕ). IsTrue false ↔ IsBlankFrom k (log_files old file)) c.page_of-first.ensures.is
    (not_blank (log_files old file) c.page_of-first.result c.loop-at.at c.read_page.new.into c.is_zero.result c.loop-at.invariant.from
    (read_page old (g.H.Host.state c.loop-at.host).folder file _ c.loop-at.at c.read_page.new.into (c.loop-at.invariant.same told).folder c.file_of.ensures.is (c.in_ok-read_page.ensures.page told)) c.is_zero.ensures c.if-not-is_zero.true)

pub loop-at-preserved : goal.loop-at-preserved
loop-at-preserved g c = record {
  from = omega (arith, c.loop-at.invariant.from);
  same = λ told. unchanged_after (g.H.Host.state c.args.host.now) (g.H.Host.state c.loop-at.host) (g.H.Host.state c.read_page.new.self) (c.loop-at.invariant.same told) (c.in_ok-read_page.ensures.same told);
  zeros = λ told.
      let old = (g.H.Host.state c.args.host.now).folder in
      let file = c.args.self.now.number / 1024 in
      blank_more (log_files old file) c.page_of-first.result c.loop-at.at (c.loop-at.invariant.zeros told)
      (read_page old (g.H.Host.state c.loop-at.host).folder file _ c.loop-at.at c.read_page.new.into (c.loop-at.invariant.same told).folder c.file_of.ensures.is (c.in_ok-read_page.ensures.page told) ∙ c.is_zero.ensures.0 c.if-not-is_zero.false);
  disk = c.in_ok-read_page.ensures.cause.calm ∙ c.loop-at.invariant.disk;
  tell = c.in_ok-read_page.ensures.cause.tell ∙ c.loop-at.invariant.tell;
}

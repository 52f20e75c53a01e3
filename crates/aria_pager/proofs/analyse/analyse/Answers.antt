use Rattle.std.proofs.Common.{◌∙◌, Option, inl, inr, subst, arith}
use Rattle.std.proofs.lemmas.Bool.{cases_Bool}
use Rattle.aria_page.specs.declared.lsn.Lsn.{Lsn}
use Rattle.aria_host.proofs.Moments.{unchanged_after}
use Rattle.aria_log.specs.Log.{place}
use Rattle.aria_log.specs.Pieces.{log_files}
use Rattle.aria_log.specs.Reading.{next_place}
use Rattle.aria_log.specs.Stepping.{groups_of}
use Rattle.aria_log.proofs.Walking.{stands_same}
use Rattle.aria_pager.specs.Found.{Takes}
use Rattle.aria_pager.proofs.Analysing.{left_stands, analysed_more, analysed_all, analysed_few}
use Rattle.aria_pager.proofs.analyse.analyse.Goals as goal

pub add_step-requires-clause-stands : goal.add_step-requires-clause-stands
add_step-requires-clause-stands g c = λ told.
    let (here, more, stands, at) = c.requires.stands told in
    let s = g.H.Host.state c.args.host.now in
    let m = g.H.Host.state c.loop-nth.host in
    let is = c.loop-nth.invariant.analysed told here more stands at in (
      next_place (place c.args.log.now) is.left,
      is.passed,
      is.left,
      stands_same c.args.log.now s.folder m.folder (next_place (place c.args.log.now) is.left) is.passed is.left (c.loop-nth.invariant.same told).folder
          (left_stands c.args.log.now (log_files s.folder) here more c.args.checkpoint stands c.loop-nth.at c.loop-nth._nth c.loop-nth.analysis is),
      is.walked.at_is,
    )

pub returns-in-None-clause-has : goal.returns-in-None-clause-has
returns-in-None-clause-has g c = λ told here more stands at.
    let s = g.H.Host.state c.args.host.now in
    let m = g.H.Host.state c.loop-nth.host in
    let is = c.loop-nth.invariant.analysed told here more stands at in
    let place' = next_place (place c.args.log.now) is.left in
    analysed_all c.args.log.now (log_files s.folder) here more c.args.checkpoint stands c.loop-nth.at c.loop-nth._nth c.loop-nth.analysis is c.add_step.new.analysis
    (subst (λ (o : Option Lsn). Takes (place c.args.log.now) is.left o c.args.checkpoint (groups_of is.passed) c.add_step.new.analysis) c.in-None.is
    (c.in_ok-add_step.ensures.takes told place' is.passed is.left c.args.checkpoint (groups_of is.passed)
    (stands_same c.args.log.now s.folder m.folder place' is.passed is.left (c.loop-nth.invariant.same told).folder
    (left_stands c.args.log.now (log_files s.folder) here more c.args.checkpoint stands c.loop-nth.at c.loop-nth._nth c.loop-nth.analysis is))
    is.walked.at_is is.has))

pub loop-nth-preserved : goal.loop-nth-preserved
loop-nth-preserved g c = record {
  analysed = λ told here more stands at.
      let s = g.H.Host.state c.args.host.now in
      let m = g.H.Host.state c.loop-nth.host in
      let is = c.loop-nth.invariant.analysed told here more stands at in
      let place' = next_place (place c.args.log.now) is.left in
      analysed_more c.args.log.now (log_files s.folder) here more c.args.checkpoint stands c.loop-nth.at c.loop-nth._nth c.loop-nth.analysis is c.in-Some.after c.add_step.new.analysis
      (subst (λ (o : Option Lsn). Takes (place c.args.log.now) is.left o c.args.checkpoint (groups_of is.passed) c.add_step.new.analysis) c.in-Some.is
      (c.in_ok-add_step.ensures.takes told place' is.passed is.left c.args.checkpoint (groups_of is.passed)
      (stands_same c.args.log.now s.folder m.folder place' is.passed is.left (c.loop-nth.invariant.same told).folder
      (left_stands c.args.log.now (log_files s.folder) here more c.args.checkpoint stands c.loop-nth.at c.loop-nth._nth c.loop-nth.analysis is))
      is.walked.at_is is.has));
  reader = c.in_ok-add_step.ensures.reader;
  same = λ told. unchanged_after (g.H.Host.state c.args.host.now) (g.H.Host.state c.loop-nth.host) (g.H.Host.state c.add_step.new.host) (c.loop-nth.invariant.same told) (c.in_ok-add_step.ensures.same told);
  disk = c.in_ok-add_step.ensures.cause.calm ∙ c.loop-nth.invariant.disk;
  tell = c.in_ok-add_step.ensures.cause.tell ∙ c.loop-nth.invariant.tell;
}

pub returns-clause-cause : goal.returns-clause-cause
returns-clause-cause g c = record {
  only = elim (cases_Bool g.H.Host.tells) [
    | inl told ↦
        let (here, more, stands, at) = c.requires.stands told in
        let is = c.loop-nth.invariant.analysed told here more stands at in
        let few = analysed_few c.args.log.now (log_files (g.H.Host.state c.args.host.now).folder) here more c.args.checkpoint stands c.loop-nth.at c.loop-nth._nth c.loop-nth.analysis is in
        absurd (omega (arith, c.loop-nth-test.false, few))
    | inr untold ↦ untold
  ];
  counted = λ no'. absurd (cc);
  calm = tt;
  later = omega (arith, c.loop-nth.invariant.disk);
  tell = c.loop-nth.invariant.tell;
}

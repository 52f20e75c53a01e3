use Rattle.std.proofs.Common.{◌∙◌, Option, refl, subst, inl, inr, arith}
use Rattle.std.proofs.lemmas.Bool.{cases_Bool}
use Rattle.aria_page.specs.declared.lsn.Lsn.{Lsn}
use Rattle.aria_log.specs.Log.{place}
use Rattle.aria_log.specs.Pieces.{log_files}
use Rattle.aria_log.specs.Reading.{next_place}
use Rattle.aria_readlog.specs.Listing.{Steps}
use Rattle.aria_readlog.proofs.Listed.{listed_none, left_stands, listed_more, listed_all, listed_few, part_more}
use Rattle.aria_readlog.proofs.Telling.{on_err}
use Rattle.aria_readlog.proofs.listing.Listing.read.Goals as goal

pub loop-nth-init : goal.loop-nth-init
loop-nth-init g c = record {
  room = omega arith;
  reader = c.requires.reader;
  listed = λ told here more stands at.
      listed_none c.args.log.now (log_files (g.H.Host.state c.args.host.now).folder) here c.args.from more c.args.self.now (g.H.Host.state c.args.host.now)
      (λ f b left. g.met.H.Host.only_now c.args.host.now f b told left) stands at;
  disk = refl;
  tell = refl;
}

pub step-requires-clause-stands : goal.step-requires-clause-stands
step-requires-clause-stands g c = λ told.
    let (here, more, stands, at) = c.requires.stands told in
    let listed = c.loop-nth.invariant.listed told here more stands at in (
      next_place (place c.args.log.now) listed.left,
      listed.before,
      listed.left,
      left_stands c.args.log.now here c.loop-nth.at c.loop-nth._nth more c.args.self.now c.loop-nth.self (g.H.Host.state c.args.host.now) (g.H.Host.state c.loop-nth.host) stands listed,
      listed.walked.at_is,
    )

pub returns-in_err-step-clause-part : goal.returns-in_err-step-clause-part
returns-in_err-step-clause-part g c = λ told here more stands at.
    let listed = c.loop-nth.invariant.listed told here more stands at in
    on_err c.from_residual.result
    (part_more listed.before listed.left more c.args.self.now c.loop-nth.self (g.H.Host.state c.args.host.now) (g.H.Host.state c.loop-nth.host) (g.H.Host.state c.step.new.host)
    listed.walked.whole listed.adds
    (c.in_err-step.ensures.part told (next_place (place c.args.log.now) listed.left) listed.before listed.left
    (left_stands c.args.log.now here c.loop-nth.at c.loop-nth._nth more c.args.self.now c.loop-nth.self (g.H.Host.state c.args.host.now) (g.H.Host.state c.loop-nth.host) stands listed)
    listed.walked.at_is))

pub returns-in-None-clause-adds : goal.returns-in-None-clause-adds
returns-in-None-clause-adds g c = λ told here more stands at.
    let listed = c.loop-nth.invariant.listed told here more stands at in
    listed_all c.args.log.now c.loop-nth.at c.loop-nth._nth more c.args.self.now c.loop-nth.self c.step.new.self
    (g.H.Host.state c.args.host.now) (g.H.Host.state c.loop-nth.host) (g.H.Host.state c.step.new.host) listed
    (subst (λ (o : Option Lsn). Steps (place c.args.log.now) listed.left o c.loop-nth.self c.step.new.self (g.H.Host.state c.loop-nth.host) (g.H.Host.state c.step.new.host)) c.in-None.is
    (c.in_ok-step.ensures.steps told (next_place (place c.args.log.now) listed.left) listed.before listed.left
    (left_stands c.args.log.now here c.loop-nth.at c.loop-nth._nth more c.args.self.now c.loop-nth.self (g.H.Host.state c.args.host.now) (g.H.Host.state c.loop-nth.host) stands listed)
    listed.walked.at_is))

pub loop-nth-preserved : goal.loop-nth-preserved
loop-nth-preserved g c = record {
  room = omega (arith, c.loop-nth.invariant.room, c.in_ok-step.ensures.room);
  reader = c.in_ok-step.ensures.reader;
  listed = λ told here more stands at.
      let listed = c.loop-nth.invariant.listed told here more stands at in
      listed_more c.args.log.now c.loop-nth.at c.in-Some.after c.loop-nth._nth more c.args.self.now c.loop-nth.self c.step.new.self
      (g.H.Host.state c.args.host.now) (g.H.Host.state c.loop-nth.host) (g.H.Host.state c.step.new.host) listed
      (subst (λ (o : Option Lsn). Steps (place c.args.log.now) listed.left o c.loop-nth.self c.step.new.self (g.H.Host.state c.loop-nth.host) (g.H.Host.state c.step.new.host)) c.in-Some.is
      (c.in_ok-step.ensures.steps told (next_place (place c.args.log.now) listed.left) listed.before listed.left
      (left_stands c.args.log.now here c.loop-nth.at c.loop-nth._nth more c.args.self.now c.loop-nth.self (g.H.Host.state c.args.host.now) (g.H.Host.state c.loop-nth.host) stands listed)
      listed.walked.at_is));
  disk = c.in_ok-step.ensures.cause.calm ∙ c.loop-nth.invariant.disk;
  tell = c.in_ok-step.ensures.cause.calm_too ∙ c.loop-nth.invariant.tell;
}

pub returns-clause-part : goal.returns-clause-part
returns-clause-part g c = λ told here more stands at.
    let listed = c.loop-nth.invariant.listed told here more stands at in
    absurd (omega (
      arith,
      c.loop-nth-test.false,
      listed_few c.args.log.now (log_files (g.H.Host.state c.args.host.now).folder) here c.loop-nth.at c.loop-nth._nth more c.args.self.now c.loop-nth.self
          (g.H.Host.state c.args.host.now) (g.H.Host.state c.loop-nth.host) stands listed,
    ))

pub returns-clause-cause : goal.returns-clause-cause
returns-clause-cause g c = record {
  only = elim (cases_Bool g.H.Host.tells) [
    | inl told ↦
        let (here, more, stands, at) = c.requires.stands told in
        let listed = c.loop-nth.invariant.listed told here more stands at in
        absurd (omega (
          arith,
          c.loop-nth-test.false,
          listed_few c.args.log.now (log_files (g.H.Host.state c.args.host.now).folder) here c.loop-nth.at c.loop-nth._nth more c.args.self.now c.loop-nth.self
              (g.H.Host.state c.args.host.now) (g.H.Host.state c.loop-nth.host) stands listed,
        ))
    | inr untold ↦ untold
  ];
  disk = λ no. absurd (cc);
  tell = λ no. absurd (cc);
  calm = tt;
  calm_too = tt;
  later = omega (arith, c.loop-nth.invariant.disk);
  later_too = omega (arith, c.loop-nth.invariant.tell);
}

use Rattle.std.proofs.Common.{◌≡◌, ◌+◌, None, sym, arith, subst}
use Rattle.aria_host.specs.declared.file_name.FileName.{FileName}
use Rattle.aria_cache.specs.PageState.{PageState}
use Rattle.aria_cache.specs.Calls.{StaysIn}
use Rattle.aria_cache.specs.Causes.{HasPagesCause}
use Rattle.aria_cache.proofs.Growing.{stays_on, grows_on}
use Rattle.aria_block.specs.Causes.{rows_file, OfFile, KeepsSound}
use Rattle.aria_block.specs.DataFile.{HoldsData}
use Rattle.aria_block.proofs.Causing.{keeps_on, cause_then}
use Rattle.aria_block.proofs.Stepping.{same_rows, slots_on, log_on, answers_on}
use Rattle.aria_block.proofs.lengthening.add_run.Goals as goal

pub loop-at-init : goal.loop-at-init
loop-at-init g c =
    let first = c.in_ok-add_one.ensures in
    record {
      stands = first.stands;
      moves = first.moves;
      slots = first.slots;
      log = first.log;
      in_group = first.in_group;
      touched = omega (arith, first.spends.touched);
      made = omega (arith, first.spends.made);
      bytes = omega (arith, first.spends.bytes);
      low = omega (arith, c.run_start-first.ensures.behind, c.requires.some);
      from = omega arith;
      count = first.count;
      holds = first.holds;
      inside = first.inside;
      grows = first.grows;
      keeps = first.keeps;
      answers = first.answers;
      cause = first.cause;
    }

pub loop-at-preserved : goal.loop-at-preserved
loop-at-preserved g c =
    let old : PageState = g.P.Pages.state c.args.pages.now in
    let now : PageState = g.P.Pages.state c.loop-at.pages in
    let new : PageState = g.P.Pages.state c.add_one-in-loop-at.new.pages in
    let file : FileName = rows_file old c.args.slot in
    let was = c.loop-at.invariant in
    let next = c.in_ok-add_one-2.ensures in
    let same : rows_file now c.args.slot ≡ file = same_rows c.args.slot old now was.slots in
    record {
      stands = next.stands;
      moves = g.met.P.Pages.stays_on c.args.pages.now c.loop-at.pages c.add_one-in-loop-at.new.pages was.moves next.moves;
      slots = slots_on old now new was.slots next.slots;
      log = log_on old now new was.log next.log;
      in_group = next.in_group;
      touched = omega (arith, was.touched, next.spends.touched);
      made = omega (arith, was.made, next.spends.made);
      bytes = omega (arith, was.bytes, next.spends.bytes);
      low = omega (arith, c.loop-at-test.true);
      from = omega (arith, was.from);
      count = subst (λ (f : FileName). new.counts f ≡ c.loop-at.at + 1) same next.count;
      holds = λ told pieces holds. subst (λ (f : FileName). HoldsData (new.counts f) (new.bodies f) pieces) same
          (next.holds told pieces (subst (λ (f : FileName). HoldsData (now.counts f) (now.bodies f) pieces) (sym same) (was.holds told pieces holds)));
      inside = λ told. stays_on g.P.Pages.logged file old now new (was.inside told) (subst (λ (f : FileName). StaysIn g.P.Pages.logged f now new) same (next.inside told));
      grows = grows_on old now new was.grows next.grows;
      keeps = keeps_on g.P.Pages.tells file old now new was.keeps (subst (λ (f : FileName). KeepsSound g.P.Pages.tells f now new) same next.keeps);
      answers = answers_on old now new None was.answers next.answers;
      cause = cause_then g.P.Pages.tells g.P.Pages.logged file old now new None was.keeps was.cause was.answers.keeps
          (subst (λ (f : FileName). HasPagesCause (OfFile g.P.Pages.tells g.P.Pages.logged f now new) now new None) same next.cause);
    }

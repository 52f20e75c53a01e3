use Rattle.std.proofs.Common.{◌≡◌, ◌++◌, ◌&&◌, not, cond, [], List, subst}
use Rattle.std.specs.String.{string_bytes}
use Rattle.aria_record.specs.declared.record.Record.{Record}
use Rattle.aria_log.specs.declared.step.Step.{Step}
use Rattle.aria_log.specs.Reading.{Whole}
use Rattle.aria_log.specs.Stepping.{IsStep}
use Rattle.aria_readlog.specs.Choice.{found_lines, is_within}
use Rattle.aria_readlog.proofs.Listed.{takes_end, takes_group, takes_rest}
use Rattle.aria_readlog.proofs.listing.Listing.take.Goals as goal

pub returns-in-End-clause-takes : goal.returns-in-End-clause-takes
returns-in-End-clause-takes c = λ end more step. takes_end c.args.self.now end more (subst (λ (s : Step). IsStep end more s) c.in-End.is step)

pub returns-in_ok-add_group-in-Group-clause-takes :
    goal.returns-in_ok-add_group-in-Group-clause-takes
returns-in_ok-add_group-in-Group-clause-takes c = λ end more step.
    let old = c.args.self.now in
    let at = c.in-Group.at in
    let adds = c.in_ok-add_group-in-Group.ensures in
    takes_group old c.add_group.new.self end more at c.in-Group.after c.in-Group.group (subst (λ (s : Step). IsStep end more s) c.in-Group.is step)
    (subst (λ (group : List Record). string_bytes c.add_group.new.self.text ≡ string_bytes old.text ++ cond (is_within old.choice at && not old.choice.silent) (found_lines at (Whole group)) [])
    c.as_slice.ensures adds.text)
    adds.groups adds.rests adds.choice

pub returns-in_ok-add_rest-in-Rest-clause-takes : goal.returns-in_ok-add_rest-in-Rest-clause-takes
returns-in_ok-add_rest-in-Rest-clause-takes c = λ end more step.
    let adds = c.in_ok-add_rest-in-Rest.ensures in
    takes_rest c.args.self.now c.add_rest.new.self end more c.in-Rest.at c.in-Rest.after c.in-Rest.bytes (subst (λ (s : Step). IsStep end more s) c.in-Rest.is step)
    adds.text adds.rests adds.groups adds.choice

use Rattle.std.proofs.Common.{◌∙◌, ◌∷◌, [], ◌++◌, ap, subst, List}
use Rattle.aria_record.specs.declared.record.Record.{Record}
use Rattle.aria_recovery.specs.Noted.{HasLives}
use Rattle.aria_recovery.specs.Pending.{link_of}
use Rattle.aria_recovery.proofs.Noting.{when_ok}
use Rattle.aria_recovery.proofs.analysis.Analysis.add.Goals as goal

pub returns : goal.returns
returns c checkpoint gs place has at_is =
    when_ok c.add_group.result (c.add_group.ensures gs place has.lives at_is) (λ lives. record {
      chain = c.in_ok-add.ensures checkpoint gs place c.args.group.now has.chain at_is (c.link_of.ensures ∙ ap link_of c.as_slice-records.ensures);
      lives = subst (λ (rs : List Record). HasLives c.add_group.new.lives (gs ++ record { at = place; group = rs } ∷ [])) c.as_slice-records.ensures lives;
    })

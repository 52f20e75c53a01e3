use Rattle.std.proofs.Common.{◌∙◌, None, Some, sym}
use Rattle.std.proofs.lemmas.Result.{on_ok_weaker}
use Rattle.aria_recovery.specs.Tables.{life_of}
use Rattle.aria_pager.proofs.Preparing.{prepares_none}
use Rattle.aria_pager.proofs.SettlingNames.{told_nothing, told_dropped, told_made, settled_as, walk_disk, walk_group}
use Rattle.aria_pager.proofs.settle_names.settle_name.Goals as goal

pub make_table-requires : goal.make_table-requires
make_table-requires g c = record {
  there = λ told.
      let p = c.requires.tables told in
      let m = told_made (life_of c.args.name.now p.2).last c.in-Made.at (sym c.in-Made.is ∙ p.3) in
      (p.0, p.2, m.0, p.4.log, m.1, m.2);
}

pub returns-in-Nothing-clause-prepares : goal.returns-in-Nothing-clause-prepares
returns-in-Nothing-clause-prepares g c = λ told base start groups told_is is files. prepares_none c.args.log.now (g.H.Host.state c.args.host.now) base start groups (λ f b left. g.met.H.Host.only_now c.args.host.now f b told left) is

pub returns-in-Nothing-clause-settled : goal.returns-in-Nothing-clause-settled
returns-in-Nothing-clause-settled g c = λ told base start groups told_is is.
    settled_as c.args.name.now groups (g.H.Host.state c.args.host.now).folder None (told_nothing (life_of c.args.name.now groups).last (sym c.in-Nothing.is ∙ told_is)) (λ part. tt)

pub returns-in-Dropped-clause-prepares : goal.returns-in-Dropped-clause-prepares
returns-in-Dropped-clause-prepares g c = λ told base start groups told_is is files.
    c.remove_both.ensures.prepares told c.args.log.now base start groups (told_dropped (life_of c.args.name.now groups).last (sym c.in-Dropped.is ∙ told_is)) is

pub returns-in-Dropped-clause-settled : goal.returns-in-Dropped-clause-settled
returns-in-Dropped-clause-settled g c = λ told base start groups told_is is.
    on_ok_weaker c.remove_both.result (λ gone. settled_as c.args.name.now groups (g.H.Host.state c.remove_both.new.host).folder (Some None) (told_dropped (life_of c.args.name.now groups).last (sym c.in-Dropped.is ∙ told_is)) gone) (c.remove_both.ensures.gone told)

pub returns-in-Made-clause-prepares : goal.returns-in-Made-clause-prepares
returns-in-Made-clause-prepares g c = λ told base start groups told_is is files.
    let m = told_made (life_of c.args.name.now groups).last c.in-Made.at (sym c.in-Made.is ∙ told_is) in
    c.make_table.ensures.prepares told base start groups m.0 m.1 m.2 is files

pub returns-in-Made-clause-settled : goal.returns-in-Made-clause-settled
returns-in-Made-clause-settled g c = λ told base start groups told_is is.
    let m = told_made (life_of c.args.name.now groups).last c.in-Made.at (sym c.in-Made.is ∙ told_is) in
    on_ok_weaker c.make_table.result (λ from. settled_as c.args.name.now groups (g.H.Host.state c.make_table.new.host).folder (Some (Some m.0)) m.1 from) (c.make_table.ensures.settled told base groups m.0 m.1 m.2 is.log)

pub returns-in-Dropped-clause-cause : goal.returns-in-Dropped-clause-cause
returns-in-Dropped-clause-cause g c = walk_disk g.H.Host.tells (g.H.Host.state c.args.host.now) (g.H.Host.state c.remove_both.new.host) c.remove_both.result c.remove_both.ensures.cause

pub returns-in-Made-clause-cause : goal.returns-in-Made-clause-cause
returns-in-Made-clause-cause g c = walk_group g.H.Host.tells (g.H.Host.state c.args.host.now) (g.H.Host.state c.make_table.new.host) c.make_table.result c.make_table.ensures.cause

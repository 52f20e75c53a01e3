use Rattle.std.proofs.Common.{◌≡◌, true, List, Some, length, sym, subst}
use Rattle.aria_record.specs.declared.record.Record.{Record}
use Rattle.aria_recovery.specs.Tables.{says_group}
use Rattle.aria_pager.specs.Prepared.{AreMade}
use Rattle.aria_pager.proofs.Makers.{made_by, firsts, unmade_cause}
use Rattle.aria_pager.proofs.maker.made_pages.Goals as goal

pub group_in-requires : goal.group_in-requires
group_in-requires g c = record {
  there = λ told.
      let p = c.requires.there told in
      let by = made_by c.args.name.now p.1 c.args.at p.2 p.4 p.5 in
      (true, p.0, p.1, length p.1, by.group, p.3, by.there);
}

pub returns-in-None-clause-cause : goal.returns-in-None-clause-cause
returns-in-None-clause-cause g c = unmade_cause g.H.Host.tells (g.H.Host.state c.args.host.now) (g.H.Host.state c.group_in.new.host) c.args.at c.log_damaged.result c.log_damaged.ensures (λ told.
    let p = c.requires.there told in
    let by = made_by c.args.name.now p.1 c.args.at p.2 p.4 p.5 in
    let read = c.in_ok-group.ensures.group told true p.0 p.1 (length p.1) by.group p.3 by.there in
    let is = c.in_ok-pages_in.ensures p.2 (subst (λ (l : List Record). says_group c.args.name.now c.args.at l ≡ Some (Some p.2)) (sym read) by.says_it) in
    subst (AreMade p.2) c.in-None.is is) c.in_ok-group.ensures.cause.later c.in_ok-group.ensures.cause.tell

pub returns-clause-pages : goal.returns-clause-pages
returns-clause-pages g c = λ told base groups maker log last at_is.
    let by = made_by c.args.name.now groups c.args.at maker last at_is in
    let read = c.in_ok-group.ensures.group told true base groups (length groups) by.group log by.there in
    let is = c.in_ok-pages_in.ensures maker (subst (λ (l : List Record). says_group c.args.name.now c.args.at l ≡ Some (Some maker)) (sym read) by.says_it) in
    firsts c.args.log.now (g.H.Host.state c.args.host.now) base groups c.args.name.now maker c.in-Some.pages log last (subst (AreMade maker) c.in-Some.is is)

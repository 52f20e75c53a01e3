use Rattle.std.proofs.Common.{◌/◌, refl, arith}
use Rattle.aria_log.specs.Log.{HoldsAll}
use Rattle.aria_host.proofs.Moments.{one_after}
use Rattle.aria_log.proofs.Cutting.{started_log}
use Rattle.aria_log.proofs.Blank.{keeps_room}
use Rattle.aria_log.proofs.log.Log.start.Goals as goal

pub returns-in_err-remove_later-clause-moments : goal.returns-in_err-remove_later-clause-moments
returns-in_err-remove_later-clause-moments g c = λ told base groups is. (c.in_err-remove_later.ensures.starts told base groups is).keeps

pub end_file-requires : goal.end_file-requires
end_file-requires g c = record {
  opened = λ told.
      let (base, groups, is) = c.requires told in
      (base, groups, (c.in_ok-remove_later.ensures.starts told base groups is).opened refl);
}

pub returns-in_err-pages-clause-moments : goal.returns-in_err-pages-clause-moments
returns-in_err-pages-clause-moments g c = λ told base groups is.
    let removed = c.in_ok-remove_later.ensures.starts told base groups is in
    one_after (g.H.Host.state c.args.host.now) (g.H.Host.state c.remove_later.new.host) (g.H.Host.state c.end_file.new.host) removed.keeps
    (c.in_err-pages.ensures.moments told base groups (removed.opened refl))

pub returns-clause-started : goal.returns-clause-started
returns-clause-started g c = λ told base groups is.
    let removed = c.in_ok-remove_later.ensures.starts told base groups is in
    let ended = c.in_ok-pages.ensures.ended told base groups (removed.opened refl) in
    started_log c.args.self.now _ (g.H.Host.state c.end_file.new.host) base groups _ ended.opened ended.ends refl refl refl refl c.is_some-self.ensures

pub returns-clause-room : goal.returns-clause-room
returns-clause-room g c = λ told base groups is.
    let removed = c.in_ok-remove_later.ensures.starts told base groups is in
    keeps_room c.args.self.now _ (g.H.Host.state c.args.host.now) (g.H.Host.state c.remove_later.new.host) (g.H.Host.state c.end_file.new.host) base groups _ (removed.same refl (c.args.self.now.number / 1024) (omega arith))
    (c.in_ok-pages.ensures.ended told base groups (removed.opened refl)) c.made_with-self.ensures

pub returns-clause-moments : goal.returns-clause-moments
returns-clause-moments g c = λ told base groups is.
    let removed = c.in_ok-remove_later.ensures.starts told base groups is in
    one_after (g.H.Host.state c.args.host.now) (g.H.Host.state c.remove_later.new.host) (g.H.Host.state c.end_file.new.host) removed.keeps
    (c.in_ok-pages.ensures.moments told base groups (removed.opened refl))

use Rattle.std.proofs.Common.{◌++◌, false, refl}
use Rattle.std.specs.String.{string_bytes}
use Rattle.aria_readlog.specs.Line.{last_line}
use Rattle.aria_readlog.proofs.Telling.{shows_err, shows_part}
use Rattle.aria_readlog.proofs.Listed.{held_told}
use Rattle.aria_readlog.proofs.displaying.end.Goals as goal

pub returns-in_err-tell-in-Some-clause-shows : goal.returns-in_err-tell-in-Some-clause-shows
returns-in_err-tell-in-Some-clause-shows g c = λ told.
    let text = string_bytes c.args.listing.now.text in
    let last = last_line c.args.listing.now.groups c.args.listing.now.rests in
    shows_err c.from_residual.result (g.H.Host.state c.args.host.now) (g.H.Host.state c.tell.new.host) (text ++ last) c.from_residual.ensures.0
    (shows_part (g.H.Host.state c.args.host.now) (g.H.Host.state c.tell.new.host) text last (text ++ last) false refl (c.in_err-tell-in-Some.ensures.part told))

pub returns-in_ok-tell-in-Some-clause-shows : goal.returns-in_ok-tell-in-Some-clause-shows
returns-in_ok-tell-in-Some-clause-shows g c = λ told.
    held_told c.args.listing.now c.tell.new.self (last_line c.args.listing.now.groups c.args.listing.now.rests) (g.H.Host.state c.args.host.now) (g.H.Host.state c.tell.new.host)
    (c.in_ok-tell-in-Some.ensures.tells told)

use Rattle.std.proofs.Common.{◌++◌, is_ok}
use Rattle.aria_log.specs.Reading.{entries_of_runs}
use Rattle.aria_readlog.specs.Choice.{all_lines, total_line}
use Rattle.aria_readlog.proofs.Telling.{shows_err}
use Rattle.aria_readlog.proofs.Listed.{IsNew, show_part, show_whole, show_lines}
use Rattle.aria_readlog.proofs.displaying.show.Goals as goal

pub returns-in_err-list-clause-shows : goal.returns-in_err-list-clause-shows
returns-in_err-list-clause-shows g c = λ told n front readable first_is.
    let s0 = g.H.Host.state c.args.host.now in
    let s1 = g.H.Host.state c.list.new.host in
    let entries = entries_of_runs n front in
    let listing = c.new-listing.result in
    let new : IsNew listing c.args.choice = record { choice_is = c.new-listing.ensures.choice; text = c.new-listing.ensures.text; groups = c.new-listing.ensures.groups; rests = c.new-listing.ensures.rests } in
    shows_err c.from_residual.result s0 s1 (all_lines c.args.choice entries ++ total_line c.args.choice entries) c.from_residual.ensures.0
    (show_part listing c.args.choice entries s0 s1 new (c.in_err-list.ensures.part told n front readable first_is))

pub returns-clause-shows : goal.returns-clause-shows
returns-clause-shows g c = λ told n front readable first_is.
    let listing = c.new-listing.result in
    let new : IsNew listing c.args.choice = record { choice_is = c.new-listing.ensures.choice; text = c.new-listing.ensures.text; groups = c.new-listing.ensures.groups; rests = c.new-listing.ensures.rests } in
    show_whole listing c.args.choice (entries_of_runs n front) c.list.new.listing (g.H.Host.state c.args.host.now) (g.H.Host.state c.list.new.host) (g.H.Host.state c.end.new.host) (is_ok c.end.result) new
    (c.in_ok-list.ensures.adds told n front readable first_is) (c.end.ensures.shows told)

pub returns-clause-damaged : goal.returns-clause-damaged
returns-clause-damaged g c = λ told damaged n front readable first_is.
    let listing = c.new-listing.result in
    let new : IsNew listing c.args.choice = record { choice_is = c.new-listing.ensures.choice; text = c.new-listing.ensures.text; groups = c.new-listing.ensures.groups; rests = c.new-listing.ensures.rests } in
    show_lines listing c.args.choice (entries_of_runs n front) c.list.new.listing (g.H.Host.state c.args.host.now) (g.H.Host.state c.list.new.host) (g.H.Host.state c.end.new.host) new
    (c.in_ok-list.ensures.adds told n front readable first_is) (c.end.ensures.damaged told damaged)

use Rattle.std.proofs.Common.{is_ok, refl}
use Rattle.aria_host.proofs.Answered.{on_ok}
use Rattle.aria_readlog.specs.Choice.{all_lines, total_line}
use Rattle.aria_readlog.specs.Display.{choice}
use Rattle.aria_readlog.proofs.Displayed.{entries_of, read_at, first_at, display_of, shows_found, shows_lines, shows_all, told_part, told_moments, answer_is, answer_only}
use Rattle.aria_readlog.proofs.displaying.display.Goals as goal

pub show-requires : goal.show-requires
show-requires g c = λ told.
    let looked = c.in_ok-looked.ensures.looked told in
    let s0 = g.H.Host.state c.args.host.now in
    let s1 = g.H.Host.state c.look.new.host in
    let l = c.in_ok-looked.looked in
    (looked.from.n, looked.from.front, read_at s0.folder s1.folder l.found l.first (c.in_ok-looked.ensures.same told).folder looked, first_at s0.folder l.found l.first looked)

pub returns-clause-told : goal.returns-clause-told
returns-clause-told g c = λ told.
    let looked = c.in_ok-looked.ensures.looked told in
    let s0 = g.H.Host.state c.args.host.now in
    let s2 = g.H.Host.state c.show.new.host in
    let l = c.in_ok-looked.looked in
    let chosen = choice c.args.from c.args.to c.args.silent in
    let shows = shows_found chosen l.found l.first s0 (g.H.Host.state c.look.new.host) s2 (is_ok c.show.result) (λ f b left. g.met.H.Host.only_now c.args.host.now f b told left)
    (c.in_ok-looked.ensures.same told) looked (c.show.ensures.shows told) in
    let entries = entries_of s0.folder l.found l.first looked in
    on_ok c.show.result _ (λ done. (all_lines chosen entries, total_line chosen entries, display_of s0.folder chosen l.found l.first looked, shows.whole done))

pub returns-clause-damaged : goal.returns-clause-damaged
returns-clause-damaged g c = λ told damaged.
    let looked = c.in_ok-looked.ensures.looked told in
    let s0 = g.H.Host.state c.args.host.now in
    let l = c.in_ok-looked.looked in
    let chosen = choice c.args.from c.args.to c.args.silent in
    let entries = entries_of s0.folder l.found l.first looked in
    let shows = shows_lines chosen l.found l.first s0 (g.H.Host.state c.look.new.host) (g.H.Host.state c.show.new.host) (λ f b left. g.met.H.Host.only_now c.args.host.now f b told left)
    (c.in_ok-looked.ensures.same told) looked (c.show.ensures.damaged told damaged) in
    (all_lines chosen entries, total_line chosen entries, display_of s0.folder chosen l.found l.first looked, shows.whole refl)

pub returns-clause-part : goal.returns-clause-part
returns-clause-part g c = λ told.
    let looked = c.in_ok-looked.ensures.looked told in
    let s0 = g.H.Host.state c.args.host.now in
    let s2 = g.H.Host.state c.show.new.host in
    let l = c.in_ok-looked.looked in
    let chosen = choice c.args.from c.args.to c.args.silent in
    let shows = shows_found chosen l.found l.first s0 (g.H.Host.state c.look.new.host) s2 (is_ok c.show.result) (λ f b left. g.met.H.Host.only_now c.args.host.now f b told left)
    (c.in_ok-looked.ensures.same told) looked (c.show.ensures.shows told) in
    told_part chosen l.found l.first s0 s2 (is_ok c.show.result) looked shows

pub returns-clause-shows : goal.returns-clause-shows
returns-clause-shows g c = λ told lines last display.
    let looked = c.in_ok-looked.ensures.looked told in
    let s0 = g.H.Host.state c.args.host.now in
    let s2 = g.H.Host.state c.show.new.host in
    let l = c.in_ok-looked.looked in
    let chosen = choice c.args.from c.args.to c.args.silent in
    let shows = shows_found chosen l.found l.first s0 (g.H.Host.state c.look.new.host) s2 (is_ok c.show.result) (λ f b left. g.met.H.Host.only_now c.args.host.now f b told left)
    (c.in_ok-looked.ensures.same told) looked (c.show.ensures.shows told) in
    shows_all chosen l.found l.first s0 s2 (is_ok c.show.result) lines last looked shows display

pub returns-clause-moments : goal.returns-clause-moments
returns-clause-moments g c = λ told.
    let looked = c.in_ok-looked.ensures.looked told in
    let s0 = g.H.Host.state c.args.host.now in
    let s2 = g.H.Host.state c.show.new.host in
    let l = c.in_ok-looked.looked in
    let chosen = choice c.args.from c.args.to c.args.silent in
    let shows = shows_found chosen l.found l.first s0 (g.H.Host.state c.look.new.host) s2 (is_ok c.show.result) (λ f b left. g.met.H.Host.only_now c.args.host.now f b told left)
    (c.in_ok-looked.ensures.same told) looked (c.show.ensures.shows told) in
    told_moments chosen l.found l.first s0 s2 (is_ok c.show.result) looked shows

pub returns-clause-answer : goal.returns-clause-answer
returns-clause-answer g c = λ told.
    let l = c.in_ok-looked.looked in
    answer_is (g.H.Host.state c.args.host.now).folder l.found l.first c.show.result (c.in_ok-looked.ensures.looked told) (c.show.ensures.answer told)

pub returns-clause-only : goal.returns-clause-only
returns-clause-only g c = λ told other is.
    let l = c.in_ok-looked.looked in
    answer_only (g.H.Host.state c.args.host.now).folder l.found l.first c.show.result other (c.in_ok-looked.ensures.looked told) (c.show.ensures.answer told) is

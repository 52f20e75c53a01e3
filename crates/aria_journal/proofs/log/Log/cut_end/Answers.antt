use Rattle.std.proofs.Common.{rules, sym, subst, List, ℕ, Option}
use Rattle.std.specs.Prelude.{IsSome}
use Rattle.aria_journal.proofs.Starting.{was_cut}
use Rattle.aria_journal.proofs.log.Log.cut_end.Goals as goal

pub returns-then-self-pages-clause-prepared : goal.returns-then-self-pages-clause-prepared
returns-then-self-pages-clause-prepared g c = λ told.
    let (content, there, size) = c.requires.pages told in
    let opened = c.requires.opened told in
    was_cut c.args.self.now (g.H.Host.state c.args.host.now) (g.H.Host.state c.cut.new.self) _ c.args.self.now.number (λ f b left. g.met.H.Host.only_now c.args.host.now f b told left) opened (c.requires.rest told)
    (subst (λ (o : Option (List (List ℕ))). IsSome o) (sym there) (search rules)) opened.fills.number_is (c.cut.ensures.cut told)

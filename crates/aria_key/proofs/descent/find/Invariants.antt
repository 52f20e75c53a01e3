use Rattle.aria_key.specs.Way.{IsOnWay}
use Rattle.aria_key.proofs.descent.find.Given as goal

abbrev pub invariant-loop-level : goal.invariant-loop-level
invariant-loop-level g l = record {
  stands : g.P.Pages.stands l.pages;
  moves : g.P.Pages.stays l.initial.pages l.pages;
  way : IsOnWay g.P.Pages.tells l.slot l.root l.entry l._level l.page l.path (g.P.Pages.state l.initial.pages) (g.P.Pages.state l.pages);
}

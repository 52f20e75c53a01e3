use Rattle.aria_key.specs.Path.{passed}
use Rattle.aria_key.specs.WayUp.{IsOnWayUp}
use Rattle.aria_key.proofs.way_up.next_low.Given as goal

abbrev pub invariant-loop-level : goal.invariant-loop-level
invariant-loop-level g l = record {
  stands : g.P.Pages.stands l.pages;
  moves : g.P.Pages.stays l.initial.pages l.pages;
  way : IsOnWayUp g.P.Pages.tells l.slot l._level (passed l.initial.way) (passed l.way) (g.P.Pages.state l.initial.pages) (g.P.Pages.state l.pages);
}

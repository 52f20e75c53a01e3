use Rattle.std.proofs.Common.{IsTrue, nat_lt, ℕ, sym, subst}
use Rattle.std.specs.List.{list_all}
use Rattle.aria_engine.proofs.Tallies.{numbered_later}
use Rattle.aria_engine.proofs.tally.Tally.begin.Goals as goal

pub invariant_of-self : goal.invariant_of-self
invariant_of-self c = record {
  numbered = subst (λ (n : ℕ). IsTrue (list_all (λ m. nat_lt m.nth n) c.args.self.now.met)) (sym c.in-Some.ensures.1) (numbered_later c.args.self.now.count c.args.self.now.met c.args.self.now.numbered);
}

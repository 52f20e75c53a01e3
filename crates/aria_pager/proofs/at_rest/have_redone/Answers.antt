use Rattle.std.proofs.Common.{◌∙◌, ℕ, List, refl, sym, subst, take}
use Rattle.std.specs.Prelude.{All}
use Rattle.std.proofs.lemmas.List.{take_all}
use Rattle.std.proofs.lemmas.List.Elements.{All-push}
use Rattle.aria_host.proofs.Moments.{unchanged_after}
use Rattle.aria_host.specs.Folder.{Folder}
use Rattle.aria_pager.specs.Resting.{IsRedone}
use Rattle.aria_pager.proofs.Given.{next_of}
use Rattle.aria_pager.proofs.at_rest.have_redone.Goals as goal

pub loop-name-preserved : goal.loop-name-preserved
loop-name-preserved g c =
    let s = g.H.Host.state c.args.host.now in
    let i : ℕ = c.loop-name.name-index in
    let names : List (List ℕ) = c.args.names.now in
    let name : List ℕ = c.name-item.result in
    record {
      redone = λ told checkpoint groups has rises.
          subst (All (IsRedone s.folder groups)) (sym (next_of names i name c.loop-name-test.true c.name-item.is))
          (All-push (IsRedone s.folder groups) (take i names) name (c.loop-name.invariant.redone told checkpoint groups has rises)
          (subst (λ (d : Folder). IsRedone d groups name) (c.loop-name.invariant.same told).folder ((c.in_ok-has_redone.ensures.redone told checkpoint groups has rises).0 c.if-not-branch.false)));
      same = λ told. unchanged_after s (g.H.Host.state c.loop-name.host) (g.H.Host.state c.has_redone.new.host) (c.loop-name.invariant.same told) (c.in_ok-has_redone.ensures.same told);
      disk = c.in_ok-has_redone.ensures.cause.calm ∙ c.loop-name.invariant.disk;
      tell = c.in_ok-has_redone.ensures.cause.tell ∙ c.loop-name.invariant.tell;
    }

pub returns-clause-redone : goal.returns-clause-redone
returns-clause-redone g c = λ told checkpoint groups has rises. (
  λ on. subst (All (IsRedone (g.H.Host.state c.args.host.now).folder groups)) (take_all c.loop-name.name-index c.args.names.now c.loop-name-test.false) (c.loop-name.invariant.redone told checkpoint groups has rises),
  λ redone. refl,
)

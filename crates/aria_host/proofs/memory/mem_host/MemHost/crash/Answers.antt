use Rattle.std.proofs.Common.{List, ◌++◌, refl, ◌∙◌, ap, subst}
use Rattle.aria_host.specs.declared.memory.effect.Effect.{Effect}
use Rattle.aria_host.specs.declared.memory.fate.Fate.{Fate}
use Rattle.aria_host.specs.Crash.{Survive}
use Rattle.aria_host.proofs.Crashed.{crashed}
use Rattle.aria_host.proofs.memory.mem_host.MemHost.crash.Goals as goal

pub returns-clause-ok : goal.returns-clause-ok
returns-clause-ok c =
    let all = c.in_ok-self.ensures in
    let left = all.0 in
    let fates = subst (λ (f : List Fate). Survive c.deref-2.result.now f left) c.as_slice.ensures all.2 in
    let survive = subst (λ (l : List Effect). Survive l c.args.fates.now left) c.deref-2.ensures.value fates in
    let base = all.1 ∙ ap (λ (l : List Effect). l ++ left) (c.in_ok-before.ensures ∙ c.deref.ensures.value) in
    crashed c.args.fates.now left c.args.self.now _ survive base c.clear.ensures.items refl refl refl c.clear-2.ensures.items refl record { disk = refl; tell = refl }

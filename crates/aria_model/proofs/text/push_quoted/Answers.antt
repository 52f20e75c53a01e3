use Rattle.std.proofs.Common.{List, ℕ, ◌∷◌, [], ◌++◌, sym, ap, ◌∙◌, append_assoc}
use Rattle.std.specs.List.{flat_map}
use Rattle.aria_model.specs.Text.{quoted}
use Rattle.aria_model.proofs.text.push_quoted.Goals as goal

pub loop-run-preserved : goal.loop-run-preserved
loop-run-preserved c =
    let out = c.loop-run.out in
    let run = c.in-Some.run'.now in
    let behind = flat_map quoted c.in-Some.behind.now in
    ap (λ (told : List ℕ). told ++ behind) c.in_ok-push_both.ensures
    ∙ append_assoc out (run ++ 39 ∷ 39 ∷ []) behind
    ∙ ap (λ l. out ++ l) (append_assoc run (39 ∷ 39 ∷ []) behind ∙ sym c.in-Some.ensures.whole)
    ∙ c.loop-run.invariant

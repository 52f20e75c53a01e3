use Rattle.std.proofs.Common.{◌≡◌, ◌∙◌, sym, subst, ap, ℕ, List, nat_eq}
use Rattle.std.specs.List.{IsDistinct, list_any}
use Rattle.std.proofs.lemmas.Cmp.{nat_eq_equiv}
use Rattle.std.proofs.lemmas.List.Sorted.{IsNonDecreasingBy-from_sort, list_any-IsPermutation}
use Rattle.std.proofs.lemmas.Map.Keys.{IsDistinct-IsPermutation, IsStrictlyIncreasing-from_distinct}
use Rattle.aria_cache.specs.declared.frames.Frame.{Frame}
use Rattle.aria_cache.specs.Frames.{dirty_keys}
use Rattle.aria_cache.proofs.Dirty.{found, apart, collected}
use Rattle.aria_cache.proofs.frames.Frames.dirty.Goals as goal

pub returns-clause-all : goal.returns-clause-all
returns-clause-all c = λ k.
    let es : List (ℕ × Frame) = c.args.self.now.cache.entries in
    let keys : c.loop-key.keys.items ≡ dirty_keys es = collected c.loop-key.keys.items c.loop-key.key-iterator es c.loop-key.invariant c.in-None.ensures.steps.0 in
    sym (list_any-IsPermutation (nat_eq k) c.loop-key.keys.items c.sort_unstable.new.self.items c.sort_unstable.ensures.permutation)
    ∙ ap (λ (ks : List ℕ). list_any (nat_eq k) ks) keys ∙ found k es c.len.ensures.valid.0

pub returns-clause-rises : goal.returns-clause-rises
returns-clause-rises c =
    let es : List (ℕ × Frame) = c.args.self.now.cache.entries in
    let keys : c.loop-key.keys.items ≡ dirty_keys es = collected c.loop-key.keys.items c.loop-key.key-iterator es c.loop-key.invariant c.in-None.ensures.steps.0 in
    let sorted : List ℕ = c.sort_unstable.new.self.items in
    IsStrictlyIncreasing-from_distinct sorted (IsNonDecreasingBy-from_sort (λ n. n) sorted c.sort_unstable.ensures.sorted)
    (IsDistinct-IsPermutation nat_eq nat_eq_equiv.symm c.loop-key.keys.items sorted c.sort_unstable.ensures.permutation
    (subst (IsDistinct nat_eq) (sym keys) (apart es c.len.ensures.valid.0)))

-- Places of the table of open files.
use Rattle.std.proofs.Common.{◌≡◌, inl, inr, ℕ, ◌+◌, ◌<◌, false, Option, None, List, length, get_or, set, refl, sym, ◌∙◌, subst, arith}
use Rattle.std.proofs.lemmas.Bool.{cases_order}
use Rattle.std.proofs.lemmas.List.{get_or-set_same, get_or-set_other, get_or_default}
use Rattle.aria_host.specs.declared.file_name.FileName.{FileName}
use Rattle.aria_host.specs.declared.real.os.Handle.{Handle}
use Rattle.aria_host.specs.OpenTable.{is_of, IsNotBelow}

-- what was read at a place is what stands there
pub read_there : (handles : List (Option Handle)) (place : ℕ) (found : Option Handle) → place < length handles → found ≡ get_or handles place found → found ≡ get_or handles place None
read_there handles place found within is = is ∙ get_or_default handles place found None within

-- one place more
pub not_below_more : (name : FileName) (n : ℕ) (handles : List (Option Handle)) → is_of name (get_or handles n None) ≡ false → IsNotBelow name n handles → IsNotBelow name (n + 1) handles
not_below_more name n handles here below place less = elim (cases_order place n) [
  | inl same ↦ subst (λ (k : ℕ). is_of name (get_or handles k None) ≡ false) (sym same) here
  | inr (inl before) ↦ below place before
  | inr (inr after) ↦ absurd (omega (arith, after, less))
]

-- a place that is emptied
pub not_below_set : (name : FileName) (n : ℕ) (handles : List (Option Handle)) → n < length handles → IsNotBelow name n handles → IsNotBelow name (n + 1) (set handles n None)
not_below_set name n handles within below place less = elim (cases_order place n) [
  | inl same ↦ subst (λ (k : ℕ). is_of name (get_or (set handles n None) k None) ≡ false) (sym same)
      (subst (λ (o : Option Handle). is_of name o ≡ false) (sym (get_or-set_same handles n None None within)) refl)
  | inr (inl before) ↦ subst (λ (o : Option Handle). is_of name o ≡ false) (sym (get_or-set_other handles n place None None (λ same. omega (arith, same, before)))) (below place before)
  | inr (inr after) ↦ absurd (omega (arith, after, less))
]

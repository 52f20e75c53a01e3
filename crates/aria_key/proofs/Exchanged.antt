-- Edits of an item that takes the place of another.
use Rattle.std.proofs.Common.{◌≡◌, ℕ, ◌<◌, ◌≤◌, List, [], ◌∷◌, ◌++◌, length, refl, sym, subst, arith}
use Rattle.std.proofs.lemmas.List.Edits.{length-remove}
use Rattle.aria_page.specs.declared.edit.Edit.{Edit}
use Rattle.aria_page.specs.Edit.{IsWithin, edited, all_edited}
use Rattle.aria_page.specs.declared.page.TheConstants.{BODY_BYTES}
use Rattle.aria_keypage.specs.Content.{Content, Spells}
use Rattle.aria_keypage.specs.Change.{without_item, Changes}
use Rattle.aria_key.proofs.Lists.{all-append}
use Rattle.aria_key.proofs.Holding.{long}

edited-append : (es fs : List Edit) (body : List ℕ) → all_edited (es ++ fs) body ≡ all_edited fs (all_edited es body)
edited-append [] fs body = refl
edited-append (e ∷ es) fs body = edited-append es fs (edited e body)

-- what edits make of a page
pub made-spells : (es : List Edit) (body now : List ℕ) (c d : Content) → length body ≡ BODY_BYTES → Spells body c → Changes es c d → now ≡ all_edited es body → Spells now d
made-spells es body now c d size spells h is = subst (λ (b : List ℕ). Spells b d) (sym is) (h.body body size spells)

-- edits behind others
pub changes-on : (es fs : List Edit) (c d e : Content) → Changes es c d → Changes fs d e → Changes (es ++ fs) c e
changes-on es fs c d e first second = record {
  within = all-append IsWithin es fs first.within second.within;
  body = λ body size spells. subst (λ (b : List ℕ). Spells b e) (sym (edited-append es fs body)) (second.body (all_edited es body) (long es body first.within size) (first.body body size spells));
}

-- a place for the item is left
pub place-left : (c : Content) (at : ℕ) → at < length c.items → at ≤ length (without_item c at).items
place-left c at low = omega (arith, low, length-remove c.items at low)

-- Edits whose bytes are lent are spelled as edits are.
use Rattle.std.proofs.Common.{◌≡◌, ℕ, suc, ◌≤◌, List, [], ◌∷◌, ◌++◌, length, take, refl, sym, ap, ◌∙◌, append_assoc}
use Rattle.std.specs.Prelude.{All}
use Rattle.std.specs.List.{flat_map, AllByRecursion}
use Rattle.std.proofs.lemmas.List.{take_all}
use Rattle.std.proofs.lemmas.List.Concat.{flat_map-cons}
use Rattle.std.proofs.lemmas.List.Elements.{recursion_from_All}
use Rattle.aria_page.specs.declared.change.Change.{Change}
use Rattle.aria_page.specs.Change.{edit_of, edits_of}
use Rattle.aria_page.specs.Edit.{IsWithin}
use Rattle.aria_page.specs.Items.{list_bytes}
use Rattle.aria_page.specs.Number.{number}
use Rattle.aria_record.specs.Spelled.{edit_bytes}

each_lent : (edits : List Change) → flat_map (λ e. edit_bytes (edit_of e)) edits ≡ flat_map edit_bytes (edits_of edits)
each_lent [] = refl
each_lent (e ∷ edits) = flat_map-cons (λ x. edit_bytes (edit_of x)) e edits ∙ ap (λ (l : List ℕ). edit_bytes (edit_of e) ++ l) (each_lent edits) ∙ sym (flat_map-cons edit_bytes (edit_of e) (edits_of edits))

pub lent_length : (edits : List Change) → length (edits_of edits) ≡ length edits
lent_length [] = refl
lent_length (e ∷ edits) = ap suc (lent_length edits)

-- All are written.
pub all_lent : (edits : List Change) (i : ℕ) (before now : List ℕ) → length edits ≤ i → now ≡ before ++ flat_map (λ e. edit_bytes (edit_of e)) (take i edits) → now ≡ before ++ flat_map edit_bytes (edits_of edits)
all_lent edits i before now past so_far =
    so_far ∙ ap (λ (l : List Change). before ++ flat_map (λ e. edit_bytes (edit_of e)) l) (take_all i edits past) ∙ ap (λ (l : List ℕ). before ++ l) (each_lent edits)

-- Their number and they are written.
pub list_lent : (edits : List Change) (before counted now : List ℕ) → counted ≡ before ++ number 1 (length edits) → now ≡ counted ++ flat_map edit_bytes (edits_of edits) → now ≡ before ++ list_bytes edit_bytes (edits_of edits)
list_lent edits before counted now count is =
    is ∙ ap (λ (l : List ℕ). l ++ flat_map edit_bytes (edits_of edits)) (count ∙ ap (λ (n : ℕ). before ++ number 1 n) (sym (lent_length edits)))
    ∙ append_assoc before (number 1 (length (edits_of edits))) (flat_map edit_bytes (edits_of edits))

within_lent : (edits : List Change) → AllByRecursion (λ e. IsWithin (edit_of e)) edits → AllByRecursion IsWithin (edits_of edits)
within_lent [] all = tt
within_lent (e ∷ edits) all = (all.0, within_lent edits all.1)

pub all_within : (edits : List Change) → All (λ e. IsWithin (edit_of e)) edits → AllByRecursion IsWithin (edits_of edits)
all_within edits all = within_lent edits (recursion_from_All (λ e. IsWithin (edit_of e)) edits all)

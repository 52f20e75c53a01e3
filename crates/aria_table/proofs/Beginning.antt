-- Entries that begin with given bytes.
use Rattle.std.proofs.Common.{◌≡◌, ◌==◌, ℕ, ◌<◌, Bool, true, false, ◌||◌, cond, Option, Some, List, [], ◌∷◌, refl, sym, ap, ◌∙◌}
use Rattle.std.specs.Option.{is_some}
use Rattle.std.specs.List.{starts_with}
use Rattle.aria_keypage.specs.Item.{Item}
use Rattle.aria_key.specs.Prefixed.{first_with}
use Rattle.aria_cache.specs.PageState.{PageState}
use Rattle.aria_table.specs.Content.{Content}
use Rattle.aria_table.specs.Holds.{pairs}
use Rattle.aria_table.specs.Step.{HoldsContent}
use Rattle.aria_table.specs.Refusing.{has_entry}

here_or_later : (b : Bool) (x : List ℕ × ℕ) (more : Option (List ℕ × ℕ)) (later : Bool) → is_some more ≡ later → is_some (cond b (Some x) more) ≡ (b || later)
here_or_later true x more later is = refl
here_or_later false x more later is = is

-- one is found where there is one
pub first_some : (prefix : List ℕ) (xs : List Item) → is_some (first_with prefix xs) ≡ has_entry prefix (pairs xs)
first_some prefix [] = refl
first_some prefix (x ∷ xs) = here_or_later (starts_with ◌==◌ x.entry prefix) (x.entry, x.to) (first_with prefix xs) (has_entry prefix (pairs xs)) (first_some prefix xs)

-- in a table's walk of a key
pub found_in : (is_row : List ℕ → Bool) (keys slot key : ℕ) (s : PageState) (c : Content) (h : HoldsContent is_row keys slot s c) (low : key < keys) (prefix : List ℕ) (found : Option (List ℕ × ℕ)) → found ≡ first_with prefix (h.walks key)
    → is_some found ≡ has_entry prefix (c.walks key)
found_in is_row keys slot key s c h low prefix found is = ap is_some is ∙ first_some prefix (h.walks key) ∙ ap (has_entry prefix) (sym (h.walk key low))

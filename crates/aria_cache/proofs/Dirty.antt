-- The keys of the pages that are dirty.
use Rattle.std.proofs.Common.{◌≡◌, ◌∙◌, ℕ, Bool, true, false, cond, List, [], ◌++◌, Option, None, Some, is_some, nat_eq, refl, sym, ap}
use Rattle.std.specs.Prelude.{option_map}
use Rattle.std.specs.List.{IsDistinct, filter, list_any}
use Rattle.std.specs.Map.{keys_of, lookup}
use Rattle.std.proofs.lemmas.Cmp.{nat_eq_equiv}
use Rattle.std.proofs.lemmas.List.{append-nil}
use Rattle.std.proofs.lemmas.Map.Entries.{option_filter, lookup-filter-values}
use Rattle.std.proofs.lemmas.Map.Made.{is_some-lookup, IsDistinct-keys_filter}
use Rattle.aria_cache.specs.declared.frames.Frame.{Frame}
use Rattle.aria_cache.specs.Frames.{shown, dirty_of, dirty_keys}

seen : (o : Option Frame) → is_some (option_filter (λ f. f.dirty) o) ≡ dirty_of (option_map shown o)
seen None = refl
seen (Some f) = kept f.dirty
  where
    kept : (b : Bool) → is_some (cond b (Some f) None) ≡ b
    kept true = refl
    kept false = refl

-- a key is among them exactly if its page is held dirty
pub found : (k : ℕ) (es : List (ℕ × Frame)) → IsDistinct nat_eq (keys_of es) → list_any (nat_eq k) (dirty_keys es) ≡ dirty_of (option_map shown (lookup (nat_eq k) es))
found k es distinct = sym (is_some-lookup (nat_eq k) (filter (λ e. e.1.dirty) es))
    ∙ ap (λ (o : Option Frame). is_some o) (lookup-filter-values nat_eq_equiv (λ f. f.dirty) k es distinct) ∙ seen (lookup (nat_eq k) es)

-- none is among them twice
pub apart : (es : List (ℕ × Frame)) → IsDistinct nat_eq (keys_of es) → IsDistinct nat_eq (dirty_keys es)
apart es distinct = IsDistinct-keys_filter nat_eq (λ e. e.1.dirty) es distinct

-- once no entry is left
pub collected : (keys : List ℕ) (rest es : List (ℕ × Frame)) → keys ++ dirty_keys rest ≡ dirty_keys es → rest ≡ [] → keys ≡ dirty_keys es
collected keys rest es all none = sym (append-nil keys) ∙ ap (λ (r : List (ℕ × Frame)). keys ++ dirty_keys r) (sym none) ∙ all

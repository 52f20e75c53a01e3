-- A tree's list with one entry more is the walk with that entry.
use Rattle.std.proofs.Common.{◌≡◌, ℕ, true, cond, Option, Some, None, List, [], ◌∷◌, refl, ap, ◌∙◌}
use Rattle.std.specs.declared.cmp.Ordering.{Ordering}
use Rattle.std.specs.declared.cmp.Ordering.TheVariants.{Less, Equal, Greater}
use Rattle.std.specs.BTreeMap.{insert_entry}
use Rattle.std.specs.Map.{lookup}
use Rattle.std.specs.Ordering.{nat_cmp, is_lt, is_eq, match_ordering, ordering_reverse}
use Rattle.std.specs.Cmp.Lexicographic.{slice_cmp, nat_list_cmp_total}
use Rattle.aria_keypage.specs.Item.{Item}
use Rattle.aria_key.specs.Owned.{with_entry}
use Rattle.aria_table.specs.Content.{Walk, same_entry}
use Rattle.aria_table.specs.Holds.{pair_of, pairs}

put_step : (x y : Item) (ys zs : List Item) (r : Ordering) → slice_cmp nat_cmp x.entry y.entry ≡ r → (is_eq r ≡ true → ⊥) → pairs zs ≡ insert_entry (slice_cmp nat_cmp) (pairs ys) x.entry x.to
    → pairs (cond (is_lt (ordering_reverse r)) (y ∷ zs) (x ∷ y ∷ ys))
    ≡ match_ordering r ((x.entry, x.to) ∷ pair_of y ∷ pairs ys) ((y.entry, x.to) ∷ pairs ys) (pair_of y ∷ insert_entry (slice_cmp nat_cmp) (pairs ys) x.entry x.to)
put_step x y ys zs Less at other more = refl
put_step x y ys zs Equal at other more = absurd (other refl)
put_step x y ys zs Greater at other more = ap (λ (l : Walk). pair_of y ∷ l) more

absent_here : (found : Option ℕ) (to : ℕ) (r : Ordering) → cond (is_eq r) (Some to) found ≡ None → is_eq r ≡ true → ⊥
absent_here found to Less none same = absurd (cc)
absent_here found to Equal none same = absurd (cc)
absent_here found to Greater none same = absurd (cc)

absent_there : (found : Option ℕ) (to : ℕ) (r : Ordering) → cond (is_eq r) (Some to) found ≡ None → found ≡ None
absent_there found to Less none = none
absent_there found to Equal none = absurd (cc)
absent_there found to Greater none = none

-- an entry put where it wasn't
pub pairs_with : (x : Item) (walk : List Item) → lookup (same_entry x.entry) (pairs walk) ≡ None → pairs (with_entry x walk) ≡ insert_entry (slice_cmp nat_cmp) (pairs walk) x.entry x.to
pairs_with x [] none = refl
pairs_with x (y ∷ ys) none =
    let r : Ordering = slice_cmp nat_cmp x.entry y.entry in
    let turned : slice_cmp nat_cmp y.entry x.entry ≡ ordering_reverse r = nat_list_cmp_total.antisymm y.entry x.entry in
    ap (λ (o : Ordering). pairs (cond (is_lt o) (y ∷ with_entry x ys) (x ∷ y ∷ ys))) turned
    ∙ put_step x y ys (with_entry x ys) r refl (absent_here (lookup (same_entry x.entry) (pairs ys)) y.to r none)
    (pairs_with x ys (absent_there (lookup (same_entry x.entry) (pairs ys)) y.to r none))

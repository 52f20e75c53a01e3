-- What is left once the entries of these keys are taken out, the last first.
use Rattle.std.specs.Prelude.{List, [], ◌∷◌}
use Rattle.std.specs.declared.cmp.Ordering.{Ordering}
use Rattle.std.specs.BTreeMap.{is_at}
use Rattle.std.specs.Map.{remove_entry}

abbrev pub undone : {K X : Type 0} → (K → K → Ordering) → List K → List (K × X) → List (K × X)
undone cmp [] entries = entries
undone cmp (key ∷ keys) entries = remove_entry (is_at (cmp key)) (undone cmp keys entries)

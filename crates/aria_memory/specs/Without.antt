-- What is left of entries without those of some keys.
use Rattle.std.specs.Prelude.{not, List}
use Rattle.std.specs.List.{filter, list_any}
use Rattle.std.specs.declared.cmp.Ordering.{Ordering}
use Rattle.std.specs.BTreeMap.{is_at}

abbrev pub without : {K X : Type 0} → (K → K → Ordering) → List K → List (K × X) → List (K × X)
without cmp keys entries = filter (λ e. not (list_any (λ key. is_at (cmp key) e.0) keys)) entries

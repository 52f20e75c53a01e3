-- Entries of the first key that begin like that of a row, and the rows that have its values there.
use Rattle.std.proofs.Common.{◌≡◌, ◌==◌, ℕ, ◌||◌, ◌&&◌, Bool, true, List, [], ◌∷◌, map, refl, sym, ap, ◌∙◌}
use Rattle.std.specs.List.{list_any, starts_with, AllByRecursion}
use Rattle.std.specs.Map.{keys_of}
use Rattle.std.specs.Ordering.{is_eq}
use Rattle.std.specs.Cmp.{tied_then}
use Rattle.std.proofs.lemmas.Bool.{and_from}
use Rattle.std.proofs.lemmas.List.Folds.{flat_map-map}
use Rattle.aria_value.specs.declared.value.Value.{Value}
use Rattle.aria_value.specs.declared.definition.Column.{Column}
use Rattle.aria_value.specs.declared.definition.Definition.{Definition}
use Rattle.aria_value.specs.Defined.{kind_at}
use Rattle.aria_value.specs.Order.{value_at, value_cmp, columns_cmp, key_columns, key_cmp, has_values}
use Rattle.aria_value.specs.Rows.{Fits, IsRow}
use Rattle.aria_value.specs.Entry.{part, parts, entry_bytes, prefix_bytes, has_type, have_types}
use Rattle.aria_value.proofs.Entries.{TypedRow, row_typed, entry_begins}
use Rattle.aria_table.specs.Content.{Walk}
use Rattle.aria_table.specs.Refusing.{has_entry}

-- the values that a row has in these columns
abbrev own : List Value → List ℕ → List Value
own row cs = map (λ c. value_at row c) cs

own_parts : (row : List Value) (cs : List ℕ) → prefix_bytes (own row cs) ≡ parts row cs
own_parts row cs = flat_map-map part (λ c. value_at row c) cs

own_types : (columns : List Column) (row : List Value) (cs : List ℕ) → TypedRow columns row → have_types columns cs (own row cs) ≡ true
own_types columns row [] typed = refl
own_types columns row (c ∷ cs) typed = and_from (has_type (kind_at columns c) (value_at row c)) (have_types columns cs (own row cs)) (typed.each c).is (own_types columns row cs typed)

own_fits : (columns : List Column) (row : List Value) (cs : List ℕ) → TypedRow columns row → AllByRecursion Fits (own row cs)
own_fits columns row [] typed = tt
own_fits columns row (c ∷ cs) typed = ((typed.each c).fits, own_fits columns row cs typed)

own_values : (row other : List Value) (cs : List ℕ) → has_values cs (own row cs) other ≡ is_eq (columns_cmp cs other row)
own_values row other [] = refl
own_values row other (c ∷ cs) =
    ap (λ (b : Bool). is_eq (value_cmp (value_at other c) (value_at row c)) && b) (own_values row other cs) ∙ tied_then (value_cmp (value_at other c) (value_at row c)) (columns_cmp cs other row)

-- an entry begins like a row's exactly where both rows have the same values in the first key
same_key : (d : Definition) (row other : List Value) → IsRow d row → IsRow d other → starts_with ◌==◌ (entry_bytes d 0 other) (entry_bytes d 0 row) ≡ is_eq (key_cmp d 0 other row)
same_key d row other good good_too =
    let cs = key_columns d.keys 0 in
    let typed = row_typed d row good in
    ap (λ (p : List ℕ). starts_with ◌==◌ (entry_bytes d 0 other) p) (sym (own_parts row cs))
    ∙ entry_begins d 0 other (own row cs) (row_typed d other good_too) (own_types d.columns row cs typed) (own_fits d.columns row cs typed)
    ∙ own_values row other cs

any_key : (p : List ℕ → Bool) (walk : Walk) → list_any (λ x. p x.0) walk ≡ list_any p (keys_of walk)
any_key p [] = refl
any_key p (x ∷ xs) = ap (λ (b : Bool). p x.0 || b) (any_key p xs)

any_row : (d : Definition) (row : List Value) (old : List (List Value)) → IsRow d row → AllByRecursion (IsRow d) old
    → list_any (λ entry. starts_with ◌==◌ entry (entry_bytes d 0 row)) (map (λ r. entry_bytes d 0 r) old) ≡ list_any (λ other. is_eq (key_cmp d 0 other row)) old
any_row d row [] good all = refl
any_row d row (r ∷ old) good all = λ i. same_key d row r good all.0 i || any_row d row old good all.1 i

-- The walk has the entries of the rows: an entry that begins like a row's is there where a row has its values.
pub entry_of_row : (d : Definition) (row : List Value) (old : List (List Value)) (walk : Walk) → IsRow d row → AllByRecursion (IsRow d) old → keys_of walk ≡ map (λ r. entry_bytes d 0 r) old
    → has_entry (entry_bytes d 0 row) walk ≡ list_any (λ other. is_eq (key_cmp d 0 other row)) old
entry_of_row d row old walk good all is =
    any_key (λ entry. starts_with ◌==◌ entry (entry_bytes d 0 row)) walk ∙ ap (list_any (λ entry. starts_with ◌==◌ entry (entry_bytes d 0 row))) is ∙ any_row d row old good all

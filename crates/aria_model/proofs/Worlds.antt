-- Worlds with one table put in its place.
use Rattle.std.proofs.Common.{◌≡◌, ℕ, Bool, true, false, cond, List, Option, Some, refl, sym, ap, ◌∙◌}
use Rattle.std.specs.Cmp.{Equal-is, unsigned_ties}
use Rattle.std.specs.Cmp.Lexicographic.{slice_cmp, lists_ties}
use Rattle.std.specs.Ordering.{nat_cmp}
use Rattle.std.proofs.lemmas.Map.Lookups.{exact_bytes}
use Rattle.aria_value.specs.declared.value.Value.{Value}
use Rattle.aria_value.specs.Defined.{same_name}
use Rattle.aria_model.specs.World.{World, Table, Content, Sound, with_table}
use Rattle.aria_model.specs.Step.{with_rows}

-- Names that are one are equal.
pub one_by_name : (a b : List ℕ) → same_name a b ≡ true → a ≡ b
one_by_name a b same = exact_bytes a b ((Equal-is (slice_cmp nat_cmp a b)).0 (sym (lists_ties nat_cmp unsigned_ties a b) ∙ same))

kept_where : (b : Bool) (here there : Option Table) → (b ≡ true → here ≡ there) → cond b here there ≡ there
kept_where true here there same = same refl
kept_where false here there same = refl

-- The table that a name has already, put there again.
pub with_table-same : (world : World) (name : List ℕ) (table : Option Table) → world name ≡ table → with_table world name table ≡ world
with_table-same world name table has = λ i. λ other.
    kept_where (same_name other name) table (world other) (λ same. sym has ∙ ap world (sym (one_by_name other name same))) i

-- So with the rows that a table has.
pub with_rows-same : (world : World) (name : List ℕ) (table : Table) (rows : List (List Value)) → world name ≡ Some table → table.content ≡ Sound rows
    → with_rows world name table rows ≡ world
with_rows-same world name table rows has is =
    with_table-same world name (Some (record table { content = Sound rows })) (has ∙ ap (λ (c : Content). Some (record table { content = c })) is)

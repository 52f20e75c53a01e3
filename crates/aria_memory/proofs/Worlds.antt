-- Worlds of tables by name, one table put in its place.
use Rattle.std.specs.Prelude.{◌≡◌, ℕ, Bool, true, false, cond, List, Option, Some, None, refl}
use Rattle.std.specs.Option.{option_map, is_some}
use Rattle.std.specs.BTreeMap.{is_at}
use Rattle.std.specs.Map.{lookup}
use Rattle.std.specs.Cmp.{Equal-is, eq_by_cmp_equiv}
use Rattle.std.specs.Cmp.Lexicographic.{slice_cmp, lists_ties}
use Rattle.std.specs.Cmp.{unsigned_ties}
use Rattle.std.specs.Ordering.{nat_cmp, is_eq}
use Rattle.std.proofs.lemmas.Cmp.{nat_list_cmp_total}
use Rattle.std.proofs.lemmas.Map.Lookups.{exact_bytes}
use Rattle.std.proofs.Common.{sym, ap, ◌∙◌}
use Rattle.aria_value.specs.Defined.{same_name}
use Rattle.aria_model.specs.World as model
use Rattle.aria_model.specs.World.{World, with_table}
use Rattle.aria_model.specs.Step.{is_taken}
use Rattle.aria_memory.specs.declared.table.Table.{Table}
use Rattle.aria_memory.specs.Worlds.{table_of}

-- names that the order doesn't tell apart are the same
pub same_by_order : (a b : List ℕ) → same_name a b ≡ is_eq (slice_cmp nat_cmp a b)
same_by_order a b = lists_ties nat_cmp unsigned_ties a b

same_back : (name other : List ℕ) → is_at (slice_cmp nat_cmp name) other ≡ same_name other name
same_back name other = (eq_by_cmp_equiv nat_list_cmp_total).symm name other ∙ sym (same_by_order other name)

one_by_name : (a b : List ℕ) → same_name a b ≡ true → a ≡ b
one_by_name a b same = exact_bytes a b ((Equal-is (slice_cmp nat_cmp a b)).0 (sym (same_by_order a b) ∙ same))

kept_where : (b : Bool) (here there : Option model.Table) → (b ≡ true → here ≡ there) → cond b here there ≡ there
kept_where true here there same = same refl
kept_where false here there same = refl

-- the table that a name has already, put there again
pub with_table_same : (world : World) (name : List ℕ) (table : Option model.Table) → world name ≡ table → with_table world name table ≡ world
with_table_same world name table has = λ i. λ other.
    kept_where (same_name other name) table (world other) (λ same. sym has ∙ ap world (sym (one_by_name other name same))) i

put_where : (b : Bool) (table : Table) (there : Option Table) → option_map table_of (cond b (Some table) there) ≡ cond b (Some (table_of table)) (option_map table_of there)
put_where true table there = refl
put_where false table there = refl

-- the tables of a map's entries
abbrev pub world_from : List (List ℕ × Table) → World
world_from entries = λ other. option_map table_of (lookup (is_at (slice_cmp nat_cmp other)) entries)

-- a map with one table put in its place is the world with it there
pub world_with : (old new : List (List ℕ × Table)) (name : List ℕ) (table : Table)
    → ((other : List ℕ) → lookup (is_at (slice_cmp nat_cmp other)) new ≡ cond (is_at (slice_cmp nat_cmp name) other) (Some table) (lookup (is_at (slice_cmp nat_cmp other)) old))
    → world_from new ≡ with_table (world_from old) name (Some (table_of table))
world_with old new name table put = λ i. λ other.
    (ap (option_map table_of) (put other)
    ∙ put_where (is_at (slice_cmp nat_cmp name) other) table (lookup (is_at (slice_cmp nat_cmp other)) old)
    ∙ ap (λ b. cond b (Some (table_of table)) (world_from old other)) (same_back name other)) i

-- a name is taken exactly if a map has it
pub taken_is : (found : Option Table) → is_taken (option_map table_of found) ≡ is_some found
taken_is None = refl
taken_is (Some table) = refl

taken_out_where : (b : Bool) (there : Option Table) → option_map table_of (cond b None there) ≡ cond b None (option_map table_of there)
taken_out_where true there = refl
taken_out_where false there = refl

-- a map with the table of a name taken out is the world without it
pub world_without : (old new : List (List ℕ × Table)) (name : List ℕ)
    → ((other : List ℕ) → lookup (is_at (slice_cmp nat_cmp other)) new ≡ cond (is_at (slice_cmp nat_cmp name) other) None (lookup (is_at (slice_cmp nat_cmp other)) old))
    → world_from new ≡ with_table (world_from old) name None
world_without old new name out = λ i. λ other.
    (ap (option_map table_of) (out other)
    ∙ taken_out_where (is_at (slice_cmp nat_cmp name) other) (lookup (is_at (slice_cmp nat_cmp other)) old)
    ∙ ap (λ b. cond b None (world_from old other)) (same_back name other)) i

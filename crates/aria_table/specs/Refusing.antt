-- Why a row isn't put into a table.
use Rattle.std.specs.Prelude.{◌==◌, ◌^◌, ℕ, Bool, nat_lt, nat_le, List, [], ◌∷◌, length, map, Option}
use Rattle.std.specs.List.{list_any, starts_with, range_with_len}
use Rattle.aria_value.specs.declared.value.Value.{Value}
use Rattle.aria_value.specs.declared.definition.Definition.{Definition}
use Rattle.aria_value.specs.Order.{key_columns}
use Rattle.aria_value.specs.Stored.{row_length}
use Rattle.aria_value.specs.Entry.{entry_bytes}
use Rattle.aria_model.specs.declared.refusal.Refusal.{Refusal}
use Rattle.aria_model.specs.declared.refusal.Refusal.TheVariants.{TableFull, Duplicate, RowTooLong, RowsFull}
use Rattle.aria_model.specs.Step.{bad_column, bad_value, first_key_name, first_of, refused_where}
use Rattle.aria_table.specs.Content.{Content, Walk}

-- ---- the row by itself

-- a column may not hold its value, or the row is too long as it is stored
abbrev pub unfit : Definition → List Value → Option Refusal
unfit d row = first_of (bad_value (bad_column (key_columns d.keys 0) 0 [] d.columns row) ∷ refused_where (nat_lt 65536 (row_length row)) RowTooLong ∷ [])

-- ---- the entries of a row

-- that of each key, in their order
abbrev pub entries_of : Definition → List Value → List (List ℕ)
entries_of d row = map (λ key. entry_bytes d key row) (range_with_len 0 (length d.keys))

-- ---- beside the rows that there are

-- an entry begins with these bytes
abbrev pub has_entry : List ℕ → Walk → Bool
has_entry prefix walk = list_any (λ x. starts_with ◌==◌ x.0 prefix) walk

-- another row has this entry in the first key, or there are as many rows as there may be
abbrev pub unplaced : Definition → Content → List ℕ → Option Refusal
unplaced d c entry = first_of (
    refused_where (has_entry entry (c.walks 0)) (Duplicate (first_key_name d.keys))
    ∷ refused_where (nat_le d.max_rows c.rows) RowsFull
    ∷ [])

-- ---- beside the pages that there are

-- the index file has all the pages that it may have, or the data file has
abbrev pub full : ℕ → ℕ → Option Refusal
full index rows = first_of (refused_where (nat_le (2 ^ 30) index) (TableFull index) ∷ refused_where (nat_le (2 ^ 30) rows) (TableFull rows) ∷ [])

-- ---- all

-- why a row isn't put into a table that holds this content in files of so many pages
abbrev pub insert_refusal : Definition → Content → ℕ → ℕ → List Value → Option Refusal
insert_refusal d c index rows row = first_of (unfit d row ∷ unplaced d c (entry_bytes d 0 row) ∷ full index rows ∷ [])

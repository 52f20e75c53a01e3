-- The pages of a table's two files, and the content that they hold.
use Rattle.std.specs.Prelude.{◌≡◌, ℕ, ◌<◌, ◌≤◌, Bool, List, [], drop, map, Option}
use Rattle.aria_page.specs.Number.{number_of}
use Rattle.aria_table.specs.declared.layout.TheConstants.{ROWS_AT}
use Rattle.aria_keypage.specs.Item.{Item}
use Rattle.aria_block.specs.HoldsRows.{HoldsRows}
use Rattle.aria_key.specs.IndexFile.{HoldsTrees}
use Rattle.aria_table.specs.Content.{Content, Walk}

-- a tree's entries with their targets
abbrev pub pair_of : Item → List ℕ × ℕ
pair_of x = (x.entry, x.to)

abbrev pub pairs : List Item → Walk
pairs xs = map pair_of xs

-- the number of rows in a header
abbrev pub rows_in : List ℕ → ℕ
rows_in header = number_of 4 (drop ROWS_AT header)

-- The index file, of so many pages, holds the entries of the first keys and the number of rows; the data file holds the rows.
pub record HasContent (is_row : List ℕ → Bool) (keys : ℕ) (index_count : ℕ) (index : ℕ → Option (List ℕ)) (data_count : ℕ) (rows : ℕ → Option (List ℕ)) (c : Content) : Type 0 where
  pub walks : ℕ → List Item
  pub trees : HoldsTrees keys index_count index walks
  pub walk : (key : ℕ) → key < keys → c.walks key ≡ pairs (walks key)
  pub none : (key : ℕ) → keys ≤ key → c.walks key ≡ []
  pub number : c.rows ≡ rows_in trees.header
  pub data_file : HoldsRows is_row data_count rows c.pieces c.kept

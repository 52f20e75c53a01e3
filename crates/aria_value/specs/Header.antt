-- The first pages of a table's two files.
use Rattle.std.specs.Prelude.{◌≡◌, ℕ, ◌+◌, ◌-◌, ◌^◌, ◌<◌, ◌⊎◌, Bool, false, ◌&&◌, ◌||◌, ◌==◌, nat_le, List, [], ◌∷◌, ◌++◌, drop, replicate, slice_index, codes, Option, Some, None, IsTrue, if◌then◌else◌}
use Rattle.std.specs.List.{starts_with}
use Rattle.aria_page.specs.declared.lsn.Lsn.{Lsn}
use Rattle.aria_page.specs.Field.{◌>>=◌}
use Rattle.aria_page.specs.declared.page.TheConstants.{BODY_AT}
use Rattle.aria_page.specs.declared.page_kind.PageKind.TheVariants as page_kinds
use Rattle.aria_page.specs.Number.{number_of}
use Rattle.aria_page.specs.Lsn.{IsLsn, lsn_bytes, lsn_of}
use Rattle.aria_page.specs.Page.{with_bytes, zero_page, sealed}
use Rattle.aria_page.specs.Text.{bytes_at, counted}
use Rattle.aria_page.specs.PageKind.{kind_byte}
use Rattle.aria_value.specs.declared.definition.Definition.{Definition}
use Rattle.aria_value.specs.declared.definition.TheConstants.{MAX_KEYS}
use Rattle.aria_value.specs.declared.header.Header.{Header}
use Rattle.aria_value.specs.declared.header.TheConstants.{FORMAT_AT, PLAIN_AT, MARK_AT, CREATED_AT, ROWS_AT, FREE_AT, DELETED_AT, ROOTS_AT, END_AT, LENGTH_AT, DEFINITION_AT}
use Rattle.aria_value.specs.Stored.{definition_bytes}
use Rattle.aria_value.specs.Defined.{IsDefinition, HasNames}
use Rattle.aria_value.specs.Reading.{read_definition}

-- the kind of the page, and the magic
abbrev pub header_front : List ℕ
header_front = kind_byte page_kinds.Header ∷ codes "ARIAOWN1"

-- Bytes 0 to 11 are those of a header: the front; the format, 1 or 2; 1 for a plain table, else 0; the mark, which only a plain table may have.
unfoldable pub begins_header : List ℕ → Bool
begins_header body =
    starts_with ◌==◌ body header_front && (slice_index body FORMAT_AT == 1 || slice_index body FORMAT_AT == 2) && nat_le (slice_index body PLAIN_AT) 1
    && nat_le (slice_index body MARK_AT) (slice_index body PLAIN_AT)

-- the definition behind its length
unfoldable pub definition_in : List ℕ → Option Definition
definition_in body = do
  text ← bytes_at (number_of 2 (drop LENGTH_AT body)) (drop DEFINITION_AT body)
  read_definition text.0

-- the roots of the eight trees
unfoldable pub roots_in : List ℕ → List ℕ
roots_in body =
    number_of 4 (drop ROOTS_AT body) ∷ number_of 4 (drop (ROOTS_AT + 4) body) ∷ number_of 4 (drop (ROOTS_AT + 8) body) ∷ number_of 4 (drop (ROOTS_AT + 12) body)
    ∷ number_of 4 (drop (ROOTS_AT + 16) body) ∷ number_of 4 (drop (ROOTS_AT + 20) body) ∷ number_of 4 (drop (ROOTS_AT + 24) body) ∷ number_of 4 (drop (ROOTS_AT + 28) body) ∷ []

-- the fields, each in its place
unfoldable pub header_of : List ℕ → Definition → Header
header_of body d = record {
  plain = slice_index body PLAIN_AT == 1;
  marked = slice_index body MARK_AT == 1;
  created = lsn_of (drop CREATED_AT body);
  rows = number_of 4 (drop ROWS_AT body);
  free = number_of 4 (drop FREE_AT body);
  deleted = number_of 5 (drop DELETED_AT body);
  roots = roots_in body;
  end = number_of 5 (drop END_AT body);
  definition = d;
  format = slice_index body FORMAT_AT;
}

-- the header that a body spells
unfoldable pub read_header : List ℕ → Option Header
read_header body = if begins_header body then definition_in body >>= (λ d. Some (header_of body d)) else None

-- what holds of each header that is read
pub record IsHeader (h : Header) : Type 0 where
  pub definition : IsDefinition h.definition
  pub names : HasNames h.definition
  pub format : (h.format ≡ 1) ⊎ (h.format ≡ 2)
  pub mark : IsTrue h.marked → IsTrue h.plain
  pub created : IsLsn h.created
  pub deleted : h.deleted < 2 ^ 40
  pub end : h.end < 2 ^ 40

-- ---- a new table

-- the header of a table without rows
abbrev pub new_header : Definition → Bool → Lsn → ℕ → Header
new_header d plain created format = record {
  plain = plain;
  marked = false;
  created = created;
  rows = 0;
  free = 0;
  deleted = if plain then 2 ^ 40 - 1 else 0;
  roots = replicate MAX_KEYS 0;
  end = 0;
  definition = d;
  format = format;
}

-- its first 12 bytes
abbrev pub new_front : Bool → ℕ → List ℕ
new_front plain format = header_front ++ format ∷ (if plain then 1 else 0) ∷ 0 ∷ []

-- no rows, no free page, no deleted block, no trees and no blocks
abbrev pub new_fields : Bool → List ℕ
new_fields plain = replicate 8 0 ++ (replicate 5 (if plain then 255 else 0) ++ replicate 37 0)

-- the definition behind its length
abbrev pub counted_definition : Definition → List ℕ
counted_definition d = counted 2 (definition_bytes d)

unfoldable pub new_header_bytes : Definition → Bool → Lsn → ℕ → List ℕ
new_header_bytes d plain created format = new_front plain format ++ (lsn_bytes created ++ (new_fields plain ++ counted_definition d))

-- the page of zeros with these bytes at the beginning of its body
unfoldable pub new_page : List ℕ → Lsn → List ℕ
new_page bytes created = sealed created (with_bytes BODY_AT bytes zero_page)

-- the first page of the index file
abbrev pub first_index_page : Definition → Bool → Lsn → ℕ → List ℕ
first_index_page d plain created format = new_page (new_header_bytes d plain created format) created

-- the first page of the data file: a page of dynamic rows without blocks, or a bitmap page with empty patterns
abbrev pub first_data_page : Bool → Lsn → List ℕ
first_data_page plain created = new_page ((if plain then kind_byte page_kinds.Dynamic else kind_byte page_kinds.Bitmap) ∷ []) created

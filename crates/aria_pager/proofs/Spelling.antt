-- What is written of a new table.
use Rattle.std.proofs.Common.{◌≡◌, ◌∙◌, ℕ, ◌≤◌, false, length, ap, sym, refl, subst, Option, Some, Ok}
use Rattle.std.specs.Option.{option_map_or}
use Rattle.aria_page.specs.Lsn.{IsLsn, lsn_number}
use Rattle.aria_page.specs.declared.place.Part.{Part}
use Rattle.aria_page.specs.declared.place.Part.TheVariants.{Keys, Rows}
use Rattle.aria_page.specs.Page.{Sums, zero_page, page_body}
use Rattle.aria_value.specs.declared.definition.Definition.{Definition}
use Rattle.aria_value.specs.Defined.{IsDefinition, HasNames}
use Rattle.aria_value.specs.Header.{first_index_page, first_data_page}
use Rattle.aria_value.specs.Reading.{read_definition}
use Rattle.aria_value.specs.Stored.{definition_bytes}
use Rattle.aria_value.proofs.StoredDefinitions.{definitions_only}
use Rattle.aria_recovery.specs.Redo.{page_number}
use Rattle.aria_recovery.proofs.Seeing.{made_number}
use Rattle.aria_recovery.specs.Tables.{first_of, made_page}
use Rattle.aria_pager.specs.declared.new_table.NewTable.{NewTable}
use Rattle.aria_pager.specs.Filing.{maker_in, first_page, IsNewTable, IsWhole}

pub new_table : (d : Definition) (table : NewTable) → IsDefinition d → HasNames d → table.stored ≡ definition_bytes d → length table.stored ≤ 4814 → IsLsn table.created → table.keys ≡ first_index_page d false table.created 1 → table.rows ≡ first_data_page false table.created
    → Sums table.keys × Sums table.rows → (length (page_body table.keys) ≡ 8181) × (length (page_body table.rows) ≡ 8181) → IsNewTable d table
unfolding made_page
new_table d table is names stored small fits keys rows sums long = record {
  stored = stored;
  spelled = spelled;
  small = small;
  fits = fits;
  keys = keys ∙ sym (ap (λ (o : Option Definition). option_map_or (λ e. first_of (maker_in table) e Keys) o zero_page) spelled);
  rows = rows ∙ sym (ap (λ (o : Option Definition). option_map_or (λ e. first_of (maker_in table) e Rows) o zero_page) spelled);
  first = first;
  sums = sums;
  long = long;
}
  where
    spelled : read_definition table.stored ≡ Some d
    spelled = definitions_only {E = ℕ} table.stored d (Ok (read_definition table.stored)) is names stored refl

    first : (part : Part) → made_page (maker_in table) part ≡ first_page d table.created part
    first Keys = ap (λ (o : Option Definition). option_map_or (λ e. first_of (maker_in table) e Keys) o zero_page) spelled
    first Rows = ap (λ (o : Option Definition). option_map_or (λ e. first_of (maker_in table) e Rows) o zero_page) spelled

-- its first pages bear the number of its making
pub new_number : (d : Definition) (table : NewTable) (p : Part) → IsNewTable d table → page_number (made_page (maker_in table) p) ≡ lsn_number table.created
new_number d table p is = made_number (maker_in table) d p is.spelled is.fits

-- and are sealed
pub new_sums : (d : Definition) (table : NewTable) (p : Part) → IsNewTable d table → Sums (made_page (maker_in table) p)
new_sums d table Keys is = subst Sums is.keys is.sums.0
new_sums d table Rows is = subst Sums is.rows is.sums.1

-- its first pages are sealed, and bodies have their length
pub new_whole : (d : Definition) (table : NewTable) (p : Part) → IsNewTable d table → IsWhole (first_page d table.created p)
new_whole d table Keys is = subst IsWhole (is.keys ∙ is.first Keys) (record { sums = is.sums.0; long = is.long.0 })
new_whole d table Rows is = subst IsWhole (is.rows ∙ is.first Rows) (record { sums = is.sums.1; long = is.long.1 })

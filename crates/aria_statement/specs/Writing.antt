-- A definition as the code reads it, as one that is written.
use Rattle.aria_model.specs.Grammar.{WrittenType, AnInt, AText, WrittenColumn, Special, Plain, Spatial, Fulltext, WrittenKey, TableKind, Trans, PlainTable, Packed}
use Rattle.aria_statement.specs.declared.written.WrittenType.{WrittenType as FoundType}
use Rattle.aria_statement.specs.declared.written.WrittenType.TheVariants as types
use Rattle.aria_statement.specs.declared.written.WrittenColumn.{WrittenColumn as FoundColumn}
use Rattle.aria_statement.specs.declared.written.Special.{Special as FoundSpecial}
use Rattle.aria_statement.specs.declared.written.Special.TheVariants as specials
use Rattle.aria_statement.specs.declared.written.WrittenKey.{WrittenKey as FoundKey}
use Rattle.aria_statement.specs.declared.written.TableKind.{TableKind as FoundKind}
use Rattle.aria_statement.specs.declared.written.TableKind.TheVariants as kinds

abbrev pub type_seen : FoundType → WrittenType
type_seen types.Int = AnInt
type_seen (types.Text n) = AText n

abbrev pub column_seen : FoundColumn → WrittenColumn
column_seen column = (column.name, type_seen column.kind)

abbrev pub special_seen : FoundSpecial → Special
special_seen specials.Plain = Plain
special_seen specials.Spatial = Spatial
special_seen specials.Fulltext = Fulltext

abbrev pub key_seen : FoundKey → WrittenKey
key_seen key = record { name = key.name; columns = key.columns; special = special_seen key.special }

abbrev pub kind_seen : FoundKind → TableKind
kind_seen kinds.Trans = Trans
kind_seen kinds.Plain = PlainTable
kind_seen kinds.Packed = Packed

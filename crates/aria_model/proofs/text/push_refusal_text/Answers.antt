-- Each refusal's line, where the search over all of them stops at its limits.
use Rattle.std.proofs.Common.{refl, codes}
use Rattle.aria_model.specs.Text.{which_text}
use Rattle.std.specs.Fmt.{decimal}
use Rattle.aria_model.proofs.OneLine.{no_end-append, no_end-decimal, no_end-which}
use Rattle.aria_model.proofs.text.push_refusal_text.Goals as goal

pub returns-in-TableCrashed-clause-spelled : goal.returns-in-TableCrashed-clause-spelled
returns-in-TableCrashed-clause-spelled c = rw c.in-TableCrashed.is c.push_named.ensures.spelled

pub returns-in-RowTooLong-clause-spelled : goal.returns-in-RowTooLong-clause-spelled
returns-in-RowTooLong-clause-spelled c = rw c.in-RowTooLong.is c.extend_from_slice-in-RowTooLong.ensures.ok

pub returns-in-BadDefinition-clause-spelled : goal.returns-in-BadDefinition-clause-spelled
returns-in-BadDefinition-clause-spelled c = rw c.in-BadDefinition.is (rw c.which_text.ensures at c.push_both.ensures)

pub returns-in-BadDefinition-clause-on_line : goal.returns-in-BadDefinition-clause-on_line
returns-in-BadDefinition-clause-on_line c = rw c.in-BadDefinition.is (no_end-append (codes "bad definition ") (which_text c.in-BadDefinition.which) refl (no_end-which c.in-BadDefinition.which))

pub returns-in-TableCrashed-clause-on_line : goal.returns-in-TableCrashed-clause-on_line
returns-in-TableCrashed-clause-on_line c = rw c.in-TableCrashed.is (c.push_named.ensures.on_line refl)

pub returns-in-Duplicate-clause-on_line : goal.returns-in-Duplicate-clause-on_line
returns-in-Duplicate-clause-on_line c = rw c.in-Duplicate.is (c.push_named-in-Duplicate.ensures.on_line refl)

pub returns-in-BadValue-clause-on_line : goal.returns-in-BadValue-clause-on_line
returns-in-BadValue-clause-on_line c = rw c.in-BadValue.is (c.push_named-in-BadValue.ensures.on_line refl)

pub returns-in-NoTable-clause-on_line : goal.returns-in-NoTable-clause-on_line
returns-in-NoTable-clause-on_line c = rw c.in-NoTable.is (c.push_named-in-NoTable.ensures.on_line refl)

pub returns-in-TableExists-clause-on_line : goal.returns-in-TableExists-clause-on_line
returns-in-TableExists-clause-on_line c = rw c.in-TableExists.is (c.push_named-in-TableExists.ensures.on_line refl)

pub returns-in-NoKey-clause-on_line : goal.returns-in-NoKey-clause-on_line
returns-in-NoKey-clause-on_line c = rw c.in-NoKey.is (c.push_named-in-NoKey.ensures.on_line refl)

pub returns-in-NoColumn-clause-on_line : goal.returns-in-NoColumn-clause-on_line
returns-in-NoColumn-clause-on_line c = rw c.in-NoColumn.is (c.push_named-in-NoColumn.ensures.on_line refl)

pub returns-in-BadStatement-clause-on_line : goal.returns-in-BadStatement-clause-on_line
returns-in-BadStatement-clause-on_line c = rw c.in-BadStatement.is (no_end-append (codes "bad statement at ") (decimal c.in-BadStatement.at) refl (no_end-decimal c.in-BadStatement.at))

pub returns-in-NumberTooWide-clause-on_line : goal.returns-in-NumberTooWide-clause-on_line
returns-in-NumberTooWide-clause-on_line c = rw c.in-NumberTooWide.is (no_end-append (codes "number too wide at ") (decimal c.in-NumberTooWide.at) refl (no_end-decimal c.in-NumberTooWide.at))

pub returns-in-LogSpent-clause-on_line : goal.returns-in-LogSpent-clause-on_line
returns-in-LogSpent-clause-on_line c = rw c.in-LogSpent.is (no_end-append (codes "log spent ") (decimal c.in-LogSpent.file) refl (no_end-decimal c.in-LogSpent.file))

pub returns-in-TableFull-clause-on_line : goal.returns-in-TableFull-clause-on_line
returns-in-TableFull-clause-on_line c = rw c.in-TableFull.is (no_end-append (codes "table full ") (decimal c.in-TableFull.pages) refl (no_end-decimal c.in-TableFull.pages))

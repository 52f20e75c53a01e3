use Rattle.std.proofs.Common.{◌≡◌, [], arith, sym, ap, ◌∙◌, length, le-leb}
use Rattle.std.specs.Prelude.{None, Some, true, false, nat_lt, nat_le}
use Rattle.std.specs.Option.{is_some}
use Rattle.std.specs.BTreeMap.{get}
use Rattle.std.proofs.lemmas.Bool.{lt-leb}
use Rattle.aria_value.specs.Order.{key_columns}
use Rattle.aria_value.specs.Stored.{row_length}
use Rattle.aria_model.specs.Step.{bad_column}
use Rattle.aria_memory.specs.Keyed.{values_cmp}
use Rattle.aria_memory.proofs.Keyed.{refusal_by}
use Rattle.aria_memory.proofs.Stopping.{no_column_bad}
use Rattle.aria_memory.proofs.check.check_row.Goals as goal

pub returns-then-contains_key : goal.returns-then-contains_key
returns-then-contains_key c =
    let d = c.args.definition.now in
    let es = c.args.rows.now.entries in
    let row = c.args.row.now in
    let bad : bad_column (key_columns d.keys 0) 0 [] d.columns row ≡ None = cc (no_column_bad c.bad_column.result c.in_ok-holds_values.ensures, c.bad_column.ensures, c.first_key_columns.ensures, c.as_slice-columns.ensures, c.as_slice.ensures) in
    let short : nat_lt 65536 (row_length row) ≡ false = cc (c.is_too_long.ensures, c.as_slice-2.ensures, c.if-is_too_long.false) in
    let twice : is_some (get values_cmp c.args.rows.now c.args.key.now) ≡ true = sym c.contains_key.ensures ∙ c.if-contains_key.true in
    ap Some c.duplicate.ensures
    ∙ sym (refusal_by d es c.args.key.now row None false true (nat_le d.max_rows (length es)) c.requires.keyed c.requires.key bad short twice (λ i. nat_le d.max_rows (length es)))

pub returns-then-len-definition : goal.returns-then-len-definition
returns-then-len-definition c =
    let d = c.args.definition.now in
    let es = c.args.rows.now.entries in
    let row = c.args.row.now in
    let bad : bad_column (key_columns d.keys 0) 0 [] d.columns row ≡ None = cc (no_column_bad c.bad_column.result c.in_ok-holds_values.ensures, c.bad_column.ensures, c.first_key_columns.ensures, c.as_slice-columns.ensures, c.as_slice.ensures) in
    let short : nat_lt 65536 (row_length row) ≡ false = cc (c.is_too_long.ensures, c.as_slice-2.ensures, c.if-is_too_long.false) in
    let once : is_some (get values_cmp c.args.rows.now c.args.key.now) ≡ false = sym c.contains_key.ensures ∙ c.if-contains_key.false in
    sym (refusal_by d es c.args.key.now row None false false true c.requires.keyed c.requires.key bad short once (le-leb d.max_rows (length es) (omega arith)))

pub returns : goal.returns
returns c =
    let d = c.args.definition.now in
    let es = c.args.rows.now.entries in
    let row = c.args.row.now in
    let bad : bad_column (key_columns d.keys 0) 0 [] d.columns row ≡ None = cc (no_column_bad c.bad_column.result c.in_ok-holds_values.ensures, c.bad_column.ensures, c.first_key_columns.ensures, c.as_slice-columns.ensures, c.as_slice.ensures) in
    let short : nat_lt 65536 (row_length row) ≡ false = cc (c.is_too_long.ensures, c.as_slice-2.ensures, c.if-is_too_long.false) in
    let once : is_some (get values_cmp c.args.rows.now c.args.key.now) ≡ false = sym c.contains_key.ensures ∙ c.if-contains_key.false in
    sym (refusal_by d es c.args.key.now row None false false false c.requires.keyed c.requires.key bad short once (lt-leb d.max_rows (length es) (omega arith)))

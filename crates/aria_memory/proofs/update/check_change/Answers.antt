use Rattle.std.proofs.Common.{◌≡◌, sym, ap, ◌∙◌}
use Rattle.std.specs.Prelude.{Some, true, false, not, ◌&&◌, nat_lt}
use Rattle.std.specs.Option.{is_some}
use Rattle.std.specs.BTreeMap.{get}
use Rattle.std.specs.Ordering.{is_eq}
use Rattle.aria_value.specs.Stored.{row_length}
use Rattle.aria_memory.specs.Keyed.{values_cmp}
use Rattle.aria_memory.proofs.Changed.{set_refusal_by}
use Rattle.aria_memory.proofs.update.check_change.Goals as goal

pub returns-then-is_too_long : goal.returns-then-is_too_long
returns-then-is_too_long c =
    let key = c.args.key.now in
    let change = c.args.change.now in
    let long : nat_lt 65536 (row_length change.row) ≡ true = cc (c.is_too_long.ensures, c.as_slice.ensures, c.if-is_too_long.true) in
    let twice = not (is_eq (values_cmp key change.key)) && is_some (get values_cmp c.args.rows.now key) in
    sym (set_refusal_by c.args.definition.now c.args.rows.now.entries change.key key change.row true twice c.requires.keyed c.requires.key c.requires.ordered long (λ i. twice))

pub returns-then-is_taken : goal.returns-then-is_taken
returns-then-is_taken c =
    let key = c.args.key.now in
    let change = c.args.change.now in
    let short : nat_lt 65536 (row_length change.row) ≡ false = cc (c.is_too_long.ensures, c.as_slice.ensures, c.if-is_too_long.false) in
    let twice : (not (is_eq (values_cmp key change.key)) && is_some (get values_cmp c.args.rows.now key)) ≡ true = sym c.is_taken.ensures ∙ c.if-is_taken.true in
    ap Some c.duplicate.ensures
    ∙ sym (set_refusal_by c.args.definition.now c.args.rows.now.entries change.key key change.row false true c.requires.keyed c.requires.key c.requires.ordered short twice)

pub returns : goal.returns
returns c =
    let key = c.args.key.now in
    let change = c.args.change.now in
    let short : nat_lt 65536 (row_length change.row) ≡ false = cc (c.is_too_long.ensures, c.as_slice.ensures, c.if-is_too_long.false) in
    let once : (not (is_eq (values_cmp key change.key)) && is_some (get values_cmp c.args.rows.now key)) ≡ false = sym c.is_taken.ensures ∙ c.if-is_taken.false in
    sym (set_refusal_by c.args.definition.now c.args.rows.now.entries change.key key change.row false false c.requires.keyed c.requires.key c.requires.ordered short once)

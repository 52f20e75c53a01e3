use Rattle.std.proofs.Common.{◌≡◌, length, map, sym, ap, ◌∙◌}
use Rattle.std.specs.Prelude.{None, Some, false, nat_lt}
use Rattle.std.specs.Option.{option_map}
use Rattle.std.specs.BTreeMap.{values}
use Rattle.std.proofs.lemmas.List.{length-map}
use Rattle.aria_model.specs.declared.refusal.Exception.TheVariants.{Spent}
use Rattle.aria_model.specs.declared.reply.Reply.TheVariants.{Count}
use Rattle.aria_model.specs.World.{with_table}
use Rattle.aria_model.specs.Step.{refused, concerned, set_all, update}
use Rattle.aria_memory.specs.Worlds.{table_of}
use Rattle.aria_memory.specs.Updated.{change_of}
use Rattle.aria_memory.proofs.KeyNumbers.{number_within}
use Rattle.aria_memory.proofs.Outcomes.{sound}
use Rattle.std.proofs.lemmas.Result.{err_from_is_err_and}
use Rattle.aria_memory.proofs.Stopping.{ends_replies, passes, stops, no_exception}
use Rattle.aria_memory.proofs.Updates.{bad_first, leaves_same, update_keyless, update_is, update_many, update_spent, update_refused, update_set}
use Rattle.aria_memory.proofs.table.Table.update.Goals as goal

pub returns-in_err-number : goal.returns-in_err-number
returns-in_err-number c =
    let p = err_from_is_err_and c.from_residual.result c.from_residual.ensures.1 in
    rw (p.1, p.2) (λ world name has.
    let table = c.args.self.now in
    let exception = option_map Spent c.args.spent in
    leaves_same world name (table_of table) (update world name c.args.key c.args.sought.now c.args.settings.now exception) _ has
    (update_keyless world name table.definition (values table.rows) c.args.key c.args.sought.now c.args.settings.now exception has c.in_err-number.ensures.none.1
    ∙ ap (refused world) (sym c.in_err-number.ensures.none.0)))

pub check_update-requires-clause-number : goal.check_update-requires-clause-number
check_update-requires-clause-number c = number_within c.args.self.now.definition.keys c.args.key c.in_ok-number.number c.in_ok-number.ensures.found

pub returns-in_err-check_update : goal.returns-in_err-check_update
returns-in_err-check_update c =
    let p = err_from_is_err_and c.from_residual-in_err-check_update.result c.from_residual-in_err-check_update.ensures.1 in
    rw (p.1, p.2) (λ world name has.
    let table = c.args.self.now in
    let d = table.definition in
    let rows = values table.rows in
    let number = c.in_ok-number.number in
    let exception = option_map Spent c.args.spent in
    let why = c.in_err-check_update.field-0.0 in
    leaves_same world name (table_of table) (update world name c.args.key c.args.sought.now c.args.settings.now exception) why has
    (update_is world name d rows c.args.key c.args.sought.now c.args.settings.now exception number (Some why)
    (concerned d number c.args.sought.now rows) has c.in_ok-number.ensures.found (sym c.in_err-check_update.ensures) (λ i. concerned d number c.args.sought.now rows)))

pub returns-in_err-few_enough : goal.returns-in_err-few_enough
returns-in_err-few_enough c =
    let p = err_from_is_err_and c.from_residual-in_err-few_enough.result c.from_residual-in_err-few_enough.ensures.1 in
    rw (p.1, p.2) (λ world name has.
    let table = c.args.self.now in
    let d = table.definition in
    let rows = values table.rows in
    let number = c.in_ok-number.number in
    let sought = c.args.sought.now in
    let settings = c.args.settings.now in
    let exception = option_map Spent c.args.spent in
    let all = concerned d number sought rows in
    let is = c.in_ok-number.ensures.found in
    let none : bad_first d sought settings number ≡ None = sym c.in_ok-check_update.ensures in
    let size : length all ≡ length c.as_slice-count.result.now =
    ap length (sym c.in_ok-found.ensures.found) ∙ length-map c.in_ok-found.found.items _ ∙ ap length (sym c.as_slice-count.ensures.value) in
    let why = c.in_err-few_enough.field-0.0 in
    let many = stops _ _ why c.in_err-few_enough.ensures in
    leaves_same world name (table_of table) (update world name c.args.key sought settings exception) why has
    (update_is world name d rows c.args.key sought settings exception number None all has is none (λ i. all)
    ∙ update_many world name d rows settings exception all (ap (nat_lt 65536) size ∙ many.0)
    ∙ ap (refused world) many.1))

pub returns-in_err-has_room : goal.returns-in_err-has_room
returns-in_err-has_room c =
    let p = err_from_is_err_and c.from_residual-in_err-has_room.result c.from_residual-in_err-has_room.ensures.1 in
    rw (p.1, p.2) (λ world name has.
    let table = c.args.self.now in
    let d = table.definition in
    let rows = values table.rows in
    let number = c.in_ok-number.number in
    let sought = c.args.sought.now in
    let settings = c.args.settings.now in
    let exception = option_map Spent c.args.spent in
    let all = concerned d number sought rows in
    let is = c.in_ok-number.ensures.found in
    let none : bad_first d sought settings number ≡ None = sym c.in_ok-check_update.ensures in
    let size : length all ≡ length c.as_slice-count.result.now =
    ap length (sym c.in_ok-found.ensures.found) ∙ length-map c.in_ok-found.found.items _ ∙ ap length (sym c.as_slice-count.ensures.value) in
    let few : nat_lt 65536 (length all) ≡ false = ap (nat_lt 65536) size ∙ passes _ _ c.in_ok-few_enough.ensures in
    let why = c.in_err-has_room.field-0.0 in
    leaves_same world name (table_of table) (update world name c.args.key sought settings exception) why has
    (update_is world name d rows c.args.key sought settings exception number None all has is none (λ i. all)
    ∙ update_spent world name d rows settings exception all why few (sym c.in_err-has_room.ensures)))

pub returns-in_err-update_all : goal.returns-in_err-update_all
returns-in_err-update_all c =
    let p = err_from_is_err_and c.from_residual-in_err-update_all.result c.from_residual-in_err-update_all.ensures.1 in
    rw (p.1, p.2) (ends_replies _ _ (λ why updates world name has.
    let table = c.args.self.now in
    let d = table.definition in
    let rows = values table.rows in
    let number = c.in_ok-number.number in
    let sought = c.args.sought.now in
    let settings = c.args.settings.now in
    let exception = option_map Spent c.args.spent in
    let all = concerned d number sought rows in
    let is = c.in_ok-number.ensures.found in
    let none : bad_first d sought settings number ≡ None = sym c.in_ok-check_update.ensures in
    let size : length all ≡ length c.as_slice-count.result.now =
    ap length (sym c.in_ok-found.ensures.found) ∙ length-map c.in_ok-found.found.items _ ∙ ap length (sym c.as_slice-count.ensures.value) in
    let few : nat_lt 65536 (length all) ≡ false = ap (nat_lt 65536) size ∙ passes _ _ c.in_ok-few_enough.ensures in
    let room : exception ≡ None = no_exception c.args.spent c.in_ok-has_room.ensures in
    let are : c.in_ok-changes.changes.items ≡ map (change_of d settings) all =
    c.in_ok-changes.ensures ∙ ap (λ (found : _). map (change_of d settings) (map (λ r. r.now) found)) c.as_slice.ensures.value ∙ ap (map (change_of d settings)) c.in_ok-found.ensures.found in
    let refusal : Some why ≡ (set_all d settings None 1 rows all).refusal = updates.refusal settings all are in
    let same = leaves_same world name (table_of table) (update world name c.args.key sought settings exception) why has
    (update_is world name d rows c.args.key sought settings exception number None all has is none (λ i. all)
    ∙ update_refused world name d rows settings exception all why few room refusal) in
    record {
      world = ap (λ (told : _). with_table world name (Some (sound d told))) (updates.rows settings all are) ∙ same.world;
      reply = same.reply;
    }) c.in_err-update_all.field-0.0 c.in_err-update_all.ensures.updates)

pub returns : goal.returns
returns c = λ world name has.
    let table = c.args.self.now in
    let d = table.definition in
    let rows = values table.rows in
    let number = c.in_ok-number.number in
    let sought = c.args.sought.now in
    let settings = c.args.settings.now in
    let exception = option_map Spent c.args.spent in
    let all = concerned d number sought rows in
    let is = c.in_ok-number.ensures.found in
    let none : bad_first d sought settings number ≡ None = sym c.in_ok-check_update.ensures in
    let size : length all ≡ length c.as_slice-count.result.now =
    ap length (sym c.in_ok-found.ensures.found) ∙ length-map c.in_ok-found.found.items _ ∙ ap length (sym c.as_slice-count.ensures.value) in
    let few : nat_lt 65536 (length all) ≡ false = ap (nat_lt 65536) size ∙ passes _ _ c.in_ok-few_enough.ensures in
    let room : exception ≡ None = no_exception c.args.spent c.in_ok-has_room.ensures in
    let are : c.in_ok-changes.changes.items ≡ map (change_of d settings) all =
    c.in_ok-changes.ensures ∙ ap (λ (found : _). map (change_of d settings) (map (λ r. r.now) found)) c.as_slice.ensures.value ∙ ap (map (change_of d settings)) c.in_ok-found.ensures.found in
    let updates = c.in_ok-update_all.ensures.updates in
    let outcome = update_is world name d rows c.args.key sought settings exception number None all has is none (λ i. all)
    ∙ update_set world name d rows (values c.update_all.new.rows) settings exception all few room (updates.refusal settings all are) (updates.rows settings all are) in
    record {
      world = sym (ap (λ o. o.world) outcome);
      reply = ap Count (sym size) ∙ sym (ap (λ o. o.reply) outcome);
    }

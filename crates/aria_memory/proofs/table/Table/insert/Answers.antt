use Rattle.std.proofs.Common.{◌≡◌, sym, ap, ◌∙◌, length}
use Rattle.std.specs.Prelude.{None, Some, false, nat_lt}
use Rattle.std.specs.Option.{option_map}
use Rattle.std.specs.BTreeMap.{values}
use Rattle.std.specs.Map.{values_of}
use Rattle.std.proofs.lemmas.Result.{err_from_is_err_and}
use Rattle.aria_model.specs.declared.refusal.Exception.TheVariants.{Spent}
use Rattle.aria_model.specs.declared.reply.Reply.TheVariants.{Count}
use Rattle.aria_model.specs.World.{with_table}
use Rattle.aria_model.specs.Step.{refused, insert, put_all}
use Rattle.aria_memory.proofs.Outcomes.{sound, insert_many, insert_spent, insert_refused, insert_put}
use Rattle.aria_memory.proofs.Stopping.{ends_replies, passes, stops, no_exception}
use Rattle.aria_memory.proofs.Updates.{leaves_same}
use Rattle.aria_memory.proofs.table.Table.insert.Goals as goal

pub returns-in_err-few_enough-clause-inserts : goal.returns-in_err-few_enough-clause-inserts
returns-in_err-few_enough-clause-inserts c =
    let p = err_from_is_err_and c.from_residual.result c.from_residual.ensures.1 in
    rw (p.1, p.2) (λ world name has.
    let d = c.args.self.now.definition in
    let old = values c.args.self.now.rows in
    let exception = option_map Spent c.args.spent in
    let why = c.in_err-few_enough.field-0.0 in
    let many = stops _ _ why c.in_err-few_enough.ensures in
    leaves_same world name (sound d old) (insert world name c.args.rows exception) why has
    (insert_many world name d old c.args.rows exception has (ap (nat_lt 65536) (sym c.len-count.ensures) ∙ many.0) ∙ ap (refused world) many.1))

pub returns-in_err-has_room-clause-inserts : goal.returns-in_err-has_room-clause-inserts
returns-in_err-has_room-clause-inserts c =
    let p = err_from_is_err_and c.from_residual-in_err-has_room.result c.from_residual-in_err-has_room.ensures.1 in
    rw (p.1, p.2) (λ world name has.
    let d = c.args.self.now.definition in
    let old = values c.args.self.now.rows in
    let exception = option_map Spent c.args.spent in
    let why = c.in_err-has_room.field-0.0 in
    let few : nat_lt 65536 (length c.args.rows) ≡ false = ap (nat_lt 65536) (sym c.len-count.ensures) ∙ passes _ _ c.in_ok-few_enough.ensures in
    leaves_same world name (sound d old) (insert world name c.args.rows exception) why has
    (insert_spent world name d old c.args.rows exception why has few (sym c.in_err-has_room.ensures)))

pub returns-in_err-insert_all-clause-inserts : goal.returns-in_err-insert_all-clause-inserts
returns-in_err-insert_all-clause-inserts c =
    let p = err_from_is_err_and c.from_residual-in_err-insert_all.result c.from_residual-in_err-insert_all.ensures.1 in
    rw (p.1, p.2) (ends_replies _ _ (λ why refusal world name has.
    let d = c.args.self.now.definition in
    let old = values c.args.self.now.rows in
    let exception = option_map Spent c.args.spent in
    let few : nat_lt 65536 (length c.args.rows) ≡ false = ap (nat_lt 65536) (sym c.len-count.ensures) ∙ passes _ _ c.in_ok-few_enough.ensures in
    let same = leaves_same world name (sound d old) (insert world name c.args.rows exception) why has
    (insert_refused world name d old c.args.rows exception why has few (no_exception c.args.spent c.in_ok-has_room.ensures)
    (refusal ∙ ap (λ (all : _). (put_all d None 1 old all).refusal) c.into_vec.ensures)) in
    record {
      world = ap (λ (es : _). with_table world name (Some (sound d (values_of es)))) c.in_err-insert_all.ensures.err ∙ same.world;
      reply = same.reply;
    }) c.in_err-insert_all.field-0.0 c.in_err-insert_all.ensures.refusal)

pub returns-clause-inserts : goal.returns-clause-inserts
returns-clause-inserts c = λ world name has.
    let d = c.args.self.now.definition in
    let old = values c.args.self.now.rows in
    let rows = c.args.rows in
    let exception = option_map Spent c.args.spent in
    let few : nat_lt 65536 (length rows) ≡ false = ap (nat_lt 65536) (sym c.len-count.ensures) ∙ passes _ _ c.in_ok-few_enough.ensures in
    let done = c.in_ok-insert_all.ensures in
    let outcome = insert_put world name d old rows (values c.insert_all.new.rows) exception has few (no_exception c.args.spent c.in_ok-has_room.ensures)
    (done.refusal ∙ ap (λ (all : _). (put_all d None 1 old all).refusal) c.into_vec.ensures) (done.rows ∙ ap (λ (all : _). (put_all d None 1 old all).rows) c.into_vec.ensures) in
    record {
      world = sym (ap (λ o. o.world) outcome);
      reply = ap Count c.len-count.ensures ∙ sym (ap (λ o. o.reply) outcome);
    }

use Rattle.std.proofs.Common.{◌≡◌, List, length, rules, sym, ap, ◌∙◌}
use Rattle.std.specs.Prelude.{false, Some}
use Rattle.std.specs.BTreeMap.{values}
use Rattle.std.specs.Map.{values_of}
use Rattle.std.proofs.lemmas.List.{length-map}
use Rattle.aria_value.specs.declared.value.Value.{Value}
use Rattle.aria_value.specs.Order.{key_columns}
use Rattle.aria_model.specs.declared.reply.Reply.TheVariants.{Count}
use Rattle.aria_model.specs.World.{Sound, with_table}
use Rattle.aria_model.specs.Step.{concerned, others}
use Rattle.aria_memory.specs.Keyed.{values_cmp, values_in, are_keyed}
use Rattle.aria_memory.specs.Without.{without}
use Rattle.aria_memory.specs.Worlds.{table_of}
use Rattle.aria_memory.proofs.Worlds.{with_table_same}
use Rattle.std.proofs.lemmas.Result.{err_from_is_err_and}
use Rattle.aria_memory.proofs.Stopping.{refused_replies}
use Rattle.aria_memory.proofs.Without.{without_concerned, keyed_without}
use Rattle.aria_memory.proofs.table.Table.delete.Goals as goal

pub invariant_of-self-clause-keyed : goal.invariant_of-self-clause-keyed
invariant_of-self-clause-keyed c =
    let table = c.args.self.now in
    ap (are_keyed table.definition) c.delete_all.ensures ∙ keyed_without table.definition c.in_ok-keys.keys.items table.rows.entries table.keyed

pub returns-in_err-keys-clause-deletes : goal.returns-in_err-keys-clause-deletes
returns-in_err-keys-clause-deletes c =
    let p = err_from_is_err_and c.from_residual.result c.from_residual.ensures.1 in
    rw (p.1, p.2) (refused_replies _ _ (λ why refuses world name has.
    let outcome = refuses world name has in
    record {
      world = with_table_same world name (Some (table_of c.args.self.now)) has ∙ sym (ap (λ o. o.world) outcome);
      reply = sym (ap (λ o. o.reply) outcome);
    }) c.in_err-keys.field-0.0 c.in_err-keys.ensures.refused)

pub returns-clause-deletes : goal.returns-clause-deletes
returns-clause-deletes c = λ world name has.
    let table = c.args.self.now in
    let d = table.definition in
    let sought = c.args.sought.now in
    let taken = c.in_ok-keys.ensures.found in
    let ordered = c.in_ok-keys.ensures.ordered in
    let outcome = taken.outcome world name has in
    let left : values c.delete_all.new.rows ≡ others d taken.number sought (values table.rows) =
    ap values_of c.delete_all.ensures
    ∙ ap (λ (keys : List (List Value)). values_of (without values_cmp keys table.rows.entries)) taken.found
    ∙ without_concerned d taken.number sought table.rows.entries table.keyed ordered in
    let count : c.len-count.result ≡ length c.in_ok-keys.keys.items = search rules in
    record {
      world = ap (λ (rows : _). with_table world name (Some (record { definition = d; plain = false; content = Sound rows }))) left ∙ sym (ap (λ o. o.world) outcome);
      reply = ap Count (count ∙ ap length taken.found ∙ length-map (concerned d taken.number sought (values table.rows)) (values_in (key_columns d.keys 0))) ∙ sym (ap (λ o. o.reply) outcome);
    }

use Rattle.std.proofs.Common.{◌≡◌, sym, ap, ◌∙◌}
use Rattle.std.specs.Prelude.{true}
use Rattle.std.specs.Option.{option_map}
use Rattle.aria_model.specs.declared.refusal.Exception.TheVariants.{Spent}
use Rattle.aria_model.specs.Step.{is_taken}
use Rattle.aria_memory.specs.Worlds.{world_of}
use Rattle.aria_memory.proofs.Worlds.{world_without, taken_is}
use Rattle.aria_memory.proofs.Outcomes.{drop_gone}
use Rattle.aria_memory.proofs.Stopping.{no_exception}
use Rattle.aria_memory.proofs.tables.Tables.drop_table.Goals as goal

pub returns-clause-drops : goal.returns-clause-drops
returns-clause-drops c =
    let name = c.args.name in
    let old = world_of c.args.self.now in
    let taken : is_taken (old name) ≡ true = taken_is _ ∙ sym c.contains_key.ensures ∙ c.if-not-contains_key.false in
    let outcome = drop_gone old name (option_map Spent c.args.spent) taken (no_exception c.args.spent c.in_ok-has_room.ensures) in
    record {
      world = world_without c.args.self.now.by_name.entries c.remove.new.self.entries name c.remove.ensures.updates.0 ∙ sym (ap (λ o. o.world) outcome);
      reply = sym (ap (λ o. o.reply) outcome);
    }

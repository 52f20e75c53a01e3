use Rattle.std.proofs.Common.{◌≡◌, sym, ap, ◌∙◌}
use Rattle.std.specs.Prelude.{false, Some}
use Rattle.std.specs.Option.{option_map}
use Rattle.aria_model.specs.declared.refusal.Exception.TheVariants.{Spent}
use Rattle.aria_model.specs.World.{with_table}
use Rattle.aria_model.specs.Step.{is_taken}
use Rattle.aria_memory.specs.Worlds.{world_of}
use Rattle.aria_memory.proofs.Worlds.{world_with, taken_is}
use Rattle.aria_memory.proofs.Outcomes.{create_free}
use Rattle.aria_memory.proofs.Stopping.{no_exception}
use Rattle.aria_memory.proofs.tables.Tables.create.Goals as goal

pub returns-clause-creates : goal.returns-clause-creates
returns-clause-creates c =
    let d = c.args.definition in
    let name = c.args.name in
    let old = world_of c.args.self.now in
    let free : is_taken (old name) ≡ false = taken_is _ ∙ sym c.contains_key.ensures ∙ c.if-contains_key.false in
    let outcome = create_free old name c.args.plain d (option_map Spent c.args.spent) free c.if-plain.false (no_exception c.args.spent c.in_ok-has_room.ensures) in
    record {
      world = world_with c.args.self.now.by_name.entries c.insert.new.self.entries name _ c.in_ok-insert.ensures.updates.0
          ∙ ap (λ table. with_table old name (Some table)) c.new.ensures
          ∙ sym (ap (λ o. o.world) outcome);
      reply = sym (ap (λ o. o.reply) outcome);
    }

-- When statements change the tables.
use Rattle.std.specs.Prelude.{Bool, false, not}
use Rattle.aria_model.specs.declared.reply.Reply.{Reply}
use Rattle.aria_model.specs.Script.{is_refused}
use Rattle.aria_model.specs.Journal.{concerns_some}
use Rattle.aria_engine.specs.declared.changing.Change.{Change}
use Rattle.aria_engine.specs.declared.changing.Change.TheVariants.{Never, Accepted, Concerned}

-- a statement of such a kind changed the tables, by its reply
abbrev pub changed_by : Change → Reply → Bool
changed_by Never reply = false
changed_by Accepted reply = not (is_refused reply)
changed_by Concerned reply = concerns_some reply

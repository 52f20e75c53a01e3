use Rattle.std.proofs.Common.{◌≡◌, ℕ, List, subst}
use Rattle.std.specs.Prelude.{Option, Result}
use Rattle.std.specs.Option.{option_map}
use Rattle.aria_model.specs.declared.stopped.Stopped.{Stopped}
use Rattle.aria_memory.proofs.Stopping.{replies_weaker}
use Rattle.aria_value.specs.declared.value.Value.{Value}
use Rattle.aria_model.specs.World.{World}
use Rattle.aria_model.specs.declared.reply.Reply.{Reply}
use Rattle.aria_model.specs.declared.statement.Setting.{Setting}
use Rattle.aria_model.specs.declared.refusal.Exception.{Exception}
use Rattle.aria_model.specs.declared.refusal.Exception.TheVariants.{Spent}
use Rattle.aria_model.specs.declared.statement.Statement.TheVariants.{Create, Insert, Delete, Update, Drop, Flush}
use Rattle.aria_model.specs.Step.{create, insert, delete, update, drop, flush}
use Rattle.aria_model.proofs.Kept.{kept}
use Rattle.aria_memory.specs.Worlds.{world_of}
use Rattle.aria_memory.specs.Performs.{Leaves}
use Rattle.aria_memory.specs.Stopping.{Replies}
use Rattle.aria_memory.proofs.Outcomes.{create-rows, insert-rows, drop-rows, flush-rows}
use Rattle.aria_memory.proofs.Kept.{no_plain}
use Rattle.aria_memory.proofs.Seeking.{delete-rows}
use Rattle.aria_memory.proofs.Updates.{update-rows}
use Rattle.aria_memory.proofs.Quiet.{tells_none, keeps_all}
use Rattle.aria_memory.proofs.tables.Tables.perform.Goals as goal

-- an update by the slices of its lists
updated : (old : World) (name key : List ℕ) (values given : List Value) (settings set : List Setting) (spent : Option Exception) (new : World) (result : Result Reply Stopped)
    → given ≡ values → set ≡ settings → Replies result (Leaves (update old name key given set spent) new) → Replies result (Leaves (update old name key values settings spent) new)
updated old name key values given settings set spent new result v s done =
    subst (λ g. Replies result (Leaves (update old name key g settings spent) new)) v (subst (λ x. Replies result (Leaves (update old name key given x spent) new)) s done)

pub returns-in-Create-clause-performs : goal.returns-in-Create-clause-performs
returns-in-Create-clause-performs c = rw c.in-Create.is (
    let old = world_of c.args.self.now in
    let new = world_of c.create.new.self in
    let spent = option_map Spent c.args.spent in
    let name = c.in-Create.name in
    let plain = c.in-Create.plain in
    let definition = c.in-Create.definition in
    replies_weaker c.create.result (Leaves (create old name plain definition spent) new) _
    (λ reply leaves. tells_none old new (Create name plain definition) spent c.args.text.now reply (create-rows old name plain definition spent) leaves)
    c.create.ensures.creates)

pub returns-in-Create-clause-kept : goal.returns-in-Create-clause-kept
returns-in-Create-clause-kept c = rw c.in-Create.is (
    let old = world_of c.args.self.now in
    let new = world_of c.create.new.self in
    let spent = option_map Spent c.args.spent in
    let name = c.in-Create.name in
    let plain = c.in-Create.plain in
    let definition = c.in-Create.definition in
    replies_weaker c.create.result (Leaves (create old name plain definition spent) new) _
    (λ reply leaves. keeps_all old new (Create name plain definition) spent reply (kept old (Create name plain definition) spent (no_plain c.args.self.now)) leaves)
    c.create.ensures.creates)

pub returns-in-Insert-clause-performs : goal.returns-in-Insert-clause-performs
returns-in-Insert-clause-performs c = rw c.in-Insert.is (
    let old = world_of c.args.self.now in
    let new = world_of c.insert.new.self in
    let spent = option_map Spent c.args.spent in
    let name = c.in-Insert.name in
    let rows = c.in-Insert.rows in
    replies_weaker c.insert.result (Leaves (insert old name rows spent) new) _
    (λ reply leaves. tells_none old new (Insert name rows) spent c.args.text.now reply (insert-rows old name rows spent) leaves)
    c.insert.ensures.inserts)

pub returns-in-Insert-clause-kept : goal.returns-in-Insert-clause-kept
returns-in-Insert-clause-kept c = rw c.in-Insert.is (
    let old = world_of c.args.self.now in
    let new = world_of c.insert.new.self in
    let spent = option_map Spent c.args.spent in
    let name = c.in-Insert.name in
    let rows = c.in-Insert.rows in
    replies_weaker c.insert.result (Leaves (insert old name rows spent) new) _
    (λ reply leaves. keeps_all old new (Insert name rows) spent reply (kept old (Insert name rows) spent (no_plain c.args.self.now)) leaves)
    c.insert.ensures.inserts)

pub returns-in-Delete-clause-performs : goal.returns-in-Delete-clause-performs
returns-in-Delete-clause-performs c = rw c.in-Delete.is (
    let old = world_of c.args.self.now in
    let new = world_of c.delete.new.self in
    let spent = option_map Spent c.args.spent in
    let name = c.in-Delete.name in
    let key = c.in-Delete.key in
    let sought = c.in-Delete.values in
    replies_weaker c.delete.result (Leaves (delete old name key sought spent) new) _
    (λ reply leaves. tells_none old new (Delete name key sought) spent c.args.text.now reply (delete-rows old name key sought spent) leaves)
    (subst (λ (vs : List Value). Replies c.delete.result (Leaves (delete old name key vs spent) new)) c.as_slice.ensures c.delete.ensures.deletes))

pub returns-in-Delete-clause-kept : goal.returns-in-Delete-clause-kept
returns-in-Delete-clause-kept c = rw c.in-Delete.is (
    let old = world_of c.args.self.now in
    let new = world_of c.delete.new.self in
    let spent = option_map Spent c.args.spent in
    let name = c.in-Delete.name in
    let key = c.in-Delete.key in
    let sought = c.in-Delete.values in
    replies_weaker c.delete.result (Leaves (delete old name key sought spent) new) _
    (λ reply leaves. keeps_all old new (Delete name key sought) spent reply (kept old (Delete name key sought) spent (no_plain c.args.self.now)) leaves)
    (subst (λ (vs : List Value). Replies c.delete.result (Leaves (delete old name key vs spent) new)) c.as_slice.ensures c.delete.ensures.deletes))

pub returns-in-Update-clause-performs : goal.returns-in-Update-clause-performs
returns-in-Update-clause-performs c = rw c.in-Update.is (
    let old = world_of c.args.self.now in
    let new = world_of c.update.new.self in
    let spent = option_map Spent c.args.spent in
    let name = c.in-Update.name in
    let key = c.in-Update.key in
    let values = c.in-Update.values in
    let settings = c.in-Update.set in
    replies_weaker c.update.result (Leaves (update old name key values settings spent) new) _
    (λ reply leaves. tells_none old new (Update name key values settings) spent c.args.text.now reply (update-rows old name key values settings spent) leaves)
    (updated old name key values c.as_slice-in-Update.result.now settings c.as_slice-in-Update-2.result.now spent new c.update.result c.as_slice-in-Update.ensures c.as_slice-in-Update-2.ensures c.update.ensures))

pub returns-in-Update-clause-kept : goal.returns-in-Update-clause-kept
returns-in-Update-clause-kept c = rw c.in-Update.is (
    let old = world_of c.args.self.now in
    let new = world_of c.update.new.self in
    let spent = option_map Spent c.args.spent in
    let name = c.in-Update.name in
    let key = c.in-Update.key in
    let values = c.in-Update.values in
    let settings = c.in-Update.set in
    replies_weaker c.update.result (Leaves (update old name key values settings spent) new) _
    (λ reply leaves. keeps_all old new (Update name key values settings) spent reply (kept old (Update name key values settings) spent (no_plain c.args.self.now)) leaves)
    (updated old name key values c.as_slice-in-Update.result.now settings c.as_slice-in-Update-2.result.now spent new c.update.result c.as_slice-in-Update.ensures c.as_slice-in-Update-2.ensures c.update.ensures))

pub returns-in-Select-clause-performs : goal.returns-in-Select-clause-performs
returns-in-Select-clause-performs c = rw c.in-Select.is (
    replies_weaker c.select.result _ _ (λ reply performs. performs (option_map Spent c.args.spent)) (rw c.as_slice-in-Select.ensures at c.select.ensures))

pub returns-in-Drop-clause-performs : goal.returns-in-Drop-clause-performs
returns-in-Drop-clause-performs c = rw c.in-Drop.is (
    let old = world_of c.args.self.now in
    let new = world_of c.drop_table.new.self in
    let spent = option_map Spent c.args.spent in
    let name = c.in-Drop.name in
    replies_weaker c.drop_table.result (Leaves (drop old name spent) new) _
    (λ reply leaves. tells_none old new (Drop name) spent c.args.text.now reply (drop-rows old name spent) leaves)
    c.drop_table.ensures.drops)

pub returns-in-Drop-clause-kept : goal.returns-in-Drop-clause-kept
returns-in-Drop-clause-kept c = rw c.in-Drop.is (
    let old = world_of c.args.self.now in
    let new = world_of c.drop_table.new.self in
    let spent = option_map Spent c.args.spent in
    let name = c.in-Drop.name in
    replies_weaker c.drop_table.result (Leaves (drop old name spent) new) _
    (λ reply leaves. keeps_all old new (Drop name) spent reply (kept old (Drop name) spent (no_plain c.args.self.now)) leaves)
    c.drop_table.ensures.drops)

pub returns-in-Flush-clause-performs : goal.returns-in-Flush-clause-performs
returns-in-Flush-clause-performs c = rw c.in-Flush.is (
    let old = world_of c.args.self.now in
    let spent = option_map Spent c.args.spent in
    replies_weaker c.flush.result (Leaves (flush old c.in-Flush.name) old) _
    (λ reply leaves. tells_none old old (Flush c.in-Flush.name) spent c.args.text.now reply (flush-rows old c.in-Flush.name) leaves)
    c.flush.ensures)

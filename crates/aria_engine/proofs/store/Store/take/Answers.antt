use Rattle.std.proofs.Common.{◌≡◌, ℕ, Option, List, [], ◌++◌, refl, sym, ap, subst, ◌∙◌}
use Rattle.std.specs.Option.{option_map}
use Rattle.aria_model.specs.declared.refusal.Exception.TheVariants.{Spent}
use Rattle.aria_memory.specs.Performs.{Performs}
use Rattle.aria_memory.specs.Worlds.{world_of}
use Rattle.aria_engine.specs.Entries.{due, entry}
use Rattle.aria_engine.specs.Store.{tables_of, pages_of}
use Rattle.aria_engine.specs.Turns.{spent_of, exception_of}
use Rattle.aria_engine.proofs.Stepping.{passed, turned}
use Rattle.aria_engine.proofs.store.Store.take.Goals as goal

pub returns-in-Ok-None-clause-turned : goal.returns-in-Ok-None-clause-turned
returns-in-Ok-None-clause-turned c = passed c.args.line.now c.args.self.now _ (rw c.in-Ok-None.field-0-is at c.in-Ok-None.ensures.reads) refl refl refl

pub returns-in_ok-finish-in-Ok-Some-clause-turned : goal.returns-in_ok-finish-in-Ok-Some-clause-turned
returns-in_ok-finish-in-Ok-Some-clause-turned c =
    let before = c.args.self.now in
    let s = c.in-Ok-Some.statement in
    let reply = c.in_ok-reply-in-Ok-Some.reply in
    let room : c.spent-spent.result ≡ spent_of (pages_of before) = c.spent-spent.ensures in
    let met_is : c.exception_of.result ≡ exception_of (spent_of (pages_of before)) reply = c.exception_of.ensures ∙ ap (λ (r : Option ℕ). exception_of r reply) room in
    turned c.args.line.now s before _ c.execute.new.text reply c.in_ok-finish-in-Ok-Some.field-0.refused c.in_ok-finish-in-Ok-Some.field-0.changed
    (rw c.in-Ok-Some.field-0-is at c.in-Ok-Some.ensures.reads)
    (subst (λ (r : Option ℕ). Performs (tables_of before) s (option_map Spent r) (world_of c.execute.new.self) [] c.execute.new.text reply) room
    (subst (λ (t : List ℕ). Performs (tables_of before) s (option_map Spent c.spent-spent.result) (world_of c.execute.new.self) t c.execute.new.text reply) c.clear.ensures c.in_ok-reply-in-Ok-Some.ensures.performs))
    c.in_ok-reply-in-Ok-Some.ensures.kept
    refl
    (record {
      count = c.in_ok-note-in-Ok-Some.ensures.count ∙ c.in_ok-nth-in-Ok-Some.ensures.count;
      met = c.in_ok-note-in-Ok-Some.ensures.ok ∙ (λ i. c.begin.ensures.met i ++ entry (c.in_ok-nth-in-Ok-Some.ensures.nth i) (met_is i));
    })
    c.in_ok-finish-in-Ok-Some.ensures.spelled
    c.in_ok-finish-in-Ok-Some.ensures.one_line
    c.in_ok-finish-in-Ok-Some.ensures.refused
    (c.in_ok-finish-in-Ok-Some.ensures.changed ∙ sym (c.change_of-change.ensures reply))

pub returns-in_err-refuse-in-Err-Refused-clause-noted : goal.returns-in_err-refuse-in-Err-Refused-clause-noted
returns-in_err-refuse-in-Err-Refused-clause-noted c = c.refuse.ensures.noted (due (pages_of c.args.self.now) (tables_of c.args.self.now) c.args.line.now)

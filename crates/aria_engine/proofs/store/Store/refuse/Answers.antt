use Rattle.std.proofs.Common.{ℕ, List, ◌++◌, refl, sym, ap, ◌∙◌}
use Rattle.std.proofs.lemmas.List.{append-nil}
use Rattle.aria_model.specs.declared.reply.Reply.TheVariants.{No}
use Rattle.aria_model.specs.Text.{reply_text}
use Rattle.aria_engine.proofs.Stepping.{turned_refused}
use Rattle.aria_engine.proofs.store.Store.refuse.Goals as goal

pub returns-clause-turned : goal.returns-clause-turned
returns-clause-turned c = λ line read.
    turned_refused line c.args.why c.args.self.now _ read refl refl
    (record { count = c.in_ok-begin.ensures.count; met = c.begin.ensures.met ∙ sym (append-nil c.args.self.now.tally.met) })
    (c.in_ok-push_reply_text.ensures.spelled ∙ ap (λ (l : List ℕ). l ++ reply_text (No c.args.why)) c.requires.text)
    c.in_ok-push_reply_text.ensures.one_line

-- Statements that tell no rows.
use Rattle.std.specs.Prelude.{◌≡◌, ℕ, false, List, [], ◌++◌, Option}
use Rattle.std.specs.List.{flat_map}
use Rattle.std.proofs.Common.{sym, ap, ◌∙◌}
use Rattle.std.proofs.lemmas.List.{append-nil}
use Rattle.aria_model.specs.declared.refusal.Exception.{Exception}
use Rattle.aria_model.specs.declared.reply.Reply.{Reply}
use Rattle.aria_model.specs.declared.statement.Statement.{Statement}
use Rattle.aria_model.specs.World.{World}
use Rattle.aria_model.specs.Text.{row_text}
use Rattle.aria_model.specs.Step.{perform}
use Rattle.aria_model.specs.Journal.{changes}
use Rattle.aria_memory.specs.Performs.{Performs, Leaves}

-- a statement that tells no rows adds no lines
pub tells_none : (old new : World) (statement : Statement) (exception : Option Exception) (text : List ℕ) (answer : Reply) → (perform old statement exception).rows ≡ []
    → Leaves (perform old statement exception) new answer → Performs old statement exception new text text answer
tells_none old new statement exception text answer none leaves = record {
  world = leaves.world;
  rows = sym (append-nil text) ∙ ap (λ (rows : _). text ++ flat_map row_text rows) (sym none);
  reply = leaves.reply;
}

-- one whose outcome keeps the world where its reply is no change, leaves the tables as they were
pub keeps_all : (old new : World) (statement : Statement) (exception : Option Exception) (answer : Reply)
    → (changes statement (perform old statement exception).reply ≡ false → (perform old statement exception).world ≡ old)
    → Leaves (perform old statement exception) new answer → changes statement answer ≡ false → new ≡ old
keeps_all old new statement exception answer kept leaves same = leaves.world ∙ kept (ap (changes statement) (sym leaves.reply) ∙ same)

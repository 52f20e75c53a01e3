use Rattle.std.proofs.Common.{◌≡◌, ◌<◌, List, ℕ, length, sym, ap, arith}
use Rattle.std.specs.Prelude.{IsTrue}
use Rattle.std.proofs.lemmas.Grind.{common_steps}
use Rattle.std.proofs.lemmas.List.Elements.{All-from_recursion, All-same}
use Rattle.aria_page.specs.Word.{is_word}
use Rattle.aria_value.specs.declared.definition.Column.{Column}
use Rattle.aria_value.specs.declared.definition.Key.{Key}
use Rattle.aria_value.specs.Stored.{definition_bytes}
use Rattle.aria_value.proofs.Definitions.{keys_few}
use Rattle.aria_value.proofs.StoredDefinitions.{names_of, definition_short}
use Rattle.aria_value.proofs.definition_codec.encode_definition.Goals as goal

pub push_list-requires-2-clause-fit : goal.push_list-requires-2-clause-fit
push_list-requires-2-clause-fit c =
    rw c.as_slice-2.ensures (All-from_recursion (λ (key : Key). length key.columns < 256) c.args.definition.now.keys (keys_few c.args.definition.now c.requires))

pub returns-clause-names : goal.returns-clause-names
returns-clause-names c =
    names_of c.args.definition.now
    (All-same (λ (column : Column). IsTrue (is_word column.name)) c.args.definition.now.columns c.as_slice.result.now (sym c.as_slice.ensures) c.in_ok-push_list.ensures.holds)
    (All-same (λ (key : Key). IsTrue (is_word key.name)) c.args.definition.now.keys c.as_slice-2.result.now (sym c.as_slice-2.ensures) c.in_ok-push_list-2.ensures.holds)

pub returns-clause-length : goal.returns-clause-length
returns-clause-length c =
    let same : c.push_u32.new.out ≡ definition_bytes c.args.definition.now = grind (arith, common_steps) in
    omega (arith, ap (λ (l : List ℕ). length l) same, definition_short c.args.definition.now c.requires (returns-clause-names c))

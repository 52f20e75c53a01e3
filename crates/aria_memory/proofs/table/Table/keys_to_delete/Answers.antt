use Rattle.std.proofs.Common.{◌≡◌, length, map, rules, sym, ap, ◌∙◌}
use Rattle.std.specs.Prelude.{None, [], ◌∷◌, true, false, nat_lt}
use Rattle.std.specs.Option.{option_map}
use Rattle.std.specs.BTreeMap.{values}
use Rattle.std.proofs.lemmas.List.{length-map}
use Rattle.std.proofs.lemmas.Result.{err_from_is_err_and}
use Rattle.aria_model.specs.declared.refusal.Exception.TheVariants.{Spent}
use Rattle.aria_model.specs.Step.{refused, first_of, unless, spent, concerned}
use Rattle.aria_value.specs.Order.{key_columns}
use Rattle.aria_memory.specs.Keyed.{values_in}
use Rattle.aria_memory.specs.Seeking.{deleted}
use Rattle.aria_memory.proofs.Outcomes.{sound}
use Rattle.aria_memory.proofs.Seeking.{delete_refused, delete_by}
use Rattle.aria_memory.proofs.Stopping.{passes, stops, no_exception}
use Rattle.aria_memory.proofs.table.Table.keys_to_delete.Goals as goal

pub returns-in_err-number-clause-refused : goal.returns-in_err-number-clause-refused
returns-in_err-number-clause-refused c =
    let p = err_from_is_err_and c.from_residual.result c.from_residual.ensures.1 in
    rw (p.1, p.2) (λ world name has. delete_refused world name c.args.key c.args.sought.now (option_map Spent c.args.spent) c.args.self.now.definition (values c.args.self.now.rows)
    c.in_err-number.field-0.0 has c.in_err-number.ensures.refused)

pub returns-in_err-few_enough-clause-refused : goal.returns-in_err-few_enough-clause-refused
returns-in_err-few_enough-clause-refused c =
    let p = err_from_is_err_and c.from_residual-in_err-few_enough.result c.from_residual-in_err-few_enough.ensures.1 in
    rw (p.1, p.2) (λ world name has.
    let d = c.args.self.now.definition in
    let rows = values c.args.self.now.rows in
    let number = c.in_ok-number.number in
    let many = stops _ _ c.in_err-few_enough.field-0.0 c.in_err-few_enough.ensures in
    let count : c.len.result ≡ length c.in_ok-found.found.items = search rules in
    let size : length (concerned d number c.args.sought.now rows) ≡ c.len.result = ap length (sym c.in_ok-found.ensures.found) ∙ length-map c.in_ok-found.found.items _ ∙ sym count in
    delete_by world name c.args.key c.args.sought.now (option_map Spent c.args.spent) d rows number true has c.in_ok-number.ensures.found c.in_ok-number.ensures.sought (ap (nat_lt 65536) size ∙ many.0)
    ∙ ap (refused world) many.1)

pub returns-in_err-has_room-clause-refused : goal.returns-in_err-has_room-clause-refused
returns-in_err-has_room-clause-refused c =
    let p = err_from_is_err_and c.from_residual-in_err-has_room.result c.from_residual-in_err-has_room.ensures.1 in
    rw (p.1, p.2) (λ world name has.
    let d = c.args.self.now.definition in
    let rows = values c.args.self.now.rows in
    let number = c.in_ok-number.number in
    let count : c.len.result ≡ length c.in_ok-found.found.items = search rules in
    let size : length (concerned d number c.args.sought.now rows) ≡ c.len.result = ap length (sym c.in_ok-found.ensures.found) ∙ length-map c.in_ok-found.found.items _ ∙ sym count in
    delete_by world name c.args.key c.args.sought.now (option_map Spent c.args.spent) d rows number false has c.in_ok-number.ensures.found c.in_ok-number.ensures.sought
    (ap (nat_lt 65536) size ∙ passes _ _ c.in_ok-few_enough.ensures)
    ∙ ap (λ refusal. unless (first_of (None ∷ refusal ∷ [])) world (deleted (sound d rows) number c.args.sought.now rows world name)) (sym c.in_err-has_room.ensures))

pub returns-clause-found : goal.returns-clause-found
returns-clause-found c =
    let d = c.args.self.now.definition in
    let rows = values c.args.self.now.rows in
    let number = c.in_ok-number.number in
    let sought = c.args.sought.now in
    let exception = option_map Spent c.args.spent in
    let count : c.len.result ≡ length c.in_ok-found.found.items = search rules in
    let size : length (concerned d number sought rows) ≡ c.len.result = ap length (sym c.in_ok-found.ensures.found) ∙ length-map c.in_ok-found.found.items _ ∙ sym count in
    record {
      number = number;
      found = c.in_ok-keys_of.ensures ∙ ap (λ (found : _). map (values_in (key_columns d.keys 0)) (map (λ r. r.now) found)) c.as_slice.ensures.value
          ∙ ap (map (values_in (key_columns d.keys 0))) c.in_ok-found.ensures.found;
      outcome = λ world name has.
          delete_by world name c.args.key sought exception d rows number false has c.in_ok-number.ensures.found c.in_ok-number.ensures.sought
          (ap (nat_lt 65536) size ∙ passes _ _ c.in_ok-few_enough.ensures)
          ∙ ap (λ e. unless (first_of (None ∷ spent e ∷ [])) world (deleted (sound d rows) number sought rows world name)) (no_exception c.args.spent c.in_ok-has_room.ensures);
    }

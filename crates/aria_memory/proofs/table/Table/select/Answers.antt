use Rattle.std.proofs.Common.{◌++◌, sym, ap, ◌∙◌}
use Rattle.std.specs.List.{flat_map}
use Rattle.std.specs.BTreeMap.{values}
use Rattle.std.proofs.lemmas.List.{append-nil}
use Rattle.std.proofs.lemmas.Result.{err_from_is_err_and}
use Rattle.aria_model.specs.Text.{row_text}
use Rattle.aria_memory.proofs.Seeking.{select_refused}
use Rattle.aria_memory.proofs.table.Table.select.Goals as goal

pub returns-in_err-number : goal.returns-in_err-number
returns-in_err-number c =
    let p = err_from_is_err_and c.from_residual.result c.from_residual.ensures.1 in
    rw (p.1, p.2) (λ world name exception has.
    let table = c.args.self.now in
    let text = c.args.text.now in
    let outcome = select_refused world name c.args.key c.args.sought.now table.definition (values table.rows) c.in_err-number.field-0.0 has c.in_err-number.ensures.refused in
    record {
      world = sym (ap (λ o. o.world) outcome);
      rows = sym (append-nil text) ∙ ap (λ (rows : _). text ++ flat_map row_text rows) (sym (ap (λ o. o.rows) outcome));
      reply = sym (ap (λ o. o.reply) outcome);
    })

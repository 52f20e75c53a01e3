use Rattle.std.proofs.Common.{◌≡◌, ap, sym, ◌∙◌, Bor, List, map, subst}
use Rattle.std.specs.List.{AllByRecursion}
use Rattle.std.specs.BTreeMap.{insert_entry}
use Rattle.std.specs.Map.{values_of}
use Rattle.aria_value.specs.declared.value.Value.{Value}
use Rattle.aria_value.specs.Order.{columns_cmp, sorted}
use Rattle.aria_memory.specs.Keyed.{values_cmp, values_in}
use Rattle.aria_memory.proofs.Keyed.{values_total, columns_values}
use Rattle.aria_memory.proofs.Found.{exact_values, puts, puts-nothing, puts_turn, placed_insert, put_placed}
use Rattle.aria_memory.proofs.find.by_columns.Goals as goal

pub loop-row-init : goal.loop-row-init
loop-row-init c =
    let order = columns_cmp c.args.columns.now in
    let now = (λ (r : Bor (List Value)). r.now) in
    let key = (λ (r : Bor (List Value)). values_in c.args.columns.now r.now) in
    record {
      rest = ap (λ (es : List (List Value × Bor (List Value))). puts order (map now c.args.found.items) (map now (values_of es))) c.new-ordered.ensures.empty
          ∙ puts-nothing order (map now c.args.found.items);
      placed = subst (λ (es : List (List Value × Bor (List Value))). AllByRecursion (λ e. e.0 ≡ key e.1) es) (sym c.new-ordered.ensures.empty) tt;
    }

pub loop-row-preserved : goal.loop-row-preserved
loop-row-preserved c =
    let order = columns_cmp c.args.columns.now in
    let columns = c.args.columns.now in
    let now = (λ (r : Bor (List Value)). r.now) in
    let key = (λ (r : Bor (List Value)). values_in columns r.now) in
    let alike = (λ (a b : Bor (List Value)). columns_values columns a.now b.now) in
    let row = c.in-Some.row in
    let old = c.loop-row.ordered.entries in
    let at : c.in_ok-from_row.field-0 ≡ key row = c.in_ok-from_row.ensures ∙ ap (values_in columns) c.as_slice.ensures in
    let entries : c.insert.new.self.entries ≡ insert_entry values_cmp old (key row) row =
    c.in_ok-insert.ensures.entries ∙ ap (λ (k : List Value). insert_entry values_cmp old k row) at in
    record {
      rest = puts_turn order now c.loop-row.found.items c.pop.new.self.items row (map now (values_of old)) (map now (values_of c.insert.new.self.entries)) (sorted order (map now c.args.found.items))
          c.in-Some.ensures.items
          (ap (λ (es : List (List Value × Bor (List Value))). map now (values_of es)) entries
          ∙ put_placed values_total exact_values order key now alike row old c.loop-row.invariant.placed c.insert.ensures.was_ordered)
          c.loop-row.invariant.rest;
      placed = subst (λ (es : List (List Value × Bor (List Value))). AllByRecursion (λ e. e.0 ≡ key e.1) es) (sym entries)
          (placed_insert values_total exact_values order key now alike row old c.loop-row.invariant.placed);
    }

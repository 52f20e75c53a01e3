use Rattle.std.proofs.Common.{◌≡◌, ◌<◌, ◌+◌, map, drop, length, slice_set, arith, sym, ap, ◌∙◌}
use Rattle.std.proofs.lemmas.List.{length-map, length-set, length-replicate, map-set}
use Rattle.std.proofs.lemmas.List.Quantifiers.{position-Some}
use Rattle.std.specs.Prelude.{Some}
use Rattle.std.specs.List.{position}
use Rattle.std.specs.Option.{option_map}
use Rattle.aria_value.specs.Defined.{same_name}
use Rattle.aria_model.specs.Step.{set_row}
use Rattle.aria_memory.specs.LastSet.{with_set}
use Rattle.aria_memory.proofs.SetColumns.{no_column, set_found, set_none}
use Rattle.aria_memory.proofs.LastSet.{nothing_set, one_set, setting_next}
use Rattle.aria_memory.proofs.settings.last_set.Goals as goal
use Rattle.aria_memory.proofs.settings.last_set.Goals.{in-None, in-Some}

pub loop-setting-init : goal.loop-setting-init
loop-setting-init c = record {
  rest = λ row. ap (λ sets. set_row c.args.columns.now c.args.settings.now (with_set (map (option_map (λ v. v.now)) sets) row)) c.in_ok-sets.ensures
      ∙ ap (set_row c.args.columns.now c.args.settings.now) (nothing_set (λ v. v.now) (length c.args.columns.now) row);
  long = ap length c.in_ok-sets.ensures ∙ length-replicate (length c.args.columns.now) _;
}

pub loop-setting-preserved : goal.loop-setting-preserved
loop-setting-preserved c =
    let columns = c.args.columns.now in
    let settings = c.args.settings.now in
    let i = c.loop-setting.setting-index in
    let s = c.setting-item.result in
    let left = drop (i + 1) settings in
    let sets = map (option_map (λ v. v.now)) c.loop-setting.sets.items in
    elim c.match-column_number.branch [
      | in-None w ↦ record {
        rest = λ row. ap (λ v. set_row columns left (with_set (map (option_map (λ x. x.now)) v.items) row)) w.sets-is
            ∙ ap (set_row columns left) (sym (set_none columns s.column s.value (with_set sets row) (sym c.column_number.ensures ∙ w.in-None.is)))
            ∙ sym (setting_next columns settings i s (with_set sets row) c.loop-setting-test.true c.setting-item.is)
            ∙ c.loop-setting.invariant.rest row;
        long = ap (λ v. length v.items) w.sets-is ∙ c.loop-setting.invariant.long;
      }
      | in-Some w ↦
          let now = map (option_map (λ v. v.now)) c.match-column_number.sets.items in
          let found : position (λ x. same_name x.name s.column) columns ≡ Some w.in-Some.nth = sym c.column_number.ensures ∙ w.in-Some.is in
          let low : w.in-Some.nth < length columns = (position-Some (λ x. same_name x.name s.column) columns w.in-Some.nth no_column found).0 in
          let set : now ≡ slice_set sets w.in-Some.nth (Some s.value) =
          ap (λ v. map (option_map (λ x. x.now)) v.items) w.sets-is ∙ map-set (option_map (λ x. x.now)) c.loop-setting.sets.items w.in-Some.nth _ in
          record {
            rest = λ row. ap (λ v. set_row columns left (with_set v row)) set
                ∙ ap (set_row columns left) (one_set sets w.in-Some.nth s.value row (omega (arith, low, c.loop-setting.invariant.long, length-map c.loop-setting.sets.items (option_map (λ x. x.now)))))
                ∙ ap (set_row columns left) (sym (set_found columns s.column s.value (with_set sets row) w.in-Some.nth no_column found))
                ∙ sym (setting_next columns settings i s (with_set sets row) c.loop-setting-test.true c.setting-item.is)
                ∙ c.loop-setting.invariant.rest row;
            long = ap (λ v. length v.items) w.sets-is ∙ length-set c.loop-setting.sets.items w.in-Some.nth _ ∙ c.loop-setting.invariant.long;
          }
    ]

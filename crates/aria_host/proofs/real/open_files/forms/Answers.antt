use Rattle.std.proofs.Common.{List, ℕ, subst}
use Rattle.aria_host.specs.Form.{AddsFile}
use Rattle.aria_host.proofs.Unique.{files_more}
use Rattle.aria_host.proofs.real.open_files.forms.Goals as goal

pub loop-text-preserved : goal.loop-text-preserved
loop-text-preserved c =
    let l = c.loop-text in
    let added = subst (λ (text : List ℕ). AddsFile text l.names c.add_file.new.names) c.as_slice.ensures c.in_ok-add_file.ensures in
    files_more c.args.texts.now l.names c.add_file.new.names l.text-index c.text-item.result c.loop-text-test.true c.text-item.is added l.invariant

use Rattle.std.proofs.Common.{rules, ◌≡◌, List, ℕ, length, ap, ◌∙◌}
use Rattle.aria_value.specs.Stored.{row_bytes}
use Rattle.aria_value.proofs.StoredRows.{length-row_bytes}
use Rattle.aria_value.proofs.row_codec.encode_row.Goals as goal

pub returns-clause-length : goal.returns-clause-length
returns-clause-length c =
    let all : c.push_items.new.out ≡ row_bytes c.args.row.now = search rules in
    ap (λ (x : List ℕ). length x) all ∙ length-row_bytes c.args.row.now

use Rattle.std.proofs.Common.{◌≡◌, List, ℕ, ◌+◌, ◌-◌, ◌≤◌, ◌∷◌, ◌++◌, length, take, drop, sym, ap, ◌∙◌, arith}
use Rattle.std.specs.List.{flat_map}
use Rattle.std.proofs.lemmas.List.{take_all, length-drop}
use Rattle.std.proofs.lemmas.List.Quantifiers.{position-Some}
use Rattle.aria_model.specs.Text.{quoted}
use Rattle.aria_model.proofs.Quotes.{is_quote, cut_at, without_quote}
use Rattle.aria_model.proofs.text.cut_at_quote.Goals as goal

pub returns-in_err-at : goal.returns-in_err-at
returns-in_err-at c = rw c.from_residual.ensures (without_quote c.args.bytes.now (sym c.in_err-at.ensures))

pub returns : goal.returns
returns c =
    let bytes = c.args.bytes.now in
    let at = c.in_ok-at.at in
    let found = sym c.in_ok-at.ensures in
    let size : length (drop (at + 1) bytes) ≤ length bytes - (at + 1) = omega (arith, length-drop (at + 1) bytes) in
    let behind : take (length bytes - (at + 1)) (drop (at + 1) bytes) ≡ drop (at + 1) bytes = take_all (length bytes - (at + 1)) (drop (at + 1) bytes) size in
    record {
      whole = cut_at bytes at found ∙ ap (λ (l : List ℕ). take at bytes ++ (39 ∷ 39 ∷ flat_map quoted l)) (sym behind);
      less = omega (arith, ap length behind, length-drop (at + 1) bytes, (position-Some is_quote bytes at 0 found).0);
    }

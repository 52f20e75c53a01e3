use Rattle.std.proofs.Common.{List, ℕ, ◌+◌, ◌-◌, ◌≤◌, ◌∷◌, ◌++◌, length, take, drop, sym, ap, ◌∙◌, arith}
use Rattle.std.proofs.lemmas.List.{take_all, length-drop}
use Rattle.aria_tools.proofs.Feeding.{no_lf_in, no_lf_before, parted}
use Rattle.aria_tools.proofs.session.cut_line.Goals as goal

pub returns-in_err-at : goal.returns-in_err-at
returns-in_err-at c = rw c.from_residual.ensures (no_lf_in c.args.bytes.now (λ k h. c.in_err-at.ensures k (omega arith) h))

pub returns : goal.returns
returns c =
    let bytes = c.args.bytes.now in
    let at = c.in_ok-at.at in
    let found = c.in_ok-at.ensures in
    let size : length (drop (at + 1) bytes) ≤ length bytes - (at + 1) = omega (arith, length-drop (at + 1) bytes) in
    record {
      whole = parted bytes at found.0.high found.1 ∙ ap (λ (l : List ℕ). take at bytes ++ 10 ∷ l) (sym (take_all (length bytes - (at + 1)) (drop (at + 1) bytes) size));
      no_lf = no_lf_before bytes at (omega (arith, found.0.high)) (λ k h. found.0.before k (omega arith) h);
    }

use Rattle.std.proofs.Common.{◌≡◌, ℕ, List, drop, ap, ◌∙◌, arith}
use Rattle.std.specs.List.{prefix_len}
use Rattle.std.proofs.lemmas.List.{length-drop}
use Rattle.std.proofs.lemmas.List.Sums.{prefix_len-le-length}
use Rattle.aria_model.specs.Token.{is_blank}
use Rattle.aria_statement.proofs.Scanning.{past_blanks_of, no_blank_of}
use Rattle.aria_statement.proofs.lexer.behind_blanks.Goals as goal

pub overflow_add-result : goal.overflow_add-result
overflow_add-result c =
    let blanks : c.blanks_in_front.result ≡ prefix_len is_blank (drop c.args.at c.args.line.now) = c.blanks_in_front.ensures ∙ ap (λ (bytes : List ℕ). prefix_len is_blank bytes) c.bytes_from.ensures in
    omega (arith, prefix_len-le-length is_blank (drop c.args.at c.args.line.now), length-drop c.args.at c.args.line.now)

pub returns : goal.returns
returns c =
    let blanks : c.blanks_in_front.result ≡ prefix_len is_blank (drop c.args.at c.args.line.now) = c.blanks_in_front.ensures ∙ ap (λ (bytes : List ℕ). prefix_len is_blank bytes) c.bytes_from.ensures in
    record {
      same = past_blanks_of c.args.line.now c.args.at c.blanks_in_front.result blanks;
      front = no_blank_of c.args.line.now c.args.at c.blanks_in_front.result blanks;
    }

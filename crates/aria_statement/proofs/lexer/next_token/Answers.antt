use Rattle.std.proofs.Common.{◌≡◌, ℕ, List, ◌∷◌, ◌+◌, drop, sym, ap, ◌∙◌, arith}
use Rattle.std.proofs.lemmas.List.{drop-drop, length-drop}
use Rattle.aria_model.specs.Token.{Token, token_at, tokens_from}
use Rattle.aria_statement.specs.Lexing.{seen, behind}
use Rattle.aria_statement.proofs.Scanning.{is_token, one_token}
use Rattle.aria_statement.proofs.lexer.next_token.Goals as goal

pub overflow_add-result : goal.overflow_add-result
overflow_add-result c =
    let line = c.args.line.now in
    let at = c.behind_blanks-at.result in
    let is = is_token (drop at line) (seen c.in-Some.token, c.in-Some.bytes) (ap token_at (sym c.bytes_from-rest.ensures) ∙ sym c.in-Some.ensures) in
    omega (arith, is.within, length-drop at line)

pub returns-in-Some : goal.returns-in-Some
returns-in-Some c =
    let line = c.args.line.now in
    let at = c.behind_blanks-at.result in
    let found = seen c.in-Some.token in
    let follows : tokens_from (at + c.in-Some.bytes) 0 (drop (at + c.in-Some.bytes) line) ≡ tokens_from (at + c.in-Some.bytes) 0 (drop c.in-Some.bytes (drop at line)) =
    ap (λ (bytes : List ℕ). tokens_from (at + c.in-Some.bytes) 0 bytes) (sym (drop-drop c.in-Some.bytes at line)) in
    sym c.behind_blanks-at.ensures.same
    ∙ one_token (drop at line) at (found, c.in-Some.bytes) c.behind_blanks-at.ensures.front (ap token_at (sym c.bytes_from-rest.ensures) ∙ sym c.in-Some.ensures)
    ∙ ap (λ (ts : List (ℕ × Token)). (at, found) ∷ behind found ts) (sym follows)

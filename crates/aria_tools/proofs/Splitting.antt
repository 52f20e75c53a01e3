-- Where a script that comes in pieces is cut into lines.
use Rattle.std.proofs.Common.{◌≡◌, ℕ, false, List, ◌∷◌, ◌++◌, sym, ap, ◌∙◌, lit<}
use Rattle.std.specs.List.{list_any}
use Rattle.std.proofs.lemmas.List.{append_assoc}
use Rattle.aria_model.specs.Grammar.{read_line, is_blank_line}
use Rattle.aria_model.specs.Script.{lines_of, ended_lines}
use Rattle.aria_model.proofs.Lines.{lines_of-line, ended_lines-line, ended_lines-rest}
use Rattle.aria_model.proofs.Clipping.{Clips-take, read_line-Clips, is_blank_line-Clips}
use Rattle.aria_tools.specs.Held.{clipped, Splits, is_lf}

-- bytes without LF are a part of a line
pub splits_rest : (rest : List ℕ) → list_any is_lf rest ≡ false → Splits rest rest
splits_rest rest none = let e = ended_lines-rest rest none in record {
  lines = λ more. ap (λ (ls : List (List ℕ)). ls ++ lines_of (rest ++ more)) (sym e);
  ended = λ more. ap (λ (ls : List (List ℕ)). ls ++ ended_lines (rest ++ more)) (sym e);
  no_lf = none;
}

-- behind a line and its LF, bytes are split as they are
pub splits_line : (line bytes rest : List ℕ) → list_any is_lf line ≡ false → Splits bytes rest → Splits (line ++ 10 ∷ bytes) rest
splits_line line bytes rest none splits = let e = ended_lines-line line bytes none in record {
  lines = λ more. ap lines_of (append_assoc line (10 ∷ bytes) more) ∙ lines_of-line line (bytes ++ more) none
      ∙ ap (λ (ls : List (List ℕ)). line ∷ ls) (splits.lines more) ∙ ap (λ (ls : List (List ℕ)). ls ++ lines_of (rest ++ more)) (sym e);
  ended = λ more. ap ended_lines (append_assoc line (10 ∷ bytes) more) ∙ ended_lines-line line (bytes ++ more) none
      ∙ ap (λ (ls : List (List ℕ)). line ∷ ls) (splits.ended more) ∙ ap (λ (ls : List (List ℕ)). ls ++ ended_lines (rest ++ more)) (sym e);
  no_lf = splits.no_lf;
}

-- what comes behind split bytes is split with what is left of them
pub splits_more : (bytes rest piece behind : List ℕ) → Splits bytes rest → Splits (rest ++ piece) behind → Splits (bytes ++ piece) behind
splits_more bytes rest piece behind first then = record {
  lines = λ more. ap lines_of (append_assoc bytes piece more) ∙ first.lines (piece ++ more)
      ∙ ap (λ (b : List ℕ). ended_lines bytes ++ lines_of b) (sym (append_assoc rest piece more))
      ∙ ap (λ (ls : List (List ℕ)). ended_lines bytes ++ ls) (then.lines more)
      ∙ sym (append_assoc (ended_lines bytes) (ended_lines (rest ++ piece)) (lines_of (behind ++ more)))
      ∙ ap (λ (ls : List (List ℕ)). ls ++ lines_of (behind ++ more)) (sym (first.ended piece));
  ended = λ more. ap ended_lines (append_assoc bytes piece more) ∙ first.ended (piece ++ more)
      ∙ ap (λ (b : List ℕ). ended_lines bytes ++ ended_lines b) (sym (append_assoc rest piece more))
      ∙ ap (λ (ls : List (List ℕ)). ended_lines bytes ++ ls) (then.ended more)
      ∙ sym (append_assoc (ended_lines bytes) (ended_lines (rest ++ piece)) (ended_lines (behind ++ more)))
      ∙ ap (λ (ls : List (List ℕ)). ls ++ ended_lines (behind ++ more)) (sym (first.ended piece));
  no_lf = then.no_lf;
}

-- one byte past the limit tells that a line is too long
pub read_line-clipped : (line : List ℕ) → read_line (clipped line) ≡ read_line line
read_line-clipped line = read_line-Clips (Clips-take 1048577 line (lit< tt))

pub is_blank_line-clipped : (line : List ℕ) → is_blank_line (clipped line) ≡ is_blank_line line
is_blank_line-clipped line = is_blank_line-Clips (Clips-take 1048577 line (lit< tt))

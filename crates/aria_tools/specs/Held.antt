-- The bytes of a script that no LF has ended yet.
use Rattle.std.specs.Prelude.{◌≡◌, ◌==◌, ℕ, Bool, false, List, ◌∷◌, ◌++◌, take}
use Rattle.std.specs.List.{list_any}
use Rattle.aria_model.specs.Script.{lines_of, ended_lines}

-- a byte is LF
abbrev pub is_lf : ℕ → Bool
is_lf b = b == 10

-- what is kept of a line that may be longer than a line can be
abbrev pub clipped : List ℕ → List ℕ
clipped line = take 1048577 line

-- Behind the lines that are ended stands a part of a line, without LF, and the lines of more bytes go on from it.
pub record Splits (bytes rest : List ℕ) : Type 0 where
  pub lines : (more : List ℕ) → lines_of (bytes ++ more) ≡ ended_lines bytes ++ lines_of (rest ++ more)
  pub ended : (more : List ℕ) → ended_lines (bytes ++ more) ≡ ended_lines bytes ++ ended_lines (rest ++ more)
  pub no_lf : list_any is_lf rest ≡ false

-- bytes are a part without LF, an LF, and what is behind it
pub record CutsLine (bytes line behind : List ℕ) : Type 0 where
  pub whole : bytes ≡ line ++ 10 ∷ behind
  pub no_lf : list_any is_lf line ≡ false

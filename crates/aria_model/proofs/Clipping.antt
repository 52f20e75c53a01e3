-- A line past the limit may be cut to one byte past it.
use Rattle.std.proofs.Common.{◌≡◌, ℕ, ◌<◌, inl, inr, Bool, false, ◌&&◌, List, length, take, Err, refl, sym, ap, ◌∙◌, arith}
use Rattle.std.specs.List.{list_all}
use Rattle.std.proofs.lemmas.Bool.{lt-leb, cases_lt}
use Rattle.std.proofs.lemmas.List.{take_all, length-take-le}
use Rattle.aria_model.specs.declared.refusal.Refusal.TheVariants.{LineTooLong}
use Rattle.aria_model.specs.Token.{is_blank}
use Rattle.aria_model.specs.Grammar.{read_line, is_blank_line}

-- The part is the line, or both are past the limit.
pub data Clips : List ℕ → List ℕ → Type 0 where
  whole : {line : List ℕ} → Clips line line
  past : {part line : List ℕ} → 1048576 < length part → 1048576 < length line → Clips part line

-- A line past the limit is refused, whatever its bytes.
pub read_line-past : (line : List ℕ) → 1048576 < length line → read_line line ≡ Err LineTooLong
unfolding read_line
read_line-past line h = rw (lt-leb (length line) 1048576 h)

-- It isn't blank.
pub is_blank_line-past : (line : List ℕ) → 1048576 < length line → is_blank_line line ≡ false
is_blank_line-past line h = ap (λ (t : Bool). t && list_all is_blank line) (lt-leb (length line) 1048576 h)

-- The part is read as the line is.
pub read_line-Clips : {part line : List ℕ} → Clips part line → read_line part ≡ read_line line
read_line-Clips whole = refl
read_line-Clips {part} {line} (past p l) = read_line-past part p ∙ sym (read_line-past line l)

-- It is blank where the line is.
pub is_blank_line-Clips : {part line : List ℕ} → Clips part line → is_blank_line part ≡ is_blank_line line
is_blank_line-Clips whole = refl
is_blank_line-Clips {part} {line} (past p l) = is_blank_line-past part p ∙ sym (is_blank_line-past line l)

-- a front that is past the limit or the whole line
pub Clips-take : (n : ℕ) (line : List ℕ) → 1048576 < n → Clips (take n line) line
Clips-take n line h = elim (cases_lt (length line) n) [
  | inl short ↦ rw (take_all n line (omega arith)) whole
  | inr long ↦ past (rw (length-take-le n line long) h) (omega arith)
]

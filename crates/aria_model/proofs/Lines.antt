-- How the lines of bytes go on where bytes are added behind.
use Rattle.std.proofs.Common.{◌≡◌, ℕ, Bool, true, false, ◌==◌, if◌then◌else◌, List, [], ◌∷◌, ◌++◌, refl, ap}
use Rattle.std.specs.List.{list_any}
use Rattle.std.proofs.lemmas.Bool.{or_parts}
use Rattle.aria_model.specs.Script.{lines_of, onto_line, ended_lines, onto_ended}

-- whether bytes have an LF
abbrev pub has_line_end : List ℕ → Bool
has_line_end = list_any (λ b. b == 10)

-- An LF ends the line in front of it.
pub lines_of-line : (rest more : List ℕ) → has_line_end rest ≡ false → lines_of (rest ++ 10 ∷ more) ≡ rest ∷ lines_of more
lines_of-line [] more h = refl
lines_of-line (b ∷ bs) more h =
    let parts = or_parts (b == 10) (has_line_end bs) h in
    rw (parts.0, lines_of-line bs more parts.1)

-- The same of the ended lines.
pub ended_lines-line : (rest more : List ℕ) → has_line_end rest ≡ false → ended_lines (rest ++ 10 ∷ more) ≡ rest ∷ ended_lines more
ended_lines-line [] more h = refl
ended_lines-line (b ∷ bs) more h =
    let parts = or_parts (b == 10) (has_line_end bs) h in
    rw (parts.0, ended_lines-line bs more parts.1)

-- a last piece without LF is a line if it isn't empty
abbrev pub last_line : List ℕ → List (List ℕ)
last_line [] = []
last_line (b ∷ bs) = (b ∷ bs) ∷ []

-- a byte joins a last piece
onto_line-last_line : (b : ℕ) (bs : List ℕ) → onto_line b (last_line bs) ≡ (b ∷ bs) ∷ []
onto_line-last_line b [] = refl
onto_line-last_line b (c ∷ cs) = refl

-- the lines of a piece without LF
pub lines_of-rest : (rest : List ℕ) → has_line_end rest ≡ false → lines_of rest ≡ last_line rest
lines_of-rest [] h = refl
lines_of-rest (b ∷ bs) h =
    let parts = or_parts (b == 10) (has_line_end bs) h in
    rw (parts.0, lines_of-rest bs parts.1, onto_line-last_line b bs)

-- none of them is ended
pub ended_lines-rest : (rest : List ℕ) → has_line_end rest ≡ false → ended_lines rest ≡ []
ended_lines-rest [] h = refl
ended_lines-rest (b ∷ bs) h =
    let parts = or_parts (b == 10) (has_line_end bs) h in
    rw (parts.0, ended_lines-rest bs parts.1)

-- lines begin with others, and still do with a byte before them
front_onto : (b : ℕ) (lines front : List (List ℕ)) → (others : List (List ℕ)) × (lines ≡ front ++ others)
    → (others : List (List ℕ)) × (onto_line b lines ≡ onto_ended b front ++ others)
front_onto b lines [] (others, e) = (onto_line b lines, refl)
front_onto b lines (line ∷ front) (others, e) = (others, ap (onto_line b) e)

-- and where that byte may be LF
front_of : (t : Bool) (b : ℕ) (lines front : List (List ℕ)) → (others : List (List ℕ)) × (lines ≡ front ++ others)
    → (others : List (List ℕ)) × ((if t then [] ∷ lines else onto_line b lines) ≡ (if t then [] ∷ front else onto_ended b front) ++ others)
front_of true b lines front (others, e) = (others, ap (λ (ls : List (List ℕ)). [] ∷ ls) e)
front_of false b lines front shown = front_onto b lines front shown

-- The ended lines are the first lines, whatever follows.
pub ended_lines-front : (bytes more : List ℕ) → (others : List (List ℕ)) × (lines_of (bytes ++ more) ≡ ended_lines bytes ++ others)
ended_lines-front [] more = (lines_of more, refl)
ended_lines-front (b ∷ bs) more = front_of (b == 10) b (lines_of (bs ++ more)) (ended_lines bs) (ended_lines-front bs more)

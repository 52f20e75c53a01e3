-- How many replies are among bytes that were told.
use Rattle.std.proofs.Common.{◌≡◌, ℕ, ◌+◌, ◌≤◌, inl, inr, Bool, true, false, ◌==◌, if◌then◌else◌, List, [], ◌∷◌, ◌++◌, take, drop, codes, refl, sym, ap, ◌∙◌, arith, append_assoc}
use Rattle.std.specs.Prelude.{count_by, cond}
use Rattle.std.specs.List.{flat_map, join_by}
use Rattle.std.specs.Fmt.{decimal}
use Rattle.std.proofs.lemmas.List.Sums.{sum_by-append}
use Rattle.std.proofs.lemmas.List.{append-nil, take-append-drop}
use Rattle.aria_value.specs.declared.value.Value.{Value}
use Rattle.aria_model.specs.declared.reply.Reply.{Reply}
use Rattle.aria_model.specs.declared.reply.Reply.TheVariants.{Done, Count, No}
use Rattle.aria_model.specs.World.{World}
use Rattle.aria_model.specs.Step.{Outcome}
use Rattle.aria_model.specs.Text.{row_text, refusal_text, reply_text, value_text, IsOneLine}
use Rattle.aria_model.specs.Script.{ended_lines, onto_ended, statements, Exceptions, outcomes, outcome_text, told, EndsLine, begins_reply, acknowledged}
use Rattle.aria_model.proofs.Lines.{ended_lines-line}
use Rattle.aria_model.proofs.OneLine.{no_end-row, row_on_line}

-- ---- bytes that end with LF

-- Two parts that end so do so together.
pub EndsLine-append : (a b : List ℕ) → EndsLine a → EndsLine b → EndsLine (a ++ b)
EndsLine-append a b ends (inl none) = rw (none, append-nil a) ends
EndsLine-append a b ends (inr (front, is)) = inr (a ++ front, ap (λ (l : List ℕ). a ++ l) is ∙ sym (append_assoc a front (10 ∷ [])))

-- So do the parts that each item gives.
pub EndsLine-flat_map : {A : Type 0} (f : A → List ℕ) → ((x : A) → EndsLine (f x)) → (xs : List A) → EndsLine (flat_map f xs)
EndsLine-flat_map f each [] = inl refl
EndsLine-flat_map f each (x ∷ xs) = EndsLine-append (f x) (flat_map f xs) (each x) (EndsLine-flat_map f each xs)

-- A line ends so.
pub EndsLine-line : (text : List ℕ) → IsOneLine text → EndsLine text
EndsLine-line text (line, is, none) = inr (line, is)

row_ends : (row : List Value) → EndsLine (row_text row)
row_ends row = EndsLine-line (row_text row) (row_on_line row)

-- Rows end so.
pub rows_end : (rows : List (List Value)) → EndsLine (flat_map row_text rows)
rows_end rows = EndsLine-flat_map row_text row_ends rows

-- A reply ends so, whatever its names.
pub reply_ends : (reply : Reply) → EndsLine (reply_text reply)
reply_ends Done = inr (codes "ok", refl)
reply_ends (Count n) = inr (codes "ok " ++ decimal n, refl)
reply_ends (No why) = inr (codes "no " ++ refusal_text why, refl)

-- What a statement tells ends so.
pub outcome_ends : (outcome : Outcome) → EndsLine (outcome_text outcome)
outcome_ends outcome = EndsLine-append (flat_map row_text outcome.rows) (reply_text outcome.reply) (rows_end outcome.rows) (reply_ends outcome.reply)

-- What a script tells ends so.
pub told_ends : (world : World) (lines : List (List ℕ)) (exceptions : Exceptions) → EndsLine (told world lines exceptions)
told_ends world lines exceptions = EndsLine-flat_map outcome_text outcome_ends (outcomes world (statements lines) exceptions)

-- ---- the ended lines of parts

-- the lines up to an LF, whatever follows it
abbrev EndedBy : List ℕ → Type 0
EndedBy front = (line : List ℕ) × (lines : List (List ℕ)) × ((more : List ℕ) → ended_lines (front ++ 10 ∷ more) ≡ (line ∷ lines) ++ ended_lines more)

ended_more : (t : Bool) (c : ℕ) (cs : List ℕ) → (c == 10) ≡ t → EndedBy cs → EndedBy (c ∷ cs)
ended_more true c cs is (line, lines, e) = ([], line ∷ lines, λ more. rw is (ap (λ (ls : List (List ℕ)). [] ∷ ls) (e more)))
ended_more false c cs is (line, lines, e) = (c ∷ line, lines, λ more. rw is (ap (onto_ended c) (e more)))

ended_by : (front : List ℕ) → EndedBy front
ended_by [] = ([], [], λ more. refl)
ended_by (c ∷ cs) = ended_more (c == 10) c cs refl (ended_by cs)

ended_front : (front more : List ℕ) → EndedBy front → ended_lines (front ++ 10 ∷ more) ≡ ended_lines (front ++ 10 ∷ []) ++ ended_lines more
ended_front front more (line, lines, e) = e more ∙ ap (λ (ls : List (List ℕ)). ls ++ ended_lines more) (sym (append-nil (line ∷ lines)) ∙ sym (e []))

-- Behind bytes that end with LF the lines begin anew.
pub ended_lines-append : (a b : List ℕ) → EndsLine a → ended_lines (a ++ b) ≡ ended_lines a ++ ended_lines b
ended_lines-append a b (inl none) = rw none refl
ended_lines-append a b (inr (front, is)) = rw is (ap ended_lines (append_assoc front (10 ∷ []) b) ∙ ended_front front b (ended_by front))

front_onto : (b : ℕ) (lines front : List (List ℕ)) → (others : List (List ℕ)) × (lines ≡ front ++ others)
    → (others : List (List ℕ)) × (onto_ended b lines ≡ onto_ended b front ++ others)
front_onto b lines [] (others, e) = (onto_ended b lines, refl)
front_onto b lines (line ∷ front) (others, e) = (others, ap (onto_ended b) e)

front_of : (t : Bool) (b : ℕ) (lines front : List (List ℕ)) → (others : List (List ℕ)) × (lines ≡ front ++ others)
    → (others : List (List ℕ)) × ((if t then [] ∷ lines else onto_ended b lines) ≡ (if t then [] ∷ front else onto_ended b front) ++ others)
front_of true b lines front (others, e) = (others, ap (λ (ls : List (List ℕ)). [] ∷ ls) e)
front_of false b lines front shown = front_onto b lines front shown

-- The ended lines of a part are the first of all of them.
pub ended_lines-part : (a b : List ℕ) → (others : List (List ℕ)) × (ended_lines (a ++ b) ≡ ended_lines a ++ others)
ended_lines-part [] b = (ended_lines b, refl)
ended_lines-part (c ∷ cs) b = front_of (c == 10) c (ended_lines (cs ++ b)) (ended_lines cs) (ended_lines-part cs b)

-- ---- counts

count_by-append : {X : Type 0} (p : X → Bool) (xs ys : List X) → count_by p (xs ++ ys) ≡ count_by p xs + count_by p ys
count_by-append p xs ys = sum_by-append (λ x. cond (p x) 1 0) xs ys

-- Behind bytes that end with LF replies are counted anew.
pub acknowledged-append : (a b : List ℕ) → EndsLine a → acknowledged (a ++ b) ≡ acknowledged a + acknowledged b
acknowledged-append a b ends = ap (count_by begins_reply) (ended_lines-append a b ends) ∙ count_by-append begins_reply (ended_lines a) (ended_lines b)

-- Of the first bytes no more are counted than of all, however the first end.
pub acknowledged-part : (a b : List ℕ) → acknowledged a ≤ acknowledged (a ++ b)
acknowledged-part a b =
    let shown = ended_lines-part a b in
    let all : acknowledged (a ++ b) ≡ acknowledged a + count_by begins_reply shown.0 = ap (count_by begins_reply) shown.1 ∙ count_by-append begins_reply (ended_lines a) shown.0 in
    omega arith

-- The same of so many first bytes.
pub acknowledged-take : (n : ℕ) (bytes : List ℕ) → acknowledged (take n bytes) ≤ acknowledged bytes
acknowledged-take n bytes =
    let all : acknowledged (take n bytes ++ drop n bytes) ≡ acknowledged bytes = ap acknowledged (take-append-drop n bytes) in
    let part : acknowledged (take n bytes) ≤ acknowledged (take n bytes ++ drop n bytes) = acknowledged-part (take n bytes) (drop n bytes) in
    omega arith

-- ---- rows and replies

-- A row's line is no reply.
row_counts : (row : List Value) → acknowledged (row_text row) ≡ 0
row_counts row = ap (count_by begins_reply) (ended_lines-line (codes "row " ++ join_by value_text (codes ",") row) [] (no_end-row row))

-- Nor are the lines of rows, whatever their values.
pub rows_count : (rows : List (List Value)) → acknowledged (flat_map row_text rows) ≡ 0
rows_count [] = refl
rows_count (row ∷ rows) = acknowledged-append (row_text row) (flat_map row_text rows) (row_ends row) ∙ (λ i. row_counts row i + rows_count rows i)

-- Nor is a part of them.
pub rows_part_counts : (rows : List (List Value)) (n : ℕ) → acknowledged (take n (flat_map row_text rows)) ≡ 0
rows_part_counts rows n =
    let part : acknowledged (take n (flat_map row_text rows)) ≤ acknowledged (flat_map row_text rows) = acknowledged-take n (flat_map row_text rows) in
    let none : acknowledged (flat_map row_text rows) ≡ 0 = rows_count rows in
    omega arith

at_most_one : (here : Bool) (count : ℕ) → count ≡ 0 + cond here 1 0 → count ≤ 1
at_most_one true count is = omega arith
at_most_one false count is = omega arith

-- A line is at most one reply.
pub line_counts : (text : List ℕ) → IsOneLine text → acknowledged text ≤ 1
line_counts text (line, is, none) = at_most_one (begins_reply line) (acknowledged text) (ap acknowledged is ∙ ap (count_by begins_reply) (ended_lines-line line [] none))

-- Rows and a line behind them, or a part of that, are at most one.
pub statement_counts : (rows : List (List Value)) (text : List ℕ) (n : ℕ) → IsOneLine text → acknowledged (take n (flat_map row_text rows ++ text)) ≤ 1
statement_counts rows text n on_line =
    let bytes = flat_map row_text rows ++ text in
    let part : acknowledged (take n bytes) ≤ acknowledged bytes = acknowledged-take n bytes in
    let all : acknowledged bytes ≡ acknowledged (flat_map row_text rows) + acknowledged text = acknowledged-append (flat_map row_text rows) text (rows_end rows) in
    let none : acknowledged (flat_map row_text rows) ≡ 0 = rows_count rows in
    let one : acknowledged text ≤ 1 = line_counts text on_line in
    omega arith

-- What the valid front of pages is, page by page, and what a part of a run leaves.
use Rattle.std.proofs.Common.{◌≡◌, ◌||◌, inl, inr, ℕ, suc, ◌+◌, Bool, true, false, cond, Option, None, Some, List, [], ◌∷◌, ◌++◌, length, drop, refl, sym, ◌∙◌, ap, subst, arith, append_assoc}
use Rattle.std.specs.List.{flat_map}
use Rattle.std.specs.Option.{option_map_or}
use Rattle.std.proofs.lemmas.Bool.{eq-eqb}
use Rattle.std.proofs.lemmas.Grind.{flat_map-append}
use Rattle.std.proofs.lemmas.List.{append-nil, drop_all}
use Rattle.aria_page.specs.Field.{◌>>=◌}
use Rattle.aria_journal.specs.LogPage.{read_log_page}
use Rattle.aria_journal.specs.Frames.{frames_in, frames_within}
use Rattle.aria_journal.specs.Front.{Piece, is_full, piece_at, front, run_rest, runs, frames_of_runs, begins_behind}
use Rattle.aria_journal.specs.Runs.{IsRun, IsPartOf}

abbrev Page : Type 0
Page = List ℕ

-- a page that reads and may stand there
pub piece_some : (n : ℕ) (may : Bool) (page : Page) (piece : Piece) → read_log_page n page ≡ Some piece → (piece.0 || may) ≡ true → piece_at n may page ≡ Some piece
unfolding piece_at
piece_some n may page piece read goes =
    ap (λ (o : Option Piece). o >>= (λ (p : Piece). cond (p.0 || may) (Some p) None)) read ∙ ap (λ (b : Bool). cond b (Some piece) None) goes

-- a page that doesn't read
pub piece_none : (n : ℕ) (may : Bool) (page : Page) → read_log_page n page ≡ None → piece_at n may page ≡ None
unfolding piece_at
piece_none n may page none = ap (λ (o : Option Piece). o >>= (λ (p : Piece). cond (p.0 || may) (Some p) None)) none

-- a page that reads and may not stand there
pub piece_other : (n : ℕ) (may : Bool) (page : Page) (piece : Piece) → read_log_page n page ≡ Some piece → (piece.0 || may) ≡ false → piece_at n may page ≡ None
unfolding piece_at
piece_other n may page piece read loose =
    ap (λ (o : Option Piece). o >>= (λ (p : Piece). cond (p.0 || may) (Some p) None)) read ∙ ap (λ (b : Bool). cond b (Some piece) None) loose

-- the front goes on over a page
pub front_some : (n : ℕ) (may : Bool) (page : Page) (pages : List Page) (piece : Piece) → piece_at n may page ≡ Some piece
    → front n may (page ∷ pages) ≡ piece ∷ front (n + 1) (is_full piece) pages
unfolding front
front_some n may page pages piece is = ap (λ (o : Option Piece). option_map_or (λ (p : Piece). p ∷ front (n + 1) (is_full p) pages) o []) is

-- the front ends before a page
pub front_none : (n : ℕ) (may : Bool) (page : Page) (pages : List Page) → piece_at n may page ≡ None → front n may (page ∷ pages) ≡ []
unfolding front
front_none n may page pages none = ap (λ (o : Option Piece). option_map_or (λ (p : Piece). p ∷ front (n + 1) (is_full p) pages) o []) none

-- the front of no pages
pub front_nil : (n : ℕ) (may : Bool) → front n may [] ≡ []
unfolding front
front_nil n may = refl

-- The front of pages that are all in it, and of further pages that don't hang on what stands before them.
pub front-append : (n m : ℕ) (may : Bool) (base more : List Page) → m ≡ n + length base → length (front n may base) ≡ length base
    → ((any : Bool) → front m any more ≡ front m false more) → front n may (base ++ more) ≡ front n may base ++ front m false more
front-append n m may [] more at whole free =
    let place : n ≡ m = omega arith in
    ap (λ (k : ℕ). front k may more) place ∙ free may ∙ ap (λ (l : List Piece). l ++ front m false more) (sym (front_nil n may))
front-append n m may (page ∷ pages) more at whole free =
    over (λ (f : Bool) (long : length (front (n + 1) f pages) ≡ length pages). front-append (n + 1) m f pages more (omega (arith, at)) long free) (piece_at n may page) refl
  where
    over : ((f : Bool) → length (front (n + 1) f pages) ≡ length pages → front (n + 1) f (pages ++ more) ≡ front (n + 1) f pages ++ front m false more) → (o : Option Piece) → piece_at n may page ≡ o → front n may (page ∷ (pages ++ more)) ≡ front n may (page ∷ pages) ++ front m false more
    over next None none = let short : 0 ≡ suc (length pages) = ap length (sym (front_none n may page pages none)) ∙ whole in absurd (omega (arith, short))
    over next (Some piece) is =
        let rest : length (front (n + 1) (is_full piece) pages) ≡ length pages =
        (let both : suc (length (front (n + 1) (is_full piece) pages)) ≡ suc (length pages) = ap length (sym (front_some n may page pages piece is)) ∙ whole in omega (arith, both)) in
        front_some n may page (pages ++ more) piece is
        ∙ ap (λ (l : List Piece). piece ∷ l) (next (is_full piece) rest)
        ∙ ap (λ (l : List Piece). l ++ front m false more) (sym (front_some n may page pages piece is))

-- the pieces of one run, or of the rest of one, with these used bytes
abbrev pub IsPieces : Bool → List Piece → List ℕ → Type 0
IsPieces begins [] text = text ≡ []
IsPieces begins (piece ∷ pieces) text = (piece.0 ≡ begins) × (rest : List ℕ) × (text ≡ piece.1 ++ rest) × IsPieces false pieces rest

-- the rest of a run begins none, and has those bytes
rest_of_run : (pieces : List Piece) (text : List ℕ) → IsPieces false pieces text → (run_rest pieces ≡ text) × (runs pieces ≡ [])
unfolding run_rest runs
rest_of_run [] text is = (sym is, refl)
rest_of_run (piece ∷ pieces) text (first, rest, parts, are) =
    let more = rest_of_run pieces rest are in (
      ap (λ (b : Bool). cond b [] (piece.1 ++ run_rest pieces)) first ∙ ap (λ (l : List ℕ). piece.1 ++ l) more.0 ∙ sym parts,
      ap (λ (b : Bool). cond b ((piece.1 ++ run_rest pieces) ∷ runs pieces) (runs pieces)) first ∙ more.1,
    )

-- nothing in front of a run belongs to it
rest_before_run : (before pieces : List Piece) (text : List ℕ) → IsPieces true pieces text → run_rest (before ++ pieces) ≡ run_rest before
unfolding run_rest
rest_before_run [] [] text is = refl
rest_before_run [] (piece ∷ pieces) text (first, rest, parts, are) = ap (λ (b : Bool). cond b [] (piece.1 ++ run_rest pieces)) first
rest_before_run (piece ∷ before) pieces text is = ap (λ (l : List ℕ). cond piece.0 [] (piece.1 ++ l)) (rest_before_run before pieces text is)

-- the runs in front, and then that run
runs_before_run : (before pieces : List Piece) (text : List ℕ) → IsPieces true pieces text → runs (before ++ pieces) ≡ runs before ++ runs pieces
unfolding runs
runs_before_run [] pieces text is = refl
runs_before_run (piece ∷ before) pieces text is =
    let bytes = rest_before_run before pieces text is in
    let more = runs_before_run before pieces text is in
    ap (λ (l : List ℕ). cond piece.0 ((piece.1 ++ l) ∷ runs (before ++ pieces)) (runs (before ++ pieces))) bytes
    ∙ ap (λ (l : List (List ℕ)). cond piece.0 ((piece.1 ++ run_rest before) ∷ l) l) more ∙ along piece.0
  where
    along : (b : Bool) → cond b ((piece.1 ++ run_rest before) ∷ (runs before ++ runs pieces)) (runs before ++ runs pieces) ≡ cond b ((piece.1 ++ run_rest before) ∷ runs before) (runs before) ++ runs pieces
    along true = refl
    along false = refl

-- the frames of one run
frames_of_run : (pieces : List Piece) (text : List ℕ) → IsPieces true pieces text → frames_of_runs pieces ≡ frames_in text
unfolding frames_of_runs runs frames_in frames_within
frames_of_run [] text is = ap frames_in (sym is)
frames_of_run (piece ∷ pieces) text (first, rest, parts, are) =
    let more = rest_of_run pieces rest are in
    let bytes : piece.1 ++ run_rest pieces ≡ text = ap (λ (l : List ℕ). piece.1 ++ l) more.0 ∙ sym parts in
    ap (λ (b : Bool). flat_map frames_in (cond b ((piece.1 ++ run_rest pieces) ∷ runs pieces) (runs pieces))) first
    ∙ ap (λ (l : List (List ℕ)). flat_map frames_in ((piece.1 ++ run_rest pieces) ∷ l)) more.1
    ∙ append-nil (frames_in (piece.1 ++ run_rest pieces)) ∙ ap frames_in bytes

-- the frames in front of a run, and then those of the run
pub frames_before_run : (before pieces : List Piece) (text : List ℕ) → IsPieces true pieces text → frames_of_runs (before ++ pieces) ≡ frames_of_runs before ++ frames_in text
unfolding frames_of_runs
frames_before_run before pieces text is =
    ap (flat_map frames_in) (runs_before_run before pieces text is) ∙ flat_map-append frames_in (runs before) (runs pieces)
    ∙ ap (λ (l : List (List ℕ)). flat_map frames_in (runs before) ++ l) (frames_of_run pieces text is)

-- of no pages nothing is left
no_part : (n : ℕ) (pages : List Page) → IsPartOf n [] pages → pages ≡ []
no_part n [] is = refl
no_part n (page ∷ pages) is = absurd is

-- a full piece is full
full_is : (begins : Bool) (bytes : List ℕ) → length bytes ≡ 8176 → is_full (begins, bytes) ≡ true
full_is begins bytes full = eq-eqb (length bytes) 8176 full

-- What a crash left of a run: in its front stand pieces of the run, with a front of its bytes.
pub part_pieces : (closed : Bool) (n : ℕ) (begins may : Bool) (written pages : List Page) (text : List ℕ) → IsRun closed n begins written text → IsPartOf n written pages → (begins || may) ≡ true
    → (bytes : List ℕ) × (rest : List ℕ) × (text ≡ bytes ++ rest) × IsPieces begins (front n may pages) bytes
part_pieces closed n begins may written [] text run part goes = ([], text, refl, subst (λ (l : List Piece). IsPieces begins l []) (sym (front_nil n may)) refl)
part_pieces closed n begins may [] (page ∷ pages) text run part goes = absurd part
part_pieces closed n begins may (whole ∷ written) (page ∷ pages) text (bytes, rest, read, parts, full, later) (inr lost, part) goes =
    ([], text, refl, subst (λ (l : List Piece). IsPieces begins l []) (sym (front_none n may page pages (piece_none n may page lost))) refl)
part_pieces closed n begins may (whole ∷ written) (page ∷ pages) text (bytes, rest, read, parts, inl (open', last), later) (inl kept, part) goes =
    let same : read_log_page n page ≡ Some (begins, bytes) = ap (read_log_page n) kept ∙ read in
    let none : pages ≡ [] = no_part (n + 1) pages (subst (λ (l : List Page). IsPartOf (n + 1) l pages) last part) in
    let is : front n may (page ∷ pages) ≡ (begins, bytes) ∷ [] =
    front_some n may page pages (begins, bytes) (piece_some n may page (begins, bytes) same goes)
    ∙ ap (λ (l : List Page). (begins, bytes) ∷ front (n + 1) (is_full (begins, bytes)) l) none ∙ ap (λ (l : List Piece). (begins, bytes) ∷ l) (front_nil (n + 1) (is_full (begins, bytes))) in
    (bytes, rest, parts, subst (λ (l : List Piece). IsPieces begins l bytes) (sym is) (refl, [], sym (append-nil bytes), refl))
part_pieces closed n begins may (whole ∷ written) (page ∷ pages) text (bytes, rest, read, parts, inr full, later) (inl kept, part) goes =
    let same : read_log_page n page ≡ Some (begins, bytes) = ap (read_log_page n) kept ∙ read in
    let more = part_pieces closed (n + 1) false true written pages rest later part refl in
    let is : front n may (page ∷ pages) ≡ (begins, bytes) ∷ front (n + 1) true pages =
    front_some n may page pages (begins, bytes) (piece_some n may page (begins, bytes) same goes)
    ∙ ap (λ (b : Bool). (begins, bytes) ∷ front (n + 1) b pages) (full_is begins bytes full) in (
      bytes ++ more.0,
      more.1,
      parts ∙ ap (λ (l : List ℕ). bytes ++ l) more.2 ∙ sym (append_assoc bytes more.0 more.1),
      subst (λ (l : List Piece). IsPieces begins l (bytes ++ more.0)) (sym is) (refl, more.0, refl, more.3),
    )

-- a whole run: each of its pages is in front, with all of its bytes
pub run_pieces : (closed : Bool) (n : ℕ) (begins may : Bool) (written : List Page) (text : List ℕ) → IsRun closed n begins written text → (begins || may) ≡ true
    → (length (front n may written) ≡ length written) × IsPieces begins (front n may written) text
run_pieces closed n begins may [] text run goes = (ap length (front_nil n may), subst (λ (l : List Piece). IsPieces begins l text) (sym (front_nil n may)) run)
run_pieces closed n begins may (page ∷ pages) text (bytes, rest, read, parts, inl (open', last), later) goes =
    let nothing : rest ≡ [] = subst (λ (l : List Page). IsRun closed (n + 1) false l rest) last later in
    let is : front n may (page ∷ pages) ≡ (begins, bytes) ∷ [] =
    front_some n may page pages (begins, bytes) (piece_some n may page (begins, bytes) read goes)
    ∙ ap (λ (l : List Page). (begins, bytes) ∷ front (n + 1) (is_full (begins, bytes)) l) last ∙ ap (λ (l : List Piece). (begins, bytes) ∷ l) (front_nil (n + 1) (is_full (begins, bytes))) in
    (ap length is ∙ ap (λ (l : List Page). suc (length l)) (sym last), subst (λ (l : List Piece). IsPieces begins l text) (sym is) (refl, rest, parts, nothing))
run_pieces closed n begins may (page ∷ pages) text (bytes, rest, read, parts, inr full, later) goes =
    let more = run_pieces closed (n + 1) false true pages rest later refl in
    let is : front n may (page ∷ pages) ≡ (begins, bytes) ∷ front (n + 1) true pages =
    front_some n may page pages (begins, bytes) (piece_some n may page (begins, bytes) read goes)
    ∙ ap (λ (b : Bool). (begins, bytes) ∷ front (n + 1) b pages) (full_is begins bytes full) in
    (ap length is ∙ ap suc more.0, subst (λ (l : List Piece). IsPieces begins l text) (sym is) (refl, rest, parts, more.1))

-- what is left of a run, wherever it stands, has the same front
pub part_is_free : (closed : Bool) (n : ℕ) (written pages : List Page) (text : List ℕ) → IsRun closed n true written text → IsPartOf n written pages
    → (any : Bool) → front n any pages ≡ front n false pages
part_is_free closed n written [] text run part any = front_nil n any ∙ sym (front_nil n false)
part_is_free closed n [] (page ∷ pages) text run part any = absurd part
part_is_free closed n (whole ∷ written) (page ∷ pages) text (bytes, rest, read, parts, full, later) (inr lost, part) any =
    front_none n any page pages (piece_none n any page lost) ∙ sym (front_none n false page pages (piece_none n false page lost))
part_is_free closed n (whole ∷ written) (page ∷ pages) text (bytes, rest, read, parts, full, later) (inl kept, part) any =
    let same : read_log_page n page ≡ Some (true, bytes) = ap (read_log_page n) kept ∙ read in
    front_some n any page pages (true, bytes) (piece_some n any page (true, bytes) same refl) ∙ sym (front_some n false page pages (true, bytes) (piece_some n false page (true, bytes) same refl))

-- no page of the rest of a run begins one
later_quiet : (closed : Bool) (n : ℕ) (written pages : List Page) (text : List ℕ) → IsRun closed n false written text → IsPartOf n written pages → begins_behind n pages ≡ false
unfolding begins_behind
later_quiet closed n written [] text run part = refl
later_quiet closed n [] (page ∷ pages) text run part = absurd part
later_quiet closed n (whole ∷ written) (page ∷ pages) text (bytes, rest, read, parts, full, later) (inr lost, part) =
    ap (λ (o : Option Piece). option_map_or (λ (p : Piece). p.0) o false || begins_behind (n + 1) pages) lost ∙ later_quiet closed (n + 1) written pages rest later part
later_quiet closed n (whole ∷ written) (page ∷ pages) text (bytes, rest, read, parts, full, later) (inl kept, part) =
    ap (λ (o : Option Piece). option_map_or (λ (p : Piece). p.0) o false || begins_behind (n + 1) pages) (ap (read_log_page n) kept ∙ read) ∙ later_quiet closed (n + 1) written pages rest later part

-- nothing begins behind no page
pub quiet_nil : (n : ℕ) → begins_behind n [] ≡ false
unfolding begins_behind
quiet_nil n = refl

-- a page that doesn't read begins nothing
quiet_over : (n : ℕ) (page : Page) (pages : List Page) → read_log_page n page ≡ None → begins_behind n (page ∷ pages) ≡ begins_behind (n + 1) pages
unfolding begins_behind
quiet_over n page pages lost = ap (λ (o : Option Piece). option_map_or (λ (p : Piece). p.0) o false || begins_behind (n + 1) pages) lost

-- what is left of a run has no damage
pub part_quiet : (closed : Bool) (n m : ℕ) (begins may : Bool) (written pages : List Page) (text : List ℕ) → IsRun closed n begins written text → IsPartOf n written pages → (begins || may) ≡ true
    → m ≡ n + length (front n may pages) → begins_behind m (drop (length (front n may pages)) pages) ≡ false
part_quiet closed n m begins may written [] text run part goes at =
    ap (λ (l : List Page). begins_behind m l) (drop_all (length (front n may [])) [] (omega arith)) ∙ quiet_nil m
part_quiet closed n m begins may [] (page ∷ pages) text run part goes at = absurd part
part_quiet closed n m begins may (whole ∷ written) (page ∷ pages) text (bytes, rest, read, parts, full, later) (inr lost, part) goes at =
    let none : front n may (page ∷ pages) ≡ [] = front_none n may page pages (piece_none n may page lost) in
    let here : m ≡ n = at ∙ ap (λ (l : List Piece). n + length l) none ∙ omega arith in
    ap (λ (l : List Piece). begins_behind m (drop (length l) (page ∷ pages))) none ∙ ap (λ (k : ℕ). begins_behind k (page ∷ pages)) here ∙ quiet_over n page pages lost ∙ later_quiet closed (n + 1) written pages rest later part
part_quiet closed n m begins may (whole ∷ written) (page ∷ pages) text (bytes, rest, read, parts, inl (open', last), later) (inl kept, part) goes at =
    let same : read_log_page n page ≡ Some (begins, bytes) = ap (read_log_page n) kept ∙ read in
    let is : front n may (page ∷ pages) ≡ (begins, bytes) ∷ front (n + 1) (is_full (begins, bytes)) pages = front_some n may page pages (begins, bytes) (piece_some n may page (begins, bytes) same goes) in
    let none : pages ≡ [] = no_part (n + 1) pages (subst (λ (l : List Page). IsPartOf (n + 1) l pages) last part) in
    let gone : drop (length (front (n + 1) (is_full (begins, bytes)) pages)) pages ≡ [] = drop_all (length (front (n + 1) (is_full (begins, bytes)) pages)) pages (omega (arith, ap length none)) in
    let one : drop (length (front n may (page ∷ pages))) (page ∷ pages) ≡ [] = ap (λ (l : List Piece). drop (length l) (page ∷ pages)) is ∙ gone in
    ap (begins_behind m) one ∙ quiet_nil m
part_quiet closed n m begins may (whole ∷ written) (page ∷ pages) text (bytes, rest, read, parts, inr filled, later) (inl kept, part) goes at =
    let same : read_log_page n page ≡ Some (begins, bytes) = ap (read_log_page n) kept ∙ read in
    let is : front n may (page ∷ pages) ≡ (begins, bytes) ∷ front (n + 1) true pages =
    front_some n may page pages (begins, bytes) (piece_some n may page (begins, bytes) same goes)
    ∙ ap (λ (b : Bool). (begins, bytes) ∷ front (n + 1) b pages) (full_is begins bytes filled) in
    ap (λ (l : List Piece). begins_behind m (drop (length l) (page ∷ pages))) is
    ∙ part_quiet closed (n + 1) m false true written pages rest later part refl (at ∙ ap (λ (l : List Piece). n + length l) is ∙ omega arith)

-- A page that is collected takes no frame away and adds none.
use Rattle.std.proofs.Common.{◌≡◌, ◌==◌, ◌||◌, ℕ, suc, ◌+◌, Bool, true, false, cond, Some, None, List, [], ◌∷◌, ◌++◌, length, sym, ◌∙◌, ap, append_assoc}
use Rattle.std.specs.List.{flat_map}
use Rattle.std.proofs.lemmas.List.{append-nil}
use Rattle.aria_journal.specs.LogPage.{read_log_page}
use Rattle.aria_journal.specs.Frames.{frames_in}
use Rattle.aria_journal.specs.Front.{Piece, front, run_rest, runs, frames_of_runs}
use Rattle.aria_journal.specs.Places.{pages_from, frame_pages}
use Rattle.aria_journal.specs.Collected.{all_frames, all_pages}
use Rattle.aria_journal.proofs.Fronts.{front_some, front_none, piece_some, piece_none, piece_other}

-- a piece was collected
piece_collected : (begins : Bool) (bytes run : List ℕ) (frames : List (List ℕ)) (pieces : List Piece)
    → all_frames frames run ((begins, bytes) ∷ pieces) ≡ all_frames (frames ++ cond begins (frames_in run) []) (cond begins [] run ++ bytes) pieces
unfolding all_frames run_rest runs frames_of_runs
piece_collected true bytes run frames pieces =
    ap (λ (l : List ℕ). frames ++ (frames_in l ++ flat_map frames_in ((bytes ++ run_rest pieces) ∷ runs pieces))) (append-nil run)
    ∙ sym (append_assoc frames (frames_in run) (frames_in (bytes ++ run_rest pieces) ++ flat_map frames_in (runs pieces)))
piece_collected false bytes run frames pieces =
    ap (λ (l : List ℕ). frames ++ (frames_in l ++ flat_map frames_in (runs pieces))) (sym (append_assoc run bytes (run_rest pieces)))
    ∙ ap (λ (l : List (List ℕ)). l ++ (frames_in ((run ++ bytes) ++ run_rest pieces) ++ flat_map frames_in (runs pieces))) (sym (append-nil frames))

-- the same, for the pages in which the frames begin
piece_placed : (begins : Bool) (n first : ℕ) (bytes run starts : List ℕ) (pieces : List Piece)
    → all_pages starts first run n ((begins, bytes) ∷ pieces) ≡ all_pages (starts ++ cond begins (pages_from first 0 (frames_in run)) []) (cond begins n first) (cond begins [] run ++ bytes) (n + 1) pieces
unfolding all_pages run_rest frame_pages
piece_placed true n first bytes run starts pieces =
    let more = pages_from n 0 (frames_in (bytes ++ run_rest pieces)) ++ frame_pages (n + 1) pieces in
    ap (λ (l : List ℕ). starts ++ (pages_from first 0 (frames_in l) ++ more)) (append-nil run) ∙ sym (append_assoc starts (pages_from first 0 (frames_in run)) more)
piece_placed false n first bytes run starts pieces =
    ap (λ (l : List ℕ). starts ++ (pages_from first 0 (frames_in l) ++ frame_pages (n + 1) pieces)) (sym (append_assoc run bytes (run_rest pieces)))
    ∙ ap (λ (l : List ℕ). l ++ (pages_from first 0 (frames_in ((run ++ bytes) ++ run_rest pieces)) ++ frame_pages (n + 1) pieces)) (sym (append-nil starts))

-- the page was in the valid front
pub page_taken : (n : ℕ) (may may' : Bool) (page : List ℕ) (pages : List (List ℕ)) (begins : Bool) (bytes run run' : List ℕ) (first first' : ℕ) (frames frames' : List (List ℕ)) (starts starts' : List ℕ)
    → read_log_page n page ≡ Some (begins, bytes) → (begins || may) ≡ true → may' ≡ (length bytes == 8176) → frames' ≡ frames ++ cond begins (frames_in run) [] → starts' ≡ starts ++ cond begins (pages_from first 0 (frames_in run)) []
    → first' ≡ cond begins n first → run' ≡ cond begins [] run ++ bytes
    → (length (front n may (page ∷ pages)) ≡ suc (length (front (n + 1) may' pages))) × (all_frames frames run (front n may (page ∷ pages)) ≡ all_frames frames' run' (front (n + 1) may' pages))
    × (all_pages starts first run n (front n may (page ∷ pages)) ≡ all_pages starts' first' run' (n + 1) (front (n + 1) may' pages))
page_taken n may may' page pages begins bytes run run' first first' frames frames' starts starts' read goes full frames_are starts_are first_is run_is =
    let after = front (n + 1) may' pages in
    let is : front n may (page ∷ pages) ≡ (begins, bytes) ∷ after =
    front_some n may page pages (begins, bytes) (piece_some n may page (begins, bytes) read goes) ∙ ap (λ (b : Bool). (begins, bytes) ∷ front (n + 1) b pages) (sym full) in (
      ap length is,
      ap (all_frames frames run) is ∙ piece_collected begins bytes run frames after ∙ ap (λ (l : List (List ℕ)). all_frames l (cond begins [] run ++ bytes) after) (sym frames_are) ∙ ap (λ (l : List ℕ). all_frames frames' l after) (sym run_is),
      ap (all_pages starts first run n) is ∙ piece_placed begins n first bytes run starts after ∙ ap (λ (l : List ℕ). all_pages l (cond begins n first) (cond begins [] run ++ bytes) (n + 1) after) (sym starts_are)
          ∙ ap (λ (k : ℕ). all_pages starts' k (cond begins [] run ++ bytes) (n + 1) after) (sym first_is) ∙ ap (λ (l : List ℕ). all_pages starts' first' l (n + 1) after) (sym run_is),
    )

-- the page isn't valid, or goes on with nothing
pub page_unread : (n : ℕ) (may : Bool) (page : List ℕ) (pages : List (List ℕ)) → read_log_page n page ≡ None → front n may (page ∷ pages) ≡ []
page_unread n may page pages none = front_none n may page pages (piece_none n may page none)

pub page_loose : (n : ℕ) (may : Bool) (page : List ℕ) (pages : List (List ℕ)) (begins : Bool) (bytes : List ℕ) → read_log_page n page ≡ Some (begins, bytes) → (begins || may) ≡ false → front n may (page ∷ pages) ≡ []
page_loose n may page pages begins bytes read loose = front_none n may page pages (piece_other n may page (begins, bytes) read loose)

-- The pages in which frames begin: one for each frame, and as the frames are read one after the other.
use Rattle.std.proofs.Common.{◌≡◌, ℕ, ◌+◌, ◌-◌, ◌*◌, ◌^◌, ◌<◌, ◌≤◌, true, false, None, Some, List, [], ◌∷◌, ◌++◌, length, refl, sym, ◌∙◌, ap, arith, append_assoc, length-append}
use Rattle.std.specs.Prelude.{◌/◌, All}
use Rattle.std.specs.List.{flat_map}
use Rattle.std.proofs.lemmas.List.{append-nil, length-map}
use Rattle.aria_journal.specs.Frames.{IsFrame, frame_at, frames_bytes, frames_in}
use Rattle.aria_journal.specs.Front.{Piece, front, run_rest, runs, frames_of_runs, frames_of}
use Rattle.aria_journal.specs.Places.{bytes_from, pages_from, frame_pages, frame_pages_of}
use Rattle.aria_journal.proofs.FrameLists.{all_found}
use Rattle.aria_journal.proofs.PageReads.{frame_size, frames_in_some, frames_in_none}

-- one for each frame
length-bytes_from : (at : ℕ) (frames : List (List ℕ)) → length (bytes_from at frames) ≡ length frames
unfolding bytes_from
length-bytes_from at [] = refl
length-bytes_from at (frame ∷ frames) = omega (arith, length-bytes_from (at + (4 + length frame)) frames)

length-pages_from : (n at : ℕ) (frames : List (List ℕ)) → length (pages_from n at frames) ≡ length frames
unfolding pages_from
length-pages_from n at frames = length-map (bytes_from at frames) (λ (byte : ℕ). n + byte / 8176) ∙ length-bytes_from at frames

-- one for each frame of the runs
length-frame_pages : (n : ℕ) (pieces : List Piece) → length (frame_pages n pieces) ≡ length (frames_of_runs pieces)
unfolding frame_pages frames_of_runs runs
length-frame_pages n [] = refl
length-frame_pages n ((true, bytes) ∷ pieces) =
    omega (
      arith,
      length-append (pages_from n 0 (frames_in (bytes ++ run_rest pieces))) (frame_pages (n + 1) pieces),
      length-append (frames_in (bytes ++ run_rest pieces)) (flat_map frames_in (runs pieces)),
      length-pages_from n 0 (frames_in (bytes ++ run_rest pieces)),
      length-frame_pages (n + 1) pieces,
    )
length-frame_pages n ((false, bytes) ∷ pieces) = length-frame_pages (n + 1) pieces

-- One page is told for each frame of the log.
pub length-frame_pages_of : (pages : List (List ℕ)) → length (frame_pages_of pages) ≡ length (frames_of pages)
unfolding frame_pages_of frames_of
length-frame_pages_of pages = length-frame_pages 0 (front 0 false pages)

-- no frame begins nowhere
pages_from_nil : (n at : ℕ) → pages_from n at [] ≡ []
unfolding pages_from bytes_from
pages_from_nil n at = refl

-- the first frame begins here, and the others behind it
pages_from_cons : (n at : ℕ) (frame : List ℕ) (frames : List (List ℕ)) → pages_from n at (frame ∷ frames) ≡ (n + at / 8176) ∷ pages_from n (at + (4 + length frame)) frames
unfolding pages_from bytes_from
pages_from_cons n at frame frames = refl

-- a frame was taken from the front of the rest of a run
pub pages_go_on : (first : ℕ) (run rest frame behind : List ℕ) (starts starts' all : List ℕ) (page : ℕ) → frame_at rest ≡ Some (frame, behind) → length rest ≤ length run
    → page ≡ first + (length run - length rest) / 8176 → starts' ≡ starts ++ page ∷ []
    → starts ++ pages_from first (length run - length rest) (frames_in rest) ≡ all → starts' ++ pages_from first (length run - length behind) (frames_in behind) ≡ all
pages_go_on first run rest frame behind starts starts' all page found within at pushed is =
    let size : length rest ≡ 4 + length frame + length behind = frame_size rest (frame, behind) found in
    let next : length run - length behind ≡ length run - length rest + (4 + length frame) = omega (arith, size, within) in
    let more = pages_from first (length run - length rest + (4 + length frame)) (frames_in behind) in
    ap (λ (l : List ℕ). l ++ pages_from first (length run - length behind) (frames_in behind)) pushed ∙ append_assoc starts (page ∷ []) (pages_from first (length run - length behind) (frames_in behind))
    ∙ ap (λ (k : ℕ). starts ++ page ∷ pages_from first k (frames_in behind)) next ∙ ap (λ (k : ℕ). starts ++ k ∷ more) at
    ∙ ap (λ (l : List ℕ). starts ++ l) (sym (pages_from_cons first (length run - length rest) frame (frames_in behind)) ∙ ap (pages_from first (length run - length rest)) (sym (frames_in_some rest frame behind found))) ∙ is

-- no frame is left in the run
pub pages_end : (first at : ℕ) (rest starts all : List ℕ) → frame_at rest ≡ None → starts ++ pages_from first at (frames_in rest) ≡ all → starts ≡ all
pages_end first at rest starts all none is =
    sym (append-nil starts) ∙ ap (λ (l : List ℕ). starts ++ l) (sym (ap (pages_from first at) (frames_in_none rest none) ∙ pages_from_nil first at)) ∙ is

-- a byte in front of the end of a run has its page
pub byte_within : (first at : ℕ) (run rest : List ℕ) → 8176 * first + length run ≤ 8176 * 2 ^ 32 → 1 ≤ length rest → length rest ≤ length run → at ≡ length run - length rest → 8176 * first + at < 8176 * 2 ^ 32
byte_within first at run rest fits some within is = omega (arith, fits, some, within, is)

-- A worked row: page 0 holds a run of frames of 3 and 5 bytes, and pages 1 and 2 a run of frames of 8000, 300 and 10 bytes.
-- Of the second run the frames begin at bytes 0, 8004 and 8308, and byte 8308 is in its second page.
first_run : (a b : List ℕ) → length a ≡ 3 → pages_from 0 0 (a ∷ b ∷ []) ≡ 0 ∷ 0 ∷ []
unfolding pages_from bytes_from
first_run a b small = ap (λ (k : ℕ). 0 ∷ (0 + (0 + (4 + k)) / 8176) ∷ []) small

second_run : (a b c : List ℕ) → length a ≡ 8000 → length b ≡ 300 → pages_from 1 0 (a ∷ b ∷ c ∷ []) ≡ 1 ∷ 1 ∷ 2 ∷ []
unfolding pages_from bytes_from
second_run a b c long short =
    ap (λ (k : ℕ). 1 ∷ (1 + (0 + (4 + k)) / 8176) ∷ (1 + (0 + (4 + k) + (4 + length b)) / 8176) ∷ []) long ∙ ap (λ (k : ℕ). 1 ∷ 1 ∷ (1 + (8004 + (4 + k)) / 8176) ∷ []) short

pub worked_row : (a b c d e head tail : List ℕ) → All IsFrame (a ∷ b ∷ []) → All IsFrame (c ∷ d ∷ e ∷ []) → length a ≡ 3 → length c ≡ 8000 → length d ≡ 300 → head ++ tail ≡ frames_bytes (c ∷ d ∷ e ∷ [])
    → frame_pages 0 ((true, frames_bytes (a ∷ b ∷ [])) ∷ (true, head) ∷ (false, tail) ∷ []) ≡ 0 ∷ 0 ∷ 1 ∷ 1 ∷ 2 ∷ []
unfolding frame_pages run_rest
worked_row a b c d e head tail first second small long short parts =
    let one : frames_in (frames_bytes (a ∷ b ∷ []) ++ []) ≡ a ∷ b ∷ [] = ap frames_in (append-nil (frames_bytes (a ∷ b ∷ []))) ∙ all_found (a ∷ b ∷ []) first in
    let two : frames_in (head ++ (tail ++ [])) ≡ c ∷ d ∷ e ∷ [] = ap (λ (l : List ℕ). frames_in (head ++ l)) (append-nil tail) ∙ ap frames_in parts ∙ all_found (c ∷ d ∷ e ∷ []) second in
    ap (λ (l : List (List ℕ)). pages_from 0 0 l ++ (pages_from 1 0 (frames_in (head ++ (tail ++ []))) ++ [])) one
    ∙ ap (λ (l : List ℕ). l ++ (pages_from 1 0 (frames_in (head ++ (tail ++ []))) ++ [])) (first_run a b small)
    ∙ ap (λ (l : List (List ℕ)). 0 ∷ 0 ∷ (pages_from 1 0 l ++ [])) two ∙ ap (λ (l : List ℕ). 0 ∷ 0 ∷ (l ++ [])) (second_run c d e long short)

-- What the file of the log holds after a crash: a front of the frames that has all forced ones.
use Rattle.std.proofs.Common.{◌≡◌, ◌⊎◌, inl, inr, ℕ, zero, suc, ◌+◌, ◌-◌, ◌≤◌, Bool, true, false, cond, None, Some, List, [], ◌∷◌, ◌++◌, length, take, drop, replicate, refl, sym, ◌∙◌, ap, subst, arith, append_assoc, length-append}
use Rattle.std.specs.Prelude.{All}
use Rattle.std.proofs.lemmas.List.{drop-drop, drop_at, drop_all, take_all, append-nil, length-drop}
use Rattle.aria_page.specs.Page.{zero_page}
use Rattle.aria_host.specs.Folder.{put_page}
use Rattle.aria_journal.specs.LogPage.{read_log_page}
use Rattle.aria_journal.specs.Frames.{IsFrame, frames_bytes, frames_in}
use Rattle.aria_journal.specs.Front.{Piece, front, frames_of_runs, frames_of, end_of, begins_behind, damaged_at}
use Rattle.aria_journal.specs.Runs.{IsRun, IsPartOf, IsWhole, HoldsFrames, HoldsFrom, begins_next}
use Rattle.aria_journal.proofs.LogPages.{zero_reads}
use Rattle.aria_journal.proofs.FrameLists.{front_holds}
use Rattle.aria_journal.proofs.Fronts.{front-append, frames_before_run, part_pieces, run_pieces, part_is_free, part_quiet}

-- a run is a part of itself
pub part_itself : (n : ℕ) (written : List (List ℕ)) → IsPartOf n written written
part_itself n [] = tt
part_itself n (page ∷ pages) = (inl refl, part_itself (n + 1) pages)

-- the front of whole pages and what is left of a run behind them
front_of_image : (closed : Bool) (base written more frames : List (List ℕ)) (text : List ℕ) → IsWhole base frames → IsRun closed (length base) true written text → IsPartOf (length base) written more
    → front 0 false (base ++ more) ≡ front 0 false base ++ front (length base) false more
unfolding end_of
front_of_image closed base written more frames text whole run part =
    front-append 0 (length base) false base more (omega arith) whole.whole (part_is_free closed (length base) written more text run part)

-- what stands behind the whole pages, from some page of it on
drop_behind : (base more : List (List ℕ)) (k : ℕ) → drop (length base + k) (base ++ more) ≡ drop k more
drop_behind base more k = sym (drop-drop k (length base) (base ++ more)) ∙ ap (drop k) (drop_at base more (length base) refl)

-- a run behind whole pages makes them whole again
pub whole_and_run : (closed : Bool) (base written frames : List (List ℕ)) (text : List ℕ) → IsWhole base frames → IsRun closed (length base) true written text
    → IsWhole (base ++ written) (frames ++ frames_in text)
unfolding end_of frames_of
whole_and_run closed base written frames text whole run =
    let pieces = run_pieces closed (length base) true false written text run refl in
    let is = front_of_image closed base written written frames text whole run (part_itself (length base) written) in
    record {
      whole = ap length is ∙ length-append (front 0 false base) (front (length base) false written) ∙ ap (λ (k : ℕ). k + length (front (length base) false written)) whole.whole
          ∙ ap (λ (k : ℕ). length base + k) pieces.0 ∙ sym (length-append base written);
      frames_are = ap frames_of_runs is ∙ frames_before_run (front 0 false base) (front (length base) false written) text pieces.1
          ∙ ap (λ (l : List (List ℕ)). l ++ frames_in text) whole.frames_are;
    }

-- whole pages and what is left of a run behind them hold the frames of the whole pages, and those in a front of the run
pub image_holds : (closed : Bool) (base written more frames : List (List ℕ)) (text : List ℕ) → IsWhole base frames → IsRun closed (length base) true written text → IsPartOf (length base) written more
    → (bytes : List ℕ) × (rest : List ℕ) × (text ≡ bytes ++ rest) × HoldsFrames (Some (base ++ more)) (frames ++ frames_in bytes)
unfolding end_of frames_of damaged_at
image_holds closed base written more frames text whole run part =
    let left = part_pieces closed (length base) true false written more text run part refl in
    let is = front_of_image closed base written more frames text whole run part in
    let kept : List Piece = front (length base) false more in
    let end : length (front 0 false (base ++ more)) ≡ length base + length kept = ap length is ∙ length-append (front 0 false base) kept ∙ ap (λ (k : ℕ). k + length kept) whole.whole in
    let quiet = part_quiet closed (length base) (length base + length kept) true false written more text run part refl refl in
    let none : begins_behind (length (front 0 false (base ++ more))) (drop (length (front 0 false (base ++ more))) (base ++ more)) ≡ false =
    ap (λ (k : ℕ). begins_behind k (drop k (base ++ more))) end ∙ ap (λ (l : List (List ℕ)). begins_behind (length base + length kept) l) (drop_behind base more (length kept)) ∙ quiet in (
      left.0,
      left.1,
      left.2,
      record {
        frames_are = ap frames_of_runs is ∙ frames_before_run (front 0 false base) kept left.0 left.3 ∙ ap (λ (l : List (List ℕ)). l ++ frames_in left.0) whole.frames_are;
        sound = ap (λ (b : Bool). cond b (Some (length (front 0 false (base ++ more)))) None) none;
      },
    )

-- some frames, and a front of those behind them
take_over : (frames : List (List ℕ)) (forced m : ℕ) → forced ≤ length frames → take forced frames ++ take m (drop forced frames) ≡ take (forced + m) frames
take_over frames zero m le = ap (λ (k : ℕ). take k frames) (let e : m ≡ 0 + m = omega arith in e)
take_over [] (suc forced) m le = absurd (omega arith)
take_over (frame ∷ frames) (suc forced) m le =
    let next : suc forced + m ≡ suc (forced + m) = omega arith in
    ap (λ (l : List (List ℕ)). frame ∷ l) (take_over frames forced m (omega (arith, le))) ∙ ap (λ (k : ℕ). take k (frame ∷ frames)) (sym next)

-- An image while a run is written: it holds a front of the frames that has each forced one, where the run holds a front
-- of the bytes of the others.
pub image_from : (closed : Bool) (base written more frames : List (List ℕ)) (forced : ℕ) (text ahead : List ℕ) → IsWhole base (take forced frames) → forced ≤ length frames → All IsFrame (drop forced frames)
    → IsRun closed (length base) true written text → IsPartOf (length base) written more → text ++ ahead ≡ frames_bytes (drop forced frames) → HoldsFrom (Some (base ++ more)) frames forced
image_from closed base written more frames forced text ahead whole few are run part spells =
    let (bytes, rest, parts, holds) = image_holds closed base written more (take forced frames) text whole run part in
    let all : bytes ++ (rest ++ ahead) ≡ frames_bytes (drop forced frames) = sym (append_assoc bytes rest ahead) ∙ ap (λ (l : List ℕ). l ++ ahead) (sym parts) ∙ spells in
    let found = front_holds (drop forced frames) bytes (rest ++ ahead) are all in
    record {
      count = forced + found.count;
      from = omega arith;
      within = omega (arith, found.within, length-drop forced frames);
      holds = subst (λ (l : List (List ℕ)). HoldsFrames (Some (base ++ more)) l) (ap (λ (l : List (List ℕ)). take forced frames ++ l) found.front ∙ take_over frames forced found.count few) holds;
    }

-- what is left is no more than what was written
pub part_length : (n : ℕ) (written more : List (List ℕ)) → IsPartOf n written more → length more ≤ length written
part_length n written [] part = omega arith
part_length n [] (page ∷ pages) part = absurd part
part_length n (whole ∷ written) (page ∷ pages) part = omega (arith, part_length (n + 1) written pages part.1)

-- what is left of a run is left of a longer one
pub part_longer : (n : ℕ) (written added more : List (List ℕ)) → IsPartOf n written more → IsPartOf n (written ++ added) more
part_longer n written added [] part = tt
part_longer n [] added (page ∷ pages) part = absurd part
part_longer n (whole ∷ written) added (page ∷ pages) part = (part.0, part_longer (n + 1) written added pages part.1)

-- A page more is written behind a run. What a crash leaves may have it as it was written, or a page there that isn't
-- valid, and zeros in front of it.
pub part_added : (n m : ℕ) (written more : List (List ℕ)) (whole page : List ℕ) → IsPartOf n written more → m ≡ n + length written → ((page ≡ whole) ⊎ (read_log_page m page ≡ None))
    → IsPartOf n (written ++ whole ∷ []) (more ++ (replicate (length written - length more) zero_page ++ page ∷ []))
part_added n m [] [] whole page part at is = (subst (λ (k : ℕ). (page ≡ whole) ⊎ (read_log_page k page ≡ None)) (at ∙ omega arith) is, tt)
part_added n m [] (x ∷ more) whole page part at is = absurd part
part_added n m (w ∷ written) [] whole page part at is =
    let count : suc (length written) - 0 ≡ suc (length written) = omega arith in
    let rest : length written - 0 ≡ length written = omega arith in
    let later = part_added (n + 1) m written [] whole page tt (at ∙ omega arith) is in
    subst (λ (k : ℕ). IsPartOf n (w ∷ (written ++ whole ∷ [])) (replicate k zero_page ++ page ∷ [])) (sym count)
    (inr (zero_reads n), subst (λ (k : ℕ). IsPartOf (n + 1) (written ++ whole ∷ []) (replicate k zero_page ++ page ∷ [])) rest later)
part_added n m (w ∷ written) (x ∷ more) whole page part at is =
    let same : suc (length written) - suc (length more) ≡ length written - length more = omega arith in
    let later = part_added (n + 1) m written more whole page part.1 (at ∙ omega arith) is in
    subst (λ (k : ℕ). IsPartOf n (w ∷ (written ++ whole ∷ [])) (x ∷ (more ++ (replicate k zero_page ++ page ∷ [])))) (sym same) (part.0, later)

-- a page put behind the end of whole pages and of what is left of a run
pub put_behind : (base more : List (List ℕ)) (page : List ℕ) (at k : ℕ) → at ≡ length base + k → length more ≤ k
    → put_page at page (base ++ more) ≡ base ++ (more ++ (replicate (k - length more) zero_page ++ page ∷ []))
unfolding put_page
put_behind base more page at k place few =
    let long : length (base ++ more) ≡ length base + length more = length-append base more in
    let front_is : take at (base ++ more) ≡ base ++ more = take_all at (base ++ more) (omega arith) in
    let behind : drop (at + 1) (base ++ more) ≡ [] = drop_all (at + 1) (base ++ more) (omega arith) in
    let count : at - length (base ++ more) ≡ k - length more = omega arith in
    ap (λ (l : List (List ℕ)). l ++ (replicate (at - length (base ++ more)) zero_page ++ page ∷ drop (at + 1) (base ++ more))) front_is
    ∙ ap (λ (l : List (List ℕ)). (base ++ more) ++ (replicate (at - length (base ++ more)) zero_page ++ page ∷ l)) behind
    ∙ ap (λ (c : ℕ). (base ++ more) ++ (replicate c zero_page ++ page ∷ [])) count
    ∙ append_assoc base more (replicate (k - length more) zero_page ++ page ∷ [])

-- a run that may be closed
pub run_closed : (n : ℕ) (begins : Bool) (written : List (List ℕ)) (text : List ℕ) → IsRun false n begins written text → IsRun true n begins written text
run_closed n begins [] text run = run
run_closed n begins (page ∷ pages) text (bytes, rest, read, parts, inl (never, last), later) = absurd (cc)
run_closed n begins (page ∷ pages) text (bytes, rest, read, parts, inr full, later) = (bytes, rest, read, parts, inr full, run_closed (n + 1) false pages rest later)

-- whether the page behind these begins the run, where the first of them does or doesn't
abbrev begins_after : Bool → List (List ℕ) → Bool
begins_after begins [] = begins
begins_after begins (page ∷ pages) = false

-- the rest of a run goes on with no beginning
never_again : (pages : List (List ℕ)) → begins_after false pages ≡ false
never_again [] = refl
never_again (page ∷ pages) = refl

-- a page that none follows may end the run, or is full
last_page : (closed : Bool) (bytes : List ℕ) (pages : List (List ℕ)) → pages ≡ [] → ((closed ≡ true) ⊎ (length bytes ≡ 8176)) → ((closed ≡ true) × (pages ≡ [])) ⊎ (length bytes ≡ 8176)
last_page closed bytes pages none (inl open') = inl (open', none)
last_page closed bytes pages none (inr full) = inr full

-- a page more in a run
run_more : (closed : Bool) (n m : ℕ) (begins : Bool) (written : List (List ℕ)) (text bytes page : List ℕ) → IsRun false n begins written text → m ≡ n + length written
    → read_log_page m page ≡ Some (begins_after begins written, bytes) → ((closed ≡ true) ⊎ (length bytes ≡ 8176)) → IsRun closed n begins (written ++ page ∷ []) (text ++ bytes)
run_more closed n m begins [] text bytes page run at read ends =
    let here : read_log_page n page ≡ Some (begins, bytes) = ap (λ (k : ℕ). read_log_page k page) (let e : n ≡ m = omega (arith, at) in e) ∙ read in
    let all : text ++ bytes ≡ bytes ++ [] = ap (λ (l : List ℕ). l ++ bytes) run ∙ sym (append-nil bytes) in
    (bytes, [], here, all, last_page closed bytes [] refl ends, refl)
run_more closed n m begins (w ∷ written) text bytes page (first, rest, reads, parts, inl (never, last), later) at read ends = absurd (cc)
run_more closed n m begins (w ∷ written) text bytes page (first, rest, reads, parts, inr full, later) at read ends =
    let again : read_log_page m page ≡ Some (begins_after false written, bytes) = read ∙ ap (λ (b : Bool). Some (b, bytes)) (sym (never_again written)) in
    let more = run_more closed (n + 1) m false written rest bytes page later (at ∙ omega arith) again ends in
    (first, rest ++ bytes, reads, ap (λ (l : List ℕ). l ++ bytes) parts ∙ append_assoc first rest bytes, inr full, more)

-- the two words for the same
same_beginning : (written : List (List ℕ)) → begins_after true written ≡ begins_next written
same_beginning [] = refl
same_beginning (page ∷ pages) = refl

-- a page more in a run that begins here
pub run_added : (closed : Bool) (n m : ℕ) (written : List (List ℕ)) (text bytes page : List ℕ) → IsRun false n true written text → m ≡ n + length written
    → read_log_page m page ≡ Some (begins_next written, bytes) → ((closed ≡ true) ⊎ (length bytes ≡ 8176)) → IsRun closed n true (written ++ page ∷ []) (text ++ bytes)
run_added closed n m written text bytes page run at read ends =
    run_more closed n m true written text bytes page run at (read ∙ ap (λ (b : Bool). Some (b, bytes)) (sym (same_beginning written))) ends

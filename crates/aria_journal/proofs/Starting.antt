-- A log that is started: its file is made, or cut to its end, and brought to the disk.
use Rattle.std.proofs.Common.{◌≡◌, ⊎_elim, rules, ℕ, suc, ◌+◌, ◌≤◌, Bool, true, false, cond, Option, None, Some, unwrap_or, List, [], ◌∷◌, length, take, drop, refl, sym, ◌∙◌, ap, subst, arith}
use Rattle.std.specs.Prelude.{IsSome}
use Rattle.std.specs.Option.{option_map}
use Rattle.std.proofs.lemmas.List.{length-take, take_all, drop_all}
use Rattle.aria_host.specs.Folder.{Folder}
use Rattle.aria_host.specs.State.{State}
use Rattle.aria_host.specs.Calls.{Syncs, Cuts}
use Rattle.aria_host.proofs.Files.{with_file-same, cut_others}
use Rattle.aria_host.proofs.Moments.{OnlyNow, one_call}
use Rattle.aria_journal.specs.declared.log.Log.{Log as LogValue}
use Rattle.aria_journal.specs.Front.{Piece, is_full, piece_at, front, frames_of_runs, frames_of, end_of, begins_behind, damaged_at}
use Rattle.aria_journal.specs.Runs.{IsWhole, HoldsFrames}
use Rattle.aria_journal.specs.Log.{log_file, log_pages, log_of, SameOthers, IsLogAtRest, IsOpened, IsLog, Prepared}
use Rattle.aria_journal.proofs.Fronts.{front_some, front_none, front_nil, quiet_nil}
use Rattle.aria_journal.proofs.Writing.{is_there}
use Rattle.aria_journal.proofs.Forcing.{settled_log}

-- the front alone has the same front, and is no longer than the pages
front-take : (n : ℕ) (may : Bool) (pages : List (List ℕ)) → (front n may (take (length (front n may pages)) pages) ≡ front n may pages) × (length (front n may pages) ≤ length pages)
front-take n may [] = (ap (λ (l : List (List ℕ)). front n may l) (take_all (length (front n may [])) [] (omega arith)), subst (λ (l : List Piece). length l ≤ 0) (sym (front_nil n may)) (omega arith))
front-take n may (page ∷ pages) = over (λ (f : Bool). front-take (n + 1) f pages) (piece_at n may page) refl
  where
    over : ((f : Bool) → (front (n + 1) f (take (length (front (n + 1) f pages)) pages) ≡ front (n + 1) f pages) × (length (front (n + 1) f pages) ≤ length pages)) → (o : Option Piece) → piece_at n may page ≡ o
        → (front n may (take (length (front n may (page ∷ pages))) (page ∷ pages)) ≡ front n may (page ∷ pages)) × (length (front n may (page ∷ pages)) ≤ suc (length pages))
    over next None none =
        let is : front n may (page ∷ pages) ≡ [] = front_none n may page pages none in
        (ap (λ (l : List Piece). front n may (take (length l) (page ∷ pages))) is ∙ front_nil n may ∙ sym is, subst (λ (l : List Piece). length l ≤ suc (length pages)) (sym is) (omega arith))
    over next (Some piece) some =
        let is : front n may (page ∷ pages) ≡ piece ∷ front (n + 1) (is_full piece) pages = front_some n may page pages piece some in
        let rest = next (is_full piece) in (
          ap (λ (l : List Piece). front n may (take (length l) (page ∷ pages))) is
              ∙ front_some n may page (take (length (front (n + 1) (is_full piece) pages)) pages) piece some
              ∙ ap (λ (l : List Piece). piece ∷ l) rest.0 ∙ sym is,
          subst (λ (l : List Piece). length l ≤ suc (length pages)) (sym is) (omega (arith, rest.1)),
        )

-- the log doesn't end behind the file
pub end_within : (pages : List (List ℕ)) → end_of pages ≤ length pages
unfolding end_of
end_within pages = (front-take 0 false pages).1

-- the pages up to the log's end are whole, with the same frames
pub cut_whole : (pages : List (List ℕ)) → IsWhole (take (end_of pages) pages) (frames_of pages)
unfolding end_of frames_of
cut_whole pages =
    let same = front-take 0 false pages in
    record {
      whole = ap length same.0 ∙ sym (length-take (length (front 0 false pages)) pages ∙ omega (arith, same.1));
      frames_are = ap frames_of_runs same.0;
    }

-- whole pages have no damage
pub whole_sound : (pages frames : List (List ℕ)) → IsWhole pages frames → damaged_at pages ≡ None
unfolding damaged_at
whole_sound pages frames is =
    let none : drop (end_of pages) pages ≡ [] = drop_all (end_of pages) pages (omega (arith, is.whole)) in
    ap (λ (l : List (List ℕ)). cond (begins_behind (end_of pages) l) (Some (end_of pages)) None) none
    ∙ ap (λ (b : Bool). cond b (Some (end_of pages)) None) (quiet_nil (end_of pages))

-- a file as it was holds the frames
holds_same : (content : Option (List (List ℕ))) (pages : List (List ℕ)) → damaged_at pages ≡ None → unwrap_or content [] ≡ pages → HoldsFrames content (frames_of pages)
holds_same content pages sound is = record { frames_are = ap frames_of is; sound = ap damaged_at is ∙ sound }

-- a file that was cut to the log's end holds the frames
holds_cut : (content : Option (List (List ℕ))) (pages : List (List ℕ)) → unwrap_or content [] ≡ take (end_of pages) pages → HoldsFrames content (frames_of pages)
holds_cut content pages is =
    let whole = cut_whole pages in
    record { frames_are = ap frames_of is ∙ whole.frames_are; sound = ap damaged_at is ∙ whole_sound (take (end_of pages) pages) (frames_of pages) whole }

-- at rest each image holds the frames
pub rest_holds : (s : State) → damaged_at (log_pages s.folder) ≡ None → IsLogAtRest s → (c : Folder) → s.may_leave c → HoldsFrames (c log_file) (log_of s.folder)
rest_holds s sound rest c leaves = holds_same (c log_file) (log_pages s.folder) sound (ap (λ (o : Option (List (List ℕ))). unwrap_or o []) (rest c leaves))

-- the file was cut to the log's end
pub was_cut : (log : LogValue) (old new : State) (done : Bool) (end : ℕ) → OnlyNow old → IsOpened log old.folder → IsLogAtRest old → IsSome (old.folder log_file) → end ≡ end_of (log_pages old.folder)
    → Cuts log_file end old new done → Prepared log old new done
was_cut log old new done end only is rest there at cuts =
    let cut_is : (d : Folder) → d log_file ≡ old.folder log_file → option_map (take end) (d log_file) ≡ Some (take (end_of (log_pages old.folder)) (log_pages old.folder)) =
    λ d same. ap (option_map (take end)) (same ∙ is_pages (old.folder log_file) there) ∙ ap (λ (k : ℕ). Some (take k (log_pages old.folder))) at in
    let after : (c : Folder) → new.may_leave c → HoldsFrames (c log_file) (log_of old.folder) × (d : Folder) × old.may_leave d × SameOthers d c = λ c leaves.
    let (d, was, step) = cuts.images c leaves in (
      ⊎_elim (λ stays. subst (λ (g : Folder). HoldsFrames (g log_file) (log_of old.folder)) (sym stays) (rest_holds old is.sound rest d was))
          (λ short. holds_cut (c log_file) (log_pages old.folder) (ap (λ (g : Folder). unwrap_or (g log_file) []) short
          ∙ ap (λ (o : Option (List (List ℕ))). unwrap_or o []) (with_file-same log_file (option_map (take end) (d log_file)) d ∙ cut_is d (rest d was)))) step,
      d,
      was,
      λ f other. cut_others log_file f end d c other step,
    ) in
    record {
      keeps = one_call old new only cuts.tells (λ f other. cut_others log_file f end old.folder new.folder other cuts.either) (rest_holds old is.sound rest) after;
      folder = λ finished. ap (λ (g : Folder). g log_file) (cuts.whole finished) ∙ with_file-same log_file (option_map (take end) (old.folder log_file)) old.folder ∙ cut_is old.folder refl;
      images = λ c leaves. (after c leaves).0;
      there = λ finished c leaves.
          let (d, was, step) = cuts.images c leaves in
          ⊎_elim (λ stays. is_there (c log_file) (log_pages old.folder) (ap (λ (g : Folder). g log_file) stays ∙ rest d was ∙ is_pages (old.folder log_file) there))
          (λ short. is_there (c log_file) (take (end_of (log_pages old.folder)) (log_pages old.folder)) (ap (λ (g : Folder). g log_file) short ∙ with_file-same log_file (option_map (take end) (d log_file)) d ∙ cut_is d (rest d was))) step;
    }
  where
    is_pages : (o : Option (List (List ℕ))) → IsSome o → o ≡ Some (unwrap_or o [])
    is_pages None never = absurd (search rules)
    is_pages (Some pages) yes' = refl

-- the log is started
pub started_log : (log : LogValue) (old mid new : State) → IsOpened log old.folder → Prepared log old mid true → Syncs log_file mid new true
    → IsLog log new (log_of old.folder) (length (log_of old.folder))
started_log log old mid new is prepared syncs =
    let pages : List (List ℕ) = log_pages old.folder in
    let folder : new.folder log_file ≡ Some (take (end_of pages) pages) = ap (λ (g : Folder). g log_file) syncs.folder ∙ prepared.folder refl in
    settled_log log new (take (end_of pages) pages) (frames_of pages) (cut_whole pages) folder (λ c leaves. syncs.durable refl c leaves (prepared.there refl c (syncs.no_more c leaves)) ∙ prepared.folder refl)
    (is.fills.number_is ∙ sym (length-take (end_of pages) pages ∙ omega (arith, end_within pages))) is.fills.begins_is is.fills.used_is is.fills.body_is

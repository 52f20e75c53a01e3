-- A line that comes to the disk, and is told then.
use Rattle.std.proofs.Common.{◌≡◌, inl, inr, ⊎_elim, rules, ℕ, ◌+◌, Bool, true, false, Option, List, [], ◌∷◌, ◌++◌, length, take, sym, ◌∙◌, ap, subst, arith, length-append}
use Rattle.std.proofs.lemmas.List.{append-nil, take_all, take-append-le}
use Rattle.std.proofs.lemmas.Bool.{cases_lt}
use Rattle.aria_host.specs.declared.host.Stream.TheVariants.{Out}
use Rattle.aria_host.specs.Folder.{Folder}
use Rattle.aria_host.specs.State.{State, LeavesOnly}
use Rattle.aria_host.specs.Calls.{Tells}
use Rattle.aria_host.proofs.Moments.{OnlyNow, started, goes_on, joined, weakened, nothing_moves, implied}
use Rattle.aria_journal.specs.declared.log.Log.{Log as LogValue}
use Rattle.aria_journal.specs.Runs.{HoldsFrames, HoldsFrom}
use Rattle.aria_journal.specs.Log.{log_file, SameOthers, AtLog, LogMoments, LogKeeps, IsLog}
use Rattle.aria_journal.proofs.Keeping.{log_images, log_over_tell}
use Rattle.aria_engine.specs.Holds.{IsLogAlone, AreLogAlone}
use Rattle.aria_engine.specs.Turns.{with_line, HoldsEither, LeavesLines, Completes}

-- where all are forced, a crash leaves all of them
pub whole_from : (content : Option (List (List ℕ))) (frames : List (List ℕ)) → HoldsFrom content frames (length frames) → HoldsFrames content frames
whole_from content frames from = subst (λ (l : List (List ℕ)). HoldsFrames content l) (take_all from.count frames from.from) from.holds

-- where all but the last are forced, a crash leaves them with or without the last
pub either_from : (content : Option (List (List ℕ))) (lines : List (List ℕ)) (line : List ℕ) → HoldsFrom content (lines ++ line ∷ []) (length lines) → HoldsEither content lines (lines ++ line ∷ [])
either_from content lines line from =
    let all : List (List ℕ) = lines ++ line ∷ [] in
    let size : length all ≡ length lines + 1 = length-append lines (line ∷ []) in
    elim (cases_lt from.count (length all)) [
      | inl below ↦
          let count : from.count ≡ length lines = omega (arith, size, from.from) in
          inl (subst (λ (l : List (List ℕ)). HoldsFrames content l) (take-append-le from.count lines (line ∷ []) (omega (arith, count)) ∙ take_all from.count lines (omega (arith, count))) from.holds)
      | inr past ↦ inr (subst (λ (l : List (List ℕ)). HoldsFrames content l) (take_all from.count all past) from.holds)
    ]

-- a line was kept
pub kept_either : (old new : State) (lines : List (List ℕ)) (line : List ℕ) (kept : Bool) → kept ≡ true → LogKeeps old new (lines ++ line ∷ []) (length lines)
    → LogMoments old new (λ content. HoldsEither content lines (with_line kept lines line))
kept_either old new lines line kept is keeps =
    subst (λ (b : Bool). LogMoments old new (λ content. HoldsEither content lines (with_line b lines line))) (sym is)
    (implied old new keeps (λ c. either_from (c log_file) lines line))

-- no line was kept
pub none_either : (log : LogValue) (s : State) (lines after : List (List ℕ)) → OnlyNow s → IsLog log s lines (length lines) → LogMoments s s (λ content. HoldsEither content lines after)
none_either log s lines after only is =
    nothing_moves s only (λ c leaves. inl (whole_from (c log_file) lines (log_images log s lines (length lines) is c leaves)))

-- other files are none
pub alone_after : (d c : Folder) → SameOthers d c → IsLogAlone d → IsLogAlone c
alone_after d c same alone f form other = same f other ∙ alone f form other

alone_later : (old new : State) → ((c : Folder) → new.may_leave c → (d : Folder) × old.may_leave d × SameOthers d c) → AreLogAlone old → AreLogAlone new
alone_later old new images alone c leaves = let (d, was, same) = images c leaves in alone_after d c same (alone d was)

-- what a crash leaves while the line comes to the disk
keeping : (old new : State) (before after : List (List ℕ)) (text : List ℕ) → LogMoments old new (λ content. HoldsEither content before after) → AreLogAlone old
    → LeavesOnly old new (LeavesLines before after old.out text)
keeping old new before after text keeps alone =
    weakened old new (AtLog old (λ content. HoldsEither content before after)) (LeavesLines before after old.out text) keeps.moments (λ c b at.
    let (d, was, same) = at.others in
    record {
      alone = alone_after d c same (alone d was);
      either = ⊎_elim (λ h. inl (h, at.told_is)) (λ h. inr (h, 0, at.told_is ∙ sym (append-nil old.out))) at.has;
    })

-- the line didn't come to the disk for sure
pub not_kept : (log : LogValue) (old new : State) (before after : List (List ℕ)) (text : List ℕ) → LogMoments old new (λ content. HoldsEither content before after)
    → Completes before after text log old new false
not_kept log old new before after text keeps = record {
  log_is = λ never. absurd (search rules);
  whole = λ never. absurd (search rules);
  part = (0, keeps.others.out ∙ sym (append-nil old.out));
  err = keeps.others.err;
  alone = alone_later old new keeps.others.images;
  moments = keeping old new before after text keeps;
}

-- and then the text was told
pub kept_and_told : (log : LogValue) (old mid new : State) (before after : List (List ℕ)) (text : List ℕ) (done : Bool) → OnlyNow mid
    → LogMoments old mid (λ content. HoldsEither content before after) → IsLog log mid after (length after) → Tells Out text mid new done
    → Completes before after text log old new done
kept_and_told log old mid new before after text done only keeps is tells =
    let holds : (c : Folder) → mid.may_leave c → HoldsFrames (c log_file) after = λ c leaves. whole_from (c log_file) after (log_images log mid after (length after) is c leaves) in
    let alone_mid : AreLogAlone old → AreLogAlone mid = alone_later old mid keeps.others.images in
    let P : Folder → List ℕ → Type 0 = LeavesLines before after old.out text in
    let telling : AreLogAlone old → LeavesOnly mid new P = λ alone.
    goes_on mid mid new text P
    (started mid P (λ c b left. let now = only c b left in record { alone = alone_mid alone c now.0; either = inr (holds c now.0, 0, now.1 ∙ keeps.others.out ∙ sym (append-nil old.out)) }))
    tells.time
    (λ c n leaves. let was = tells.images.no_more c leaves in record { alone = alone_mid alone c was; either = inr (holds c was, n, ap (λ (o : List ℕ). o ++ take n text) keeps.others.out) }) in
    record {
      log_is = λ _. log_over_tell log Out text mid new done after (length after) tells is;
      whole = λ d. tells.whole d ∙ ap (λ (o : List ℕ). o ++ text) keeps.others.out;
      part = (tells.part.0, tells.part.1 ∙ ap (λ (o : List ℕ). o ++ take tells.part.0 text) keeps.others.out);
      err = tells.other ∙ keeps.others.err;
      alone = λ alone c leaves. alone_mid alone c (tells.images.no_more c leaves);
      moments = λ alone. joined old mid new P P (keeping old mid before after text keeps alone) (telling alone) (λ f told p. p);
    }

-- What the images of a store that runs hold.
use Rattle.std.proofs.Common.{◌≡◌, ⊎_elim, ℕ, ◌+◌, ◌==◌, cond, add-zero, false, true, Bool, Option, None, Some, unwrap_or, List, [], ◌∷◌, ◌++◌, length, take, drop, refl, sym, ap, subst, ◌∙◌, arith}
use Rattle.std.specs.List.{flat_map}
use Rattle.std.proofs.lemmas.List.{append-nil, length-append}
use Rattle.std.proofs.Math.Seq.{take-length, drop-length}
use Rattle.aria_host.proofs.Files.{same_file-true}
use Rattle.aria_host.specs.declared.file_name.FileName.{FileName}
use Rattle.aria_host.specs.Folder.{Folder, same_file}
use Rattle.aria_host.specs.State.{State}
use Rattle.aria_journal.specs.Front.{damaged_at, end_of}
use Rattle.aria_journal.specs.Log.{log_file, log_pages, log_of}
use Rattle.aria_journal.specs.Frames.{frame_bytes, frames_bytes}
use Rattle.aria_journal.specs.Runs.{IsRun, IsPartOf}
use Rattle.aria_journal.proofs.Keeping.{log_images}
use Rattle.aria_model.specs.World.{World, empty_world}
use Rattle.aria_model.specs.Script.{no_exception, world_after}
use Rattle.aria_model.specs.Journal.{first_no_change}
use Rattle.aria_engine.specs.declared.store.Store.{Store}
use Rattle.aria_engine.specs.Holds.{Holds, IsLogAlone, AreLogAlone, AtRest, IsSettled}
use Rattle.aria_engine.specs.Store.{tables_of, pages_of, IsRunning}

-- a folder holds the tables that the lines of its log leave
pub holds_lines : (c : Folder) (lines : List (List ℕ)) (world : World) → IsLogAlone c → log_of c ≡ lines → damaged_at (log_pages c) ≡ None
    → first_no_change empty_world lines ≡ None → world ≡ world_after empty_world lines no_exception → Holds c world
holds_lines c lines world alone lines_are sound changes world_is = record {
  alone = alone;
  sound = sound;
  changes = ap (first_no_change empty_world) lines_are ∙ changes;
  world_is = world_is ∙ ap (λ (ls : List (List ℕ)). world_after empty_world ls no_exception) (sym lines_are);
}

-- each image of a store that runs holds its tables
pub running_holds : (store : Store) (s : State) → IsRunning store s → AreLogAlone s → (c : Folder) → s.may_leave c → Holds c (tables_of store)
running_holds store s running alone c leaves =
    let from = log_images store.log s running.lines (length running.lines) running.log c leaves in
    let all : from.count ≡ length running.lines = omega (arith, from.from, from.within) in
    let lines : take from.count running.lines ≡ running.lines = ap (λ (n : ℕ). take n running.lines) all ∙ take-length running.lines in
    holds_lines c running.lines (tables_of store) (alone c leaves) (from.holds.frames_are ∙ lines) from.holds.sound running.changes running.tables

-- a folder holds one world
pub holds_one : (c : Folder) (v w : World) → Holds c v → Holds c w → v ≡ w
holds_one c v w is_v is_w = is_v.world_is ∙ sym is_w.world_is

-- no bytes are a run of no pages
no_pages : (n : ℕ) (begins : Bool) (pages : List (List ℕ)) (text : List ℕ) → text ≡ [] → IsRun false n begins pages text → pages ≡ []
no_pages n begins [] text none run = refl
no_pages n begins (page ∷ pages) text none (bytes, rest, read, is, closed, more) =
    let long : length bytes + length rest ≡ 0 = sym (length-append bytes rest) ∙ ap length (sym is ∙ none) in
    ⊎_elim (λ both. absurd (false_is_not_true both.0)) (λ full. absurd (omega (arith, long, full))) closed
  where
    false_is_not_true : false ≡ true → ⊥
    false_is_not_true h = cc

none_of : (n : ℕ) (written more : List (List ℕ)) → written ≡ [] → IsPartOf n written more → more ≡ []
none_of n written [] none part = refl
none_of n [] (page ∷ more) none part = absurd part
none_of n (whole ∷ written) (page ∷ more) none part = absurd (cc)

none_in_front : (a b : List ℕ) → a ++ b ≡ [] → a ≡ []
none_in_front [] b h = refl
none_in_front (x ∷ a) b h = absurd (cc)

-- nothing is in the page that is filled
forced_all : (lines : List (List ℕ)) → frames_bytes (drop (length lines) lines) ≡ []
unfolding frames_bytes
forced_all lines = ap (flat_map frame_bytes) (drop-length lines)

-- the log of a store that runs is whole pages, in the folder and in each image
record IsForced (store : Store) (s : State) : Type 0 where
  base : List (List ℕ)
  whole : end_of base ≡ length base
  folder : s.folder log_file ≡ Some base
  images : (c : Folder) → s.may_leave c → c log_file ≡ Some base

running_forced : (store : Store) (s : State) → IsRunning store s → IsForced store s
running_forced store s running =
    let log = running.log in
    let before : log.at.before ≡ [] = none_in_front log.at.before log.at.held (log.at.text_is ∙ forced_all running.lines) in
    let written : log.at.written ≡ [] = no_pages (length log.base) true log.at.written log.at.before before log.at.writing.run in
    record {
      base = log.base;
      whole = log.whole.whole;
      folder = log.at.writing.folder ∙ ap (λ (l : List (List ℕ)). Some (log.base ++ l)) written ∙ ap Some (append-nil log.base);
      images = λ c leaves. let image = log.at.writing.images c leaves in
          image.1 ∙ ap (λ (l : List (List ℕ)). Some (log.base ++ l)) (none_of (length log.base) log.at.written image.0 written image.2) ∙ ap Some (append-nil log.base);
    }

-- a crash leaves what a read gives
pub running_rests : (store : Store) (s : State) → IsRunning store s → AreLogAlone s → s.may_leave s.folder → AtRest s
running_rests store s running alone now c leaves f form =
    cases (same_file log_file f) refl
  where
    cases : (b : Bool) → same_file log_file f ≡ b → c f ≡ s.folder f
    cases true same =
        let is : log_file ≡ f = same_file-true log_file f same in
        let forced = running_forced store s running in
        subst (λ (g : FileName). c g ≡ s.folder g) is (forced.images c leaves ∙ sym forced.folder)
    cases false other = alone c leaves f form other ∙ sym (alone s.folder now f form other)

-- the log's file ends where the log does
pub running_settled : (store : Store) (s : State) → IsRunning store s → IsSettled s.folder
running_settled store s running =
    let forced = running_forced store s running in
    let pages : log_pages s.folder ≡ forced.base = ap (λ (o : Option (List (List ℕ))). unwrap_or o []) forced.folder in
    ap end_of pages ∙ forced.whole ∙ ap length (sym pages)

-- and the log has its pages
pub running_pages : (store : Store) (s : State) → IsRunning store s → pages_of store ≡ length (log_pages s.folder)
running_pages store s running =
    let log = running.log in
    let forced = running_forced store s running in
    let before : log.at.before ≡ [] = none_in_front log.at.before log.at.held (log.at.text_is ∙ forced_all running.lines) in
    let held : log.at.held ≡ [] = ap (λ (l : List ℕ). l ++ log.at.held) (sym before) ∙ log.at.text_is ∙ forced_all running.lines in
    let written : log.at.written ≡ [] = no_pages (length log.base) true log.at.written log.at.before before log.at.writing.run in
    let used : store.log.used ≡ 0 = log.at.fills.used_is ∙ ap length held in
    let number : store.log.number ≡ length log.base = log.at.fills.number_is ∙ ap (λ (l : List (List ℕ)). length log.base + length l) written ∙ add-zero (length log.base) in
    let pages : log_pages s.folder ≡ log.base = ap (λ (o : Option (List (List ℕ))). unwrap_or o []) (log.at.writing.folder ∙ ap (λ (l : List (List ℕ)). Some (log.base ++ l)) written ∙ ap Some (append-nil log.base)) in
    ap (λ (n : ℕ). store.log.number + cond (n == 0) 0 1) used ∙ add-zero store.log.number ∙ number ∙ ap length (sym pages)

-- A log stays from a base while files before the base's own are removed.
use Rattle.std.proofs.Common.{◌≡◌, inl, inr, ℕ, ◌+◌, ◌/◌, ◌^◌, ◌<◌, ◌≤◌, Bool, true, false, Option, List, [], ◌∷◌, length, sym, ◌∙◌, ap, subst, arith}
use Rattle.std.specs.Prelude.{IsSome}
use Rattle.std.specs.Option.{option_map_or}
use Rattle.std.proofs.lemmas.Bool.{cases_lt}
use Rattle.aria_host.specs.declared.file_name.FileName.TheVariants.{Control, Log, Keys, Rows, NewKeys, NewRows}
use Rattle.aria_host.specs.Folder.{Folder, is_log}
use Rattle.aria_host.specs.Moments.{SameBut, Left}
use Rattle.aria_host.specs.State.{State}
use Rattle.aria_host.proofs.Moments.{weakened}
use Rattle.aria_log.specs.declared.log.Log.{Log as LogValue}
use Rattle.aria_log.specs.Pieces.{Piece, Pieces, LogFiles, log_files, pieces_of}
use Rattle.aria_record.specs.Logged.{Logged}
use Rattle.aria_log.specs.Groups.{groups_bytes}
use Rattle.aria_log.specs.Log.{LogKeeps, HoldPart, file_of, behind, FilesStand, HoldsRun, IsImage, IsThere, IsLog}
use Rattle.aria_log.specs.Purge.{IsWithout, IsPurged, AtPurge, Purges}
use Rattle.aria_log.proofs.Fronts.{stand_same}
use Rattle.aria_log.proofs.Writing.{full_are, run_is_image}
use Rattle.aria_log.proofs.Syncing.{same_run}
use Rattle.aria_log.proofs.Starting.{other_reads, high_piece}
use Rattle.aria_log.proofs.Logs.{image_keeps}
use Rattle.aria_log.proofs.Purging.{without_from}

-- all files from this one on are the same
abbrev AreAlike : ℕ → LogFiles → LogFiles → Type 0
AreAlike low a b = (f : ℕ) → low ≤ f → f < 2 ^ 24 → b f ≡ a f

-- and so are the pages from its first one on
alike_reads : (a b : LogFiles) (low n : ℕ) → AreAlike low a b → low ≤ n / 1024 → pieces_of b n ≡ pieces_of a n
alike_reads a b low n same from = elim (cases_lt n (2 ^ 34)) [
  | inl inside ↦ other_reads a b n (same (n / 1024) from (omega (arith, inside)))
  | inr high ↦ high_piece b n high ∙ sym (high_piece a n high)
]

alike_part : (a b : Pieces) (n : ℕ) (begins : Bool) (parts : List (List ℕ)) → ((k : ℕ) → n ≤ k → b k ≡ a k) → HoldPart a n begins parts → HoldPart b n begins parts
alike_part a b n begins [] same part = tt
alike_part a b n begins (bytes ∷ parts) same part = (
  elim part.0 [
    | inl kept ↦ inl (same n (omega arith) ∙ kept)
    | inr lost ↦ inr (same n (omega arith) ∙ lost)
  ],
  alike_part a b (n + 1) false parts (λ k from. same k (omega (arith, from))) part.1,
)

alike_files : (a b : LogFiles) (low n : ℕ) → AreAlike low a b → low ≤ n / 1024 → n < 2 ^ 34 → FilesStand a low n → FilesStand b low n
alike_files a b low n same from inside stands = record {
  here = elim stands.here [
    | inr first ↦ inr first
    | inl some ↦ inl (subst (λ (o : Option (List (List ℕ))). IsSome o) (sym (same (n / 1024) from (omega (arith, inside)))) some)
  ];
  stand = λ f above below. subst (λ (o : Option (List (List ℕ))). IsSome o) (sym (same f above (omega (arith, below, inside)))) (stands.stand f above below);
  few = λ f above upto. omega (arith, ap (λ (o : Option (List (List ℕ))). option_map_or length o 0) (same f above (omega (arith, upto, inside))), stands.few f above upto);
  none = λ f above high. same f (omega (arith, above, from)) high ∙ stands.none f above high;
}

alike_run : (a b : LogFiles) (base : ℕ) (whole : List Piece) (parts : List (List ℕ)) → AreAlike (file_of base) a b → behind base whole parts < 2 ^ 34 → HoldsRun base whole parts a → HoldsRun base whole parts b
alike_run a b base whole parts same inside run =
    let pages : (k : ℕ) → base / 8176 ≤ k → pieces_of b k ≡ pieces_of a k = λ k from. alike_reads a b (file_of base) k same (omega (arith, from)) in
    record {
      stand = stand_same (pieces_of a) (pieces_of b) (base / 8176) true whole (λ k from below. pages k from) run.stand;
      part = alike_part (pieces_of a) (pieces_of b) (base / 8176 + length whole) true parts (λ k from. pages k (omega (arith, from))) run.part;
      none = λ k from. pages k (omega (arith, from)) ∙ run.none k from;
      files = alike_files a b (file_of base) (behind base whole parts) same (omega arith) inside run.files;
    }

alike_there : (there : Bool) (a b : LogFiles) (n : ℕ) → b (n / 1024) ≡ a (n / 1024) → IsThere there a n → IsThere there b n
alike_there true a b n same there = subst (λ (o : Option (List (List ℕ))). IsSome o) (sym same) there
alike_there false a b n same there = same ∙ there

-- without files before the base's own the others are the same
pub without_alike : (low base : ℕ) (d c : Folder) → IsWithout low d c → low ≤ file_of base → AreAlike (file_of base) (log_files d) (log_files c)
without_alike low base d c is upto f from form = without_from low f d c is form (omega (arith, upto, from))

-- the log stays
purged_log : (log : LogValue) (old new : State) (base : ℕ) (groups : List Logged) (forced below : ℕ) (done : Bool) → log.number < 2 ^ 34 → below ≤ file_of base → Purges below old new done → IsLog log old base groups forced → IsLog log new base groups forced
purged_log log old new base groups forced below done low before purges is =
    let at = is.at in
    let end : ℕ = behind base is.whole at.parts in
    let inside : end < 2 ^ 34 = omega (arith, at.fills.number_is, low) in
    let now : AreAlike (file_of base) (log_files old.folder) (log_files new.folder) = without_alike purges.part.0 base old.folder new.folder purges.part.2 (omega (arith, purges.part.1, before)) in
    let image : (c : Folder) → (p : IsPurged below old c) → AreAlike (file_of base) (log_files p.image) (log_files c) = λ c p. without_alike p.low base p.image c p.without (omega (arith, p.upto, before)) in
    record {
      whole = is.whole;
      based = is.based;
      fresh = is.fresh;
      are = is.are;
      forced_are = is.forced_are;
      groups_are = is.groups_are;
      at = record {
        parts = at.parts;
        held = at.held;
        writing = record {
          run = same_run (pieces_of (log_files old.folder)) (pieces_of (log_files new.folder)) (base / 8176 + length is.whole) true at.parts
              (λ k from upto. alike_reads (log_files old.folder) (log_files new.folder) (file_of base) k now (omega (arith, from))) at.writing.run;
          reads = alike_run (log_files old.folder) (log_files new.folder) base is.whole at.parts now inside at.writing.reads;
          now = alike_there log.there (log_files old.folder) (log_files new.folder) end (now (end / 1024) (omega arith) (omega (arith, inside))) at.writing.now;
          images = λ c leaves. let p = purges.images c leaves in alike_run (log_files p.image) (log_files c) base is.whole at.parts (image c p) inside (at.writing.images p.image p.left);
          each = λ c leaves. let p = purges.images c leaves in alike_there log.there (log_files p.image) (log_files c) end (image c p (end / 1024) (omega arith) (omega (arith, inside))) (at.writing.each p.image p.left);
        };
        full = at.full;
        first = at.first;
        fills = at.fills;
        text_is = at.text_is;
      };
      idle = is.idle;
    }

-- files of other kinds stay
without_others : (low : ℕ) (d c : Folder) → IsWithout low d c → SameBut is_log d c
without_others low d c is Control other = is Control tt
without_others low d c is (Log n) other = absurd (cc)
without_others low d c is (Keys name) other = is (Keys name) tt
without_others low d c is (Rows name) other = is (Rows name) tt
without_others low d c is (NewKeys name) other = is (NewKeys name) tt
without_others low d c is (NewRows name) other = is (NewRows name) tt

-- and so does the log at each moment
purged_keeps : (log : LogValue) (old new : State) (base : ℕ) (groups : List Logged) (forced below : ℕ) (done : Bool) → log.number < 2 ^ 34 → below ≤ file_of base → Purges below old new done → IsLog log old base groups forced → LogKeeps old new base groups forced
purged_keeps log old new base groups forced below done low before purges is =
    let at = is.at in
    let inside : behind base is.whole at.parts < 2 ^ 34 = omega (arith, at.fills.number_is, low) in
    let text : List ℕ = groups_bytes is.fresh in
    let image : (c : Folder) → IsPurged below old c → IsImage base is.whole text (log_files c) =
    λ c p.
    run_is_image base is.whole at.parts at.held text (log_files c)
    (alike_run (log_files p.image) (log_files c) base is.whole at.parts (without_alike p.low base p.image c p.without (omega (arith, p.upto, before))) inside (at.writing.images p.image p.left)) (full_are at.parts at.full) at.text_is in
    image_keeps log old old new base groups forced is (record {
      moments = weakened old new (AtPurge below old) (Left is_log old (λ c. IsImage base is.whole text (log_files c))) purges.moments
          (λ c told p. record { has = image c p.0; others = (p.0.image, p.0.left, without_others p.0.low p.0.image c p.0.without); told_is = p.1 });
      others = record {
        folder = without_others purges.part.0 old.folder new.folder purges.part.2;
        images = λ c leaves. let p = purges.images c leaves in (p.image, p.left, without_others p.low p.image c p.without);
        out = purges.out;
        err = purges.err;
      };
    })

-- both
pub purged_stays : (log : LogValue) (old new : State) (base : ℕ) (groups : List Logged) (forced below : ℕ) (done : Bool) → log.number < 2 ^ 34 → below ≤ file_of base → Purges below old new done → IsLog log old base groups forced
    → IsLog log new base groups forced × LogKeeps old new base groups forced
purged_stays log old new base groups forced below done low before purges is =
    (purged_log log old new base groups forced below done low before purges is, purged_keeps log old new base groups forced below done low before purges is)

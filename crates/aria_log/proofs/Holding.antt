-- What each image of a running log holds, from its base on and from later ones.
use Rattle.std.proofs.Common.{◌≡◌, ℕ, ◌+◌, ◌-◌, ◌*◌, ◌/◌, ◌<◌, Bool, true, false, List, [], ◌∷◌, ◌++◌, length, drop, sym, ◌∙◌, ap, subst, arith}
use Rattle.std.proofs.Math.Seq.{drop-append-add}
use Rattle.aria_host.specs.declared.file_name.FileName.{FileName}
use Rattle.aria_host.specs.declared.file_name.FileName.TheVariants.{Log}
use Rattle.aria_host.specs.Folder.{Folder}
use Rattle.aria_host.specs.Moments.{Left, Moments}
use Rattle.aria_host.specs.State.{State}
use Rattle.aria_log.specs.declared.log.Log.{Log as LogValue}
use Rattle.aria_log.specs.Pieces.{Piece, LogFiles, log_files, pieces_of}
use Rattle.aria_record.specs.Logged.{Logged}
use Rattle.aria_log.specs.Groups.{placed, groups_bytes, groups_from}
use Rattle.aria_log.specs.Files.{HoldsFrom}
use Rattle.aria_log.specs.Log.{HoldRun, HoldPart, FilesStand, HoldsRun, IsThere, IsWriting, Fills, IsLog, file_of, behind}
use Rattle.aria_host.proofs.Moments.{weakened}
use Rattle.aria_log.proofs.Staying.{same_log}
use Rattle.aria_log.proofs.Appending.{image_now}
use Rattle.aria_log.proofs.Cutting.{no_groups}
use Rattle.aria_log.proofs.Images.{image_from}
use Rattle.aria_log.proofs.Later.{later_files, later_from}

-- a front of the log's groups that has all forced ones, and no damage
pub log_holds : (log : LogValue) (s : State) (base : ℕ) (groups : List Logged) (forced : ℕ) → IsLog log s base groups forced → (c : Folder) → s.may_leave c → HoldsFrom base groups forced (log_files c)
log_holds log s base groups forced is c leaves =
    image_from (log_files c) base is.whole is.fresh groups forced is.based is.are is.forced_are is.groups_are (image_now log s base is.whole (groups_bytes is.fresh) is.at c leaves)

-- the same from a forced group on
pub log_holds_later : (log : LogValue) (s : State) (base i forced : ℕ) (groups : List Logged) (g : Logged) (rest : List Logged) → IsLog log s base groups forced → drop i groups ≡ g ∷ rest → i < forced → (c : Folder) → s.may_leave c
    → HoldsFrom g.at (g ∷ rest) (forced - i) (log_files c)
log_holds_later log s base i forced groups g rest is at low c leaves = later_from (log_files c) base i forced groups g rest (log_holds log s base groups forced is c leaves) at low

-- at each moment of calls that touch some other files alone
pub moments_hold : {mine : FileName → Bool} {P : Folder → Type 0} (log : LogValue) (old new : State) (base : ℕ) (groups : List Logged) (forced : ℕ) → ((n : ℕ) → mine (Log n) ≡ false) → IsLog log old base groups forced → Moments mine old new P
    → Moments mine old new (λ c. P c × HoldsFrom base groups forced (log_files c))
moments_hold {mine} {P} log old new base groups forced apart is run = record {
  moments = weakened old new (Left mine old P) (Left mine old (λ c. P c × HoldsFrom base groups forced (log_files c))) run.moments (λ c told left.
      let (d, was, same) = left.others in
      record {
        has = (left.has, subst (λ (f : LogFiles). HoldsFrom base groups forced f) (sym (same_log mine d c apart same)) (log_holds log old base groups forced is d was));
        others = left.others;
        told_is = left.told_is;
      });
  others = run.others;
}

-- ---- from the first page on that isn't forced

-- a run behind nothing
run_alone : (files : LogFiles) (base first : ℕ) (whole : List Piece) (parts : List (List ℕ)) → base / 8176 + length whole ≡ 8176 * first / 8176 + 0 → HoldsRun base whole parts files → HoldsRun (8176 * first) [] parts files
run_alone files base first whole parts end run = record {
  stand = tt;
  part = subst (λ (k : ℕ). HoldPart (pieces_of files) k true parts) end run.part;
  none = λ n from. run.none n (omega (arith, from, end));
  files = later_files files (file_of base) (file_of (8176 * first)) (behind (8176 * first) [] parts) (omega (arith, end)) (subst (λ (k : ℕ). FilesStand files (file_of base) (k + length parts)) end run.files);
}

-- the groups that aren't forced are a log of their own, which begins with the page behind the forced ones
pub unforced_log : (log : LogValue) (s : State) (base : ℕ) (groups : List Logged) (forced : ℕ) → IsLog log s base groups forced → IsLog log s (8176 * log.first) (drop forced groups) 0
unforced_log log s base groups forced is =
    let here : ℕ = 8176 * log.first in
    let end : base / 8176 + length is.whole ≡ here / 8176 + 0 = omega (arith, is.at.first) in
    let before : List Logged = groups_from base is.whole in
    let count : forced ≡ length before + 0 = omega (arith, is.forced_are) in
    record {
      whole = [];
      based = omega arith;
      fresh = is.fresh;
      are = is.are;
      forced_are = ap (λ (l : List Logged). length l) (no_groups here);
      groups_are = ap (drop forced) is.groups_are
          ∙ ap (λ (k : ℕ). drop k (before ++ placed (8176 * (base / 8176 + length is.whole)) is.fresh)) count
          ∙ drop-append-add before (placed (8176 * (base / 8176 + length is.whole)) is.fresh) 0
          ∙ ap (λ (k : ℕ). placed (8176 * k) is.fresh) end
          ∙ ap (λ (l : List Logged). l ++ placed (8176 * (here / 8176 + 0)) is.fresh) (no_groups here);
      at = record {
        parts = is.at.parts;
        held = is.at.held;
        writing = record {
          run = subst (λ (k : ℕ). HoldRun (pieces_of (log_files s.folder)) k true is.at.parts) end is.at.writing.run;
          reads = run_alone (log_files s.folder) base log.first is.whole is.at.parts end is.at.writing.reads;
          now = subst (λ (k : ℕ). IsThere log.there (log_files s.folder) (k + length is.at.parts)) end is.at.writing.now;
          images = λ c leaves. run_alone (log_files c) base log.first is.whole is.at.parts end (is.at.writing.images c leaves);
          each = λ c leaves. subst (λ (k : ℕ). IsThere log.there (log_files c) (k + length is.at.parts)) end (is.at.writing.each c leaves);
        };
        full = is.at.full;
        first = is.at.first ∙ end;
        fills = subst (λ (k : ℕ). Fills log (k + length is.at.parts) is.at.held) end is.at.fills;
        text_is = is.at.text_is;
      };
      idle = is.idle;
    }

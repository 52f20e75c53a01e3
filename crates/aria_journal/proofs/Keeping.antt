-- What a log's images hold, and what doesn't touch the log.
use Rattle.std.proofs.Common.{◌≡◌, ℕ, Bool, List, true, Option, refl, sym, ◌∙◌, ap, subst}
use Rattle.aria_host.specs.declared.host.Stream.{Stream}
use Rattle.aria_host.specs.Folder.{Folder}
use Rattle.aria_host.specs.State.{State}
use Rattle.aria_host.specs.Calls.{Tells}
use Rattle.aria_journal.specs.declared.log.Log.{Log as LogValue}
use Rattle.aria_journal.specs.Frames.{frames_bytes}
use Rattle.aria_journal.specs.Runs.{HoldsFrom}
use Rattle.std.proofs.Common.{drop}
use Rattle.aria_journal.specs.Log.{log_file, IsLog}
use Rattle.aria_journal.proofs.Images.{image_from}
use Rattle.aria_journal.proofs.Appending.{image_now}

-- a crash now leaves a front of the frames that has each forced one
pub log_images : (log : LogValue) (s : State) (frames : List (List ℕ)) (forced : ℕ) → IsLog log s frames forced → (c : Folder) → s.may_leave c → HoldsFrom (c log_file) frames forced
log_images log s frames forced is c leaves =
    let image = image_now log s is.base (frames_bytes (drop forced frames)) is.at c leaves in
    subst (λ (o : Option (List (List ℕ))). HoldsFrom o frames forced) (sym image.content_is)
    (image_from true is.base image.written image.more frames forced image.before image.ahead is.whole is.within is.are image.run image.part image.text_is)

-- where the log's file is as it was, and is in each image as it was in an image before, the log is as it was
pub log_stays : (log : LogValue) (old new : State) (frames : List (List ℕ)) (forced : ℕ) → IsLog log old frames forced → new.folder log_file ≡ old.folder log_file
    → ((c : Folder) → new.may_leave c → (d : Folder) × old.may_leave d × (c log_file ≡ d log_file)) → IsLog log new frames forced
log_stays log old new frames forced is folder images = record {
  base = is.base;
  whole = is.whole;
  within = is.within;
  are = is.are;
  at = record {
    written = is.at.written;
    before = is.at.before;
    held = is.at.held;
    writing = record {
      folder = folder ∙ is.at.writing.folder;
      images = λ c leaves. let (d, was, same) = images c leaves in let (more, content, part) = is.at.writing.images d was in (more, same ∙ content, part);
      run = is.at.writing.run;
    };
    fills = is.at.fills;
    text_is = is.at.text_is;
  };
  idle = is.idle;
}

-- a call that tells leaves the log as it was
pub log_over_tell : (log : LogValue) (stream : Stream) (bytes : List ℕ) (old new : State) (done : Bool) (frames : List (List ℕ)) (forced : ℕ) → Tells stream bytes old new done → IsLog log old frames forced → IsLog log new frames forced
log_over_tell log stream bytes old new done frames forced tells is =
    log_stays log old new frames forced is (ap (λ (f : Folder). f log_file) tells.folder) (λ c leaves. (c, tells.images.no_more c leaves, refl))

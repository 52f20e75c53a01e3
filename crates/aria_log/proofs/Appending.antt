-- Bytes behind bytes: what was appended to the log, over several writes.
use Rattle.std.proofs.Common.{◌≡◌, ℕ, ◌+◌, ◌<◌, ◌≤◌, Bool, true, false, IsTrue, List, [], ◌∷◌, ◌++◌, length, take, drop, refl, sym, ◌∙◌, ap, subst, arith, append_assoc}
use Rattle.std.specs.Prelude.{All}
use Rattle.std.proofs.lemmas.List.{append-nil, drop-take, take-append-drop, take-take, take_all, length-drop}
use Rattle.std.proofs.lemmas.List.Elements.{All-push}
use Rattle.aria_host.specs.Folder.{Folder}
use Rattle.aria_host.specs.State.{State}
use Rattle.aria_host.proofs.Moments.{OnlyNow, nothing_moves, one_after, implied}
use Rattle.aria_log.specs.declared.log.Log.{Log as LogValue}
use Rattle.aria_log.specs.Pieces.{Piece, LogFiles, log_files}
use Rattle.aria_log.specs.Log.{LogMoments, joined, behind, HoldsRun, IsImage, IsStrict, IsWriting, Fills, IsAt, Wrote, Makes, Adds}
use Rattle.aria_log.proofs.Counting.{not_done}
use Rattle.aria_log.proofs.Writing.{full_are, joined_push, behind_push, run_is_image}

-- what a crash now leaves of the log's files
pub image_now : (log : LogValue) (s : State) (base : ℕ) (whole : List Piece) (text : List ℕ) → IsAt log s base whole text → (c : Folder) → s.may_leave c → IsImage base whole text (log_files c)
image_now log s base whole text is c leaves = run_is_image base whole is.parts is.held text (log_files c) (is.writing.images c leaves) (full_are is.parts is.full) is.text_is

-- nothing was appended
pub adds_nothing : (log : LogValue) (s : State) (base : ℕ) (whole : List Piece) (text : List ℕ) → OnlyNow s → IsAt log s base whole text → Adds log s s base whole text true
adds_nothing log s base whole text only is = record { at = λ done. is; keeps = nothing_moves s only (image_now log s base whole text is) }

-- the file was made, or that failed, while these bytes are ahead
pub makes_keep : (old new : State) (base : ℕ) (whole : List Piece) (parts : List (List ℕ)) (held : List ℕ) (done : Bool) → All (λ (bytes : List ℕ). length bytes ≡ 8176) parts → Makes old new base whole parts done
    → LogMoments old new (IsImage base whole (joined parts ++ held))
makes_keep old new base whole parts held done full makes =
    implied old new makes.keeps (λ c run. run_is_image base whole parts held (joined parts ++ held) (log_files c) run (full_are parts full) refl)

-- the page was written once its file was made
pub wrote_after : (log : LogValue) (a b c : State) (base : ℕ) (whole : List Piece) (parts : List (List ℕ)) (held : List ℕ) (done : Bool) → All (λ (bytes : List ℕ). length bytes ≡ 8176) parts → Makes a b base whole parts true
    → Wrote log b c base whole parts held done → Wrote log a c base whole parts held done
wrote_after log a b c base whole parts held done full makes wrote = record {
  writing = wrote.writing;
  fills = wrote.fills;
  keeps = one_after a b c (makes_keep a b base whole parts held true full makes) wrote.keeps;
}

-- the file wasn't made, so nothing was written
pub wrote_nothing : (log : LogValue) (a b : State) (base : ℕ) (whole : List Piece) (parts : List (List ℕ)) (held : List ℕ) (made done : Bool) → All (λ (bytes : List ℕ). length bytes ≡ 8176) parts → Makes a b base whole parts made → done ≡ false
    → Wrote log a b base whole parts held done
wrote_nothing log a b base whole parts held made done full makes failed = record {
  writing = λ finished. absurd (not_done done failed finished);
  fills = λ finished. absurd (not_done done failed finished);
  keeps = makes_keep a b base whole parts held made full makes;
}

-- the full page was written
pub wrote_full : (log log' : LogValue) (old new : State) (base : ℕ) (whole : List Piece) (text : List ℕ) (done : Bool) (is : IsAt log old base whole text) → length is.held ≡ 8176 → log'.first ≡ log.first
    → Wrote log' old new base whole is.parts is.held done → Adds log' old new base whole text done
wrote_full log log' old new base whole text done is full first wrote = record {
  at = λ finished.
      let filled = wrote.fills finished in
      record {
        parts = is.parts ++ is.held ∷ [];
        held = [];
        writing = wrote.writing finished;
        full = All-push (λ (bytes : List ℕ). length bytes ≡ 8176) is.parts is.held is.full full;
        first = first ∙ is.first;
        fills = record { number_is = filled.number_is ∙ sym (behind_push base whole is.parts is.held); used_is = filled.used_is; body_is = filled.body_is };
        text_is = append-nil (joined (is.parts ++ is.held ∷ [])) ∙ joined_push is.parts is.held ∙ is.text_is;
      };
  keeps = subst (λ (l : List ℕ). LogMoments old new (IsImage base whole l)) is.text_is wrote.keeps;
}

-- bytes were put into the page that is filled
pub filled_at : (log log' : LogValue) (s : State) (base : ℕ) (whole : List Piece) (text part : List ℕ) → IsAt log s base whole text → log'.there ≡ log.there → log'.first ≡ log.first
    → ((number : ℕ) (held : List ℕ) → Fills log number held → Fills log' number (held ++ part)) → IsAt log' s base whole (text ++ part)
filled_at log log' s base whole text part is there first filled = record {
  parts = is.parts;
  held = is.held ++ part;
  writing = subst (λ (b : Bool). IsWriting s base whole is.parts b) (sym there) is.writing;
  full = is.full;
  first = first ∙ is.first;
  fills = filled (behind base whole is.parts) is.held is.fills;
  text_is = sym (append_assoc (joined is.parts) is.held part) ∙ ap (λ (l : List ℕ). l ++ part) is.text_is;
}

-- an image of some bytes, with more to come
pub image_strict : (base : ℕ) (whole : List Piece) (text more all : List ℕ) (files : LogFiles) → 1 ≤ length more → text ++ more ≡ all → IsImage base whole text files → IsStrict base whole all files
image_strict base whole text more all files some is image = record { front = text; ahead = more; image = image; some = some; text_is = is }

-- the next bytes behind those that were taken
pub next_bytes : (bytes : List ℕ) (at count : ℕ) → take at bytes ++ take count (drop at bytes) ≡ take (at + count) bytes
next_bytes bytes at count =
    ap (λ (l : List ℕ). l ++ take count (drop at bytes)) (let e : take at bytes ≡ take at (take (at + count) bytes) = sym (take-take at (at + count) bytes (omega arith)) in e)
    ∙ ap (λ (l : List ℕ). take at (take (at + count) bytes) ++ l) (sym (drop-take at count bytes)) ∙ take-append-drop at (take (at + count) bytes)

-- some bytes were appended, with more of them to come
pub next_at : (log : LogValue) (s : State) (base : ℕ) (whole : List Piece) (text bytes rest : List ℕ) (at count : ℕ) → rest ≡ drop at bytes → IsAt log s base whole ((text ++ take at bytes) ++ take count rest) → IsAt log s base whole (text ++ take (at + count) bytes)
next_at log s base whole text bytes rest at count e is =
    subst (λ (l : List ℕ). IsAt log s base whole l)
    (append_assoc text (take at bytes) (take count rest) ∙ ap (λ (l : List ℕ). text ++ l) (ap (λ (l : List ℕ). take at bytes ++ take count l) e ∙ next_bytes bytes at count)) is

-- what a crash leaves in a step, with more to come
pub next_moments : (a b c : State) (base : ℕ) (whole : List Piece) (text bytes : List ℕ) (at : ℕ) → at < length bytes → LogMoments a b (IsStrict base whole (text ++ bytes)) → LogMoments b c (IsImage base whole (text ++ take at bytes))
    → LogMoments a c (IsStrict base whole (text ++ bytes))
next_moments a b c base whole text bytes at below first second =
    one_after a b c first
    (implied b c second
    (λ f image. image_strict base whole (text ++ take at bytes) (drop at bytes) (text ++ bytes) (log_files f) (omega (arith, below, length-drop at bytes))
    (append_assoc text (take at bytes) (drop at bytes) ∙ ap (λ (l : List ℕ). text ++ l) (take-append-drop at bytes)) image))

-- before the first step
pub first_moments : (log : LogValue) (s : State) (base : ℕ) (whole : List Piece) (text bytes : List ℕ) → OnlyNow s → 1 ≤ length bytes → IsAt log s base whole text → LogMoments s s (IsStrict base whole (text ++ bytes))
first_moments log s base whole text bytes only some is =
    nothing_moves s only (λ c leaves. image_strict base whole text bytes (text ++ bytes) (log_files c) some refl (image_now log s base whole text is c leaves))

-- all bytes were appended
pub all_at : (log : LogValue) (s : State) (base : ℕ) (whole : List Piece) (text bytes : List ℕ) (at : ℕ) → length bytes ≤ at → IsAt log s base whole (text ++ take at bytes) → IsAt log s base whole (text ++ bytes)
all_at log s base whole text bytes at over is = subst (λ (l : List ℕ). IsAt log s base whole (text ++ l)) (take_all at bytes over) is

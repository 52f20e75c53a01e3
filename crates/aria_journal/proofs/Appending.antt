-- Bytes behind bytes: what was appended to the log, over several writes.
use Rattle.std.proofs.Common.{◌≡◌, inr, ℕ, ◌+◌, ◌≤◌, Bool, true, false, IsTrue, Option, List, [], ◌∷◌, ◌++◌, length, take, drop, refl, sym, ◌∙◌, ap, subst, arith, append_assoc}
use Rattle.std.proofs.lemmas.List.{append-nil, length_push, drop-take, take-append-drop, take-take, take_all}
use Rattle.aria_host.specs.Folder.{Folder}
use Rattle.aria_host.specs.State.{State}
use Rattle.aria_host.proofs.Moments.{OnlyNow, nothing_moves, one_after, implied}
use Rattle.aria_journal.specs.declared.log.Log.{Log as LogValue}
use Rattle.aria_journal.specs.Runs.{begins_next}
use Rattle.aria_journal.specs.Log.{log_file, LogMoments, IsImage, Fills, IsAt, Wrote, Adds}
use Rattle.aria_journal.proofs.Images.{run_closed}

-- an image of some bytes is one of more
pub image_longer : (base : List (List ℕ)) (text more : List ℕ) (content : Option (List (List ℕ))) → IsImage base text content → IsImage base (text ++ more) content
image_longer base text more content is = record {
  written = is.written;
  more = is.more;
  before = is.before;
  ahead = is.ahead ++ more;
  content_is = is.content_is;
  run = is.run;
  part = is.part;
  text_is = sym (append_assoc is.before is.ahead more) ∙ ap (λ (l : List ℕ). l ++ more) is.text_is;
}

-- what a crash now leaves of the log's file
pub image_now : (log : LogValue) (s : State) (base : List (List ℕ)) (text : List ℕ) → IsAt log s base text → (c : Folder) → s.may_leave c → IsImage base text (c log_file)
image_now log s base text is c leaves =
    let (more, content, part) = is.writing.images c leaves in
    record {
      written = is.written;
      more = more;
      before = is.before;
      ahead = is.held;
      content_is = content;
      run = run_closed (length base) true is.written is.before is.writing.run;
      part = part;
      text_is = is.text_is;
    }

-- nothing was appended
pub adds_nothing : (log : LogValue) (s : State) (base : List (List ℕ)) (text : List ℕ) → OnlyNow s → IsAt log s base text → Adds log s s base text true
adds_nothing log s base text only is = record { at = λ done. is; keeps = nothing_moves s only (image_now log s base text is) }

-- behind a written page no run begins
no_beginning : (written : List (List ℕ)) (page : List ℕ) → begins_next (written ++ page ∷ []) ≡ false
no_beginning [] page = refl
no_beginning (w ∷ written) page = refl

-- the full page was written
pub wrote_full : (log log' : LogValue) (old new : State) (base : List (List ℕ)) (text : List ℕ) (done : Bool) (is : IsAt log old base text) → length is.held ≡ 8176
    → Wrote log' old new base is.written is.before is.held done → Adds log' old new base text done
wrote_full log log' old new base text done is full wrote = record {
  at = λ finished.
      let filled = wrote.fills finished in
      let count : length base + length (is.written ++ wrote.page ∷ []) ≡ length base + (length is.written + 1) = ap (λ (k : ℕ). length base + k) (length_push is.written wrote.page) in
      record {
        written = is.written ++ wrote.page ∷ [];
        before = is.before ++ is.held;
        held = [];
        writing = wrote.writing finished false (inr full);
        fills = record { number_is = filled.number_is ∙ sym count; begins_is = filled.begins_is ∙ sym (no_beginning is.written wrote.page); used_is = filled.used_is; body_is = filled.body_is };
        text_is = append-nil (is.before ++ is.held) ∙ is.text_is;
      };
  keeps = subst (λ (l : List ℕ). LogMoments old new (IsImage base l)) is.text_is wrote.keeps;
}

-- bytes were put into the page that is filled
pub filled_adds : (log log' : LogValue) (old new : State) (base : List (List ℕ)) (text part : List ℕ) (done : Bool) → Adds log old new base text done
    → ((number : ℕ) (begins : Bool) (held : List ℕ) → Fills log number begins held → Fills log' number begins (held ++ part)) → Adds log' old new base (text ++ part) done
filled_adds log log' old new base text part done adds filled = record {
  at = λ finished. let is = adds.at finished in record {
    written = is.written;
    before = is.before;
    held = is.held ++ part;
    writing = is.writing;
    fills = filled _ _ is.held is.fills;
    text_is = sym (append_assoc is.before is.held part) ∙ ap (λ (l : List ℕ). l ++ part) is.text_is;
  };
  keeps = implied old new adds.keeps (λ c. image_longer base text part (c log_file));
}

-- bytes were appended, and then more
pub adds_after : (log1 log2 : LogValue) (a b c : State) (base : List (List ℕ)) (text part all : List ℕ) (done : Bool) → Adds log1 a b base text true → text ++ part ≡ all → Adds log2 b c base all done → Adds log2 a c base all done
adds_after log1 log2 a b c base text part all done first e second = record {
  at = second.at;
  keeps = one_after a b c
      (implied a b first.keeps (λ d is. subst (λ (l : List ℕ). IsImage base l (d log_file)) e (image_longer base text part (d log_file) is)))
      second.keeps;
}

-- what isn't done isn't done
pub not_done : (b : Bool) → b ≡ false → IsTrue b → ⊥
not_done true e done = absurd (cc)
not_done false e done = absurd (cc)

-- the next bytes behind those that were taken
pub next_bytes : (bytes : List ℕ) (at count : ℕ) → take at bytes ++ take count (drop at bytes) ≡ take (at + count) bytes
next_bytes bytes at count =
    ap (λ (l : List ℕ). l ++ take count (drop at bytes)) (let e : take at bytes ≡ take at (take (at + count) bytes) = sym (take-take at (at + count) bytes (omega arith)) in e)
    ∙ ap (λ (l : List ℕ). take at (take (at + count) bytes) ++ l) (sym (drop-take at count bytes)) ∙ take-append-drop at (take (at + count) bytes)

-- bytes were appended, and then the next ones
pub adds_next : (log1 log2 : LogValue) (a b c : State) (base : List (List ℕ)) (text bytes rest : List ℕ) (at count : ℕ) → rest ≡ drop at bytes → Adds log1 a b base (text ++ take at bytes) true
    → (IsAt log1 b base (text ++ take at bytes) → Adds log2 b c base ((text ++ take at bytes) ++ take count rest) true) → Adds log2 a c base (text ++ take (at + count) bytes) true
adds_next log1 log2 a b c base text bytes rest at count e first next =
    let all : List ℕ = (text ++ take at bytes) ++ take count rest in
    let is : all ≡ text ++ take (at + count) bytes = append_assoc text (take at bytes) (take count rest) ∙ ap (λ (l : List ℕ). text ++ l) (ap (λ (l : List ℕ). take at bytes ++ take count l) e ∙ next_bytes bytes at count) in
    subst (λ (l : List ℕ). Adds log2 a c base l true) is (adds_after log1 log2 a b c base (text ++ take at bytes) (take count rest) all true first refl (next (first.at refl)))

-- some bytes were appended, and then it failed
pub adds_failed : (log1 log2 : LogValue) (a b c : State) (base : List (List ℕ)) (text bytes : List ℕ) (at : ℕ) (done : Bool) → Adds log1 a b base (text ++ take at bytes) true
    → (IsAt log1 b base (text ++ take at bytes) → LogMoments b c (IsImage base (text ++ take at bytes))) → done ≡ false → Adds log2 a c base (text ++ bytes) done
adds_failed log1 log2 a b c base text bytes at done first next failed =
    let is : (text ++ take at bytes) ++ drop at bytes ≡ text ++ bytes = append_assoc text (take at bytes) (drop at bytes) ∙ ap (λ (l : List ℕ). text ++ l) (take-append-drop at bytes) in
    record {
      at = λ finished. absurd (not_done done failed finished);
      keeps = implied a c (one_after a b c first.keeps (next (first.at refl)))
          (λ d image. subst (λ (l : List ℕ). IsImage base l (d log_file)) is (image_longer base (text ++ take at bytes) (drop at bytes) (d log_file) image));
    }

-- all bytes were appended
pub adds_all : (log : LogValue) (a b : State) (base : List (List ℕ)) (text bytes : List ℕ) (at : ℕ) → Adds log a b base (text ++ take at bytes) true → length bytes ≤ at → Adds log a b base (text ++ bytes) true
adds_all log a b base text bytes at adds whole = subst (λ (l : List ℕ). Adds log a b base (text ++ l) true) (take_all at bytes whole) adds

-- What is read of pages and frames.
use Rattle.std.proofs.Common.{◌≡◌, ◌&&◌, ◌⊎◌, inl, inr, ℕ, zero, suc, ◌+◌, ◌-◌, ◌<◌, ◌≤◌, Bool, true, false, cond, Option, None, Some, List, [], ◌∷◌, ◌++◌, length, take, drop, nat_le, refl, sym, ◌∙◌, ap, subst, arith, ltb}
use Rattle.std.specs.Prelude.{slice_index, ◌==◌}
use Rattle.std.proofs.lemmas.Bool.{ltb-false}
use Rattle.std.proofs.lemmas.List.{length-append, length-drop, take_rest, take-append-drop, append-nil, append_assoc}
use Rattle.std.proofs.lemmas.Option.{same_Some}
use Rattle.aria_page.specs.Number.{number_of, number_at}
use Rattle.aria_page.specs.Page.{Sums, with_sum, with_bytes, zero_page}
use Rattle.aria_page.specs.Text.{bytes_at}
use Rattle.aria_page.proofs.Fields.{bind_some, guard_some}
use Rattle.aria_journal.specs.LogPage.{log_head, log_body, log_page, IsLogPage, says_begins, says_used, read_log_page}
use Rattle.aria_journal.specs.Frames.{frame_at, frames_within, frames_in}
use Rattle.aria_journal.proofs.LogPages.{valid_says, valid_counts, no_read}
use Rattle.aria_journal.proofs.FrameLists.{none_within, some_within}
use Rattle.aria_journal.proofs.Filled.{zero_fills}
use Rattle.aria_journal.proofs.Sealing.{filled_more, sealed_is_page}

-- the page that is written anew from these bytes
pub page_again : (blank put again bytes : List ℕ) (n used : ℕ) (begins : Bool) → blank ≡ zero_page → length blank ≡ 8192 → put ≡ with_bytes 16 bytes blank → length bytes ≤ 8176 → used ≡ length bytes
    → again ≡ with_sum (log_head n begins used ++ drop 16 put) → again ≡ log_page n begins bytes
page_again blank put again bytes n used begins is long put_is fits count again_is =
    let none : drop 16 blank ≡ log_body [] = ap (λ (l : List ℕ). drop 16 l) is ∙ zero_fills in
    let body : drop 16 put ≡ log_body bytes = filled_more blank put [] bytes 0 long none refl (omega (arith, fits)) (put_is ∙ ap (λ (k : ℕ). with_bytes k bytes blank) (let e : 16 ≡ 16 + 0 = omega arith in e)) in
    sealed_is_page put again bytes n used begins body count again_is

-- a page that isn't the one that its own fields are written as doesn't read
pub says_other : (n : ℕ) (page : List ℕ) → ¬ IsLogPage n (says_begins page) (says_used page) page → read_log_page n page ≡ None
says_other n page other = no_read n page (λ (begins : Bool) (bytes : List ℕ) (is : IsLogPage n begins bytes page).
    let says = valid_says n begins bytes page is in
    other (subst (λ (b : Bool). IsLogPage n b (says_used page) page) (sym says.0) (subst (λ (l : List ℕ). IsLogPage n begins l page) (sym says.1) is)))

-- a page that says that none or too many of its bytes are used doesn't read
pub says_too_many : (n : ℕ) (page : List ℕ) → (number_of 2 (drop 14 page) < 1) ⊎ (8176 < number_of 2 (drop 14 page)) → read_log_page n page ≡ None
says_too_many n page (inl few) = no_read n page (λ (begins : Bool) (bytes : List ℕ) (is : IsLogPage n begins bytes page). omega (arith, few, is.used, valid_counts n begins bytes page is))
says_too_many n page (inr many) = no_read n page (λ (begins : Bool) (bytes : List ℕ) (is : IsLogPage n begins bytes page). omega (arith, many, is.fits, valid_counts n begins bytes page is))

-- what stands behind a number or some bytes that were read
rest_of_number : (bytes : List ℕ) (x : ℕ × List ℕ) → number_at 4 bytes ≡ Some x → (4 ≤ length bytes) × (x.1 ≡ drop 4 bytes)
unfolding number_at
rest_of_number bytes x e =
    let g = guard_some (ltb (length bytes) 4) (Some (number_of 4 bytes, drop 4 bytes)) x e in
    (ltb-false _ _ g.0, sym (ap (λ (p : ℕ × List ℕ). p.1) (same_Some (number_of 4 bytes, drop 4 bytes) x g.1)))

sizes_of_bytes : (n : ℕ) (bytes : List ℕ) (x : List ℕ × List ℕ) → bytes_at n bytes ≡ Some x → length bytes ≡ length x.0 + length x.1
unfolding bytes_at
sizes_of_bytes n bytes x e =
    let g = guard_some (ltb (length bytes) n) (Some (take n bytes, drop n bytes)) x e in
    let same : take n bytes ++ drop n bytes ≡ x.0 ++ x.1 = ap (λ (p : List ℕ × List ℕ). p.0 ++ p.1) (same_Some (take n bytes, drop n bytes) x g.1) in
    ap length (sym (take-append-drop n bytes) ∙ same) ∙ length-append x.0 x.1

-- a choice that gave something
chosen : (b : Bool) (o : Option (List ℕ × List ℕ)) (x : List ℕ × List ℕ) → cond b o None ≡ Some x → o ≡ Some x
chosen true o x e = e
chosen false o x e = absurd (cc)

-- a frame takes 4 bytes and its own
pub frame_size : (bytes : List ℕ) (x : List ℕ × List ℕ) → frame_at bytes ≡ Some x → length bytes ≡ 4 + length x.0 + length x.1
unfolding frame_at
frame_size bytes x e =
    let (len, first, second) = bind_some (number_at 4 bytes) (λ (len : ℕ × List ℕ). cond (nat_le 1 len.0 && nat_le len.0 1048576) (bytes_at len.0 len.1) None) x e in
    let rest = rest_of_number bytes len first in
    let sizes = sizes_of_bytes len.0 len.1 x (chosen (nat_le 1 len.0 && nat_le len.0 1048576) (bytes_at len.0 len.1) x second) in
    omega (arith, rest.0, ap length rest.1, sizes, length-drop 4 bytes)

-- behind a frame stand fewer bytes
pub frame_shorter : (bytes : List ℕ) (x : List ℕ × List ℕ) → frame_at bytes ≡ Some x → length x.1 < length bytes
frame_shorter bytes x e = omega (arith, frame_size bytes x e)

-- more steps than there are bytes find no more frames
steps_enough : (n m : ℕ) (bytes : List ℕ) (o : Option (List ℕ × List ℕ)) → frame_at bytes ≡ o → length bytes ≤ n → length bytes ≤ m → frames_within n bytes ≡ frames_within m bytes
steps_enough n m bytes None e ln lm = none_within n bytes e ∙ sym (none_within m bytes e)
steps_enough zero m bytes (Some x) e ln lm = let less = frame_shorter bytes x e in absurd (omega (arith, less))
steps_enough (suc n) zero bytes (Some x) e ln lm = let less = frame_shorter bytes x e in absurd (omega (arith, less))
steps_enough (suc n) (suc m) bytes (Some x) e ln lm =
    let less = frame_shorter bytes x e in
    some_within n bytes x.0 x.1 e ∙ ap (λ (l : List (List ℕ)). x.0 ∷ l) (steps_enough n m x.1 (frame_at x.1) refl (omega (arith, less)) (omega (arith, less))) ∙ sym (some_within m bytes x.0 x.1 e)

-- the frames in bytes with a frame in front
pub frames_in_some : (bytes frame rest : List ℕ) → frame_at bytes ≡ Some (frame, rest) → frames_in bytes ≡ frame ∷ frames_in rest
unfolding frames_in
frames_in_some bytes frame rest e =
    let less : length rest < length bytes = frame_shorter bytes (frame, rest) e in
    let count : length bytes ≡ suc (length bytes - 1) = omega arith in
    ap (λ (k : ℕ). frames_within k bytes) count ∙ some_within (length bytes - 1) bytes frame rest e
    ∙ ap (λ (l : List (List ℕ)). frame ∷ l) (steps_enough (length bytes - 1) (length rest) rest (frame_at rest) refl (omega arith) (omega arith))

-- the frames in bytes with none in front
pub frames_in_none : (bytes : List ℕ) → frame_at bytes ≡ None → frames_in bytes ≡ []
unfolding frames_in
frames_in_none bytes e = none_within (length bytes) bytes e

-- the test of a page against the one that is written anew
pub same_is_page : (page again bytes : List ℕ) (n : ℕ) (begins : Bool) → again ≡ log_page n begins bytes → Sums again → 1 ≤ length bytes → length bytes ≤ 8176 → again ≡ page → IsLogPage n begins bytes page
same_is_page page again bytes n begins is sums some few same = record { sums = subst Sums same sums; spelled = sym same ∙ is; used = some; fits = few }

-- what the page says, read from its bytes
pub begins_is : (bytes page : List ℕ) → bytes ≡ page → (slice_index bytes 12 == 1) ≡ says_begins page
unfolding says_begins
begins_is bytes page same = ap (λ (l : List ℕ). slice_index l 12 == 1) same

pub used_is : (bytes page piece : List ℕ) (used : ℕ) → bytes ≡ page → used ≡ number_of 2 (take (length bytes - 14) (drop 14 bytes)) → piece ≡ take (16 + used - 16) (drop 16 bytes) → piece ≡ says_used page
unfolding says_used
used_is bytes page piece used same count piece_is =
    let n : used ≡ number_of 2 (drop 14 page) = count ∙ ap (number_of 2) (take_rest bytes 14) ∙ ap (λ (l : List ℕ). number_of 2 (drop 14 l)) same in
    piece_is ∙ ap (λ (k : ℕ). take k (drop 16 bytes)) (let e : 16 + used - 16 ≡ used = omega arith in e) ∙ ap (λ (l : List ℕ). take used (drop 16 l)) same ∙ ap (λ (k : ℕ). take k (drop 16 page)) n

pub counts_are : (bytes page : List ℕ) (used : ℕ) → bytes ≡ page → used ≡ number_of 2 (take (length bytes - 14) (drop 14 bytes)) → used ≡ number_of 2 (drop 14 page)
counts_are bytes page used same count = count ∙ ap (number_of 2) (take_rest bytes 14) ∙ ap (λ (l : List ℕ). number_of 2 (drop 14 l)) same

-- a page that isn't the one that the fields read from it are written as doesn't read
pub fields_other : (n : ℕ) (page piece : List ℕ) (begins : Bool) → begins ≡ says_begins page → piece ≡ says_used page → ¬ IsLogPage n begins piece page → read_log_page n page ≡ None
fields_other n page piece begins eb ep other =
    says_other n page (λ (is : IsLogPage n (says_begins page) (says_used page) page). other (subst (λ (b : Bool). IsLogPage n b piece page) (sym eb) (subst (λ (l : List ℕ). IsLogPage n (says_begins page) l page) (sym ep) is)))

-- a frame was taken from the front of some bytes
pub frames_go_on : (rest frame behind : List ℕ) (frames frames' all : List (List ℕ)) → frame_at rest ≡ Some (frame, behind) → frames' ≡ frames ++ frame ∷ [] → frames ++ frames_in rest ≡ all → frames' ++ frames_in behind ≡ all
frames_go_on rest frame behind frames frames' all found pushed is =
    ap (λ (l : List (List ℕ)). l ++ frames_in behind) pushed ∙ append_assoc frames (frame ∷ []) (frames_in behind) ∙ ap (λ (l : List (List ℕ)). frames ++ l) (sym (frames_in_some rest frame behind found)) ∙ is

-- no frame is left in front
pub frames_end : (rest : List ℕ) (frames all : List (List ℕ)) → frame_at rest ≡ None → frames ++ frames_in rest ≡ all → frames ≡ all
frames_end rest frames all none is = sym (append-nil frames) ∙ ap (λ (l : List (List ℕ)). frames ++ l) (sym (frames_in_none rest none)) ∙ is

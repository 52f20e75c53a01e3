-- Frames that were stored are found again, and a front of them holds a front of the frames.
use Rattle.std.proofs.Common.{◌≡◌, ◌&&◌, inl, inr, ℕ, zero, suc, ◌+◌, ◌<◌, ◌≤◌, Bool, true, false, cond, Option, None, Some, List, [], ◌∷◌, ◌++◌, length, take, drop, nat_le, refl, sym, ◌∙◌, ap, subst, arith, append_assoc, length-append}
use Rattle.std.specs.Prelude.{All}
use Rattle.std.specs.List.{flat_map}
use Rattle.std.specs.Option.{option_map_or}
use Rattle.std.proofs.lemmas.Bool.{cases_lt}
use Rattle.std.proofs.lemmas.Bool.Decides.{nat_tests}
use Rattle.std.proofs.lemmas.List.{take-append-drop, length-drop, take-append-le, drop-append-le, take_at, drop_at}
use Rattle.std.proofs.lemmas.List.Elements.{All-head, All-tail}
use Rattle.aria_page.specs.Field.{◌>>=◌}
use Rattle.aria_page.specs.Number.{number, number_at}
use Rattle.aria_page.specs.Text.{bytes_at}
use Rattle.aria_page.proofs.Numbers.{length-number, number_again, number_short}
use Rattle.aria_page.proofs.Texts.{bytes_again}
use Rattle.aria_journal.specs.Frames.{IsFrame, frame_bytes, frames_bytes, frame_at, frames_within, frames_in}

-- the length of a stored frame
pub length-frame_bytes : (frame : List ℕ) → length (frame_bytes frame) ≡ 4 + length frame
unfolding frame_bytes
length-frame_bytes frame = omega (arith, length-append (number 4 (length frame)) frame, length-number 4 (length frame))

-- a stored frame is found, and what stands behind it is left
pub frame_again : (frame rest : List ℕ) → IsFrame frame → frame_at (frame_bytes frame ++ rest) ≡ Some (frame, rest)
unfolding frame_at frame_bytes
frame_again frame rest is =
    let apart : (number 4 (length frame) ++ frame) ++ rest ≡ number 4 (length frame) ++ (frame ++ rest) = append_assoc (number 4 (length frame)) frame rest in
    let count : number_at 4 ((number 4 (length frame) ++ frame) ++ rest) ≡ Some (length frame, frame ++ rest) = ap (number_at 4) apart ∙ number_again 4 (length frame) (frame ++ rest) (omega (arith, is.fits)) in
    let some : nat_le 1 (length frame) ≡ true = grind (arith, nat_tests, is.some) in
    let few : nat_le (length frame) 1048576 ≡ true = grind (arith, nat_tests, is.fits) in
    ap (λ (o : Option (ℕ × List ℕ)). o >>= (λ len. cond (nat_le 1 len.0 && nat_le len.0 1048576) (bytes_at len.0 len.1) None)) count
    ∙ ap (λ (b : Bool). cond (b && nat_le (length frame) 1048576) (bytes_at (length frame) (frame ++ rest)) None) some
    ∙ ap (λ (b : Bool). cond b (bytes_at (length frame) (frame ++ rest)) None) few
    ∙ bytes_again (length frame) frame rest refl

-- fewer bytes than a number asks for
bytes_short : (n : ℕ) (bytes : List ℕ) → length bytes < n → bytes_at n bytes ≡ None
unfolding bytes_at
bytes_short n bytes short = grind (arith, nat_tests)

-- a choice between nothing and nothing
no_choice : (b : Bool) (o : Option (List ℕ × List ℕ)) → o ≡ None → cond b o None ≡ None
no_choice true o none = none
no_choice false o none = refl

-- a front of a stored frame that isn't all of it has no frame in front
frame_cut : (frame front rest whole : List ℕ) → IsFrame frame → front ++ rest ≡ frame_bytes frame ++ whole → length front < 4 + length frame → frame_at front ≡ None
unfolding frame_at frame_bytes
frame_cut frame front rest whole is e short = elim (cases_lt (length front) 4) [
  | inl few ↦ ap (λ (o : Option (ℕ × List ℕ)). o >>= (λ len. cond (nat_le 1 len.0 && nat_le len.0 1048576) (bytes_at len.0 len.1) None)) (number_short 4 front few)
  | inr enough ↦
      let head : List ℕ = number 4 (length frame) in
      let len : length head ≡ 4 = length-number 4 (length frame) in
      let apart : head ++ (frame ++ whole) ≡ front ++ rest = sym (append_assoc head frame whole) ∙ sym e in
      let first : take 4 front ≡ head = sym (take-append-le 4 front rest enough) ∙ sym (ap (take 4) apart) ∙ take_at head (frame ++ whole) 4 len in
      let split : head ++ drop 4 front ≡ front = ap (λ (l : List ℕ). l ++ drop 4 front) (sym first) ∙ take-append-drop 4 front in
      let count : number_at 4 front ≡ Some (length frame, drop 4 front) = ap (number_at 4) (sym split) ∙ number_again 4 (length frame) (drop 4 front) (omega (arith, is.fits)) in
      let none : bytes_at (length frame) (drop 4 front) ≡ None = bytes_short (length frame) (drop 4 front) (omega (arith, length-drop 4 front)) in
      ap (λ (o : Option (ℕ × List ℕ)). o >>= (λ len. cond (nat_le 1 len.0 && nat_le len.0 1048576) (bytes_at len.0 len.1) None)) count
      ∙ no_choice (nat_le 1 (length frame) && nat_le (length frame) 1048576) (bytes_at (length frame) (drop 4 front)) none
]

-- What a front of stored frames holds: a front of the frames.
pub record HoldsFront (frames found : List (List ℕ)) : Type 0 where
  pub count : ℕ
  pub within : count ≤ length frames
  pub front : found ≡ take count frames

-- one frame more at the front
one_more : (frame : List ℕ) (frames found : List (List ℕ)) → HoldsFront frames found → HoldsFront (frame ∷ frames) (frame ∷ found)
one_more frame frames found h = record { count = suc h.count; within = omega (arith, h.within); front = ap (λ (l : List (List ℕ)). frame ∷ l) h.front }

-- with no frame in front none is found
pub none_within : (n : ℕ) (bytes : List ℕ) → frame_at bytes ≡ None → frames_within n bytes ≡ []
unfolding frames_within
none_within zero bytes none = refl
none_within (suc n) bytes none = ap (λ (o : Option (List ℕ × List ℕ)). option_map_or (λ found. found.0 ∷ frames_within n found.1) o []) none

-- a frame in front is found first
pub some_within : (n : ℕ) (bytes frame rest : List ℕ) → frame_at bytes ≡ Some (frame, rest) → frames_within (suc n) bytes ≡ frame ∷ frames_within n rest
unfolding frames_within
some_within n bytes frame rest found = ap (λ (o : Option (List ℕ × List ℕ)). option_map_or (λ found. found.0 ∷ frames_within n found.1) o []) found

-- nothing stands in no bytes
none_in_none : frame_at [] ≡ None
unfolding frame_at
none_in_none = ap (λ (o : Option (ℕ × List ℕ)). o >>= (λ len. cond (nat_le 1 len.0 && nat_le len.0 1048576) (bytes_at len.0 len.1) None)) (number_short 4 [] (omega arith))

-- parts of the same bytes, of which the first is no shorter, begin alike
begins_with : (a b c d : List ℕ) → a ++ b ≡ c ++ d → length c ≤ length a → (a ≡ c ++ drop (length c) a) × (drop (length c) a ++ b ≡ d)
begins_with a b c d e le =
    let first : take (length c) a ≡ c = sym (take-append-le (length c) a b le) ∙ ap (take (length c)) e ∙ take_at c d (length c) refl in
    let back : drop (length c) a ++ b ≡ d = sym (drop-append-le (length c) a b le) ∙ ap (drop (length c)) e ∙ drop_at c d (length c) refl in
    (sym (take-append-drop (length c) a) ∙ ap (λ (l : List ℕ). l ++ drop (length c) a) first, back)

-- a front of the bytes of some frames holds a front of the frames
pub front_within : (frames : List (List ℕ)) (n : ℕ) (front rest : List ℕ) → All IsFrame frames → front ++ rest ≡ frames_bytes frames → HoldsFront frames (frames_within n front)
unfolding frames_bytes frames_within
front_within frames zero front rest are e = record { count = 0; within = omega arith; front = refl }
front_within [] (suc n) [] rest are e = record { count = 0; within = omega arith; front = none_within (suc n) [] none_in_none }
front_within [] (suc n) (b ∷ front) rest are e = absurd (cc)
front_within (frame ∷ frames) (suc n) front rest are e = elim (cases_lt (length front) (4 + length frame)) [
  | inl short ↦ record { count = 0; within = omega arith; front = none_within (suc n) front (frame_cut frame front rest (flat_map frame_bytes frames) (All-head IsFrame frame frames are) e short) }
  | inr long ↦
      let parts = begins_with front rest (frame_bytes frame) (flat_map frame_bytes frames) e (omega (arith, long, length-frame_bytes frame)) in
      let left : List ℕ = drop (length (frame_bytes frame)) front in
      let found : frame_at front ≡ Some (frame, left) = ap frame_at parts.0 ∙ frame_again frame left (All-head IsFrame frame frames are) in
      let more : HoldsFront frames (frames_within n left) = front_within frames n left rest (All-tail IsFrame frame frames are) parts.1 in
      subst (λ (l : List (List ℕ)). HoldsFront (frame ∷ frames) l) (sym (some_within n front frame left found)) (one_more frame frames (frames_within n left) more)
]

-- the same, for all the whole frames in front
pub front_holds : (frames : List (List ℕ)) (front rest : List ℕ) → All IsFrame frames → front ++ rest ≡ frames_bytes frames → HoldsFront frames (frames_in front)
unfolding frames_in
front_holds frames front rest are e = front_within frames (length front) front rest are e

-- stored frames are all found again, within as many bytes
pub all_within : (frames : List (List ℕ)) (n : ℕ) → All IsFrame frames → length (frames_bytes frames) ≤ n → frames_within n (frames_bytes frames) ≡ frames
unfolding frames_bytes
all_within [] n are le = none_within n [] none_in_none
all_within (frame ∷ frames) zero are le = absurd (omega (arith, length-append (frame_bytes frame) (flat_map frame_bytes frames), length-frame_bytes frame))
all_within (frame ∷ frames) (suc n) are le =
    some_within n (frame_bytes frame ++ flat_map frame_bytes frames) frame (flat_map frame_bytes frames) (frame_again frame (flat_map frame_bytes frames) (All-head IsFrame frame frames are))
    ∙ ap (λ (l : List (List ℕ)). frame ∷ l) (all_within frames n (All-tail IsFrame frame frames are) (omega (arith, length-append (frame_bytes frame) (flat_map frame_bytes frames), length-frame_bytes frame)))

-- the same, for all the whole frames in front
pub all_found : (frames : List (List ℕ)) → All IsFrame frames → frames_in (frames_bytes frames) ≡ frames
unfolding frames_in
all_found frames are = all_within frames (length (frames_bytes frames)) are (omega arith)

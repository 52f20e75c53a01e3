-- The numbers of a head.
use Rattle.std.proofs.Common.{◌≡◌, ℕ, suc, ◌+◌, ◌^◌, ◌≤◌, ◌<◌, Bool, true, false, cond, Option, Some, None, List, ◌++◌, length, take, drop, refl, sym, ap, ◌∙◌, arith, subst, length-append, append_assoc, drop-cons}
use Rattle.std.specs.Prelude.{slice_index, nat_lt, is_some, MatchOption}
use Rattle.std.proofs.lemmas.Bool.Decides.{nat_tests}
use Rattle.std.proofs.lemmas.List.{drop_at, drop-drop, length-drop, length-take}
use Rattle.aria_page.specs.Field.{AreBytes}
use Rattle.aria_page.specs.Number.{number, number_of}
use Rattle.aria_page.specs.declared.place.Place.{Place}
use Rattle.aria_page.specs.declared.place.Places.{Places}
use Rattle.aria_page.proofs.Fields.{AreBytes-drop}
use Rattle.aria_page.proofs.Numbers.{length-number, number-one, number_of-number, number_takes, number_long}
use Rattle.aria_record.specs.Groups.{TailFits}
use Rattle.aria_block.specs.declared.head_fields.HeadFields.{HeadFields}
use Rattle.aria_block.specs.declared.head_fields.HeadNumbers.{HeadNumbers}
use Rattle.aria_block.specs.Pieces.{head_size, tail_size, blob_count, tail_bytes, head_of}
use Rattle.aria_block.specs.Rows.{Kept, IsLaid}
use Rattle.aria_block.specs.Reading.{FitsHead, HasNumbers, InRange, IsHead, AreFit, FieldsOf, IsHeadOf}
use Rattle.aria_block.proofs.Measuring.{head_within}

-- ---- numbers that are read spell the bytes

front : (n at : ℕ) (bytes : List ℕ) → AreBytes bytes → at + n ≤ length bytes → drop at bytes ≡ number n (number_of n (drop at bytes)) ++ drop (at + n) bytes
front n at bytes fits long =
    let rest : List ℕ = drop at bytes in
    let takes = (number_takes n rest (number_of n rest, drop n rest) (AreBytes-drop at bytes fits) (number_long n rest (omega (arith, long, length-drop at bytes)))).0 in
    takes.parts ∙ ap (λ (l : List ℕ). number n (number_of n rest) ++ l) (drop-drop n at bytes)

byte_front : (at : ℕ) (bytes : List ℕ) → AreBytes bytes → at < length bytes → drop at bytes ≡ number 1 (slice_index bytes at) ++ drop (at + 1) bytes
byte_front at bytes fits long =
    let next : suc at ≡ at + 1 = omega arith in
    drop-cons bytes at 0 long ∙ (λ i. sym (number-one (slice_index bytes at) (fits at)) i ++ drop (next i) bytes)

pub spelled : (bytes : List ℕ) → AreBytes bytes → 14 ≤ length bytes → bytes ≡ number 4 (number_of 4 bytes) ++ (number 4 (number_of 4 (drop 4 bytes)) ++ (number 1 (slice_index bytes 8) ++ (number 4 (number_of 4 (drop 9 bytes)) ++ (number 1 (slice_index bytes 13) ++ drop 14 bytes))))
spelled bytes fits long =
    let a = front 4 0 bytes fits (omega (arith, long)) in
    let b = front 4 4 bytes fits (omega (arith, long)) in
    let c = byte_front 8 bytes fits (omega (arith, long)) in
    let d = front 4 9 bytes fits (omega (arith, long)) in
    let e = byte_front 13 bytes fits (omega (arith, long)) in
    a ∙ (λ i. number 4 (number_of 4 bytes) ++ b i)
    ∙ (λ i. number 4 (number_of 4 bytes) ++ (number 4 (number_of 4 (drop 4 bytes)) ++ c i))
    ∙ (λ i. number 4 (number_of 4 bytes) ++ (number 4 (number_of 4 (drop 4 bytes)) ++ (number 1 (slice_index bytes 8) ++ d i)))
    ∙ (λ i. number 4 (number_of 4 bytes) ++ (number 4 (number_of 4 (drop 4 bytes)) ++ (number 1 (slice_index bytes 8) ++ (number 4 (number_of 4 (drop 9 bytes)) ++ e i))))

-- ---- two texts of numbers that are one

pub record SameFront (a b : ℕ) (x y : List ℕ) : Type 0 where
  pub same : a ≡ b
  pub rest : x ≡ y

same_front : (n a b : ℕ) (x y : List ℕ) → a < 256 ^ n → b < 256 ^ n → number n a ++ x ≡ number n b ++ y → SameFront a b x y
same_front n a b x y fa fb is = record {
  same = sym (number_of-number n a x fa) ∙ ap (number_of n) is ∙ number_of-number n b y fb;
  rest = sym (drop_at (number n a) x n (length-number n a)) ∙ ap (drop n) is ∙ drop_at (number n b) y n (length-number n b);
}

-- the tail that numbers say
pub tail_page : Option Place → ℕ
tail_page None = 0
tail_page (Some place) = place.page

pub tail_slot : Option Place → ℕ
tail_slot None = 0
tail_slot (Some place) = place.slot

tail_spelled : (o : Option Place) (x : List ℕ) → tail_bytes o ++ x ≡ number 4 (tail_page o) ++ (number 1 (tail_slot o) ++ x)
unfolding tail_page tail_slot
tail_spelled None x = append_assoc (number 4 0) (number 1 0) x
tail_spelled (Some place) x = append_assoc (number 4 place.page) (number 1 place.slot) x

tail_fits : (o : Option Place) → TailFits o → (tail_page o < 256 ^ 4) × (tail_slot o < 256 ^ 1)
unfolding tail_page tail_slot
tail_fits None fits = (omega arith, omega arith)
tail_fits (Some place) fits = let page = fits.0.page in let slot = fits.0.slot in (omega (arith, page), omega (arith, slot))

-- numbers of a head are those of its row
pub record AreOf (k : Kept) (n : HeadNumbers) : Type 0 where
  pub len : n.len ≡ length k.row
  pub page : n.page ≡ tail_page k.places.tail
  pub slot : n.slot ≡ tail_slot k.places.tail
  pub blob : n.blob ≡ k.places.blob
  pub blobs : n.blobs ≡ k.places.blobs

pub numbers_of : (k : Kept) (bytes : List ℕ) (n : HeadNumbers) → FitsHead k → InRange n → HasNumbers bytes n → bytes ≡ head_of k.places k.row → AreOf k n
unfolding head_of
numbers_of k bytes n (places, few) range has is =
    let rest : List ℕ = take (head_size (length k.row)) k.row in
    let text = sym has.spelled ∙ is in
    let len = range.len in let page = range.page in let slot = range.slot in let blob = range.blob in let blobs = range.blobs in
    let tf = tail_fits k.places.tail places.tail in
    let low = places.blob in let least = places.blobs in
    let a = same_front 4 n.len (length k.row) _ _ (omega (arith, len)) (omega (arith, few)) text in
    let b = same_front 4 n.page (tail_page k.places.tail) _ _ (omega (arith, page)) tf.0 (a.rest ∙ tail_spelled k.places.tail (number 4 k.places.blob ++ (number 1 k.places.blobs ++ rest))) in
    let c = same_front 1 n.slot (tail_slot k.places.tail) _ _ (omega (arith, slot)) tf.1 b.rest in
    let d = same_front 4 n.blob k.places.blob _ _ (omega (arith, blob)) (omega (arith, low)) c.rest in
    let e = same_front 1 n.blobs k.places.blobs _ _ (omega (arith, blobs)) (omega (arith, least)) d.rest in
    record { len = a.same; page = b.same; slot = c.same; blob = d.same; blobs = e.same }

-- ---- the fields

-- the length of a row's head
pub head_long : (places : Places) (row : List ℕ) → length (head_of places row) ≡ 14 + head_size (length row)
unfolding head_of
head_long places row =
    let rest : List ℕ = take (head_size (length row)) row in
    let low = head_within (length row) in
    let size : length rest ≡ head_size (length row) = omega (arith, low, length-take (head_size (length row)) row) in
    let e1 = length-append (number 1 places.blobs) rest in
    let e2 = length-append (number 4 places.blob) (number 1 places.blobs ++ rest) in
    let e3 = length-append (number 1 (tail_slot places.tail)) (number 4 places.blob ++ (number 1 places.blobs ++ rest)) in
    let e4 = length-append (number 4 (tail_page places.tail)) (number 1 (tail_slot places.tail) ++ (number 4 places.blob ++ (number 1 places.blobs ++ rest))) in
    let e5 = length-append (number 4 (length row)) (tail_bytes places.tail ++ (number 4 places.blob ++ (number 1 places.blobs ++ rest))) in
    let t = ap length (tail_spelled places.tail (number 4 places.blob ++ (number 1 places.blobs ++ rest))) in
    omega (arith, size, e1, e2, e3, e4, e5, t, length-number 1 places.blobs, length-number 4 places.blob, length-number 1 (tail_slot places.tail), length-number 4 (tail_page places.tail), length-number 4 (length row))

-- and the row bytes in it
pub head_rest : (places : Places) (row : List ℕ) → drop 14 (head_of places row) ≡ take (head_size (length row)) row
unfolding head_of
head_rest places row =
    let rest : List ℕ = take (head_size (length row)) row in
    let a : List ℕ = number 4 (length row) in
    let t = tail_spelled places.tail (number 4 places.blob ++ (number 1 places.blobs ++ rest)) in
    let b : List ℕ = number 4 (tail_page places.tail) in
    let c : List ℕ = number 1 (tail_slot places.tail) in
    let d : List ℕ = number 4 places.blob in
    let e : List ℕ = number 1 places.blobs in
    let whole : a ++ (tail_bytes places.tail ++ (d ++ (e ++ rest))) ≡ (a ++ (b ++ (c ++ (d ++ e)))) ++ rest =
    ap (λ (l : List ℕ). a ++ l) t ∙ sym (append_assoc a (b ++ (c ++ (d ++ e))) rest ∙ ap (λ (l : List ℕ). a ++ l) (append_assoc b (c ++ (d ++ e)) rest ∙ ap (λ (l : List ℕ). b ++ l) (append_assoc c (d ++ e) rest ∙ ap (λ (l : List ℕ). c ++ l) (append_assoc d e rest)))) in
    let long : length (a ++ (b ++ (c ++ (d ++ e)))) ≡ 14 = omega (arith, length-append a (b ++ (c ++ (d ++ e))), length-append b (c ++ (d ++ e)), length-append c (d ++ e), length-append d e, length-number 4 (length row), length-number 4 (tail_page places.tail), length-number 1 (tail_slot places.tail), length-number 4 places.blob, length-number 1 places.blobs) in
    ap (drop 14) whole ∙ drop_at (a ++ (b ++ (c ++ (d ++ e)))) rest 14 long

-- the tail that a laid row's numbers say is its tail
laid_tail : (o : Option Place) (size page slot : ℕ) → is_some o ≡ nat_lt 0 size → page ≡ tail_page o → slot ≡ tail_slot o → cond (nat_lt 0 size) (Some (record { page = page; slot = slot })) None ≡ o
unfolding tail_page tail_slot
laid_tail None size page slot is ep es = rw (sym is) refl
laid_tail (Some place) size page slot is ep es = rw (sym is) (λ i. Some (record { page = ep i; slot = es i }))

no_tail : (o : Option Place) (size : ℕ) → is_some o ≡ nat_lt 0 size → size ≡ 0 → (tail_page o ≡ 0) × (tail_slot o ≡ 0)
unfolding tail_page tail_slot
no_tail None size is none = (refl, refl)
no_tail (Some place) size is none = let more : nat_lt 0 size ≡ true = sym is in absurd (grind (arith, nat_tests))

pub fit_of : (k : Kept) (n : HeadNumbers) (size : ℕ) → IsLaid k → FitsHead k → AreOf k n → size ≡ head_size (length k.row) → AreFit n size
fit_of k n size laid fits of is = record {
  few = let most = fits.1 in omega (arith, most, of.len);
  rest = is ∙ ap head_size (sym of.len);
  blobs = of.blobs ∙ laid.blobs ∙ ap blob_count (sym of.len);
  tail = λ none. let no_one = no_tail k.places.tail (tail_size n.len) (laid.tail ∙ ap (λ (m : ℕ). nat_lt 0 (tail_size m)) (sym of.len)) none in (of.page ∙ no_one.0, of.slot ∙ no_one.1);
}

pub row_of : (k : Kept) (n : HeadNumbers) (size : ℕ) (o : Option HeadFields) → IsLaid k → FitsHead k → AreOf k n → size ≡ head_size (length k.row) → FieldsOf n size o → MatchOption o ⊥ (λ h. IsHeadOf k h)
row_of k n size None laid fits of is not = not (fit_of k n size laid fits of is)
row_of k n size (Some h) laid fits of is (fit, fields) = subst (IsHeadOf k) (sym fields) (record {
  len = of.len;
  tail = laid_tail k.places.tail (tail_size n.len) n.page n.slot (laid.tail ∙ ap (λ (m : ℕ). nat_lt 0 (tail_size m)) (sym of.len)) of.page of.slot;
  blob = of.blob;
  blobs = of.blobs;
})

-- the fields spell the bytes
spell_tail : (n : HeadNumbers) (x : List ℕ) (b : Bool) → nat_lt 0 (tail_size n.len) ≡ b → (tail_size n.len ≡ 0 → (n.page ≡ 0) × (n.slot ≡ 0)) → number 4 n.page ++ (number 1 n.slot ++ x) ≡ tail_bytes (cond b (Some (record { page = n.page; slot = n.slot })) None) ++ x
spell_tail n x true is zeros = sym (append_assoc (number 4 n.page) (number 1 n.slot) x)
spell_tail n x false is zeros =
    let none : tail_size n.len ≡ 0 = grind (arith, nat_tests) in
    let z = zeros none in
    (λ i. number 4 (z.0 i) ++ (number 1 (z.1 i) ++ x)) ∙ sym (append_assoc (number 4 0) (number 1 0) x)

is_tail_some : (b : Bool) (place : Place) → is_some (cond b (Some place) None) ≡ b
is_tail_some true place = refl
is_tail_some false place = refl

pub is_head : (bytes : List ℕ) (n : HeadNumbers) (size : ℕ) (h : HeadFields) → HasNumbers bytes n → length bytes ≡ 14 + size → FieldsOf n size (Some h) → IsHead bytes h
is_head bytes n size h has long (fit, fields) = subst (IsHead bytes) (sym fields) (record {
  spelled = has.spelled ∙ ap (λ (l : List ℕ). number 4 n.len ++ l) (spell_tail n (number 4 n.blob ++ (number 1 n.blobs ++ drop 14 bytes)) (nat_lt 0 (tail_size n.len)) refl fit.tail);
  size = long ∙ ap (λ (m : ℕ). 14 + m) fit.rest;
  tail = is_tail_some (nat_lt 0 (tail_size n.len)) (record { page = n.page; slot = n.slot });
  blobs = fit.blobs;
  few = fit.few;
})

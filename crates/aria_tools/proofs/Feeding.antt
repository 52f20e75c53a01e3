-- A piece of a script, line by line.
use Rattle.std.proofs.Common.{◌≡◌, ℕ, zero, suc, ◌+◌, ◌≤◌, ◌<◌, Bool, true, false, ◌||◌, List, [], ◌∷◌, ◌++◌, length, take, drop, get_or, eqb-true, nat_eq, refl, sym, ap, ◌∙◌, subst, arith, lit<, add-one}
use Rattle.std.specs.List.{list_any}
use Rattle.std.proofs.lemmas.List.{append-nil, append_assoc, take-append-drop, length-take}
use Rattle.std.proofs.lemmas.List.Folds.{list_any-append}
use Rattle.std.proofs.Math.Seq.{drop-cons, take-length}
use Rattle.aria_host.specs.State.{State}
use Rattle.aria_model.specs.Script.{lines_of, ended_lines}
use Rattle.aria_tools.specs.Held.{clipped, CutsLine, Splits, is_lf}
use Rattle.aria_engine.specs.declared.store.Store.{Store}
use Rattle.aria_engine.specs.Done.{Does, DoesPart}
use Rattle.aria_engine.proofs.Doing.{HoldsNow, does_nothing, does_more, does_part, does_then_part, does_part_more}
use Rattle.aria_tools.specs.Pieces.{Fed}
use Rattle.aria_tools.proofs.Splitting.{splits_rest, splits_line, splits_more}
use Rattle.aria_model.proofs.Lines.{ended_lines-line, ended_lines-rest, lines_of-rest}

no_lf_step : (is more : Bool) → (is ≡ true → ⊥) → more ≡ false → (is || more) ≡ false
no_lf_step true more never none = absurd (never refl)
no_lf_step false more never none = none

-- Where no place below n has an LF, the bytes before it have none.
pub no_lf_before : (bytes : List ℕ) (n : ℕ) → n ≤ length bytes → ((k : ℕ) → k < n → is_lf (get_or bytes k 0) ≡ true → ⊥) → list_any is_lf (take n bytes) ≡ false
no_lf_before [] zero low never = refl
no_lf_before [] (suc n) low never = refl
no_lf_before (b ∷ bytes) zero low never = refl
no_lf_before (b ∷ bytes) (suc n) low never =
    no_lf_step (is_lf b) (list_any is_lf (take n bytes)) (never 0 (omega arith)) (no_lf_before bytes n (omega arith) (λ k h. never (suc k) (omega arith)))

-- Where no place has an LF, the bytes have none.
pub no_lf_in : (bytes : List ℕ) → ((k : ℕ) → k < length bytes → is_lf (get_or bytes k 0) ≡ true → ⊥) → list_any is_lf bytes ≡ false
no_lf_in bytes never = ap (list_any is_lf) (sym (take-length bytes)) ∙ no_lf_before bytes (length bytes) (omega arith) never

-- bytes are those before a place, the byte there, and those behind it
pub parted : (bytes : List ℕ) (n : ℕ) → n < length bytes → is_lf (get_or bytes n 0) ≡ true → bytes ≡ take n bytes ++ 10 ∷ drop (n + 1) bytes
parted bytes n low is = let at : get_or bytes n 0 ≡ 10 = eqb-true (get_or bytes n 0) 10 is in
    sym (take-append-drop n bytes) ∙ ap (λ (l : List ℕ). take n bytes ++ l) (drop-cons bytes n 0 low ∙ ap (λ (b : ℕ). b ∷ drop (suc n) bytes) at)
    ∙ ap (λ (k : ℕ). take n bytes ++ 10 ∷ drop k bytes) (sym (add-one n))

-- two parts without LF have none together
no_lf_both : (a b : List ℕ) → list_any is_lf a ≡ false → list_any is_lf b ≡ false → list_any is_lf (a ++ b) ≡ false
no_lf_both a b na nb = list_any-append is_lf a b ∙ ap (λ (x : Bool). x || list_any is_lf b) na ∙ nb

-- The bytes so far and a word that LF ends: the held part and the word are one more line, and nothing is held.
pub splits_next : (bytes here word : List ℕ) → Splits bytes here → list_any is_lf word ≡ false → Splits (bytes ++ (word ++ 10 ∷ [])) []
splits_next bytes here word splits none =
    splits_more bytes here (word ++ 10 ∷ []) [] splits
    (subst (λ (l : List ℕ). Splits l []) (append_assoc here word (10 ∷ [])) (splits_line (here ++ word) [] [] (no_lf_both here word splits.no_lf none) (splits_rest [] refl)))

pub ended_next : (bytes here word : List ℕ) → Splits bytes here → list_any is_lf word ≡ false → ended_lines (bytes ++ (word ++ 10 ∷ [])) ≡ ended_lines bytes ++ (here ++ word) ∷ []
ended_next bytes here word splits none = splits.ended (word ++ 10 ∷ [])
    ∙ ap (λ (l : List ℕ). ended_lines bytes ++ ended_lines l) (sym (append_assoc here word (10 ∷ [])))
    ∙ ap (λ (ls : List (List ℕ)). ended_lines bytes ++ ls) (ended_lines-line (here ++ word) [] (no_lf_both here word splits.no_lf none))

-- The bytes so far and a part without LF: it is held behind what is.
pub splits_last : (bytes here part : List ℕ) → Splits bytes here → list_any is_lf part ≡ false → Splits (bytes ++ part) (here ++ part)
splits_last bytes here part splits none = splits_more bytes here part (here ++ part) splits (splits_rest (here ++ part) (no_lf_both here part splits.no_lf none))

pub ended_last : (bytes here part : List ℕ) → Splits bytes here → list_any is_lf part ≡ false → ended_lines (bytes ++ part) ≡ ended_lines bytes
ended_last bytes here part splits none = splits.ended part
    ∙ ap (λ (ls : List (List ℕ)). ended_lines bytes ++ ls) (ended_lines-rest (here ++ part) (no_lf_both here part splits.no_lf none))
    ∙ append-nil (ended_lines bytes)

pub fed_none : (tells : Bool) (rest : List ℕ) (st : Store) (r : Bool) (s : State) → HoldsNow tells st s → list_any is_lf rest ≡ false → Fed tells rest [] rest st st r r s s
fed_none tells rest st r s here none = let e = append-nil rest in record {
  splits = subst (λ (l : List ℕ). Splits l rest) (sym e) (splits_rest rest none);
  does = subst (λ (ls : List (List ℕ)). Does tells ls st st r r s s) (sym (ap ended_lines e ∙ ended_lines-rest rest none)) (does_nothing tells st r s here);
}

pub fed_line : (tells : Bool) (rest front here word : List ℕ) (st0 st1 st2 : Store) (r0 r1 r2 : Bool) (s0 s1 s2 : State)
    → Fed tells rest front here st0 st1 r0 r1 s0 s1 → list_any is_lf word ≡ false → Does tells ((here ++ word) ∷ []) st1 st2 r1 r2 s1 s2
    → Fed tells rest (front ++ (word ++ 10 ∷ [])) [] st0 st2 r0 r2 s0 s2
fed_line tells rest front here word st0 st1 st2 r0 r1 r2 s0 s1 s2 fed none does = let e = append_assoc rest front (word ++ 10 ∷ []) in record {
  splits = subst (λ (l : List ℕ). Splits l []) e (splits_next (rest ++ front) here word fed.splits none);
  does = subst (λ (ls : List (List ℕ)). Does tells ls st0 st2 r0 r2 s0 s2) (sym (ended_next (rest ++ front) here word fed.splits none) ∙ ap ended_lines e)
      (does_more tells (ended_lines (rest ++ front)) ((here ++ word) ∷ []) st0 st1 st2 r0 r1 r2 s0 s1 s2 fed.does does);
}

pub fed_last : (tells : Bool) (rest front here part : List ℕ) (st0 st1 : Store) (r0 r1 : Bool) (s0 s1 : State)
    → Fed tells rest front here st0 st1 r0 r1 s0 s1 → list_any is_lf part ≡ false → Fed tells rest (front ++ part) (here ++ part) st0 st1 r0 r1 s0 s1
fed_last tells rest front here part st0 st1 r0 r1 s0 s1 fed none = let e = append_assoc rest front part in record {
  splits = subst (λ (l : List ℕ). Splits l (here ++ part)) e (splits_last (rest ++ front) here part fed.splits none);
  does = subst (λ (ls : List (List ℕ)). Does tells ls st0 st1 r0 r1 s0 s1) (sym (ended_last (rest ++ front) here part fed.splits none) ∙ ap ended_lines e) fed.does;
}

-- the piece behind a line that LF ends
pub front_next : (piece front left word behind : List ℕ) → piece ≡ front ++ left → left ≡ word ++ 10 ∷ behind → piece ≡ (front ++ (word ++ 10 ∷ [])) ++ behind
front_next piece front left word behind is cut = is ∙ ap (λ (l : List ℕ). front ++ l) (cut ∙ sym (append_assoc word (10 ∷ []) behind)) ∙ sym (append_assoc front (word ++ 10 ∷ []) behind)

-- a line that isn't answered to its end
pub fed_part_line : (tells : Bool) (rest piece front here left word behind : List ℕ) (st0 st1 st2 : Store) (r0 r1 : Bool) (s0 s1 s2 : State)
    → Fed tells rest front here st0 st1 r0 r1 s0 s1 → piece ≡ front ++ left → CutsLine left word behind → DoesPart tells ((here ++ word) ∷ []) st1 st2 s1 s2
    → DoesPart tells (ended_lines (rest ++ piece)) st0 st2 s0 s2
fed_part_line tells rest piece front here left word behind st0 st1 st2 r0 r1 s0 s1 s2 fed is cut part =
    let bytes = rest ++ front in
    let next = splits_next bytes here word fed.splits cut.no_lf in
    let whole : rest ++ piece ≡ (bytes ++ (word ++ 10 ∷ [])) ++ behind =
    ap (λ (l : List ℕ). rest ++ l) (front_next piece front left word behind is cut.whole)
    ∙ sym (append_assoc rest (front ++ (word ++ 10 ∷ [])) behind) ∙ ap (λ (l : List ℕ). l ++ behind) (sym (append_assoc rest front (word ++ 10 ∷ []))) in
    let lines : ended_lines (rest ++ piece) ≡ (ended_lines bytes ++ (here ++ word) ∷ []) ++ ended_lines behind =
    ap ended_lines whole ∙ next.ended behind ∙ ap (λ (ls : List (List ℕ)). ls ++ ended_lines behind) (ended_next bytes here word fed.splits cut.no_lf) in
    subst (λ (ls : List (List ℕ)). DoesPart tells ls st0 st2 s0 s2) (sym lines)
    (does_part_more tells (ended_lines bytes ++ (here ++ word) ∷ []) (ended_lines behind) st0 st2 s0 s2
    (does_then_part tells (ended_lines bytes) ((here ++ word) ∷ []) st0 st1 st2 r0 r1 s0 s1 s2 fed.does part))

-- lines that are answered before the piece ends
pub fed_part : (tells : Bool) (rest piece front here left : List ℕ) (st0 st1 : Store) (r0 r1 : Bool) (s0 s1 : State)
    → Fed tells rest front here st0 st1 r0 r1 s0 s1 → piece ≡ front ++ left → DoesPart tells (ended_lines (rest ++ piece)) st0 st1 s0 s1
fed_part tells rest piece front here left st0 st1 r0 r1 s0 s1 fed is =
    let lines : ended_lines (rest ++ piece) ≡ ended_lines (rest ++ front) ++ ended_lines (here ++ left) =
    ap (λ (l : List ℕ). ended_lines (rest ++ l)) is ∙ ap ended_lines (sym (append_assoc rest front left)) ∙ fed.splits.ended left in
    subst (λ (ls : List (List ℕ)). DoesPart tells ls st0 st1 s0 s1) (sym lines)
    (does_part_more tells (ended_lines (rest ++ front)) (ended_lines (here ++ left)) st0 st1 s0 s1
    (does_part tells (ended_lines (rest ++ front)) st0 st1 r0 r1 s0 s1 fed.does))

taken_none : (n : ℕ) (rest : List ℕ) → 0 < n → length (take n rest) ≡ 0 → rest ≡ []
taken_none n [] low none = refl
taken_none n (b ∷ rest) low none = absurd (omega (arith, length-take n (b ∷ rest)))

-- a held line is empty only where its line is
pub held_none : (rest : List ℕ) → length (clipped rest) ≡ 0 → rest ≡ []
held_none rest none = taken_none 1048577 rest (lit< tt) none

pub clipped_none : (rest : List ℕ) → length (clipped rest) ≡ 0 → lines_of rest ≡ []
clipped_none rest none = ap lines_of (held_none rest none)

pub clipped_some : (rest : List ℕ) → list_any is_lf rest ≡ false → (length (clipped rest) ≡ 0 → ⊥) → lines_of rest ≡ (rest ++ []) ∷ []
clipped_some [] none some = absurd (some refl)
clipped_some (b ∷ rest) none some = lines_of-rest (b ∷ rest) none ∙ ap (λ (l : List ℕ). l ∷ []) (sym (append-nil (b ∷ rest)))

pub not_none : (n : ℕ) (b : Bool) → b ≡ nat_eq n 0 → b ≡ false → n ≡ 0 → ⊥
not_none n b test is none = let e : nat_eq n 0 ≡ true = ap (λ (k : ℕ). nat_eq k 0) none in cc

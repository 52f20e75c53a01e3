-- Entries that are looked at one by one: those of a slot are taken out, and each other goes last.
use Rattle.std.proofs.Common.{◌≡◌, ◌∙◌, ◌==◌, ◌+◌, ◌<◌, ◌≤◌, ◌/◌, ◌^◌, ℕ, Bool, true, false, cond, not, List, [], ◌∷◌, ◌++◌, length, take, drop, get_or, suc, sym, ap, append_assoc, add-one, arith}
use Rattle.std.proofs.Math.Seq.{take-suc, drop-cons}
use Rattle.std.proofs.lemmas.List.{append-nil, take_all, drop_all}
use Rattle.std.proofs.lemmas.List.Elements.{filter-append}
use Rattle.std.proofs.lemmas.List.Sums.{length-filter, count_by-le-length}
use Rattle.aria_cache.specs.declared.frames.Frame.{Frame}
use Rattle.aria_cache.specs.Frames.{others, turned}

one : (slot : ℕ) (e : ℕ × Frame) (es done : List (ℕ × Frame)) → turned slot ((e ∷ es) ++ others slot done) ≡ es ++ others slot (done ++ e ∷ [])
one slot e es done = by_slot (e.0 / 2 ^ 32 == slot) ∙ ap (λ (l : List (ℕ × Frame)). es ++ l) (sym (filter-append (λ f. not (f.0 / 2 ^ 32 == slot)) done (e ∷ [])))
  where
    by_slot : (b : Bool) → cond b (es ++ others slot done) ((es ++ others slot done) ++ e ∷ []) ≡ es ++ (others slot done ++ cond (not b) (e ∷ []) [])
    by_slot true = ap (λ (l : List (ℕ × Frame)). es ++ l) (sym (append-nil (others slot done)))
    by_slot false = append_assoc es (others slot done) (e ∷ [])

-- the entry at i is looked at
pub turns : (slot : ℕ) (es : List (ℕ × Frame)) (i : ℕ) → i < length es → turned slot (drop i es ++ others slot (take i es)) ≡ drop (i + 1) es ++ others slot (take (i + 1) es)
turns slot [] i low = absurd (omega (arith, low))
turns slot (d ∷ ds) i low =
    let es : List (ℕ × Frame) = d ∷ ds in
    ap (λ (l : List (ℕ × Frame)). turned slot (l ++ others slot (take i es))) (drop-cons es i d low)
    ∙ one slot (get_or es i d) (drop (suc i) es) (take i es)
    ∙ ap (λ (l : List (ℕ × Frame)). drop (suc i) es ++ others slot l) (sym (take-suc es i d low))
    ∙ ap (λ (n : ℕ). drop n es ++ others slot (take n es)) (sym (add-one i))

-- each was looked at
pub turned_all : (slot : ℕ) (es : List (ℕ × Frame)) (i : ℕ) → length es ≤ i → drop i es ++ others slot (take i es) ≡ others slot es
turned_all slot es i all = rw (drop_all i es all) (ap (others slot) (take_all i es all))

pub fewer : (slot : ℕ) (es : List (ℕ × Frame)) → length (others slot es) ≤ length es
fewer slot es = let p = λ (e : ℕ × Frame). not (e.0 / 2 ^ 32 == slot) in omega (arith, length-filter p es, count_by-le-length p es)

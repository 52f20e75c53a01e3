-- A page that is filled and sealed is a page of the log.
use Rattle.std.proofs.Common.{◌≡◌, ℕ, ◌+◌, ◌-◌, ◌≤◌, ◌/◌, ◌%◌, Bool, cond, List, [], ◌∷◌, ◌++◌, length, take, drop, replicate, refl, sym, ◌∙◌, ap, arith, append_assoc, length-append}
use Rattle.std.proofs.lemmas.List.{take_at, drop_at, drop-drop, drop-replicate, length-take, drop-take, drop-append-le}
use Rattle.aria_page.specs.Number.{number}
use Rattle.aria_page.specs.Page.{with_bytes, with_sum, summed}
use Rattle.aria_page.proofs.Numbers.{length-number}
use Rattle.aria_page.proofs.Pages.{drop-with_bytes}
use Rattle.aria_log.specs.LogPage.{log_head, log_body, log_page}

-- the head, part by part
head_parts : (n used : ℕ) (begins : Bool) (body : List ℕ) → number 3 (n / 1024) ++ (number 4 (n % 1024) ++ ((10 ∷ cond begins 1 0 ∷ 0 ∷ []) ++ (number 2 used ++ body))) ≡ log_head n begins used ++ body
unfolding log_head number
head_parts n used begins body = refl

-- the four parts of the head put before the body, from the last to the first
pub sealed_page : (page p1 p2 p3 p4 whole b1 b2 b3 b4 : List ℕ) (n used flag : ℕ) (begins : Bool) → length page ≡ 8192 → length p1 ≡ 8192 → length p2 ≡ 8192 → length p3 ≡ 8192
    → p1 ≡ with_bytes 14 b1 page → b1 ≡ number 2 used → p2 ≡ with_bytes 11 b2 p1 → b2 ≡ 10 ∷ flag ∷ 0 ∷ [] → flag ≡ cond begins 1 0
    → p3 ≡ with_bytes 7 b3 p2 → b3 ≡ number 4 (n % 1024) → p4 ≡ with_bytes 4 b4 p3 → b4 ≡ number 3 (n / 1024) → whole ≡ summed p4
    → whole ≡ with_sum (log_head n begins used ++ drop 16 page)
unfolding summed
sealed_page page p1 p2 p3 p4 whole b1 b2 b3 b4 n used flag begins l0 l1 l2 l3 e1 f1 e2 f2 f e3 f3 e4 f4 e =
    let s1 : drop 14 p1 ≡ number 2 used ++ drop 16 page = ap (drop 14) e1 ∙ drop-with_bytes 14 16 b1 page (omega arith) (omega (arith, ap length f1, length-number 2 used)) ∙ ap (λ (l : List ℕ). l ++ drop 16 page) f1 in
    let s2 : drop 11 p2 ≡ (10 ∷ cond begins 1 0 ∷ 0 ∷ []) ++ drop 14 p1 =
    ap (drop 11) e2 ∙ drop-with_bytes 11 14 b2 p1 (omega arith) (omega (arith, ap length f2)) ∙ ap (λ (l : List ℕ). l ++ drop 14 p1) (f2 ∙ ap (λ (x : ℕ). 10 ∷ x ∷ 0 ∷ []) f) in
    let s3 : drop 7 p3 ≡ number 4 (n % 1024) ++ drop 11 p2 = ap (drop 7) e3 ∙ drop-with_bytes 7 11 b3 p2 (omega arith) (omega (arith, ap length f3, length-number 4 (n % 1024))) ∙ ap (λ (l : List ℕ). l ++ drop 11 p2) f3 in
    let s4 : drop 4 p4 ≡ number 3 (n / 1024) ++ drop 7 p3 = ap (drop 4) e4 ∙ drop-with_bytes 4 7 b4 p3 (omega arith) (omega (arith, ap length f4, length-number 3 (n / 1024))) ∙ ap (λ (l : List ℕ). l ++ drop 7 p3) f4 in
    e
    ∙ ap with_sum (s4 ∙ ap (λ (l : List ℕ). number 3 (n / 1024) ++ l) (s3 ∙ ap (λ (l : List ℕ). number 4 (n % 1024) ++ l) (s2 ∙ ap (λ (l : List ℕ). (10 ∷ cond begins 1 0 ∷ 0 ∷ []) ++ l) s1)))
    ∙ ap with_sum (head_parts n used begins (drop 16 page))

-- the page of the log that a filled page becomes
pub sealed_is_page : (page whole bytes : List ℕ) (n used : ℕ) (begins : Bool) → drop 16 page ≡ log_body bytes → used ≡ length bytes → whole ≡ with_sum (log_head n begins used ++ drop 16 page) → whole ≡ log_page n begins bytes
unfolding log_page
sealed_is_page page whole bytes n used begins body count is =
    is ∙ ap (λ (l : List ℕ). with_sum (log_head n begins used ++ l)) body ∙ ap (λ (k : ℕ). with_sum (log_head n begins k ++ log_body bytes)) count

-- bytes put behind those that stand in a page
pub filled_more : (page put held piece : List ℕ) (used : ℕ) → length page ≡ 8192 → drop 16 page ≡ log_body held → used ≡ length held → used + length piece ≤ 8176
    → put ≡ with_bytes (16 + used) piece page → drop 16 put ≡ log_body (held ++ piece)
unfolding log_body with_bytes
filled_more page put held piece used long body count fits is =
    let zeros : List ℕ = replicate (8176 - length held) 0 in
    let front : List ℕ = take (16 + used) page in
    let behind : drop (16 + used + length piece) page ≡ replicate (8176 - length (held ++ piece)) 0 =
    ap (λ (k : ℕ). drop k page) (let e : 16 + used + length piece ≡ 16 + (length held + length piece) = omega arith in e)
    ∙ sym (drop-drop (length held + length piece) 16 page) ∙ ap (drop (length held + length piece)) body
    ∙ sym (drop-drop (length piece) (length held) (held ++ zeros)) ∙ ap (drop (length piece)) (drop_at held zeros (length held) refl)
    ∙ drop-replicate (length piece) (8176 - length held) 0
    ∙ ap (λ (k : ℕ). replicate k 0) (let e : 8176 - length held - length piece ≡ 8176 - length (held ++ piece) = omega (arith, length-append held piece) in e) in
    let first : drop 16 front ≡ held = drop_take 16 used page ∙ ap (take used) body ∙ take_at held zeros used (sym count) in
    let rest : List ℕ = piece ++ drop (16 + used + length piece) page in
    ap (drop 16) is ∙ drop_front 16 front rest (omega (arith, length-take (16 + used) page)) ∙ ap (λ (l : List ℕ). l ++ rest) first
    ∙ ap (λ (l : List ℕ). held ++ (piece ++ l)) behind ∙ sym (append_assoc held piece (replicate (8176 - length (held ++ piece)) 0))
  where
    drop_take : (n m : ℕ) (l : List ℕ) → drop n (take (n + m) l) ≡ take m (drop n l)
    drop_take n m l = drop-take n m l

    drop_front : (n : ℕ) (xs ys : List ℕ) → n ≤ length xs → drop n (xs ++ ys) ≡ drop n xs ++ ys
    drop_front n xs ys le = drop-append-le n xs ys le

-- Edits of a page's body, as writes to the page.
use Rattle.std.proofs.Common.{◌≡◌, ℕ, ◌+◌, ◌-◌, ◌≤◌, List, ◌++◌, length, take, drop, sym, ap, ◌∙◌, arith, append_assoc, take-add}
use Rattle.std.proofs.lemmas.List.{append-nil, drop_at, drop-drop, drop_all, length-drop, length-take}
use lib.Seq.{paste}
use Rattle.aria_page.specs.declared.edit.Edit.{Edit}
use Rattle.aria_page.specs.declared.edit.Edit.TheVariants.{Set, Shift, Whole}
use Rattle.aria_page.specs.Page.{with_bytes, with_body, page_body}
use Rattle.aria_page.proofs.Pages.{length-with_bytes}
use Rattle.aria_page.specs.Edit.{IsWithin, edited}

-- bytes that are copied within a list are put over what stood there
pub copied_is : (at len to : ℕ) (bytes : List ℕ) → at + len ≤ length bytes → paste bytes to (drop at bytes) (at + len - at) ≡ with_bytes to (take len (drop at bytes)) bytes
unfolding with_bytes
copied_is at len to bytes fits =
    let size : at + len - at ≡ len = omega arith in
    let copy : List ℕ = take len (drop at bytes) in
    let long : length copy ≡ len = omega (arith, length-take len (drop at bytes), length-drop at bytes) in
    ap (λ (n : ℕ). (take to bytes ++ take n (drop at bytes)) ++ drop (to + n) bytes) size
    ∙ append_assoc (take to bytes) copy (drop (to + len) bytes)
    ∙ ap (λ (n : ℕ). take to bytes ++ (copy ++ drop (to + n) bytes)) (sym long)

-- bytes put into the page behind its front are put into the body
pub put_in_body : (at : ℕ) (bytes page : List ℕ) → with_bytes (11 + at) bytes page ≡ with_body (with_bytes at bytes (page_body page)) page
unfolding with_bytes with_body page_body
put_in_body at bytes page =
    let behind : 11 + at + length bytes ≡ 11 + (at + length bytes) = omega arith in
    let last : drop (11 + at + length bytes) page ≡ drop (at + length bytes) (drop 11 page) = ap (λ (n : ℕ). drop n page) behind ∙ sym (drop-drop (at + length bytes) 11 page) in
    ap (λ (front : List ℕ). front ++ (bytes ++ drop (11 + at + length bytes) page)) (take-add 11 at page)
    ∙ append_assoc (take 11 page) (take at (drop 11 page)) (bytes ++ drop (11 + at + length bytes) page)
    ∙ ap (λ (l : List ℕ). take 11 page ++ (take at (drop 11 page) ++ (bytes ++ l))) last

-- bytes copied within the page behind its front are copied within the body
pub shift_in_body : (at len to : ℕ) (page : List ℕ)
    → with_bytes (11 + to) (take len (drop (11 + at) page)) page ≡ with_body (with_bytes to (take len (drop at (page_body page))) (page_body page)) page
unfolding page_body
shift_in_body at len to page =
    ap (λ (l : List ℕ). with_bytes (11 + to) (take len l) page) (sym (drop-drop at 11 page))
    ∙ put_in_body to (take len (drop at (drop 11 page))) page

-- a whole body put into the page is its body
pub whole_in_body : (body page : List ℕ) → length page ≡ 11 + length body → with_bytes 11 body page ≡ with_body body page
unfolding with_bytes with_body
whole_in_body body page len =
    ap (λ (l : List ℕ). take 11 page ++ (body ++ l)) (drop_all (11 + length body) page (omega arith))
    ∙ ap (λ (l : List ℕ). take 11 page ++ l) (append-nil body)

-- ---- what an edit leaves

-- the body is the one that was put
pub page_body-with_body : (body page : List ℕ) → 11 ≤ length page → page_body (with_body body page) ≡ body
unfolding page_body with_body
page_body-with_body body page low = drop_at (take 11 page) body 11 (omega (arith, length-take 11 page))

-- an edit that stays within a body leaves its length
pub length-edited : (edit : Edit) (body : List ℕ) → IsWithin edit → length body ≡ 8181 → length (edited edit body) ≡ 8181
unfolding edited
length-edited (Set at bytes) body fits len = length-with_bytes at bytes body (omega arith) ∙ len
length-edited (Shift at n to) body fits len =
    length-with_bytes to (take n (drop at body)) body (omega (arith, fits.0, fits.1, length-take n (drop at body), length-drop at body)) ∙ len
length-edited (Whole new) body fits len = fits

-- Bytes of a body in which others were put.
use Rattle.std.proofs.Common.{◌≡◌, ◌⊎◌, inl, inr, ℕ, ◌+◌, ◌-◌, ◌*◌, ◌≤◌, List, ◌++◌, length, take, drop, refl, sym, ap, ◌∙◌, arith, take-add}
use Rattle.std.proofs.lemmas.List.{take_at, drop_at, drop-take, drop-drop, drop-append-le, take-append-le, length-drop, length-take}
use Rattle.aria_page.specs.Page.{with_bytes}
use Rattle.aria_page.specs.Number.{number_of}
use Rattle.aria_page.proofs.Numbers.{number_of-take}
use Rattle.aria_page.proofs.Pages.{take-with_bytes, drop-with_bytes, drop-with_bytes-behind}
use Rattle.aria_bitmap.specs.Code.{entry}
use Rattle.aria_block.specs.PartPage.{window}

-- bytes that lie apart from those that were put
pub window_apart : (a n at : ℕ) (bytes body : List ℕ) → ((a + n ≤ at) ⊎ (at + length bytes ≤ a)) → at + length bytes ≤ length body → window a n (with_bytes at bytes body) ≡ window a n body
unfolding window
window_apart a n at bytes body (inl before) fits =
    sym (drop-take a n (with_bytes at bytes body)) ∙ ap (drop a) (take-with_bytes (a + n) at bytes body before (omega (arith, fits))) ∙ drop-take a n body
window_apart a n at bytes body (inr behind) fits = ap (take n) (drop-with_bytes-behind a at bytes body behind (omega (arith, fits)))

-- those that were put
pub window_here : (at n : ℕ) (bytes body : List ℕ) → length bytes ≡ n → at + length bytes ≤ length body → window at n (with_bytes at bytes body) ≡ bytes
unfolding window
window_here at n bytes body len fits = ap (take n) (drop-with_bytes at (at + length bytes) bytes body (omega (arith, fits)) refl) ∙ take_at bytes (drop (at + length bytes) body) n len

-- two windows beside each other
pub window_joined : (a m n : ℕ) (body : List ℕ) → window a (m + n) body ≡ window a m body ++ window (a + m) n body
unfolding window
window_joined a m n body = take-add m n (drop a body) ∙ ap (λ (l : List ℕ). take m (drop a body) ++ take n l) (drop-drop m a body)

-- a directory entry is what its window says
pub entry_window : (body : List ℕ) (i : ℕ) → entry body i ≡ number_of 4 (window (8181 - 4 * (i + 1)) 4 body)
unfolding entry window
entry_window body i = sym (number_of-take 4 (drop (8181 - 4 * (i + 1)) body))

-- a part of those that were put
pub window_within : (at k n : ℕ) (bytes body : List ℕ) → k + n ≤ length bytes → at + length bytes ≤ length body → window (at + k) n (with_bytes at bytes body) ≡ window k n bytes
unfolding window
window_within at k n bytes body inside fits =
    ap (take n) (sym (drop-drop k at (with_bytes at bytes body))
    ∙ ap (drop k) (drop-with_bytes at (at + length bytes) bytes body (omega (arith, fits)) refl)
    ∙ drop-append-le k bytes (drop (at + length bytes) body) (omega (arith, inside)))
    ∙ take-append-le n (drop k bytes) (drop (at + length bytes) body) (omega (arith, inside, length-drop k bytes))

-- a window of a list of two parts
pub window_first : (n : ℕ) (a b : List ℕ) → length a ≡ n → window 0 n (a ++ b) ≡ a
unfolding window
window_first n a b len = take_at a b n len

pub window_second : (k n : ℕ) (a b : List ℕ) → window (length a + k) n (a ++ b) ≡ window k n b
unfolding window
window_second k n a b = ap (take n) (sym (drop-drop k (length a) (a ++ b)) ∙ ap (drop k) (drop_at a b (length a) refl))

pub length-window : (at n : ℕ) (body : List ℕ) → at + n ≤ length body → length (window at n body) ≡ n
unfolding window
length-window at n body fits = omega (arith, fits, length-take n (drop at body), length-drop at body)

-- A page without one of its parts.
use Rattle.std.proofs.Common.{◌≡◌, inl, inr, ℕ, zero, suc, ◌+◌, ◌-◌, ◌*◌, ◌^◌, ◌<◌, ◌≤◌, Bool, true, false, cond, ◌==◌, None, List, [], ◌∷◌, ◌++◌, length, refl, sym, ap, ◌∙◌, arith, length-append}
use Rattle.std.proofs.lemmas.List.{append-nil, append_cancel_left}
use Rattle.std.proofs.lemmas.Bool.{cases_eq}
use Rattle.aria_page.specs.Page.{with_bytes}
use Rattle.aria_page.specs.Number.{number, number_of}
use Rattle.aria_page.proofs.Numbers.{length-number, number_of-number}
use Rattle.aria_page.proofs.Pages.{length-with_bytes}
use Rattle.aria_bitmap.specs.Code.{entry}
use Rattle.aria_block.specs.PartPage.{window, Items, text, part_in, entry_of, HasParts, LastIsUsed, head_bytes, IsPartPage, directory, without_part}
use Rattle.aria_block.proofs.Windows.{window_apart, window_here, window_within, window_joined, window_first, window_second, length-window, entry_window}
use Rattle.aria_block.proofs.Items.{text-append, distinct_without}

length-directory : (n : ℕ) (items : Items) → length (directory n items) ≡ 4 * n
length-directory zero items = refl
length-directory (suc n) items = omega (arith, length-append (number 4 (entry_of n 4 items)) (directory n items), length-number 4 (entry_of n 4 items), length-directory n items)

-- an entry in the directory's bytes
directory_window : (n i : ℕ) (items : Items) → i < n → window (4 * (n - (i + 1))) 4 (directory n items) ≡ number 4 (entry_of i 4 items)
directory_window zero i items lt = absurd (omega (arith, lt))
directory_window (suc n) i items lt = elim (cases_eq i n) [
  | inl same ↦
      let none : 4 * (suc n - (i + 1)) ≡ 0 = omega (arith, same) in
      ap (λ (k : ℕ). window k 4 (directory (suc n) items)) none ∙ window_first 4 (number 4 (entry_of n 4 items)) (directory n items) (length-number 4 (entry_of n 4 items))
      ∙ ap (λ (k : ℕ). number 4 (entry_of k 4 items)) (sym same)
  | inr other ↦
      let first : List ℕ = number 4 (entry_of n 4 items) in
      let at : 4 * (suc n - (i + 1)) ≡ length first + 4 * (n - (i + 1)) = omega (arith, other, lt, length-number 4 (entry_of n 4 items)) in
      ap (λ (k : ℕ). window k 4 (directory (suc n) items)) at ∙ window_second (4 * (n - (i + 1))) 4 first (directory n items) ∙ directory_window n i items (omega (arith, other, lt))
]

-- an entry fits 4 bytes
entry_fits : (items : Items) (slot from : ℕ) → from + length (text items) ≤ 8181 → entry_of slot from items < 256 ^ 4
entry_fits [] slot from room = omega arith
entry_fits (item ∷ items) slot from room = step (item.0 == slot) (entry_of slot (from + length item.1) items) (entry_fits items slot (from + length item.1) (omega (arith, room, length-append item.1 (text items))))
  where
    step : (b : Bool) (n : ℕ) → n < 256 ^ 4 → cond b (65536 * from + length item.1) n < 256 ^ 4
    step true n lt = omega (arith, room, length-append item.1 (text items))
    step false n lt = lt

-- The parts of front and back are left, with a directory of d entries.
pub removed : (kind c d : ℕ) (front back : Items) (slot : ℕ) (bytes body : List ℕ) → HasParts c (front ++ (slot, bytes) ∷ back) body → d ≤ c → ((i : ℕ) → d ≤ i → part_in (front ++ back) i ≡ None) → LastIsUsed d (front ++ back)
    → IsPartPage kind d (front ++ back) (without_part kind d (length (text front)) (length bytes) (length (text back)) (directory d (front ++ back)) body)
removed kind c d front back slot bytes body has le above last = record {
  head = window_here 0 4 head two four (omega (arith, four, long2)) ∙ ap (head_bytes kind d) (sym end_is);
  has = record {
    long = length-with_bytes 0 head two (omega (arith, four, long2)) ∙ long2;
    parts = ap (λ (n : ℕ). window 4 n three) size ∙ kept 4 (m + k) (omega arith) (omega (arith, room, le)) ∙ window_joined 4 m k one ∙ (λ i. first i ++ second i) ∙ sym (text-append front back);
    entries = λ i lt. entry_at i lt;
    above = above;
    distinct = distinct_without front back slot bytes has.distinct;
    few = omega (arith, has.few, le);
    room = omega (arith, room, le, size);
  };
  last = last;
}
  where
    m : ℕ
    m = length (text front)

    n : ℕ
    n = length bytes

    k : ℕ
    k = length (text back)

    old : length (text (front ++ (slot, bytes) ∷ back)) ≡ m + (n + k)
    old = omega (arith, ap length (text-append front ((slot, bytes) ∷ back)), length-append (text front) (bytes ++ text back), length-append bytes (text back))

    size : length (text (front ++ back)) ≡ m + k
    size = omega (arith, ap length (text-append front back), length-append (text front) (text back))

    end_is : 4 + length (text (front ++ back)) ≡ 4 + m + k
    end_is = omega (arith, size)

    room : 4 + (m + (n + k)) + 4 * c ≤ 8181
    room = omega (arith, has.room, old)

    moved : List ℕ
    moved = window (4 + m + n) k body

    moved_long : length moved ≡ k
    moved_long = length-window (4 + m + n) k body (omega (arith, room, has.long))

    dir : List ℕ
    dir = directory d (front ++ back)

    dir_long : length dir ≡ 4 * d
    dir_long = length-directory d (front ++ back)

    head : List ℕ
    head = head_bytes kind d (4 + m + k)

    four : length head ≡ 4
    four = omega (arith, length-append (number 1 kind) (number 1 d ++ number 2 (4 + m + k)), length-append (number 1 d) (number 2 (4 + m + k)), length-number 1 kind, length-number 1 d, length-number 2 (4 + m + k))

    one : List ℕ
    one = with_bytes (4 + m) moved body

    two : List ℕ
    two = with_bytes (8181 - 4 * d) dir one

    three : List ℕ
    three = with_bytes 0 head two

    long1 : length one ≡ 8181
    long1 = length-with_bytes (4 + m) moved body (omega (arith, room, moved_long, has.long)) ∙ has.long

    long2 : length two ≡ 8181
    long2 = length-with_bytes (8181 - 4 * d) dir one (omega (arith, room, le, dir_long, long1)) ∙ long1

    -- a window that only the first write may touch
    kept : (a z : ℕ) → 4 ≤ a → a + z ≤ 8181 - 4 * d → window a z three ≡ window a z one
    kept a z low high = window_apart a z 0 head two (inr (omega (arith, four, low))) (omega (arith, four, long2)) ∙ window_apart a z (8181 - 4 * d) dir one (inl high) (omega (arith, room, le, dir_long, long1))

    -- where the parts lay
    parts : window 4 (m + (n + k)) body ≡ text front ++ (bytes ++ text back)
    parts = ap (λ (z : ℕ). window 4 z body) (sym old) ∙ has.parts ∙ text-append front ((slot, bytes) ∷ back)

    front_was : window 4 m body ≡ text front
    front_was = same_front (window 4 m body) (window (4 + m) (n + k) body) (text front) (bytes ++ text back) (sym (window_joined 4 m (n + k) body) ∙ parts) (length-window 4 m body (omega (arith, room, has.long)))
      where
        same_front : (a b x y : List ℕ) → a ++ b ≡ x ++ y → length a ≡ length x → a ≡ x
        same_front a b x y same len = sym (window_first (length a) a b refl) ∙ ap (window 0 (length a)) same ∙ window_first (length a) x y (sym len)

    behind : window (4 + m) (n + k) body ≡ bytes ++ text back
    behind = append_cancel_left (text front) (window (4 + m) (n + k) body) (bytes ++ text back) (ap (λ (l : List ℕ). l ++ window (4 + m) (n + k) body) (sym front_was) ∙ sym (window_joined 4 m (n + k) body) ∙ parts)

    back_was : moved ≡ text back
    back_was = same_back (window (4 + m) n body) moved bytes (text back) (sym (window_joined (4 + m) n k body) ∙ behind) (length-window (4 + m) n body (omega (arith, room, has.long)))
      where
        same_back : (a b x y : List ℕ) → a ++ b ≡ x ++ y → length a ≡ length x → b ≡ y
        same_back a b x y same len =
            let front : a ≡ x = sym (window_first (length a) a b refl) ∙ ap (window 0 (length a)) same ∙ window_first (length a) x y (sym len) in
            append_cancel_left a b y (same ∙ ap (λ (l : List ℕ). l ++ y) (sym front))

    first : window 4 m one ≡ text front
    first = window_apart 4 m (4 + m) moved body (inl (omega arith)) (omega (arith, room, moved_long, has.long)) ∙ front_was

    second : window (4 + m) k one ≡ text back
    second = window_here (4 + m) k moved body moved_long (omega (arith, room, moved_long, has.long)) ∙ back_was

    entry_at : (i : ℕ) → i < d → entry three i ≡ entry_of i 4 (front ++ back)
    entry_at i lt =
        let at : 8181 - 4 * (i + 1) ≡ 8181 - 4 * d + 4 * (d - (i + 1)) = omega (arith, lt, le, room) in
        entry_window three i
        ∙ ap (number_of 4) (window_apart (8181 - 4 * (i + 1)) 4 0 head two (inr (omega (arith, four, lt, le, room))) (omega (arith, four, long2))
        ∙ ap (λ (a : ℕ). window a 4 two) at
        ∙ window_within (8181 - 4 * d) (4 * (d - (i + 1))) 4 dir one (omega (arith, lt, dir_long)) (omega (arith, room, le, dir_long, long1))
        ∙ directory_window d i (front ++ back) lt ∙ sym (append-nil (number 4 (entry_of i 4 (front ++ back)))))
        ∙ number_of-number 4 (entry_of i 4 (front ++ back)) [] (entry_fits (front ++ back) i 4 (omega (arith, room, size)))

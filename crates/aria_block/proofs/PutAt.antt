-- A page with one more part, in any slot.
use Rattle.std.proofs.Common.{◌≡◌, ◌≢◌, ◌⊎◌, inl, inr, ℕ, ◌+◌, ◌-◌, ◌*◌, ◌<◌, ◌≤◌, max, Some, None, List, [], ◌∷◌, ◌++◌, length, take, replicate, refl, sym, ap, ◌∙◌, arith, length-append, subst}
use Rattle.std.proofs.lemmas.List.{append-nil, length-replicate, take-replicate, drop-replicate}
use Rattle.std.proofs.lemmas.Bool.{cases_eq, cases_lt, ne_eqb}
use Rattle.aria_page.specs.Page.{with_bytes}
use Rattle.aria_page.specs.Number.{number, number_of}
use Rattle.aria_page.proofs.Numbers.{length-number, number_of-number}
use Rattle.aria_page.proofs.Pages.{length-with_bytes}
use Rattle.aria_bitmap.specs.Code.{entry}
use Rattle.aria_block.specs.PartPage.{window, Items, text, part_in, entry_of, HasParts, LastIsUsed, head_bytes, IsPartPage, with_part}
use Rattle.aria_block.proofs.Windows.{window_apart, window_here, window_within, window_first, window_second, window_joined, entry_window}
use Rattle.aria_block.proofs.Items.{distinct_push, text-push, part_other, part_here, entry_other, entry_here, entry_none, entries_apart}

window_zeros : (k n m : ℕ) → k + n ≤ m → window k n (replicate m 0) ≡ replicate n 0
unfolding window
window_zeros k n m fits = ap (take n) (drop-replicate k m 0) ∙ take-replicate n (m - k) 0 (omega (arith, fits))

zero_is : number_of 4 (replicate 4 0) ≡ 0
unfolding number_of
zero_is = refl

-- The part is put behind the others, in any slot without a part.
pub put_at : (kind c d : ℕ) (items : Items) (slot : ℕ) (bytes body : List ℕ) → HasParts c items body → (slot < c → LastIsUsed c items) → part_in items slot ≡ None → d ≡ max c (slot + 1) → d ≤ 255
    → 4 + length (text items) + length bytes + 4 * d ≤ 8181 → IsPartPage kind d (items ++ (slot, bytes) ∷ []) (with_part kind c d (4 + length (text items)) slot bytes body)
put_at kind c d items slot bytes body has last free is few room = record {
  head = window_here 0 4 head two four (omega (arith, four, long2)) ∙ ap (head_bytes kind d) (sym size);
  has = record {
    long = length-with_bytes 0 head two (omega (arith, four, long2)) ∙ long2;
    parts = ap (λ (n : ℕ). window 4 n three) (ap length (text-push items slot bytes) ∙ length-append (text items) bytes) ∙ both ∙ sym (text-push items slot bytes);
    entries = λ i lt. elim (cases_eq slot i) [
      | inl same ↦ subst (λ (n : ℕ). entry three n ≡ entry_of n 4 (items ++ (slot, bytes) ∷ [])) same here
      | inr other ↦ elim (cases_lt i c) [
        | inl low ↦ kept i low lt other ∙ has.entries i low ∙ sym (entry_other items slot i 4 bytes (ne_eqb slot i other))
        | inr high ↦ unused i high (omega (arith, is, lt, other, high)) ∙ sym (entry_other items slot i 4 bytes (ne_eqb slot i other) ∙ entry_none items i 4 (has.above i high))
      ]
    ];
    above = λ i le. part_other items slot i bytes (ne_eqb slot i (omega (arith, is, le))) ∙ has.above i (omega (arith, is, le));
    distinct = distinct_push items slot bytes has.distinct free;
    few = few;
    room = omega (arith, room, size);
  };
  last = used;
}
  where
    used : LastIsUsed d (items ++ (slot, bytes) ∷ [])
    used = elim (cases_lt slot c) [
      | inl lt ↦ old (last lt) lt
      | inr le ↦ (slot, omega (arith, is, le), λ none. absurd (some_not (part_here items slot bytes free) none))
    ]
      where
        some_not : part_in (items ++ (slot, bytes) ∷ []) slot ≡ Some bytes → part_in (items ++ (slot, bytes) ∷ []) slot ≡ None → ⊥
        some_not here none = absurd (cc)

        old : LastIsUsed c items → slot < c → LastIsUsed d (items ++ (slot, bytes) ∷ [])
        old (n, at, was) lt = (
          n,
          omega (arith, is, lt, at),
          λ none. elim (cases_eq slot n) [
            | inl same ↦ was (subst (λ (s : ℕ). part_in items s ≡ None) same free)
            | inr other ↦ was (sym (part_other items slot n bytes (ne_eqb slot n other)) ∙ none)
          ],
        )

    end : ℕ
    end = 4 + length (text items)

    head : List ℕ
    head = head_bytes kind d (end + length bytes)

    at : ℕ
    at = 8181 - 4 * (slot + 1)

    e : List ℕ
    e = number 4 (65536 * end + length bytes) ++ replicate (4 * (slot - c)) 0

    one : List ℕ
    one = with_bytes end bytes body

    two : List ℕ
    two = with_bytes at e one

    three : List ℕ
    three = with_bytes 0 head two

    size : 4 + length (text (items ++ (slot, bytes) ∷ [])) ≡ end + length bytes
    size = omega (arith, ap length (text-push items slot bytes), length-append (text items) bytes)

    four : length head ≡ 4
    four = omega (arith, length-append (number 1 kind) (number 1 d ++ number 2 (end + length bytes)), length-append (number 1 d) (number 2 (end + length bytes)), length-number 1 kind, length-number 1 d, length-number 2 (end + length bytes))

    e4 : length e ≡ 4 + 4 * (slot - c)
    e4 = omega (arith, length-append (number 4 (65536 * end + length bytes)) (replicate (4 * (slot - c)) 0), length-number 4 (65536 * end + length bytes), length-replicate {A = ℕ} (4 * (slot - c)) 0)

    long1 : length one ≡ 8181
    long1 = length-with_bytes end bytes body (omega (arith, room, has.long)) ∙ has.long

    long2 : length two ≡ 8181
    long2 = length-with_bytes at e one (omega (arith, room, e4, long1, is)) ∙ long1

    -- a window that only the first write may touch
    first : (a n : ℕ) → 4 ≤ a → a + n ≤ at ⊎ at + (4 + 4 * (slot - c)) ≤ a → window a n three ≡ window a n one
    first a n low away = window_apart a n 0 head two (inr (omega (arith, four, low))) (omega (arith, four, long2)) ∙ window_apart a n at e one
        (elim away [ inl before ↦ inl before | inr behind ↦ inr (omega (arith, e4, behind)) ]) (omega (arith, room, e4, long1, is))

    both : window 4 (length (text items) + length bytes) three ≡ text items ++ bytes
    both = first 4 (length (text items) + length bytes) (omega arith) (inl (omega (arith, room, is)))
        ∙ window_joined 4 (length (text items)) (length bytes) one
        ∙ (λ i. (window_apart 4 (length (text items)) end bytes body (inl (omega arith)) (omega (arith, room, has.long)) ∙ has.parts) i ++ window_here end (length bytes) bytes body refl (omega (arith, room, has.long)) i)

    -- the first entry that was put
    start : window at 4 two ≡ number 4 (65536 * end + length bytes) ++ []
    start = ap (λ (a : ℕ). window a 4 two) (omega arith) ∙ window_within at 0 4 e one (omega (arith, e4)) (omega (arith, room, e4, long1, is))
        ∙ window_first 4 (number 4 (65536 * end + length bytes)) (replicate (4 * (slot - c)) 0) (length-number 4 (65536 * end + length bytes)) ∙ sym (append-nil (number 4 (65536 * end + length bytes)))

    unused : (i : ℕ) → c ≤ i → i < slot → entry three i ≡ 0
    unused i high lt =
        let first_long = length-number 4 (65536 * end + length bytes) in
        let place : 8181 - 4 * (i + 1) ≡ at + 4 * (slot - i) = omega (arith, lt, is, room) in
        let inner : 4 * (slot - i) ≡ length (number 4 (65536 * end + length bytes)) + 4 * (slot - i - 1) = omega (arith, lt, first_long) in
        entry_window three i
        ∙ ap (number_of 4) (window_apart (8181 - 4 * (i + 1)) 4 0 head two (inr (omega (arith, four, is, room, lt))) (omega (arith, four, long2))
        ∙ ap (λ (a : ℕ). window a 4 two) place
        ∙ window_within at (4 * (slot - i)) 4 e one (omega (arith, e4, lt, high)) (omega (arith, room, e4, long1, is))
        ∙ ap (λ (a : ℕ). window a 4 e) inner ∙ window_second (4 * (slot - i - 1)) 4 (number 4 (65536 * end + length bytes)) (replicate (4 * (slot - c)) 0)
        ∙ window_zeros (4 * (slot - i - 1)) 4 (4 * (slot - c)) (omega (arith, lt, high)))
        ∙ zero_is

    here : entry three slot ≡ entry_of slot 4 (items ++ (slot, bytes) ∷ [])
    here = entry_window three slot
        ∙ ap (number_of 4) (window_apart at 4 0 head two (inr (omega (arith, four, is, room))) (omega (arith, four, long2)) ∙ start)
        ∙ number_of-number 4 (65536 * end + length bytes) [] (omega (arith, room))
        ∙ sym (entry_here items slot 4 bytes free)

    kept : (i : ℕ) → i < c → i < d → slot ≢ i → entry three i ≡ entry body i
    kept i low lt other = entry_window three i
        ∙ ap (number_of 4) (first (8181 - 4 * (i + 1)) 4 (omega (arith, lt, room)) (elim (cases_lt slot c) [
          | inl inside ↦ elim (entries_apart i slot (omega (arith, lt, room)) (omega (arith, is, room)) other) [ inl x ↦ inl x | inr x ↦ inr (omega (arith, x, inside)) ]
          | inr past ↦ inr (omega (arith, past, low, is, room))
        ])
        ∙ window_apart (8181 - 4 * (i + 1)) 4 end bytes body (inr (omega (arith, lt, room))) (omega (arith, room, has.long)))
        ∙ sym (entry_window body i)

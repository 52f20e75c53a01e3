-- Bytes put in the place of others, and what comes behind them moved.
use Rattle.std.proofs.Common.{◌≡◌, ℕ, ◌+◌, ◌≤◌, List, ◌++◌, length, take, drop, refl, sym, ap, ◌∙◌, append_assoc, take-add, arith}
use Rattle.std.proofs.lemmas.List.{take_at, drop_at, length-append, length-take, length-drop}
use Rattle.aria_page.specs.Edit.{edited, all_edited}
use Rattle.aria_page.specs.Page.{with_bytes}
use Rattle.aria_page.specs.Number.{number}
use Rattle.aria_page.proofs.Numbers.{length-number}
use Rattle.aria_keypage.specs.Content.{Content, kind_byte, item_bytes, front, IsContent}
use Rattle.aria_keypage.specs.Change.{Changes, patch}

-- bytes put over as many
put_over : (n : ℕ) (p x q r : List ℕ) → n ≡ length p → length x ≡ length q → with_bytes n x (p ++ (q ++ r)) ≡ p ++ (x ++ r)
unfolding with_bytes
put_over n p x q r e same =
    let behind : drop (n + length x) (p ++ (q ++ r)) ≡ r =
    ap (drop (n + length x)) (sym (append_assoc p q r)) ∙ drop_at (p ++ q) r (n + length x) (omega (arith, length-append p q)) in
    (λ i. take_at p (q ++ r) n (sym e) i ++ (x ++ behind i))

-- the three edits, made on a body of these parts
pub patched : (head count a m z rest new : List ℕ) → length head ≡ 2 → length count ≡ 2 → 4 + length a + length new + length z ≤ length (head ++ (count ++ (a ++ (m ++ (z ++ rest)))))
    → (behind : List ℕ) × (all_edited (patch (length a) (length m) (length z) new) (head ++ (count ++ (a ++ (m ++ (z ++ rest))))) ≡ head ++ (number 2 (length a + length new + length z) ++ (a ++ (new ++ (z ++ behind)))))
unfolding edited with_bytes
patched head count a m z rest new two two_more room =
    let body : List ℕ = head ++ (count ++ (a ++ (m ++ (z ++ rest)))) in
    let size : List ℕ = number 2 (length a + length new + length z) in
    let n : ℕ = 4 + length a in
    let h : List ℕ = head ++ (count ++ a) in
    let long : length h ≡ n = omega (arith, length-append head (count ++ a), length-append count a) in
    let regrouped : body ≡ h ++ (m ++ (z ++ rest)) = sym (simp append_assoc) in
    let moved_from : drop (n + length m) body ≡ z ++ rest =
    ap (drop (n + length m)) (regrouped ∙ sym (append_assoc h m (z ++ rest))) ∙ drop_at (h ++ m) (z ++ rest) (n + length m) (omega (arith, long, length-append h m)) in
    let moved : take (length z) (drop (n + length m) body) ≡ z = ap (take (length z)) moved_from ∙ take_at z rest (length z) refl in
    let junk : List ℕ = take (length new) (drop n body) in
    let last : List ℕ = drop (n + length new + length z) body in
    let front_is : take (n + length new) body ≡ h ++ junk =
    take-add n (length new) body ∙ ap (λ (l : List ℕ). l ++ junk) (ap (take n) regrouped ∙ take_at h (m ++ (z ++ rest)) n long) in
    let junk_long : length new ≡ length junk = omega (arith, room, length-take (length new) (drop n body), length-drop n body) in
    let first : with_bytes (n + length new) (take (length z) (drop (n + length m) body)) body ≡ h ++ (junk ++ (z ++ last)) =
    (λ i. front_is i ++ (moved i ++ drop (n + length new + length (moved i)) body)) ∙ append_assoc h junk (z ++ last) in
    let second : with_bytes n new (h ++ (junk ++ (z ++ last))) ≡ h ++ (new ++ (z ++ last)) = put_over n h new junk (z ++ last) (sym long) junk_long in
    let split : h ++ (new ++ (z ++ last)) ≡ head ++ (count ++ (a ++ (new ++ (z ++ last)))) = simp append_assoc in
    let third : with_bytes 2 size (head ++ (count ++ (a ++ (new ++ (z ++ last))))) ≡ head ++ (size ++ (a ++ (new ++ (z ++ last)))) =
    put_over 2 head size count (a ++ (new ++ (z ++ last))) (sym two) (length-number 2 (length a + length new + length z) ∙ sym two_more) in
    (last, ap (λ (l : List ℕ). with_bytes 2 size (with_bytes n new l)) first ∙ ap (with_bytes 2 size) (second ∙ split) ∙ third)

-- a page whose item bytes differ in one piece is made by these edits
pub patch-changes : (c d : Content) (a m z new : List ℕ) → IsContent c → IsContent d → d.kind ≡ c.kind → d.key ≡ c.key → item_bytes c ≡ a ++ (m ++ z) → item_bytes d ≡ a ++ (new ++ z)
    → Changes (patch (length a) (length m) (length z) new) c d
unfolding front
patch-changes c d a m z new pc pd kind key ec ed =
    let before : length a + length m + length z ≤ 8177 = omega (arith, pc.size, ap length ec, length-append a (m ++ z), length-append m z) in
    let size : length (item_bytes d) ≡ length a + length new + length z = omega (arith, ap length ed, length-append a (new ++ z), length-append new z) in
    let after : length a + length new + length z ≤ 8177 = omega (arith, pd.size, size) in
    let two = length-number 2 (length a + length new + length z) in
    record {
      within = ((omega arith, omega arith), (omega arith, (omega (arith, two), tt)));
      body = λ body len is.
          let head : List ℕ = number 1 (kind_byte c.kind) ++ number 1 c.key in
          let count : List ℕ = number 2 (length (item_bytes c)) in
          let regrouped : (number 1 (kind_byte c.kind) ++ (number 1 c.key ++ (count ++ (a ++ (m ++ z))))) ++ is.behind ≡ head ++ (count ++ (a ++ (m ++ (z ++ is.behind)))) = simp append_assoc in
          let parts : body ≡ head ++ (count ++ (a ++ (m ++ (z ++ is.behind)))) =
          is.parts ∙ ap (λ (l : List ℕ). (number 1 (kind_byte c.kind) ++ (number 1 c.key ++ (count ++ l))) ++ is.behind) ec ∙ regrouped in
          let long : length head ≡ 2 = omega (arith, length-append (number 1 (kind_byte c.kind)) (number 1 c.key), length-number 1 (kind_byte c.kind), length-number 1 c.key) in
          let there = patched head count a m z is.behind new long (length-number 2 (length (item_bytes c))) (omega (arith, ap length parts)) in
          let behind : List ℕ = there.0 in
          let whole : front d ++ behind ≡ head ++ (number 2 (length a + length new + length z) ++ (a ++ (new ++ (z ++ behind)))) =
          (λ i. (number 1 (kind_byte (kind i)) ++ (number 1 (key i) ++ (number 2 (size i) ++ ed i))) ++ behind) ∙ simp append_assoc in
          record { content = pd; behind = behind; parts = ap (all_edited (patch (length a) (length m) (length z) new)) parts ∙ there.1 ∙ sym whole };
    }

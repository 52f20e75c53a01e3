-- Bytes and names that are read are those that were stored, and what was stored is read again.
use Rattle.std.proofs.Common.{◌≡◌, ℕ, ◌<◌, ◌≤◌, ◌^◌, Bool, true, false, cond, ltb, List, ◌++◌, length, take, drop, Some, None, refl, sym, ap, subst, ◌∙◌, append_assoc, arith}
use Rattle.std.specs.Prelude.{IsTrue, ◌&&◌, nat_le}
use Rattle.std.specs.List.{list_all}
use Rattle.std.proofs.lemmas.Bool.{ltb-false, le-ltb, leb-true}
use Rattle.std.proofs.lemmas.List.{take_at, drop_at, take-append-drop, length-append, length-take}
use Rattle.std.proofs.lemmas.Option.{cond_some, same_Some}
use Rattle.aria_page.specs.Field.{◌>>=◌, AreBytes, Takes}
use Rattle.aria_page.specs.Number.{number, number_at}
use Rattle.aria_page.specs.Word.{begins_as_word, continues_word, is_word}
use Rattle.aria_page.specs.Text.{bytes_at, counted, counted_at, name_bytes, name_at}
use Rattle.aria_page.proofs.Fields.{AreBytes-drop, bind_some, guard_some, Takes-then}
use Rattle.aria_page.proofs.Numbers.{number_takes, number_again}

-- bytes that are read stand in front
pub bytes_take : (n : ℕ) (bytes : List ℕ) (x : List ℕ × List ℕ) → AreBytes bytes → bytes_at n bytes ≡ Some x → Takes bytes x.0 x.1 × (length x.0 ≡ n)
unfolding bytes_at
bytes_take n bytes x fits e =
    let g = guard_some (ltb (length bytes) n) (Some (take n bytes, drop n bytes)) x e in
    let long : n ≤ length bytes = ltb-false _ _ g.0 in
    let whole : Takes bytes (take n bytes) (drop n bytes) = record { parts = sym (take-append-drop n bytes); rest_bytes = AreBytes-drop n bytes fits } in
    subst (λ (y : List ℕ × List ℕ). Takes bytes y.0 y.1 × (length y.0 ≡ n)) (same_Some (take n bytes, drop n bytes) x g.1) (whole, omega (arith, length-take n bytes))

-- bytes that stand in front are read, and what follows is left
pub bytes_again : (n : ℕ) (text rest : List ℕ) → length text ≡ n → bytes_at n (text ++ rest) ≡ Some (text, rest)
unfolding bytes_at
bytes_again n text rest len =
    let long : ltb (length (text ++ rest)) n ≡ false = le-ltb _ _ (omega (arith, length-append text rest)) in
    rw (long, take_at text rest n len, drop_at text rest n len) refl

-- counted bytes that are read stand in front
pub counted_takes : (n : ℕ) (bytes : List ℕ) (x : List ℕ × List ℕ) → AreBytes bytes → counted_at n bytes ≡ Some x → Takes bytes (counted n x.0) x.1 × (length x.0 < 256 ^ n)
unfolding counted_at
counted_takes n bytes x fits e =
    let a = bind_some (number_at n bytes) (λ count. bytes_at count.0 count.1) x e in
    let first = number_takes n bytes a.0 fits a.1 in
    let second = bytes_take a.0.0 a.0.1 x first.0.rest_bytes a.2 in
    let both = Takes-then bytes (number n a.0.0) a.0.1 x.0 x.1 first.0 second.0 in
    (subst (λ (k : ℕ). Takes bytes (number n k ++ x.0) x.1) (sym second.1) both, subst (λ (k : ℕ). k < 256 ^ n) (sym second.1) first.1)

-- counted bytes are read again, and what follows is left
pub counted_again : (n : ℕ) (text rest : List ℕ) → length text < 256 ^ n → counted_at n (counted n text ++ rest) ≡ Some (text, rest)
unfolding counted_at
counted_again n text rest low =
    ap (counted_at n) (append_assoc (number n (length text)) text rest)
    ∙ rw (number_again n (length text) (text ++ rest) low, bytes_again (length text) text rest refl) refl

-- a name that is read is spelled by the bytes in front
pub name_takes : (bytes : List ℕ) (x : List ℕ × List ℕ) → AreBytes bytes → name_at bytes ≡ Some x → Takes bytes (name_bytes x.0) x.1 × IsTrue (is_word x.0)
unfolding name_at name_bytes
name_takes bytes x fits e =
    let a = bind_some (number_at 1 bytes) (λ len. bytes_at len.0 len.1 >>= λ name. cond (is_word name.0) (Some name) None) x e in
    let b = bind_some (bytes_at a.0.0 a.0.1) (λ name. cond (is_word name.0) (Some name) None) x a.2 in
    let word = cond_some (is_word b.0.0) b.0 x b.2 in
    let first = number_takes 1 bytes a.0 fits a.1 in
    let second = bytes_take a.0.0 a.0.1 b.0 first.0.rest_bytes b.1 in
    let both = Takes-then bytes (number 1 a.0.0) a.0.1 b.0.0 b.0.1 first.0 second.0 in
    let whole : Takes bytes (name_bytes b.0.0) b.0.1 = subst (λ (n : ℕ). Takes bytes (number 1 n ++ b.0.0) b.0.1) (sym second.1) both in
    subst (λ (y : List ℕ × List ℕ). Takes bytes (name_bytes y.0) y.1 × IsTrue (is_word y.0)) word.1 (whole, word.0)

-- the second of two tests that hold together
second_holds : (a b : Bool) → (a && b) ≡ true → b ≡ true
second_holds true b e = e
second_holds false b e = absurd cc

-- a word has at most 64 bytes
pub word_length : (word : List ℕ) → IsTrue (is_word word) → length word ≤ 64
word_length word is = leb-true _ _ (second_holds (begins_as_word word && list_all continues_word word) (nat_le (length word) 64) is)

-- a name that is stored is read, and what follows is left
pub name_again : (name rest : List ℕ) → IsTrue (is_word name) → name_at (name_bytes name ++ rest) ≡ Some (name, rest)
unfolding name_at name_bytes
name_again name rest word =
    let short : length name < 256 = omega (arith, word_length name word) in
    ap name_at (append_assoc (number 1 (length name)) name rest)
    ∙ rw (number_again 1 (length name) (name ++ rest) short, bytes_again (length name) name rest refl, word) refl

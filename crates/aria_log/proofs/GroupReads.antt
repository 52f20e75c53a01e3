-- Which bytes tell the group in front: its length, and as many as that says. More bytes behind them change nothing.
use Rattle.std.proofs.Common.{◌≡◌, inl, inr, ℕ, ◌+◌, ◌-◌, ◌<◌, ◌≤◌, Bool, true, false, Option, None, Some, List, [], ◌++◌, length, take, drop, refl, sym, ◌∙◌, ap, arith, length-append, is_some}
use Rattle.std.proofs.lemmas.Bool.{cases_lt, le-ltb, lt-ltb}
use Rattle.std.proofs.lemmas.List.{length-drop, take-append-le, drop-append-le, drop-drop}
use Rattle.std.proofs.lemmas.Option.{same_Some}
use Rattle.aria_page.specs.Field.{◌>>=◌, AreBytes}
use Rattle.aria_page.specs.Number.{number_of, number_at}
use Rattle.aria_page.specs.Text.{bytes_at, counted_at}
use Rattle.aria_page.proofs.Fields.{bind_some}
use Rattle.aria_page.proofs.Numbers.{number_short, number_long, number_of-take}
use Rattle.aria_record.specs.declared.record.Record.{Record}
use Rattle.aria_record.specs.Groups.{IsGroup, IsInFront}
use Rattle.aria_record.specs.Spelled.{group_bytes}
use Rattle.aria_record.specs.Reading.{read_content, read_group, Decodes}
use Rattle.aria_record.proofs.Records.{group_again, result_found}
use Rattle.std.specs.Prelude.{Result, Ok, Err, IfOk, IfSome}
use Rattle.aria_log.specs.Stepping.{are_enough}

-- as many bytes as are asked for
bytes_long : (n : ℕ) (bytes : List ℕ) → n ≤ length bytes → bytes_at n bytes ≡ Some (take n bytes, drop n bytes)
unfolding bytes_at
bytes_long n bytes h = rw (le-ltb _ _ h) refl

-- fewer bytes than are asked for
bytes_short : (n : ℕ) (bytes : List ℕ) → length bytes < n → bytes_at n bytes ≡ None
unfolding bytes_at
bytes_short n bytes h = rw (lt-ltb _ _ h) refl

-- all the counted bytes are there
counted_long : (bytes : List ℕ) → 4 + number_of 4 bytes ≤ length bytes → counted_at 4 bytes ≡ Some (take (number_of 4 bytes) (drop 4 bytes), drop (number_of 4 bytes) (drop 4 bytes))
unfolding counted_at
counted_long bytes long =
    ap (λ (o : Option (ℕ × List ℕ)). o >>= (λ count. bytes_at count.0 count.1)) (number_long 4 bytes (omega (arith, long)))
    ∙ bytes_long (number_of 4 bytes) (drop 4 bytes) (omega (arith, long, length-drop 4 bytes))

-- some of them aren't
counted_short : (bytes : List ℕ) → length bytes < 4 + number_of 4 bytes → counted_at 4 bytes ≡ None
unfolding counted_at
counted_short bytes short = elim (cases_lt (length bytes) 4) [
  | inl few ↦ ap (λ (o : Option (ℕ × List ℕ)). o >>= (λ count. bytes_at count.0 count.1)) (number_short 4 bytes few)
  | inr enough ↦
      ap (λ (o : Option (ℕ × List ℕ)). o >>= (λ count. bytes_at count.0 count.1)) (number_long 4 bytes enough)
      ∙ bytes_short (number_of 4 bytes) (drop 4 bytes) (omega (arith, short, enough, length-drop 4 bytes))
]

-- bytes that are enough are as many as their length says
enough_long : (bytes : List ℕ) → are_enough bytes ≡ true → 4 + number_of 4 bytes ≤ length bytes
enough_long bytes enough = elim (cases_lt (length bytes) (4 + number_of 4 bytes)) [
  | inr long ↦ long
  | inl short ↦ absurd (let e : false ≡ true = sym (ap (λ (o : Option (List ℕ × List ℕ)). is_some o) (counted_short bytes short)) ∙ enough in (cc))
]

-- with more bytes behind them the same are counted
counted_more : (bytes more : List ℕ) → 4 + number_of 4 bytes ≤ length bytes
    → counted_at 4 (bytes ++ more) ≡ Some (take (number_of 4 bytes) (drop 4 bytes), drop (number_of 4 bytes) (drop 4 bytes) ++ more)
counted_more bytes more long =
    let n : ℕ = number_of 4 bytes in
    let same : number_of 4 (bytes ++ more) ≡ n = sym (number_of-take 4 (bytes ++ more)) ∙ ap (number_of 4) (take-append-le 4 bytes more (omega (arith, long))) ∙ number_of-take 4 bytes in
    let behind : drop 4 (bytes ++ more) ≡ drop 4 bytes ++ more = drop-append-le 4 bytes more (omega (arith, long)) in
    let within : n ≤ length (drop 4 bytes) = omega (arith, long, length-drop 4 bytes) in
    counted_long (bytes ++ more) (omega (arith, long, same, length-append bytes more))
    ∙ ap (λ (k : ℕ). Some (take k (drop 4 (bytes ++ more)), drop k (drop 4 (bytes ++ more)))) same
    ∙ ap (λ (l : List ℕ). Some (take n l, drop n l)) behind
    ∙ ap (λ (l : List ℕ). Some (l, drop n (drop 4 bytes ++ more))) (take-append-le n (drop 4 bytes) more within)
    ∙ ap (λ (l : List ℕ). Some (take n (drop 4 bytes), l)) (drop-append-le n (drop 4 bytes) more within)

-- the group that these counted bytes spell, and the bytes behind it
abbrev with_rest : Option (List Record) → List ℕ → Option (List Record × List ℕ)
with_rest group rest = group >>= (λ group. Some (group, rest))

abbrev spelled_in : List ℕ → List ℕ → Option (List Record × List ℕ)
spelled_in content rest = with_rest (read_content content) rest

-- what stands in front of enough bytes, with more behind them or not
group_long : (bytes : List ℕ) → 4 + number_of 4 bytes ≤ length bytes → read_group bytes ≡ spelled_in (take (number_of 4 bytes) (drop 4 bytes)) (drop (number_of 4 bytes) (drop 4 bytes))
unfolding read_group
group_long bytes long = ap (λ (o : Option (List ℕ × List ℕ)). o >>= (λ content. read_content content.0 >>= (λ group. Some (group, content.1)))) (counted_long bytes long)

group_behind : (bytes more : List ℕ) → 4 + number_of 4 bytes ≤ length bytes
    → read_group (bytes ++ more) ≡ spelled_in (take (number_of 4 bytes) (drop 4 bytes)) (drop (number_of 4 bytes) (drop 4 bytes) ++ more)
unfolding read_group
group_behind bytes more long = ap (λ (o : Option (List ℕ × List ℕ)). o >>= (λ content. read_content content.0 >>= (λ group. Some (group, content.1)))) (counted_more bytes more long)

-- bytes that aren't enough have no group in front
pub not_enough : (bytes : List ℕ) → are_enough bytes ≡ false → read_group bytes ≡ None
unfolding read_group
not_enough bytes few = elim (cases_lt (length bytes) (4 + number_of 4 bytes)) [
  | inl short ↦ ap (λ (o : Option (List ℕ × List ℕ)). o >>= (λ content. read_content content.0 >>= (λ group. Some (group, content.1)))) (counted_short bytes short)
  | inr long ↦ absurd (let e : true ≡ false = sym (ap (λ (o : Option (List ℕ × List ℕ)). is_some o) (counted_long bytes long)) ∙ few in (cc))
]

-- where a group stands in front, the bytes are enough
found_enough : (bytes : List ℕ) (x : List Record × List ℕ) → read_group bytes ≡ Some x → 4 + number_of 4 bytes ≤ length bytes
unfolding read_group
found_enough bytes x found = elim (cases_lt (length bytes) (4 + number_of 4 bytes)) [
  | inr long ↦ long
  | inl short ↦
      absurd (let none : None ≡ Some x = sym (ap (λ (o : Option (List ℕ × List ℕ)). o >>= (λ content. read_content content.0 >>= (λ group. Some (group, content.1)))) (counted_short bytes short)) ∙ found in (cc))
]

-- a group in front, and what stands behind it
record InFront (bytes : List ℕ) (x : List Record × List ℕ) : Type 0 where
  long : 4 + number_of 4 bytes ≤ length bytes
  content : read_content (take (number_of 4 bytes) (drop 4 bytes)) ≡ Some x.0
  rest : x.1 ≡ drop (number_of 4 bytes) (drop 4 bytes)

in_front : (bytes : List ℕ) (x : List Record × List ℕ) → read_group bytes ≡ Some x → InFront bytes x
in_front bytes x found =
    let long = found_enough bytes x found in
    let rest : List ℕ = drop (number_of 4 bytes) (drop 4 bytes) in
    let a = bind_some (read_content (take (number_of 4 bytes) (drop 4 bytes))) (λ group. Some (group, rest)) x (sym (group_long bytes long) ∙ found) in
    let made : List Record × List ℕ = (a.0, rest) in
    let same : made ≡ x = same_Some made x a.2 in
    record { long = long; content = a.1 ∙ ap (λ (y : List Record × List ℕ). Some y.0) same; rest = sym (ap (λ (y : List Record × List ℕ). y.1) same) }

-- A group takes bytes, and what is left stands at the end.
pub group_left : (bytes : List ℕ) (x : List Record × List ℕ) → read_group bytes ≡ Some x → (1 + length x.1 ≤ length bytes) × (x.1 ≡ drop (length bytes - length x.1) bytes)
group_left bytes x found =
    let f = in_front bytes x found in
    let n : ℕ = number_of 4 bytes in
    let one : drop n (drop 4 bytes) ≡ drop (4 + n) bytes = drop-drop n 4 bytes in
    let size : length x.1 ≡ length bytes - (4 + n) = ap length (f.rest ∙ one) ∙ length-drop (4 + n) bytes in
    (omega (arith, size, f.long), f.rest ∙ one ∙ ap (λ (k : ℕ). drop k bytes) (let e : 4 + n ≡ length bytes - length x.1 = omega (arith, size, f.long) in e))

-- a group in front stays with more bytes behind it
pub group_more : (bytes more : List ℕ) (x : List Record × List ℕ) → read_group bytes ≡ Some x → read_group (bytes ++ more) ≡ Some (x.0, x.1 ++ more)
group_more bytes more x found =
    let f = in_front bytes x found in
    group_behind bytes more f.long ∙ ap (λ (o : Option (List Record)). with_rest o (drop (number_of 4 bytes) (drop 4 bytes) ++ more)) f.content
    ∙ ap (λ (l : List ℕ). Some (x.0, l ++ more)) (sym f.rest)

-- enough bytes with no group in front have none with more bytes behind them
pub none_more : (bytes more : List ℕ) → are_enough bytes ≡ true → read_group bytes ≡ None → read_group (bytes ++ more) ≡ None
none_more bytes more enough none =
    let long = enough_long bytes enough in
    group_behind bytes more long ∙ no_content (read_content (take (number_of 4 bytes) (drop 4 bytes))) (drop (number_of 4 bytes) (drop 4 bytes)) (drop (number_of 4 bytes) (drop 4 bytes) ++ more) (sym (group_long bytes long) ∙ none)
  where
    no_content : (o : Option (List Record)) (a b : List ℕ) → with_rest o a ≡ None → with_rest o b ≡ None
    no_content None a b e = refl
    no_content (Some group) a b e = absurd (cc)

-- nothing stands in no bytes
pub none_of_none : read_group [] ≡ None
unfolding counted_at number_at
none_of_none = not_enough [] refl

-- ---- what decoding says

-- where no group's bytes begin these, none is read
none_read : (bytes : List ℕ) → AreBytes bytes → ((group : List Record) (rest : List ℕ) → IsGroup group → bytes ≡ group_bytes group ++ rest → ⊥) → read_group bytes ≡ None
none_read bytes fits not = by_case (read_group bytes) refl
  where
    by_case : (o : Option (List Record × List ℕ)) → read_group bytes ≡ o → o ≡ None
    by_case None e = refl
    by_case (Some x) e =
        let within = group_left bytes x e in
        let decoded : Result (Option (List Record × ℕ)) ℕ = Ok (Some (x.0, length bytes - length x.1)) in
        let is : IsInFront bytes (x.0, length bytes - length x.1) = result_found bytes decoded fits (x.1, e, omega (arith, within.0)) in
        absurd (not x.0 is.rest is.is is.spelled)

-- what was decoded is what reading gives
pub decodes : {E : Type 0} (bytes : List ℕ) (r : Result (Option (List Record × ℕ)) E) → AreBytes bytes → IfOk r (λ r. IfSome r (IsInFront bytes))
    → ((group : List Record) (rest : List ℕ) → IsGroup group → bytes ≡ group_bytes group ++ rest → IfOk r (λ r. r ≡ Some (group, length (group_bytes group)))) → IfOk r (Decodes bytes)
decodes bytes (Err why) fits found only = tt
decodes bytes (Ok None) fits found only = none_read bytes fits (λ group rest is e. let f : None ≡ Some (group, length (group_bytes group)) = only group rest is e in absurd (cc))
decodes bytes (Ok (Some x)) fits found only =
    (found.rest, ap read_group found.spelled ∙ group_again x.0 found.rest found.is, omega (arith, found.size, ap length found.spelled, length-append (group_bytes x.0) found.rest))

-- Groups that were stored are found again, and a front of their bytes holds a front of the groups.
use Rattle.std.proofs.Common.{◌≡◌, inl, inr, ℕ, zero, suc, ◌+◌, ◌-◌, ◌<◌, ◌≤◌, ◌^◌, Option, None, Some, List, [], ◌∷◌, ◌++◌, length, take, drop, refl, sym, ◌∙◌, ap, arith, append_assoc, length-append}
use Rattle.std.specs.Prelude.{All}
use Rattle.std.specs.List.{flat_map}
use Rattle.std.specs.Option.{option_map_or}
use Rattle.std.proofs.lemmas.Bool.{cases_lt}
use Rattle.std.proofs.lemmas.Bool.Decides.{nat_tests}
use Rattle.std.proofs.lemmas.List.{take-append-drop, length-drop, take-append-le, drop-append-le, take_at, drop_at}
use Rattle.std.proofs.lemmas.List.Elements.{All-head, All-tail}
use Rattle.aria_page.specs.Field.{◌>>=◌}
use Rattle.aria_page.specs.Number.{number, number_at}
use Rattle.aria_page.specs.Text.{bytes_at, counted_at}
use Rattle.aria_page.proofs.Numbers.{length-number, number_again, number_short}
use Rattle.aria_record.specs.declared.record.Record.{Record}
use Rattle.aria_record.specs.Groups.{IsGroup}
use Rattle.aria_record.specs.Spelled.{content_bytes, group_bytes}
use Rattle.aria_record.specs.Reading.{read_content, read_group}
use Rattle.aria_record.proofs.Records.{group_again}
use Rattle.aria_record.specs.Logged.{Logged}
use Rattle.aria_log.specs.Groups.{placed, groups_bytes, groups_within, groups_at}

-- the length of a stored group
pub length-group_bytes : (group : List Record) → length (group_bytes group) ≡ 4 + length (content_bytes group)
length-group_bytes group = omega (arith, length-append (number 4 (length (content_bytes group))) (content_bytes group), length-number 4 (length (content_bytes group)))

-- fewer bytes than a number asks for
bytes_short : (n : ℕ) (bytes : List ℕ) → length bytes < n → bytes_at n bytes ≡ None
unfolding bytes_at
bytes_short n bytes short = grind (arith, nat_tests)

-- a front of counted bytes that isn't all of them isn't read
counted_cut : (content front rest whole : List ℕ) → length content < 2 ^ 32 → front ++ rest ≡ (number 4 (length content) ++ content) ++ whole → length front < 4 + length content → counted_at 4 front ≡ None
unfolding counted_at
counted_cut content front rest whole fits e short = elim (cases_lt (length front) 4) [
  | inl few ↦ ap (λ (o : Option (ℕ × List ℕ)). o >>= (λ count. bytes_at count.0 count.1)) (number_short 4 front few)
  | inr enough ↦
      let head : List ℕ = number 4 (length content) in
      let len : length head ≡ 4 = length-number 4 (length content) in
      let apart : head ++ (content ++ whole) ≡ front ++ rest = sym (append_assoc head content whole) ∙ sym e in
      let first : take 4 front ≡ head = sym (take-append-le 4 front rest enough) ∙ sym (ap (take 4) apart) ∙ take_at head (content ++ whole) 4 len in
      let split : head ++ drop 4 front ≡ front = ap (λ (l : List ℕ). l ++ drop 4 front) (sym first) ∙ take-append-drop 4 front in
      let count : number_at 4 front ≡ Some (length content, drop 4 front) = ap (number_at 4) (sym split) ∙ number_again 4 (length content) (drop 4 front) (omega (arith, fits)) in
      let none : bytes_at (length content) (drop 4 front) ≡ None = bytes_short (length content) (drop 4 front) (omega (arith, length-drop 4 front)) in
      ap (λ (o : Option (ℕ × List ℕ)). o >>= (λ count. bytes_at count.0 count.1)) count ∙ none
]

-- a front of a stored group that isn't all of it has no group in front
pub group_cut : (group : List Record) (front rest whole : List ℕ) → IsGroup group → front ++ rest ≡ group_bytes group ++ whole → length front < length (group_bytes group) → read_group front ≡ None
unfolding read_group
group_cut group front rest whole is e short =
    ap (λ (o : Option (List ℕ × List ℕ)). o >>= (λ content. read_content content.0 >>= (λ group. Some (group, content.1))))
    (counted_cut (content_bytes group) front rest whole is.size e (omega (arith, short, length-group_bytes group)))

-- What a front of stored groups holds: a front of the groups, whose bytes it has.
pub record HoldsFront (place : ℕ) (groups : List (List Record)) (front : List ℕ) (found : List Logged) : Type 0 where
  pub count : ℕ
  pub within : count ≤ length groups
  pub found_is : found ≡ placed place (take count groups)
  pub enough : length (groups_bytes (take count groups)) ≤ length front

-- with no group in front none is found
pub none_within : (n place : ℕ) (bytes : List ℕ) → read_group bytes ≡ None → groups_within n place bytes ≡ []
unfolding groups_within
none_within zero place bytes none = refl
none_within (suc n) place bytes none =
    ap (λ (o : Option (List Record × List ℕ)). option_map_or (λ found. record { at = place; group = found.0 } ∷ groups_within n (place + (length bytes - length found.1)) found.1) o []) none

-- a group in front is found first
pub some_within : (n place : ℕ) (bytes rest : List ℕ) (group : List Record) → read_group bytes ≡ Some (group, rest)
    → groups_within (suc n) place bytes ≡ record { at = place; group = group } ∷ groups_within n (place + (length bytes - length rest)) rest
unfolding groups_within
some_within n place bytes rest group found =
    ap (λ (o : Option (List Record × List ℕ)). option_map_or (λ found. record { at = place; group = found.0 } ∷ groups_within n (place + (length bytes - length found.1)) found.1) o []) found

-- nothing stands in no bytes
pub none_in_none : read_group [] ≡ None
unfolding read_group counted_at
none_in_none = ap (λ (o : Option (ℕ × List ℕ)). (o >>= (λ count. bytes_at count.0 count.1)) >>= (λ content. read_content content.0 >>= (λ group. Some (group, content.1)))) (number_short 4 [] (omega arith))

-- parts of the same bytes, of which the first is no shorter, begin alike
begins_with : (a b c d : List ℕ) → a ++ b ≡ c ++ d → length c ≤ length a → (a ≡ c ++ drop (length c) a) × (drop (length c) a ++ b ≡ d)
begins_with a b c d e le =
    let first : take (length c) a ≡ c = sym (take-append-le (length c) a b le) ∙ ap (take (length c)) e ∙ take_at c d (length c) refl in
    let back : drop (length c) a ++ b ≡ d = sym (drop-append-le (length c) a b le) ∙ ap (drop (length c)) e ∙ drop_at c d (length c) refl in
    (sym (take-append-drop (length c) a) ∙ ap (λ (l : List ℕ). l ++ drop (length c) a) first, back)

-- in no steps none is found
none_at_zero : (place : ℕ) (front : List ℕ) → groups_within 0 place front ≡ []
unfolding groups_within
none_at_zero place front = refl

-- nothing was found
no_more : (place : ℕ) (groups : List (List Record)) (front : List ℕ) (found : List Logged) → found ≡ [] → HoldsFront place groups front found
unfolding groups_bytes
no_more place groups front found none = record { count = 0; within = omega arith; found_is = none; enough = omega arith }

-- a front of the bytes of some groups holds a front of the groups
front_within : (groups : List (List Record)) (n place : ℕ) (front rest : List ℕ) → All IsGroup groups → front ++ rest ≡ groups_bytes groups → HoldsFront place groups front (groups_within n place front)
unfolding groups_bytes
front_within groups zero place front rest are e = no_more place groups front _ (none_at_zero place front)
front_within [] (suc n) place [] rest are e = no_more place [] [] _ (none_within (suc n) place [] none_in_none)
front_within [] (suc n) place (b ∷ front) rest are e = absurd (cc)
front_within (group ∷ groups) (suc n) place front rest are e = elim (cases_lt (length front) (length (group_bytes group))) [
  | inl short ↦ no_more place (group ∷ groups) front _ (none_within (suc n) place front (group_cut group front rest (flat_map group_bytes groups) (All-head IsGroup group groups are) e short))
  | inr long ↦
      let bytes : List ℕ = group_bytes group in
      let parts = begins_with front rest bytes (flat_map group_bytes groups) e (omega (arith, long)) in
      let left : List ℕ = drop (length bytes) front in
      let found : read_group front ≡ Some (group, left) = ap read_group parts.0 ∙ group_again group left (All-head IsGroup group groups are) in
      let size : length front ≡ length bytes + length left = omega (arith, length-drop (length bytes) front, long) in
      let next : place + (length front - length left) ≡ place + length bytes = omega (arith, size) in
      let more = front_within groups n (place + length bytes) left rest (All-tail IsGroup group groups are) parts.1 in
      record {
        count = suc more.count;
        within = omega (arith, more.within);
        found_is = some_within n place front left group found ∙ ap (λ (k : ℕ). record { at = place; group = group } ∷ groups_within n k left) next
            ∙ ap (λ (l : List Logged). record { at = place; group = group } ∷ l) more.found_is;
        enough = omega (arith, length-append bytes (flat_map group_bytes (take more.count groups)), more.enough, size);
      }
]

-- the same, for all the whole groups in front
pub front_holds : (groups : List (List Record)) (place : ℕ) (front rest : List ℕ) → All IsGroup groups → front ++ rest ≡ groups_bytes groups → HoldsFront place groups front (groups_at place front)
unfolding groups_at
front_holds groups place front rest are e = front_within groups (length front) place front rest are e

-- stored groups are all found again, within as many bytes
all_within : (groups : List (List Record)) (n place : ℕ) → All IsGroup groups → length (groups_bytes groups) ≤ n → groups_within n place (groups_bytes groups) ≡ placed place groups
unfolding groups_bytes
all_within [] n place are le = none_within n place [] none_in_none
all_within (group ∷ groups) zero place are le = absurd (omega (arith, length-append (group_bytes group) (flat_map group_bytes groups), length-group_bytes group))
all_within (group ∷ groups) (suc n) place are le =
    let bytes : List ℕ = group_bytes group in
    let more : List ℕ = flat_map group_bytes groups in
    let size : length (bytes ++ more) ≡ length bytes + length more = length-append bytes more in
    let next : place + (length (bytes ++ more) - length more) ≡ place + length bytes = omega (arith, size) in
    some_within n place (bytes ++ more) more group (group_again group more (All-head IsGroup group groups are))
    ∙ ap (λ (k : ℕ). record { at = place; group = group } ∷ groups_within n k more) next
    ∙ ap (λ (l : List Logged). record { at = place; group = group } ∷ l) (all_within groups n (place + length bytes) (All-tail IsGroup group groups are) (omega (arith, size, length-group_bytes group)))

-- the same, for all the whole groups in front
pub all_found : (groups : List (List Record)) (place : ℕ) → All IsGroup groups → groups_at place (groups_bytes groups) ≡ placed place groups
unfolding groups_at
all_found groups place are = all_within groups (length (groups_bytes groups)) place are (omega arith)

-- no group is found in no bytes
pub none_found : (place : ℕ) → groups_at place [] ≡ []
unfolding groups_at groups_within
none_found place = refl

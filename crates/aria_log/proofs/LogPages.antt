-- A page of the log reads as what it was made of, and no other page reads.
use Rattle.std.proofs.Common.{◌≡◌, ◌==◌, ◌&&◌, inl, inr, ℕ, ◌-◌, ◌≤◌, Bool, true, false, cond, Option, None, Some, List, ◌++◌, length, take, drop, replicate, nat_le, nat_lt, ◌^◌, refl, sym, ◌∙◌, ap, subst, arith}
use Rattle.std.specs.Prelude.{slice_index}
use Rattle.std.specs.Cmp.Lexicographic.{pointwise, bytes_decides}
use Rattle.std.proofs.lemmas.Bool.{cases_Bool, eqb-true, eq-eqb}
use Rattle.std.proofs.lemmas.Bool.Decides.{nat_tests}
use Rattle.std.proofs.lemmas.List.{take_at}
use Rattle.std.proofs.lemmas.Option.{same_Some}
use Rattle.aria_page.specs.Number.{number, number_of}
use Rattle.aria_page.specs.Crc.{checksum}
use Rattle.aria_page.specs.Page.{Sums, with_sum, zero_page}
use Rattle.aria_page.proofs.Numbers.{number_of-number}
use Rattle.aria_log.specs.LogPage.{log_head, log_body, log_page, IsLogPage, is_log_page, says_begins, says_used, read_log_page}

-- the page says whether it begins a run
says_begins-log_page : (n : ℕ) (begins : Bool) (bytes : List ℕ) → says_begins (log_page n begins bytes) ≡ begins
unfolding says_begins log_page log_head with_sum number
says_begins-log_page n true bytes = refl
says_begins-log_page n false bytes = refl

-- behind the head stands the body
pub drop-log_page : (n : ℕ) (begins : Bool) (bytes : List ℕ) → drop 16 (log_page n begins bytes) ≡ log_body bytes
unfolding log_page log_head with_sum number
drop-log_page n begins bytes = refl

-- the number of used bytes stands before the body
count-log_page : (n : ℕ) (begins : Bool) (bytes : List ℕ) → drop 14 (log_page n begins bytes) ≡ number 2 (length bytes) ++ log_body bytes
unfolding log_page log_head with_sum number
count-log_page n begins bytes = refl

-- the used bytes stand at the front of the body
pub take-log_body : (bytes : List ℕ) → take (length bytes) (log_body bytes) ≡ bytes
unfolding log_body
take-log_body bytes = take_at bytes (replicate (8176 - length bytes) 0) (length bytes) refl

-- the page says which bytes are used
says_used-log_page : (n : ℕ) (begins : Bool) (bytes : List ℕ) → length bytes ≤ 8176 → says_used (log_page n begins bytes) ≡ bytes
unfolding says_used
says_used-log_page n begins bytes fits =
    let count : number_of 2 (drop 14 (log_page n begins bytes)) ≡ length bytes = ap (number_of 2) (count-log_page n begins bytes) ∙ number_of-number 2 (length bytes) (log_body bytes) (omega arith) in
    ap (λ (k : ℕ). take k (drop 16 (log_page n begins bytes))) count ∙ ap (take (length bytes)) (drop-log_page n begins bytes) ∙ take-log_body bytes

-- both tests that hold
and_is : (a b : Bool) → (a && b) ≡ true → (a ≡ true) × (b ≡ true)
and_is true b e = (refl, e)
and_is false b e = absurd (cc)

-- the test says that the page is valid
pub is_log_page-true : (n : ℕ) (begins : Bool) (bytes page : List ℕ) → is_log_page n begins bytes page ≡ true → IsLogPage n begins bytes page
unfolding is_log_page Sums
is_log_page-true n begins bytes page e =
    let first = and_is (number_of 4 page == checksum (drop 4 page)) (pointwise ◌==◌ page (log_page n begins bytes) && (nat_le 1 (length bytes) && (nat_le (length bytes) 8176 && nat_lt n (2 ^ 34 - 1)))) e in
    let second = and_is (pointwise ◌==◌ page (log_page n begins bytes)) (nat_le 1 (length bytes) && (nat_le (length bytes) 8176 && nat_lt n (2 ^ 34 - 1))) first.1 in
    let third = and_is (nat_le 1 (length bytes)) (nat_le (length bytes) 8176 && nat_lt n (2 ^ 34 - 1)) second.1 in
    let fourth = and_is (nat_le (length bytes) 8176) (nat_lt n (2 ^ 34 - 1)) third.1 in
    record {
      sums = eqb-true _ _ first.0;
      spelled = (bytes_decides page (log_page n begins bytes)).0 second.0;
      used = grind (arith, nat_tests, third.0);
      fits = grind (arith, nat_tests, fourth.0);
      low = grind (arith, nat_tests, fourth.1);
    }

-- a valid page passes the test
pub is_log_page-valid : (n : ℕ) (begins : Bool) (bytes page : List ℕ) → IsLogPage n begins bytes page → is_log_page n begins bytes page ≡ true
unfolding is_log_page Sums
is_log_page-valid n begins bytes page is =
    let sums : (number_of 4 page == checksum (drop 4 page)) ≡ true = eq-eqb _ _ is.sums in
    let same : pointwise ◌==◌ page (log_page n begins bytes) ≡ true = (bytes_decides page (log_page n begins bytes)).1 is.spelled in
    let some : nat_le 1 (length bytes) ≡ true = grind (arith, nat_tests, is.used) in
    let few : nat_le (length bytes) 8176 ≡ true = grind (arith, nat_tests, is.fits) in
    let low : nat_lt n (2 ^ 34 - 1) ≡ true = grind (arith, nat_tests, is.low) in
    ap (λ (a : Bool). a && (pointwise ◌==◌ page (log_page n begins bytes) && (nat_le 1 (length bytes) && (nat_le (length bytes) 8176 && nat_lt n (2 ^ 34 - 1))))) sums
    ∙ ap (λ (a : Bool). a && (nat_le 1 (length bytes) && (nat_le (length bytes) 8176 && nat_lt n (2 ^ 34 - 1)))) same
    ∙ ap (λ (a : Bool). a && (nat_le (length bytes) 8176 && nat_lt n (2 ^ 34 - 1))) some ∙ ap (λ (a : Bool). a && nat_lt n (2 ^ 34 - 1)) few ∙ low

-- a page that reads is valid, with what was read
pub read_is_valid : (n : ℕ) (begins : Bool) (bytes page : List ℕ) → read_log_page n page ≡ Some (begins, bytes) → IsLogPage n begins bytes page
unfolding read_log_page
read_is_valid n begins bytes page e = elim (cases_Bool (is_log_page n (says_begins page) (says_used page) page)) [
  | inl passes ↦
      let found : Some (says_begins page, says_used page) ≡ Some (begins, bytes) = sym (ap (λ (b : Bool). cond b (Some (says_begins page, says_used page)) None) passes) ∙ e in
      let pair : (says_begins page, says_used page) ≡ (begins, bytes) = same_Some _ _ found in
      let first : says_begins page ≡ begins = ap (λ (p : Bool × List ℕ). p.0) pair in
      let second : says_used page ≡ bytes = ap (λ (p : Bool × List ℕ). p.1) pair in
      let valid : IsLogPage n (says_begins page) (says_used page) page = is_log_page-true n (says_begins page) (says_used page) page passes in
      subst (λ (b : Bool). IsLogPage n b bytes page) first (subst (λ (u : List ℕ). IsLogPage n (says_begins page) u page) second valid)
  | inr refused ↦
      let nothing : Option (Bool × List ℕ) = None in
      let none : nothing ≡ Some (begins, bytes) = sym (ap (λ (b : Bool). cond b (Some (says_begins page, says_used page)) None) refused) ∙ e in
      absurd (cc)
]

-- a valid page reads as what it holds
pub valid_reads : (n : ℕ) (begins : Bool) (bytes page : List ℕ) → IsLogPage n begins bytes page → read_log_page n page ≡ Some (begins, bytes)
unfolding read_log_page
valid_reads n begins bytes page is =
    let first : says_begins page ≡ begins = ap says_begins is.spelled ∙ says_begins-log_page n begins bytes in
    let second : says_used page ≡ bytes = ap says_used is.spelled ∙ says_used-log_page n begins bytes is.fits in
    let passes : is_log_page n begins bytes page ≡ true = is_log_page-valid n begins bytes page is in
    ap (λ (b : Bool). cond (is_log_page n b (says_used page) page) (Some (b, says_used page)) None) first
    ∙ ap (λ (u : List ℕ). cond (is_log_page n begins u page) (Some (begins, u)) None) second
    ∙ ap (λ (t : Bool). cond t (Some (begins, bytes)) None) passes

-- a page that isn't valid, whatever it is taken to hold, doesn't read
pub no_read : (n : ℕ) (page : List ℕ) → ((begins : Bool) (bytes : List ℕ) → IsLogPage n begins bytes page → ⊥) → read_log_page n page ≡ None
unfolding read_log_page
no_read n page not = elim (cases_Bool (is_log_page n (says_begins page) (says_used page) page)) [
  | inl passes ↦ absurd (not (says_begins page) (says_used page) (is_log_page-true n (says_begins page) (says_used page) page passes))
  | inr refused ↦ ap (λ (b : Bool). cond b (Some (says_begins page, says_used page)) None) refused
]

-- a page whose checksum doesn't fit doesn't read
pub torn_reads : (n : ℕ) (page : List ℕ) → ¬ Sums page → read_log_page n page ≡ None
torn_reads n page torn = no_read n page (λ (begins : Bool) (bytes : List ℕ) (is : IsLogPage n begins bytes page). torn is.sums)

-- the mark of a log page
mark-log_page : (n : ℕ) (begins : Bool) (bytes : List ℕ) → slice_index (log_page n begins bytes) 11 ≡ 10
unfolding log_page log_head with_sum number
mark-log_page n begins bytes = refl

-- the page of zeros doesn't read
pub zero_reads : (n : ℕ) → read_log_page n zero_page ≡ None
unfolding zero_page
zero_reads n = no_read n (replicate 8192 0) (λ (begins : Bool) (bytes : List ℕ) (is : IsLogPage n begins bytes (replicate 8192 0)).
    let mark : 0 ≡ 10 = ap (λ (l : List ℕ). slice_index l 11) is.spelled ∙ mark-log_page n begins bytes in omega (arith, mark))

-- a valid page says what it holds
pub valid_says : (n : ℕ) (begins : Bool) (bytes page : List ℕ) → IsLogPage n begins bytes page → (says_begins page ≡ begins) × (says_used page ≡ bytes)
valid_says n begins bytes page is = (ap says_begins is.spelled ∙ says_begins-log_page n begins bytes, ap says_used is.spelled ∙ says_used-log_page n begins bytes is.fits)

-- a valid page says how many of its bytes are used
pub valid_counts : (n : ℕ) (begins : Bool) (bytes page : List ℕ) → IsLogPage n begins bytes page → number_of 2 (drop 14 page) ≡ length bytes
valid_counts n begins bytes page is =
    ap (λ (l : List ℕ). number_of 2 (drop 14 l)) is.spelled ∙ ap (number_of 2) (count-log_page n begins bytes) ∙ number_of-number 2 (length bytes) (log_body bytes) (omega (arith, is.fits))

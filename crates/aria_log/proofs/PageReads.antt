-- What is read of pages.
use Rattle.std.proofs.Common.{◌≡◌, ◌⊎◌, inl, inr, ℕ, suc, ◌+◌, ◌-◌, ◌/◌, ◌%◌, ◌^◌, ◌<◌, ◌≤◌, ◌↔◌, Bool, if◌then◌else◌, Option, None, Some, List, [], ◌∷◌, ◌++◌, length, take, drop, replicate, get_or, refl, sym, ◌∙◌, ap, subst, arith, length-drop, bit_or}
use Rattle.std.specs.Prelude.{slice_index, ◌==◌, slice_get, option_and_then}
use Rattle.std.specs.Option.{option_map_or}
use Rattle.std.specs.Int.Bits.{or_zero_l}
use Rattle.std.proofs.Math.Seq.{take-suc}
use Rattle.std.proofs.lemmas.List.{drop-drop, drop_at, get_or-replicate, get_or-take, get_or_past, length-take, replicate-append-replicate, take-append-drop, take-replicate, take-take, take_rest}
use Rattle.std.proofs.lemmas.Nat.{le_or_l, le_or_r}
use Rattle.std.proofs.lemmas.Option.{get_or_from_slice_get}
use Rattle.aria_page.specs.Field.{AreBytes}
use Rattle.aria_page.specs.Number.{number, number_of}
use Rattle.aria_page.specs.Page.{Sums, with_sum, zero_page}
use Rattle.aria_page.proofs.Fields.{AreBytes-take}
use Rattle.aria_page.proofs.Numbers.{number-number_of, number_of-take}
use Rattle.aria_host.specs.Seen.{page_or_zero}
use Rattle.aria_log.specs.LogPage.{log_head, log_body, log_page, IsLogPage, says_begins, says_used, read_log_page}
use Rattle.aria_log.specs.Pieces.{Piece, LogFiles, pieces_of}
use Rattle.aria_log.proofs.LogPages.{drop-log_page, valid_reads, valid_says, valid_counts, no_read, zero_reads}
use Rattle.aria_log.proofs.Sealing.{sealed_is_page}

-- no bit is set in the first bytes exactly where they are zeros
abbrev pub AreZeros : ℕ → List ℕ → ℕ → Type 0
AreZeros bits bytes i = (bits ≡ 0) ↔ (take i bytes ≡ replicate i 0)

-- one byte more
pub zeros_more : (bits b i : ℕ) (bytes : List ℕ) → i < length bytes → b ≡ get_or bytes i 0 → AreZeros bits bytes i → AreZeros (bit_or bits b) bytes (i + 1)
zeros_more bits b i bytes more b_is so_far =
    let one : i + 1 ≡ suc i = omega arith in (
      λ none.
          let front : take i bytes ≡ replicate i 0 = so_far.0 (omega (arith, le_or_l bits b, none)) in
          let last : get_or bytes i 0 ≡ 0 = omega (arith, le_or_r bits b, none, b_is) in
          ap (λ (k : ℕ). take k bytes) one ∙ take-suc bytes i 0 more ∙ ap (λ (x : ℕ). take i bytes ++ (x ∷ [])) last ∙ ap (λ (l : List ℕ). l ++ (0 ∷ [])) front ∙ replicate-append-replicate i 1 0,
      λ zeros.
          let front : take i bytes ≡ replicate i 0 = sym (take-take i (i + 1) bytes (omega arith)) ∙ ap (take i) zeros ∙ take-replicate i (i + 1) 0 (omega arith) in
          let last : get_or bytes i 0 ≡ 0 = sym (get_or-take (i + 1) bytes i 0 (omega arith)) ∙ ap (λ (l : List ℕ). get_or l i 0) zeros ∙ get_or-replicate (i + 1) i 0 0 (omega arith) in
          ap (λ (x : ℕ). bit_or x b) (so_far.1 front) ∙ or_zero_l b ∙ b_is ∙ last,
    )

-- all of the bytes are zeros
abbrev pub IsBlank : List ℕ → Type 0
IsBlank bytes = bytes ≡ replicate (length bytes) 0

-- a page whose checksum fits is the one that has that of the bytes behind it
sums_is : (page : List ℕ) → AreBytes page → length page ≡ 8192 → Sums page → page ≡ with_sum (drop 4 page)
unfolding Sums with_sum
sums_is page are long sums =
    let front : number 4 (number_of 4 (take 4 page)) ≡ take 4 page = number-number_of 4 (take 4 page) (AreBytes-take 4 page are) (omega (arith, length-take 4 page)) in
    sym (take-append-drop 4 page) ∙ ap (λ (l : List ℕ). l ++ drop 4 page) (sym front ∙ ap (number 4) (number_of-take 4 page ∙ sums))

-- how many bytes are used
used_count : (page : List ℕ) (used : ℕ) → length page ≡ 8192 → used ≤ 8176 → length (take used (drop 16 page)) ≡ used
used_count page used long fits = omega (arith, length-take used (drop 16 page), length-drop 16 page)

-- zeros behind the used bytes make the body
blank_body : (page : List ℕ) (used : ℕ) → length page ≡ 8192 → used ≤ 8176 → IsBlank (drop (16 + used) page) → drop 16 page ≡ log_body (take used (drop 16 page))
unfolding log_body
blank_body page used long fits blank =
    let left : length (drop (16 + used) page) ≡ 8176 - length (take used (drop 16 page)) = omega (arith, length-drop (16 + used) page, used_count page used long fits) in
    sym (take-append-drop used (drop 16 page)) ∙ ap (λ (l : List ℕ). take used (drop 16 page) ++ l) (drop-drop used 16 page ∙ blank ∙ ap (λ (k : ℕ). replicate k 0) left)

-- a page that passes each test is the one of its number
tested_is_page : (page : List ℕ) (n used : ℕ) (begins : Bool) → AreBytes page → length page ≡ 8192 → n < 2 ^ 34 - 1 → 1 ≤ used → used ≤ 8176 → take 12 (drop 4 page) ≡ log_head n begins used
    → IsBlank (drop (16 + used) page) → Sums page → IsLogPage n begins (take used (drop 16 page)) page
tested_is_page page n used begins are long low some fits head blank sums =
    let bytes : List ℕ = take used (drop 16 page) in
    let count : length bytes ≡ used = used_count page used long fits in
    let behind : drop 4 page ≡ log_head n begins used ++ drop 16 page = sym (take-append-drop 12 (drop 4 page)) ∙ ap (λ (l : List ℕ). l ++ drop 12 (drop 4 page)) head ∙ ap (λ (l : List ℕ). log_head n begins used ++ l) (drop-drop 12 4 page) in
    record {
      sums = sums;
      spelled = sealed_is_page page page bytes n used begins (blank_body page used long fits blank) (sym count) (sums_is page are long sums ∙ ap with_sum behind);
      used = omega (arith, count, some);
      fits = omega (arith, count, fits);
      low = low;
    }

-- the head of a page of the log
head-log_page : (n : ℕ) (begins : Bool) (bytes : List ℕ) → take 12 (drop 4 (log_page n begins bytes)) ≡ log_head n begins (length bytes)
unfolding log_page log_head with_sum number
head-log_page n begins bytes = refl

-- the page of its number passes each test
valid_head : (page : List ℕ) (n used : ℕ) (begins : Bool) → length page ≡ 8192 → used ≤ 8176 → IsLogPage n begins (take used (drop 16 page)) page → take 12 (drop 4 page) ≡ log_head n begins used
valid_head page n used begins long fits is =
    ap (λ (l : List ℕ). take 12 (drop 4 l)) is.spelled ∙ head-log_page n begins (take used (drop 16 page)) ∙ ap (log_head n begins) (used_count page used long fits)

valid_rest : (page : List ℕ) (n used : ℕ) (begins : Bool) → length page ≡ 8192 → used ≤ 8176 → IsLogPage n begins (take used (drop 16 page)) page → IsBlank (drop (16 + used) page)
unfolding log_body
valid_rest page n used begins long fits is =
    let bytes : List ℕ = take used (drop 16 page) in
    let count : length bytes ≡ used = used_count page used long fits in
    let left : 8176 - length bytes ≡ length (drop (16 + used) page) = omega (arith, count, length-drop (16 + used) page) in
    sym (drop-drop used 16 page) ∙ ap (drop used) (ap (drop 16) is.spelled ∙ drop-log_page n begins bytes) ∙ drop_at bytes (replicate (8176 - length bytes) 0) used count ∙ ap (λ (k : ℕ). replicate k 0) left

-- what the tests look at is the page's
rest_is : (bytes page : List ℕ) (at : ℕ) → bytes ≡ page → take (length bytes - at) (drop at bytes) ≡ drop at page
rest_is bytes page at same = take_rest bytes at ∙ ap (drop at) same

pub tests_pass : (bytes page head : List ℕ) (n used : ℕ) (begins : Bool) → bytes ≡ page → AreBytes bytes → length page ≡ 8192 → n < 2 ^ 34 - 1 → 1 ≤ used → used ≤ 8176 → head ≡ log_head n begins used
    → take 12 (drop 4 bytes) ≡ head → IsBlank (take (length bytes - (16 + used)) (drop (16 + used) bytes)) → Sums page → IsLogPage n begins (take used (drop 16 page)) page
tests_pass bytes page head n used begins same are long low some fits head_is front rest sums =
    tested_is_page page n used begins (subst AreBytes same are) long low some fits (ap (λ (l : List ℕ). take 12 (drop 4 l)) (sym same) ∙ front ∙ head_is) (subst IsBlank (rest_is bytes page (16 + used) same) rest) sums

pub passes_head : (bytes page head : List ℕ) (n used : ℕ) (begins : Bool) → bytes ≡ page → length page ≡ 8192 → used ≤ 8176 → head ≡ log_head n begins used → IsLogPage n begins (take used (drop 16 page)) page → take 12 (drop 4 bytes) ≡ head
passes_head bytes page head n used begins same long fits head_is is = ap (λ (l : List ℕ). take 12 (drop 4 l)) same ∙ valid_head page n used begins long fits is ∙ sym head_is

pub passes_rest : (bytes page : List ℕ) (n used : ℕ) (begins : Bool) → bytes ≡ page → length page ≡ 8192 → used ≤ 8176 → IsLogPage n begins (take used (drop 16 page)) page → IsBlank (take (length bytes - (16 + used)) (drop (16 + used) bytes))
passes_rest bytes page n used begins same long fits is = subst IsBlank (sym (rest_is bytes page (16 + used) same)) (valid_rest page n used begins long fits is)

-- a page that is numbered too high doesn't read
pub high_reads : (n : ℕ) (page : List ℕ) → 2 ^ 34 - 1 ≤ n → read_log_page n page ≡ None
high_reads n page high = no_read n page (λ (begins : Bool) (bytes : List ℕ) (is : IsLogPage n begins bytes page). omega (arith, is.low, high))

-- a page that isn't the one that its own fields are written as doesn't read
says_other : (n : ℕ) (page : List ℕ) → ¬ IsLogPage n (says_begins page) (says_used page) page → read_log_page n page ≡ None
says_other n page other = no_read n page (λ (begins : Bool) (bytes : List ℕ) (is : IsLogPage n begins bytes page).
    let says = valid_says n begins bytes page is in
    other (subst (λ (b : Bool). IsLogPage n b (says_used page) page) (sym says.0) (subst (λ (l : List ℕ). IsLogPage n begins l page) (sym says.1) is)))

-- a page that says that none or too many of its bytes are used doesn't read
pub says_too_many : (n : ℕ) (page : List ℕ) → (number_of 2 (drop 14 page) < 1) ⊎ (8176 < number_of 2 (drop 14 page)) → read_log_page n page ≡ None
says_too_many n page (inl few) = no_read n page (λ (begins : Bool) (bytes : List ℕ) (is : IsLogPage n begins bytes page). omega (arith, few, is.used, valid_counts n begins bytes page is))
says_too_many n page (inr many) = no_read n page (λ (begins : Bool) (bytes : List ℕ) (is : IsLogPage n begins bytes page). omega (arith, many, is.fits, valid_counts n begins bytes page is))

-- what the page says, read from its bytes
pub begins_is : (bytes page : List ℕ) → bytes ≡ page → (slice_index bytes 12 == 1) ≡ says_begins page
unfolding says_begins
begins_is bytes page same = ap (λ (l : List ℕ). slice_index l 12 == 1) same

pub counts_are : (bytes page : List ℕ) (used : ℕ) → bytes ≡ page → used ≡ number_of 2 (take (length bytes - 14) (drop 14 bytes)) → used ≡ number_of 2 (drop 14 page)
counts_are bytes page used same count = count ∙ ap (number_of 2) (take_rest bytes 14) ∙ ap (λ (l : List ℕ). number_of 2 (drop 14 l)) same

-- the page that the fields read from it are written as reads as these fields
pub fields_read : (n : ℕ) (page : List ℕ) (used : ℕ) (begins : Bool) → IsLogPage n begins (take used (drop 16 page)) page → read_log_page n page ≡ Some (begins, take used (drop 16 page))
fields_read n page used begins is = valid_reads n begins (take used (drop 16 page)) page is

-- a page that isn't the one that the fields read from it are written as doesn't read
pub fields_other : (n : ℕ) (bytes page : List ℕ) (used : ℕ) (begins : Bool) → bytes ≡ page → used ≡ number_of 2 (take (length bytes - 14) (drop 14 bytes)) → begins ≡ (slice_index bytes 12 == 1)
    → ¬ IsLogPage n begins (take used (drop 16 page)) page → read_log_page n page ≡ None
unfolding says_used
fields_other n bytes page used begins same count begins_are other =
    let first : begins ≡ says_begins page = begins_are ∙ begins_is bytes page same in
    let second : take used (drop 16 page) ≡ says_used page = ap (λ (k : ℕ). take k (drop 16 page)) (counts_are bytes page used same count) in
    says_other n page (λ (is : IsLogPage n (says_begins page) (says_used page) page).
    other (subst (λ (b : Bool). IsLogPage n b (take used (drop 16 page)) page) (sym first) (subst (λ (l : List ℕ). IsLogPage n (says_begins page) l page) (sym second) is)))

-- a page behind its file's end holds nothing
pub past_reads : (files : LogFiles) (n file page pages : ℕ) → file ≡ n / 1024 → page ≡ n % 1024 → pages ≡ option_map_or length (files file) 0 → pages ≤ page → pieces_of files n ≡ None
unfolding pieces_of
past_reads files n file page pages file_is page_is count past =
    let size : pages ≡ option_map_or length (files (n / 1024)) 0 = count ∙ ap (λ (f : ℕ). option_map_or length (files f) 0) file_is in
    ap (read_log_page n) (zero_past (files (n / 1024)) (n % 1024) (omega arith)) ∙ zero_reads n
  where
    zero_past : (content : Option (List (List ℕ))) (k : ℕ) → option_map_or length content 0 ≤ k → page_or_zero k content ≡ zero_page
    zero_past None k few = refl
    zero_past (Some pages) k few = get_or_past pages k zero_page few

-- what a page that was read holds
pub page_reads : (files : LogFiles) (n file page : ℕ) (bytes : List ℕ) → file ≡ n / 1024 → page ≡ n % 1024 → option_and_then (λ pages. slice_get pages page) (files file) ≡ Some bytes → pieces_of files n ≡ read_log_page n bytes
unfolding pieces_of
page_reads files n file page bytes file_is page_is found =
    ap (read_log_page n) (is_page (files (n / 1024)) (n % 1024)
    (ap (λ (k : ℕ). option_and_then (λ pages. slice_get pages k) (files (n / 1024))) (sym page_is) ∙ ap (λ (f : ℕ). option_and_then (λ pages. slice_get pages page) (files f)) (sym file_is) ∙ found))
  where
    is_page : (content : Option (List (List ℕ))) (k : ℕ) → option_and_then (λ pages. slice_get pages k) content ≡ Some bytes → page_or_zero k content ≡ bytes
    is_page None k e = absurd (cc)
    is_page (Some pages) k e = get_or_from_slice_get pages k bytes zero_page e

-- a reader whose page isn't valid holds none
pub none_loaded : (used : ℕ) (begins : Bool) (page : List ℕ) → used ≡ 0 → (if used == 0 then None else let p : Piece = (begins, take used (drop 16 page)) in Some p) ≡ None
none_loaded used begins page none = ap (λ (k : ℕ). if k == 0 then None else let p : Piece = (begins, take k (drop 16 page)) in Some p) none

pub nothing_held : (used : ℕ) (begins : Bool) (page : List ℕ) (piece : Piece) → used ≡ 0 → (if used == 0 then None else let p : Piece = (begins, take used (drop 16 page)) in Some p) ≡ Some piece → ⊥
nothing_held used begins page piece none e = let f : None ≡ Some piece = sym (none_loaded used begins page none) ∙ e in cc

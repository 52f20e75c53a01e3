-- A page of the log: its head, the used bytes of its body, and zeros behind them. The page of number n is page n % 1024
-- of file n / 1024.
use Rattle.std.specs.Prelude.{◌≡◌, ◌==◌, ◌&&◌, if◌then◌else◌, ℕ, ◌-◌, ◌^◌, ◌/◌, ◌%◌, ◌<◌, ◌≤◌, Bool, Option, None, Some, List, ◌∷◌, ◌++◌, length, take, drop, replicate, nat_le, nat_lt, slice_index}
use Rattle.std.specs.Cmp.Lexicographic.{pointwise}
use Rattle.aria_page.specs.Number.{number, number_of}
use Rattle.aria_page.specs.Crc.{checksum}
use Rattle.aria_page.specs.Page.{Sums, with_sum}

-- The head: the numbers of the log file and of the page in it; the mark of a log page; whether the page begins a run;
-- and how many bytes of the body are used.
unfoldable pub log_head : ℕ → Bool → ℕ → List ℕ
log_head n begins used = number 3 (n / 1024) ++ (number 4 (n % 1024) ++ (10 ∷ (if begins then 1 else 0) ∷ 0 ∷ number 2 used))

-- the body of 8176 bytes, of which these are used
unfoldable pub log_body : List ℕ → List ℕ
log_body bytes = bytes ++ replicate (8176 - length bytes) 0

-- the page of this number that holds these bytes
unfoldable pub log_page : ℕ → Bool → List ℕ → List ℕ
log_page n begins bytes = with_sum (log_head n begins (length bytes) ++ log_body bytes)

-- The page of this number is valid: its checksum fits, and each field is as a page of the log has it. The last page of
-- the last file is never used.
pub record IsLogPage (n : ℕ) (begins : Bool) (bytes page : List ℕ) : Type 0 where
  pub sums : Sums page
  pub spelled : page ≡ log_page n begins bytes
  pub used : 1 ≤ length bytes
  pub fits : length bytes ≤ 8176
  pub low : n < 2 ^ 34 - 1

-- the same, as a test
unfoldable pub is_log_page : ℕ → Bool → List ℕ → List ℕ → Bool
is_log_page n begins bytes page =
    (number_of 4 page == checksum (drop 4 page)) && (pointwise ◌==◌ page (log_page n begins bytes) && (nat_le 1 (length bytes) && (nat_le (length bytes) 8176 && nat_lt n (2 ^ 34 - 1))))

-- the page says that it begins a run
unfoldable pub says_begins : List ℕ → Bool
says_begins page = slice_index page 12 == 1

-- the bytes that the page says are used
unfoldable pub says_used : List ℕ → List ℕ
says_used page = take (number_of 2 (drop 14 page)) (drop 16 page)

-- whether a valid page of this number begins a run, and its used bytes; nothing where it isn't valid
unfoldable pub read_log_page : ℕ → List ℕ → Option (Bool × List ℕ)
read_log_page n page = if is_log_page n (says_begins page) (says_used page) page then Some (says_begins page, says_used page) else None

-- A page: 4 bytes of checksum, 7 bytes of log sequence number, and 8181 bytes of body.
use Rattle.std.specs.Prelude.{◌≡◌, ℕ, ◌+◌, ◌⊎◌, List, ◌++◌, length, take, drop, replicate}
use Rattle.aria_page.specs.declared.lsn.Lsn.{Lsn}
use Rattle.aria_page.specs.declared.page.TheConstants.{PAGE_BYTES, SUM_BYTES, BODY_AT}
use Rattle.aria_page.specs.Number.{number, number_of}
use Rattle.aria_page.specs.Lsn.{lsn_bytes, lsn_of}
use Rattle.aria_page.specs.Crc.{checksum}

-- a list with these bytes in the place of as many from the given place on
unfoldable pub with_bytes : ℕ → List ℕ → List ℕ → List ℕ
with_bytes at bytes old = take at old ++ (bytes ++ drop (at + length bytes) old)

-- the page of zeros
unfoldable pub zero_page : List ℕ
zero_page = replicate PAGE_BYTES 0

-- the body
unfoldable pub page_body : List ℕ → List ℕ
page_body page = drop BODY_AT page

-- the page with another body
unfoldable pub with_body : List ℕ → List ℕ → List ℕ
with_body body page = take BODY_AT page ++ body

-- the log sequence number
unfoldable pub page_lsn : List ℕ → Lsn
page_lsn page = lsn_of (drop SUM_BYTES page)

-- the checksum fits: it is that of all bytes behind it
unfoldable pub Sums : List ℕ → Type 0
Sums page = number_of SUM_BYTES page ≡ checksum (drop SUM_BYTES page)

-- the checksum fits, or all bytes are zero
abbrev pub IsSound : List ℕ → Type 0
IsSound page = Sums page ⊎ (page ≡ zero_page)

-- the page that has these bytes behind its checksum
unfoldable pub with_sum : List ℕ → List ℕ
with_sum bytes = number SUM_BYTES (checksum bytes) ++ bytes

-- the page with its checksum set
unfoldable pub summed : List ℕ → List ℕ
summed page = with_sum (drop SUM_BYTES page)

-- the page with its log sequence number set, and then its checksum
unfoldable pub sealed : Lsn → List ℕ → List ℕ
sealed lsn page = with_sum (lsn_bytes lsn ++ page_body page)

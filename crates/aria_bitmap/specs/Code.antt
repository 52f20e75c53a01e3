-- The code of a page of a data file, which tells whether it is free and how much room it has.
use Rattle.std.specs.Prelude.{ℕ, zero, suc, ◌+◌, ◌*◌, ◌-◌, Bool, true, ◌&&◌, not, ◌==◌, nat_le, if◌then◌else◌, List, drop, slice_index}
use Rattle.aria_page.specs.declared.page.TheConstants.{BODY_BYTES}
use Rattle.aria_page.specs.Number.{number_of}
use Rattle.aria_bitmap.specs.declared.code.TheConstants.{FREE_PAGE, HEAD_PAGE, TAIL_PAGE, ENTRY_BYTES, MAX_ENTRIES, ROOM_OF_1, ROOM_OF_2, ROOM_OF_3, ROOM_OF_5, ROOM_OF_6}

-- directory entry i of a head or tail page, from the end of the body on: 4 bytes, zeros where it is unused
unfoldable pub entry : List ℕ → ℕ → ℕ
entry body i = number_of ENTRY_BYTES (drop (BODY_BYTES - ENTRY_BYTES * (i + 1)) body)

-- the first n directory entries are used
unfoldable pub all_used : List ℕ → ℕ → Bool
all_used body zero = true
all_used body (suc n) = all_used body n && not (entry body n == 0)

-- the bytes between the parts, which end at the number in bytes 2 and 3, and the directory, whose number of entries is byte 1
abbrev pub gap : List ℕ → ℕ
gap body = BODY_BYTES - number_of 2 (drop 2 body) - ENTRY_BYTES * slice_index body 1

-- the most bytes that one more part may have: it takes an unused entry, or else 4 bytes for a new one
unfoldable pub room : List ℕ → ℕ
room body =
    if not (all_used body (slice_index body 1)) then gap body
    else if slice_index body 1 == MAX_ENTRIES then 0
    else gap body - ENTRY_BYTES

-- head pages
abbrev pub head_code : ℕ → ℕ
head_code room =
    if nat_le ROOM_OF_1 room then 1
    else if nat_le ROOM_OF_2 room then 2
    else if nat_le ROOM_OF_3 room then 3
    else 4

-- tail pages
abbrev pub tail_code : ℕ → ℕ
tail_code room =
    if nat_le ROOM_OF_5 room then 5
    else if nat_le ROOM_OF_6 room then 6
    else 7

-- a free page, a head page, a tail page, or a page that takes no part
unfoldable pub code : List ℕ → ℕ
code body =
    if slice_index body 0 == FREE_PAGE then 0
    else if slice_index body 0 == HEAD_PAGE then head_code (room body)
    else if slice_index body 0 == TAIL_PAGE then tail_code (room body)
    else 7

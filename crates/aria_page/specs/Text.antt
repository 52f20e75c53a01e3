-- Bytes and names as they are stored.
use Rattle.std.specs.Prelude.{ℕ, List, ◌++◌, length, take, drop, Option, Some, None, nat_lt, if◌then◌else◌}
use Rattle.aria_page.specs.Field.{◌>>=◌}
use Rattle.aria_page.specs.Number.{number, number_at}
use Rattle.aria_page.specs.Word.{is_word}

-- n bytes and the bytes after them; nothing where the bytes run out
unfoldable pub bytes_at : ℕ → List ℕ → Option (List ℕ × List ℕ)
bytes_at n bytes = if nat_lt (length bytes) n then None else Some (take n bytes, drop n bytes)

-- bytes behind n bytes with their number
abbrev pub counted : ℕ → List ℕ → List ℕ
counted n bytes = number n (length bytes) ++ bytes

-- bytes behind n bytes with their number, and the bytes after them; nothing where the bytes run out
unfoldable pub counted_at : ℕ → List ℕ → Option (List ℕ × List ℕ)
counted_at n bytes = do
  count ← number_at n bytes
  bytes_at count.0 count.1

-- 1 byte of length, and the bytes of the name
unfoldable pub name_bytes : List ℕ → List ℕ
name_bytes name = counted 1 name

-- a name and the bytes after it; nothing where the bytes run out, and where they spell no word
unfoldable pub name_at : List ℕ → Option (List ℕ × List ℕ)
name_at bytes = do
  len ← number_at 1 bytes
  name ← bytes_at len.0 len.1
  if is_word name.0 then Some name else None

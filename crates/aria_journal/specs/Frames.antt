-- Frames: 4 bytes of length, and so many bytes.
use Rattle.std.specs.Prelude.{◌&&◌, if◌then◌else◌, ℕ, zero, suc, ◌≤◌, Option, None, List, [], ◌∷◌, ◌++◌, length, nat_le}
use Rattle.std.specs.List.{flat_map}
use Rattle.std.specs.Option.{option_map_or}
use Rattle.aria_page.specs.Field.{◌>>=◌}
use Rattle.aria_page.specs.Number.{number, number_at}
use Rattle.aria_page.specs.Text.{bytes_at}

-- what may stand in a frame
pub record IsFrame (frame : List ℕ) : Type 0 where
  pub some : 1 ≤ length frame
  pub fits : length frame ≤ 1048576

-- the frame as it is stored
unfoldable pub frame_bytes : List ℕ → List ℕ
frame_bytes frame = number 4 (length frame) ++ frame

-- the frames as they are stored, one after the other
unfoldable pub frames_bytes : List (List ℕ) → List ℕ
frames_bytes frames = flat_map frame_bytes frames

-- the frame that stands in front, and the bytes behind it; nothing where no whole frame does
unfoldable pub frame_at : List ℕ → Option (List ℕ × List ℕ)
frame_at bytes = do
  len ← number_at 4 bytes
  if nat_le 1 len.0 && nat_le len.0 1048576 then bytes_at len.0 len.1 else None

-- the whole frames in front, at most so many
unfoldable pub frames_within : ℕ → List ℕ → List (List ℕ)
frames_within zero bytes = []
frames_within (suc n) bytes = option_map_or (λ found. found.0 ∷ frames_within n found.1) (frame_at bytes) []

-- all the whole frames in front
unfoldable pub frames_in : List ℕ → List (List ℕ)
frames_in bytes = frames_within (length bytes) bytes

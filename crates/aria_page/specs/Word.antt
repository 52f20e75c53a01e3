-- Words: how tables, keys and columns are named.
use Rattle.std.specs.Prelude.{ℕ, Bool, false, ◌&&◌, ◌||◌, ◌==◌, nat_le, List, [], ◌∷◌, length}
use Rattle.std.specs.List.{list_all}
use Rattle.aria_page.specs.declared.name.TheConstants.{NAME_BYTES}

-- a letter or _
abbrev pub begins_word : ℕ → Bool
begins_word b = (nat_le 65 b && nat_le b 90) || (nat_le 97 b && nat_le b 122) || (b == 95)

-- a letter, a digit or _
abbrev pub continues_word : ℕ → Bool
continues_word b = begins_word b || (nat_le 48 b && nat_le b 57)

-- the first byte begins a word
abbrev pub begins_as_word : List ℕ → Bool
begins_as_word [] = false
begins_as_word (b ∷ bs) = begins_word b

-- a letter or _, then letters, digits and _, at most 64 bytes in all
abbrev pub is_word : List ℕ → Bool
is_word bytes = begins_as_word bytes && list_all continues_word bytes && nat_le (length bytes) NAME_BYTES

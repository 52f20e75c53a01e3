-- How a name lies in its fields.
use Rattle.std.specs.Prelude.{◌≡◌, ℕ, ◌-◌, ◌≤◌, List, ◌++◌, length, take, replicate, IsTrue}
use Rattle.std.proofs.Common.{sym, ap, ◌∙◌, arith}
use Rattle.std.proofs.lemmas.List.{length-take}
use Rattle.aria_page.specs.declared.name.Name.TheInside.{Inside}
use Rattle.aria_page.specs.declared.name.TheConstants.{NAME_BYTES}
use Rattle.aria_page.specs.Word.{is_word}

-- the bytes of the word
abbrev pub name_of : Inside → List ℕ
name_of n = take n.len n.bytes

-- a word in front, and zeros behind it
pub record IsName (n : Inside) : Type 0 where
  pub word : IsTrue (is_word (take n.len n.bytes))
  pub zeros : n.bytes ≡ take n.len n.bytes ++ replicate (NAME_BYTES - n.len) 0
  pub within : n.len ≤ length n.bytes

-- the fields of a word
abbrev pub name_fields : List ℕ → Inside
name_fields word = record { bytes = word ++ replicate (NAME_BYTES - length word) 0; len = length word }

pub name_fields-name_of : (n : Inside) → IsName n → name_fields (name_of n) ≡ n
name_fields-name_of n is =
    let long : length (take n.len n.bytes) ≡ n.len = length-take n.len n.bytes ∙ omega (arith, is.within) in
    λ i. record { bytes = (ap (λ (k : ℕ). take n.len n.bytes ++ replicate (NAME_BYTES - k) 0) long ∙ sym is.zeros) i; len = long i }

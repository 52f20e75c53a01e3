-- A log sequence number that is read is the one that was stored, and what was stored is read again.
use Rattle.std.proofs.Common.{◌≡◌, ℕ, List, ◌++◌, length, drop, Some, refl, ap, subst, ◌∙◌, append_assoc, arith}
use Rattle.std.proofs.lemmas.List.{drop_at, length-append}
use Rattle.std.proofs.lemmas.Option.{same_Some}
use Rattle.aria_page.specs.declared.lsn.Lsn.{Lsn}
use Rattle.aria_page.specs.Field.{◌>>=◌, AreBytes, Takes}
use Rattle.aria_page.specs.Number.{number, number_of, number_at}
use Rattle.aria_page.specs.Lsn.{IsLsn, lsn_bytes, lsn_of, lsn_at}
use Rattle.aria_page.proofs.Fields.{bind_some, Takes-then}
use Rattle.aria_page.proofs.Numbers.{length-number, number_of-number, number_takes, number_again}

-- a log sequence number takes 7 bytes
pub length-lsn_bytes : (l : Lsn) → length (lsn_bytes l) ≡ 7
unfolding lsn_bytes
length-lsn_bytes l = omega (arith, length-append (number 3 l.file) (number 4 l.offset), length-number 3 l.file, length-number 4 l.offset)

-- one that is read is spelled by the bytes in front
pub lsn_takes : (bytes : List ℕ) (x : Lsn × List ℕ) → AreBytes bytes → lsn_at bytes ≡ Some x → Takes bytes (lsn_bytes x.0) x.1 × IsLsn x.0
unfolding lsn_at lsn_bytes
lsn_takes bytes x fits e =
    let a = bind_some (number_at 3 bytes) (λ file. number_at 4 file.1 >>= λ offset. Some (record { file = file.0; offset = offset.0 }, offset.1)) x e in
    let b = bind_some (number_at 4 a.0.1) (λ offset. Some (record { file = a.0.0; offset = offset.0 }, offset.1)) x a.2 in
    let first = number_takes 3 bytes a.0 fits a.1 in
    let second = number_takes 4 a.0.1 b.0 first.0.rest_bytes b.1 in
    let both = Takes-then bytes (number 3 a.0.0) a.0.1 (number 4 b.0.0) b.0.1 first.0 second.0 in
    let made : Lsn × List ℕ = (record { file = a.0.0; offset = b.0.0 }, b.0.1) in
    subst (λ (y : Lsn × List ℕ). Takes bytes (lsn_bytes y.0) y.1 × IsLsn y.0) (same_Some made x b.2) (both, record { file = first.1; offset = second.1 })

-- one that is stored is read, and what follows is left
pub lsn_again : (l : Lsn) (rest : List ℕ) → IsLsn l → lsn_at (lsn_bytes l ++ rest) ≡ Some (l, rest)
unfolding lsn_at lsn_bytes
lsn_again l rest fits =
    ap lsn_at (append_assoc (number 3 l.file) (number 4 l.offset) rest)
    ∙ rw (number_again 3 l.file (number 4 l.offset ++ rest) fits.file, number_again 4 l.offset rest fits.offset) refl

-- one that is stored is there
pub lsn_of-lsn_bytes : (l : Lsn) (rest : List ℕ) → IsLsn l → lsn_of (lsn_bytes l ++ rest) ≡ l
unfolding lsn_of lsn_bytes
lsn_of-lsn_bytes l rest fits =
    let whole : lsn_bytes l ++ rest ≡ number 3 l.file ++ (number 4 l.offset ++ rest) = append_assoc (number 3 l.file) (number 4 l.offset) rest in
    let file : number_of 3 (lsn_bytes l ++ rest) ≡ l.file = ap (number_of 3) whole ∙ number_of-number 3 l.file (number 4 l.offset ++ rest) fits.file in
    let behind : drop 3 (lsn_bytes l ++ rest) ≡ number 4 l.offset ++ rest = ap (drop 3) whole ∙ drop_at (number 3 l.file) (number 4 l.offset ++ rest) 3 (length-number 3 l.file) in
    let offset : number_of 4 (drop 3 (lsn_bytes l ++ rest)) ≡ l.offset = ap (number_of 4) behind ∙ number_of-number 4 l.offset rest fits.offset in
    λ i. record { file = file i; offset = offset i }

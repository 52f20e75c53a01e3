-- What two tokens ahead decide.
use Rattle.std.proofs.Common.{◌≡◌, ℕ, Bool, true, false, cond, ◌&&◌, not, List, [], ◌∷◌, map, Option, Some, None, Result, Ok, refl, if◌then◌else◌, ℤ, pos}
use Rattle.std.specs.Prelude.{codes}
use Rattle.aria_value.specs.Defined.{same_name}
use Rattle.aria_model.specs.declared.refusal.Refusal.{Refusal}
use Rattle.aria_model.specs.Token.{Word, Number, Wide, Quoted, Sign, End, Stray}
use Rattle.aria_model.specs.Grammar.{Tokens, another_column, max_rows, row_limit, the_end}
use Rattle.aria_statement.specs.declared.written.WrittenKey.{WrittenKey as FoundKey}
use Rattle.aria_statement.specs.Reading.{seen_as, begins_colon}
use Rattle.aria_statement.specs.Writing.{key_seen}

-- a choice that nothing further decides
settled : {X : Type 0} (b : Bool) (x y : X) → cond b x y ≡ cond (b && not false) x y
settled true x y = refl
settled false x y = refl

-- whether the word is another column's
abbrev pub column_begins : ℕ → List ℕ → Tokens → Option Tokens
column_begins at word ts = if same_name word (codes "keys") && not (begins_colon ts) then None else Some ((at, Word word) ∷ ts)

plain_column : (at : ℕ) (word : List ℕ) (ts : Tokens) → cond (same_name word (codes "keys")) None (Some ((at, Word word) ∷ ts)) ≡ cond (same_name word (codes "keys") && not false) None (Some ((at, Word word) ∷ ts))
plain_column at word ts = settled (same_name word (codes "keys")) None (Some ((at, Word word) ∷ ts))

pub another_column_is : (at : ℕ) (word : List ℕ) (ts : Tokens) → another_column ((at, Word word) ∷ ts) ≡ column_begins at word ts
another_column_is at word [] = plain_column at word []
another_column_is at word ((next, Word w) ∷ ts) = plain_column at word ((next, Word w) ∷ ts)
another_column_is at word ((next, Number n) ∷ ts) = plain_column at word ((next, Number n) ∷ ts)
another_column_is at word ((next, Wide) ∷ ts) = plain_column at word ((next, Wide) ∷ ts)
another_column_is at word ((next, Quoted bytes) ∷ ts) = plain_column at word ((next, Quoted bytes) ∷ ts)
another_column_is at word ((next, Sign sign) ∷ ts) = refl
another_column_is at word ((next, End) ∷ ts) = plain_column at word ((next, End) ∷ ts)
another_column_is at word ((next, Stray) ∷ ts) = plain_column at word ((next, Stray) ∷ ts)

-- the most rows, where the word begins them
abbrev pub rows_begin : ℕ → List ℕ → Tokens → Result (ℤ × Tokens) Refusal
rows_begin at word ts = if same_name word (codes "max_rows") && not (begins_colon ts) then row_limit ts else Ok (pos 16777216, (at, Word word) ∷ ts)

plain_rows : (at : ℕ) (word : List ℕ) (ts : Tokens)
    → cond (same_name word (codes "max_rows")) (row_limit ts) (Ok (pos 16777216, (at, Word word) ∷ ts)) ≡ cond (same_name word (codes "max_rows") && not false) (row_limit ts) (Ok (pos 16777216, (at, Word word) ∷ ts))
plain_rows at word ts = settled (same_name word (codes "max_rows")) (row_limit ts) (Ok (pos 16777216, (at, Word word) ∷ ts))

pub max_rows_is : (at : ℕ) (word : List ℕ) (ts : Tokens) → max_rows ((at, Word word) ∷ ts) ≡ rows_begin at word ts
max_rows_is at word [] = plain_rows at word []
max_rows_is at word ((next, Word w) ∷ ts) = plain_rows at word ((next, Word w) ∷ ts)
max_rows_is at word ((next, Number n) ∷ ts) = plain_rows at word ((next, Number n) ∷ ts)
max_rows_is at word ((next, Wide) ∷ ts) = plain_rows at word ((next, Wide) ∷ ts)
max_rows_is at word ((next, Quoted bytes) ∷ ts) = plain_rows at word ((next, Quoted bytes) ∷ ts)
max_rows_is at word ((next, Sign sign) ∷ ts) = refl
max_rows_is at word ((next, End) ∷ ts) = plain_rows at word ((next, End) ∷ ts)
max_rows_is at word ((next, Stray) ∷ ts) = plain_rows at word ((next, Stray) ∷ ts)

-- The end is the same for keys as they are seen.
pub keys_end : (keys : List FoundKey) (ts : Tokens) → seen_as (map key_seen) (the_end keys ts) ≡ the_end (map key_seen keys) ts
keys_end keys [] = refl
keys_end keys ((at, Word w) ∷ ts) = refl
keys_end keys ((at, Number n) ∷ ts) = refl
keys_end keys ((at, Wide) ∷ ts) = refl
keys_end keys ((at, Quoted bytes) ∷ ts) = refl
keys_end keys ((at, Sign sign) ∷ ts) = refl
keys_end keys ((at, End) ∷ ts) = refl
keys_end keys ((at, Stray) ∷ ts) = refl

-- Items read one after another, told by the language of their items.
use Rattle.std.proofs.Common.{◌≡◌, ℕ, zero, suc, ◌+◌, ◌≤◌, List, [], ◌∷◌, length, Option, Some, None, Result, Ok, refl, sym, subst, arith}
use Rattle.aria_model.specs.declared.refusal.Refusal.{Refusal}
use Rattle.aria_model.specs.Token.{Token}
use Rattle.aria_model.specs.Grammar.{Tokens, ◌>>=◌, items_within, items}
use Rattle.aria_model.specs.Spelling.{Language, ◌·◌, left, Sequence}
use Rattle.aria_model.proofs.Languages.{Example, back, sequence_joined, Tail, Heads, Avoids}
use Rattle.aria_model.proofs.Telling.{IsEnded, Told, same_told, left_told, right_told, by_first, From, steps}

-- How items of a list are told apart from what stands behind the list: `May` says what may stand there, `Behind` what may stand behind an item.
pub record Joins (May Behind : Language → Type 0) (item between : Language) (another : Tokens → Option Tokens) : Type 1 where
  pub behind : (M : Language) → May M → Behind (Tail item between M)
  pub ends : {B : Type 0} {r : Result B Refusal} (M : Language) → May M → Example M → (ts : Tokens) → IsEnded ts → another ts ≡ None → Told M ts r → Told (Tail item between M) ts r
  pub ended : (ts rest : Tokens) → IsEnded ts → another ts ≡ Some rest → IsEnded rest
  pub no_longer : (ts rest : Tokens) → IsEnded ts → another ts ≡ Some rest → length rest ≤ length ts
  pub goes : {B : Type 0} {r : Result B Refusal} (M : Language) → May M → Example M → (ts rest : Tokens) → IsEnded ts → another ts ≡ Some rest → Told (Sequence item between · M) rest r → Told (Tail item between M) ts r

-- a reader of one item
abbrev pub Reader : Type 0 → Type 0
Reader A = Tokens → Result (A × Tokens) Refusal

-- the tokens behind what was read
abbrev pub rest_of : {A : Type 0} → A × Tokens → Tokens
rest_of x = x.1

-- the items behind the first
others : {A B : Type 0} {May Behind : Language → Type 0} {item between : Language} {another : Tokens → Option Tokens} (joins : Joins May Behind item between another)
    (M : Language) → May M → Example M → (within : Reader (List A)) (g : List A × Tokens → Result B Refusal) (first : A) (ts : Tokens) → IsEnded ts
    → Told M ts (g (first ∷ [], ts))
    → ((rest : Tokens) → IsEnded rest → length rest ≤ length ts → Told (Sequence item between · M) rest (within rest >>= λ x. g (first ∷ x.0, x.1)))
    → (o : Option Tokens) → another ts ≡ o
    → Told (Tail item between M) ts (elim o as (λ _. Result (List A × Tokens) Refusal) [ None ↦ Ok (first ∷ [], ts) | Some rest ↦ within rest >>= λ x. Ok (first ∷ x.0, x.1) ] >>= g)
others joins M may m within g first ts e here there None is = joins.ends M may m ts e is here
others joins M may m within g first ts e here there (Some rest) is =
    joins.goes M may m ts rest e is (steps (within rest) (λ x. Ok (first ∷ x.0, x.1)) g (there rest (joins.ended ts rest e is) (joins.no_longer ts rest e is)))

within_told : {A B : Type 0} {May Behind : Language → Type 0} {item between : Language} {another : Tokens → Option Tokens} (joins : Joins May Behind item between another)
    (reader : Reader A) → ((ts : Tokens) → IsEnded ts → From Behind item 1 rest_of ts (reader ts))
    → (M : Language) → May M → Example M → (limit n : ℕ) (ts : Tokens) → length ts ≤ n → length ts ≤ limit → IsEnded ts → (g : List A × Tokens → Result B Refusal)
    → ((x : List A × Tokens) → IsEnded x.1 → 1 + length x.1 ≤ limit → Told M x.1 (g x))
    → Told (Sequence item between · M) ts (items_within reader another n ts >>= g)
within_told joins reader from M may m limit zero [] low high e g follows = absurd e
within_told joins reader from M may m limit zero (t ∷ ts) low high e g follows = absurd (omega arith)
within_told {A} {B} {item = item} {between} {another} joins reader from M may m limit (suc n) ts low high e g follows =
    same_told (back (sequence_joined item between M))
    (steps (reader ts) _ g ((from ts e).told (Tail item between M) _ (joins.behind M may) (record { tokens = m.tokens; holds = left m.holds })
    (λ first e1 l1. others joins M may m (items_within reader another n) g first.0 first.1 e1
    (follows (first.0 ∷ [], first.1) e1 (omega arith))
    (λ rest e2 l2. within_told joins reader from M may m limit n rest (omega arith) (omega arith) e2 (λ x. g (first.0 ∷ x.0, x.1)) (λ x e3 l3. follows (first.0 ∷ x.0, x.1) e3 l3))
    (another first.1) refl)))

-- Items are read as their language tells.
pub items_from : {A : Type 0} {May Behind : Language → Type 0} {item between : Language} {another : Tokens → Option Tokens} → Joins May Behind item between another
    → (reader : Reader A) → ((ts : Tokens) → IsEnded ts → From Behind item 1 rest_of ts (reader ts))
    → (ts : Tokens) → IsEnded ts → From May (Sequence item between) 1 rest_of ts (items reader another ts)
items_from joins reader from ts e = record { told = λ M g may m follows. within_told joins reader from M may m (length ts) (length ts) ts (omega arith) (omega arith) e g follows }

-- ---- items told apart by their first token

-- whether another item stands there, and from where on
pub data Choice (P : Type 0) (rest : Tokens) : Option Tokens → Type 0 where
  none_stands : ¬ P → Choice P rest None
  one_stands : P → Choice P rest (Some rest)

stops : {P : Type 0} {rest : Tokens} {o : Option Tokens} → Choice P rest o → o ≡ None → ¬ P
stops (none_stands not) e = not
stops (one_stands is) e = absurd cc

goes_on : {P : Type 0} {rest : Tokens} {o : Option Tokens} (found : Tokens) → Choice P rest o → o ≡ Some found → P × (found ≡ rest)
goes_on found (none_stands not) e = absurd cc
goes_on found (one_stands is) e = (is, cc)

-- how it is told by the first token whether another item stands there
pub record ByFirst (class : Token → Type 0) (May Behind : Language → Type 0) (item between : Language) (another : Tokens → Option Tokens) (from : ℕ → Token → Tokens → Tokens) : Type 1 where
  pub choice : (at : ℕ) (t : Token) (ts : Tokens) → Choice (class t) (from at t ts) (another ((at, t) ∷ ts))
  pub heads : (M : Language) → Heads class (between · (Sequence item between · M))
  pub behind : (M : Language) → May M → Behind (Tail item between M)
  pub other : (M : Language) → May M → Avoids class M
  pub ended : (at : ℕ) (t : Token) (ts : Tokens) → class t → IsEnded ((at, t) ∷ ts) → IsEnded (from at t ts)
  pub no_longer : (at : ℕ) (t : Token) (ts : Tokens) → length (from at t ts) ≤ length ((at, t) ∷ ts)
  pub onto : {B : Type 0} {r : Result B Refusal} (M : Language) (at : ℕ) (t : Token) (ts : Tokens) → class t → Told M (from at t ts) r → Told (between · M) ((at, t) ∷ ts) r

ends_by : {class : Token → Type 0} {May Behind : Language → Type 0} {item between : Language} {another : Tokens → Option Tokens} {from : ℕ → Token → Tokens → Tokens}
    → ByFirst class May Behind item between another from → {B : Type 0} {r : Result B Refusal} (M : Language) → May M → Example M → (ts : Tokens) → IsEnded ts → another ts ≡ None → Told M ts r → Told (Tail item between M) ts r
ends_by first M may m [] e none t = absurd e
ends_by first M may m ((at, u) ∷ ts) e none t = left_told (by_first (λ w h. stops (first.choice at u ts) none ((first.heads M).heads (u ∷ w) h))) t

ended_by : {class : Token → Type 0} {May Behind : Language → Type 0} {item between : Language} {another : Tokens → Option Tokens} {from : ℕ → Token → Tokens → Tokens}
    → ByFirst class May Behind item between another from → (ts rest : Tokens) → IsEnded ts → another ts ≡ Some rest → IsEnded rest × (length rest ≤ length ts)
ended_by first [] rest e some = absurd e
ended_by first ((at, u) ∷ ts) rest e some =
    let found = goes_on rest (first.choice at u ts) some in
    (subst IsEnded (sym found.1) (first.ended at u ts found.0 e), subst (λ (v : Tokens). length v ≤ length ((at, u) ∷ ts)) (sym found.1) (first.no_longer at u ts))

goes_by : {class : Token → Type 0} {May Behind : Language → Type 0} {item between : Language} {another : Tokens → Option Tokens} {from : ℕ → Token → Tokens → Tokens}
    → ByFirst class May Behind item between another from → {B : Type 0} {r : Result B Refusal} (M : Language) → May M → Example M → (ts rest : Tokens) → IsEnded ts → another ts ≡ Some rest
    → Told (Sequence item between · M) rest r → Told (Tail item between M) ts r
goes_by first M may m [] rest e some t = absurd e
goes_by {item = item} {between} first {B} {r} M may m ((at, u) ∷ ts) rest e some t =
    let found = goes_on rest (first.choice at u ts) some in
    right_told (by_first (λ w h. (first.other M may).avoids u w h found.0))
    (first.onto (Sequence item between · M) at u ts found.0 (subst (λ (v : Tokens). Told (Sequence item between · M) v r) found.1 t))

-- Items told apart by their first token are told apart from what is behind them.
pub joins_by : {class : Token → Type 0} {May Behind : Language → Type 0} {item between : Language} {another : Tokens → Option Tokens} {from : ℕ → Token → Tokens → Tokens}
    → ByFirst class May Behind item between another from → Joins May Behind item between another
joins_by first = record {
  behind = first.behind;
  ends = ends_by first;
  ended = λ ts rest e some. (ended_by first ts rest e some).0;
  no_longer = λ ts rest e some. (ended_by first ts rest e some).1;
  goes = goes_by first;
}

-- Items read one after another.
use Rattle.std.proofs.Common.{◌≡◌, ℕ, zero, suc, ◌<◌, ◌≤◌, List, [], ◌∷◌, ◌++◌, length, Option, Some, None, Result, Ok, Err, refl, sym, ap, ◌∙◌, append_assoc, arith}
use Rattle.aria_model.specs.declared.refusal.Refusal.{Refusal}
use Rattle.aria_model.specs.Grammar.{Tokens, ◌>>=◌, bad, items_within, items}
use Rattle.aria_model.specs.declared.stopped.Stopped.{Stopped}
use Rattle.aria_model.specs.declared.stopped.Stopped.TheVariants.{Memory, Refused}
use Rattle.aria_statement.specs.Reading.{IsFaultOf}
use Rattle.aria_statement.proofs.Steps.{bind_ok, bind_same, done_same}

-- a reader of one item
abbrev pub Reader : Type 0 → Type 0
Reader A = Tokens → Result (A × Tokens) Refusal

-- Each item takes a token, and none is put back between two.
pub record Shortens {A : Type 0} (item : Reader A) (another : Tokens → Option Tokens) : Type 0 where
  pub shorter : (ts : Tokens) (x : A × Tokens) → item ts ≡ Ok x → length x.1 < length ts
  pub no_longer : (ts rest : Tokens) → another ts ≡ Some rest → length rest ≤ length ts
  pub nothing : item [] ≡ bad []

-- the items behind the first
abbrev pub more : {A : Type 0} → Reader (List A) → A → Tokens → Option Tokens → Result (List A × Tokens) Refusal
more others first behind None = Ok (first ∷ [], behind)
more others first behind (Some rest) = others rest >>= λ x. Ok (first ∷ x.0, x.1)

more_is : {A : Type 0} (others : Reader (List A)) (first : A) (behind : Tokens) (o : Option Tokens)
    → elim o as (λ o'. Result (List A × Tokens) Refusal) [ None ↦ Ok (first ∷ [], behind) | Some rest ↦ others rest >>= λ x. Ok (first ∷ x.0, x.1) ] ≡ more others first behind o
more_is others first behind None = refl
more_is others first behind (Some rest) = refl

-- the first item, and those behind it
within_step : {A : Type 0} (item : Reader A) (another : Tokens → Option Tokens) (n : ℕ) (ts : Tokens)
    → items_within item another (suc n) ts ≡ (item ts >>= λ first. more (items_within item another n) first.0 first.1 (another first.1))
within_step item another n ts = bind_same (item ts) _ _ (λ first e. more_is (items_within item another n) first.0 first.1 (another first.1))

-- what comes behind the first item, where fewer tokens are left
more_same : {A : Type 0} (f g : Reader (List A)) (first : A) (behind : Tokens) (o : Option Tokens) → ((rest : Tokens) → o ≡ Some rest → f rest ≡ g rest) → more f first behind o ≡ more g first behind o
more_same f g first behind None same = refl
more_same f g first behind (Some rest) same = ap (λ r. r >>= λ x. Ok (first ∷ x.0, x.1)) (same rest refl)

-- Any bound that isn't below the number of the tokens gives the same items.
enough : {A : Type 0} (item : Reader A) (another : Tokens → Option Tokens) → Shortens item another → (m n : ℕ) (ts : Tokens) → length ts ≤ m → length ts ≤ n
    → items_within item another m ts ≡ items_within item another n ts
enough item another short zero zero ts low high = refl
enough item another short zero (suc n) [] low high = sym (ap (λ r. r >>= λ first. more (items_within item another n) first.0 first.1 (another first.1)) short.nothing) ∙ sym (within_step item another n [])
enough item another short zero (suc n) (t ∷ ts) low high = absurd (omega arith)
enough item another short (suc m) zero [] low high = within_step item another m [] ∙ ap (λ r. r >>= λ first. more (items_within item another m) first.0 first.1 (another first.1)) short.nothing
enough item another short (suc m) zero (t ∷ ts) low high = absurd (omega arith)
enough item another short (suc m) (suc n) ts low high =
    within_step item another m ts
    ∙ bind_same (item ts) _ _ (λ first e. more_same (items_within item another m) (items_within item another n) first.0 first.1 (another first.1) (λ rest f.
    enough item another short m n rest (omega (arith, short.shorter ts first e, short.no_longer first.1 rest f)) (omega (arith, short.shorter ts first e, short.no_longer first.1 rest f))))
    ∙ sym (within_step item another n ts)

-- The items are the first, and those behind it.
pub items_step : {A : Type 0} (item : Reader A) (another : Tokens → Option Tokens) → Shortens item another → (ts : Tokens)
    → items item another ts ≡ (item ts >>= λ first. more (items item another) first.0 first.1 (another first.1))
items_step item another short [] = sym (ap (λ r. r >>= λ first. more (items item another) first.0 first.1 (another first.1)) short.nothing)
items_step item another short (t ∷ ts) =
    within_step item another (length ts) (t ∷ ts)
    ∙ bind_same (item (t ∷ ts)) _ _ (λ first e. more_same (items_within item another (length ts)) (items item another) first.0 first.1 (another first.1) (λ rest f.
    enough item another short (length ts) (length rest) rest (omega (arith, short.shorter (t ∷ ts) first e, short.no_longer first.1 rest f)) (omega arith)))

-- what was read before, and what is still read
abbrev pub with_front : {A : Type 0} → List A → Result (List A × Tokens) Refusal → Result (List A × Tokens) Refusal
with_front front read = read >>= λ x. Ok (front ++ x.0, x.1)

regroup : {A : Type 0} (front : List A) (first : A) (read : Result (List A × Tokens) Refusal) → with_front front (read >>= λ x. Ok (first ∷ x.0, x.1)) ≡ with_front (front ++ first ∷ []) read
regroup {A} front first (Ok x) = ap (λ (xs : List A). Ok (xs, x.1)) (simp append_assoc)
regroup front first (Err why) = refl

-- the items that a loop has read so far, and those that are left
pub record SoFar {A : Type 0} (item : Reader A) (another : Tokens → Option Tokens) (front : List A) (ts : Tokens) (total : Result (List A × Tokens) Refusal) : Type 0 where
  pub whole : with_front front (items item another ts) ≡ total

-- one more item, and another behind it
pub goes_on : {A : Type 0} (item : Reader A) (another : Tokens → Option Tokens) (front : List A) (ts : Tokens) (total : Result (List A × Tokens) Refusal) (x : A) (behind rest : Tokens)
    → Shortens item another → item ts ≡ Ok (x, behind) → another behind ≡ Some rest → SoFar item another front ts total → SoFar item another (front ++ x ∷ []) rest total
goes_on item another front ts total x behind rest short e f so_far =
    let step : items item another ts ≡ (items item another rest >>= λ y. Ok (x ∷ y.0, y.1)) = items_step item another short ts ∙ ap (λ r. r >>= λ first. more (items item another) first.0 first.1 (another first.1)) e ∙ ap (λ o. more (items item another) x behind o) f in
    record { whole = sym (regroup front x (items item another rest)) ∙ ap (λ r. with_front front r) (sym step) ∙ so_far.whole }

-- the last item
pub is_done : {A : Type 0} (item : Reader A) (another : Tokens → Option Tokens) (front : List A) (ts : Tokens) (total : Result (List A × Tokens) Refusal) (x : A) (behind : Tokens)
    → Shortens item another → item ts ≡ Ok (x, behind) → another behind ≡ None → SoFar item another front ts total → total ≡ Ok (front ++ x ∷ [], behind)
is_done item another front ts total x behind short e f so_far =
    let step : items item another ts ≡ Ok (x ∷ [], behind) = items_step item another short ts ∙ ap (λ r. r >>= λ first. more (items item another) first.0 first.1 (another first.1)) e ∙ ap (λ o. more (items item another) x behind o) f in
    sym so_far.whole ∙ ap (λ r. with_front front r) step

-- an item that is refused
pub is_refused : {A : Type 0} (item : Reader A) (another : Tokens → Option Tokens) (front : List A) (ts : Tokens) (total : Result (List A × Tokens) Refusal) (why : Refusal)
    → Shortens item another → item ts ≡ Err why → SoFar item another front ts total → total ≡ Err why
is_refused item another front ts total why short e so_far =
    let step : items item another ts ≡ Err why = items_step item another short ts ∙ ap (λ r. r >>= λ first. more (items item another) first.0 first.1 (another first.1)) e in
    sym so_far.whole ∙ ap (λ r. with_front front r) step

-- an item that gave a fault
pub is_fault : {A : Type 0} (item : Reader A) (another : Tokens → Option Tokens) (front : List A) (ts : Tokens) (total : Result (List A × Tokens) Refusal) (fault : Stopped)
    → Shortens item another → IsFaultOf fault (item ts) → SoFar item another front ts total → IsFaultOf fault total
is_fault item another front ts total Memory short e so_far = tt
is_fault item another front ts total (Refused why) short e so_far = is_refused item another front ts total why short e so_far

-- Fewer tokens are left behind items.
more_shorter : {A : Type 0} (others : Reader (List A)) (first : A) (ts behind : Tokens) (o : Option Tokens) (x : List A × Tokens)
    → length behind < length ts → ((rest : Tokens) → o ≡ Some rest → length rest ≤ length behind) → ((rest : Tokens) (y : List A × Tokens) → others rest ≡ Ok y → length y.1 < length rest)
    → more others first behind o ≡ Ok x → length x.1 < length ts
more_shorter {A} others first ts behind None x fewer kept are e =
    let same = ap (λ (y : List A × Tokens). y.1) (done_same (first ∷ [], behind) x e) in
    rw (← same) fewer
more_shorter {A} others first ts behind (Some rest) x fewer kept are e =
    let b = bind_ok (others rest) _ x e in
    let same = ap (λ (y : List A × Tokens). y.1) (done_same (first ∷ b.0.0, b.0.1) x b.2) in
    rw (← same) (omega (arith, fewer, are rest b.0 b.1, kept rest refl))

within_shorter : {A : Type 0} (item : Reader A) (another : Tokens → Option Tokens) → Shortens item another → (n : ℕ) (ts : Tokens) (x : List A × Tokens) → items_within item another n ts ≡ Ok x → length x.1 < length ts
within_shorter item another short zero [] x e = absurd cc
within_shorter item another short zero ((at, t) ∷ ts) x e = absurd cc
within_shorter item another short (suc n) ts x e =
    let b = bind_ok (item ts) (λ first. more (items_within item another n) first.0 first.1 (another first.1)) x (sym (within_step item another n ts) ∙ e) in
    more_shorter (items_within item another n) b.0.0 ts b.0.1 (another b.0.1) x (short.shorter ts b.0 b.1) (λ rest f. short.no_longer b.0.1 rest f) (λ rest y f. within_shorter item another short n rest y f) b.2

pub items_shorter : {A : Type 0} (item : Reader A) (another : Tokens → Option Tokens) → Shortens item another → (ts : Tokens) (x : List A × Tokens) → items item another ts ≡ Ok x → length x.1 < length ts
items_shorter item another short ts x e = within_shorter item another short (length ts) ts x e

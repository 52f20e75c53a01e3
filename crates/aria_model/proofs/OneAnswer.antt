-- The grammar leaves one answer to the tokens of a line.
use Rattle.std.proofs.Common.{◌≡◌, ℕ, List, [], ◌∷◌, ◌++◌, length, length-append, refl, sym, ap, subst, ◌∙◌, append_assoc, arith}
use Rattle.std.specs.List.{list_any}
use Rattle.aria_model.specs.Token.{Token, Wide, End}
use Rattle.aria_model.specs.Grammar.{Tokens}
use Rattle.aria_model.specs.Spelling.{IsStatement, Begins, kinds, is_wide, IsNarrow, Spells, FirstBad, TooWide}
use Rattle.aria_model.proofs.Telling.{kinds-append, neither_holds}

-- ---- two places in one list

data Compared {A : Type 0} (xs ys : List A) (x y : A) : Type 0 where
  one_place : xs ≡ ys → x ≡ y → Compared xs ys x y
  sooner : (c : List A) → ys ≡ xs ++ x ∷ c → Compared xs ys x y
  later : (c : List A) → xs ≡ ys ++ y ∷ c → Compared xs ys x y

behind_same : {A : Type 0} (a b : A) (xs ys : List A) (x y : A) → a ≡ b → Compared xs ys x y → Compared (a ∷ xs) (b ∷ ys) x y
behind_same a b xs ys x y e (one_place f g) = one_place (cc) g
behind_same a b xs ys x y e (sooner c f) = sooner c (cc)
behind_same a b xs ys x y e (later c f) = later c (cc)

compare : {A : Type 0} (xs ys us vs : List A) (x y : A) → xs ++ x ∷ us ≡ ys ++ y ∷ vs → Compared xs ys x y
compare [] [] us vs x y e = one_place refl (cc)
compare [] (b ∷ ys) us vs x y e = sooner ys (cc)
compare (a ∷ xs) [] us vs x y e = later xs (cc)
compare (a ∷ xs) (b ∷ ys) us vs x y e =
    let first : a ≡ b = cc in
    let rest : xs ++ x ∷ us ≡ ys ++ y ∷ vs = cc in
    behind_same a b xs ys x y first (compare xs ys us vs x y rest)

-- ---- the places of tokens

begins_front : (xs ys : List Token) → Begins (xs ++ ys) → Begins xs
begins_front xs ys b = (ys ++ b.0, subst IsStatement (append_assoc xs ys b.0) b.1)

kinds_behind : (front rest before : Tokens) (at : ℕ) (t : Token) → before ≡ front ++ (at, t) ∷ rest → kinds before ≡ (kinds front ++ t ∷ []) ++ kinds rest
kinds_behind front rest before at t e = ap kinds e ∙ kinds-append front ((at, t) ∷ rest) ∙ sym (append_assoc (kinds front) (t ∷ []) (kinds rest))

begins_there : (front rest before : Tokens) (at : ℕ) (t : Token) → before ≡ front ++ (at, t) ∷ rest → Begins (kinds before) → Begins (kinds front ++ t ∷ [])
begins_there front rest before at t e b = begins_front (kinds front ++ t ∷ []) (kinds rest) (subst Begins (kinds_behind front rest before at t e) b)

wide_among : (xs ys : List Token) → ¬ (IsNarrow (xs ++ Wide ∷ ys))
wide_among [] ys n = absurd cc
wide_among (t ∷ xs) ys n = wide_among xs ys (neither_holds (is_wide t) (list_any is_wide (xs ++ Wide ∷ ys)) n).1

wide_there : (front rest before : Tokens) (at : ℕ) → before ≡ front ++ (at, Wide) ∷ rest → ¬ (IsNarrow (kinds before))
wide_there front rest before at e n = wide_among (kinds front) (kinds rest) (subst IsNarrow (ap kinds e ∙ kinds-append front ((at, Wide) ∷ rest)) n)

-- ---- one answer

bad_bad_at : {ts : Tokens} {a b : ℕ} (x : FirstBad ts a) (y : FirstBad ts b) → Compared x.before y.before (a, x.token) (b, y.token) → a ≡ b
bad_bad_at x y (one_place e f) = ap (λ (u : ℕ × Token). u.0) f
bad_bad_at {a = a} x y (sooner c e) = absurd (x.no_more (begins_there x.before c y.before a x.token e y.begin))
bad_bad_at {b = b} x y (later c e) = absurd (y.no_more (begins_there y.before c x.before b y.token e x.begin))

-- One token is the first to be bad.
pub bad_bad : {ts : Tokens} {a b : ℕ} → FirstBad ts a → FirstBad ts b → a ≡ b
bad_bad {ts} {a} {b} x y = bad_bad_at x y (compare x.before y.before x.after y.after (a, x.token) (b, y.token) (sym x.parts ∙ y.parts))

bad_wide_at : {ts : Tokens} {a b : ℕ} (x : FirstBad ts a) (y : TooWide ts b) → Compared x.before y.before (a, x.token) (b, Wide) → ⊥
bad_wide_at x y (one_place e f) =
    let same : x.token ≡ Wide = ap (λ (u : ℕ × Token). u.1) f in
    x.no_more (subst Begins (ap (λ (u : Tokens). kinds u ++ Wide ∷ []) (sym e) ∙ ap (λ (u : Token). kinds x.before ++ u ∷ []) (sym same)) y.begin)
bad_wide_at {a = a} x y (sooner c e) = x.no_more (begins_there x.before c y.before a x.token e (begins_front (kinds y.before) (Wide ∷ []) y.begin))
bad_wide_at {b = b} x y (later c e) = wide_there y.before c x.before b e x.narrow

-- No token is both bad and a number that is too wide.
pub bad_wide : {ts : Tokens} {a b : ℕ} → FirstBad ts a → TooWide ts b → ⊥
bad_wide {ts} {a} {b} x y = bad_wide_at x y (compare x.before y.before x.after y.after (a, x.token) (b, Wide) (sym x.parts ∙ y.parts))

wide_wide_at : {ts : Tokens} {a b : ℕ} (x : TooWide ts a) (y : TooWide ts b) → Compared {A = ℕ × Token} x.before y.before (a, Wide) (b, Wide) → a ≡ b
wide_wide_at x y (one_place e f) = ap (λ (u : ℕ × Token). u.0) f
wide_wide_at {a = a} x y (sooner c e) = absurd (wide_there x.before c y.before a e y.narrow)
wide_wide_at {b = b} x y (later c e) = absurd (wide_there y.before c x.before b e x.narrow)

-- One number is the first to be too wide.
pub wide_wide : {ts : Tokens} {a b : ℕ} → TooWide ts a → TooWide ts b → a ≡ b
wide_wide {ts} {a} {b} x y = wide_wide_at x y (compare x.before y.before x.after y.after (a, Wide) (b, Wide) (sym x.parts ∙ y.parts))

-- what stands before the end is as long as that
no_later : (xs ys us c : List Token) (x : Token) → xs ++ x ∷ us ≡ ys ++ End ∷ [] → xs ≡ ys ++ End ∷ c → ⊥
no_later xs ys us c x e f =
    let whole : length (xs ++ x ∷ us) ≡ length (ys ++ End ∷ []) = ap length e in
    let front : length xs ≡ length (ys ++ End ∷ c) = ap length f in
    omega (arith, length-append xs (x ∷ us), length-append ys (End ∷ []), length-append ys (End ∷ c))

whole_kinds : {ts : Tokens} (before after : Tokens) (at : ℕ) (t : Token) → ts ≡ before ++ (at, t) ∷ after → kinds ts ≡ kinds before ++ t ∷ kinds after
whole_kinds before after at t e = ap kinds e ∙ kinds-append before ((at, t) ∷ after)

bad_spells_at : {ts : Tokens} {a : ℕ} (x : FirstBad ts a) (y : Spells ts) → kinds x.before ++ x.token ∷ kinds x.after ≡ y.tokens ++ End ∷ [] → Compared (kinds x.before) y.tokens x.token End → ⊥
bad_spells_at x y whole (one_place e f) = x.unfinished f (subst IsStatement (sym e) y.is)
bad_spells_at x y whole (sooner c e) = x.no_more (c, subst IsStatement (e ∙ sym (append_assoc (kinds x.before) (x.token ∷ []) c)) y.is)
bad_spells_at x y whole (later c e) = no_later (kinds x.before) y.tokens (kinds x.after) c x.token whole e

-- No token of a statement is bad.
pub bad_spells : {ts : Tokens} {a : ℕ} → FirstBad ts a → Spells ts → ⊥
bad_spells {a = a} x y =
    let whole : kinds x.before ++ x.token ∷ kinds x.after ≡ y.tokens ++ End ∷ [] = sym (whole_kinds x.before x.after a x.token x.parts) ∙ y.whole in
    bad_spells_at x y whole (compare (kinds x.before) y.tokens (kinds x.after) [] x.token End whole)

wide_spells_at : {ts : Tokens} {a : ℕ} (x : TooWide ts a) (y : Spells ts) → kinds x.before ++ Wide ∷ kinds x.after ≡ y.tokens ++ End ∷ [] → Compared (kinds x.before) y.tokens Wide End → ⊥
wide_spells_at x y whole (one_place e f) = absurd cc
wide_spells_at x y whole (sooner c e) = wide_among (kinds x.before) c (subst IsNarrow e y.narrow)
wide_spells_at x y whole (later c e) = no_later (kinds x.before) y.tokens (kinds x.after) c Wide whole e

-- Nor is a number of one too wide.
pub wide_spells : {ts : Tokens} {a : ℕ} → TooWide ts a → Spells ts → ⊥
wide_spells {a = a} x y =
    let whole : kinds x.before ++ Wide ∷ kinds x.after ≡ y.tokens ++ End ∷ [] = sym (whole_kinds x.before x.after a Wide x.parts) ∙ y.whole in
    wide_spells_at x y whole (compare (kinds x.before) y.tokens (kinds x.after) [] Wide End whole)

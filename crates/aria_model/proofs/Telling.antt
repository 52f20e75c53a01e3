-- What a reader answers, told by the language that it reads.
use Rattle.std.proofs.Common.{◌≡◌, ℕ, ◌+◌, ◌≤◌, List, [], ◌∷◌, ◌++◌, length, Bool, true, false, if◌then◌else◌, Result, Ok, Err, refl, sym, ap, subst, ◌∙◌, append_assoc, ◌⊎◌, inl, inr, arith}
use Rattle.std.specs.Prelude.{ℤ, ◌||◌}
use Rattle.std.specs.List.{list_any}
use Rattle.std.specs.Cmp.Lexicographic.{same_text, other_text}
use Rattle.aria_value.specs.Defined.{same_name}
use Rattle.aria_model.specs.declared.refusal.Which.{Which}
use Rattle.aria_model.specs.declared.refusal.Refusal.{Refusal}
use Rattle.aria_model.specs.declared.refusal.Refusal.TheVariants.{BadStatement, NumberTooWide, BadDefinition}
use Rattle.aria_model.specs.Token.{Token, Word, Number, Wide, Quoted, Sign, End, Stray}
use Rattle.aria_model.specs.Grammar.{Tokens, ◌>>=◌}
use Rattle.aria_model.specs.Spelling.{Language, one, ◌·◌, Either, left, right, IsWord, word, kinds, optional, is_wide, IsNarrow}
use Rattle.aria_model.proofs.Languages.{Example, Same, back, front_one, onto_one, joined_assoc, joined_same, optional_joined, HasHead, Heads, heads_one, heads_joined, Avoids, one_example, joined_example}

-- a token that a reader may pass over
abbrev pub IsTaken : Token → Type 0
IsTaken Wide = ⊥
IsTaken End = ⊥
IsTaken Stray = ⊥
IsTaken token = Unit {0}

abbrev pub AllTaken : List Token → Type 0
AllTaken [] = Unit {0}
AllTaken (t ∷ ts) = IsTaken t × AllTaken ts

taken_append : (xs ys : List Token) → AllTaken xs → AllTaken ys → AllTaken (xs ++ ys)
taken_append [] ys x y = y
taken_append (t ∷ xs) ys x y = (x.0, taken_append xs ys x.1 y)

taken_narrow : (t : Token) → IsTaken t → is_wide t ≡ false
taken_narrow Wide h = absurd h
taken_narrow t h = refl

pub narrow_append : (xs ys : List Token) → AllTaken xs → IsNarrow ys → IsNarrow (xs ++ ys)
narrow_append [] ys x y = y
narrow_append (t ∷ xs) ys x y = rw (taken_narrow t x.0) (narrow_append xs ys x.1 y)

-- the last token, and no other, is one that ends a line
abbrev pub IsEnded : Tokens → Type 0
IsEnded [] = ⊥
IsEnded ((at, End) ∷ ts) = ts ≡ []
IsEnded ((at, Stray) ∷ ts) = ts ≡ []
IsEnded ((at, token) ∷ ts) = IsEnded ts

pub ended_behind : (at : ℕ) (t : Token) (ts : Tokens) → IsTaken t → IsEnded ((at, t) ∷ ts) → IsEnded ts
ended_behind at (Word w) ts i e = e
ended_behind at (Number n) ts i e = e
ended_behind at Wide ts i e = absurd i
ended_behind at (Quoted bytes) ts i e = e
ended_behind at (Sign s) ts i e = e
ended_behind at End ts i e = absurd i
ended_behind at Stray ts i e = absurd i

pub kinds-append : (xs ys : Tokens) → kinds (xs ++ ys) ≡ kinds xs ++ kinds ys
kinds-append [] ys = refl
kinds-append ((at, t) ∷ xs) ys = ap (λ (ts : List Token). t ∷ ts) (kinds-append xs ys)

-- The token at this offset is the first with which the tokens so far begin nothing of the language.
pub record Bad (L : Language) (ts : Tokens) (at : ℕ) : Type 0 where
  pub before : Tokens
  pub token : Token
  pub after : Tokens
  pub parts : ts ≡ before ++ (at, token) ∷ after
  pub taken : AllTaken (kinds before)
  pub begin : Example (λ w. L (kinds before ++ w))
  pub no_more : (w : List Token) → ¬ (L (kinds before ++ token ∷ w))

-- The token at this offset is a number of any value, and with a number of 64 bits in its place the tokens so far begin something of the language.
pub record Wider (L : Language) (ts : Tokens) (at : ℕ) : Type 0 where
  pub before : Tokens
  pub after : Tokens
  pub parts : ts ≡ before ++ (at, Wide) ∷ after
  pub taken : AllTaken (kinds before)
  pub begin : Example (λ w. L (kinds before ++ Wide ∷ w))
  pub may_stand : (n : ℤ) → Example (λ w. L (kinds before ++ Number n ∷ w))

-- what an answer says of the tokens
pub data Told {A : Type 0} (L : Language) (ts : Tokens) : Result A Refusal → Type 0 where
  read : {x : A} → L (kinds ts) → IsNarrow (kinds ts) → Told L ts (Ok x)
  bad : {at : ℕ} → Bad L ts at → Told L ts (Err (BadStatement at))
  wider : {at : ℕ} → Wider L ts at → Told L ts (Err (NumberTooWide at))
  undefined : {which : Which} → L (kinds ts) → IsNarrow (kinds ts) → Told L ts (Err (BadDefinition which))

-- ---- from one language to another

regrouped : (front before : Tokens) (w : List Token) → kinds front ++ (kinds before ++ w) ≡ kinds (front ++ before) ++ w
regrouped front before w = sym (append_assoc (kinds front) (kinds before) w) ∙ ap (λ (u : List Token). u ++ w) (sym (kinds-append front before))

-- an answer to the tokens behind these is one to the whole
transfer : {A : Type 0} {L M : Language} (front ts : Tokens) {r : Result A Refusal} → AllTaken (kinds front)
    → ((w : List Token) → M w → L (kinds front ++ w))
    → ((before : Tokens) (at : ℕ) (token : Token) (after : Tokens) → ts ≡ before ++ (at, token) ∷ after → ((w : List Token) → ¬ (M (kinds before ++ token ∷ w))) → (w : List Token) → ¬ (L (kinds front ++ (kinds before ++ token ∷ w))))
    → Told M ts r → Told L (front ++ ts) r
transfer {L = L} front ts taken to from (read h n) = read (subst L (sym (kinds-append front ts)) (to (kinds ts) h)) (subst IsNarrow (sym (kinds-append front ts)) (narrow_append (kinds front) (kinds ts) taken n))
transfer {L = L} front ts taken to from (undefined h n) = undefined (subst L (sym (kinds-append front ts)) (to (kinds ts) h)) (subst IsNarrow (sym (kinds-append front ts)) (narrow_append (kinds front) (kinds ts) taken n))
transfer {L = L} front ts taken to from (bad {at} b) = bad (record {
  before = front ++ b.before;
  token = b.token;
  after = b.after;
  parts = ap (λ (u : Tokens). front ++ u) b.parts ∙ sym (append_assoc front b.before ((at, b.token) ∷ b.after));
  taken = subst AllTaken (sym (kinds-append front b.before)) (taken_append (kinds front) (kinds b.before) taken b.taken);
  begin = record { tokens = b.begin.tokens; holds = subst L (regrouped front b.before b.begin.tokens) (to (kinds b.before ++ b.begin.tokens) b.begin.holds) };
  no_more = λ w h. from b.before at b.token b.after b.parts b.no_more w (subst L (sym (regrouped front b.before (b.token ∷ w))) h);
})
transfer {L = L} front ts taken to from (wider {at} b) = wider (record {
  before = front ++ b.before;
  after = b.after;
  parts = ap (λ (u : Tokens). front ++ u) b.parts ∙ sym (append_assoc front b.before ((at, Wide) ∷ b.after));
  taken = subst AllTaken (sym (kinds-append front b.before)) (taken_append (kinds front) (kinds b.before) taken b.taken);
  begin = record { tokens = b.begin.tokens; holds = subst L (regrouped front b.before (Wide ∷ b.begin.tokens)) (to (kinds b.before ++ Wide ∷ b.begin.tokens) b.begin.holds) };
  may_stand = λ n. record {
    tokens = (b.may_stand n).tokens;
    holds = subst L (regrouped front b.before (Number n ∷ (b.may_stand n).tokens)) (to (kinds b.before ++ Number n ∷ (b.may_stand n).tokens) (b.may_stand n).holds);
  };
})

pub same_told : {A : Type 0} {L M : Language} {ts : Tokens} {r : Result A Refusal} → Same M L → Told M ts r → Told L ts r
same_told {ts = ts} same t = transfer [] ts tt same.to (λ before at token after parts none w h. none w (same.from (kinds before ++ token ∷ w) h)) t

pub cons_told : {A : Type 0} {L M : Language} {at : ℕ} {t : Token} {ts : Tokens} {r : Result A Refusal}
    → IsTaken t → ((w : List Token) → M w → L (t ∷ w)) → ((w : List Token) → L (t ∷ w) → M w) → Told M ts r → Told L ((at, t) ∷ ts) r
cons_told {at = at} {t = t} {ts = ts} taken to from told = transfer ((at, t) ∷ []) ts (taken, tt) to (λ before at' token after parts none w h. none w (from (kinds before ++ token ∷ w) h)) told

-- Where tokens begin something of the first, and with a further token of theirs nothing, they begin nothing of the second.
pub record Apart (M N : Language) (ts : Tokens) : Type 0 where
  pub refuses : (before : Tokens) (at : ℕ) (token : Token) (after : Tokens) → ts ≡ before ++ (at, token) ∷ after → ((w : List Token) → ¬ (M (kinds before ++ token ∷ w))) → (w : List Token) → ¬ (N (kinds before ++ token ∷ w))

neither : {M N : Language} {w : List Token} → ¬ (M w) → ¬ (N w) → ¬ (Either M N w)
neither m n (left h) = m h
neither m n (right h) = n h

pub left_told : {A : Type 0} {M N : Language} {ts : Tokens} {r : Result A Refusal} → Apart M N ts → Told M ts r → Told (Either M N) ts r
left_told {ts = ts} apart t = transfer [] ts tt (λ w m. left m) (λ before at token after parts none w h. neither (none w) (apart.refuses before at token after parts none w) h) t

pub right_told : {A : Type 0} {M N : Language} {ts : Tokens} {r : Result A Refusal} → Apart N M ts → Told N ts r → Told (Either M N) ts r
right_told {ts = ts} apart t = transfer [] ts tt (λ w m. right m) (λ before at token after parts none w h. neither (apart.refuses before at token after parts none w) (none w) h) t

-- Nothing of the second begins with the first token.
first_refuses : (N : Language) (at : ℕ) (t : Token) (rest : Tokens) → ((w : List Token) → ¬ (N (t ∷ w))) → (before : Tokens) (at' : ℕ) (token : Token) (after : Tokens) → (at, t) ∷ rest ≡ before ++ (at', token) ∷ after
    → (w : List Token) → ¬ (N (kinds before ++ token ∷ w))
first_refuses N at t rest not [] at' token after parts w h =
    let e : t ∷ kinds rest ≡ token ∷ kinds after = ap kinds parts in
    let same : t ≡ token = cc in
    not w (subst (λ (u : Token). N (u ∷ w)) (sym same) h)
first_refuses N at t rest not ((a, u) ∷ before) at' token after parts w h =
    let e : t ∷ kinds rest ≡ u ∷ kinds (before ++ (at', token) ∷ after) = ap kinds parts in
    let same : t ≡ u = cc in
    not (kinds before ++ token ∷ w) (subst (λ (v : Token). N (v ∷ (kinds before ++ token ∷ w))) (sym same) h)

pub by_first : {M N : Language} {at : ℕ} {t : Token} {rest : Tokens} → ((w : List Token) → ¬ (N (t ∷ w))) → Apart M N ((at, t) ∷ rest)
by_first {N = N} {at = at} {t = t} {rest = rest} not = record { refuses = λ before at' token after parts none. first_refuses N at t rest not before at' token after parts }

-- Something of the first begins with the first token, and nothing of the second with the first two.
second_refuses : (M N : Language) (at : ℕ) (t : Token) (at2 : ℕ) (t2 : Token) (rest : Tokens) → Example (λ w. M (t ∷ w)) → ((w : List Token) → ¬ (N (t ∷ t2 ∷ w)))
    → (before : Tokens) (at' : ℕ) (token : Token) (after : Tokens) → (at, t) ∷ (at2, t2) ∷ rest ≡ before ++ (at', token) ∷ after → ((w : List Token) → ¬ (M (kinds before ++ token ∷ w)))
    → (w : List Token) → ¬ (N (kinds before ++ token ∷ w))
second_refuses M N at t at2 t2 rest example not [] at' token after parts none w h =
    let e : t ∷ t2 ∷ kinds rest ≡ token ∷ kinds after = ap kinds parts in
    let same : t ≡ token = cc in
    none example.tokens (subst (λ (u : Token). M (u ∷ example.tokens)) same example.holds)
second_refuses M N at t at2 t2 rest example not ((a, u) ∷ []) at' token after parts none w h =
    let e : t ∷ t2 ∷ kinds rest ≡ u ∷ token ∷ kinds after = ap kinds parts in
    let first : u ≡ t = cc in
    let second : token ≡ t2 = cc in
    not w (subst (λ (v : Token). N (t ∷ v ∷ w)) second (subst (λ (v : Token). N (v ∷ token ∷ w)) first h))
second_refuses M N at t at2 t2 rest example not ((a, u) ∷ (b, v) ∷ before) at' token after parts none w h =
    let e : t ∷ t2 ∷ kinds rest ≡ u ∷ v ∷ kinds (before ++ (at', token) ∷ after) = ap kinds parts in
    let first : u ≡ t = cc in
    let second : v ≡ t2 = cc in
    let behind : List Token = kinds before ++ token ∷ w in
    not (kinds before ++ token ∷ w) (subst (λ (x : Token). N (t ∷ x ∷ (kinds before ++ token ∷ w))) second (subst (λ (x : Token). N (x ∷ v ∷ (kinds before ++ token ∷ w))) first h))

pub by_second : {M N : Language} {at : ℕ} {t : Token} {at2 : ℕ} {t2 : Token} {rest : Tokens} → Example (λ w. M (t ∷ w)) → ((w : List Token) → ¬ (N (t ∷ t2 ∷ w))) → Apart M N ((at, t) ∷ (at2, t2) ∷ rest)
by_second {M} {N} {at} {t} {at2} {t2} {rest} example not =
    record { refuses = λ before at' token after parts none. second_refuses M N at t at2 t2 rest example not before at' token after parts none }

-- The first token is one with which nothing begins.
pub bad_first : {A : Type 0} {L : Language} {at : ℕ} {t : Token} {rest : Tokens} → Example L → ((w : List Token) → ¬ (L (t ∷ w))) → Told {A = A} L ((at, t) ∷ rest) (Err (BadStatement at))
bad_first {t = t} {rest = rest} example not = bad (record { before = []; token = t; after = rest; parts = refl; taken = tt; begin = record { tokens = example.tokens; holds = example.holds }; no_more = not })

-- ---- readers

-- Whatever is read behind, as its language tells: the whole is as the two languages tell, one behind the other.
pub record From {A : Type 0} (May : Language → Type 0) (L : Language) (takes : ℕ) (behind : A → Tokens) (ts : Tokens) (r : Result A Refusal) : Type 1 where
  pub told : {B : Type 0} (M : Language) (g : A → Result B Refusal) → May M → Example M
      → ((x : A) → IsEnded (behind x) → takes + length (behind x) ≤ length ts → Told M (behind x) (g x)) → Told (L · M) ts (r >>= g)

-- Anything may stand behind.
abbrev pub Any : Language → Type 0
Any M = Unit {0}

pub steps : {A B D : Type 0} {L : Language} {ts : Tokens} (r : Result A Refusal) (f : A → Result B Refusal) (g : B → Result D Refusal) → Told L ts (r >>= λ x. (f x >>= g)) → Told L ts ((r >>= f) >>= g)
steps (Ok x) f g t = t
steps (Err why) f g t = t

-- one reader behind another
pub and_then : {A B : Type 0} {C D : Language → Type 0} {L R : Language} {k m : ℕ} {b : A → Tokens} {c : B → Tokens} {ts : Tokens} {r : Result A Refusal} {f : A → Result B Refusal}
    → From C L k b ts r → Example R → ((M : Language) → D M → C (R · M))
    → ((x : A) → IsEnded (b x) → k + length (b x) ≤ length ts → From D R m c (b x) (f x)) → From D (L · R) k c ts (r >>= f)
and_then {L = L} {R} {k} {m} {b} {c} {ts} {r} {f} first example may second = record {
  told = λ M g d ex follows. same_told (back (joined_assoc L R M)) (steps r f g
      (first.told (R · M) (λ x. f x >>= g) (may M d) (joined_example example ex)
      (λ x e l. (second x e l).told M g d ex (λ y e' l'. follows y e' (omega arith)))));
}

-- what is made of what was read
pub made : {A B : Type 0} {C : Language → Type 0} {L : Language} {k : ℕ} {b : A → Tokens} {c : B → Tokens} {ts : Tokens} {r : Result A Refusal} (h : A → B)
    → ((x : A) → c (h x) ≡ b x) → From C L k b ts r → From C L k c ts (r >>= λ x. Ok (h x))
made {k = k} {ts = ts} {r = r} h is from = record {
  told = λ M g d ex follows. steps r (λ x. Ok (h x)) g (from.told M (λ x. g (h x)) d ex (λ x e l.
      subst (λ (u : Tokens). Told M u (g (h x))) (is x) (follows (h x) (subst IsEnded (sym (is x)) e) (subst (λ (u : Tokens). k + length u ≤ length ts) (sym (is x)) l))));
}

pub from_same : {A : Type 0} {C : Language → Type 0} {L L' : Language} {k : ℕ} {b : A → Tokens} {ts : Tokens} {r : Result A Refusal} → Same L L' → From C L k b ts r → From C L' k b ts r
from_same same from = record { told = λ M g d ex follows. same_told (joined_same M same) (from.told M g d ex follows) }

-- a reader that may take less
pub fewer : {A : Type 0} {C : Language → Type 0} {L : Language} {k : ℕ} {b : A → Tokens} {ts : Tokens} {r : Result A Refusal} → From C L k b ts r → From C L 0 b ts r
fewer from = record { told = λ M g d ex follows. from.told M g d ex (λ x e l. follows x e (omega arith)) }

-- ---- one token

-- what a reader of one token answers
pub data Outcome {A : Type 0} (class : Token → Type 0) (behind : A → Tokens) (at : ℕ) (t : Token) (rest : Tokens) : Result A Refusal → Type 0 where
  passes : {x : A} → behind x ≡ rest → class t → IsTaken t → Outcome class behind at t rest (Ok x)
  fails : ¬ (class t) → Outcome class behind at t rest (Err (BadStatement at))
  is_wider : t ≡ Wide → class t → ((n : ℤ) → class (Number n)) → Outcome class behind at t rest (Err (NumberTooWide at))

one_told : {A B : Type 0} {class : Token → Type 0} {behind : A → Tokens} {at : ℕ} {t : Token} {rest : Tokens} {r : Result A Refusal} {M : Language} (g : A → Result B Refusal)
    → Outcome class behind at t rest r → Example (one class) → Example M → IsEnded ((at, t) ∷ rest)
    → ((x : A) → IsEnded (behind x) → 1 + length (behind x) ≤ length ((at, t) ∷ rest) → Told M (behind x) (g x)) → Told (one class · M) ((at, t) ∷ rest) (r >>= g)
one_told {behind = behind} {at = at} {t = t} {rest = rest} {M = M} g (passes {x} same is inside) example m ended follows =
    cons_told inside (λ w h. onto_one is h) (λ w h. (front_one h).1)
    (subst (λ (u : Tokens). Told M u (g x)) same (follows x (subst IsEnded (sym same) (ended_behind at t rest inside ended)) (subst (λ (u : Tokens). 1 + length u ≤ length ((at, t) ∷ rest)) (sym same) (omega arith))))
one_told g (fails not) example m ended follows = bad_first (joined_example example m) (λ w h. not (front_one h).0)
one_told {class = class} {at = at} {t = t} {rest = rest} {M = M} g (is_wider same is may) example m ended follows =
    wider (record { before = []; after = rest; parts = ap (λ (u : Token). (at, u) ∷ rest) same; taken = tt; begin = record { tokens = m.tokens; holds = onto_one {C = class} (subst class same is) m.holds }; may_stand = λ n. record { tokens = m.tokens; holds = onto_one {C = class} (may n) m.holds } })

pub one_from : {A : Type 0} {class : Token → Type 0} {behind : A → Tokens} {at : ℕ} {t : Token} {rest : Tokens} {r : Result A Refusal}
    → Outcome class behind at t rest r → Example (one class) → IsEnded ((at, t) ∷ rest) → From Any (one class) 1 behind ((at, t) ∷ rest) r
one_from outcome example ended = record { told = λ M g d ex follows. one_told g outcome example ex ended follows }

-- one token more in front of what is read
pub behind_one : {A : Type 0} {C : Language → Type 0} {class : Token → Type 0} {L : Language} {b : A → Tokens} {at : ℕ} {t : Token} {ts : Tokens} {r : Result A Refusal}
    → IsTaken t → class t → From C L 0 b ts r → From C (one class · L) 0 b ((at, t) ∷ ts) r
behind_one {class = class} {L} taken is from = record {
  told = λ M g d ex follows. same_told (back (joined_assoc (one class) L M)) (cons_told taken (λ w h. onto_one is h) (λ w h. (front_one h).1) (from.told M g d ex (λ x e l. follows x e (omega arith))));
}

-- ---- what is optional

-- its first token is there
pub taken : {A : Type 0} {class : Token → Type 0} {L : Language} {b : A → Tokens} {at : ℕ} {t : Token} {ts : Tokens} {r : Result A Refusal}
    → class t → From Any L 0 b ((at, t) ∷ ts) r → From (Avoids class) (optional L) 0 b ((at, t) ∷ ts) r
taken {L = L} {t = t} is from = record {
  told = λ M g d ex follows. same_told (back (optional_joined L M)) (right_told (by_first (λ w h. d.avoids t w h is)) (from.told M g tt ex follows));
}

-- it is not
pub left_out : {A : Type 0} {C : Language → Type 0} {class : Token → Type 0} {L : Language} {b : A → Tokens} {at : ℕ} {t : Token} {ts : Tokens} {x : A}
    → Heads class L → ¬ (class t) → IsEnded ((at, t) ∷ ts) → b x ≡ (at, t) ∷ ts → From C (optional L) 0 b ((at, t) ∷ ts) (Ok x)
left_out {L = L} {at = at} {t} {ts} {x} heads not e same = record {
  told = λ M g d ex follows. same_told (back (optional_joined L M)) (left_told (by_first (λ w h. not ((heads_joined M heads).heads (t ∷ w) h)))
      (subst (λ (u : Tokens). Told M u (g x)) same (follows x (subst IsEnded (sym same) e) (subst (λ (u : Tokens). 0 + length u ≤ length ((at, t) ∷ ts)) (sym same) (omega arith)))));
}

-- ---- a choice by a word

-- one of these words
abbrev pub OneOf : List (List ℕ) → List ℕ → Type 0
OneOf [] found = ⊥
OneOf (k ∷ ks) found = (found ≡ k) ⊎ OneOf ks found

abbrev pub IsOneOf : List (List ℕ) → Token → Type 0
IsOneOf ks (Word found) = OneOf ks found
IsOneOf ks token = ⊥

pub neither_holds : (a b : Bool) → (a || b) ≡ false → (a ≡ false) × (b ≡ false)
neither_holds true b e = absurd cc
neither_holds false b e = (refl, e)

none_of : (ks : List (List ℕ)) (k : List ℕ) → list_any (same_name k) ks ≡ false → ¬ (OneOf ks k)
none_of [] k e h = h
none_of (k' ∷ ks) k e (inl is) = other_text k k' (sym (neither_holds (same_name k k') (list_any (same_name k) ks) e).0) is
none_of (k' ∷ ks) k e (inr h) = none_of ks k (neither_holds (same_name k k') (list_any (same_name k) ks) e).1 h

first_word : (k : List ℕ) (ks : List (List ℕ)) (w : List Token) → HasHead (IsWord k) w → HasHead (IsOneOf (k ∷ ks)) w
first_word k ks [] h = h
first_word k ks (Word found ∷ w) h = inl h
first_word k ks (Number n ∷ w) h = h
first_word k ks (Wide ∷ w) h = h
first_word k ks (Quoted bytes ∷ w) h = h
first_word k ks (Sign s ∷ w) h = h
first_word k ks (End ∷ w) h = h
first_word k ks (Stray ∷ w) h = h

more_words : (k : List ℕ) (ks : List (List ℕ)) (w : List Token) → HasHead (IsOneOf ks) w → HasHead (IsOneOf (k ∷ ks)) w
more_words k ks [] h = h
more_words k ks (Word found ∷ w) h = inr h
more_words k ks (Number n ∷ w) h = h
more_words k ks (Wide ∷ w) h = h
more_words k ks (Quoted bytes ∷ w) h = h
more_words k ks (Sign s ∷ w) h = h
more_words k ks (End ∷ w) h = h
more_words k ks (Stray ∷ w) h = h

pub heads_word : (k : List ℕ) (P : Language) → Heads (IsOneOf (k ∷ [])) (word k · P)
heads_word k P = record { heads = λ w j. first_word k [] w ((heads_joined P (heads_one (IsWord k))).heads w j) }

heads_words_at : {P R : Language} {k : List ℕ} (ks : List (List ℕ)) {w : List Token} → Heads (IsOneOf ks) R → Either (word k · P) R w → HasHead (IsOneOf (k ∷ ks)) w
heads_words_at {P} {R} {k} ks {w} heads (left j) = first_word k ks w ((heads_joined P (heads_one (IsWord k))).heads w j)
heads_words_at {P} {R} {k} ks {w} heads (right h) = more_words k ks w (heads.heads w h)

pub heads_words : {P R : Language} {k : List ℕ} (ks : List (List ℕ)) → Heads (IsOneOf ks) R → Heads (IsOneOf (k ∷ ks)) (Either (word k · P) R)
heads_words ks heads = record { heads = λ w h. heads_words_at ks heads h }

pub word_first : {A : Type 0} {P : Language} {k found : List ℕ} {at : ℕ} {ts : Tokens} {r : Result A Refusal} → found ≡ k → Told P ts r → Told (word k · P) ((at, Word found) ∷ ts) r
word_first is t = cons_told tt (λ w h. onto_one is h) (λ w h. (front_one h).1) t

-- this word's statement, or others
pub choose : {A : Type 0} {P R : Language} (ks : List (List ℕ)) {k found : List ℕ} {at : ℕ} {ts : Tokens} {r r' : Result A Refusal} (b : Bool)
    → b ≡ same_name found k → Heads (IsOneOf ks) R → list_any (same_name k) ks ≡ false
    → Told P ts r → Told R ((at, Word found) ∷ ts) r' → Told (Either (word k · P) R) ((at, Word found) ∷ ts) (if b then r else r')
choose {R = R} ks {k} {found} true e heads apart here others =
    let is : found ≡ k = same_text found k e in
    left_told (by_first (λ w h. none_of ks k apart (subst (OneOf ks) is (heads.heads (Word found ∷ w) h)))) (word_first is here)
choose ks {k} {found} false e heads apart here others = right_told (by_first (λ w h. other_text found k e (front_one h).0)) others

-- this word's, and no others
pub choose_last : {A : Type 0} {P : Language} {k found : List ℕ} {at : ℕ} {ts : Tokens} {r : Result A Refusal} (b : Bool)
    → b ≡ same_name found k → Example P → Told P ts r → Told (word k · P) ((at, Word found) ∷ ts) (if b then r else Err (BadStatement at))
choose_last {k = k} {found} true e example here = word_first (same_text found k e) here
choose_last {k = k} {found} false e example here = bad_first (joined_example (one_example (Word k) refl) example) (λ w h. other_text found k e (front_one h).0)

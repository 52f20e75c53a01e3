-- What is told, one call after the other.
use Rattle.std.proofs.Common.{◌≡◌, ℕ, zero, suc, ◌+◌, Bool, true, false, IsTrue, List, [], ◌∷◌, ◌++◌, length, take, Result, Ok, Err, refl, sym, ◌∙◌, ap, inl, arith, rules, append_assoc}
use Rattle.std.specs.Result.{OnErr, IsErr, is_ok}
use Rattle.std.proofs.lemmas.List.{append-nil}
use Rattle.std.proofs.Math.Seq.{take-append-add}
use Rattle.aria_host.specs.declared.host.Stream.TheVariants.{Out}
use Rattle.aria_host.specs.Calls.{Narrows, Tells}
use Rattle.aria_host.specs.State.{Folder, State, LeavesOnly}
use Rattle.aria_host.proofs.Moments.{started, goes_on, joined, weakened}
use Rattle.aria_readlog.specs.Telling.{AtFront, Shows}

-- a fact that holds whatever is answered
pub on_err : {T E P : Type 0} (r : Result T E) → P → OnErr r P
on_err (Ok x) p = tt
on_err (Err e) p = p

-- since this moment there is no other
abbrev pub OnlyNow : State → Type 0
OnlyNow s = (c : Folder) (b : List ℕ) → s.since s.moment c b → s.may_leave c × (b ≡ s.out)

none_of : (n : ℕ) → take {A = ℕ} n [] ≡ []
none_of zero = refl
none_of (suc n) = refl

-- nothing was told
told_nothing : (s : State) (text : List ℕ) → s.out ≡ s.out ++ take 0 text
told_nothing s text = sym (append-nil s.out)

-- no call yet
pub still : (s : State) → Narrows s s
still s = record {
  folder = refl;
  no_more = λ c leaves. leaves;
  tells = record { out = refl; err = refl; time = record { later = omega arith; nothing_else = λ t c b le left. inl left; keeps = λ t c b le left. left } };
}

-- no moment but this
begins : (s : State) (text : List ℕ) → OnlyNow s → LeavesOnly s s (AtFront s text)
begins s text only = started s (AtFront s text) (λ c b left. let now = only c b left in (now.0, 0, now.1 ∙ told_nothing s text))

-- a front of a text is a front of a longer one
part_more : (text more : List ℕ) (n : ℕ) → (k : ℕ) × (take n text ≡ take k (text ++ more))
part_more [] more n = (0, none_of n)
part_more (b ∷ text) more zero = (0, refl)
part_more (b ∷ text) more (suc n) = let (k, is) = part_more text more n in (suc k, ap (λ (l : List ℕ). b ∷ l) is)

-- and behind a text
part_behind : (out front text : List ℕ) (n : ℕ) → (out ++ front) ++ take n text ≡ out ++ take (length front + n) (front ++ text)
part_behind out front text n = append_assoc out front (take n text) ∙ ap (λ (l : List ℕ). out ++ l) (sym (take-append-add front text n))

-- a call that only looks, or that lists names
pub shows_none : (old new : State) (text : List ℕ) (done : Bool) → OnlyNow old → Narrows old new → (IsTrue done → text ≡ []) → Shows text old new done
shows_none old new text done only same none = record {
  whole = λ is. same.tells.out ∙ sym (append-nil old.out) ∙ ap (λ (l : List ℕ). old.out ++ l) (sym (none is));
  part = (0, same.tells.out ∙ told_nothing old text);
  err = same.tells.err;
  folder = same.folder;
  images = same.no_more;
  moments = goes_on old old new [] (AtFront old text) (begins old text only) same.tells.time
      (λ c n leaves. (same.no_more c leaves, 0, ap (λ (l : List ℕ). old.out ++ l) (none_of n)));
}

-- a call that tells
pub shows_told : (old new : State) (text : List ℕ) (done : Bool) → OnlyNow old → Tells Out text old new done → Shows text old new done
shows_told old new text done only tells = record {
  whole = tells.whole;
  part = tells.part;
  err = tells.other;
  folder = tells.folder;
  images = tells.images.no_more;
  moments = goes_on old old new text (AtFront old text) (begins old text only) tells.time
      (λ c n leaves. (tells.images.no_more c leaves, n, refl));
}

-- one text and then another
pub shows_then : (a b c : State) (first second : List ℕ) (done : Bool) → Shows first a b true → Shows second b c done → Shows (first ++ second) a c done
shows_then a b c first second done one two =
    let out = one.whole refl in
    record {
      whole = λ is. two.whole is ∙ ap (λ (l : List ℕ). l ++ second) out ∙ append_assoc a.out first second;
      part = (length first + two.part.0, two.part.1 ∙ ap (λ (l : List ℕ). l ++ take two.part.0 second) out ∙ part_behind a.out first second two.part.0);
      err = two.err ∙ one.err;
      folder = two.folder ∙ one.folder;
      images = λ d leaves. one.images d (two.images d leaves);
      moments = joined a b c (AtFront a (first ++ second)) (AtFront b second)
          (weakened a b (AtFront a first) (AtFront a (first ++ second)) one.moments
          (λ d told (leaves, n, is). let (k, more) = part_more first second n in (leaves, k, is ∙ ap (λ (l : List ℕ). a.out ++ l) more)))
          two.moments
          (λ d told (leaves, n, is). (one.images d leaves, length first + n, is ∙ ap (λ (l : List ℕ). l ++ take n second) out ∙ part_behind a.out first second n));
    }

-- a text, of which a part was to be told
pub shows_part : (a b : State) (text more all : List ℕ) (done : Bool) → text ++ more ≡ all → Shows text a b done → Shows all a b false
shows_part a b text more all done whole shows =
    let at_front : (told : List ℕ) → (n : ℕ) × (told ≡ a.out ++ take n text) → (n : ℕ) × (told ≡ a.out ++ take n all) =
    λ told (n, is). let (k, same) = part_more text more n in
    (k, is ∙ ap (λ (l : List ℕ). a.out ++ l) same ∙ ap (λ (l : List ℕ). a.out ++ take k l) whole) in
    record {
      whole = λ is. absurd (let e : false ≡ true = is in (cc));
      part = at_front b.out shows.part;
      err = shows.err;
      folder = shows.folder;
      images = shows.images;
      moments = weakened a b (AtFront a text) (AtFront a all) shows.moments (λ d told (leaves, n, is). let (k, told_is) = at_front told (n, is) in (leaves, k, told_is));
    }

-- a call that only looks, and then one that tells
pub shows_after : (a b c : State) (text : List ℕ) (done : Bool) → OnlyNow a → Narrows a b → Shows text b c done → Shows text a c done
shows_after a b c text done only same shows = shows_then a b c [] text done (shows_none a b [] true only same (λ is. refl)) shows

-- what a call that failed told
pub shows_err : {T E : Type 0} (r : Result T E) (a b : State) (text : List ℕ) → IsErr r → Shows text a b false → Shows text a b (is_ok r)
shows_err (Ok x) a b text err shows = absurd (search rules)
shows_err (Err e) a b text err shows = shows

-- That what the fates leave of a record is what a crash may leave.
use Rattle.std.proofs.Common.{◌≡◌, ◌||◌, inl, inr, ℕ, ◌+◌, ◌<◌, ◌≤◌, Bool, true, false, cond, Option, None, Some, List, [], ◌∷◌, ◌++◌, length, take, drop, reverse, option_to_list, get_or, unwrap_or, refl, sym, ◌∙◌, ap, subst, append_assoc}
use Rattle.std.specs.Bool.{MatchBool}
use Rattle.std.specs.Option.{option_map}
use Rattle.std.proofs.lemmas.Bool.{cases_Bool, false_from_ne_true}
use Rattle.std.proofs.lemmas.Bool.Decides.{when_true}
use Rattle.std.proofs.lemmas.List.{reverse-append, append-nil, drop_more, drop_all}
use Rattle.aria_host.specs.declared.memory.effect.Effect.{Effect}
use Rattle.aria_host.specs.declared.memory.effect.Effect.TheVariants.{Wrote, Cut, Created, Removed, Synced, Set, Told}
use Rattle.aria_host.specs.declared.memory.fate.Fate.{Fate}
use Rattle.aria_host.specs.declared.memory.fate.Fate.TheVariants.{Kept, Lost, Torn}
use Rattle.aria_host.specs.declared.file_name.FileName.{FileName}
use Rattle.aria_host.specs.Crash.{is_synced, next_fate, LeavesOfWrite, LeavesOfCut, Survive}
use Rattle.aria_host.specs.Effect.{after, reads, MayLeave, with_set}
use Rattle.aria_host.specs.Folder.{Folder, same_file, put_page, with_file, with_page, with_cut}
use Rattle.aria_host.specs.Steps.{MayWrite, MayCut}
use Rattle.aria_host.proofs.Files.{same_file-refl, same_file-true, with_file-other}

abbrev Content : Type 0
Content = Option (List (List ℕ))

-- a change of one file leaves a file alike in two folders where it is alike before
alike : (g f : FileName) (F : Content → Content) (d r : Folder) → d f ≡ r f → with_file g (F (d g)) d f ≡ with_file g (F (r g)) r f
alike g f F d r same = elim (cases_Bool (same_file g f)) [
  | inl here ↦
      let is : g ≡ f = same_file-true g f here in
      let content : F (d g) ≡ F (r g) = ap F (ap d is ∙ same ∙ sym (ap r is)) in
      λ i. cond (same_file g f) (content i) (same i)
  | inr there ↦ with_file-other g f (F (d g)) d there ∙ same ∙ sym (with_file-other g f (F (r g)) r there)
]

-- any change does
after_alike : (change : Effect) (f : FileName) (d r : Folder) → d f ≡ r f → after change d f ≡ after change r f
after_alike (Wrote g at page) f d r same = alike g f (option_map (put_page at page)) d r same
after_alike (Cut g n) f d r same = alike g f (option_map (take n)) d r same
after_alike (Created g) f d r same = alike g f (λ _. Some []) d r same
after_alike (Removed g) f d r same = alike g f (λ _. None) d r same
after_alike (Synced g) f d r same = same
after_alike (Set g at page) f d r same = alike g f (λ content. Some (put_page at page (unwrap_or content []))) d r same
after_alike (Told stream n) f d r same = same

-- the folder after some changes, oldest first
abbrev replay : Folder → List Effect → Folder
replay folder [] = folder
replay folder (change ∷ changes) = replay (after change folder) changes

-- some changes on a record, oldest first
abbrev onto : List Effect → List Effect → List Effect
onto [] past = past
onto (change ∷ changes) past = onto changes (change ∷ past)

-- what comes of a write, or of a cut, of some fate
pub record Comes (g : FileName) (step : Folder → Folder → Type 0) (d : Folder) (now : List Effect) : Type 0 where
  pub image : Folder
  pub is : (rest : List Effect) → replay d (now ++ rest) ≡ replay image rest
  pub may : step d image
  pub others : (f : FileName) → same_file g f ≡ false → image f ≡ d f

-- a write that is lost
lost_write : (g : FileName) (at : ℕ) (page : List ℕ) (d : Folder) (now : List Effect) → now ≡ [] → Comes g (MayWrite g at page) d now
lost_write g at page d now none = record { image = d; is = λ rest. ap (λ (l : List Effect). replay d (l ++ rest)) none; may = inl refl; others = λ f other. refl }

write_comes : (g : FileName) (at : ℕ) (page : List ℕ) (d : Folder) (fate : Fate) (now : List Effect) → LeavesOfWrite g at page fate now → Comes g (MayWrite g at page) d now
write_comes g at page d Kept now one = record {
  image = with_page g at page d;
  is = λ rest. ap (λ (l : List Effect). replay d (l ++ rest)) one;
  may = inr (inl refl);
  others = λ f other. with_file-other g f (option_map (put_page at page) (d g)) d other;
}
write_comes g at page d Lost now none = lost_write g at page d now none
write_comes g at page d (Torn torn) now (inl (log, long, unsound, one)) = record {
  image = with_page g at torn d;
  is = λ rest. ap (λ (l : List Effect). replay d (l ++ rest)) one;
  may = inr (inr (log, torn, long, λ sums. unsound (inl sums), refl));
  others = λ f other. with_file-other g f (option_map (put_page at torn) (d g)) d other;
}
write_comes g at page d (Torn torn) now (inr (either, none)) = lost_write g at page d now none

lost_cut : (g : FileName) (n : ℕ) (d : Folder) (now : List Effect) → now ≡ [] → Comes g (MayCut g n) d now
lost_cut g n d now none = record { image = d; is = λ rest. ap (λ (l : List Effect). replay d (l ++ rest)) none; may = inl refl; others = λ f other. refl }

cut_comes : (g : FileName) (n : ℕ) (d : Folder) (fate : Fate) (now : List Effect) → LeavesOfCut g n fate now → Comes g (MayCut g n) d now
cut_comes g n d Kept now one = record {
  image = with_cut g n d;
  is = λ rest. ap (λ (l : List Effect). replay d (l ++ rest)) one;
  may = inr refl;
  others = λ f other. with_file-other g f (option_map (take n) (d g)) d other;
}
cut_comes g n d Lost now none = lost_cut g n d now none
cut_comes g n d (Torn torn) now none = lost_cut g n d now none

-- a file that is synced later isn't one that isn't
apart : (g f : FileName) (later : List Effect) → is_synced g later ≡ false → is_synced f later ≡ true → same_file g f ≡ false
apart g f later never synced =
    false_from_ne_true (same_file g f) (λ (same : same_file g f ≡ true). let e : is_synced f later ≡ false = subst (λ (h : FileName). is_synced h later ≡ false) (same_file-true g f same) never in absurd (cc))

when_false : {b : Bool} (P Q : Type 0) → b ≡ false → MatchBool b P Q → Q
when_false P Q is holds = subst (λ (b : Bool). MatchBool b P Q) is holds

-- What is left of the changes is an image: each file that is synced later reads in the image as it does.
pub crash_leaves : (base : Folder) (changes : List Effect) (fates : List Fate) (left past : List Effect) (d : Folder) → Survive changes fates left → MayLeave base past d
    → ((f : FileName) → is_synced f changes ≡ true → d f ≡ reads base past f) → MayLeave base (onto changes past) (replay d left)
crash_leaves base [] fates left past d none leaves synced = subst (λ (l : List Effect). MayLeave base past (replay d l)) (sym none) leaves
crash_leaves base (Wrote g at page ∷ later) fates left past d survive leaves synced = elim (cases_Bool (is_synced g later)) [
  | inl certain ↦
      let kept = when_true _ _ certain survive in
      subst (λ (l : List Effect). MayLeave base (onto later (Wrote g at page ∷ past)) (replay d l)) (sym kept.1)
      (crash_leaves base later fates kept.0 (Wrote g at page ∷ past) (with_page g at page d) kept.2 (d, leaves, inr (inl refl)) (λ f s. after_alike (Wrote g at page) f d (reads base past) (synced f s)))
  | inr open_ ↦
      let given = when_false _ _ open_ survive in
      let comes = write_comes g at page d (next_fate fates) given.0 given.2 in
      subst (λ (c : Folder). MayLeave base (onto later (Wrote g at page ∷ past)) c) (sym (ap (replay d) given.3 ∙ comes.is given.1))
      (crash_leaves base later (drop 1 fates) given.1 (Wrote g at page ∷ past) comes.image given.4 (d, leaves, comes.may)
      (λ f s. let other = apart g f later open_ s in comes.others f other ∙ synced f s ∙ sym (with_file-other g f (option_map (put_page at page) (reads base past g)) (reads base past) other)))
]
crash_leaves base (Cut g n ∷ later) fates left past d survive leaves synced = elim (cases_Bool (is_synced g later)) [
  | inl certain ↦
      let kept = when_true _ _ certain survive in
      subst (λ (l : List Effect). MayLeave base (onto later (Cut g n ∷ past)) (replay d l)) (sym kept.1)
      (crash_leaves base later fates kept.0 (Cut g n ∷ past) (with_cut g n d) kept.2 (d, leaves, inr refl) (λ f s. after_alike (Cut g n) f d (reads base past) (synced f s)))
  | inr open_ ↦
      let given = when_false _ _ open_ survive in
      let comes = cut_comes g n d (next_fate fates) given.0 given.2 in
      subst (λ (c : Folder). MayLeave base (onto later (Cut g n ∷ past)) c) (sym (ap (replay d) given.3 ∙ comes.is given.1))
      (crash_leaves base later (drop 1 fates) given.1 (Cut g n ∷ past) comes.image given.4 (d, leaves, comes.may)
      (λ f s. let other = apart g f later open_ s in comes.others f other ∙ synced f s ∙ sym (with_file-other g f (option_map (take n) (reads base past g)) (reads base past) other)))
]
crash_leaves base (Created g ∷ later) fates left past d (rest, is, survive) leaves synced =
    subst (λ (l : List Effect). MayLeave base (onto later (Created g ∷ past)) (replay d l)) (sym is)
    (crash_leaves base later fates rest (Created g ∷ past) (after (Created g) d) survive (d, leaves, inl refl) (λ f s. after_alike (Created g) f d (reads base past) (synced f s)))
crash_leaves base (Removed g ∷ later) fates left past d (rest, is, survive) leaves synced =
    subst (λ (l : List Effect). MayLeave base (onto later (Removed g ∷ past)) (replay d l)) (sym is)
    (crash_leaves base later fates rest (Removed g ∷ past) (after (Removed g) d) survive (d, leaves, inl refl) (λ f s. after_alike (Removed g) f d (reads base past) (synced f s)))
crash_leaves base (Set g at page ∷ later) fates left past d (rest, is, survive) leaves synced =
    subst (λ (l : List Effect). MayLeave base (onto later (Set g at page ∷ past)) (replay d l)) (sym is)
    (crash_leaves base later fates rest (Set g at page ∷ past) (with_set g at page d) survive (d, leaves, refl) (λ f s. after_alike (Set g at page) f d (reads base past) (synced f s)))
crash_leaves base (Synced g ∷ later) fates left past d survive leaves synced =
    let here : is_synced g (Synced g ∷ later) ≡ true = ap (λ (b : Bool). b || is_synced g later) (same_file-refl g) in
    crash_leaves base later fates left (Synced g ∷ past) d survive (leaves, synced g here)
    (λ f s. synced f (ap (λ (b : Bool). same_file g f || b) s ∙ or_true (same_file g f)))
  where
    or_true : (b : Bool) → (b || true) ≡ true
    or_true true = refl
    or_true false = refl
crash_leaves base (Told stream n ∷ later) fates left past d survive leaves synced =
    crash_leaves base later fates left (Told stream n ∷ past) d survive leaves synced

-- changes on a record are the record, newest first
onto-is : (changes past : List Effect) → onto changes past ≡ reverse changes ++ past
onto-is [] past = refl
onto-is (change ∷ changes) past =
    onto-is changes (change ∷ past) ∙ sym (append_assoc (reverse changes) (change ∷ []) past)
    ∙ ap (λ (l : List Effect). l ++ past) (sym (reverse-append (change ∷ []) changes))

-- what a record reads, in two parts
pub reads-append : (base : Folder) (new old : List Effect) → reads base (new ++ old) ≡ reads (reads base old) new
reads-append base [] old = refl
reads-append base (change ∷ new) old = ap (after change) (reads-append base new old)

reads-reverse : (folder : Folder) (changes : List Effect) → reads folder (reverse changes) ≡ replay folder changes
reads-reverse folder [] = refl
reads-reverse folder (change ∷ changes) =
    ap (reads folder) (reverse-append (change ∷ []) changes) ∙ reads-append folder (reverse changes) (change ∷ []) ∙ reads-reverse (after change folder) changes

-- What the fates leave is an image.
pub crash_is_image : (base : Folder) (changes : List Effect) (fates : List Fate) (left : List Effect) → Survive changes fates left
    → MayLeave base (reverse changes) (reads base (reverse left))
crash_is_image base changes fates left survive =
    let all : onto changes [] ≡ reverse changes = onto-is changes [] ∙ append-nil (reverse changes) in
    let image = crash_leaves base changes fates left [] base survive refl (λ f s. refl) in
    subst (λ (c : Folder). MayLeave base (reverse changes) c) (sym (reads-reverse base left)) (subst (λ (l : List Effect). MayLeave base l (replay base left)) all image)

-- what a pass over the changes has left so far
pub record Left (changes : List Effect) (i : ℕ) (given fates : List Fate) (before all : List Effect) : Type 0 where
  pub so_far : List Effect
  pub is : all ≡ before ++ so_far
  pub goes_on : (rest : List Effect) → Survive (drop i changes) fates rest → Survive changes given (so_far ++ rest)

-- a pass that begins
pub left_none : (changes : List Effect) (fates : List Fate) (before : List Effect) → Left changes 0 fates fates before before
left_none changes fates before = record { so_far = []; is = sym (append-nil before); goes_on = λ rest s. s }

-- one change more
pub left_more : (changes : List Effect) (i : ℕ) (change : Effect) (given fates next : List Fate) (before all new : List Effect) (left : Option Effect)
    → i < length changes → change ≡ get_or changes i change → Left changes i given fates before all
    → ((rest : List Effect) → Survive (drop (i + 1) changes) next rest → Survive (change ∷ drop (i + 1) changes) fates (option_to_list left ++ rest))
    → new ≡ all ++ option_to_list left → Left changes (i + 1) given next before new
left_more changes i change given fates next before all new left below item so_far step added = record {
  so_far = so_far.so_far ++ option_to_list left;
  is = added ∙ ap (λ (l : List Effect). l ++ option_to_list left) so_far.is ∙ append_assoc before so_far.so_far (option_to_list left);
  goes_on = λ rest s.
      let here : drop i changes ≡ change ∷ drop (i + 1) changes = drop_more changes i change below ∙ ap (λ (e : Effect). e ∷ drop (i + 1) changes) (sym item) in
      let now = subst (λ (l : List Effect). Survive l fates (option_to_list left ++ rest)) (sym here) (step rest s) in
      subst (Survive changes given) (sym (append_assoc so_far.so_far (option_to_list left) rest)) (so_far.goes_on (option_to_list left ++ rest) now);
}

-- a pass that ends
pub left_all : (changes : List Effect) (i : ℕ) (given fates : List Fate) (before all : List Effect) → length changes ≤ i → Left changes i given fates before all
    → (left : List Effect) × (all ≡ before ++ left) × Survive changes given left
left_all changes i given fates before all end so_far =
    let none : drop i changes ≡ [] = drop_all i changes end in
    let rest = subst (λ (l : List Effect). Survive l fates []) (sym none) refl in
    (so_far.so_far, so_far.is, subst (Survive changes given) (append-nil so_far.so_far) (so_far.goes_on [] rest))

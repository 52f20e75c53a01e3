-- Log files are removed, the lowest first.
use Rattle.std.proofs.Common.{◌≡◌, ◌==◌, inl, inr, ℕ, zero, suc, ◌+◌, ◌^◌, ◌<◌, ◌≤◌, min, Bool, true, false, cond, IsTrue, Option, None, Some, is_some, List, [], ◌∷◌, ◌++◌, take, count_by, refl, sym, ◌∙◌, ap, subst, arith, rules}
use Rattle.std.specs.Prelude.{IsSome, nat_le, nat_lt}
use Rattle.std.proofs.lemmas.Bool.{cases_Bool, cases_lt, eqb-true, eq-eqb}
use Rattle.std.proofs.lemmas.Bool.Decides.{nat_tests}
use Rattle.std.proofs.lemmas.List.{append-nil}
use Rattle.std.proofs.lemmas.List.Sums.{sum_by-append}
use Rattle.aria_host.specs.declared.file_name.FileName.{FileName}
use Rattle.aria_host.specs.declared.file_name.FileName.TheVariants.{Control, Log, Keys, Rows, NewKeys, NewRows}
use Rattle.aria_host.specs.Folder.{Folder, IsFileName, same_file, with_file}
use Rattle.aria_host.specs.State.{State, LeavesOnly}
use Rattle.aria_host.specs.Steps.{MayMake}
use Rattle.aria_host.specs.Calls.{Lists, HaveNames, Narrows, Removes}
use Rattle.aria_host.proofs.Files.{with_file-same, with_file-other}
use Rattle.aria_host.proofs.Moments.{OnlyNow, started, goes_on, joined, weakened}
use Rattle.aria_log.proofs.Counting.{not_done}
use Rattle.aria_log.specs.Purge.{is_log_below, IsWithout, IsPurged, AtPurge, Purges, number_from, IsLowest}

-- ---- names

-- one name more
count_push : (f g : FileName) (names : List FileName) → count_by (same_file f) (names ++ g ∷ []) ≡ count_by (same_file f) names + cond (same_file f g) 1 0
count_push f g names = sum_by-append (λ n. cond (same_file f n) 1 0) names (g ∷ []) ∙ omega arith

-- a file with a higher number, or one below the first, is another one
higher_other : (n first end : ℕ) (file : FileName) → first ≤ n → n < end → n < number_from first end file → same_file (Log n) file ≡ false
higher_other n first end Control from low less = refl
higher_other n first end (Keys name) from low less = refl
higher_other n first end (Rows name) from low less = refl
higher_other n first end (NewKeys name) from low less = refl
higher_other n first end (NewRows name) from low less = refl
higher_other n first end (Log m) from low less = elim (cases_Bool (nat_le first m)) [
  | inl inside ↦ let e : number_from first end (Log m) ≡ m = ap (λ (b : Bool). cond b m end) inside in grind (arith, e)
  | inr below ↦ grind (arith, nat_tests, below)
]

-- it is a log file, unless it stands for the end
number_is : (first end : ℕ) (file : FileName) → number_from first end file < end → same_file (Log (number_from first end file)) file ≡ true
number_is first end Control less = absurd (omega (arith, less))
number_is first end (Keys name) less = absurd (omega (arith, less))
number_is first end (Rows name) less = absurd (omega (arith, less))
number_is first end (NewKeys name) less = absurd (omega (arith, less))
number_is first end (NewRows name) less = absurd (omega (arith, less))
number_is first end (Log m) less = elim (cases_Bool (nat_le first m)) [
  | inl inside ↦ eq-eqb (number_from first end (Log m)) m (ap (λ (b : Bool). cond b m end) inside)
  | inr below ↦ absurd (let e : number_from first end (Log m) ≡ end = ap (λ (b : Bool). cond b m end) below in omega (arith, e, less))
]

-- it isn't below the first
number_above : (first end : ℕ) (file : FileName) → first ≤ end → first ≤ number_from first end file
number_above first end Control upto = upto
number_above first end (Keys name) upto = upto
number_above first end (Rows name) upto = upto
number_above first end (NewKeys name) upto = upto
number_above first end (NewRows name) upto = upto
number_above first end (Log m) upto = elim (cases_Bool (nat_le first m)) [
  | inl inside ↦ let e : number_from first end (Log m) ≡ m = ap (λ (b : Bool). cond b m end) inside in grind (arith, nat_tests, e, inside)
  | inr below ↦ let e : number_from first end (Log m) ≡ end = ap (λ (b : Bool). cond b m end) below in omega (arith, e, upto)
]

pub lowest_none : (first end : ℕ) → first ≤ end → IsLowest [] first end end
lowest_none first end upto = record { from = upto; upto = omega arith; none = λ n from less. refl; here = inl refl }

pub lowest_more : (names : List FileName) (first end lowest : ℕ) (file : FileName) → IsLowest names first end lowest → IsLowest (names ++ file ∷ []) first end (min lowest (number_from first end file))
lowest_more names first end lowest file is =
    let this : ℕ = number_from first end file in
    record {
      from = omega (arith, is.from, number_above first end file (omega (arith, is.from, is.upto)));
      upto = omega (arith, is.upto);
      none = λ n from less.
          count_push (Log n) file names ∙ ap (λ (k : ℕ). k + cond (same_file (Log n) file) 1 0) (is.none n from (omega (arith, less)))
          ∙ ap (λ (b : Bool). 0 + cond b 1 0) (higher_other n first end file from (omega (arith, less, is.upto)) (omega (arith, less)));
      here = elim (cases_lt this lowest) [
        | inl less ↦
            let chosen : min lowest this ≡ this = omega (arith, less) in
            inr (subst (λ (k : ℕ). 1 ≤ count_by (same_file (Log k)) (names ++ file ∷ [])) (sym chosen)
            (omega (arith, count_push (Log this) file names, ap {B = ℕ} (λ (b : Bool). cond b 1 0) (number_is first end file (omega (arith, less, is.upto))))))
        | inr past ↦
            let chosen : min lowest this ≡ lowest = omega (arith, past) in
            elim is.here [
              | inl last ↦ inl (chosen ∙ last)
              | inr some ↦ inr (subst (λ (k : ℕ). 1 ≤ count_by (same_file (Log k)) (names ++ file ∷ [])) (sym chosen) (omega (arith, count_push (Log lowest) file names, some)))
            ]
      ];
    }

-- a file is there exactly where its name is listed
none_listed : (o : Option (List (List ℕ))) (n : ℕ) → n ≡ 0 → n ≡ cond (is_some o) 1 0 → o ≡ None
none_listed None n no_times e = refl
none_listed (Some pages) n no_times e = absurd (omega (arith, e, no_times))

some_listed : (o : Option (List (List ℕ))) (n : ℕ) → 1 ≤ n → n ≡ cond (is_some o) 1 0 → IsSome o
some_listed None n some e = absurd (omega (arith, e, some))
some_listed (Some pages) n some e = search rules

-- ---- images

-- a folder without files below a number has none there
without_below : (low n : ℕ) (d c : Folder) → IsWithout low d c → n < 2 ^ 24 → n < low → c (Log n) ≡ None
without_below low n d c is form below = is (Log n) form ∙ ap (λ (b : Bool). cond b None (d (Log n))) (let t : nat_lt n low ≡ true = grind (arith, nat_tests, below) in t)

-- and all others
pub without_from : (low n : ℕ) (d c : Folder) → IsWithout low d c → n < 2 ^ 24 → low ≤ n → c (Log n) ≡ d (Log n)
without_from low n d c is form from = is (Log n) form ∙ ap (λ (b : Bool). cond b None (d (Log n))) (let t : nat_lt n low ≡ false = grind (arith, nat_tests, from) in t)

-- two folders of which one is the other without files below a number, said file by file
made_without : (low : ℕ) (d c : Folder) → ((f : FileName) → IsFileName f → is_log_below low f ≡ false → c f ≡ d f) → ((n : ℕ) → n < 2 ^ 24 → n < low → c (Log n) ≡ None) → IsWithout low d c
made_without low d c others below Control form = others Control form refl
made_without low d c others below (Keys name) form = others (Keys name) form refl
made_without low d c others below (Rows name) form = others (Rows name) form refl
made_without low d c others below (NewKeys name) form = others (NewKeys name) form refl
made_without low d c others below (NewRows name) form = others (NewRows name) form refl
made_without low d c others below (Log n) form = elim (cases_Bool (nat_lt n low)) [
  | inl less ↦ below n form (grind (arith, nat_tests, less)) ∙ sym (ap (λ (b : Bool). cond b None (d (Log n))) less)
  | inr past ↦ others (Log n) form past ∙ sym (ap (λ (b : Bool). cond b None (d (Log n))) past)
]

-- nothing was removed
without_none : (d : Folder) → IsWithout 0 d d
without_none d = made_without 0 d d (λ f form past. refl) (λ n form less. absurd (omega (arith, less)))

-- a file that isn't below a number isn't below a lower one
not_lower : (low high : ℕ) (f : FileName) → low ≤ high → is_log_below high f ≡ false → is_log_below low f ≡ false
not_lower low high Control le past = refl
not_lower low high (Log n) le past = grind (arith, nat_tests, past)
not_lower low high (Keys name) le past = refl
not_lower low high (Rows name) le past = refl
not_lower low high (NewKeys name) le past = refl
not_lower low high (NewRows name) le past = refl

not_below : (low : ℕ) (f : FileName) → is_log_below (low + 1) f ≡ false → is_log_below low f ≡ false
not_below low f past = not_lower low (low + 1) f (omega arith) past

-- the next files aren't there
without_skip : (low high : ℕ) (d c : Folder) → low ≤ high → ((n : ℕ) → low ≤ n → n < high → d (Log n) ≡ None) → IsWithout low d c → IsWithout high d c
without_skip low high d c le none is = made_without high d c (λ f form past. is f form ∙ ap (λ (b : Bool). cond b None (d f)) (not_lower low high f le past)) (λ n form less. elim (cases_lt n low) [
  | inl below ↦ without_below low n d c is form below
  | inr from ↦ without_from low n d c is form from ∙ none n from less
])

-- it is another file than the one of this number
not_this : (low : ℕ) (f : FileName) → is_log_below (low + 1) f ≡ false → same_file (Log low) f ≡ false
not_this low Control past = refl
not_this low (Log n) past = grind (arith, nat_tests, past)
not_this low (Keys name) past = refl
not_this low (Rows name) past = refl
not_this low (NewKeys name) past = refl
not_this low (NewRows name) past = refl

-- the next file was removed
without_removed : (low : ℕ) (d c e : Folder) → IsWithout low d c → e ≡ with_file (Log low) None c → IsWithout (low + 1) d e
without_removed low d c e is made = made_without (low + 1) d e
    (λ f form past. ap (λ (x : Folder). x f) made ∙ with_file-other (Log low) f None c (not_this low f past) ∙ is f form ∙ ap (λ (b : Bool). cond b None (d f)) (not_below low f past))
    (λ n form less. elim (cases_Bool (low == n)) [
      | inl same ↦ ap (λ (k : ℕ). e (Log k)) (sym (eqb-true low n same)) ∙ ap (λ (x : Folder). x (Log low)) made ∙ with_file-same (Log low) None c
      | inr apart ↦ ap (λ (x : Folder). x (Log n)) made ∙ with_file-other (Log low) (Log n) None c apart ∙ without_below low n d c is form (grind (arith, less, apart))
    ])

-- names of at most 2^24 files are all there are
without_min : (below : ℕ) (d c : Folder) → IsWithout (min below (2 ^ 24)) d c → IsWithout below d c
without_min below d c is = made_without below d c
    (λ f form past. is f form ∙ ap (λ (b : Bool). cond b None (d f)) (not_min f form past))
    (λ n form less. without_below (min below (2 ^ 24)) n d c is form (omega (arith, form, less)))
  where
    not_min : (f : FileName) → IsFileName f → is_log_below below f ≡ false → is_log_below (min below (2 ^ 24)) f ≡ false
    not_min Control form past = refl
    not_min (Log n) form past = let from : below ≤ n = grind (arith, nat_tests, past) in grind (arith, nat_tests, from)
    not_min (Keys name) form past = refl
    not_min (Rows name) form past = refl
    not_min (NewKeys name) form past = refl
    not_min (NewRows name) form past = refl

-- ---- calls

none_of : (n : ℕ) → take {A = ℕ} n [] ≡ []
none_of zero = refl
none_of (suc n) = refl

-- nothing is told
still_told : (a b : State) (n : ℕ) → b.out ≡ a.out → b.out ++ take n [] ≡ a.out
still_told a b n same = ap (λ (l : List ℕ). b.out ++ l) (none_of n) ∙ append-nil b.out ∙ same

-- an image without files below a number, of at most this one
purged_at : (below low : ℕ) (old : State) (d c : Folder) → old.may_leave d → low ≤ below → IsWithout low d c → IsPurged below old c
purged_at below low old d c left upto without = record { image = d; left = left; low = low; upto = upto; without = without }

purged_upto : (low high : ℕ) (old : State) (c : Folder) → low ≤ high → IsPurged low old c → IsPurged high old c
purged_upto low high old c le is = record { image = is.image; left = is.left; low = is.low; upto = omega (arith, is.upto, le); without = is.without }

-- more files may be removed, but weren't
purged_part : (low high : ℕ) (old new : State) (done failed : Bool) → low ≤ high → failed ≡ false → Purges low old new done → Purges high old new failed
purged_part low high old new done failed le is_failed is = record {
  folder = λ finished. absurd (not_done failed is_failed finished);
  part = (is.part.0, omega (arith, is.part.1, le), is.part.2);
  durable = λ finished. absurd (not_done failed is_failed finished);
  images = λ c leaves. purged_upto low high old c le (is.images c leaves);
  moments = weakened old new (AtPurge low old) (AtPurge high old) is.moments (λ c told at. (purged_upto low high old c le at.0, at.1));
  out = is.out;
  err = is.err;
}

-- no file is there
absent : (o : Option (List (List ℕ))) → is_some o ≡ false → o ≡ None
absent None e = refl
absent (Some pages) e = absurd (cc)

-- nothing was removed yet
purged_none : (s : State) → OnlyNow s → Purges 0 s s true
purged_none s only = record {
  folder = λ done. without_none s.folder;
  part = (0, omega arith, without_none s.folder);
  durable = λ done c leaves. (c, leaves, without_none c);
  images = λ c leaves. purged_at 0 0 s c c leaves (omega arith) (without_none c);
  moments = started s (AtPurge 0 s) (λ c b left. let now = only c b left in (purged_at 0 0 s c c now.0 (omega arith) (without_none c), now.1));
  out = refl;
  err = refl;
}

-- no file is there up to that number
purged_skip : (a b : State) (low high : ℕ) → HaveNames a → low ≤ high → high ≤ 2 ^ 24 → ((n : ℕ) → low ≤ n → n < high → a.folder (Log n) ≡ None) → Purges low a b true → Purges high a b true
purged_skip a b low high names le form none is = record {
  folder = λ done. without_skip low high a.folder b.folder le none (is.folder refl);
  part = (high, omega arith, without_skip low high a.folder b.folder le none (is.folder refl));
  durable = λ done c leaves.
      let (d, left, without) = is.durable refl c leaves in
      (d, left, without_skip low high d c le (λ n from less. absent (d (Log n)) (names d left (Log n) (omega (arith, less, form)) ∙ ap (λ (o : Option (List (List ℕ))). is_some o) (none n from less))) without);
  images = λ c leaves. purged_upto low high a c le (is.images c leaves);
  moments = weakened a b (AtPurge low a) (AtPurge high a) is.moments (λ c told at. (purged_upto low high a c le at.0, at.1));
  out = is.out;
  err = is.err;
}

-- the next file is removed, or that fails
purged_more : (a b c : State) (low : ℕ) (done : Bool) → Purges low a b true → Removes (Log low) b c done → Purges (low + 1) a c done
purged_more a b c low done is removes =
    let le : low ≤ low + 1 = omega arith in
    let image : (e : Folder) → c.may_leave e → IsPurged (low + 1) a e =
    λ e leaves.
    let (d, left, step) = removes.images e leaves in
    let (f, was, without) = is.durable refl d left in
    elim step [
      | inl made ↦ purged_at (low + 1) (low + 1) a f e was (omega arith) (without_removed low f d e without made)
      | inr stays ↦ purged_at (low + 1) low a f e was le (λ g form. ap (λ (x : Folder). x g) stays.1 ∙ without g form)
    ] in
    record {
      folder = λ finished. without_removed low a.folder b.folder c.folder (is.folder refl) (removes.whole finished);
      part = elim removes.either [
        | inl same ↦ (low, le, λ f form. ap (λ (x : Folder). x f) same ∙ is.folder refl f form)
        | inr made ↦ (low + 1, omega arith, without_removed low a.folder b.folder c.folder (is.folder refl) made)
      ];
      durable = λ finished e leaves.
          let (d, left, step) = removes.images e leaves in
          let (f, was, without) = is.durable refl d left in
          (f, was, without_removed low f d e without (sure done d e step finished));
      images = image;
      moments = goes_on a b c [] (AtPurge (low + 1) a) (weakened a b (AtPurge low a) (AtPurge (low + 1) a) is.moments (λ e told at. (purged_upto low (low + 1) a e le at.0, at.1))) removes.tells.time
          (λ e n leaves. (image e leaves, still_told a b n is.out));
      out = removes.tells.out ∙ is.out;
      err = removes.tells.err ∙ is.err;
    }
  where
    sure : (t : Bool) (d e : Folder) → MayMake (Log low) None t d e → IsTrue t → e ≡ with_file (Log low) None d
    sure true d e (inl made) finished = made
    sure true d e (inr stays) finished = absurd (cc)
    sure false d e step finished = absurd (cc)

-- the folder's names were listed
list_moments : (a b : State) (below : ℕ) → OnlyNow a → Narrows a b → LeavesOnly a b (AtPurge below a)
list_moments a b below only lists =
    goes_on a a b [] (AtPurge below a) (started a (AtPurge below a) (λ c told left. let now = only c told left in (purged_at below 0 a c c now.0 (omega arith) (without_none c), now.1))) lists.tells.time
    (λ c n leaves. (purged_at below 0 a c c (lists.no_more c leaves) (omega arith) (without_none c), still_told a a n refl))

-- and nothing more was done
pub purged_list : (a b : State) (below : ℕ) (failed : Bool) → OnlyNow a → failed ≡ false → Narrows a b → Purges below a b failed
purged_list a b below failed only is_failed lists = record {
  folder = λ finished. absurd (not_done failed is_failed finished);
  part = (0, omega arith, λ f form. ap (λ (x : Folder). x f) lists.folder ∙ without_none a.folder f form);
  durable = λ finished. absurd (not_done failed is_failed finished);
  images = λ c leaves. purged_at below 0 a c c (lists.no_more c leaves) (omega arith) (without_none c);
  moments = list_moments a b below only lists;
  out = lists.tells.out;
  err = lists.tells.err;
}

-- or files were removed then
pub purged_after : (a b c : State) (below : ℕ) (done : Bool) → OnlyNow a → Narrows a b → Purges (min below (2 ^ 24)) b c done → Purges below a c done
purged_after a b c below done only lists is =
    let end : ℕ = min below (2 ^ 24) in
    let le : end ≤ below = omega arith in
    let raised : (e : Folder) → IsPurged end b e → IsPurged below a e = λ e at. purged_at below at.low a at.image e (lists.no_more at.image at.left) (omega (arith, at.upto, le)) at.without in
    record {
      folder = λ finished f form. without_min below b.folder c.folder (is.folder finished) f form ∙ ap (λ (x : Folder). cond (is_log_below below f) None (x f)) lists.folder;
      part = (is.part.0, omega (arith, is.part.1, le), λ f form. is.part.2 f form ∙ ap (λ (x : Folder). cond (is_log_below is.part.0 f) None (x f)) lists.folder);
      durable = λ finished e leaves. let (d, left, without) = is.durable finished e leaves in (d, lists.no_more d left, without_min below d e without);
      images = λ e leaves. raised e (is.images e leaves);
      moments = joined a b c (AtPurge below a) (AtPurge end b) (list_moments a b below only lists) is.moments (λ e told at. (raised e at.0, at.1 ∙ lists.tells.out));
      out = is.out ∙ lists.tells.out;
      err = is.err ∙ lists.tells.err;
    }

-- the files up to the lowest one of the names are none
pub purged_first : (s : State) (names : List FileName) (end lowest : ℕ) → OnlyNow s → HaveNames s → Lists s.folder names → end ≤ 2 ^ 24 → IsLowest names 0 end lowest → Purges lowest s s true
purged_first s names end lowest only have lists form is =
    purged_skip s s 0 lowest have (omega arith) (omega (arith, is.upto, form))
    (λ n from less. none_listed (s.folder (Log n)) _ (is.none n from less) (lists (Log n) (omega (arith, less, is.upto, form)))) (purged_none s only)

-- the lowest file was removed
pub purged_next : (a b c : State) (names : List FileName) (end number lowest : ℕ) → HaveNames a → Lists a.folder names → end ≤ 2 ^ 24 → IsLowest names (number + 1) end lowest → Purges number a b true → Removes (Log number) b c true → Purges lowest a c true
purged_next a b c names end number lowest have lists form is so_far removes =
    purged_skip a c (number + 1) lowest have is.from (omega (arith, is.upto, form))
    (λ n from less. none_listed (a.folder (Log n)) _ (is.none n from less) (lists (Log n) (omega (arith, less, is.upto, form)))) (purged_more a b c number true so_far removes)

-- or that failed
pub purged_failed : (a b c : State) (number end : ℕ) (done failed : Bool) → number < end → failed ≡ false → Purges number a b true → Removes (Log number) b c done → Purges end a c failed
purged_failed a b c number end done failed below is_failed so_far removes = purged_part (number + 1) end a c done failed (omega (arith, below)) is_failed (purged_more a b c number done so_far removes)

-- the next file of the names is there
pub listed_there : (a b : State) (names : List FileName) (number : ℕ) → Lists a.folder names → number < 2 ^ 24 → Purges number a b true → 1 ≤ count_by (same_file (Log number)) names → IsSome (b.folder (Log number))
listed_there a b names number lists form so_far some =
    subst (λ (o : Option (List (List ℕ))). IsSome o) (sym (without_from number number a.folder b.folder (so_far.folder refl) form (omega arith))) (some_listed (a.folder (Log number)) _ some (lists (Log number) form))

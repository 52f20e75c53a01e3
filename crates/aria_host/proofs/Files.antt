-- Names of files, and what changes of one file do to a folder.
use Rattle.std.proofs.Common.{◌≡◌, ◌⊎◌, ◌==◌, inl, inr, ℕ, suc, ◌+◌, ◌-◌, ◌<◌, max, Bool, true, false, cond, Option, None, Some, is_some, List, ◌∷◌, ◌++◌, length, take, drop, replicate, get_or, refl, sym, ◌∙◌, ap, subst, arith, length-append, length-drop, append_assoc}
use Rattle.std.specs.Cmp.Lexicographic.{bytes_decides}
use Rattle.std.proofs.lemmas.Bool.{cases_lt, cases_order, eqb-true, eq-eqb, false_from_ne_true}
use Rattle.std.proofs.lemmas.List.{length-take, length-replicate, get_or_append_left, get_or-append_right, get_or-take, get_or-drop, get_or-replicate, get_or_past, get_or_at}
use Rattle.aria_page.specs.Page.{zero_page}
use Rattle.aria_host.specs.declared.file_name.FileName.{FileName}
use Rattle.aria_host.specs.declared.file_name.FileName.TheVariants.{Control, Log, Keys, Rows, NewKeys, NewRows}
use Rattle.std.specs.Option.{option_map}
use Rattle.aria_host.specs.Steps.{MayWrite, MayCut, MayMake}
use Rattle.aria_host.specs.Folder.{Folder, same_file, put_page, with_file}

-- a file is the same as itself
pub same_file-refl : (f : FileName) → same_file f f ≡ true
same_file-refl Control = refl
same_file-refl (Log n) = eq-eqb n n refl
same_file-refl (Keys a) = (bytes_decides a a).1 refl
same_file-refl (Rows a) = (bytes_decides a a).1 refl
same_file-refl (NewKeys a) = (bytes_decides a a).1 refl
same_file-refl (NewRows a) = (bytes_decides a a).1 refl

-- no other file is
pub same_file-true : (f g : FileName) → same_file f g ≡ true → f ≡ g
same_file-true Control Control same = refl
same_file-true (Log m) (Log n) same = ap Log (eqb-true m n same)
same_file-true (Keys a) (Keys b) same = ap Keys ((bytes_decides a b).0 same)
same_file-true (Rows a) (Rows b) same = ap Rows ((bytes_decides a b).0 same)
same_file-true (NewKeys a) (NewKeys b) same = ap NewKeys ((bytes_decides a b).0 same)
same_file-true (NewRows a) (NewRows b) same = ap NewRows ((bytes_decides a b).0 same)
same_file-true f g same = absurd (cc)

-- the file itself is as said
pub with_file-same : (file : FileName) (content : Option (List (List ℕ))) (folder : Folder) → with_file file content folder file ≡ content
with_file-same file content folder = ap (λ (b : Bool). cond b content (folder file)) (same_file-refl file)

-- another file stays
pub with_file-other : (file f : FileName) (content : Option (List (List ℕ))) (folder : Folder) → same_file file f ≡ false → with_file file content folder f ≡ folder f
with_file-other file f content folder other = ap (λ (b : Bool). cond b content (folder f)) other

-- a file with other pages is there where the file is
pub still_there : (F : List (List ℕ) → List (List ℕ)) (content : Option (List (List ℕ))) → is_some (option_map F content) ≡ is_some content
still_there F None = refl
still_there F (Some pages) = refl

-- the pages after a page was put
pub length-put_page : (at : ℕ) (page : List ℕ) (pages : List (List ℕ)) → length (put_page at page pages) ≡ max (length pages) (at + 1)
unfolding put_page
length-put_page at page pages = omega (arith, length-append (take at pages) (replicate (at - length pages) zero_page ++ page ∷ drop (at + 1) pages), length-append (replicate (at - length pages) zero_page) (page ∷ drop (at + 1) pages), length-take at pages, length-replicate (at - length pages) zero_page, length-drop (at + 1) pages)

module _ {A : Type 0} (z : A) (at : ℕ) (page : A) (pages : List A) where
  -- what stands before the page that is put
  abbrev front : List A
  front = take at pages ++ replicate (at - length pages) z

  length-front : length front ≡ at
  length-front = omega (arith, length-append (take at pages) (replicate (at - length pages) z), length-take at pages, length-replicate (at - length pages) z)

  abbrev whole : List A
  whole = take at pages ++ (replicate (at - length pages) z ++ page ∷ drop (at + 1) pages)

  in_parts : whole ≡ front ++ page ∷ drop (at + 1) pages
  in_parts = sym (append_assoc (take at pages) (replicate (at - length pages) z) (page ∷ drop (at + 1) pages))

  get_or-front : (n : ℕ) → n < at → get_or front n z ≡ get_or pages n z
  get_or-front n below = elim (cases_lt n (length pages)) [
    | inl inside ↦ get_or_append_left (take at pages) (replicate (at - length pages) z) z n (omega (arith, length-take at pages)) ∙ get_or-take at pages n z below
    | inr outside ↦
        get_or-append_right (take at pages) (replicate (at - length pages) z) (length pages) n z (omega (arith, length-take at pages)) outside
        ∙ get_or-replicate (at - length pages) (n - length pages) z z (omega arith) ∙ sym (get_or_past pages n z outside)
  ]

  get_or-before : (n : ℕ) → n < at → get_or whole n z ≡ get_or pages n z
  get_or-before n below =
      ap (λ (l : List A). get_or l n z) in_parts ∙ get_or_append_left front (page ∷ drop (at + 1) pages) z n (omega (arith, length-front)) ∙ get_or-front n below

  get_or-here : get_or whole at z ≡ page
  get_or-here = ap (λ (l : List A). get_or l at z) in_parts ∙ get_or_at front page (drop (at + 1) pages) z at length-front

  get_or-behind : (n : ℕ) → at < n → get_or whole n z ≡ get_or pages n z
  get_or-behind n above =
      let rest = drop (at + 1) pages in
      let next : n - at ≡ suc (n - (at + 1)) = omega arith in
      let back : at + 1 + (n - (at + 1)) ≡ n = omega arith in
      ap (λ (l : List A). get_or l n z) in_parts ∙ get_or-append_right front (page ∷ rest) at n z length-front (omega arith)
      ∙ ap (λ (k : ℕ). get_or (page ∷ rest) k z) next ∙ get_or-drop (at + 1) pages (n - (at + 1)) z ∙ ap (λ (k : ℕ). get_or pages k z) back

  pub get_or-whole : (n : ℕ) → get_or whole n z ≡ cond (at == n) page (get_or pages n z)
  get_or-whole n = elim (cases_order at n) [
    | inl same ↦ subst (λ (k : ℕ). get_or whole k z ≡ cond (at == k) page (get_or pages k z)) same (get_or-here ∙ ap (λ (b : Bool). cond b page (get_or pages at z)) (sym (eq-eqb at at refl)))
    | inr (inl above) ↦ get_or-behind n above ∙ ap (λ (b : Bool). cond b page (get_or pages n z)) (sym (false_from_ne_true (at == n) (λ (e : (at == n) ≡ true). let same : at ≡ n = eqb-true at n e in omega arith)))
    | inr (inr below) ↦ get_or-before n below ∙ ap (λ (b : Bool). cond b page (get_or pages n z)) (sym (false_from_ne_true (at == n) (λ (e : (at == n) ≡ true). let same : at ≡ n = eqb-true at n e in omega arith)))
  ]

-- a page after a page was put: that one at its place, and each other as it was, or zeros
pub get_or-put_page : (at n : ℕ) (page : List ℕ) (pages : List (List ℕ)) → get_or (put_page at page pages) n zero_page ≡ cond (at == n) page (get_or pages n zero_page)
unfolding put_page
get_or-put_page at n page pages = get_or-whole zero_page at page pages n

-- a call that sets what a file holds, or doesn't, leaves each other file alone
pub set_others : (file f : FileName) (content : Option (List (List ℕ))) (before now : Folder) → same_file file f ≡ false → (now ≡ before) ⊎ (now ≡ with_file file content before) → now f ≡ before f
set_others file f content before now other (inl lost) = ap (λ (c : Folder). c f) lost
set_others file f content before now other (inr kept) = ap (λ (c : Folder). c f) kept ∙ with_file-other file f content before other

-- a write leaves each other file alone, in every image
pub write_others : (file f : FileName) (at : ℕ) (page : List ℕ) (before now : Folder) → same_file file f ≡ false → MayWrite file at page before now → now f ≡ before f
write_others file f at page before now other (inl lost) = ap (λ (c : Folder). c f) lost
write_others file f at page before now other (inr (inl kept)) =
    ap (λ (c : Folder). c f) kept ∙ with_file-other file f (option_map (put_page at page) (before file)) before other
write_others file f at page before now other (inr (inr (log, torn, long, sums, is))) =
    ap (λ (c : Folder). c f) is ∙ with_file-other file f (option_map (put_page at torn) (before file)) before other

-- and so does a cut
pub cut_others : (file f : FileName) (pages : ℕ) (before now : Folder) → same_file file f ≡ false → MayCut file pages before now → now f ≡ before f
cut_others file f pages before now other cut = set_others file f (option_map (take pages) (before file)) before now other cut

-- and a file that is made or removed
pub make_others : (file f : FileName) (content : Option (List (List ℕ))) (done : Bool) (before now : Folder) → same_file file f ≡ false → MayMake file content done before now
    → now f ≡ before f
make_others file f content done before now other (inl is) = ap (λ (c : Folder). c f) is ∙ with_file-other file f content before other
make_others file f content done before now other (inr (not_done, is)) = ap (λ (c : Folder). c f) is

-- No page comes ahead of the log.
use Rattle.std.proofs.Common.{◌≡◌, ◌==◌, ◌∙◌, ◌⊎◌, ℕ, ◌≤◌, Bool, true, false, cond, List, ap, sym, refl, subst, arith, None, Some, inl, inr}
use Rattle.std.specs.Option.{option_map}
use Rattle.aria_page.specs.Page.{zero_page}
use Rattle.aria_page.specs.declared.place.Part.{Part}
use Rattle.aria_host.specs.Folder.{Folder, put_page, with_file, same_file}
use Rattle.aria_host.specs.Seen.{page_or_zero}
use Rattle.aria_host.specs.Steps.{MayMake, MayWrite}
use Rattle.aria_host.proofs.Files.{with_file-other, same_file-true, get_or-put_page}
use Rattle.aria_recovery.specs.Redo.{Seen, Content, seen}
use Rattle.aria_recovery.specs.Tables.{file}
use Rattle.aria_recovery.specs.Images.{page_of, IsBelow, Raises}
use Rattle.aria_recovery.proofs.Stepping.{not_torn}

pub raises_none : (bound : ℕ) (d : Folder) → Raises bound d d
raises_none bound d name part n = inl refl

below_more : (low high : ℕ) (x : Seen) → low ≤ high → IsBelow low x → IsBelow high x
below_more low high None le is = is
below_more low high (Some s) le is = omega (arith, le, is)

pub raises_more : (low high : ℕ) (d c : Folder) → low ≤ high → Raises low d c → Raises high d c
raises_more low high d c le is name part n = by (is name part n)
  where
    by : (page_of c name part n ≡ page_of d name part n) ⊎ IsBelow low (page_of c name part n) → (page_of c name part n ≡ page_of d name part n) ⊎ IsBelow high (page_of c name part n)
    by (inl same) = inl same
    by (inr below) = inr (below_more low high (page_of c name part n) le below)

-- one after another
pub raises_on : (bound : ℕ) (a b c : Folder) → Raises bound a b → Raises bound b c → Raises bound a c
raises_on bound a b c first second name part n = by (first name part n) (second name part n)
  where
    by : (page_of b name part n ≡ page_of a name part n) ⊎ IsBelow bound (page_of b name part n) → (page_of c name part n ≡ page_of b name part n) ⊎ IsBelow bound (page_of c name part n)
        → (page_of c name part n ≡ page_of a name part n) ⊎ IsBelow bound (page_of c name part n)
    by was (inr below) = inr below
    by (inl same) (inl again) = inl (again ∙ same)
    by (inr below) (inl again) = inr (subst (IsBelow bound) (sym again) below)

-- a file's pages are others: each as it was, or below
raises_file : (bound : ℕ) (name : List ℕ) (p : Part) (content : Content) (d : Folder) → ((n : ℕ) → (seen (page_or_zero n content) ≡ page_of d name p n) ⊎ IsBelow bound (seen (page_or_zero n content))) → Raises bound d (with_file (file name p) content d)
raises_file bound name p content d each other part n = by (same_file (file name p) (file other part)) refl
  where
    by : (b : Bool) → same_file (file name p) (file other part) ≡ b → (page_of (with_file (file name p) content d) other part n ≡ page_of d other part n) ⊎ IsBelow bound (page_of (with_file (file name p) content d) other part n)
    by false off = inl (ap (λ (f : Content). seen (page_or_zero n f)) (with_file-other (file name p) (file other part) content d off))
    by true on =
        let now : page_of (with_file (file name p) content d) other part n ≡ seen (page_or_zero n content) = ap (λ (b : Bool). seen (page_or_zero n (cond b content (d (file other part))))) on in
        let was : page_of d name p n ≡ page_of d other part n = ap (λ f. seen (page_or_zero n (d f))) (same_file-true (file name p) (file other part) on) in
        either now was (each n)
      where
        either : page_of (with_file (file name p) content d) other part n ≡ seen (page_or_zero n content) → page_of d name p n ≡ page_of d other part n → (seen (page_or_zero n content) ≡ page_of d name p n) ⊎ IsBelow bound (seen (page_or_zero n content))
            → (page_of (with_file (file name p) content d) other part n ≡ page_of d other part n) ⊎ IsBelow bound (page_of (with_file (file name p) content d) other part n)
        either now was (inl same) = inl (now ∙ same ∙ was)
        either now was (inr below) = inr (subst (IsBelow bound) (sym now) below)

-- a page is written that is below
pub raises_write : (bound : ℕ) (name : List ℕ) (p : Part) (n : ℕ) (page : List ℕ) (d c : Folder) → IsBelow bound (seen page) → MayWrite (file name p) n page d c → Raises bound d c
raises_write bound name p n page d c below (inl same) = subst (Raises bound d) (sym same) (raises_none bound d)
raises_write bound name p n page d c below (inr (inr torn)) = absurd (not_torn name p torn.0)
raises_write bound name p n page d c below (inr (inl same)) = subst (Raises bound d) (sym same) (raises_file bound name p (option_map (put_page n page) (d (file name p))) d (λ k. by k (d (file name p)) refl))
  where
    by : (k : ℕ) (content : Content) → d (file name p) ≡ content → (seen (page_or_zero k (option_map (put_page n page) (d (file name p)))) ≡ page_of d name p k) ⊎ IsBelow bound (seen (page_or_zero k (option_map (put_page n page) (d (file name p)))))
    by k None is = inl (ap (λ (f : Content). seen (page_or_zero k (option_map (put_page n page) f))) is ∙ sym (ap (λ (f : Content). seen (page_or_zero k f)) is))
    by k (Some pages) is = at (n == k) refl
      where
        now : seen (page_or_zero k (option_map (put_page n page) (d (file name p)))) ≡ seen (cond (n == k) page (page_or_zero k (Some pages)))
        now = ap (λ (f : Content). seen (page_or_zero k (option_map (put_page n page) f))) is ∙ ap seen (get_or-put_page n k page pages)

        at : (b : Bool) → (n == k) ≡ b → (seen (page_or_zero k (option_map (put_page n page) (d (file name p)))) ≡ page_of d name p k) ⊎ IsBelow bound (seen (page_or_zero k (option_map (put_page n page) (d (file name p)))))
        at true on = inr (subst (IsBelow bound) (sym (now ∙ ap (λ (b : Bool). seen (cond b page (page_or_zero k (Some pages)))) on)) below)
        at false off = inl (now ∙ ap (λ (b : Bool). seen (cond b page (page_or_zero k (Some pages)))) off ∙ sym (ap (λ (f : Content). seen (page_or_zero k f)) is))

-- a file is made empty, or removed
pub raises_make : (bound : ℕ) (name : List ℕ) (p : Part) (content : Content) (done : Bool) (d c : Folder) → IsBelow bound (seen zero_page) → ((n : ℕ) → page_or_zero n content ≡ zero_page) → MayMake (file name p) content done d c → Raises bound d c
raises_make bound name p content done d c low empty (inr (failed, same)) = subst (Raises bound d) (sym same) (raises_none bound d)
raises_make bound name p content done d c low empty (inl same) = subst (Raises bound d) (sym same) (raises_file bound name p content d (λ n. inr (subst (λ (q : List ℕ). IsBelow bound (seen q)) (sym (empty n)) low)))

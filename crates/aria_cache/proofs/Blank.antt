-- Pages that were never edited.
use Rattle.std.proofs.Common.{◌≡◌, ◌∙◌, ◌+◌, ◌-◌, ◌≤◌, ℕ, Bool, true, false, cond, List, [], ◌∷◌, ◌++◌, length, drop, replicate, refl, ap, arith}
use Rattle.std.proofs.lemmas.List.{drop-replicate, length-replicate}
use Rattle.aria_page.specs.declared.page_kind.PageKind.TheVariants.{Bitmap}
use Rattle.aria_page.specs.Page.{with_bytes, zero_page, page_body}
use Rattle.aria_page.specs.PageKind.{kind_byte}
use Rattle.aria_page.proofs.Pages.{drop-with_bytes}
use Rattle.aria_page.specs.declared.place.Part.{Part}
use Rattle.std.specs.Prelude.{nat_lt, ◌&&◌}
use Rattle.aria_cache.specs.MemFile.{bitmap_body, zero_body, is_map, blank_body}

length-zero_page : length zero_page ≡ 8192
unfolding zero_page
length-zero_page = length-replicate {A = ℕ} 8192 0

-- what stands in zeros behind a place
zeros_behind : (n : ℕ) → drop n zero_page ≡ replicate (8192 - n) 0
unfolding zero_page
zeros_behind n = drop-replicate n 8192 0

pub length-zero_body : length zero_body ≡ 8181
unfolding page_body
length-zero_body = ap (λ (l : List ℕ). length l) (zeros_behind 11) ∙ length-replicate {A = ℕ} 8181 0

-- the kind put into a page of zeros
pub bitmap_put : (page : List ℕ) → page ≡ with_bytes 11 (kind_byte Bitmap ∷ []) zero_page → page_body page ≡ bitmap_body
unfolding bitmap_body page_body
bitmap_put page is =
    let low : 11 ≤ length zero_page = omega (arith, length-zero_page) in
    ap (λ (l : List ℕ). drop 11 l) is ∙ drop-with_bytes 11 12 (kind_byte Bitmap ∷ []) zero_page low refl ∙ ap (λ (l : List ℕ). (kind_byte Bitmap ∷ []) ++ l) (zeros_behind 12)

pub length-bitmap_body : length bitmap_body ≡ 8181
unfolding bitmap_body
length-bitmap_body = ap (λ (n : ℕ). n + 1) (length-replicate {A = ℕ} 8180 0)

pub length-blank : (b : Bool) → length (cond b bitmap_body zero_body) ≡ 8181
length-blank true = length-bitmap_body
length-blank false = length-zero_body

neither : (b : Bool) (x y : List ℕ) → cond (b && false) x y ≡ y
neither true x y = refl
neither false x y = refl

-- behind the pages that were set there are zeros
pub blank_behind : (part : Part) (pages n : ℕ) → pages ≤ n → blank_body part pages n ≡ zero_body
blank_behind part pages n behind = ap (λ (b : Bool). cond (is_map part n && b) bitmap_body zero_body) low ∙ neither (is_map part n) bitmap_body zero_body
  where
    low : nat_lt n pages ≡ false
    low = grind (arith, behind)

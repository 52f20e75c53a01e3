-- A page whose code promises room has a spot for the part.
use Rattle.std.proofs.Common.{◌≡◌, ◌≢◌, ℕ, Option, Some, sym, subst, ◌∙◌, ◌<◌, ◌≤◌, ◌||◌, nat_le, Bool, true, false, cond, inl, inr, None, List, refl, arith, eq-eqb}
use Rattle.std.specs.Prelude.{IfOk, Result, Ok, Err, slice_index, ◌%◌}
use Rattle.aria_host.specs.declared.fault.Fault.{Fault}
use Rattle.std.proofs.lemmas.Bool.{cases_eq, cases_Bool, ne_eqb}
use Rattle.std.proofs.lemmas.Bool.Decides.{nat_tests}
use Rattle.aria_bitmap.specs.Code.{room, head_code, tail_code, code}
use Rattle.aria_bitmap.specs.Promise.{takes_head, takes_tail, promises}
use Rattle.aria_block.specs.declared.part_kind.PartKind.{PartKind}
use Rattle.aria_block.specs.declared.part_kind.PartKind.TheVariants.{Head, Tail}
use Rattle.aria_block.specs.PartPage.{part_byte}
use Rattle.aria_block.specs.Spot.{FindsSpot}
use Rattle.aria_block.specs.Finding.{is_tail, FindsPage, HasPromise}
use Rattle.aria_block.specs.Puts.{NoSpot}
use Rattle.aria_block.specs.Pieces.{Pieces}
use Rattle.aria_block.specs.DataFile.{map_of, HoldsData}
use Rattle.aria_host.specs.declared.file_name.FileName.{FileName}
use Rattle.aria_cache.specs.PageState.{PageState}
use Rattle.aria_page.specs.Page.{page_body, zero_page}

without_false : (b : Bool) → (b || false) ≡ true → b ≡ true
without_false true is = refl
without_false false is = is

-- a part that is no longer than what a code stands for
within : (len most free : ℕ) → nat_le len most ≡ true → nat_le most free ≡ true → len ≤ free
within len most free is low = grind (arith, nat_tests)

head_room : (len free : ℕ) → takes_head len (head_code free) ≡ true → len ≤ free
head_room len free = elim (cases_Bool (nat_le 6000 free)) [
  | inl a ↦ rw a (λ is. within len 6000 free (without_false (nat_le len 6000) (without_false (nat_le len 6000 || false) is)) a)
  | inr a ↦ rw a (elim (cases_Bool (nat_le 4000 free)) [
    | inl b ↦ rw b (λ is. within len 4000 free (without_false (nat_le len 4000) is) b)
    | inr b ↦ rw b (elim (cases_Bool (nat_le 2000 free)) [
      | inl c ↦ rw c (λ is. within len 2000 free is c)
      | inr c ↦ rw c (λ is. absurd (cc))
    ])
  ])
]

tail_room : (len free : ℕ) → takes_tail len (tail_code free) ≡ true → len ≤ free
tail_room len free = elim (cases_Bool (nat_le 4000 free)) [
  | inl a ↦ rw a (λ is. within len 4000 free (without_false (nat_le len 4000) is) a)
  | inr a ↦ rw a (elim (cases_Bool (nat_le 1000 free)) [
    | inl b ↦ rw b (λ is. within len 1000 free is b)
    | inr b ↦ rw b (λ is. absurd (cc))
  ])
]

no_tail : {A : Type 0} (len free : ℕ) → takes_tail len (head_code free) ≡ true → A
no_tail len free = elim (cases_Bool (nat_le 6000 free)) [
  | inl a ↦ rw a (λ is. absurd (cc))
  | inr a ↦ rw a (elim (cases_Bool (nat_le 4000 free)) [
    | inl b ↦ rw b (λ is. absurd (cc))
    | inr b ↦ rw b (elim (cases_Bool (nat_le 2000 free)) [ inl c ↦ rw c (λ is. absurd (cc)) | inr c ↦ rw c (λ is. absurd (cc)) ])
  ])
]

no_head : {A : Type 0} (len free : ℕ) → takes_head len (tail_code free) ≡ true → A
no_head len free = elim (cases_Bool (nat_le 4000 free)) [
  | inl a ↦ rw a (λ is. absurd (cc))
  | inr a ↦ rw a (elim (cases_Bool (nat_le 1000 free)) [ inl b ↦ rw b (λ is. absurd (cc)) | inr b ↦ rw b (λ is. absurd (cc)) ])
]

pub promise_spot : (kind : PartKind) (len : ℕ) (body : List ℕ) → 1 ≤ len → len ≤ 8173 → promises (is_tail kind) len (code body) ≡ true → FindsSpot kind len body None → ⊥
unfolding promises code
promise_spot kind len body some few is (free, full) = elim (cases_eq (slice_index body 0) 0) [
  | inl zero ↦ let much = free zero in absurd (omega (arith, much, few))
  | inr used ↦ elim (cases_eq (slice_index body 0) 3) [
    | inl head ↦ on_head kind head (rw (ne_eqb (slice_index body 0) 0 used, eq-eqb (slice_index body 0) 3 head) at is) full
    | inr no_head_page ↦ elim (cases_eq (slice_index body 0) 4) [
      | inl tail ↦ on_tail kind tail (rw (ne_eqb (slice_index body 0) 0 used, ne_eqb (slice_index body 0) 3 no_head_page, eq-eqb (slice_index body 0) 4 tail) at is) full
      | inr other ↦ on_other kind (rw (ne_eqb (slice_index body 0) 0 used, ne_eqb (slice_index body 0) 3 no_head_page, ne_eqb (slice_index body 0) 4 other) at is)
    ]
  ]
]
  where
    on_head : (k : PartKind) → slice_index body 0 ≡ 3 → cond (is_tail k) (takes_tail len (head_code (room body))) (takes_head len (head_code (room body))) ≡ true → (slice_index body 0 ≡ part_byte k → 1 ≤ len → room body < len) → ⊥
    on_head Head first is full = let less = full first some in let fits = head_room len (room body) is in absurd (omega (arith, less, fits))
    on_head Tail first is full = no_tail len (room body) is

    on_tail : (k : PartKind) → slice_index body 0 ≡ 4 → cond (is_tail k) (takes_tail len (tail_code (room body))) (takes_head len (tail_code (room body))) ≡ true → (slice_index body 0 ≡ part_byte k → 1 ≤ len → room body < len) → ⊥
    on_tail Tail first is full = let less = full first some in let fits = tail_room len (room body) is in absurd (omega (arith, less, fits))
    on_tail Head first is full = no_head len (room body) is

    on_other : (k : PartKind) → cond (is_tail k) (takes_tail len 7) (takes_head len 7) ≡ true → ⊥
    on_other Head is = absurd (cc)
    on_other Tail is = absurd (cc)

of_zeros : (kind : PartKind) (len : ℕ) → promises (is_tail kind) len (code (page_body zero_page)) ≡ true
unfolding promises code page_body zero_page
of_zeros Head len = refl
of_zeros Tail len = refl

-- a page of zeros promises room for all parts
pub promise_zeros : (kind : PartKind) (len page : ℕ) (bodies : ℕ → Option (List ℕ)) → bodies page ≡ Some (page_body zero_page) → HasPromise kind len page bodies
promise_zeros kind len page bodies zeros = record { promise = λ body is. let same : Some (page_body zero_page) ≡ Some body = sym zeros ∙ is in let here : page_body zero_page ≡ body = cc in subst (λ (t : List ℕ). promises (is_tail kind) len (code t) ≡ true) here (of_zeros kind len) }

-- a page that its bitmap page promises
pub promise_found : (kind : PartKind) (len count page : ℕ) (bodies : ℕ → Option (List ℕ)) (pieces : Pieces) → page % 21809 ≢ 0 → HoldsData count bodies pieces → FindsPage kind len count bodies (Some page) → HasPromise kind len page bodies
promise_found kind len count page bodies pieces plain holds found = record {
  promise = λ body is.
      let same : Some (holds.body page) ≡ Some body = sym (holds.sound page) ∙ is in
      let here : holds.body page ≡ body = cc in
      subst (λ (t : List ℕ). promises (is_tail kind) len (code t) ≡ true) here
      (subst (λ (n : ℕ). promises (is_tail kind) len n ≡ true) (holds.file.code page plain) (found (holds.body (map_of page)) (holds.sound (map_of page))));
}

-- and has a spot for the part
pub promise_kept : {A : Type 0} (kind : PartKind) (len count page : ℕ) (file : FileName) (old new : PageState) (pieces : Pieces) → 1 ≤ len → len ≤ 8173 → HoldsData count (old.bodies file) pieces → HasPromise kind len page (old.bodies file) → NoSpot kind file page None len old new → A
promise_kept kind len count page file old new pieces some few holds promised full =
    absurd (promise_spot kind len (holds.body page) some few (promised.promise (holds.body page) (holds.sound page)) (full.full (holds.body page) (holds.sound page)))

pub promise_on_ok : (r : Result ℕ Fault) (kind : PartKind) (len : ℕ) (bodies : ℕ → Option (List ℕ)) → IfOk r (λ page. bodies page ≡ Some (page_body zero_page)) → IfOk r (λ page. HasPromise kind len page bodies)
promise_on_ok (Ok page) kind len bodies zeros = promise_zeros kind len page bodies zeros
promise_on_ok (Err fault) kind len bodies zeros = tt

-- Pages on which nothing stands.
use Rattle.std.proofs.Common.{◌≡◌, ◌≢◌, ℕ, ◌+◌, ◌%◌, ◌<◌, ◌≤◌, Option, Some, None, List, refl, sym, ap, ◌∙◌, arith, subst, inl, inr, eq-eqb}
use Rattle.std.specs.Prelude.{slice_index, nat_le, Result, Ok, Err, IfOk}
use Rattle.std.specs.Option.{option_map}
use Rattle.std.proofs.lemmas.Bool.{cases_Bool, cases_eq, ne_eqb}
use Rattle.aria_page.specs.Page.{page_body, zero_page}
use Rattle.aria_host.specs.declared.fault.Fault.{Fault}
use Rattle.aria_bitmap.specs.Code.{code, room, head_code, tail_code}
use Rattle.aria_bitmap.specs.Pattern.{pattern}
use Rattle.aria_bitmap.specs.Promise.{IsFreeRun}
use Rattle.aria_block.specs.declared.part_kind.PartKind.{PartKind}
use Rattle.aria_block.specs.declared.part_kind.PartKind.TheVariants as part
use Rattle.aria_block.specs.Pieces.{Piece, Pieces}
use Rattle.aria_block.specs.PartPage.{part_in, part_byte, part_piece, LastIsUsed}
use Rattle.aria_block.specs.DataFile.{HoldsPage, free, parts, blob, map_of, nth_of, HoldsData}
use Rattle.aria_block.specs.Runs.{FindsRun, IsUnderOne, AreFree}
use Rattle.aria_block.proofs.Placed.{kind_of}

-- ---- pages under one bitmap page

pub under_here : (n count : ℕ) → count % 21809 ≢ 0 → count % 21809 + n ≤ 21809 → IsUnderOne n count
under_here n count plain within = record { plain = plain; within = within }

pub under_first : (n at : ℕ) → n ≤ 8 → at % 21809 ≡ 1 → IsUnderOne n at
under_first n at few is = record { plain = omega (arith, is); within = omega (arith, few, is) }

-- ---- free pages

some_head : (n : ℕ) → head_code n ≡ 0 → ⊥
some_head n = elim (cases_Bool (nat_le 6000 n)) [
  | inl a ↦ rw a (λ is. absurd (cc))
  | inr a ↦ rw a (elim (cases_Bool (nat_le 4000 n)) [
    | inl b ↦ rw b (λ is. absurd (cc))
    | inr b ↦ rw b (elim (cases_Bool (nat_le 2000 n)) [ inl c ↦ rw c (λ is. absurd (cc)) | inr c ↦ rw c (λ is. absurd (cc)) ])
  ])
]

some_tail : (n : ℕ) → tail_code n ≡ 0 → ⊥
some_tail n = elim (cases_Bool (nat_le 4000 n)) [
  | inl a ↦ rw a (λ is. absurd (cc))
  | inr a ↦ rw a (elim (cases_Bool (nat_le 1000 n)) [ inl b ↦ rw b (λ is. absurd (cc)) | inr b ↦ rw b (λ is. absurd (cc)) ])
]

not_free : (n : ℕ) → 0 < n → n ≡ 0 → ⊥
not_free n some none = omega (arith, some, none)

-- a page whose code is 0
code_free : (body : List ℕ) → code body ≡ 0 → slice_index body 0 ≡ 0
unfolding code
code_free body is = elim (cases_eq (slice_index body 0) 0) [
  | inl zero ↦ zero
  | inr used ↦ elim (cases_eq (slice_index body 0) 3) [
    | inl head ↦ absurd (some_head (room body) (rw (ne_eqb (slice_index body 0) 0 used, eq-eqb (slice_index body 0) 3 head) at is))
    | inr no_head ↦ elim (cases_eq (slice_index body 0) 4) [
      | inl tail ↦ absurd (some_tail (room body) (rw (ne_eqb (slice_index body 0) 0 used, ne_eqb (slice_index body 0) 3 no_head, eq-eqb (slice_index body 0) 4 tail) at is))
      | inr other ↦ absurd (not_free 7 (omega arith) (rw (ne_eqb (slice_index body 0) 0 used, ne_eqb (slice_index body 0) 3 no_head, ne_eqb (slice_index body 0) 4 other) at is))
    ]
  ]
]

some_kind : (kind : PartKind) → part_byte kind ≡ 0 → ⊥
some_kind part.Head is = absurd (cc)
some_kind part.Tail is = absurd (cc)

-- nothing stands on a free page
pub free_none : (body : List ℕ) (f : ℕ → Option Piece) → HoldsPage body f → slice_index body 0 ≡ 0 → (slot : ℕ) → f slot ≡ None
free_none body f (free first none) is slot = none slot
free_none body f (parts kind c items page holds) is slot = absurd (some_kind kind (sym (kind_of kind c items body page) ∙ is))
free_none body f (blob bytes first text here others) is slot = absurd (not_free 5 (omega arith) (sym first ∙ is))

-- and a page on which nothing stands is one
none_free : (body : List ℕ) (f : ℕ → Option Piece) → HoldsPage body f → ((slot : ℕ) → f slot ≡ None) → slice_index body 0 ≡ 0
none_free body f (free first nothing) none = first
none_free body f (parts kind c items page holds) none = absurd (used page.last)
  where
    no_part : (o : Option (List ℕ)) → option_map (part_piece kind) o ≡ None → o ≡ None
    no_part None is = refl
    no_part (Some x) is = absurd (cc)

    used : LastIsUsed c items → ⊥
    used (m, at, some) = some (no_part (part_in items m) (sym (holds m) ∙ none m))
none_free body f (blob bytes first text here others) none = let gone = none 0 in absurd (cc)

zero_first : slice_index (page_body zero_page) 0 ≡ 0
unfolding page_body zero_page
zero_first = refl

module _ (count : ℕ) (bodies : ℕ → Option (List ℕ)) (pieces : Pieces) (holds : HoldsData count bodies pieces) where
  -- nothing stands on a page of the file that has a free page's body
  none_there : (m slot : ℕ) → slice_index (holds.body m) 0 ≡ 0 → pieces m slot ≡ None
  none_there m slot is = elim (cases_eq (m % 21809) 0) [
    | inl map ↦ holds.file.none m slot map
    | inr plain ↦ free_none (holds.body m) (pieces m) (holds.file.page m plain) is slot
  ]

  -- nor on pages that are promised free
  pub run_free : (n page : ℕ) → IsUnderOne n page → FindsRun n count bodies (Some page) → AreFree n page pieces
  run_free n page under found = record {
    free = λ m slot from to.
        let run : IsFreeRun (holds.body (map_of page)) n (nth_of page) = found (holds.body (map_of page)) (holds.sound (map_of page)) in
        let plain : m % 21809 ≢ 0 = omega (arith, under.plain, under.within, from, to) in
        let same : map_of m ≡ map_of page = omega (arith, under.plain, under.within, from, to) in
        let zero : pattern (holds.body (map_of page)) (nth_of m) ≡ 0 = run.free (nth_of m) (omega (arith, under.plain, under.within, from, to)) (omega (arith, under.plain, under.within, from, to)) in
        none_there m slot (code_free (holds.body m) (sym (holds.file.code m plain) ∙ ap (λ (k : ℕ). pattern (holds.body k) (nth_of m)) same ∙ zero));
  }

  -- a page on which nothing stands has a free page's code
  code_none : (m : ℕ) → m % 21809 ≢ 0 → ((slot : ℕ) → pieces m slot ≡ None) → code (holds.body m) ≡ 0
  unfolding code
  code_none m plain none = rw (eq-eqb (slice_index (holds.body m) 0) 0 (none_free (holds.body m) (pieces m) (holds.file.page m plain) none)) refl

  -- pages on which nothing stands are promised free
  pub free_run : (n page : ℕ) → IsUnderOne n page → AreFree n page pieces → IsFreeRun (holds.body (map_of page)) n (nth_of page)
  free_run n page under are = record {
    within = omega (arith, under.plain, under.within);
    free = λ nth from to.
        let m : ℕ = map_of page + 1 + nth in
        let plain : m % 21809 ≢ 0 = omega (arith, under.plain, under.within, from, to) in
        let same : map_of m ≡ map_of page = omega (arith, under.plain, under.within, from, to) in
        let at : nth_of m ≡ nth = omega (arith, under.plain, under.within, from, to) in
        subst (λ (k : ℕ). pattern (holds.body (map_of page)) k ≡ 0) at
        (subst (λ (k : ℕ). pattern (holds.body k) (nth_of m) ≡ 0) same
        (holds.file.code m plain ∙ code_none m plain (λ slot. are.free m slot (omega (arith, under.plain, from)) (omega (arith, under.plain, under.within, from, to)))));
  }

  -- nor behind the file's end
  pub past_free : (n page : ℕ) → ((m : ℕ) → count ≤ m → bodies m ≡ Some (page_body zero_page)) → count ≤ page → AreFree n page pieces
  past_free n page past behind = record {
    free = λ m slot from to.
        let is : Some (holds.body m) ≡ Some (page_body zero_page) = sym (holds.sound m) ∙ past m (omega (arith, behind, from)) in
        let body : holds.body m ≡ page_body zero_page = cc in
        none_there m slot (ap (λ (t : List ℕ). slice_index t 0) body ∙ zero_first);
  }

-- new pages
pub past_on_ok : (r : Result ℕ Fault) (n count : ℕ) (bodies : ℕ → Option (List ℕ)) (pieces : Pieces) → HoldsData count bodies pieces → ((m : ℕ) → count ≤ m → bodies m ≡ Some (page_body zero_page)) → IfOk r (λ page. count ≤ page) → IfOk r (λ page. AreFree n page pieces)
past_on_ok (Ok page) n count bodies pieces holds past behind = past_free count bodies pieces holds n page past behind
past_on_ok (Err fault) n count bodies pieces holds past behind = tt

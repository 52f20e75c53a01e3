-- A page whose pieces may lie so has room for each part among them.
use Rattle.std.proofs.Common.{◌≡◌, ◌≢◌, ◌⊎◌, inl, inr, ℕ, zero, suc, ◌+◌, ◌<◌, ◌≤◌, ◌==◌, max, Bool, true, false, cond, Option, Some, None, List, [], ◌∷◌, length, refl, sym, ap, ◌∙◌, arith, subst, eq-eqb, length-append}
use Rattle.std.specs.Prelude.{slice_index}
use Rattle.std.specs.Option.{option_map}
use Rattle.std.proofs.lemmas.Bool.{cases_Bool, cases_eq, cases_lt, eqb-true}
use Rattle.aria_block.specs.declared.part_kind.PartKind.{PartKind}
use Rattle.aria_block.specs.declared.part_kind.PartKind.TheVariants as part
use Rattle.aria_block.specs.Pieces.{Piece, Head, Tail, Blob}
use Rattle.aria_block.specs.PartPage.{Items, text, part_in, part_byte, part_piece, AreDistinct, IsPartPage, LastIsUsed}
use Rattle.aria_block.specs.DataFile.{HoldsPage, free, parts, blob}
use Rattle.aria_block.specs.Spot.{SpotAt}
use Rattle.aria_block.specs.Lying.{piece_size, size_below, FitBy, IsHead, IsTail, MayLie}
use Rattle.aria_block.specs.Lying as lie
use Rattle.aria_block.proofs.Items.{entry_none}
use Rattle.aria_block.proofs.Placed.{HeadSays, head_says}
use Rattle.aria_block.proofs.Spots.{part_byte-fits}

-- ---- how many bytes pieces have together

module _ (f g : ℕ → Option Piece) (sub : (s : ℕ) → (f s ≡ None) ⊎ (f s ≡ g s)) where
  size_step : (s : ℕ) → piece_size (f s) ≤ piece_size (g s)
  size_step s = elim (sub s) [ inl none ↦ rw none (omega arith) | inr same ↦ rw same (omega arith) ]

  size_most : (n : ℕ) → size_below n f ≤ size_below n g
  size_most zero = omega arith
  size_most (suc n) = let before = size_most n in let here = size_step n in omega (arith, before, here)

  -- a piece more
  pub size_more : (slot : ℕ) → f slot ≡ None → (n : ℕ) → slot < n → size_below n f + piece_size (g slot) ≤ size_below n g
  size_more slot none zero low = absurd (omega (arith, low))
  size_more slot none (suc n) low = elim (cases_eq slot n) [
    | inl same ↦
        let here : piece_size (f n) ≡ 0 = ap (λ (m : ℕ). piece_size (f m)) (sym same) ∙ ap piece_size none in
        let there : piece_size (g slot) ≡ piece_size (g n) = ap (λ (m : ℕ). piece_size (g m)) same in
        let before = size_most n in omega (arith, before, here, there)
    | inr other ↦ let before = size_more slot none n (omega (arith, low, other)) in let here = size_step n in omega (arith, before, here)
  ]

part_size : (kind : PartKind) (bytes : List ℕ) → piece_size (Some (part_piece kind bytes)) ≡ length bytes
part_size part.Head bytes = refl
part_size part.Tail bytes = refl

-- the parts of a page
pub items_size : (kind : PartKind) (items : Items) (n : ℕ) → AreDistinct items → ((i : ℕ) → n ≤ i → part_in items i ≡ None) → length (text items) ≤ size_below n (λ s. option_map (part_piece kind) (part_in items s))
items_size kind [] n d above = omega arith
items_size kind (item ∷ items) n d above =
    let before = items_size kind items n d.1 (λ i le. none_of (item.0 == i) item.1 (part_in items i) (above i le)) in
    let more = size_more (λ s. option_map (part_piece kind) (part_in items s)) (λ s. option_map (part_piece kind) (part_in (item ∷ items) s)) sub item.0 (ap (option_map (part_piece kind)) d.0) n low in
    let here : piece_size (option_map (part_piece kind) (part_in (item ∷ items) item.0)) ≡ length item.1 = ap (λ (o : Option (List ℕ)). piece_size (option_map (part_piece kind) o)) itself ∙ part_size kind item.1 in
    omega (arith, before, more, here, length-append item.1 (text items))
  where
    none_of : (b : Bool) (x : List ℕ) (was : Option (List ℕ)) → cond b (Some x) was ≡ None → was ≡ None
    none_of true x was e = absurd (cc)
    none_of false x was e = e

    itself : part_in (item ∷ items) item.0 ≡ Some item.1
    itself = rw (eq-eqb item.0 item.0 refl) refl

    low : item.0 < n
    low = elim (cases_lt item.0 n) [ inl lt ↦ lt | inr le ↦ let clash : Some item.1 ≡ None = sym itself ∙ above item.0 le in absurd (cc) ]

    sub : (s : ℕ) → (option_map (part_piece kind) (part_in items s) ≡ None) ⊎ (option_map (part_piece kind) (part_in items s) ≡ option_map (part_piece kind) (part_in (item ∷ items) s))
    sub s = elim (cases_Bool (item.0 == s)) [
      | inl same ↦ inl (subst (λ (m : ℕ). option_map (part_piece kind) (part_in items m) ≡ None) (eqb-true item.0 s same) (ap (option_map (part_piece kind)) d.0))
      | inr other ↦ inr (rw other refl)
    ]

-- ---- room for a part

abbrev OfKind : PartKind → Piece → Type 0
OfKind part.Head x = IsHead x
OfKind part.Tail x = IsTail x

same_kind : (kind other : PartKind) (bytes : List ℕ) → OfKind kind (part_piece other bytes) → other ≡ kind
same_kind part.Head part.Head bytes is = refl
same_kind part.Tail part.Tail bytes is = refl
same_kind part.Head part.Tail bytes is = absurd is
same_kind part.Tail part.Head bytes is = absurd is

no_blob : (kind : PartKind) (bytes : List ℕ) → OfKind kind (Blob bytes) → ⊥
no_blob part.Head bytes is = is
no_blob part.Tail bytes is = is

-- the page holds some of the pieces that it may have, and the part is another of them
module _ (kind : PartKind) (slot : ℕ) (bytes body : List ℕ) (f g : ℕ → Option Piece) (sub : (s : ℕ) → (f s ≡ None) ⊎ (f s ≡ g s)) (none : f slot ≡ None) (here : g slot ≡ Some (part_piece kind bytes)) where
  module _ (alike : (s : ℕ) (x : Piece) → g s ≡ Some x → OfKind kind x) (n : ℕ) (fit : FitBy n g) where
    low : slot < n
    low = elim (cases_lt slot n) [ inl lt ↦ lt | inr le ↦ let gone = fit.above slot le in let clash : None ≡ Some (part_piece kind bytes) = sym gone ∙ here in absurd (cc) ]

    -- the part and what is there have room together
    both : size_below n f + length bytes ≤ size_below n g
    both = let more = size_more f g sub slot none n low in let len : piece_size (g slot) ≡ length bytes = ap piece_size here ∙ part_size kind bytes in omega (arith, more, len)

    on_free : slice_index body 0 ≡ 0 → SpotAt kind slot (length bytes) body None → ⊥
    on_free is no_spot = no_spot (record { slot = slot; before = 0; entries = max 0 (slot + 1); end = 4 }) refl (record {
      begins = inl (is, refl, refl);
      unused = λ lt. absurd (omega (arith, lt));
      entries = refl;
      few = omega (arith, fit.few, low);
      room = omega (arith, fit.room, both, low);
    })

    -- what stands there is one of the pieces
    one_of : (s : ℕ) (x : Piece) → f s ≡ Some x → g s ≡ Some x
    one_of s x is = elim (sub s) [ inl gone ↦ absurd (cc) | inr same ↦ sym same ∙ is ]

    inside : (s : ℕ) (x : Piece) → f s ≡ Some x → s < n
    inside s x is = elim (cases_lt s n) [ inl lt ↦ lt | inr le ↦ let gone = fit.above s le in let there = one_of s x is in absurd (cc) ]

    on_parts : (c : ℕ) (items : Items) → IsPartPage (part_byte kind) c items body → ((s : ℕ) → f s ≡ option_map (part_piece kind) (part_in items s)) → c ≤ n → SpotAt kind slot (length bytes) body None → ⊥
    on_parts c items is holds few no_spot =
        let says : HeadSays (part_byte kind) c (4 + length (text items)) body = head_says (part_byte kind) c (4 + length (text items)) body (part_byte-fits kind) (omega (arith, is.has.few)) (omega (arith, is.has.room)) is.head in
        let same : f ≡ (λ (s : ℕ). option_map (part_piece kind) (part_in items s)) = λ i s. holds s i in
        let sizes : length (text items) ≤ size_below n f = subst (λ (h : ℕ → Option Piece). length (text items) ≤ size_below n h) (sym same) (items_size kind items n is.has.distinct (λ i le. is.has.above i (omega (arith, few, le)))) in
        no_spot (record { slot = slot; before = c; entries = max c (slot + 1); end = 4 + length (text items) }) refl (record {
          begins = inr (says.first, sym says.count, sym says.last);
          unused = λ lt. is.has.entries slot lt ∙ entry_none items slot 4 (no_part (part_in items slot) (sym (holds slot) ∙ none));
          entries = refl;
          few = omega (arith, fit.few, low, few);
          room = omega (arith, fit.room, both, low, few, sizes);
        })
      where
        no_part : (o : Option (List ℕ)) → option_map (part_piece kind) o ≡ None → o ≡ None
        no_part None e = refl
        no_part (Some x) e = absurd (cc)

    by_page : HoldsPage body f → SpotAt kind slot (length bytes) body None → ⊥
    by_page (free first nothing) no_spot = on_free first no_spot
    by_page (parts other c items is holds) no_spot = used is.last
      where
        at_last : (m : ℕ) → c ≡ suc m → (o : Option (List ℕ)) → part_in items m ≡ o → (o ≢ None) → ⊥
        at_last m at None here_is some = some refl
        at_last m at (Some last) here_is some =
            let there : f m ≡ Some (part_piece other last) = holds m ∙ ap (option_map (part_piece other)) here_is in
            let same : other ≡ kind = same_kind kind other last (alike m (part_piece other last) (one_of m (part_piece other last) there)) in
            let below : m < n = inside m (part_piece other last) there in
            on_parts c items (subst (λ (k : PartKind). IsPartPage (part_byte k) c items body) same is)
            (subst (λ (k : PartKind). (s : ℕ) → f s ≡ option_map (part_piece k) (part_in items s)) same holds) (omega (arith, at, below)) no_spot

        used : LastIsUsed c items → ⊥
        used (m, at, some) = at_last m at (part_in items m) refl some
    by_page (blob bs first is at others) no_spot = no_blob kind bs (alike 0 (Blob bs) (one_of 0 (Blob bs) at))

pub room_by_lie : (kind : PartKind) (slot : ℕ) (bytes body : List ℕ) (f g : ℕ → Option Piece) → ((s : ℕ) → (f s ≡ None) ⊎ (f s ≡ g s)) → f slot ≡ None → g slot ≡ Some (part_piece kind bytes)
    → HoldsPage body f → MayLie g → SpotAt kind slot (length bytes) body None → ⊥
room_by_lie kind slot bytes body f g sub none here holds (lie.empty nothing) no_spot = let gone = nothing slot in absurd (cc)
room_by_lie part.Head slot bytes body f g sub none here holds (lie.heads alike n fit) no_spot = by_page part.Head slot bytes body f g sub none here alike n fit holds no_spot
room_by_lie part.Tail slot bytes body f g sub none here holds (lie.heads alike n fit) no_spot = absurd (alike slot (Tail bytes) here)
room_by_lie part.Head slot bytes body f g sub none here holds (lie.tails alike n fit) no_spot = absurd (alike slot (Head bytes) here)
room_by_lie part.Tail slot bytes body f g sub none here holds (lie.tails alike n fit) no_spot = by_page part.Tail slot bytes body f g sub none here alike n fit holds no_spot
room_by_lie part.Head zero bytes body f g sub none here holds (lie.blob bs first others) no_spot = absurd (cc)
room_by_lie part.Tail zero bytes body f g sub none here holds (lie.blob bs first others) no_spot = absurd (cc)
room_by_lie kind (suc slot) bytes body f g sub none here holds (lie.blob bs first others) no_spot = let gone = others slot in absurd (cc)

-- What stands on a page that was read.
use Rattle.std.proofs.Common.{◌≡◌, ◌≢◌, inl, inr, ℕ, ◌%◌, ◌<◌, true, false, Option, Some, None, List, ◌++◌, length, take, drop, refl, sym, ap, ◌∙◌, arith, subst}
use Rattle.std.specs.Prelude.{slice_index}
use Rattle.std.specs.Option.{option_map}
use Rattle.std.proofs.lemmas.Bool.{cases_eq}
use Rattle.std.proofs.lemmas.Option.{same_Some}
use Rattle.aria_page.specs.Page.{page_body, zero_page}
use Rattle.aria_block.specs.declared.head_fields.HeadFields.{HeadFields}
use Rattle.aria_block.specs.declared.part_kind.PartKind.{PartKind}
use Rattle.aria_block.specs.declared.part_kind.PartKind.TheVariants as part
use Rattle.aria_block.specs.Pieces.{Piece, Pieces, Head, Tail, Blob, head_of}
use Rattle.aria_block.specs.PartPage.{window, part_in, part_byte, part_piece}
use Rattle.aria_block.specs.DataFile.{HoldsPage, free, parts, blob, HoldsData}
use Rattle.aria_block.specs.Reading.{IsPartAt, CopiesHead, CopiesTail, CopiesBlob, ReadsHead, HasHead, HasTail, HasBlob}
use Rattle.aria_block.proofs.Spots.{part_byte-some}
use Rattle.aria_block.proofs.Placed.{kind_of}
use Rattle.aria_block.proofs.Taken.{OnPage, page_of}

zero_first : slice_index (page_body zero_page) 0 ≡ 0
unfolding page_body zero_page
zero_first = refl

module _ (count : ℕ) (bodies : ℕ → Option (List ℕ)) (pieces : Pieces) (holds : HoldsData count bodies pieces) (n : ℕ) (body : List ℕ) (at_page : bodies n ≡ Some body) where
  same : holds.body n ≡ body
  same = same_Some (holds.body n) body (sym (holds.sound n) ∙ at_page)

  -- a page with a piece is no bitmap page
  plain : (slot : ℕ) (x : Piece) → pieces n slot ≡ Some x → n % 21809 ≢ 0
  plain slot x is map = let none = holds.file.none n slot map in absurd (cc)

  on_page : (slot : ℕ) (x : Piece) → pieces n slot ≡ Some x → HoldsPage body (pieces n)
  on_page slot x is = subst (λ (t : List ℕ). HoldsPage t (pieces n)) same (holds.file.page n (plain slot x is))

  -- a free page, and one past the file's end, has no pieces
  none_of : (f : ℕ → Option Piece) → slice_index body 0 ≡ 0 → HoldsPage body f → (slot : ℕ) → f slot ≡ None
  none_of f first (free is none) slot = none slot
  none_of f first (parts kind c items is each) slot = absurd (omega (arith, first, kind_of kind c items body is, part_byte-some kind))
  none_of f first (blob bytes is text one none) slot = absurd (omega (arith, first, is))

  pub no_pieces : slice_index body 0 ≡ 0 → (slot : ℕ) → pieces n slot ≡ None
  no_pieces first slot = elim (cases_eq (n % 21809) 0) [
    | inl map ↦ holds.file.none n slot map
    | inr other ↦ none_of (pieces n) first (subst (λ (t : List ℕ). HoldsPage t (pieces n)) same (holds.file.page n other)) slot
  ]

  -- a part that stands there is on the page
  pub part_on : (kind : PartKind) (slot : ℕ) (bytes : List ℕ) → pieces n slot ≡ Some (part_piece kind bytes) → OnPage kind slot bytes body (pieces n)
  part_on kind slot bytes is = page_of kind slot bytes body (pieces n) (on_page slot (part_piece kind bytes) is) is

  -- a part that was found on the page stands there
  found_on : (kind : PartKind) (slot at len : ℕ) (f : ℕ → Option Piece) → IsPartAt kind slot body at len → HoldsPage body f → f slot ≡ Some (part_piece kind (window at len body))
  found_on kind slot at len f is (free first none) = let it = is.first in absurd (omega (arith, it, first, part_byte-some kind))
  found_on part.Head slot at len f is (blob bytes first text one none) = let it = is.first in absurd (omega (arith, it, first))
  found_on part.Tail slot at len f is (blob bytes first text one none) = let it = is.first in absurd (omega (arith, it, first))
  found_on part.Head slot at len f is (parts part.Head c items page each) = each slot ∙ ap (option_map Head) (is.is c items page)
  found_on part.Tail slot at len f is (parts part.Tail c items page each) = each slot ∙ ap (option_map Tail) (is.is c items page)
  found_on part.Head slot at len f is (parts part.Tail c items page each) = let it = is.first in let other = kind_of part.Tail c items body page in absurd (omega (arith, it, other))
  found_on part.Tail slot at len f is (parts part.Head c items page each) = let it = is.first in let other = kind_of part.Head c items body page in absurd (omega (arith, it, other))

  not_map : (kind : PartKind) → n < count → slice_index body 0 ≡ part_byte kind → n % 21809 ≢ 0
  not_map part.Head low first map = let it = holds.file.map n map low in let there = ap (λ (t : List ℕ). slice_index t 0) same in absurd (omega (arith, it, there, first))
  not_map part.Tail low first map = let it = holds.file.map n map low in let there = ap (λ (t : List ℕ). slice_index t 0) same in absurd (omega (arith, it, there, first))

  pub part_there : (kind : PartKind) (slot at len : ℕ) → n < count → IsPartAt kind slot body at len → pieces n slot ≡ Some (part_piece kind (window at len body))
  part_there kind slot at len low is = found_on kind slot at len (pieces n) is (subst (λ (t : List ℕ). HoldsPage t (pieces n)) same (holds.file.page n (not_map kind low is.first)))

  -- ---- heads

  pub reads_head : (slot : ℕ) (old new : List ℕ) (h : HeadFields) → n < count → CopiesHead slot body old new (Some h) → ReadsHead pieces (record { page = n; slot = slot }) h old new
  reads_head slot old new h low took = record {
    bytes = window took.at took.len body;
    there = part_there part.Head slot took.at took.len low took.part;
    is = took.is;
    says = took.says;
    out = took.out;
  }

  pub no_head : (slot : ℕ) (old new : List ℕ) → CopiesHead slot body old new None → HasHead (record { page = n; slot = slot }) pieces → ⊥
  no_head slot old new none has =
      let on = part_on part.Head slot (head_of has.kept.places has.kept.row) has.there in
      none on.count on.items has.kept on.is has.laid has.fits on.there

  -- ---- tails

  pub reads_tail : (slot len : ℕ) (bytes old new : List ℕ) → CopiesTail slot len body old new true → pieces n slot ≡ Some (Tail bytes) → new ≡ old ++ bytes
  reads_tail slot len bytes old new took is =
      let on = part_on part.Tail slot bytes is in
      let text : window took.at len body ≡ bytes = same_Some (window took.at len body) bytes (sym (took.part.is on.count on.items on.is) ∙ on.there) in
      took.out ∙ ap (λ (l : List ℕ). old ++ l) text

  pub no_tail : (slot len : ℕ) (old new : List ℕ) → CopiesTail slot len body old new false → HasTail (record { page = n; slot = slot }) len pieces → ⊥
  no_tail slot len old new none has = let on = part_on part.Tail slot has.bytes has.there in none on.count on.items has.bytes on.is on.there has.long

  -- ---- blobs

  blob_text : (f : ℕ → Option Piece) (bytes : List ℕ) → HoldsPage body f → f 0 ≡ Some (Blob bytes) → (slice_index body 0 ≡ 5) × (window 1 (length bytes) body ≡ bytes)
  unfolding window
  blob_text f bytes (free first none) is = let no_piece = none 0 in absurd (cc)
  blob_text f bytes (parts part.Head c items page each) is = other (part_in items 0) (sym (each 0) ∙ is)
    where
      other : {A : Type 0} (o : Option (List ℕ)) → option_map Head o ≡ Some (Blob bytes) → A
      other None e = absurd (cc)
      other (Some b) e = absurd (cc)
  blob_text f bytes (parts part.Tail c items page each) is = other (part_in items 0) (sym (each 0) ∙ is)
    where
      other : {A : Type 0} (o : Option (List ℕ)) → option_map Tail o ≡ Some (Blob bytes) → A
      other None e = absurd (cc)
      other (Some b) e = absurd (cc)
  blob_text f bytes (blob b first text one none) is =
      let both : Some (Blob b) ≡ Some (Blob bytes) = sym one ∙ is in
      let eq : b ≡ bytes = cc in
      (first, subst (λ (t : List ℕ). take (length t) (drop 1 body) ≡ t) eq text)

  pub reads_blob : (len : ℕ) (bytes old new : List ℕ) → CopiesBlob len body old new true → pieces n 0 ≡ Some (Blob bytes) → length bytes ≡ len → new ≡ old ++ bytes
  reads_blob len bytes old new took is long =
      let text = (blob_text (pieces n) bytes (on_page 0 (Blob bytes) is) is).1 in
      took.1 ∙ ap (λ (l : List ℕ). old ++ l) (ap (λ (k : ℕ). window 1 k body) (sym long) ∙ text)

  pub no_blob : (len : ℕ) (old new : List ℕ) → CopiesBlob len body old new false → HasBlob n pieces → ⊥
  no_blob len old new none has = none (blob_text (pieces n) has.bytes (on_page 0 (Blob has.bytes) has.there) has.there).0

-- no page past the file's end has a piece
pub none_past : (count : ℕ) (bodies : ℕ → Option (List ℕ)) (pieces : Pieces) → HoldsData count bodies pieces → (n : ℕ) → bodies n ≡ Some (page_body zero_page) → (slot : ℕ) → pieces n slot ≡ None
none_past count bodies pieces holds n zeros slot = no_pieces count bodies pieces holds n (page_body zero_page) zeros zero_first slot

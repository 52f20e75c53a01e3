-- A part at its spot.
use Rattle.std.proofs.Common.{◌≡◌, ◌≢◌, inl, inr, ℕ, ◌+◌, ◌*◌, ◌<◌, ◌≤◌, ◌==◌, max, Bool, true, false, cond, Option, Some, None, List, [], ◌∷◌, ◌++◌, length, take, drop, replicate, get_or, refl, sym, ap, ◌∙◌, arith, subst, length-append, ◌-◌}
use Rattle.aria_page.specs.Page.{with_bytes}
use Rattle.aria_page.proofs.Pages.{length-with_bytes}
use Rattle.std.specs.Prelude.{slice_index}
use Rattle.std.specs.Option.{option_map}
use Rattle.std.proofs.lemmas.Bool.{eqb-true, cases_lt}
use Rattle.std.proofs.lemmas.List.{get_or-take, drop-take, append-nil, length-replicate}
use Rattle.aria_page.specs.Number.{number, number_of}
use Rattle.aria_page.proofs.Numbers.{length-number, number-one, number_of-number, number_of-take}
use Rattle.aria_block.specs.declared.part_kind.PartKind.{PartKind}
use Rattle.aria_block.specs.declared.part_kind.PartKind.TheVariants as part
use Rattle.aria_block.specs.declared.spot.Spot.{Spot}
use Rattle.aria_block.specs.Pieces.{Piece}
use Rattle.aria_block.specs.PartPage.{window, Items, text, part_in, part_byte, part_piece, entry_of, HasParts, head_bytes, IsPartPage, with_part}
use Rattle.aria_block.specs.DataFile.{HoldsPage, free, parts, blob, with_piece}
use Rattle.aria_block.specs.Spot.{IsSpot}
use Rattle.aria_block.proofs.Items.{part_other, part_here}
use Rattle.aria_block.proofs.PutAt.{put_at}
use Rattle.aria_block.proofs.Spots.{part_byte-some, part_byte-fits}

-- what the first bytes say
pub record HeadSays (kind c end : ℕ) (body : List ℕ) : Type 0 where
  pub first : slice_index body 0 ≡ kind
  pub count : slice_index body 1 ≡ c
  pub last : number_of 2 (drop 2 body) ≡ end

pub head_says : (k c end : ℕ) (body : List ℕ) → k < 256 → c < 256 → end < 65536 → window 0 4 body ≡ head_bytes k c end → HeadSays k c end body
unfolding window
head_says k c end body fk fc fe is =
    let bytes : take 4 body ≡ k ∷ (c ∷ number 2 end) = is ∙ (λ i. number-one k fk i ++ (number-one c fc i ++ number 2 end)) in
    record {
      first = sym (get_or-take 4 body 0 0 (omega arith)) ∙ ap (λ (l : List ℕ). get_or l 0 0) bytes;
      count = sym (get_or-take 4 body 1 0 (omega arith)) ∙ ap (λ (l : List ℕ). get_or l 1 0) bytes;
      last = sym (number_of-take 2 (drop 2 body)) ∙ ap (number_of 2) (sym (drop-take 2 2 body) ∙ ap (drop 2) bytes ∙ sym (append-nil (number 2 end))) ∙ number_of-number 2 end [] fe;
    }

-- a slot whose entry is 0 has no part
unused_step : (b : Bool) (x : List ℕ) (from n : ℕ) (was : Option (List ℕ)) → 0 < from → cond b (65536 * from + length x) n ≡ 0 → (n ≡ 0 → was ≡ None) → cond b (Some x) was ≡ None
unused_step true x from n was low none more = absurd (omega (arith, low, none))
unused_step false x from n was low none more = more none

pub unused_none : (items : Items) (slot from : ℕ) → 0 < from → entry_of slot from items ≡ 0 → part_in items slot ≡ None
unused_none [] slot from low none = refl
unused_none (item ∷ items) slot from low none =
    unused_step (item.0 == slot) item.1 from (entry_of slot (from + length item.1) items) (part_in items slot) low none (unused_none items slot (from + length item.1) (omega (arith, low)))

mapped_step : (b : Bool) (H : List ℕ → Piece) (bytes : List ℕ) (new old : Option (List ℕ)) (was : Option Piece) → was ≡ option_map H old → (b ≡ true → new ≡ Some bytes) → (b ≡ false → new ≡ old)
    → cond b (Some (H bytes)) was ≡ option_map H new
mapped_step true H bytes new old was is here other = rw (here refl) refl
mapped_step false H bytes new old was is here other = rw (other refl) is

mapped : (H : List ℕ → Piece) (items : Items) (slot : ℕ) (bytes : List ℕ) (f : ℕ → Option Piece) → ((s : ℕ) → f s ≡ option_map H (part_in items s)) → part_in items slot ≡ None
    → (s : ℕ) → with_piece slot (H bytes) f s ≡ option_map H (part_in (items ++ (slot, bytes) ∷ []) s)
mapped H items slot bytes f is none s = mapped_step (slot == s) H bytes (part_in (items ++ (slot, bytes) ∷ []) s) (part_in items s) (f s) (is s)
    (λ same. subst (λ (n : ℕ). part_in (items ++ (slot, bytes) ∷ []) n ≡ Some bytes) (eqb-true slot s same) (part_here items slot bytes none))
    (λ other. part_other items slot s bytes other)

-- a free page has no parts, whatever its bytes are
nothing : (body : List ℕ) → length body ≡ 8181 → HasParts 0 [] body
unfolding window
nothing body long = record { long = long; parts = refl; entries = λ i lt. absurd (omega (arith, lt)); above = λ i le. refl; distinct = tt; few = omega arith; room = omega arith }

-- A page of such parts with one more, in a slot where nothing was.
pub record HasOneMore (kind : PartKind) (slot : ℕ) (bytes text : List ℕ) (f : ℕ → Option Piece) : Type 0 where
  pub count : ℕ
  pub items : Items
  pub is : IsPartPage (part_byte kind) count items text
  pub holds : (s : ℕ) → with_piece slot (part_piece kind bytes) f s ≡ option_map (part_piece kind) (part_in items s)
  pub free : f slot ≡ None

-- the kind of a page of parts
pub kind_of : (kind : PartKind) (c : ℕ) (items : Items) (body : List ℕ) → IsPartPage (part_byte kind) c items body → slice_index body 0 ≡ part_byte kind
kind_of kind c items body is = (head_says (part_byte kind) c (4 + length (text items)) body (part_byte-fits kind) (omega (arith, is.has.few)) (omega (arith, is.has.room)) is.head).first

-- the body with the part
abbrev pub put_text : PartKind → Spot → List ℕ → List ℕ → List ℕ
put_text kind s bytes body = with_part (part_byte kind) s.before s.entries s.end s.slot bytes body

module _ (kind : PartKind) (body bytes : List ℕ) (f : ℕ → Option Piece) (s : Spot) (spot : IsSpot kind (length bytes) body s) where
  on_free : length body ≡ 8181 → slice_index body 0 ≡ 0 → ((slot : ℕ) → f slot ≡ None) → HasOneMore kind s.slot bytes (put_text kind s bytes body) f
  on_free long is none = elim spot.begins [
    | inl new ↦ record {
      count = s.entries;
      items = (s.slot, bytes) ∷ [];
      is = at_spot (sym new.1) (sym new.2);
      holds = mapped (part_piece kind) [] s.slot bytes f none refl;
      free = none s.slot;
    }
    | inr old ↦ absurd (omega (arith, is, old.0, part_byte-some kind))
  ]
    where
      at_spot : 0 ≡ s.before → 4 ≡ s.end → IsPartPage (part_byte kind) s.entries ((s.slot, bytes) ∷ []) (put_text kind s bytes body)
      at_spot c end = subst (λ (n : ℕ). IsPartPage (part_byte kind) s.entries ((s.slot, bytes) ∷ []) (with_part (part_byte kind) s.before s.entries n s.slot bytes body)) end
          (subst (λ (n : ℕ). IsPartPage (part_byte kind) s.entries ((s.slot, bytes) ∷ []) (with_part (part_byte kind) n s.entries 4 s.slot bytes body)) c
          (put_at (part_byte kind) 0 s.entries [] s.slot bytes body (nothing body long) (λ lt. absurd (omega (arith, lt))) refl (spot.entries ∙ ap (λ (n : ℕ). max n (s.slot + 1)) (sym c)) spot.few (omega (arith, spot.room, end))))

  on_kind : (c : ℕ) (items : Items) → IsPartPage (part_byte kind) c items body → ((slot : ℕ) → f slot ≡ option_map (part_piece kind) (part_in items slot)) → HasOneMore kind s.slot bytes (put_text kind s bytes body) f
  on_kind c items is holds =
      let says = head_says (part_byte kind) c (4 + length (text items)) body (part_byte-fits kind) (omega (arith, is.has.few)) (omega (arith, is.has.room)) is.head in
      elim spot.begins [
        | inl new ↦ absurd (omega (arith, says.first, new.0, part_byte-some kind))
        | inr old ↦
            let before : c ≡ s.before = sym (old.1 ∙ says.count) in
            let end : 4 + length (text items) ≡ s.end = sym (old.2 ∙ says.last) in
            let unused : part_in items s.slot ≡ None = elim (cases_lt s.slot c) [
              | inl lt ↦ unused_none items s.slot 4 (omega arith) (sym (is.has.entries s.slot lt) ∙ spot.unused (omega (arith, lt, before)))
              | inr le ↦ is.has.above s.slot le
            ] in
            record {
              count = s.entries;
              items = items ++ (s.slot, bytes) ∷ [];
              is = subst (λ (n : ℕ). IsPartPage (part_byte kind) s.entries (items ++ (s.slot, bytes) ∷ []) (with_part (part_byte kind) s.before s.entries n s.slot bytes body)) end
                  (subst (λ (n : ℕ). IsPartPage (part_byte kind) s.entries (items ++ (s.slot, bytes) ∷ []) (with_part (part_byte kind) n s.entries (4 + length (text items)) s.slot bytes body)) before
                  (put_at (part_byte kind) c s.entries items s.slot bytes body is.has (λ lt. is.last) unused (spot.entries ∙ ap (λ (n : ℕ). max n (s.slot + 1)) (sym before)) spot.few (omega (arith, spot.room, end))));
              holds = mapped (part_piece kind) items s.slot bytes f holds unused;
              free = holds s.slot ∙ ap (option_map (part_piece kind)) unused;
            }
      ]

  -- a page whose first byte is another has no spot
  on_other : {A : Type 0} (k : ℕ) → slice_index body 0 ≡ k → 0 < k → k ≢ part_byte kind → A
  on_other k is more other = elim spot.begins [ inl new ↦ absurd (omega (arith, is, new.0, more)) | inr old ↦ absurd (other (sym is ∙ old.0)) ]

not_blob : (kind : PartKind) → 5 ≢ part_byte kind
not_blob part.Head = omega arith
not_blob part.Tail = omega arith

-- a part put at its spot
pub placed : (kind : PartKind) (body bytes : List ℕ) (f : ℕ → Option Piece) (s : Spot) → length body ≡ 8181 → HoldsPage body f → IsSpot kind (length bytes) body s → HasOneMore kind s.slot bytes (put_text kind s bytes body) f
placed kind body bytes f s long (free is none) spot = on_free kind body bytes f s spot long is none
placed kind body bytes f s long (blob b is at holds none) spot = on_other kind body bytes f s spot 5 is (omega arith) (not_blob kind)
placed part.Head body bytes f s long (parts part.Head c items is holds) spot = on_kind part.Head body bytes f s spot c items is holds
placed part.Tail body bytes f s long (parts part.Tail c items is holds) spot = on_kind part.Tail body bytes f s spot c items is holds
placed part.Head body bytes f s long (parts part.Tail c items is holds) spot = on_other part.Head body bytes f s spot 4 (kind_of part.Tail c items body is) (omega arith) (omega arith)
placed part.Tail body bytes f s long (parts part.Head c items is holds) spot = on_other part.Tail body bytes f s spot 3 (kind_of part.Head c items body is) (omega arith) (omega arith)

-- and the page has its length
pub put_long : (kind : PartKind) (body bytes : List ℕ) (s : Spot) → length body ≡ 8181 → IsSpot kind (length bytes) body s → length (put_text kind s bytes body) ≡ 8181
put_long kind body bytes s long spot =
    let slot : s.slot + 1 ≤ s.entries = omega (arith, spot.entries) in
    let dir : List ℕ = number 4 (65536 * s.end + length bytes) ++ replicate (4 * (s.slot - s.before)) 0 in
    let dir_long : length dir ≡ 4 + 4 * (s.slot - s.before) = omega (arith, length-append (number 4 (65536 * s.end + length bytes)) (replicate (4 * (s.slot - s.before)) 0), length-number 4 (65536 * s.end + length bytes), length-replicate {A = ℕ} (4 * (s.slot - s.before)) 0) in
    let first : List ℕ = with_bytes s.end bytes body in
    let second : List ℕ = with_bytes (8181 - 4 * (s.slot + 1)) dir first in
    let one : length first ≡ length body = length-with_bytes s.end bytes body (omega (arith, spot.room, long)) in
    let two : length second ≡ length first = length-with_bytes (8181 - 4 * (s.slot + 1)) dir first (omega (arith, slot, spot.room, one, long, dir_long)) in
    length-with_bytes 0 (head_bytes (part_byte kind) s.entries (s.end + length bytes)) second
    (omega (arith, one, two, long, length-append (number 1 (part_byte kind)) (number 1 s.entries ++ number 2 (s.end + length bytes)), length-append (number 1 s.entries) (number 2 (s.end + length bytes)), length-number 1 (part_byte kind), length-number 1 s.entries, length-number 2 (s.end + length bytes)))
    ∙ two ∙ one ∙ long

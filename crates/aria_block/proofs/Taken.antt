-- A part taken from a page.
use Rattle.std.proofs.Common.{◌≡◌, ◌≢◌, inl, inr, ℕ, zero, suc, ◌+◌, ◌*◌, ◌-◌, ◌<◌, ◌≤◌, Option, Some, None, List, [], ◌∷◌, ◌++◌, length, take, drop, refl, sym, ap, ◌∙◌, arith, subst, eq-eqb, length-append}
use Rattle.std.specs.Prelude.{slice_index}
use Rattle.std.specs.Option.{option_map}
use Rattle.std.proofs.lemmas.Bool.{cases_eq, cases_lt, ne_eqb}
use Rattle.aria_page.specs.Edit.{edited, all_edited}
use Rattle.aria_page.specs.Number.{number_of}
use Rattle.aria_page.specs.Page.{with_bytes}
use Rattle.aria_bitmap.specs.Code.{entry}
use Rattle.aria_block.specs.declared.cut.Cut.{Cut}
use Rattle.aria_block.specs.declared.part_kind.PartKind.{PartKind}
use Rattle.aria_block.specs.declared.part_kind.PartKind.TheVariants as part
use Rattle.aria_page.proofs.Pages.{length-with_bytes}
use Rattle.aria_block.specs.Pieces.{Piece, Head, Tail, Blob}
use Rattle.aria_block.specs.PartPage.{window, Items, text, part_in, part_byte, part_piece, entry_of, HasParts, LastIsUsed, AreDistinct, head_bytes, IsPartPage, directory, without_part}
use Rattle.aria_block.specs.DataFile.{HoldsPage, free, parts, blob, without_piece}
use Rattle.aria_block.specs.Cut.{moved, left_entry, Lies, IsCut, cut_edits}
use Rattle.aria_block.proofs.Items.{entry_none, text-append, part_without, part_gone}
use Rattle.aria_block.proofs.Spots.{part_byte-fits}
use Rattle.aria_block.proofs.Placed.{head_says, kind_of, unused_none}
use Rattle.aria_block.proofs.Removed.{removed}
use Rattle.aria_block.proofs.Cutting.{Around, around, entry_moved, entry_at, directory_left}

-- A part of a page, among the others.
pub record Stands (c : ℕ) (items : Items) (slot : ℕ) (bytes body : List ℕ) : Type 0 where
  pub among : Around items slot bytes
  pub count : slice_index body 1 ≡ c
  pub within : slot < c
  pub end : number_of 2 (drop 2 body) ≡ 4 + length (text among.front) + length bytes + length (text among.back)
  pub here : entry body slot ≡ 65536 * (4 + length (text among.front)) + length bytes
  pub room : 4 + length (text among.front) + length bytes + length (text among.back) + 4 * c ≤ 8181

text_size : (items : Items) (slot : ℕ) (bytes : List ℕ) (a : Around items slot bytes) → length (text items) ≡ length (text a.front) + length bytes + length (text a.back)
text_size items slot bytes a =
    ap (λ (l : Items). length (text l)) a.is ∙ ap length (text-append a.front ((slot, bytes) ∷ a.back))
    ∙ omega (arith, length-append (text a.front) (bytes ++ text a.back), length-append bytes (text a.back))

pub stands : (kind : PartKind) (c : ℕ) (items : Items) (slot : ℕ) (bytes body : List ℕ) → IsPartPage (part_byte kind) c items body → part_in items slot ≡ Some bytes → Stands c items slot bytes body
stands kind c items slot bytes body is there =
    let says = head_says (part_byte kind) c (4 + length (text items)) body (part_byte-fits kind) (omega (arith, is.has.few)) (omega (arith, is.has.room)) is.head in
    let a = around items slot bytes there in
    let size = text_size items slot bytes a in
    let low : slot < c = elim (cases_lt slot c) [ inl lt ↦ lt | inr le ↦ let none = is.has.above slot le in absurd (cc) ] in
    record {
      among = a;
      count = says.count;
      within = low;
      end = says.last ∙ omega (arith, size);
      here = is.has.entries slot low ∙ ap (entry_of slot 4) a.is ∙ entry_at a.front a.back slot 4 bytes a.free;
      room = omega (arith, is.has.room, size);
    }

-- where what is needed isn't there, the slot has no part
pub no_part : (kind : PartKind) (nth at len end : ℕ) (body : List ℕ) → entry body nth ≡ 65536 * at + len → len < 65536 → end ≡ number_of 2 (drop 2 body) → (Lies at len end (slice_index body 1) → ⊥)
    → (c : ℕ) (items : Items) → IsPartPage (part_byte kind) c items body → part_in items nth ≡ None
no_part kind nth at len end body is fits end_is not c items page = none_of (part_in items nth) refl
  where
    none_of : (o : Option (List ℕ)) → part_in items nth ≡ o → o ≡ None
    none_of None e = refl
    none_of (Some bytes) e =
        let s = stands kind c items nth bytes body page e in
        let at_is : at ≡ 4 + length (text s.among.front) = omega (arith, is, s.here, fits, s.room) in
        let len_is : len ≡ length bytes = omega (arith, is, s.here, fits, s.room) in
        absurd (not (omega (arith, at_is), omega (arith, at_is, len_is, end_is, s.end), omega (arith, end_is, s.end, s.room, s.count)))

pub not_below : (kind : PartKind) (nth : ℕ) (body : List ℕ) → slice_index body 1 ≤ nth → (c : ℕ) (items : Items) → IsPartPage (part_byte kind) c items body → part_in items nth ≡ None
not_below kind nth body past c items page =
    let says = head_says (part_byte kind) c (4 + length (text items)) body (part_byte-fits kind) (omega (arith, page.has.few)) (omega (arith, page.has.room)) page.head in
    page.has.above nth (omega (arith, past, says.count))

pub not_kind : (kind : PartKind) (nth : ℕ) (body : List ℕ) → slice_index body 0 ≢ part_byte kind → (c : ℕ) (items : Items) → IsPartPage (part_byte kind) c items body → part_in items nth ≡ None
not_kind kind nth body other c items page = absurd (other (kind_of kind c items body page))

-- ---- the page without the part

first_free : (body : List ℕ) → slice_index (with_bytes 0 (0 ∷ []) body) 0 ≡ 0
unfolding with_bytes
first_free body = refl

module _ (kind : PartKind) (nth : ℕ) (body bytes : List ℕ) (cut : Cut) (c : ℕ) (items : Items) (page : IsPartPage (part_byte kind) c items body) (is : IsCut kind nth body cut) (s : Stands c items nth bytes body) where
  at_is : cut.at ≡ 4 + length (text s.among.front)
  at_is = omega (arith, is.here, s.here, is.lies.1, is.lies.2, s.room)

  len_is : cut.len ≡ length bytes
  len_is = omega (arith, is.here, s.here, is.lies.1, is.lies.2, s.room)

  end_is : cut.end ≡ 4 + length (text s.among.front) + length bytes + length (text s.among.back)
  end_is = is.end ∙ s.end

  abbrev pub parts_left : Items
  parts_left = s.among.front ++ s.among.back

  gone : part_in parts_left nth ≡ None
  gone = part_gone s.among.front s.among.back nth bytes (subst AreDistinct s.among.is page.has.distinct)

  others : (i : ℕ) → i ≢ nth → part_in parts_left i ≡ part_in items i
  others i other = sym (part_without s.among.front s.among.back nth i bytes (ne_eqb nth i (λ e. other (sym e)))) ∙ ap (λ (l : Items). part_in l i) (sym s.among.is)

  -- the entries that are left are those of the other parts
  each : (i : ℕ) → i < c → left_entry body nth cut.at cut.len i ≡ entry_of i 4 parts_left
  each i lt = elim (cases_eq i nth) [
    | inl same ↦ rw (eq-eqb i nth same) (sym (subst (λ (k : ℕ). entry_of k 4 parts_left ≡ 0) (sym same) (entry_none parts_left nth 4 gone)))
    | inr other ↦ rw (ne_eqb i nth other) (subst (λ (a : ℕ). moved a cut.len (entry body i) ≡ entry_of i 4 parts_left) (sym at_is) (subst (λ (l : ℕ). moved (4 + length (text s.among.front)) l (entry body i) ≡ entry_of i 4 parts_left) (sym len_is)
        (ap (moved (4 + length (text s.among.front)) (length bytes)) (page.has.entries i lt ∙ ap (entry_of i 4) s.among.is)
        ∙ entry_moved s.among.front s.among.back nth i 4 bytes (omega arith) (omega (arith, s.room)) (λ e. other (sym e)))))
  ]

  above : (i : ℕ) → cut.left ≤ i → part_in parts_left i ≡ None
  above i le = elim (cases_eq i nth) [
    | inl same ↦ subst (λ (k : ℕ). part_in parts_left k ≡ None) (sym same) gone
    | inr other ↦ others i other ∙ elim (cases_lt i c) [
      | inl lt ↦ elim (is.left.above i le (omega (arith, lt, s.count))) [
        | inl same ↦ absurd (other same)
        | inr none ↦ unused_none items i 4 (omega arith) (sym (page.has.entries i lt) ∙ none)
      ]
      | inr past ↦ page.has.above i past
    ]
  ]

  last : (n : ℕ) → cut.left ≡ suc n → LastIsUsed cut.left parts_left
  last n e =
      let low : n < c = omega (arith, e, is.left.within, s.count) in
      (n, e, λ none. (is.left.last n e).1 (page.has.entries n low ∙ entry_none items n 4 (sym (others n (is.left.last n e).0) ∙ none)))

  -- its bytes
  cut_text : cut.left ≢ 0 → all_edited (cut_edits kind cut) body ≡ without_part (part_byte kind) cut.left (length (text s.among.front)) (length bytes) (length (text s.among.back)) (directory cut.left parts_left) body
  unfolding edited window
  cut_text more =
      let end : cut.end - cut.len ≡ 4 + length (text s.among.front) + length (text s.among.back) = omega (arith, end_is, len_is) in
      let from : cut.at + cut.len ≡ 4 + length (text s.among.front) + length bytes = omega (arith, at_is, len_is) in
      let behind : cut.end - (cut.at + cut.len) ≡ length (text s.among.back) = omega (arith, end_is, at_is, len_is) in
      let entries : take (4 * cut.left) cut.entries ≡ directory cut.left parts_left = is.entries ∙ directory_left body nth cut.at cut.len cut.left parts_left (λ i lt. each i (omega (arith, lt, is.left.within, s.count))) in
      rw (ne_eqb cut.left 0 more) (λ i. with_bytes 0 (head_bytes (part_byte kind) cut.left (end i)) (with_bytes (8181 - 4 * cut.left) (entries i) (with_bytes (at_is i) (take (behind i) (drop (from i) body)) body)))

  pub left_page : (n : ℕ) → cut.left ≡ suc n → IsPartPage (part_byte kind) cut.left parts_left (all_edited (cut_edits kind cut) body)
  left_page n e = subst (IsPartPage (part_byte kind) cut.left parts_left) (sym (cut_text (omega (arith, e))))
      (removed (part_byte kind) c cut.left s.among.front s.among.back nth bytes body (subst (λ (l : Items). HasParts c l body) s.among.is page.has) (omega (arith, is.left.within, s.count)) above (last n e))

  free_text : cut.left ≡ 0 → all_edited (cut_edits kind cut) body ≡ with_bytes 0 (0 ∷ []) body
  unfolding edited
  free_text none = rw (eq-eqb cut.left 0 none) refl

  -- and it holds the other parts
  rest_of : (f : ℕ → Option Piece) → ((slot : ℕ) → f slot ≡ option_map (part_piece kind) (part_in items slot)) → (slot : ℕ) → without_piece nth f slot ≡ option_map (part_piece kind) (part_in parts_left slot)
  rest_of f holds slot = elim (cases_eq nth slot) [
    | inl same ↦ rw (eq-eqb nth slot same, subst (λ (k : ℕ). part_in parts_left k ≡ None) same gone) refl
    | inr other ↦ rw (ne_eqb nth slot other) (holds slot ∙ ap (option_map (part_piece kind)) (sym (others slot (λ e. other (sym e)))))
  ]

  pub holds_left : (f : ℕ → Option Piece) → ((slot : ℕ) → f slot ≡ option_map (part_piece kind) (part_in items slot)) → HoldsPage (all_edited (cut_edits kind cut) body) (without_piece nth f)
  holds_left f holds = by (cut.left) refl
    where
      by : (n : ℕ) → cut.left ≡ n → HoldsPage (all_edited (cut_edits kind cut) body) (without_piece nth f)
      by zero e = free
          (ap (λ (t : List ℕ). slice_index t 0) (free_text e) ∙ first_free body)
          (λ slot. rest_of f holds slot ∙ ap (option_map (part_piece kind)) (above slot (omega (arith, e))))
      by (suc n) e = parts kind cut.left parts_left (left_page n e) (rest_of f holds)

  cut_length : length body ≡ 8181 → length (all_edited (cut_edits kind cut) body) ≡ 8181
  cut_length long = by (cut.left) refl
    where
      by : (n : ℕ) → cut.left ≡ n → length (all_edited (cut_edits kind cut) body) ≡ 8181
      by zero e = ap length (free_text e) ∙ length-with_bytes 0 (0 ∷ []) body (omega (arith, long)) ∙ long
      by (suc n) e = (left_page n e).has.long

-- ---- pages that hold a part

pub record OnPage (kind : PartKind) (nth : ℕ) (bytes body : List ℕ) (f : ℕ → Option Piece) : Type 0 where
  pub count : ℕ
  pub items : Items
  pub is : IsPartPage (part_byte kind) count items body
  pub holds : (slot : ℕ) → f slot ≡ option_map (part_piece kind) (part_in items slot)
  pub there : part_in items nth ≡ Some bytes

-- a piece that is a part of a kind is no other piece
part_is : (kind : PartKind) (o : Option (List ℕ)) (bytes : List ℕ) → option_map (part_piece kind) o ≡ Some (part_piece kind bytes) → o ≡ Some bytes
part_is part.Head None bytes is = absurd (cc)
part_is part.Head (Some b) bytes is = cc
part_is part.Tail None bytes is = absurd (cc)
part_is part.Tail (Some b) bytes is = cc

no_head : {A : Type 0} (o : Option (List ℕ)) (bytes : List ℕ) → option_map Tail o ≡ Some (Head bytes) → A
no_head None bytes is = absurd (cc)
no_head (Some b) bytes is = absurd (cc)

no_tail : {A : Type 0} (o : Option (List ℕ)) (bytes : List ℕ) → option_map Head o ≡ Some (Tail bytes) → A
no_tail None bytes is = absurd (cc)
no_tail (Some b) bytes is = absurd (cc)

no_blob : {A : Type 0} (kind : PartKind) (b bytes : List ℕ) → Some (Blob b) ≡ Some (part_piece kind bytes) → A
no_blob part.Head b bytes is = absurd (cc)
no_blob part.Tail b bytes is = absurd (cc)

pub page_of : (kind : PartKind) (nth : ℕ) (bytes body : List ℕ) (f : ℕ → Option Piece) → HoldsPage body f → f nth ≡ Some (part_piece kind bytes) → OnPage kind nth bytes body f
page_of kind nth bytes body f (free is none) there = let no_piece = none nth in absurd (cc)
page_of kind zero bytes body f (blob b is at holds none) there = no_blob kind b bytes (sym holds ∙ there)
page_of kind (suc n) bytes body f (blob b is at holds none) there = let no_piece = none n in absurd (cc)
page_of part.Head nth bytes body f (parts part.Head c items is holds) there = record { count = c; items = items; is = is; holds = holds; there = part_is part.Head (part_in items nth) bytes (sym (holds nth) ∙ there) }
page_of part.Tail nth bytes body f (parts part.Tail c items is holds) there = record { count = c; items = items; is = is; holds = holds; there = part_is part.Tail (part_in items nth) bytes (sym (holds nth) ∙ there) }
page_of part.Head nth bytes body f (parts part.Tail c items is holds) there = no_head (part_in items nth) bytes (sym (holds nth) ∙ there)
page_of part.Tail nth bytes body f (parts part.Head c items is holds) there = no_tail (part_in items nth) bytes (sym (holds nth) ∙ there)

pub cut_holds : (kind : PartKind) (nth : ℕ) (body bytes : List ℕ) (cut : Cut) (f : ℕ → Option Piece) → OnPage kind nth bytes body f → IsCut kind nth body cut → HoldsPage (all_edited (cut_edits kind cut) body) (without_piece nth f)
cut_holds kind nth body bytes cut f on is = holds_left kind nth body bytes cut on.count on.items on.is is (stands kind on.count on.items nth bytes body on.is on.there) f on.holds

pub cut_long : (kind : PartKind) (nth : ℕ) (body bytes : List ℕ) (cut : Cut) (f : ℕ → Option Piece) → OnPage kind nth bytes body f → IsCut kind nth body cut → length body ≡ 8181 → length (all_edited (cut_edits kind cut) body) ≡ 8181
cut_long kind nth body bytes cut f on is long = cut_length kind nth body bytes cut on.count on.items on.is is (stands kind on.count on.items nth bytes body on.is on.there) long

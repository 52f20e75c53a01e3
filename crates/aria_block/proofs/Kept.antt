-- A part put on a page or taken from it, and the pattern of the page set: the file stays a data file.
use Rattle.std.proofs.Common.{◌≡◌, ◌≢◌, ℕ, ◌%◌, ◌==◌, Bool, true, false, cond, Option, Some, None, List, [], ◌∷◌, length, refl, sym, ap, ◌∙◌, arith, subst, eq-eqb}
use Rattle.std.specs.Prelude.{IfSome}
use Rattle.std.specs.Option.{option_map}
use Rattle.std.proofs.lemmas.Bool.{ne_eqb}
use Rattle.aria_page.specs.declared.edit.Edit.{Edit}
use Rattle.aria_page.specs.declared.edit.Edit.TheVariants.{Set}
use Rattle.aria_page.specs.Edit.{edited, all_edited}
use Rattle.aria_page.specs.Page.{with_bytes}
use Rattle.aria_page.proofs.Pages.{length-with_bytes}
use Rattle.aria_host.specs.declared.file_name.FileName.{FileName}
use Rattle.aria_host.proofs.Files.{same_file-refl}
use Rattle.aria_bitmap.specs.Code.{code}
use Rattle.aria_bitmap.specs.Pattern.{SetsPattern}
use Rattle.aria_cache.specs.PageState.{PageState, Bodies, with_edits}
use Rattle.aria_block.specs.declared.part_kind.PartKind.{PartKind}
use Rattle.aria_block.specs.Pieces.{Piece, Pieces}
use Rattle.aria_block.specs.PartPage.{part_in, part_piece}
use Rattle.aria_block.specs.DataFile.{HoldsPage, parts, map_of, nth_of, HoldsData, on_page, with_piece, without_piece}
use Rattle.aria_block.specs.declared.spot.Spot.{Spot}
use Rattle.aria_block.specs.Spot.{IsSpot, SpotFor}
use Rattle.aria_block.specs.Puts.{part_edits, PutsPart, SetsCode, PartKept}
use Rattle.aria_block.specs.Cut.{IsCut, cut_edits, TakesPart, HasNoPart}
use Rattle.aria_block.proofs.Taken.{OnPage, page_of, cut_long, cut_holds}
use Rattle.aria_block.proofs.OnePage.{PageChanged, page_changed}
use Rattle.aria_block.proofs.Placed.{HasOneMore, placed, put_text, put_long}

-- sound pages stay sound where one is edited
edited_step : (b : Bool) (es : List Edit) (x : Option (List ℕ)) (t : List ℕ) → x ≡ Some t → cond b (option_map (all_edited es) x) x ≡ Some (cond b (all_edited es t) t)
edited_step true es x t is = rw is refl
edited_step false es x t is = is

pub edited_sound : (file : FileName) (n : ℕ) (es : List Edit) (bodies : Bodies) (body : ℕ → List ℕ) → ((m : ℕ) → bodies file m ≡ Some (body m))
    → (m : ℕ) → with_edits file n es bodies file m ≡ Some (cond (n == m) (all_edited es (body m)) (body m))
edited_sound file n es bodies body sound m = rw (same_file-refl file) (edited_step (n == m) es (bodies file m) (body m) (sound m))

-- a spot for a part is one
at_spot : (kind : PartKind) (nth : Option ℕ) (len : ℕ) (body : List ℕ) (s : Spot) → SpotFor kind nth len body (Some s) → IsSpot kind len body s
at_spot kind None len body s is = is.0
at_spot kind (Some n) len body s is = is.0

-- One page was edited, and its pattern set to its code: the page holds what it holds now, and all else stays.
pub page_kept : (count : ℕ) (file : FileName) (page : ℕ) (es : List Edit) (f : ℕ → Option Piece) (old mid new : PageState) (pieces : Pieces) → page % 21809 ≢ 0 → mid.bodies ≡ with_edits file page es old.bodies → SetsCode file page mid new
    → (holds : HoldsData count (old.bodies file) pieces) → length (all_edited es (holds.body page)) ≡ 8181 → HoldsPage (all_edited es (holds.body page)) f → HoldsData count (new.bodies file) (on_page page f pieces)
unfolding edited
page_kept count file page es f old mid new pieces plain put set holds long is = record {
  body = two;
  sound = λ m. subst (λ (b : Bodies). b file m ≡ Some (two m)) (sym set.bodies) (edited_sound file (map_of page) (Set set.at set.bytes ∷ []) mid.bodies one sound_one m);
  file = page_changed count page text f holds.body two pieces plain holds.file changed long is;
}
  where
    text : List ℕ
    text = all_edited es (holds.body page)

    one : ℕ → List ℕ
    one = λ m. cond (page == m) (all_edited es (holds.body m)) (holds.body m)

    two : ℕ → List ℕ
    two = λ m. cond (map_of page == m) (all_edited (Set set.at set.bytes ∷ []) (one m)) (one m)

    sound_one : (m : ℕ) → mid.bodies file m ≡ Some (one m)
    sound_one m = subst (λ (b : Bodies). b file m ≡ Some (one m)) (sym put) (edited_sound file page es old.bodies holds.body holds.sound m)

    not_map : map_of page ≢ page
    not_map = omega (arith, plain)

    at_map : one (map_of page) ≡ holds.body (map_of page)
    at_map = rw (ne_eqb page (map_of page) (λ same. not_map (sym same))) refl

    one_page : one page ≡ text
    one_page = rw (eq-eqb page page refl) refl

    two_map : two (map_of page) ≡ with_bytes set.at set.bytes (holds.body (map_of page))
    two_map = rw (eq-eqb (map_of page) (map_of page) refl) (ap (with_bytes set.at set.bytes) at_map)

    changed : PageChanged page text holds.body two
    changed = record {
      here = rw (ne_eqb (map_of page) page not_map) one_page;
      others = λ m not_page other. rw (ne_eqb (map_of page) m (λ same. other (sym same)), ne_eqb page m (λ same. not_page (sym same))) refl;
      map = subst (λ (t : List ℕ). SetsPattern (nth_of page) (code text) (holds.body (map_of page)) t) (sym two_map)
          (set.sets text (holds.body (map_of page)) (sound_one page ∙ ap Some one_page) (sound_one (map_of page) ∙ ap Some at_map));
      map_long = ap length two_map ∙ length-with_bytes set.at set.bytes (holds.body (map_of page)) (omega (arith, set.within, holds.file.long (map_of page))) ∙ holds.file.long (map_of page);
    }

-- a part put at its spot
pub part_kept : (kind : PartKind) (count : ℕ) (file : FileName) (page : ℕ) (nth : Option ℕ) (slot : ℕ) (bytes : List ℕ) (old mid new : PageState) (pieces : Pieces) → page % 21809 ≢ 0 → PutsPart kind file page nth slot bytes old mid → SetsCode file page mid new
    → HoldsData count (old.bodies file) pieces → PartKept kind count (new.bodies file) page nth slot bytes pieces
unfolding edited
part_kept kind count file page nth slot bytes old mid new pieces plain put set holds = record {
  given = in_given nth (put.fits (holds.body page) (holds.sound page)) put.in_slot;
  free = subst (λ (n : ℕ). pieces page n ≡ None) put.in_slot more.free;
  data_file = subst (λ (n : ℕ). HoldsData count (new.bodies file) (on_page page (with_piece n (part_piece kind bytes) (pieces page)) pieces)) put.in_slot
      (page_kept count file page (part_edits kind put.spot bytes) (with_piece put.spot.slot (part_piece kind bytes) (pieces page)) old mid new pieces plain put.bodies set holds
      long (parts kind more.count more.items more.is more.holds));
}
  where
    in_given : (o : Option ℕ) → SpotFor kind o (length bytes) (holds.body page) (Some put.spot) → put.spot.slot ≡ slot → IfSome o (λ n. slot ≡ n)
    in_given None is at = tt
    in_given (Some n) is at = sym at ∙ is.1

    spot : IsSpot kind (length bytes) (holds.body page) put.spot
    spot = at_spot kind nth (length bytes) (holds.body page) put.spot (put.fits (holds.body page) (holds.sound page))

    more : HasOneMore kind put.spot.slot bytes (put_text kind put.spot bytes (holds.body page)) (pieces page)
    more = placed kind (holds.body page) bytes (pieces page) put.spot (holds.file.long page) (holds.file.page page plain) spot

    long : length (put_text kind put.spot bytes (holds.body page)) ≡ 8181
    long = put_long kind (holds.body page) bytes put.spot (holds.file.long page) spot

-- a part taken
pub part_taken : (kind : PartKind) (count : ℕ) (file : FileName) (page nth : ℕ) (bytes : List ℕ) (old mid new : PageState) (pieces : Pieces) → page % 21809 ≢ 0 → TakesPart kind file page nth old mid → SetsCode file page mid new
    → HoldsData count (old.bodies file) pieces → pieces page nth ≡ Some (part_piece kind bytes) → HoldsData count (new.bodies file) (on_page page (without_piece nth (pieces page)) pieces)
part_taken kind count file page nth bytes old mid new pieces plain take set holds there =
    let on : OnPage kind nth bytes (holds.body page) (pieces page) = page_of kind nth bytes (holds.body page) (pieces page) (holds.file.page page plain) there in
    let is : IsCut kind nth (holds.body page) take.cut = take.is (holds.body page) (holds.sound page) in
    page_kept count file page (cut_edits kind take.cut) (without_piece nth (pieces page)) old mid new pieces plain take.bodies set holds
    (cut_long kind nth (holds.body page) bytes take.cut (pieces page) on is (holds.file.long page)) (cut_holds kind nth (holds.body page) bytes take.cut (pieces page) on is)

-- a part that stands there is found
pub part_found : {A : Type 0} (kind : PartKind) (count : ℕ) (file : FileName) (page nth : ℕ) (bytes : List ℕ) (old new : PageState) (pieces : Pieces) → page % 21809 ≢ 0 → HasNoPart kind file page nth old new
    → HoldsData count (old.bodies file) pieces → pieces page nth ≡ Some (part_piece kind bytes) → A
part_found kind count file page nth bytes old new pieces plain without holds there =
    let on : OnPage kind nth bytes (holds.body page) (pieces page) = page_of kind nth bytes (holds.body page) (pieces page) (holds.file.page page plain) there in
    let none : part_in on.items nth ≡ None = without.none (holds.body page) (holds.sound page) on.count on.items on.is in
    let some = on.there in absurd (cc)

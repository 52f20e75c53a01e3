-- A data file to which a page is added.
use Rattle.std.proofs.Common.{◌≡◌, ◌≢◌, ℕ, ◌+◌, ◌%◌, Bool, Some, List, [], ◌∷◌, refl, sym, ap, ◌∙◌, arith, subst, eq-eqb}
use Rattle.std.specs.Prelude.{OnOk, Result, Ok, Err, slice_index}
use Rattle.std.proofs.lemmas.Bool.{ne_eqb}
use Rattle.aria_page.specs.Edit.{edited}
use Rattle.aria_page.specs.Page.{page_body, zero_page, with_bytes}
use Rattle.aria_page.specs.declared.edit.Edit.TheVariants.{Set}
use Rattle.aria_page.specs.declared.group.RedoKind.{RedoKind}
use Rattle.aria_page.specs.declared.place.Part.TheVariants as of_part
use Rattle.aria_host.specs.declared.fault.Fault.{Fault}
use Rattle.aria_host.specs.declared.file_name.FileName.{FileName}
use Rattle.aria_host.proofs.Files.{same_file-refl}
use Rattle.aria_cache.specs.PageState.{PageState, Bodies, Counts, with_edits, with_count}
use Rattle.aria_cache.specs.Calls.{Edits}
use Rattle.aria_block.specs.Causes.{rows_file}
use Rattle.aria_block.specs.Pieces.{Pieces}
use Rattle.aria_block.specs.DataFile.{IsDataFile, HoldsData}
use Rattle.aria_block.specs.Growing.{new_kind, first_byte}
use Rattle.aria_block.proofs.Grown.{with_new, grown}
use Rattle.aria_block.proofs.Kept.{edited_sound}

zero_first : slice_index (page_body zero_page) 0 ≡ 0
unfolding page_body zero_page
zero_first = refl

-- the number of pages
pub count_grown : (file : FileName) (n : ℕ) (old new : PageState) → n ≡ old.counts file → new.counts ≡ with_count file (n + 1) old.counts → new.counts file ≡ n + 1
count_grown file n old new is counts = ap (λ (c : Counts). c file) counts ∙ rw (same_file-refl file) (omega (arith, is))

pub data_grown : (file : FileName) (n : ℕ) (old new : PageState) (pieces : Pieces) → n ≡ old.counts file → old.bodies file n ≡ Some (page_body zero_page) → new.bodies ≡ with_edits file n (first_byte n) old.bodies
    → new.counts ≡ with_count file (n + 1) old.counts → HoldsData (old.counts file) (old.bodies file) pieces → HoldsData (new.counts file) (new.bodies file) pieces
unfolding with_new
data_grown file n old new pieces end zeros edits counts holds = record {
  body = with_new n holds.body;
  sound = λ m. ap (λ (b : Bodies). b file m) edits ∙ edited_sound file n (first_byte n) old.bodies holds.body holds.sound m;
  file = subst (λ (c : ℕ). IsDataFile c (with_new n holds.body) pieces) (sym (count_grown file n old new end counts))
      (grown n holds.body pieces (subst (λ (c : ℕ). IsDataFile c holds.body pieces) (sym end) holds.file) (ap (λ (t : List ℕ). slice_index t 0) body ∙ zero_first));
}
  where
    body : holds.body n ≡ page_body zero_page
    body = let is : Some (holds.body n) ≡ Some (page_body zero_page) = sym (holds.sound n) ∙ zeros in cc

pub count_on_ok : {T : Type 0} (r : Result T Fault) (file : FileName) (n : ℕ) (old new : PageState) → n ≡ old.counts file → OnOk r (new.counts ≡ with_count file (n + 1) old.counts) → OnOk r (new.counts file ≡ n + 1)
count_on_ok (Ok x) file n old new end is = count_grown file n old new end is
count_on_ok (Err e) file n old new end is = tt

pub data_on_ok : {T : Type 0} (r : Result T Fault) (logged : Bool) (kind : RedoKind) (slot n x : ℕ) (old new : PageState) (pieces : Pieces) → x ≡ new_kind n → n ≡ old.counts (rows_file old slot) → old.bodies (rows_file old slot) n ≡ Some (page_body zero_page)
    → OnOk r (Edits logged kind slot of_part.Rows n (Set 0 (x ∷ []) ∷ []) old new) → OnOk r (new.counts ≡ with_count (rows_file old slot) (n + 1) old.counts)
    → HoldsData (old.counts (rows_file old slot)) (old.bodies (rows_file old slot)) pieces → OnOk r (HoldsData (new.counts (rows_file old slot)) (new.bodies (rows_file old slot)) pieces)
data_on_ok (Ok y) logged kind slot n x old new pieces first end zeros edits counts holds =
    data_grown (rows_file old slot) n old new pieces end zeros
    (edits.bodies ∙ ap (λ (k : ℕ). with_edits (rows_file old slot) n (Set 0 (k ∷ []) ∷ []) old.bodies) first) counts holds
data_on_ok (Err e) logged kind slot n x old new pieces first end zeros edits counts holds = tt

-- a page that isn't a bitmap page is of zeros still
zeros_stay : with_bytes 0 (0 ∷ []) (page_body zero_page) ≡ page_body zero_page
unfolding with_bytes page_body zero_page
zeros_stay = refl

pub zeros_on_ok : {T : Type 0} (r : Result T Fault) (logged : Bool) (kind : RedoKind) (slot n x : ℕ) (old new : PageState) → x ≡ new_kind n → n % 21809 ≢ 0 → old.bodies (rows_file old slot) n ≡ Some (page_body zero_page)
    → OnOk r (Edits logged kind slot of_part.Rows n (Set 0 (x ∷ []) ∷ []) old new) → OnOk r (new.bodies (rows_file old slot) n ≡ Some (page_body zero_page))
unfolding edited
zeros_on_ok (Ok y) logged kind slot n x old new first plain zeros edits =
    let free : x ≡ 0 = first ∙ rw (ne_eqb (n % 21809) 0 plain) refl in
    ap (λ (b : Bodies). b (rows_file old slot) n) edits.bodies
    ∙ rw (same_file-refl (rows_file old slot), eq-eqb n n refl, zeros) (ap (λ (k : ℕ). Some (with_bytes 0 (k ∷ []) (page_body zero_page))) free ∙ ap Some zeros_stay)
zeros_on_ok (Err e) logged kind slot n x old new first plain zeros edits = tt

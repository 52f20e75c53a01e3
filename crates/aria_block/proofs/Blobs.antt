-- A page that becomes a blob page, or free.
use Rattle.std.proofs.Common.{◌≡◌, ◌≢◌, ℕ, suc, ◌%◌, ◌≤◌, List, [], ◌∷◌, length, refl, sym, ap, ◌∙◌, arith}
use Rattle.std.specs.Prelude.{slice_index, OnOk, Result, Ok, Err}
use Rattle.std.proofs.lemmas.Bool.{ne_eqb}
use Rattle.std.proofs.lemmas.List.{get_or-take}
use Rattle.aria_page.specs.Edit.{edited, all_edited}
use Rattle.aria_page.specs.Page.{with_bytes}
use Rattle.aria_page.proofs.Pages.{length-with_bytes, take-with_bytes}
use Rattle.aria_host.specs.declared.fault.Fault.{Fault}
use Rattle.aria_host.specs.declared.file_name.FileName.{FileName}
use Rattle.aria_cache.specs.PageState.{PageState, with_edits}
use Rattle.aria_block.specs.Pieces.{Pieces}
use Rattle.aria_block.specs.PartPage.{window}
use Rattle.aria_block.specs.DataFile.{HoldsPage, free, blob, HoldsData, on_page}
use Rattle.aria_block.specs.Puts.{SetsCode}
use Rattle.aria_block.specs.Blob.{blob_edits, blob_pieces, free_edits, no_pieces}
use Rattle.aria_block.proofs.Windows.{window_here}
use Rattle.aria_block.proofs.Kept.{page_kept}

first_byte : (x : ℕ) (body : List ℕ) → slice_index (with_bytes 0 (x ∷ []) body) 0 ≡ x
unfolding with_bytes
first_byte x body = refl

module _ (bytes body : List ℕ) (long : length body ≡ 8181) (few : length bytes ≤ 8180) where
  kind_long : length (with_bytes 0 (5 ∷ []) body) ≡ 8181
  kind_long = length-with_bytes 0 (5 ∷ []) body (omega (arith, long)) ∙ long

  pub blob_long : length (all_edited (blob_edits bytes) body) ≡ 8181
  unfolding edited
  blob_long = length-with_bytes 1 bytes (with_bytes 0 (5 ∷ []) body) (omega (arith, kind_long, few)) ∙ kind_long

  pub blob_holds : HoldsPage (all_edited (blob_edits bytes) body) (blob_pieces bytes)
  unfolding edited window
  blob_holds =
      let first : List ℕ = with_bytes 0 (5 ∷ []) body in
      let text : List ℕ = with_bytes 1 bytes first in
      blob bytes
      (sym (get_or-take 1 text 0 0 (omega arith)) ∙ ap (λ (l : List ℕ). slice_index l 0) (take-with_bytes 1 1 bytes first (omega arith) (omega (arith, kind_long))) ∙ get_or-take 1 first 0 0 (omega arith) ∙ first_byte 5 body)
      (window_here 1 (length bytes) bytes first refl (omega (arith, kind_long, few)))
      refl
      (λ slot. rw (ne_eqb (suc slot) 0 (omega arith)) refl)

pub blob_kept : (count : ℕ) (file : FileName) (page : ℕ) (bytes : List ℕ) (old mid new : PageState) (pieces : Pieces) → page % 21809 ≢ 0 → length bytes ≤ 8180 → mid.bodies ≡ with_edits file page (blob_edits bytes) old.bodies → SetsCode file page mid new
    → HoldsData count (old.bodies file) pieces → HoldsData count (new.bodies file) (on_page page (blob_pieces bytes) pieces)
blob_kept count file page bytes old mid new pieces plain few put set holds =
    page_kept count file page (blob_edits bytes) (blob_pieces bytes) old mid new pieces plain put set holds
    (blob_long bytes (holds.body page) (holds.file.long page) few) (blob_holds bytes (holds.body page) (holds.file.long page) few)

pub blob_on_ok : {T : Type 0} (r : Result T Fault) (count : ℕ) (file : FileName) (page : ℕ) (bytes : List ℕ) (old mid new : PageState) (pieces : Pieces) → page % 21809 ≢ 0 → length bytes ≤ 8180 → mid.bodies ≡ with_edits file page (blob_edits bytes) old.bodies
    → OnOk r (SetsCode file page mid new) → HoldsData count (old.bodies file) pieces → OnOk r (HoldsData count (new.bodies file) (on_page page (blob_pieces bytes) pieces))
blob_on_ok (Ok x) count file page bytes old mid new pieces plain few put set holds = blob_kept count file page bytes old mid new pieces plain few put set holds
blob_on_ok (Err e) count file page bytes old mid new pieces plain few put set holds = tt

-- ---- a page that becomes free

free_long : (body : List ℕ) → length body ≡ 8181 → length (all_edited free_edits body) ≡ 8181
unfolding edited
free_long body long = length-with_bytes 0 (0 ∷ []) body (omega (arith, long)) ∙ long

free_holds : (body : List ℕ) → HoldsPage (all_edited free_edits body) no_pieces
unfolding edited
free_holds body = free (first_byte 0 body) (λ slot. refl)

pub free_on_ok : {T : Type 0} (r : Result T Fault) (count : ℕ) (file : FileName) (page : ℕ) (old mid new : PageState) (pieces : Pieces) → page % 21809 ≢ 0 → mid.bodies ≡ with_edits file page free_edits old.bodies
    → OnOk r (SetsCode file page mid new) → HoldsData count (old.bodies file) pieces → OnOk r (HoldsData count (new.bodies file) (on_page page no_pieces pieces))
free_on_ok (Ok x) count file page old mid new pieces plain put set holds = page_kept count file page free_edits no_pieces old mid new pieces plain put set holds (free_long (holds.body page) (holds.file.long page)) (free_holds (holds.body page))
free_on_ok (Err e) count file page old mid new pieces plain put set holds = tt

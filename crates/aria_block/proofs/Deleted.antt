-- Pieces that are taken from a data file.
use Rattle.std.proofs.Common.{◌≡◌, ◌≢◌, ℕ, ◌+◌, ◌%◌, ◌==◌, ◌&&◌, ◌<◌, ◌≤◌, nat_le, nat_lt, ◌⊎◌, inl, inr, Bool, true, false, cond, Option, Some, None, List, refl, sym, ap, ◌∙◌, arith, subst, eq-eqb}
use Rattle.std.specs.Prelude.{IsTrue, unwrap_or}
use Rattle.std.proofs.lemmas.Bool.{cases_Bool, cases_eq, ne_eqb, eqb-true}
use Rattle.aria_page.specs.declared.place.Place.{Place}
use Rattle.aria_host.specs.declared.fault.Fault.{Fault}
use Rattle.aria_host.specs.declared.fault.Fault.TheVariants.{Memory, Disk, PageDamaged, LogDamaged}
use Rattle.aria_host.specs.declared.file_name.FileName.{FileName}
use Rattle.aria_cache.specs.PageState.{PageState}
use Rattle.aria_cache.specs.Calls.{Stops}
use Rattle.aria_cache.specs.Causes.{HasPagesCause}
use Rattle.aria_cache.proofs.Causing.{cause_weaker}
use Rattle.aria_block.specs.Causes.{OfFile}
use Rattle.aria_block.specs.Pieces.{Piece, Pieces, is_at}
use Rattle.aria_block.specs.DataFile.{HoldsData, on_page, without_piece}
use Rattle.aria_block.specs.Reading.{OfPieces}
use Rattle.aria_block.specs.Deleting.{without_at}

-- a piece less on its page
pub off_page : (page slot : ℕ) (pieces : Pieces) → on_page page (without_piece slot (pieces page)) pieces ≡ without_at (record { page = page; slot = slot }) pieces
off_page page slot pieces = λ i p s. each p s i
  where
    each : (p s : ℕ) → on_page page (without_piece slot (pieces page)) pieces p s ≡ without_at (record { page = page; slot = slot }) pieces p s
    each p s = elim (cases_eq p page) [
      | inl same ↦ subst (λ (n : ℕ). on_page page (without_piece slot (pieces page)) pieces n s ≡ without_at (record { page = page; slot = slot }) pieces n s) (sym same) (rw (eq-eqb page page refl) refl)
      | inr other ↦ rw (ne_eqb page p (λ e. other (sym e))) refl
    ]

-- why a page can't be read or edited
of_file : (tells logged : Bool) (Asked : Pieces → Type 0) (file : FileName) (old new : PageState) (f : Fault) → OfFile tells logged file old new f → OfPieces tells logged Asked file old new f
of_file tells logged Asked file old new (Memory e) k = k
of_file tells logged Asked file old new Disk k = k
of_file tells logged Asked file old new (PageDamaged f n) k = (k.0, λ t pieces holds asked. let some = holds.sound n in let none = k.1 t in let clash : Some (holds.body n) ≡ None = sym some ∙ none in absurd (cc))
of_file tells logged Asked file old new (LogDamaged f n) k = k
of_file tells logged Asked file old new _ k = absurd k

pub cause_file : (tells logged : Bool) (Asked : Pieces → Type 0) (file : FileName) (old new : PageState) (fault : Option Fault) → HasPagesCause (OfFile tells logged file old new) old new fault → HasPagesCause (OfPieces tells logged Asked file old new) old new fault
cause_file tells logged Asked file old new fault is = cause_weaker (OfFile tells logged file old new) (OfPieces tells logged Asked file old new) old new fault (of_file tells logged Asked file old new) is

-- a fault that was found behind a call that answered none
pub cause_past : (D : Fault → Type 0) (old now new : PageState) (why fault : Fault) → now.kept ≡ None → now.faults ≡ old.faults → fault ≡ unwrap_or now.kept why → Stops fault now new → D why → HasPagesCause D old new (Some fault)
cause_past D old now new why fault kept calm is stops h = record {
  cause = λ none. let same : fault ≡ why = is ∙ ap (λ (k : Option Fault). unwrap_or k why) kept in subst D (sym same) h;
  calm = λ none. absurd cc;
  later = let still = stops.rests.faults in omega (arith, calm, still);
}

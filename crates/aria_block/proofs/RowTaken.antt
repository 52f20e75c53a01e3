-- A row that is taken piece by piece.
use Rattle.std.proofs.Common.{◌≡◌, ◌≢◌, ℕ, zero, suc, ◌+◌, ◌-◌, ◌==◌, ◌&&◌, ◌||◌, ◌<◌, ◌≤◌, nat_le, nat_lt, ◌⊎◌, inl, inr, Bool, true, false, cond, Option, Some, None, List, refl, sym, ap, ◌∙◌, arith, subst, eq-eqb}
use Rattle.std.specs.Prelude.{IsTrue}
use Rattle.std.proofs.lemmas.Bool.{cases_Bool, and_parts, eqb-true, ne_eqb}
use Rattle.aria_page.specs.declared.place.Place.{Place}
use Rattle.aria_page.specs.declared.place.Places.{Places}
use Rattle.aria_host.specs.declared.fault.Fault.{Fault}
use Rattle.aria_host.specs.declared.fault.Fault.TheVariants.{Memory, Disk, PageDamaged, LogDamaged}
use Rattle.aria_host.specs.declared.file_name.FileName.{FileName}
use Rattle.aria_host.specs.Count.{Rose}
use Rattle.aria_cache.specs.PageState.{PageState, Counts}
use Rattle.aria_cache.specs.Calls.{SameSlots}
use Rattle.aria_cache.specs.Causes.{HasPagesCause}
use Rattle.aria_cache.proofs.Causing.{cause_weaker, cause_on}
use Rattle.aria_block.specs.Causes.{rows_file, KeepsSound}
use Rattle.aria_block.specs.Pieces.{Piece, Pieces}
use Rattle.aria_block.specs.DataFile.{HoldsData}
use Rattle.aria_block.specs.Reading.{OfPieces}
use Rattle.aria_block.proofs.Stepping.{same_rows}

-- a call that takes pieces: what the file holds then, where what is asked stands there
pub record TookPieces (tells : Bool) (Asked : Pieces → Type 0) (f : Pieces → Pieces) (file : FileName) (old new : PageState) : Type 0 where
  pub holds : IsTrue tells → (pieces : Pieces) → HoldsData (old.counts file) (old.bodies file) pieces → Asked pieces → HoldsData (new.counts file) (new.bodies file) (f pieces)
  pub keeps : KeepsSound tells file old new

-- it is told as over the old number of pages
pub took : (tells : Bool) (Asked : Pieces → Type 0) (f : Pieces → Pieces) (file : FileName) (old new : PageState) → new.counts ≡ old.counts → KeepsSound tells file old new
    → (IsTrue tells → (pieces : Pieces) → HoldsData (old.counts file) (old.bodies file) pieces → Asked pieces → HoldsData (old.counts file) (new.bodies file) (f pieces)) → TookPieces tells Asked f file old new
took tells Asked f file old new same keeps holds = record {
  holds = λ t pieces h asked. subst (λ (c : Counts). HoldsData (c file) (new.bodies file) (f pieces)) (sym same) (holds t pieces h asked);
  keeps = keeps;
}

-- the file of the slot is the same one then
pub holds_then : (tells : Bool) (Asked : Pieces → Type 0) (f : Pieces → Pieces) (slot : ℕ) (old mid : PageState) (pieces : Pieces) → SameSlots old mid → TookPieces tells Asked f (rows_file old slot) old mid → IsTrue tells
    → HoldsData (old.counts (rows_file old slot)) (old.bodies (rows_file old slot)) pieces → Asked pieces → HoldsData (mid.counts (rows_file mid slot)) (mid.bodies (rows_file mid slot)) (f pieces)
holds_then tells Asked f slot old mid pieces slots first t holds asked =
    subst (λ (g : FileName). HoldsData (mid.counts g) (mid.bodies g) (f pieces)) (sym (same_rows slot old mid slots)) (first.holds t pieces holds asked)

-- why pages can't be read or edited behind it
pub pieces_since : (tells logged : Bool) (Whole Asked Needs : Pieces → Type 0) (f : Pieces → Pieces) (slot : ℕ) (old mid new : PageState) → SameSlots old mid → TookPieces tells Asked f (rows_file old slot) old mid → mid.faults ≡ old.faults
    → ((pieces : Pieces) → IsTrue tells → HoldsData (old.counts (rows_file old slot)) (old.bodies (rows_file old slot)) pieces → Whole pieces → Asked pieces × Needs (f pieces))
    → (fault : Fault) → OfPieces tells logged Needs (rows_file mid slot) mid new fault → OfPieces tells logged Whole (rows_file old slot) old new fault
pieces_since tells logged Whole Asked Needs f slot old mid new slots first calm needs (Memory e) k = k
pieces_since tells logged Whole Asked Needs f slot old mid new slots first calm needs Disk k = subst (λ (n : ℕ). Rose n new.faults) calm k
pieces_since tells logged Whole Asked Needs f slot old mid new slots first calm needs (PageDamaged g n) k = (
  k.0 ∙ same_rows slot old mid slots,
  λ t pieces holds whole.
      let asked = needs pieces t holds whole in
      k.1 t (f pieces) (holds_then tells Asked f slot old mid pieces slots first t holds asked.0) asked.1,
)
pieces_since tells logged Whole Asked Needs f slot old mid new slots first calm needs (LogDamaged g n) k = (k.0, λ t. at t (k.1 t))
  where
    at : IsTrue tells → (m : ℕ) × IsTrue (mid.late (rows_file mid slot) m) → (m : ℕ) × IsTrue (old.late (rows_file old slot) m)
    at t (m, is) = (m, (first.keeps.late t).late (rows_file old slot) m (subst (λ (g : FileName). IsTrue (mid.late g m)) (same_rows slot old mid slots) is))
pieces_since tells logged Whole Asked Needs f slot old mid new slots first calm needs _ k = absurd k

pub cause_since : (tells logged : Bool) (Whole Asked Needs : Pieces → Type 0) (f : Pieces → Pieces) (slot : ℕ) (old mid new : PageState) (fault : Option Fault) → SameSlots old mid → TookPieces tells Asked f (rows_file old slot) old mid
    → ((pieces : Pieces) → IsTrue tells → HoldsData (old.counts (rows_file old slot)) (old.bodies (rows_file old slot)) pieces → Whole pieces → Asked pieces × Needs (f pieces))
    → HasPagesCause (OfPieces tells logged Asked (rows_file old slot) old mid) old mid None → mid.kept ≡ None
    → HasPagesCause (OfPieces tells logged Needs (rows_file mid slot) mid new) mid new fault → HasPagesCause (OfPieces tells logged Whole (rows_file old slot) old new) old new fault
cause_since tells logged Whole Asked Needs f slot old mid new fault slots first needs before kept second =
    cause_on (OfPieces tells logged Asked (rows_file old slot) old mid) (OfPieces tells logged Whole (rows_file old slot) old new) old mid new fault before kept
    (cause_weaker (OfPieces tells logged Needs (rows_file mid slot) mid new) (OfPieces tells logged Whole (rows_file old slot) old new) mid new fault
    (λ why. pieces_since tells logged Whole Asked Needs f slot old mid new slots first (before.calm refl) needs why) second)

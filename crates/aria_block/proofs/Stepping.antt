-- Calls on a data file behind ones that kept it.
use Rattle.std.proofs.Common.{rules, ◌≡◌, ℕ, Bool, Option, None, Some, List, refl, sym, ap, ◌∙◌, subst}
use Rattle.std.specs.Prelude.{IsTrue, IsSome, IfSome}
use Rattle.aria_host.specs.declared.fault.Fault.{Fault}
use Rattle.aria_host.specs.declared.fault.Fault.TheVariants.{Memory, Disk, PageDamaged, LogDamaged}
use Rattle.aria_host.specs.declared.file_name.FileName.{FileName}
use Rattle.aria_host.specs.declared.file_name.FileName.TheVariants.{Rows}
use Rattle.aria_host.specs.Count.{Rose}
use Rattle.aria_cache.specs.PageState.{PageState, Counts}
use Rattle.aria_cache.specs.Calls.{Answers, SameSlots, SameLog}
use Rattle.aria_cache.specs.Causes.{HasPagesCause}
use Rattle.aria_cache.proofs.Causing.{cause_weaker, cause_on}
use Rattle.aria_block.specs.Causes.{rows_file, OfRows, KeepsSound, HoldsStill}
use Rattle.aria_block.specs.Pieces.{Pieces}
use Rattle.aria_block.specs.DataFile.{HoldsData}
use Rattle.aria_block.specs.Reading.{OfPieces}
use Rattle.aria_block.proofs.Causing.{rows_then}

pub same_rows : (slot : ℕ) (old mid : PageState) → SameSlots old mid → rows_file mid slot ≡ rows_file old slot
same_rows slot old mid slots = ap (λ (f : ℕ → List ℕ). Rows (f slot)) slots.name

pub slots_on : (a b c : PageState) → SameSlots a b → SameSlots b c → SameSlots a c
slots_on a b c first second = record { is_open = second.is_open ∙ first.is_open; name = second.name ∙ first.name }

pub log_on : (a b c : PageState) → SameLog a b → SameLog b c → SameLog a c
log_on a b c first second = record { pending = second.pending ∙ first.pending; reach = second.reach ∙ first.reach }

none_kept : (o : Option Fault) → IfSome o (λ kept. None ≡ Some kept) → o ≡ None
none_kept None again = refl
none_kept (Some f) again = absurd (cc)

-- a call behind one that answered no fault
pub answers_on : (a b c : PageState) (fault : Option Fault) → Answers a b None → Answers b c fault → Answers a c fault
answers_on a b c fault first second =
    let calm : a.kept ≡ None = none_kept a.kept first.again in
    record {
      keeps = second.keeps;
      again = rw calm tt;
      still = λ some. let none : IsSome {T = Fault} None = subst (λ (o : Option Fault). IsSome o) calm some in absurd (search (rules, none));
    }

-- a call behind one that answered no fault and kept the data file
pub rows_step : (tells logged : Bool) (slot : ℕ) (old mid new : PageState) (fault : Option Fault) → SameSlots old mid → KeepsSound tells (rows_file old slot) old mid → HoldsStill tells (rows_file old slot) old mid
    → HasPagesCause (OfRows tells logged (rows_file old slot) old mid) old mid None → mid.kept ≡ None
    → HasPagesCause (OfRows tells logged (rows_file mid slot) mid new) mid new fault → HasPagesCause (OfRows tells logged (rows_file old slot) old new) old new fault
rows_step tells logged slot old mid new fault slots keeps still first kept second =
    rows_then tells logged (rows_file old slot) old mid new fault keeps still first kept
    (subst (λ (f : FileName). HasPagesCause (OfRows tells logged f mid new) mid new fault) (same_rows slot old mid slots) second)

pub still_on : (tells : Bool) (file : FileName) (a b c : PageState) → HoldsStill tells file a b → HoldsStill tells file b c → HoldsStill tells file a c
still_on tells file a b c first second = record { data_file = λ told pieces holds. let mid = first.data_file told pieces holds in second.data_file told mid.0 mid.1 }

-- what is said of the file in one state, said of it in another of the same name and length
pub moved : (slot : ℕ) (a b s : PageState) → rows_file b slot ≡ rows_file a slot → b.counts ≡ a.counts → (P : ℕ → (ℕ → Option (List ℕ)) → Type 0) → P (a.counts (rows_file a slot)) (s.bodies (rows_file a slot)) → P (b.counts (rows_file b slot)) (s.bodies (rows_file b slot))
moved slot a b s same counts P is = subst (λ (f : FileName). P (b.counts f) (s.bodies f)) (sym same) (subst (λ (n : Counts). P (n (rows_file a slot)) (s.bodies (rows_file a slot))) (sym counts) is)

pieces_behind : (tells logged : Bool) (slot : ℕ) (Asked Needs : Pieces → Type 0) (old mid new : PageState) → rows_file mid slot ≡ rows_file old slot → mid.faults ≡ old.faults → KeepsSound tells (rows_file old slot) old mid
    → ((pieces : Pieces) → IsTrue tells → HoldsData (old.counts (rows_file old slot)) (old.bodies (rows_file old slot)) pieces → Asked pieces → (kept : Pieces) × HoldsData (mid.counts (rows_file mid slot)) (mid.bodies (rows_file mid slot)) kept × Needs kept)
    → (f : Fault) → OfPieces tells logged Needs (rows_file mid slot) mid new f → OfPieces tells logged Asked (rows_file old slot) old new f
pieces_behind tells logged slot Asked Needs old mid new same calm keeps needs (Memory e) k = k
pieces_behind tells logged slot Asked Needs old mid new same calm keeps needs Disk k = subst (λ (n : ℕ). Rose n new.faults) calm k
pieces_behind tells logged slot Asked Needs old mid new same calm keeps needs (PageDamaged f n) k = (k.0 ∙ same, λ told pieces holds asked. at told (needs pieces told holds asked))
  where
    at : IsTrue tells → (kept : Pieces) × HoldsData (mid.counts (rows_file mid slot)) (mid.bodies (rows_file mid slot)) kept × Needs kept → ⊥
    at told (kept, holds, needed) = k.1 told kept holds needed
pieces_behind tells logged slot Asked Needs old mid new same calm keeps needs (LogDamaged f n) k = (k.0, λ told. at told (k.1 told))
  where
    at : IsTrue tells → (m : ℕ) × IsTrue (mid.late (rows_file mid slot) m) → (m : ℕ) × IsTrue (old.late (rows_file old slot) m)
    at told (m, is) = (m, (keeps.late told).late (rows_file old slot) m (subst (λ (g : FileName). IsTrue (mid.late g m)) same is))
pieces_behind tells logged slot Asked Needs old mid new same calm keeps needs _ k = absurd k

-- a call behind one that answered no fault and left the pieces that it needs
pub pieces_step : (tells logged : Bool) (slot : ℕ) (Asked Needs : Pieces → Type 0) (old mid new : PageState) (fault : Option Fault) → SameSlots old mid → KeepsSound tells (rows_file old slot) old mid
    → ((pieces : Pieces) → IsTrue tells → HoldsData (old.counts (rows_file old slot)) (old.bodies (rows_file old slot)) pieces → Asked pieces → (kept : Pieces) × HoldsData (mid.counts (rows_file mid slot)) (mid.bodies (rows_file mid slot)) kept × Needs kept)
    → HasPagesCause (OfPieces tells logged Asked (rows_file old slot) old mid) old mid None → mid.kept ≡ None
    → HasPagesCause (OfPieces tells logged Needs (rows_file mid slot) mid new) mid new fault → HasPagesCause (OfPieces tells logged Asked (rows_file old slot) old new) old new fault
pieces_step tells logged slot Asked Needs old mid new fault slots keeps needs first kept second =
    cause_on (OfPieces tells logged Asked (rows_file old slot) old mid) (OfPieces tells logged Asked (rows_file old slot) old new) old mid new fault first kept
    (cause_weaker (OfPieces tells logged Needs (rows_file mid slot) mid new) (OfPieces tells logged Asked (rows_file old slot) old new) mid new fault
    (pieces_behind tells logged slot Asked Needs old mid new (same_rows slot old mid slots) (first.calm refl) keeps needs) second)

-- a call for which the pieces have all that it needs
pub pieces_enough : (tells logged : Bool) (Asked Needs : Pieces → Type 0) (file : FileName) (old new : PageState) → ((pieces : Pieces) → HoldsData (old.counts file) (old.bodies file) pieces → Asked pieces → Needs pieces)
    → (f : Fault) → OfPieces tells logged Needs file old new f → OfPieces tells logged Asked file old new f
pieces_enough tells logged Asked Needs file old new needs (Memory e) k = k
pieces_enough tells logged Asked Needs file old new needs Disk k = k
pieces_enough tells logged Asked Needs file old new needs (PageDamaged f n) k = (k.0, λ told pieces holds asked. k.1 told pieces holds (needs pieces holds asked))
pieces_enough tells logged Asked Needs file old new needs (LogDamaged f n) k = k
pieces_enough tells logged Asked Needs file old new needs _ k = absurd k

-- Causes of the faults of calls on the two files of a table.
use Rattle.std.proofs.Common.{◌≡◌, ℕ, ◌+◌, Bool, Option, None, Some, List, refl, sym, ap, ◌∙◌, arith, subst, inl, inr}
use Rattle.std.specs.Prelude.{IsTrue}
use Rattle.aria_host.specs.declared.fault.Fault.{Fault}
use Rattle.aria_host.specs.declared.fault.Fault.TheVariants.{Memory, Disk, PageDamaged, LogDamaged, LogSpent}
use Rattle.aria_host.specs.declared.file_name.FileName.{FileName}
use Rattle.aria_cache.specs.PageState.{PageState}
use Rattle.aria_cache.specs.Causes.{HasPagesCause}
use Rattle.aria_cache.proofs.Causing.{cause_weaker}
use Rattle.aria_page.specs.declared.place.Places.{Places}
use Rattle.aria_block.specs.Causes.{rows_file, OfRows}
use Rattle.aria_block.specs.Reading.{OfPieces}
use Rattle.aria_block.specs.Deleting.{HasRowAt}
use Rattle.aria_key.specs.Reading.{keys_file, OfTree}
use Rattle.aria_table.specs.Step.{HasSomeContent, HasRowIn, OfTable}

-- of a call on the data file
of_rows : (tells logged : Bool) (slot bytes : ℕ) (old new : PageState) (f : Fault) → OfRows tells logged (rows_file old slot) old new f → OfTable tells logged (HasSomeContent slot old) slot bytes old new f
of_rows tells logged slot bytes old new (Memory e) k = k
of_rows tells logged slot bytes old new Disk k = k
of_rows tells logged slot bytes old new (PageDamaged f n) k = (inr k.0, λ told some. k.1 told some.content.pieces some.held.data_file.data_file)
of_rows tells logged slot bytes old new (LogDamaged f n) k = (k.0, λ told. let at = k.1 told in (rows_file old slot, at.0, at.1))
of_rows tells logged slot bytes old new _ k = absurd k

pub cause_rows : (tells logged : Bool) (slot bytes : ℕ) (old new : PageState) (fault : Option Fault) → HasPagesCause (OfRows tells logged (rows_file old slot) old new) old new fault → HasPagesCause (OfTable tells logged (HasSomeContent slot old) slot bytes old new) old new fault
cause_rows tells logged slot bytes old new fault is = cause_weaker (OfRows tells logged (rows_file old slot) old new) (OfTable tells logged (HasSomeContent slot old) slot bytes old new) old new fault (of_rows tells logged slot bytes old new) is

-- of one that takes a row
of_taken : (tells logged : Bool) (slot bytes : ℕ) (places : Places) (old new : PageState) (f : Fault) → OfPieces tells logged (HasRowAt places) (rows_file old slot) old new f → OfTable tells logged (HasRowIn places slot old) slot bytes old new f
of_taken tells logged slot bytes places old new (Memory e) k = k
of_taken tells logged slot bytes places old new Disk k = k
of_taken tells logged slot bytes places old new (PageDamaged f n) k =
    (inr k.0, λ told has. k.1 told has.content.pieces has.held.data_file.data_file (record { is_row = has.is_row; rows = has.content.kept; tiled = has.held.data_file.tiled; row = has.row; there = has.there; fits = has.fits }))
of_taken tells logged slot bytes places old new (LogDamaged f n) k = (k.0, λ told. let at = k.1 told in (rows_file old slot, at.0, at.1))
of_taken tells logged slot bytes places old new _ k = absurd k

pub cause_taken : (tells logged : Bool) (slot bytes : ℕ) (places : Places) (old new : PageState) (fault : Option Fault) → HasPagesCause (OfPieces tells logged (HasRowAt places) (rows_file old slot) old new) old new fault
    → HasPagesCause (OfTable tells logged (HasRowIn places slot old) slot bytes old new) old new fault
cause_taken tells logged slot bytes places old new fault is =
    cause_weaker (OfPieces tells logged (HasRowAt places) (rows_file old slot) old new) (OfTable tells logged (HasRowIn places slot old) slot bytes old new) old new fault (of_taken tells logged slot bytes places old new) is

-- of one on the index file
of_tree : (tells logged : Bool) (Asked Needs : Type 0) (slot bytes : ℕ) (old new : PageState) → (Asked → Needs) → (f : Fault) → OfTree tells logged Needs (keys_file old slot) old new f → OfTable tells logged Asked slot bytes old new f
of_tree tells logged Asked Needs slot bytes old new needs (Memory e) k = k
of_tree tells logged Asked Needs slot bytes old new needs Disk k = k
of_tree tells logged Asked Needs slot bytes old new needs (PageDamaged f n) k = (inl k.0, λ told asked. k.1 told (needs asked))
of_tree tells logged Asked Needs slot bytes old new needs (LogDamaged f n) k = (k.0, λ told. let at = k.1 told in (keys_file old slot, at.0, at.1))
of_tree tells logged Asked Needs slot bytes old new needs _ k = absurd k

pub cause_tree : (tells logged : Bool) (Asked Needs : Type 0) (slot bytes : ℕ) (old new : PageState) (fault : Option Fault) → (Asked → Needs) → HasPagesCause (OfTree tells logged Needs (keys_file old slot) old new) old new fault
    → HasPagesCause (OfTable tells logged Asked slot bytes old new) old new fault
cause_tree tells logged Asked Needs slot bytes old new fault needs is =
    cause_weaker (OfTree tells logged Needs (keys_file old slot) old new) (OfTable tells logged Asked slot bytes old new) old new fault (of_tree tells logged Asked Needs slot bytes old new needs) is

-- Why a page of the log can't be read.
use Rattle.std.proofs.Common.{◌≡◌, ℕ, ◌/◌, ◌%◌, ◌<◌, ◌≤◌, Bool, true, false, Option, None, Some, Result, Err, is_some, inl, inr, refl, sym, ◌∙◌, ap, arith}
use Rattle.std.proofs.lemmas.Bool.{cases_Bool}
use Rattle.aria_host.specs.declared.fault.Fault.{Fault}
use Rattle.aria_host.specs.declared.fault.Fault.TheVariants.{Disk, LogDamaged}
use Rattle.aria_host.specs.State.{State}
use Rattle.aria_log.specs.declared.log.Log.{Log as LogValue}
use Rattle.aria_log.specs.declared.reader.Reader.{Reader as ReaderValue}
use Rattle.aria_log.specs.Pieces.{Piece, LogFiles, pieces_of}
use Rattle.aria_log.specs.Reading.{seen, loaded}
use Rattle.aria_log.specs.Stepping.{HasPageCause}
use Rattle.aria_log.proofs.RunReads.{seen_below}

-- a page of the log that isn't valid was read from a host that doesn't tell
untold : (tells : Bool) (log : LogValue) (files : LogFiles) (held : Option Piece) (n : ℕ) → (tells ≡ true → held ≡ pieces_of files n) → (tells ≡ true → (piece : Piece) × (seen log files n ≡ Some piece)) → n < log.number
    → is_some held ≡ false → tells ≡ false
untold tells log files held n read valid low none = elim (cases_Bool tells) [
  | inr quiet ↦ quiet
  | inl told ↦
      let (piece, is) = valid told in
      let found : held ≡ Some piece = read told ∙ sym (seen_below log files n low) ∙ is in
      absurd (let f : true ≡ false = sym (ap (λ (o : Option Piece). is_some o) found) ∙ none in (cc))
]

-- and it is named
pub damaged_cause : {T : Type 0} (tells : Bool) (log : LogValue) (files : LogFiles) (held : Option Piece) (n : ℕ) (old new : State) (fault : Fault) → (tells ≡ true → held ≡ pieces_of files n)
    → (tells ≡ true → (piece : Piece) × (seen log files n ≡ Some piece)) → n < log.number → is_some held ≡ false → fault ≡ LogDamaged (n / 1024) (n % 1024) → new.disk_faults ≡ old.disk_faults → new.tell_faults ≡ old.tell_faults
    → HasPageCause {T = T} tells log.number old new (Err fault)
damaged_cause tells log files held n old new fault read valid low none is disk told = record {
  only = inr (untold tells log files held n read valid low none, n, low, is);
  counted = λ e. absurd (cc);
  calm = tt;
  later = omega (arith, disk);
  tell = told;
}

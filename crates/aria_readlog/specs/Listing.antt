-- A listing: what was told of the entries of the log, and what is still to be told.
use Rattle.std.specs.Prelude.{◌≡◌, ℕ, ◌+◌, true, List, [], ◌∷◌, ◌++◌, Option, None, Some}
use Rattle.std.specs.String.{string_bytes}
use Rattle.aria_host.specs.State.{State}
use Rattle.aria_page.specs.declared.lsn.Lsn.{Lsn}
use Rattle.aria_record.specs.Logged.{lsn_at_place}
use Rattle.aria_log.specs.Reading.{Entry, next_place}
use Rattle.aria_readlog.specs.declared.listing.Listing.{Listing}
use Rattle.aria_readlog.specs.Choice.{asked, all_lines, group_count, rest_count}
use Rattle.aria_readlog.specs.Telling.{Shows}

-- These entries were added: the text has their lines, and they are counted.
pub record Lists (entries : List Entry) (old new : Listing) : Type 0 where
  pub text : string_bytes new.text ≡ string_bytes old.text ++ all_lines old.choice entries
  pub choice : new.choice ≡ old.choice
  pub groups : new.groups ≡ old.groups + group_count (asked old.choice entries)
  pub rests : new.rests ≡ old.rests + rest_count (asked old.choice entries)

-- A part of the text that is held was told.
pub record Tells (old new : Listing) (s0 s1 : State) : Type 0 where
  pub told : List ℕ
  pub shows : Shows told s0 s1 true
  pub text : string_bytes old.text ≡ told ++ string_bytes new.text
  pub choice : new.choice ≡ old.choice
  pub groups : new.groups ≡ old.groups
  pub rests : new.rests ≡ old.rests

-- The same, and a part of the text was told.
pub record Adds (entries : List Entry) (old new : Listing) (s0 s1 : State) : Type 0 where
  pub told : List ℕ
  pub shows : Shows told s0 s1 true
  pub text : string_bytes old.text ++ all_lines old.choice entries ≡ told ++ string_bytes new.text
  pub choice : new.choice ≡ old.choice
  pub groups : new.groups ≡ old.groups + group_count (asked old.choice entries)
  pub rests : new.rests ≡ old.rests + rest_count (asked old.choice entries)

-- The first of what stands in the log from a place on was added, and the rest stands at the number that is answered; or
-- nothing stands there.
abbrev pub Takes : ℕ → List Entry → Option Lsn → Listing → Listing → Type 0
Takes end [] None old new = Lists [] old new
Takes end [] (Some after) old new = ⊥
Takes end (entry ∷ more) None old new = ⊥
Takes end (entry ∷ more) (Some after) old new = (after ≡ lsn_at_place (next_place end more)) × Lists (entry ∷ []) old new

-- the same, and a part of the text was told
abbrev pub Steps : ℕ → List Entry → Option Lsn → Listing → Listing → State → State → Type 0
Steps end [] None old new s0 s1 = Adds [] old new s0 s1
Steps end [] (Some after) old new s0 s1 = ⊥
Steps end (entry ∷ more) None old new s0 s1 = ⊥
Steps end (entry ∷ more) (Some after) old new s0 s1 = (after ≡ lsn_at_place (next_place end more)) × Adds (entry ∷ []) old new s0 s1

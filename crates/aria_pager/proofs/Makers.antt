-- The first pages of a table's files, as the group that made it says.
use Rattle.std.proofs.Common.{◌≡◌, ◌∙◌, inl, inr, ℕ, ◌/◌, ◌<◌, ◌≤◌, Bool, true, false, cond, nat_le, List, length, ap, sym, refl, subst, arith, Option, None, Some, Result, Err}
use Rattle.std.specs.Prelude.{IsTrue, is_some}
use Rattle.std.specs.Option.{option_map_or}
use Rattle.std.proofs.lemmas.Bool.Decides.{nat_tests}
use Rattle.aria_page.specs.Lsn.{IsLsn, lsn_number}
use Rattle.aria_page.specs.Page.{Sums, zero_page}
use Rattle.aria_page.specs.declared.lsn.Lsn.{Lsn}
use Rattle.aria_page.specs.declared.place.Part.{Part}
use Rattle.aria_page.specs.declared.place.Part.TheVariants.{Keys, Rows}
use Rattle.aria_value.specs.Header.{first_index_page, first_data_page}
use Rattle.aria_value.specs.Named.{same_name}
use Rattle.aria_value.specs.Reading.{read_definition}
use Rattle.aria_value.specs.declared.definition.Definition.{Definition}
use Rattle.aria_host.specs.State.{State}
use Rattle.aria_host.specs.declared.fault.Fault.{Fault}
use Rattle.aria_host.specs.declared.fault.Fault.TheVariants.{LogDamaged, Disk}
use Rattle.aria_record.specs.declared.record.Record.TheVariants.{CreateTable}
use Rattle.aria_record.specs.Logged.{Logged, lsn_at_place}
use Rattle.aria_log.specs.declared.log.Log.{Log as LogValue}
use Rattle.aria_log.specs.Log.{IsLog, place}
use Rattle.aria_log.proofs.Places.{AreRising, log_rising}
use Rattle.aria_recovery.specs.Redo.{number_at, page_number}
use Rattle.aria_recovery.specs.Tables.{Maker, says, says_group, life_of, first_of, made_page}
use Rattle.aria_recovery.specs.Images.{IsBelow}
use Rattle.aria_recovery.proofs.Above.{said_at}
use Rattle.aria_recovery.proofs.Counting.{said_last}
use Rattle.aria_recovery.proofs.Numbering.{number_rises}
use Rattle.aria_recovery.proofs.Seeing.{seen_sound, made_number}
use Rattle.aria_pager.specs.Grouped.{IsGroupAt, HasGroupCause}
use Rattle.aria_pager.specs.Prepared.{IsFirst, AreFirst, HasMade}
use Rattle.aria_pager.specs.Steps.{damaged_at}
use Rattle.aria_pager.proofs.Redoing.{rising_below}

said_maker : (at : Lsn) (name table : List ℕ) (plain : Bool) (definition : List ℕ) (format : ℕ) (maker : Maker) → says at name (CreateTable table plain definition format) ≡ Some (Some maker) → record { at = at; plain = plain; definition = definition; format = format } ≡ maker
said_maker at name table plain definition format maker is = by (same_name name table) is
  where
    made : Maker
    made = record { at = at; plain = plain; definition = definition; format = format }

    maker_in : Option (Option Maker) → Maker
    maker_in None = made
    maker_in (Some None) = made
    maker_in (Some (Some m)) = m

    by : (b : Bool) → cond b (Some (Some made)) None ≡ Some (Some maker) → made ≡ maker
    by true same = ap maker_in same
    by false same = absurd (cc)

-- what is put together from an entry is what the maker has
pub made_of : (at : Lsn) (name table : List ℕ) (plain : Bool) (definition bytes : List ℕ) (format : ℕ) (maker : Maker) (d : Definition) (pages : List ℕ × List ℕ) → says at name (CreateTable table plain definition format) ≡ Some (Some maker)
    → bytes ≡ definition → Some d ≡ read_definition bytes → pages.0 ≡ first_index_page d plain at format → pages.1 ≡ first_data_page plain at → Sums pages.0 × Sums pages.1 → HasMade maker pages
unfolding made_page
made_of at name table plain definition bytes format maker d pages says_is bytes_are read keys rows sums = subst (λ (m : Maker). HasMade m pages) (said_maker at name table plain definition format maker says_is) (record {
  spelled = subst (λ (o : Option Definition). IsTrue (is_some o)) there refl;
  keys = keys ∙ ap (λ (o : Option Definition). option_map_or (λ e. first_of made e Keys) o zero_page) there;
  rows = rows ∙ ap (λ (o : Option Definition). option_map_or (λ e. first_of made e Rows) o zero_page) there;
  sums = sums;
})
  where
    made : Maker
    made = record { at = at; plain = plain; definition = definition; format = format }

    there : Some d ≡ read_definition definition
    there = read ∙ ap read_definition bytes_are

-- the group that made the table last
pub record MadeBy (name : List ℕ) (groups : List Logged) (at : Lsn) (maker : Maker) : Type 0 where
  pub group : Logged
  pub there : IsGroupAt groups at group
  pub says_it : says_group name at group.group ≡ Some (Some maker)

pub made_by : (name : List ℕ) (groups : List Logged) (at : Lsn) (maker : Maker) → (life_of name groups).last ≡ Some (Some maker) → maker.at ≡ at → MadeBy name groups at maker
made_by name groups at maker last at_is =
    let w = said_last name groups (Some maker) last in
    let is : at ≡ lsn_at_place w.group.at = sym at_is ∙ said_at name (lsn_at_place w.group.at) w.group.group maker w.told in
    record {
      group = w.group;
      there = record { before = w.front; after = (life_of name groups).since; are = w.whole; is = is };
      says_it = subst (λ (l : Lsn). says_group name l w.group.group ≡ Some (Some maker)) (sym is) w.told;
    }

definition_of : (o : Option Definition) → IsTrue (is_some o) → (d : Definition) × (o ≡ Some d)
definition_of None is = absurd (let e : false ≡ true = is in (cc))
definition_of (Some d) is = (d, refl)

-- THE FIRST PAGES of a table that the log's groups made last
pub firsts : (log : LogValue) (s : State) (base : ℕ) (groups : List Logged) (name : List ℕ) (maker : Maker) (pages : List ℕ × List ℕ) → IsLog log s base groups (length groups) → (life_of name groups).last ≡ Some (Some maker) → HasMade maker pages
    → AreFirst name groups maker (number_at (place log)) pages.0 pages.1
firsts log s base groups name maker pages is last made = record { keys = first Keys pages.0 made.keys made.sums.0; rows = first Rows pages.1 made.rows made.sums.1 }
  where
    by : MadeBy name groups maker.at maker
    by = made_by name groups maker.at maker last refl

    place_low : by.group.at < place log
    place_low = rising_below base by.there.before by.there.after by.group (place log) (subst (λ (l : List Logged). AreRising base l (place log)) by.there.are (log_rising log s base groups (length groups) is))

    fits : IsLsn maker.at
    fits = subst IsLsn (sym by.there.is) (record { file = omega (arith, log.room, log.within, place_low); offset = omega arith })

    low : lsn_number maker.at < number_at (place log)
    low = subst (λ (l : Lsn). lsn_number l < number_at (place log)) (sym by.there.is) (number_rises by.group.at (place log) place_low)

    d : (e : Definition) × (read_definition maker.definition ≡ Some e)
    d = definition_of (read_definition maker.definition) made.spelled

    same_le : (n : ℕ) → nat_le n n ≡ true
    same_le n = grind (arith, nat_tests)

    first : (p : Part) (page : List ℕ) → page ≡ made_page maker p → Sums page → IsFirst name p groups maker page (number_at (place log))
    first p page page_is sums = record {
      last = last;
      page_is = page_is;
      from = ap (nat_le (lsn_number maker.at)) number ∙ same_le (lsn_number maker.at);
      low = subst (IsBelow (number_at (place log))) (sym (seen_sound page (inl sums))) (subst (λ (n : ℕ). n < number_at (place log)) (sym number) low);
    }
      where
        number : page_number page ≡ lsn_number maker.at
        number = ap page_number page_is ∙ made_number maker d.0 p d.1 fits

-- a group that doesn't make the table stands there only where the host doesn't tell
pub unmade_cause : {T : Type 0} (tells : Bool) (s t : State) (at : Lsn) (fault : Fault) → fault ≡ damaged_at at → (tells ≡ true → ⊥) → s.disk_faults ≤ t.disk_faults → t.tell_faults ≡ s.tell_faults → HasGroupCause {T = T} tells s t (Err fault)
unmade_cause {T} tells s t at fault is never later tell = record {
  only = inr (inr (off tells never, at.file, at.offset / 8192, is));
  counted = λ e. absurd (let f : fault ≡ Disk = same fault Disk e in let h : LogDamaged at.file (at.offset / 8192) ≡ Disk = sym is ∙ f in (cc));
  calm = tt;
  later = later;
  tell = tell;
}
  where
    off : (b : Bool) → (b ≡ true → ⊥) → b ≡ false
    off true not = absurd (not refl)
    off false not = refl

    same : (a b : Fault) → ◌≡◌ {A = Result T Fault} (Err a) (Err b) → a ≡ b
    same a b e = cc

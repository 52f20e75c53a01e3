-- One call after another: groups are added, and tables stay or change by them.
use Rattle.std.proofs.Common.{◌≡◌, ◌∙◌, ◌⊎◌, ℕ, ◌+◌, ◌<◌, ◌≤◌, Bool, cond, List, [], ◌∷◌, ◌++◌, length, take, nat_le, ap, sym, refl, subst, arith, length-append, append_assoc, None, Some, inl, inr}
use Rattle.std.proofs.lemmas.Bool.{cases_lt}
use Rattle.std.specs.Prelude.{IsTrue}
use Rattle.std.proofs.lemmas.List.{take-append-le, append-nil, length_push}
use Rattle.aria_page.specs.declared.place.Part.{Part}
use Rattle.aria_host.specs.Folder.{Folder, is_log}
use Rattle.aria_host.specs.Moments.{Left, Moments}
use Rattle.aria_host.specs.State.{State, LeavesOnly}
use Rattle.aria_host.proofs.Moments.{OnlyNow, joined, weakened}
use Rattle.aria_record.specs.Logged.{Logged}
use Rattle.aria_recovery.specs.Tables.{Maker, told_by, file, tables_of, Agrees}
use Rattle.aria_recovery.specs.Images.{AreImages, AtTables, Calm}
use Rattle.aria_recovery.specs.Moves.{Versions, HasFront, AtFront, Applies, Moves}
use Rattle.aria_recovery.proofs.Stepping.{tables_same, no_log}
use Rattle.aria_recovery.proofs.Calming.{calm_none, images_log, image_push, image_forced}
use Rattle.aria_recovery.proofs.Applying.{Meets, applies_none, applies_one, applies_on}
use Rattle.aria_recovery.proofs.Agreeing.{AreOlder}
use Rattle.aria_recovery.proofs.Comparing.{le_true, le_false}

-- the first tables up to a number of groups, and the other ones behind it
abbrev pub both : ℕ → Versions → Versions → Versions
both n one other = λ m. cond (nat_le m n) (one m) (other m)

both_one : (n m : ℕ) (one other : Versions) (name : List ℕ) → m ≤ n → both n one other m name ≡ one m name
both_one n m one other name low = ap (λ (b : Bool). cond b (one m) (other m) name) (le_true m n low)

both_other : (n m : ℕ) (one other : Versions) (name : List ℕ) → n < m → both n one other m name ≡ other m name
both_other n m one other name high = ap (λ (b : Bool). cond b (one m) (other m) name) (le_false m n high)

-- at each moment both hold
pub record Both (P Q : Folder → List ℕ → Type 0) (c : Folder) (told : List ℕ) : Type 0 where
  pub one : P c told
  pub other : Q c told

pub at_once : (a b : State) (P Q : Folder → List ℕ → Type 0) → LeavesOnly a b P → LeavesOnly a b Q → LeavesOnly a b (Both P Q)
at_once a b P Q first second = record {
  later = first.later;
  each = λ c told left. record { one = first.each c told left; other = second.each c told left };
  before = λ t c told le left. by t c told (first.before t c told le left) (second.before t c told le left);
}
  where
    by : (t : ℕ) (c : Folder) (told : List ℕ) → a.since t c told ⊎ P c told → a.since t c told ⊎ Q c told → a.since t c told ⊎ Both P Q c told
    by t c told (inl was) other = inl was
    by t c told (inr one) (inl was) = inl was
    by t c told (inr one) (inr other) = inr (record { one = one; other = other })

module _ (HoldsLog : Folder → List Logged → Type 0) (opened : List ℕ → Bool) where
  -- THE TABLES STAY: no group is added or forced
  pub moves_calm : (old new : State) (gs : List Logged) (forced : ℕ) → forced ≤ length gs → Calm opened old new gs forced → LeavesOnly old new (λ c told. HasFront HoldsLog gs forced c) → Moves HoldsLog opened old new gs gs forced forced
  moves_calm old new gs forced within calm fronts = record {
    more = [];
    grows = sym (append-nil gs);
    forces = omega arith;
    within = within;
    tables = all;
    starts = λ m lo hi name. refl;
    ends = λ m lo hi name. calm.folder.tables m lo hi name;
    applies = applies_none all (length gs);
    moments = weakened old new (Both (AtTables old gs forced) (λ c told. HasFront HoldsLog gs forced c)) (AtFront HoldsLog all gs forced old.out)
        (at_once old new (AtTables old gs forced) (λ c told. HasFront HoldsLog gs forced c) calm.moments fronts) (λ c told at. record {
          count = at.other.count;
          from = at.other.from;
          within = at.other.within;
          log = at.other.log;
          is = λ name. sym (at.one.agrees.tables at.other.count at.other.from at.other.within name);
          told_is = at.one.told_is;
        });
    images = calm.images;
    out = calm.out;
    err = calm.err;
  }
    where
      all : Versions
      all m name = tables_of old.folder (take m gs) name

  -- nothing is done
  pub moves_none : (s : State) (gs : List Logged) (forced : ℕ) → forced ≤ length gs → OnlyNow s → AreImages opened s gs forced → LeavesOnly s s (λ c told. HasFront HoldsLog gs forced c) → Moves HoldsLog opened s s gs gs forced forced
  moves_none s gs forced within only images fronts = moves_calm s s gs forced within (calm_none opened s gs forced only images) fronts

  -- ONE AFTER ANOTHER
  pub moves_on : (a b c : State) (ga gb gc : List Logged) (fa fb fc : ℕ) → Moves HoldsLog opened a b ga gb fa fb → Moves HoldsLog opened b c gb gc fb fc → Moves HoldsLog opened a c ga gc fa fc
  moves_on a b c ga gb gc fa fb fc first second = record {
    more = first.more ++ second.more;
    grows = second.grows ∙ ap (λ (l : List Logged). l ++ second.more) first.grows ∙ append_assoc ga first.more second.more;
    forces = omega (arith, first.forces, second.forces);
    within = second.within;
    tables = all;
    starts = λ m lo hi name. both_one (length gb) m first.tables second.tables name (omega (arith, hi, lengths)) ∙ first.starts m lo hi name;
    ends = λ m lo hi name. second_is m name (omega (arith, lo, second.forces)) ∙ second.ends m lo hi name;
    applies = applies_on first.tables second.tables all (length ga) first.more second.more first.applies
        (subst (λ (k : ℕ). Applies second.tables k second.more) lengths second.applies)
        (λ m name low. both_one (length gb) m first.tables second.tables name (omega (arith, low, lengths)))
        (λ m name low high. second_is m name (omega (arith, low, lengths, first.within)));
    moments = joined a b c (AtFront HoldsLog all gc fa a.out) (AtFront HoldsLog second.tables gc fb b.out)
        (weakened a b (AtFront HoldsLog first.tables gb fa a.out) (AtFront HoldsLog all gc fa a.out) first.moments longer) second.moments on;
    images = second.images;
    out = second.out ∙ first.out;
    err = second.err ∙ first.err;
  }
    where
      lengths : length gb ≡ length ga + length first.more
      lengths = ap length first.grows ∙ length-append ga first.more

      all : Versions
      all = both (length gb) first.tables second.tables

      second_is : (m : ℕ) (name : List ℕ) → fb ≤ m → all m name ≡ second.tables m name
      second_is m name lo = elim (cases_lt (length gb) m) [
        | inl high ↦ both_other (length gb) m first.tables second.tables name high
        | inr low ↦ both_one (length gb) m first.tables second.tables name low ∙ first.ends m lo low name ∙ sym (second.starts m lo low name)
      ]

      longer : (f : Folder) (told : List ℕ) → AtFront HoldsLog first.tables gb fa a.out f told → AtFront HoldsLog all gc fa a.out f told
      longer f told at =
          let same : take at.count gc ≡ take at.count gb = ap (take at.count) second.grows ∙ take-append-le at.count gb second.more at.within in
          record {
            count = at.count;
            from = at.from;
            within = omega (arith, at.within, length-append gb second.more, ap length second.grows);
            log = subst (HoldsLog f) (sym same) at.log;
            is = λ name. ap (λ (l : List Logged). tables_of f l name) same ∙ at.is name ∙ sym (both_one (length gb) at.count first.tables second.tables name at.within);
            told_is = at.told_is;
          }

      on : (f : Folder) (told : List ℕ) → AtFront HoldsLog second.tables gc fb b.out f told → AtFront HoldsLog all gc fa a.out f told
      on f told at = record {
        count = at.count;
        from = omega (arith, first.forces, at.from);
        within = at.within;
        log = at.log;
        is = λ name. at.is name ∙ sym (second_is at.count name at.from);
        told_is = at.told_is ∙ first.out;
      }

  -- a crash leaves a front of the log, and the tables' files as a crash before might have
  pub record AtLog (old : State) (groups : List Logged) (forced : ℕ) (c : Folder) (told : List ℕ) : Type 0 where
    pub count : ℕ
    pub from : forced ≤ count
    pub within : count ≤ length groups
    pub log : HoldsLog c (take count groups)
    pub before : Folder
    pub left : old.may_leave before
    pub same : (name : List ℕ) (part : Part) → c (file name part) ≡ before (file name part)
    pub told_is : told ≡ old.out

  -- THE LOG ALONE IS WRITTEN: groups are added, or more are forced
  pub moves_log : (old new : State) (gs more : List Logged) (forced forced' : ℕ) → forced ≤ forced' → forced' ≤ length (gs ++ more) → ((d : Folder) → old.may_leave d → Agrees (gs ++ more) forced old.folder d)
      → Applies (λ m name. tables_of old.folder (take m (gs ++ more)) name) (length gs) more → LeavesOnly old new (AtLog old (gs ++ more) forced)
      → ((name : List ℕ) (part : Part) → new.folder (file name part) ≡ old.folder (file name part)) → AreImages opened new (gs ++ more) forced' → new.out ≡ old.out → new.err ≡ old.err
      → Moves HoldsLog opened old new gs (gs ++ more) forced forced'
  moves_log old new gs more forced forced' le within agrees applies moments same images out err = record {
    more = more;
    grows = refl;
    forces = le;
    within = within;
    tables = λ m name. tables_of old.folder (take m (gs ++ more)) name;
    starts = λ m lo hi name. ap (λ (l : List Logged). tables_of old.folder l name) (take-append-le m gs more hi);
    ends = λ m lo hi name. sym (tables_same old.folder new.folder (take m (gs ++ more)) name (same name));
    applies = applies;
    moments = weakened old new (AtLog old (gs ++ more) forced) (AtFront HoldsLog (λ m name. tables_of old.folder (take m (gs ++ more)) name) (gs ++ more) forced old.out) moments (λ c told at. record {
      count = at.count;
      from = at.from;
      within = at.within;
      log = at.log;
      is = λ name. tables_same at.before c (take at.count (gs ++ more)) name (at.same name) ∙ sym ((agrees at.before at.left).tables at.count at.from at.within name);
      told_is = at.told_is;
    });
    images = images;
    out = out;
    err = err;
  }

  -- What a crash leaves at each moment while the log alone is written, from the log's own moments.
  log_moments : (old new : State) (groups : List Logged) (forced : ℕ) → Moments is_log old new (HasFront HoldsLog groups forced) → LeavesOnly old new (AtLog old groups forced)
  log_moments old new groups forced is = weakened old new (Left is_log old (HasFront HoldsLog groups forced)) (AtLog old groups forced) is.moments (λ c told at. record {
    count = at.has.count;
    from = at.has.from;
    within = at.has.within;
    log = at.has.log;
    before = at.others.0;
    left = at.others.1;
    same = λ name part. at.others.2 (file name part) (no_log name part);
    told_is = at.told_is;
  })

  -- A GROUP IS APPENDED: it stands behind the pages that it edits, finds older files or none where it makes a table, and says nothing of the files of open tables.
  pub moves_append : (old new : State) (gs : List Logged) (g : Logged) (forced : ℕ) → forced ≤ length gs → AreImages opened old gs forced → ((name : List ℕ) → Meets old.folder gs g name)
      → ((name : List ℕ) (maker : Maker) (d : Folder) → told_by name g ≡ Some (Some maker) → old.may_leave d → AreOlder name maker.at d) → ((name : List ℕ) → IsTrue (opened name) → told_by name g ≡ None)
      → Moments is_log old new (HasFront HoldsLog (gs ++ g ∷ []) forced) → Moves HoldsLog opened old new gs (gs ++ g ∷ []) forced forced
  moves_append old new gs g forced few images meets older shut moments =
      moves_log old new gs (g ∷ []) forced forced (omega arith) (omega (arith, few, length_push gs g)) (λ d left. (pushed d left).agrees) (applies_one old.folder gs g meets) (log_moments old new (gs ++ g ∷ []) forced moments)
      (λ name part. moments.others.folder (file name part) (no_log name part)) (images_log opened old new (gs ++ g ∷ []) forced pushed moments.others) moments.others.out moments.others.err
    where
      pushed : AreImages opened old (gs ++ g ∷ []) forced
      pushed d left = image_push opened gs g forced old.folder d few (λ name maker told. ((meets name).older maker told, older name maker d told left)) shut (images d left)

  -- ALL GROUPS ARE FORCED
  pub moves_force : (old new : State) (gs : List Logged) (forced forced' : ℕ) → forced ≤ forced' → forced' ≤ length gs → AreImages opened old gs forced → Moments is_log old new (HasFront HoldsLog gs forced)
      → Moves HoldsLog opened old new gs gs forced forced'
  moves_force old new gs forced forced' more few images moments =
      subst (λ (l : List Logged). Moves HoldsLog opened old new gs l forced forced') (append-nil gs)
      (moves_log old new gs [] forced forced' more (subst (λ (l : List Logged). forced' ≤ length l) (sym (append-nil gs)) few)
      (λ d left. subst (λ (l : List Logged). Agrees l forced old.folder d) (sym (append-nil gs)) (images d left).agrees)
      (applies_none (λ m name. tables_of old.folder (take m (gs ++ [])) name) (length gs))
      (subst (λ (l : List Logged). LeavesOnly old new (AtLog old l forced)) (sym (append-nil gs)) (log_moments old new gs forced moments))
      (λ name part. moments.others.folder (file name part) (no_log name part))
      (subst (λ (l : List Logged). AreImages opened new l forced') (sym (append-nil gs)) (λ c leaves. image_forced opened gs forced forced' new.folder c more (images_log opened old new gs forced images moments.others c leaves)))
      moments.others.out moments.others.err)

-- A table is dropped: what follows from its steps.
use Rattle.std.proofs.Common.{◌≡◌, ◌∙◌, ℕ, ◌/◌, ◌^◌, ◌≤◌, Bool, true, false, cond, nat_eq, List, [], ◌∷◌, ◌++◌, length, ap, sym, refl, subst, Option, None, Some}
use Rattle.std.specs.Prelude.{IsTrue, slice_get}
use Rattle.std.specs.Option.{option_map_or, option_and_then}
use Rattle.std.specs.Cmp.Lexicographic.{bytes_decides}
use Rattle.std.proofs.lemmas.Bool.{eqb-true, eq-eqb}
use Rattle.std.proofs.lemmas.List.{append-nil}
use Rattle.aria_page.specs.declared.place.Part.{Part}
use Rattle.aria_value.specs.Named.{same_name}
use Rattle.aria_host.specs.Folder.{Folder}
use Rattle.aria_host.specs.State.{State}
use Rattle.aria_record.specs.Logged.{Logged}
use Rattle.aria_record.specs.Writing.{Writes, records_of}
use Rattle.aria_record.proofs.Writers.{written_is}
use Rattle.aria_log.specs.Log.{place}
use Rattle.aria_cache.specs.Frames.{Held, held, is_pinned}
use Rattle.aria_recovery.specs.Moves.{Moves}
use Rattle.aria_recovery.specs.Tables.{Life, lives, life_of, file}
use Rattle.aria_recovery.proofs.Agreeing.{life_push}
use Rattle.aria_recovery.proofs.Calming.{image_shut}
use Rattle.aria_recovery.proofs.Moving.{moves_on}
use Rattle.aria_recovery.proofs.Numbering.{number_rises_not}
use Rattle.aria_pager.specs.declared.page_store.PageStore.{PageStore}
use Rattle.aria_pager.specs.declared.slot.Slot.{Slot}
use Rattle.aria_pager.specs.PageStore.{name_in, name_at, opened}
use Rattle.aria_pager.specs.Pager.{LogOf, HasFront, HaveFronts, IsPager, known}
use Rattle.aria_pager.specs.Steps.{Steps}
use Rattle.aria_pager.specs.Turns.{only}
use Rattle.aria_pager.specs.Filing.{Leaves, Forgets, without_name, IsLogged, Logs, FileSteps, TurnsAll}
use Rattle.aria_pager.proofs.Dropped.{pager_dropped}
use Rattle.aria_pager.proofs.Forgetting.{number_known, name_gone, closed_now, freed_other}
use Rattle.aria_pager.proofs.Logging.{drop_of}

-- ---- steps

-- fewer tables are open
pub moves_shut : (base : ℕ) (more less : List ℕ → Bool) (s t : State) (ga gb : List Logged) (fa fb : ℕ) → ((name : List ℕ) → IsTrue (less name) → IsTrue (more name)) → Moves (HasFront base) more s t ga gb fa fb → Moves (HasFront base) less s t ga gb fa fb
moves_shut base more less s t ga gb fa fb fewer is = record {
  more = is.more;
  grows = is.grows;
  forces = is.forces;
  within = is.within;
  tables = is.tables;
  starts = is.starts;
  ends = is.ends;
  applies = is.applies;
  moments = is.moments;
  images = λ c leaves. image_shut more gb fb less t.folder c fewer (is.images c leaves);
  out = is.out;
  err = is.err;
}

-- nothing was appended
pub turns_none : (a b : PageStore) (s t : State) (base : ℕ) (start : Folder) (groups : List Logged) (forced : ℕ) (g : Logged) (done done' : Bool) → opened b ≡ opened a → done' ≡ false → Steps a b s t base start groups forced done → TurnsAll a b s t base start groups forced g done'
turns_none a b s t base start groups forced g done done' same off first = record {
  turns = record {
    added = false;
    forced' = first.forced';
    moves = subst (λ (o : List ℕ → Bool). Moves (HasFront base) o s t groups (groups ++ []) forced first.forced') (sym same)
        (subst (λ (l : List Logged). Moves (HasFront base) (opened a) s t groups l forced first.forced') (sym (append-nil groups)) first.moves);
    fronts = subst (λ (l : List Logged). HaveFronts base t l first.forced') (sym (append-nil groups)) first.fronts;
    whole = λ on. absurd (let e : true ≡ false = sym on ∙ off in (cc));
    pager = λ on. absurd (let e : true ≡ false = sym on ∙ off in (cc));
  };
  all = λ on. absurd (let e : true ≡ false = sym on ∙ off in (cc));
}

-- The log was started, and the group may have been appended.
pub turns_failed : (a b c : PageStore) (s t u : State) (base : ℕ) (start : Folder) (groups : List Logged) (forced : ℕ) (g : Logged) (done done' : Bool) → ((name : List ℕ) → IsTrue (opened c name) → IsTrue (opened a name)) → done' ≡ false
    → (first : Steps a b s t base start groups forced true) → Logs b c t u base start groups first.forced' g done → TurnsAll a c s u base start groups forced g done'
turns_failed a b c s t u base start groups forced g done done' fewer off first logs = record {
  turns = record {
    added = logs.added;
    forced' = logs.forced';
    moves = moves_on (HasFront base) (opened c) s t u groups groups (groups ++ only logs.added g) forced first.forced' logs.forced' (moves_shut base (opened a) (opened c) s t groups groups forced first.forced' fewer first.moves) logs.moves;
    fronts = logs.fronts;
    whole = λ on. absurd (let e : true ≡ false = sym on ∙ off in (cc));
    pager = λ on. absurd (let e : true ≡ false = sym on ∙ off in (cc));
  };
  all = λ on. absurd (let e : true ≡ false = sym on ∙ off in (cc));
}

-- The group was appended, and files changed behind it.
pub turns_files : (a b c : PageStore) (s t u v : State) (base : ℕ) (start : Folder) (groups : List Logged) (forced : ℕ) (g : Logged) (done : Bool) → ((name : List ℕ) → IsTrue (opened c name) → IsTrue (opened a name))
    → (first : Steps a b s t base start groups forced true) → Logs b c t u base start groups first.forced' g true → FileSteps c u v base start (groups ++ g ∷ []) done → (IsTrue done → IsPager c v base start (groups ++ g ∷ []) (length (groups ++ g ∷ [])))
    → TurnsAll a c s v base start groups forced g done
turns_files a b c s t u v base start groups forced g done fewer first logs files pager = record {
  turns = record {
    added = true;
    forced' = length all;
    moves = moves_on (HasFront base) (opened c) s u v groups all all forced (length all) (length all)
        (moves_on (HasFront base) (opened c) s t u groups groups all forced first.forced' (length all) (moves_shut base (opened a) (opened c) s t groups groups forced first.forced' fewer first.moves) grown) files.moves;
    fronts = files.fronts;
    whole = λ on. refl;
    pager = pager;
  };
  all = λ on. refl;
}
  where
    all : List Logged
    all = groups ++ g ∷ []

    grown : Moves (HasFront base) (opened c) t u groups all first.forced' (length all)
    grown = subst (λ (n : ℕ). Moves (HasFront base) (opened c) t u groups all first.forced' n) (logs.all refl)
        (subst (λ (b : Bool). Moves (HasFront base) (opened c) t u groups (groups ++ only b g) first.forced' logs.forced') (logs.whole refl) logs.moves)

-- ---- the condition, once a table is dropped

pub other_way : (a b : List ℕ) → same_name a b ≡ false → same_name b a ≡ false
other_way a b off = by (same_name b a) refl
  where
    by : (t : Bool) → same_name b a ≡ t → same_name b a ≡ false
    by false is = is
    by true is = absurd (let e : true ≡ false = sym ((bytes_decides a b).1 (sym ((bytes_decides b a).0 is))) ∙ off in (cc))

-- the group is the last that says something of the table's files
pub drop_dropped : (store : PageStore) (groups : List Logged) (name : List ℕ) → (life_of name (groups ++ drop_of name store ∷ [])).last ≡ Some None
drop_dropped store groups name = ap (λ (l : Life). l.last) (life_push name (record { last = None; since = [] }) groups (drop_of name store) ∙ ap (lives (drop_of name store) (life_of name groups)) (ap (λ (b : Bool). cond b (Some None) None) ((bytes_decides name name).1 refl)))

pub drop_closed : (store now : PageStore) (s : State) (base : ℕ) (start : Folder) (groups : List Logged) (forced : ℕ) (name : List ℕ) → IsPager store s base start groups forced → Forgets name store now → opened now name ≡ false
drop_closed store now s base start groups forced name is forgets = closed_now store now s.folder groups name is.slots forgets

module _ (store now : PageStore) (s : State) (base : ℕ) (start : Folder) (groups : List Logged) (forced : ℕ) (name : List ℕ) (is : IsPager store s base start groups forced) (forgets : Forgets name store now) where
  abbrev gone : ℕ → Bool
  gone m = option_map_or (same_name name) (name_at store m) false

  -- a slot stood for the table exactly where it is known to
  gone_name : (m : ℕ) → gone m ≡ true → name_at store m ≡ Some name
  gone_name m on = by (name_at store m) refl
    where
      by : (o : Option (List ℕ)) → name_at store m ≡ o → name_at store m ≡ Some name
      by None none = absurd (let e : false ≡ true = sym (ap (λ (o : Option (List ℕ)). option_map_or (same_name name) o false) none) ∙ on in (cc))
      by (Some q) at = at ∙ ap Some (sym ((bytes_decides name q).0 (sym (ap (λ (o : Option (List ℕ)). option_map_or (same_name name) o false) at) ∙ on)))

  gone_known : (m : ℕ) → gone m ≡ true → known store name ≡ Some (Some m)
  gone_known m on = number_known store now s.folder groups name is.slots forgets m (gone_name m on)

  one : (n m : ℕ) → Some (Some n) ≡ Some (Some m) → n ≡ m
  one n m e = cc

  gone_is : (n m : ℕ) → known store name ≡ Some (Some n) → gone m ≡ nat_eq m n
  gone_is n m knows = by (gone m) refl
    where
      here : gone n ≡ true
      here = ap (λ (o : Option (List ℕ)). option_map_or (same_name name) o false) (is.tables.slot name n knows) ∙ (bytes_decides name name).1 refl

      by : (b : Bool) → gone m ≡ b → gone m ≡ nat_eq m n
      by true on = on ∙ sym (eq-eqb m n (one m n (sym (gone_known m on) ∙ knows)))
      by false off = off ∙ sym (other (nat_eq m n) refl)
        where
          other : (b : Bool) → nat_eq m n ≡ b → nat_eq m n ≡ false
          other false e = e
          other true e = absurd (let f : true ≡ false = sym here ∙ ap gone (sym (eqb-true m n e)) ∙ off in (cc))

  never : (m : ℕ) (o : Option (Option ℕ)) → known store name ≡ o → ((n : ℕ) → o ≡ Some (Some n) → ⊥) → gone m ≡ false
  never m o knows none = by (gone m) refl
    where
      by : (b : Bool) → gone m ≡ b → gone m ≡ false
      by false off = off
      by true on = absurd (none m (sym knows ∙ gone_known m on))

  frames : (k : ℕ) → held now.frames k ≡ cond (gone (k / 2 ^ 32)) None (held store.frames k)
  frames k = by (known store name) refl forgets.leaves
    where
      as_was : (o : Option (Option ℕ)) → known store name ≡ o → ((n : ℕ) → o ≡ Some (Some n) → ⊥) → now.frames ≡ store.frames → held now.frames k ≡ cond (gone (k / 2 ^ 32)) None (held store.frames k)
      as_was o knows none same = ap (λ f. held f k) same ∙ sym (ap (λ (b : Bool). cond b None (held store.frames k)) (never (k / 2 ^ 32) o knows none))

      by : (o : Option (Option ℕ)) → known store name ≡ o → Leaves o store now → held now.frames k ≡ cond (gone (k / 2 ^ 32)) None (held store.frames k)
      by None knows same = as_was None knows (λ n e. (cc)) same.0
      by (Some None) knows same = as_was (Some None) knows (λ n e. (cc)) same.0
      by (Some (Some n)) knows left = ap (λ (f : ℕ → Option Held). f k) left.held ∙ sym (ap (λ (b : Bool). cond b None (held store.frames k)) (gone_is n (k / 2 ^ 32) knows))

  pins : (k : ℕ) → is_pinned now.frames k ≡ is_pinned store.frames k
  pins k = by (known store name) forgets.leaves
    where
      by : (o : Option (Option ℕ)) → Leaves o store now → is_pinned now.frames k ≡ is_pinned store.frames k
      by None same = ap (λ f. is_pinned f k) same.0
      by (Some None) same = ap (λ f. is_pinned f k) same.0
      by (Some (Some n)) left = ap (λ p. is_pinned record { cache = now.frames.cache; pins = p } k) left.pins

  else : (m : ℕ) → gone m ≡ false → slice_get now.slots m ≡ slice_get store.slots m
  else m off = by (known store name) refl forgets.leaves
    where
      by : (o : Option (Option ℕ)) → known store name ≡ o → Leaves o store now → slice_get now.slots m ≡ slice_get store.slots m
      by None knows same = ap (λ (l : List Slot). slice_get l m) same.1
      by (Some None) knows same = ap (λ (l : List Slot). slice_get l m) same.1
      by (Some (Some n)) knows left = ap (λ (l : List Slot). slice_get l m) left.slots ∙ freed_other store.slots n m (apart (nat_eq n m) refl)
        where
          apart : (b : Bool) → nat_eq n m ≡ b → nat_eq n m ≡ false
          apart false e = e
          apart true e = absurd (let f : true ≡ false = sym (gone_is n m knows ∙ eq-eqb m n (sym (eqb-true n m e))) ∙ off in (cc))

  -- its slot is unused, and the others are as they were
  pub slots_done : (m : ℕ) → name_at now m ≡ without_name name (name_at store) m
  slots_done m = by (gone m) refl
    where
      by : (b : Bool) → gone m ≡ b → name_at now m ≡ without_name name (name_at store) m
      by true on = name_gone store now s.folder groups name is.slots forgets m (gone_name m on) ∙ sym (ap (λ (b : Bool). cond b None (name_at store m)) on)
      by false off = ap (option_and_then name_in) (else m off) ∙ sym (ap (λ (b : Bool). cond b None (name_at store m)) off)

  -- A TABLE WAS DROPPED
  pub drop_done : (t : State) → records_of store.writer ≡ [] → now.started ≡ true → Writes now.writer [] → now.pending ≡ store.pending → place store.log ≤ place now.log
      → ((other : List ℕ) (q : Part) → same_name name other ≡ false → t.folder (file other q) ≡ s.folder (file other q)) → IsLogged now t base start (groups ++ drop_of name store ∷ []) → IsPager now t base start (groups ++ drop_of name store ∷ []) (length (groups ++ drop_of name store ∷ []))
  drop_done t idle started writes pending later others logged = pager_dropped store now s t base start groups forced name (drop_of name store) (record {
    is = is;
    idle = idle;
    told = ap (λ (b : Bool). cond b (Some None) None) ((bytes_decides name name).1 refl);
    quiet = λ other off. ap (λ (b : Bool). cond b (Some None) None) (other_way name other off);
    edits = λ other p k. refl;
    reaches = λ other p. refl;
    loose = λ pending. refl;
    log = subst (λ (b : Bool). LogOf b now.log t base (groups ++ drop_of name store ∷ []) (length (groups ++ drop_of name store ∷ []))) (sym started) logged.log;
    images = logged.images;
    names = logged.names;
    control = logged.control;
    raises = logged.raises;
    others = others;
    later = number_rises_not (place store.log) (place now.log) later;
    frames = frames;
    pins = pins;
    free = λ m on. name_gone store now s.folder groups name is.slots forgets m (gone_name m on);
    else = else;
    empty = written_is now.writer [] writes;
    written = subst (Writes now.writer) (sym (written_is now.writer [] writes)) writes;
    pending = pending;
    knows = forgets.knows;
  })

-- COMMIT is appended.
use Rattle.std.proofs.Common.{◌≡◌, ◌∙◌, ℕ, ◌^◌, ◌<◌, ◌≤◌, max, Bool, true, false, cond, nat_lt, List, [], ◌∷◌, ◌++◌, length, drop, map, reverse, ap, sym, refl, subst, arith, Option, None, Some, inl, inr}
use Rattle.std.specs.Prelude.{IsTrue, is_some, All}
use Rattle.std.specs.Global.{Vec}
use Rattle.std.specs.Option.{option_map, option_map_or}
use Rattle.std.proofs.lemmas.List.{append-nil, take-append-le, drop-append-le}
use Rattle.std.proofs.lemmas.List.Elements.{All-push}
use Rattle.aria_page.specs.declared.edit.Edit.{Edit}
use Rattle.aria_page.specs.declared.lsn.Lsn.{Lsn}
use Rattle.aria_page.specs.declared.place.Part.{Part}
use Rattle.aria_host.specs.declared.file_name.FileName.TheVariants.{Control}
use Rattle.aria_host.specs.Folder.{Folder, page_count}
use Rattle.aria_host.specs.Seen.{page_or_zero}
use Rattle.aria_host.specs.State.{State}
use Rattle.aria_host.proofs.Moments.{implied}
use Rattle.aria_record.specs.declared.record.Record.{Record}
use Rattle.aria_record.specs.declared.record.Record.TheVariants.{Commit}
use Rattle.aria_record.specs.Logged.{Logged, lsn_at_place}
use Rattle.aria_page.specs.Number.{number}
use Rattle.aria_record.specs.Groups.{IsGroup}
use Rattle.aria_record.specs.Spelled.{content_bytes, group_bytes}
use Rattle.aria_record.specs.Writing.{records_of}
use Rattle.aria_log.specs.declared.log.Log.{Log as LogValue}
use Rattle.aria_log.specs.Log.{IsLog, LogKeeps, place}
use Rattle.aria_cache.specs.Frames.{Held, held, is_pinned}
use Rattle.aria_recovery.specs.Redo.{Seen, seen, number_at, stepped, reach, reach_on}
use Rattle.aria_recovery.specs.Tables.{Life, life_of, told_by, file, Table, table_of, tables_of}
use Rattle.aria_recovery.specs.Frames.{Spot, raw_at, redone_at, edits_of, base_of, PageOn, all_of}
use Rattle.aria_recovery.specs.Moves.{Moves}
use Rattle.aria_recovery.proofs.Agreeing.{life_push, table_push, grown}
use Rattle.aria_recovery.proofs.Behind.{redone_push, edits_begin}
use Rattle.aria_recovery.proofs.Holding.{page_begun, page_later}
use Rattle.aria_recovery.proofs.Moving.{moves_append}
use Rattle.aria_recovery.proofs.Numbering.{number_rises_not}
use Rattle.aria_recovery.proofs.Pending.{pending_push}
use Rattle.aria_recovery.proofs.Raising.{raises_on, raises_more}
use Rattle.aria_recovery.proofs.Stepping.{no_log, tables_same}
use Rattle.aria_pager.specs.declared.page_store.PageStore.{PageStore}
use Rattle.aria_pager.specs.PageStore.{opened, spot_of, is_known}
use Rattle.aria_pager.specs.Pager.{pages_in, LogOf, HasFront, HaveFronts, AreSilent, IsPager, known, next_number}
use Rattle.aria_pager.specs.Turns.{Turns, with_commit, alone}
use Rattle.aria_pager.proofs.Fronting.{FrontOf, fronts, fronts_log, log_within, named_same, moments_front}
use Rattle.aria_pager.proofs.Stepping.{log_moves}

-- a front of the groups is one of more of them
pub front_more : (base : ℕ) (groups more : List Logged) (forced : ℕ) (c : Folder) → FrontOf base groups forced c → FrontOf base (groups ++ more) forced c
front_more base groups more forced c is = record {
  count = is.count;
  from = is.from;
  within = within (length groups) (length (groups ++ more)) is.within (grown_length groups more);
  log = subst (λ (l : List Logged). HasFront base c l) (sym (take-append-le is.count groups more is.within)) is.log;
}
  where
    within : (n m : ℕ) → is.count ≤ n → n ≤ m → is.count ≤ m
    within n m few more = omega (arith, few, more)

    grown_length : (gs hs : List Logged) → length gs ≤ length (gs ++ hs)
    grown_length [] hs = omega arith
    grown_length (g ∷ gs) hs = let e = grown_length gs hs in omega (arith, e)

-- a page is held as it was, where the groups make the same of it and no group is open
pub page_pushed : (known : Bool) (frame : Option Held) (pin : Bool) (raw raw' made made' : Seen) (edits edits' : List Edit) (at at' next next' : ℕ) → raw' ≡ raw → made' ≡ made → edits ≡ [] → edits' ≡ [] → next ≤ next'
    → PageOn known frame pin raw made edits at next → PageOn known frame pin raw' made' edits' at' next'
page_pushed known frame pin raw raw' made made' edits edits' at at' next next' same_raw same_made none none' later is =
    subst (λ (x : Seen). PageOn known frame pin x made' edits' at' next') (sym same_raw)
    (subst (λ (x : Seen). PageOn known frame pin raw x edits' at' next') (sym same_made)
    (subst (λ (es : List Edit). PageOn known frame pin raw made es at' next') (sym none')
    (page_later known frame pin raw made [] at' next next' later
    (page_begun known frame pin raw made at at' next (subst (λ (es : List Edit). PageOn known frame pin raw made es at next) none is)))))

module _ (store : PageStore) (s t : State) (base : ℕ) (start : Folder) (groups : List Logged) (forced : ℕ) where
  abbrev g : Logged
  g = alone store Commit

  -- COMMIT edits no page and says nothing of files
  edits_none : (o : Option Spot) → edits_of groups (length groups) (Commit ∷ []) o ≡ []
  edits_none None = refl
  edits_none (Some sp) = by (nat_lt (length groups) (base_of sp.name groups))
    where
      none : List Edit
      none = []

      by : (b : Bool) → cond b none none ≡ none
      by true = refl
      by false = refl

  redone : (o : Option Spot) (x : Seen) → redone_at (groups ++ g ∷ []) (length (groups ++ g ∷ [])) o x ≡ redone_at groups (length groups) o x
  redone o x = redone_push groups g o x (λ sp is. refl) ∙ ap (λ (es : List Edit). stepped (number_at g.at) es (redone_at groups (length groups) o x)) (edits_none o)

  reach_since : (name : List ℕ) (part : Part) (gs : List Logged) → reach name part (gs ++ g ∷ []) ≡ reach name part gs
  reach_since name part [] = refl
  reach_since name part (h ∷ gs) = ap (max (reach_on name part h.group)) (reach_since name part gs)

  life_more : (name : List ℕ) → life_of name (groups ++ g ∷ []) ≡ record { last = (life_of name groups).last; since = (life_of name groups).since ++ g ∷ [] }
  life_more name = life_push name (record { last = None; since = [] }) groups g

  reach_more : (name : List ℕ) (part : Part) → reach name part (life_of name (groups ++ g ∷ [])).since ≡ reach name part (life_of name groups).since
  reach_more name part = ap (λ (l : Life). reach name part l.since) (life_more name) ∙ reach_since name part (life_of name groups).since

  there_more : (name : List ℕ) (d : Folder) → is_some (tables_of d (groups ++ g ∷ []) name) ≡ is_some (tables_of d groups name)
  there_more name d = ap (λ (l : Life). is_some (table_of name l d)) (life_more name) ∙ ap is_some (table_push name (life_of name groups) g d) ∙ by (tables_of d groups name)
    where
      by : (o : Option Table) → is_some (option_map (grown name g) o) ≡ is_some o
      by None = refl
      by (Some x) = refl

  -- a group was appended, or that failed
  pub commit_moves : LogKeeps s t base groups forced → IsPager store s base start groups forced → Moves (HasFront base) (opened store) s t groups (groups ++ g ∷ []) forced forced
  commit_moves keeps is = moves_append (HasFront base) (opened store) s t groups g forced (log_within store.started store.log s base groups forced is.log) is.images
      (λ name. record { under = λ none part n e. absurd (let f : false ≡ true = e in (cc)); older = λ maker told. absurd (let f : None ≡ Some (Some maker) = told in (cc)) })
      (λ name maker d told left. absurd (let f : None ≡ Some (Some maker) = told in (cc))) (λ name on. refl)
      (implied s t (moments_front s t base groups forced is.control keeps) (λ c front. front_more base groups (g ∷ []) forced c front))

  pub commit_failed : (store' : PageStore) (done : Bool) → opened store' ≡ opened store → done ≡ false → ((c : Folder) → t.may_leave c → t.since s.moment c t.out) → LogKeeps s t base groups forced → IsPager store s base start groups forced → Turns store store' s t base start groups forced g done
  commit_failed store' done same off counts keeps is = record {
    added = false;
    forced' = forced;
    fronts = subst (λ (l : List Logged). HaveFronts base t l forced) (sym (append-nil groups)) (fronts_log s t base groups forced counts is.control keeps);
    moves = subst (λ (o : List ℕ → Bool). Moves (HasFront base) o s t groups (groups ++ []) forced forced) (sym same)
        (subst (λ (l : List Logged). Moves (HasFront base) (opened store) s t groups l forced forced) (sym (append-nil groups))
        (log_moves store s t (all_of groups) base start groups forced forced (omega arith) (log_within store.started store.log s base groups forced is.log) keeps is));
    whole = λ on. absurd (let e : true ≡ false = sym on ∙ off in (cc));
    pager = λ on. absurd (let e : true ≡ false = sym on ∙ off in (cc));
  }

  pub pager_committed : (log' : LogValue) (pending' : Vec Lsn) → store.started ≡ true → records_of store.writer ≡ [] → pending'.items ≡ [] → LogKeeps s t base groups forced → IsLog log' t base (groups ++ g ∷ []) forced → place store.log ≤ place log'
      → IsPager store s base start groups forced → IsPager (with_commit store log' pending') t base start (groups ++ g ∷ []) forced
  pager_committed log' pending' started idle empty keeps log later is = record {
    log = subst (λ (b : Bool). LogOf b log' t base (groups ++ g ∷ []) forced) (sym started) log;
    images = moves.images;
    names = λ c left name part. let to = keeps.others.images c left in
        ap is_some (to.2 (file name part) (no_log name part)) ∙ is.names to.0 to.1 name part ∙ sym (ap is_some (keeps.others.folder (file name part) (no_log name part)));
    control = λ c left. let to = keeps.others.images c left in named_same base to.0 c (to.2 Control refl) (is.control to.0 to.1);
    raises = λ c left. let to = keeps.others.images c left in raises_on (next_number now) start to.0 c (raises_more (next_number store) (next_number now) start to.0 rises (is.raises to.0 to.1))
        (λ name part n. inl (ap (λ (o : Option (List (List ℕ))). seen (page_or_zero n o)) (to.2 (file name part) (no_log name part))));
    pages = λ k. page_pushed (is_known store k) (held store.frames k) (is_pinned store.frames k) (raw_at s.folder (spot_of store k)) (raw_at t.folder (spot_of store k))
        (redone_at groups (length groups) (spot_of store k) (raw_at s.folder (spot_of store k))) (redone_at (groups ++ g ∷ []) (length (groups ++ g ∷ [])) (spot_of store k) (raw_at t.folder (spot_of store k)))
        (edits_of groups (length groups) (records_of store.writer) (spot_of store k)) (edits_of (groups ++ g ∷ []) (length (groups ++ g ∷ [])) (records_of store.writer) (spot_of store k)) (next_number store) (next_number now) (next_number store) (next_number now)
        (raw_same (spot_of store k)) (redone (spot_of store k) (raw_at t.folder (spot_of store k)) ∙ ap (redone_at groups (length groups) (spot_of store k)) (raw_same (spot_of store k)))
        (ap (λ (rs : List Record). edits_of groups (length groups) rs (spot_of store k)) idle ∙ edits_begin groups (length groups) (spot_of store k))
        (ap (λ (rs : List Record). edits_of (groups ++ g ∷ []) (length (groups ++ g ∷ [])) rs (spot_of store k)) idle ∙ edits_begin (groups ++ g ∷ []) (length (groups ++ g ∷ [])) (spot_of store k))
        rises (is.pages k);
    inside = λ k sp at dirt free. subst (λ (r : ℕ). sp.page < max (page_count (file sp.name sp.part) t.folder) r) (sym (reach_more sp.name sp.part))
        (subst (λ (o : Option (List (List ℕ))). sp.page < max (option_map_or length o 0) (reach sp.name sp.part (life_of sp.name groups).since)) (sym (same sp.name sp.part)) (is.inside k sp at dirt free));
    pinned = is.pinned;
    top = inr (λ k. refl);
    own = is.own;
    named = is.named;
    slots = λ n slot at used. let was = is.slots n slot at used in record {
      table = subst IsTrue (sym (there slot.name)) was.table;
      files = λ q. let d = was.files q in record {
        content = d.content;
        there = same slot.name q ∙ d.there;
        written = d.written;
        counts = d.counts ∙ ap (λ (r : ℕ). max (max (pages_in slot q).written r) (reach_on slot.name q (records_of store.writer))) (sym (reach_more slot.name q));
        few = d.few;
      };
      known = was.known;
    };
    tables = record { each = λ name. is.tables.each name ∙ sym (there name); slot = is.tables.slot; silent = silent };
    settled = λ name. subst (All (λ h. told_by name h ≡ None)) (sym (drop-append-le forced groups (g ∷ []) (log_within store.started store.log s base groups forced is.log)))
        (All-push (λ h. told_by name h ≡ None) (drop forced groups) g (is.settled name) refl);
    written = is.written;
    pending = empty ∙ ap (λ (l : List ℕ). reverse (map lsn_at_place l)) (sym (pending_push groups g));
  }
    where
      now : PageStore
      now = with_commit store log' pending'

      rises : next_number store ≤ next_number now
      rises = number_rises_not (place store.log) (place log') later

      moves : Moves (HasFront base) (opened store) s t groups (groups ++ g ∷ []) forced forced
      moves = commit_moves keeps is

      same : (name : List ℕ) (part : Part) → t.folder (file name part) ≡ s.folder (file name part)
      same name part = keeps.others.folder (file name part) (no_log name part)

      there : (name : List ℕ) → is_some (tables_of t.folder (groups ++ g ∷ []) name) ≡ is_some (tables_of s.folder groups name)
      there name = there_more name t.folder ∙ ap is_some (tables_same s.folder t.folder groups name (same name))

      silent : (name : List ℕ) → known store name ≡ Some None → AreSilent name (groups ++ g ∷ [])
      silent name closed = record {
        last = ap (λ (l : Life). l.last) (life_more name) ∙ (is.tables.silent name closed).last;
        none = λ part. reach_more name part ∙ (is.tables.silent name closed).none part;
      }

      raw_same : (o : Option Spot) → raw_at t.folder o ≡ raw_at s.folder o
      raw_same None = refl
      raw_same (Some sp) = ap (λ (o : Option (List (List ℕ))). seen (page_or_zero sp.page o)) (same sp.name sp.part)

  pub commit_step : (log' : LogValue) (pending' : Vec Lsn) → store.started ≡ true → records_of store.writer ≡ [] → pending'.items ≡ [] → LogKeeps s t base groups forced → IsLog log' t base (groups ++ g ∷ []) forced → place store.log ≤ place log'
      → IsPager store s base start groups forced → Turns store (with_commit store log' pending') s t base start groups forced g true
  commit_step log' pending' started idle empty keeps log later is = record {
    added = true;
    forced' = forced;
    moves = commit_moves keeps is;
    fronts = fronts store.started log' t base (groups ++ g ∷ []) forced now.log now.control;
    whole = λ on. refl;
    pager = λ on. now;
  }
    where
      now : IsPager (with_commit store log' pending') t base start (groups ++ g ∷ []) forced
      now = pager_committed log' pending' started idle empty keeps log later is

-- ---- its bytes

commit_size : length (content_bytes (Commit ∷ [])) < 2 ^ 32
unfolding number
commit_size = omega arith

pub commit_group : IsGroup (Commit ∷ [])
commit_group = record { shape = refl; few = omega arith; each = (record { body = tt; size = omega arith }, tt); size = commit_size }

pub commit_bytes : 0 ∷ 0 ∷ 0 ∷ 6 ∷ 1 ∷ 15 ∷ 0 ∷ 0 ∷ 0 ∷ 0 ∷ [] ≡ group_bytes (Commit ∷ [])
unfolding number
commit_bytes = refl

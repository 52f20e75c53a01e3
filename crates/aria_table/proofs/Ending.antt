-- A group that is begun, and ended behind its edits.
use Rattle.std.proofs.Common.{◌≡◌, ℕ, ◌+◌, ◌*◌, ◌-◌, ◌^◌, ◌<◌, ◌≤◌, inl, inr, arith, None, Some, Bool, true, false, cond, List, [], ◌∷◌, ◌++◌, Option, refl, sym, ap, subst, ◌∙◌}
use Rattle.std.specs.Prelude.{IsTrue, IfSome}
use Rattle.aria_page.specs.declared.group.Last.{Last}
use Rattle.aria_page.specs.declared.group.Last.TheVariants.{RowInsert, RowDelete, KeyInsert, KeyDelete, Clr}
use Rattle.aria_page.specs.declared.lsn.Lsn.{Lsn}
use Rattle.aria_host.specs.declared.fault.Fault.{Fault}
use Rattle.aria_host.specs.declared.fault.Fault.TheVariants.{Memory, Disk, PageDamaged, LogDamaged, LogSpent}
use Rattle.aria_host.specs.declared.file_name.FileName.{FileName}
use Rattle.aria_host.specs.Count.{Rose}
use Rattle.aria_record.specs.Logged.{Logged}
use Rattle.aria_record.specs.declared.record.Record.{Record}
use Rattle.aria_record.specs.Writing.{last_record}
use Rattle.aria_cache.specs.PageState.{PageState, Bodies, Counts, edits_applied, record_applied, applied}
use Rattle.aria_cache.specs.Ending.{newest, ended_group, pending_after}
use Rattle.aria_cache.specs.Calls.{SameSlots, SameLog, Begins, Leaves, Ended}
use Rattle.aria_cache.specs.Causes.{HasPagesCause}
use Rattle.aria_cache.proofs.Growing.{edits_applied-append}
use Rattle.aria_block.specs.Causes.{rows_file}
use Rattle.aria_key.specs.Reading.{keys_file}
use Rattle.aria_table.specs.Content.{Content}
use Rattle.aria_table.specs.Holds.{HasContent}
use Rattle.aria_table.specs.Step.{HoldsContent, StepsTo, Applies, EndsOne, IsOfTable, OfTable, HasEntryIn}
use Rattle.aria_table.proofs.Placing.{same_keys, same_data}

-- pages that are the same hold the same content
pub content_moved : (is_row : List ℕ → Bool) (keys slot : ℕ) (a b : PageState) (c : Content) → SameSlots a b → b.counts ≡ a.counts → b.bodies ≡ a.bodies → HoldsContent is_row keys slot a c → HoldsContent is_row keys slot b c
content_moved is_row keys slot a b c slots counts bodies held =
    let pages : HasContent is_row keys (b.counts (keys_file a slot)) (b.bodies (keys_file a slot)) (b.counts (rows_file a slot)) (b.bodies (rows_file a slot)) c =
    subst (λ (k : Counts). HasContent is_row keys (k (keys_file a slot)) (b.bodies (keys_file a slot)) (k (rows_file a slot)) (b.bodies (rows_file a slot)) c) (sym counts)
    (subst (λ (p : Bodies). HasContent is_row keys (a.counts (keys_file a slot)) (p (keys_file a slot)) (a.counts (rows_file a slot)) (p (rows_file a slot)) c) (sym bodies) held) in
    subst (λ (f : FileName). HasContent is_row keys (b.counts f) (b.bodies f) (b.counts (rows_file b slot)) (b.bodies (rows_file b slot)) c) (sym (same_keys slot a b slots))
    (subst (λ (f : FileName). HasContent is_row keys (b.counts (keys_file a slot)) (b.bodies (keys_file a slot)) (b.counts f) (b.bodies f) c) (sym (same_data slot a b slots)) pages)

pub steps_moved : (is_row : List ℕ → Bool) (keys slot : ℕ) (did : Last) (before now : Content) (a b : PageState) → SameSlots a b → b.counts ≡ a.counts → b.bodies ≡ a.bodies → StepsTo is_row keys slot did before now a → StepsTo is_row keys slot did before now b
steps_moved is_row keys slot did before now a b slots counts bodies steps = record { held = content_moved is_row keys slot a b now slots counts bodies steps.held; back = steps.back }

-- what ends a group of edits changes no page
last_applied : (name : List ℕ) (prev : Lsn) (did : Last) (start : Bodies) → edits_applied (last_record name prev did ∷ []) start ≡ start
last_applied name prev (RowInsert places) start = refl
last_applied name prev (RowDelete places row) start = refl
last_applied name prev (KeyInsert key target entry) start = refl
last_applied name prev (KeyDelete key target entry) start = refl
last_applied name prev (Clr undone next) start = refl

module _ {S : Type 0} (tells logged : Bool) (ends : S → S → List Logged → Type 0) (state : S → PageState) (slot : ℕ) (did : Last) (old begun mid new : S) (lsn : Lsn) where
  -- a group that was begun, changed by calls on the slot's files, and ended
  pub ended_one : Begins (state old) (state begun) → SameSlots (state begun) (state mid) → SameLog (state begun) (state mid) → (IsTrue tells → IsTrue logged → Applies (state begun) (state mid))
      → Ended logged ends (ended_group slot did (state mid)) lsn mid new → ((groups : List Logged) → ends mid new groups → ends old new groups)
      → (IsTrue tells → (state new).bodies ≡ (state mid).bodies) → (state new).pending ≡ cond logged (pending_after lsn did (state mid).pending) (state mid).pending
      → EndsOne tells logged ends state slot did old new
  ended_one begins slots log applies ended behind bodies pending =
      let name : (state mid).name ≡ (state old).name = slots.name ∙ begins.rests.slots.name in
      let waits : (state mid).pending ≡ (state old).pending = log.pending ∙ begins.rests.log.pending in
      let last : last_record ((state mid).name slot) (newest (state mid).pending) did ≡ last_record ((state old).name slot) (newest (state old).pending) did =
      λ i. last_record (name i slot) (newest (waits i)) did in
      let edits : List Record = (state mid).edits in
      let now : Record = last_record ((state old).name slot) (newest (state old).pending) did in
      record {
        at = ended.at;
        edits = edits;
        lsn = lsn;
        is = ended.is;
        moves = behind (record { at = ended.at; group = edits ++ now ∷ [] } ∷ []) (subst (λ (r : Record). ends mid new (record { at = ended.at; group = edits ++ r ∷ [] } ∷ [])) last ended.moves);
        applies = λ told log.
            bodies told ∙ applies told log (state old).bodies (begins.rests.pages.bodies ∙ sym (ap (λ (rs : List Record). edits_applied rs (state old).bodies) begins.edits))
            ∙ sym (edits_applied-append edits (now ∷ []) (state old).bodies ∙ last_applied ((state old).name slot) (newest (state old).pending) did (edits_applied edits (state old).bodies));
        pending = pending ∙ (λ i. cond logged (pending_after lsn did (waits i)) (waits i));
      }

-- ---- a group that is left

of_left : (tells logged : Bool) (A B : Type 0) (slot bytes : ℕ) (old begun mid new : PageState) → Begins old begun → Leaves mid new → (B → A) → (f : Fault) → OfTable tells logged A slot 0 begun mid f → OfTable tells logged B slot bytes old new f
of_left tells logged A B slot bytes old begun mid new begins leaves needs (Memory e) k = k
of_left tells logged A B slot bytes old begun mid new begins leaves needs Disk k = subst (λ (n : ℕ). Rose n new.faults) begins.rests.faults (subst (λ (n : ℕ). Rose begun.faults n) (sym leaves.rests.faults) k)
of_left tells logged A B slot bytes old begun mid new begins leaves needs (PageDamaged f n) k = (by k.0, λ told b. k.1 told (needs b))
  where
    by : IsOfTable begun slot f → IsOfTable old slot f
    by (inl same) = inl (same ∙ same_keys slot old begun begins.rests.slots)
    by (inr same) = inr (same ∙ same_data slot old begun begins.rests.slots)
of_left tells logged A B slot bytes old begun mid new begins leaves needs (LogDamaged f n) k =
    (k.0, λ told. let at = k.1 told in (at.0, at.1, subst (λ (l : FileName → ℕ → Bool). IsTrue (l at.0 at.1)) begins.rests.pages.late at.2))
of_left tells logged A B slot bytes old begun mid new begins leaves needs (LogSpent f) k = (k.0, let most = k.1 in let reach = begins.rests.log.reach in omega (arith, most, reach))
of_left tells logged A B slot bytes old begun mid new begins leaves needs _ k = absurd k

-- what a call of the group answered is answered of the whole
pub cause_left : (tells logged : Bool) (A B : Type 0) (slot bytes : ℕ) (old begun mid new : PageState) (fault : Option Fault) → Begins old begun → Leaves mid new → (B → A) → HasPagesCause (OfTable tells logged A slot 0 begun mid) begun mid fault
    → HasPagesCause (OfTable tells logged B slot bytes old new) old new fault
cause_left tells logged A B slot bytes old begun mid new fault begins leaves needs is = record {
  cause = λ none. if_some fault (is.cause (begins.kept ∙ none));
  calm = λ none. leaves.rests.faults ∙ is.calm none ∙ begins.rests.faults;
  later = let later = is.later in let a = begins.rests.faults in let b = leaves.rests.faults in omega (arith, later, a, b);
}
  where
    if_some : (o : Option Fault) → IfSome o (OfTable tells logged A slot 0 begun mid) → IfSome o (OfTable tells logged B slot bytes old new)
    if_some None k = tt
    if_some (Some f) k = of_left tells logged A B slot bytes old begun mid new begins leaves needs f k

pub entry_moved : (key : ℕ) (entry : List ℕ) (slot : ℕ) (a b : PageState) → SameSlots a b → b.counts ≡ a.counts → b.bodies ≡ a.bodies → HasEntryIn key entry slot a → HasEntryIn key entry slot b
entry_moved key entry slot a b slots counts bodies has = record {
  is_row = has.is_row;
  keys = has.keys;
  content = has.content;
  held = content_moved has.is_row has.keys slot a b has.content slots counts bodies has.held;
  low = has.low;
  target = has.target;
  there = has.there;
  few = has.few;
  room = let room = has.room in let n : b.counts (keys_file b slot) ≡ a.counts (keys_file a slot) = ap (λ (k : Counts). k (keys_file b slot)) counts ∙ ap a.counts (same_keys slot a b slots) in omega (arith, room, n);
}

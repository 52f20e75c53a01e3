-- That a folder comes to the disk as it reads, whatever a crash might have left of it.
use Rattle.std.proofs.Common.{◌≡◌, inl, inr, ⊎_elim, ◌⊎◌, ℕ, Bool, true, false, IsTrue, Option, None, Some, unwrap_or, List, [], ◌++◌, take, refl, sym, ◌∙◌, ap, subst}
use Rattle.std.specs.Prelude.{IsSome}
use Rattle.std.proofs.lemmas.List.{append-nil}
use Rattle.aria_host.specs.Folder.{Folder, with_file}
use Rattle.aria_host.specs.State.{State}
use Rattle.aria_host.specs.Steps.{MayMake}
use Rattle.aria_host.specs.Calls.{Creates, Syncs, Narrows, TellsNothing}
use Rattle.aria_host.proofs.Files.{with_file-same, with_file-other}
use Rattle.aria_host.proofs.Moments.{OnlyNow, started, goes_on, joined}
use Rattle.aria_journal.specs.Log.{log_file, log_pages}
use Rattle.aria_model.specs.World.{World}
use Rattle.aria_engine.specs.Holds.{Holds, EachHolds, EachHoldsSome, ReadsAs}
use Rattle.aria_engine.specs.Store.{StillHolds, OpensAs}
use Rattle.aria_engine.specs.Opening.{Keeps, Opens}
use Rattle.aria_engine.proofs.Settling.{nothing_of, same_log}

-- what each image holds, the folder reads as
pub each_reads : (s : State) (w : World) → s.may_leave s.folder → EachHolds s w → ReadsAs s w
each_reads s w reads each = record { holds = each s.folder reads; alone = λ c leaves. (each c leaves).alone }

pub some_reads : (s : State) (reads : s.may_leave s.folder) (each : EachHoldsSome s) → ReadsAs s (each s.folder reads).0
some_reads s reads each = record { holds = (each s.folder reads).1; alone = λ c leaves. (each c leaves).1.alone }

-- one call that tells nothing
one_opens : (old new : State) (done : Bool) → OnlyNow old → TellsNothing old new → ((w : World) → ReadsAs old w → (c : Folder) → new.may_leave c → old.may_leave c ⊎ Holds c w)
    → ((w : World) → ReadsAs old w → IsTrue done → EachHolds new w) → Opens old new done
one_opens old new done only tells leaves each = record {
  moments = λ w reads.
      goes_on old old new [] (OpensAs old w)
      (started old (OpensAs old w) (λ c b left. let now = only c b left in (inl now.0, now.1)))
      tells.time
      (λ c n left. (leaves w reads c left, ap (λ (l : List ℕ). old.out ++ l) (nothing_of n) ∙ append-nil old.out));
  each = each;
}

-- a call that changes nothing
pub narrows_opens : (old new : State) → OnlyNow old → Narrows old new → Opens old new false
narrows_opens old new only same = one_opens old new false only same.tells (λ w reads c left. inl (same.no_more c left)) (λ w reads done. absurd (cc))

-- the log's file was made, which was not there
pub created_opens : (old new : State) (done : Bool) → OnlyNow old → old.folder log_file ≡ None → Creates log_file old new done → Opens old new done
created_opens old new done only absent makes = one_opens old new done only makes.tells
    (λ w reads c left. let (d, was, step) = makes.images c left in either w reads c d was step)
    (λ w reads is c left. let (d, was, step) = makes.images c left in surely w reads is c d was step)
  where
    made_holds : (w : World) → ReadsAs old w → (c d : Folder) → old.may_leave d → c ≡ with_file log_file (Some []) d → Holds c w
    made_holds w reads c d was made =
        let none : log_pages old.folder ≡ [] = ap (λ (o : Option (List (List ℕ))). unwrap_or o []) absent in
        let empty : log_pages c ≡ [] = ap (λ (g : Folder). unwrap_or (g log_file) []) made ∙ ap (λ (o : Option (List (List ℕ))). unwrap_or o []) (with_file-same log_file (Some []) d) in
        same_log c old.folder w (λ f form other. ap (λ (g : Folder). g f) made ∙ with_file-other log_file f (Some []) d other ∙ reads.alone d was f form other) (empty ∙ sym none) reads.holds

    either : (w : World) → ReadsAs old w → (c d : Folder) → old.may_leave d → MayMake log_file (Some []) done d c → old.may_leave c ⊎ Holds c w
    either w reads c d was (inl made) = inr (made_holds w reads c d was made)
    either w reads c d was (inr stays) = inl (subst old.may_leave (sym stays.1) was)

    surely : (w : World) → ReadsAs old w → IsTrue done → (c d : Folder) → old.may_leave d → MayMake log_file (Some []) done d c → Holds c w
    surely w reads is c d was (inl made) = made_holds w reads c d was made
    surely w reads is c d was (inr stays) = let never = stays.0 in absurd (cc)

-- the log's file was brought to the disk, where its name was
pub synced_opens : (old new : State) (done : Bool) → OnlyNow old → ((c : Folder) → old.may_leave c → IsSome (c log_file)) → Syncs log_file old new done → Opens old new done
synced_opens old new done only there syncs = one_opens old new done only syncs.tells
    (λ w reads c left. inl (syncs.no_more c left))
    (λ w reads is c left. same_log c old.folder w (reads.alone c (syncs.no_more c left)) (ap (λ (o : Option (List (List ℕ))). unwrap_or o []) (syncs.durable is c left (there c (syncs.no_more c left)))) reads.holds)

-- behind a call that changes nothing
pub looked_opens : (a b c : State) (done : Bool) → OnlyNow a → Narrows a b → Opens b c done → Opens a c done
looked_opens a b c done only same then = record {
  moments = λ w reads.
      joined a b c (OpensAs a w) (OpensAs b w) ((narrows_opens a b only same).moments w reads) (then.moments w (still w reads))
      (λ f told (left, is). (⊎_elim (λ was. inl (same.no_more f was)) (λ holds. inr holds) left, is ∙ same.tells.out));
  each = λ w reads is. then.each w (still w reads) is;
}
  where
    still : (w : World) → ReadsAs a w → ReadsAs b w
    still w reads = record {
      holds = subst (λ (g : Folder). Holds g w) (sym same.folder) reads.holds;
      alone = λ f left. reads.alone f (same.no_more f left);
    }

-- once each image holds the tables, they keep them
pub opens_then : (a b c : State) (done : Bool) → b.out ≡ a.out → Opens a b true → Keeps b c → Opens a c done
opens_then a b c done same first then = record {
  moments = λ w reads.
      joined a b c (OpensAs a w) (StillHolds w b.out) (first.moments w reads) (then.moments w (first.each w reads refl))
      (λ f told (holds, is). (inr holds, is ∙ same));
  each = λ w reads is. then.each w (first.each w reads refl);
}

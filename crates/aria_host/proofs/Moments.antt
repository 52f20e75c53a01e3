-- How what a crash may leave is followed over a run of calls.
use Rattle.std.proofs.Common.{◌≡◌, ◌≤◌, inl, inr, ⊎_elim, ℕ, Bool, List, [], ◌++◌, take, refl, ap, ◌∙◌, subst, sym, arith}
use Rattle.std.proofs.Math.Seq.{take-nil}
use Rattle.std.proofs.lemmas.List.{append-nil}
use Rattle.aria_host.specs.declared.file_name.FileName.{FileName}
use Rattle.aria_host.specs.Calls.{Unchanged, Narrows, Syncs, TellsNothing}
use Rattle.aria_host.specs.Moments.{SameBut, Left, Moments}
use Rattle.aria_host.specs.State.{Folder, State, Elapses, LeavesOnly}

-- since this moment there is no other
abbrev pub OnlyNow : State → Type 0
OnlyNow s = (c : Folder) (b : List ℕ) → s.since s.moment c b → s.may_leave c × (b ≡ s.out)

-- a run of no call
pub started : (old : State) (P : Folder → List ℕ → Type 0) → ((c : Folder) (b : List ℕ) → old.since old.moment c b → P c b) → LeavesOnly old old P
started old P here = record { later = omega arith; each = here; before = λ t c b le left. inl left }

-- one call more, after which what a crash may leave has P with each part of what the call tells
pub goes_on : (old mid new : State) (added : List ℕ) (P : Folder → List ℕ → Type 0) → LeavesOnly old mid P → Elapses mid new added
    → ((c : Folder) (n : ℕ) → new.may_leave c → P c (mid.out ++ take n added)) → LeavesOnly old new P
goes_on old mid new added P so_far time here = record {
  later = omega (arith, so_far.later, time.later);
  each = λ c b left. ⊎_elim (so_far.each c b) (at_call c b) (time.nothing_else old.moment c b so_far.later left);
  before = λ t c b le left.
      ⊎_elim (so_far.before t c b le) (λ now. inr (at_call c b now)) (time.nothing_else t c b (omega (arith, le, so_far.later)) left);
}
  where
    at_call : (c : Folder) (b : List ℕ) → new.may_leave c × (n : ℕ) × (b ≡ mid.out ++ take n added) → P c b
    at_call c b (leaves, n, is) = subst (λ (told : List ℕ). P c told) (sym is) (here c n leaves)

-- one run after another, where what the second leaves has P too
pub joined : (a b c : State) (P Q : Folder → List ℕ → Type 0) → LeavesOnly a b P → LeavesOnly b c Q
    → ((f : Folder) (told : List ℕ) → Q f told → P f told) → LeavesOnly a c P
joined a b c P Q first second implies = record {
  later = omega (arith, first.later, second.later);
  each = λ f told left.
      ⊎_elim (first.each f told) (implies f told) (second.before a.moment f told first.later left);
  before = λ t f told le left.
      ⊎_elim (first.before t f told le) (λ q. inr (implies f told q)) (second.before t f told (omega (arith, le, first.later)) left);
}

-- what has P has Q
pub weakened : (old new : State) (P Q : Folder → List ℕ → Type 0) → LeavesOnly old new P
    → ((f : Folder) (told : List ℕ) → P f told → Q f told) → LeavesOnly old new Q
weakened old new P Q run implies = record {
  later = run.later;
  each = λ f told left. implies f told (run.each f told left);
  before = λ t f told le left. ⊎_elim (λ was. inl was) (λ p. inr (implies f told p)) (run.before t f told le left);
}

-- ---- runs of calls that touch some files alone

-- nothing was done
pub nothing_moves : {mine : FileName → Bool} {P : Folder → Type 0} (s : State) → OnlyNow s → ((c : Folder) → s.may_leave c → P c) → Moments mine s s P
nothing_moves {mine} {P} s only here = record {
  moments = started s (Left mine s P) (λ c b left. let now = only c b left in record { has = here c now.0; others = (c, now.0, λ f other. refl); told_is = now.1 });
  others = record { folder = λ f other. refl; images = λ c leaves. (c, leaves, λ f other. refl); out = refl; err = refl };
}

-- a call that tells nothing, before and after which each image has P
pub one_call : {mine : FileName → Bool} {P : Folder → Type 0} (old new : State) → OnlyNow old → TellsNothing old new → SameBut mine old.folder new.folder
    → ((c : Folder) → old.may_leave c → P c)
    → ((c : Folder) → new.may_leave c → P c × (d : Folder) × old.may_leave d × SameBut mine d c) → Moments mine old new P
one_call {mine} {P} old new only tells same before after = record {
  moments = goes_on old old new [] (Left mine old P) (nothing_moves {mine = mine} {P = P} old only before).moments tells.time
      (λ c n leaves. let is = after c leaves in record { has = is.0; others = (is.1, is.2, is.3); told_is = ap (λ (l : List ℕ). old.out ++ l) (take-nil n) ∙ append-nil old.out });
  others = record { folder = same; images = λ c leaves. let is = after c leaves in (is.1, is.2, is.3); out = tells.out; err = tells.err };
}

-- a call that changes nothing, but that a crash may leave less
pub one_look : {mine : FileName → Bool} {P : Folder → Type 0} (old new : State) → OnlyNow old → Narrows old new → ((c : Folder) → old.may_leave c → P c) → Moments mine old new P
one_look old new only same here =
    one_call old new only same.tells (λ f other. ap (λ (g : Folder). g f) same.folder) here (λ c leaves. let was = same.no_more c leaves in (here c was, c, was, λ f other. refl))

-- one run after the other
pub one_after : {mine : FileName → Bool} {P : Folder → Type 0} (a b c : State) → Moments mine a b P → Moments mine b c P → Moments mine a c P
one_after {mine} {P} a b c first second = record {
  moments = joined a b c (Left mine a P) (Left mine b P) first.moments second.moments (λ f told left.
      let (d, was, same) = left.others in
      let (e, before, also) = first.others.images d was in
      record { has = left.has; others = (e, before, λ g other. same g other ∙ also g other); told_is = left.told_is ∙ first.others.out });
  others = record {
    folder = λ f other. second.others.folder f other ∙ first.others.folder f other;
    images = λ f leaves. let (d, was, same) = second.others.images f leaves in let (e, before, also) = first.others.images d was in (e, before, λ g other. same g other ∙ also g other);
    out = second.others.out ∙ first.others.out;
    err = second.others.err ∙ first.others.err;
  };
}

-- what has P has Q
pub implied : {mine : FileName → Bool} {P Q : Folder → Type 0} (old new : State) → Moments mine old new P → ((c : Folder) → P c → Q c) → Moments mine old new Q
implied {mine} {P} {Q} old new run implies = record {
  moments = weakened old new (Left mine old P) (Left mine old Q) run.moments (λ c told left. record { has = implies c left.has; others = left.others; told_is = left.told_is });
  others = run.others;
}

-- ---- calls that only look

-- nothing happened
pub unchanged_now : (s : State) → Unchanged s s
unchanged_now s = record {
  folder = refl;
  images = record { no_more = λ c leaves. leaves; no_fewer = λ c leaves. leaves };
  tells = record { out = refl; err = refl; time = record { later = omega arith; nothing_else = λ t c b le left. inl left; keeps = λ t c b le left. left } };
}

-- a look after a look
pub unchanged_after : (a b c : State) → Unchanged a b → Unchanged b c → Unchanged a c
unchanged_after a b c first second = record {
  folder = second.folder ∙ first.folder;
  images = record {
    no_more = λ f leaves. first.images.no_more f (second.images.no_more f leaves);
    no_fewer = λ f leaves. second.images.no_fewer f (first.images.no_fewer f leaves);
  };
  tells = record {
    out = second.tells.out ∙ first.tells.out;
    err = second.tells.err ∙ first.tells.err;
    time = record {
      later = omega (arith, first.tells.time.later, second.tells.time.later);
      nothing_else = λ t f told le left.
          ⊎_elim (λ was.
          ⊎_elim (λ before. inl before)
          (λ now. inr (second.images.no_fewer f now.0, now.1, now.2))
          (first.tells.time.nothing_else t f told le was))
          (λ now. inr (now.0, now.1, now.2 ∙ ap (λ (l : List ℕ). l ++ take now.1 []) first.tells.out))
          (second.tells.time.nothing_else t f told (omega (arith, le, first.tells.time.later)) left);
      keeps = λ t f told le left. second.tells.time.keeps t f told (omega (arith, le, first.tells.time.later)) (first.tells.time.keeps t f told le left);
    };
  };
}

-- a call that only looks
pub looks : (old new : State) → Unchanged old new → Narrows old new
looks old new same = record { folder = same.folder; no_more = same.images.no_more; tells = same.tells }

-- a call that brings a file to the disk
pub sync_narrows : {file : FileName} {done : Bool} (old new : State) → Syncs file old new done → Narrows old new
sync_narrows old new syncs = record { folder = syncs.folder; no_more = syncs.no_more; tells = syncs.tells }

-- one such call, or run of them, after another
pub narrows_then : (a b c : State) → ((t : ℕ) (f : Folder) → t ≤ a.moment → a.may_leave f → a.since t f a.out) → Narrows a b → Narrows b c → Narrows a c
narrows_then a b c counts first next = record {
  folder = next.folder ∙ first.folder;
  no_more = λ f leaves. first.no_more f (next.no_more f leaves);
  tells = record {
    out = next.tells.out ∙ first.tells.out;
    err = next.tells.err ∙ first.tells.err;
    time = record {
      later = omega (arith, first.tells.time.later, next.tells.time.later);
      nothing_else = λ t f told le left.
          ⊎_elim (λ was. ⊎_elim (λ before. inl before) (λ now. inl (at_first t f told le now)) (first.tells.time.nothing_else t f told le was))
          (λ now. inr (now.0, now.1, now.2 ∙ ap (λ (l : List ℕ). l ++ take now.1 []) first.tells.out))
          (next.tells.time.nothing_else t f told (omega (arith, le, first.tells.time.later)) left);
      keeps = λ t f told le left. next.tells.time.keeps t f told (omega (arith, le, first.tells.time.later)) (first.tells.time.keeps t f told le left);
    };
  };
}
  where
    at_first : (t : ℕ) (f : Folder) (told : List ℕ) → t ≤ a.moment → b.may_leave f × (n : ℕ) × (told ≡ a.out ++ take n []) → a.since t f told
    at_first t f told le (leaves, n, is) =
        subst (λ (l : List ℕ). a.since t f l) (sym (is ∙ ap (λ (l : List ℕ). a.out ++ l) (take-nil n) ∙ append-nil a.out)) (counts t f le (first.no_more f leaves))

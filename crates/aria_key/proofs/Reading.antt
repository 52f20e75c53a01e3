-- Calls that read pages, one after another.
use Rattle.std.proofs.Common.{◌≡◌, ℕ, ◌+◌, ◌≤◌, Bool, Option, Some, None, refl, sym, ap, ◌∙◌, arith, subst}
use Rattle.std.specs.Prelude.{IsSome, IfSome, unwrap_or}
use Rattle.aria_host.specs.declared.fault.Fault.{Fault}
use Rattle.aria_host.specs.declared.fault.Fault.TheVariants.{Memory, Disk, PageDamaged, LogDamaged}
use Rattle.aria_host.specs.declared.file_name.FileName.{FileName}
use Rattle.aria_cache.specs.PageState.{PageState}
use Rattle.aria_cache.specs.Calls.{Rests, Loads, Answers, Stops}
use Rattle.aria_cache.specs.Causes.{OfPage, HasPagesCause}
use Rattle.aria_cache.proofs.Causing.{cause_weaker}
use Rattle.aria_cache.proofs.Growing.{fewer_on, fewer_same}
use Rattle.aria_keypage.specs.Content.{Content}
use Rattle.aria_key.specs.Reading.{Reads, OfKeyPage}

-- what loading a page answers is a cause of reading a key page
pub page_cause : (tells logged : Bool) (Asked : Content → Type 0) (file : FileName) (page : ℕ) (old new : PageState) (fault : Option Fault) → HasPagesCause (OfPage tells logged file page old new) old new fault → HasPagesCause (OfKeyPage tells logged Asked file page old new) old new fault
page_cause tells logged Asked file page old new fault h = cause_weaker (OfPage tells logged file page old new) (OfKeyPage tells logged Asked file page old new) old new fault by h
  where
    by : (f : Fault) → OfPage tells logged file page old new f → OfKeyPage tells logged Asked file page old new f
    by (Memory e) k = k
    by Disk k = k
    by (PageDamaged f n) k = (k.0, k.1, λ t low c held asked. let none : None ≡ Some held.body = sym (k.2 t) ∙ held.there in absurd cc)
    by (LogDamaged f n) k = k
    by _ k = absurd k

-- a call that loads at most so many pages answered no fault
pub reads_one : (tells : Bool) (n : ℕ) (C : Fault → Type 0) (old new : PageState) → Loads tells n old new → Answers old new None → HasPagesCause C old new None → Reads tells n old new
reads_one tells n C old new loads answers cause = record { loads = loads; kept = by old.kept refl answers.again; faults = cause.calm refl; still = answers.still }
  where
    by : (k : Option Fault) → old.kept ≡ k → IfSome k (λ kept. None ≡ Some kept) → new.kept ≡ old.kept
    by None e a = answers.keeps ∙ sym e
    by (Some f) e a = absurd cc

rests_on : (a b c : PageState) → Rests a b → Rests b c → Rests a c
rests_on a b c first second = record {
  slots = record { is_open = second.slots.is_open ∙ first.slots.is_open; name = second.slots.name ∙ first.slots.name };
  pages = record { counts = second.pages.counts ∙ first.pages.counts; bodies = second.pages.bodies ∙ first.pages.bodies; late = second.pages.late ∙ first.pages.late };
  log = record { pending = second.log.pending ∙ first.log.pending; reach = second.log.reach ∙ first.log.reach };
  loaded = second.loaded ∙ first.loaded;
  lent = second.lent ∙ first.lent;
  faults = second.faults ∙ first.faults;
}

loads_on : (tells : Bool) (n m : ℕ) (a b c : PageState) → Loads tells n a b → Loads tells m b c → Loads tells (n + m) a c
loads_on tells n m a b c first second = record {
  slots = record { is_open = second.slots.is_open ∙ first.slots.is_open; name = second.slots.name ∙ first.slots.name };
  group = record {
    in_group = second.group.in_group ∙ first.group.in_group;
    edited = second.group.edited ∙ first.group.edited;
    edits = second.group.edits ∙ first.group.edits;
    touched = second.group.touched ∙ first.group.touched;
    made = second.group.made ∙ first.group.made;
    bytes = second.group.bytes ∙ first.group.bytes;
  };
  log = record { pending = second.log.pending ∙ first.log.pending; reach = second.log.reach ∙ first.log.reach };
  counts = second.counts ∙ first.counts;
  bodies = λ t. second.bodies t ∙ first.bodies t;
  late = λ t. fewer_on a b c (first.late t) (second.late t);
  lent = omega (arith, first.lent, second.lent);
}

-- nothing was read yet
pub reads_none : (tells : Bool) (s : PageState) → Reads tells 0 s s
reads_none tells s = record {
  loads = record {
    slots = record { is_open = refl; name = refl };
    group = record { in_group = refl; edited = refl; edits = refl; touched = refl; made = refl; bytes = refl };
    log = record { pending = refl; reach = refl };
    counts = refl;
    bodies = λ t. refl;
    late = λ t. fewer_same s s refl;
    lent = omega arith;
  };
  kept = refl;
  faults = refl;
  still = λ some. record {
    slots = record { is_open = refl; name = refl };
    pages = record { counts = refl; bodies = refl; late = refl };
    log = record { pending = refl; reach = refl };
    loaded = refl;
    lent = refl;
    faults = refl;
  };
}

pub reads_on : (tells : Bool) (n m : ℕ) (a b c : PageState) → Reads tells n a b → Reads tells m b c → Reads tells (n + m) a c
reads_on tells n m a b c first second = record {
  loads = loads_on tells n m a b c first.loads second.loads;
  kept = second.kept ∙ first.kept;
  faults = second.faults ∙ first.faults;
  still = λ some. rests_on a b c (first.still some) (second.still (subst (λ (k : Option Fault). IsSome k) (sym first.kept) some));
}

-- at most so many pages were loaded, and then at most so many more, whatever was answered then
pub loads_more : (tells : Bool) (n m most : ℕ) (a b c : PageState) → Reads tells n a b → Loads tells m b c → n + m ≤ most → Loads tells most a c
loads_more tells n m most a b c first second h =
    let both = loads_on tells n m a b c first.loads second in
    record { slots = both.slots; group = both.group; log = both.log; counts = both.counts; bodies = both.bodies; late = both.late; lent = omega (arith, both.lent, h) }

-- what is answered then is answered altogether
pub answers_on : (tells : Bool) (n : ℕ) (a b c : PageState) (fault : Option Fault) → Reads tells n a b → Answers b c fault → Answers a c fault
answers_on tells n a b c fault first second = record {
  keeps = second.keeps;
  again = subst (λ (k : Option Fault). IfSome k (λ kept. fault ≡ Some kept)) first.kept second.again;
  still = λ some. rests_on a b c (first.still some) (second.still (subst (λ (k : Option Fault). IsSome k) (sym first.kept) some));
}

-- and has its cause
pub cause_then : (tells : Bool) (n : ℕ) (C D : Fault → Type 0) (a b c : PageState) (fault : Option Fault) → Reads tells n a b → ((f : Fault) → C f → D f) → HasPagesCause C b c fault → HasPagesCause D a c fault
cause_then tells n C D a b c fault first more second =
    let wide = cause_weaker C D b c fault more second in
    record {
      cause = λ none. wide.cause (first.kept ∙ none);
      calm = λ none. wide.calm none ∙ first.faults;
      later = let same = first.faults in omega (arith, same, wide.later);
    }

-- a fault that the caller found
pub cause_found : (tells : Bool) (n : ℕ) (C : Fault → Type 0) (a b c : PageState) (why fault : Fault) → Reads tells n a b → fault ≡ unwrap_or b.kept why → Stops fault b c → C why → HasPagesCause C a c (Some fault)
cause_found tells n C a b c why fault first is stops h = record {
  cause = λ none. let same : fault ≡ why = is ∙ ap (λ (k : Option Fault). unwrap_or k why) (first.kept ∙ none) in subst C (sym same) h;
  calm = λ none. absurd cc;
  later = let same = first.faults in let then_same = stops.rests.faults in omega (arith, same, then_same);
}

-- Pages of a data file that are read one after another.
use Rattle.std.proofs.Common.{◌≡◌, ℕ, ◌+◌, ◌≤◌, Bool, Option, Some, None, List, refl, sym, ap, ◌∙◌, arith, subst}
use Rattle.std.specs.Prelude.{IsTrue, IsSome, IfSome, unwrap_or}
use Rattle.aria_host.specs.declared.fault.Fault.{Fault}
use Rattle.aria_host.specs.declared.fault.Fault.TheVariants.{Memory, Disk, PageDamaged, LogDamaged}
use Rattle.aria_host.specs.declared.file_name.FileName.{FileName}
use Rattle.aria_host.specs.declared.file_name.FileName.TheVariants as of_file
use Rattle.aria_host.specs.Count.{Rose}
use Rattle.aria_cache.specs.PageState.{PageState, Bodies, Counts}
use Rattle.aria_cache.specs.Calls.{Loads, Answers, Stops}
use Rattle.aria_cache.specs.Causes.{HasPagesCause}
use Rattle.aria_cache.proofs.Causing.{cause_weaker}
use Rattle.aria_cache.proofs.Growing.{fewer_on, fewer_same}
use Rattle.aria_block.specs.Causes.{rows_file}
use Rattle.aria_block.specs.Pieces.{Pieces}
use Rattle.aria_block.specs.DataFile.{HoldsData}
use Rattle.aria_block.specs.Reading.{OfPieces}

-- no fault was answered, and nothing was changed
pub record Went (tells : Bool) (slot : ℕ) (old now : PageState) : Type 0 where
  pub file : rows_file now slot ≡ rows_file old slot
  pub kept : now.kept ≡ None
  pub faults : now.faults ≡ old.faults
  pub counts : now.counts ≡ old.counts
  pub bodies : IsTrue tells → now.bodies ≡ old.bodies
  pub late : IsTrue tells → (f : FileName) (n : ℕ) → IsTrue (now.late f n) → IsTrue (old.late f n)

pub went : (tells : Bool) (n slot : ℕ) (C : Fault → Type 0) (old now : PageState) → Loads tells n old now → Answers old now None → HasPagesCause C old now None → Went tells slot old now
went tells n slot C old now loads answers cause = record {
  file = ap (λ (name : ℕ → List ℕ). of_file.Rows (name slot)) loads.slots.name;
  kept = answers.keeps;
  faults = cause.calm refl;
  counts = loads.counts;
  bodies = loads.bodies;
  late = λ t f m is. (loads.late t).late f m is;
}

pub went_on : (tells : Bool) (slot : ℕ) (a b c : PageState) → Went tells slot a b → Went tells slot b c → Went tells slot a c
went_on tells slot a b c first second = record {
  file = second.file ∙ first.file;
  kept = second.kept;
  faults = second.faults ∙ first.faults;
  counts = second.counts ∙ first.counts;
  bodies = λ t. second.bodies t ∙ first.bodies t;
  late = λ t f m is. first.late t f m (second.late t f m is);
}

-- the file holds the same pieces then
pub holds_then : (tells : Bool) (slot : ℕ) (old now : PageState) (pieces : Pieces) → Went tells slot old now → IsTrue tells → HoldsData (old.counts (rows_file old slot)) (old.bodies (rows_file old slot)) pieces
    → HoldsData (now.counts (rows_file now slot)) (now.bodies (rows_file now slot)) pieces
holds_then tells slot old now pieces first t holds =
    subst (λ (f : FileName). HoldsData (now.counts f) (now.bodies f) pieces) (sym first.file)
    (subst (λ (c : Counts). HoldsData (c (rows_file old slot)) (now.bodies (rows_file old slot)) pieces) (sym first.counts)
    (subst (λ (b : Bodies). HoldsData (old.counts (rows_file old slot)) (b (rows_file old slot)) pieces) (sym (first.bodies t)) holds))

-- why pages can't be read then
pub pieces_then : (tells logged : Bool) (slot : ℕ) (Asked Needs : Pieces → Type 0) (old now new : PageState) → Went tells slot old now
    → ((pieces : Pieces) → IsTrue tells → HoldsData (old.counts (rows_file old slot)) (old.bodies (rows_file old slot)) pieces → Asked pieces → Needs pieces)
    → (f : Fault) → OfPieces tells logged Needs (rows_file now slot) now new f → OfPieces tells logged Asked (rows_file old slot) old new f
pieces_then tells logged slot Asked Needs old now new first needs (Memory e) k = k
pieces_then tells logged slot Asked Needs old now new first needs Disk k = subst (λ (n : ℕ). Rose n new.faults) first.faults k
pieces_then tells logged slot Asked Needs old now new first needs (PageDamaged f n) k =
    (k.0 ∙ first.file, λ t pieces holds asked. k.1 t pieces (holds_then tells slot old now pieces first t holds) (needs pieces t holds asked))
pieces_then tells logged slot Asked Needs old now new first needs (LogDamaged f n) k = (k.0, λ t. at t (k.1 t))
  where
    at : IsTrue tells → (m : ℕ) × IsTrue (now.late (rows_file now slot) m) → (m : ℕ) × IsTrue (old.late (rows_file old slot) m)
    at t (m, is) = (m, subst (λ (g : FileName). IsTrue (old.late g m)) first.file (first.late t (rows_file now slot) m is))
pieces_then tells logged slot Asked Needs old now new first needs _ k = absurd k

-- what is answered then has its cause
pub cause_read : (tells : Bool) (slot : ℕ) (C D : Fault → Type 0) (old now new : PageState) (fault : Option Fault) → Went tells slot old now → ((f : Fault) → C f → D f) → HasPagesCause C now new fault → HasPagesCause D old new fault
cause_read tells slot C D old now new fault first more second =
    let wide = cause_weaker C D now new fault more second in
    record {
      cause = λ none. wide.cause first.kept;
      calm = λ none. wide.calm none ∙ first.faults;
      later = let same = first.faults in omega (arith, same, wide.later);
    }

-- a fault that the caller found, where nothing was called before
pub cause_first : (C : Fault → Type 0) (old new : PageState) (why fault : Fault) → fault ≡ unwrap_or old.kept why → Stops fault old new → C why → HasPagesCause C old new (Some fault)
cause_first C old new why fault is stops h = record {
  cause = λ none. let same : fault ≡ why = is ∙ ap (λ (k : Option Fault). unwrap_or k why) none in subst C (sym same) h;
  calm = λ none. absurd cc;
  later = let still = stops.rests.faults in omega (arith, still);
}

-- and behind calls
pub cause_found : (tells : Bool) (slot : ℕ) (D : Fault → Type 0) (old now new : PageState) (why fault : Fault) → Went tells slot old now → fault ≡ unwrap_or now.kept why → Stops fault now new → D why → HasPagesCause D old new (Some fault)
cause_found tells slot D old now new why fault first is stops h = record {
  cause = λ none. let same : fault ≡ why = is ∙ ap (λ (k : Option Fault). unwrap_or k why) first.kept in subst D (sym same) h;
  calm = λ none. absurd cc;
  later = let same = first.faults in let still = stops.rests.faults in omega (arith, same, still);
}

-- at most so many pages were loaded, and then at most so many more
pub loads_both : (tells : Bool) (n m most : ℕ) (a b c : PageState) → Loads tells n a b → Loads tells m b c → n + m ≤ most → Loads tells most a c
loads_both tells n m most a b c first second h = record {
  slots = record { is_open = second.slots.is_open ∙ first.slots.is_open; name = second.slots.name ∙ first.slots.name };
  group = record {
    in_group = second.group.in_group ∙ first.group.in_group;
    edited = second.group.edited ∙ first.group.edited;
    edits = second.group.edits ∙ first.group.edits;
    touched = second.group.touched ∙ first.group.touched;
    made = second.group.made ∙ first.group.made;
    bytes = second.group.bytes ∙ first.group.bytes;
  };
  log = record { pending = second.log.pending ∙ first.log.pending; reach = second.log.reach ∙ first.log.reach };
  counts = second.counts ∙ first.counts;
  bodies = λ t. second.bodies t ∙ first.bodies t;
  late = λ t. fewer_on a b c (first.late t) (second.late t);
  lent = omega (arith, first.lent, second.lent, h);
}

pub loads_none : (tells : Bool) (s : PageState) → Loads tells 0 s s
loads_none tells s = record {
  slots = record { is_open = refl; name = refl };
  group = record { in_group = refl; edited = refl; edits = refl; touched = refl; made = refl; bytes = refl };
  log = record { pending = refl; reach = refl };
  counts = refl;
  bodies = λ t. refl;
  late = λ t. fewer_same s s refl;
  lent = omega arith;
}

pub loads_upto : (tells : Bool) (n most : ℕ) (a b : PageState) → Loads tells n a b → n ≤ most → Loads tells most a b
loads_upto tells n most a b first h = record { slots = first.slots; group = first.group; log = first.log; counts = first.counts; bodies = first.bodies; late = first.late; lent = omega (arith, first.lent, h) }

-- nothing was called yet
pub answers_none : (s : PageState) → s.kept ≡ None → Answers s s None
answers_none s none = record { keeps = none; again = subst (λ (k : Option Fault). IfSome k (λ kept. None ≡ Some kept)) (sym none) tt; still = λ some. absurd (no (s.kept) none some) }
  where
    no : (k : Option Fault) → k ≡ None → IsSome k → ⊥
    no None e some = absurd (cc)
    no (Some f) e some = absurd (cc)

pub cause_none : (C : Fault → Type 0) (s : PageState) → HasPagesCause C s s None
cause_none C s = record { cause = λ none. tt; calm = λ none. refl; later = omega arith }

-- no fault was answered, whatever its cause would be
pub cause_ok : (C D : Fault → Type 0) (old new : PageState) → HasPagesCause C old new None → HasPagesCause D old new None
cause_ok C D old new is = record { cause = λ none. tt; calm = is.calm; later = is.later }

-- what is answered behind a call that answered no fault
pub answers_then : (a b c : PageState) (fault : Option Fault) → Answers a b None → Answers b c fault → Answers a c fault
answers_then a b c fault first second = record { keeps = second.keeps; again = by a.kept first.again; still = λ some. absurd (no a.kept first.again some) }
  where
    by : (k : Option Fault) → IfSome k (λ kept. None ≡ Some kept) → IfSome k (λ kept. fault ≡ Some kept)
    by None is = tt
    by (Some f) is = absurd (cc)

    no : (k : Option Fault) → IfSome k (λ kept. None ≡ Some kept) → IsSome k → ⊥
    no None is some = absurd (cc)
    no (Some f) is some = absurd (cc)

-- what isn't asked for more isn't there either
pieces_weaker : (tells logged : Bool) (Asked Needs : Pieces → Type 0) (file : FileName) (old new : PageState) → ((pieces : Pieces) → Asked pieces → Needs pieces) → (f : Fault) → OfPieces tells logged Needs file old new f → OfPieces tells logged Asked file old new f
pieces_weaker tells logged Asked Needs file old new needs (Memory e) k = k
pieces_weaker tells logged Asked Needs file old new needs Disk k = k
pieces_weaker tells logged Asked Needs file old new needs (PageDamaged f n) k = (k.0, λ t pieces holds asked. k.1 t pieces holds (needs pieces asked))
pieces_weaker tells logged Asked Needs file old new needs (LogDamaged f n) k = k
pieces_weaker tells logged Asked Needs file old new needs _ k = absurd k

pub cause_asked : (tells logged : Bool) (Asked Needs : Pieces → Type 0) (file : FileName) (old new : PageState) (fault : Option Fault) → ((pieces : Pieces) → Asked pieces → Needs pieces) → HasPagesCause (OfPieces tells logged Needs file old new) old new fault
    → HasPagesCause (OfPieces tells logged Asked file old new) old new fault
cause_asked tells logged Asked Needs file old new fault needs is = cause_weaker (OfPieces tells logged Needs file old new) (OfPieces tells logged Asked file old new) old new fault (pieces_weaker tells logged Asked Needs file old new needs) is

-- Calls behind ones that changed pages and answered no fault.
use Rattle.std.proofs.Common.{◌≡◌, ℕ, ◌≤◌, ◌<◌, Bool, true, false, cond, List, length, IsTrue, Option, Some, None, refl, sym, ap, ◌∙◌, arith, subst, nat_le, max}
use Rattle.std.specs.Prelude.{unwrap_or}
use Rattle.aria_page.specs.declared.place.Part.TheVariants.{Keys}
use Rattle.aria_host.specs.declared.fault.Fault.{Fault}
use Rattle.aria_host.specs.declared.fault.Fault.TheVariants.{Memory, Disk, PageDamaged, LogDamaged}
use Rattle.aria_host.specs.declared.file_name.FileName.{FileName}
use Rattle.aria_host.specs.Count.{Rose}
use Rattle.aria_host.proofs.Files.{same_file-refl}
use Rattle.aria_cache.specs.PageState.{PageState, Bodies, Counts, table_file, with_count}
use Rattle.aria_cache.specs.Calls.{SameSlots, FewerLate, Answers, Stops}
use Rattle.std.proofs.Common.{[], ◌∷◌, Result}
use Rattle.std.specs.Prelude.{Ok, Err, OnOk, IsSome}
use Rattle.aria_page.specs.declared.edit.Edit.TheVariants.{Whole}
use Rattle.aria_page.specs.declared.group.RedoKind.{RedoKind}
use Rattle.aria_cache.specs.Calls.{Edits}
use Rattle.aria_keypage.specs.Change.{IsBody}
use Rattle.aria_key.specs.Held.{Rewritten}
use Rattle.aria_key.proofs.Holding.{rewritten-whole}
use Rattle.aria_cache.specs.Causes.{HasPagesCause}
use Rattle.aria_cache.proofs.Causing.{cause_weaker}
use Rattle.aria_cache.proofs.Growing.{fewer_on}
use Rattle.aria_keypage.specs.declared.kind.Kind.{Kind}
use Rattle.aria_keypage.specs.Item.{Item}
use Rattle.aria_keypage.specs.Content.{Content}
use Rattle.aria_keypage.specs.Split.{left_half}
use Rattle.aria_key.specs.Step.{in_right}
use Rattle.aria_key.specs.Held.{HasContent, IsDivided}
use Rattle.aria_key.specs.Reading.{keys_file, OfKeyPage, OfTree}
use Rattle.aria_key.proofs.Halved.{left-count}
use Rattle.aria_key.proofs.Ready.{IsReady, ready}

-- no fault was answered, and no page came to be late
pub record Went (tells : Bool) (slot : ℕ) (old now : PageState) : Type 0 where
  pub file : keys_file now slot ≡ keys_file old slot
  pub kept : now.kept ≡ None
  pub faults : now.faults ≡ old.faults
  pub late : IsTrue tells → FewerLate old now

pub went : (tells : Bool) (slot : ℕ) (C : Fault → Type 0) (old now : PageState) → SameSlots old now → Answers old now None → HasPagesCause C old now None → (IsTrue tells → FewerLate old now) → Went tells slot old now
went tells slot C old now slots answers cause late = record { file = ap (λ (name : ℕ → List ℕ). table_file (name slot) Keys) slots.name; kept = answers.keeps; faults = cause.calm refl; late = late }

pub went_on : (tells : Bool) (slot : ℕ) (a b c : PageState) → Went tells slot a b → Went tells slot b c → Went tells slot a c
went_on tells slot a b c first second = record { file = second.file ∙ first.file; kept = second.kept; faults = second.faults ∙ first.faults; late = λ t. fewer_on a b c (first.late t) (second.late t) }

-- what is answered then has its cause
pub cause_later : (tells : Bool) (slot : ℕ) (C D : Fault → Type 0) (old now new : PageState) (fault : Option Fault) → Went tells slot old now → ((f : Fault) → C f → D f) → HasPagesCause C now new fault → HasPagesCause D old new fault
cause_later tells slot C D old now new fault first more second =
    let wide = cause_weaker C D now new fault more second in
    record {
      cause = λ none. wide.cause first.kept;
      calm = λ none. wide.calm none ∙ first.faults;
      later = let same = first.faults in omega (arith, same, wide.later);
    }

-- and so has a fault that the caller found then
pub found_later : (tells : Bool) (slot : ℕ) (D : Fault → Type 0) (old now new : PageState) (why fault : Fault) → Went tells slot old now → fault ≡ unwrap_or now.kept why → Stops fault now new → D why → HasPagesCause D old new (Some fault)
found_later tells slot D old now new why fault first is stops h = record {
  cause = λ none. let same : fault ≡ why = is ∙ ap (λ (k : Option Fault). unwrap_or k why) first.kept in subst D (sym same) h;
  calm = λ none. absurd cc;
  later = let same = first.faults in let still = stops.rests.faults in omega (arith, same, still);
}

-- a page is there that holds what is asked
pub record IsThere (s : PageState) (file : FileName) (page : ℕ) (Asked : Content → Type 0) : Type 0 where
  pub low : page < s.counts file
  pub content : Content
  pub held : HasContent (s.bodies file) page content
  pub asked : Asked content

-- why a page can't be read then
pub page_later : (tells logged : Bool) (slot page : ℕ) (Asked : Content → Type 0) (Sound : Type 0) (old now new : PageState) → Went tells slot old now → (IsTrue tells → Sound → IsThere now (keys_file now slot) page Asked) → (f : Fault) → OfKeyPage tells logged Asked (keys_file now slot) page now new f
    → OfTree tells logged Sound (keys_file old slot) old new f
page_later tells logged slot page Asked Sound old now new first there (Memory e) k = k
page_later tells logged slot page Asked Sound old now new first there Disk k = subst (λ (n : ℕ). Rose n new.faults) first.faults k
page_later tells logged slot page Asked Sound old now new first there (PageDamaged f n) k = (k.0 ∙ first.file, λ t whole. let h = there t whole in k.2 t h.low h.content h.held h.asked)
page_later tells logged slot page Asked Sound old now new first there (LogDamaged f n) k = (k.0, λ t. (page, subst (λ (g : FileName). IsTrue (old.late g page)) first.file ((first.late t).late (keys_file now slot) page (k.1 t))))
page_later tells logged slot page Asked Sound old now new first there _ k = absurd k

-- how many pages a file has after one was edited
pub reaches : (file : FileName) (pages : ℕ) (counts : Counts) → (counts file ≤ with_count file pages counts file) × (pages ≤ with_count file pages counts file)
reaches file pages counts =
    let whole : with_count file pages counts file ≡ max (counts file) pages = ap (λ (b : Bool). cond b (max (counts file) pages) (counts file)) (same_file-refl file) in
    (omega (arith, whole), omega (arith, whole))

-- one of two pages that are there
pub either_low : (b : Bool) (page fresh half n : ℕ) → half ≡ cond b page fresh → page < n → fresh < n → half < n
either_low true page fresh half n e p f = omega (arith, e, p)
either_low false page fresh half n e p f = omega (arith, e, f)

-- the half that takes an item, after its page was divided and its items counted
pub ready_now : (slot page fresh at k half place : ℕ) (x : Item) (between : List ℕ) (kind : Kind) (c : Content) (old mid now : PageState) → keys_file mid slot ≡ keys_file old slot → now.bodies ≡ mid.bodies → HasContent (old.bodies (keys_file old slot)) page c
    → IsDivided (keys_file old slot) page fresh c between old.bodies mid.bodies → (page ≡ fresh → ⊥) → ((e : Content) → HasContent (mid.bodies (keys_file mid slot)) page e → k ≡ length e.items) → c.kind ≡ kind → at ≤ length c.items → length x.entry ≤ 1000
    → half ≡ cond (nat_le at k) page fresh → place ≡ cond (nat_le at k) at (in_right kind k at) → IsReady (keys_file old slot) page fresh c at x between old.bodies now.bodies kind half place
ready_now slot page fresh at k half place x between kind c old mid now same bodies held d apart count is within short eh ep =
    let there : HasContent (mid.bodies (keys_file mid slot)) page (left_half c d.at) = subst (λ (f : FileName). HasContent (mid.bodies f) page (left_half c d.at)) (sym same) d.left in
    let ek : k ≡ d.at = left-count c d.at k d.middle.within (count (left_half c d.at) there) in
    subst (λ (b : Bodies). IsReady (keys_file old slot) page fresh c at x between old.bodies b kind half place) (sym bodies)
    (ready (keys_file old slot) page fresh c at x between old.bodies mid.bodies kind k half place held d apart ek is within short eh ep)

-- a page that was written whole holds what its body spells
pub written_whole : {T E : Type 0} (r : Result T E) (logged : Bool) (why : RedoKind) (slot page : ℕ) (body : List ℕ) (c : Content) (old new : PageState) → OnOk r (Edits logged why slot Keys page (Whole body ∷ []) old new) → IsBody body c → IsSome (old.bodies (keys_file old slot) page)
    → OnOk r (Rewritten (keys_file old slot) page c old.bodies new.bodies)
written_whole (Err e) logged why slot page body c old new h is some = tt
written_whole (Ok x) logged why slot page body c old new h is some = subst (λ (b : Bodies). Rewritten (keys_file old slot) page c old.bodies b) (sym h.bodies) (rewritten-whole (keys_file old slot) page body old.bodies c some is)

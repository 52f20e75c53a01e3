-- Calls that take pages, and files that grow by them.
use Rattle.std.proofs.Common.{◌≡◌, ◌≢◌, ◌⊎◌, inl, inr, ℕ, ◌+◌, ◌*◌, ◌<◌, ◌≤◌, ◌==◌, ◌&&◌, max, Bool, true, cond, Option, Some, None, List, [], ◌∷◌, IsTrue, refl, sym, ap, subst, ◌∙◌, arith}
use Rattle.std.specs.Prelude.{IsSome, slice_index, drop}
use Rattle.std.proofs.Common.{rules}
use Rattle.std.proofs.lemmas.Option.{same_Some}
use Rattle.aria_page.specs.declared.page_kind.PageKind.TheVariants.{FreeIndex}
use Rattle.aria_page.specs.PageKind.{kind_byte}
use Rattle.std.specs.Option.{option_map}
use Rattle.std.specs.List.{AllByRecursion}
use Rattle.aria_page.specs.declared.edit.Edit.TheVariants.{Set}
use Rattle.aria_page.specs.Edit.{edited, all_edited}
use Rattle.aria_page.specs.Number.{number, number_of}
use Rattle.aria_host.specs.declared.fault.Fault.{Fault}
use Rattle.aria_host.specs.declared.fault.Fault.TheVariants.{Memory, Disk, PageDamaged, LogDamaged}
use Rattle.aria_host.specs.declared.file_name.FileName.{FileName}
use Rattle.aria_host.specs.Folder.{same_file}
use Rattle.aria_host.specs.Count.{Rose}
use Rattle.aria_host.proofs.Files.{same_file-refl}
use Rattle.aria_cache.specs.PageState.{PageState, Bodies, Counts, with_count, with_edits}
use Rattle.aria_cache.specs.Calls.{Rests, SameGroup, Loads, Edits}
use Rattle.aria_page.specs.declared.group.RedoKind.{RedoKind}
use Rattle.aria_page.specs.declared.place.Part.TheVariants.{Keys}
use Rattle.std.specs.Prelude.{Ok, Err, OnOk, Result}
use Rattle.aria_key.specs.Held.{HasContent, Rewritten}
use Rattle.aria_cache.specs.Causes.{OfPage, HasPagesCause}
use Rattle.aria_cache.proofs.Causing.{cause_weaker}
use Rattle.aria_cache.proofs.Growing.{fewer_same}
use Rattle.aria_key.specs.IndexFile.{IsFree, IsChain}
use Rattle.aria_key.specs.Taking.{IsTaken, IsSpare, IsFreePage, HasSpare, GrowsBy}
use Rattle.aria_key.specs.Header.{SetsHeader}
use Rattle.aria_keypage.specs.Content.{Content}
use Rattle.aria_key.specs.Reading.{keys_file, OfKeyPage, OfTree, OfFullFile}
use Rattle.aria_key.proofs.Later.{Went, cause_later, IsThere}

-- ---- causes

none-some : (o : Option (List ℕ)) → o ≡ None → IsSome o → ⊥
none-some None e s = absurd cc
none-some (Some body) e s = absurd cc

-- why a page that is there can't be loaded or edited
pub of_page : (tells logged : Bool) (Asked : Type 0) (file : FileName) (page : ℕ) (old new : PageState) → (IsTrue tells → Asked → IsSome (old.bodies file page)) → (f : Fault) → OfPage tells logged file page old new f → OfTree tells logged Asked file old new f
of_page tells logged Asked file page old new some (Memory e) k = k
of_page tells logged Asked file page old new some Disk k = k
of_page tells logged Asked file page old new some (PageDamaged f n) k = (k.0, λ t asked. none-some (old.bodies file page) (k.2 t) (some t asked))
of_page tells logged Asked file page old new some (LogDamaged f n) k = (k.0, λ t. (page, k.1 t))
of_page tells logged Asked file page old new some _ k = absurd k

pub tree_cause : (tells logged : Bool) (Asked : Type 0) (file : FileName) (page : ℕ) (old new : PageState) (fault : Option Fault) → (IsTrue tells → Asked → IsSome (old.bodies file page)) → HasPagesCause (OfPage tells logged file page old new) old new fault
    → HasPagesCause (OfTree tells logged Asked file old new) old new fault
tree_cause tells logged Asked file page old new fault some h = cause_weaker (OfPage tells logged file page old new) (OfTree tells logged Asked file old new) old new fault (of_page tells logged Asked file page old new some) h

-- what is asked says more
pub of_more : (tells logged : Bool) (A B : Type 0) (file : FileName) (old new : PageState) → (IsTrue tells → B → A) → (f : Fault) → OfTree tells logged A file old new f → OfTree tells logged B file old new f
of_more tells logged A B file old new more (Memory e) k = k
of_more tells logged A B file old new more Disk k = k
of_more tells logged A B file old new more (PageDamaged f n) k = (k.0, λ t asked. k.1 t (more t asked))
of_more tells logged A B file old new more (LogDamaged f n) k = k
of_more tells logged A B file old new more _ k = absurd k

pub more_cause : (tells logged : Bool) (A B : Type 0) (file : FileName) (old new : PageState) (fault : Option Fault) → (IsTrue tells → B → A) → HasPagesCause (OfTree tells logged A file old new) old new fault → HasPagesCause (OfTree tells logged B file old new) old new fault
more_cause tells logged A B file old new fault more h = cause_weaker (OfTree tells logged A file old new) (OfTree tells logged B file old new) old new fault (of_more tells logged A B file old new more) h

-- why there is no page behind the end
of_full : (tells logged : Bool) (file : FileName) (free : ℕ) (old new : PageState) → (f : Fault) → OfFullFile file old f → OfTree tells logged (HasSpare old file free) file old new f
of_full tells logged file free old new (Memory e) k = absurd k
of_full tells logged file free old new Disk k = absurd k
of_full tells logged file free old new (PageDamaged f n) k = (k.0, λ t asked. absurd (omega (arith, asked.room, k.2)))
of_full tells logged file free old new (LogDamaged f n) k = absurd k
of_full tells logged file free old new _ k = absurd k

pub full_cause : (tells logged : Bool) (file : FileName) (free : ℕ) (old new : PageState) (fault : Option Fault) → HasPagesCause (OfFullFile file old) old new fault → HasPagesCause (OfTree tells logged (HasSpare old file free) file old new) old new fault
full_cause tells logged file free old new fault h = cause_weaker (OfFullFile file old) (OfTree tells logged (HasSpare old file free) file old new) old new fault (of_full tells logged file free old new) h

-- ---- pages that are taken

-- the first free page
pub first_free : (s : PageState) (file : FileName) (free : ℕ) → free ≢ 0 → HasSpare s file free → IsFreePage s file free
first_free s file free some h = by h.left h.chain h.low
  where
    by : (left : List ℕ) → IsChain (s.bodies file) free left → AllByRecursion (λ p. p < s.counts file) left → IsFreePage s file free
    by [] chain low = absurd (some chain)
    by (p ∷ ps) (is, not, next, is_free, rest) low = record {
      low = omega (arith, is, low.0);
      next = next;
      free = subst (λ (n : ℕ). IsFree (s.bodies file) n next) (sym is) is_free;
    }

pub take_next : (bodies : ℕ → Option (List ℕ)) (count free n : ℕ) (left : List ℕ) → free ≢ 0 → IsChain bodies free left → ((next : ℕ) → IsFree bodies free next → n ≡ next) → IsTaken bodies count left free n
take_next bodies count free n [] some chain next = absurd (some chain)
take_next bodies count free n (p ∷ ps) some (is, not, after, is_free, rest) next =
    (is, subst (λ (m : ℕ). IsChain bodies m ps) (sym (next after (subst (λ (m : ℕ). IsFree bodies m after) (sym is) is_free))) rest)

-- the one behind the end
pub take_behind : (bodies : ℕ → Option (List ℕ)) (count free page : ℕ) (left : List ℕ) → free ≡ 0 → IsChain bodies free left → page ≡ count → IsTaken bodies count left page 0
take_behind bodies count free page [] none chain is = (is, refl)
take_behind bodies count free page (p ∷ ps) none (same, not, after, is_free, rest) is = absurd (not (sym same ∙ none))

-- nothing was loaded
pub loads_rests : (tells : Bool) (old new : PageState) → Rests old new → SameGroup old new → Loads tells 1 old new
loads_rests tells old new rests group = record {
  slots = rests.slots;
  group = group;
  log = rests.log;
  counts = rests.pages.counts;
  bodies = λ t. rests.pages.bodies;
  late = λ t. fewer_same old new rests.pages.late;
  lent = omega (arith, rests.lent);
}

-- ---- the header

pub sets_header : (file : FileName) (key root free : ℕ) (header : List ℕ) (old new : Bodies) → old file 0 ≡ Some header → new ≡ with_edits file 0 (Set 23 (number 4 free) ∷ Set (32 + 4 * key) (number 4 root) ∷ []) old → SetsHeader file key root free header old new
unfolding edited
sets_header file key root free header old new there e =
    let test : (same_file file file && (0 == 0)) ≡ true = ap (λ (b : Bool). b && (0 == 0)) (same_file-refl file) in
    record {
      here =
          ap (λ (b : Bodies). b file 0) e
          ∙ ap (λ (t : Bool). cond t (option_map (all_edited (Set 23 (number 4 free) ∷ Set (32 + 4 * key) (number 4 root) ∷ [])) (old file 0)) (old file 0)) test
          ∙ ap (option_map (all_edited (Set 23 (number 4 free) ∷ Set (32 + 4 * key) (number 4 root) ∷ []))) there;
      other = λ f n k. ap (λ (b : Bodies). b f n) e ∙ ap (λ (t : Bool). cond t (option_map (all_edited (Set 23 (number 4 free) ∷ Set (32 + 4 * key) (number 4 root) ∷ [])) (old f n)) (old f n)) k;
    }

-- ---- how a file grows

pub grows_none : (file : FileName) (most free : ℕ) (old new : PageState) → new.counts ≡ old.counts → GrowsBy file most free free old new
grows_none file most free old new is =
    let here : new.counts file ≡ old.counts file = ap (λ (c : Counts). c file) is in
    record { others = λ f apart. ap (λ (c : Counts). c f) is; least = omega (arith, here); most_is = omega (arith, here); none = λ e. e; rose = inl here }

pub grows_one : (file : FileName) (free page next : ℕ) (old new : PageState) → new.counts ≡ with_count file (page + 1) old.counts → IsSpare (old.counts file) free page next → GrowsBy file 1 free next old new
grows_one file free page next old new is spare =
    let here : new.counts file ≡ max (old.counts file) (page + 1) = ap (λ (c : Counts). c file) is ∙ ap (λ (b : Bool). cond b (max (old.counts file) (page + 1)) (old.counts file)) (same_file-refl file) in
    record {
      others = λ f apart. ap (λ (c : Counts). c f) is ∙ ap (λ (b : Bool). cond b (max (old.counts f) (page + 1)) (old.counts f)) apart;
      least = omega (arith, here);
      most_is = by here spare;
      none = none spare;
      rose = rose here spare;
    }
  where
    by : new.counts file ≡ max (old.counts file) (page + 1) → IsSpare (old.counts file) free page next → new.counts file ≤ old.counts file + 1
    by e (inl k) = omega (arith, e, k.1)
    by e (inr k) = omega (arith, e, k.1)

    none : IsSpare (old.counts file) free page next → free ≡ 0 → next ≡ 0
    none (inl k) e = absurd (k.0 e)
    none (inr k) e = k.2

    rose : new.counts file ≡ max (old.counts file) (page + 1) → IsSpare (old.counts file) free page next → (new.counts file ≡ old.counts file) ⊎ (next ≡ 0)
    rose e (inl k) = inl (omega (arith, e, k.1))
    rose e (inr k) = inr k.2

pub grows_then : (file other : FileName) (m n most a b c : ℕ) (old mid new : PageState) → other ≡ file → m + n ≤ most → GrowsBy file m a b old mid → GrowsBy other n b c mid new → GrowsBy file most a c old new
grows_then file other m n most a b c old mid new same few first second =
    by (subst (λ (f : FileName). GrowsBy f n b c mid new) same second)
  where
    rose : GrowsBy file n b c mid new → (mid.counts file ≡ old.counts file) ⊎ (b ≡ 0) → (new.counts file ≡ mid.counts file) ⊎ (c ≡ 0) → (new.counts file ≡ old.counts file) ⊎ (c ≡ 0)
    rose g (inl p) (inl q) = inl (q ∙ p)
    rose g (inl p) (inr q) = inr q
    rose g (inr p) q = inr (g.none p)

    by : GrowsBy file n b c mid new → GrowsBy file most a c old new
    by g = record {
      others = λ f apart. g.others f apart ∙ first.others f apart;
      least = omega (arith, first.least, g.least);
      most_is = omega (arith, first.most_is, g.most_is, few);
      none = λ e. g.none (first.none e);
      rose = rose g first.rose g.rose;
    }

-- ---- free pages that are read

pub free_there : (s : PageState) (file : FileName) (page : ℕ) → IsFreePage s file page → IsSome (s.bodies file page)
free_there s file page h = subst (λ (o : Option (List ℕ)). IsSome o) (sym h.free.there) (search rules)

pub free_body : (bodies : ℕ → Option (List ℕ)) (page next : ℕ) (body : List ℕ) → IsFree bodies page next → bodies page ≡ Some body → (slice_index body 0 ≡ kind_byte FreeIndex) × (next ≡ number_of 4 (drop 1 body))
free_body bodies page next body h there =
    let same : h.body ≡ body = same_Some h.body body (sym h.there ∙ there) in
    (ap (λ (b : List ℕ). slice_index b 0) (sym same) ∙ h.kind, h.next_is ∙ ap (λ (b : List ℕ). number_of 4 (drop 1 b)) same)

-- ---- calls behind others

-- why a key page can't be read
pub of_key : (tells logged : Bool) (A : Content → Type 0) (B : Type 0) (file : FileName) (page : ℕ) (old new : PageState) → (IsTrue tells → B → IsThere old file page A) → (f : Fault) → OfKeyPage tells logged A file page old new f → OfTree tells logged B file old new f
of_key tells logged A B file page old new there (Memory e) k = k
of_key tells logged A B file page old new there Disk k = k
of_key tells logged A B file page old new there (PageDamaged f n) k = (k.0, λ t asked. let h = there t asked in k.2 t h.low h.content h.held h.asked)
of_key tells logged A B file page old new there (LogDamaged f n) k = (k.0, λ t. (page, k.1 t))
of_key tells logged A B file page old new there _ k = absurd k

-- what is answered then
pub of_later : (tells logged : Bool) (slot : ℕ) (A B : Type 0) (old now new : PageState) → Went tells slot old now → (IsTrue tells → B → A) → (f : Fault) → OfTree tells logged A (keys_file now slot) now new f → OfTree tells logged B (keys_file old slot) old new f
of_later tells logged slot A B old now new first more (Memory e) k = k
of_later tells logged slot A B old now new first more Disk k = subst (λ (n : ℕ). Rose n new.faults) first.faults k
of_later tells logged slot A B old now new first more (PageDamaged f n) k = (k.0 ∙ first.file, λ t asked. k.1 t (more t asked))
of_later tells logged slot A B old now new first more (LogDamaged f n) k = (
  k.0,
  λ t. let late = k.1 t in (late.0, subst (λ (g : FileName). IsTrue (old.late g late.0)) first.file ((first.late t).late (keys_file now slot) late.0 late.1)),
)
of_later tells logged slot A B old now new first more _ k = absurd k

pub tree_later : (tells logged : Bool) (slot : ℕ) (A B : Type 0) (old now new : PageState) (fault : Option Fault) → Went tells slot old now → (IsTrue tells → B → A) → HasPagesCause (OfTree tells logged A (keys_file now slot) now new) now new fault
    → HasPagesCause (OfTree tells logged B (keys_file old slot) old new) old new fault
tree_later tells logged slot A B old now new fault first more h = cause_later tells slot (OfTree tells logged A (keys_file now slot) now new) (OfTree tells logged B (keys_file old slot) old new) old now new fault first (of_later tells logged slot A B old now new first more) h

pub page_then : (tells logged : Bool) (slot page : ℕ) (B : Type 0) (old now new : PageState) (fault : Option Fault) → Went tells slot old now → (IsTrue tells → B → IsSome (now.bodies (keys_file now slot) page)) → HasPagesCause (OfPage tells logged (keys_file now slot) page now new) now new fault
    → HasPagesCause (OfTree tells logged B (keys_file old slot) old new) old new fault
page_then tells logged slot page B old now new fault first some h =
    tree_later tells logged slot B B old now new fault first (λ t b. b) (tree_cause tells logged B (keys_file now slot) page now new fault some h)

-- ---- pages that are written behind a read

pub written_then : (file other : FileName) (page : ℕ) (c : Content) (old mid new : Bodies) → other ≡ file → mid ≡ old → Rewritten other page c mid new → Rewritten file page c old new
written_then file other page c old mid new same bodies w = subst (λ (b : Bodies). Rewritten file page c b new) bodies (subst (λ (f : FileName). Rewritten f page c mid new) same w)

pub some_then : (file other : FileName) (page : ℕ) (old mid : Bodies) → other ≡ file → mid ≡ old → IsSome (old file page) → IsSome (mid other page)
some_then file other page old mid same bodies some = subst (λ (f : FileName). IsSome (mid f page)) (sym same) (subst (λ (b : Bodies). IsSome (b file page)) (sym bodies) some)

-- the header, from what the edit says
pub set_result : {T E : Type 0} (r : Result T E) (logged : Bool) (why : RedoKind) (slot key root free : ℕ) (first root_bytes : List ℕ) (header : List ℕ) (old new : PageState) → OnOk r (Edits logged why slot Keys 0 (Set 23 first ∷ Set (32 + 4 * key) root_bytes ∷ []) old new)
    → first ≡ number 4 free → root_bytes ≡ number 4 root → old.bodies (keys_file old slot) 0 ≡ Some header → OnOk r (SetsHeader (keys_file old slot) key root free header old.bodies new.bodies)
set_result (Err e) logged why slot key root free first root_bytes header old new h f t there = tt
set_result (Ok x) logged why slot key root free first root_bytes header old new h f t there =
    sets_header (keys_file old slot) key root free header old.bodies new.bodies there (h.bodies ∙ (λ i. with_edits (keys_file old slot) 0 (Set 23 (f i) ∷ Set (32 + 4 * key) (t i) ∷ []) old.bodies))

pub held_then : (file other : FileName) (page : ℕ) (c : Content) (old mid : Bodies) → other ≡ file → mid ≡ old → HasContent (old file) page c → HasContent (mid other) page c
held_then file other page c old mid same bodies h = subst (λ (f : FileName). HasContent (mid f) page c) (sym same) (subst (λ (b : Bodies). HasContent (b file) page c) (sym bodies) h)

pub grows_more : (file : FileName) (m most a b : ℕ) (old new : PageState) → m ≤ most → GrowsBy file m a b old new → GrowsBy file most a b old new
grows_more file m most a b old new few g = record { others = g.others; least = g.least; most_is = omega (arith, few, g.most_is); none = g.none; rose = g.rose }

-- What was true before pages were read is true then, and what a call then answers has its cause from the beginning.
use Rattle.std.proofs.Common.{ℕ, ◌<◌, ◌≤◌, Bool, List, IsTrue, Option, sym, subst, ◌∙◌, arith}
use Rattle.aria_host.specs.declared.fault.Fault.{Fault}
use Rattle.aria_host.specs.declared.fault.Fault.TheVariants.{Memory, Disk, PageDamaged, LogDamaged}
use Rattle.aria_host.specs.declared.file_name.FileName.{FileName}
use Rattle.aria_host.specs.Count.{Rose}
use Rattle.aria_cache.specs.PageState.{PageState, Bodies, Counts}
use Rattle.aria_cache.specs.Calls.{Loads}
use Rattle.aria_keypage.specs.Content.{Content}
use Rattle.aria_key.specs.Reading.{keys_file, Reads, OfKeyPage, OfTree}
use Rattle.aria_key.proofs.Finding.{same_keys, held_then}
use Rattle.aria_key.proofs.Later.{IsThere}

-- what holds of the index file holds of it then
pub moved : (Q : (ℕ → Option (List ℕ)) → ℕ → Type 0) (tells : Bool) (slot n : ℕ) (old now : PageState) → Reads tells n old now → IsTrue tells → Q (old.bodies (keys_file old slot)) (old.counts (keys_file old slot))
    → Q (now.bodies (keys_file now slot)) (now.counts (keys_file now slot))
moved Q tells slot n old now reads t h =
    let file : FileName = keys_file old slot in
    subst (λ (f : FileName). Q (now.bodies f) (now.counts f)) (sym (same_keys tells slot n old now reads))
    (subst (λ (b : Bodies). Q (b file) (now.counts file)) (sym (reads.loads.bodies t)) (subst (λ (k : Counts). Q (old.bodies file) (k file)) (sym reads.loads.counts) h))

-- at most so many pages are at most more
pub loads_less : (tells : Bool) (n m : ℕ) (old new : PageState) → Loads tells n old new → n ≤ m → Loads tells m old new
loads_less tells n m old new h low = record { slots = h.slots; group = h.group; log = h.log; counts = h.counts; bodies = h.bodies; late = h.late; lent = omega (arith, h.lent, low) }

pub reads_less : (tells : Bool) (n m : ℕ) (old new : PageState) → Reads tells n old new → n ≤ m → Reads tells m old new
reads_less tells n m old new h low = record { loads = loads_less tells n m old new h.loads low; kept = h.kept; faults = h.faults; still = h.still }

-- why a page can't be read then
pub page_then : (tells logged : Bool) (Asked : Content → Type 0) (Sound : Type 0) (slot n page : ℕ) (old now new : PageState) → Reads tells n old now → (IsTrue tells → Sound → IsThere old (keys_file old slot) page Asked) → (f : Fault) → OfKeyPage tells logged Asked (keys_file now slot) page now new f
    → OfTree tells logged Sound (keys_file old slot) old new f
page_then tells logged Asked Sound slot n page old now new reads there (Memory e) k = k
page_then tells logged Asked Sound slot n page old now new reads there Disk k = subst (λ (m : ℕ). Rose m new.faults) reads.faults k
page_then tells logged Asked Sound slot n page old now new reads there (PageDamaged f m) k = (
  k.0 ∙ same_keys tells slot n old now reads,
  λ t whole.
      let h = there t whole in
      k.2 t (moved (λ b c. page < c) tells slot n old now reads t h.low) h.content (held_then tells slot n page h.content old now reads t h.held) h.asked,
)
page_then tells logged Asked Sound slot n page old now new reads there (LogDamaged f m) k = (
  k.0,
  λ t. (page, subst (λ (g : FileName). IsTrue (old.late g page)) (same_keys tells slot n old now reads) ((reads.loads.late t).late (keys_file now slot) page (k.1 t))),
)
page_then tells logged Asked Sound slot n page old now new reads there _ k = absurd k

-- why a tree can't
pub tree_then : (tells logged : Bool) (Asked Sound : Type 0) (slot n : ℕ) (old now new : PageState) → Reads tells n old now → (IsTrue tells → Sound → Asked) → (f : Fault) → OfTree tells logged Asked (keys_file now slot) now new f → OfTree tells logged Sound (keys_file old slot) old new f
tree_then tells logged Asked Sound slot n old now new reads there (Memory e) k = k
tree_then tells logged Asked Sound slot n old now new reads there Disk k = subst (λ (m : ℕ). Rose m new.faults) reads.faults k
tree_then tells logged Asked Sound slot n old now new reads there (PageDamaged f m) k = (k.0 ∙ same_keys tells slot n old now reads, λ t whole. k.1 t (there t whole))
tree_then tells logged Asked Sound slot n old now new reads there (LogDamaged f m) k = (
  k.0,
  λ t.
      let late = k.1 t in
      (late.0, subst (λ (g : FileName). IsTrue (old.late g late.0)) (same_keys tells slot n old now reads) ((reads.loads.late t).late (keys_file now slot) late.0 late.1)),
)
tree_then tells logged Asked Sound slot n old now new reads there _ k = absurd k

-- Numbers of pages that never fall, pages that come to be behind the log's end, and pages that stay but in one file.
use Rattle.std.proofs.Common.{◌≡◌, ℕ, ◌≤◌, max, Bool, true, false, cond, arith, ap, subst, sym, ◌∙◌, List, [], ◌∷◌, ◌++◌, refl}
use Rattle.std.specs.Prelude.{IsTrue}
use Rattle.aria_page.specs.declared.edit.Edit.{Edit}
use Rattle.aria_page.specs.declared.group.RedoKind.{RedoKind}
use Rattle.aria_page.specs.declared.place.Part.{Part}
use Rattle.aria_host.specs.declared.file_name.FileName.{FileName}
use Rattle.aria_host.specs.Folder.{same_file}
use Rattle.aria_record.specs.declared.record.Record.{Record}
use Rattle.aria_record.specs.declared.record.Record.TheVariants.{Redo}
use Rattle.aria_cache.specs.PageState.{PageState, Bodies, Counts, file_of, record_applied, edits_applied, with_count, with_edits}
use Rattle.aria_cache.specs.Calls.{Grows, FewerLate, StaysIn, Edits}

pub grows_same : (old new : PageState) → new.counts ≡ old.counts → Grows old new
grows_same old new is = record { counts = λ f. let at : new.counts f ≡ old.counts f = ap (λ (c : Counts). c f) is in omega (arith, at) }

pub grows_on : (a b c : PageState) → Grows a b → Grows b c → Grows a c
grows_on a b c first second = record { counts = λ f. omega (arith, first.counts f, second.counts f) }

more : (b : Bool) (n m : ℕ) → n ≤ cond b (max n m) n
more true n m = omega arith
more false n m = omega arith

pub grows_edited : (old new : PageState) (file : FileName) (pages : ℕ) → new.counts ≡ with_count file pages old.counts → Grows old new
grows_edited old new file pages is = record { counts = λ f. subst (λ (c : Counts). old.counts f ≤ c f) (sym is) (more (same_file file f) (old.counts f) pages) }

pub fewer_same : (old new : PageState) → new.late ≡ old.late → FewerLate old new
fewer_same old new is = record { late = λ f n late. subst (λ (l : FileName → ℕ → Bool). IsTrue (l f n)) is late }

pub fewer_on : (a b c : PageState) → FewerLate a b → FewerLate b c → FewerLate a c
fewer_on a b c first second = record { late = λ f n late. first.late f n (second.late f n late) }

-- edits that come behind others are made last
pub edits_applied-append : (rs ss : List Record) (start : Bodies) → edits_applied (rs ++ ss) start ≡ edits_applied ss (edits_applied rs start)
edits_applied-append [] ss start = refl
edits_applied-append (r ∷ rs) ss start = edits_applied-append rs ss (record_applied r start)

pub stays_same : (logged : Bool) (file : FileName) (old new : PageState) → new.bodies ≡ old.bodies → new.edits ≡ old.edits → StaysIn logged file old new
stays_same logged file old new is edits = record {
  others = λ f other. ap (λ (b : Bodies). b f) is;
  applies = λ log start was. is ∙ was ∙ ap (λ (es : List Record). edits_applied es start) (sym edits);
}

pub stays_on : (logged : Bool) (file : FileName) (a b c : PageState) → StaysIn logged file a b → StaysIn logged file b c → StaysIn logged file a c
stays_on logged file a b c first second = record {
  others = λ f other. second.others f other ∙ first.others f other;
  applies = λ log start was. second.applies log start (first.applies log start was);
}

pub stays_edited : (logged : Bool) (kind : RedoKind) (slot : ℕ) (part : Part) (page : ℕ) (es : List Edit) (old new : PageState) → Edits logged kind slot part page es old new → StaysIn logged (file_of old slot part) old new
stays_edited logged kind slot part page es old new edits = record {
  others = λ f other. ap (λ (b : Bodies). b f) edits.bodies ∙ (λ i n. kept f n other i);
  applies = λ log start was. edits.bodies ∙ ap (with_edits (file_of old slot part) page es) was
      ∙ sym (edits_applied-append old.edits (Redo kind (old.name slot) part page es ∷ []) start) ∙ ap (λ (l : List Record). edits_applied l start) (sym (edits.records log));
}
  where
    kept : (f : FileName) (n : ℕ) → same_file (file_of old slot part) f ≡ false → with_edits (file_of old slot part) page es old.bodies f n ≡ old.bodies f n
    kept f n other = rw other refl

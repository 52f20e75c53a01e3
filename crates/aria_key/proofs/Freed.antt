-- Free pages that are written.
use Rattle.std.proofs.Common.{◌≡◌, ℕ, ◌-◌, ◌<◌, ◌^◌, ◌==◌, ◌&&◌, Bool, true, cond, Option, Some, None, List, [], ◌∷◌, ◌++◌, length, replicate, take, refl, sym, ap, subst, ◌∙◌, arith}
use Rattle.std.specs.Prelude.{IsSome, OnOk, Result, Ok, Err, drop, slice_index}
use Rattle.std.specs.Option.{option_map}
use Rattle.std.proofs.lemmas.Bool.{eq-eqb}
use Rattle.aria_page.specs.declared.edit.Edit.TheVariants.{Whole}
use Rattle.aria_page.specs.declared.group.RedoKind.{RedoKind}
use Rattle.aria_page.specs.declared.place.Part.TheVariants.{Keys}
use Rattle.aria_page.specs.Edit.{edited, all_edited}
use Rattle.aria_page.specs.Number.{number, number_of}
use Rattle.aria_page.proofs.Numbers.{number_of-number, length-number}
use Rattle.aria_host.specs.declared.file_name.FileName.{FileName}
use Rattle.aria_host.specs.Folder.{same_file}
use Rattle.aria_host.proofs.Files.{same_file-refl}
use Rattle.aria_cache.specs.PageState.{PageState, Bodies, with_edits}
use Rattle.aria_cache.specs.Calls.{Edits}
use Rattle.aria_keypage.proofs.Whole.{filled}
use Rattle.aria_key.specs.Merging.{IsFreeBody, IsFreed}
use Rattle.aria_key.specs.Reading.{keys_file}

pub free-bytes : (next v : ℕ) (a e body bytes : List ℕ) → next < 256 ^ 4 → a ≡ 8 ∷ [] → bytes ≡ number 4 next → e ≡ a ++ bytes → v ≡ length e → body ≡ take 8181 e ++ replicate (8181 - v) 0 → IsFreeBody next body
free-bytes next v a e body bytes low ea eb ee ev is =
    let front : e ≡ 8 ∷ number 4 next = ee ∙ (λ i. ea i ++ eb i) in
    let full = filled 8181 v e body ev (omega (arith, ap length front, length-number 4 next)) is in
    let whole : body ≡ 8 ∷ (number 4 next ++ replicate (8181 - v) 0) = full.0 ∙ ap (λ (l : List ℕ). l ++ replicate (8181 - v) 0) front in
    record {
      size = full.1;
      kind = ap (λ (l : List ℕ). slice_index l 0) whole;
      next_is = sym (ap (λ (l : List ℕ). number_of 4 (drop 1 l)) whole ∙ number_of-number 4 next (replicate (8181 - v) 0) low);
    }

freed : (file : FileName) (page next : ℕ) (body : List ℕ) (bodies : Bodies) → IsSome (bodies file page) → IsFreeBody next body → IsFreed file page next bodies (with_edits file page (Whole body ∷ []) bodies)
unfolding edited
freed file page next body bodies some is =
    let test : (same_file file file && (page == page)) ≡ true = (λ i. same_file-refl file i && eq-eqb page page refl i) in
    record {
      free = record {
        body = body;
        there = ap (λ (t : Bool). cond t (option_map (all_edited (Whole body ∷ [])) (bodies file page)) (bodies file page)) test ∙ by (bodies file page) some;
        size = is.size;
        kind = is.kind;
        next_is = is.next_is;
      };
      other = λ f n e. ap (λ (t : Bool). cond t (option_map (all_edited (Whole body ∷ [])) (bodies f n)) (bodies f n)) e;
    }
  where
    by : (o : Option (List ℕ)) → IsSome o → option_map (all_edited (Whole body ∷ [])) o ≡ Some body
    by (Some b) s = refl
    by None s = absurd cc

-- a page that was written so
pub written_free : {T E : Type 0} (r : Result T E) (logged : Bool) (why : RedoKind) (slot page next : ℕ) (body : List ℕ) (old new : PageState) → OnOk r (Edits logged why slot Keys page (Whole body ∷ []) old new) → IsFreeBody next body → IsSome (old.bodies (keys_file old slot) page)
    → OnOk r (IsFreed (keys_file old slot) page next old.bodies new.bodies)
written_free (Err e) logged why slot page next body old new h is some = tt
written_free (Ok x) logged why slot page next body old new h is some = subst (λ (b : Bodies). IsFreed (keys_file old slot) page next old.bodies b) (sym h.bodies) (freed (keys_file old slot) page next body old.bodies some is)

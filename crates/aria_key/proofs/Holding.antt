-- What pages hold after one of them was edited.
use Rattle.std.proofs.Common.{◌≡◌, ◌==◌, ◌&&◌, ℕ, zero, suc, ◌+◌, ◌*◌, ◌≤◌, Bool, true, false, cond, Option, Some, List, [], ◌∷◌, length, refl, sym, ◌∙◌, ap, subst, arith, All, max}
use Rattle.std.specs.List.{AllByRecursion, sum_by}
use Rattle.std.proofs.lemmas.Bool.{eq-eqb, ne_eqb}
use Rattle.std.specs.Prelude.{IsSome, None}
use Rattle.aria_keypage.specs.Split.{IsSplit, left_half, right_half}
use Rattle.std.specs.Option.{option_map}
use Rattle.std.proofs.lemmas.Option.{same_Some}
use Rattle.std.proofs.lemmas.List.Sums.{sum_by-cons}
use Rattle.std.proofs.lemmas.List.{length-take}
use Rattle.aria_page.specs.declared.edit.Edit.{Edit}
use Rattle.aria_page.specs.declared.edit.Edit.TheVariants.{Set, Shift, Whole}
use Rattle.aria_page.specs.Edit.{edit_bytes, IsWithin, edited, all_edited}
use Rattle.aria_page.specs.declared.page.TheConstants.{BODY_BYTES}
use Rattle.aria_record.specs.Writing.{edit_size, edits_size, redo_size}
use Rattle.aria_page.proofs.Edits.{length-edited}
use Rattle.aria_host.specs.declared.file_name.FileName.{FileName}
use Rattle.aria_host.specs.Folder.{same_file}
use Rattle.aria_host.proofs.Files.{same_file-refl}
use Rattle.aria_cache.specs.PageState.{Bodies, Counts, with_edits, with_count}
use Rattle.aria_keypage.specs.Change.{Changes, IsBody}
use Rattle.aria_keypage.specs.Content.{Content, Spells}
use Rattle.aria_keypage.proofs.Read.{spells-one}
use Rattle.aria_key.specs.Held.{HasContent, Rewritten, IsDivided}

pub all-index : {X : Type 0} (P : X → Type 0) (xs : List X) → AllByRecursion P xs → All P xs
all-index P [] h k d low = absurd (omega arith)
all-index P (x ∷ xs) h zero d low = h.0
all-index P (x ∷ xs) h (suc k) d low = all-index P xs h.1 k d (omega arith)

pub long : (es : List Edit) (body : List ℕ) → AllByRecursion IsWithin es → length body ≡ BODY_BYTES → length (all_edited es body) ≡ BODY_BYTES
long [] body h e = e
long (x ∷ es) body h e = long es (edited x body) h.1 (length-edited x body h.0 e)

-- a page that was edited holds what the edits make of it
pub rewritten : (file : FileName) (page : ℕ) (es : List Edit) (bodies : Bodies) (c d : Content) → HasContent (bodies file) page c → Changes es c d → Rewritten file page d bodies (with_edits file page es bodies)
rewritten file page es bodies c d h ch =
    let test : (same_file file file && (page == page)) ≡ true = (λ i. same_file-refl file i && eq-eqb page page refl i) in
    record {
      here = record {
        body = all_edited es h.body;
        there = ap (λ (t : Bool). cond t (option_map (all_edited es) (bodies file page)) (bodies file page)) test ∙ ap (option_map (all_edited es)) h.there;
        size = long es h.body ch.within h.size;
        spells = ch.body h.body h.size h.spells;
      };
      other = λ f n e. ap (λ (t : Bool). cond t (option_map (all_edited es) (bodies f n)) (bodies f n)) e;
    }

-- a page holds one content
pub one-content : (bodies : ℕ → Option (List ℕ)) (page : ℕ) (c d : Content) (body : List ℕ) → HasContent bodies page c → bodies page ≡ Some body → Spells body d → c ≡ d
one-content bodies page c d body h e s = spells-one body c d (subst (λ (b : List ℕ). Spells b c) (same_Some h.body body (sym h.there ∙ e)) h.spells) s

-- what edits cost in the log
pub cost-le : (es : List Edit) → redo_size es ≤ 76 + 7 * length es + sum_by edit_bytes es
cost-le es = omega (arith, sizes es)
  where
    one : (e : Edit) → edit_size e ≤ 7 + edit_bytes e
    one (Set at bytes) = omega arith
    one (Shift at len to) = omega arith
    one (Whole body) = omega arith

    sizes : (es : List Edit) → edits_size es ≤ 7 * length es + sum_by edit_bytes es
    sizes [] = omega arith
    sizes (e ∷ es) = omega (arith, one e, sizes es, sum_by-cons edit_bytes e es)

-- an edit takes no page away
pub count-grows : (file : FileName) (pages : ℕ) (counts : Counts) → counts file ≤ with_count file pages counts file
count-grows file pages counts = by (same_file file file)
  where
    by : (b : Bool) → counts file ≤ cond b (max (counts file) pages) (counts file)
    by true = omega arith
    by false = omega arith

-- a whole body put into a page
pub rewritten-whole : (file : FileName) (page : ℕ) (body : List ℕ) (bodies : Bodies) (c : Content) → IsSome (bodies file page) → IsBody body c → Rewritten file page c bodies (with_edits file page (Whole body ∷ []) bodies)
unfolding edited
rewritten-whole file page body bodies c some is =
    let test : (same_file file file && (page == page)) ≡ true = (λ i. same_file-refl file i && eq-eqb page page refl i) in
    record {
      here = record {
        body = body;
        there = ap (λ (t : Bool). cond t (option_map (all_edited (Whole body ∷ [])) (bodies file page)) (bodies file page)) test ∙ by (bodies file page) some;
        size = is.size;
        spells = is.spells;
      };
      other = λ f n e. ap (λ (t : Bool). cond t (option_map (all_edited (Whole body ∷ [])) (bodies f n)) (bodies f n)) e;
    }
  where
    by : (o : Option (List ℕ)) → IsSome o → option_map (all_edited (Whole body ∷ [])) o ≡ Some body
    by (Some b) s = refl
    by None s = absurd cc

-- a page that was not written holds what it held
pub still : (file : FileName) (page n : ℕ) (c d : Content) (old new : Bodies) → Rewritten file page c old new → (n ≡ page → ⊥) → HasContent (old file) n d → HasContent (new file) n d
still file page n c d old new w apart h =
    let test : (same_file file file && (page == n)) ≡ false = (λ i. same_file-refl file i && ne_eqb page n (λ e. apart (sym e)) i) in
    record { body = h.body; there = w.other file n test ∙ h.there; size = h.size; spells = h.spells }

-- a page in two
pub in-two : (file : FileName) (page fresh : ℕ) (c all : Content) (es : List Edit) (body between : List ℕ) (old mid new : Bodies) → HasContent (old file) page c → IsSplit c all es body between → IsSome (old file fresh) → (page ≡ fresh → ⊥)
    → mid ≡ with_edits file page es old → new ≡ with_edits file fresh (Whole body ∷ []) mid → IsDivided file page fresh all between old new
in-two file page fresh c all es body between old mid new h s some apart em en =
    let one : Rewritten file page (left_half all s.at) old mid = subst (Rewritten file page (left_half all s.at) old) (sym em) (rewritten file page es old c (left_half all s.at) h s.left) in
    let test : (same_file file file && (page == fresh)) ≡ false = (λ i. same_file-refl file i && ne_eqb page fresh apart i) in
    let there : IsSome (mid file fresh) = subst (λ (o : Option (List ℕ)). IsSome o) (sym (one.other file fresh test)) some in
    let two : Rewritten file fresh (right_half all s.at) mid new = subst (Rewritten file fresh (right_half all s.at) mid) (sym en) (rewritten-whole file fresh body mid (right_half all s.at) there s.right) in
    record {
      at = s.at;
      middle = s.middle;
      sizes = s.sizes;
      left = still file fresh page (right_half all s.at) (left_half all s.at) mid new two apart one.here;
      right = two.here;
      between_is = s.between;
      other = λ f n p q. two.other f n q ∙ one.other f n p;
    }

-- the body that a page has spells what it holds
pub held-spells : (bodies : ℕ → Option (List ℕ)) (page : ℕ) (c : Content) (body : List ℕ) → HasContent bodies page c → bodies page ≡ Some body → Spells body c
held-spells bodies page c body h e = subst (λ (b : List ℕ). Spells b c) (same_Some h.body body (sym h.there ∙ e)) h.spells

-- there are edits that halve a page
pub some-left : (c : Content) (es : List Edit) (right between : List ℕ) (body : List ℕ) → length body ≡ BODY_BYTES → Spells body c → IsSplit c c es right between → 1 ≤ length es
some-left c [] right between body e spells s =
    let same : c ≡ left_half c s.at = spells-one body c (left_half c s.at) spells (s.left.body body e spells) in
    absurd (omega (arith, ap (λ (k : Content). length k.items) same, length-take s.at c.items, s.sizes.more))
some-left c (x ∷ es) right between body e spells s = omega arith

-- What a write at the end of the log does, at each moment.
use Rattle.std.proofs.Common.{◌≡◌, inl, inr, ℕ, ◌+◌, ◌-◌, ◌≤◌, Bool, true, false, IsTrue, Option, None, Some, rules, List, [], ◌∷◌, ◌++◌, length, replicate, refl, ◌∙◌, ap, arith}
use Rattle.std.specs.Prelude.{IsSome}
use Rattle.std.specs.Option.{option_map}
use Rattle.std.proofs.lemmas.List.{append-nil}
use Rattle.aria_page.specs.Page.{zero_page}
use Rattle.aria_host.specs.Folder.{Folder, put_page, with_page}
use Rattle.aria_host.specs.State.{State}
use Rattle.aria_host.specs.Steps.{MayWrite}
use Rattle.aria_host.specs.Calls.{Writes}
use Rattle.aria_host.proofs.Files.{with_file-same, set_others, write_others}
use Rattle.aria_host.proofs.Moments.{OnlyNow, one_call}
use Rattle.aria_journal.specs.declared.log.Log.{Log as LogValue}
use Rattle.aria_journal.specs.LogPage.{read_log_page}
use Rattle.aria_journal.specs.Runs.{IsRun, IsPartOf, begins_next}
use Rattle.aria_journal.specs.Log.{log_file, SameOthers, IsImage, IsWriting, Fills, Wrote}
use Rattle.aria_journal.proofs.LogPages.{torn_reads}
use Rattle.aria_journal.proofs.Images.{part_length, part_longer, part_added, put_behind, run_added}

-- a file with these pages is there
pub is_there : (content : Option (List (List ℕ))) (pages : List (List ℕ)) → content ≡ Some pages → IsSome content
is_there None pages is = absurd (cc)
is_there (Some held) pages is = search rules

-- the file of the log where a page of it is written behind the end
page_put : (at : ℕ) (page : List ℕ) (d c : Folder) (base more : List (List ℕ)) (k : ℕ) → c ≡ with_page log_file at page d → d log_file ≡ Some (base ++ more) → at ≡ length base + k → length more ≤ k
    → c log_file ≡ Some (base ++ (more ++ (replicate (k - length more) zero_page ++ page ∷ [])))
page_put at page d c base more k is was place few =
    ap (λ (g : Folder). g log_file) is ∙ with_file-same log_file (option_map (put_page at page) (d log_file)) d
    ∙ ap (option_map (put_page at page)) was ∙ ap Some (put_behind base more page at k place few)

-- what a crash leaves of the log's file once a page was written behind the end
written_image : (at : ℕ) (page : List ℕ) (d c : Folder) (base written more : List (List ℕ)) → at ≡ length base + length written → d log_file ≡ Some (base ++ more) → IsPartOf (length base) written more
    → MayWrite log_file at page d c → (left : List (List ℕ)) × (c log_file ≡ Some (base ++ left)) × IsPartOf (length base) (written ++ page ∷ []) left
written_image at page d c base written more place was part (inl same) =
    (more, ap (λ (g : Folder). g log_file) same ∙ was, part_longer (length base) written (page ∷ []) more part)
written_image at page d c base written more place was part (inr (inl kept)) =
    let few = part_length (length base) written more part in (
      more ++ (replicate (length written - length more) zero_page ++ page ∷ []),
      page_put at page d c base more (length written) kept was place few,
      part_added (length base) at written more page page part place (inl refl),
    )
written_image at page d c base written more place was part (inr (inr (is, torn, size, broken, left))) =
    let few = part_length (length base) written more part in (
      more ++ (replicate (length written - length more) zero_page ++ torn ∷ []),
      page_put at torn d c base more (length written) left was place few,
      part_added (length base) at written more page torn part place (inr (torn_reads at torn broken)),
    )

-- a page is written at the end of a run
pub write_step : (log : LogValue) (old new : State) (done : Bool) (at : ℕ) (page : List ℕ) (base written : List (List ℕ)) (before held : List ℕ) → OnlyNow old → at ≡ length base + length written
    → read_log_page at page ≡ Some (begins_next written, held) → IsWriting false old base written before → Writes log_file at page old new done
    → (IsTrue done → Fills log (length base + (length written + 1)) false []) → Wrote log old new base written before held done
write_step log old new done at page base written before held only place reads is writes filled =
    let longer : IsRun true (length base) true (written ++ page ∷ []) (before ++ held) = run_added true (length base) at written before held page is.run place reads (inl refl) in
    let image : (c : Folder) (left : List (List ℕ)) → c log_file ≡ Some (base ++ left) → IsPartOf (length base) (written ++ page ∷ []) left → IsImage base (before ++ held) (c log_file) =
    λ c left content part. record { written = written ++ page ∷ []; more = left; before = before ++ held; ahead = []; content_is = content; run = longer; part = part; text_is = append-nil (before ++ held) } in
    let after : (c : Folder) → new.may_leave c → (left : List (List ℕ)) × (c log_file ≡ Some (base ++ left)) × IsPartOf (length base) (written ++ page ∷ []) left × (d : Folder) × old.may_leave d × SameOthers d c =
    λ c leaves. let (d, was, step) = writes.images c leaves in let (more, content, part) = is.images d was in
    let (left, now, kept) = written_image at page d c base written more place content part step in (left, now, kept, d, was, λ f other. write_others log_file f at page d c other step) in
    record {
      page = page;
      writing = λ finished closed ends. record {
        folder = page_put at page old.folder new.folder base written (length written) (writes.whole finished) is.folder place (omega arith)
            ∙ ap (λ (k : ℕ). Some (base ++ (written ++ (replicate k zero_page ++ page ∷ [])))) (let none : length written - length written ≡ 0 = omega arith in none);
        images = λ c leaves. let (left, now, kept, d, was, others) = after c leaves in (left, now, kept);
        run = run_added closed (length base) at written before held page is.run place reads ends;
      };
      fills = filled;
      keeps = one_call old new only writes.tells (λ f other. set_others log_file f (option_map (put_page at page) (old.folder log_file)) old.folder new.folder other writes.either)
          (λ c leaves. let (more, content, part) = is.images c leaves in image c more content (part_longer (length base) written (page ∷ []) more part))
          (λ c leaves. let (left, now, kept, d, was, others) = after c leaves in (image c left now kept, d, was, others));
    }

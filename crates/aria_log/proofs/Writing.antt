-- What a write at the end of the log does, at each moment.
use Rattle.std.proofs.Common.{◌≡◌, ◌==◌, ◌⊎◌, inl, inr, ℕ, zero, suc, ◌+◌, ◌-◌, ◌/◌, ◌%◌, ◌^◌, ◌<◌, ◌≤◌, Bool, true, false, IsTrue, cond, not, Option, None, Some, List, [], ◌∷◌, ◌++◌, length, take, refl, sym, ◌∙◌, ap, subst, arith, rules}
use Rattle.std.specs.Prelude.{IsSome, IsNone, All}
use Rattle.std.specs.Option.{option_map_or}
use Rattle.std.proofs.lemmas.Bool.{cases_Bool, eqb-true, eq-eqb}
use Rattle.std.proofs.lemmas.Grind.{flat_map-append}
use Rattle.std.proofs.lemmas.List.{append-nil, length_push}
use Rattle.std.proofs.lemmas.List.Elements.{All-head, All-tail}
use Rattle.aria_host.specs.declared.file_name.FileName.TheVariants.{Log}
use Rattle.aria_host.specs.Folder.{Folder, is_log, put_page, with_file, with_page}
use Rattle.aria_host.specs.Moments.{SameBut}
use Rattle.aria_host.specs.State.{State}
use Rattle.aria_host.specs.Steps.{MayWrite, MayMake}
use Rattle.aria_host.specs.Calls.{Writes, Creates}
use Rattle.aria_host.proofs.Moments.{OnlyNow, one_call, nothing_moves}
use Rattle.aria_log.specs.declared.log.Log.{Log as LogValue}
use Rattle.aria_log.specs.LogPage.{read_log_page}
use Rattle.aria_log.specs.Pieces.{Piece, Pieces, LogFiles, log_files, pieces_of}
use Rattle.aria_log.specs.Log.{LogMoments, HoldRun, HoldPart, AreFull, joined, file_of, behind, FilesStand, HoldsRun, IsImage, IsThere, IsWriting, Fills, Makes, Wrote}
use Rattle.aria_log.proofs.Counting.{differ_above, differ_below, below_unless_same, not_first, is_first, not_true, not_false}
use Rattle.aria_log.proofs.Fronts.{stand_same}
use Rattle.aria_log.proofs.PutPages.{none_isnt, others_stay, piece_put, MayPut, write_puts, pages_of, make_keeps}

-- whether the page behind these begins the run, where the first of them does or doesn't
abbrev pub begins_after : Bool → List (List ℕ) → Bool
begins_after begins [] = begins
begins_after begins (bytes ∷ parts) = false

never_again : (parts : List (List ℕ)) → begins_after false parts ≡ false
never_again [] = refl
never_again (bytes ∷ parts) = refl

-- the pages below are the same
part_same : (a b : Pieces) (n : ℕ) (begins : Bool) (parts : List (List ℕ)) → ((k : ℕ) → k < n + length parts → b k ≡ a k) → HoldPart a n begins parts → HoldPart b n begins parts
part_same a b n begins [] same part = tt
part_same a b n begins (bytes ∷ parts) same part = (
  elim part.0 [
    | inl kept ↦ inl (same n (omega arith) ∙ kept)
    | inr lost ↦ inr (same n (omega arith) ∙ lost)
  ],
  part_same a b (n + 1) false parts (λ k below. same k (omega (arith, below))) part.1,
)

pub run_same : (a b : Pieces) (n : ℕ) (begins : Bool) (parts : List (List ℕ)) → ((k : ℕ) → k < n + length parts → b k ≡ a k) → HoldRun a n begins parts → HoldRun b n begins parts
run_same a b n begins [] same run = tt
run_same a b n begins (bytes ∷ parts) same run = (same n (omega arith) ∙ run.0, run_same a b (n + 1) false parts (λ k below. same k (omega (arith, below))) run.1)

-- a page more
part_more : (pieces : Pieces) (n m : ℕ) (begins : Bool) (parts : List (List ℕ)) (bytes : List ℕ) → HoldPart pieces n begins parts → m ≡ n + length parts
    → ((pieces m ≡ Some (begins_after begins parts, bytes)) ⊎ (pieces m ≡ None)) → HoldPart pieces n begins (parts ++ bytes ∷ [])
part_more pieces n m begins [] bytes part at is = (subst (λ (k : ℕ). (pieces k ≡ Some (begins, bytes)) ⊎ (pieces k ≡ None)) (at ∙ omega arith) is, tt)
part_more pieces n m begins (b ∷ parts) bytes part at is = (
  part.0,
  part_more pieces (n + 1) m false parts bytes part.1 (at ∙ omega arith) (subst (λ (t : Bool). (pieces m ≡ Some (t, bytes)) ⊎ (pieces m ≡ None)) (sym (never_again parts)) is),
)

run_more : (pieces : Pieces) (n m : ℕ) (begins : Bool) (parts : List (List ℕ)) (bytes : List ℕ) → HoldRun pieces n begins parts → m ≡ n + length parts
    → pieces m ≡ Some (begins_after begins parts, bytes) → HoldRun pieces n begins (parts ++ bytes ∷ [])
run_more pieces n m begins [] bytes run at is = (ap pieces (let e : n ≡ m = omega (arith, at) in e) ∙ is, tt)
run_more pieces n m begins (b ∷ parts) bytes run at is = (
  run.0,
  run_more pieces (n + 1) m false parts bytes run.1 (at ∙ omega arith) (subst (λ (t : Bool). pieces m ≡ Some (t, bytes)) (sym (never_again parts)) is),
)

-- full pages, and one behind them
pub full_more : (parts : List (List ℕ)) (bytes : List ℕ) → All (λ (b : List ℕ). length b ≡ 8176) parts → AreFull (parts ++ bytes ∷ [])
full_more [] bytes full = tt
full_more (a ∷ []) bytes full = (All-head (λ (b : List ℕ). length b ≡ 8176) a [] full, tt)
full_more (a ∷ b ∷ parts) bytes full =
    (All-head (λ (b : List ℕ). length b ≡ 8176) a (b ∷ parts) full, full_more (b ∷ parts) bytes (All-tail (λ (b : List ℕ). length b ≡ 8176) a (b ∷ parts) full))

pub full_are : (parts : List (List ℕ)) → All (λ (b : List ℕ). length b ≡ 8176) parts → AreFull parts
full_are [] full = tt
full_are (a ∷ []) full = tt
full_are (a ∷ b ∷ parts) full =
    (All-head (λ (b : List ℕ). length b ≡ 8176) a (b ∷ parts) full, full_are (b ∷ parts) (All-tail (λ (b : List ℕ). length b ≡ 8176) a (b ∷ parts) full))

-- the bytes of a run and a page more
pub joined_push : (parts : List (List ℕ)) (bytes : List ℕ) → joined (parts ++ bytes ∷ []) ≡ joined parts ++ bytes
joined_push parts bytes = flat_map-append (λ (b : List ℕ). b) parts (bytes ∷ []) ∙ ap (λ (l : List ℕ). joined parts ++ l) (append-nil bytes)

-- the page behind
pub behind_push : (base : ℕ) (whole : List Piece) (parts : List (List ℕ)) (bytes : List ℕ) → behind base whole (parts ++ bytes ∷ []) ≡ behind base whole parts + 1
behind_push base whole parts bytes = omega (arith, length_push parts bytes)

-- ---- files

upto_or_above : (a b : ℕ) → (a ≤ b) ⊎ (b < a)
upto_or_above a b = grind arith

-- page k was put, or wasn't, behind a run: the files stand up to the next page
pub stand_put : (low k : ℕ) (found : Option Piece) (d c : Folder) → k < 2 ^ 34 - 1 → FilesStand (log_files d) low k → MayPut k found d c → FilesStand (log_files c) low (k + 1)
stand_put low k found d c limit stands put = record {
  here = elim (cases_Bool ((k + 1) % 1024 == 0)) [
    | inl first ↦ inr (eqb-true ((k + 1) % 1024) 0 first)
    | inr inside ↦ inl (subst (λ (f : ℕ). IsSome (c (Log f))) (not_first k inside) put.there)
  ];
  stand = λ f from below. elim (cases_Bool (k / 1024 == f)) [
    | inl same ↦ subst (λ (g : ℕ). IsSome (c (Log g))) (eqb-true (k / 1024) f same) put.there
    | inr other ↦ subst (λ (o : Option (List (List ℕ))). IsSome o) (sym (put.files f other)) (stands.stand f from (below_unless_same f (k / 1024) (omega (arith, below)) other))
  ];
  few = λ f from upto. elim (cases_Bool (k / 1024 == f)) [
    | inl same ↦ subst (λ (g : ℕ). option_map_or length (c (Log g)) 0 ≤ 1024) (eqb-true (k / 1024) f same) put.few
    | inr other ↦ elim (upto_or_above f (k / 1024)) [
      | inl upto' ↦ omega (arith, ap (λ (o : Option (List (List ℕ))). option_map_or length o 0) (put.files f other), stands.few f from upto')
      | inr above ↦ omega (arith, ap (λ (o : Option (List (List ℕ))). option_map_or length o 0) (put.files f other ∙ stands.none f above (in_reach f upto)))
    ]
  ];
  none = λ f above low'. put.files f (differ_above (k / 1024) f (omega (arith, above))) ∙ stands.none f (omega (arith, above)) low';
}
  where
    in_reach : (f : ℕ) → f ≤ (k + 1) / 1024 → f < 2 ^ 24
    in_reach f upto = omega (arith, upto, limit)

-- a page of zeros was put ahead in the file of page k: the files stand as they did
pub stand_ahead : (low k m : ℕ) (d c : Folder) → k / 1024 ≡ m / 1024 → FilesStand (log_files d) low k → MayPut m None d c → FilesStand (log_files c) low k
stand_ahead low k m d c same_file stands put = record {
  here = inl (subst (λ (f : ℕ). IsSome (c (Log f))) (sym same_file) put.there);
  stand = λ f from below. subst (λ (o : Option (List (List ℕ))). IsSome o) (sym (put.files f (differ_below (m / 1024) f (omega (arith, below, same_file))))) (stands.stand f from below);
  few = λ f from upto. elim (cases_Bool (m / 1024 == f)) [
    | inl same ↦ subst (λ (g : ℕ). option_map_or length (c (Log g)) 0 ≤ 1024) (eqb-true (m / 1024) f same) put.few
    | inr other ↦ omega (arith, ap (λ (o : Option (List (List ℕ))). option_map_or length o 0) (put.files f other), stands.few f from upto)
  ];
  none = λ f above low'. put.files f (differ_above (m / 1024) f (omega (arith, above, same_file))) ∙ stands.none f above low';
}

-- the file of page k is made, or isn't: the files stand as they did
stand_made : (low k : ℕ) (d c : Folder) → k % 1024 ≡ 0 → FilesStand (log_files d) low k → ((g : ℕ) → (k / 1024 == g) ≡ false → c (Log g) ≡ d (Log g)) → option_map_or length (c (Log (k / 1024))) 0 ≤ 1024 → FilesStand (log_files c) low k
stand_made low k d c first stands files few = record {
  here = inr first;
  stand = λ f from below. subst (λ (o : Option (List (List ℕ))). IsSome o) (sym (files f (differ_below (k / 1024) f below))) (stands.stand f from below);
  few = λ f from upto. elim (cases_Bool (k / 1024 == f)) [
    | inl same ↦ subst (λ (g : ℕ). option_map_or length (c (Log g)) 0 ≤ 1024) (eqb-true (k / 1024) f same) few
    | inr other ↦ omega (arith, ap (λ (o : Option (List (List ℕ))). option_map_or length o 0) (files f other), stands.few f from upto)
  ];
  none = λ f above low'. files f (differ_above (k / 1024) f above) ∙ stands.none f above low';
}

-- whether the file of the next page is there, once page k was put
pub there_put : (k low : ℕ) (found : Option Piece) (d c : Folder) → k < 2 ^ 34 - 1 → FilesStand (log_files d) low k → MayPut k found d c → (there : Bool) → there ≡ (not ((k + 1) % 1024 == 0)) → IsThere there (log_files c) (k + 1)
there_put k low found d c limit stands put true is = subst (λ (f : ℕ). IsSome (c (Log f))) (not_first k (not_true ((k + 1) % 1024 == 0) (sym is))) put.there
there_put k low found d c limit stands put false is =
    let next : (k + 1) / 1024 ≡ k / 1024 + 1 = is_first k (not_false ((k + 1) % 1024 == 0) (sym is)) in
    put.files ((k + 1) / 1024) (differ_above (k / 1024) ((k + 1) / 1024) (omega (arith, next))) ∙ stands.none ((k + 1) / 1024) (omega (arith, next)) (omega (arith, limit))

-- ---- what holds a run

-- Page k was put behind a run, or wasn't: a run with that page.
pub run_longer : (base k : ℕ) (whole : List Piece) (parts : List (List ℕ)) (bytes : List ℕ) (d c : Folder) → k ≡ behind base whole parts → k < 2 ^ 34 - 1 → HoldsRun base whole parts (log_files d)
    → MayPut k (Some (begins_after true parts, bytes)) d c → HoldsRun base whole (parts ++ bytes ∷ []) (log_files c)
run_longer base k whole parts bytes d c at limit holds put =
    let below : (m : ℕ) → m < k → pieces_of (log_files c) m ≡ pieces_of (log_files d) m = λ m less. put.same m (differ_below k m less) in
    let next : behind base whole (parts ++ bytes ∷ []) ≡ k + 1 = behind_push base whole parts bytes ∙ omega (arith, at) in
    record {
      stand = stand_same (pieces_of (log_files d)) (pieces_of (log_files c)) (base / 8176) true whole (λ m from less. below m (omega (arith, less, at))) holds.stand;
      part = part_more (pieces_of (log_files c)) (base / 8176 + length whole) k true parts bytes
          (part_same (pieces_of (log_files d)) (pieces_of (log_files c)) (base / 8176 + length whole) true parts (λ m less. below m (omega (arith, less, at))) holds.part) at put.this;
      none = λ m from. put.same m (differ_above k m (omega (arith, from, next))) ∙ holds.none m (omega (arith, from, next, at));
      files = subst (λ (n : ℕ). FilesStand (log_files c) (file_of base) n) (sym next)
          (stand_put (file_of base) k (Some (begins_after true parts, bytes)) d c limit (subst (λ (n : ℕ). FilesStand (log_files d) (file_of base) n) (sym at) holds.files) put);
    }

-- no page changed but for the files that hold them
pub run_same_pages : (base : ℕ) (whole : List Piece) (parts : List (List ℕ)) (d c : LogFiles) → HoldsRun base whole parts d → ((n : ℕ) → pieces_of c n ≡ pieces_of d n) → FilesStand c (file_of base) (behind base whole parts)
    → HoldsRun base whole parts c
run_same_pages base whole parts d c holds same files = record {
  stand = stand_same (pieces_of d) (pieces_of c) (base / 8176) true whole (λ m from less. same m) holds.stand;
  part = part_same (pieces_of d) (pieces_of c) (base / 8176 + length whole) true parts (λ m less. same m) holds.part;
  none = λ m from. same m ∙ holds.none m from;
  files = files;
}

-- a run that is held is a part of itself
pub run_part : (pieces : Pieces) (n : ℕ) (begins : Bool) (parts : List (List ℕ)) → HoldRun pieces n begins parts → HoldPart pieces n begins parts
run_part pieces n begins [] run = tt
run_part pieces n begins (bytes ∷ parts) run = (inl run.0, run_part pieces (n + 1) false parts run.1)

-- ---- calls

-- what one image is after a page was written
image_written : (base k : ℕ) (whole : List Piece) (parts : List (List ℕ)) (bytes page : List ℕ) (there : Bool) (d c : Folder) → k ≡ behind base whole parts → k < 2 ^ 34 - 1 → read_log_page k page ≡ Some (begins_after true parts, bytes)
    → there ≡ (not ((k + 1) % 1024 == 0)) → HoldsRun base whole parts (log_files d) → IsThere true (log_files d) (behind base whole parts) → MayWrite (Log (k / 1024)) (k % 1024) page d c
    → HoldsRun base whole (parts ++ bytes ∷ []) (log_files c) × IsThere there (log_files c) (behind base whole (parts ++ bytes ∷ [])) × SameBut is_log d c
image_written base k whole parts bytes page there d c at limit reads there_is holds now step =
    let (pages, was) = pages_of (d (Log (k / 1024))) (subst (λ (n : ℕ). IsSome (d (Log (n / 1024)))) (sym at) now) in
    let few : length pages ≤ 1024 = omega (arith, ap (λ (o : Option (List (List ℕ))). option_map_or length o 0) was, holds.files.few (k / 1024) (reach base k whole parts at) (omega (arith, at))) in
    let put = subst (λ (o : Option Piece). MayPut k o d c) reads (write_puts k page d c pages step was few (holds.none k (omega (arith, at)))) in
    let next : behind base whole (parts ++ bytes ∷ []) ≡ k + 1 = behind_push base whole parts bytes ∙ omega (arith, at) in (
      run_longer base k whole parts bytes d c at limit holds put,
      subst (λ (n : ℕ). IsThere there (log_files c) n) (sym next)
          (there_put k (file_of base) (Some (begins_after true parts, bytes)) d c limit (subst (λ (n : ℕ). FilesStand (log_files d) (file_of base) n) (sym at) holds.files) put there there_is),
      put.others,
    )
  where
    reach : (base k : ℕ) (whole : List Piece) (parts : List (List ℕ)) → k ≡ behind base whole parts → file_of base ≤ k / 1024
    reach base k whole parts at = omega (arith, at)

-- a whole run is an image of its bytes
pub run_is_image : (base : ℕ) (whole : List Piece) (parts : List (List ℕ)) (ahead text : List ℕ) (files : LogFiles) → HoldsRun base whole parts files → AreFull parts → joined parts ++ ahead ≡ text → IsImage base whole text files
run_is_image base whole parts ahead text files holds full is = record { parts = parts; ahead = ahead; holds = holds; full = full; text_is = is }

-- a page is written at the end of a run
pub write_step : (log : LogValue) (old new : State) (done : Bool) (k : ℕ) (page : List ℕ) (base : ℕ) (whole : List Piece) (parts : List (List ℕ)) (held : List ℕ) → OnlyNow old → k ≡ behind base whole parts → k < 2 ^ 34 - 1
    → read_log_page k page ≡ Some (begins_after true parts, held) → IsWriting old base whole parts true → All (λ (bytes : List ℕ). length bytes ≡ 8176) parts → Writes (Log (k / 1024)) (k % 1024) page old new done
    → (IsTrue done → log.there ≡ (not ((k + 1) % 1024 == 0))) → (IsTrue done → Fills log (behind base whole parts + 1) []) → Wrote log old new base whole parts held done
write_step log old new done k page base whole parts held only at limit reads is full writes there filled =
    let next : Bool = not ((k + 1) % 1024 == 0) in
    let after : (c : Folder) → new.may_leave c → HoldsRun base whole (parts ++ held ∷ []) (log_files c) × IsThere next (log_files c) (behind base whole (parts ++ held ∷ [])) × (d : Folder) × old.may_leave d × SameBut is_log d c =
    λ c leaves. let (d, was, step) = writes.images c leaves in let (run, now, others) = image_written base k whole parts held page next d c at limit reads refl (is.images d was) (is.each d was) step in (run, now, d, was, others) in
    let text : joined (parts ++ held ∷ []) ++ [] ≡ joined parts ++ held = append-nil (joined (parts ++ held ∷ [])) ∙ joined_push parts held in
    let written : IsTrue done → IsWriting new base whole (parts ++ held ∷ []) next =
    λ finished.
    let now = image_written base k whole parts held page next old.folder new.folder at limit reads refl is.reads is.now (inr (inl (writes.whole finished))) in
    record {
      run = longer_run finished;
      reads = now.0;
      now = now.1;
      images = λ c leaves. (after c leaves).0;
      each = λ c leaves. (after c leaves).1;
    } in
    record {
      writing = λ finished. subst (λ (b : Bool). IsWriting new base whole (parts ++ held ∷ []) b) (sym (there finished)) (written finished);
      fills = filled;
      keeps = one_call old new only writes.tells (others_stay (k / 1024) _ old.folder new.folder writes.either)
          (λ c leaves. run_is_image base whole parts held (joined parts ++ held) (log_files c) (is.images c leaves) (full_are parts full) refl)
          (λ c leaves. let (run, now, d, was, others) = after c leaves in (run_is_image base whole (parts ++ held ∷ []) [] (joined parts ++ held) (log_files c) run (full_more parts held full) text, d, was, others));
    }
  where
    longer_run : IsTrue done → HoldRun (pieces_of (log_files new.folder)) (base / 8176 + length whole) true (parts ++ held ∷ [])
    longer_run finished =
        let (pages, was) = pages_of (old.folder (Log (k / 1024))) (subst (λ (n : ℕ). IsSome (old.folder (Log (n / 1024)))) (sym at) is.now) in
        let put : (n : ℕ) → pieces_of (log_files new.folder) n ≡ cond (k == n) (read_log_page n page) (pieces_of (log_files old.folder) n) = λ n. piece_put k n page old.folder new.folder pages (writes.whole finished) was in
        let here : pieces_of (log_files new.folder) k ≡ Some (begins_after true parts, held) =
        put k ∙ ap (λ (b : Bool). cond b (read_log_page k page) (pieces_of (log_files old.folder) k)) (eq-eqb k k refl) ∙ reads in
        run_more (pieces_of (log_files new.folder)) (base / 8176 + length whole) k true parts held
        (run_same (pieces_of (log_files old.folder)) (pieces_of (log_files new.folder)) (base / 8176 + length whole) true parts
        (λ m less. put m ∙ ap (λ (b : Bool). cond b (read_log_page m page) (pieces_of (log_files old.folder) m)) (differ_below k m (omega (arith, less, at)))) is.run)
        at here

-- The file of the page behind a run is made, where it isn't there.
pub make_step : (old new : State) (done : Bool) (k base : ℕ) (whole : List Piece) (parts : List (List ℕ)) → OnlyNow old → k ≡ behind base whole parts → IsWriting old base whole parts false → Creates (Log (k / 1024)) old new done
    → Makes old new base whole parts done
make_step old new done k base whole parts only at is creates =
    let image : (c d : Folder) (b : Bool) → HoldsRun base whole parts (log_files d) → IsThere false (log_files d) (behind base whole parts) → MayMake (Log (k / 1024)) (Some []) b d c
    → HoldsRun base whole parts (log_files c) × (b ≡ true → IsSome (c (Log (k / 1024)))) × SameBut is_log d c =
    λ c d b holds absent step.
    let (same, files, few, there, others) = make_keeps (k / 1024) b d c step (ap (λ (n : ℕ). d (Log (n / 1024))) at ∙ absent) in (
      run_same_pages base whole parts (log_files d) (log_files c) holds same
          (subst (λ (n : ℕ). FilesStand (log_files c) (file_of base) n) at (stand_made (file_of base) k d c (first_page d holds absent) (subst (λ (n : ℕ). FilesStand (log_files d) (file_of base) n) (sym at) holds.files) files few)),
      there,
      others,
    ) in
    let after : (c : Folder) → new.may_leave c → HoldsRun base whole parts (log_files c) × (done ≡ true → IsSome (c (Log (k / 1024)))) × (d : Folder) × old.may_leave d × SameBut is_log d c =
    λ c leaves. let (d, was, step) = creates.images c leaves in let (run, there, others) = image c d done (is.images d was) (is.each d was) step in (run, there, d, was, others) in
    record {
      writing = λ finished.
          let now = image new.folder old.folder true is.reads is.now (inl (creates.whole finished)) in
          record {
            run = run_same (pieces_of (log_files old.folder)) (pieces_of (log_files new.folder)) (base / 8176 + length whole) true parts
                (λ m less. (make_keeps (k / 1024) true old.folder new.folder (inl (creates.whole finished)) (ap (λ (n : ℕ). old.folder (Log (n / 1024))) at ∙ is.now)).0 m) is.run;
            reads = now.0;
            now = subst (λ (n : ℕ). IsSome (new.folder (Log (n / 1024)))) at (now.1 refl);
            images = λ c leaves. (after c leaves).0;
            each = λ c leaves. subst (λ (n : ℕ). IsSome (c (Log (n / 1024)))) at ((after c leaves).1 (is_true done finished));
          };
      keeps = one_call old new only creates.tells (others_stay (k / 1024) (Some []) old.folder new.folder creates.either) is.images (λ c leaves. let (run, there, d, was, others) = after c leaves in (run, d, was, others));
    }
  where
    first_page : (d : Folder) → HoldsRun base whole parts (log_files d) → IsThere false (log_files d) (behind base whole parts) → k % 1024 ≡ 0
    first_page d holds absent = elim holds.files.here [
      | inl some ↦ absurd (none_isnt (d (Log (behind base whole parts / 1024))) absent some)
      | inr first ↦ ap (λ (n : ℕ). n % 1024) at ∙ first
    ]

    is_true : (b : Bool) → IsTrue b → b ≡ true
    is_true true t = refl
    is_true false t = absurd (cc)

-- the file of the page behind a run is there already
pub made_already : (s : State) (base : ℕ) (whole : List Piece) (parts : List (List ℕ)) → OnlyNow s → IsWriting s base whole parts true → Makes s s base whole parts true
made_already s base whole parts only is = record { writing = λ done. is; keeps = nothing_moves s only is.images }

-- the file of the page behind a run isn't there
pub absent_file : (s : State) (number f base : ℕ) (whole : List Piece) (parts : List (List ℕ)) → number ≡ behind base whole parts → f ≡ number / 1024 → IsWriting s base whole parts false → IsNone (s.folder (Log f))
absent_file s number f base whole parts at file is =
    none_is (s.folder (Log f)) (ap (λ (g : ℕ). s.folder (Log g)) (file ∙ ap (λ (n : ℕ). n / 1024) at) ∙ is.now)
  where
    none_is : (o : Option (List (List ℕ))) → o ≡ None → IsNone o
    none_is None e = search rules
    none_is (Some pages) e = absurd (cc)

-- and once it was made it is
pub present_file : (s : State) (number f base : ℕ) (whole : List Piece) (parts : List (List ℕ)) → number ≡ behind base whole parts → f ≡ number / 1024 → IsWriting s base whole parts true → IsSome (s.folder (Log f))
present_file s number f base whole parts at file is = subst (λ (g : ℕ). IsSome (s.folder (Log g))) (sym (file ∙ ap (λ (n : ℕ). n / 1024) at)) is.now

-- the test whether a page begins its run
pub begins_test : (number first base : ℕ) (whole : List Piece) (parts : List (List ℕ)) → number ≡ behind base whole parts → first ≡ base / 8176 + length whole → (number == first) ≡ begins_after true parts
begins_test number first base whole [] at is = eq-eqb number first (omega (arith, at, is))
begins_test number first base whole (bytes ∷ parts) at is = differ_below number first (omega (arith, at, is))

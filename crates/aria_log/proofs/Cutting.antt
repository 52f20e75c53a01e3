-- The log's last file is cut to the log's end, and a log that was opened is started.
use Rattle.std.proofs.Common.{◌≡◌, ◌==◌, ◌⊎◌, inl, inr, ℕ, zero, suc, ◌+◌, ◌-◌, ◌*◌, ◌/◌, ◌%◌, ◌^◌, ◌<◌, ◌≤◌, Bool, true, false, IsTrue, Option, None, Some, List, [], ◌∷◌, length, take, drop, refl, sym, ◌∙◌, ap, subst, arith}
use Rattle.std.specs.Prelude.{IsSome}
use Rattle.std.specs.Option.{option_map, option_map_or}
use Rattle.std.proofs.lemmas.Bool.{cases_Bool, cases_lt, eqb-true}
use Rattle.std.proofs.lemmas.List.{length-take, get_or-take, get_or_past, append-nil}
use Rattle.std.proofs.lemmas.List.Elements.{All-nil}
use Rattle.std.proofs.lemmas.Option.{same_Some}
use Rattle.aria_page.specs.Page.{zero_page}
use Rattle.aria_record.specs.Groups.{IsGroup}
use Rattle.aria_host.specs.declared.file_name.FileName.TheVariants.{Log}
use Rattle.aria_host.specs.Folder.{Folder, is_log, with_cut}
use Rattle.aria_host.specs.Moments.{SameBut}
use Rattle.aria_host.specs.State.{State}
use Rattle.aria_host.specs.declared.host.Extent.{Extent}
use Rattle.aria_host.specs.Calls.{Cuts, Removes, Syncs, Unchanged, extent_of}
use Rattle.aria_host.specs.Seen.{page_or_zero}
use Rattle.aria_host.proofs.Files.{with_file-same, with_file-other}
use Rattle.aria_host.proofs.Moments.{OnlyNow, nothing_moves, one_call, one_look, one_after, looks, sync_narrows}
use Rattle.aria_log.specs.declared.log.Log.{Log as LogValue}
use Rattle.aria_log.specs.LogPage.{log_body, read_log_page}
use Rattle.aria_log.specs.Pieces.{Piece, Pieces, LogFiles, log_files, pieces_of, Stand, is_full}
use Rattle.aria_record.specs.Logged.{Logged}
use Rattle.aria_log.specs.Groups.{groups_from}
use Rattle.aria_log.specs.Files.{IsSoundLog}
use Rattle.aria_log.specs.Log.{LogMoments, file_of, behind, FilesStand, HoldsRun, IsThere, IsLog, AreAtRest, IsOpened, HoldsAll, Starts, EndsAt, HasNoLog, Cutting}
use Rattle.aria_log.proofs.LogPages.{zero_reads}
use Rattle.aria_log.proofs.Counting.{differ_above, below_or_same, above_unless_same, not_first}
use Rattle.aria_log.proofs.Fronts.{next_none}
use Rattle.aria_log.proofs.PutPages.{others_stay, there_is, none_isnt}
use Rattle.aria_log.proofs.Images.{next_some, no_bytes}
use Rattle.aria_log.proofs.Starting.{none_reads, other_reads, high_piece, Shorter, shorter_front, shorter_sound, shorter_holds, shorter_again, same_shorter, low_base, rest_shorter, rest_holds, opened_shorter, remove_step}

-- a page of a file that was cut
cut_reads : (a b : LogFiles) (n at : ℕ) (pages : List (List ℕ)) → a (n / 1024) ≡ Some pages → b (n / 1024) ≡ Some (take at pages) → n % 1024 < at → pieces_of b n ≡ pieces_of a n
unfolding pieces_of
cut_reads a b n at pages was now below =
    ap (λ (o : Option (List (List ℕ))). read_log_page n (page_or_zero (n % 1024) o)) now ∙ ap (read_log_page n) (get_or-take at pages (n % 1024) zero_page below)
    ∙ sym (ap (λ (o : Option (List (List ℕ))). read_log_page n (page_or_zero (n % 1024) o)) was)

-- a page past the end of a file
past_reads : (files : LogFiles) (n : ℕ) (pages : List (List ℕ)) → files (n / 1024) ≡ Some pages → length pages ≤ n % 1024 → pieces_of files n ≡ None
unfolding pieces_of
past_reads files n pages is past =
    ap (λ (o : Option (List (List ℕ))). read_log_page n (page_or_zero (n % 1024) o)) is ∙ ap (read_log_page n) (get_or_past pages (n % 1024) zero_page past) ∙ zero_reads n

-- the last file was cut to the log's end
cut_shorter : (end base : ℕ) (d c : Folder) (pages : List (List ℕ)) → base / 8176 ≤ end → c ≡ with_cut (Log (end / 1024)) (end % 1024) d → d (Log (end / 1024)) ≡ Some pages → IsSoundLog (log_files d) base end
    → Shorter (log_files d) (log_files c) (base / 8176) end × (c (Log (end / 1024)) ≡ Some (take (end % 1024) pages)) × ((f : ℕ) → (end / 1024 == f) ≡ false → c (Log f) ≡ d (Log f))
cut_shorter end base d c pages upto is was sound =
    let content : Option (List (List ℕ)) = option_map (take (end % 1024)) (d (Log (end / 1024))) in
    let here : c (Log (end / 1024)) ≡ Some (take (end % 1024) pages) = ap (λ (x : Folder). x (Log (end / 1024))) is ∙ with_file-same (Log (end / 1024)) content d ∙ ap (option_map (take (end % 1024))) was in
    let other : (f : ℕ) → (end / 1024 == f) ≡ false → c (Log f) ≡ d (Log f) = λ f apart. ap (λ (x : Folder). x (Log f)) is ∙ with_file-other (Log (end / 1024)) (Log f) content d apart in
    let at : (f : ℕ) → (end / 1024 == f) ≡ true → (d (Log f) ≡ Some pages) × (c (Log f) ≡ Some (take (end % 1024) pages)) =
    λ f same. let e : end / 1024 ≡ f = eqb-true (end / 1024) f same in (ap (λ (g : ℕ). d (Log g)) (sym e) ∙ was, ap (λ (g : ℕ). c (Log g)) (sym e) ∙ here) in (
      record {
        here = elim sound.here [
          | inr first ↦ inr first
          | inl some ↦ inl (still (base / 8176 / 1024) at other some)
        ];
        below = λ n from low. elim (cases_Bool (end / 1024 == n / 1024)) [
          | inl same ↦ let both = at (n / 1024) same in cut_reads (log_files d) (log_files c) n (end % 1024) pages both.0 both.1 (inside n low same)
          | inr apart ↦ other_reads (log_files d) (log_files c) n (other (n / 1024) apart)
        ];
        from = λ n from. elim (cases_Bool (end / 1024 == n / 1024)) [
          | inl same ↦ inr (past_reads (log_files c) n (take (end % 1024) pages) (at (n / 1024) same).1 (omega (arith, length-take (end % 1024) pages, past n from same)))
          | inr apart ↦ inl (other_reads (log_files d) (log_files c) n (other (n / 1024) apart))
        ];
        stand = λ f g from less low some. still f at other (sound.stand f g from less low (was_some g at other some));
        few = λ f from low. elim (cases_Bool (end / 1024 == f)) [
          | inl same ↦ omega (arith, ap (λ (o : Option (List (List ℕ))). option_map_or length o 0) (at f same).1, length-take (end % 1024) pages)
          | inr apart ↦ omega (arith, ap (λ (o : Option (List (List ℕ))). option_map_or length o 0) (other f apart), sound.few f from low)
        ];
      },
      here,
      other,
    )
  where
    inside : (n : ℕ) → n < end → (end / 1024 == n / 1024) ≡ true → n % 1024 < end % 1024
    inside n low same = let e : end / 1024 ≡ n / 1024 = eqb-true (end / 1024) (n / 1024) same in omega (arith, e, low)

    past : (n : ℕ) → end ≤ n → (end / 1024 == n / 1024) ≡ true → end % 1024 ≤ n % 1024
    past n from same = let e : end / 1024 ≡ n / 1024 = eqb-true (end / 1024) (n / 1024) same in omega (arith, e, from)

    still : (f : ℕ) → ((g : ℕ) → (end / 1024 == g) ≡ true → (d (Log g) ≡ Some pages) × (c (Log g) ≡ Some (take (end % 1024) pages))) → ((g : ℕ) → (end / 1024 == g) ≡ false → c (Log g) ≡ d (Log g)) → IsSome (d (Log f)) → IsSome (c (Log f))
    still f at' other' some = elim (cases_Bool (end / 1024 == f)) [
      | inl same ↦ there_is ((at' f same).1)
      | inr apart ↦ subst (λ (o : Option (List (List ℕ))). IsSome o) (sym (other' f apart)) some
    ]

    was_some : (f : ℕ) → ((g : ℕ) → (end / 1024 == g) ≡ true → (d (Log g) ≡ Some pages) × (c (Log g) ≡ Some (take (end % 1024) pages))) → ((g : ℕ) → (end / 1024 == g) ≡ false → c (Log g) ≡ d (Log g)) → IsSome (c (Log f)) → IsSome (d (Log f))
    was_some f at' other' some = elim (cases_Bool (end / 1024 == f)) [
      | inl same ↦ there_is ((at' f same).0)
      | inr apart ↦ subst (λ (o : Option (List (List ℕ))). IsSome o) (other' f apart) some
    ]

-- the file was cut, or that failed
pub cut_step : (log : LogValue) (old new : State) (done : Bool) (base : ℕ) (groups : List Logged) (end : ℕ) (pages : List (List ℕ)) → OnlyNow old → (is : IsOpened log old base groups (end / 1024)) → log.number ≡ end
    → old.folder (Log (end / 1024)) ≡ Some pages → Cuts (Log (end / 1024)) (end % 1024) old new done → Cutting log old new base groups (end / 1024) done
cut_step log old new done base groups end pages only is number there cuts =
    let at : base / 8176 + length is.whole ≡ end = sym is.fills.number_is ∙ number in
    let low : file_of base < 2 ^ 24 = low_base base is.whole is.low in
    let short : (d c : Folder) → ((f : ℕ) → file_of base ≤ f → f < 2 ^ 24 → log_files d f ≡ log_files old.folder f) → c ≡ with_cut (Log (end / 1024)) (end % 1024) d
    → Shorter (log_files old.folder) (log_files c) (base / 8176) (base / 8176 + length is.whole) × (c (Log (end / 1024)) ≡ Some (take (end % 1024) pages)) × ((f : ℕ) → (end / 1024 == f) ≡ false → c (Log f) ≡ d (Log f)) =
    λ d c same e.
    let here = same_shorter (log_files old.folder) (log_files d) base (length is.whole) low same is.sound in
    let front = shorter_front (log_files old.folder) (log_files d) (base / 8176) is.whole here is.front in
    let sound = subst (λ (k : ℕ). IsSoundLog (log_files d) base k) at (shorter_sound (log_files old.folder) (log_files d) base is.whole here is.based front.stand is.sound) in
    let (more, now, other) = cut_shorter end base d c pages (omega (arith, at)) e (same (end / 1024) (omega (arith, at)) (omega (arith, at, is.low)) ∙ there) sound in
    (shorter_again (log_files old.folder) (log_files d) (log_files c) (base / 8176) (base / 8176 + length is.whole) here (subst (λ (k : ℕ). Shorter (log_files d) (log_files c) (base / 8176) k) (sym at) more), now, other) in
    let after : (c : Folder) → new.may_leave c → HoldsAll base groups (log_files c) × IsSome (c (Log (end / 1024))) × ((f : ℕ) → file_of base ≤ f → f < 2 ^ 24 → (end / 1024 == f) ≡ false → c (Log f) ≡ old.folder (Log f)) × (d : Folder) × old.may_leave d × SameBut is_log d c =
    λ c leaves.
    let (d, was, step) = cuts.images c leaves in
    elim step [
      | inl stays ↦ (
        subst (λ (x : Folder). HoldsAll base groups (log_files x)) (sym stays) (rest_holds log old base groups (end / 1024) is d was),
        there_is (ap (λ (x : Folder). x (Log (end / 1024))) stays ∙ is.rest d was (end / 1024) (omega (arith, at)) (omega (arith, at, is.low)) ∙ there),
        λ f from low' apart. ap (λ (x : Folder). x (Log f)) stays ∙ is.rest d was f from low',
        d,
        was,
        λ g other. ap (λ (x : Folder). x g) stays,
      )
      | inr cut ↦ let (more, now, other) = short d c (is.rest d was) cut in (
        shorter_holds log old base groups (end / 1024) (log_files c) is more,
        there_is (now),
        λ f from low' apart. other f apart ∙ is.rest d was f from low',
        d,
        was,
        others_stay (end / 1024) (option_map (take (end % 1024)) (d (Log (end / 1024)))) d c (inr cut),
      )
    ] in
    record {
      keeps = one_call old new only cuts.tells (others_stay (end / 1024) _ old.folder new.folder cuts.either) (rest_holds log old base groups (end / 1024) is)
          (λ c leaves. let (holds, some, same, d, was, others) = after c leaves in (holds, d, was, others));
      now = λ c leaves. let (holds, some, same, d, was, others) = after c leaves in holds;
      some = λ c leaves. let (holds, some, same, d, was, others) = after c leaves in some;
      same = λ c leaves f from low' apart. let (holds, some, same, d, was, others) = after c leaves in same f from low' apart ∙ sym (folder_same cuts.either f apart);
      opened = λ finished s same rest.
          let short_now = short old.folder s.folder (λ f from low'. refl) (same ∙ cuts.whole finished) in
          opened_shorter log old s base groups (end / 1024) (end / 1024) is short_now.0 rest (λ over. absurd (omega (arith, over, at)))
          (λ f over past low'. short_now.2 f (above f past) ∙ is.none f over past low');
    }
  where
    above : (f : ℕ) → end / 1024 < f → (end / 1024 == f) ≡ false
    above f past = differ_above (end / 1024) f past

    folder_same : (new.folder ≡ old.folder) ⊎ (new.folder ≡ with_cut (Log (end / 1024)) (end % 1024) old.folder) → (f : ℕ) → (end / 1024 == f) ≡ false → new.folder (Log f) ≡ old.folder (Log f)
    folder_same (inl same) f apart = ap (λ (x : Folder). x (Log f)) same
    folder_same (inr made) f apart = ap (λ (x : Folder). x (Log f)) made ∙ with_file-other (Log (end / 1024)) (Log f) (option_map (take (end % 1024)) (old.folder (Log (end / 1024)))) old.folder apart

-- the file was brought to the disk once it was cut, or that failed
pub cut_synced : (log : LogValue) (old mid new : State) (done : Bool) (base : ℕ) (groups : List Logged) (file : ℕ) → OnlyNow mid → Cutting log old mid base groups file true → Syncs (Log file) mid new done
    → (IsTrue done → IsOpened log new base groups file) × LogMoments old new (HoldsAll base groups)
cut_synced log old mid new done base groups file only cutting syncs = (
  λ finished.
      let rest : AreAtRest new (file_of base) =
      λ c leaves f from low. elim (cases_Bool (file == f)) [
        | inr apart ↦ cutting.same c (syncs.no_more c leaves) f from low apart ∙ ap (λ (x : Folder). x (Log f)) (sym syncs.folder)
        | inl same ↦
            let e : file ≡ f = eqb-true file f same in
            let here : c (Log file) ≡ mid.folder (Log file) = syncs.durable finished c leaves (cutting.some c (syncs.no_more c leaves)) in
            ap (λ (g : ℕ). c (Log g)) (sym e) ∙ here ∙ ap (λ (g : ℕ). mid.folder (Log g)) e ∙ ap (λ (x : Folder). x (Log f)) (sym syncs.folder)
      ] in
      cutting.opened refl new syncs.folder rest,
  one_after old mid new cutting.keeps (one_look mid new only (sync_narrows mid new syncs) cutting.now),
)

-- a look leaves an opened log in each image
pub look_keeps : (log : LogValue) (old new : State) (base : ℕ) (groups : List Logged) (last : ℕ) → OnlyNow old → Unchanged old new → IsOpened log old base groups last → LogMoments old new (HoldsAll base groups)
look_keeps log old new base groups last only same is = one_look old new only (looks old new same) (rest_holds log old base groups last is)

-- ---- a started log

-- the last of pieces that stand
last_piece : (pieces : Pieces) (n : ℕ) (may : Bool) (p : Piece) (ps : List Piece) → Stand pieces n may (p ∷ ps) → (q : Piece) × (pieces (n + length ps) ≡ Some q)
last_piece pieces n may p [] stand = (p, ap pieces (let e : n + 0 ≡ n = omega arith in e) ∙ next_some pieces n may p stand.0)
last_piece pieces n may p (q ∷ ps) stand =
    let (last, is) = last_piece pieces (n + 1) (is_full p) q ps stand.1 in
    (last, ap pieces (let e : n + suc (length ps) ≡ n + 1 + length ps = omega arith in e) ∙ is)

-- a file is there whose page holds something
pub piece_there : (files : LogFiles) (n : ℕ) (p : Piece) → pieces_of files n ≡ Some p → IsSome (files (n / 1024))
piece_there files n p is = by_file (files (n / 1024)) refl
  where
    by_file : (o : Option (List (List ℕ))) → files (n / 1024) ≡ o → IsSome (files (n / 1024))
    by_file (Some pages) e = there_is (e)
    by_file None e = absurd (let f : None ≡ Some p = sym (none_reads files n e) ∙ is in (cc))

-- each file below the log's end is there, and that of the end too unless it ends on a first page
files_there : (files : LogFiles) (base : ℕ) (whole : List Piece) → base / 8176 + length whole < 2 ^ 34 → Stand (pieces_of files) (base / 8176) true whole → IsSoundLog files base (base / 8176 + length whole)
    → ((f : ℕ) → file_of base ≤ f → f < (base / 8176 + length whole) / 1024 → IsSome (files f)) × (IsSome (files ((base / 8176 + length whole) / 1024)) ⊎ ((base / 8176 + length whole) % 1024 ≡ 0))
files_there files base [] low stand sound = (
  λ f from below. absurd (omega (arith, from, below)),
  elim sound.here [
    | inl some ↦ inl (subst (λ (n : ℕ). IsSome (files (n / 1024))) (let e : base / 8176 ≡ base / 8176 + 0 = omega arith in e) some)
    | inr first ↦ inr (omega (arith, first))
  ],
)
files_there files base (p ∷ ps) low stand sound =
    let (last, is) = last_piece (pieces_of files) (base / 8176) true p ps stand in
    let n : ℕ = base / 8176 + length ps in
    let there : IsSome (files (n / 1024)) = piece_there files n last is in (
      λ f from below. elim (below_or_same f (n / 1024) (omega (arith, below))) [
        | inl less ↦ sound.stand f (n / 1024) from less (omega (arith, low)) there
        | inr same ↦ subst (λ (g : ℕ). IsSome (files g)) (sym same) there
      ],
      elim (cases_Bool ((base / 8176 + suc (length ps)) % 1024 == 0)) [
        | inl first ↦ inr (eqb-true ((base / 8176 + suc (length ps)) % 1024) 0 first)
        | inr inside ↦ inl (subst (λ (g : ℕ). IsSome (files g)) (same_file n (base / 8176 + suc (length ps)) (omega arith) inside) there)
      ],
    )
  where
    same_file : (n m : ℕ) → m ≡ n + 1 → (m % 1024 == 0) ≡ false → n / 1024 ≡ m / 1024
    same_file n m next inside = subst (λ (k : ℕ). n / 1024 ≡ k / 1024) (sym next) (not_first n (ap (λ (k : ℕ). k % 1024 == 0) (sym next) ∙ inside))

-- the log is ready for groups
pub started_log : (log log' : LogValue) (s : State) (base : ℕ) (groups : List Logged) (there : Bool) → (is : IsOpened log s base groups (log.number / 1024)) → EndsAt there (log_files s.folder) log.number
    → log'.page ≡ log.page → log'.number ≡ log.number → log'.first ≡ log.first → log'.used ≡ log.used → log'.there ≡ there → IsLog log' s base groups (length groups)
started_log log log' s base groups there is ends page number first used there_is =
    let end : ℕ = base / 8176 + length is.whole in
    let at : log.number ≡ end = is.fills.number_is in
    let files = files_there (log_files s.folder) base is.whole is.low is.front.stand is.sound in
    let size : behind base is.whole [] ≡ end = omega arith in
    let none : (n : ℕ) → end ≤ n → pieces_of (log_files s.folder) n ≡ None =
    λ n from. elim (cases_lt n (2 ^ 34)) [
      | inr high ↦ high_piece (log_files s.folder) n high
      | inl low ↦ elim (cases_Bool (n / 1024 == end / 1024)) [
        | inl same ↦ ends.none n (omega (arith, at, from)) (eqb-true (n / 1024) (end / 1024) same ∙ ap (λ (k : ℕ). k / 1024) (sym at))
        | inr apart ↦ let over : end / 1024 < n / 1024 = higher n end from apart in
            none_reads (log_files s.folder) n (is.none (n / 1024) over (omega (arith, over, at)) (omega (arith, low)))
      ]
    ] in
    let here : HoldsRun base is.whole [] (log_files s.folder) = record {
      stand = is.front.stand;
      part = tt;
      none = λ n from. none n (omega (arith, from));
      files = subst (λ (n : ℕ). FilesStand (log_files s.folder) (file_of base) n) (sym size) (record {
        here = files.1;
        stand = files.0;
        few = λ f from upto. is.sound.few f from (omega (arith, upto, is.low));
        none = λ f above low. is.none f above (omega (arith, above, at)) low;
      });
    } in
    let image : (c : Folder) → s.may_leave c → HoldsRun base is.whole [] (log_files c) × IsThere there (log_files c) end =
    λ c leaves.
    let same = is.rest c leaves in
    let short = rest_shorter log s base groups (log.number / 1024) is c leaves in (
      record {
        stand = (shorter_front (log_files s.folder) (log_files c) (base / 8176) is.whole short is.front).stand;
        part = tt;
        none = λ n from. elim (short.from n (omega (arith, from))) [
          | inl e ↦ e ∙ none n (omega (arith, from))
          | inr e ↦ e
        ];
        files = stand_alike (log_files s.folder) (log_files c) base is.whole is.low same here.files;
      },
      there_alike there (log_files s.folder) (log_files c) end (same (end / 1024) (omega arith) (omega (arith, is.low))) (subst (λ (n : ℕ). IsThere there (log_files s.folder) n) at ends.now),
    ) in
    record {
      whole = is.whole;
      based = is.based;
      fresh = [];
      are = All-nil IsGroup;
      forced_are = ap length is.groups_are;
      groups_are = is.groups_are ∙ sym (append-nil (groups_from base is.whole));
      at = record {
        parts = [];
        held = [];
        writing = record {
          run = tt;
          reads = here;
          now = moved (log_files s.folder) (subst (λ (n : ℕ). IsThere there (log_files s.folder) n) at ends.now);
          images = λ c leaves. (image c leaves).0;
          each = λ c leaves. moved (log_files c) (image c leaves).1;
        };
        full = All-nil (λ (bytes : List ℕ). length bytes ≡ 8176);
        first = first ∙ is.first ∙ at;
        fills = record { number_is = number ∙ at ∙ sym size; used_is = used ∙ is.fills.used_is; body_is = ap (drop 16) page ∙ is.fills.body_is };
        text_is = no_bytes;
      };
      idle = λ none'. first ∙ is.first ∙ sym number;
    }
  where
    higher : (n end : ℕ) → end ≤ n → (n / 1024 == end / 1024) ≡ false → end / 1024 < n / 1024
    higher n end from apart = above_unless_same (n / 1024) (end / 1024) (omega (arith, from)) apart

    moved : (files : LogFiles) → IsThere there files (base / 8176 + length is.whole) → IsThere log'.there files (behind base is.whole [])
    moved files t = subst (λ (b : Bool). IsThere b files (behind base is.whole [])) (sym there_is) (subst (λ (n : ℕ). IsThere there files n) (let e : base / 8176 + length is.whole ≡ behind base is.whole [] = omega arith in e) t)

    there_alike : (t : Bool) (a b : LogFiles) (n : ℕ) → b (n / 1024) ≡ a (n / 1024) → IsThere t a n → IsThere t b n
    there_alike true a b n e t = subst (λ (o : Option (List (List ℕ))). IsSome o) (sym e) t
    there_alike false a b n e t = e ∙ t

    stand_alike : (a b : LogFiles) (base : ℕ) (whole : List Piece) → base / 8176 + length whole < 2 ^ 34 → ((f : ℕ) → file_of base ≤ f → f < 2 ^ 24 → b f ≡ a f) → FilesStand a (file_of base) (behind base whole []) → FilesStand b (file_of base) (behind base whole [])
    stand_alike a b base whole low same stands = record {
      here = elim stands.here [
        | inr first' ↦ inr first'
        | inl some ↦ inl (subst (λ (o : Option (List (List ℕ))). IsSome o) (sym (same (behind base whole [] / 1024) (omega arith) (omega (arith, low)))) some)
      ];
      stand = λ f from below. subst (λ (o : Option (List (List ℕ))). IsSome o) (sym (same f from (omega (arith, below, low)))) (stands.stand f from below);
      few = λ f from upto. omega (arith, ap (λ (o : Option (List (List ℕ))). option_map_or length o 0) (same f from (omega (arith, upto, low))), stands.few f from upto);
      none = λ f above low'. same f (omega (arith, above)) low' ∙ stands.none f above low';
    }

-- ---- a new log

pub no_groups : (base : ℕ) → [] ≡ groups_from base []
unfolding groups_from
no_groups base = refl

-- a folder without a log holds one without groups, whichever file it begins in
pub fresh_opened : (log : LogValue) (s : State) (file : ℕ) → file < 2 ^ 24 → log.number ≡ 1024 * file → log.first ≡ 1024 * file → log.used ≡ 0 → drop 16 log.page ≡ log_body [] → HasNoLog s → IsOpened log s (8176 * (1024 * file)) [] file
fresh_opened log s file low number first used body is =
    let page : 8176 * (1024 * file) / 8176 + 0 ≡ 1024 * file = omega arith in
    record {
      whole = [];
      front = record { stand = tt; end = next_none (pieces_of (log_files s.folder)) (8176 * (1024 * file) / 8176 + 0) true (no_piece (8176 * (1024 * file) / 8176 + 0)) };
      based = omega arith;
      groups_are = no_groups (8176 * (1024 * file));
      first = first ∙ sym number;
      fills = record { number_is = number ∙ sym page; used_is = used; body_is = body };
      low = omega (arith, page, low);
      sound = record {
        here = inr (omega (arith, page));
        stand = λ f g from less upto some. absurd (none_isnt (log_files s.folder g) (is.folder g upto) some);
        few = λ f from upto. omega (arith, ap (λ (o : Option (List (List ℕ))). option_map_or length o 0) (is.folder f upto));
        based = inl (omega arith);
        quiet = λ n p from valid. absurd (let f : None ≡ Some p = sym (no_piece n) ∙ valid in (cc));
      };
      last_is = λ over. absurd (omega (arith, over, page));
      none = λ f over past upto. is.folder f upto;
      rest = λ c leaves f from upto. is.images c leaves f upto ∙ sym (is.folder f upto);
    }
  where
    no_piece : (n : ℕ) → pieces_of (log_files s.folder) n ≡ None
    no_piece n = elim (cases_lt n (2 ^ 34)) [
      | inl low ↦ none_reads (log_files s.folder) n (is.folder (n / 1024) (omega (arith, low)))
      | inr high ↦ high_piece (log_files s.folder) n high
    ]

-- ---- the calls of starting

-- the files up to the log's end are all that is left
pub opened_lower : (log : LogValue) (s : State) (base : ℕ) (groups : List Logged) (last : ℕ) → IsOpened log s base groups last → last ≤ log.number / 1024 → IsOpened log s base groups (log.number / 1024)
opened_lower log s base groups last is upto =
    let at : log.number ≡ base / 8176 + length is.whole = is.fills.number_is in
    record {
      whole = is.whole;
      front = is.front;
      based = is.based;
      groups_are = is.groups_are;
      first = is.first;
      fills = is.fills;
      low = is.low;
      sound = is.sound;
      last_is = λ over. absurd (omega (arith, over, at));
      none = λ f over past low. is.none f over (omega (arith, over, upto, at)) low;
      rest = is.rest;
    }

-- nothing is done yet
pub starts_none : (log : LogValue) (s : State) (base : ℕ) (groups : List Logged) (last : ℕ) → OnlyNow s → IsOpened log s base groups last → Starts log s s base groups last true
starts_none log s base groups last only is = record { opened = λ done. is; same = λ done f upto. refl; keeps = nothing_moves s only (rest_holds log s base groups last is) }

-- a step more
pub starts_more : (log : LogValue) (a b c : State) (base : ℕ) (groups : List Logged) (last next : ℕ) (done : Bool) → Starts log a b base groups last true → Starts log b c base groups next done → Starts log a c base groups next done
starts_more log a b c base groups last next done first second = record {
  opened = second.opened;
  same = λ finished f upto. second.same finished f upto ∙ first.same refl f upto;
  keeps = one_after a b c first.keeps second.keeps;
}

-- the last file is there
pub last_there : (log : LogValue) (s : State) (base : ℕ) (groups : List Logged) (last : ℕ) → IsOpened log s base groups last → log.number / 1024 < last → IsSome (s.folder (Log last))
last_there log s base groups last is over = is.last_is (omega (arith, over, is.fills.number_is))

-- the last file was removed
pub removed : (log : LogValue) (old new : State) (done : Bool) (base : ℕ) (groups : List Logged) (last : ℕ) → OnlyNow old → IsOpened log old base groups last → log.number / 1024 < last → last < 2 ^ 24
    → Removes (Log last) old new done → Starts log old new base groups (last - 1) done
removed log old new done base groups zero only is over low removes = absurd (omega (arith, over))
removed log old new done base groups (suc f) only is over low removes =
    let next : suc f ≡ f + 1 = omega arith in
    let is' : IsOpened log old base groups (f + 1) = subst (λ (k : ℕ). IsOpened log old base groups k) next is in
    subst (λ (k : ℕ). Starts log old new base groups k done) (let e : f ≡ suc f - 1 = omega arith in e)
    (remove_step log old new done base groups f only is' (omega (arith, over, is'.fills.number_is)) (omega (arith, low)) (subst (λ (k : ℕ). Removes (Log k) old new done) next removes))

-- the file was cut and brought to the disk
pub cut_all : (log : LogValue) (old mid new : State) (done : Bool) (base : ℕ) (groups : List Logged) (file page : ℕ) (pages : List (List ℕ)) → OnlyNow old → OnlyNow mid → IsOpened log old base groups (log.number / 1024)
    → file ≡ log.number / 1024 → page ≡ log.number % 1024 → old.folder (Log (log.number / 1024)) ≡ Some pages → Cuts (Log file) page old mid true → Syncs (Log file) mid new done
    → (IsTrue done → IsOpened log new base groups (log.number / 1024)) × LogMoments old new (HoldsAll base groups)
cut_all log old mid new done base groups file page pages only only' is file_is page_is there cuts syncs =
    let cuts' : Cuts (Log (log.number / 1024)) (log.number % 1024) old mid true = subst (λ (k : ℕ). Cuts (Log (log.number / 1024)) k old mid true) page_is (subst (λ (f : ℕ). Cuts (Log f) page old mid true) file_is cuts) in
    let syncs' : Syncs (Log (log.number / 1024)) mid new done = subst (λ (f : ℕ). Syncs (Log f) mid new done) file_is syncs in
    cut_synced log old mid new done base groups (log.number / 1024) only' (cut_step log old mid true base groups log.number pages only is refl there cuts') syncs'

-- the file is cut
pub cut_file : (file page f at : ℕ) (old mid new : State) (done : Bool) → file ≡ f → page ≡ at → Cuts (Log file) page old mid true → Syncs (Log file) mid new done → log_files new.folder f ≡ option_map (take at) (log_files old.folder f)
cut_file file page f at old mid new done file_is page_is cuts syncs =
    ap (λ (x : Folder). x (Log f)) syncs.folder ∙ ap (λ (x : Folder). x (Log f)) (cuts.whole refl) ∙ ap (λ (k : ℕ). with_cut (Log k) page old.folder (Log f)) file_is
    ∙ with_file-same (Log f) (option_map (take page) (old.folder (Log f))) old.folder ∙ ap (λ (k : ℕ). option_map (take k) (old.folder (Log f))) page_is

-- the cut failed
pub cut_failed : (log : LogValue) (old new : State) (done : Bool) (base : ℕ) (groups : List Logged) (file page : ℕ) (pages : List (List ℕ)) → OnlyNow old → IsOpened log old base groups (log.number / 1024)
    → file ≡ log.number / 1024 → page ≡ log.number % 1024 → old.folder (Log (log.number / 1024)) ≡ Some pages → Cuts (Log file) page old new done → LogMoments old new (HoldsAll base groups)
cut_failed log old new done base groups file page pages only is file_is page_is there cuts =
    (cut_step log old new done base groups log.number pages only is refl there
    (subst (λ (k : ℕ). Cuts (Log (log.number / 1024)) k old new done) page_is (subst (λ (f : ℕ). Cuts (Log f) page old new done) file_is cuts))).keeps

-- what a look at the file found
pub found_none : (o : Option (List (List ℕ))) → None ≡ extent_of o → o ≡ None
found_none None e = refl
found_none (Some pages) e = absurd (cc)

pub found_some : (o : Option (List (List ℕ))) (extent : Extent) → Some extent ≡ extent_of o → (pages : List (List ℕ)) × (o ≡ Some pages) × (extent.pages ≡ length pages)
found_some None extent e = absurd (cc)
found_some (Some pages) extent e = (pages, refl, ap (λ (x : Extent). x.pages) (same_Some _ _ e))

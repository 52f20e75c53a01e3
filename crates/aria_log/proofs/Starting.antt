-- A log that is started: later files are removed, and the last one is cut to the log's end.
use Rattle.std.proofs.Common.{◌≡◌, ◌==◌, ◌⊎◌, inl, inr, ℕ, ◌+◌, ◌/◌, ◌%◌, ◌^◌, ◌<◌, ◌≤◌, Bool, true, false, IsTrue, Option, None, Some, List, length, refl, sym, ◌∙◌, ap, subst, arith}
use Rattle.std.specs.Prelude.{IsSome}
use Rattle.std.specs.Option.{option_map_or}
use Rattle.std.proofs.lemmas.Bool.{cases_Bool, cases_lt, eqb-true}
use Rattle.aria_host.specs.declared.file_name.FileName.TheVariants.{Log}
use Rattle.aria_host.specs.Folder.{Folder, is_log, with_file}
use Rattle.aria_host.specs.Moments.{SameBut}
use Rattle.aria_host.specs.State.{State}
use Rattle.aria_host.specs.Steps.{MayMake}
use Rattle.aria_host.specs.Calls.{Removes}
use Rattle.aria_host.specs.Seen.{page_or_zero}
use Rattle.aria_host.proofs.Files.{with_file-same, with_file-other}
use Rattle.aria_host.proofs.Moments.{OnlyNow, one_call}
use Rattle.aria_log.specs.declared.log.Log.{Log as LogValue}
use Rattle.aria_log.specs.LogPage.{read_log_page}
use Rattle.aria_log.specs.Pieces.{Piece, LogFiles, log_files, pieces_of, Stand, IsFront, may_behind}
use Rattle.aria_record.specs.Logged.{Logged}
use Rattle.aria_log.specs.Files.{IsSoundLog}
use Rattle.aria_log.specs.Log.{file_of, IsBaseOf, AreAtRest, IsOpened, HoldsAll, Starts}
use Rattle.aria_log.proofs.LogPages.{zero_reads}
use Rattle.aria_log.proofs.PageReads.{high_reads}
use Rattle.aria_log.proofs.Counting.{differ_below, lower_unless_same}
use Rattle.aria_log.proofs.Fronts.{stand_same, next_same, next_none}
use Rattle.aria_log.proofs.PutPages.{none_isnt, others_stay}
use Rattle.aria_log.proofs.Images.{base_in}

-- no page of a file that isn't there holds anything
pub none_reads : (files : LogFiles) (n : ℕ) → files (n / 1024) ≡ None → pieces_of files n ≡ None
unfolding pieces_of
none_reads files n absent = ap (λ (o : Option (List (List ℕ))). read_log_page n (page_or_zero (n % 1024) o)) absent ∙ zero_reads n

-- a page of another file stays
pub other_reads : (a b : LogFiles) (n : ℕ) → b (n / 1024) ≡ a (n / 1024) → pieces_of b n ≡ pieces_of a n
unfolding pieces_of
other_reads a b n same = ap (λ (o : Option (List (List ℕ))). read_log_page n (page_or_zero (n % 1024) o)) same

-- what an opened log's files hold
pub opened_holds : (log : LogValue) (s : State) (base : ℕ) (groups : List Logged) (last : ℕ) → IsOpened log s base groups last → HoldsAll base groups (log_files s.folder)
opened_holds log s base groups last is = record {
  end = base / 8176 + length is.whole;
  holds = record { pieces = is.whole; front = is.front; groups_are = is.groups_are; end_is = refl };
  sound = is.sound;
}

-- a page that is numbered too high isn't valid
pub high_piece : (files : LogFiles) (n : ℕ) → 2 ^ 34 ≤ n → pieces_of files n ≡ None
unfolding pieces_of
high_piece files n high = high_reads n (page_or_zero (n % 1024) (files (n / 1024))) (omega (arith, high))

-- The pages of the log stay, and those behind its end stay or hold nothing: so does the log.
pub record Shorter (a b : LogFiles) (start end : ℕ) : Type 0 where
  pub here : IsSome (b (start / 1024)) ⊎ (start % 1024 ≡ 0)
  pub below : (n : ℕ) → start ≤ n → n < end → pieces_of b n ≡ pieces_of a n
  pub from : (n : ℕ) → end ≤ n → (pieces_of b n ≡ pieces_of a n) ⊎ (pieces_of b n ≡ None)
  pub stand : (f g : ℕ) → start / 1024 ≤ f → f < g → g < 2 ^ 24 → IsSome (b g) → IsSome (b f)
  pub few : (f : ℕ) → start / 1024 ≤ f → f < 2 ^ 24 → option_map_or length (b f) 0 ≤ 1024

-- the front of a shorter log
pub shorter_front : (a b : LogFiles) (n : ℕ) (whole : List Piece) → Shorter a b n (n + length whole) → IsFront (pieces_of a) n true whole → IsFront (pieces_of b) n true whole
shorter_front a b n whole short is = record {
  stand = stand_same (pieces_of a) (pieces_of b) n true whole (λ k from below. short.below k from below) is.stand;
  end = elim (short.from (n + length whole) (omega arith)) [
    | inl same ↦ next_same (pieces_of a) (pieces_of b) (n + length whole) (may_behind true whole) same ∙ is.end
    | inr none ↦ next_none (pieces_of b) (n + length whole) (may_behind true whole) none
  ];
}

-- a shorter log isn't damaged
pub shorter_sound : (a b : LogFiles) (base : ℕ) (whole : List Piece) → Shorter a b (base / 8176) (base / 8176 + length whole) → IsBaseOf base whole → Stand (pieces_of b) (base / 8176) true whole → IsSoundLog a base (base / 8176 + length whole)
    → IsSoundLog b base (base / 8176 + length whole)
shorter_sound a b base whole short based stand sound = record {
  here = short.here;
  stand = short.stand;
  few = short.few;
  based = base_in (pieces_of b) base whole based stand;
  quiet = λ n p from valid. elim (short.from n from) [
    | inl same ↦ sound.quiet n p from (sym same ∙ valid)
    | inr none ↦ absurd (let f : None ≡ Some p = sym none ∙ valid in (cc))
  ];
}

-- a shorter log holds the same groups
pub shorter_holds : (log : LogValue) (s : State) (base : ℕ) (groups : List Logged) (last : ℕ) (files : LogFiles) → (is : IsOpened log s base groups last) → Shorter (log_files s.folder) files (base / 8176) (base / 8176 + length is.whole) → HoldsAll base groups files
shorter_holds log s base groups last files is short =
    let front = shorter_front (log_files s.folder) files (base / 8176) is.whole short is.front in
    record {
      end = base / 8176 + length is.whole;
      holds = record { pieces = is.whole; front = front; groups_are = is.groups_are; end_is = refl };
      sound = shorter_sound (log_files s.folder) files base is.whole short is.based front.stand is.sound;
    }

-- files that are the same from one on hold the same log
pub same_shorter : (a b : LogFiles) (base k : ℕ) → file_of base < 2 ^ 24 → ((f : ℕ) → file_of base ≤ f → f < 2 ^ 24 → b f ≡ a f) → IsSoundLog a base (base / 8176 + k) → Shorter a b (base / 8176) (base / 8176 + k)
same_shorter a b base k low_base same sound = record {
  here = elim sound.here [
    | inr first ↦ inr first
    | inl some ↦ inl (subst (λ (o : Option (List (List ℕ))). IsSome o) (sym (same (file_of base) (omega arith) low_base)) some)
  ];
  below = λ n from low. inside n from;
  from = λ n from. inl (inside n (omega (arith, from)));
  stand = λ f g from less low some. subst (λ (o : Option (List (List ℕ))). IsSome o) (sym (same f from (omega (arith, less, low))))
      (sound.stand f g from less low (subst (λ (o : Option (List (List ℕ))). IsSome o) (same g (omega (arith, from, less)) low) some));
  few = λ f from low. omega (arith, ap (λ (o : Option (List (List ℕ))). option_map_or length o 0) (same f from low), sound.few f from low);
}
  where
    inside : (n : ℕ) → base / 8176 ≤ n → pieces_of b n ≡ pieces_of a n
    inside n from = elim (cases_lt n (2 ^ 34)) [
      | inl low ↦ other_reads a b n (same (n / 1024) (omega (arith, from)) (omega (arith, low)))
      | inr high ↦ high_piece b n high ∙ sym (high_piece a n high)
    ]

-- the last file was removed
pub removed_shorter : (f base end : ℕ) (d c : Folder) → base / 8176 ≤ end → c ≡ with_file (Log f) None d → end / 1024 < f → ((g : ℕ) → f < g → g < 2 ^ 24 → log_files d g ≡ None) → IsSoundLog (log_files d) base end
    → Shorter (log_files d) (log_files c) (base / 8176) end
removed_shorter f base end d c upto is above none sound =
    let here : c (Log f) ≡ None = ap (λ (x : Folder). x (Log f)) is ∙ with_file-same (Log f) None d in
    let other : (g : ℕ) → (f == g) ≡ false → c (Log g) ≡ d (Log g) = λ g apart. ap (λ (x : Folder). x (Log g)) is ∙ with_file-other (Log f) (Log g) None d apart in
    record {
      here = elim sound.here [
        | inr first ↦ inr first
        | inl some ↦ inl (subst (λ (o : Option (List (List ℕ))). IsSome o) (sym (other (base / 8176 / 1024) (apart (base / 8176 / 1024) (omega (arith, upto, above))))) some)
      ];
      below = λ n from low. other_reads (log_files d) (log_files c) n (other (n / 1024) (apart (n / 1024) (omega (arith, low, above))));
      from = λ n from. elim (cases_Bool (f == n / 1024)) [
        | inl same ↦ inr (none_reads (log_files c) n (ap (λ (g : ℕ). c (Log g)) (sym (eqb-true f (n / 1024) same)) ∙ here))
        | inr apart' ↦ inl (other_reads (log_files d) (log_files c) n (other (n / 1024) apart'))
      ];
      stand = λ g h from less low some. elim (cases_Bool (f == h)) [
        | inl same ↦ absurd (none_isnt (c (Log h)) (ap (λ (k : ℕ). c (Log k)) (sym (eqb-true f h same)) ∙ here) some)
        | inr apart' ↦ elim (cases_lt f h) [
          | inl over ↦ absurd (none_isnt (c (Log h)) (other h apart' ∙ none h over low) some)
          | inr upto ↦
              let less_f : g < f = omega (arith, less, upto) in
              subst (λ (o : Option (List (List ℕ))). IsSome o) (sym (other g (apart g less_f))) (sound.stand g h from less low (subst (λ (o : Option (List (List ℕ))). IsSome o) (other h apart') some))
        ]
      ];
      few = λ g from low. elim (cases_Bool (f == g)) [
        | inl same ↦ omega (arith, ap (λ (o : Option (List (List ℕ))). option_map_or length o 0) (ap (λ (k : ℕ). c (Log k)) (sym (eqb-true f g same)) ∙ here))
        | inr apart' ↦ omega (arith, ap (λ (o : Option (List (List ℕ))). option_map_or length o 0) (other g apart'), sound.few g from low)
      ];
    }
  where
    apart : (g : ℕ) → g < f → (f == g) ≡ false
    apart g less = differ_below f g less

-- a log that is shorter than a shorter one
pub shorter_again : (a b c : LogFiles) (start end : ℕ) → Shorter a b start end → Shorter b c start end → Shorter a c start end
shorter_again a b c start end first second = record {
  here = second.here;
  below = λ n from low. second.below n from low ∙ first.below n from low;
  from = λ n from. elim (second.from n from) [
    | inr none ↦ inr none
    | inl same ↦ elim (first.from n from) [
      | inl same' ↦ inl (same ∙ same')
      | inr none ↦ inr (same ∙ none)
    ]
  ];
  stand = second.stand;
  few = second.few;
}

-- the base of a log is in a file
pub low_base : (base : ℕ) (whole : List Piece) → base / 8176 + length whole < 2 ^ 34 → file_of base < 2 ^ 24
low_base base whole low = omega (arith, low)

-- what is at rest holds the log in each image
pub rest_shorter : (log : LogValue) (s : State) (base : ℕ) (groups : List Logged) (last : ℕ) (is : IsOpened log s base groups last) (c : Folder) → s.may_leave c → Shorter (log_files s.folder) (log_files c) (base / 8176) (base / 8176 + length is.whole)
rest_shorter log s base groups last is c leaves = same_shorter (log_files s.folder) (log_files c) base (length is.whole) (low_base base is.whole is.low) (is.rest c leaves) is.sound

-- at rest a crash leaves the log
pub rest_holds : (log : LogValue) (s : State) (base : ℕ) (groups : List Logged) (last : ℕ) → IsOpened log s base groups last → (c : Folder) → s.may_leave c → HoldsAll base groups (log_files c)
rest_holds log s base groups last is c leaves = shorter_holds log s base groups last (log_files c) is (rest_shorter log s base groups last is c leaves)

-- an opened log whose files behind its end became fewer, in the folder and in each image alike
pub opened_shorter : (log : LogValue) (old new : State) (base : ℕ) (groups : List Logged) (last last' : ℕ) → (is : IsOpened log old base groups last) → Shorter (log_files old.folder) (log_files new.folder) (base / 8176) (base / 8176 + length is.whole)
    → AreAtRest new (file_of base) → ((base / 8176 + length is.whole) / 1024 < last' → IsSome (log_files new.folder last')) → ((f : ℕ) → (base / 8176 + length is.whole) / 1024 < f → last' < f → f < 2 ^ 24 → log_files new.folder f ≡ None)
    → IsOpened log new base groups last'
opened_shorter log old new base groups last last' is short rest last_is none =
    let front = shorter_front (log_files old.folder) (log_files new.folder) (base / 8176) is.whole short is.front in
    record {
      whole = is.whole;
      front = front;
      based = is.based;
      groups_are = is.groups_are;
      first = is.first;
      fills = is.fills;
      low = is.low;
      sound = shorter_sound (log_files old.folder) (log_files new.folder) base is.whole short is.based front.stand is.sound;
      last_is = last_is;
      none = none;
      rest = rest;
    }

-- the last file is removed
pub remove_step : (log : LogValue) (old new : State) (done : Bool) (base : ℕ) (groups : List Logged) (f : ℕ) → OnlyNow old → (is : IsOpened log old base groups (f + 1)) → (base / 8176 + length is.whole) / 1024 < f + 1 → f + 1 < 2 ^ 24
    → Removes (Log (f + 1)) old new done → Starts log old new base groups f done
remove_step log old new done base groups f only is above low removes =
    let end : ℕ = base / 8176 + length is.whole in
    let none : (d : Folder) → ((g : ℕ) → file_of base ≤ g → g < 2 ^ 24 → log_files d g ≡ log_files old.folder g) → (g : ℕ) → f + 1 < g → g < 2 ^ 24 → log_files d g ≡ None =
    λ d same g over low'. same g (omega (arith, above, over)) low' ∙ is.none g (omega (arith, above, over)) over low' in
    let short : (d c : Folder) → ((g : ℕ) → file_of base ≤ g → g < 2 ^ 24 → log_files d g ≡ log_files old.folder g) → c ≡ with_file (Log (f + 1)) None d → Shorter (log_files old.folder) (log_files c) (base / 8176) end =
    λ d c same made.
    let here = same_shorter (log_files old.folder) (log_files d) base (length is.whole) (low_base base is.whole is.low) same is.sound in
    let sound = shorter_sound (log_files old.folder) (log_files d) base is.whole here is.based (shorter_front (log_files old.folder) (log_files d) (base / 8176) is.whole here is.front).stand is.sound in
    shorter_again (log_files old.folder) (log_files d) (log_files c) (base / 8176) end here (removed_shorter (f + 1) base end d c (omega arith) made above (none d same) sound) in
    let after : (c : Folder) → new.may_leave c → HoldsAll base groups (log_files c) × (d : Folder) × old.may_leave d × SameBut is_log d c =
    λ c leaves.
    let (d, was, step) = removes.images c leaves in
    elim step [
      | inl made ↦ (shorter_holds log old base groups (f + 1) (log_files c) is (short d c (is.rest d was) made), d, was, others_stay (f + 1) None d c (inr made))
      | inr stays ↦ (subst (λ (x : Folder). HoldsAll base groups (log_files x)) (sym stays.1) (rest_holds log old base groups (f + 1) is d was), d, was, λ g other. ap (λ (x : Folder). x g) stays.1)
    ] in
    record {
      opened = λ finished.
          let made = removes.whole finished in
          let gone : (d c : Folder) (g : ℕ) → c ≡ with_file (Log (f + 1)) None d → (f + 1 == g) ≡ false → log_files c g ≡ log_files d g =
          λ d c g e apart. ap (λ (x : Folder). x (Log g)) e ∙ with_file-other (Log (f + 1)) (Log g) None d apart in
          opened_shorter log old new base groups (f + 1) f is (short old.folder new.folder (λ g from low'. refl) made)
          (λ c leaves g from low'. let (d, was, step) = removes.images c leaves in
          elim (sure done d c step finished) [
            | inl e ↦ elim (cases_Bool (f + 1 == g)) [
              | inl same ↦ ap (λ (k : ℕ). c (Log k)) (sym (eqb-true (f + 1) g same)) ∙ ap (λ (x : Folder). x (Log (f + 1))) e ∙ with_file-same (Log (f + 1)) None d
                  ∙ sym (ap (λ (k : ℕ). new.folder (Log k)) (sym (eqb-true (f + 1) g same)) ∙ ap (λ (x : Folder). x (Log (f + 1))) made ∙ with_file-same (Log (f + 1)) None old.folder)
              | inr apart ↦ gone d c g e apart ∙ is.rest d was g from low' ∙ sym (gone old.folder new.folder g made apart)
            ]
            | inr never ↦ absurd never
          ])
          (λ over. subst (λ (o : Option (List (List ℕ))). IsSome o) (sym (gone old.folder new.folder f made (next_apart f))) (is.sound.stand f (f + 1) (omega (arith, over)) (omega arith) low (is.last_is above)))
          (λ g over past low'. elim (cases_Bool (f + 1 == g)) [
            | inl same ↦ ap (λ (k : ℕ). new.folder (Log k)) (sym (eqb-true (f + 1) g same)) ∙ ap (λ (x : Folder). x (Log (f + 1))) made ∙ with_file-same (Log (f + 1)) None old.folder
            | inr apart ↦ gone old.folder new.folder g made apart ∙ is.none g over (later f g past apart) low'
          ]);
      same = λ finished g upto. ap (λ (x : Folder). x (Log g)) (removes.whole finished) ∙ with_file-other (Log (f + 1)) (Log g) None old.folder (differ_below (f + 1) g (omega (arith, upto, above, is.fills.number_is)));
      keeps = one_call old new only removes.tells (others_stay (f + 1) None old.folder new.folder removes.either) (rest_holds log old base groups (f + 1) is) after;
    }
  where
    sure : (b : Bool) (d c : Folder) → MayMake (Log (f + 1)) None b d c → IsTrue b → (c ≡ with_file (Log (f + 1)) None d) ⊎ ⊥
    sure true d c (inl made) t = inl made
    sure true d c (inr stays) t = absurd (cc)
    sure false d c step t = absurd (cc)

    next_apart : (f : ℕ) → (f + 1 == f) ≡ false
    next_apart f = differ_below (f + 1) f (omega arith)

    later : (f g : ℕ) → f < g → (f + 1 == g) ≡ false → f + 1 < g
    later f g past apart = lower_unless_same (f + 1) g (omega (arith, past)) apart

-- The pages of a run are read one after the other.
use Rattle.std.proofs.Common.{◌≡◌, ◌==◌, ◌||◌, ◌&&◌, ◌⊎◌, not, inl, inr, ℕ, zero, suc, ◌+◌, ◌-◌, ◌*◌, ◌/◌, ◌%◌, ◌<◌, ◌≤◌, ◌^◌, Bool, true, false, cond, Option, None, Some, List, [], ◌∷◌, ◌++◌, length, take, drop, refl, sym, ◌∙◌, ap, subst, arith, append_assoc, length-append, nat_lt, rules}
use Rattle.std.specs.Prelude.{IsSome, IsTrue, is_some}
use Rattle.std.proofs.lemmas.Bool.{cases_lt, cases_Bool, eqb-true, eq-eqb, ne_eqb, lt-ltb, le-ltb, false_from_ne_true}
use Rattle.std.proofs.lemmas.List.{append-nil, length-take, length-drop}
use Rattle.std.proofs.lemmas.Option.{same_Some}
use Rattle.aria_host.specs.Seen.{page_or_zero}
use Rattle.aria_log.specs.declared.log.Log.{Log as LogValue}
use Rattle.aria_log.specs.declared.reader.Reader.{Reader as ReaderValue}
use Rattle.aria_log.specs.LogPage.{read_log_page}
use Rattle.aria_log.specs.Pieces.{Piece, Pieces, LogFiles, pieces_of, Stand, is_full}
use Rattle.aria_log.specs.Groups.{run_rest}
use Rattle.aria_log.specs.Log.{place}
use Rattle.aria_log.specs.Reading.{Entry, entries_of_runs, seen, loaded}
use Rattle.aria_log.specs.Stepping.{filled, shown, page_behind, end_page, IsLeft, EndsRun, GoesOn, ReadsOn}
use Rattle.aria_log.proofs.LogPages.{read_is_valid}
use Rattle.aria_log.proofs.Counting.{above_unless_same}
use Rattle.aria_log.proofs.Splitting.{AreUsed, next_is, goes_full, no_run}

-- ---- what a log's pages hold

-- the pages before the one that is filled are in the files
pub seen_below : (log : LogValue) (files : LogFiles) (n : ℕ) → n < log.number → seen log files n ≡ pieces_of files n
unfolding seen
seen_below log files n low = rw (lt-ltb n log.number low) refl

-- that one is in memory
pub seen_last : (log : LogValue) (files : LogFiles) (n : ℕ) → n ≡ log.number → seen log files n ≡ filled log
unfolding seen
seen_last log files n at =
    let above : nat_lt n log.number ≡ false = le-ltb n log.number (omega (arith, at)) in
    let here : (n == log.number) ≡ true = eq-eqb n log.number at in
    let held : ℕ → Piece = λ k. (k == log.first, take log.used (drop 16 log.page)) in
    ap (λ (b : Bool). cond b (pieces_of files n) (cond (n == log.number && not (log.used == 0)) (Some (held n)) None)) above
    ∙ ap (λ (b : Bool). cond (b && not (log.used == 0)) (Some (held n)) None) here
    ∙ ap (λ (k : ℕ). cond (not (log.used == 0)) (Some (held k)) None) at ∙ turned (log.used == 0) (held log.number)
  where
    turned : (b : Bool) (p : Piece) → cond (not b) (Some p) None ≡ cond b None (Some p)
    turned true p = refl
    turned false p = refl

-- and there is none behind
pub seen_above : (log : LogValue) (files : LogFiles) (n : ℕ) → log.number < n → seen log files n ≡ None
unfolding seen
seen_above log files n above =
    let over : nat_lt n log.number ≡ false = le-ltb n log.number (omega (arith, above)) in
    let apart : (n == log.number) ≡ false = ne_eqb n log.number (λ (e : n ≡ log.number). omega (arith, e, above)) in
    rw (over, apart) refl

-- a page that is held holds something where bytes of it are used
is_held : (used : ℕ) (x : Piece) → 1 ≤ used → cond (used == 0) None (Some x) ≡ Some x
is_held used x some = ap (λ (b : Bool). cond b None (Some x)) (ne_eqb used 0 (λ (e : used ≡ 0). omega (arith, e, some)))

not_held : (used : ℕ) (x : Piece) → used ≡ 0 → cond (used == 0) None (Some x) ≡ None
not_held used x none = ap (λ (b : Bool). cond b None (Some x)) (eq-eqb used 0 none)

held : (used : ℕ) (x p : Piece) → cond (used == 0) None (Some x) ≡ Some p → (1 ≤ used) × (x ≡ p)
held used x p e = elim (cases_lt 0 used) [
  | inl some ↦ (some, same_Some x p (sym (is_held used x some) ∙ e))
  | inr none ↦ absurd (let f : None ≡ Some p = sym (not_held used x (omega (arith, none))) ∙ e in (cc))
]

held_some : (used : ℕ) (x : Piece) → is_some (cond (used == 0) None (Some x)) ≡ true → 1 ≤ used
held_some used x e = elim (cases_lt 0 used) [
  | inl some ↦ some
  | inr none ↦ absurd (let f : false ≡ true = sym (ap (λ (o : Option Piece). is_some o) (not_held used x (omega (arith, none)))) ∙ e in (cc))
]

-- the page that is filled, where it has used bytes
pub filled_is : (log : LogValue) → 1 ≤ log.used → filled log ≡ Some (log.number == log.first, take log.used (drop 16 log.page))
filled_is log some = is_held log.used (log.number == log.first, take log.used (drop 16 log.page)) some

-- its used bytes
pub length-filled : (log : LogValue) (p : Piece) → length log.page ≡ 8192 → filled log ≡ Some p → (1 ≤ log.used) × (length p.1 ≡ log.used)
length-filled log p long e =
    let is = held log.used (log.number == log.first, take log.used (drop 16 log.page)) p e in
    (is.0, ap length (sym (ap (λ (x : Piece). x.1) is.1)) ∙ length-take log.used (drop 16 log.page) ∙ omega (arith, length-drop 16 log.page, long))

-- a valid page of the files has a used byte
pub pieces_used : (files : LogFiles) → AreUsed (pieces_of files)
unfolding pieces_of
pieces_used files n p e = let is = read_is_valid n p.0 p.1 (page_or_zero (n % 1024) (files (n / 1024))) e in (is.used, is.fits)

-- so has each page of a log
pub seen_used : (log : LogValue) (files : LogFiles) → length log.page ≡ 8192 → AreUsed (seen log files)
seen_used log files long n p e = elim (cases_lt n log.number) [
  | inl below ↦ pieces_used files n p (sym (seen_below log files n below) ∙ e)
  | inr from ↦ elim (cases_lt log.number n) [
    | inl above ↦ absurd (let f : None ≡ Some p = sym (seen_above log files n above) ∙ e in (cc))
    | inr upto ↦
        let len = length-filled log p long (sym (seen_last log files n (omega (arith, from, upto))) ∙ e) in
        (omega (arith, len), omega (arith, len))
  ]
]

-- ---- what is held of a page

-- of the page that is filled the log itself
pub shown_filled : (log : LogValue) (reader : ReaderValue) (n : ℕ) → n ≡ log.number → shown log reader n ≡ filled log
unfolding shown
shown_filled log reader n at = ap (λ (b : Bool). cond b (filled log) (loaded reader)) (eq-eqb n log.number at)

-- of the others the reader
pub shown_loaded : (log : LogValue) (reader : ReaderValue) (n : ℕ) → (n ≡ log.number → ⊥) → shown log reader n ≡ loaded reader
unfolding shown
shown_loaded log reader n apart = ap (λ (b : Bool). cond b (filled log) (loaded reader)) (ne_eqb n log.number apart)

pub shown_last : (log : LogValue) (reader : ReaderValue) (files : LogFiles) (n : ℕ) → n ≡ log.number → shown log reader n ≡ seen log files n
shown_last log reader files n at = shown_filled log reader n at ∙ sym (seen_last log files n at)

pub number_below : (log : LogValue) (n : ℕ) → (n ≡ log.number → ⊥) → 8176 * n < place log → n < log.number
number_below log n apart low = above_unless_same log.number n (omega (arith, low)) (ne_eqb log.number n (λ (e : log.number ≡ n). apart (sym e)))

pub shown_below : (log : LogValue) (reader : ReaderValue) (files : LogFiles) (n : ℕ) → (n ≡ log.number → ⊥) → 8176 * n < place log → loaded reader ≡ pieces_of files n → shown log reader n ≡ seen log files n
shown_below log reader files n apart low read = shown_loaded log reader n apart ∙ read ∙ sym (seen_below log files n (number_below log n apart low))

-- what is known of a page that is shown
pub last_is : (log : LogValue) (reader : ReaderValue) (n : ℕ) (p : Piece) → n ≡ log.number → shown log reader n ≡ Some p → ((n == log.first) ≡ p.0) × (take log.used (drop 16 log.page) ≡ p.1)
last_is log reader n p at e =
    let is = held log.used (log.number == log.first, take log.used (drop 16 log.page)) p (sym (shown_filled log reader n at) ∙ e) in
    (ap (λ (k : ℕ). k == log.first) at ∙ ap (λ (x : Piece). x.0) is.1, ap (λ (x : Piece). x.1) is.1)

pub loaded_is : (log : LogValue) (reader : ReaderValue) (n : ℕ) (p : Piece) → (n ≡ log.number → ⊥) → shown log reader n ≡ Some p → (reader.begins ≡ p.0) × (take reader.used (drop 16 reader.page) ≡ p.1)
loaded_is log reader n p apart e =
    let is = held reader.used (reader.begins, take reader.used (drop 16 reader.page)) p (sym (shown_loaded log reader n apart) ∙ e) in
    (ap (λ (x : Piece). x.0) is.1, ap (λ (x : Piece). x.1) is.1)

pub last_some : (log : LogValue) (reader : ReaderValue) (n : ℕ) → n ≡ log.number → IsSome (shown log reader n) → 1 ≤ log.used
last_some log reader n at some = held_some log.used (log.number == log.first, take log.used (drop 16 log.page)) (sym (ap (λ (o : Option Piece). is_some o) (shown_filled log reader n at)) ∙ some)

pub loaded_some : (log : LogValue) (reader : ReaderValue) (n : ℕ) → (n ≡ log.number → ⊥) → IsSome (shown log reader n) → 1 ≤ reader.used
loaded_some log reader n apart some = held_some reader.used (reader.begins, take reader.used (drop 16 reader.page)) (sym (ap (λ (o : Option Piece). is_some o) (shown_loaded log reader n apart)) ∙ some)

-- a page that has bytes of the log is shown
pub some_last : (log : LogValue) (reader : ReaderValue) (n : ℕ) → n ≡ log.number → 8176 * n < place log → IsSome (shown log reader n)
some_last log reader n at low =
    let here : Piece = (log.number == log.first, take log.used (drop 16 log.page)) in
    ap (λ (o : Option Piece). is_some o) (shown_filled log reader n at ∙ is_held log.used here (omega (arith, at, low)))

pub some_loaded : (log : LogValue) (reader : ReaderValue) (n : ℕ) → (n ≡ log.number → ⊥) → is_some (loaded reader) ≡ true → IsSome (shown log reader n)
some_loaded log reader n apart some = ap (λ (o : Option Piece). is_some o) (shown_loaded log reader n apart) ∙ some

-- ---- how far a run was read

-- the page behind the log's end
pub end_page_is : (log : LogValue) → (log.used ≡ 0 → end_page log ≡ log.number) × (1 ≤ log.used → end_page log ≡ log.number + 1)
end_page_is log = (
  λ (none : log.used ≡ 0). ap (λ (b : Bool). log.number + cond b 0 1) (eq-eqb log.used 0 none) ∙ omega arith,
  λ (some : 1 ≤ log.used). ap (λ (b : Bool). log.number + cond b 0 1) (ne_eqb log.used 0 (λ (e : log.used ≡ 0). omega (arith, e, some))),
)

-- where the log's end was read nothing is left
pub left_end : (log : LogValue) (files : LogFiles) (read : ℕ) (rest : List Piece) → IsLeft log files read rest → read ≡ place log → rest ≡ []
left_end log files read [] is at = refl
left_end log files read (p ∷ ps) is at = absurd (elim (cases_lt 0 log.used) [
  | inl some ↦ let e = (end_page_is log).1 some in omega (arith, e, is.end, at, some)
  | inr none ↦ let e = (end_page_is log).0 (omega (arith, none)) in omega (arith, e, is.end, at, none)
])

pub ends_nothing : (rest : List Piece) → rest ≡ [] → EndsRun rest
ends_nothing [] e = tt
ends_nothing (p ∷ ps) e = absurd (cc)

-- behind a page that isn't full a run ends
pub left_part : (log : LogValue) (files : LogFiles) (read : ℕ) (rest : List Piece) → IsLeft log files read rest → (read % 8176 ≡ 0 → ⊥) → EndsRun rest
left_part log files read [] is part = tt
left_part log files read (p ∷ ps) is part = elim (cases_Bool p.0) [
  | inl begins ↦ begins
  | inr goes ↦ absurd (part (eqb-true (read % 8176) 0 (goes_full (seen log files) (page_behind read) (read % 8176 == 0) p ps is.stand goes)))
]

-- what is left begins with the next page
pub record NextLeft (log : LogValue) (files : LogFiles) (read : ℕ) (rest : List Piece) : Type 0 where
  pub piece : Piece
  pub behind : List Piece
  pub rest_is : rest ≡ piece ∷ behind
  pub seen_is : seen log files (read / 8176) ≡ Some piece

pub left_next : (log : LogValue) (files : LogFiles) (read : ℕ) (rest : List Piece) → IsLeft log files read rest → read < place log → read % 8176 ≡ 0 → NextLeft log files read rest
left_next log files read [] is low full = absurd (elim (cases_lt 0 log.used) [
  | inl some ↦ let e = (end_page_is log).1 some in omega (arith, e, is.end, low, full)
  | inr none ↦ let e = (end_page_is log).0 (omega (arith, none)) in omega (arith, e, is.end, low, full, none)
])
left_next log files read (p ∷ ps) is low full =
    let page : page_behind read ≡ read / 8176 = omega (arith, full) in
    record { piece = p; behind = ps; rest_is = refl; seen_is = ap (seen log files) (sym page) ∙ (next_is (seen log files) (page_behind read) (read % 8176 == 0) p is.stand.0).0 }

-- whether a run goes on
pub goes_on_is : (log : LogValue) (files : LogFiles) (read : ℕ) (rest : List Piece) (held : Option Piece) (begins : Bool) → NextLeft log files read rest → held ≡ seen log files (read / 8176) → ((piece : Piece) → held ≡ Some piece → begins ≡ piece.0)
    → GoesOn held rest (not begins)
goes_on_is log files read rest held begins next is says =
    let here : held ≡ Some next.piece = is ∙ next.seen_is in
    subst (λ (l : List Piece). GoesOn held l (not begins)) (sym next.rest_is) (by_case begins next.piece next.behind here (says next.piece here))
  where
    by_case : (b : Bool) (p : Piece) (ps : List Piece) → held ≡ Some p → b ≡ p.0 → GoesOn held (p ∷ ps) (not b)
    by_case true p ps here e = sym e
    by_case false p ps here e = (here, sym e)

-- nothing more was read
pub reads_none : (log : LogValue) (files : LogFiles) (read : ℕ) (rest : List Piece) → IsLeft log files read rest → ReadsOn log files read read rest rest []
reads_none log files read rest is = record { left = is; bytes_are = refl; place_is = omega arith; runs = refl }

-- the place behind a page's used bytes
pub read_page : (n len : ℕ) → 1 ≤ len → len ≤ 8176 → (page_behind (8176 * n + len) ≡ n + 1) × (((8176 * n + len) % 8176 == 0) ≡ (len == 8176))
read_page n len some fits = (
  omega (arith, some, fits),
  elim (cases_lt len 8176) [
    | inl part ↦
        ne_eqb ((8176 * n + len) % 8176) 0 (λ (e : (8176 * n + len) % 8176 ≡ 0). omega (arith, e, some, part)) ∙ sym (ne_eqb len 8176 (λ (e : len ≡ 8176). omega (arith, e, part)))
    | inr full ↦ eq-eqb ((8176 * n + len) % 8176) 0 (omega (arith, full, fits)) ∙ sym (eq-eqb len 8176 (omega (arith, full, fits)))
  ],
)

-- A page that is left was read: what is left behind it.
pub left_behind : (log : LogValue) (files : LogFiles) (n : ℕ) (may : Bool) (p : Piece) (ps : List Piece) → Stand (seen log files) n may (p ∷ ps) → n + length (p ∷ ps) ≡ end_page log → 1 ≤ length p.1 → length p.1 ≤ 8176
    → (n ≡ log.number → length p.1 ≡ log.used) → IsLeft log files (8176 * n + length p.1) ps
left_behind log files n may p ps stand end some fits last =
    let page = read_page n (length p.1) some fits in
    record {
      stand = subst (λ (b : Bool). Stand (seen log files) (page_behind (8176 * n + length p.1)) b ps) (sym page.1) (subst (λ (m : ℕ). Stand (seen log files) m (length p.1 == 8176) ps) (sym page.0) stand.1);
      end = omega (arith, page.0, end);
      within = elim (cases_lt n log.number) [
        | inl below ↦ inl (omega (arith, below, fits))
        | inr from ↦
            let upto : n ≤ log.number = elim (cases_lt 0 log.used) [
              | inl used ↦ let e = (end_page_is log).1 used in omega (arith, e, end)
              | inr none ↦ let e = (end_page_is log).0 (omega (arith, none)) in omega (arith, e, end)
            ] in
            let at : n ≡ log.number = omega (arith, from, upto) in inr (omega (arith, at, last at))
      ];
    }

-- one page more of a run was read
pub reads_more : (log : LogValue) (files : LogFiles) (read now : ℕ) (rest left : List Piece) (p : Piece) (ps : List Piece) (bytes : List ℕ) → ReadsOn log files read now rest left bytes → left ≡ p ∷ ps → p.0 ≡ false
    → now % 8176 ≡ 0 → 1 ≤ length p.1 → length p.1 ≤ 8176 → (now / 8176 ≡ log.number → length p.1 ≡ log.used) → ReadsOn log files read (now + length p.1) rest ps (bytes ++ p.1)
unfolding run_rest
reads_more log files read now rest left p ps bytes on left_is goes full some fits last =
    let is : IsLeft log files now (p ∷ ps) = subst (λ (l : List Piece). IsLeft log files now l) left_is on.left in
    let n : ℕ = now / 8176 in
    let page : page_behind now ≡ n = omega (arith, full) in
    let place_now : now ≡ 8176 * n = omega (arith, full) in
    let behind : IsLeft log files (8176 * n + length p.1) ps =
    left_behind log files n (now % 8176 == 0) p ps (subst (λ (m : ℕ). Stand (seen log files) m (now % 8176 == 0) (p ∷ ps)) page is.stand) (omega (arith, page, is.end)) some fits last in
    let next : 8176 * n + length p.1 ≡ now + length p.1 = omega (arith, place_now) in
    record {
      left = subst (λ (m : ℕ). IsLeft log files m ps) next behind;
      bytes_are = on.bytes_are ∙ ap (λ (l : List Piece). bytes ++ run_rest l) left_is ∙ ap (λ (b : Bool). bytes ++ cond b [] (p.1 ++ run_rest ps)) goes ∙ sym (append_assoc bytes p.1 (run_rest ps));
      place_is = omega (arith, on.place_is, length-append bytes p.1);
      runs =
          on.runs ∙ ap (λ (l : List Piece). entries_of_runs (page_behind now) l) left_is ∙ no_run (page_behind now) p ps goes
          ∙ ap (λ (m : ℕ). entries_of_runs m ps) (let e : page_behind now + 1 ≡ page_behind (now + length p.1) = omega (arith, full, some, fits) in e);
    }

-- with nothing left a run ends, and no byte of it is left
pub rest_nothing : (rest : List Piece) → EndsRun rest → run_rest rest ≡ []
unfolding run_rest
rest_nothing [] ends = refl
rest_nothing (p ∷ ps) ends = ap (λ (b : Bool). cond b [] (p.1 ++ run_rest ps)) ends

-- a run that doesn't go on ends
pub ends_there : (shown' : Option Piece) (rest : List Piece) (goes : Bool) → goes ≡ false → GoesOn shown' rest goes → EndsRun rest
ends_there shown' rest goes e is = subst (λ (b : Bool). GoesOn shown' rest b) e is

-- The next page of a run was read: these bytes of it are used.
pub reads_on : (log : LogValue) (files : LogFiles) (read now : ℕ) (rest last : List Piece) (bytes text : List ℕ) (shown' : Option Piece) (goes : Bool) → ReadsOn log files read now rest last bytes → goes ≡ true → GoesOn shown' last goes
    → now % 8176 ≡ 0 → ((piece : Piece) → shown' ≡ Some piece → text ≡ piece.1) → 1 ≤ length text → length text ≤ 8176 → (now / 8176 ≡ log.number → length text ≡ log.used)
    → (next : List Piece) × ReadsOn log files read (now + length text) rest next (bytes ++ text)
reads_on log files read now rest last bytes text shown' goes on does is full says some fits end = by_left last on (subst (λ (b : Bool). GoesOn shown' last b) does is)
  where
    by_left : (left : List Piece) → ReadsOn log files read now rest left bytes → GoesOn shown' left true → (next : List Piece) × ReadsOn log files read (now + length text) rest next (bytes ++ text)
    by_left [] on is = absurd is
    by_left (p ∷ ps) on (here, same) =
        let e : text ≡ p.1 = says p here in
        let size : length text ≡ length p.1 = ap length e in
        let more : ReadsOn log files read (now + length p.1) rest ps (bytes ++ p.1) =
        reads_more log files read now rest (p ∷ ps) p ps bytes on refl same full (omega (arith, some, size)) (omega (arith, fits, size)) (λ at. sym size ∙ end at) in
        (ps, subst (λ (l : List ℕ). ReadsOn log files read (now + length l) rest ps (bytes ++ l)) (sym e) more)

-- the used bytes of a page stand before the log's end
pub page_within : (log : LogValue) (n len : ℕ) → 8176 * n < place log → len ≤ 8176 → (n ≡ log.number → len ≡ log.used) → 8176 * n + len ≤ place log
page_within log n len low fits last = elim (cases_lt n log.number) [
  | inl below ↦ omega (arith, below, fits)
  | inr from ↦ let at : n ≡ log.number = omega (arith, from, low) in omega (arith, at, last at)
]

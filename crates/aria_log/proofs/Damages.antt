-- Damage of the log.
use Rattle.std.proofs.Common.{◌≡◌, ◌||◌, inl, inr, ℕ, ◌+◌, ◌*◌, ◌/◌, ◌%◌, ◌^◌, ◌<◌, ◌≤◌, Bool, true, false, if◌then◌else◌, nat_lt, Option, None, Some, List, length, refl, sym, ◌∙◌, ap, subst, arith, rules}
use Rattle.std.specs.Prelude.{MatchOption}
use Rattle.std.specs.Option.{option_map_or}
use Rattle.std.proofs.lemmas.Bool.{cases_Bool, cases_lt}
use Rattle.std.proofs.lemmas.Bool.Decides.{nat_tests}
use Rattle.aria_log.specs.declared.find.Damage.{Damage}
use Rattle.aria_log.specs.Pieces.{Piece, LogFiles, pieces_of, next_piece, may_behind}
use Rattle.aria_log.specs.Files.{IsQuiet}
use Rattle.aria_log.specs.Finding.{BeginsBehind, EndsFront, IsDamageBehind, IsNoted, IsUndamaged}
use Rattle.aria_log.proofs.Counting.{below_or_same}
use Rattle.aria_log.proofs.Fronts.{next_of}
use Rattle.aria_log.proofs.Starting.{none_reads}
use Rattle.aria_log.proofs.FrontReads.{last_piece}

-- no page behind the last file holds anything
pub none_behind : (files : LogFiles) (last n : ℕ) → ((f : ℕ) → last < f → f < 2 ^ 24 → files f ≡ None) → 1024 * (last + 1) ≤ n → pieces_of files n ≡ None
none_behind files last n none over = elim (cases_lt n (2 ^ 34)) [
  | inl low ↦ none_reads files n (none (n / 1024) (omega (arith, over)) (omega (arith, low)))
  | inr high ↦ last_piece files n (omega (arith, high))
]

-- no page behind the end begins a run: none up to some page, from which on none holds anything
pub none_begins : (files : LogFiles) (end stop : ℕ) → ((n : ℕ) (piece : Piece) → end ≤ n → n < stop → pieces_of files n ≡ Some piece → piece.0 ≡ false) → ((n : ℕ) → stop ≤ n → pieces_of files n ≡ None) → BeginsBehind files end → ⊥
none_begins files end stop quiet none is = elim (cases_lt is.at stop) [
  | inl less ↦ let e : false ≡ true = sym (quiet is.at is.piece is.behind less is.valid) ∙ is.begins in cc
  | inr over ↦ let e : None ≡ Some is.piece = sym (none is.at over) ∙ is.valid in cc
]

-- where none begins a run, all is quiet
pub quiet_unless : (files : LogFiles) (end : ℕ) → (BeginsBehind files end → ⊥) → IsQuiet (pieces_of files) end
quiet_unless files end none n piece from valid = elim (cases_Bool piece.0) [
  | inl begins ↦ absurd (none (record { at = n; behind = from; piece = piece; valid = valid; begins = begins }))
  | inr quiet ↦ quiet
]

-- ---- files that have too many pages

-- nothing was read yet
pub noted_none : (files : LogFiles) (first : ℕ) → IsNoted files first first None
noted_none files first = record { few = λ e n from below. absurd (omega (arith, from, below)); many = search rules }

-- fewer pages
pub noted_less : (files : LogFiles) (first to less : ℕ) (long : Option ℕ) → less ≤ to → IsNoted files first to long → IsNoted files first less long
noted_less files first to less long le is = record { few = λ e n from below. is.few e n from (omega (arith, le, below)); many = is.many }

-- one page more
pub noted_more : (files : LogFiles) (first n file pages : ℕ) (long long' : Option ℕ) → first ≤ n → n < 2 ^ 34 → file ≡ n / 1024 → pages ≡ option_map_or length (files file) 0 → long' ≡ (if nat_lt 1024 pages then Some file else long)
    → IsNoted files first n long → IsNoted files first (n + 1) long'
noted_more files first n file pages long long' from low file_is count now is = by (nat_lt 1024 pages) refl
  where
    size : pages ≡ option_map_or length (files (n / 1024)) 0
    size = count ∙ ap (λ (f : ℕ). option_map_or length (files f) 0) file_is

    by : (b : Bool) → nat_lt 1024 pages ≡ b → IsNoted files first (n + 1) long'
    by true over =
        let noted : long' ≡ Some file = now ∙ ap (λ (b : Bool). if b then Some file else long) over in
        let many : 1024 < pages = grind (arith, nat_tests, over) in
        subst (λ (o : Option ℕ). IsNoted files first (n + 1) o) (sym noted)
        (record { few = λ e. absurd (let f : Some file ≡ None = e in cc); many = (omega (arith, file_is, from), omega (arith, file_is, low), omega (arith, many, count)) })
    by false upto =
        let noted : long' ≡ long = now ∙ ap (λ (b : Bool). if b then Some file else long) upto in
        let few : pages ≤ 1024 = grind (arith, nat_tests, upto) in
        subst (λ (o : Option ℕ). IsNoted files first (n + 1) o) (sym noted)
        (record {
          few = λ none k above below. elim (below_or_same k n (omega (arith, below))) [
            | inl less ↦ is.few none k above less
            | inr same ↦ subst (λ (m : ℕ). option_map_or length (files (m / 1024)) 0 ≤ 1024) (sym same) (omega (arith, few, size))
          ];
          many = is.many;
        })

-- no file has too many pages, where none of those up to the last one does
few_files : (files : LogFiles) (first last : ℕ) → first / 1024 ≤ last → ((f : ℕ) → last < f → f < 2 ^ 24 → files f ≡ None) → IsNoted files first (1024 * (last + 1)) None
    → (f : ℕ) → first / 1024 ≤ f → f < 2 ^ 24 → option_map_or length (files f) 0 ≤ 1024
few_files files first last upto none noted f low form = elim (cases_lt last f) [
  | inl over ↦ omega (arith, ap (λ (o : Option (List (List ℕ))). option_map_or length o 0) (none f over form))
  | inr le ↦ elim (cases_lt (1024 * f) first) [
    | inl before ↦
        let same : first / 1024 ≡ f = omega (arith, low, before) in
        subst (λ (k : ℕ). option_map_or length (files k) 0 ≤ 1024) same (noted.few refl first (omega arith) (omega (arith, same, le)))
    | inr from ↦
        let same : 1024 * f / 1024 ≡ f = omega arith in
        subst (λ (k : ℕ). option_map_or length (files k) 0 ≤ 1024) same (noted.few refl (1024 * f) from (omega (arith, le)))
  ]
]

-- the page behind a front doesn't begin a run
pub end_apart : (files : LogFiles) (first end : ℕ) → EndsFront files first end → (piece : Piece) → pieces_of files end ≡ Some piece → piece.0 ≡ false
end_apart files first end is piece valid = elim (cases_Bool piece.0) [
  | inr apart ↦ apart
  | inl begins ↦
      let may : Bool = may_behind true is.whole in
      let next : next_piece (pieces_of files) end may ≡ Some piece = next_of (pieces_of files) end may piece valid (ap (λ (b : Bool). b || may) begins) in
      absurd (let e : None ≡ Some piece = sym is.front.end ∙ ap (λ (n : ℕ). next_piece (pieces_of files) n may) (sym is.end_is) ∙ next in cc)
]

-- the end, which doesn't begin a run, and what is behind it
begins_later : (files : LogFiles) (end : ℕ) → ((piece : Piece) → pieces_of files end ≡ Some piece → piece.0 ≡ false) → BeginsBehind files end → BeginsBehind files (end + 1)
begins_later files end apart is = elim (below_or_same end is.at is.behind) [
  | inl less ↦ record { at = is.at; behind = omega (arith, less); piece = is.piece; valid = is.valid; begins = is.begins }
  | inr same ↦ absurd (let e : false ≡ true = sym (apart is.piece (ap (pieces_of files) same ∙ is.valid)) ∙ is.begins in cc)
]

-- what is found of damage behind what was read
pub damage_found : (files : LogFiles) (first end last : ℕ) (long : Option ℕ) (damage : Option Damage) → first ≤ end → first / 1024 ≤ last → ((f : ℕ) → last < f → f < 2 ^ 24 → files f ≡ None)
    → ((piece : Piece) → pieces_of files end ≡ Some piece → piece.0 ≡ false) → (BeginsBehind files (end + 1) → ⊥) → IsNoted files first (1024 * (last + 1)) long
    → MatchOption damage (long ≡ None) (λ d. (long ≡ Some d.file) × (d.page ≡ 1024)) → MatchOption damage (IsUndamaged files (first / 1024) end) (λ d. IsDamageBehind files (first / 1024) end d.file d.page)
damage_found files first end last long None from upto none apart quiet noted is = record {
  few = few_files files first last upto none (subst (λ (o : Option ℕ). IsNoted files first (1024 * (last + 1)) o) is noted);
  quiet = quiet_unless files end (λ behind. quiet (begins_later files end apart behind));
}
damage_found files first end last long (Some d) from upto none apart quiet noted is =
    let many = (subst (λ (o : Option ℕ). IsNoted files first (1024 * (last + 1)) o) is.0 noted).many in inl (record { from = many.0; form = many.1; many = many.2; page_is = is.1 })

-- a run behind what was read
pub damage_broken : (files : LogFiles) (low end : ℕ) (d : Damage) → d.file ≡ end / 1024 → d.page ≡ end % 1024 → BeginsBehind files (end + 1) → IsDamageBehind files low end d.file d.page
damage_broken files low end d file page is = inr (record { file_is = file; page_is = page; behind = record { at = is.at; behind = omega (arith, is.behind); piece = is.piece; valid = is.valid; begins = is.begins } })

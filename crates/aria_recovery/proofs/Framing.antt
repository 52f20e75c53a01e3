-- What a held page says of its write: all that the step asks for.
use Rattle.std.proofs.Common.{◌≡◌, ◌∙◌, ℕ, zero, suc, ◌+◌, ◌<◌, ◌≤◌, Bool, true, false, cond, List, [], ◌∷◌, ◌++◌, length, take, drop, max, nat_eq, nat_le, ap, sym, refl, subst, arith, Option, None, Some, inl, inr}
use Rattle.std.specs.Prelude.{IsTrue, All}
use Rattle.std.specs.List.{AllByRecursion}
use Rattle.std.proofs.lemmas.Bool.{eqb-true, cases_lt}
use Rattle.std.proofs.lemmas.Bool.Decides.{nat_tests}
use Rattle.std.proofs.lemmas.List.{take_all, drop_all, take-append-drop, get_or_past}
use Rattle.std.proofs.lemmas.List.Elements.{All-nil}
use Rattle.aria_page.specs.declared.lsn.Lsn.{Lsn}
use Rattle.aria_page.specs.Lsn.{lsn_number}
use Rattle.aria_page.specs.declared.edit.Edit.{Edit}
use Rattle.aria_page.specs.declared.place.Part.{Part}
use Rattle.aria_page.specs.Page.{page_body, zero_page}
use Rattle.aria_record.specs.declared.record.Record.{Record}
use Rattle.aria_host.specs.Folder.{Folder}
use Rattle.aria_host.specs.Steps.{MayWrite}
use Rattle.aria_record.specs.Logged.{Logged}
use Rattle.aria_recovery.specs.Redo.{Seen, is_sound, seen, page_seen, page_number, edits_in, edits_at, edits_on, reach_in, reach_on, reach, stepped, redo, number_at}
use Rattle.aria_recovery.specs.Tables.{Maker, Life, life_of, told_by, is_from, file, tables_of, IsCurrent, AreCurrent, page_in, count_in}
use Rattle.aria_recovery.specs.Images.{IsNeutral}
use Rattle.aria_recovery.specs.Forced.{IsForced}
use Rattle.aria_recovery.specs.Redo.{is_some_edit, touches}
use Rattle.aria_recovery.proofs.Fronts.{life_quiet, all_later, each_of}
use Rattle.aria_recovery.proofs.Redoing.{IsFrom, redo_later, redo_fewer, redo_within}
use Rattle.aria_recovery.proofs.Seeing.{seen_zero}
use Rattle.aria_recovery.proofs.Writing.{page_is, count_is}
use Rattle.aria_recovery.proofs.Imaging.{write_step}

-- a page that a group edits is below its reach
reach_record : (n : ℕ) (e : Option (ℕ × List Edit)) → is_some_edit (edits_at n e) ≡ true → n < reach_in e
reach_record n None on = absurd (cc)
reach_record n (Some e) on = by (nat_eq n e.0) refl on
  where
    by : (b : Bool) → nat_eq n e.0 ≡ b → is_some_edit (cond b e.1 []) ≡ true → n < e.0 + 1
    by true same some = let is : n ≡ e.0 = eqb-true n e.0 same in omega arith
    by false off some = absurd (cc)

reach_group : (name : List ℕ) (part : Part) (n : ℕ) (rs : List Record) → is_some_edit (edits_on name part n rs) ≡ true → n < reach_on name part rs
reach_group name part n [] on = absurd (cc)
reach_group name part n (r ∷ rs) on = by (edits_at n (edits_in name part r)) refl on (λ rest. reach_group name part n rs rest)
  where
    by : (es : List Edit) → edits_at n (edits_in name part r) ≡ es → is_some_edit (es ++ edits_on name part n rs) ≡ true → (is_some_edit (edits_on name part n rs) ≡ true → n < reach_on name part rs) → n < reach_on name part (r ∷ rs)
    by [] is some rest = let low = rest some in omega (arith, low)
    by (e ∷ es) is some rest = let low = reach_record n (edits_in name part r) (ap is_some_edit is) in omega (arith, low)

pub reach_touched : (name : List ℕ) (part : Part) (n : ℕ) (before after : List Logged) (g : Logged) → touches name part n g.group ≡ true → n < reach name part (before ++ g ∷ after)
reach_touched name part n [] after g on = let low = reach_group name part n g.group on in omega (arith, low)
reach_touched name part n (h ∷ before) after g on = let low = reach_touched name part n before after g on in omega (arith, low)

-- groups that don't reach a page leave it
redo_beyond : (name : List ℕ) (part : Part) (n : ℕ) (gs : List Logged) (x : Seen) → reach name part gs ≤ n → redo name part n gs x ≡ x
redo_beyond name part n [] x low = refl
redo_beyond name part n (g ∷ gs) x low = ap (λ (es : List Edit). redo name part n gs (stepped (number_at g.at) es x)) (by (edits_on name part n g.group) refl) ∙ redo_beyond name part n gs x (omega (arith, low))
  where
    by : (es : List Edit) → edits_on name part n g.group ≡ es → edits_on name part n g.group ≡ []
    by [] is = is
    by (e ∷ es) is = absurd (let more : n < reach_on name part g.group = reach_group name part n g.group (ap is_some_edit is) in omega (arith, low, more))

reach_take : (name : List ℕ) (part : Part) (j : ℕ) (gs : List Logged) → reach name part (take j gs) ≤ reach name part gs
reach_take name part zero gs = omega arith
reach_take name part (suc j) [] = omega arith
reach_take name part (suc j) (g ∷ gs) = let low = reach_take name part j gs in omega (arith, low)

abbrev first_of : Seen → ℕ
first_of None = 0
first_of (Some p) = p.0

past_end : (n : ℕ) (pages : List (List ℕ)) → length pages ≤ n → page_seen pages n ≡ Some (0, page_body zero_page)
past_end n pages past = ap seen (get_or_past pages n zero_page past) ∙ seen_zero

-- A page that bears a group's number is one that the file has, or that the groups reach up to that one.
reach_made : (name : List ℕ) (part : Part) (n j : ℕ) (gs hs : List Logged) (pages : List (List ℕ)) (s : ℕ × List ℕ) → 1 ≤ s.0 → AllByRecursion (λ (g : Logged). s.0 < number_at g.at) hs
    → redo name part n (take j (gs ++ hs)) (page_seen pages n) ≡ Some s → n < max (length pages) (reach name part gs)
reach_made name part n j gs hs pages s some later is = elim (cases_lt n (max (length pages) (reach name part gs))) [
  | inl low ↦ low
  | inr past ↦ absurd (
      let few = reach_take name part j gs in
      let same : Some (0, page_body zero_page) ≡ Some s = sym (past_end n pages (omega (arith, past))) ∙ sym (redo_beyond name part n (take j gs) (page_seen pages n) (omega (arith, past, few))) ∙ redo_fewer name part n j gs hs (page_seen pages n) s later is in
      let none : 0 ≡ s.0 = ap first_of same in
      omega (arith, none, some))
]

le_of : (a b : ℕ) → nat_le a b ≡ true → a ≤ b
le_of a b low = grind (arith, nat_tests)

abbrev seen_by : ℕ → List ℕ → Bool → Seen
seen_by lsn body b = cond b (Some (lsn, body)) None

seen_from : (at : ℕ) (page : List ℕ) → at ≤ page_number page → IsFrom at (seen page)
seen_from at page low = by (is_sound page)
  where
    by : (b : Bool) → IsFrom at (seen_by (page_number page) (page_body page) b)
    by true = low
    by false = tt

number_from : (at : ℕ) (page : List ℕ) (body : List ℕ) (lsn : ℕ) → seen page ≡ Some (lsn, body) → IsFrom at (Some (lsn, body)) → at ≤ page_number page
number_from at page body lsn is from = by (is_sound page) is
  where
    by : (b : Bool) → seen_by (page_number page) (page_body page) b ≡ Some (lsn, body) → at ≤ page_number page
    by true same = let e : page_number page ≡ lsn = ap first_of same in omega (arith, e, from)
    by false same = absurd (cc)

-- the first page of a current file isn't older than the table
first_from : (at : Lsn) (pages : List (List ℕ)) → is_from at (Some pages) ≡ true → IsFrom (lsn_number at) (page_seen pages 0)
first_from at [] from = absurd (cc)
first_from at (p ∷ ps) from = seen_from (lsn_number at) p (le_of (lsn_number at) (page_number p) from)

module _ (opened : List ℕ → Bool) (gs : List Logged) (name : List ℕ) (p : Part) (n : ℕ) (page : List ℕ) (now : Folder) (pages : List (List ℕ)) (lsn : ℕ) (body : List ℕ) where
  abbrev since : List Logged
  since = (life_of name gs).since

  -- A PAGE IS WRITTEN as a front of the groups, or all of them, make the file's, while its own last group is forced: that is neutral.
  pub front_step : (forced i : ℕ) → IsTrue (opened name) → AreCurrent name gs now → now (file name p) ≡ Some pages → redo name p n (take i since) (page_seen pages n) ≡ Some (lsn, body) → seen page ≡ Some (lsn, body)
      → n < max (length pages) (reach name p since) → All (λ g. told_by name g ≡ None) (drop forced gs) → IsForced lsn gs forced → IsNeutral opened gs forced now (MayWrite (file name p) n page)
  front_step forced i on current is held sealed within quiet ahead = write_step opened gs forced name p n page now on lasts made counted first
    where
      -- the groups that count for the name, of so many in front
      front : ℕ → List Logged
      front m = (life_of name (take m gs)).since

      life_is : (m : ℕ) → forced ≤ m → life_of name gs ≡ record { last = (life_of name (take m gs)).last; since = front m ++ drop m gs }
      life_is m lo = ap (life_of name) (sym (take-append-drop m gs)) ∙ life_quiet name (take m gs) (drop m gs) (each_of (λ g. told_by name g ≡ None) (drop m gs) (all_later (λ g. told_by name g ≡ None) forced m gs lo quiet))

      lasts : (m : ℕ) → forced ≤ m → m ≤ length gs → (life_of name (take m gs)).last ≡ (life_of name gs).last
      lasts m lo hi = sym (ap (λ (l : Life). l.last) (life_is m lo))

      current_at : (m : ℕ) → forced ≤ m → AreCurrent name (take m gs) now
      current_at m lo part = subst (λ (l : Option (Option Maker)). IsCurrent l (now (file name part))) (ap (λ (l : Life). l.last) (life_is m lo)) (current part)

      ahead_by : IsForced lsn gs forced → All (λ g. lsn < number_at g.at) (drop forced gs)
      ahead_by (inl all) = subst (All (λ g. lsn < number_at g.at)) (sym (drop_all forced gs (omega (arith, all)))) (All-nil (λ g. lsn < number_at g.at))
      ahead_by (inr some) = some.1

      later : (m : ℕ) → forced ≤ m → AllByRecursion (λ (g : Logged). lsn < number_at g.at) (drop m gs)
      later m lo = each_of (λ g. lsn < number_at g.at) (drop m gs) (all_later (λ g. lsn < number_at g.at) forced m gs lo (ahead_by ahead))

      held_by : (m : ℕ) → forced ≤ m → redo name p n (take i (front m ++ drop m gs)) (page_seen pages n) ≡ Some (lsn, body)
      held_by m lo = ap (λ (l : Life). redo name p n (take i l.since) (page_seen pages n)) (sym (life_is m lo)) ∙ held

      made : (m : ℕ) → forced ≤ m → m ≤ length gs → redo name p n (front m) (seen page) ≡ page_in (tables_of now (take m gs) name) p n
      made m lo hi = ap (redo name p n (front m)) sealed ∙ redo_within name p n i (front m) (drop m gs) (page_seen pages n) (lsn, body) (later m lo) (held_by m lo) ∙ sym (page_is name (take m gs) p now pages is (current_at m lo) n)

      low : (m : ℕ) → forced ≤ m → IsForced lsn gs forced → n < max (length pages) (reach name p (front m))
      low m lo (inl all) = subst (λ (l : List Logged). n < max (length pages) (reach name p (life_of name l).since)) (sym (take_all m gs (omega (arith, all, lo)))) within
      low m lo (inr some) = reach_made name p n i (front m) (drop m gs) pages (lsn, body) some.0 (later m lo) (held_by m lo)

      counted : (m : ℕ) → forced ≤ m → m ≤ length gs → n < count_in (tables_of now (take m gs) name) p
      counted m lo hi = subst (λ (k : ℕ). n < k) (sym (count_is name (take m gs) p now pages is (current_at m lo))) (low m lo ahead)

      first : n ≡ 0 → (maker : Maker) → (life_of name gs).last ≡ Some (Some maker) → lsn_number maker.at ≤ page_number page
      first zero_is maker made = number_from (lsn_number maker.at) page body lsn sealed (subst (IsFrom (lsn_number maker.at)) held (redo_later name p n (take i since) (lsn_number maker.at) (page_seen pages n)
          (subst (λ (k : ℕ). IsFrom (lsn_number maker.at) (page_seen pages k)) (sym zero_is) (first_from maker.at pages (subst (λ (l : Option (Option Maker)). IsCurrent l (Some pages)) made (subst (IsCurrent (life_of name gs).last) is (current p)))))))

-- What the tables' entering asks of the log's groups and of the names of the folder's files.
use Rattle.std.proofs.Common.{◌≡◌, ◌∙◌, ◌&&◌, ◌||◌, ℕ, ◌+◌, ◌≤◌, ◌^◌, Bool, true, false, cond, List, [], ◌∷◌, ◌++◌, count_by, refl, sym, subst, arith, Option, None, Some}
use Rattle.std.specs.Prelude.{is_some, All}
use Rattle.std.specs.List.{AllByRecursion, list_any}
use Rattle.std.proofs.lemmas.List.Elements.{All-head, All-tail}
use Rattle.std.proofs.lemmas.List.Sums.{sum_by-cons}
use Rattle.aria_page.specs.declared.place.Part.{Part}
use Rattle.aria_page.specs.declared.place.Part.TheVariants.{Keys}
use Rattle.aria_value.specs.Named.{same_name}
use Rattle.aria_host.specs.Calls.{Lists}
use Rattle.aria_host.specs.declared.file_name.FileName.{FileName}
use Rattle.aria_host.specs.Folder.{Folder, same_file}
use Rattle.aria_record.specs.declared.record.Record.{Record}
use Rattle.aria_record.specs.declared.record.Record.TheVariants.{Redo}
use Rattle.aria_record.specs.Groups.{RecordFits, IsGroup}
use Rattle.aria_record.specs.Logged.{Logged}
use Rattle.aria_recovery.specs.Redo.{same_part, edits_in, reach_in, reach_on, reach}
use Rattle.aria_recovery.specs.Tables.{Maker, Life, lives, life_from, life_of, told_by, file}
use Rattle.aria_pager.specs.Entered.{AreLow, AreListed}

-- ---- groups that can be stored edit no page that a file can't have

module _ (name : List ℕ) (part : Part) where
  one_low : (r : Record) → RecordFits r → reach_in (edits_in name part r) ≤ 2 ^ 31
  one_low (Redo kind table p page edits) fits = by (same_name name table && same_part part p)
    where
      by : (b : Bool) → reach_in (cond b (Some (page, edits)) None) ≤ 2 ^ 31
      by true = let low = fits.body.low in omega (arith, low)
      by false = omega arith
  one_low r fits = omega arith

  records_low : (rs : List Record) → AllByRecursion RecordFits rs → reach_on name part rs ≤ 2 ^ 31
  records_low [] all = omega arith
  records_low (r ∷ rs) all = let a = one_low r all.0 in let b = records_low rs all.1 in omega (arith, a, b)

  push_low : (xs : List Logged) (g : Logged) → reach name part xs ≤ 2 ^ 31 → reach_on name part g.group ≤ 2 ^ 31 → reach name part (xs ++ g ∷ []) ≤ 2 ^ 31
  push_low [] g low mine = omega (arith, mine)
  push_low (h ∷ xs) g low mine = let rest = push_low xs g (omega (arith, low)) mine in omega (arith, low, rest)

  lives_low : (g : Logged) (life : Life) (said : Option (Option Maker)) → reach name part life.since ≤ 2 ^ 31 → reach_on name part g.group ≤ 2 ^ 31 → reach name part (lives g life said).since ≤ 2 ^ 31
  lives_low g life None low mine = push_low life.since g low mine
  lives_low g life (Some last) low mine = omega arith

  life_low : (life : Life) (gs : List Logged) → reach name part life.since ≤ 2 ^ 31 → All (λ g. IsGroup g.group) gs → reach name part (life_from name life gs).since ≤ 2 ^ 31
  life_low life [] low all = low
  life_low life (g ∷ gs) low all = life_low (lives g life (told_by name g)) gs (lives_low g life (told_by name g) low (records_low g.group (All-head (λ h. IsGroup h.group) g gs all).each)) (All-tail (λ h. IsGroup h.group) g gs all)

pub groups_low : (groups : List Logged) → All (λ g. IsGroup g.group) groups → AreLow groups
groups_low groups all name part = life_low name part (record { last = None; since = [] }) groups (omega arith) all

-- ---- a file that is listed once, or isn't listed

module _ {A : Type 0} (p : A → Bool) where
  count_cons : (x : A) (xs : List A) → count_by p (x ∷ xs) ≡ cond (p x) 1 0 + count_by p xs
  count_cons x xs = sum_by-cons (λ y. cond (p y) 1 0) x xs

  counted_none : (xs : List A) → count_by p xs ≡ 0 → list_any p xs ≡ false
  counted_none [] none = refl
  counted_none (x ∷ xs) none = by (p x) (sym (count_cons x xs) ∙ none) (counted_none xs)
    where
      by : (b : Bool) → cond b 1 0 + count_by p xs ≡ 0 → (count_by p xs ≡ 0 → list_any p xs ≡ false) → (b || list_any p xs) ≡ false
      by true sum later = absurd (omega (arith, sum))
      by false sum later = later (omega (arith, sum))

  counted_some : (xs : List A) → 1 ≤ count_by p xs → list_any p xs ≡ true
  counted_some [] some = absurd (omega (arith, some))
  counted_some (x ∷ xs) some = by (p x) (subst (λ (n : ℕ). 1 ≤ n) (count_cons x xs) some) (counted_some xs)
    where
      by : (b : Bool) → 1 ≤ cond b 1 0 + count_by p xs → (1 ≤ count_by p xs → list_any p xs ≡ true) → (b || list_any p xs) ≡ true
      by true sum later = refl
      by false sum later = later (omega (arith, sum))

  pub counted : (xs : List A) (b : Bool) → count_by p xs ≡ cond b 1 0 → list_any p xs ≡ b
  counted xs true is = counted_some xs (omega (arith, is))
  counted xs false is = counted_none xs is

-- The names were listed in a folder that had the same index files, of the tables of whose files the groups tell nothing.
pub listed_of : (names : List FileName) (d folder : Folder) (groups : List Logged) → Lists d names → ((name : List ℕ) → (life_of name groups).last ≡ None → is_some (folder (file name Keys)) ≡ is_some (d (file name Keys))) → AreListed names folder groups
listed_of names d folder groups lists same name last = counted (same_file (file name Keys)) names (is_some (d (file name Keys))) (lists (file name Keys) tt) ∙ sym (same name last)

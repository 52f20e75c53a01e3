-- One table's life is taken out, changed and put back.
use Rattle.std.proofs.Common.{◌≡◌, ◌∙◌, ◌&&◌, ◌||◌, ◌+◌, ℕ, Bool, true, false, cond, List, [], ◌∷◌, ◌++◌, nat_eq, max, ap, sym, refl, arith, Option, None, Some, Result, OnOk, IfOk, Ok, Err}
use Rattle.std.specs.List.{list_any}
use Rattle.std.specs.Prelude.{is_some}
use Rattle.std.proofs.lemmas.List.Folds.{list_any-append}
use Rattle.std.specs.Cmp.Lexicographic.{slice_cmp, bytes_decides}
use Rattle.std.specs.Ordering.{nat_cmp, is_eq, eq_by_cmp}
use Rattle.std.specs.Set.{is_member}
use Rattle.std.proofs.lemmas.Map.Text.{is_eq-slice_cmp}
use Rattle.aria_page.specs.declared.lsn.Lsn.{Lsn}
use Rattle.aria_page.specs.declared.place.Part.{Part}
use Rattle.aria_page.specs.declared.edit.Edit.{Edit}
use Rattle.aria_page.specs.declared.group.RedoKind.{RedoKind}
use Rattle.aria_value.specs.Named.{same_name}
use Rattle.aria_record.specs.declared.record.Record.{Record}
use Rattle.aria_record.specs.declared.record.Record.TheVariants.{Redo, RepairTable}
use Rattle.aria_recovery.specs.Redo.{same_part, edits_in, edits_at, edits_on, is_some_edit, reach_on, reach_in as reach_by}
use Rattle.aria_recovery.specs.Noted.{Lives, life_at, edit_in, edit_at, reach_in, reach_at, told_at, file_group_at, edit_after, Notes, NotesAll, told_of, unless_said, is_file_record, is_redo_of, is_known, Settles}
use Rattle.aria_recovery.specs.Tables.{Maker, says}
use Rattle.aria_recovery.proofs.Behind.{edits_push}
use Rattle.aria_recovery.specs.declared.life.Life.{Life}
use Rattle.aria_recovery.specs.declared.life.Told.{Told}

-- names that compare as equal are the same
pub name_is : (a b : List ℕ) → is_eq (slice_cmp nat_cmp a b) ≡ true → a ≡ b
name_is a b same = (bytes_decides a b).0 (sym (is_eq-slice_cmp a b) ∙ same)

-- the map has that life at the name, and what it had at others
abbrev pub Puts : List ℕ → Life → Lives → Lives → Type 0
Puts name life old new = (q : List ℕ) → life_at new q ≡ cond (is_eq (slice_cmp nat_cmp name q)) (Some life) (life_at old q)

pub puts : (name : List ℕ) (life : Life) (old mid new : Lives) → ((q : List ℕ) → life_at mid q ≡ cond (is_eq (slice_cmp nat_cmp name q)) None (life_at old q))
    → ((q : List ℕ) → life_at new q ≡ cond (is_eq (slice_cmp nat_cmp name q)) (Some life) (life_at mid q)) → Puts name life old new
puts name life old mid new taken put q = put q ∙ ap (λ (o : Option Life). cond (is_eq (slice_cmp nat_cmp name q)) (Some life) o) (taken q) ∙ by (is_eq (slice_cmp nat_cmp name q))
  where
    by : (b : Bool) → cond b (Some life) (cond b None (life_at old q)) ≡ cond b (Some life) (life_at old q)
    by true = refl
    by false = refl

module _ (name : List ℕ) (life : Life) (old new : Lives) (is : Puts name life old new) where
  pub put_edits : (before : Life) (at : Lsn) (part : Part) (page : ℕ) (some : Bool) → ((p : Part) (n : ℕ) → edit_in before p n ≡ edit_at (life_at old name) p n)
      → ((p : Part) (n : ℕ) → edit_in life p n ≡ cond (same_part p part && (nat_eq n page && some)) (Some at) (edit_in before p n))
      → (q : List ℕ) (p : Part) (n : ℕ) → edit_at (life_at new q) p n ≡ cond (is_eq (slice_cmp nat_cmp name q) && (same_part p part && (nat_eq n page && some))) (Some at) (edit_at (life_at old q) p n)
  put_edits before at part page some was noted q p n = ap (λ (o : Option Life). edit_at o p n) (is q) ∙ by (is_eq (slice_cmp nat_cmp name q)) refl
    where
      here : Bool
      here = same_part p part && (nat_eq n page && some)

      by : (b : Bool) → is_eq (slice_cmp nat_cmp name q) ≡ b → edit_at (cond b (Some life) (life_at old q)) p n ≡ cond (is_eq (slice_cmp nat_cmp name q) && here) (Some at) (edit_at (life_at old q) p n)
      by true same = noted p n ∙ ap (λ (o : Option Lsn). cond here (Some at) o) (was p n ∙ ap (λ (k : List ℕ). edit_at (life_at old k) p n) (name_is name q same)) ∙ sym (ap (λ (b : Bool). cond (b && here) (Some at) (edit_at (life_at old q) p n)) same)
      by false other = sym (ap (λ (b : Bool). cond (b && here) (Some at) (edit_at (life_at old q) p n)) other)

  pub put_reach : (before : Life) (part : Part) (page : ℕ) → ((p : Part) → reach_in before p ≡ reach_at (life_at old name) p)
      → ((p : Part) → reach_in life p ≡ cond (same_part p part) (max (reach_in before p) (page + 1)) (reach_in before p))
      → (q : List ℕ) (p : Part) → reach_at (life_at new q) p ≡ cond (is_eq (slice_cmp nat_cmp name q) && same_part p part) (max (reach_at (life_at old q) p) (page + 1)) (reach_at (life_at old q) p)
  put_reach before part page was noted q p = ap (λ (o : Option Life). reach_at o p) (is q) ∙ by (is_eq (slice_cmp nat_cmp name q)) refl
    where
      raised : Bool → ℕ → ℕ
      raised b n = cond b (max n (page + 1)) n

      by : (b : Bool) → is_eq (slice_cmp nat_cmp name q) ≡ b → reach_at (cond b (Some life) (life_at old q)) p ≡ raised (is_eq (slice_cmp nat_cmp name q) && same_part p part) (reach_at (life_at old q) p)
      by true same = noted p ∙ ap (raised (same_part p part)) (was p ∙ ap (λ (k : List ℕ). reach_at (life_at old k) p) (name_is name q same)) ∙ sym (ap (λ (b : Bool). raised (b && same_part p part) (reach_at (life_at old q) p)) same)
      by false other = sym (ap (λ (b : Bool). raised (b && same_part p part) (reach_at (life_at old q) p)) other)

  pub put_told : life.told ≡ told_at (life_at old name) → (q : List ℕ) → told_at (life_at new q) ≡ told_at (life_at old q)
  put_told was q = ap told_at (is q) ∙ by (is_eq (slice_cmp nat_cmp name q)) refl
    where
      by : (b : Bool) → is_eq (slice_cmp nat_cmp name q) ≡ b → told_at (cond b (Some life) (life_at old q)) ≡ told_at (life_at old q)
      by true same = was ∙ ap (λ (k : List ℕ). told_at (life_at old k)) (name_is name q same)
      by false other = refl

  pub put_file_group : life.file_group ≡ file_group_at (life_at old name) → (q : List ℕ) → file_group_at (life_at new q) ≡ file_group_at (life_at old q)
  put_file_group was q = ap file_group_at (is q) ∙ by (is_eq (slice_cmp nat_cmp name q)) refl
    where
      by : (b : Bool) → is_eq (slice_cmp nat_cmp name q) ≡ b → file_group_at (cond b (Some life) (life_at old q)) ≡ file_group_at (life_at old q)
      by true same = was ∙ ap (λ (k : List ℕ). file_group_at (life_at old k)) (name_is name q same)
      by false other = refl

  pub put_edits_same : ((p : Part) (n : ℕ) → edit_in life p n ≡ edit_at (life_at old name) p n) → (q : List ℕ) (p : Part) (n : ℕ) → edit_at (life_at new q) p n ≡ edit_at (life_at old q) p n
  put_edits_same was q p n = ap (λ (o : Option Life). edit_at o p n) (is q) ∙ by (is_eq (slice_cmp nat_cmp name q)) refl
    where
      by : (b : Bool) → is_eq (slice_cmp nat_cmp name q) ≡ b → edit_at (cond b (Some life) (life_at old q)) p n ≡ edit_at (life_at old q) p n
      by true same = was p n ∙ ap (λ (k : List ℕ). edit_at (life_at old k) p n) (name_is name q same)
      by false other = refl

  pub put_reach_same : ((p : Part) → reach_in life p ≡ reach_at (life_at old name) p) → (q : List ℕ) (p : Part) → reach_at (life_at new q) p ≡ reach_at (life_at old q) p
  put_reach_same was q p = ap (λ (o : Option Life). reach_at o p) (is q) ∙ by (is_eq (slice_cmp nat_cmp name q)) refl
    where
      by : (b : Bool) → is_eq (slice_cmp nat_cmp name q) ≡ b → reach_at (cond b (Some life) (life_at old q)) p ≡ reach_at (life_at old q) p
      by true same = was p ∙ ap (λ (k : List ℕ). reach_at (life_at old k) p) (name_is name q same)
      by false other = refl

  -- what is read of the life that was put, or of another
  pub put_read : {A : Type 0} (read : Option Life → A) (value : A) → read (Some life) ≡ value → (q : List ℕ) → read (life_at new q) ≡ cond (is_eq (slice_cmp nat_cmp name q)) value (read (life_at old q))
  put_read read value here q = ap read (is q) ∙ by (is_eq (slice_cmp nat_cmp name q))
    where
      by : (b : Bool) → read (cond b (Some life) (life_at old q)) ≡ cond b value (read (life_at old q))
      by true = here
      by false = refl

  pub put_names : (q : List ℕ) → is_known new q ≡ (is_eq (slice_cmp nat_cmp name q) || is_known old q)
  put_names q = ap is_some (is q) ∙ by (is_eq (slice_cmp nat_cmp name q))
    where
      by : (b : Bool) → is_some (cond b (Some life) (life_at old q)) ≡ (b || is_known old q)
      by true = refl
      by false = refl

-- ---- a record

same_names : (a b : List ℕ) → is_eq (slice_cmp nat_cmp a b) ≡ same_name b a
same_names a b = by (is_eq (slice_cmp nat_cmp a b)) refl (same_name b a) refl
  where
    by : (c : Bool) → is_eq (slice_cmp nat_cmp a b) ≡ c → (d : Bool) → same_name b a ≡ d → c ≡ d
    by true one true other = refl
    by false one false other = refl
    by true one false other = sym ((bytes_decides b a).1 (sym (name_is a b one))) ∙ other
    by false one true other = sym one ∙ is_eq-slice_cmp a b ∙ (bytes_decides a b).1 (sym ((bytes_decides b a).0 other))

pub redo_edits : (at : Lsn) (q table : List ℕ) (p part : Part) (n page : ℕ) (kind : RedoKind) (es : List Edit) (last : Option Lsn)
    → cond (is_eq (slice_cmp nat_cmp table q) && (same_part p part && (nat_eq n page && is_some_edit es))) (Some at) last ≡ edit_after at (edits_at n (edits_in q p (Redo kind table part page es))) last
redo_edits at q table p part n page kind es last = ap (λ (b : Bool). cond (b && (same_part p part && (nat_eq n page && is_some_edit es))) (Some at) last) (same_names table q) ∙ by (same_name q table) (same_part p part)
  where
    one : (d : Bool) → cond (d && is_some_edit es) (Some at) last ≡ cond (is_some_edit (cond d es [])) (Some at) last
    one true = refl
    one false = refl

    by : (b c : Bool) → cond (b && (c && (nat_eq n page && is_some_edit es))) (Some at) last ≡ cond (is_some_edit (edits_at n (cond (b && c) (Some (page, es)) None))) (Some at) last
    by false c = refl
    by true false = refl
    by true true = one (nat_eq n page)

pub redo_reach : (q table : List ℕ) (p part : Part) (page : ℕ) (kind : RedoKind) (es : List Edit) (reach : ℕ)
    → cond (is_eq (slice_cmp nat_cmp table q) && same_part p part) (max reach (page + 1)) reach ≡ max reach (reach_by (edits_in q p (Redo kind table part page es)))
redo_reach q table p part page kind es reach = ap (λ (b : Bool). cond (b && same_part p part) (max reach (page + 1)) reach) (same_names table q) ∙ by (same_name q table && same_part p part)
  where
    by : (b : Bool) → cond b (max reach (page + 1)) reach ≡ max reach (reach_by (cond b (Some (page, es)) None))
    by true = refl
    by false = omega arith

-- a record more of a group
edit_after_on : (at : Lsn) (es fs : List Edit) (last : Option Lsn) → edit_after at fs (edit_after at es last) ≡ edit_after at (es ++ fs) last
edit_after_on at [] fs last = refl
edit_after_on at (e ∷ es) [] last = refl
edit_after_on at (e ∷ es) (f ∷ fs) last = refl

reach_on_push : (name : List ℕ) (part : Part) (rs : List Record) (r : Record) → reach_on name part (rs ++ r ∷ []) ≡ max (reach_on name part rs) (reach_by (edits_in name part r))
reach_on_push name part [] r = omega arith
reach_on_push name part (q ∷ rs) r = ap (max (reach_by (edits_in name part q))) (reach_on_push name part rs r) ∙ omega arith

pub notes_none : (at : Lsn) (lives : Lives) → NotesAll at [] lives lives
notes_none at lives = record { edits = λ q p n. refl; reach = λ q p. omega arith; told = λ q. refl; file_group = λ q. refl; names = λ q. refl }

pub notes_more : (at : Lsn) (rs : List Record) (r : Record) (a b c : Lives) → NotesAll at rs a b → Notes at r b c → NotesAll at (rs ++ r ∷ []) a c
notes_more at rs r a b c first second = record {
  edits = λ q p n. second.edits q p n ∙ ap (edit_after at (edits_at n (edits_in q p r))) (first.edits q p n) ∙ edit_after_on at (edits_on q p n rs) (edits_at n (edits_in q p r)) (edit_at (life_at a q) p n)
      ∙ ap (λ (es : List Edit). edit_after at es (edit_at (life_at a q) p n)) (sym (edits_push q p n rs r));
  reach = λ q p. second.reach q p ∙ ap (λ (n : ℕ). max n (reach_by (edits_in q p r))) (first.reach q p) ∙ omega (arith, reach_on_push q p rs r);
  told = λ q. second.told q ∙ first.told q;
  file_group = λ q. second.file_group q ∙ first.file_group q;
  names = λ q. second.names q ∙ ap (λ (b : Bool). is_redo_of q r || b) (first.names q) ∙ either (is_redo_of q r) (list_any (is_redo_of q) rs) (is_known a q)
      ∙ ap (λ (b : Bool). b || is_known a q) (sym (list_any-append (is_redo_of q) (rs) (r ∷ [])));
}
  where
    either : (r q b : Bool) → (r || (q || b)) ≡ ((q || (r || false)) || b)
    either true true b = refl
    either true false b = refl
    either false true b = refl
    either false false b = refl

pub all_five : {T E A B C D F P : Type 0} → (r : Result T E) → OnOk r A → OnOk r B → OnOk r C → OnOk r D → OnOk r F → (A → B → C → D → F → P) → OnOk r P
all_five (Ok x) a b c d e f = f a b c d e
all_five (Err x) a b c d e f = tt

-- a record of edits is noted
pub notes_redo : (at : Lsn) (kind : RedoKind) (table : List ℕ) (part : Part) (page : ℕ) (es : List Edit) (some : Bool) (old new : Lives) → some ≡ is_some_edit es
    → ((q : List ℕ) (p : Part) (n : ℕ) → edit_at (life_at new q) p n ≡ cond (is_eq (slice_cmp nat_cmp table q) && (same_part p part && (nat_eq n page && some))) (Some at) (edit_at (life_at old q) p n))
    → ((q : List ℕ) (p : Part) → reach_at (life_at new q) p ≡ cond (is_eq (slice_cmp nat_cmp table q) && same_part p part) (max (reach_at (life_at old q) p) (page + 1)) (reach_at (life_at old q) p))
    → ((q : List ℕ) → told_at (life_at new q) ≡ told_at (life_at old q)) → ((q : List ℕ) → file_group_at (life_at new q) ≡ file_group_at (life_at old q)) → ((q : List ℕ) → is_known new q ≡ (is_eq (slice_cmp nat_cmp table q) || is_known old q)) → Notes at (Redo kind table part page es) old new
notes_redo at kind table part page es some old new is edits reach told file_group names = record {
  edits = λ q p n. edits q p n ∙ ap (λ (b : Bool). cond (is_eq (slice_cmp nat_cmp table q) && (same_part p part && (nat_eq n page && b))) (Some at) (edit_at (life_at old q) p n)) is
      ∙ redo_edits at q table p part n page kind es (edit_at (life_at old q) p n);
  reach = λ q p. reach q p ∙ redo_reach q table p part page kind es (reach_at (life_at old q) p);
  told = told;
  file_group = file_group;
  names = λ q. names q ∙ ap (λ (b : Bool). b || is_known old q) (same_names table q);
}

-- ---- what a group's first record says of files

-- they are made or dropped
pub settles_anew : (at : Lsn) (r : Record) (table : List ℕ) (last : Option Maker) (old new : Lives) → ((q : List ℕ) → says at q r ≡ cond (same_name q table) (Some last) None) → ((q : List ℕ) → is_file_record q r ≡ same_name q table)
    → ((q : List ℕ) (p : Part) (n : ℕ) → edit_at (life_at new q) p n ≡ cond (is_eq (slice_cmp nat_cmp table q)) None (edit_at (life_at old q) p n))
    → ((q : List ℕ) (p : Part) → reach_at (life_at new q) p ≡ cond (is_eq (slice_cmp nat_cmp table q)) 0 (reach_at (life_at old q) p))
    → ((q : List ℕ) → told_at (life_at new q) ≡ cond (is_eq (slice_cmp nat_cmp table q)) (told_of (Some last)) (told_at (life_at old q)))
    → ((q : List ℕ) → file_group_at (life_at new q) ≡ cond (is_eq (slice_cmp nat_cmp table q)) (Some at) (file_group_at (life_at old q))) → ((q : List ℕ) → is_known new q ≡ (is_eq (slice_cmp nat_cmp table q) || is_known old q)) → Settles at r old new
settles_anew at r table last old new said is_file edits reach told file_group names = record {
  edits = λ q p n. edits q p n ∙ chosen q None (edit_at (life_at old q) p n) ∙ ap (λ (s : Option (Option Maker)). unless_said s (edit_at (life_at old q) p n) None) (sym (said q));
  reach = λ q p. reach q p ∙ chosen q 0 (reach_at (life_at old q) p) ∙ ap (λ (s : Option (Option Maker)). unless_said s (reach_at (life_at old q) p) 0) (sym (said q));
  told = λ q. told q ∙ told_by_name q (told_at (life_at old q)) ∙ ap (λ (s : Option (Option Maker)). unless_said s (told_at (life_at old q)) (told_of s)) (sym (said q));
  file_group = λ q. file_group q ∙ ap (λ (b : Bool). cond b (Some at) (file_group_at (life_at old q))) (same_names table q ∙ sym (is_file q));
  names = λ q. names q ∙ ap (λ (b : Bool). b || is_known old q) (same_names table q ∙ sym (is_file q));
}
  where
    chosen : {A : Type 0} (q : List ℕ) (anew was : A) → cond (is_eq (slice_cmp nat_cmp table q)) anew was ≡ unless_said (cond (same_name q table) (Some last) None) was anew
    chosen q anew was = ap (λ (b : Bool). cond b anew was) (same_names table q) ∙ by (same_name q table)
      where
        by : (b : Bool) → cond b anew was ≡ unless_said (cond b (Some last) None) was anew
        by true = refl
        by false = refl

    told_by_name : (q : List ℕ) (was : Told) → cond (is_eq (slice_cmp nat_cmp table q)) (told_of (Some last)) was ≡ unless_said (cond (same_name q table) (Some last) None) was (told_of (cond (same_name q table) (Some last) None))
    told_by_name q was = ap (λ (b : Bool). cond b (told_of (Some last)) was) (same_names table q) ∙ by (same_name q table)
      where
        by : (b : Bool) → cond b (told_of (Some last)) was ≡ unless_said (cond b (Some last) None) was (told_of (cond b (Some last) None))
        by true = refl
        by false = refl

-- nothing is said of making and dropping
pub settles_still : (at : Lsn) (r : Record) (old new : Lives) → ((q : List ℕ) → says at q r ≡ None) → ((q : List ℕ) (p : Part) (n : ℕ) → edit_at (life_at new q) p n ≡ edit_at (life_at old q) p n)
    → ((q : List ℕ) (p : Part) → reach_at (life_at new q) p ≡ reach_at (life_at old q) p) → ((q : List ℕ) → told_at (life_at new q) ≡ told_at (life_at old q))
    → ((q : List ℕ) → file_group_at (life_at new q) ≡ cond (is_file_record q r) (Some at) (file_group_at (life_at old q))) → ((q : List ℕ) → is_known new q ≡ (is_file_record q r || is_known old q)) → Settles at r old new
settles_still at r old new quiet edits reach told file_group names = record {
  edits = λ q p n. edits q p n ∙ ap (λ (s : Option (Option Maker)). unless_said s (edit_at (life_at old q) p n) None) (sym (quiet q));
  reach = λ q p. reach q p ∙ ap (λ (s : Option (Option Maker)). unless_said s (reach_at (life_at old q) p) 0) (sym (quiet q));
  told = λ q. told q ∙ ap (λ (s : Option (Option Maker)). unless_said s (told_at (life_at old q)) (told_of s)) (sym (quiet q));
  file_group = file_group;
  names = names;
}

pub settles_repair : (at : Lsn) (table : List ℕ) (old new : Lives) → ((q : List ℕ) (p : Part) (n : ℕ) → edit_at (life_at new q) p n ≡ edit_at (life_at old q) p n)
    → ((q : List ℕ) (p : Part) → reach_at (life_at new q) p ≡ reach_at (life_at old q) p) → ((q : List ℕ) → told_at (life_at new q) ≡ told_at (life_at old q))
    → ((q : List ℕ) → file_group_at (life_at new q) ≡ cond (is_eq (slice_cmp nat_cmp table q)) (Some at) (file_group_at (life_at old q))) → ((q : List ℕ) → is_known new q ≡ (is_eq (slice_cmp nat_cmp table q) || is_known old q)) → Settles at (RepairTable table) old new
settles_repair at table old new edits reach told file_group names = settles_still at (RepairTable table) old new (λ q. refl) edits reach told
    (λ q. file_group q ∙ ap (λ (b : Bool). cond b (Some at) (file_group_at (life_at old q))) (same_names table q))
    (λ q. names q ∙ ap (λ (b : Bool). b || is_known old q) (same_names table q))

pub when_ok : {T E A B : Type 0} → (r : Result T E) → OnOk r A → (A → B) → OnOk r B
when_ok (Ok x) a f = f a
when_ok (Err e) a f = tt

-- the names of the map are those that are wanted
pub names_all : {N E : Type 0} → (items : N → List (List ℕ)) → (r : Result N E) → (ks : List (List ℕ)) (known wanted : List ℕ → Bool) → IfOk r (λ n. items n ≡ ks)
    → IfOk r (λ _. (q : List ℕ) → known q ≡ is_member (eq_by_cmp (slice_cmp nat_cmp)) ks q) → ((q : List ℕ) → known q ≡ wanted q) → IfOk r (λ n. (q : List ℕ) → is_member (eq_by_cmp (slice_cmp nat_cmp)) (items n) q ≡ wanted q)
names_all items (Ok n) ks known wanted same member is = λ q. ap (λ (l : List (List ℕ)). is_member (eq_by_cmp (slice_cmp nat_cmp)) l q) same ∙ sym (member q) ∙ is q
names_all items (Err e) ks known wanted same member is = tt

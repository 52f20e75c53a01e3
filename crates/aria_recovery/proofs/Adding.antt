-- What is told of tables, with a group more.
use Rattle.std.proofs.Common.{◌≡◌, ◌∙◌, ◌||◌, ℕ, max, Bool, true, false, cond, List, [], ◌∷◌, ◌++◌, ap, sym, refl, Option, None, Some}
use Rattle.std.specs.List.{list_any}
use Rattle.std.specs.Option.{option_map}
use Rattle.std.proofs.lemmas.List.Folds.{list_any-append}
use Rattle.aria_page.specs.declared.lsn.Lsn.{Lsn}
use Rattle.aria_page.specs.declared.place.Part.{Part}
use Rattle.aria_record.specs.declared.record.Record.{Record}
use Rattle.aria_record.specs.Logged.{Logged, lsn_at_place}
use Rattle.aria_recovery.specs.Redo.{edits_on, touches, reach, reach_on}
use Rattle.aria_recovery.specs.Tables.{Maker, Life as TableLife, lives, life_of, told_by}
use Rattle.aria_recovery.specs.Noted.{Lives, edit_after, unless_said, told_of, is_file_group, last_edit_in, last_edit, last_file_in, last_file, is_redo_of, is_of, Settles, SettlesGroup, NotesAll, HasLives}
use Rattle.aria_recovery.specs.declared.life.Told.{Told}
use Rattle.aria_recovery.proofs.Agreeing.{life_push, reach_push}

last_edit_push : (name : List ℕ) (part : Part) (n : ℕ) (last : Option ℕ) (gs : List Logged) (g : Logged) → last_edit_in name part n last (gs ++ g ∷ []) ≡ cond (touches name part n g.group) (Some g.at) (last_edit_in name part n last gs)
last_edit_push name part n last [] g = refl
last_edit_push name part n last (h ∷ gs) g = last_edit_push name part n (cond (touches name part n h.group) (Some h.at) last) gs g

last_file_push : (name : List ℕ) (last : Option ℕ) (gs : List Logged) (g : Logged) → last_file_in name last (gs ++ g ∷ []) ≡ cond (is_file_group name g.group) (Some g.at) (last_file_in name last gs)
last_file_push name last [] g = refl
last_file_push name last (h ∷ gs) g = last_file_push name (cond (is_file_group name h.group) (Some h.at) last) gs g

life_more : (name : List ℕ) (gs : List Logged) (g : Logged) → life_of name (gs ++ g ∷ []) ≡ lives g (life_of name gs) (told_by name g)
life_more name gs g = life_push name (record { last = None; since = [] }) gs g

mapped : (b : Bool) (at : ℕ) (last : Option ℕ) → option_map lsn_at_place (cond b (Some at) last) ≡ cond b (Some (lsn_at_place at)) (option_map lsn_at_place last)
mapped true at last = refl
mapped false at last = refl

-- A GROUP MORE: its records are noted, and what the first says of files is taken in
pub lives_push : (old mid new : Lives) (gs : List Logged) (g : Logged) → HasLives old gs → NotesAll (lsn_at_place g.at) g.group old mid → SettlesGroup (lsn_at_place g.at) g.group mid new → HasLives new (gs ++ g ∷ [])
lives_push old mid new gs g has notes settles = record {
  edits = λ name part n. settles.edits name part n
      ∙ ap (λ (o : Option Lsn). unless_said (told_by name g) o None) (notes.edits name part n ∙ ap (edit_after at (edits_on name part n g.group)) (has.edits name part n) ∙ sym (mapped (touches name part n g.group) g.at (last_edit name part n gs)))
      ∙ edit_said name part n (told_by name g) ∙ ap (λ (l : TableLife). option_map lsn_at_place (last_edit_in name part n None l.since)) (sym (life_more name gs g));
  reach = λ name part. settles.reach name part ∙ ap (λ (k : ℕ). unless_said (told_by name g) k 0) (notes.reach name part ∙ ap (λ (k : ℕ). max k (reach_on name part g.group)) (has.reach name part))
      ∙ reach_said name part (told_by name g) ∙ ap (λ (l : TableLife). reach name part l.since) (sym (life_more name gs g));
  told = λ name. settles.told name ∙ ap (λ (t : Told). unless_said (told_by name g) t (told_of (told_by name g))) (notes.told name ∙ has.told name)
      ∙ told_said name (told_by name g) ∙ ap (λ (l : TableLife). told_of l.last) (sym (life_more name gs g));
  file_group = λ name. settles.file_group name ∙ ap (λ (o : Option Lsn). cond (is_file_group name g.group) (Some at) o) (notes.file_group name ∙ has.file_group name)
      ∙ sym (mapped (is_file_group name g.group) g.at (last_file name gs)) ∙ ap (option_map lsn_at_place) (sym (last_file_push name None gs g));
  names = λ name. settles.names name ∙ ap (λ (b : Bool). is_file_group name g.group || b) (notes.names name ∙ ap (λ (b : Bool). list_any (is_redo_of name) g.group || b) (has.names name))
      ∙ either (is_file_group name g.group) (list_any (is_redo_of name) g.group) (list_any (is_of name) gs) ∙ sym (list_any-append (is_of name) (gs) (g ∷ []));
}
  where
    at : Lsn
    at = lsn_at_place g.at

    either : (s r b : Bool) → (s || (r || b)) ≡ (b || ((s || r) || false))
    either true true true = refl
    either true true false = refl
    either true false true = refl
    either true false false = refl
    either false true true = refl
    either false true false = refl
    either false false true = refl
    either false false false = refl

    edit_said : (name : List ℕ) (part : Part) (n : ℕ) (s : Option (Option Maker)) → unless_said s (option_map lsn_at_place (cond (touches name part n g.group) (Some g.at) (last_edit name part n gs))) None
        ≡ option_map lsn_at_place (last_edit_in name part n None (lives g (life_of name gs) s).since)
    edit_said name part n None = ap (option_map lsn_at_place) (sym (last_edit_push name part n None (life_of name gs).since g))
    edit_said name part n (Some last) = refl

    reach_said : (name : List ℕ) (part : Part) (s : Option (Option Maker)) → unless_said s (max (reach name part (life_of name gs).since) (reach_on name part g.group)) 0 ≡ reach name part (lives g (life_of name gs) s).since
    reach_said name part None = sym (reach_push name part (life_of name gs).since g)
    reach_said name part (Some last) = refl

    told_said : (name : List ℕ) (s : Option (Option Maker)) → unless_said s (told_of (life_of name gs).last) (told_of s) ≡ told_of (lives g (life_of name gs) s).last
    told_said name None = refl
    told_said name (Some last) = refl

-- the first record alone may say something of files
pub settles_first : (at : Lsn) (r : Record) (rs : List Record) (old new : Lives) → Settles at r old new → SettlesGroup at (r ∷ rs) old new
settles_first at r rs old new is = record { edits = is.edits; reach = is.reach; told = is.told; file_group = is.file_group; names = is.names }

pub settles_none : (at : Lsn) (lives : Lives) → SettlesGroup at [] lives lives
settles_none at lives = record { edits = λ q p n. refl; reach = λ q p. refl; told = λ q. refl; file_group = λ q. refl; names = λ q. refl }

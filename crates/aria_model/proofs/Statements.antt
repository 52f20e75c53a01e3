-- A statement is read as its language tells, up to the end of the line.
use Rattle.std.proofs.Common.{◌≡◌, ℕ, List, [], ◌∷◌, Bool, true, false, Option, Some, None, Result, Ok, Err, refl, sym, subst}
use Rattle.std.specs.Prelude.{ℤ, codes}
use Rattle.aria_value.specs.declared.definition.Definition.{Definition}
use Rattle.aria_value.specs.declared.definition.Key.{Key}
use Rattle.aria_value.specs.Defined.{same_name}
use Rattle.aria_model.specs.declared.refusal.Which.{Which}
use Rattle.aria_model.specs.declared.refusal.Which.TheVariants.{Keys}
use Rattle.aria_model.specs.declared.refusal.Refusal.{Refusal}
use Rattle.aria_model.specs.declared.refusal.Refusal.TheVariants.{BadStatement, BadDefinition}
use Rattle.aria_model.specs.declared.statement.Statement.{Statement}
use Rattle.aria_model.specs.declared.statement.Statement.TheVariants.{Checkpoint}
use Rattle.aria_model.specs.Token.{Token, Word, End}
use Rattle.aria_model.specs.Grammar.{Tokens, ◌>>=◌, the_end, column, row, key, setting, WrittenColumn, WrittenKey, TableKind, keys_of, unless_bad, defined_with, defined, create, insert, delete, update, select, drop, flush, statement}
use Rattle.aria_model.specs.Spelling.{Language, nothing, one, ◌·◌, Either, left, right, ◌∪◌, some, comma, list, IsName, IsWord, IsSign, word, NAME, ROW, COLUMN, KEY, LIMIT, SETTING, CREATE, INSERT, DELETE, UPDATE, SELECT, IsStatement, kinds, IsNarrow}
use Rattle.aria_model.proofs.Languages.{Example, Same, back, both, front_one, onto_one, joined_assoc, either_joined, either_same, same_self, Heads, heads_one, heads_joined, heads_sequence, Avoids, avoids_heads, one_example, joined_example, optional_example, sequence_example}
use Rattle.aria_model.proofs.Telling.{IsEnded, Told, read, undefined, same_told, bad_first, From, IsOneOf, heads_word, heads_words, choose, choose_last}
use Rattle.aria_model.proofs.Lists.{items_from}
use Rattle.aria_model.proofs.OneToken.{name_example, name_from, word_example, keyword_from, kind_example, kind_from}
use Rattle.aria_model.proofs.Productions.{name_apart, list_join, rows_join, row_from, row_example, sought_from, setting_from, setting_example, column_from, column_example, key_from, key_example, keys_join, heads_key, EndsKeys}
use Rattle.aria_model.proofs.Lookahead.{BeginsColumn, max_rows_from, sequence_colon, sequence_any, BeginsKeys, columns_join}

-- ---- the end

abbrev pub IsEnd : Token → Type 0
IsEnd End = Unit {0}
IsEnd token = ⊥

-- the line ends
abbrev pub FINISH : Language
FINISH = one IsEnd

finish_example : Example FINISH
finish_example = one_example End tt

sign_no_end : (a : ℕ) (t : Token) → IsEnd t → ¬ (IsSign a t)
sign_no_end a End x y = y
sign_no_end a t x y = x

name_no_end : (t : Token) → IsEnd t → ¬ (IsName t)
name_no_end End x y = y
name_no_end t x y = x

finish_sign : (a : ℕ) → Avoids (IsSign a) FINISH
finish_sign a = avoids_heads (heads_one IsEnd) (sign_no_end a)

-- an answer that speaks of no token
data Final {A : Type 0} : Result A Refusal → Type 0 where
  is_ok : {x : A} → Final (Ok x)
  no_definition : {which : Which} → Final (Err (BadDefinition which))

final_told : {A : Type 0} {L : Language} {ts : Tokens} {r : Result A Refusal} → Final r → L (kinds ts) → IsNarrow (kinds ts) → Told L ts r
final_told is_ok h n = read h n
final_told no_definition h n = undefined h n

behind_end : (ts : Tokens) → ts ≡ [] → FINISH (End ∷ kinds ts)
behind_end ts e = subst (λ (v : Tokens). FINISH (End ∷ kinds v)) (sym e) tt

narrow_end : (ts : Tokens) → ts ≡ [] → IsNarrow (End ∷ kinds ts)
narrow_end ts e = subst (λ (v : Tokens). IsNarrow (End ∷ kinds v)) (sym e) refl

ends_told : {A B : Type 0} (x : A) (ts : Tokens) → IsEnded ts → (f : A → Result B Refusal) → Final (f x) → Told FINISH ts (the_end x ts >>= f)
ends_told x [] e f final = absurd e
ends_told x ((at, End) ∷ ts) e f final = final_told final (behind_end ts e) (narrow_end ts e)
ends_told x ((at, t) ∷ ts) e f final = bad_first finish_example (λ w h. (heads_one IsEnd).heads (t ∷ w) h)

end_told : {A : Type 0} (x : A) (ts : Tokens) → IsEnded ts → Told FINISH ts (the_end x ts)
end_told x [] e = absurd e
end_told x ((at, End) ∷ ts) e = read (behind_end ts e) (narrow_end ts e)
end_told x ((at, t) ∷ ts) e = bad_first finish_example (λ w h. (heads_one IsEnd).heads (t ∷ w) h)

-- ---- a step, and what is behind it

step : {A B : Type 0} {C : Language → Type 0} {L R : Language} {k : ℕ} {b : A → Tokens} {ts : Tokens} {r : Result A Refusal} {f : A → Result B Refusal}
    → From C L k b ts r → Example R → C (R · FINISH) → ((x : A) → IsEnded (b x) → Told (R · FINISH) (b x) (f x)) → Told ((L · R) · FINISH) ts (r >>= f)
step {L = L} {R} {f = f} first example may behind = same_told (back (joined_assoc L R FINISH)) (first.told (R · FINISH) f may (joined_example example finish_example) (λ x e l. behind x e))

last_step : {A B : Type 0} {C : Language → Type 0} {L : Language} {k : ℕ} {b : A → Tokens} {ts : Tokens} {r : Result A Refusal} {f : A → Result B Refusal}
    → From C L k b ts r → C FINISH → ((x : A) → IsEnded (b x) → Told FINISH (b x) (f x)) → Told (L · FINISH) ts (r >>= f)
last_step {f = f} first may behind = first.told FINISH f may finish_example (λ x e l. behind x e)

-- ---- create

final_unless : {A : Type 0} (b : Bool) (which : Which) {rest : Result A Refusal} → Final rest → Final (unless_bad b which rest)
final_unless true which final = final
final_unless false which final = no_definition

final_with : (kind : TableKind) (rows : ℤ) (columns : List WrittenColumn) (written : List WrittenKey) (keys : List Key) → Final (defined_with kind rows columns written keys)
final_with kind rows columns written keys = search (final_unless, is_ok)

final_keys : (kind : TableKind) (rows : ℤ) (columns : List WrittenColumn) (written : List WrittenKey) (o : Option (List Key))
    → Final (elim o as (λ _. Result Definition Refusal) [ None ↦ Err (BadDefinition Keys) | Some found ↦ defined_with kind rows columns written found ])
final_keys kind rows columns written None = no_definition
final_keys kind rows columns written (Some found) = final_with kind rows columns written found

final_defined : (kind : TableKind) (rows : ℤ) (columns : List WrittenColumn) (written : List WrittenKey) → Final (defined kind rows columns written)
final_defined kind rows columns written = search (final_unless, final_keys kind rows columns written (keys_of columns written))

final_made : {A B : Type 0} {r : Result A Refusal} (h : A → B) → Final r → Final (r >>= λ x. Ok (h x))
final_made h is_ok = is_ok
final_made h no_definition = no_definition

abbrev KEYS : Language
KEYS = word (codes "keys") · some KEY

keys_example : Example KEYS
keys_example = joined_example (word_example (codes "keys")) (sequence_example nothing key_example)

begins_keys : BeginsKeys (KEYS · FINISH)
begins_keys = record {
  word = λ t w h. (heads_joined FINISH (heads_joined (some KEY) (heads_one (IsWord (codes "keys"))))).heads (t ∷ w) h;
  no_colon = λ t u w h. name_apart 58 u ((heads_joined FINISH (heads_sequence nothing heads_key)).heads (u ∷ w) (front_one {C = IsWord (codes "keys")} ((joined_assoc (word (codes "keys")) (some KEY) FINISH).to (t ∷ u ∷ w) h)).1);
  any = λ found is.
      let rest : Example (some KEY · FINISH) = joined_example (sequence_example nothing key_example) finish_example in
      record { tokens = rest.tokens; holds = (joined_assoc (word (codes "keys")) (some KEY) FINISH).from (Word found ∷ rest.tokens) (onto_one {C = IsWord (codes "keys")} is rest.holds) };
}

abbrev COLUMNS_KEYS : Language
COLUMNS_KEYS = some COLUMN · KEYS

columns_example : Example COLUMNS_KEYS
columns_example = joined_example (sequence_example nothing column_example) keys_example

begins_column : BeginsColumn (COLUMNS_KEYS · FINISH)
begins_column = record {
  colon = λ t u w h. sequence_colon (KEYS · FINISH) t u w ((joined_assoc (some COLUMN) KEYS FINISH).to (t ∷ u ∷ w) h);
  any = λ found.
      let rest = sequence_any (KEYS · FINISH) (joined_example keys_example finish_example) found in
      record { tokens = rest.tokens; holds = (joined_assoc (some COLUMN) KEYS FINISH).from (Word found ∷ rest.tokens) rest.holds };
}

ends_keys : EndsKeys FINISH
ends_keys = record { name = avoids_heads (heads_one IsEnd) name_no_end; sign = finish_sign 58 }

create_told : (ts : Tokens) → IsEnded ts → Told (CREATE · FINISH) ts (create ts)
create_told ts e =
    step (name_from ts e) (joined_example kind_example (joined_example (optional_example LIMIT) columns_example)) tt (λ table e1.
    step (kind_from table.1 e1) (joined_example (optional_example LIMIT) columns_example) tt (λ kind e2.
    step (max_rows_from kind.1 e2) columns_example begins_column (λ limit e3.
    step (items_from columns_join column column_from limit.1 e3) keys_example begins_keys (λ found e4.
    step (keyword_from (codes "keys") found.1 e4) (sequence_example nothing key_example) tt (λ rest e5.
    last_step (items_from keys_join key key_from rest e5) ends_keys (λ written e6.
    ends_told written.0 written.1 e6 _ (final_made _ (final_defined kind.0 limit.0 found.0 written.0))))))))

-- ---- the other statements

insert_told : (ts : Tokens) → IsEnded ts → Told (INSERT · FINISH) ts (insert ts)
insert_told ts e =
    step (name_from ts e) (sequence_example nothing row_example) tt (λ table e1.
    last_step (items_from rows_join row row_from table.1 e1) (finish_sign 40) (λ read e2. end_told _ read.1 e2))

delete_told : (ts : Tokens) → IsEnded ts → Told (DELETE · FINISH) ts (delete ts)
delete_told ts e =
    step (name_from ts e) (joined_example name_example (optional_example ROW)) tt (λ table e1.
    step (name_from table.1 e1) (optional_example ROW) tt (λ by e2.
    last_step (sought_from by.1 e2) (finish_sign 40) (λ vs e3. end_told _ vs.1 e3)))

select_told : (ts : Tokens) → IsEnded ts → Told (SELECT · FINISH) ts (select ts)
select_told ts e =
    step (name_from ts e) (joined_example name_example (optional_example ROW)) tt (λ table e1.
    step (name_from table.1 e1) (optional_example ROW) tt (λ by e2.
    last_step (sought_from by.1 e2) (finish_sign 40) (λ vs e3. end_told _ vs.1 e3)))

abbrev SET : Language
SET = word (codes "set") · list SETTING

set_example : Example SET
set_example = joined_example (word_example (codes "set")) (sequence_example comma setting_example)

sign_no_word : (k : List ℕ) (a : ℕ) (t : Token) → IsWord k t → ¬ (IsSign a t)
sign_no_word k a (Word found) x y = y
sign_no_word k a t x y = x

set_avoids : Avoids (IsSign 40) (SET · FINISH)
set_avoids = avoids_heads (heads_joined FINISH (heads_joined (list SETTING) (heads_one (IsWord (codes "set"))))) (sign_no_word (codes "set") 40)

update_told : (ts : Tokens) → IsEnded ts → Told (UPDATE · FINISH) ts (update ts)
update_told ts e =
    step (name_from ts e) (joined_example name_example (joined_example (optional_example ROW) set_example)) tt (λ table e1.
    step (name_from table.1 e1) (joined_example (optional_example ROW) set_example) tt (λ by e2.
    step (sought_from by.1 e2) set_example set_avoids (λ vs e3.
    step (keyword_from (codes "set") vs.1 e3) (sequence_example comma setting_example) tt (λ rest e4.
    last_step (items_from (list_join SETTING) setting setting_from rest e4) (finish_sign 44) (λ settings e5. end_told _ settings.1 e5)))))

drop_told : (ts : Tokens) → IsEnded ts → Told (NAME · FINISH) ts (drop ts)
drop_told ts e = last_step (name_from ts e) tt (λ table e1. end_told _ table.1 e1)

flush_told : (ts : Tokens) → IsEnded ts → Told (NAME · FINISH) ts (flush ts)
flush_told ts e = last_step (name_from ts e) tt (λ table e1. end_told _ table.1 e1)

-- ---- all of them, by their first words

abbrev FROM_CHECKPOINT : Language
FROM_CHECKPOINT = word (codes "checkpoint") · FINISH

abbrev FROM_FLUSH : Language
FROM_FLUSH = Either (word (codes "flush") · (NAME · FINISH)) FROM_CHECKPOINT

abbrev FROM_DROP : Language
FROM_DROP = Either (word (codes "drop") · (NAME · FINISH)) FROM_FLUSH

abbrev FROM_SELECT : Language
FROM_SELECT = Either (word (codes "select") · (SELECT · FINISH)) FROM_DROP

abbrev FROM_UPDATE : Language
FROM_UPDATE = Either (word (codes "update") · (UPDATE · FINISH)) FROM_SELECT

abbrev FROM_DELETE : Language
FROM_DELETE = Either (word (codes "delete") · (DELETE · FINISH)) FROM_UPDATE

abbrev FROM_INSERT : Language
FROM_INSERT = Either (word (codes "insert") · (INSERT · FINISH)) FROM_DELETE

abbrev FROM_CREATE : Language
FROM_CREATE = Either (word (codes "create") · (CREATE · FINISH)) FROM_INSERT

-- one more statement in front of others
more_same : {R R' : Language} (k : List ℕ) (P : Language) → Same (R · FINISH) R' → Same ((word k · P ∪ R) · FINISH) (Either (word k · (P · FINISH)) R')
more_same {R = R} k P same = both (either_joined (word k · P) R FINISH) (either_same (joined_assoc (word k) P FINISH) same)

pub statement_same : Same (IsStatement · FINISH) FROM_CREATE
statement_same =
    more_same (codes "create") CREATE
    (more_same (codes "insert") INSERT
    (more_same (codes "delete") DELETE
    (more_same (codes "update") UPDATE
    (more_same (codes "select") SELECT
    (more_same (codes "drop") NAME
    (more_same (codes "flush") NAME (same_self FROM_CHECKPOINT)))))))

abbrev words_checkpoint : List (List ℕ)
words_checkpoint = codes "checkpoint" ∷ []

abbrev words_flush : List (List ℕ)
words_flush = codes "flush" ∷ words_checkpoint

abbrev words_drop : List (List ℕ)
words_drop = codes "drop" ∷ words_flush

abbrev words_select : List (List ℕ)
words_select = codes "select" ∷ words_drop

abbrev words_update : List (List ℕ)
words_update = codes "update" ∷ words_select

abbrev words_delete : List (List ℕ)
words_delete = codes "delete" ∷ words_update

abbrev words_insert : List (List ℕ)
words_insert = codes "insert" ∷ words_delete

abbrev words_create : List (List ℕ)
words_create = codes "create" ∷ words_insert

heads_checkpoint : Heads (IsOneOf words_checkpoint) FROM_CHECKPOINT
heads_checkpoint = heads_word (codes "checkpoint") FINISH

heads_flush : Heads (IsOneOf words_flush) FROM_FLUSH
heads_flush = heads_words words_checkpoint heads_checkpoint

heads_drop : Heads (IsOneOf words_drop) FROM_DROP
heads_drop = heads_words words_flush heads_flush

heads_select : Heads (IsOneOf words_select) FROM_SELECT
heads_select = heads_words words_drop heads_drop

heads_update : Heads (IsOneOf words_update) FROM_UPDATE
heads_update = heads_words words_select heads_select

heads_delete : Heads (IsOneOf words_delete) FROM_DELETE
heads_delete = heads_words words_update heads_update

heads_insert : Heads (IsOneOf words_insert) FROM_INSERT
heads_insert = heads_words words_delete heads_delete

heads_create : Heads (IsOneOf words_create) FROM_CREATE
heads_create = heads_words words_insert heads_insert

flush_example : Example FROM_CREATE
flush_example =
    let flushed : Example (word (codes "flush") · (NAME · FINISH)) = joined_example (word_example (codes "flush")) (joined_example name_example finish_example) in
    record { tokens = flushed.tokens; holds = right (right (right (right (right (right (left flushed.holds)))))) }

by_words : (at : ℕ) (found : List ℕ) (ts : Tokens) → IsEnded ts → Told FROM_CREATE ((at, Word found) ∷ ts) (statement ((at, Word found) ∷ ts))
by_words at found ts e =
    choose words_insert (same_name found (codes "create")) refl heads_insert refl (create_told ts e)
    (choose words_delete (same_name found (codes "insert")) refl heads_delete refl (insert_told ts e)
    (choose words_update (same_name found (codes "delete")) refl heads_update refl (delete_told ts e)
    (choose words_select (same_name found (codes "update")) refl heads_select refl (update_told ts e)
    (choose words_drop (same_name found (codes "select")) refl heads_drop refl (select_told ts e)
    (choose words_flush (same_name found (codes "drop")) refl heads_flush refl (drop_told ts e)
    (choose words_checkpoint (same_name found (codes "flush")) refl heads_checkpoint refl (flush_told ts e)
    (choose_last (same_name found (codes "checkpoint")) refl finish_example (end_told Checkpoint ts e))))))))

no_word : (at : ℕ) (t : Token) (ts : Tokens) → ¬ (IsOneOf words_create t) → Told {A = Statement} FROM_CREATE ((at, t) ∷ ts) (Err (BadStatement at))
no_word at t ts not = bad_first flush_example (λ w h. not (heads_create.heads (t ∷ w) h))

by_first_token : (ts : Tokens) → IsEnded ts → Told FROM_CREATE ts (statement ts)
by_first_token [] e = absurd e
by_first_token ((at, Word found) ∷ ts) e = by_words at found ts e
by_first_token ((at, t) ∷ ts) e = no_word at t ts (λ h. h)

-- Statements are read as their language tells.
pub statement_told : (ts : Tokens) → IsEnded ts → Told (IsStatement · FINISH) ts (statement ts)
statement_told ts e = same_told (back statement_same) (by_first_token ts e)
